-- An answer that is written piece by piece: what is left of it, put where the walk stands, gives the whole. Assumes nothing.
use mathlib.Core.Path.{◌≡◌, refl, sym, ap, ap₂, ◌∙◌}
use mathlib.Core.List.{List, [], ◌∷◌, ◌++◌}
use Prim.Native.Nat.{ℕ, ◌+◌, ◌≤◌, ◌<◌}
use native.Mathlib.Nat.{add-zero}
use native.Mathlib.Omega.{arith}
use lib.ListN.{length, drop, set, get_or}
use Rattle.copies.specs.Put.{put}
use Rattle.copies.proofs.Put.{put_put, put_done, set_put, length_put, drop_one}
use Rattle.parts.specs.Parts.{PayloadAt}

-- the answer v, of n bytes, goes into r₀ from `at` on
module _ (v : List ℕ) (n : ℕ) (r₀ : List ℕ) (at : ℕ) where
  -- j bytes of it stand in r
  pub record Listing (j : ℕ) (r : List ℕ) : Type 0 where
    pub whole : length v ≡ n
    pub short : n ≤ 4099
    pub inside : j ≤ n
    pub kept : length r ≡ length r₀
    pub done : put r (at + j) (drop j v) ≡ put r₀ at v

  pub listing_start : length v ≡ n → n ≤ 4099 → Listing 0 r₀
  listing_start e h = record { whole = e; short = h; inside = omega arith; kept = refl; done = ap (λ (k : ℕ). put r₀ k v) (add-zero at) }

  module _ (j : ℕ) (r : List ℕ) (q : Listing j r) where
    -- one more piece, and one more byte
    pub listing_piece : (x r' : List ℕ) → at + 4099 ≤ length r₀ → j + length x ≤ n → drop j v ≡ x ++ drop (j + length x) v → r' ≡ put r (at + j) x
        → Listing (j + length x) r'
    listing_piece x r' o h e w =
        let k : at + j + length x ≤ length r = omega (arith, q.kept, q.short) in
        let a : at + (j + length x) ≡ at + j + length x = omega arith in
        record {
          whole = q.whole;
          short = q.short;
          inside = h;
          kept = ap length w ∙ length_put r (at + j) x k ∙ q.kept;
          done = ap₂ (λ (y : List ℕ) (i : ℕ). put y i (drop (j + length x) v)) w a ∙ put_put r (at + j) x (drop (j + length x) v) k
              ∙ ap (put r (at + j)) (sym e) ∙ q.done;
        }

    pub listing_byte : (b : ℕ) → at + 4099 ≤ length r₀ → j < n → b ≡ get_or v j 0 → Listing (j + 1) (set r (at + j) b)
    listing_byte b o h e =
        let k : at + j < length r = omega (arith, q.kept, q.short) in
        let l : j < length v = omega (arith, q.whole) in
        listing_piece (b ∷ []) (set r (at + j) b) o (omega arith) (rw e (drop_one v j l)) (set_put r (at + j) b k)

    pub listing_end : (m : ℕ) → m ≡ n → m ≤ j → PayloadAt r₀ at v m r
    listing_end m e h = record {
      count = e ∙ sym q.whole;
      written = sym (put_done r (at + j) v j (omega (arith, q.whole))) ∙ q.done;
      short = omega (arith, q.short);
    }
