-- Bytes as an unsigned number and back: turns of the two loops, and how large the number is. Assumes nothing.
use mathlib.Core.Path.{◌≡◌, refl, sym, ap, ◌∙◌}
use mathlib.Core.Bool.{Bool, true, false}
use mathlib.Core.List.{List, [], ◌∷◌}
use Prim.Native.Nat.{ℕ, suc, ◌+◌, ◌-◌, ◌*◌, ◌/◌, ◌%◌, ◌^◌, ◌≤◌, ◌<◌}
use native.Mathlib.Nat.{le_trans, mul-suc, sub-zero}
use native.Mathlib.Omega.{arith}
use borrow.Author.Tests.{ltb-true, ltb-false}
use lib.Dec.{ltb, lit<}
use lib.Pow.{pow-add, pow_mono}
use lib.ListN.{length, drop, get_or, set, length-drop, get_or-eq_default}
use lib.Seq.{get_or-drop, drop-length}
use mir.Syntax.{w8, w64}
use mir.Val.{Fits}
use Rattle.bsmp.specs.Number.{little, little_bytes, turned}
use Rattle.bsmp.proofs.Number.{turned_turned, length_turned, length_little}
use Rattle.copies.specs.Put.{put}
use Rattle.copies.proofs.Put.{drop_one, put_nil, put_set, put_all}
use Rattle.numbers.specs.Size.{place_of}
use Rattle.numbers.proofs.Order.{turned_read, turned_write}

-- reading ----------------------------------------------------------------------------------------------------------------
pub read_none : (big : Bool) (l : List ℕ) → 0 ≡ little (drop (length l) (turned big l))
unfolding little
read_none big l = rw (← length_turned big l, drop-length)

pub read_turn : (big : Bool) (l : List ℕ) (i at u : ℕ) → 0 < i → i ≤ length l → at ≡ place_of big (length l) (i - 1) → u ≡ little (drop i (turned big l))
    → u * 256 + get_or l at 0 ≡ little (drop (i - 1) (turned big l))
unfolding little
read_turn big l i at u h k e f =
    let m : i - 1 < length (turned big l) = rw (length_turned big l) (omega arith) in
    let b : get_or l at 0 ≡ get_or (turned big l) (i - 1) 0 = ap (λ (x : ℕ). get_or l x 0) e ∙ sym (turned_read big l (i - 1) (omega arith)) in
    let n : i - 1 + 1 ≡ i = omega arith in
    rw (drop_one (turned big l) (i - 1), n, ← f, b) (omega arith)

-- n bytes make less than 2 ^ (8 n)
abbrev pub Bytes : List ℕ → Type 0
Bytes l = (i : ℕ) → Fits w8 (get_or l i 0)

pub little_below : (l : List ℕ) → Bytes l → little l < 2 ^ (8 * length l)
unfolding little
little_below [] f = lit< tt
little_below (b ∷ bs) f =
    let e : 2 ^ (8 * suc (length bs)) ≡ 2 ^ (8 * length bs) * 256 = ap (2 ^◌) (mul-suc 8 (length bs)) ∙ pow-add 2 (8 * length bs) 8 in
    omega (arith, little_below bs (λ i. f (suc i)), f 0)

bytes_turned : (big : Bool) (l : List ℕ) → Bytes l → Bytes (turned big l)
bytes_turned big l f i = by (ltb i (length l)) refl
  where
    by : (t : Bool) → ltb i (length l) ≡ t → Fits w8 (get_or (turned big l) i 0)
    by true e = rw (turned_read big l i (ltb-true _ _ e)) (f (place_of big (length l) i))
    by false e =
        let k : length (turned big l) ≤ i = rw (length_turned big l) (ltb-false _ _ e) in
        rw (get_or-eq_default (turned big l) 0 k) (record { fits = lit< tt })

pub read_below : (big : Bool) (l : List ℕ) (i : ℕ) → Bytes l → little (drop i (turned big l)) < 2 ^ (8 * (length l - i))
read_below big l i f =
    let e : length (drop i (turned big l)) ≡ length l - i = length-drop i (turned big l) ∙ ap (◌- i) (length_turned big l) in
    rw (← e) (little_below (drop i (turned big l)) (λ k. rw (get_or-drop i (turned big l) k 0) (bytes_turned big l f (i + k))))

pub read_size : (big : Bool) (l : List ℕ) (u : ℕ) → Bytes l → u ≡ little (turned big l) → u < 2 ^ (8 * length l)
read_size big l u f e =
    let b : little (turned big l) < 2 ^ (8 * length (turned big l)) = little_below (turned big l) (bytes_turned big l f) in
    rw e (rw (length_turned big l) at b)

module _ (big : Bool) (l : List ℕ) (i at u : ℕ) (f : Bytes l) (n : length l ≤ 8) (h : 0 < i) (k : i ≤ length l) (e : at ≡ place_of big (length l) (i - 1)) (g : u ≡ little (drop i (turned big l))) where
  pub read_fits : Fits w64 (u * 256 + get_or l at 0)
  read_fits =
      let b : 8 * (length l - (i - 1)) ≤ 64 = omega arith in
      rw (read_turn big l i at u h k e g) (record { fits = le_trans (read_below big l (i - 1) f) (pow_mono b) })

  pub read_room : Fits w64 (u * 256)
  read_room = omega (arith, read_fits)

-- writing ----------------------------------------------------------------------------------------------------------------
-- the definition's law by the name that the pages have
pub length_bytes_lem : (n u : ℕ) → length (little_bytes n u) ≡ n
length_bytes_lem n u = length_little n u

pub write_start : (big : Bool) (d : List ℕ) (u : ℕ) → put (turned big d) 0 (little_bytes (length d - 0) u) ≡ little_bytes (length d) u
write_start big d u = rw (sub-zero) (put_all (turned big d) (little_bytes (length d) u) (length_bytes_lem (length d) u ∙ sym (length_turned big d)))

module _ (big : Bool) (d : List ℕ) (n i u : ℕ) (x : List ℕ) (e : n ≡ length d) (r : put (turned big d) i (little_bytes (n - i) u) ≡ x) where
  pub write_turn : (at : ℕ) → i < length d → at ≡ place_of big (length d) i → put (turned big (set d at (u % 256))) (i + 1) (little_bytes (n - (i + 1)) (u / 256)) ≡ x
  unfolding little_bytes
  write_turn at h f =
      let m : i < length (turned big d) = rw (length_turned big d) h in
      let k : n - i ≡ suc (n - (i + 1)) = omega arith in
      let s : turned big (set d at (u % 256)) ≡ set (turned big d) i (u % 256) =
      ap (λ (y : ℕ). turned big (set d y (u % 256))) f ∙ turned_write big d i (u % 256) h in
      rw s (put_set (turned big d) i (u % 256) _ m ∙ rw k at r)

  pub write_end : length d ≤ i → d ≡ turned big x
  unfolding little_bytes
  write_end h =
      let z : n - i ≡ 0 = omega arith in
      sym (turned_turned big d) ∙ ap (turned big) (sym (put_nil (turned big d) i) ∙ rw z at r)
