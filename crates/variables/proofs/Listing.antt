-- The list of variables, byte after byte as the walk writes it. Assumes nothing.
use mathlib.Core.Path.{◌≡◌, sym, ap, ◌∙◌}
use mathlib.Core.Bool.{Bool, true}
use mathlib.Core.List.{List, [], ◌∷◌}
use Prim.Native.Nat.{ℕ, zero, suc, ◌+◌, ◌≤◌, ◌<◌}
use native.Mathlib.Omega.{arith}
use lib.Dec.{leb}
use lib.ListN.{length, get_or, set, length-map}
use borrow.Author.Tests.{leb-true}
use Rattle.bsmp.specs.Base.{up_from, every}
use Rattle.bsmp.specs.Board.{variable, marked, usable_size}
use Rattle.bsmp.specs.Message.{listed, variable_list}
use Rattle.bsmp.proofs.Bools.{and_true}
use Rattle.bsmp.proofs.Lists.{length_up_from}
use Rattle.bsmp.proofs.Marks.{at_number}
use Rattle.parts.specs.Parts.{variables_only, PayloadAt}
use Rattle.parts.proofs.Listing.{Listing, listing_start, listing_byte, listing_end}

-- every size of a usable board fits seven bits
pub size_small : (ns : List ℕ) (i : ℕ) → every usable_size ns ≡ true → i < length ns → get_or ns i 0 ≤ 127
size_small [] i u h = absurd (omega (arith, h))
size_small (n ∷ ns) zero u h = leb-true _ _ (and_true (leb 1 n) _ (and_true (usable_size n) _ u).0).1
size_small (n ∷ ns) (suc i) u h = size_small ns i (and_true (usable_size n) _ u).1 (omega (arith, h))

module _ (ns : List ℕ) (w : ℕ) where
  abbrev byte_of : ℕ → ℕ
  byte_of i = listed (marked w (variable i)) (get_or ns i 0)

  length_list : length (variable_list (variables_only ns w)) ≡ length ns
  unfolding variable_list
  length_list = length-map (up_from 0 (length ns)) byte_of ∙ length_up_from 0 (length ns)

  module _ (r₀ : List ℕ) (at : ℕ) where
    pub list_start : length ns ≤ 64 → Listing (variable_list (variables_only ns w)) (length ns) r₀ at 0 r₀
    list_start h = listing_start _ _ r₀ at length_list (omega arith)

    module _ (i : ℕ) (r : List ℕ) (q : Listing (variable_list (variables_only ns w)) (length ns) r₀ at i r) where
      pub list_next : (m : Bool) (b : ℕ) → i < length ns → at + 4099 ≤ length r₀ → m ≡ marked w (variable i) → b ≡ listed m (get_or ns i 0)
          → Listing (variable_list (variables_only ns w)) (length ns) r₀ at (i + 1) (set r (at + i) b)
      unfolding variable_list
      list_next m b h o e k =
          let z : 0 + i ≡ i = omega arith in
          listing_byte _ _ r₀ at i r q b o h
          (k ∙ ap (λ (x : Bool). listed x (get_or ns i 0)) e ∙ sym (at_number byte_of 0 (length ns) i 0 h ∙ ap byte_of z))

      pub list_end : length ns ≤ i → PayloadAt r₀ at (variable_list (variables_only ns w)) (length ns) r
      list_end h = listing_end _ _ r₀ at i r q (length ns) (omega arith) (omega arith)
