-- The list of groups, byte after byte as the walk writes it. Assumes nothing.
use mathlib.Core.Path.{◌≡◌, sym, ap, ◌∙◌}
use mathlib.Core.List.{List}
use Prim.Native.Nat.{ℕ, ◌+◌, ◌≤◌, ◌<◌}
use native.Mathlib.Omega.{arith}
use lib.ListN.{length, set, length-map}
use Rattle.bsmp.specs.Base.{up_from}
use Rattle.bsmp.specs.Board.{Layout, group, members, writable_group, group_count}
use Rattle.bsmp.specs.Message.{listed, group_list}
use Rattle.bsmp.proofs.Lists.{length_up_from}
use Rattle.bsmp.proofs.Marks.{at_number}
use Rattle.parts.proofs.Listing.{Listing, listing_start, listing_byte}

module _ (l : Layout) (gs : List ℕ) (r₀ : List ℕ) (at : ℕ) where
  abbrev byte : ℕ → ℕ
  byte g = listed (writable_group l gs (group g)) (length (members l gs (group g)))

  pub list_start : length gs ≤ 5 → Listing (group_list l gs) (group_count gs) r₀ at 0 r₀
  unfolding group_list
  list_start h = listing_start _ _ r₀ at (length-map (up_from 0 (group_count gs)) byte ∙ length_up_from 0 (group_count gs)) (omega arith)

  pub list_next : (n g x : ℕ) (r : List ℕ) → n ≡ group_count gs → g < n → at + 4099 ≤ length r₀
      → x ≡ listed (writable_group l gs (group g)) (length (members l gs (group g)))
      → Listing (group_list l gs) (group_count gs) r₀ at g r → Listing (group_list l gs) (group_count gs) r₀ at (g + 1) (set r (at + g) x)
  unfolding group_list
  list_next n g x r c h o e q =
      let z : 0 + g ≡ g = omega arith in
      listing_byte _ _ r₀ at g r q x o (omega arith) (e ∙ sym (at_number byte 0 (group_count gs) g 0 (omega arith) ∙ ap byte z))
