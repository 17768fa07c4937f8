-- A walk over lengths, which says of all before its place whether each fits. Assumes nothing.
use mathlib.Core.Path.{◌≡◌, refl, ap, ◌∙◌}
use mathlib.Core.Bool.{Bool, ◌&&◌, and_assoc}
use mathlib.Core.List.{List}
use Prim.Native.Nat.{ℕ, ◌+◌, ◌≤◌, ◌<◌}
use lib.Dec.{leb}
use lib.ListN.{length, drop, get_or}
use Rattle.bsmp.specs.Base.{every, within}
use Rattle.records.proofs.Walk.{all_next, all_end}

-- b of those before i, and the rest
abbrev pub Fitting : List ℕ → ℕ → Bool → ℕ → Type 0
Fitting ns size b i = (b && every (within 1 size) (drop i ns)) ≡ every (within 1 size) ns

module _ (ns : List ℕ) (size : ℕ) (b : Bool) (i : ℕ) (q : Fitting ns size b i) where
  pub fitting_next : i < length ns → Fitting ns size ((b && leb 1 (get_or ns i 0)) && leb (get_or ns i 0) size) (i + 1)
  fitting_next h =
      let x : ℕ = get_or ns i 0 in
      ap (◌&& every (within 1 size) (drop (i + 1) ns)) (and_assoc b (leb 1 x) (leb x size)) ∙ all_next ns (length ns) i x 0 refl h refl (within 1 size) b _ _ refl q

  pub fitting_end : length ns ≤ i → b ≡ every (within 1 size) ns
  fitting_end h = all_end ns (length ns) i refl h (within 1 size) b _ q
