-- Uniqueness: any two results that the promise of a change allows are equal, what is left of what was lent and what becomes of the made
-- groups. Assumes nothing.
use mathlib.Core.Path.{◌≡◌, refl, sym, ap, ◌∙◌}
use mathlib.Core.List.{List, [], ◌∷◌, ◌++◌}
use Prim.Native.Nat.{ℕ, ◌+◌, ◌<◌}
use native.Mathlib.Omega.{arith}
use lib.ListN.{length, get_or, length-append}
use lib.Seq.{get_or-append-add}
use Rattle.bsmp.specs.Board.{Layout, State, block_sizes, sum_sizes}
use Rattle.bsmp.specs.Store.{Lent}
use Rattle.bsmp.proofs.Store.{cut_unique}
use Rattle.changes.specs.Changes.{regrouped, LeftAs}
use Rattle.changes.specs.declared.Regroup.{Regroup}
use Rattle.changes.specs.declared.Regroup.TheVariants.{Keep, Make, Remove}

-- one more group is one more
longer : (gs : List ℕ) (m : ℕ) → length (gs ++ m ∷ []) ≡ length gs + 1
longer gs m = simp length-append

last : (gs : List ℕ) (m : ℕ) → get_or (gs ++ m ∷ []) (length gs + 0) 0 ≡ m
last gs m = get_or-append-add gs (m ∷ []) 0 0

module _ (gs : List ℕ) where
  abbrev Some : Regroup → Type 0
  Some r = r ≡ Remove → 0 < length gs

  regroup_unique : (r r' : Regroup) → Some r → Some r' → regrouped r gs ≡ regrouped r' gs → r ≡ r'
  regroup_unique Keep Keep a b e = refl
  regroup_unique Keep (Make m) a b e = absurd (omega (arith, ap length e, longer gs m))
  regroup_unique Keep Remove a b e = absurd (omega (arith, ap length e, b refl))
  regroup_unique (Make m) Keep a b e = absurd (omega (arith, ap length e, longer gs m))
  regroup_unique (Make m) (Make n) a b e = ap Make (sym (last gs m) ∙ ap (λ xs. get_or xs (length gs + 0) 0) e ∙ last gs n)
  regroup_unique (Make m) Remove a b e = absurd (omega (arith, ap length e, longer gs m))
  regroup_unique Remove Keep a b e = absurd (omega (arith, ap length e, a refl))
  regroup_unique Remove (Make m) a b e = absurd (omega (arith, ap length e, longer gs m))
  regroup_unique Remove Remove a b e = refl

-- s is what the definition gives, gs are the made groups that were lent
pub left_unique : (l : Layout) (s : State) (gs : List ℕ) (r r' : Regroup) (y y' : Lent) → y.groups ≡ gs → y'.groups ≡ gs
    → LeftAs l s r y → LeftAs l s r' y' → (r ≡ r') × (y ≡ y')
left_unique l s gs r r' y y' g g' h k =
    let e : regrouped r gs ≡ regrouped r' gs =
    ap (regrouped r) (sym g) ∙ ap (λ (x : State). x.groups) (h.holds ∙ sym k.holds) ∙ ap (regrouped r') g' in
    let vs : y.values ≡ y'.values = cut_unique l.sizes s.values y.values y'.values (ap (λ (x : State). x.values) h.holds) (ap (λ (x : State). x.values) k.holds) in
    let bs : y.blocks ≡ y'.blocks =
    cut_unique (block_sizes l.curves) s.blocks y.blocks y'.blocks (ap (λ (x : State). x.blocks) h.holds) (ap (λ (x : State). x.blocks) k.holds) in
    let ds : y.sums ≡ y'.sums =
    cut_unique (sum_sizes l.curves) s.sums y.sums y'.sums (ap (λ (x : State). x.sums) h.holds) (ap (λ (x : State). x.sums) k.holds) in (
      regroup_unique gs r r' (λ q. rw (← g) (h.some_removed q)) (λ q. rw (← g') (k.some_removed q)) e,
      λ i. record { values = vs i; blocks = bs i; lengths = (ap (λ (x : State). x.lengths) (h.holds ∙ sym k.holds)) i; sums = ds i; groups = (g ∙ sym g') i },
    )
