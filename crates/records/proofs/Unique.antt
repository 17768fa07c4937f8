-- Of a group table: what the promises of `create` and `remove` come to, and that each allows one result only. Assumes nothing.
use mathlib.Core.Path.{◌≡◌, sym, ap, ◌∙◌}
use mathlib.Core.List.{List, [], ◌∷◌, ◌++◌}
use Prim.Native.Nat.{ℕ, ◌<◌}
use native.Mathlib.Omega.{arith}
use native.Mathlib.Numerals.{add-one}
use lib.ListN.{length, take, set, length-set}
use lib.Seq.{take-suc-set}
use Rattle.records.specs.Lending.{groups_of, with_group, without_groups}
use Rattle.records.specs.declared.Groups.{Groups}
use Rattle.records.proofs.Lending.{groups_lent}

-- with the new group in its place there is one more, behind the others
pub create_adds : (g g' : Groups) (m : ℕ) → g.count < length g.sets → g' ≡ with_group g m → groups_of g' ≡ groups_of g ++ m ∷ []
create_adds g g' m h q =
    ap groups_of q
    ∙ groups_lent (with_group g m) (simp length-set (omega arith))
    ∙ ap (λ (k : ℕ). take k (set g.sets g.count m)) (add-one g.count)
    ∙ take-suc-set g.sets g.count m h
    ∙ ap (λ (l : List ℕ). l ++ m ∷ []) (sym (groups_lent g (omega arith)))

-- with the count there is none
pub remove_clears : (g g' : Groups) → g' ≡ without_groups g → groups_of g' ≡ []
unfolding groups_of
remove_clears g g' q = ap groups_of q

pub create_unique : (g : Groups) (m : ℕ) (a b : Groups) → a ≡ with_group g m → b ≡ with_group g m → a ≡ b
create_unique g m a b h k = h ∙ sym k

pub remove_unique : (g a b : Groups) → a ≡ without_groups g → b ≡ without_groups g → a ≡ b
remove_unique g a b h k = h ∙ sym k
