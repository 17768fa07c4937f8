-- Sets of variables as marks: their members, their bytes, and the set of a group. Assumes nothing.
use Rattle.std.specs.Prelude.{cond, List, map, ℕ, ◌-◌, ◌^◌, eqb, length, get_or}
use Rattle.bsmp.specs.Base.{sum, up_from, only}
use Rattle.bsmp.specs.Board.{variable, marked}
use Rattle.bsmp.specs.declared.VariableNumber.{VariableNumber}
use Rattle.bsmp.specs.declared.GroupNumber.{GroupNumber}

-- the marked variables, ascending, of n variables
unfoldable pub members_below : (set n : ℕ) → List VariableNumber
members_below m n = only (marked m) (map variable (up_from 0 n))

-- the same, of as many variables as there are sizes
abbrev pub members_of : (set : ℕ) → (sizes : List ℕ) → List VariableNumber
members_of m ns = members_below m (length ns)

abbrev pub size_at : (sizes : List ℕ) → VariableNumber → ℕ
size_at ns i = get_or ns i.0 0

-- the bytes of all members
unfoldable pub set_bytes : (set : ℕ) → (sizes : List ℕ) → ℕ
set_bytes m ns = sum (map (size_at ns) (members_of m ns))

-- the set of a group: all, those not writable, those writable, or as it was made; marks past the last variable count for nothing
unfoldable pub group_set : (writable : ℕ) → (groups : List ℕ) → GroupNumber → ℕ
group_set w gs g =
    cond (eqb g.0 0) (2 ^ 64 - 1)
    (cond (eqb g.0 1) (2 ^ 64 - 1 - w)
    (cond (eqb g.0 2) w
    (get_or gs (g.0 - 3) 0)))
