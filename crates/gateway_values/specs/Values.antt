-- Where a member's bytes stand in the answer to a read of its group; and what of the supplied kinds is taken. Assumes nothing.
use Rattle.std.specs.Prelude.{◌≡◌, not, ◌||◌, List, [], ◌∷◌, map, ℕ, ◌+◌, min, ◌<◌, ltb, length, get_or}
use Rattle.bsmp.specs.Base.{sum, only, Test, test, first}
use Rattle.bsmp.specs.Codes.{refusal_number}
use Rattle.bsmp.specs.Board.{variable, group, size_of, in_group, members}
use Rattle.bsmp.specs.Message.{no_variable, no_group}
use Rattle.bsmp.specs.declared.VariableNumber.{VariableNumber}
use Rattle.bsmp.specs.declared.GroupNumber.{GroupNumber}
use Rattle.bsmp.specs.declared.Refusal.{Refusal}
use Rattle.bsmp.specs.declared.Refusal.TheVariants.{BoardUnusable, NoSuchVariable}
use Rattle.asking.specs.Learned.{Learned, usable_learned}
use Rattle.gateway_values.specs.declared.PlainPlace.{PlainPlace}

abbrev pub no_place_of : Refusal → PlainPlace
no_place_of n = record { refusal = refusal_number n; place = 0; length = 0 }

-- the members before it
abbrev pub members_before : Learned → GroupNumber → VariableNumber → List VariableNumber
members_before x g i = only (λ j. ltb j.0 i.0) (members x.layout x.groups g)

-- "members' values, ascending": behind the head's four bytes and the values of the members before it
abbrev pub member_tests : Learned → GroupNumber → VariableNumber → List (Test Refusal)
member_tests x g i =
    test 9 NoSuchVariable (no_variable x.layout i || no_group x.groups g || not (in_group x.layout.writable x.groups g i)) ∷ []

unfoldable pub member_place : Learned → GroupNumber → VariableNumber → PlainPlace
member_place x g i =
    first (member_tests x g i) no_place_of
    (record { refusal = 0; place = 4 + sum (map (size_of x.layout) (members_before x g i)); length = size_of x.layout i })

unfoldable pub place_of : Learned → (group variable : ℕ) → PlainPlace
place_of x g i = first (test 1 BoardUnusable (not (usable_learned x)) ∷ []) no_place_of (member_place x (group g) (variable i))

-- as many records as there are variables with a kind, and their kinds in a column, which has 64 places
pub record Taken (variables : ℕ) (kinds : List ℕ) (count : ℕ) (column : List ℕ) : Type 0 where
  pub counted : count ≡ min variables (length kinds)
  pub kind_at : (i : ℕ) → i < 64 → i < length kinds → get_or column i 0 ≡ get_or kinds i 0
