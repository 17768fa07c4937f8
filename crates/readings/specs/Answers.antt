-- What the code of the readings answers, against the definition's readings. Assumes nothing.
use Rattle.std.specs.Prelude.{Bool, List, ℕ, ℤ, Result, Ok, Err}
use Rattle.bsmp.specs.Base.{first}
use Rattle.bsmp.specs.Number.{is_big, kind_at, reading_tests, Reading, is, Written, bytes}
use Rattle.bsmp.specs.declared.VariableNumber.{VariableNumber}
use Rattle.bsmp.specs.declared.Variable.{Variable}
use Rattle.bsmp.specs.declared.Refusal.{Refusal}

-- the tests that all readings have, or the order of the variable's bytes
unfoldable pub judged_of : List Variable → VariableNumber → (signed : Bool) → (bytes : ℕ) → Result Bool Refusal
judged_of vs i signed n = first (reading_tests vs i signed n) Err (Ok (is_big (kind_at vs i)))

-- bytes to number: what an answer says, where its number means an integer
abbrev pub reading_of : {A : Type 0} → (meaning : A → ℤ) → Result A Refusal → Reading
reading_of meaning (Ok n) = is (meaning n)
reading_of meaning (Err e) = Reading.refused e

-- number to bytes: the answer, and what then stands in the buffer
pub record WritingLeft : Type 0 where
  pub answer : Result (Unit {0}) Refusal
  pub buffer : List ℕ

abbrev pub writing_left : Result (Unit {0}) Refusal → List ℕ → WritingLeft
writing_left r b = record { answer = r; buffer = b }

-- all of the buffer is the number's bytes; a refusal changes no byte of it
abbrev pub writing_left_of : Written → (buffer : List ℕ) → WritingLeft
writing_left_of (bytes b) _ = writing_left (Ok tt) b
writing_left_of (Written.refused e) b = writing_left (Err e) b
