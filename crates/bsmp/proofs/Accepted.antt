-- A message is accepted exactly if no test is broken: its form's, its command's, and the two last, which all commands share. So it touches
-- no busy variable. Assumes nothing.
use mathlib.Core.Path.{◌≡◌, sym, ap, ◌∙◌}
use mathlib.Core.Logic.{◌↔◌, ⊎_elim}
use mathlib.Core.Bool.{Bool, true, false, ◌||◌, false≢true}
use mathlib.Core.List.{List, [], ◌∷◌}
use Prim.Native.Nat.{ℕ}
use native.Mathlib.Omega.{arith}
use lib.ListN.{drop}
use Rattle.bsmp.specs.Base.{some, Test, byte_at}
use Rattle.bsmp.specs.Codes.{command_of, Check, Pass, Fail}
use Rattle.bsmp.specs.Board.{Layout, is_same, marked}
use Rattle.bsmp.specs.Message.{Line, written, told, touched, last_tests, tests_of, form_tests, check, judge, asked}
use Rattle.bsmp.specs.declared.VariableNumber.{VariableNumber}
use Rattle.bsmp.specs.declared.WireError.{WireError}
use Rattle.bsmp.proofs.Bools.{or_false, or_true}
use Rattle.bsmp.proofs.Lists.{some_append}
use Rattle.bsmp.proofs.Chain.{clear, first_case, first_clear}
use Rattle.bsmp.proofs.Apart.{same_number}

pub fail_no : (e : WireError) → Fail e ≡ Pass → ⊥
fail_no e h = let z : ◌≡◌ {A = ℕ} 0 1 = cc in omega arith

-- what holds of none of these variables does not hold of one of them
none_of : (f : VariableNumber → Bool) (is : List VariableNumber) (v : VariableNumber) → some f is ≡ false → some (is_same v) is ≡ true → f v ≡ false
none_of f [] v h k = absurd (false≢true k)
none_of f (i ∷ is) v h k =
    let o : (f i ≡ false) × (some f is ≡ false) = or_false _ _ h in
    ⊎_elim (λ e. ap f (same_number i v e) ∙ o.0) (λ e. none_of f is v o.1 e) (or_true (is_same v i) _ k)

module _ (l : Layout) (gs : List ℕ) (busy : ℕ) (m : List ℕ) where
  abbrev row : Line
  row = asked l gs m

  -- what holds of each error, and of a pass where none of the tests is broken, holds of the judgement
  pub judge_case : (P : Check → Type 0) → ((e : WireError) → P (Fail e)) → (clear (form_tests m) → clear (tests_of (asked l gs m) busy) → P Pass) → P (judge l gs busy m)
  unfolding judge check
  judge_case P f g =
      first_case P (form_tests m) Fail (check l gs busy (drop 3 m) (command_of (byte_at m 0))) f
      (λ c. first_case P (tests_of row busy) Fail Pass f (g c))

  pub record Accepted : Type 0 where
    pub formed : clear (form_tests m)
    pub tested : clear (asked l gs m).tests
    pub free : some (marked busy) (touched (asked l gs m)) ≡ false
    pub not_full : (asked l gs m).full ≡ false

  clear_parts : clear (form_tests m) → clear (tests_of row busy) → Accepted
  clear_parts c d =
      let o : clear row.tests × clear (last_tests (some (marked busy) (touched row)) row.full) =
      or_false _ _ (sym (some_append (λ (u : Test WireError). u.broken) row.tests _) ∙ d) in
      let b : (some (marked busy) (touched row) ≡ false) × ((row.full || false) ≡ false) = or_false _ _ o.1 in
      record { formed = c; tested = o.0; free = b.0; not_full = (or_false row.full false b.1).0 }

  pub accepted : (judge l gs busy m ≡ Pass) ↔ Accepted
  unfolding judge check
  accepted = (there, back)
    where
      there : judge l gs busy m ≡ Pass → Accepted
      there = judge_case (λ v. v ≡ Pass → Accepted) (λ e h. absurd (fail_no e h)) (λ c d h. clear_parts c d)

      back : Accepted → judge l gs busy m ≡ Pass
      back r =
          first_clear (form_tests m) Fail _ r.formed
          ∙ first_clear (tests_of row busy) Fail Pass (some_append (λ (u : Test WireError). u.broken) row.tests _ ∙ rw (r.tested, r.free, r.not_full))

  module _ (h : judge l gs busy m ≡ Pass) (v : VariableNumber) where
    none_touched : (some (marked busy) (told row.answer) ≡ false) × (some (marked busy) (written row.change) ≡ false)
    none_touched = or_false _ _ (sym (some_append (marked busy) (told row.answer) _) ∙ (accepted.0 h).free)

    -- what its answer tells is not busy, and what it writes neither
    pub told_free : some (is_same v) (told (asked l gs m).answer) ≡ true → marked busy v ≡ false
    told_free k = none_of (marked busy) (told row.answer) v none_touched.0 k

    pub written_free : some (is_same v) (written (asked l gs m).change) ≡ true → marked busy v ≡ false
    written_free k = none_of (marked busy) (written row.change) v none_touched.1 k
