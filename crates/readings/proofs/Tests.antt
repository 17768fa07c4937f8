-- The tests that all readings have: as the code meets them, and what their passing tells. Assumes nothing.
use mathlib.Core.Path.{◌≡◌, sym, ap, ◌∙◌}
use mathlib.Core.Bool.{Bool, true, false, not, cond, ◌&&◌, true≢false}
use mathlib.Core.List.{List, [], ◌∷◌}
use Prim.Native.Nat.{ℕ, ◌≤◌, ◌<◌}
use native.Mathlib.Omega.{arith}
use borrow.Author.Tests.{lt-ltb, le-ltb, eq-eqb, ne_eqb, ltb-true, eqb-true, not-false}
use lib.Dec.{eqb}
use Rattle.bsmp.specs.Base.{first}
use Rattle.bsmp.specs.Codes.{kind_of}
use Rattle.bsmp.specs.Board.{fits_kind, is_type, usable_size, usable_variable, variable_rules, usable_variables}
use Rattle.bsmp.specs.Number.{wrong_kind, is_big, record_of, kind_at, reading_tests}
use Rattle.bsmp.specs.declared.VariableNumber.{VariableNumber}
use Rattle.bsmp.specs.declared.Variable.{Variable}
use Rattle.bsmp.specs.declared.Kind.{Kind}
use Rattle.bsmp.specs.declared.Kind.TheVariants.{Plain, Number, Unknown}
use Rattle.bsmp.specs.declared.Refusal.{Refusal}
use Rattle.bsmp.specs.declared.Refusal.TheVariants.{BoardUnusable, NoSuchVariable, WrongByteCount, WrongKind}
use Rattle.bsmp.proofs.Bools.{and_true, all_at}
use Rattle.bsmp.proofs.Lists.{every_at}
use Rattle.bsmp.proofs.Chain.{either, clear, clear_at, first_case, first_map}
use Rattle.records.specs.Lending.{record_at, records_of}
use Rattle.rules.specs.Totals.{variables_total}
use Rattle.records.specs.declared.Records.{Records}
use Rattle.records.proofs.Lending.{record_count, record_at_lem}
use Rattle.records.proofs.Sound.{variables_most}
use Rattle.std.specs.Prelude.{Option, Result, Ok, Err}
use Rattle.std.specs.Option.{is_none}
use Rattle.rules.proofs.Totals.{none_told, some_told}
use Rattle.numbers.specs.Size.{is_size}
use Rattle.readings.specs.Answers.{judged_of}

-- the returns of `judge` --------------------------------------------------------------------------------------------------
module _ (r : Records) (i : VariableNumber) (s : Bool) (n : ℕ) (c : Option ℕ) (b : Bool) (e : c ≡ variables_total (records_of r)) (d : b ≡ is_none c) where
  pub judge_unusable : b ≡ true → Err BoardUnusable ≡ judged_of (records_of r) i s n
  unfolding judged_of first
  judge_unusable u = rw (none_told _ _ c e (sym d ∙ u))

  module _ (u : b ≡ false) where
    usable : usable_variables (records_of r) ≡ true
    usable = some_told _ _ c e (sym d ∙ u)

    pub judge_unknown : r.count ≤ i.0 → Err NoSuchVariable ≡ judged_of (records_of r) i s n
    unfolding judged_of first
    judge_unknown h = rw (usable, ← record_count r, le-ltb _ _ h)

    module _ (h : i.0 < r.count) where
      pub place_within : i.0 < 64
      place_within = omega (arith, record_count r, variables_most (records_of r) usable)

      -- the record, its kind, and whether that is the wrong one
      module _ (v : Variable) (k : Kind) (w : Bool) (o : v ≡ record_at r i.0) (q : k ≡ kind_of v.kind) (p : w ≡ wrong_kind s k) where
        known : judged_of (records_of r) i s n ≡ cond w (Err WrongKind) (cond (not (eqb n v.size)) (Err WrongByteCount) (Ok (is_big k)))
        unfolding judged_of first
        known = rw (usable, ← record_count r, lt-ltb _ _ h, ← record_at_lem r i.0 h, p, q, o)

        pub judge_kind : w ≡ true → Err WrongKind ≡ judged_of (records_of r) i s n
        judge_kind t = rw (known, t)

        pub judge_count : w ≡ false → (n ≡ v.size → ⊥) → Err WrongByteCount ≡ judged_of (records_of r) i s n
        judge_count t z = rw (known, t, ne_eqb _ _ z)

        pub judge_good : (g : Bool) → w ≡ false → n ≡ v.size → g ≡ is_big k → Ok g ≡ judged_of (records_of r) i s n
        judge_good g t z f = rw (known, t, eq-eqb _ _ z, f)

pub ruleset judge_cases = (judge_unusable, judge_unknown, judge_kind, judge_count, judge_good)

-- what a judgement tells: the tests' refusal, or that all pass ------------------------------------------------------------
number_size : (s : Bool) (n : ℕ) (k : Kind) → wrong_kind s k ≡ false → fits_kind n k ≡ true → is_size n ≡ true
number_size s n Plain w f = absurd (true≢false w)
number_size s n (Number t b) w f = f
number_size s n Unknown w f = absurd (true≢false w)

module _ (vs : List Variable) (i : VariableNumber) (s : Bool) (n : ℕ) where
  tested : {B : Type 0} (f : Refusal → B) (ok : B) (j : Result Bool Refusal) → j ≡ judged_of vs i s n → either f ok j ≡ first (reading_tests vs i s n) f ok
  unfolding judged_of
  tested f ok j e = ap (either f ok) e ∙ first_map (either f ok) _ Err _

  pub refused_first : {B : Type 0} (f : Refusal → B) (ok : B) (x : Refusal) → Err x ≡ judged_of vs i s n → f x ≡ first (reading_tests vs i s n) f ok
  refused_first f ok x = tested f ok (Err x)

  module _ (big : Bool) (e : Ok big ≡ judged_of vs i s n) where
    pub good_first : {B : Type 0} (f : Refusal → B) (ok : B) → ok ≡ first (reading_tests vs i s n) f ok
    good_first f ok = tested f ok (Ok big) e

    passed : clear (reading_tests vs i s n) × (big ≡ is_big (kind_at vs i))
    unfolding judged_of
    passed = first_case (λ z. z ≡ Ok big → clear (reading_tests vs i s n) × (big ≡ is_big (kind_at vs i))) _ Err _
        (λ x k. absurd (cc)) (λ c k. (c, cc)) (sym e)

    pub good_big : big ≡ is_big (kind_at vs i)
    good_big = passed.1

    -- a usable variable of a number's kind has a number's size
    pub good_size : is_size n ≡ true
    unfolding usable_variables
    good_size =
        let at = clear_at (reading_tests vs i s n) passed.0 in
        let v : Variable = record_of vs i in
        let u : usable_variable v ≡ true = every_at usable_variable vs i.0 _ (all_at (variable_rules vs) (not-false _ (at 0)) 1) (ltb-true _ _ (not-false _ (at 1))) in
        let f : fits_kind v.size (kind_at vs i) ≡ true = (and_true (is_type v.writable && usable_size v.size) _ u).1 in
        let d : n ≡ v.size = eqb-true _ _ (not-false _ (at 3)) in
        rw d (number_size s v.size (kind_at vs i) (at 2) f)
