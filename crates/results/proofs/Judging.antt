-- The tests of a call before any work: their refusal, or the work. Assumes nothing.
use mathlib.Core.Path.{◌≡◌, sym, ap, ◌∙◌}
use mathlib.Core.Bool.{false}
use mathlib.Core.List.{List}
use Prim.Native.Nat.{ℕ}
use Rattle.bsmp.specs.Base.{Test, first}
use Rattle.bsmp.specs.Board.{Table, layout, State, faults}
use Rattle.bsmp.specs.Store.{Lent, held}
use Rattle.bsmp.specs.declared.Refusal.{Refusal}
use Rattle.bsmp.proofs.Chain.{either, first_map, clear, broken_at, clear_at, first_case}
use Rattle.bsmp.proofs.Usable.{clear_usable}
use Rattle.records.proofs.Sound.{Sound, usable_sound}
use Rattle.std.specs.Prelude.{Result, Ok, Err}

refuse_no : (n : Refusal) → ◌≡◌ {A = Result (Unit {0}) Refusal} (Err n) (Ok tt) → ⊥
refuse_no n h = cc

module _ (t : Table) (x : Lent) where
  abbrev s : State
  s = held (layout t) x

  -- the board's tests and those of the call, judged
  module _ (ts : List (Test Refusal)) where
    abbrev pub judged : Result (Unit {0}) Refusal
    judged = first (faults t s) Err (first ts Err (Ok tt))

    tested : {B : Type 0} (f : Refusal → B) (ok : B) → either f ok judged ≡ first (faults t s) f (first ts f ok)
    tested f ok =
        first_map (either f ok) (faults t s) Err (first ts Err (Ok tt)) ∙ ap (first (faults t s) f) (first_map (either f ok) ts Err (Ok tt))

    pub refused_first : {B : Type 0} (f : Refusal → B) (ok : B) (n : Refusal) → Err n ≡ judged → f n ≡ first (faults t s) f (first ts f ok)
    refused_first f ok n h = ap (either f ok) h ∙ tested f ok

    module _ (h : Ok tt ≡ judged) where
      pub passed_first : {B : Type 0} (f : Refusal → B) (ok : B) → ok ≡ first (faults t s) f (first ts f ok)
      passed_first f ok = ap (either f ok) h ∙ tested f ok

      passed : clear (faults t s) × clear ts
      passed =
          first_case (λ v. v ≡ Ok tt → clear (faults t s) × clear ts) (faults t s) Err _ (λ n k. absurd (refuse_no n k))
          (λ b. first_case (λ v. v ≡ Ok tt → clear (faults t s) × clear ts) ts Err (Ok tt) (λ n k. absurd (refuse_no n k)) (λ c k. (b, c))) (sym h)

      pub passed_sound : Sound t x
      passed_sound = usable_sound t x (clear_usable t s passed.0)

      pub passed_test : (k : ℕ) → broken_at ts k ≡ false
      passed_test = clear_at ts passed.1
