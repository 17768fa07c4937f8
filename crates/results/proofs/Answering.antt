-- A function's result: its tests as code meets them, the reply, and what the call leaves. Assumes nothing.
use mathlib.Core.Path.{◌≡◌, refl, ap, ap₂, ◌∙◌}
use mathlib.Core.Bool.{Bool, true, false}
use Rattle.std.specs.Prelude as R
use mathlib.Core.List.{List, [], ◌∷◌}
use Prim.Native.Nat.{ℕ, ◌+◌, ◌-◌, ◌≤◌, ◌<◌}
use native.Mathlib.Omega.{arith}
use lib.ListN.{length, get_or, set, length-take, length-drop}
use borrow.Author.Tests.{ltb-true, ltb-false, eqb-true, not-false}
use borrow.Rule.Slice.PartMut.{mid_of, put_mid}
use Rattle.bsmp.specs.Base.{Test}
use Rattle.bsmp.specs.Board.{Table, layout, blank_function}
use Rattle.bsmp.specs.Packet.{Result, reply, silence, frame, refuse, bad_output, ends, ran_says, result_tests, function_result, gave, failed}
use Rattle.bsmp.specs.Packet as P
use Rattle.bsmp.specs.Store.{Lent, held}
use Rattle.bsmp.specs.declared.FunctionNumber.{FunctionNumber}
use Rattle.bsmp.specs.declared.Refusal.{Refusal}
use Rattle.bsmp.specs.declared.Outcome.{Outcome}
use Rattle.bsmp.specs.declared.Outcome.TheVariants as O
use Rattle.bsmp.proofs.Chain.{broken_at}
use Rattle.copies.specs.Put.{put, part}
use Rattle.copies.proofs.Put.{set_put, put_back, length_put}
use Rattle.wire.proofs.Frame.{frame_shown, frame_outcome}
use Rattle.records.proofs.Sound.{function_bytes}
use Rattle.results.specs.Results.{ran_payload, result_left, result_left_of}
use Rattle.results.proofs.Judging.{judged, refused_first, passed_first, passed_sound, passed_test}

-- the reply --------------------------------------------------------------------------------------------------------------
-- a payload v that stands at 4, closed
framed : (r v r₁ r₂ : List ℕ) (code n : ℕ) → r₁ ≡ put r 4 v → 4 + length v < length r → n ≡ length v + 5
    → r₂ ≡ put r₁ 0 (frame code (part r₁ 4 (length v))) → result_left (O.Reply n) r₂ ≡ result_left_of (reply (frame code v)) r
framed r v r₁ r₂ code n w k e f = ap₂ result_left (frame_outcome code (length v) n v refl e) (frame_shown r v code (length v) r₁ r₂ w refl k f)

module _ (o r : List ℕ) (k : length o ≤ 15) (h : 4104 ≤ length r) where
  pub gave_room : length o ≤ length (mid_of 4 (length r - 4) r)
  gave_room = simp (length-take, length-drop) (omega arith)

  module _ (ys : List ℕ) (y : ys ≡ put (mid_of 4 (length r - 4) r) 0 o) where
    written : put_mid 4 (length r - 4) r ys ≡ put r 4 o
    written = put_back 4 r o ys y (omega arith)

    pub gave_kept : 4104 ≤ length (put_mid 4 (length r - 4) r ys)
    gave_kept = rw (written, length_put r 4 o (omega arith)) h

    pub gave_answered : (r₂ : List ℕ) (n : ℕ) → n ≡ length o + 5
        → r₂ ≡ put (put_mid 4 (length r - 4) r ys) 0 (frame 0x51 (part (put_mid 4 (length r - 4) r ys) 4 (length o)))
        → result_left (O.Reply n) r₂ ≡ result_left_of (ends true (ran_says (gave o))) r
    unfolding ends
    gave_answered r₂ n e f = framed r o _ r₂ 0x51 n written (omega arith) e f

pub failed_answered : (r : List ℕ) (x : ℕ) → 4104 ≤ length r → (r₂ : List ℕ) (n : ℕ) → n ≡ 1 + 5 → r₂ ≡ put (set r 4 x) 0 (frame 0x53 (part (set r 4 x) 4 1))
    → result_left (O.Reply n) r₂ ≡ result_left_of (ends true (ran_says (failed x))) r
unfolding ends
failed_answered r x h r₂ n e f = framed r (x ∷ []) _ r₂ 0x53 n (set_put r 4 x (omega arith)) (omega arith) e f

silent : (ran : P.Ran) → ends false (ran_says ran) ≡ silence
unfolding ends
silent (gave o) = refl
silent (failed x) = refl

short : (ran : P.Ran) (n : ℕ) → n ≤ 15 → bad_output n ran ≡ false → length (ran_payload ran) ≤ 15
short (gave o) n h b = let e : length o ≡ n = eqb-true _ _ (not-false _ b) in omega (arith, h)
short (failed x) n h b = omega arith

-- the call ---------------------------------------------------------------------------------------------------------------
module _ (t : Table) (x : Lent) (room : ℕ) (f : FunctionNumber) (ran : P.Ran) where
  abbrev pub tests : List (Test Refusal)
  tests = result_tests (layout t) room f ran

  module _ (due : Bool) (b : List ℕ) where
    abbrev Leaves : Outcome → List ℕ → Type 0
    Leaves o b' = result_left o b' ≡ result_left_of (function_result t room f due ran (held (layout t) x)).ending b

    pub result_refused : (n : Refusal) → R.Err n ≡ judged t x tests → Leaves (O.Refused n) b
    unfolding function_result
    result_refused n h = ap (λ (y : Result). result_left_of y.ending b) (refused_first t x tests (refuse (held (layout t) x)) _ n h)

    passed : (o : Outcome) (b' : List ℕ) → R.Ok tt ≡ judged t x tests → result_left o b' ≡ result_left_of (ends due (ran_says ran)) b → Leaves o b'
    unfolding function_result
    passed o b' h q = q ∙ ap (λ (y : Result). result_left_of y.ending b) (passed_first t x tests h (refuse (held (layout t) x)) _)

    pub result_answered : (o : Outcome) (b' : List ℕ) → R.Ok tt ≡ judged t x tests → due ≡ true → result_left o b' ≡ result_left_of (ends true (ran_says ran)) b → Leaves o b'
    result_answered o b' h d q = passed o b' h (rw d q)

    pub result_silent : R.Ok tt ≡ judged t x tests → due ≡ false → Leaves O.Silence b
    result_silent h d = passed O.Silence b h (rw (d, silent ran))

  -- what a pass lets the reply lean on
  module _ (h : R.Ok tt ≡ judged t x tests) where
    test : (k : ℕ) → broken_at tests k ≡ false
    test = passed_test t x tests h

    pub result_room : 4104 ≤ room
    result_room = ltb-false _ _ (test 0)

    declared : (get_or t.functions f.0 blank_function).output ≤ 15
    declared = (function_bytes t.functions (passed_sound t x tests h).functions f.0 (ltb-true _ _ (not-false _ (test 1)))).1

    pub result_short : length (ran_payload ran) ≤ 15
    result_short = short ran _ declared (test 2)
