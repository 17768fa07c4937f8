-- A message judged, and what a pass tells its command; the state after it. Assumes nothing.
use mathlib.Core.Path.{◌≡◌, refl, sym, ◌∙◌}
use mathlib.Core.List.{List, [], ◌∷◌}
use Prim.Native.Nat.{ℕ, ◌+◌, ◌-◌, ◌*◌, ◌≤◌, ◌<◌}
use native.Mathlib.Omega.{arith}
use borrow.Rule.Slice.PartMut.{mid_of}
use lib.Dec.{eqb, ltb}
use lib.ListN.{length, drop}
use borrow.Author.Tests.{lt-ltb, le-ltb, eq-eqb, ne_eqb, ltb-false}
use Rattle.bsmp.specs.Base.{byte_at, word_at}
use Rattle.bsmp.specs.Board.{Layout}
use Rattle.bsmp.specs.Codes.{command_of, Check, Pass, Fail}
use Rattle.bsmp.specs.Message.{check, form_tests, judge}
use Rattle.bsmp.specs.declared.WireError.TheVariants.{Malformed}
use Rattle.bsmp.specs.declared.Command.{Command}
use Rattle.bsmp.proofs.Bools.{or_false}
use Rattle.bsmp.proofs.Chain.{first_next, first_stop, first_end, clear, clear_at, first_case}
use Rattle.bsmp.proofs.Accepted.{fail_no}
use Rattle.copies.proofs.Put.{mid_rest}
use Rattle.parts.specs.Parts.{Passed}
use Rattle.parts.proofs.Tested.{not_on, not_off, or_left, or_right, or_none}

-- an empty message has no byte, which counts as 0
pub none_named : (m : List ℕ) (k : Command) → length m ≡ 0 → k ≡ command_of 0 → k ≡ command_of (byte_at m 0)
none_named [] k h e = e
none_named (b ∷ m) k h e = absurd (omega (arith, h))

-- the tests of the command that a match found
pub of_command : (l : Layout) (gs : List ℕ) (busy : ℕ) (p : List ℕ) (k c : Command) (v : Check) → k ≡ c → v ≡ check l gs busy p c → v ≡ check l gs busy p k
of_command l gs busy p k c v e h = rw e h

module _ (l : Layout) (gs : List ℕ) (busy : ℕ) (m : List ℕ) where
  -- the three returns of a judgement
  pub judge_short : length m < 3 → Fail Malformed ≡ judge l gs busy m
  unfolding judge
  judge_short h = first_stop _ _ _ _ _ _ _ (or_left (ltb (length m) 3) _ (lt-ltb _ _ h)) refl

  pub judge_size : (n : ℕ) → 3 ≤ length m → n ≡ byte_at m 1 * 256 + byte_at m 2 → (n ≡ length m - 3 → ⊥) → Fail Malformed ≡ judge l gs busy m
  unfolding judge
  judge_size n h e k =
      first_stop _ _ _ _ _ _ _ (or_right (ltb (length m) 3) _ (le-ltb _ _ h) (not_on (eqb (word_at m 1) (length m - 3)) (ne_eqb _ _ (λ q. k (e ∙ q))))) refl

  pub judge_rest : (n : ℕ) (k : Command) (x : Check) → 3 ≤ length m → n ≡ byte_at m 1 * 256 + byte_at m 2 → n ≡ length m - 3
      → k ≡ command_of (byte_at m 0) → x ≡ check l gs busy (mid_of 3 (length m - 3) m) k → x ≡ judge l gs busy m
  unfolding judge
  judge_rest n k x h e q f g =
      first_next _ _ _ _ _ _ _ (or_none (ltb (length m) 3) _ (le-ltb _ _ h) (not_off (eqb (word_at m 1) (length m - 3)) (eq-eqb _ _ (sym e ∙ q))))
      (first_end _ _ _ (rw (← f, ← mid_rest 3 m) g))

  -- what a pass says of the message
  judge_pass : judge l gs busy m ≡ Pass → clear (form_tests m) × (check l gs busy (drop 3 m) (command_of (byte_at m 0)) ≡ Pass)
  unfolding judge
  judge_pass =
      first_case (λ v. v ≡ Pass → clear (form_tests m) × (check l gs busy (drop 3 m) (command_of (byte_at m 0)) ≡ Pass)) (form_tests m) Fail _
      (λ e h. absurd (fail_no e h)) (λ c h. (c, h))

  pub message_long : (v : Check) → v ≡ judge l gs busy m → v ≡ Pass → 3 ≤ length m
  message_long v h e = ltb-false _ _ (or_false (ltb (length m) 3) _ (clear_at (form_tests m) (judge_pass (sym h ∙ e)).0 0)).0

  pub message_passed : (v : Check) (k : Command) → v ≡ judge l gs busy m → v ≡ Pass → k ≡ command_of (byte_at m 0) → Passed l gs (mid_of 3 (length m - 3) m) k
  message_passed v k h e f = record { marks = busy; passes = rw (f, mid_rest 3 m) (judge_pass (sym h ∙ e)).1 }
