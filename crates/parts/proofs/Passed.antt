-- What a pass says: none of the command's tests is broken. Assumes nothing.
use mathlib.Core.Path.{◌≡◌}
use mathlib.Core.List.{List}
use Prim.Native.Nat.{ℕ}
use Rattle.bsmp.specs.Board.{Layout}
use Rattle.bsmp.specs.Message.{line, tests_of, check}
use Rattle.bsmp.specs.declared.Command.{Command}
use Rattle.bsmp.specs.Codes.{Pass, Fail}
use Rattle.bsmp.proofs.Chain.{clear, first_case}
use Rattle.bsmp.proofs.Accepted.{fail_no}
use Rattle.parts.specs.Parts.{Passed}

pub check_clear : (l : Layout) (gs : List ℕ) (busy : ℕ) (p : List ℕ) (k : Command) → check l gs busy p k ≡ Pass → clear (tests_of (line l gs p k) busy)
unfolding check
check_clear l gs busy p k =
    first_case (λ v. v ≡ Pass → clear (tests_of (line l gs p k) busy)) (tests_of (line l gs p k) busy) Fail Pass (λ e h. absurd (fail_no e h)) (λ c h. c)

pub passed_clear : (l : Layout) (gs p : List ℕ) (k : Command) (h : Passed l gs p k) → clear (tests_of (line l gs p k) h.marks)
passed_clear l gs p k h = check_clear l gs h.marks p k h.passes
