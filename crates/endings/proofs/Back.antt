-- From plain numbers back to the outcome: they lose nothing of it. Assumes nothing.
use mathlib.Core.Path.{◌≡◌, refl, sym, ap, ◌∙◌}
use mathlib.Core.Bool.{cond}
use Prim.Native.Nat.{ℕ}
use native.Mathlib.Omega.{arith}
use lib.Dec.{eqb}
use Rattle.bsmp.specs.Board.{function}
use Rattle.bsmp.specs.declared.Outcome.{Outcome}
use Rattle.bsmp.specs.declared.Outcome.TheVariants as O
use Rattle.bsmp.specs.declared.Refusal.{Refusal}
use Rattle.bsmp.specs.declared.Refusal.TheVariants.{BoardUnusable, BadAddress, ReplyBufferShort, PacketLength, Checksum, NotForThisBoard}
use Rattle.bsmp.specs.declared.Refusal.TheVariants.{NoSuchFunction, OutputLength, NoSuchVariable, WrongByteCount, WrongKind, DoesNotFit, ReplyUnfit, RequestUnwritable}
use Rattle.bsmp.specs.Codes.{refusal_number}
use Rattle.endings.specs.Numbers.{plain_outcome_of}
use Rattle.endings.specs.declared.PlainOutcome.{PlainOutcome}

abbrev refusal_of : ℕ → Refusal
refusal_of n =
    cond (eqb n 1) BoardUnusable (cond (eqb n 2) BadAddress (cond (eqb n 3) ReplyBufferShort (cond (eqb n 4) PacketLength
    (cond (eqb n 5) Checksum (cond (eqb n 6) NotForThisBoard (cond (eqb n 7) NoSuchFunction (cond (eqb n 8) OutputLength
    (cond (eqb n 9) NoSuchVariable (cond (eqb n 10) WrongByteCount (cond (eqb n 11) WrongKind (cond (eqb n 12) DoesNotFit
    (cond (eqb n 13) ReplyUnfit RequestUnwritable))))))))))))

refusal_back : (r : Refusal) → refusal_of (refusal_number r) ≡ r
refusal_back BoardUnusable = refl
refusal_back BadAddress = refl
refusal_back ReplyBufferShort = refl
refusal_back PacketLength = refl
refusal_back Checksum = refl
refusal_back NotForThisBoard = refl
refusal_back NoSuchFunction = refl
refusal_back OutputLength = refl
refusal_back NoSuchVariable = refl
refusal_back WrongByteCount = refl
refusal_back WrongKind = refl
refusal_back DoesNotFit = refl
refusal_back ReplyUnfit = refl
refusal_back RequestUnwritable = refl

-- no refusal has the number 0
pub refusal_some : (r : Refusal) → refusal_number r ≡ 0 → ⊥
refusal_some r h =
    let e : RequestUnwritable ≡ r = ap refusal_of (sym h) ∙ refusal_back r in
    omega (arith, h, ap refusal_number e)

abbrev outcome_from : PlainOutcome → Outcome
outcome_from p =
    cond (eqb p.kind 0) (O.Reply p.length) (cond (eqb p.kind 1) O.Silence
    (cond (eqb p.kind 2) (O.Run (function p.function) p.length p.due) (O.Refused (refusal_of p.refusal))))

outcome_back : (o : Outcome) → outcome_from (plain_outcome_of o) ≡ o
outcome_back (O.Reply n) = refl
outcome_back O.Silence = refl
outcome_back (O.Run f n due) = refl
outcome_back (O.Refused r) = ap O.Refused (refusal_back r)

pub plain_says_all : (o o' : Outcome) → plain_outcome_of o ≡ plain_outcome_of o' → o ≡ o'
plain_says_all o o' e = sym (outcome_back o) ∙ ap outcome_from e ∙ outcome_back o'
