-- How an ending is said in plain numbers: 01's number of a refusal, 0 where nothing is refused. Assumes nothing.
use Rattle.std.specs.Prelude.{Bool, true, false, List, ℕ, ℤ, pos, Result, Ok, Err}
use Rattle.bsmp.specs.Codes.{refusal_number}
use Rattle.bsmp.specs.Number.{Reading, is}
use Rattle.bsmp.specs.Packet.{Ran, gave}
use Rattle.bsmp.specs.Packet
use Rattle.bsmp.specs.declared.Refusal.{Refusal}
use Rattle.bsmp.specs.declared.Outcome.{Outcome}
use Rattle.bsmp.specs.declared.Outcome.TheVariants as O
use Rattle.endings.specs.declared.PlainOutcome.{PlainOutcome}
use Rattle.endings.specs.declared.PlainSignedReading.{PlainSignedReading}
use Rattle.endings.specs.declared.PlainUnsignedReading.{PlainUnsignedReading}

-- a call's outcome; a function's input stands at place 5 of the packet (law `Input.input_at_5`)
abbrev pub plain_outcome_of : Outcome → PlainOutcome
plain_outcome_of (O.Reply n) = record { kind = 0; refusal = 0; due = false; function = 0; input = 0; length = n }
plain_outcome_of O.Silence = record { kind = 1; refusal = 0; due = false; function = 0; input = 0; length = 0 }
plain_outcome_of (O.Run f n due) = record { kind = 2; refusal = 0; due = due; function = f.0; input = 5; length = n }
plain_outcome_of (O.Refused r) = record { kind = 3; refusal = refusal_number r; due = false; function = 0; input = 0; length = 0 }

-- how a function ran: an error byte counts only where it failed, and the output only where it did not
abbrev pub ran_from : (failed : Bool) → (error : ℕ) → (output : List ℕ) → Ran
ran_from true error output = Packet.failed error
ran_from false error output = gave output

-- a board store, a fresh board and number to bytes: 0 or the refusal's number
abbrev pub done_number : Result (Unit {0}) Refusal → ℕ
done_number (Ok _) = 0
done_number (Err r) = refusal_number r

-- bytes to number: 0 and the number, or the refusal's number and 0
pub record PlainReading : Type 0 where
  pub refusal : ℕ
  pub number : ℤ

abbrev pub plain_reading : ℕ → ℤ → PlainReading
plain_reading n z = record { refusal = n; number = z }

abbrev pub plain_reading_of : Reading → PlainReading
plain_reading_of (is z) = plain_reading 0 z
plain_reading_of (Reading.refused r) = plain_reading (refusal_number r) (pos 0)

abbrev pub signed_says : PlainSignedReading → PlainReading
signed_says r = plain_reading r.refusal r.number

abbrev pub unsigned_says : PlainUnsignedReading → PlainReading
unsigned_says r = plain_reading r.refusal (pos r.number)
