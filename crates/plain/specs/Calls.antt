-- What a call of each entry comes to, with its ending in plain numbers: the right sides of the promises. Assumes nothing.
use Rattle.std.specs.Prelude.{Bool, List, ℕ, ℤ, length}
use Rattle.bsmp.specs.Board.{variable, function}
use Rattle.bsmp.specs.Packet.{packet, function_result, board_store, fresh_board}
use Rattle.bsmp.specs.Number.{reading, writing}
use Rattle.bsmp.specs.declared.Variable.{Variable}
use Rattle.records.specs.declared.Groups.{Groups}
use Rattle.wire.specs.Opening.{placed}
use Rattle.node.specs.Promise.{PacketLeft, packet_left_of}
use Rattle.results.specs.Results.{ResultLeft, result_left_of, StoreLeft, store_left_of, FreshLeft, fresh_left_of}
use Rattle.readings.specs.Answers.{WritingLeft, writing_left_of}
use Rattle.plain.specs.Lending.{Lending, table_in, held_in}
use Rattle.endings.specs.Numbers.{plain_outcome_of, ran_from, done_number, PlainReading, plain_reading_of}
use Rattle.endings.specs.declared.PlainOutcome.{PlainOutcome}

-- a packet leaves its outcome, and all that was lent to be changed
pub record PlainPacketLeft : Type 0 where
  pub outcome : PlainOutcome
  pub groups : Groups
  pub reply : List ℕ
  pub values : List ℕ
  pub blocks : List ℕ
  pub lengths : List ℕ
  pub sums : List ℕ

abbrev pub plain_packet_left : PlainOutcome → Groups → (reply values blocks lengths sums : List ℕ) → PlainPacketLeft
plain_packet_left o g r vs bs ls ds = record { outcome = o; groups = g; reply = r; values = vs; blocks = bs; lengths = ls; sums = ds }

abbrev pub plain_packet_left_of : PacketLeft → PlainPacketLeft
plain_packet_left_of x = plain_packet_left (plain_outcome_of x.outcome) x.groups x.reply x.values x.blocks x.lengths x.sums

abbrev pub packet_of : Lending → (own multicast busy : ℕ) → (request reply : List ℕ) → PlainPacketLeft
packet_of x own multicast busy request reply =
    plain_packet_left_of (packet_left_of (packet (table_in x) (placed own multicast) busy (length reply) request (held_in x)) reply x.groups)

-- a function's result leaves its outcome and the reply buffer
pub record PlainResultLeft : Type 0 where
  pub outcome : PlainOutcome
  pub reply : List ℕ

abbrev pub plain_result_left : PlainOutcome → List ℕ → PlainResultLeft
plain_result_left o r = record { outcome = o; reply = r }

abbrev pub plain_result_left_of : ResultLeft → PlainResultLeft
plain_result_left_of x = plain_result_left (plain_outcome_of x.outcome) x.reply

abbrev pub result_of : Lending → ℕ → (due failed : Bool) → (error : ℕ) → (output reply : List ℕ) → PlainResultLeft
result_of x f due failed error output reply =
    plain_result_left_of (result_left_of (function_result (table_in x) (length reply) (function f) due (ran_from failed error output) (held_in x)).ending reply)

-- a board store and number to bytes leave 0 or the refusal's number, and the bytes that were lent to be written
pub record PlainBytesLeft : Type 0 where
  pub number : ℕ
  pub bytes : List ℕ

abbrev pub plain_bytes_left : ℕ → List ℕ → PlainBytesLeft
plain_bytes_left n bs = record { number = n; bytes = bs }

abbrev pub plain_store_left_of : StoreLeft → PlainBytesLeft
plain_store_left_of x = plain_bytes_left (done_number x.stored) x.values

abbrev pub store_of : Lending → ℕ → (bytes : List ℕ) → PlainBytesLeft
store_of x i bytes = plain_store_left_of (store_left_of (board_store (table_in x) (variable i) bytes (held_in x)))

-- a fresh board leaves such a number, the lengths and the sums
pub record PlainFreshLeft : Type 0 where
  pub number : ℕ
  pub lengths : List ℕ
  pub sums : List ℕ

abbrev pub plain_fresh_left : ℕ → (lengths sums : List ℕ) → PlainFreshLeft
plain_fresh_left n ls ds = record { number = n; lengths = ls; sums = ds }

abbrev pub plain_fresh_left_of : FreshLeft → PlainFreshLeft
plain_fresh_left_of x = plain_fresh_left (done_number x.stored) x.lengths x.sums

abbrev pub fresh_of : Lending → PlainFreshLeft
fresh_of x = plain_fresh_left_of (fresh_left_of (fresh_board (table_in x) (held_in x)))

abbrev pub plain_writing_left_of : WritingLeft → PlainBytesLeft
plain_writing_left_of x = plain_bytes_left (done_number x.answer) x.buffer

abbrev pub writing_of : List Variable → ℕ → (signed : Bool) → ℤ → (buffer : List ℕ) → PlainBytesLeft
writing_of vs i signed z buffer = plain_writing_left_of (writing_left_of (writing vs (variable i) signed z (length buffer)) buffer)

-- bytes to number: nothing that was lent changes
abbrev pub reading_of : List Variable → ℕ → (signed : Bool) → (bytes : List ℕ) → PlainReading
reading_of vs i signed bytes = plain_reading_of (reading vs (variable i) signed bytes)
