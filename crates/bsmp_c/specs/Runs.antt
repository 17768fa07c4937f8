-- Runs of the exported functions on one board, each call told by what its promise says of it and by nothing else; and what its caller
-- sees. These are the words of demand 3 for what is compiled. Assumes nothing.
use Rattle.std.specs.Prelude.{◌≡◌, Bool, false, cond, List, [], ◌∷◌, map, ℕ, eqb, take}
use Rattle.bsmp.specs.Board.{variable, function}
use Rattle.bsmp.specs.Apart.{Call, packet_in, result_in, store_in, fresh_in}
use Rattle.bsmp.specs.declared.Outcome.TheVariants as O
use Rattle.plain.specs.Lending.{Lending, lending}
use Rattle.endings.specs.Numbers.{plain_outcome_of, ran_from}
use Rattle.plain.specs.Calls.{PlainPacketLeft, packet_of, PlainResultLeft, result_of, PlainBytesLeft, store_of, PlainFreshLeft, fresh_of}
use Rattle.endings.specs.declared.PlainOutcome.{PlainOutcome}

-- a call: what is handed in beside the board, and what the function leaves
pub data Turn : Type 0 where
  -- `bsmp_packet`: busy marks, packet, reply buffer
  packet_turn : ℕ → List ℕ → List ℕ → PlainPacketLeft → Turn
  -- `bsmp_function_result`: function, whether an answer is due, whether it failed, its error, its output, reply buffer
  result_turn : ℕ → Bool → Bool → ℕ → List ℕ → List ℕ → PlainResultLeft → Turn
  -- `bsmp_board_store`: variable, bytes
  store_turn : ℕ → List ℕ → PlainBytesLeft → Turn
  -- `bsmp_fresh_board`
  fresh_turn : PlainFreshLeft → Turn

-- the promise of the function, on the board x with these addresses
abbrev pub Promised : (own multicast : ℕ) → Lending → Turn → Type 0
Promised own multicast x (packet_turn busy p b z) = z ≡ packet_of x own multicast busy p b
Promised own multicast x (result_turn f due failed error out b z) = z ≡ result_of x f due failed error out b
Promised own multicast x (store_turn i b z) = z ≡ store_of x i b
Promised own multicast x (fresh_turn z) = z ≡ fresh_of x

-- the board as the call leaves it
abbrev pub left_in : Lending → Turn → Lending
left_in x (packet_turn busy p b z) = lending x.variables x.curves x.functions z.groups z.values z.blocks z.lengths z.sums
left_in x (result_turn f due failed error out b z) = x
left_in x (store_turn i b z) = lending x.variables x.curves x.functions x.groups z.bytes x.blocks x.lengths x.sums
left_in x (fresh_turn z) = lending x.variables x.curves x.functions x.groups x.values x.blocks z.lengths z.sums

-- each call starts from what the last one left
abbrev pub Runs : (own multicast : ℕ) → Lending → List Turn → Type 0
Runs own multicast x [] = Unit
Runs own multicast x (r ∷ rs) = Promised own multicast x r × Runs own multicast (left_in x r) rs

abbrev pub last_in : Lending → List Turn → Lending
last_in x [] = x
last_in x (r ∷ rs) = last_in (left_in x r) rs

-- the same call, as the definition has it
abbrev pub call_of : Turn → Call
call_of (packet_turn busy p b z) = packet_in busy p b
call_of (result_turn f due failed error out b z) = result_in (function f) due (ran_from failed error out) b
call_of (store_turn i b z) = store_in (variable i) b
call_of (fresh_turn z) = fresh_in

-- what the caller sees: the outcome's numbers, and the answer's bytes in the buffer
pub record PlainSeen : Type 0 where
  pub outcome : PlainOutcome
  pub answer : List ℕ

abbrev pub plain_seen : PlainOutcome → (buffer : List ℕ) → PlainSeen
plain_seen o b = record { outcome = o; answer = cond (eqb o.kind 0) (take o.length b) [] }

-- the number of a board store, or of a fresh board, says that it ended in silence, or the refusal
abbrev pub number_seen : ℕ → PlainSeen
number_seen n = plain_seen (cond (eqb n 0) (plain_outcome_of O.Silence) (record { kind = 3; refusal = n; due = false; function = 0; input = 0; length = 0 })) []

abbrev pub sees : Turn → PlainSeen
sees (packet_turn busy p b z) = plain_seen z.outcome z.reply
sees (result_turn f due failed error out b z) = plain_seen z.outcome z.reply
sees (store_turn i b z) = number_seen z.number
sees (fresh_turn z) = number_seen z.number

abbrev pub seen_in : List Turn → List PlainSeen
seen_in rs = map sees rs

abbrev pub calls_in : List Turn → List Call
calls_in rs = map call_of rs

-- the call was refused: by the outcome's kind, or by a number other than 0
abbrev pub IsRefused : Turn → Type 0
IsRefused (packet_turn busy p b z) = z.outcome.kind ≡ 3
IsRefused (result_turn f due failed error out b z) = z.outcome.kind ≡ 3
IsRefused (store_turn i b z) = z.number ≡ 0 → ⊥
IsRefused (fresh_turn z) = z.number ≡ 0 → ⊥

-- the reply buffer as it was handed in, and as the call leaves it; a board store and a fresh board have none
abbrev pub buffer_in : Turn → List ℕ
buffer_in (packet_turn busy p b z) = b
buffer_in (result_turn f due failed error out b z) = b
buffer_in (store_turn i b z) = []
buffer_in (fresh_turn z) = []

abbrev pub buffer_left : Turn → List ℕ
buffer_left (packet_turn busy p b z) = z.reply
buffer_left (result_turn f due failed error out b z) = z.reply
buffer_left (store_turn i b z) = []
buffer_left (fresh_turn z) = []
