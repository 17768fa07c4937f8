-- Demand 3: what is said of two boards that differ in one variable's bytes, over the definition and over what is lent; and in the same words
-- of two that differ in bytes past the blocks' lengths (02, 2026-03). Assumes nothing.
use Rattle.std.specs.Prelude.{◌≡◌, ◌↔◌, ◌≢◌, Bool, true, false, not, ◌&&◌, List, [], ◌∷◌, map, ℕ, ◌<◌, length, take, Ok, Err}
use Rattle.bsmp.specs.Base.{some, every, first}
use Rattle.bsmp.specs.Board.{Table, Layout, layout, State, value_of, block_sizes, content_of, is_same, faults}
use Rattle.bsmp.specs.Message.{Answer, Line, told, asked, judge}
use Rattle.bsmp.specs.Packet.{Place, Ending, reply, silence, run, Result, is_own, destination, message, place_tests, packet_tests, packet, Ran, function_result, board_store, fresh_board}
use Rattle.bsmp.specs.Store.{Lent, held, lent_of, bytes_in, content_in, Left, leaves}
use Rattle.bsmp.specs.declared.VariableNumber.{VariableNumber}
use Rattle.bsmp.specs.declared.FunctionNumber.{FunctionNumber}
use Rattle.bsmp.specs.Codes.{Check}
use Rattle.bsmp.specs.declared.Outcome.{Outcome}
use Rattle.bsmp.specs.declared.Outcome.TheVariants.{Reply, Silence, Run, Refused}

-- the states differ at most in the bytes of variable v
pub record Alike (v : VariableNumber) (s₁ s₂ : State) : Type 0 where
  pub others : (i : VariableNumber) → i ≢ v → value_of s₁ i ≡ value_of s₂ i
  pub sizes : map length s₁.values ≡ map length s₂.values
  pub blocks : s₁.blocks ≡ s₂.blocks
  pub lengths : s₁.lengths ≡ s₂.lengths
  pub sums : s₁.sums ≡ s₂.sums
  pub groups : s₁.groups ≡ s₂.groups

-- the states differ at most in bytes past the blocks' lengths: 02, 2026-03's "and the fourth is stale"
pub record AlikeButStale (s₁ s₂ : State) : Type 0 where
  pub values : s₁.values ≡ s₂.values
  pub contents : (k : ℕ) → content_of s₁ k ≡ content_of s₂ k
  pub sizes : map length s₁.blocks ≡ map length s₂.blocks
  pub lengths : s₁.lengths ≡ s₂.lengths
  pub sums : s₁.sums ≡ s₂.sums
  pub groups : s₁.groups ≡ s₂.groups

-- "packets, function results and board stores", each with its busy marks and the length of its reply buffer; and a fresh board's lengths and
-- sums (02, 2026-02 and 2026-03)
pub data Event : Type 0 where
  arrives : (busy room : ℕ) → List ℕ → Event
  returns : (room : ℕ) → FunctionNumber → (due : Bool) → Ran → Event
  stores : VariableNumber → List ℕ → Event
  freshens : Event

abbrev pub happen : Table → Place → Event → State → Result
happen t a (arrives busy room p) s = packet t a busy room p s
happen t a (returns room f due r) s = function_result t room f due r s
happen t a (stores i b) s = board_store t i b s
happen t a freshens s = fresh_board t s

-- "an answered, accepted packet reads that variable": taken off the definition's answer, no second reading of the packet
abbrev pub tells : VariableNumber → Answer → Bool
tells v a = some (is_same v) (told a)

-- the same of whatever else answers may tell
module _ (tell : Answer → Bool) where
  abbrev pub read_by : Line → Check → Bool
  read_by l (Err e) = false
  read_by l (Ok _) = tell l.answer

  abbrev pub reads_in : Layout → (groups : List ℕ) → (busy : ℕ) → (message : List ℕ) → Bool
  reads_in l gs busy m = read_by (asked l gs m) (judge l gs busy m)

  abbrev pub reads_by : Table → Place → Event → State → Bool
  reads_by t a (arrives busy room p) s =
      first (faults t s) (λ r. false)
      (first (place_tests a room) (λ r. false)
      (first (packet_tests a p) (λ r. false)
      (is_own a (destination p) && reads_in (layout t) s.groups busy (message p))))
  reads_by t a (returns room f due r) s = false
  reads_by t a (stores i b) s = false
  reads_by t a freshens s = false

abbrev pub reads : Table → Place → VariableNumber → Event → State → Bool
reads t a v e s = reads_by (tells v) t a e s

-- the answer's bytes
abbrev pub answer_of : Ending → List ℕ
answer_of (reply r) = r
answer_of silence = []
answer_of (run f i due) = []
answer_of (Ending.refused n) = []

-- demand 3 for one event, of which rd says whether it reads v; there R is Alike v, and Same that v's bytes are equal
pub record Apart (R Same : State → State → Type 0) (r₁ r₂ : Result) (rd : Bool) : Type 0 where
  pub alike : R r₁.state r₂.state
  pub same : rd ≡ false → r₁.ending ≡ r₂.ending
  pub shows : rd ≡ true → (answer_of r₁.ending ≡ answer_of r₂.ending) ↔ Same r₁.state r₂.state

-- a run of events: how each ends, the state after all, and that none of them reads v
abbrev pub endings : Table → Place → List Event → State → List Ending
endings t a [] s = []
endings t a (e ∷ es) s = (happen t a e s).ending ∷ endings t a es (happen t a e s).state

abbrev pub later : Table → Place → List Event → State → State
later t a [] s = s
later t a (e ∷ es) s = later t a es (happen t a e s).state

abbrev pub unread_by : (Answer → Bool) → Table → Place → List Event → State → Bool
unread_by tell t a [] s = true
unread_by tell t a (e ∷ es) s = not (reads_by tell t a e s) && unread_by tell t a es (happen t a e s).state

abbrev pub unread : Table → Place → VariableNumber → List Event → State → Bool
unread t a v es s = unread_by (tells v) t a es s

-- and that none is a fresh board, which makes all blocks full and so brings stale bytes back
abbrev pub is_fresh : Event → Bool
is_fresh (arrives busy room p) = false
is_fresh (returns room f due r) = false
is_fresh (stores i b) = false
is_fresh freshens = true

abbrev pub never_fresh : List Event → Bool
never_fresh es = every (λ e. not (is_fresh e)) es

-- the same as an entry sees it: flat stores, and the bytes of a reply buffer ----------------------------------------------
pub data Call : Type 0 where
  packet_in : (busy : ℕ) → (packet buffer : List ℕ) → Call
  result_in : FunctionNumber → (due : Bool) → Ran → (buffer : List ℕ) → Call
  store_in : VariableNumber → List ℕ → Call
  fresh_in : Call

-- calls are alike if these are: of a reply buffer only its length counts
abbrev pub event_of : Call → Event
event_of (packet_in busy p b) = arrives busy (length b) p
event_of (result_in f due r b) = returns (length b) f due r
event_of (store_in i b) = stores i b
event_of fresh_in = freshens

abbrev pub buffer_of : Call → List ℕ
buffer_of (packet_in busy p b) = b
buffer_of (result_in f due r b) = b
buffer_of (store_in i b) = []
buffer_of fresh_in = []

abbrev pub left_by : Table → Place → Call → Lent → Left
left_by t a c x = leaves (happen t a (event_of c) (held (layout t) x)) (buffer_of c)

-- what the caller sees: the outcome, and the answer's bytes in the buffer
pub record Seen : Type 0 where
  pub outcome : Outcome
  pub answer : List ℕ

abbrev pub answer_in : Outcome → List ℕ → List ℕ
answer_in (Reply n) b = take n b
answer_in Silence b = []
answer_in (Run f n due) b = []
answer_in (Refused r) b = []

abbrev pub seen_of : Left → Seen
seen_of x = record { outcome = x.outcome; answer = answer_in x.outcome x.buffer }

-- each call starts from the stores that the last one left
abbrev pub seen_all : Table → Place → List Call → Lent → List Seen
seen_all t a [] x = []
seen_all t a (c ∷ cs) x = seen_of (left_by t a c x) ∷ seen_all t a cs (lent_of (left_by t a c x).holds)

abbrev pub lent_after : Table → Place → List Call → Lent → Lent
lent_after t a [] x = x
lent_after t a (c ∷ cs) x = lent_after t a cs (lent_of (left_by t a c x).holds)

-- "alike but for one variable's bytes"
pub record LentAlike (l : Layout) (v : VariableNumber) (x₁ x₂ : Lent) : Type 0 where
  pub others : (i : VariableNumber) → i.0 < length l.sizes → i ≢ v → bytes_in l x₁.values i ≡ bytes_in l x₂.values i
  pub size : length x₁.values ≡ length x₂.values
  pub blocks : x₁.blocks ≡ x₂.blocks
  pub lengths : x₁.lengths ≡ x₂.lengths
  pub sums : x₁.sums ≡ x₂.sums
  pub groups : x₁.groups ≡ x₂.groups

-- alike but for bytes past the blocks' lengths
pub record LentAlikeButStale (l : Layout) (x₁ x₂ : Lent) : Type 0 where
  pub values : x₁.values ≡ x₂.values
  pub contents : (k : ℕ) → k < length (block_sizes l.curves) → content_in l x₁ k ≡ content_in l x₂ k
  pub size : length x₁.blocks ≡ length x₂.blocks
  pub lengths : x₁.lengths ≡ x₂.lengths
  pub sums : x₁.sums ≡ x₂.sums
  pub groups : x₁.groups ≡ x₂.groups
