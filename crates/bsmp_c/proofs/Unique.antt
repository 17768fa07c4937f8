-- What a caller may lean on: each promise allows one result only, where x is its right side, what the call comes to; and a refused call
-- leaves what it was lent as it was. Assumes nothing.
use Rattle.std.specs.Prelude.{Ok, Err}
use mathlib.Core.Path.{◌≡◌, refl, sym, ap, ◌∙◌}
use mathlib.Core.Bool.{Bool}
use mathlib.Core.List.{List}
use Prim.Native.Nat.{ℕ}
use native.Mathlib.Omega.{arith}
use lib.IntN.{ℤ, pos, negsuc}
use lib.ListN.{length}
use Rattle.bsmp.specs.Board.{variable, function}
use Rattle.bsmp.specs.Packet.{Ending, packet, function_result, board_store, fresh_board}
use Rattle.bsmp.specs.Number.{Written, bytes, writing}
use Rattle.bsmp.specs.declared.Variable.{Variable}
use Rattle.bsmp.specs.declared.Refusal.{Refusal}
use Rattle.bsmp.specs.declared.Outcome.{Outcome}
use Rattle.bsmp.specs.declared.Outcome.TheVariants as O
use Rattle.records.specs.declared.Groups.{Groups}
use Rattle.wire.specs.Opening.{placed}
use Rattle.node.specs.Promise.{PacketLeft, packet_left_of}
use Rattle.node.proofs.Unique.{refused_keeps}
use Rattle.results.specs.Results.{ResultLeft, result_left, result_left_of, Stored, StoreLeft, store_left, store_left_of, FreshLeft, fresh_left, fresh_left_of}
use Rattle.results.proofs.Unique.{refused_reply, refused_values, refused_fresh}
use Rattle.readings.specs.Answers.{writing_left_of}
use Rattle.plain.specs.Lending.{Lending, table_in, lent_in, held_in}
use Rattle.endings.specs.Numbers.{plain_outcome_of, ran_from, done_number, PlainReading, signed_says, unsigned_says}
use Rattle.plain.specs.Calls.{PlainPacketLeft, plain_packet_left, packet_of, PlainResultLeft, plain_result_left, result_of, PlainBytesLeft, plain_bytes_left, plain_writing_left_of, store_of, PlainFreshLeft, plain_fresh_left, fresh_of, writing_of}
use Rattle.endings.specs.declared.PlainOutcome.{PlainOutcome}
use Rattle.endings.specs.declared.PlainSignedReading.{PlainSignedReading}
use Rattle.endings.specs.declared.PlainUnsignedReading.{PlainUnsignedReading}

pub packet_unique : (x : PlainPacketLeft) (o o' : PlainOutcome) (g g' : Groups) (r r' vs vs' bs bs' ls ls' ds ds' : List ℕ)
    → plain_packet_left o g r vs bs ls ds ≡ x → plain_packet_left o' g' r' vs' bs' ls' ds' ≡ x → (o ≡ o') × (g ≡ g') × (r ≡ r') × (vs ≡ vs') × (bs ≡ bs') × (ls ≡ ls') × (ds ≡ ds')
packet_unique x o o' g g' r r' vs vs' bs bs' ls ls' ds ds' h k =
    let e : plain_packet_left o g r vs bs ls ds ≡ plain_packet_left o' g' r' vs' bs' ls' ds' = h ∙ sym k in
    (λ i. (e i).outcome, λ i. (e i).groups, λ i. (e i).reply, λ i. (e i).values, λ i. (e i).blocks, λ i. (e i).lengths, λ i. (e i).sums)

pub function_result_unique : (x : PlainResultLeft) (o o' : PlainOutcome) (r r' : List ℕ)
    → plain_result_left o r ≡ x → plain_result_left o' r' ≡ x → (o ≡ o') × (r ≡ r')
function_result_unique x o o' r r' h k = let e : plain_result_left o r ≡ plain_result_left o' r' = h ∙ sym k in (λ i. (e i).outcome, λ i. (e i).reply)

-- a board store, and both writings
pub bytes_unique : (x : PlainBytesLeft) (n n' : ℕ) (bs bs' : List ℕ) → plain_bytes_left n bs ≡ x → plain_bytes_left n' bs' ≡ x → (n ≡ n') × (bs ≡ bs')
bytes_unique x n n' bs bs' h k = let e : plain_bytes_left n bs ≡ plain_bytes_left n' bs' = h ∙ sym k in (λ i. (e i).number, λ i. (e i).bytes)

pub fresh_board_unique : (x : PlainFreshLeft) (n n' : ℕ) (ls ls' ds ds' : List ℕ) → plain_fresh_left n ls ds ≡ x → plain_fresh_left n' ls' ds' ≡ x
    → (n ≡ n') × (ls ≡ ls') × (ds ≡ ds')
fresh_board_unique x n n' ls ls' ds ds' h k =
    let e : plain_fresh_left n ls ds ≡ plain_fresh_left n' ls' ds' = h ∙ sym k in (λ i. (e i).number, λ i. (e i).lengths, λ i. (e i).sums)

pub read_signed_unique : (x : PlainReading) (a b : PlainSignedReading) → signed_says a ≡ x → signed_says b ≡ x → a ≡ b
read_signed_unique x a b h k = ap (λ (y : PlainReading). record { refusal = y.refusal; number = y.number }) (h ∙ sym k)

abbrev magnitude : ℤ → ℕ
magnitude (pos n) = n
magnitude (negsuc n) = 0

pub read_unsigned_unique : (x : PlainReading) (a b : PlainUnsignedReading) → unsigned_says a ≡ x → unsigned_says b ≡ x → a ≡ b
read_unsigned_unique x a b h k = ap (λ (y : PlainReading). record { refusal = y.refusal; number = magnitude y.number }) (h ∙ sym k)

-- "A local refusal returns its number only and changes no byte of any .. buffer" --------------------------------------------
refused_kind : (o : Outcome) → (plain_outcome_of o).kind ≡ 3 → (n : Refusal) × (o ≡ O.Refused n)
refused_kind (O.Reply n) h = absurd (let z : ◌≡◌ {A = ℕ} 0 3 = h in omega (arith, z))
refused_kind O.Silence h = absurd (let z : ◌≡◌ {A = ℕ} 1 3 = h in omega (arith, z))
refused_kind (O.Run f n due) h = absurd (let z : ◌≡◌ {A = ℕ} 2 3 = h in omega (arith, z))
refused_kind (O.Refused n) h = (n, refl)

pub packet_refused : (x : Lending) (own multicast busy : ℕ) (request reply : List ℕ) (o : PlainOutcome) (g' : Groups) (reply' values' blocks' lengths' sums' : List ℕ)
    → length x.groups.sets ≡ 5 → plain_packet_left o g' reply' values' blocks' lengths' sums' ≡ packet_of x own multicast busy request reply → o.kind ≡ 3
    → (reply' ≡ reply) × (values' ≡ x.values) × (blocks' ≡ x.blocks) × (lengths' ≡ x.lengths) × (sums' ≡ x.sums) × (g' ≡ x.groups)
packet_refused x own multicast busy request reply o g' reply' values' blocks' lengths' sums' five h k =
    let y : PacketLeft = packet_left_of (packet (table_in x) (placed own multicast) busy (length reply) request (held_in x)) reply x.groups in
    let r = refused_kind y.outcome (sym (λ i. (h i).outcome.kind) ∙ k) in
    let z = refused_keeps (table_in x) (placed own multicast) busy request x.groups r.0 y.outcome y.groups reply y.reply x.values y.values x.blocks y.blocks x.lengths y.lengths x.sums y.sums five r.1 refl in
    ((λ i. (h i).reply) ∙ z.0, (λ i. (h i).values) ∙ z.1, (λ i. (h i).blocks) ∙ z.2, (λ i. (h i).lengths) ∙ z.3, (λ i. (h i).sums) ∙ z.4, (λ i. (h i).groups) ∙ z.5)

pub function_result_refused : (x : Lending) (f : ℕ) (due failed : Bool) (error : ℕ) (output reply : List ℕ) (o : PlainOutcome) (reply' : List ℕ)
    → plain_result_left o reply' ≡ result_of x f due failed error output reply → o.kind ≡ 3 → reply' ≡ reply
function_result_refused x f due failed error output reply o reply' h k =
    let e : Ending = (function_result (table_in x) (length reply) (function f) due (ran_from failed error output) (held_in x)).ending in
    let y : ResultLeft = result_left_of e reply in
    let r = refused_kind y.outcome (sym (λ i. (h i).outcome.kind) ∙ k) in
    (λ i. (h i).reply) ∙ refused_reply e r.0 reply y.reply (ap (λ (u : Outcome). result_left u y.reply) (sym r.1))

refused_store : (s : Stored) → (done_number s ≡ 0 → ⊥) → (n : Refusal) × (s ≡ Err n)
refused_store (Ok u) h = absurd (h refl)
refused_store (Err n) h = (n, refl)

pub board_store_refused : (x : Lending) (i : ℕ) (bs : List ℕ) (n : ℕ) (values' : List ℕ)
    → plain_bytes_left n values' ≡ store_of x i bs → (n ≡ 0 → ⊥) → values' ≡ x.values
board_store_refused x i bs n values' h k =
    let y : StoreLeft = store_left_of (board_store (table_in x) (variable i) bs (held_in x)) in
    let r = refused_store y.stored (λ e. k ((λ i. (h i).number) ∙ e)) in
    (λ i. (h i).bytes) ∙ refused_values (table_in x) (variable i) bs (lent_in x) r.0 y.values (ap (λ (u : Stored). store_left u y.values) (sym r.1))

pub fresh_board_refused : (x : Lending) (n : ℕ) (lengths' sums' : List ℕ) → plain_fresh_left n lengths' sums' ≡ fresh_of x → (n ≡ 0 → ⊥)
    → (lengths' ≡ x.lengths) × (sums' ≡ x.sums)
fresh_board_refused x n lengths' sums' h k =
    let y : FreshLeft = fresh_left_of (fresh_board (table_in x) (held_in x)) in
    let r = refused_store y.stored (λ e. k ((λ i. (h i).number) ∙ e)) in
    let w = refused_fresh (table_in x) (lent_in x) r.0 y.lengths y.sums (ap (λ (u : Stored). fresh_left u y.lengths y.sums) (sym r.1)) in
    ((λ i. (h i).lengths) ∙ w.0, (λ i. (h i).sums) ∙ w.1)

refused_buffer : (w : Written) (buffer : List ℕ) (n : ℕ) (buffer' : List ℕ)
    → plain_bytes_left n buffer' ≡ plain_writing_left_of (writing_left_of w buffer) → (n ≡ 0 → ⊥) → buffer' ≡ buffer
refused_buffer (bytes b) buffer n buffer' h k = absurd (k (λ i. (h i).number))
refused_buffer (Written.refused m) buffer n buffer' h k = λ i. (h i).bytes

pub write_refused : (vs : List Variable) (i : ℕ) (signed : Bool) (z : ℤ) (buffer : List ℕ) (n : ℕ) (buffer' : List ℕ)
    → plain_bytes_left n buffer' ≡ writing_of vs i signed z buffer → (n ≡ 0 → ⊥) → buffer' ≡ buffer
write_refused vs i signed z buffer = refused_buffer (writing vs (variable i) signed z (length buffer)) buffer
