-- What a call comes to by the records that the columns say is what it comes to by the lent ones, however many. Assumes nothing.
use Rattle.std.specs.Prelude.{Err}
use mathlib.Core.Path.{◌≡◌, refl, sym, ap, ◌∙◌}
use mathlib.Core.Bool.{Bool, true, false, not}
use mathlib.Core.List.{List}
use Prim.Native.Nat.{ℕ, ◌<◌}
use native.Mathlib.Omega.{arith}
use lib.IntN.{ℤ}
use lib.ListN.{length}
use Rattle.bsmp.specs.Board.{layout, block_sizes, sum_sizes, usable, usable_variables, State, full}
use Rattle.bsmp.specs.Packet.{Result, refuse, packet, function_result, board_store, fresh_board}
use Rattle.bsmp.specs.Number.{Reading, Written, reading, writing}
use Rattle.bsmp.specs.declared.Variable.{Variable}
use Rattle.bsmp.specs.declared.Refusal.TheVariants.{BoardUnusable}
use Rattle.bsmp.specs.declared.Outcome.TheVariants as O
use Rattle.bsmp.proofs.Bools.{not_so}
use Rattle.bsmp.proofs.Chain.{first_stop}
use Rattle.bsmp.proofs.Usable.{not_usable, faults_some}
use Rattle.bsmp.proofs.Store.{join_cut}
use Rattle.records.specs.declared.Records.{Records}
use Rattle.records.specs.Lending.{records_of, groups_of}
use Rattle.records.proofs.Sound.{variables_most}
use Rattle.wire.specs.Opening.{placed}
use Rattle.node.specs.Promise.{table_with, packet_left_of}
use Rattle.results.specs.Results.{result_left, result_left_of, store_left, store_left_of, fresh_left, fresh_left_of}
use Rattle.readings.specs.Answers.{writing_left_of}
use Rattle.columns.specs.Columns.{columns_of}
use Rattle.columns.proofs.Columns.{columns_same}
use Rattle.plain.specs.Lending.{Lending, lending, table_in, held_in}
use Rattle.endings.specs.Numbers.{plain_outcome_of, plain_reading_of}
use Rattle.plain.specs.Calls.{PlainPacketLeft, plain_packet_left, plain_packet_left_of, packet_of, PlainResultLeft, plain_result_left_of, result_of, PlainBytesLeft, plain_store_left_of, PlainFreshLeft, plain_fresh_left_of, plain_writing_left_of, store_of, fresh_of, writing_of, reading_of}

-- so what an entry's work says of the columns, into which the lent records were taken, it says of the lent records
pub of_lent : {X : Type 0} (of : List Variable → X) (vs : List Variable) → of (records_of (columns_of vs)) ≡ of vs
    → (x : X) (taken : Records) → x ≡ of (records_of taken) → taken ≡ columns_of vs → x ≡ of vs
of_lent of vs same x taken work take = work ∙ ap (λ (r : Records). of (records_of r)) take ∙ same

-- the same with other variable records
abbrev pub with_variables : List Variable → Lending → Lending
with_variables vs x = lending vs x.curves x.functions x.groups x.values x.blocks x.lengths x.sums

abbrev pub by_columns : Lending → Lending
by_columns x = with_variables (records_of (columns_of x.variables)) x

-- more than 64 records break a rule
long_variables : (vs : List Variable) → 64 < length vs → not (usable_variables vs) ≡ true
long_variables vs h = ap not (not_so (usable_variables vs) (λ e. omega (arith, variables_most vs e)))

long_board : (x : Lending) (s : State) → 64 < length x.variables → usable (table_in x) s ≡ false
long_board x s h = not_usable (table_in x) s (λ u. omega (arith, variables_most x.variables u.variables))

-- so a call on more of them is refused, and leaves all as it was
module _ (x : Lending) (own multicast busy : ℕ) (request reply : List ℕ) where
  abbrev untouched : PlainPacketLeft
  untouched =
      plain_packet_left (plain_outcome_of (O.Refused BoardUnusable)) (table_with (groups_of x.groups) x.groups) reply x.values x.blocks x.lengths x.sums

  module _ (us : List Variable) (h : 64 < length us) where
    abbrev y : Lending
    y = with_variables us x

    stops : packet (table_in y) (placed own multicast) busy (length reply) request (held_in y) ≡ refuse (held_in y) BoardUnusable
    unfolding packet
    stops = sym (faults_some (table_in y) (held_in y) _ _ _ (long_board y (held_in y) h) refl)

    long_packet : packet_of y own multicast busy request reply ≡ untouched
    long_packet =
        let values = join_cut (layout (table_in y)).sizes x.values in
        let blocks = join_cut (block_sizes (layout (table_in y)).curves) x.blocks in
        let sums = join_cut (sum_sizes (layout (table_in y)).curves) x.sums in
        ap (λ z. plain_packet_left_of (packet_left_of z reply x.groups)) stops
        ∙ (λ i. plain_packet_left (plain_outcome_of (O.Refused BoardUnusable)) (table_with (groups_of x.groups) x.groups) reply (values i) (blocks i) x.lengths (sums i))

  pub packet_same : packet_of (by_columns x) own multicast busy request reply ≡ packet_of x own multicast busy request reply
  packet_same = columns_same (λ us. packet_of (with_variables us x) own multicast busy request reply) untouched long_packet x.variables

pub result_same : (x : Lending) (f : ℕ) (due failed : Bool) (error : ℕ) (output reply : List ℕ)
    → result_of (by_columns x) f due failed error output reply ≡ result_of x f due failed error output reply
unfolding function_result
result_same x f due failed error output reply =
    columns_same (λ us. result_of (with_variables us x) f due failed error output reply) refused long x.variables
  where
    refused : PlainResultLeft
    refused = plain_result_left_of (result_left (O.Refused BoardUnusable) reply)

    long : (us : List Variable) → 64 < length us → result_of (with_variables us x) f due failed error output reply ≡ refused
    long us h =
        let y : Lending = with_variables us x in
        sym (ap (λ (z : Result). plain_result_left_of (result_left_of z.ending reply)) (faults_some (table_in y) (held_in y) (refuse (held_in y)) _ _ (long_board y (held_in y) h) refl))

pub store_same : (x : Lending) (i : ℕ) (bytes : List ℕ) → store_of (by_columns x) i bytes ≡ store_of x i bytes
unfolding board_store
store_same x i bytes = columns_same (λ us. store_of (with_variables us x) i bytes) (refused x.values) long x.variables
  where
    refused : List ℕ → PlainBytesLeft
    refused values = plain_store_left_of (store_left (Err BoardUnusable) values)

    long : (us : List Variable) → 64 < length us → store_of (with_variables us x) i bytes ≡ refused x.values
    long us h =
        let y : Lending = with_variables us x in
        sym (ap (λ (z : Result). plain_store_left_of (store_left_of z)) (faults_some (table_in y) (held_in y) (refuse (held_in y)) _ _ (long_board y (held_in y) h) refl))
        ∙ ap refused (join_cut (layout (table_in y)).sizes x.values)

pub fresh_same : (x : Lending) → fresh_of (by_columns x) ≡ fresh_of x
unfolding fresh_board
fresh_same x = columns_same (λ us. fresh_of (with_variables us x)) (refused x.sums) long x.variables
  where
    refused : List ℕ → PlainFreshLeft
    refused sums = plain_fresh_left_of (fresh_left (Err BoardUnusable) x.lengths sums)

    filled : Lending → State
    filled y = full (layout (table_in y)) (held_in y)

    long : (us : List Variable) → 64 < length us → fresh_of (with_variables us x) ≡ refused x.sums
    long us h =
        let y : Lending = with_variables us x in
        sym (ap (λ (z : Result). plain_fresh_left_of (fresh_left_of z)) (faults_some (table_in y) (filled y) (refuse (held_in y)) _ _ (long_board y (filled y) h) refl))
        ∙ ap refused (join_cut (sum_sizes (layout (table_in y)).curves) x.sums)

pub reading_same : (vs : List Variable) (i : ℕ) (signed : Bool) (bytes : List ℕ)
    → reading_of (records_of (columns_of vs)) i signed bytes ≡ reading_of vs i signed bytes
unfolding reading
reading_same vs i signed bytes = columns_same (λ us. reading_of us i signed bytes) (plain_reading_of (Reading.refused BoardUnusable)) long vs
  where
    long : (us : List Variable) → 64 < length us → reading_of us i signed bytes ≡ plain_reading_of (Reading.refused BoardUnusable)
    long us h = sym (ap plain_reading_of (first_stop _ _ _ _ _ _ _ (long_variables us h) refl))

pub writing_same : (vs : List Variable) (i : ℕ) (signed : Bool) (z : ℤ) (buffer : List ℕ)
    → writing_of (records_of (columns_of vs)) i signed z buffer ≡ writing_of vs i signed z buffer
unfolding writing
writing_same vs i signed z buffer = columns_same (λ us. writing_of us i signed z buffer) (left (Written.refused BoardUnusable)) long vs
  where
    left : Written → PlainBytesLeft
    left w = plain_writing_left_of (writing_left_of w buffer)

    long : (us : List Variable) → 64 < length us → writing_of us i signed z buffer ≡ left (Written.refused BoardUnusable)
    long us h = sym (ap left (first_stop _ _ _ _ _ _ _ (long_variables us h) refl))
