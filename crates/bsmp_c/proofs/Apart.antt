-- Demand 3, said of the exported functions: what runs of calls give on two boards that lend alike but for the bytes of variable v, or for
-- bytes past the blocks' lengths. A run is a chain of calls of which nothing is known but that each keeps its function's promise (`Runs`);
-- `run_is` says that it is the definition's run of the same calls, so the laws of Rattle.bsmp.proofs.Lent on runs of calls hold of it.
-- Assumes nothing.
use mathlib.Core.Path.{◌≡◌, refl, sym, ap, ap₂, ◌∙◌, subst₂}
use mathlib.Core.Logic.{◌↔◌}
use mathlib.Core.Bool.{Bool, true}
use mathlib.Core.List.{List, [], ◌∷◌, ◌++◌, map}
use Prim.Native.Nat.{ℕ, ◌≤◌, ◌<◌}
use native.Mathlib.Omega.{arith}
use borrow.Author.Tests.{ne_eqb}
use lib.ListN.{length, take, drop, length-take, length-append, length-map}
use lib.Seq.{take-take, take-append_seam}
use Rattle.bsmp.specs.Base.{join, every}
use Rattle.bsmp.specs.Board.{Table, layout, State, full, usable, faults, variable, function}
use Rattle.bsmp.specs.Packet.{Place, Result, refuse, store_tests, board_store, fresh_board}
use Rattle.bsmp.specs.Store.{Lent, held, lent_of, bytes_in, Left, leaves}
use Rattle.bsmp.specs.Apart.{arrives, happen, reads, packet_in, result_in, event_of, left_by, Seen, answer_in, seen_of, seen_all, lent_after, LentAlike, LentAlikeButStale, unread, never_fresh}
use Rattle.bsmp.specs.Codes.{refusal_number}
use Rattle.bsmp.specs.declared.VariableNumber.{VariableNumber}
use Rattle.bsmp.specs.declared.Variable.{Variable}
use Rattle.bsmp.specs.declared.Refusal.{Refusal}
use Rattle.bsmp.specs.declared.Outcome.{Outcome}
use Rattle.bsmp.specs.declared.Outcome.TheVariants as O
use Rattle.bsmp.proofs.Chain.{first_case}
use Rattle.bsmp.proofs.Keeps.{result_keeps, store_keeps, fresh_keeps}
use Rattle.bsmp.proofs.Store.{lent_held}
use Rattle.bsmp.proofs.Stays.{stays, held_again}
use Rattle.bsmp.proofs.Lent.{lent_before, lent_apart, lent_stale}
use Rattle.bsmp.proofs.Busy.{hides, hidden_unread}
use Rattle.records.specs.Lending.{groups_of, lent_values, lent_blocks, lent_sums}
use Rattle.records.specs.declared.Groups.{Groups}
use Rattle.records.proofs.Lending.{groups_lent}
use Rattle.records.proofs.Sound.{usable_sound, groups_most}
use Rattle.wire.specs.Opening.{placed}
use Rattle.node.specs.Promise.{table_with}
use Rattle.results.specs.Results.{stored_of}
use Rattle.plain.specs.Lending.{Lending, lending, table_in, lent_in, held_in}
use Rattle.endings.specs.Numbers.{plain_outcome_of, ran_from, done_number}
use Rattle.plain.specs.Calls.{PlainPacketLeft, packet_of, PlainResultLeft, result_of, PlainBytesLeft, store_of, PlainFreshLeft, fresh_of}
use Rattle.endings.proofs.Back.{refusal_some}
use Rattle.bsmp_c.specs.Runs.{Turn, packet_turn, result_turn, store_turn, fresh_turn, Promised, left_in, Runs, last_in, call_of, calls_in}
use Rattle.bsmp_c.specs.Runs.{PlainSeen, plain_seen, number_seen, sees, seen_in, IsRefused, buffer_in, buffer_left}
use Rattle.bsmp_c.proofs.Unique.{packet_refused, function_result_refused, board_store_refused, fresh_board_refused}

-- what is seen of a call, in plain numbers
abbrev plain_seen_of : Seen → PlainSeen
plain_seen_of s = record { outcome = plain_outcome_of s.outcome; answer = s.answer }

seen_plain : (o : Outcome) (b : List ℕ) → plain_seen (plain_outcome_of o) b ≡ plain_seen_of (record { outcome = o; answer = answer_in o b })
seen_plain (O.Reply n) b = refl
seen_plain O.Silence b = refl
seen_plain (O.Run f n due) b = refl
seen_plain (O.Refused n) b = refl

number_refused : (m : Refusal) → number_seen (refusal_number m) ≡ plain_seen (plain_outcome_of (O.Refused m)) []
number_refused m = rw (ne_eqb _ _ (refusal_some m))

-- what is seen, and what is left in the stores and the group table, is the definition's call on what was lent
record Gives (a : Place) (x : Lending) (r : Turn) : Type 0 where
  pub sees_it : sees r ≡ plain_seen_of (seen_of (left_by (table_in x) a (call_of r) (lent_in x)))
  pub leaves_it : lent_in (left_in x r) ≡ lent_of (left_by (table_in x) a (call_of r) (lent_in x)).holds

-- `bsmp_packet`, on a usable board ------------------------------------------------------------------------------------------
-- a group table says the groups that it was made of
table_says : (gs : List ℕ) (g : Groups) → length gs ≤ 5 → groups_of (table_with gs g) ≡ gs
table_says gs g h =
    let n : length gs ≤ length (take 5 (gs ++ drop (length gs) g.sets)) = simp (length-take, length-append) (omega arith) in
    groups_lent (table_with gs g) n ∙ take-take (length gs) 5 (gs ++ drop (length gs) g.sets) h ∙ take-append_seam gs (drop (length gs) g.sets)

module _ (own multicast : ℕ) (x : Lending) (u : usable (table_in x) (held_in x) ≡ true) where
  abbrev a : Place
  a = placed own multicast

  abbrev t : Table
  t = table_in x

  packet_gives : (busy : ℕ) (p b : List ℕ) (z : PlainPacketLeft) → z ≡ packet_of x own multicast busy p b → Gives a x (packet_turn busy p b z)
  packet_gives busy p b z h =
      let after : State = (happen t a (arrives busy (length b) p) (held_in x)).state in
      let k : usable t after ≡ true = stays t a (arrives busy (length b) p) (held_in x) u in
      let few : length after.groups ≤ 5 = groups_most (length x.variables) after.groups (usable_sound t (lent_of after) (rw (held_again t after k) k)).groups in
      let y : Left = left_by t a (packet_in busy p b) (lent_in x) in
      let e : groups_of z.groups ≡ after.groups = (λ i. groups_of (h i).groups) ∙ table_says after.groups x.groups few in
      record {
        sees_it = (λ i. plain_seen (h i).outcome (h i).reply) ∙ seen_plain y.outcome y.buffer;
        leaves_it = λ i. record { values = (h i).values; blocks = (h i).blocks; lengths = (h i).lengths; sums = (h i).sums; groups = e i };
      }

  -- `bsmp_function_result`: nothing that the board holds changes
  result_gives : (f : ℕ) (due failed : Bool) (error : ℕ) (out b : List ℕ) (z : PlainResultLeft) → z ≡ result_of x f due failed error out b
      → Gives a x (result_turn f due failed error out b z)
  result_gives f due failed error out b z h =
      let y : Left = left_by t a (result_in (function f) due (ran_from failed error out) b) (lent_in x) in
      let k : y.holds ≡ held_in x = result_keeps t (length b) (function f) due (ran_from failed error out) (held_in x) in
      record {
        sees_it = (λ i. plain_seen (h i).outcome (h i).reply) ∙ seen_plain y.outcome y.buffer;
        leaves_it = sym (ap lent_of k ∙ lent_held (layout t) (lent_in x));
      }

  -- `bsmp_board_store`: all but the values stays
  store_seen : (i : VariableNumber) (b : List ℕ) (s : State)
      → number_seen (done_number (stored_of (board_store t i b s).ending)) ≡ plain_seen_of (seen_of (leaves (board_store t i b s) []))
  unfolding board_store
  store_seen i b s =
      let Said : Result → Type 0 = λ y. number_seen (done_number (stored_of y.ending)) ≡ plain_seen_of (seen_of (leaves y [])) in
      first_case Said (faults t s) (refuse s) _ number_refused (λ d. first_case Said (store_tests (layout t) i b) (refuse s) _ number_refused (λ c. refl))

  store_gives : (i : ℕ) (b : List ℕ) (z : PlainBytesLeft) → z ≡ store_of x i b → Gives a x (store_turn i b z)
  store_gives i b z h =
      let after : State = (board_store t (variable i) b (held_in x)).state in
      let k : lent_of after ≡ lent_values (lent_of (held_in x)) (join after.values) = ap lent_of (store_keeps t (variable i) b (held_in x)) in
      record {
        sees_it = ap (λ (y : PlainBytesLeft). number_seen y.number) h ∙ store_seen (variable i) b (held_in x);
        leaves_it = ap (λ (y : PlainBytesLeft). lent_values (lent_in x) y.bytes) h ∙ sym (k ∙ ap (λ y. lent_values y (join after.values)) (lent_held (layout t) (lent_in x)));
      }

  -- `bsmp_fresh_board`: all but the lengths and the sums stays
  fresh_seen : (s : State) → number_seen (done_number (stored_of (fresh_board t s).ending)) ≡ plain_seen_of (seen_of (leaves (fresh_board t s) []))
  unfolding fresh_board
  fresh_seen s =
      first_case (λ y. number_seen (done_number (stored_of y.ending)) ≡ plain_seen_of (seen_of (leaves y []))) (faults t (full (layout t) s)) (refuse s) _ number_refused (λ c. refl)

  fresh_gives : (z : PlainFreshLeft) → z ≡ fresh_of x → Gives a x (fresh_turn z)
  fresh_gives z h =
      let after : State = (fresh_board t (held_in x)).state in
      let with_both : Lent → List ℕ → List ℕ → Lent = λ y ls ds. lent_sums (lent_blocks y y.blocks ls) ds in
      let k : lent_of after ≡ with_both (lent_of (held_in x)) after.lengths (join after.sums) = ap lent_of (fresh_keeps t (held_in x)) in
      record {
        sees_it = ap (λ (y : PlainFreshLeft). number_seen y.number) h ∙ fresh_seen (held_in x);
        leaves_it = ap (λ (y : PlainFreshLeft). with_both (lent_in x) y.lengths y.sums) h
            ∙ sym (k ∙ ap (λ y. with_both y after.lengths (join after.sums)) (lent_held (layout t) (lent_in x)));
      }

  gives : (r : Turn) → Promised own multicast x r → Gives a x r
  gives (packet_turn busy p b z) = packet_gives busy p b z
  gives (result_turn f due failed error out b z) = result_gives f due failed error out b z
  gives (store_turn i b z) = store_gives i b z
  gives (fresh_turn z) = fresh_gives z

-- runs of calls ---------------------------------------------------------------------------------------------------------------
-- the records stay
table_left : (x : Lending) (r : Turn) → table_in (left_in x r) ≡ table_in x
table_left x (packet_turn busy p b z) = refl
table_left x (result_turn f due failed error out b z) = refl
table_left x (store_turn i b z) = refl
table_left x (fresh_turn z) = refl

module _ (own multicast : ℕ) where
  abbrev place : Place
  place = placed own multicast

  -- a usable board is usable again after any call that keeps its promise
  pub usable_left : (x : Lending) (r : Turn) → usable (table_in x) (held_in x) ≡ true → Promised own multicast x r
      → usable (table_in (left_in x r)) (held_in (left_in x r)) ≡ true
  usable_left x r u h =
      let t : Table = table_in x in
      let s : State = (left_by t place (call_of r) (lent_in x)).holds in
      let k : usable t s ≡ true = stays t place (event_of (call_of r)) (held_in x) u in
      ap (λ w. usable w (held (layout w) (lent_in (left_in x r)))) (table_left x r)
      ∙ ap (λ y. usable t (held (layout t) y)) (gives own multicast x u r h).leaves_it ∙ ap (usable t) (held_again t s k) ∙ k

  -- so a run of calls, each by its promise alone, is the definition's run of the same calls
  pub run_is : (x : Lending) (rs : List Turn) → usable (table_in x) (held_in x) ≡ true → Runs own multicast x rs
      → (seen_in rs ≡ map plain_seen_of (seen_all (table_in x) place (calls_in rs) (lent_in x)))
      × (lent_in (last_in x rs) ≡ lent_after (table_in x) place (calls_in rs) (lent_in x))
      × (table_in (last_in x rs) ≡ table_in x)
      × (usable (table_in (last_in x rs)) (held_in (last_in x rs)) ≡ true)
  run_is x [] u h = (refl, refl, refl, u)
  run_is x (r ∷ rs) u h =
      let t : Table = table_in x in
      let g : Gives place x r = gives own multicast x u r h.0 in
      let n = run_is (left_in x r) rs (usable_left x r u h.0) h.1 in
      let k : table_in (left_in x r) ≡ t = table_left x r in (
        ap₂ ◌∷◌ g.sees_it (n.0 ∙ ap₂ (λ w y. map plain_seen_of (seen_all w place (calls_in rs) y)) k g.leaves_it),
        n.1 ∙ ap₂ (λ w y. lent_after w place (calls_in rs) y) k g.leaves_it,
        n.2 ∙ k,
        n.3,
      )

-- "changes no byte of any store, group table or buffer": a refused call leaves all that was lent as it was, unused places of the group
-- table too
pub refused_leaves : (own multicast : ℕ) (x : Lending) (r : Turn) → length x.groups.sets ≡ 5 → Promised own multicast x r → IsRefused r
    → (left_in x r ≡ x) × (buffer_left r ≡ buffer_in r)
refused_leaves own multicast x (packet_turn busy p b z) five h k =
    let w = packet_refused x own multicast busy p b z.outcome z.groups z.reply z.values z.blocks z.lengths z.sums five h k in
    (λ i. lending x.variables x.curves x.functions (w.5 i) (w.1 i) (w.2 i) (w.3 i) (w.4 i), w.0)
refused_leaves own multicast x (result_turn f due failed error out b z) five h k =
    (refl, function_result_refused x f due failed error out b z.outcome z.reply h k)
refused_leaves own multicast x (store_turn i b z) five h k =
    let w = board_store_refused x i b z.number z.bytes h k in
    (λ j. lending x.variables x.curves x.functions x.groups (w j) x.blocks x.lengths x.sums, refl)
refused_leaves own multicast x (fresh_turn z) five h k =
    let w = fresh_board_refused x z.number z.lengths z.sums h k in
    (λ j. lending x.variables x.curves x.functions x.groups x.values x.blocks (w.0 j) (w.1 j), refl)

-- two runs, on two boards with the same records
module _ (own multicast : ℕ) (vs : List Variable) (cs fs : List ℕ) (g₁ g₂ : Groups) (values₁ values₂ blocks₁ blocks₂ lengths₁ lengths₂ sums₁ sums₂ : List ℕ) where
  abbrev x₁ : Lending
  x₁ = lending vs cs fs g₁ values₁ blocks₁ lengths₁ sums₁

  abbrev x₂ : Lending
  x₂ = lending vs cs fs g₂ values₂ blocks₂ lengths₂ sums₂

  abbrev T : Table
  T = table_in x₁

  abbrev A : Place
  A = placed own multicast

  module _ (u₁ : usable T (held_in x₁) ≡ true) (u₂ : usable T (held_in x₂) ≡ true)
      (rs₁ rs₂ : List Turn) (runs₁ : Runs own multicast x₁ rs₁) (runs₂ : Runs own multicast x₂ rs₂) where
    abbrev y₁ : Lending
    y₁ = last_in x₁ rs₁

    abbrev y₂ : Lending
    y₂ = last_in x₂ rs₂

    -- what the definition's runs see and leave alike these do
    alike : (R : Lent → Lent → Type 0)
        → (seen_all T A (calls_in rs₁) (lent_in x₁) ≡ seen_all T A (calls_in rs₂) (lent_in x₂))
        × R (lent_after T A (calls_in rs₁) (lent_in x₁)) (lent_after T A (calls_in rs₂) (lent_in x₂))
        → (seen_in rs₁ ≡ seen_in rs₂) × R (lent_in y₁) (lent_in y₂)
    alike R b =
        let n₁ = run_is own multicast x₁ rs₁ u₁ runs₁ in
        let n₂ = run_is own multicast x₂ rs₂ u₂ runs₂ in
        (n₁.0 ∙ ap (map plain_seen_of) b.0 ∙ sym n₂.0, subst₂ R (sym n₁.1) (sym n₂.1) b.1)

    -- the same calls on both
    module _ (same : map event_of (calls_in rs₁) ≡ map event_of (calls_in rs₂)) where
      -- bytes past the blocks' lengths are never seen: all that is seen is equal, until a fresh board, and the boards lend alike but for such bytes
      pub runs_stale : LentAlikeButStale (layout T) (lent_in x₁) (lent_in x₂) → never_fresh (map event_of (calls_in rs₁)) ≡ true
          → (seen_in rs₁ ≡ seen_in rs₂) × LentAlikeButStale (layout T) (lent_in y₁) (lent_in y₂)
      runs_stale h old =
          alike (LentAlikeButStale (layout T)) (lent_stale T A (lent_in x₁) (lent_in x₂) u₁ u₂ h (calls_in rs₁) (calls_in rs₂) same old)

      -- demand 3: the boards lend alike but for v, and none of the calls reads v
      module _ (v : VariableNumber) (h : LentAlike (layout T) v (lent_in x₁) (lent_in x₂)) (quiet : unread T A v (map event_of (calls_in rs₁)) (held_in x₁) ≡ true) where
        -- all that is seen is equal, and the boards lend alike but for v ..
        pub runs_before : (seen_in rs₁ ≡ seen_in rs₂) × LentAlike (layout T) v (lent_in y₁) (lent_in y₂)
        runs_before =
            alike (LentAlike (layout T) v) (lent_before T A v (lent_in x₁) (lent_in x₂) u₁ u₂ h (calls_in rs₁) (calls_in rs₂) same quiet)

        -- .. and at a next call that reads v the answers are equal exactly if the bytes of v that it leaves are
        pub runs_apart : (r₁ r₂ : Turn) → Promised own multicast y₁ r₁ → Promised own multicast y₂ r₂ → event_of (call_of r₁) ≡ event_of (call_of r₂)
            → v.0 < length vs → reads T A v (event_of (call_of r₁)) (held (layout T) (lent_in y₁)) ≡ true
            → ((sees r₁).answer ≡ (sees r₂).answer) ↔ (bytes_in (layout T) (left_in y₁ r₁).values v ≡ bytes_in (layout T) (left_in y₂ r₂).values v)
        runs_apart r₁ r₂ p₁ p₂ e k q =
            let n₁ = run_is own multicast x₁ rs₁ u₁ runs₁ in
            let n₂ = run_is own multicast x₂ rs₂ u₂ runs₂ in
            let k' : v.0 < length (layout T).sizes = rw (length-map vs (λ (w : Variable). w.size)) k in
            let f = sym (ap (λ y. reads T A v (event_of (call_of r₁)) (held (layout T) y)) n₁.1) ∙ q in
            let w = lent_apart T A v (lent_in x₁) (lent_in x₂) u₁ u₂ h (calls_in rs₁) (calls_in rs₂) same quiet (call_of r₁) (call_of r₂) e k' f in
            let i₁ = gives own multicast y₁ n₁.3 r₁ p₁ in
            let i₂ = gives own multicast y₂ n₂.3 r₂ p₂ in
            let a₁ = ap (λ (s : PlainSeen). s.answer) i₁.sees_it ∙ ap₂ (λ t y. (seen_of (left_by t A (call_of r₁) y)).answer) n₁.2 n₁.1 in
            let a₂ = ap (λ (s : PlainSeen). s.answer) i₂.sees_it ∙ ap₂ (λ t y. (seen_of (left_by t A (call_of r₂) y)).answer) n₂.2 n₂.1 in
            let b₁ = ap (λ (y : Lent). bytes_in (layout T) y.values v) (i₁.leaves_it ∙ ap₂ (λ t y. lent_of (left_by t A (call_of r₁) y).holds) n₁.2 n₁.1) in
            let b₂ = ap (λ (y : Lent). bytes_in (layout T) y.values v) (i₂.leaves_it ∙ ap₂ (λ t y. lent_of (left_by t A (call_of r₂) y).holds) n₂.2 n₂.1) in
            (λ z. b₁ ∙ w.0 (sym a₁ ∙ z ∙ a₂) ∙ sym b₂, λ z. a₁ ∙ w.1 (sym b₁ ∙ z ∙ b₂) ∙ sym a₂)

      -- half a value never travels: as long as each packet finds v busy, all that is seen is equal, whatever bytes v has
      pub runs_busy : (v : VariableNumber) → LentAlike (layout T) v (lent_in x₁) (lent_in x₂) → every (hides v) (map event_of (calls_in rs₁)) ≡ true → seen_in rs₁ ≡ seen_in rs₂
      runs_busy v h busy = (runs_before v h (hidden_unread T A v (map event_of (calls_in rs₁)) (held_in x₁) busy)).0
