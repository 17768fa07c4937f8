-- What nothing changes: a local refusal, a wire error, and for most of what a board holds all but a few commands; and a multicast is never
-- answered. Assumes nothing.
use mathlib.Core.Path.{◌≡◌, refl, ap, ◌∙◌}
use mathlib.Core.Logic.{◌≢◌}
use mathlib.Core.Bool.{Bool, true, false}
use mathlib.Core.List.{List}
use Prim.Native.Nat.{ℕ}
use native.Mathlib.Omega.{arith}
use lib.ListN.{drop}
use Rattle.bsmp.specs.Base.{byte_at}
use Rattle.bsmp.specs.Codes.{command_of, Fail}
use Rattle.bsmp.specs.Board.{Table, Layout, layout, State, with_values, with_lengths, with_sums, with_groups, full, fresh, faults}
use Rattle.bsmp.specs.Message.{Said, replies, runs, line, after, carried, state_after, handled, asked, judge}
use Rattle.bsmp.specs.Packet.{Place, Ending, reply, silence, run, Result, refuse, Ran, ends, place_tests, packet_tests, served, packet, result_tests, function_result, store_tests, board_store, fresh_board, is_own, destination}
use Rattle.bsmp.specs.Store.{Lent, held, lent_of, outcome_of, shown}
use Rattle.bsmp.specs.Apart.{Event, arrives, returns, stores, freshens, happen, Call, event_of, buffer_of, left_by}
use Rattle.bsmp.specs.declared.VariableNumber.{VariableNumber}
use Rattle.bsmp.specs.declared.FunctionNumber.{FunctionNumber}
use Rattle.bsmp.specs.declared.Refusal.{Refusal}
use Rattle.bsmp.specs.declared.WireError.{WireError}
use Rattle.bsmp.specs.declared.Outcome.TheVariants.{Refused}
use Rattle.bsmp.specs.declared.Command.{Command}
use Rattle.bsmp.specs.declared.Command.TheVariants.{Version, ListVariables, ListGroups, ShowGroup, ListCurves, ReadSum, ListFunctions, ReadVariable, ReadGroup, WriteVariable, WriteGroup}
use Rattle.bsmp.specs.declared.Command.TheVariants.{MaskVariable, MaskGroup, WriteRead, MakeGroup, RemoveGroups, ReadBlock, WriteBlock, RenewSum, RunFunction, Unknown}
use Rattle.bsmp.proofs.Chain.{first_case}
use Rattle.bsmp.proofs.Accepted.{judge_case}
use Rattle.bsmp.proofs.Store.{lent_held}

-- "An error changes values, curves and groups in no byte"
pub error_keeps : (l : Layout) (busy : ℕ) (m : List ℕ) (s : State) (e : WireError) → judge l s.groups busy m ≡ Fail e → (handled l busy m s).state ≡ s
unfolding handled carried state_after
error_keeps l busy m s e h = ap (λ v. state_after (asked l s.groups m) v s) h

-- of the curves, a sum is changed by 42 alone, a block and its length by 41 alone
pub record CurvesKept (k : Command) (s s' : State) : Type 0 where
  pub sums : k ≢ RenewSum → s'.sums ≡ s.sums
  pub blocks : k ≢ WriteBlock → s'.blocks ≡ s.blocks
  pub lengths : k ≢ WriteBlock → s'.lengths ≡ s.lengths

module _ (s : State) where
  kept : {k : Command} {vs : List (List ℕ)} {gs : List ℕ} → CurvesKept k s (with_groups (with_values s vs) gs)
  kept = record { sums = λ n. refl; blocks = λ n. refl; lengths = λ n. refl }

  line_keeps : (l : Layout) (gs p : List ℕ) (k : Command) → CurvesKept k s (after (line l gs p k).change s)
  unfolding line after
  line_keeps l gs p = elim [
    | Version ↦ kept
    | ListVariables ↦ kept
    | ListGroups ↦ kept
    | ShowGroup ↦ kept
    | ListCurves ↦ kept
    | ReadSum ↦ kept
    | ListFunctions ↦ kept
    | ReadVariable ↦ kept
    | ReadGroup ↦ kept
    | WriteVariable ↦ kept
    | WriteGroup ↦ kept
    | MaskVariable ↦ kept
    | MaskGroup ↦ kept
    | WriteRead ↦ kept
    | MakeGroup ↦ kept
    | RemoveGroups ↦ kept
    | ReadBlock ↦ kept
    | WriteBlock ↦ record { sums = λ n. refl; blocks = λ n. absurd (n refl); lengths = λ n. absurd (n refl) }
    | RenewSum ↦ record { sums = λ n. absurd (n refl); blocks = λ n. refl; lengths = λ n. refl }
    | RunFunction ↦ kept
    | Unknown ↦ kept
  ]

pub curves_kept : (l : Layout) (busy : ℕ) (m : List ℕ) (s : State) → CurvesKept (command_of (byte_at m 0)) s (handled l busy m s).state
unfolding handled carried state_after
curves_kept l busy m s =
    judge_case l s.groups busy m (λ v. CurvesKept (command_of (byte_at m 0)) s (state_after (asked l s.groups m) v s)) (λ e. kept s)
    (λ f c. line_keeps s l s.groups (drop 3 m) (command_of (byte_at m 0)))

-- the ending is no local refusal
abbrev Allowed : Ending → Type 0
Allowed e = (r : Refusal) → e ≡ Ending.refused r → ⊥

ends_allowed : (due : Bool) (x : Said) → Allowed (ends due x)
unfolding ends
ends_allowed true (replies c p) r h = let z : ◌≡◌ {A = ℕ} 0 1 = cc in absurd (omega arith)
ends_allowed false (replies c p) r h = let z : ◌≡◌ {A = ℕ} 0 1 = cc in absurd (omega arith)
ends_allowed due (runs f i) r h = let z : ◌≡◌ {A = ℕ} 0 1 = cc in absurd (omega arith)

silence_allowed : Allowed silence
silence_allowed r h = let z : ◌≡◌ {A = ℕ} 0 1 = cc in absurd (omega arith)

-- "A local refusal returns its number only and changes no byte of any store, group table"
pub refusal_keeps : (t : Table) (a : Place) (e : Event) (s : State) (r : Refusal) → (happen t a e s).ending ≡ Ending.refused r → (happen t a e s).state ≡ s
unfolding packet served function_result board_store fresh_board
refusal_keeps t a (arrives busy room p) s r =
    first_case (λ x. x.ending ≡ Ending.refused r → x.state ≡ s) (faults t s) (refuse s) _ (λ m h. refl)
    (λ b. first_case (λ x. x.ending ≡ Ending.refused r → x.state ≡ s) (place_tests a room) (refuse s) _ (λ m h. refl)
    (λ c. first_case (λ x. x.ending ≡ Ending.refused r → x.state ≡ s) (packet_tests a p) (refuse s) _ (λ m h. refl)
    (λ d h. absurd (ends_allowed _ _ r h))))
refusal_keeps t a (returns room f due ran) s r =
    first_case (λ x. x.ending ≡ Ending.refused r → x.state ≡ s) (faults t s) (refuse s) _ (λ m h. refl)
    (λ b. first_case (λ x. x.ending ≡ Ending.refused r → x.state ≡ s) (result_tests (layout t) room f ran) (refuse s) _ (λ m h. refl) (λ c h. refl))
refusal_keeps t a (stores i b) s r =
    first_case (λ x. x.ending ≡ Ending.refused r → x.state ≡ s) (faults t s) (refuse s) _ (λ m h. refl)
    (λ d. first_case (λ x. x.ending ≡ Ending.refused r → x.state ≡ s) (store_tests (layout t) i b) (refuse s) _ (λ m h. refl)
    (λ c h. absurd (silence_allowed r h)))
refusal_keeps t a freshens s r =
    first_case (λ x. x.ending ≡ Ending.refused r → x.state ≡ s) (faults t (full (layout t) s)) (refuse s) _ (λ m h. refl) (λ b h. absurd (silence_allowed r h))

pub outcome_refused : (e : Ending) (r : Refusal) → outcome_of e ≡ Refused r → e ≡ Ending.refused r
outcome_refused (reply b) r h = cc
outcome_refused silence r h = cc
outcome_refused (run f i due) r h = cc
outcome_refused (Ending.refused m) r h = cc

-- a function's result changes nothing that the board holds, a board store the values alone, a fresh board the lengths and the sums alone
pub result_keeps : (t : Table) (room : ℕ) (f : FunctionNumber) (due : Bool) (r : Ran) (s : State) → (function_result t room f due r s).state ≡ s
unfolding function_result
result_keeps t room f due r s =
    first_case (λ x. x.state ≡ s) (faults t s) (refuse s) _ (λ m. refl)
    (λ b. first_case (λ x. x.state ≡ s) (result_tests (layout t) room f r) (refuse s) _ (λ m. refl) (λ c. refl))

pub store_keeps : (t : Table) (i : VariableNumber) (b : List ℕ) (s : State) → (board_store t i b s).state ≡ with_values s (board_store t i b s).state.values
unfolding board_store after
store_keeps t i b s =
    let Kept : Result → Type 0 = λ x. x.state ≡ with_values s x.state.values in
    first_case Kept (faults t s) (refuse s) _ (λ m. refl) (λ d. first_case Kept (store_tests (layout t) i b) (refuse s) _ (λ m. refl) (λ c. refl))

pub fresh_keeps : (t : Table) (s : State) → (fresh_board t s).state ≡ with_sums (with_lengths s (fresh_board t s).state.lengths) (fresh_board t s).state.sums
unfolding fresh_board fresh
fresh_keeps t s =
    let Kept : Result → Type 0 = λ x. x.state ≡ with_sums (with_lengths s x.state.lengths) x.state.sums in
    first_case Kept (faults t (full (layout t) s)) (refuse s) _ (λ m. refl) (λ c. refl)

-- the same over what is lent: no byte of any store, group table or buffer, whatever their lengths
pub refusal_keeps_lent : (t : Table) (a : Place) (c : Call) (x : Lent) (r : Refusal) → (left_by t a c x).outcome ≡ Refused r
    → (lent_of (left_by t a c x).holds ≡ x) × ((left_by t a c x).buffer ≡ buffer_of c)
refusal_keeps_lent t a c x r h =
    let o : (happen t a (event_of c) (held (layout t) x)).ending ≡ Ending.refused r = outcome_refused _ r h in (
      ap lent_of (refusal_keeps t a (event_of c) (held (layout t) x) r o) ∙ lent_held (layout t) x,
      ap (λ e. shown e (buffer_of c)) o,
    )

-- "Packets to 248..255 are carried out .., and never answered"
abbrev Unanswered : Ending → Type 0
Unanswered e = (r : List ℕ) → e ≡ reply r → ⊥

refused_unanswered : (m : Refusal) → Unanswered (Ending.refused m)
refused_unanswered m r h = let z : ◌≡◌ {A = ℕ} 0 1 = cc in absurd (omega arith)

not_due : (x : Said) → Unanswered (ends false x)
unfolding ends
not_due (replies c p) r h = let z : ◌≡◌ {A = ℕ} 0 1 = cc in absurd (omega arith)
not_due (runs f i) r h = let z : ◌≡◌ {A = ℕ} 0 1 = cc in absurd (omega arith)

pub never_answered : (t : Table) (a : Place) (busy room : ℕ) (p : List ℕ) (s : State) → is_own a (destination p) ≡ false
    → (r : List ℕ) → (packet t a busy room p s).ending ≡ reply r → ⊥
unfolding packet served
never_answered t a busy room p s h =
    first_case (λ x. Unanswered x.ending) (faults t s) (refuse s) _ refused_unanswered
    (λ b. first_case (λ x. Unanswered x.ending) (place_tests a room) (refuse s) _ refused_unanswered
    (λ c. first_case (λ x. Unanswered x.ending) (packet_tests a p) (refuse s) _ refused_unanswered (λ d. rw h (not_due _))))
