-- Busy marks (02, 2026-01): while a variable is busy no packet shows anything of it or changes it, so half a value never travels. And
-- what goes by no mark. Assumes nothing.
use Rattle.std.specs.Prelude.{Ok, Err}
use mathlib.Core.Path.{◌≡◌, refl, sym, ap, ap₂, ◌∙◌}
use mathlib.Core.Bool.{Bool, true, false, ◌||◌, true≢false}
use mathlib.Core.List.{List, [], ◌∷◌, map, append-nil}
use Prim.Native.Nat.{ℕ, ◌<◌}
use lib.Dec.{ltb}
use lib.ListN.{length, drop}
use borrow.Author.Tests.{ltb-true, not-false}
use Rattle.bsmp.specs.Base.{some, every, first, byte_at}
use Rattle.bsmp.specs.Codes.{command_of, Check, Pass, Fail}
use Rattle.bsmp.specs.Board.{Table, Layout, layout, State, value_of, is_same, marked, members, faults}
use Rattle.bsmp.specs.Message.{Change, nothing, edit, fill, renew, regroup, Line, written, touched, last_tests, form_tests, line, check, judge, asked, group_id_at, variable_at, no_variable}
use Rattle.bsmp.specs.Message.{after, state_after, carried, handled}
use Rattle.bsmp.specs.Packet.{Place, Result, refuse, message, place_tests, packet_tests, served, packet}
use Rattle.bsmp.specs.Apart.{Alike, Event, arrives, returns, stores, freshens, happen, reads, endings, unread}
use Rattle.bsmp.specs.declared.VariableNumber.{VariableNumber}
use Rattle.bsmp.specs.declared.Command.{Command}
use Rattle.bsmp.specs.declared.Command.TheVariants.{Version, ListVariables, ListGroups, ShowGroup, ListCurves, ReadSum, ListFunctions, ReadVariable, ReadGroup, WriteVariable, WriteGroup}
use Rattle.bsmp.specs.declared.Command.TheVariants.{MaskVariable, MaskGroup, WriteRead, MakeGroup, RemoveGroups, ReadBlock, WriteBlock, RenewSum, RunFunction, Unknown}
use Rattle.bsmp.proofs.Bools.{or_false, not_so, and_true}
use Rattle.bsmp.proofs.Chain.{clear, clear_at, first_case, first_tail}
use Rattle.bsmp.proofs.Accepted.{told_free, written_free}
use Rattle.bsmp.proofs.Apart.{before}
use Rattle.bsmp.proofs.Reading.{reads_tells}
use Rattle.bsmp.proofs.Group.{edited_others, members_known}

-- half a value ----------------------------------------------------------------------------------------------------------------
-- v is marked as busy in what happens; a function's result, a board store and the sums of a fresh board go by no mark, and read nothing
abbrev pub hides : VariableNumber → Event → Bool
hides v (arrives busy room p) = marked busy v
hides v (returns room f due r) = true
hides v (stores i b) = true
hides v freshens = true

module _ (t : Table) (a : Place) (v : VariableNumber) where
  hidden_one : (e : Event) (s : State) → hides v e ≡ true → reads t a v e s ≡ false
  hidden_one (arrives busy room p) s h =
      not_so _ (λ k. let r = reads_tells t a v busy room p s k in
      true≢false (sym h ∙ told_free (layout t) s.groups busy (message p) r.passes v r.told))
  hidden_one (returns room f due r) s h = refl
  hidden_one (stores i b) s h = refl
  hidden_one freshens s h = refl

  pub hidden_unread : (es : List Event) (s : State) → every (hides v) es ≡ true → unread t a v es s ≡ true
  hidden_unread [] s h = refl
  hidden_unread (e ∷ es) s h =
      let w : (hides v e ≡ true) × (every (hides v) es ≡ true) = and_true _ _ h in
      rw (hidden_one e s w.0) (hidden_unread es (happen t a e s).state w.1)

  -- boards that differ in nothing but v, in whatever bytes, end alike as long as v is busy
  pub never_travels : (es : List Event) (s₁ s₂ : State) → Alike v s₁ s₂ → every (hides v) es ≡ true → endings t a es s₁ ≡ endings t a es s₂
  never_travels es s₁ s₂ k h = (before t a v es s₁ s₂ k (hidden_unread es s₁ h)).0

  -- and no packet changes it meanwhile
  after_others : (ch : Change) (s : State) → some (is_same v) (written ch) ≡ false → value_of (after ch s) v ≡ value_of s v
  unfolding after
  after_others nothing s h = refl
  after_others (edit op is ps) s h = edited_others op is ps s.values v h
  after_others (fill k d) s h = refl
  after_others (renew c k n) s h = refl
  after_others (regroup gs) s h = refl

  stays_by : (busy : ℕ) (m : List ℕ) (s : State) → marked busy v ≡ true → (c : Check) → judge (layout t) s.groups busy m ≡ c
      → value_of (state_after (asked (layout t) s.groups m) c s) v ≡ value_of s v
  unfolding state_after
  stays_by busy m s h (Err e) q = refl
  stays_by busy m s h (Ok _) q = after_others _ s (not_so _ (λ k. true≢false (sym h ∙ written_free (layout t) s.groups busy m q v k)))

  pub busy_stays : (busy room : ℕ) (p : List ℕ) (s : State) → marked busy v ≡ true → value_of (packet t a busy room p s).state v ≡ value_of s v
  unfolding packet served handled carried
  busy_stays busy room p s h =
      let Kept : Result → Type 0 = λ x. value_of x.state v ≡ value_of s v in
      first_case Kept (faults t s) (refuse s) _ (λ r. refl)
      (λ b. first_case Kept (place_tests a room) (refuse s) _ (λ r. refl)
      (λ c. first_case Kept (packet_tests a p) (refuse s) _ (λ r. refl) (λ d. stays_by busy (message p) s h _ refl)))

-- what goes by no mark ----------------------------------------------------------------------------------------------------------
-- the lists, 06, 40 and all others that touch no variable's value
abbrev pub markless : List Command
markless =
    Version ∷ ListVariables ∷ ListGroups ∷ ShowGroup ∷ ListCurves ∷ ReadSum ∷ ListFunctions ∷ MakeGroup ∷ RemoveGroups ∷ ReadBlock ∷ WriteBlock ∷ RenewSum ∷ RunFunction ∷ Unknown
    ∷ []

pub markless_same : (l : Layout) (gs : List ℕ) (busy busy' : ℕ) (p : List ℕ) → map (check l gs busy p) markless ≡ map (check l gs busy' p) markless
unfolding check line
markless_same l gs busy busy' p = refl

-- "higher bits count for nothing": marks that agree on the declared variables judge alike
module _ (l : Layout) where
  abbrev known : VariableNumber → Bool
  known i = ltb i.0 (length l.sizes)

  found : (i : VariableNumber) (is : List VariableNumber) → no_variable l i ≡ false → every known is ≡ true → every known (i ∷ is) ≡ true
  found i is h k = rw (not-false (known i) h) k

  module _ (gs p : List ℕ) where
    touched_known : (k : Command) → clear (line l gs p k).tests → every known (touched (line l gs p k)) ≡ true
    unfolding line
    touched_known Version c = refl
    touched_known ListVariables c = refl
    touched_known ListGroups c = refl
    touched_known ShowGroup c = refl
    touched_known ListCurves c = refl
    touched_known ReadSum c = refl
    touched_known ListFunctions c = refl
    touched_known ReadVariable c = found (variable_at p 0) [] (clear_at (line l gs p ReadVariable).tests c 1) refl
    touched_known ReadGroup c = rw (append-nil (members l gs (group_id_at p 0))) (members_known l gs (group_id_at p 0))
    touched_known WriteVariable c = found (variable_at p 0) [] (clear_at (line l gs p WriteVariable).tests c 1) refl
    touched_known WriteGroup c = members_known l gs (group_id_at p 0)
    touched_known MaskVariable c = found (variable_at p 0) [] (clear_at (line l gs p MaskVariable).tests c 1) refl
    touched_known MaskGroup c = members_known l gs (group_id_at p 0)
    touched_known WriteRead c =
        let o : (no_variable l (variable_at p 0) ≡ false) × (no_variable l (variable_at p 1) ≡ false) = or_false _ _ (clear_at (line l gs p WriteRead).tests c 1) in
        found (variable_at p 1) (variable_at p 0 ∷ []) o.1 (found (variable_at p 0) [] o.0 refl)
    touched_known MakeGroup c = refl
    touched_known RemoveGroups c = refl
    touched_known ReadBlock c = refl
    touched_known WriteBlock c = refl
    touched_known RenewSum c = refl
    touched_known RunFunction c = refl
    touched_known Unknown c = refl

  module _ (busy busy' : ℕ) (same : (i : VariableNumber) → i.0 < length l.sizes → marked busy i ≡ marked busy' i) where
    marked_same : (is : List VariableNumber) → every known is ≡ true → some (marked busy) is ≡ some (marked busy') is
    marked_same [] h = refl
    marked_same (i ∷ is) h =
        let w : (known i ≡ true) × (every known is ≡ true) = and_true _ _ h in
        ap₂ ◌||◌ (same i (ltb-true _ _ w.0)) (marked_same is w.1)

    pub past_marks : (gs m : List ℕ) → judge l gs busy m ≡ judge l gs busy' m
    unfolding judge check
    past_marks gs m =
        let n : Line = asked l gs m in
        ap (first (form_tests m) Fail)
        (first_tail n.tests _ _ Fail Pass
        (λ c. ap (λ b. last_tests b n.full) (marked_same (touched n) (touched_known gs (drop 3 m) (command_of (byte_at m 0)) c))))
