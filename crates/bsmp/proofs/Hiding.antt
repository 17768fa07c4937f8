-- The steps of demand 3, once for every relation of two boards that hides something: from what is hidden being kept by each change, to runs of
-- events that all end alike until one tells it. Apart has one variable's bytes hidden, Stale those past the blocks' lengths. Assumes nothing.
use Rattle.std.specs.Prelude.{Ok, Err}
use mathlib.Core.Path.{◌≡◌, refl, ap₂, subst}
use mathlib.Core.Logic.{◌↔◌}
use mathlib.Core.Bool.{Bool, true, false, cond, not, ◌&&◌, false≢true}
use mathlib.Core.List.{List, [], ◌∷◌}
use Prim.Native.Nat.{ℕ}
use Rattle.bsmp.specs.Base.{every, first, Test}
use Rattle.bsmp.specs.Board.{Table, Layout, layout, State, full, fresh, usable, faults}
use Rattle.bsmp.specs.Message.{Change, edit, Answer, Line, after, spoken, said, state_after, carried, handled, asked, judge}
use Rattle.bsmp.specs.Packet.{Place, Ending, silence, Result, ends, ended, served, refuse, is_own, destination, message}
use Rattle.bsmp.specs.Packet.{place_tests, packet_tests, packet, Ran, ran_says, result_tests, function_result, store_tests, board_store, fresh_board}
use Rattle.bsmp.specs.Apart.{Event, arrives, returns, stores, freshens, happen, read_by, reads_in, reads_by, answer_of, Apart, endings, later, unread_by}
use Rattle.bsmp.specs.declared.VariableNumber.{VariableNumber}
use Rattle.bsmp.specs.declared.FunctionNumber.{FunctionNumber}
use Rattle.bsmp.specs.declared.Operation.TheVariants.{Replace}
use Rattle.bsmp.specs.declared.Refusal.{Refusal}
use Rattle.bsmp.specs.Codes.{Check}
use Rattle.bsmp.proofs.Bools.{and_true, and_false}
use Rattle.bsmp.proofs.Usable.{faults_by}

-- what the steps need of a relation R: groups and usability don't go by what is hidden, each change keeps it hidden, and so does a fresh board
-- if it lasts through one; answers that don't tell it are equal, and those that do exactly if it is the same on both
pub record Hidden (R Same : State → State → Type 0) (tell : Answer → Bool) (lasts : Event → Bool) : Type 0 where
  pub groups : (s₁ s₂ : State) → R s₁ s₂ → s₁.groups ≡ s₂.groups
  pub taken : (t : Table) (s₁ s₂ : State) → R s₁ s₂ → usable t s₁ ≡ usable t s₂
  pub kept : (ch : Change) (s₁ s₂ : State) → R s₁ s₂ → R (after ch s₁) (after ch s₂)
  pub freshened : lasts freshens ≡ true → (l : Layout) (s₁ s₂ : State) → R s₁ s₂ → R (full l s₁) (full l s₂) × R (fresh l s₁) (fresh l s₂)
  pub untold : (s₁ s₂ : State) → R s₁ s₂ → (due : Bool) (an : Answer) → (due && tell an) ≡ false → ends due (spoken an s₁) ≡ ends due (spoken an s₂)
  pub told : (s₁ s₂ : State) → R s₁ s₂ → (due : Bool) (an : Answer) → (due && tell an) ≡ true
      → (answer_of (ends due (spoken an s₁)) ≡ answer_of (ends due (spoken an s₂))) ↔ Same s₁ s₂

-- tests before what tells nothing
pub first_false : (ts : List (Test Refusal)) → first ts (λ r. false) false ≡ false
unfolding first
first_false [] = refl
first_false (u ∷ us) = by u.broken (first_false us)
  where
    by : (b : Bool) → first us (λ r. false) false ≡ false → cond b false (first us (λ r. false) false) ≡ false
    by true h = refl
    by false h = h

unread_head : (a b : Bool) → (not a && b) ≡ true → (a ≡ false) × (b ≡ true)
unread_head true b e = absurd (false≢true e)
unread_head false b e = (refl, e)

module _ {R Same : State → State → Type 0} {tell : Answer → Bool} {lasts : Event → Bool} (H : Hidden R Same tell lasts) where
  -- packets, results and stores ----------------------------------------------------------------------------------------------
  quiet : (e : Ending) (s₁ s₂ : State) → R s₁ s₂ → Apart R Same (record { ending = e; state = s₁ }) (record { ending = e; state = s₂ }) false
  quiet e s₁ s₂ h = record { alike = h; same = λ r. refl; shows = λ r. absurd (false≢true r) }

  carried_apart : (due : Bool) (l : Line) (c : Check) (s₁ s₂ : State) → R s₁ s₂
      → Apart R Same (ended due (carried l c s₁)) (ended due (carried l c s₂)) (due && read_by tell l c)
  unfolding carried said state_after
  carried_apart due l (Err x) s₁ s₂ h = record { alike = h; same = λ e. refl; shows = λ e. absurd (and_false due e) }
  carried_apart due l (Ok _) s₁ s₂ h =
      let k : R (after l.change s₁) (after l.change s₂) = H.kept l.change s₁ s₂ h in
      record { alike = k; same = H.untold _ _ k due l.answer; shows = H.told _ _ k due l.answer }

  served_apart : (l : Layout) (busy : ℕ) (due : Bool) (m : List ℕ) (s₁ s₂ : State) → R s₁ s₂
      → Apart R Same (served l busy due m s₁) (served l busy due m s₂) (due && reads_in tell l s₁.groups busy m)
  unfolding served handled
  served_apart l busy due m s₁ s₂ h =
      subst (λ gs. Apart R Same (ended due (carried (asked l s₁.groups m) (judge l s₁.groups busy m) s₁))
      (ended due (carried (asked l gs m) (judge l gs busy m) s₂)) (due && reads_in tell l s₁.groups busy m))
      (H.groups s₁ s₂ h) (carried_apart due (asked l s₁.groups m) (judge l s₁.groups busy m) s₁ s₂ h)

  cond_apart : (b : Bool) {x₁ y₁ x₂ y₂ : Result} {z₁ z₂ : Bool} → Apart R Same x₁ y₁ z₁ → Apart R Same x₂ y₂ z₂
      → Apart R Same (cond b x₁ x₂) (cond b y₁ y₂) (cond b z₁ z₂)
  cond_apart true p q = p
  cond_apart false p q = q

  -- a refusal is the same on both boards and leaves both alone
  first_apart : (ts : List (Test Refusal)) (s₁ s₂ : State) (x y : Result) (z : Bool) → R s₁ s₂ → Apart R Same x y z
      → Apart R Same (first ts (refuse s₁) x) (first ts (refuse s₂) y) (first ts (λ r. false) z)
  unfolding first
  first_apart [] s₁ s₂ x y z a h = h
  first_apart (u ∷ us) s₁ s₂ x y z a h = cond_apart u.broken (quiet (Ending.refused u.error) s₁ s₂ a) (first_apart us s₁ s₂ x y z a h)

  -- an entry that never tells
  first_quiet : (ts : List (Test Refusal)) (s₁ s₂ : State) (x y : Result) → R s₁ s₂ → Apart R Same x y false
      → Apart R Same (first ts (refuse s₁) x) (first ts (refuse s₂) y) false
  first_quiet ts s₁ s₂ x y a h = subst (Apart R Same _ _) (first_false ts) (first_apart ts s₁ s₂ x y false a h)

  faults_same : (t : Table) (s₁ s₂ : State) → R s₁ s₂ → faults t s₁ ≡ faults t s₂
  faults_same t s₁ s₂ h = faults_by t s₁ s₂ (H.taken t s₁ s₂ h)

  packet_apart : (t : Table) (a : Place) (busy room : ℕ) (p : List ℕ) (s₁ s₂ : State) → R s₁ s₂
      → Apart R Same (packet t a busy room p s₁) (packet t a busy room p s₂) (reads_by tell t a (arrives busy room p) s₁)
  unfolding packet
  packet_apart t a busy room p s₁ s₂ h =
      rw (← faults_same t s₁ s₂ h)
      (first_apart (faults t s₁) s₁ s₂ _ _ _ h
      (first_apart (place_tests a room) s₁ s₂ _ _ _ h
      (first_apart (packet_tests a p) s₁ s₂ _ _ _ h
      (served_apart (layout t) busy (is_own a (destination p)) (message p) s₁ s₂ h))))

  result_apart : (t : Table) (room : ℕ) (f : FunctionNumber) (due : Bool) (r : Ran) (s₁ s₂ : State) → R s₁ s₂
      → Apart R Same (function_result t room f due r s₁) (function_result t room f due r s₂) false
  unfolding function_result
  result_apart t room f due r s₁ s₂ h =
      rw (← faults_same t s₁ s₂ h)
      (first_quiet (faults t s₁) s₁ s₂ _ _ h
      (first_quiet (result_tests (layout t) room f r) s₁ s₂ _ _ h (quiet (ends due (ran_says r)) s₁ s₂ h)))

  store_apart : (t : Table) (i : VariableNumber) (b : List ℕ) (s₁ s₂ : State) → R s₁ s₂
      → Apart R Same (board_store t i b s₁) (board_store t i b s₂) false
  unfolding board_store
  store_apart t i b s₁ s₂ h =
      rw (← faults_same t s₁ s₂ h)
      (first_quiet (faults t s₁) s₁ s₂ _ _ h
      (first_quiet (store_tests (layout t) i b) s₁ s₂ _ _ h
      (quiet silence _ _ (H.kept (edit Replace (i ∷ []) (b ∷ [])) s₁ s₂ h))))

  fresh_apart : (t : Table) (s₁ s₂ : State) → lasts freshens ≡ true → R s₁ s₂ → Apart R Same (fresh_board t s₁) (fresh_board t s₂) false
  unfolding fresh_board
  fresh_apart t s₁ s₂ k h =
      let w = H.freshened k (layout t) s₁ s₂ h in
      rw (← faults_same t _ _ w.0) (first_quiet (faults t (full (layout t) s₁)) s₁ s₂ _ _ h (quiet silence _ _ w.1))

  module _ (t : Table) (a : Place) where
    -- one event
    pub step : (e : Event) (s₁ s₂ : State) → lasts e ≡ true → R s₁ s₂ → Apart R Same (happen t a e s₁) (happen t a e s₂) (reads_by tell t a e s₁)
    step (arrives busy room p) s₁ s₂ k h = packet_apart t a busy room p s₁ s₂ h
    step (returns room f due r) s₁ s₂ k h = result_apart t room f due r s₁ s₂ h
    step (stores i b) s₁ s₂ k h = store_apart t i b s₁ s₂ h
    step freshens s₁ s₂ k h = fresh_apart t s₁ s₂ k h

    -- all events before the first that tells
    pub before : (es : List Event) (s₁ s₂ : State) → every lasts es ≡ true → R s₁ s₂ → unread_by tell t a es s₁ ≡ true
        → (endings t a es s₁ ≡ endings t a es s₂) × R (later t a es s₁) (later t a es s₂)
    before [] s₁ s₂ k h u = (refl, h)
    before (e ∷ es) s₁ s₂ k h u =
        let l : (lasts e ≡ true) × (every lasts es ≡ true) = and_true _ _ k in
        let q : (reads_by tell t a e s₁ ≡ false) × (unread_by tell t a es (happen t a e s₁).state ≡ true) = unread_head _ _ u in
        let w : Apart R Same (happen t a e s₁) (happen t a e s₂) (reads_by tell t a e s₁) = step e s₁ s₂ l.0 h in
        let r = before es _ _ l.1 w.alike q.1 in
        (ap₂ ◌∷◌ (w.same q.0) r.0, r.1)
