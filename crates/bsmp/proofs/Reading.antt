-- What `reads` says: the same on both boards, and exactly 01's three ways to read, of variables that are not busy. Assumes nothing.
use Rattle.std.specs.Prelude.{Ok, Err}
use mathlib.Core.Path.{◌≡◌, refl, sym, ap, ap₂, ◌∙◌}
use mathlib.Core.Logic.{◌↔◌, ◌⊎◌, inl, inr}
use mathlib.Core.Bool.{Bool, true, false, cond, ◌&&◌, ◌||◌, false≢true}
use mathlib.Core.List.{List, [], ◌∷◌, append-nil}
use Prim.Native.Nat.{ℕ}
use lib.ListN.{drop}
use borrow.Author.Tests.{eq-eqb}
use Rattle.bsmp.specs.Base.{some, first, Test, byte_at}
use Rattle.bsmp.specs.Codes.{command_of, Check, Pass}
use Rattle.bsmp.specs.Board.{Table, Layout, layout, State, is_same, marked, members, usable, faults}
use Rattle.bsmp.specs.Message.{Line, line, touched, form_tests, judge, asked, variable_at, group_id_at}
use Rattle.bsmp.specs.Packet.{Place, place_tests, packet_tests, is_own, destination, message}
use Rattle.bsmp.specs.Apart.{Alike, Event, arrives, returns, stores, freshens, tells, read_by, reads_in, reads}
use Rattle.bsmp.specs.declared.VariableNumber.{VariableNumber}
use Rattle.bsmp.specs.declared.Refusal.{Refusal}
use Rattle.bsmp.specs.declared.Command.{Command}
use Rattle.bsmp.specs.declared.Command.TheVariants.{Version, ListVariables, ListGroups, ShowGroup, ListCurves, ReadSum, ListFunctions, ReadVariable, ReadGroup, WriteVariable, WriteGroup}
use Rattle.bsmp.specs.declared.Command.TheVariants.{MaskVariable, MaskGroup, WriteRead, MakeGroup, RemoveGroups, ReadBlock, WriteBlock, RenewSum, RunFunction, Unknown}
use Rattle.bsmp.proofs.Bools.{or_false, or_nothing, and_true}
use Rattle.bsmp.proofs.Chain.{clear, first_clear}
use Rattle.bsmp.proofs.Usable.{clear_usable, usable_clear}
use Rattle.bsmp.proofs.Apart.{faults_alike, same_number}
use Rattle.bsmp.proofs.Accepted.{accepted}

pub reads_same : (t : Table) (a : Place) (v : VariableNumber) (e : Event) (s₁ s₂ : State) → Alike v s₁ s₂ → reads t a v e s₁ ≡ reads t a v e s₂
reads_same t a v (arrives busy room p) s₁ s₂ h =
    ap₂ (λ fs gs. first fs (λ r. false) (first (place_tests a room) (λ r. false) (first (packet_tests a p) (λ r. false) (is_own a (destination p) && reads_in (tells v) (layout t) gs busy (message p)))))
    (faults_alike t v s₁ s₂ h) h.groups
reads_same t a v (returns room f due r) s₁ s₂ h = refl
reads_same t a v (stores i b) s₁ s₂ h = refl
reads_same t a v freshens s₁ s₂ h = refl

-- 01's ways to read v with the payload p, "alone, in a group, or as the read half of write-and-read", and what must not be busy then, by
-- 02's 2026-01: the variable, "any busy member", "either variable"
abbrev pub Way : Layout → List ℕ → (busy : ℕ) → VariableNumber → List ℕ → Command → Type 0
Way l gs busy v p k =
    ((k ≡ ReadVariable) × (v ≡ variable_at p 0) × (marked busy v ≡ false))
    ⊎ ((k ≡ ReadGroup) × (some (is_same v) (members l gs (group_id_at p 0)) ≡ true) × (some (marked busy) (members l gs (group_id_at p 0)) ≡ false))
    ⊎ ((k ≡ WriteRead) × (v ≡ variable_at p 1) × (marked busy v ≡ false) × (marked busy (variable_at p 0) ≡ false))

-- an answered 10 of it, 12 of a group that has it, or 28 whose second variable it is, that meets no refusal and no error: of its message's
-- tests those before E8's are `formed` and `tested`, E8's is in its way, and none of the three asks for a place for a group
pub record ReadsIt (t : Table) (a : Place) (v : VariableNumber) (busy room : ℕ) (p : List ℕ) (s : State) : Type 0 where
  pub board : usable t s ≡ true
  pub place : clear (place_tests a room)
  pub opened : clear (packet_tests a p)
  pub due : is_own a (destination p) ≡ true
  pub formed : clear (form_tests (message p))
  pub tested : clear (asked (layout t) s.groups (message p)).tests
  pub way : Way (layout t) s.groups busy v (drop 3 (message p)) (command_of (byte_at (message p) 0))

same_one : (v i : VariableNumber) → v ≡ i → (is_same v i || false) ≡ true
same_one v i e = rw (← e, eq-eqb v.0 v.0 refl)

module _ (l : Layout) (gs : List ℕ) (busy : ℕ) (v : VariableNumber) (p : List ℕ) where
  tells_way : (k : Command) → tells v (line l gs p k).answer ≡ true → some (marked busy) (touched (line l gs p k)) ≡ false → Way l gs busy v p k
  unfolding line
  tells_way Version h f = absurd (false≢true h)
  tells_way ListVariables h f = absurd (false≢true h)
  tells_way ListGroups h f = absurd (false≢true h)
  tells_way ShowGroup h f = absurd (false≢true h)
  tells_way ListCurves h f = absurd (false≢true h)
  tells_way ReadSum h f = absurd (false≢true h)
  tells_way ListFunctions h f = absurd (false≢true h)
  tells_way ReadVariable h f =
      let e : v ≡ variable_at p 0 = same_number _ v (sym (or_nothing _) ∙ h) in
      inl (refl, e, ap (marked busy) e ∙ (or_false _ _ f).0)
  tells_way ReadGroup h f = inr (inl (refl, h, ap (some (marked busy)) (sym (append-nil (members l gs (group_id_at p 0)))) ∙ f))
  tells_way WriteVariable h f = absurd (false≢true h)
  tells_way WriteGroup h f = absurd (false≢true h)
  tells_way MaskVariable h f = absurd (false≢true h)
  tells_way MaskGroup h f = absurd (false≢true h)
  tells_way WriteRead h f =
      let e : v ≡ variable_at p 1 = same_number _ v (sym (or_nothing _) ∙ h) in
      let o : (marked busy (variable_at p 1) ≡ false) × ((marked busy (variable_at p 0) || false) ≡ false) = or_false _ _ f in
      inr (inr (refl, e, ap (marked busy) e ∙ o.0, (or_false _ _ o.1).0))
  tells_way MakeGroup h f = absurd (false≢true h)
  tells_way RemoveGroups h f = absurd (false≢true h)
  tells_way ReadBlock h f = absurd (false≢true h)
  tells_way WriteBlock h f = absurd (false≢true h)
  tells_way RenewSum h f = absurd (false≢true h)
  tells_way RunFunction h f = absurd (false≢true h)
  tells_way Unknown h f = absurd (false≢true h)

  way_tells : (k : Command) → Way l gs busy v p k
      → (tells v (line l gs p k).answer ≡ true) × (some (marked busy) (touched (line l gs p k)) ≡ false) × ((line l gs p k).full ≡ false)
  unfolding line
  way_tells k (inl w) = rw w.0 (same_one v _ w.1, ap (◌|| false) (ap (marked busy) (sym w.1) ∙ w.2), refl)
  way_tells k (inr (inl w)) = rw w.0 (w.1, ap (some (marked busy)) (append-nil (members l gs (group_id_at p 0))) ∙ w.2, refl)
  way_tells k (inr (inr w)) = rw w.0 (same_one v _ w.1, ap₂ (λ x y. x || (y || false)) (ap (marked busy) (sym w.1) ∙ w.2) w.3, refl)

read_passed : (v : VariableNumber) (n : Line) (c : Check) → read_by (tells v) n c ≡ true → (c ≡ Pass) × (tells v n.answer ≡ true)
read_passed v n (Err e) h = absurd (false≢true h)
read_passed v n (Ok _) h = (refl, h)

-- a chain that is false where a test is broken
first_true : (ts : List (Test Refusal)) (b : Bool) → first ts (λ r. false) b ≡ true → clear ts × (b ≡ true)
unfolding first
first_true [] b h = (refl, h)
first_true (u ∷ us) b h = by u.broken h (first_true us b)
  where
    by : (x : Bool) → cond x false (first us (λ r. false) b) ≡ true → (first us (λ r. false) b ≡ true → clear us × (b ≡ true))
        → ((x || some (λ w. w.broken) us) ≡ false) × (b ≡ true)
    by true h f = absurd (false≢true h)
    by false h f = f h

module _ (t : Table) (a : Place) (v : VariableNumber) (busy room : ℕ) (p : List ℕ) (s : State) where
  abbrev l : Layout
  l = layout t

  -- a packet that reads is taken, answered and accepted, and tells the variable
  pub record Tells : Type 0 where
    pub board : clear (faults t s)
    pub place : clear (place_tests a room)
    pub opened : clear (packet_tests a p)
    pub due : is_own a (destination p) ≡ true
    pub passes : judge (layout t) s.groups busy (message p) ≡ Pass
    pub told : tells v (asked (layout t) s.groups (message p)).answer ≡ true

  pub reads_tells : reads t a v (arrives busy room p) s ≡ true → Tells
  reads_tells h =
      let b = first_true (faults t s) _ h in
      let x = first_true (place_tests a room) _ b.1 in
      let y = first_true (packet_tests a p) _ x.1 in
      let z = and_true (is_own a (destination p)) _ y.1 in
      let w = read_passed v (asked l s.groups (message p)) _ z.1 in
      record { board = b.0; place = x.0; opened = y.0; due = z.0; passes = w.0; told = w.1 }

  pub reads_it : (reads t a v (arrives busy room p) s ≡ true) ↔ ReadsIt t a v busy room p s
  reads_it = (there, back)
    where
      there : reads t a v (arrives busy room p) s ≡ true → ReadsIt t a v busy room p s
      there h =
          let r = reads_tells h in
          let q = (accepted l s.groups busy (message p)).0 r.passes in
          record {
            board = clear_usable t s r.board;
            place = r.place;
            opened = r.opened;
            due = r.due;
            formed = q.formed;
            tested = q.tested;
            way = tells_way l s.groups busy v (drop 3 (message p)) (command_of (byte_at (message p) 0)) r.told q.free;
          }

      back : ReadsIt t a v busy room p s → reads t a v (arrives busy room p) s ≡ true
      back r =
          let w = way_tells l s.groups busy v (drop 3 (message p)) (command_of (byte_at (message p) 0)) r.way in
          let q : judge l s.groups busy (message p) ≡ Pass =
          (accepted l s.groups busy (message p)).1 (record { formed = r.formed; tested = r.tested; free = w.1; not_full = w.2 }) in
          first_clear (faults t s) (λ n. false) _ (usable_clear t s r.board)
          ∙ first_clear (place_tests a room) (λ n. false) _ r.place
          ∙ first_clear (packet_tests a p) (λ n. false) _ r.opened
          ∙ rw (r.due, q) w.0
