-- The learned table follows the node: after any written request the node's table is the learned one followed, and whoever hears the answer
-- has it. Assumes nothing.
use Rattle.std.specs.Prelude.{Ok, Err}
use mathlib.Core.Path.{◌≡◌, refl, sym, ap, ap₂, ◌∙◌}
use mathlib.Core.Bool.{Bool, true, false, cond, not}
use mathlib.Core.List.{List, [], ◌∷◌, ◌++◌, map}
use Prim.Native.Nat.{ℕ, suc, ◌-◌, ◌≤◌, ◌<◌}
use native.Mathlib.Omega.{arith}
use lib.Dec.{leb, ltb}
use lib.ListN.{length, take, drop, length-map, drop_of_length-le}
use lib.Seq.{take_all, take-length, split_at}
use borrow.Author.Tests.{le-leb, lt-ltb, leb-true, leb-false, ltb-false}
use Rattle.bsmp.specs.Base.{every, some}
use Rattle.bsmp.specs.Codes.{command_of, Check}
use Rattle.bsmp.specs.Board.{variable, Table, Layout, layout, State, members, group_count, set_of, usable}
use Rattle.bsmp.specs.Message.{no_variable, tests_of, line, judge, after, state_after, carried, handled}
use Rattle.bsmp.specs.Packet.{Place, Ending, reply, silence, run, served, packet, Ran, failed}
use Rattle.bsmp.specs.declared.VariableNumber.{VariableNumber}
use Rattle.bsmp.specs.declared.GroupNumber.{GroupNumber}
use Rattle.bsmp.specs.declared.FunctionNumber.{FunctionNumber}
use Rattle.bsmp.proofs.Bools.{or_false}
use Rattle.bsmp.proofs.Lists.{length_up_from}
use Rattle.bsmp.proofs.Chain.{clear, clear_at, broken_at}
use Rattle.bsmp.proofs.Accepted.{judge_case}
use Rattle.bsmp.proofs.Room.{limits}
use Rattle.bsmp.proofs.Group.{members_known}
use Rattle.bsmp.proofs.Wrong.{Ready}
use Rattle.asking.specs.Request.{sorted, fields_of, message_for, request, asking}
use Rattle.asking.specs.Learned.{Learned, learned_of, group_slots}
use Rattle.asking.specs.Reply.{wanted, Heard, holds, expected, Understood}
use Rattle.asking.specs.Learning.{with_made, can_group, regrouped, followed, taught, learning, heard_ending, change_for}
use Rattle.asking.specs.declared.Request.{Request}
use Rattle.asking.specs.declared.Request.TheVariants.{Version, ListVariables, ListGroups, ShowGroup, ListCurves, ReadSum, ListFunctions, ReadVariable, ReadGroup, WriteVariable, WriteGroup}
use Rattle.asking.specs.declared.Request.TheVariants.{MaskVariable, MaskGroup, WriteRead, MakeGroup, RemoveGroups, ReadBlock, WriteBlock, RenewSum, RunFunction}
use Rattle.asking.proofs.Lists.{and_both}
use Rattle.asking.proofs.Sorted.{length_sorted, some_sorted}
use Rattle.asking.proofs.Written.{Writable, written, sorted_payload, row_of, means}
use Rattle.asking.proofs.Members.{group_again, made_some}
use Rattle.asking.proofs.Understood.{passed, served_so, understood}

-- a group that can be there is taken at its place -----------------------------------------------------------------------------------
pub regrouped_at : (x : Learned) (k : ℕ) (is : List VariableNumber) → length x.layout.sizes ≤ 64 → k ≤ length x.groups → k < 5 → can_group x.layout is ≡ true
    → regrouped x k is ≡ take k x.groups ++ set_of x.layout is ∷ drop (suc k) x.groups
unfolding regrouped
regrouped_at x k is n a b c = rw (le-leb (length x.layout.sizes) 64 n, le-leb k (length x.groups) a, lt-ltb k 5 b, c)

-- behind the others
pub regrouped_last : (x : Learned) (is : List VariableNumber) → length x.layout.sizes ≤ 64 → length x.groups < 5 → can_group x.layout is ≡ true
    → regrouped x (length x.groups) is ≡ x.groups ++ set_of x.layout is ∷ []
regrouped_last x is n b c =
    regrouped_at x (length x.groups) is n (omega arith) b c
    ∙ ap₂ (λ front rest. front ++ set_of x.layout is ∷ rest) (take-length x.groups) (drop_of_length-le x.groups {i = suc (length x.groups)} (omega arith))

-- a usable board has at most 64 variables
pub few_sizes : (t : Table) (s : State) → usable t s ≡ true → length (layout t).sizes ≤ 64
few_sizes t s h = omega (arith, length-map t.variables (λ v. v.size), limits t s h)

-- declared variables only, as the node's test and as the table's have it
all_known : (l : Layout) (d : List ℕ) → some (λ i. no_variable l (variable i)) d ≡ false → every (λ i. not (no_variable l i)) (map variable d) ≡ true
all_known l [] h = refl
all_known l (i ∷ d) h =
    let o : (no_variable l (variable i) ≡ false) × (some (λ i. no_variable l (variable i)) d ≡ false) = or_false _ _ h in
    and_both _ _ (ap not o.0) (all_known l d o.1)

-- the tests that an accepted 30 passed are those of a group that can be there
can_make : (l : Layout) (gs : List ℕ) (busy : ℕ) (d : List ℕ) → clear (tests_of (row_of l gs MakeGroup d) busy) → (length gs < 5) × (can_group l (map variable d) ≡ true)
unfolding line command_of fields_of
can_make l gs busy d c =
    let at : (j : ℕ) → broken_at (tests_of (row_of l gs MakeGroup d) busy) j ≡ false = clear_at (tests_of (row_of l gs MakeGroup d) busy) c in
    let some_one : 1 ≤ length (sorted d ++ [] ++ []) = ltb-false _ 1 (or_false _ _ (at 0)).0 in
    let n : length (sorted d ++ [] ++ []) ≡ length (map variable d) = ap length (sorted_payload d) ∙ length_sorted d ∙ sym (length-map d variable) in
    let known : some (λ i. no_variable l (variable i)) d ≡ false =
    sym (some_sorted (λ i. no_variable l (variable i)) d) ∙ ap (some (λ i. no_variable l (variable i))) (sym (sorted_payload d)) ∙ at 1 in
    (leb-false 5 (length gs) (at 4), and_both _ _ (lt-ltb 0 (length (map variable d)) (omega arith)) (all_known l d known))

not_not : (b : Bool) → b ≡ not (not b)
not_not true = refl
not_not false = refl

-- the members of a made group too
pub can_be : (t : Table) (s : State) → usable t s ≡ true → (g : GroupNumber) → 3 ≤ g.0 → g.0 < group_count s.groups
    → can_group (layout t) (members (layout t) s.groups g) ≡ true
can_be t s h g a b =
    and_both _ _ (lt-ltb 0 (length (members (layout t) s.groups g)) (made_some t s h g a b))
    (sym (λ i. every (λ v. not_not (ltb v.0 (length (layout t).sizes)) i) (members (layout t) s.groups g)) ∙ members_known (layout t) s.groups g)

-- the node's table after a written request --------------------------------------------------------------------------------------------
abbrev pub followed_if : Check → Learned → Request → (d : List ℕ) → Learned
followed_if (Err e) x r d = x
followed_if (Ok _) x r d = followed x r d

module _ (t : Table) (s : State) (busy : ℕ) (h : usable t s ≡ true) where
  abbrev X : Learned
  X = learned_of t s

  abbrev L : Layout
  L = layout t

  abbrev G : List ℕ
  G = s.groups

  -- an accepted 30 makes its group, an accepted 32 leaves none, and no other changes them
  change_followed : (r : Request) (d : List ℕ) → clear (tests_of (row_of L G r d) busy) → learned_of t (after (change_for L G r d) s) ≡ followed X r d
  unfolding after change_for followed fields_of
  change_followed Version d c = refl
  change_followed ListVariables d c = refl
  change_followed ListGroups d c = refl
  change_followed (ShowGroup g) d c = refl
  change_followed ListCurves d c = refl
  change_followed (ReadSum v) d c = refl
  change_followed ListFunctions d c = refl
  change_followed (ReadVariable i) d c = refl
  change_followed (ReadGroup g) d c = refl
  change_followed (WriteVariable i) d c = refl
  change_followed (WriteGroup g) d c = refl
  change_followed (MaskVariable i o) d c = refl
  change_followed (MaskGroup g o) d c = refl
  change_followed (WriteRead i j) d c = refl
  change_followed MakeGroup d c = let k = can_make L G busy d c in ap (with_made X) (sym (regrouped_last X (map variable d) (few_sizes t s h) k.0 k.1))
  change_followed RemoveGroups d c = refl
  change_followed (ReadBlock v k) d c = refl
  change_followed (WriteBlock v k) d c = refl
  change_followed (RenewSum v) d c = refl
  change_followed (RunFunction f) d c = refl

  verdict_followed : (r : Request) (d : List ℕ) → Writable (fields_of r d)
      → learned_of t (handled L busy (message_for r d) s).state ≡ followed_if (judge L G busy (message_for r d)) X r d
  unfolding handled carried state_after
  verdict_followed r d w =
      judge_case L G busy (message_for r d) (λ v. learned_of t (carried (row_of L G r d) v s).state ≡ followed_if v X r d) (λ e. refl)
      (λ f c. ap (λ ch. learned_of t (after ch s)) (means L G r d w) ∙ change_followed r d c)

pub in_step : (t : Table) (a : Place) (busy room mine : ℕ) (s : State) (r : Request) (d q : List ℕ) → Ready t a room s → asking a.own mine r d ≡ request q
    → learned_of t (packet t a busy room q s).state ≡ followed_if (judge (layout t) s.groups busy (message_for r d)) (learned_of t s) r d
unfolding served
in_step t a busy room mine s r d q ready e =
    let w = written a.own mine r d q e in
    rw (w.1, served_so t a busy room s r d ready w.0) (verdict_followed t s busy ready.board r d w.0)

-- who hears the answer ------------------------------------------------------------------------------------------------------------------
module _ (t : Table) (s : State) (h : usable t s ≡ true) where
  abbrev X' : Learned
  X' = learned_of t s

  -- the list of groups leaves them, and that of a made group's members leaves it
  groups_same : take (length (group_slots (layout t) s.groups) - 3) s.groups ≡ s.groups
  groups_same =
      let n : length (group_slots (layout t) s.groups) ≡ group_count s.groups = simp (length-map, length_up_from) in
      take_all (length (group_slots (layout t) s.groups) - 3) s.groups (omega arith)

  member_same : (g : GroupNumber) → g.0 < group_count s.groups
      → cond (leb 3 g.0) (regrouped X' (g.0 - 3) (members (layout t) s.groups g)) s.groups ≡ s.groups
  member_same g k = by (leb 3 g.0) refl
    where
      by : (b : Bool) → leb 3 g.0 ≡ b → cond b (regrouped X' (g.0 - 3) (members (layout t) s.groups g)) s.groups ≡ s.groups
      by false e = refl
      by true e =
          let three : 3 ≤ g.0 = leb-true 3 g.0 e in
          let few : length s.groups ≤ 5 = (limits t s h).groups in
          regrouped_at X' (g.0 - 3) (members (layout t) s.groups g) (few_sizes t s h) (omega arith) (omega arith) (can_be t s h g three k)
          ∙ ap (λ m. take (g.0 - 3) s.groups ++ m ∷ drop (suc (g.0 - 3)) s.groups) (group_again t s h g three k)
          ∙ sym (split_at s.groups (g.0 - 3) 0 (omega arith))

  -- what an accepted request is answered leaves the table as the request does; only the list of the variables forgets the made groups
  taught_follows : (busy : ℕ) (r : Request) (d : List ℕ) (s' : State) (n : Ran) → Writable (fields_of r d) → (r ≡ ListVariables → ⊥)
      → clear (tests_of (row_of (layout t) s.groups r d) busy) → taught X' r d (holds (layout t) s.groups s' n (wanted X' r)) ≡ followed X' r d
  unfolding taught holds wanted followed fields_of
  taught_follows busy Version d s' n w other c = refl
  taught_follows busy ListVariables d s' n w other c = absurd (other refl)
  taught_follows busy ListGroups d s' n w other c = ap (with_made X') groups_same
  taught_follows busy (ShowGroup g) d s' n w other c = ap (with_made X') (member_same g (passed (layout t) s.groups busy (ShowGroup g) d w c))
  taught_follows busy ListCurves d s' n w other c = refl
  taught_follows busy (ReadSum v) d s' n w other c = refl
  taught_follows busy ListFunctions d s' n w other c = refl
  taught_follows busy (ReadVariable i) d s' n w other c = refl
  taught_follows busy (ReadGroup g) d s' n w other c = refl
  taught_follows busy (WriteVariable i) d s' n w other c = refl
  taught_follows busy (WriteGroup g) d s' n w other c = refl
  taught_follows busy (MaskVariable i o) d s' n w other c = refl
  taught_follows busy (MaskGroup g o) d s' n w other c = refl
  taught_follows busy (WriteRead i j) d s' n w other c = refl
  taught_follows busy MakeGroup d s' n w other c = refl
  taught_follows busy RemoveGroups d s' n w other c = refl
  taught_follows busy (ReadBlock v k) d s' n w other c = refl
  taught_follows busy (WriteBlock v k) d s' n w other c = refl
  taught_follows busy (RenewSum v) d s' n w other c = refl
  taught_follows busy (RunFunction f) d s' n w other c = refl

  abbrev Taught-so : Request → (d : List ℕ) → State → Check → Type 0
  Taught-so r d s' v = taught X' r d (expected v (holds (layout t) s.groups s' (failed 0) (wanted X' r))) ≡ followed_if v X' r d

  verdict_taught : (busy : ℕ) (r : Request) (d : List ℕ) (s' : State) → Writable (fields_of r d) → (r ≡ ListVariables → ⊥)
      → Taught-so r d s' (judge (layout t) s.groups busy (message_for r d))
  unfolding taught
  verdict_taught busy r d s' w other =
      judge_case (layout t) s.groups busy (message_for r d) (Taught-so r d s') (λ e. refl) (λ f c. taught_follows busy r d s' (failed 0) w other c)

  -- a function that is run changes no table
  run_same : (v : Check) (r : Request) (f : FunctionNumber) (d : List ℕ) → r ≡ RunFunction f → X' ≡ followed_if v X' r d
  unfolding followed fields_of
  run_same (Err e) r f d q = refl
  run_same (Ok _) r f d q = rw q

  heard_so : (to : ℕ) (r : Request) (d : List ℕ) (v : Check) (x : Heard) (e : Ending) → Understood X' to r d x e → taught X' r d x ≡ followed_if v X' r d
      → learning X' r d (heard_ending X' to r e) ≡ followed_if v X' r d
  heard_so to r d v x (reply q) u k = ap (learning X' r d) u ∙ k
  heard_so to r d v x silence u k = absurd u
  heard_so to r d v x (run f i due) u k = run_same v r f d u.0
  heard_so to r d v x (Ending.refused n) u k = absurd u

-- whoever hears the node's answer has the node's table after it (02 is the law `variables_alone`; after 50 nothing is heard yet, nor changed)
pub heard_in_step : (t : Table) (a : Place) (busy room mine : ℕ) (s : State) (r : Request) (d q : List ℕ) → Ready t a room s → asking a.own mine r d ≡ request q
    → (r ≡ ListVariables → ⊥)
    → learning (learned_of t s) r d (heard_ending (learned_of t s) a.own r (packet t a busy room q s).ending) ≡ learned_of t (packet t a busy room q s).state
heard_in_step t a busy room mine s r d q ready e other =
    heard_so t s ready.board a.own r d (judge (layout t) s.groups busy (message_for r d)) _ (packet t a busy room q s).ending
    (understood t a busy room mine s r d q (failed 0) ready e)
    (verdict_taught t s ready.board busy r d (packet t a busy room q s).state (written a.own mine r d q e).0 other)
    ∙ sym (in_step t a busy room mine s r d q ready e)
