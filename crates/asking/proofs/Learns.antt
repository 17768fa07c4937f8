-- From a node's lists one learns exactly its table, whatever was known before. Assumes nothing.
use mathlib.Core.Path.{◌≡◌, refl, sym, ap, ap₂, ◌∙◌}
use mathlib.Core.Bool.{Bool, true, cond}
use mathlib.Core.List.{List, [], ◌∷◌, ◌++◌, map}
use Prim.Native.Nat.{ℕ, zero, suc, ◌+◌, ◌-◌, ◌≤◌, ◌<◌}
use native.Mathlib.Omega.{arith}
use lib.Dec.{leb, lit≤}
use lib.ListN.{length, take, get_or, length-map, drop_of_length-le}
use lib.Seq.{take-nil, take-take, take-suc, take-length, length-take-le}
use borrow.Author.Tests.{le-leb, lt-ltb}
use Rattle.bsmp.specs.Base.{up_from, has, marks_of, first}
use Rattle.bsmp.specs.Codes.{command_of, Pass}
use Rattle.bsmp.specs.Board.{variable, group, Table, Layout, layout, State, size_of, marked, is_writable, members, group_count, set_of}
use Rattle.bsmp.specs.Message.{check, line, judge, handled}
use Rattle.bsmp.specs.Packet.{Place, Ending, reply, silence, run, ends, served, failed}
use Rattle.bsmp.specs.declared.VariableNumber.{VariableNumber}
use Rattle.bsmp.specs.declared.FunctionNumber.{FunctionNumber}
use Rattle.bsmp.proofs.Lists.{map_map, map_numbers}
use Rattle.bsmp.proofs.Marks.{marks_below}
use Rattle.bsmp.proofs.Room.{limits}
use Rattle.bsmp.proofs.Wrong.{Ready}
use Rattle.sets.proofs.Marks.{marks_has}
use Rattle.asking.specs.Request.{fields_of, message_for}
use Rattle.asking.specs.Learned.{Learned, learned_of, Slot, slot, variable_slots, group_slots}
use Rattle.asking.specs.Reply.{wanted, Heard, holds, answers, tells, hears, hearing, Understood}
use Rattle.asking.specs.Learning.{with_made, regrouped, with_variables, with_curves, with_functions, taught, learning, heard_ending, learns, learns_all, lists}
use Rattle.asking.specs.declared.Request.{Request}
use Rattle.asking.specs.declared.Request.TheVariants.{ListVariables, ListGroups, ShowGroup, ListCurves, ListFunctions, RunFunction}
use Rattle.asking.proofs.Lists.{clash}
use Rattle.asking.proofs.Written.{Writable}
use Rattle.asking.proofs.Frames.{own}
use Rattle.asking.proofs.Members.{group_again}
use Rattle.asking.proofs.Understood.{served_so, message_understood}
use Rattle.asking.proofs.Follows.{regrouped_at, few_sizes, can_be}

-- the lists are heard alike with any table, or none
abbrev Tableless : Request → Type 0
Tableless r = (x y : Learned) (to : ℕ) (q : List ℕ) → hearing x to r q ≡ hearing y to r q

module _ (t : Table) (a : Place) (busy room : ℕ) (s : State) (ready : Ready t a room s) where
  abbrev L : Layout
  L = layout t

  abbrev G : List ℕ
  G = s.groups

  abbrev held : Request → Heard
  held r = holds L G (handled L busy (message_for r []) s).state (failed 0) (wanted (learned_of t s) r)

  abbrev step : Learned → Request → Learned
  step = learns t a busy room s

  -- so one of them teaches what the node holds
  list_taught : (x : Learned) (r : Request) → Writable (fields_of r []) → judge L G busy (message_for r []) ≡ Pass
      → ((f : FunctionNumber) → r ≡ RunFunction f → ⊥) → Tableless r → step x r ≡ taught x r [] (held r)
  unfolding served
  list_taught x r w v none same =
      let u = message_understood t s ready.board a.own (own a ready.place) r [] busy (failed 0) w in
      ap (learning x r [])
      (ap (λ z. heard_ending x a.own r z.ending) (served_so t a busy room s r [] ready w)
      ∙ by (ends true (handled L busy (message_for r []) s).says) (rw v at u))
    where
      by : (e : Ending) → Understood (learned_of t s) a.own r [] (held r) e → heard_ending x a.own r e ≡ hears (held r)
      by (reply q) h = same x (learned_of t s) a.own q ∙ h
      by silence h = absurd h
      by (run f i due) h = absurd (none f h.0)
      by (Ending.refused n) h = absurd h

  -- the node's variables, the made groups that are learned so far, and of the rest what was known before
  abbrev so_far : Learned → List ℕ → Learned
  so_far x gs = record { layout = record { sizes = L.sizes; writable = L.writable; curves = x.layout.curves; functions = x.layout.functions }; groups = gs }

  writable_again : marks_of (map (has L.writable) (up_from 0 (length L.sizes))) ≡ L.writable
  writable_again =
      let bs : List Bool = map (λ v. is_writable v.writable) t.variables in
      let n : length bs ≡ length L.sizes = length-map t.variables (λ v. is_writable v.writable) ∙ sym (length-map t.variables (λ v. v.size)) in
      marks_has (length L.sizes) L.writable (rw n at (marks_below bs))

  variables_so : (x : Learned) → with_variables x (variable_slots L) ≡ so_far x []
  variables_so x =
      let f : ℕ → Slot = λ i. slot (marked L.writable (variable i)) (size_of L (variable i)) in
      ap₂ (λ ns w. record { layout = record { sizes = ns; writable = w; curves = x.layout.curves; functions = x.layout.functions }; groups = [] })
      (map_map f (λ v. v.size) (up_from 0 (length L.sizes)) ∙ map_numbers L.sizes 0)
      (ap marks_of (map_map f (λ v. v.writable) (up_from 0 (length L.sizes))) ∙ writable_again)

  variables_learned : (x : Learned) → step x ListVariables ≡ so_far x []
  unfolding judge check line command_of first fields_of hearing answers tells wanted holds taught
  variables_learned x = list_taught x ListVariables (record { blocks = refl; few = lit≤ tt }) refl (λ f h. clash cc) (λ x y to q. refl) ∙ variables_so x

  groups_learned : (x : Learned) → step x ListGroups ≡ with_made x (take (length (group_slots L G) - 3) x.groups)
  unfolding judge check line command_of first fields_of hearing answers tells wanted holds taught
  groups_learned x = list_taught x ListGroups (record { blocks = refl; few = lit≤ tt }) refl (λ f h. clash cc) (λ x y to q. refl)

  curves_learned : (x : Learned) → step x ListCurves ≡ with_curves x t.curves
  unfolding judge check line command_of first fields_of hearing answers tells wanted holds taught
  curves_learned x = list_taught x ListCurves (record { blocks = refl; few = lit≤ tt }) refl (λ f h. clash cc) (λ x y to q. refl)

  functions_learned : (x : Learned) → step x ListFunctions ≡ with_functions x t.functions
  unfolding judge check line command_of first fields_of hearing answers tells wanted holds taught
  functions_learned x = list_taught x ListFunctions (record { blocks = refl; few = lit≤ tt }) refl (λ f h. clash cc) (λ x y to q. refl)

  -- a set is one of the variables alone
  set_same : (x : Learned) (is : List VariableNumber) → set_of (so_far x []).layout is ≡ set_of L is
  unfolding set_of
  set_same x is = refl

  -- a made group behind those before it
  member_learned : (x : Learned) (k : ℕ) → k < length G → step (so_far x (take k G)) (ShowGroup (group (3 + k))) ≡ so_far x (take (suc k) G)
  unfolding judge check line command_of first fields_of hearing answers tells wanted holds taught
  member_learned x k h =
      let known : 3 + k < group_count G = omega arith in
      list_taught (so_far x (take k G)) (ShowGroup (group (3 + k))) (record { blocks = refl; few = lit≤ tt }) (rw (lt-ltb (3 + k) (3 + length G) known)) (λ f h. clash cc) (λ x y to q. refl)
      ∙ ap (so_far x) made
    where
      made : cond (leb 3 (3 + k)) (regrouped (so_far x (take k G)) (3 + k - 3) (members L G (group (3 + k)))) (take k G) ≡ take (suc k) G
      made =
          let is = members L G (group (3 + k)) in
          let three : 3 + k - 3 ≡ k = omega arith in
          let few : length G ≤ 5 = (limits t s ready.board).groups in
          let n : length (take k G) ≡ k = length-take-le k G (omega arith) in
          rw (le-leb 3 (3 + k) (omega arith), three)
          (regrouped_at (so_far x (take k G)) k is (few_sizes t s ready.board) (omega arith) (omega arith) (can_be t s ready.board (group (3 + k)) (omega arith) (omega arith))
          ∙ ap₂ (λ front rest. front ++ set_of (so_far x []).layout is ∷ rest) (take-take k k G (omega arith)) (drop_of_length-le (take k G) {i = suc k} (omega arith))
          ∙ ap (λ m. take k G ++ m ∷ []) (set_same x is ∙ group_again t s ready.board (group (3 + k)) (omega arith) (omega arith) ∙ ap (λ j. get_or G j 0) three)
          ∙ sym (take-suc G k 0 h))

  members_learned : (x : Learned) (k n : ℕ) (rest : List Request) → k + n ≡ length G
      → learns_all t a busy room s (so_far x (take k G)) (map (λ k. ShowGroup (group (3 + k))) (up_from k n) ++ rest) ≡ learns_all t a busy room s (so_far x G) rest
  members_learned x k zero rest h =
      let e : k ≡ length G = omega arith in
      ap (λ gs. learns_all t a busy room s (so_far x gs) rest) (ap (λ j. take j G) e ∙ take-length G)
  members_learned x k (suc n) rest h =
      ap (λ y. learns_all t a busy room s y (map (λ k. ShowGroup (group (3 + k))) (up_from (suc k) n) ++ rest)) (member_learned x k (omega arith))
      ∙ members_learned x (suc k) n rest (omega arith)

  pub learns_all_lem : (x : Learned) → learns_all t a busy room s x (lists (length s.groups)) ≡ learned_of t s
  learns_all_lem x =
      let rest = map (λ k. ShowGroup (group (3 + k))) (up_from 0 (length G)) ++ ListCurves ∷ ListFunctions ∷ [] in
      ap (λ y. learns_all t a busy room s (step y ListGroups) rest) (variables_learned x)
      ∙ ap (λ y. learns_all t a busy room s y rest) (groups_learned (so_far x []) ∙ ap (so_far x) (take-nil (length (group_slots L G) - 3)))
      ∙ members_learned x 0 (length G) (ListCurves ∷ ListFunctions ∷ []) (omega arith)
      ∙ ap (λ y. step y ListFunctions) (curves_learned (so_far x G)) ∙ functions_learned (with_curves (so_far x G) t.curves)

  -- 02 alone leaves the node's table without its made groups: they are sets of variables, and are asked for anew
  pub variables_alone : learns t a busy room s (learned_of t s) ListVariables ≡ with_made (learned_of t s) []
  variables_alone = variables_learned (learned_of t s)
