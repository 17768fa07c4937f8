-- "While the learned table is the node's, each answer to such a request must be read as what the board holds or as the named error":
-- for every request that can be written, and for a function's result. Assumes nothing.
use mathlib.Core.Path.{◌≡◌, refl, ap, ◌∙◌}
use mathlib.Core.Bool.{Bool, true, false, not, ◌&&◌, ◌||◌}
use mathlib.Core.List.{List, [], ◌∷◌}
use Prim.Native.Nat.{ℕ, ◌+◌, ◌*◌, ◌/◌, ◌%◌, ◌≤◌, ◌<◌}
use native.Mathlib.Omega.{arith}
use lib.Dec.{eqb, lit≤}
use lib.ListN.{length}
use borrow.Author.Tests.{eq-eqb, eqb-true, lt-ltb, ltb-true, not-false}
use Rattle.std.proofs.Math.Bool.{and-false, or-true}
use Rattle.bsmp.specs.Base.{word}
use Rattle.bsmp.specs.Codes.{command_of, error_code, Check}
use Rattle.bsmp.specs.Board.{Table, Layout, layout, State, curve_of, block_place, function_of, usable, faults}
use Rattle.bsmp.specs.Message.{no_variable, show, Line, tests_of, line, judge, after, Said, replies, runs, spoken, said, state_after, carried, handled}
use Rattle.bsmp.specs.Packet.{Place, refuse, packed, frame, ends, served, packet, Ran, gave, failed, bad_output, ran_says, result_tests, function_result}
use Rattle.bsmp.specs.declared.FunctionNumber.{FunctionNumber}
use Rattle.bsmp.specs.declared.WireError.{WireError}
use Rattle.bsmp.proofs.Bools.{or_false}
use Rattle.bsmp.proofs.Chain.{clear, clear_at, broken_at, first_clear}
use Rattle.bsmp.proofs.Usable.{usable_clear}
use Rattle.bsmp.proofs.Accepted.{judge_case}
use Rattle.bsmp.proofs.Stays.{after_usable, line_fits}
use Rattle.bsmp.proofs.Room.{frame_length, limits, WellSent, handled_well}
use Rattle.bsmp.proofs.Wrong.{Ready, unicast}
use Rattle.asking.specs.Request.{fields_of, payload_of, message_for, request, asking}
use Rattle.asking.specs.Learned.{Learned, learned_of, usable_learned}
use Rattle.asking.specs.Reply.{output, wanted, is_error, is_result, holds, answers, tells, is_sized, hears, expected, Understood}
use Rattle.asking.specs.declared.Request.{Request}
use Rattle.asking.specs.declared.Request.TheVariants.{Version, ListVariables, ListGroups, ShowGroup, ListCurves, ReadSum, ListFunctions, ReadVariable, ReadGroup, WriteVariable, WriteGroup}
use Rattle.asking.specs.declared.Request.TheVariants.{MaskVariable, MaskGroup, WriteRead, MakeGroup, RemoveGroups, ReadBlock, WriteBlock, RenewSum, RunFunction}
use Rattle.asking.proofs.Written.{Writable, written, block_read, row_of}
use Rattle.asking.proofs.Frames.{error_again, Own, own, heard_frame}
use Rattle.asking.proofs.Answers.{answer_for, Named, Right, good_table, right}

-- the row of a written request -----------------------------------------------------------------------------------------------------
module _ (l : Layout) (gs : List ℕ) where
  abbrev learnt : Learned
  learnt = record { layout = l; groups = gs }

  -- its answer is what is wanted
  asks_for : (r : Request) (d : List ℕ) → Writable (fields_of r d) → (row_of l gs r d).answer ≡ answer_for l gs d (wanted learnt r)
  unfolding line command_of fields_of wanted
  asks_for Version d w = refl
  asks_for ListVariables d w = refl
  asks_for ListGroups d w = refl
  asks_for (ShowGroup g) d w = refl
  asks_for ListCurves d w = refl
  asks_for (ReadSum c) d w = refl
  asks_for ListFunctions d w = refl
  asks_for (ReadVariable i) d w = refl
  asks_for (ReadGroup g) d w = refl
  asks_for (WriteVariable i) d w = refl
  asks_for (WriteGroup g) d w = refl
  asks_for (MaskVariable i o) d w = refl
  asks_for (MaskGroup g o) d w = refl
  asks_for (WriteRead i j) d w = refl
  asks_for MakeGroup d w = refl
  asks_for RemoveGroups d w = refl
  asks_for (ReadBlock c k) d w = ap (λ n. show 0x41 (c.0 ∷ word k) (block_place l c n)) (block_read k w.blocks)
  asks_for (WriteBlock c k) d w = refl
  asks_for (RenewSum c) d w = refl
  asks_for (RunFunction f) d w = refl

  -- and where its tests pass, the table has what it names
  pub passed : (busy : ℕ) (r : Request) (d : List ℕ) → Writable (fields_of r d) → clear (tests_of (row_of l gs r d) busy) → Named l gs (wanted (record { layout = l; groups = gs }) r)
  unfolding line command_of fields_of wanted
  passed busy Version d w h = tt
  passed busy ListVariables d w h = tt
  passed busy ListGroups d w h = tt
  passed busy (ShowGroup g) d w h = ltb-true _ _ (not-false _ (clear_at (tests_of (row_of l gs (ShowGroup g) d) busy) h 1))
  passed busy ListCurves d w h = tt
  passed busy (ReadSum c) d w h = ltb-true _ _ (not-false _ (clear_at (tests_of (row_of l gs (ReadSum c) d) busy) h 1))
  passed busy ListFunctions d w h = tt
  passed busy (ReadVariable i) d w h = (rw (clear_at (tests_of (row_of l gs (ReadVariable i) d) busy) h 1), refl)
  passed busy (ReadGroup g) d w h = (rw (clear_at (tests_of (row_of l gs (ReadGroup g) d) busy) h 1), refl)
  passed busy (WriteVariable i) d w h = tt
  passed busy (WriteGroup g) d w h = tt
  passed busy (MaskVariable i o) d w h = tt
  passed busy (MaskGroup g o) d w h = tt
  passed busy (WriteRead i j) d w h = (rw (or_false (no_variable l i) (no_variable l j) (clear_at (tests_of (row_of l gs (WriteRead i j) d) busy) h 1)).1, refl)
  passed busy MakeGroup d w h = tt
  passed busy RemoveGroups d w h = tt
  passed busy (ReadBlock c k) d w h =
      let at : (j : ℕ) → broken_at (tests_of (row_of l gs (ReadBlock c k) d) busy) j ≡ false = clear_at (tests_of (row_of l gs (ReadBlock c k) d) busy) h in
      let n : k / 256 % 256 * 256 + k % 256 ≡ k = block_read k w.blocks in
      (ltb-true _ _ (not-false _ (at 1)), rw n at (ltb-true (k / 256 % 256 * 256 + k % 256) (curve_of l c).blocks (not-false _ (at 2))))
  passed busy (WriteBlock c k) d w h = tt
  passed busy (RenewSum c) d w h = tt
  passed busy (RunFunction f) d w h = tt

-- only 50 has a function run
runs_for : (x : Learned) (r : Request) (f : FunctionNumber) → wanted x r ≡ output f → r ≡ RunFunction f
unfolding wanted
runs_for x Version f h = cc
runs_for x ListVariables f h = cc
runs_for x ListGroups f h = cc
runs_for x (ShowGroup g) f h = cc
runs_for x ListCurves f h = cc
runs_for x (ReadSum c) f h = cc
runs_for x ListFunctions f h = cc
runs_for x (ReadVariable i) f h = cc
runs_for x (ReadGroup g) f h = cc
runs_for x (WriteVariable i) f h = cc
runs_for x (WriteGroup g) f h = cc
runs_for x (MaskVariable i o) f h = cc
runs_for x (MaskGroup g o) f h = cc
runs_for x (WriteRead i j) f h = cc
runs_for x MakeGroup f h = cc
runs_for x RemoveGroups f h = cc
runs_for x (ReadBlock c k) f h = cc
runs_for x (WriteBlock c k) f h = cc
runs_for x (RenewSum c) f h = cc
runs_for x (RunFunction g) f h = cc

-- a message, judged and carried out -----------------------------------------------------------------------------------------------
module _ (t : Table) (s : State) (h : usable t s ≡ true) (to : ℕ) (o : Own to) (r : Request) (d : List ℕ) where
  abbrev X : Learned
  X = learned_of t s

  abbrev R : Line
  R = row_of (layout t) s.groups r d

  table_ok : (is_sized (wanted X r) && not (usable_learned X)) ≡ false
  table_ok = rw (good_table t s h) (and-false (is_sized (wanted X r)))

  error_heard : (e : WireError) → Understood X to r d (is_error e) (ends true (replies (error_code e) []))
  unfolding ends
  error_heard e =
      let g = error_again e in
      heard_frame X to r o table_ok (error_code e) [] (lit≤ tt) (rw g.0) ∙ rw g.0 (ap (λ z. hears (is_error z)) g.1)

  answer_heard : (s' : State) (n : Ran) (x : Said) → Right X (wanted X r) d s' x → WellSent (ends true x)
      → Understood X to r d (holds (layout t) s.groups s' n (wanted X r)) (ends true x)
  unfolding ends
  answer_heard s' n (replies c p) g w =
      let k : length (frame c p) ≡ length p + 5 = frame_length c p in
      let l : length (frame c p) ≤ 4104 = w.0 in
      heard_frame X to r o table_ok c p (omega arith) (rw (g.0, g.1)) ∙ rw g.0 (ap hears (g.2 n))
  answer_heard s' n (runs f i) g w = (runs_for X r f g.0, (g.1, refl))

  -- for every verdict on it
  abbrev Heard-so : Ran → Check → Type 0
  Heard-so n v = Understood X to r d (expected v (holds (layout t) s.groups (state_after R v s) n (wanted X r))) (ends true (said R v (state_after R v s)))

  verdict_understood : (busy : ℕ) (n : Ran) → Writable (fields_of r d) → WellSent (ends true (handled (layout t) busy (message_for r d) s).says)
      → Heard-so n (judge (layout t) s.groups busy (message_for r d))
  unfolding handled carried said state_after
  verdict_understood busy n w =
      judge_case (layout t) s.groups busy (message_for r d) (λ v. WellSent (ends true (said R v (state_after R v s))) → Heard-so n v) (λ e k. error_heard e)
      (λ f c k.
      let s' : State = after R.change s in
      let u : usable t s' ≡ true = after_usable t s R.change h (line_fits t s busy (payload_of (fields_of r d)) h (command_of (fields_of r d).code) c) in
      let g : Right X (wanted X r) d s' (spoken R.answer s') =
      rw (asks_for (layout t) s.groups r d w) (right t s h s' u d (wanted X r) (passed (layout t) s.groups busy r d w c)) in
      answer_heard s' n (spoken R.answer s') g k)

  pub message_understood : (busy : ℕ) (n : Ran) → Writable (fields_of r d)
      → Understood (learned_of t s) to r d
      (expected (judge (layout t) s.groups busy (message_for r d)) (holds (layout t) s.groups (handled (layout t) busy (message_for r d) s).state n (wanted (learned_of t s) r)))
      (ends true (handled (layout t) busy (message_for r d) s).says)
  unfolding handled carried
  message_understood busy n w = verdict_understood busy n w (handled_well t busy (message_for r d) s true h)

-- a written request, in its packet to the node's own address
pub served_so : (t : Table) (a : Place) (busy room : ℕ) (s : State) (r : Request) (d : List ℕ) → Ready t a room s → Writable (fields_of r d)
    → packet t a busy room (packed a.own (message_for r d)) s ≡ served (layout t) busy true (message_for r d) s
served_so t a busy room s r d ready w = unicast t a busy room (message_for r d) s ready (omega (arith, w.few))

pub understood : (t : Table) (a : Place) (busy room mine : ℕ) (s : State) (r : Request) (d q : List ℕ) (n : Ran)
    → Ready t a room s → asking a.own mine r d ≡ request q
    → Understood (learned_of t s) a.own r d
    (expected (judge (layout t) s.groups busy (message_for r d)) (holds (layout t) s.groups (packet t a busy room q s).state n (wanted (learned_of t s) r)))
    (packet t a busy room q s).ending
unfolding served
understood t a busy room mine s r d q n ready e =
    let w = written a.own mine r d q e in
    rw (w.1, served_so t a busy room s r d ready w.0) (message_understood t s ready.board a.own (own a ready.place) r d busy n w.0)

-- a function's result, handed in when it has run: its output, or its error byte
module _ (t : Table) (a : Place) (room : ℕ) (s : State) (ready : Ready t a room s) (f : FunctionNumber) (d : List ℕ) where
  abbrev T : Learned
  T = learned_of t s

  table_known : (is_sized (wanted T (RunFunction f)) && not (usable_learned T)) ≡ false
  table_known = table_ok t s ready.board a.own (own a ready.place) (RunFunction f) d

  result_heard : (n : Ran) → f.0 < length t.functions → bad_output (function_of (layout t) f).output n ≡ false
      → Understood T a.own (RunFunction f) d (is_result f n) (ends true (ran_says n))
  unfolding ends answers tells wanted
  result_heard (gave out) k b =
      let e : length out ≡ (function_of (layout t) f).output = eqb-true _ _ (not-false _ b) in
      heard_frame T a.own (RunFunction f) (own a ready.place) table_known 0x51 out (omega (arith, (limits t s ready.board).output f.0 k))
      (rw (lt-ltb f.0 (length t.functions) k, eq-eqb (length out) (function_of (layout t) f).output e))
  result_heard (failed x) k b =
      heard_frame T a.own (RunFunction f) (own a ready.place) table_known 0x53 (x ∷ []) (lit≤ tt)
      (rw (lt-ltb f.0 (length t.functions) k, or-true (eqb 0x53 0x51 && eqb 1 (function_of (layout t) f).output)))

  pub result_understood : (n : Ran) → clear (result_tests (layout t) room f n)
      → Understood (learned_of t s) a.own (RunFunction f) d (is_result f n) (function_result t room f true n s).ending
  unfolding function_result
  result_understood n c =
      let at : (j : ℕ) → broken_at (result_tests (layout t) room f n) j ≡ false = clear_at (result_tests (layout t) room f n) c in
      rw (
        first_clear (faults t s) (refuse s) _ (usable_clear t s ready.board),
        first_clear (result_tests (layout t) room f n) (refuse s) (record { ending = ends true (ran_says n); state = s }) c,
      ) (result_heard n (ltb-true _ _ (not-false _ (at 1))) (at 2))
