-- A usable board stays usable after every event, and its flat stores hold it from call to call. Assumes nothing.
use mathlib.Core.Path.{◌≡◌, refl, sym, ap, ap₂, ◌∙◌}
use mathlib.Core.Bool.{Bool, true, false, not, ◌&&◌, true≢false, false≢true}
use mathlib.Core.List.{List, [], ◌∷◌, ◌++◌, map, head-eq_of_cons-eq, tail-eq_of_cons-eq}
use Prim.Native.Nat.{ℕ, zero, suc, ◌+◌, ◌-◌, ◌^◌, ◌≤◌, ◌<◌}
use native.Mathlib.Omega.{arith}
use native.Mathlib.Nat.{zero-add, add_assoc}
use lib.Dec.{eqb, leb, ltb}
use lib.ListN.{length, take, drop, set, get_or, replicate, length-append, length-drop, length-map, length-replicate, get_or-replicate, get_or-append, get_or-map}
use lib.Seq.{set-get_or, get_or-append-add}
use borrow.Author.Tests.{eq-eqb, eqb-true, leb-true, leb-false, ltb-true, not-false, le-leb, lt-ltb}
use Rattle.rfc1321.specs.Md5.{digest}
use Rattle.rfc1321.proofs.Digest.{length_digest}
use Rattle.bsmp.specs.Base.{some, every, sum, join, cut, within, byte_at, word_at, up_from}
use Rattle.bsmp.specs.Codes.{command_of}
use Rattle.bsmp.specs.Board.{variable, curve, Table, Layout, layout, State, value_of, block_of, size_of, variables, is_same, group_bytes, set_of, blank_curve, curve_of, block_sizes, block_place}
use Rattle.bsmp.specs.Board.{contents_of, sum_of, curve_sum, sum_sizes, fitting, full, fresh, usable, usable_groups, faults}
use Rattle.bsmp.specs.Message.{Change, nothing, edit, fill, renew, regroup, writes_variable, writes_group, Line, tests_of, line, asked, changed, edited, filled, after, state_after, carried, handled}
use Rattle.bsmp.specs.Packet.{Place, Result, refuse, place_tests, packet_tests, served, packet, result_tests, function_result, store_tests, board_store, fresh_board, message}
use Rattle.bsmp.specs.Store.{held, lent_of}
use Rattle.bsmp.specs.Apart.{Event, arrives, returns, stores, freshens, happen, later}
use Rattle.bsmp.specs.declared.VariableNumber.{VariableNumber}
use Rattle.bsmp.specs.declared.CurveNumber.{CurveNumber}
use Rattle.bsmp.specs.declared.Curve.{Curve}
use Rattle.bsmp.specs.declared.Operation.{Operation}
use Rattle.bsmp.specs.declared.Operation.TheVariants.{Replace}
use Rattle.bsmp.specs.declared.Command.{Command}
use Rattle.bsmp.specs.declared.Command.TheVariants.{Version, ListVariables, ListGroups, ShowGroup, ListCurves, ReadSum, ListFunctions, ReadVariable, ReadGroup, WriteVariable, WriteGroup}
use Rattle.bsmp.specs.declared.Command.TheVariants.{MaskVariable, MaskGroup, WriteRead, MakeGroup, RemoveGroups, ReadBlock, WriteBlock, RenewSum, RunFunction, Unknown}
use Rattle.bsmp.proofs.Bools.{or_false, and_true}
use Rattle.bsmp.proofs.Accepted.{judge_case}
use Rattle.bsmp.proofs.Lists.{map_set, map_map, every_last, length_up_from}
use Rattle.bsmp.proofs.Chain.{clear, clear_at, broken_at, first_case, first_clear}
use Rattle.bsmp.proofs.Store.{cut_join, lengths_cut, sum_size}
use Rattle.bsmp.proofs.Usable.{Usable, usable_parts, usable_whole, usable_by, usable_regrouped, clear_usable, usable_clear}
use Rattle.bsmp.proofs.Marks.{marks_below, marks_some, at_number}

-- what a change must be to leave a usable board -----------------------------------------------------------------------------
abbrev pub Fits : Table → State → Change → Type 0
Fits t s nothing = Unit {0}
Fits t s (edit op is ps) = map length ps ≡ map (size_of (layout t)) is
Fits t s (fill k d) = (1 ≤ length d) × (length d ≤ length (block_of s k))
Fits t s (renew c k n) = Unit {0}
Fits t s (regroup gs) = usable_groups (length t.variables) gs ≡ true

pub value_length : (t : Table) (s : State) → Usable t s → (i : VariableNumber) → length (value_of s i) ≡ size_of (layout t) i
value_length t s u i = sym (get_or-map length s.values i.0 []) ∙ ap (λ l. get_or l i.0 0) u.values

pub block_bytes : (t : Table) (s : State) → Usable t s → (k : ℕ) → length (block_of s k) ≡ get_or (block_sizes t.curves) k 0
block_bytes t s u k = sym (get_or-map length s.blocks k []) ∙ ap (λ ns. get_or ns k 0) u.blocks

pub changed_length : (op : Operation) (x p : List ℕ) → length p ≡ length x → length (changed op x p) ≡ length x
unfolding changed
changed_length op [] p h = refl
changed_length op (a ∷ x) [] h = absurd (omega (arith, h))
changed_length op (a ∷ x) (b ∷ p) h = ap suc (changed_length op x p (omega (arith, h)))

edited_lengths : (l : Layout) (op : Operation) (is : List VariableNumber) (ps vs : List (List ℕ)) → map length vs ≡ l.sizes
    → map length ps ≡ map (size_of l) is → map length (edited op is ps vs) ≡ map length vs
edited_lengths l op [] ps vs u h = refl
edited_lengths l op (i ∷ is) [] vs u h = refl
edited_lengths l op (i ∷ is) (p ∷ ps) vs u h =
    let n : ℕ = i.0 in
    let old : length (get_or vs n []) ≡ size_of l i = sym (get_or-map length vs n []) ∙ ap (λ x. get_or x n 0) u in
    let one : length (changed op (get_or vs n []) p) ≡ length (get_or vs n []) = changed_length op (get_or vs n []) p (head-eq_of_cons-eq h ∙ sym old) in
    let same' : map length (set vs n (changed op (get_or vs n []) p)) ≡ map length vs =
    map_set length vs n _ ∙ ap (set (map length vs) n) (one ∙ sym (get_or-map length vs n [])) ∙ set-get_or (map length vs) n 0 in
    edited_lengths l op is ps _ (same' ∙ u) (tail-eq_of_cons-eq h) ∙ same'

-- a sum renewed, and all of them worked out, are of 16 bytes each
sums_set : (t : Table) (s : State) (c : CurveNumber) (m : List ℕ) → Usable t s → map length (set s.sums c.0 (digest m)) ≡ map length s.sums
sums_set t s c m u =
    let n : ℕ = c.0 in
    let e : 16 ≡ get_or (map length s.sums) n 16 = sym (ap (λ l. get_or l n 16) u.sums ∙ get_or-map (λ (x : Curve). 16) t.curves n blank_curve) in
    map_set length s.sums n (digest m) ∙ ap (set (map length s.sums) n) (length_digest m ∙ e) ∙ set-get_or (map length s.sums) n 16

each_sixteen : (f : ℕ → List ℕ) (i : ℕ) (cs : List Curve) → ((k : ℕ) → length (f k) ≡ 16) → map length (map f (up_from i (length cs))) ≡ sum_sizes cs
each_sixteen f i [] h = refl
each_sixteen f i (c ∷ cs) h = ap₂ ◌∷◌ (h i) (each_sixteen f (suc i) cs h)

-- a block's length set to one that fits it
pub lengths_set : (ms ns : List ℕ) (k n : ℕ) → fitting ms ns ≡ true → 1 ≤ n → n ≤ get_or ms k 0 → fitting ms (set ns k n) ≡ true
lengths_set [] [] k n h a b = refl
lengths_set [] (x ∷ ns) k n h a b = absurd (false≢true h)
lengths_set (m ∷ ms) [] k n h a b = absurd (false≢true h)
lengths_set (m ∷ ms) (x ∷ ns) zero n h a b = rw (le-leb 1 n a, le-leb n m b) (and_true (within 1 m x) _ h).1
lengths_set (m ∷ ms) (x ∷ ns) (suc k) n h a b =
    let w : (within 1 m x ≡ true) × (fitting ms ns ≡ true) = and_true _ _ h in
    rw w.0 (lengths_set ms ns k n w.1 a b)

-- a fresh board is usable if it is with its blocks full, whatever its lengths and sums were
pub fresh_usable : (t : Table) (s : State) → usable t (full (layout t) s) ≡ true → usable t (fresh (layout t) s) ≡ true
unfolding fresh
fresh_usable t s h =
    usable_by t _ (full (layout t) s) refl refl refl
    (each_sixteen (λ c. curve_sum (layout t) (full (layout t) s) (curve c)) 0 t.curves (λ c. length_digest _) ∙ sym (usable_parts t _ h).sums) refl
    ∙ h

pub fresh_state : (t : Table) (s : State) → usable t (full (layout t) s) ≡ true → (fresh_board t s).state ≡ fresh (layout t) s
unfolding fresh_board
fresh_state t s h = ap (λ (x : Result). x.state) (first_clear (faults t _) (refuse s) _ (usable_clear t _ h))

pub after_usable : (t : Table) (s : State) (ch : Change) → usable t s ≡ true → Fits t s ch → usable t (after ch s) ≡ true
unfolding after
after_usable t s nothing h k = h
after_usable t s (edit op is ps) h k = usable_by t _ s (edited_lengths (layout t) op is ps s.values (usable_parts t s h).values k) refl refl refl refl ∙ h
after_usable t s (fill i d) h k =
    let u : Usable t s = usable_parts t s h in
    let one : length (filled d (block_of s i)) ≡ length (block_of s i) = simp (length-append, length-drop) (omega (arith, k.1)) in
    let size : length (block_of s i) ≡ get_or (block_sizes t.curves) i 0 = block_bytes t s u i in
    usable_whole t _ record {
      variables = u.variables;
      values = u.values;
      curves = u.curves;
      blocks = map_set length s.blocks i _ ∙ ap (set (map length s.blocks) i) (one ∙ sym (get_or-map length s.blocks i []))
          ∙ set-get_or (map length s.blocks) i 0 ∙ u.blocks;
      lengths = lengths_set (block_sizes t.curves) s.lengths i (length d) u.lengths k.0 (omega (arith, k.1));
      sums = u.sums;
      functions = u.functions;
      groups = u.groups;
    }
after_usable t s (renew c k n) h u = usable_by t _ s refl refl refl (sums_set t s c (contents_of s k n) (usable_parts t s h)) refl ∙ h
after_usable t s (regroup gs) h k = usable_regrouped t s gs h k

-- each command's change fits where its tests pass ---------------------------------------------------------------------------
-- the size of a curve's block
pub block_size : (cs : List Curve) (c k : ℕ) → c < length cs → k < (get_or cs c blank_curve).blocks
    → get_or (block_sizes cs) (sum (map (λ x. x.blocks) (take c cs)) + k) 0 ≡ (get_or cs c blank_curve).size
unfolding sum
block_size [] c k h l = absurd (omega (arith, h))
block_size (x ∷ cs) zero k h l =
    rw (zero-add k) (get_or-append (replicate x.blocks x.size) (block_sizes cs) 0 k (rw length-replicate l)
    ∙ get_or-replicate x.blocks k x.size 0 l)
block_size (x ∷ cs) (suc c) k h l =
    let before : ℕ = sum (map (λ y. y.blocks) (take c cs)) in
    ap (λ i. get_or (replicate x.blocks x.size ++ block_sizes cs) i 0)
    (add_assoc x.blocks before k ∙ ap (◌+ (before + k)) (sym (length-replicate x.blocks x.size)))
    ∙ get_or-append-add (replicate x.blocks x.size) (block_sizes cs) (before + k) 0
    ∙ block_size cs c k (omega (arith, h)) l

pub block_length : (t : Table) (s : State) → Usable t s → (c : CurveNumber) (k : ℕ) → c.0 < length t.curves → k < (curve_of (layout t) c).blocks
    → length (block_of s (block_place (layout t) c k)) ≡ (curve_of (layout t) c).size
block_length t s u c k a b = block_bytes t s u (block_place (layout t) c k) ∙ block_size t.curves c.0 k a b

pub sum_length : (t : Table) (s : State) → Usable t s → (c : CurveNumber) → c.0 < length t.curves → length (sum_of s c) ≡ 16
sum_length t s u c h =
    sym (get_or-map length s.sums c.0 []) ∙ ap (λ l. get_or l c.0 0) u.sums ∙ sum_size t.curves c.0 h

drop_rest : (n m : ℕ) (p : List ℕ) → not (eqb (length p) (n + m)) ≡ false → length (drop n p) ≡ m
drop_rest n m p h = let e : length p ≡ n + m = eqb-true _ _ (not-false _ h) in simp length-drop (omega arith)

-- the set of a new group: declared variables only, and not empty
pub set_below : (l : Layout) (is : List VariableNumber) → set_of l is < 2 ^ length l.sizes
unfolding set_of
set_below l is =
    let f : VariableNumber → Bool = λ i. some (is_same i) is in
    let e : length (map f (variables l)) ≡ length l.sizes = length-map (variables l) f ∙ length-map (up_from 0 (length l.sizes)) variable ∙ length_up_from 0 (length l.sizes) in
    rw e at (marks_below (map f (variables l)))

pub set_some : (l : Layout) (i : ℕ) (is : List VariableNumber) → i < length l.sizes → 0 < set_of l (variable i ∷ is)
unfolding set_of
set_some l i is h =
    let f : VariableNumber → Bool = λ j. some (is_same j) (variable i ∷ is) in
    let e : get_or (map f (variables l)) i false ≡ f (variable (0 + i)) =
    ap (λ x. get_or x i false) (map_map variable f (up_from 0 (length l.sizes))) ∙ at_number (λ k. f (variable k)) 0 (length l.sizes) i false h in
    marks_some (map f (variables l)) i (e ∙ rw (zero-add i, eq-eqb i i refl))

new_group : (l : Layout) (gs p : List ℕ) → usable_groups (length l.sizes) gs ≡ true → ltb (length p) 1 ≡ false
    → some (λ i. not (ltb i (length l.sizes))) p ≡ false → leb 5 (length gs) ≡ false
    → usable_groups (length l.sizes) (gs ++ set_of l (map variable p) ∷ []) ≡ true
unfolding usable_groups
new_group l gs [] h a c d = absurd (true≢false a)
new_group l gs (x ∷ p) h a c d =
    let n : ℕ = length l.sizes in
    let m : ℕ = set_of l (map variable (x ∷ p)) in
    let w : (leb (length gs) 5 ≡ true) × (every (λ m. ltb 0 m && ltb m (2 ^ n)) gs ≡ true) = and_true _ _ h in
    let few : length gs < 5 = leb-false 5 (length gs) d in
    let known : x < n = ltb-true x n (not-false _ (or_false _ _ c).0) in
    rw (le-leb (length (gs ++ m ∷ [])) 5 (simp length-append (omega arith)))
    (every_last _ gs m w.1 (rw (lt-ltb 0 m (set_some l x (map variable p) known)) (lt-ltb m (2 ^ n) (set_below l (map variable (x ∷ p))))))

pub no_groups : (n : ℕ) → usable_groups n [] ≡ true
unfolding usable_groups
no_groups n = refl

module _ (t : Table) (s : State) (busy : ℕ) (p : List ℕ) (h : usable t s ≡ true) where
  abbrev row : Command → Line
  row k = line (layout t) s.groups p k

  pub line_fits : (k : Command) → clear (tests_of (row k) busy) → Fits t s (row k).change
  unfolding line writes_variable writes_group group_bytes
  line_fits Version c = tt
  line_fits ListVariables c = tt
  line_fits ListGroups c = tt
  line_fits ShowGroup c = tt
  line_fits ListCurves c = tt
  line_fits ReadSum c = tt
  line_fits ListFunctions c = tt
  line_fits ReadVariable c = tt
  line_fits ReadGroup c = tt
  line_fits WriteVariable c = ap (◌∷ []) (drop_rest 1 _ p (clear_at (tests_of (row WriteVariable) busy) c 2))
  line_fits WriteGroup c = lengths_cut _ _ (drop_rest 1 _ p (clear_at (tests_of (row WriteGroup) busy) c 2))
  line_fits MaskVariable c = ap (◌∷ []) (drop_rest 2 _ p (clear_at (tests_of (row MaskVariable) busy) c 3))
  line_fits MaskGroup c = lengths_cut _ _ (drop_rest 2 _ p (clear_at (tests_of (row MaskGroup) busy) c 3))
  line_fits WriteRead c = ap (◌∷ []) (drop_rest 2 _ p (clear_at (tests_of (row WriteRead) busy) c 2))
  line_fits MakeGroup c =
      let at : (j : ℕ) → broken_at (tests_of (row MakeGroup) busy) j ≡ false = clear_at (tests_of (row MakeGroup) busy) c in
      let e : length (layout t).sizes ≡ length t.variables = length-map t.variables (λ v. v.size) in
      rw e at (new_group (layout t) s.groups p (rw e (usable_parts t s h).groups) (or_false _ _ (at 0)).0 (at 1) (at 4))
  line_fits RemoveGroups c = no_groups (length t.variables)
  line_fits ReadBlock c = tt
  line_fits WriteBlock c =
      let at : (j : ℕ) → broken_at (tests_of (row WriteBlock) busy) j ≡ false = clear_at (tests_of (row WriteBlock) busy) c in
      let w = and_true (leb 1 (length p - 3)) _ (not-false _ (at 3)) in
      let d : length (drop 3 p) ≤ (curve_of (layout t) (curve (byte_at p 0))).size = rw length-drop (leb-true _ _ w.1) in (
        rw length-drop (leb-true _ _ w.0),
        rw (block_length t s (usable_parts t s h) (curve (byte_at p 0)) (word_at p 1) (ltb-true _ _ (not-false _ (at 1))) (ltb-true _ _ (not-false _ (at 2)))) d,
      )
  line_fits RenewSum c = tt
  line_fits RunFunction c = tt
  line_fits Unknown c = tt

-- messages, packets, results and stores --------------------------------------------------------------------------------------
pub handled_usable : (t : Table) (busy : ℕ) (m : List ℕ) (s : State) → usable t s ≡ true → usable t (handled (layout t) busy m s).state ≡ true
unfolding handled carried state_after
handled_usable t busy m s h =
    judge_case (layout t) s.groups busy m (λ v. usable t (carried (asked (layout t) s.groups m) v s).state ≡ true) (λ e. h)
    (λ f c. after_usable t s _ h (line_fits t s busy (drop 3 m) h (command_of (byte_at m 0)) c))

pub served_usable : (t : Table) (busy : ℕ) (due : Bool) (m : List ℕ) (s : State) → usable t s ≡ true → usable t (served (layout t) busy due m s).state ≡ true
unfolding served
served_usable t busy due m s h = handled_usable t busy m s h

pub stays : (t : Table) (a : Place) (e : Event) (s : State) → usable t s ≡ true → usable t (happen t a e s).state ≡ true
unfolding packet function_result board_store fresh_board
stays t a (arrives busy room p) s h =
    first_case (λ r. usable t r.state ≡ true) (faults t s) (refuse s) _ (λ n. h)
    (λ b. first_case (λ r. usable t r.state ≡ true) (place_tests a room) (refuse s) _ (λ n. h)
    (λ c. first_case (λ r. usable t r.state ≡ true) (packet_tests a p) (refuse s) _ (λ n. h) (λ d. served_usable t busy _ (message p) s h)))
stays t a (returns room f due r) s h =
    first_case (λ x. usable t x.state ≡ true) (faults t s) (refuse s) _ (λ n. h)
    (λ b. first_case (λ x. usable t x.state ≡ true) (result_tests (layout t) room f r) (refuse s) _ (λ n. h) (λ c. h))
stays t a (stores i b) s h =
    first_case (λ x. usable t x.state ≡ true) (faults t s) (refuse s) _ (λ n. h)
    (λ c. first_case (λ x. usable t x.state ≡ true) (store_tests (layout t) i b) (refuse s) _ (λ n. h)
    (λ d. after_usable t s (edit Replace (i ∷ []) (b ∷ [])) h (ap (◌∷ []) (eqb-true _ _ (not-false _ (clear_at (store_tests (layout t) i b) d 1))))))
stays t a freshens s h =
    first_case (λ x. usable t x.state ≡ true) (faults t (full (layout t) s)) (refuse s) _ (λ n. h) (λ c. fresh_usable t s (clear_usable t _ c))

pub later_usable : (t : Table) (a : Place) (es : List Event) (s : State) → usable t s ≡ true → usable t (later t a es s) ≡ true
later_usable t a [] s h = h
later_usable t a (e ∷ es) s h = later_usable t a es (happen t a e s).state (stays t a e s h)

-- a usable board's stores hold it: its pieces are found again where they were put
pub held_again : (t : Table) (s : State) → usable t s ≡ true → held (layout t) (lent_of s) ≡ s
held_again t s h =
    let u : Usable t s = usable_parts t s h in
    let vs : cut (layout t).sizes (join s.values) ≡ s.values = ap (λ ns. cut ns (join s.values)) (sym u.values) ∙ cut_join s.values in
    let bs : cut (block_sizes t.curves) (join s.blocks) ≡ s.blocks = ap (λ ns. cut ns (join s.blocks)) (sym u.blocks) ∙ cut_join s.blocks in
    let ds : cut (sum_sizes t.curves) (join s.sums) ≡ s.sums = ap (λ ns. cut ns (join s.sums)) (sym u.sums) ∙ cut_join s.sums in
    λ i. record { values = vs i; blocks = bs i; lengths = s.lengths; sums = ds i; groups = s.groups }
