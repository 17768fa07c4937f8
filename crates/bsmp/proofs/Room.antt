-- No reply is longer than 4,104 bytes, and its bytes sum to 0 modulo 256. Assumes nothing.
use mathlib.Core.Path.{◌≡◌, refl, ap₂, ◌∙◌}
use mathlib.Core.Bool.{Bool, true, false, ◌&&◌}
use mathlib.Core.List.{List, [], ◌∷◌, ◌++◌, map}
use Prim.Native.Nat.{ℕ, zero, suc, ◌+◌, ◌*◌, ◌%◌, ◌≤◌, ◌<◌}
use native.Mathlib.Omega.{arith}
use lib.Dec.{leb, lit≤}
use lib.ListN.{length, drop, get_or, length-append, length-take, length-map}
use borrow.Author.Tests.{leb-true, ltb-true, eqb-true, not-false}
use Rattle.bsmp.specs.Base.{all, every, sum, join, up_from, within, byte_at, word_at}
use Rattle.bsmp.specs.Codes.{error_code, command_of}
use Rattle.bsmp.specs.Board.{variable, group, curve, Table, Layout, layout, State, value_of, block_of, content_of, sum_of, in_group, sizes_of, size_of, variables, members, blank_curve, blank_function, curve_of, block_place, function_of}
use Rattle.bsmp.specs.Board.{variable_rules, usable_curve, curve_rules, full, usable, faults, usable_variables, usable_curves, usable_functions, usable_groups}
use Rattle.bsmp.specs.Message.{Answer, say, tell, show, attest, call, variable_list, group_list, curve_record, curve_list, function_list, Line, tests_of, line, message_of, asked, after, values_of, replies, spoken, state_after, said, carried, handled}
use Rattle.bsmp.specs.Packet.{Place, Ending, reply, silence, run, refuse, checksum, packed, frame, ends, place_tests, packet_tests, served, packet, Ran, gave, failed, bad_output, ran_says, result_tests, function_result, store_tests, board_store, fresh_board, message}
use Rattle.bsmp.specs.Apart.{Event, arrives, returns, stores, freshens, happen}
use Rattle.bsmp.specs.declared.VariableNumber.{VariableNumber}
use Rattle.bsmp.specs.declared.GroupNumber.{GroupNumber}
use Rattle.bsmp.specs.declared.FunctionNumber.{FunctionNumber}
use Rattle.bsmp.specs.declared.Curve.{Curve}
use Rattle.bsmp.specs.declared.Function.{Function}
use Rattle.bsmp.specs.declared.Command.{Command}
use Rattle.bsmp.specs.declared.Command.TheVariants.{Version, ListVariables, ListGroups, ShowGroup, ListCurves, ReadSum, ListFunctions, ReadVariable, ReadGroup, WriteVariable, WriteGroup}
use Rattle.bsmp.specs.declared.Command.TheVariants.{MaskVariable, MaskGroup, WriteRead, MakeGroup, RemoveGroups, ReadBlock, WriteBlock, RenewSum, RunFunction, Unknown}
use Rattle.bsmp.proofs.Bools.{and_true, all_at}
use Rattle.bsmp.proofs.Lists.{map_map, sum_append, every_at, length_up_from, map_numbers, only_length, only_sum}
use Rattle.bsmp.proofs.Chain.{clear, clear_at, broken_at, first_case}
use Rattle.bsmp.proofs.Usable.{Usable, usable_parts, clear_usable}
use Rattle.bsmp.proofs.Accepted.{judge_case}
use Rattle.bsmp.proofs.Stays.{value_length, block_length, sum_length, line_fits, after_usable}

-- groups: no more members than there are variables, and no more bytes than they have -----------------------------------------
count_variables : (l : Layout) → length (variables l) ≡ length l.sizes
count_variables l = length-map (up_from 0 (length l.sizes)) variable ∙ length_up_from 0 (length l.sizes)

pub group_count_lem : (l : Layout) (gs : List ℕ) (g : GroupNumber) → length (members l gs g) ≤ length l.sizes
unfolding members
group_count_lem l gs g = omega (arith, only_length (in_group l.writable gs g) (variables l), count_variables l)

all_sizes : (l : Layout) → map (size_of l) (variables l) ≡ l.sizes
all_sizes l = map_map variable (size_of l) (up_from 0 (length l.sizes)) ∙ map_numbers l.sizes 0

pub group_bytes_lem : (l : Layout) (gs : List ℕ) (g : GroupNumber) → sum (map (size_of l) (members l gs g)) ≤ sum l.sizes
unfolding members
group_bytes_lem l gs g = rw (all_sizes l) at (only_sum (size_of l) (in_group l.writable gs g) (variables l))

-- the bytes told of some variables
pub told_bytes_lem : (t : Table) (s : State) → Usable t s → (is : List VariableNumber) → length (values_of s.values is) ≡ sum (map (size_of (layout t)) is)
unfolding values_of sum
told_bytes_lem t s u [] = refl
told_bytes_lem t s u (i ∷ is) = length-append (value_of s i) (values_of s.values is) ∙ ap₂ ◌+◌ (value_length t s u i) (told_bytes_lem t s u is)

-- 01's limits, as numbers ----------------------------------------------------------------------------------------------------
pub record Limits (t : Table) (s : State) : Type 0 where
  pub variables : length t.variables ≤ 64
  pub bytes : sum (sizes_of t.variables) ≤ 4096
  pub curves : length t.curves ≤ 8
  pub block : (c : ℕ) → c < length t.curves → (get_or t.curves c blank_curve).size ≤ 4096
  pub functions : length t.functions ≤ 16
  pub output : (f : ℕ) → f < length t.functions → (get_or t.functions f blank_function).output ≤ 15
  pub groups : length s.groups ≤ 5

block_limit : (cs : List Curve) (i : ℕ) → every usable_curve cs ≡ true → i < length cs → (get_or cs i blank_curve).size ≤ 4096
block_limit cs i h k =
    let x : Curve = get_or cs i blank_curve in
    let e : usable_curve x ≡ true = every_at usable_curve cs i blank_curve h k in
    let w : within 1 4096 x.size ≡ true = (and_true (leb x.writable 1) _ (and_true _ (within 1 65536 x.blocks) e).0).1 in
    leb-true _ _ (and_true (leb 1 x.size) _ w).1

output_limit : (fs : List Function) (i : ℕ) → every (λ f. leb f.input 15 && leb f.output 15) fs ≡ true → i < length fs
    → (get_or fs i blank_function).output ≤ 15
output_limit fs i h k =
    let x : Function = get_or fs i blank_function in
    leb-true _ _ (and_true (leb x.input 15) (leb x.output 15) (every_at (λ f. leb f.input 15 && leb f.output 15) fs i _ h k)).1

pub limits : (t : Table) (s : State) → usable t s ≡ true → Limits t s
unfolding usable_variables usable_curves usable_functions usable_groups
limits t s h =
    let u = usable_parts t s h in
    let v : all (variable_rules t.variables) ≡ true = u.variables in
    let c : all (curve_rules t.curves) ≡ true = u.curves in
    let f = and_true (leb (length t.functions) 16) _ u.functions in
    record {
      variables = leb-true _ _ (and_true (leb 1 (length t.variables)) _ (all_at (variable_rules t.variables) v 0)).1;
      bytes = leb-true _ _ (all_at (variable_rules t.variables) v 2);
      curves = leb-true _ _ (all_at (curve_rules t.curves) c 0);
      block = λ i k. block_limit t.curves i (all_at (curve_rules t.curves) c 1) k;
      functions = leb-true _ _ f.0;
      output = λ i k. output_limit t.functions i f.1 k;
      groups = leb-true _ _ (and_true (leb (length s.groups) 5) _ u.groups).0;
    }

-- answers whose payload fits --------------------------------------------------------------------------------------------------
abbrev Small : Table → State → Answer → Type 0
Small t s (say c p) = length p ≤ 4099
Small t s (tell c is) = sum (map (size_of (layout t)) is) ≤ 4099
Small t s (show c front k) = length front + length (content_of s k) ≤ 4099
Small t s (attest c n) = length (sum_of s n) ≤ 4099
Small t s (call f i) = Unit {0}

pub five_each : (f : Curve → List ℕ) (cs : List Curve) → ((c : Curve) → length (f c) ≡ 5) → length (join (map f cs)) ≡ 5 * length cs
five_each f [] h = refl
five_each f (c ∷ cs) h = length-append (f c) _ ∙ ap₂ ◌+◌ (h c) (five_each f cs h) ∙ omega arith

size_within : (ns : List ℕ) (i : ℕ) → get_or ns i 0 ≤ sum ns
unfolding sum
size_within [] i = omega arith
size_within (n ∷ ns) zero = omega arith
size_within (n ∷ ns) (suc i) = omega (arith, size_within ns i)

one_size : (l : Layout) (i : VariableNumber) → sum (map (size_of l) (i ∷ [])) ≤ sum l.sizes
unfolding sum
one_size l i = omega (arith, size_within l.sizes i.0)

module _ (t : Table) (s : State) (busy : ℕ) (p : List ℕ) (h : usable t s ≡ true) where
  abbrev row : Command → Line
  row k = line (layout t) s.groups p k

  line_small : (k : Command) → clear (tests_of (row k) busy) → Small t (after (row k).change s) (row k).answer
  unfolding line after variable_list group_list curve_list function_list
  line_small Version c = lit≤ tt
  line_small ListVariables c = simp (length-map, length_up_from) (omega (arith, limits t s h))
  line_small ListGroups c = simp (length-map, length_up_from) (omega (arith, limits t s h))
  line_small ShowGroup c =
      simp length-map (omega (arith, group_count_lem (layout t) s.groups (group (byte_at p 0)), length-map t.variables (λ v. v.size), limits t s h))
  line_small ListCurves c = omega (arith, five_each curve_record t.curves (λ x. refl), limits t s h)
  line_small ReadSum c =
      let known : byte_at p 0 < length t.curves = ltb-true _ _ (not-false _ (clear_at (tests_of (row ReadSum) busy) c 1)) in
      omega (arith, sum_length t s (usable_parts t s h) (curve (byte_at p 0)) known)
  line_small ListFunctions c = simp length-map (omega (arith, limits t s h))
  line_small ReadVariable c = omega (arith, one_size (layout t) (variable (byte_at p 0)), limits t s h)
  line_small ReadGroup c = omega (arith, group_bytes_lem (layout t) s.groups (group (byte_at p 0)), limits t s h)
  line_small WriteVariable c = lit≤ tt
  line_small WriteGroup c = lit≤ tt
  line_small MaskVariable c = lit≤ tt
  line_small MaskGroup c = lit≤ tt
  line_small WriteRead c = omega (arith, one_size (layout t) (variable (byte_at p 1)), limits t s h)
  line_small MakeGroup c = lit≤ tt
  line_small RemoveGroups c = lit≤ tt
  line_small ReadBlock c =
      let at : (j : ℕ) → broken_at (tests_of (row ReadBlock) busy) j ≡ false = clear_at (tests_of (row ReadBlock) busy) c in
      let three : length p ≡ 3 = eqb-true _ _ (not-false _ (at 0)) in
      let known : byte_at p 0 < length t.curves = ltb-true _ _ (not-false _ (at 1)) in
      let b : length (block_of s (block_place (layout t) (curve (byte_at p 0)) (word_at p 1))) ≡ (curve_of (layout t) (curve (byte_at p 0))).size =
      block_length t s (usable_parts t s h) (curve (byte_at p 0)) (word_at p 1) known (ltb-true _ _ (not-false _ (at 2))) in
      simp length-take (omega (arith, (limits t s h).block (byte_at p 0) known))
  line_small WriteBlock c = lit≤ tt
  line_small RenewSum c = lit≤ tt
  line_small RunFunction c = tt
  line_small Unknown c = lit≤ tt

-- endings ----------------------------------------------------------------------------------------------------------------------
-- "all its bytes sum to 0 modulo 256", and it fits the reply buffer
abbrev pub Sent : List ℕ → Type 0
Sent r = (length r ≤ 4104) × (sum r % 256 ≡ 0)

abbrev pub WellSent : Ending → Type 0
WellSent (reply r) = Sent r
WellSent silence = Unit {0}
WellSent (run f i due) = Unit {0}
WellSent (Ending.refused n) = Unit {0}

pub packed_sum : (d : ℕ) (m : List ℕ) → sum (packed d m) % 256 ≡ 0
unfolding sum
packed_sum d m = rw (sum_append (d ∷ m) (checksum (d ∷ m) ∷ [])) (omega arith)

pub frame_sum : (c : ℕ) (p : List ℕ) → sum (frame c p) % 256 ≡ 0
unfolding frame
frame_sum c p = packed_sum 0 (message_of c p)

pub frame_length : (c : ℕ) (p : List ℕ) → length (frame c p) ≡ length p + 5
unfolding frame
frame_length c p = simp length-append (omega arith)

ends_well : (due : Bool) (c : ℕ) (p : List ℕ) → length p ≤ 4099 → WellSent (ends due (replies c p))
unfolding ends
ends_well true c p h = (rw (frame_length c p) (omega arith), frame_sum c p)
ends_well false c p h = tt

spoken_well : (t : Table) (s : State) (due : Bool) (an : Answer) → Usable t s → Small t s an → WellSent (ends due (spoken an s))
unfolding spoken ends
spoken_well t s due (say c p) u h = ends_well due c p h
spoken_well t s due (tell c is) u h = ends_well due c (values_of s.values is) (rw (told_bytes_lem t s u is) h)
spoken_well t s due (show c front k) u h = ends_well due c (front ++ content_of s k) (rw (length-append front (content_of s k)) h)
spoken_well t s due (attest c n) u h = ends_well due c (sum_of s n) h
spoken_well t s due (call f i) u h = tt

pub handled_well : (t : Table) (busy : ℕ) (m : List ℕ) (s : State) (due : Bool) → usable t s ≡ true → WellSent (ends due (handled (layout t) busy m s).says)
unfolding handled carried said state_after
handled_well t busy m s due h =
    let l : Line = asked (layout t) s.groups m in
    judge_case (layout t) s.groups busy m (λ v. WellSent (ends due (carried l v s).says)) (λ e. ends_well due (error_code e) [] (lit≤ tt))
    (λ f c. spoken_well t (after l.change s) due l.answer
    (usable_parts t _ (after_usable t s l.change h (line_fits t s busy (drop 3 m) h (command_of (byte_at m 0)) c)))
    (line_small t s busy (drop 3 m) h (command_of (byte_at m 0)) c))

ran_well : (t : Table) (s : State) (f : FunctionNumber) (due : Bool) (r : Ran) → usable t s ≡ true → f.0 < length t.functions
    → bad_output (function_of (layout t) f).output r ≡ false → WellSent (ends due (ran_says r))
ran_well t s f due (gave out) h k b =
    let e : length out ≡ (function_of (layout t) f).output = eqb-true _ _ (not-false _ b) in
    ends_well due 0x51 out (omega (arith, (limits t s h).output f.0 k))
ran_well t s f due (failed x) h k b = ends_well due 0x53 (x ∷ []) (lit≤ tt)

served_well : (t : Table) (busy : ℕ) (due : Bool) (m : List ℕ) (s : State) → usable t s ≡ true → WellSent (served (layout t) busy due m s).ending
unfolding served
served_well t busy due m s h = handled_well t busy m s due h

-- every reply that an event gives
pub well_sent : (t : Table) (a : Place) (e : Event) (s : State) → WellSent (happen t a e s).ending
unfolding packet function_result board_store fresh_board
well_sent t a (arrives busy room p) s =
    first_case (λ r. WellSent r.ending) (faults t s) (refuse s) _ (λ n. tt)
    (λ b. first_case (λ r. WellSent r.ending) (place_tests a room) (refuse s) _ (λ n. tt)
    (λ c. first_case (λ r. WellSent r.ending) (packet_tests a p) (refuse s) _ (λ n. tt)
    (λ d. served_well t busy _ (message p) s (clear_usable t s b))))
well_sent t a (returns room f due r) s =
    first_case (λ x. WellSent x.ending) (faults t s) (refuse s) _ (λ n. tt)
    (λ b. first_case (λ x. WellSent x.ending) (result_tests (layout t) room f r) (refuse s) _ (λ n. tt)
    (λ c. let at : (j : ℕ) → broken_at (result_tests (layout t) room f r) j ≡ false = clear_at (result_tests (layout t) room f r) c in
    ran_well t s f due r (clear_usable t s b) (ltb-true _ _ (not-false _ (at 1))) (at 2)))
well_sent t a (stores i b) s =
    first_case (λ x. WellSent x.ending) (faults t s) (refuse s) _ (λ n. tt)
    (λ c. first_case (λ x. WellSent x.ending) (store_tests (layout t) i b) (refuse s) _ (λ n. tt) (λ d. tt))
well_sent t a freshens s = first_case (λ x. WellSent x.ending) (faults t (full (layout t) s)) (refuse s) _ (λ n. tt) (λ c. tt)
