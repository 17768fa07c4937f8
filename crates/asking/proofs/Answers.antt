-- Each form of a node's answer fits, and is read as what the node holds, while the learned table is the node's. Assumes nothing.
use mathlib.Core.Path.{◌≡◌, refl, sym, ap, ◌∙◌}
use mathlib.Core.Bool.{true, false, ◌&&◌}
use mathlib.Core.List.{List, [], ◌∷◌, map}
use Prim.Native.Nat.{ℕ, suc, ◌-◌, ◌*◌, ◌≤◌, ◌<◌}
use native.Mathlib.Omega.{arith}
use native.Mathlib.Nat.{zero-add}
use lib.Dec.{leb, eqb}
use lib.ListN.{length, get_or, length-map}
use borrow.Author.Tests.{eq-eqb, leb-true, lt-ltb}
use Rattle.bsmp.specs.Base.{up_from, all, every, within, byte_at, word}
use Rattle.bsmp.specs.Board.{variable, group, Table, Layout, layout, State, content_of, sum_of, size_of, marked, members, writable_group, group_count, is_type, blank_curve, curve_of, block_sizes, block_place}
use Rattle.bsmp.specs.Board.{usable_size, variable_rules, usable_curve, curve_rules, usable, usable_variables, usable_curves, usable_functions}
use Rattle.bsmp.specs.Message.{Answer, say, tell, show, attest, call, listed, variable_list, group_list, curve_record, curve_list, function_list, Said, replies, runs, spoken}
use Rattle.bsmp.specs.Packet.{Ran}
use Rattle.bsmp.specs.declared.CurveNumber.{CurveNumber}
use Rattle.bsmp.proofs.Bools.{and_true, inside, all_at}
use Rattle.bsmp.proofs.Lists.{map_map, every_at, length_up_from, map_numbers}
use Rattle.bsmp.proofs.Marks.{at_number}
use Rattle.bsmp.proofs.Usable.{usable_parts, sizes_usable}
use Rattle.bsmp.proofs.Stays.{block_size, sum_length}
use Rattle.bsmp.proofs.Lengths.{in_range_lem as lengths_in_range, content_length, place_known}
use Rattle.bsmp.proofs.Room.{told_bytes_lem, five_each, limits}
use Rattle.asking.specs.Learned.{Learned, learned_of, usable_sizes, usable_learned, slot, slot_of, variable_slots, group_slots, fits_count, curves_from, functions_from}
use Rattle.asking.specs.Reply.{Wanted, member_list, values, block, digest, output, is_variables, is_groups, is_members, is_curves, is_functions, is_values, holds, error_reply, answers, tells}
use Rattle.asking.proofs.Written.{word_read}
use Rattle.asking.proofs.Lists.{and_both, in_range_lem, map_numbered, every_numbered, numbers_again}
use Rattle.asking.proofs.Members.{members_few, members_limited, count_fits}
use Rattle.asking.proofs.Records.{slot_read, curves_read, functions_read, values_read}

-- the answer that the definition gives where this is wanted (d: a function's input) -----------------------------------------------
abbrev pub answer_for : Layout → List ℕ → (d : List ℕ) → Wanted → Answer
answer_for l gs d Wanted.done = say 0xE0 []
answer_for l gs d Wanted.version = say 0x01 (2 ∷ 20 ∷ 0 ∷ [])
answer_for l gs d Wanted.variable_list = say 0x03 (variable_list l)
answer_for l gs d Wanted.group_list = say 0x05 (group_list l gs)
answer_for l gs d (member_list g) = say 0x07 (map (λ i. i.0) (members l gs g))
answer_for l gs d Wanted.curve_list = say 0x09 (curve_list l)
answer_for l gs d Wanted.function_list = say 0x0D (function_list l)
answer_for l gs d (values b c is) = tell c is
answer_for l gs d (block c k) = show 0x41 (c.0 ∷ word k) (block_place l c k)
answer_for l gs d (digest c) = attest 0x0B c
answer_for l gs d (output f) = call f d

-- what the tests of a request leave to be known of it
abbrev pub Named : Layout → List ℕ → Wanted → Type 0
Named l gs Wanted.done = Unit {0}
Named l gs Wanted.version = Unit {0}
Named l gs Wanted.variable_list = Unit {0}
Named l gs Wanted.group_list = Unit {0}
Named l gs (member_list g) = g.0 < group_count gs
Named l gs Wanted.curve_list = Unit {0}
Named l gs Wanted.function_list = Unit {0}
Named l gs (values b c is) = (b ≡ true) × (within 0xE1 0xE8 c ≡ false)
Named l gs (block c k) = (c.0 < length l.curves) × (k < (curve_of l c).blocks)
Named l gs (digest c) = c.0 < length l.curves
Named l gs (output f) = Unit {0}

-- an answer that is no error, fits, and is read as what the board holds
abbrev pub Right : Learned → Wanted → (d : List ℕ) → State → Said → Type 0
Right x w d s (replies c p) = (error_reply c p ≡ false) × (answers x w c p ≡ true) × ((r : Ran) → tells x w c p ≡ holds x.layout x.groups s r w)
Right x w d s (runs f i) = (w ≡ output f) × (i ≡ d)

module _ (t : Table) (s : State) (h : usable t s ≡ true) where
  abbrev L : Layout
  L = layout t

  abbrev G : List ℕ
  G = s.groups

  -- the node's table keeps 01's limits
  good_sizes : usable_sizes L.sizes ≡ true
  unfolding usable_variables usable_sizes
  good_sizes =
      let v : all (variable_rules t.variables) ≡ true = (usable_parts t s h).variables in
      rw (length-map t.variables (λ x. x.size), all_at (variable_rules t.variables) v 0, sizes_usable t.variables v, all_at (variable_rules t.variables) v 2)

  pub good_table : usable_learned (learned_of t s) ≡ true
  unfolding usable_learned
  good_table =
      let u = usable_parts t s h in
      rw (good_sizes, u.curves, u.functions, length-map t.variables (λ x. x.size), u.groups)

  -- 03
  size_small : (i : ℕ) → i < length L.sizes → size_of L (variable i) < 128
  size_small i k =
      let e = every_at usable_size L.sizes i 0 (sizes_usable t.variables (usable_parts t s h).variables) k in
      let n = leb-true (size_of L (variable i)) 127 (and_true (leb 1 (size_of L (variable i))) _ e).1 in
      omega arith

  variables_read : map slot_of (variable_list L) ≡ variable_slots L
  unfolding variable_list
  variables_read =
      map_map (λ i. listed (marked L.writable (variable i)) (size_of L (variable i))) slot_of (up_from 0 (length L.sizes))
      ∙ map_numbered _ _ 0 (length L.sizes) (λ i a b. slot_read (marked L.writable (variable i)) (size_of L (variable i)) (size_small i (omega arith)))

  sizes_read : map (λ b. (slot_of b).size) (variable_list L) ≡ L.sizes
  sizes_read =
      sym (map_map slot_of (λ v. v.size) (variable_list L)) ∙ ap (map (λ v. v.size)) variables_read
      ∙ map_map (λ i. slot (marked L.writable (variable i)) (size_of L (variable i))) (λ v. v.size) (up_from 0 (length L.sizes))
      ∙ map_numbers L.sizes 0

  -- 05
  group_read : (g : ℕ) → slot_of (listed (writable_group L G (group g)) (length (members L G (group g)))) ≡ slot (writable_group L G (group g)) (length (members L G (group g)))
  group_read g = slot_read (writable_group L G (group g)) (length (members L G (group g))) (omega (arith, members_few t s h (group g)))

  groups_read : map slot_of (group_list L G) ≡ group_slots L G
  unfolding group_list
  groups_read =
      map_map (λ g. listed (writable_group L G (group g)) (length (members L G (group g)))) slot_of (up_from 0 (group_count G))
      ∙ map_numbered _ _ 0 (group_count G) (λ g a b. group_read g)

  count_groups : length (group_list L G) ≡ group_count G
  unfolding group_list
  count_groups = simp (length-map, length_up_from)

  group_at : (g : ℕ) → g < group_count G → slot_of (byte_at (group_list L G) g) ≡ slot (writable_group L G (group g)) (length (members L G (group g)))
  unfolding group_list
  group_at g k =
      ap slot_of (at_number (λ g. listed (writable_group L G (group g)) (length (members L G (group g)))) 0 (group_count G) g 0 k
      ∙ ap (λ g. listed (writable_group L G (group g)) (length (members L G (group g)))) (zero-add g)) ∙ group_read g

  groups_limited : (within 3 8 (length (group_list L G)) && every (λ g. fits_count (group g) (slot_of (byte_at (group_list L G) g)).size) (up_from 0 (length (group_list L G)))) ≡ true
  groups_limited =
      let few : length G ≤ 5 = (limits t s h).groups in
      and_both _ _ (in_range_lem 3 8 (length (group_list L G)) (omega (arith, count_groups)) (omega (arith, count_groups)))
      (every_numbered _ 0 (length (group_list L G))
      (λ g a b.
      let k : g < group_count G = omega (arith, count_groups) in
      ap (λ v. fits_count (group g) v.size) (group_at g k) ∙ count_fits t s h g k))

  -- 09
  curves_back : curves_from (curve_list L) ≡ t.curves
  unfolding curve_list usable_curves
  curves_back = curves_read t.curves (all_at (curve_rules t.curves) (usable_parts t s h).curves 1)

  curves_limited : (eqb (5 * length (curves_from (curve_list L))) (length (curve_list L)) && usable_curves (curves_from (curve_list L))) ≡ true
  unfolding curve_list
  curves_limited =
      and_both _ _ (eq-eqb (5 * length (curves_from (curve_list L))) (length (curve_list L)) (rw curves_back (sym (five_each curve_record t.curves (λ x. refl)))))
      (rw curves_back (usable_parts t s h).curves)

  -- 0D
  functions_back : functions_from (function_list L) ≡ t.functions
  unfolding function_list usable_functions
  functions_back = functions_read t.functions (and_true (leb (length t.functions) 16) _ (usable_parts t s h).functions).1

  -- 41: its number has two bytes
  good_curve : (c : CurveNumber) → c.0 < length t.curves → usable_curve (curve_of L c) ≡ true
  unfolding usable_curves
  good_curve c a = every_at usable_curve t.curves c.0 blank_curve (all_at (curve_rules t.curves) (usable_parts t s h).curves 1) a

  block_few : (c : CurveNumber) (k : ℕ) → c.0 < length t.curves → k < (curve_of L c).blocks → k < 65536
  block_few c k a b =
      let w = and_true (is_type (curve_of L c).writable && within 1 4096 (curve_of L c).size) (within 1 65536 (curve_of L c).blocks) (good_curve c a) in
      omega (arith, b, inside 1 65536 (curve_of L c).blocks w.1)

  -- and 1 to the block size of bytes follow
  block_bytes : (c : CurveNumber) (k : ℕ) → c.0 < length t.curves → k < (curve_of L c).blocks
      → (1 ≤ length (content_of s (block_place L c k))) × (length (content_of s (block_place L c k)) ≤ (curve_of L c).size)
  unfolding usable_curves
  block_bytes c k a b =
      let at : ℕ = block_place L c k in
      let z : get_or (block_sizes t.curves) at 0 ≡ (curve_of L c).size = block_size t.curves c.0 k a b in
      let one = inside 1 4096 (curve_of L c).size (and_true (is_type (curve_of L c).writable) _ (and_true (is_type (curve_of L c).writable && within 1 4096 (curve_of L c).size) (within 1 65536 (curve_of L c).blocks) (good_curve c a)).0).1 in
      let e : length (content_of s at) ≡ get_or s.lengths at 0 = content_length t s h at in
      (omega (arith, (lengths_in_range t s h).least at (place_known (block_sizes t.curves) at (omega arith))), omega (arith, (lengths_in_range t s h).most at))

-- each form of an answer, once: s is the board when it was asked, s' what it holds after it
module _ (t : Table) (s : State) (h : usable t s ≡ true) (s' : State) (u : usable t s' ≡ true) (d : List ℕ) where
  pub right : (w : Wanted) → Named (layout t) s.groups w → Right (learned_of t s) w d s' (spoken (answer_for (layout t) s.groups d w) s')
  unfolding spoken answers tells holds
  right Wanted.done a = (refl, refl, λ r. refl)
  right Wanted.version a = (refl, refl, λ r. refl)
  right Wanted.variable_list a = (refl, rw (sizes_read t s h) (good_sizes t s h), λ r. ap is_variables (variables_read t s h))
  right Wanted.group_list a = (refl, groups_limited t s h, λ r. ap is_groups (groups_read t s h))
  right (member_list g) a = (
    refl,
    rw (length-map (members (layout t) s.groups g) (λ i. i.0), count_fits t s h g.0 a) (members_limited t s h g),
    λ r. ap (is_members g) (numbers_again (members (layout t) s.groups g)),
  )
  right Wanted.curve_list a = (refl, curves_limited t s h, λ r. ap is_curves (curves_back t s h))
  right Wanted.function_list a = (refl, rw (functions_back t s h) (usable_parts t s h).functions, λ r. ap is_functions (functions_back t s h))
  right (values b c is) a = (
    rw a.1,
    rw (a.0, eq-eqb c c refl) (eq-eqb _ _ (told_bytes_lem t s' (usable_parts t s' u) is)),
    λ r. ap is_values (values_read t s' (usable_parts t s' u) is),
  )
  right (block c k) a =
      let n = block_bytes t s' u c k a.0 a.1 in (
        refl,
        rw (lt-ltb c.0 (length t.curves) a.0)
            (and_both _ _ (and_both (eqb c.0 c.0) _ (eq-eqb c.0 c.0 refl) (eq-eqb _ k (word_read k (block_few t s' u c k a.0 a.1)))) (in_range_lem 1 (curve_of (layout t) c).size (suc (suc (suc (length (content_of s' (block_place (layout t) c k))))) - 3) (omega arith) (omega arith))),
        λ r. refl,
      )
  right (digest c) a = (refl, rw (lt-ltb c.0 (length t.curves) a) (eq-eqb (length (sum_of s' c)) 16 (sum_length t s' (usable_parts t s' u) c a)), λ r. refl)
  right (output f) a = (refl, refl)
