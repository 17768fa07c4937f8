-- What an answer teaches, request by request: the table's places after it are the definition's table. Assumes nothing.
use mathlib.Core.Path.{◌≡◌, refl, sym, ap, ap₂, ◌∙◌}
use mathlib.Core.List.{List, [], ◌∷◌, ◌++◌, map}
use Prim.Native.Nat.{ℕ, zero, suc, ◌+◌, ◌-◌, ◌*◌, ◌/◌, ◌%◌, ◌≤◌, ◌<◌, min}
use native.Mathlib.Omega.{arith}
use native.Mathlib.Nat.{zero-add}
use borrow.Author.Tests.{lt-ltb}
use lib.Dec.{leb}
use lib.ListN.{length, take, drop, get_or, length-map, length-append}
use lib.Seq.{ext_get_or, take_at}
use Rattle.bsmp.specs.Base.{up_from, marks_of}
use Rattle.bsmp.specs.Board.{variable, blank_curve, blank_function}
use Rattle.bsmp.specs.declared.GroupNumber.{GroupNumber}
use Rattle.bsmp.specs.declared.Curve.{Curve}
use Rattle.bsmp.specs.declared.Function.{Function}
use Rattle.bsmp.proofs.Lists.{map_map, length_up_from}
use Rattle.bsmp.proofs.Marks.{at_number}
use Rattle.copies.specs.Put.{put}
use Rattle.records.specs.Lending.{numbered, curve_at, function_at, groups_by, groups_of}
use Rattle.records.proofs.Lending.{made_count}
use Rattle.asking.specs.Request.{fields_of}
use Rattle.asking.specs.Learned.{Learned, slot_of, curves_from, functions_from}
use Rattle.asking.specs.Reply.{wanted, tells}
use Rattle.asking.specs.Learning.{with_made, with_curves, with_functions, regrouped, shown_groups, followed, taught}
use Rattle.asking.specs.declared.Request.{Request}
use Rattle.asking.specs.declared.Request.TheVariants.{ListVariables, ListGroups, ShowGroup, ListCurves, ListFunctions}
use Rattle.asking.specs.declared.Request.TheVariants.{MakeGroup, RemoveGroups}
use Rattle.learned.specs.Table.{sizes_in, curves_in, functions_in, learned_by, held_table}
use Rattle.learned.specs.declared.LearnedTable.{LearnedTable}
use Rattle.learned.proofs.Fronts.{sizes_front}
use Rattle.learning.specs.Taking.{curves_taken, functions_taken, Answers, taught_by}
use Rattle.learning.proofs.Taking.{low_seven}

put_start : (s v : List ℕ) → put s 0 v ≡ v ++ drop (0 + length v) s
unfolding put
put_start s v = refl

-- lists in their places ---------------------------------------------------------------------------------------------------------------
sizes_in_lem : (ss v : List ℕ) → length v ≤ length ss → sizes_in (length v) (put ss 0 v) ≡ v
sizes_in_lem ss v h =
    let r : List ℕ = drop (0 + length v) ss in
    ap (sizes_in (length v)) (put_start ss v)
    ∙ sizes_front (length v) (v ++ r) (rw (length-append v r) (omega arith)) ∙ take_at v r (length v) refl

-- three numbers from a place on
third : List ℕ → ℕ → Curve
third l k = record { writable = get_or l k 0; size = get_or l (k + 1) 0; blocks = get_or l (k + 2) 0 }

third_next : (a b c : ℕ) (l : List ℕ) (k : ℕ) → third (a ∷ b ∷ c ∷ l) (suc (suc (suc k))) ≡ third l k
unfolding third
third_next a b c l k =
    let one : suc (suc (suc k)) + 1 ≡ suc (suc (suc (k + 1))) = omega arith in
    let two : suc (suc (suc k)) + 2 ≡ suc (suc (suc (k + 2))) = omega arith in
    ap₂ (λ i j. record { writable = get_or l k 0; size = get_or (a ∷ b ∷ c ∷ l) i 0; blocks = get_or (a ∷ b ∷ c ∷ l) j 0 }) one two

third_at : (xs : List Curve) (r : List ℕ) (i : ℕ) → i < length xs → third (curves_taken xs ++ r) (3 * i) ≡ get_or xs i blank_curve
unfolding third
third_at [] r i h = absurd (omega (arith, h))
third_at (x ∷ xs) r zero h = refl
third_at (x ∷ xs) r (suc i) h =
    let e : 3 * suc i ≡ suc (suc (suc (3 * i))) = omega arith in
    ap (third (x.writable ∷ x.size ∷ x.blocks ∷ curves_taken xs ++ r)) e ∙ third_next x.writable x.size x.blocks (curves_taken xs ++ r) (3 * i) ∙ third_at xs r i (omega (arith, h))

taken_length : (xs : List Curve) → length (curves_taken xs) ≡ 3 * length xs
taken_length [] = refl
taken_length (x ∷ xs) = omega (arith, taken_length xs)

curves_in_lem : (cs : List ℕ) (xs : List Curve) → curves_in (length xs) (put cs 0 (curves_taken xs)) ≡ xs
unfolding curves_in third
curves_in_lem cs xs =
    let r : List ℕ = drop (0 + length (curves_taken xs)) cs in
    let l : List ℕ = curves_taken xs ++ r in
    let n : length (numbered (curve_at l) (length xs)) ≡ length xs = length-map (up_from 0 (length xs)) (curve_at l) ∙ length_up_from 0 (length xs) in
    let m : length l ≡ 3 * length xs + length r = length-append (curves_taken xs) r ∙ ap (◌+ length r) (taken_length xs) in
    ap (curves_in (length xs)) (put_start cs (curves_taken xs))
    ∙ ext_get_or blank_curve (numbered (curve_at l) (length xs)) xs n
    (λ i h. at_number (curve_at l) 0 (length xs) i blank_curve (omega arith) ∙ ap (curve_at l) (zero-add i)
    ∙ rw (lt-ltb i (length l / 3) (omega arith)) (third_at xs r i (omega arith)))

-- two numbers from a place on
second : List ℕ → ℕ → Function
second l k = record { input = get_or l k 0; output = get_or l (k + 1) 0 }

second_at : (p r : List ℕ) (i : ℕ) → i < length p → second (functions_taken p ++ r) (2 * i) ≡ get_or (functions_from p) i blank_function
unfolding second
second_at [] r i h = absurd (omega (arith, h))
second_at (x ∷ p) r zero h = refl
second_at (x ∷ p) r (suc i) h =
    let e : 2 * suc i ≡ suc (suc (2 * i)) = omega arith in
    let one : suc (suc (2 * i)) + 1 ≡ suc (suc (2 * i + 1)) = omega arith in
    let l : List ℕ = x / 16 ∷ x % 16 ∷ functions_taken p ++ r in
    ap (second l) e ∙ ap (λ j. record { input = get_or (functions_taken p ++ r) (2 * i) 0; output = get_or l j 0 }) one ∙ second_at p r i (omega (arith, h))

pairs_length : (p : List ℕ) → length (functions_taken p) ≡ 2 * length p
pairs_length [] = refl
pairs_length (x ∷ p) = omega (arith, pairs_length p)

functions_in_lem : (fs p : List ℕ) → functions_in (length p) (put fs 0 (functions_taken p)) ≡ functions_from p
unfolding functions_in second
functions_in_lem fs p =
    let r : List ℕ = drop (0 + length (functions_taken p)) fs in
    let l : List ℕ = functions_taken p ++ r in
    let n : length (numbered (function_at l) (length p)) ≡ length p = length-map (up_from 0 (length p)) (function_at l) ∙ length_up_from 0 (length p) in
    let m : length l ≡ 2 * length p + length r = length-append (functions_taken p) r ∙ ap (◌+ length r) (pairs_length p) in
    ap (functions_in (length p)) (put_start fs (functions_taken p))
    ∙ ext_get_or blank_function (numbered (function_at l) (length p)) (functions_from p) (n ∙ sym (length-map p (λ b. record { input = b / 16; output = b % 16 })))
    (λ i h. at_number (function_at l) 0 (length p) i blank_function (omega arith) ∙ ap (function_at l) (zero-add i)
    ∙ rw (lt-ltb i (length l / 2) (omega arith)) (second_at p r i (omega arith)))

-- the first of so many
min_none : (k : ℕ) → min k 0 ≡ 0
min_none k = omega arith

min_both : (k n : ℕ) → min (suc k) (suc n) ≡ suc (min k n)
min_both k n = omega arith

zero_min : (n : ℕ) → min 0 n ≡ 0
zero_min n = omega arith

take_none : {A : Type 0} (k : ℕ) → take {A = A} k [] ≡ []
take_none zero = refl
take_none (suc k) = refl

take_up : {A : Type 0} (f : ℕ → A) (i n k : ℕ) → map f (up_from i (min k n)) ≡ take k (map f (up_from i n))
take_up f i zero k = ap (λ j. map f (up_from i j)) (min_none k) ∙ sym (take_none k)
take_up f i (suc n) zero = ap (λ j. map f (up_from i j)) (zero_min (suc n))
take_up f i (suc n) (suc k) = ap (λ j. map f (up_from i j)) (min_both k n) ∙ ap (f i ∷◌) (take_up f (suc i) n k)

groups_in : (n k : ℕ) (gs : List ℕ) → groups_of (groups_by (min k n) gs) ≡ take k (groups_of (groups_by n gs))
unfolding groups_of
groups_in n k gs = take_up (λ i. get_or gs i 0) 0 n k

-- what each answer must have, to be taken -------------------------------------------------------------------------------------------
module _ (r : Request) (p : List ℕ) (a : Answers r p) where
  pub variables_few : r ≡ ListVariables → length p ≤ 64
  variables_few e = rw e at a

  pub variables_room : (ss : List ℕ) → r ≡ ListVariables → length ss ≡ 64 → length p ≤ length ss
  variables_room ss e h = omega (arith, variables_few e)

  pub groups_some : r ≡ ListGroups → 3 ≤ length p
  groups_some e = rw e at a

  curves_whole : r ≡ ListCurves → (length p ≤ 40) × (5 * length (curves_from p) ≡ length p)
  curves_whole e = rw e at a

  pub curves_room : (cs : List ℕ) → r ≡ ListCurves → length cs ≡ 24 → 3 * length p ≤ 5 * length cs
  curves_room cs e h = omega (arith, (curves_whole e).0)

  functions_few : r ≡ ListFunctions → length p ≤ 16
  functions_few e = rw e at a

  pub functions_room : (fs : List ℕ) → r ≡ ListFunctions → length fs ≡ 32 → 2 * length p ≤ length fs
  functions_room fs e h = omega (arith, functions_few e)

-- the table after it -----------------------------------------------------------------------------------------------------------------
module _ (t : LearnedTable) (d p : List ℕ) (r : Request) where
  abbrev x : Learned
  x = held_table t

  abbrev After : Learned → Type 0
  After y = y ≡ taught_by x r d p

  pub variables_learned : r ≡ ListVariables → Answers r p → length t.sizes ≡ 64 → (m : ℕ) (ss : List ℕ) → ss ≡ put t.sizes 0 (low_seven p) → m ≡ marks_of (map (leb 128) p)
      → After (held_table (learned_by (length p) m 0 t.curves t.functions t.sets t.shapes ss t.calls))
  unfolding taught tells wanted groups_of
  variables_learned e a h m ss f g =
      let n : length (low_seven p) ≡ length p = length-map p (λ b. b % 128) in
      let z : sizes_in (length p) ss ≡ map (λ v. v.size) (map slot_of p) =
      ap (λ j. sizes_in j ss) (sym n) ∙ ap (sizes_in (length (low_seven p))) f ∙ sizes_in_lem t.sizes (low_seven p) (omega (arith, variables_few r p a e)) ∙ sym (map_map slot_of (λ v. v.size) p) in
      let w : m ≡ marks_of (map (λ v. v.writable) (map slot_of p)) = g ∙ ap marks_of (sym (map_map slot_of (λ v. v.writable) p)) in
      rw e (ap₂ (λ i j. record { layout = record { sizes = i; writable = j; curves = curves_in t.curves t.shapes; functions = functions_in t.functions t.calls }; groups = [] }) z w)

  pub groups_learned : r ≡ ListGroups → (n : ℕ) → n ≡ min (length p - 3) t.groups → After (with_made x (groups_of (groups_by n t.sets)))
  unfolding taught tells wanted
  groups_learned e n f =
      rw e (ap (with_made x) (ap (λ j. groups_of (groups_by j t.sets)) f ∙ groups_in t.groups (length p - 3) t.sets
      ∙ ap (λ j. take (j - 3) (groups_of (groups_by t.groups t.sets))) (sym (length-map p slot_of))))

  pub members_learned : (g : GroupNumber) (y : Learned) → r ≡ ShowGroup g → y ≡ with_made x (shown_groups x g (map variable p)) → After y
  unfolding taught tells wanted
  members_learned g y e h = rw e h

  pub curves_learned : r ≡ ListCurves → Answers r p → (cs : List ℕ) → cs ≡ put t.shapes 0 (curves_taken (curves_from p)) → After (with_curves x (curves_in (length p / 5) cs))
  unfolding taught tells wanted
  curves_learned e a cs f =
      let n : length p / 5 ≡ length (curves_from p) = omega (arith, (curves_whole r p a e).1) in
      rw e (ap (with_curves x) (ap₂ curves_in n f ∙ curves_in_lem t.shapes (curves_from p)))

  pub functions_learned : r ≡ ListFunctions → (fs : List ℕ) → fs ≡ put t.calls 0 (functions_taken p) → After (with_functions x (functions_in (length p) fs))
  unfolding taught tells wanted
  functions_learned e fs f = rw e (ap (with_functions x) (ap (functions_in (length p)) f ∙ functions_in_lem t.calls p))

  pub make_followed : (y : Learned) → r ≡ MakeGroup → y ≡ with_made x (regrouped x t.groups (map variable d)) → After y
  unfolding taught tells wanted followed fields_of
  make_followed y e h = rw e (h ∙ ap (λ j. with_made x (regrouped x j (map variable d))) (made_count t.groups t.sets))

  pub remove_followed : r ≡ RemoveGroups → After (with_made x (groups_of (groups_by 0 t.sets)))
  unfolding taught tells wanted followed fields_of groups_of
  remove_followed e = rw e

  -- all else teaches nothing
  pub nothing_learned : (q : Request) → r ≡ q → taught_by x q d p ≡ x → After x
  nothing_learned q e h = sym (rw e h)
