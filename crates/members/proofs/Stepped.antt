-- A walk over runs, step by step: the first run of what is left. Assumes nothing.
use mathlib.Core.Path.{◌≡◌, refl, ap, ◌∙◌}
use mathlib.Core.Bool.{Bool, true, false}
use mathlib.Core.List.{List}
use Prim.Native.Nat.{ℕ, ◌+◌, ◌-◌, ◌/◌, ◌%◌, ◌^◌, ◌≤◌, ◌<◌}
use native.Mathlib.Omega.{arith}
use native.Mathlib.Nat.{div-div-eq-div-mul, lt_of_not-le, mod-lt, pow-suc}
use native.Mathlib.Numerals.{add-one}
use lib.Dec.{ltb}
use lib.ListN.{length, take, drop, get_or}
use lib.Pow.{pow_pos}
use lib.Seq.{take-add}
use borrow.Author.Tests.{eq-eqb, ltb-true, ltb-false}
use Rattle.std.proofs.lemmas.Nat.{shr_below}
use Rattle.bsmp.specs.Base.{sum, has}
use Rattle.bsmp.proofs.Lists.{sum_append}
use Rattle.lists.proofs.Sum.{total_take, total_split}
use Rattle.sets.specs.Promises.{Lowest}
use Rattle.members.specs.Walked.{StartOf, RunOf}

half_more : (m k : ℕ) → m / 2 ^ k / 2 ≡ m / 2 ^ (k + 1)
half_more m k = rw (div-div-eq-div-mul, add-one, pow-suc)

has_there : (m k : ℕ) → m / 2 ^ k % 2 ≡ 1 → has m k ≡ true
unfolding has
has_there m k e = eq-eqb _ _ e

has_no : (m k : ℕ) → m / 2 ^ k % 2 ≡ 0 → has m k ≡ false
unfolding has
has_no m k e = rw e

pub take_grows : (ns : List ℕ) (i j : ℕ) → i ≤ j → sum (take i ns) ≤ sum (take j ns)
take_grows ns i j h =
    let k : j ≡ i + (j - i) = omega arith in
    let e : sum (take j ns) ≡ sum (take i ns) + sum (take (j - i) (drop i ns)) = ap (λ x. sum (take x ns)) k ∙ rw (take-add, sum_append) in
    omega arith

-- where a walk begins
pub start_none : (m : ℕ) → m ≡ 0 → StartOf m 0
start_none m e = record { few = omega arith; before = λ k h. absurd (omega (arith, h)); within = λ n h. omega arith }

pub start_lowest : (m i : ℕ) → Lowest m i → StartOf m i
start_lowest m i q = record { few = q.few; before = q.before; within = λ n h. omega (arith, q.below n h) }

module _ (m n d i : ℕ) (e : d ≡ m % 2 ^ n) (q : StartOf d i) where
  fits : d < 2 ^ n
  fits = rw e (mod-lt m (pow_pos n))

  pub start_inside : i ≤ n
  start_inside = q.within n fits

  pub start_left : d / 2 ^ i < 2 ^ (n - i)
  start_left =
      let k : n ≡ n - i + i = omega (arith, start_inside) in
      shr_below d (n - i) i (rw k at fits)

pub start_room : (ns : List ℕ) (i other : ℕ) → other + sum ns < 2 ^ 64 → other + sum (drop i ns) < 2 ^ 64
start_room ns i other h = omega (arith, total_split ns i)

-- on the way through the variables before a run, none of them a member: a member is still ahead
pub record GapOf (ns : List ℕ) (rest i at rest' i' : ℕ) : Type 0 where
  pub after : i ≤ i'
  pub inside : i' ≤ length ns
  pub some : 0 < rest'
  pub none : (k : ℕ) → i + k < i' → has rest k ≡ false
  pub marks : rest' ≡ rest / 2 ^ (i' - i)
  pub ends : at ≡ sum (take i' ns)

module _ (ns : List ℕ) (rest i : ℕ) (inside : i ≤ length ns) (left : rest < 2 ^ (length ns - i)) where
  -- as many marks are left as variables
  left_of : (rest' i' : ℕ) → i ≤ i' → i' ≤ length ns → rest' ≡ rest / 2 ^ (i' - i) → rest' < 2 ^ (length ns - i')
  left_of rest' i' h l e =
      let k : length ns - i ≡ length ns - i' + (i' - i) = omega (arith, h, l) in
      rw e (shr_below rest (length ns - i') (i' - i) (rw k at left))

  some_left : (rest' i' : ℕ) → rest' < 2 ^ (length ns - i') → 0 < rest' → i' < length ns
  some_left rest' i' h o = lt_of_not-le none
    where
      none : length ns ≤ i' → ⊥
      none l =
          let k : length ns - i' ≡ 0 = omega (arith, l) in
          let z : rest' < 2 ^ 0 = rw k at h in
          omega (arith, z, o)

  module _ (at rest' i' : ℕ) (q : GapOf ns rest i at rest' i') where
    pub gap_room : i' < length ns
    gap_room = some_left rest' i' (left_of rest' i' q.after q.inside q.marks) q.some

    pub gap_small : at + get_or ns i' 0 ≤ sum ns
    gap_small = omega (arith, q.ends, total_take ns i' gap_room, total_split ns (i' + 1))

    pub gap_next : rest' % 2 ≡ 0 → GapOf ns rest i (at + get_or ns i' 0) (rest' / 2) (i' + 1)
    gap_next o =
        let k : i' + 1 - i ≡ i' - i + 1 = omega (arith, q.after) in
        record {
          after = omega (arith, q.after);
          inside = omega (arith, gap_room);
          some = omega (arith, q.some, o);
          none = λ j h. by j h (ltb (i + j) i') refl;
          marks = rw (k, q.marks) (half_more rest (i' - i));
          ends = omega (arith, q.ends, total_take ns i' gap_room);
        }
      where
        by : (j : ℕ) → i + j < i' + 1 → (b : Bool) → ltb (i + j) i' ≡ b → has rest j ≡ false
        by j h true e = q.none j (ltb-true _ _ e)
        by j h false e =
            let z : j ≡ i' - i = omega (arith, h, q.after, ltb-false _ _ e) in
            rw z (has_no rest (i' - i) (rw (← q.marks) o))

    -- the run's first member
    pub step_start : (rest' % 2 ≡ 0 → ⊥) → RunOf ns rest i at (get_or ns i' 0) (rest' / 2) (i' + 1)
    step_start o =
        let u : rest' % 2 ≡ 1 = omega (arith, o) in
        let k : i' + 1 - i ≡ i' - i + 1 = omega (arith, q.after) in
        record {
          first = i';
          after = q.after;
          more = omega arith;
          inside = omega (arith, gap_room);
          none = q.none;
          all = λ j h l. let z : j ≡ i' - i = omega (arith, h, l, q.after) in rw z (has_there rest (i' - i) (rw (← q.marks) u));
          marks = rw (k, q.marks) (half_more rest (i' - i));
          begins = q.ends;
          ends = omega (arith, q.ends, total_take ns i' gap_room);
        }

  module _ (at bytes rest' i' : ℕ) (q : RunOf ns rest i at bytes rest' i') where
    pub step_left : rest' < 2 ^ (length ns - i')
    step_left = left_of rest' i' (omega (arith, q.after, q.more)) q.inside q.marks

    pub step_room : rest' % 2 ≡ 1 → i' < length ns
    step_room o = some_left rest' i' step_left (omega (arith, o))

    pub step_next : rest' % 2 ≡ 1 → RunOf ns rest i at (bytes + get_or ns i' 0) (rest' / 2) (i' + 1)
    step_next o =
        let k : i' + 1 - i ≡ i' - i + 1 = omega (arith, q.after, q.more) in
        record {
          first = q.first;
          after = q.after;
          more = omega (arith, q.more);
          inside = omega (arith, step_room o);
          none = q.none;
          all = λ j h l. by j h l (ltb (i + j) i') refl;
          marks = rw (k, q.marks) (half_more rest (i' - i));
          begins = q.begins;
          ends = omega (arith, q.ends, total_take ns i' (step_room o));
        }
      where
        by : (j : ℕ) → q.first ≤ i + j → i + j < i' + 1 → (b : Bool) → ltb (i + j) i' ≡ b → has rest j ≡ true
        by j h l true e = q.all j h (ltb-true _ _ e)
        by j h l false e =
            let z : j ≡ i' - i = omega (arith, l, ltb-false _ _ e) in
            rw z (has_there rest (i' - i) (rw (← q.marks) o))

    -- no number that the walk keeps grows past the bytes of all
    pub run_small : at + bytes ≤ sum ns
    run_small = omega (arith, q.ends, total_split ns i')

    pub run_room : (other : ℕ) → other + sum (drop i ns) < 2 ^ 64 → other + bytes + sum (drop i' ns) < 2 ^ 64
    run_room other h = omega (arith, q.begins, q.ends, total_split ns i, total_split ns i', take_grows ns i q.first q.after)
