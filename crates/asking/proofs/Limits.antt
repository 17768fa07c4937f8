-- A learned table keeps 01's limits whatever is heard: by every reply, from any node. Assumes nothing.
use mathlib.Core.Path.{◌≡◌, refl}
use mathlib.Core.Bool.{Bool, true, false, cond, not, ◌&&◌, ◌||◌, false≢true}
use mathlib.Core.List.{List, [], ◌∷◌, ◌++◌, map}
use Prim.Native.Nat.{ℕ, suc, ◌-◌, ◌*◌, ◌^◌, ◌≤◌, ◌<◌}
use native.Mathlib.Omega.{arith}
use lib.Dec.{leb, ltb, eqb}
use lib.ListN.{length, take, drop, length-append, length-take, length-drop}
use borrow.Author.Tests.{le-leb, lt-ltb, leb-true, ltb-true, not-true, not-false}
use Rattle.bsmp.specs.Base.{every}
use Rattle.bsmp.specs.Board.{variable, Layout, set_of, usable_curves, usable_functions, usable_groups}
use Rattle.bsmp.specs.Message.{no_variable}
use Rattle.bsmp.specs.declared.VariableNumber.{VariableNumber}
use Rattle.bsmp.specs.declared.Curve.{Curve}
use Rattle.bsmp.specs.declared.Function.{Function}
use Rattle.bsmp.proofs.Bools.{and_true, all_at}
use Rattle.bsmp.proofs.Lists.{map_map}
use Rattle.bsmp.proofs.Stays.{set_below, set_some, no_groups}
use Rattle.asking.specs.Request.{fields_of}
use Rattle.asking.specs.Learned.{Learned, usable_sizes, usable_learned, slot_of, curves_from}
use Rattle.asking.specs.Reply.{Wanted, member_list, values, block, digest, output, wanted, Heard, is_error, error_reply, error_of, answers, tells, hears, hearing}
use Rattle.asking.specs.Learning.{with_made, can_group, regrouped, followed, taught}
use Rattle.asking.specs.declared.Request.{Request}
use Rattle.asking.proofs.Lists.{and_both, every_append, every_take, every_drop}
use Rattle.asking.proofs.Frames.{code_in, payload_in, taken}

-- a table in its parts
pub record Limited (sizes : List ℕ) (curves : List Curve) (functions : List Function) (groups : List ℕ) : Type 0 where
  pub sized : usable_sizes sizes ≡ true
  pub curved : usable_curves curves ≡ true
  pub called : usable_functions functions ≡ true
  pub grouped : usable_groups (length sizes) groups ≡ true

abbrev LimitedTable : Learned → Type 0
LimitedTable x = Limited x.layout.sizes x.layout.curves x.layout.functions x.groups

limited : (x : Learned) → usable_learned x ≡ true → LimitedTable x
unfolding usable_learned
limited x h =
    let at =
    all_at (usable_sizes x.layout.sizes ∷ usable_curves x.layout.curves ∷ usable_functions x.layout.functions ∷ usable_groups (length x.layout.sizes) x.groups ∷ []) h in
    record { sized = at 0; curved = at 1; called = at 2; grouped = at 3 }

usable_so : (x : Learned) → LimitedTable x → usable_learned x ≡ true
unfolding usable_learned
usable_so x u = rw (u.sized, u.curved, u.called, u.grouped)

-- groups ----------------------------------------------------------------------------------------------------------------------------
module _ (n : ℕ) where
  abbrev is_set : ℕ → Bool
  is_set m = ltb 0 m && ltb m (2 ^ n)

  fewer : (k : ℕ) (gs : List ℕ) → usable_groups n gs ≡ true → usable_groups n (take k gs) ≡ true
  unfolding usable_groups
  fewer k gs h =
      let w = and_true (leb (length gs) 5) (every is_set gs) h in
      let l : length gs ≤ 5 = leb-true _ _ w.0 in
      and_both _ _ (le-leb (length (take k gs)) 5 (rw length-take (omega arith))) (every_take is_set k gs w.1)

  put_in : (k m : ℕ) (gs : List ℕ) → usable_groups n gs ≡ true → k ≤ length gs → k < 5 → is_set m ≡ true → usable_groups n (take k gs ++ m ∷ drop (suc k) gs) ≡ true
  unfolding usable_groups
  put_in k m gs h a b c =
      let w = and_true (leb (length gs) 5) (every is_set gs) h in
      let l : length gs ≤ 5 = leb-true _ _ w.0 in
      and_both _ _ (le-leb (length (take k gs ++ m ∷ drop (suc k) gs)) 5 (simp (length-append, length-take, length-drop) (omega arith)))
      (every_append is_set (take k gs) (m ∷ drop (suc k) gs) (every_take is_set k gs w.1) (and_both _ _ c (every_drop is_set (suc k) gs w.1)))

-- a group that can be there: not empty, and of declared variables
can_set : (l : Layout) (is : List VariableNumber) → can_group l is ≡ true → is_set (length l.sizes) (set_of l is) ≡ true
can_set l [] h = absurd (false≢true h)
can_set l (i ∷ is) h =
    let w = and_true (ltb 0 (length (i ∷ is))) (every (λ i. not (no_variable l i)) (i ∷ is)) h in
    let k : i.0 < length l.sizes = ltb-true _ _ (not-false _ (not-true _ (and_true _ _ w.1).0)) in
    and_both _ _ (lt-ltb 0 (set_of l (i ∷ is)) (set_some l i.0 is k)) (lt-ltb (set_of l (i ∷ is)) (2 ^ length l.sizes) (set_below l (i ∷ is)))

regrouped_usable : (x : Learned) (k : ℕ) (is : List VariableNumber) → usable_groups (length x.layout.sizes) x.groups ≡ true
    → usable_groups (length x.layout.sizes) (regrouped x k is) ≡ true
unfolding regrouped
regrouped_usable x k is h = by (leb (length x.layout.sizes) 64 && leb k (length x.groups) && ltb k 5 && can_group x.layout is) refl
  where
    by : (b : Bool) → (leb (length x.layout.sizes) 64 && leb k (length x.groups) && ltb k 5 && can_group x.layout is) ≡ b
        → usable_groups (length x.layout.sizes) (cond b (take k x.groups ++ set_of x.layout is ∷ drop (suc k) x.groups) x.groups) ≡ true
    by false e = h
    by true e =
        let w = and_true (leb (length x.layout.sizes) 64 && leb k (length x.groups) && ltb k 5) (can_group x.layout is) e in
        let v = and_true (leb (length x.layout.sizes) 64 && leb k (length x.groups)) (ltb k 5) w.0 in
        put_in (length x.layout.sizes) k (set_of x.layout is) x.groups h (leb-true _ _ (and_true (leb (length x.layout.sizes) 64) (leb k (length x.groups)) v.0).1) (ltb-true _ _ v.1) (can_set x.layout is w.1)

cond_usable : (n : ℕ) (b : Bool) (gs gs' : List ℕ) → usable_groups n gs ≡ true → usable_groups n gs' ≡ true → usable_groups n (cond b gs gs') ≡ true
cond_usable n true gs gs' h k = h
cond_usable n false gs gs' h k = k

made_usable : (x : Learned) (gs : List ℕ) → LimitedTable x → usable_groups (length x.layout.sizes) gs ≡ true → usable_learned (with_made x gs) ≡ true
made_usable x gs u h = usable_so (with_made x gs) (record { sized = u.sized; curved = u.curved; called = u.called; grouped = h })

followed_usable : (x : Learned) (r : Request) (d : List ℕ) → LimitedTable x → usable_learned (followed x r d) ≡ true
unfolding followed
followed_usable x r d u =
    made_usable x _ u
    (cond_usable _ (eqb (fields_of r d).code 0x30) _ _ (regrouped_usable x (length x.groups) (map variable d) u.grouped)
    (cond_usable _ (eqb (fields_of r d).code 0x32) _ _ (no_groups _) u.grouped))

-- by what each form tells -------------------------------------------------------------------------------------------------------------
tells_usable : (x : Learned) (r : Request) (d : List ℕ) (w : Wanted) (c : ℕ) (p : List ℕ) → LimitedTable x → answers x w c p ≡ true → usable_learned (taught x r d (tells x w c p)) ≡ true
unfolding answers tells taught
tells_usable x r d Wanted.done c p u h = followed_usable x r d u
tells_usable x r d Wanted.version c p u h = usable_so x u
tells_usable x r d Wanted.variable_list c p u h =
    usable_so _ (record {
      sized = rw (map_map slot_of (λ v. v.size) p) (and_true (eqb c 0x03) _ h).1;
      curved = u.curved;
      called = u.called;
      grouped = no_groups _;
    })
tells_usable x r d Wanted.group_list c p u h = made_usable x _ u (fewer (length x.layout.sizes) (length (map slot_of p) - 3) x.groups u.grouped)
tells_usable x r d (member_list g) c p u h = made_usable x _ u (cond_usable _ (leb 3 g.0) _ _ (regrouped_usable x (g.0 - 3) (map variable p) u.grouped) u.grouped)
tells_usable x r d Wanted.curve_list c p u h =
    usable_so _ (record { sized = u.sized; curved = (and_true (eqb c 0x09 && eqb (5 * length (curves_from p)) (length p)) _ h).1; called = u.called; grouped = u.grouped })
tells_usable x r d Wanted.function_list c p u h =
    usable_so _ (record { sized = u.sized; curved = u.curved; called = (and_true (eqb c 0x0D) _ h).1; grouped = u.grouped })
tells_usable x r d (values b k is) c p u h = usable_so x u
tells_usable x r d (block v k) c p u h = usable_so x u
tells_usable x r d (digest v) c p u h = usable_so x u
tells_usable x r d (output f) c p u h = usable_so x u

pub stays_usable : (x : Learned) (to : ℕ) (r : Request) (d q : List ℕ) (h : Heard) → usable_learned x ≡ true → hearing x to r q ≡ hears h → usable_learned (taught x r d h) ≡ true
unfolding taught
stays_usable x to r d q h u k =
    let y = taken x to r q h k in
    rw y.says (by (error_reply (code_in q) (payload_in q)) y.fitting)
  where
    by : (b : Bool) → (b || answers x (wanted x r) (code_in q) (payload_in q)) ≡ true
        → usable_learned (taught x r d (cond b (is_error (error_of (code_in q))) (tells x (wanted x r) (code_in q) (payload_in q)))) ≡ true
    by true e = u
    by false e = tells_usable x r d (wanted x r) (code_in q) (payload_in q) (limited x u) e
