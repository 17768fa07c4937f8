-- Where a member's bytes stand: its group's set, the members before it, and the tests before that. Assumes nothing.
use mathlib.Core.Path.{◌≡◌, refl, sym, ap, ap₂, ◌∙◌}
use mathlib.Core.Bool.{Bool, true, false, cond, not}
use mathlib.Core.List.{List, [], ◌∷◌, map}
use Prim.Native.Nat.{ℕ, zero, suc, ◌+◌, ◌-◌, ◌%◌, ◌^◌, ◌≤◌, ◌<◌}
use native.Mathlib.Omega.{arith}
use Rattle.std.specs.Prelude.{Some, None}
use lib.Dec.{ltb, eqb}
use lib.ListN.{length, get_or}
use borrow.Author.Tests.{lt-ltb, le-ltb}
use Rattle.bsmp.specs.Base.{sum, up_from, only, has, first}
use Rattle.bsmp.specs.Board.{variable, group, size_of, marked, in_group}
use Rattle.bsmp.specs.declared.VariableNumber.{VariableNumber}
use Rattle.bsmp.specs.declared.GroupNumber.{GroupNumber}
use Rattle.bsmp.specs.declared.Refusal.TheVariants.{BoardUnusable, NoSuchVariable}
use Rattle.sets.specs.Members.{members_below, set_bytes, group_set}
use Rattle.sets.specs.Promises.{GroupSet}
use Rattle.sets.proofs.Marks.{has_not, has_all}
use Rattle.sets.proofs.AtOnce.{below_declared}
use Rattle.asking.specs.Learned.{Learned, usable_learned}
use Rattle.learned.specs.Table.{known_table}
use Rattle.learned.specs.declared.Known.{Known}
use Rattle.gateway_values.specs.Values.{no_place_of, members_before, member_place, place_of}
use Rattle.gateway_values.specs.declared.PlainPlace.{PlainPlace}

abbrev told : (refusal place length : ℕ) → PlainPlace
told r p n = record { refusal = r; place = p; length = n }

-- whether a variable is a member, by the group's set
in_set : (w : ℕ) (gs : List ℕ) (g : GroupNumber) (i : VariableNumber) → w < 2 ^ 64 → i.0 < 64 → in_group w gs g i ≡ marked (group_set w gs g) i
unfolding in_group group_set
in_set w gs g i l h = by (eqb g.0 0) (eqb g.0 1) (eqb g.0 2) (get_or gs (g.0 - 3) 0)
  where
    by : (a b c : Bool) (m : ℕ)
        → cond a true (cond b (not (has w i.0)) (cond c (has w i.0) (has m i.0))) ≡ has (cond a (2 ^ 64 - 1) (cond b (2 ^ 64 - 1 - w) (cond c w m))) i.0
    by true b c m = sym (has_all i.0 h)
    by false true c m = sym (has_not 64 w i.0 l h)
    by false false true m = refl
    by false false false m = refl

-- of the chosen variables those below a number: none where all stand after it, and otherwise the chosen ones of the first
module _ (f : VariableNumber → Bool) (e : ℕ) where
  abbrev early : List VariableNumber → List VariableNumber
  early = only (λ j. ltb j.0 e)

  abbrev chosen : ℕ → ℕ → List VariableNumber
  chosen i n = only f (map variable (up_from i n))

  none_early : (i n : ℕ) → e ≤ i → early (chosen i n) ≡ []
  none_early i zero h = refl
  none_early i (suc n) h = by (f (variable i)) (none_early (suc i) n (omega arith))
    where
      by : (b : Bool) → early (chosen (suc i) n) ≡ [] → early (cond b (variable i ∷ chosen (suc i) n) (chosen (suc i) n)) ≡ []
      by true r = rw (le-ltb i e h) r
      by false r = r

  first_early : (i k n : ℕ) → i + k ≡ e → k ≤ n → early (chosen i n) ≡ chosen i k
  first_early i zero n q h = none_early i n (omega arith)
  first_early i (suc k) zero q h = absurd (omega (arith, h))
  first_early i (suc k) (suc n) q h = by (f (variable i)) (first_early (suc i) k n (omega arith) (omega arith))
    where
      by : (b : Bool) → early (chosen (suc i) n) ≡ chosen (suc i) k
          → early (cond b (variable i ∷ chosen (suc i) n) (chosen (suc i) n)) ≡ cond b (variable i ∷ chosen (suc i) k) (chosen (suc i) k)
      by true r = let l : i < e = omega arith in rw (lt-ltb i e l) (ap (variable i ∷◌) r)
      by false r = r

pub before : (set i n : ℕ) → i ≤ n → only (λ j. ltb j.0 i) (members_below set n) ≡ members_below set i
unfolding members_below
before set i n h = first_early (marked set) i 0 i n (omega arith) h

-- a table by its sizes and groups: the tests, one at a time, and the place
module _ (n : Known) (g : GroupNumber) (i : VariableNumber) where
  abbrev x : Learned
  x = known_table n

  abbrev ss : List ℕ
  ss = n.sizes.now

  abbrev gs : List ℕ
  gs = n.sets.now

  abbrev Tells : PlainPlace → Type 0
  Tells r = r ≡ member_place (known_table n) g i

  pub variable_none : (r : PlainPlace) → length ss ≤ i.0 → r ≡ no_place_of NoSuchVariable → Tells r
  unfolding member_place first
  variable_none r h e = rw (le-ltb i.0 (length ss) h) e

  module _ (h : i.0 < length ss) where
    pub group_none : (r : PlainPlace) → 3 + length gs ≤ g.0 → r ≡ no_place_of NoSuchVariable → Tells r
    unfolding member_place first
    group_none r k e = rw (lt-ltb i.0 (length ss) h, le-ltb g.0 (3 + length gs) k) e

    -- b says whether it is in the group's set
    module _ (k : g.0 < 3 + length gs) (few : length ss ≤ 64) (l : n.writable < 2 ^ 64) (set : ℕ) (s : GroupSet n.writable gs g set) (b : Bool) (e : b ≡ marked set i) where
      member_is : in_group n.writable gs g i ≡ b
      member_is = in_set n.writable gs g i l (omega arith) ∙ ap (λ m. marked m i) (sym s.is) ∙ sym e

      pub member_none : (r : PlainPlace) → b ≡ false → r ≡ no_place_of NoSuchVariable → Tells r
      unfolding member_place first
      member_none r o q = rw (lt-ltb i.0 (length ss) h, lt-ltb g.0 (3 + length gs) k, member_is, o) q

      members_before_lem : (d : ℕ) → d ≡ set % 2 ^ i.0 → members_before x g i ≡ members_below d (length ss)
      members_before_lem d q =
          ap (only (λ j. ltb j.0 i.0)) (s.members_are x.layout refl few)
          ∙ before set i.0 (length ss) (omega arith)
          ∙ sym (below_declared set i.0 (length ss) (omega arith)) ∙ ap (λ m. members_below m (length ss)) (sym q)

      pub member_told : b ≡ true → (d m y : ℕ) → d ≡ set % 2 ^ i.0 → m ≡ set_bytes d ss → y ≡ get_or ss i.0 0
          → Tells (record { refusal = 0; place = 4 + m; length = y })
      unfolding member_place first set_bytes
      member_told o d m y q z v =
          rw (lt-ltb i.0 (length ss) h, lt-ltb g.0 (3 + length gs) k, member_is, o)
          (ap₂ (λ m y. told 0 (4 + m) y) (z ∙ ap (λ is. sum (map (size_of x.layout) is)) (sym (members_before_lem d q))) v)

-- the table as the gateway keeps it: it is unusable, or is lent by the fronts of its places
module _ (x : Learned) (g i : ℕ) where
  abbrev Places : PlainPlace → Type 0
  Places r = r ≡ place_of x g i

  pub place_unusable : (r : PlainPlace) → None ≡ cond (usable_learned x) (Some x) None → r ≡ no_place_of BoardUnusable → Places r
  unfolding place_of first
  place_unusable r h q = rw (off (usable_learned x) h) q
    where
      off : (u : Bool) → None ≡ cond u (Some x) None → u ≡ false
      off true e = cc
      off false e = refl

  pub place_usable : (k : Learned) (r : PlainPlace) → Some k ≡ cond (usable_learned x) (Some x) None → r ≡ member_place k (group g) (variable i) → Places r
  unfolding place_of first
  place_usable k r h q = let w = on (usable_learned x) h in rw w.0 (q ∙ ap (λ y. member_place y (group g) (variable i)) w.1)
    where
      on : (u : Bool) → Some k ≡ cond u (Some x) None → (u ≡ true) × (k ≡ x)
      on true e = (refl, cc)
      on false e = cc
