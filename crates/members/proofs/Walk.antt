-- Turns of the walks over a set: from each on, what is left to do gives the whole. Assumes nothing.
use mathlib.Core.Path.{◌≡◌, refl, sym, ap, ap₂, ◌∙◌, subst}
use mathlib.Core.Bool.{Bool, true, false, cond}
use mathlib.Core.List.{List, [], ◌∷◌, map}
use Prim.Native.Nat.{ℕ, ◌+◌, ◌-◌, ◌≤◌, ◌<◌}
use native.Mathlib.Omega.{arith}
use native.Mathlib.Nat.{add-zero}
use lib.ListN.{length, take, drop, get_or, set, length-append, length-map}
use lib.Seq.{drop-drop}
use Rattle.bsmp.specs.Base.{sum, cut, join, up_from}
use Rattle.bsmp.specs.Board.{variable, marked}
use Rattle.bsmp.specs.Message.{changed, edited, values_of}
use Rattle.bsmp.specs.declared.Operation.{Operation}
use Rattle.bsmp.specs.declared.VariableNumber.{VariableNumber}
use Rattle.bsmp.proofs.Lists.{length_up_from, only_length}
use Rattle.copies.specs.Put.{put, part}
use Rattle.copies.proofs.Put.{put_nil, put_put, set_put, length_put, length_part}
use Rattle.lists.proofs.Sum.{total_drop, total_split}
use Rattle.lists.proofs.Pieces.{value_part, cut_change}
use Rattle.sets.specs.Members.{members_below, members_of, size_at, set_bytes}
use Rattle.sets.specs.Promises.{Sound, BytesAt, Turned}
use Rattle.sets.proofs.Places.{place_room}
use Rattle.sets.proofs.Members.{members_from, from_next}
use Rattle.sets.proofs.Inside.{AllBelow, members_inside, all_others}
use Rattle.members.proofs.Whole.{set_small}

-- bytes of each member laid one after another, from a place on; so many may still come
module _ (f : VariableNumber → List ℕ) (all : List VariableNumber) (most : ℕ) (r₀ : List ℕ) (at : ℕ) where
  abbrev bytes : List VariableNumber → List ℕ
  bytes is = join (map f is)

  pub record Laying (rest : List VariableNumber) (left : ℕ) (r : List ℕ) (to : ℕ) : Type 0 where
    pub kept : length r ≡ length r₀
    pub begun : at ≤ to
    pub room : to + left ≤ at + most
    pub next : to + length (bytes rest) ≡ at + length (bytes all)
    pub done : put r to (bytes rest) ≡ put r₀ at (bytes all)

  lay_step : (b : Bool) (j : VariableNumber) (rest : List VariableNumber) (k left left' : ℕ) (r : List ℕ) (to : ℕ) (r' : List ℕ) (to' : ℕ)
      → length (f j) ≡ k → k + left' ≤ left → at + most ≤ length r₀ → Turned b k (f j) r to to to' r'
      → Laying (cond b (j ∷ rest) rest) left r to → Laying rest left' r' to'
  lay_step true j rest k left left' r to r' to' e g h t q =
      let u : to + length (f j) ≤ length r = omega (arith, q.room, q.kept) in
      let a : put (put r to (f j)) (to + length (f j)) (bytes rest) ≡ put r₀ at (bytes all) = put_put r to (f j) (bytes rest) u ∙ q.done in
      record {
        kept = ap length t.bytes ∙ length_put r to (f j) u ∙ q.kept;
        begun = omega (arith, q.begun, t.passed);
        room = omega (arith, q.room, t.passed);
        next = omega (arith, q.next, t.passed, length-append (f j) (bytes rest));
        done = ap₂ (λ (x : List ℕ) (y : ℕ). put x y (bytes rest)) t.bytes (t.passed ∙ ap (to +◌) (sym e)) ∙ a;
      }
  lay_step false j rest k left left' r to r' to' e g h t q = record {
    kept = ap length t.bytes ∙ q.kept;
    begun = omega (arith, q.begun, t.passed);
    room = omega (arith, q.room, t.passed);
    next = omega (arith, q.next, t.passed);
    done = ap₂ (λ (x : List ℕ) (y : ℕ). put x y (bytes rest)) t.bytes (t.passed ∙ add-zero to) ∙ q.done;
  }

  lay_start : (left : ℕ) → left ≤ most → Laying all left r₀ at
  lay_start left h = record { kept = refl; begun = omega arith; room = omega arith; next = refl; done = refl }

  lay_end : (left : ℕ) (r : List ℕ) (to : ℕ) → Laying [] left r to → BytesAt (bytes all) most r₀ at (to - at) r
  lay_end left r to q = record { count = omega (arith, q.next, q.begun); room = omega (arith, q.room); bytes = sym (put_nil r to) ∙ q.done }

module _ (f : VariableNumber → List ℕ) (m n most : ℕ) (r₀ : List ℕ) (at : ℕ) where
  lay_next : (i k left left' : ℕ) (v r : List ℕ) (to : ℕ) (r' : List ℕ) (to' : ℕ)
      → i < n → f (variable i) ≡ v → length v ≡ k → k + left' ≤ left → at + most ≤ length r₀ → Turned (marked m (variable i)) k v r to to to' r'
      → Laying f (members_below m n) most r₀ at (members_from m n i) left r to → Laying f (members_below m n) most r₀ at (members_from m n (i + 1)) left' r' to'
  lay_next i k left left' v r to r' to' h e l g o t q =
      lay_step f (members_below m n) most r₀ at (marked m (variable i)) (variable i) (members_from m n (i + 1)) k left left' r to r' to'
      (rw e l) g o (rw e t) (rw (from_next m n i h) at q)

-- the members' values
module _ (ns s : List ℕ) (m : ℕ) (r₀ : List ℕ) (at : ℕ) where
  -- the reading from variable i on
  abbrev pub Reading : ℕ → List ℕ → ℕ → Type 0
  Reading i r to = Laying (λ j. get_or (cut ns s) j.0 []) (members_below m (length ns)) 4096 r₀ at (members_from m (length ns) i) (sum (drop i ns)) r to

  pub read_start : (i : ℕ) → Sound ns s → members_below m (length ns) ≡ members_from m (length ns) i → Reading i r₀ at
  read_start i z e = rw (← e) (lay_start _ _ 4096 r₀ at (sum (drop i ns)) (omega (arith, z.exact, z.small, total_split ns i)))

  pub read_next : (i off : ℕ) (r : List ℕ) (to : ℕ) (r' : List ℕ) (to' : ℕ) → i < length ns → Sound ns s → off ≡ sum (take i ns) → at + 4096 ≤ length r₀
      → Turned (marked m (variable i)) (get_or ns i 0) (part s off (get_or ns i 0)) r to to to' r' → Reading i r to → Reading (i + 1) r' to'
  read_next i off r to r' to' h z e o t q =
      lay_next _ m (length ns) 4096 r₀ at i (get_or ns i 0) (sum (drop i ns)) (sum (drop (i + 1) ns)) (part s off (get_or ns i 0)) r to r' to'
      h (value_part ns s i off h e) (length_part s off (get_or ns i 0) (place_room ns s i off z h e)) (omega (arith, total_drop ns i h)) o t q

  pub read_room : (i : ℕ) (r : List ℕ) (to : ℕ) → i < length ns → at + 4096 ≤ length r₀ → Reading i r to → to + get_or ns i 0 ≤ length r
  read_room i r to h o q = omega (arith, total_drop ns i h, q.room, q.kept)

  pub read_end : (i : ℕ) (r : List ℕ) (to : ℕ) → members_from m (length ns) i ≡ [] → Reading i r to → BytesAt (values_of (cut ns s) (members_of m ns)) 4096 r₀ at (to - at) r
  unfolding values_of
  read_end i r to e q = lay_end _ _ 4096 r₀ at (sum (drop i ns)) r to (rw e at q)

-- the members' numbers, one after another
below_few : (m n : ℕ) → length (members_below m n) ≤ n
unfolding members_below
below_few m n =
    let l : length (map variable (up_from 0 n)) ≡ n = length-map (up_from 0 n) variable ∙ length_up_from 0 n in
    omega (arith, only_length (marked m) (map variable (up_from 0 n)))

module _ (m n : ℕ) (r₀ : List ℕ) (at : ℕ) where
  -- what is left of a walk over them
  abbrev pub Numbered : List VariableNumber → List ℕ → ℕ → Type 0
  Numbered rest r to = Laying (λ j. j.0 ∷ []) (members_below m n) 64 r₀ at rest (length rest) r to

  pub list_start : (rest : List VariableNumber) → rest ≡ members_below m n → n ≤ 64 → Numbered rest r₀ at
  list_start rest e h = rw e (lay_start _ _ 64 r₀ at (length (members_below m n)) (omega (arith, below_few m n)))

  module _ (rest : List VariableNumber) (i : VariableNumber) (rest' : List VariableNumber) (r : List ℕ) (to : ℕ) (e : rest ≡ i ∷ rest') (q : Numbered rest r to) where
    pub list_room : at + 64 ≤ length r₀ → to < length r
    list_room h = omega (arith, q.room, q.kept, ap length e)

    pub list_next : at + 64 ≤ length r₀ → Numbered rest' (set r to i.0) (to + 1)
    list_next h =
        lay_step _ _ 64 r₀ at true i rest' 1 _ _ r to (set r to i.0) (to + 1) refl (omega arith) h
        (record { passed = refl; bytes = set_put r to i.0 (list_room h) }) (subst (λ is. Numbered is r to) e q)

  pub list_end : (rest : List VariableNumber) (r : List ℕ) (to : ℕ) → rest ≡ [] → Numbered rest r to → BytesAt (map (λ j. j.0) (members_below m n)) 64 r₀ at (to - at) r
  list_end rest r to e q = rw (← singles (members_below m n)) (lay_end _ _ 64 r₀ at _ r to (subst (λ is. Numbered is r to) e q))
    where
      singles : (is : List VariableNumber) → join (map (λ j. j.0 ∷ []) is) ≡ map (λ j. j.0) is
      singles [] = refl
      singles (j ∷ is) = ap (j.0 ∷◌) (singles is)

-- each member's value changed by its part of the payload
module _ (op : Operation) (ns p : List ℕ) where
  abbrev after : List VariableNumber → ℕ → List ℕ → List (List ℕ)
  after is f s = edited op is (cut (map (size_at ns) is) (drop f p)) (cut ns s)

  module _ (all : List VariableNumber) (front : ℕ) (s₀ : List ℕ) where
    pub record Changing (rest : List VariableNumber) (s : List ℕ) (f : ℕ) : Type 0 where
      pub sound : Sound ns s
      pub left : f + sum (map (size_at ns) rest) ≤ length p
      pub done : after rest f s ≡ after all front s₀

    change_step : (b : Bool) (i : ℕ) (rest : List VariableNumber) (off : ℕ) (s : List ℕ) (f : ℕ) (s' : List ℕ) (f' : ℕ)
        → i < length ns → off ≡ sum (take i ns) → length s' ≡ length s
        → Turned b (get_or ns i 0) (changed op (part s off (get_or ns i 0)) (part p f (get_or ns i 0))) s off f f' s'
        → Changing (cond b (variable i ∷ rest) rest) s f → Changing rest s' f'
    unfolding sum part
    change_step true i rest off s f s' f' h e k t q =
        let z : Sound ns s' = record { few = q.sound.few; exact = q.sound.exact ∙ sym k; small = omega (arith, q.sound.small) } in
        let g : f + get_or ns i 0 ≤ length p = omega (arith, q.left) in
        let c = cut_change op ns s p i f off s' h (omega (arith, q.sound.exact)) g e t.bytes in
        record { sound = z; left = omega (arith, q.left, t.passed); done = rw (t.passed, c, ← drop-drop) q.done }
    change_step false i rest off s f s' f' h e k t q = record {
      sound = rw t.bytes q.sound;
      left = omega (arith, q.left, t.passed);
      done = rw (t.passed, t.bytes, add-zero) q.done;
    }

module _ (op : Operation) (ns p : List ℕ) (m front : ℕ) (s₀ : List ℕ) where
  -- the change from variable i on
  abbrev pub Editing : ℕ → List ℕ → ℕ → Type 0
  Editing i s f = Changing op ns p (members_of m ns) front s₀ (members_from m (length ns) i) s f

  pub edit_start : (i : ℕ) → Sound ns s₀ → front + set_bytes m ns ≤ length p → members_below m (length ns) ≡ members_from m (length ns) i → Editing i s₀ front
  unfolding set_bytes
  edit_start i z h e = rw (← e) (record { sound = z; left = h; done = refl })

  pub edit_next : (i off : ℕ) (s : List ℕ) (f : ℕ) (s' : List ℕ) (f' : ℕ) → i < length ns → off ≡ sum (take i ns) → length s' ≡ length s
      → Turned (marked m (variable i)) (get_or ns i 0) (changed op (part s off (get_or ns i 0)) (part p f (get_or ns i 0))) s off f f' s'
      → Editing i s f → Editing (i + 1) s' f'
  edit_next i off s f s' f' h e k t q =
      change_step op ns p (members_of m ns) front s₀ (marked m (variable i)) i (members_from m (length ns) (i + 1)) off s f s' f'
      h e k t (rw (from_next m (length ns) i h) at q)

  -- the bytes of the payload that a turn takes
  pub edit_room : (i : ℕ) (s : List ℕ) (f : ℕ) → i < length ns → Editing i s f → f + cond (marked m (variable i)) (get_or ns i 0) 0 ≤ length p
  unfolding sum
  edit_room i s f h q = by (marked m (variable i)) (rw (from_next m (length ns) i h) at q).left
    where
      by : (b : Bool) → f + sum (map (size_at ns) (cond b (variable i ∷ members_from m (length ns) (i + 1)) (members_from m (length ns) (i + 1)))) ≤ length p
          → f + cond b (get_or ns i 0) 0 ≤ length p
      by true l = omega (arith, l)
      by false l = omega (arith, l)

  pub edit_end : (i : ℕ) (s : List ℕ) (f : ℕ) → members_from m (length ns) i ≡ [] → Editing i s f
      → cut ns s ≡ edited op (members_of m ns) (cut (map (size_at ns) (members_of m ns)) (drop front p)) (cut ns s₀)
  edit_end i s f e q =
      let w : Changing op ns p (members_of m ns) front s₀ [] s f = rw e at q in
      w.done

-- the bytes of the members, and of those that are left
module _ (ns : List ℕ) (m : ℕ) where
  pub record Adding (rest : List VariableNumber) (b : ℕ) : Type 0 where
    pub inside : AllBelow (length ns) rest
    pub left : b + sum (map (size_at ns) rest) ≡ set_bytes m ns

  pub add_start : (rest : List VariableNumber) → rest ≡ members_of m ns → Adding rest 0
  unfolding set_bytes
  add_start rest e = rw e (record { inside = members_inside m (length ns); left = omega arith })

  module _ (rest : List VariableNumber) (i : VariableNumber) (rest' : List VariableNumber) (b : ℕ) (e : rest ≡ i ∷ rest') (q : Adding rest b) where
    pub add_next : Adding rest' (b + get_or ns i.0 0)
    unfolding sum
    add_next =
        let s : b + (get_or ns i.0 0 + sum (map (size_at ns) rest')) ≡ set_bytes m ns = rw e at q.left in
        record { inside = all_others (length ns) i rest' (rw e at q.inside); left = omega (arith, s) }

  pub add_end : (rest : List VariableNumber) (b : ℕ) → rest ≡ [] → Adding rest b → b ≡ set_bytes m ns
  unfolding sum
  add_end rest b e q =
      let s : b + 0 ≡ set_bytes m ns = rw e at q.left in
      omega arith

  pub add_small : (rest : List VariableNumber) (b : ℕ) → ((k : ℕ) → get_or ns k 0 < 256) → length ns ≤ 64 → Adding rest b → b ≤ 16320
  add_small rest b h few q = omega (arith, q.left, set_small m ns few h)
