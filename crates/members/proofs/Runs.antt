-- Runs of members on a walk: what is left to do from a variable on, and what a run does of it at once. Assumes nothing.
use mathlib.Core.Path.{◌≡◌, refl, sym, ap, ap₂, ◌∙◌}
use mathlib.Core.Bool.{true, false}
use mathlib.Core.List.{List, [], ◌++◌, map}
use Prim.Native.Nat.{ℕ, zero, suc, ◌+◌, ◌-◌, ◌/◌, ◌%◌, ◌^◌, ◌≤◌, ◌<◌}
use native.Mathlib.Omega.{arith}
use native.Mathlib.Nat.{add-zero, mod-lt, div-div-eq-div-mul, div-lt_iff_lt-mul}
use lib.ListN.{length, take, drop, get_or, take-append-drop}
use lib.Pow.{pow_pos, pow-add}
use lib.Seq.{take-add, take_at, drop_at, drop-drop}
use Rattle.bsmp.specs.Base.{sum, cut, has}
use Rattle.bsmp.specs.Board.{variable, marked}
use Rattle.bsmp.specs.Message.{changed, edited, values_of}
use Rattle.bsmp.specs.declared.Operation.{Operation}
use Rattle.copies.specs.Put.{put, part}
use Rattle.copies.proofs.Put.{put_nil, put_put, length_put, length_part, part_put_past}
use Rattle.lists.proofs.Sum.{total_split, total_take}
use Rattle.lists.proofs.Mask.{length_change, mask_nil, take_changed, drop_changed}
use Rattle.sets.specs.Members.{members_below, members_of, size_at, set_bytes}
use Rattle.sets.specs.Promises.{Sound, BytesAt, Turned}
use Rattle.sets.proofs.Members.{members_from, from_start, from_none}
use Rattle.sets.proofs.AtOnce.{below_declared, has_past}
use Rattle.sets.proofs.Places.{place_room}
use Rattle.members.specs.Walked.{StartOf, Begun, RunOf}
use Rattle.members.proofs.Stepped.{take_grows}
use Rattle.members.proofs.Walk.{Reading, read_start, read_room, read_next, read_end, Editing, edit_start, edit_room, edit_next, edit_end}

-- neighbouring parts are one part, and an empty one is none
part_join : (s : List ℕ) (a b n : ℕ) → part s a (b + n) ≡ part s a b ++ part s (a + b) n
unfolding part
part_join s a b n = take-add b n (drop a s) ∙ ap (λ (x : List ℕ). take b (drop a s) ++ take n x) (drop-drop b a s)

part_none : (s : List ℕ) (a : ℕ) → part s a 0 ≡ []
unfolding part
part_none s a = refl

-- a run that is read, and its next member
read_longer : (s r : List ℕ) (a b o n : ℕ) → a + b + n ≤ length s → o + b + n ≤ length r
    → put r o (part s a (b + n)) ≡ put (put r o (part s a b)) (o + b) (part s (a + b) n)
read_longer s r a b o n h k =
    let l : length (part s a b) ≡ b = length_part s a b (omega arith) in
    ap (put r o) (part_join s a b n) ∙ sym (put_put r o (part s a b) (part s (a + b) n) (omega arith))
    ∙ ap (λ (y : ℕ). put (put r o (part s a b)) (o + y) (part s (a + b) n)) l

-- a run that is changed: the change of neighbouring parts is one change
module _ (op : Operation) (s p : List ℕ) (a o : ℕ) where
  abbrev change : ℕ → List ℕ
  change b = changed op (part s a b) (part p o b)

  abbrev pub run_changed : ℕ → List ℕ
  run_changed b = put s a (change b)

  module _ (b n : ℕ) (h : a + b + n ≤ length s) (k : o + b + n ≤ length p) where
    join_changed : change b ++ changed op (part s (a + b) n) (part p (o + b) n) ≡ change (b + n)
    join_changed =
        let l : length (part s a b) ≡ b = length_part s a b (omega arith) in
        let q : length (part p o b) ≡ b = length_part p o b (omega arith) in
        let f : take b (change (b + n)) ≡ change b =
        take_changed op b (part s a (b + n)) (part p o (b + n))
        ∙ ap₂ (changed op) (ap (take b) (part_join s a b n) ∙ take_at (part s a b) (part s (a + b) n) b l) (ap (take b) (part_join p o b n) ∙ take_at (part p o b) (part p (o + b) n) b q) in
        let g : drop b (change (b + n)) ≡ changed op (part s (a + b) n) (part p (o + b) n) =
        drop_changed op b (part s a (b + n)) (part p o (b + n))
        ∙ ap₂ (changed op) (ap (drop b) (part_join s a b n) ∙ drop_at (part s a b) (part s (a + b) n) b l) (ap (drop b) (part_join p o b n) ∙ drop_at (part p o b) (part p (o + b) n) b q) in
        ap₂ ◌++◌ (sym f) (sym g) ∙ take-append-drop b (change (b + n))

    change_size : length (change b) ≡ b
    change_size = length_change op b s a p o (omega arith) (omega arith)

    change_longer : run_changed (b + n) ≡ put (run_changed b) (a + b) (changed op (part (run_changed b) (a + b) n) (part p (o + b) n))
    change_longer =
        let u : part (put s a (change b)) (a + b) n ≡ part s (a + b) n =
        part_put_past s a (change b) (a + b) n (omega (arith, change_size)) (omega (arith, change_size)) in
        ap (put s a) (sym join_changed) ∙ sym (put_put s a (change b) (changed op (part s (a + b) n) (part p (o + b) n)) (omega (arith, change_size)))
        ∙ ap₂ (λ (y : ℕ) (m : List ℕ). put (put s a (change b)) (a + y) (changed op m (part p (o + b) n))) change_size (sym u)

    length_changed : length (run_changed (b + n)) ≡ length (run_changed b)
    length_changed =
        let z : length (change (b + n)) ≡ b + n = length_change op (b + n) s a p o (omega arith) (omega arith) in
        length_put s a (change (b + n)) (omega arith) ∙ sym (length_put s a (change b) (omega (arith, change_size)))

-- marks from variable i on, as the walk has them
has_shift : (m i k : ℕ) → has (m / 2 ^ i) k ≡ has m (i + k)
unfolding has
has_shift m i k = rw (div-div-eq-div-mul, ← pow-add)

half_again : (m i j : ℕ) → i ≤ j → m / 2 ^ i / 2 ^ (j - i) ≡ m / 2 ^ j
half_again m i j h =
    let e : i + (j - i) ≡ j = omega arith in
    rw (div-div-eq-div-mul, ← pow-add, e)

module _ (m n i rest : ℕ) (e : rest ≡ m % 2 ^ n / 2 ^ i) where
  marks_end : rest ≡ 0 → members_from (m % 2 ^ n) n i ≡ []
  marks_end z =
      let h : m % 2 ^ n / 2 ^ i < 1 = omega (arith, e, z) in
      let l : m % 2 ^ n < 2 ^ i = omega (arith, (div-lt_iff_lt-mul {k = 2 ^ i} (pow_pos i)).0 h) in
      from_none (m % 2 ^ n) n i (λ k o. has_past (m % 2 ^ n) i k l o)

marks_start : (m n i : ℕ) → StartOf (m % 2 ^ n) i → members_below (m % 2 ^ n) n ≡ members_from (m % 2 ^ n) n i
marks_start m n i q = from_start (m % 2 ^ n) n i (q.within n (mod-lt m (pow_pos n))) q.before

turned_not : {k : ℕ} {v l : List ℕ} {p f : ℕ} → Turned false k v l p f f l
turned_not {f = f} = record { passed = sym (add-zero f); bytes = refl }

-- reading by runs
module _ (ns s : List ℕ) (m : ℕ) (r₀ : List ℕ) (at : ℕ) where
  abbrev own : ℕ
  own = m % 2 ^ length ns

  module _ (z : Sound ns s) (room : at + 4096 ≤ length r₀) where
    read_gap : (k i : ℕ) (r : List ℕ) (to : ℕ) → i + k ≤ length ns → ((x : ℕ) → x < k → marked own (variable (i + x)) ≡ false)
        → Reading ns s own r₀ at i r to → Reading ns s own r₀ at (i + k) r to
    read_gap zero i r to h f q = rw (add-zero i) q
    read_gap (suc k) i r to h f q =
        let e : i + suc k ≡ i + k + 1 = omega arith in
        rw e (read_next ns s own r₀ at (i + k) (sum (take (i + k) ns)) r to r to (omega (arith, h)) z refl room
        (rw (f k (omega arith)) turned_not) (read_gap k i r to (omega (arith, h)) (λ x l. f x (omega (arith, l))) q))

    read_grow : (k i b : ℕ) (r : List ℕ) (to : ℕ) → i + k ≤ length ns → ((x : ℕ) → x < k → marked own (variable (i + x)) ≡ true)
        → sum (take i ns) + b ≡ sum (take (i + k) ns)
        → Reading ns s own r₀ at i r to → Reading ns s own r₀ at (i + k) (put r to (part s (sum (take i ns)) b)) (to + b)
    read_grow zero i b r to h f w q =
        let n : b ≡ 0 = omega (arith, rw (add-zero i) at w) in
        rw (n, part_none, put_nil, add-zero to, add-zero i) q
    read_grow (suc k) i b r to h f w q =
        let a : ℕ = sum (take i ns) in
        let off : ℕ = sum (take (i + k) ns) in
        let n : ℕ = get_or ns (i + k) 0 in
        let c : ℕ = off - a in
        let e : i + suc k ≡ i + k + 1 = omega arith in
        let j : i + k < length ns = omega (arith, h) in
        let g : a ≤ off = take_grows ns i (i + k) (omega arith) in
        let v : a + c ≡ off = omega arith in
        let t : a + b ≡ off + n = w ∙ ap (λ x. sum (take x ns)) e ∙ total_take ns (i + k) j in
        let l : b ≡ c + n = omega arith in
        let before : List ℕ = put r to (part s a c) in
        let d : Reading ns s own r₀ at (i + k) before (to + c) = read_grow k i c r to (omega (arith, h)) (λ x y. f x (omega (arith, y))) v q in
        let o : to + c + n ≤ length r = omega (arith, read_room ns s own r₀ at (i + k) before (to + c) j room d, d.kept, q.kept) in
        let y : put r to (part s a b) ≡ put before (to + c) (part s off n) =
        ap (λ x. put r to (part s a x)) l ∙ read_longer s r a c to n (omega (arith, place_room ns s (i + k) off z j refl)) o
        ∙ ap (λ x. put before (to + c) (part s x n)) v in
        rw e (read_next ns s own r₀ at (i + k) off before (to + c) (put r to (part s a b)) (to + b) j z refl room
        (rw (f k (omega arith)) (record { passed = omega arith; bytes = y })) d)

  -- the reading of what is left of a walk over runs
  pub record ReadingRun (i rest other : ℕ) (r : List ℕ) (to : ℕ) : Type 0 where
    pub marks : rest ≡ own / 2 ^ i
    pub place : to ≡ other
    pub reading : Reading ns s own r₀ at i r other

  pub run_read_start : (i rest other : ℕ) → Sound ns s → Begun own rest i → other ≡ at → ReadingRun i rest other r₀ at
  run_read_start i rest other z b o = rw o (record { marks = b.marks; place = refl; reading = read_start ns s own r₀ at i z (marks_start m (length ns) i b.start) })

  module _ (z : Sound ns s) (room : at + 4096 ≤ length r₀) (i rest other : ℕ) (r : List ℕ) (to : ℕ) (q : ReadingRun i rest other r to) where
    module _ (a b rest' i' : ℕ) (w : RunOf ns rest i a b rest' i') where
      read_on : Reading ns s own r₀ at i' (put r other (part s a b)) (other + b)
      read_on =
          let e : i + (w.first - i) ≡ w.first = omega (arith, w.after) in
          let d : w.first + (i' - w.first) ≡ i' = omega (arith, w.more) in
          let g : Reading ns s own r₀ at w.first r other =
          rw e at (read_gap z room (w.first - i) i r other (omega (arith, w.more, w.inside))
          (λ x l. sym (has_shift own i x) ∙ ap (λ y. has y x) (sym q.marks) ∙ w.none x (omega (arith, l))) q.reading) in
          let k : (x : ℕ) → x < i' - w.first → marked own (variable (w.first + x)) ≡ true =
          λ x l.
          let c : i + (w.first - i + x) ≡ w.first + x = omega (arith, e) in
          ap (has own) (sym c) ∙ sym (has_shift own i (w.first - i + x)) ∙ ap (λ y. has y (w.first - i + x)) (sym q.marks) ∙ w.all (w.first - i + x) (omega (arith, c)) (omega (arith, c, l)) in
          let v : sum (take w.first ns) + b ≡ sum (take (w.first + (i' - w.first)) ns) = ap (λ x. x + b) (sym w.begins) ∙ w.ends ∙ ap (λ x. sum (take x ns)) (sym d) in
          rw (d, ← w.begins) at (read_grow z room (i' - w.first) w.first b r other (omega (arith, d, w.inside)) k v g)

      pub run_read_from : a + b ≤ length s
      run_read_from = omega (arith, w.ends, total_split ns i', z.exact)

      pub run_read_to : other + b ≤ length r
      run_read_to = omega (arith, read_on.room, q.reading.kept)

      pub run_read_next : (other' : ℕ) (r' : List ℕ) → other' ≡ other + b → r' ≡ put r other (part s a b) → ReadingRun i' rest' other' r' (other + b)
      run_read_next other' r' e t = rw (e, t) (record {
        marks = w.marks ∙ ap (λ x. x / 2 ^ (i' - i)) q.marks ∙ half_again own i i' (omega (arith, w.after, w.more));
        place = refl;
        reading = read_on;
      })

    pub run_read_begun : at ≤ to
    run_read_begun = omega (arith, q.place, q.reading.begun)

    pub run_read_end : rest ≡ 0 → BytesAt (values_of (cut ns s) (members_of m ns)) 4096 r₀ at (to - at) r
    run_read_end h =
        rw (← below_declared m (length ns) (length ns) (omega arith), q.place)
        (read_end ns s own r₀ at i r other (marks_end m (length ns) i rest q.marks h) q.reading)

-- changing by runs
module _ (op : Operation) (ns p : List ℕ) (m front : ℕ) (s₀ : List ℕ) where
  abbrev marked_own : ℕ
  marked_own = m % 2 ^ length ns

  edit_gap : (k i : ℕ) (s : List ℕ) (f : ℕ) → i + k ≤ length ns → ((x : ℕ) → x < k → marked marked_own (variable (i + x)) ≡ false)
      → Editing op ns p marked_own front s₀ i s f → Editing op ns p marked_own front s₀ (i + k) s f
  edit_gap zero i s f h g q = rw (add-zero i) q
  edit_gap (suc k) i s f h g q =
      let e : i + suc k ≡ i + k + 1 = omega arith in
      rw e (edit_next op ns p marked_own front s₀ (i + k) (sum (take (i + k) ns)) s f s f (omega (arith, h)) refl refl
      (rw (g k (omega arith)) turned_not) (edit_gap k i s f (omega (arith, h)) (λ x l. g x (omega (arith, l))) q))

  edit_grow : (k i b : ℕ) (s : List ℕ) (f : ℕ) → i + k ≤ length ns → ((x : ℕ) → x < k → marked marked_own (variable (i + x)) ≡ true)
      → sum (take i ns) + b ≡ sum (take (i + k) ns)
      → Editing op ns p marked_own front s₀ i s f → Editing op ns p marked_own front s₀ (i + k) (run_changed op s p (sum (take i ns)) f b) (f + b)
  edit_grow zero i b s f h g w q =
      let n : b ≡ 0 = omega (arith, rw (add-zero i) at w) in
      let u : run_changed op s p (sum (take i ns)) f 0 ≡ s =
      ap₂ (λ x y. put s (sum (take i ns)) (changed op x y)) (part_none s (sum (take i ns))) (part_none p f) ∙ ap (put s (sum (take i ns))) (mask_nil op []) ∙ put_nil s (sum (take i ns)) in
      rw (n, u, add-zero f, add-zero i) q
  edit_grow (suc k) i b s f h g w q =
      let a : ℕ = sum (take i ns) in
      let off : ℕ = sum (take (i + k) ns) in
      let n : ℕ = get_or ns (i + k) 0 in
      let c : ℕ = off - a in
      let e : i + suc k ≡ i + k + 1 = omega arith in
      let j : i + k < length ns = omega (arith, h) in
      let y : a ≤ off = take_grows ns i (i + k) (omega arith) in
      let v : a + c ≡ off = omega arith in
      let t : a + b ≡ off + n = w ∙ ap (λ x. sum (take x ns)) e ∙ total_take ns (i + k) j in
      let l : b ≡ c + n = omega arith in
      let before : List ℕ = run_changed op s p a f c in
      let d : Editing op ns p marked_own front s₀ (i + k) before (f + c) = edit_grow k i c s f (omega (arith, h)) (λ x o. g x (omega (arith, o))) v q in
      let r : f + c + n ≤ length p = rw (g k (omega arith)) at (edit_room op ns p marked_own front s₀ (i + k) before (f + c) j d) in
      let z : a + c + n ≤ length s = omega (arith, place_room ns s (i + k) off q.sound j refl) in
      let x : run_changed op s p a f b ≡ put before off (changed op (part before off n) (part p (f + c) n)) =
      ap (run_changed op s p a f) l ∙ change_longer op s p a f c n z r ∙ ap (λ o. put before o (changed op (part before o n) (part p (f + c) n))) v in
      rw e (edit_next op ns p marked_own front s₀ (i + k) off before (f + c) (run_changed op s p a f b) (f + b) j refl
      (ap (λ o. length (run_changed op s p a f o)) l ∙ length_changed op s p a f c n z r)
      (rw (g k (omega arith)) (record { passed = omega arith; bytes = x })) d)

  -- the change of what is left of a walk over runs
  pub record EditingRun (i rest other : ℕ) (s : List ℕ) : Type 0 where
    pub marks : rest ≡ marked_own / 2 ^ i
    pub editing : Editing op ns p marked_own front s₀ i s other

  pub run_edit_start : (i rest other : ℕ) → Sound ns s₀ → front + set_bytes m ns ≤ length p → Begun marked_own rest i → other ≡ front → EditingRun i rest other s₀
  unfolding set_bytes
  run_edit_start i rest other z l b o =
      let k : front + set_bytes marked_own ns ≤ length p = rw (below_declared m (length ns) (length ns) (omega arith)) l in
      rw o (record { marks = b.marks; editing = edit_start op ns p marked_own front s₀ i z k (marks_start m (length ns) i b.start) })

  module _ (i rest other : ℕ) (s : List ℕ) (q : EditingRun i rest other s) where
    module _ (a b rest' i' : ℕ) (w : RunOf ns rest i a b rest' i') where
      edit_on : Editing op ns p marked_own front s₀ i' (run_changed op s p a other b) (other + b)
      edit_on =
          let e : i + (w.first - i) ≡ w.first = omega (arith, w.after) in
          let d : w.first + (i' - w.first) ≡ i' = omega (arith, w.more) in
          let g : Editing op ns p marked_own front s₀ w.first s other =
          rw e at (edit_gap (w.first - i) i s other (omega (arith, w.more, w.inside))
          (λ x l. sym (has_shift marked_own i x) ∙ ap (λ y. has y x) (sym q.marks) ∙ w.none x (omega (arith, l))) q.editing) in
          let k : (x : ℕ) → x < i' - w.first → marked marked_own (variable (w.first + x)) ≡ true =
          λ x l.
          let c : i + (w.first - i + x) ≡ w.first + x = omega (arith, e) in
          ap (has marked_own) (sym c) ∙ sym (has_shift marked_own i (w.first - i + x)) ∙ ap (λ y. has y (w.first - i + x)) (sym q.marks) ∙ w.all (w.first - i + x) (omega (arith, c)) (omega (arith, c, l)) in
          let v : sum (take w.first ns) + b ≡ sum (take (w.first + (i' - w.first)) ns) = ap (λ x. x + b) (sym w.begins) ∙ w.ends ∙ ap (λ x. sum (take x ns)) (sym d) in
          rw (d, ← w.begins) at (edit_grow (i' - w.first) w.first b s other (omega (arith, d, w.inside)) k v g)

      pub run_edit_from : a + b ≤ length s
      run_edit_from = omega (arith, w.ends, total_split ns i', q.editing.sound.exact)

      pub run_edit_to : other + b ≤ length p
      run_edit_to = omega (arith, edit_on.left)

      pub run_edit_next : (other' : ℕ) (s' : List ℕ) → other' ≡ other + b → s' ≡ run_changed op s p a other b → EditingRun i' rest' other' s'
      run_edit_next other' s' e t = rw (e, t) (record {
        marks = w.marks ∙ ap (λ x. x / 2 ^ (i' - i)) q.marks ∙ half_again marked_own i i' (omega (arith, w.after, w.more));
        editing = edit_on;
      })

    pub run_edit_end : rest ≡ 0 → cut ns s ≡ edited op (members_of m ns) (cut (map (size_at ns) (members_of m ns)) (drop front p)) (cut ns s₀)
    run_edit_end h =
        rw (← below_declared m (length ns) (length ns) (omega arith))
        (edit_end op ns p marked_own front s₀ i s other (marks_end m (length ns) i rest q.marks h) q.editing)
