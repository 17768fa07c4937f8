-- The set of all variables: their values one after another are the store, and their change is one of the store as a whole. Assumes nothing.
use mathlib.Core.Path.{◌≡◌, refl, sym, ap, ap₂, ◌∙◌}
use mathlib.Core.Bool.{true}
use mathlib.Core.List.{List, [], ◌∷◌, ◌++◌, map, append_assoc}
use Prim.Native.Nat.{ℕ, suc, ◌+◌, ◌-◌, ◌*◌, ◌^◌, ◌≤◌, ◌<◌}
use native.Mathlib.Omega.{arith}
use native.Mathlib.Numerals.{add-one}
use lib.ListN.{length, take, drop, get_or, set, length-append, length-drop, length-map}
use lib.Seq.{take_all, get_or-append_seam, set-append_seam}
use Rattle.bsmp.specs.Base.{sum, up_from, only, cut, join}
use Rattle.bsmp.specs.Board.{variable, marked}
use Rattle.bsmp.specs.Message.{changed, edited, values_of}
use Rattle.bsmp.specs.declared.Operation.{Operation}
use Rattle.bsmp.specs.declared.VariableNumber.{VariableNumber}
use Rattle.bsmp.proofs.Lists.{map_map, length_up_from, map_numbers, only_sum}
use Rattle.bsmp.proofs.Store.{join_cut, lengths_cut}
use Rattle.copies.specs.Put.{put, part}
use Rattle.copies.proofs.Put.{put_all, put_nil, put_set}
use Rattle.lists.proofs.Mask.{length_mask, take_changed, drop_changed}
use Rattle.sets.specs.Members.{members_below, members_of, size_at, set_bytes}
use Rattle.sets.specs.Promises.{Sound, BytesAt}
use Rattle.sets.proofs.Marks.{has_all}
use Rattle.sets.proofs.Members.{only_same}

-- all marks: every variable is a member
only_true : (l : List VariableNumber) → only (λ i. true) l ≡ l
only_true [] = refl
only_true (i ∷ l) = ap (i ∷◌) (only_true l)

all_members : (n : ℕ) → n ≤ 64 → members_below (2 ^ 64 - 1) n ≡ map variable (up_from 0 n)
unfolding members_below
all_members n h = only_same (marked (2 ^ 64 - 1)) (λ i. true) 0 n (λ k l. has_all k (omega (arith, l))) ∙ only_true (map variable (up_from 0 n))

-- their numbers, one after another: the walk that lists them, and the list
pub all_next : (r : List ℕ) (at i n : ℕ) (x : List ℕ) → i < n → at + i < length r → put r (at + i) (up_from i (n - i)) ≡ x
    → put (set r (at + i) i) (at + (i + 1)) (up_from (i + 1) (n - (i + 1))) ≡ x
all_next r at i n x h l e =
    let k : n - i ≡ suc (n - (i + 1)) = omega arith in
    let o : at + (i + 1) ≡ at + i + 1 = omega arith in
    rw (o, put_set r (at + i) i (up_from (i + 1) (n - (i + 1))) l, add-one i) (rw (k, add-one i) at e)

pub all_done : (r : List ℕ) (at i n : ℕ) (x : List ℕ) → n ≤ i → put r (at + i) (up_from i (n - i)) ≡ x → r ≡ x
all_done r at i n x h e =
    let k : n - i ≡ 0 = omega arith in
    sym (put_nil r (at + i)) ∙ (rw k at e)

numbers : (l : List ℕ) → map (λ (i : VariableNumber). i.0) (map variable l) ≡ l
numbers [] = refl
numbers (k ∷ l) = ap (k ∷◌) (numbers l)

pub list_whole : (m n : ℕ) (r : List ℕ) (at : ℕ) (r' : List ℕ) → m ≡ 2 ^ 64 - 1 → n ≤ 64 → r' ≡ put r at (up_from 0 n)
    → BytesAt (map (λ i. i.0) (members_below m n)) 64 r at n r'
list_whole m n r at r' e h w = rw (e, all_members n h, numbers (up_from 0 n)) (record { count = sym (length_up_from 0 n); room = h; bytes = w })

-- what stands at each variable's number, for all of them
at_all : {A : Type 0} (l : List A) (d : A) → map (λ j. get_or l j.0 d) (map variable (up_from 0 (length l))) ≡ l
at_all l d = map_map variable (λ j. get_or l j.0 d) (up_from 0 (length l)) ∙ map_numbers l d

-- a store of just the length is cut into as many pieces as there are sizes
cut_length : (ns s : List ℕ) → sum ns ≡ length s → length (cut ns s) ≡ length ns
cut_length ns s h = sym (length-map (cut ns s) length) ∙ ap length (lengths_cut ns s (sym h))

all_sizes : (ns : List ℕ) → length ns ≤ 64 → map (size_at ns) (members_of (2 ^ 64 - 1) ns) ≡ ns
all_sizes ns few = ap (map (size_at ns)) (all_members (length ns) few) ∙ at_all ns 0

-- the bytes of all, and how many they can be
sum_small : (ns : List ℕ) → ((k : ℕ) → get_or ns k 0 < 256) → sum ns ≤ 255 * length ns
unfolding sum
sum_small [] h = omega arith
sum_small (n ∷ ns) h = omega (arith, h 0, sum_small ns (λ k. h (suc k)))

pub set_small : (m : ℕ) (ns : List ℕ) → length ns ≤ 64 → ((k : ℕ) → get_or ns k 0 < 256) → set_bytes m ns ≤ 16320
unfolding set_bytes members_below
set_small m ns few h =
    omega (arith, only_sum (size_at ns) (marked m) (map variable (up_from 0 (length ns))), ap sum (at_all ns 0), sum_small ns h)

module _ (ns : List ℕ) (x : ℕ) (few : length ns ≤ 64) (w : x ≡ sum (take (length ns) ns)) where
  all_bytes : x ≡ sum ns
  all_bytes = w ∙ ap sum (take_all (length ns) ns (omega arith))

  pub bytes_whole : (m : ℕ) → m ≡ 2 ^ 64 - 1 → x ≡ set_bytes m ns
  unfolding set_bytes
  bytes_whole m e = rw (e, all_sizes ns few) all_bytes

  pub small_whole : ((k : ℕ) → get_or ns k 0 < 256) → x ≤ 16320
  small_whole h = omega (arith, all_bytes, sum_small ns h)

module _ (ns s : List ℕ) (z : Sound ns s) where
  all_told : values_of (cut ns s) (members_of (2 ^ 64 - 1) ns) ≡ s
  unfolding values_of
  all_told =
      ap (λ is. join (map (λ j. get_or (cut ns s) j.0 []) is)) (all_members (length ns) z.few ∙ ap (λ k. map variable (up_from 0 k)) (sym (cut_length ns s z.exact)))
      ∙ ap join (at_all (cut ns s) []) ∙ join_cut ns s

  -- the values of all, put into the reply as they stand
  pub read_whole : (m : ℕ) (r : List ℕ) (at : ℕ) (r' : List ℕ) → m ≡ 2 ^ 64 - 1 → r' ≡ put r at (part s 0 (length s))
      → BytesAt (values_of (cut ns s) (members_of m ns)) 4096 r at (length s) r'
  unfolding part
  read_whole m r at r' e w = rw (e, all_told) (record {
    count = refl;
    room = z.small;
    bytes = w ∙ ap (put r at) (take_all (length s) s (omega arith));
  })

module _ (op : Operation) where
  each : (vs ps : List (List ℕ)) → List (List ℕ)
  each [] ps = []
  each (v ∷ vs) [] = v ∷ vs
  each (v ∷ vs) (p ∷ ps) = changed op v p ∷ each vs ps

  -- neighbours edited one after another
  edited_each : (ws vs ps : List (List ℕ)) → edited op (map variable (up_from (length ws) (length vs))) ps (ws ++ vs) ≡ ws ++ each vs ps
  unfolding each
  edited_each ws [] ps = refl
  edited_each ws (v ∷ vs) [] = refl
  edited_each ws (v ∷ vs) (p ∷ ps) =
      let x : List ℕ = changed op v p in
      let n : length (ws ++ x ∷ []) ≡ suc (length ws) = simp length-append (omega arith) in
      ap (edited op (map variable (up_from (suc (length ws)) (length vs))) ps)
      (ap (λ y. set (ws ++ v ∷ vs) (length ws) (changed op y p)) (get_or-append_seam ws v vs []) ∙ set-append_seam ws v vs x ∙ sym (append_assoc ws (x ∷ []) vs))
      ∙ ap (λ k. edited op (map variable (up_from k (length vs))) ps ((ws ++ x ∷ []) ++ vs)) (sym n)
      ∙ edited_each (ws ++ x ∷ []) vs ps ∙ append_assoc ws (x ∷ []) (each vs ps)

  cut_each : (ns s q : List ℕ) → sum ns ≡ length s → each (cut ns s) (cut ns q) ≡ cut ns (changed op s q)
  unfolding each sum changed
  cut_each [] [] q h = refl
  cut_each [] (x ∷ s) q h = absurd (omega (arith, h))
  cut_each (n ∷ ns) s q h =
      ap₂ ◌∷◌ (sym (take_changed op n s q)) (cut_each ns (drop n s) (drop n q) (simp length-drop (omega (arith, h))) ∙ ap (cut ns) (sym (drop_changed op n s q)))

  module _ (ns s p : List ℕ) (f : ℕ) (z : Sound ns s) where
    pub whole_room : (m : ℕ) → m ≡ 2 ^ 64 - 1 → f + set_bytes m ns ≤ length p → f + length s ≤ length p
    unfolding set_bytes
    whole_room m e h = rw (e, all_sizes ns z.few, z.exact) at h

    -- all values changed by the payload from f on
    pub change_whole : (m : ℕ) (s' : List ℕ) → m ≡ 2 ^ 64 - 1 → f + length s ≤ length p → s' ≡ put s 0 (changed op (part s 0 (length s)) (part p f (length s)))
        → cut ns s' ≡ edited op (members_of m ns) (cut (map (size_at ns) (members_of m ns)) (drop f p)) (cut ns s)
    unfolding part
    change_whole m s' e h w =
        let q : List ℕ = drop f p in
        let l : length (changed op s q) ≡ length s = length_mask op s q ∙ simp length-drop (omega arith) in
        let c : changed op (take (length s) s) (take (length s) q) ≡ changed op s q = sym (take_changed op (length s) s q) ∙ take_all (length s) (changed op s q) (omega arith) in
        let k : edited op (map variable (up_from 0 (length ns))) (cut ns q) (cut ns s) ≡ cut ns (changed op s q) =
        ap (λ n. edited op (map variable (up_from 0 n)) (cut ns q) (cut ns s)) (sym (cut_length ns s z.exact)) ∙ edited_each [] (cut ns s) (cut ns q) ∙ cut_each ns s q z.exact in
        ap (cut ns) (w ∙ ap (put s 0) c ∙ put_all s (changed op s q) l) ∙ sym k
        ∙ ap₂ (λ is ms. edited op is (cut ms q) (cut ns s)) (sym (all_members (length ns) z.few)) (sym (all_sizes ns z.few))
        ∙ ap (λ y. edited op (members_of y ns) (cut (map (size_at ns) (members_of y ns)) q) (cut ns s)) (sym e)
