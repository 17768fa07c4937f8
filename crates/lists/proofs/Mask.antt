-- The operations of a mask on a byte, and on a value byte by byte. Assumes nothing.
use mathlib.Core.Path.{◌≡◌, refl, sym, ap, ◌∙◌}
use mathlib.Core.List.{List, [], ◌∷◌}
use Prim.Native.Nat.{ℕ, zero, suc, ◌+◌, ◌-◌, min, ◌≤◌, ◌<◌}
use lib.ListN.{length, take, drop, get_or, set, length-take, length-drop, drop_of_length-le}
use borrow.Rule.Slice.PartMut.{mid_of, put_mid}
use lib.Seq.{drop-set-lt, take-nil}
use native.Mathlib.Nat.{not-suc-le-zero, le_of_suc-le-suc, add-sub_cancel_left}
use Rattle.bsmp.specs.Message.{operated, changed}
use native.Mathlib.Omega.{arith}
use Rattle.copies.specs.Put.{put, part}
use Rattle.copies.proofs.Put.{put_nil, put_set, put_back, mid_rest, drop_one, length_part}
use Rattle.bsmp.specs.declared.Operation.{Operation}

pub mask_nil : (op : Operation) (xs : List ℕ) → changed op xs [] ≡ []
unfolding changed
mask_nil op [] = refl
mask_nil op (x ∷ xs) = refl

pub mask_cons : (op : Operation) (x : ℕ) (xs : List ℕ) (m : ℕ) (ms : List ℕ) → changed op (x ∷ xs) (m ∷ ms) ≡ operated op x m ∷ changed op xs ms
unfolding changed
mask_cons op x xs m ms = refl

pub length_mask : (op : Operation) (xs ms : List ℕ) → length (changed op xs ms) ≡ min (length xs) (length ms)
unfolding changed
length_mask op [] ms = omega arith
length_mask op (x ∷ xs) [] = omega arith
length_mask op (x ∷ xs) (m ∷ ms) = omega (arith, length_mask op xs ms)

-- a turn of the loop that masks, and its end
pub mask_turn : (op : Operation) (d m : List ℕ) (i : ℕ) → i < length d → i < length m
    → (b : ℕ) → b ≡ operated op (get_or d i 0) (get_or m i 0)
    → put (set d i b) (i + 1) (changed op (drop (i + 1) (set d i b)) (drop (i + 1) m)) ≡ put d i (changed op (drop i d) (drop i m))
mask_turn op d m i h k b e =
    let l : i < i + 1 = omega arith in
    rw (drop-set-lt (i + 1) d i b, put_set d i b, drop_one d i, drop_one m i, mask_cons, e)

pub mask_done : (op : Operation) (d m : List ℕ) (i : ℕ) → length m ≤ i → put d i (changed op (drop i d) (drop i m)) ≡ d
mask_done op d m i h = rw (drop_of_length-le m h, mask_nil, put_nil)

-- a part up to the end that came back masked
pub mask_back : (a : ℕ) (op : Operation) (s m ys : List ℕ) → ys ≡ put (mid_of a (length s - a) s) 0 (changed op (mid_of a (length s - a) s) m)
    → a + length m ≤ length s → put_mid a (length s - a) s ys ≡ put s a (changed op (drop a s) m)
mask_back a op s m ys e h =
    let l : a + length (changed op (drop a s) m) ≤ length s = simp (length_mask, length-drop) (omega arith) in
    put_back a s (changed op (drop a s) m) ys (e ∙ ap (λ (x : List ℕ). put (mid_of a (length s - a) s) 0 (changed op x m)) (mid_rest a s)) l

-- no more than the mask's length of the value counts
pub mask_take : (op : Operation) (n : ℕ) (xs ms : List ℕ) → length ms ≤ n → changed op (take n xs) ms ≡ changed op xs ms
unfolding changed
mask_take op n [] ms h = rw (take-nil n)
mask_take op zero (x ∷ xs) [] h = refl
mask_take op zero (x ∷ xs) (m ∷ ms) h = absurd (not-suc-le-zero h)
mask_take op (suc n) (x ∷ xs) [] h = refl
mask_take op (suc n) (x ∷ xs) (m ∷ ms) h = ap (λ (l : List ℕ). operated op x m ∷ l) (mask_take op n xs ms (le_of_suc-le-suc h))

-- a part up to the end that came back changed by a part of the payload
pub change_back : (a n : ℕ) (op : Operation) (s : List ℕ) (f : ℕ) (p ys : List ℕ)
    → ys ≡ put (mid_of a (length s - a) s) 0 (changed op (mid_of a (length s - a) s) (mid_of f (f + n - f) p))
    → a + n ≤ length s → f + n ≤ length p → put_mid a (length s - a) s ys ≡ put s a (changed op (part s a n) (part p f n))
unfolding part
change_back a n op s f p ys e h k =
    let l : length (take n (drop f p)) ≡ n = simp (length-take, length-drop) (omega arith) in
    let m : length (take n (drop f p)) ≤ n = omega arith in
    let g : a + length (take n (drop f p)) ≤ length s = omega arith in
    mask_back a op s (take n (drop f p)) ys (rw (← add-sub_cancel_left f n) e) g ∙ ap (put s a) (sym (mask_take op n (drop a s) (take n (drop f p)) m))

pub length_change : (op : Operation) (n : ℕ) (s : List ℕ) (a : ℕ) (p : List ℕ) (f : ℕ) → a + n ≤ length s → f + n ≤ length p → length (changed op (part s a n) (part p f n)) ≡ n
length_change op n s a p f h k = length_mask op _ _ ∙ omega (arith, length_part s a n h, length_part p f n k)

-- the first and the other bytes of a change
pub take_changed : (op : Operation) (n : ℕ) (xs ms : List ℕ) → take n (changed op xs ms) ≡ changed op (take n xs) (take n ms)
unfolding changed
take_changed op zero xs ms = refl
take_changed op (suc n) [] ms = refl
take_changed op (suc n) (x ∷ xs) [] = refl
take_changed op (suc n) (x ∷ xs) (m ∷ ms) = ap (operated op x m ∷◌) (take_changed op n xs ms)

pub drop_changed : (op : Operation) (n : ℕ) (xs ms : List ℕ) → drop n (changed op xs ms) ≡ changed op (drop n xs) (drop n ms)
unfolding changed
drop_changed op zero xs ms = refl
drop_changed op (suc n) [] ms = refl
drop_changed op (suc n) (x ∷ xs) [] = sym (mask_nil op (drop n xs))
drop_changed op (suc n) (x ∷ xs) (m ∷ ms) = drop_changed op n xs ms
