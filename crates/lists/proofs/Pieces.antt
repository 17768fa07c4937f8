-- A flat store and its pieces: a value is a part, and a write is a new piece. Assumes nothing.
use mathlib.Core.Path.{◌≡◌, sym, ap, ap₂, ◌∙◌}
use mathlib.Core.List.{List, [], ◌∷◌, ◌++◌}
use Prim.Native.Nat.{ℕ, zero, suc, ◌+◌, ◌≤◌, ◌<◌}
use native.Mathlib.Omega.{arith}
use lib.ListN.{length, take, drop, set, get_or, length-drop, take-append-drop}
use lib.Seq.{take_at, drop_at, length-take-le, take_all}
use Rattle.bsmp.specs.Base.{sum, cut}
use Rattle.bsmp.specs.Board.{variable}
use Rattle.bsmp.proofs.Store.{piece}
use Rattle.bsmp.specs.Message.{changed, edited}
use Rattle.bsmp.specs.declared.Operation.{Operation}
use Rattle.lists.proofs.Sum.{total_within}
use Rattle.copies.specs.Put.{put, part}
use Rattle.copies.proofs.Put.{put_behind}
use Rattle.lists.proofs.Mask.{length_change}

-- the bytes of piece i stand where those before it end
pub value_part : (ns s : List ℕ) (i at : ℕ) → i < length ns → at ≡ sum (take i ns) → get_or (cut ns s) i [] ≡ part s at (get_or ns i 0)
unfolding part
value_part ns s i at h e = rw e (piece ns s i h)

-- a write at its place is a new piece
pub cut_put : (ns s : List ℕ) (i : ℕ) (b : List ℕ) → i < length ns → length b ≡ get_or ns i 0 → sum ns ≤ length s
    → cut ns (put s (sum (take i ns)) b) ≡ set (cut ns s) i b
unfolding sum put
cut_put [] s i b h e k = absurd (omega (arith, h))
cut_put (n ∷ ns) s zero b h e k =
    let z : 0 + length b ≡ n = omega arith in
    ap₂ (λ (x y : List ℕ). x ∷ cut ns y) (take_at b (drop (0 + length b) s) n e) (drop_at b (drop (0 + length b) s) n e ∙ ap (λ (x : ℕ). drop x s) z)
cut_put (n ∷ ns) s (suc i) b h e k =
    let l : length (take n s) ≡ n = length-take-le n s (omega arith) in
    let a : ℕ = sum (take i ns) in
    let q : put s (n + a) b ≡ take n s ++ put (drop n s) a b =
    ap₂ (λ (x : List ℕ) (y : ℕ). put x (y + a) b) (sym (take-append-drop n s)) (sym l) ∙ sym (put_behind (take n s) (drop n s) a b) in
    ap (cut (n ∷ ns)) q
    ∙ ap₂ (λ (x y : List ℕ). x ∷ cut ns y) (take_at (take n s) (put (drop n s) a b) n l) (drop_at (take n s) (put (drop n s) a b) n l)
    ∙ ap (take n s ∷◌) (cut_put ns (drop n s) i b (omega (arith, h)) e (simp length-drop (omega arith)))

-- a value changed in its place by the bytes from f on, as the code leaves it
module _ (op : Operation) (ns s p : List ℕ) (i f at : ℕ) (s' : List ℕ) where
  pub cut_change : i < length ns → sum ns ≤ length s → f + get_or ns i 0 ≤ length p → at ≡ sum (take i ns)
      → s' ≡ put s at (changed op (part s at (get_or ns i 0)) (part p f (get_or ns i 0)))
      → cut ns s' ≡ set (cut ns s) i (changed op (get_or (cut ns s) i []) (part p f (get_or ns i 0)))
  cut_change h k g e w =
      let r : at + get_or ns i 0 ≤ length s = omega (arith, total_within ns i h) in
      let b : List ℕ = changed op (part s at (get_or ns i 0)) (part p f (get_or ns i 0)) in
      let l : length b ≡ get_or ns i 0 = length_change op (get_or ns i 0) s at p f r g in
      ap (cut ns) w ∙ ap (λ (x : ℕ). cut ns (put s x b)) e ∙ cut_put ns s i b h l k
      ∙ ap (λ (x : List ℕ). set (cut ns s) i (changed op x (part p f (get_or ns i 0)))) (sym (value_part ns s i at h e))

  -- the only edit of a message that names one variable
  pub edit_one : i < length ns → sum ns ≤ length s → length p ≡ f + get_or ns i 0 → at ≡ sum (take i ns)
      → s' ≡ put s at (changed op (part s at (get_or ns i 0)) (part p f (get_or ns i 0)))
      → cut ns s' ≡ edited op (variable i ∷ []) (drop f p ∷ []) (cut ns s)
  unfolding part
  edit_one h k g e w =
      let d : take (get_or ns i 0) (drop f p) ≡ drop f p = take_all (get_or ns i 0) (drop f p) (simp length-drop (omega arith)) in
      cut_change h k (omega arith) e w
      ∙ ap (λ (x : List ℕ). set (cut ns s) i (changed op (get_or (cut ns s) i []) x)) d
