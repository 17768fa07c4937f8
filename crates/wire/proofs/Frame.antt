-- How a packet is closed: the bytes that `close` stores, and what the callers of `finish` make of them. Assumes nothing.
use mathlib.Core.Path.{◌≡◌, refl, sym, ap, ◌∙◌}
use mathlib.Core.List.{List, [], ◌∷◌}
use Prim.Native.Nat.{ℕ, ◌+◌, ◌-◌, ◌/◌, ◌%◌, ◌≤◌, ◌<◌}
use native.Mathlib.Nat.{add-sub_cancel_left}
use native.Mathlib.Omega.{arith}
use borrow.Rule.Slice.PartMut.{mid_of}
use lib.ListN.{length, set, get_or, length-set, length-append}
use Rattle.std.specs.Int.{to_be_bytes, w16}
use Rattle.bsmp.specs.Base.{sum}
use Rattle.bsmp.specs.Message.{message_of}
use Rattle.bsmp.specs.Packet.{packed, frame, checksum, reply}
use Rattle.bsmp.specs.Store.{shown, outcome_of}
use Rattle.bsmp.specs.declared.Outcome.TheVariants.{Reply}
use Rattle.bsmp.proofs.Room.{frame_length}
use Rattle.copies.specs.Put.{put, part}
use Rattle.copies.proofs.Put.{put_nil, put_set, put_closed, put_cover, part_put, length_part}

pub length_packed : (to code : ℕ) (v : List ℕ) → length (packed to (message_of code v)) ≡ length v + 5
length_packed to code v = simp length-append (omega arith)

-- what stands at the front of the buffer, as `shown` has it
pub put_shown : (r v : List ℕ) → put r 0 v ≡ shown (reply v) r
unfolding put
put_shown r v =
    let z : 0 + length v ≡ length v = omega arith in
    rw z

-- the sum of head and payload, from the payload's, each step modulo 256; and the head, stored byte by byte
module _ (r : List ℕ) (to code n : ℕ) (g : n ≤ 4099) (h : 4104 ≤ length r) where
  abbrev after_sum : ℕ → ℕ
  after_sum s = (((s + to) % 256 + code) % 256 + n / 256) % 256 + n % 256

  closing : (s : ℕ) → s ≡ sum (mid_of 4 (4 + n - 4) r) % 256 → (256 - after_sum s % 256) % 256 ≡ checksum (to ∷ code ∷ n / 256 ∷ n % 256 ∷ part r 4 n)
  unfolding sum part
  closing s e =
      let f : s ≡ sum (part r 4 n) % 256 = rw (← add-sub_cancel_left 4 n) e in
      omega arith

  head : set (set (set (set r 0 to) 1 code) 2 (n / 256)) 3 (n % 256) ≡ put r 0 (to ∷ code ∷ n / 256 ∷ n % 256 ∷ [])
  head =
      sym (put_nil _ 4)
      ∙ put_set (set (set (set r 0 to) 1 code) 2 (n / 256)) 3 (n % 256) [] (simp length-set (omega arith))
      ∙ put_set (set (set r 0 to) 1 code) 2 (n / 256) _ (simp length-set (omega arith))
      ∙ put_set (set r 0 to) 1 code _ (simp length-set (omega arith))
      ∙ put_set r 0 to _ (omega arith)

  pub closed : (s : ℕ) (bs : List ℕ) → s ≡ sum (mid_of 4 (4 + n - 4) r) % 256 → bs ≡ to_be_bytes w16 n
      → (x : ℕ) → x ≡ (256 - ((((s + to) % 256 + code) % 256 + get_or bs 0 0) % 256 + get_or bs 1 0) % 256) % 256
      → set (set (set (set (set r 0 to) 1 code) 2 (get_or bs 0 0)) 3 (get_or bs 1 0)) (4 + n) x ≡ put r 0 (packed to (message_of code (part r 4 n)))
  closed s bs e d x k =
      let hdr : List ℕ = to ∷ code ∷ n / 256 ∷ n % 256 ∷ [] in
      let o : 4 + n < length r = omega arith in
      let l : length (part r 4 n) ≡ n = length_part r 4 n (omega arith) in
      let w : n / 256 % 256 ≡ n / 256 = omega arith in
      let high : get_or bs 0 0 ≡ n / 256 = rw d w in
      let low : get_or bs 1 0 ≡ n % 256 = rw d in
      let y : x ≡ checksum (to ∷ code ∷ n / 256 ∷ n % 256 ∷ part r 4 n) = (rw (high, low) at k) ∙ closing s e in
      rw (high, low, head, y, put_closed r hdr 4 n _ refl, l, w)

-- a payload v that was written behind the place of the head, and closed: what a packet leaves in the buffer
pub packed_over : (to : ℕ) (r v : List ℕ) (code n : ℕ) (r₁ r₂ : List ℕ) → r₁ ≡ put r 4 v → n ≡ length v → 4 + length v < length r
    → r₂ ≡ put r₁ 0 (packed to (message_of code (part r₁ 4 n))) → r₂ ≡ put r 0 (packed to (message_of code v))
packed_over to r v code n r₁ r₂ w e h f =
    let a : part (put r 4 v) 4 n ≡ v = ap (part (put r 4 v) 4) e ∙ part_put r 4 v (omega arith) in
    let l : 4 + length v ≤ length (packed to (message_of code v)) = omega (arith, length_packed to code v) in
    f ∙ rw (w, a) (put_cover r 4 v (packed to (message_of code v)) l (omega arith))

module _ (r v : List ℕ) (code n : ℕ) (r₁ r₂ : List ℕ) (w : r₁ ≡ put r 4 v) (e : n ≡ length v) (h : 4 + length v < length r) (f : r₂ ≡ put r₁ 0 (frame code (part r₁ 4 n))) where
  pub frame_over : r₂ ≡ put r 0 (frame code v)
  unfolding frame
  frame_over = packed_over 0 r v code n r₁ r₂ w e h f

  pub frame_shown : r₂ ≡ shown (reply (frame code v)) r
  frame_shown = frame_over ∙ put_shown r (frame code v)

-- and its length, as the outcome has it
pub frame_outcome : (code n k : ℕ) (v : List ℕ) → n ≡ length v → k ≡ n + 5 → Reply k ≡ outcome_of (reply (frame code v))
frame_outcome code n k v e f = ap Reply (f ∙ ap (◌+ 5) e ∙ sym (frame_length code v))
