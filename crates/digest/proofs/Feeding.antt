-- What `feed` leaves in the buffer. Assumes nothing.
use Rattle.std.proofs.Common.{◌≡◌, ℕ, ◌+◌, ◌-◌, ◌*◌, ◌/◌, ◌%◌, ◌^◌, ◌<◌, ◌≤◌, List, [], ◌++◌, length, take, drop, sym, refl, ap, ◌∙◌, ap₂, arith, length-append, length-drop, length-take, length-take-le, append-nil, drop-drop}
use borrow.Rule.Slice.PartMut.{mid_of, put_mid}
use lib.ListN.{drop_of_length-le}
use lib.Seq.{take_at, take-append-add, drop-append-add}
use Rattle.rfc1321.specs.Md5.{operated, hashed}
use Rattle.rfc1321.specs.declared.State.{State}
use Rattle.copies.specs.Put.{put}
use Rattle.copies.proofs.Put.{put_taken, take_put, mid_rest}
use Rattle.digest.specs.Stream.{held, rest, fed}
use Rattle.digest.specs.declared.Progress.{Progress}
use Rattle.digest.proofs.Chunks.{hashed_turn, hashed_end}

module _ (p : Progress) (v : List ℕ) (full : length p.buffer ≡ 64) where
  abbrev at : ℕ
  at = p.total % 64

  abbrev total : ℕ
  total = (p.total + length v) % 2 ^ 64

  abbrev waiting : List ℕ
  waiting = take at p.buffer

  waits : length (waiting ++ v) ≡ at + length v
  waits = simp (length-append, length-take) (omega arith)

  -- a piece that fills no chunk
  pub feed_short : (ys : List ℕ) → length v < 64 - at → ys ≡ v
      → held (record { state = p.state; total = total; buffer = put_mid at (at + length v - at) p.buffer ys }) ≡ fed (held p) v
  unfolding fed rest
  feed_short ys h e =
      let b : put_mid at (at + length v - at) p.buffer ys ≡ put p.buffer at v = put_taken at (at + length v - at) p.buffer v ys e (omega arith) in
      let t : total % 64 ≡ at + length v = omega arith in
      let z : length (waiting ++ v) / 64 * 64 ≡ 0 = omega (arith, waits) in
      let s : hashed p.state (waiting ++ v) ≡ p.state = hashed_end p.state (waiting ++ v) (omega (arith, waits)) in
      let w : take (total % 64) (put_mid at (at + length v - at) p.buffer ys) ≡ waiting ++ v = ap₂ take t b ∙ take_put p.buffer at v (length v) refl (omega arith) in
      rw (s, z, w)

  -- one that does: the buffer filled up, and what is left over put to its front. o is what comes after the bytes that fill it
  module _ (o : List ℕ) (h : 64 - at ≤ length v) (split : o ≡ drop (64 - at) v) where
    front : length waiting ≡ at
    front = length-take-le at p.buffer (omega arith)

    count : length o ≡ length v - (64 - at)
    count = ap length split ∙ length-drop (64 - at) v

    first : take 64 (waiting ++ v) ≡ waiting ++ take (64 - at) v
    first =
        let e : 64 ≡ length waiting + (64 - at) = omega (arith, front) in
        ap (λ (n : ℕ). take n (waiting ++ v)) e ∙ take-append-add waiting v (64 - at)

    others : drop 64 (waiting ++ v) ≡ o
    others =
        let e : 64 ≡ length waiting + (64 - at) = omega (arith, front) in
        ap (λ (n : ℕ). drop n (waiting ++ v)) e ∙ drop-append-add waiting v (64 - at) ∙ sym split

    left : drop (length (waiting ++ v) / 64 * 64) (waiting ++ v) ≡ drop (length o - length o % 64) o
    left =
        let n : ℕ = length o - length o % 64 in
        let e : length (waiting ++ v) / 64 * 64 ≡ length waiting + (64 - at + n) = omega (arith, front, waits, count) in
        ap (λ (n : ℕ). drop n (waiting ++ v)) e ∙ drop-append-add waiting v (64 - at + n) ∙ sym (drop-drop n (64 - at) v) ∙ ap (drop n) (sym split)

    filled : (ys : List ℕ) → ys ≡ take (64 - at) v → put_mid at (64 - at) p.buffer ys ≡ waiting ++ take (64 - at) v
    filled ys e =
        let d : drop (64 - at) (drop at p.buffer) ≡ [] = drop_of_length-le (drop at p.buffer) (simp length-drop (omega arith)) in
        ap (λ (x : List ℕ). waiting ++ (ys ++ x)) d ∙ ap (λ (x : List ℕ). waiting ++ x) (append-nil ys ∙ e)

    pub feed_long : (ys zs : List ℕ) (q q' : State) → ys ≡ take (64 - at) v
        → q ≡ operated p.state (put_mid at (64 - at) p.buffer ys) → q' ≡ hashed q o
        → zs ≡ mid_of (length o - length o % 64) (length o - (length o - length o % 64)) o
        → held (record { state = q'; total = total; buffer = zs ++ drop (length o % 64) (put_mid at (64 - at) p.buffer ys) }) ≡ fed (held p) v
    unfolding fed rest
    feed_long ys zs q q' e₁ e₂ e₃ e₄ =
        let s : q' ≡ hashed p.state (waiting ++ v) =
        e₃ ∙ ap₂ hashed (e₂ ∙ ap (operated p.state) (filled ys e₁ ∙ sym first)) (sym others) ∙ sym (hashed_turn p.state (waiting ++ v) (omega (arith, waits))) in
        let z : zs ≡ drop (length o - length o % 64) o = e₄ ∙ mid_rest (length o - length o % 64) o in
        let l : length zs ≡ total % 64 = ap length z ∙ length-drop (length o - length o % 64) o ∙ omega (arith, count) in
        let w : take (total % 64) (zs ++ drop (length o % 64) (put_mid at (64 - at) p.buffer ys)) ≡ drop (length (waiting ++ v) / 64 * 64) (waiting ++ v) =
        take_at zs _ (total % 64) l ∙ z ∙ sym left in
        rw (s, w)
