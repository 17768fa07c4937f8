-- A message cut anywhere: its whole chunks, and what is left of it. Assumes nothing.
use Rattle.std.proofs.Common.{◌≡◌, ℕ, zero, suc, ◌+◌, ◌*◌, ◌/◌, ◌%◌, ◌^◌, ◌<◌, ◌≤◌, List, ◌++◌, length, take, drop, sym, refl, ap, ◌∙◌, ap₂, append_assoc, arith, length-append, length-drop, drop-drop}
use lib.Seq.{take_at, drop_at, take-append-le, drop-append-le}
use Rattle.rfc1321.specs.Md5.{operated, chunks, hashed}
use Rattle.rfc1321.specs.declared.State.{State}
use Rattle.digest.specs.Stream.{Stream, rest, fed}

-- n chunks, and k more
pub chunks_add : (n k : ℕ) (q : State) (m : List ℕ) → chunks (n + k) q m ≡ chunks k (chunks n q m) (drop (n * 64) m)
unfolding chunks
chunks_add zero k q m = let e : 0 + k ≡ k = omega arith in rw e
chunks_add (suc n) k q m =
    let e : suc n + k ≡ suc (n + k) = omega arith in
    let d : suc n * 64 ≡ 64 + n * 64 = omega arith in
    rw (e, d, ← drop-drop (n * 64) 64 m) (chunks_add n k (operated q (take 64 m)) (drop 64 m))

-- what follows them does not matter to n chunks
pub chunks_front : (n : ℕ) (q : State) (x b : List ℕ) → n * 64 ≤ length x → chunks n q (x ++ b) ≡ chunks n q x
unfolding chunks
chunks_front zero q x b h = refl
chunks_front (suc n) q x b h =
    let k : 64 ≤ length x = omega arith in
    let l : n * 64 ≤ length (drop 64 x) = simp length-drop (omega arith) in
    rw (take-append-le 64 x b, drop-append-le 64 x b) (chunks_front n (operated q (take 64 x)) (drop 64 x) b l)

-- the first chunk, and all others; no whole chunk
pub hashed_turn : (q : State) (m : List ℕ) → 64 ≤ length m → hashed q m ≡ hashed (operated q (take 64 m)) (drop 64 m)
unfolding hashed chunks
hashed_turn q m h =
    let e : length m / 64 ≡ suc (length (drop 64 m) / 64) = rw length-drop (omega arith) in
    rw e

pub hashed_end : (q : State) (m : List ℕ) → length m < 64 → hashed q m ≡ q
unfolding hashed chunks
hashed_end q m h = let e : length m / 64 ≡ 0 = omega arith in rw e

-- the same as a loop has it over the chunks of a message, where s is what is left of it
pub chunk_turn : (q q' z : State) (s x r : List ℕ) → q' ≡ operated q x → s ≡ x ++ r → length x ≡ 64 → hashed q s ≡ z → hashed q' r ≡ z
chunk_turn q q' z s x r e c l h =
    let t : take 64 (x ++ r) ≡ x = take_at x r 64 l in
    let d : drop 64 (x ++ r) ≡ r = drop_at x r 64 l in
    rw e (rw (c, hashed_turn q (x ++ r) (simp length-append (omega arith)), t, d) at h)

pub chunk_end : (q z : State) (s : List ℕ) → length s < 64 → hashed q s ≡ z → q ≡ z
chunk_end q z s l h = sym (hashed_end q s l) ∙ h

module _ (x b : List ℕ) where
  count : length (x ++ b) / 64 ≡ length x / 64 + length (rest x ++ b) / 64
  unfolding rest
  count = rw (length-append, length-append, length-drop) (omega arith)

  front : length x / 64 * 64 ≤ length x
  front = omega arith

  behind : drop (length x / 64 * 64) (x ++ b) ≡ rest x ++ b
  unfolding rest
  behind = drop-append-le (length x / 64 * 64) x b front

  -- a message whose first bytes came before
  pub hashed_more : (q : State) → hashed (hashed q x) (rest x ++ b) ≡ hashed q (x ++ b)
  unfolding hashed
  hashed_more q =
      let n : ℕ = length x / 64 in
      let k : ℕ = length (rest x ++ b) / 64 in
      sym (ap (λ (y : ℕ). chunks y q (x ++ b)) count
      ∙ chunks_add n k q (x ++ b)
      ∙ ap₂ (λ (y : State) (z : List ℕ). chunks k y z) (chunks_front n q x b front) behind)

  pub rest_more : rest (rest x ++ b) ≡ rest (x ++ b)
  unfolding rest
  rest_more =
      let n : ℕ = length x / 64 in
      let k : ℕ = length (rest x ++ b) / 64 in
      let e : (n + k) * 64 ≡ n * 64 + k * 64 = omega arith in
      sym (ap (λ (y : ℕ). drop (y * 64) (x ++ b)) count
      ∙ ap (λ (y : ℕ). drop y (x ++ b)) e
      ∙ sym (drop-drop (k * 64) (n * 64) (x ++ b))
      ∙ ap (drop (k * 64)) behind)

-- a piece, and one more
pub fed_fed : (q : Stream) (a b : List ℕ) → fed (fed q a) b ≡ fed q (a ++ b)
unfolding fed
fed_fed q a b =
    let s : hashed (hashed q.state (q.waiting ++ a)) (rest (q.waiting ++ a) ++ b) ≡ hashed q.state (q.waiting ++ (a ++ b)) =
    hashed_more (q.waiting ++ a) b q.state ∙ ap (hashed q.state) (append_assoc q.waiting a b) in
    let w : rest (rest (q.waiting ++ a) ++ b) ≡ rest (q.waiting ++ (a ++ b)) = rest_more (q.waiting ++ a) b ∙ ap rest (append_assoc q.waiting a b) in
    let t : ((q.total + length a) % 2 ^ 64 + length b) % 2 ^ 64 ≡ (q.total + length (a ++ b)) % 2 ^ 64 = rw length-append (omega arith) in
    cc
