-- What every digest has: 16 bytes, from words that stay below 2 ^ 32, of a padded message of whole chunks. Assumes nothing.
use Rattle.std.proofs.Common.{◌≡◌, ℕ, zero, suc, ◌+◌, ◌%◌, ◌^◌, ◌<◌, ◌≤◌, List, [], ◌∷◌, ◌++◌, length, get_or, take, drop, refl, arith, length-append}
use lib.ListN.{length-replicate}
use Rattle.rfc1321.specs.Md5.{bytes, padding, length_bytes, padded, initial, added, operated, chunks, hashed, output, digest}
use Rattle.rfc1321.specs.declared.State.{State}
use Rattle.rfc1321.proofs.Words.{sum_below}

pub length_digest : (m : List ℕ) → length (digest m) ≡ 16
unfolding digest output bytes
length_digest m = refl

-- every byte is below 256
bytes_below : (w i : ℕ) → get_or (bytes w) i 0 < 256
unfolding bytes
bytes_below w zero = omega arith
bytes_below w (suc zero) = omega arith
bytes_below w (suc (suc zero)) = omega arith
bytes_below w (suc (suc (suc zero))) = omega arith
bytes_below w (suc (suc (suc (suc i)))) = omega arith

both_below : (x y : List ℕ) → ((i : ℕ) → get_or x i 0 < 256) → ((i : ℕ) → get_or y i 0 < 256) → (i : ℕ) → get_or (x ++ y) i 0 < 256
both_below [] y h k i = k i
both_below (b ∷ x) y h k zero = h zero
both_below (b ∷ x) y h k (suc i) = both_below x y (λ j. h (suc j)) k i

pub digest_below : (m : List ℕ) (i : ℕ) → get_or (digest m) i 0 < 256
unfolding digest output
digest_below m =
    let q : State = hashed initial (padded m) in
    both_below (bytes q.a) _ (bytes_below q.a)
    (both_below (bytes q.b) _ (bytes_below q.b) (both_below (bytes q.c) _ (bytes_below q.c) (bytes_below q.d)))

-- a state of words
pub record Words (q : State) : Type 0 where
  pub a : q.a < 2 ^ 32
  pub b : q.b < 2 ^ 32
  pub c : q.c < 2 ^ 32
  pub d : q.d < 2 ^ 32

pub operated_words : (q : State) (x : List ℕ) → Words (operated q x)
unfolding operated added
operated_words q x = record { a = sum_below _ _; b = sum_below _ _; c = sum_below _ _; d = sum_below _ _ }

pub chunks_words : (n : ℕ) (q : State) (m : List ℕ) → Words q → Words (chunks n q m)
unfolding chunks
chunks_words zero q m h = h
chunks_words (suc n) q m h = chunks_words n (operated q (take 64 m)) (drop 64 m) (operated_words q (take 64 m))

-- "becomes congruent to 448, modulo 512", in bytes; "at least one bit and at most 512 bits are appended"
pub padding_ends : (n : ℕ) → (n + length (padding n)) % 64 ≡ 56
unfolding padding
padding_ends n = simp length-replicate (omega arith)

pub padding_long : (n : ℕ) → length (padding n) ≤ 64
unfolding padding
padding_long n = simp length-replicate (omega arith)

-- "a length that is an exact multiple of 512 bits": no byte of it is in no chunk
pub padded_whole : (m : List ℕ) → length (padded m) % 64 ≡ 0
unfolding padded length_bytes bytes
padded_whole m = simp length-append (omega (arith, padding_ends (length m)))
