-- The padding and the length as the last two pieces: then it is the digest. Assumes nothing.
use Rattle.std.proofs.Common.{◌≡◌, ℕ, suc, ◌+◌, ◌-◌, ◌*◌, ◌/◌, ◌%◌, ◌^◌, List, [], ◌∷◌, ◌++◌, length, take, replicate, sym, ap, ◌∙◌, ap₂, add-zero, zero-add, arith, take_at, mod-lt, pow-add, pow_pos}
use Rattle.std.specs.Int.{w64, to_le_bytes}
use native.Mathlib.Nat.{div-div-eq-div-mul}
use lib.ListN.{length-replicate, replicate-append-replicate}
use lib.Pow.{high, mod-pow-add, mod-mod-pow}
use Rattle.rfc1321.specs.Md5.{bytes, padding, length_bytes, padded, output, digest}
use Rattle.digest.specs.Stream.{Stream, held, begun, fed, closed}
use Rattle.digest.specs.declared.Progress.{Progress}
use Rattle.digest.proofs.Chunks.{fed_fed}

-- the padding, as the code cuts it from 64 bytes
first_of : (k n x : ℕ) → take k (replicate (k + n) x) ≡ replicate k x
first_of k n x = ap (take k) (sym (replicate-append-replicate k n x)) ∙ take_at (replicate k x) (replicate n x) k (length-replicate k x)

pub padding_part : (n : ℕ) → take (1 + (119 - n % 64) % 64) (0x80 ∷ replicate 63 0) ≡ padding n
unfolding padding
padding_part n =
    let k : ℕ = (119 - n % 64) % 64 in
    let e : 1 + (119 - n % 64) % 64 ≡ suc k = omega arith in
    let z : 63 ≡ k + (63 - k) = omega arith in
    ap (λ (x : ℕ). take x (0x80 ∷ replicate 63 0)) e ∙ ap (λ (l : List ℕ). 0x80 ∷ l) (ap (λ (x : ℕ). take k (replicate {A = ℕ} x 0)) z ∙ first_of k (63 - k) 0)

-- the length in bits, as the code works it out with no number over 2 ^ 64
high_word : (n : ℕ) → n / 0x20000000 ≡ 8 * n / 2 ^ 32
high_word n = omega arith

-- a number without its high bits, and then without its low ones: a byte of it
cut : (n j k : ℕ) → n % 2 ^ (j + k) / 2 ^ k ≡ n / 2 ^ k % 2 ^ j
cut n j k = ap (λ (x : ℕ). x / 2 ^ k) (mod-pow-add n j k) ∙ high (n / 2 ^ k % 2 ^ j) k (mod-lt n (pow_pos k))

byte_of : (n j k : ℕ) → n % 2 ^ (j + 8 + k) / 2 ^ k % 2 ^ 8 ≡ n / 2 ^ k % 2 ^ 8
byte_of n j k = ap (λ (x : ℕ). x % 2 ^ 8) (cut n (j + 8) k) ∙ mod-mod-pow (n / 2 ^ k) j 8

-- one of the first four, and one of the last
first_four : (n j k : ℕ) → n % 2 ^ (32 + j + 8 + k) / 2 ^ k % 2 ^ 8 ≡ n % 2 ^ (j + 8 + k) / 2 ^ k % 2 ^ 8
first_four n j k = byte_of n (32 + j) k ∙ sym (byte_of n j k)

last_four : (n j k : ℕ) → n % 2 ^ (j + 8 + (32 + k)) / 2 ^ (32 + k) % 2 ^ 8 ≡ n / 2 ^ 32 % 2 ^ (j + 8 + k) / 2 ^ k % 2 ^ 8
last_four n j k =
    byte_of n j (32 + k)
    ∙ ap (λ (x : ℕ). n / x % 2 ^ 8) (pow-add 2 32 k)
    ∙ ap (λ (x : ℕ). x % 2 ^ 8) (sym (div-div-eq-div-mul n (2 ^ 32) (2 ^ k)))
    ∙ sym (byte_of (n / 2 ^ 32) j k)

pub length_made : (n : ℕ) → to_le_bytes w64 (n * 8 % 2 ^ 64) ≡ length_bytes (8 * n)
unfolding length_bytes bytes
length_made n =
    let b : ℕ = 8 * n in
    let m : n * 8 ≡ 8 * n = omega arith in
    let zeroth : b % 2 ^ 64 % 2 ^ 8 ≡ b % 2 ^ 32 % 2 ^ 8 = mod-mod-pow b 56 8 ∙ sym (mod-mod-pow b 24 8) in
    let fourth : b % 2 ^ 64 / 2 ^ 32 % 2 ^ 8 ≡ b / 2 ^ 32 % 2 ^ 32 % 2 ^ 8 = ap (λ (x : ℕ). x % 2 ^ 8) (cut b 32 32) in
    rw (m, zeroth, first_four b 16 8, first_four b 8 16, first_four b 0 24, fourth, last_four b 16 8, last_four b 8 16, last_four b 0 24)

-- `finish`: the padding v, then the length w
pub closing : (v w r : List ℕ) (p p₁ p₂ : Progress) → r ≡ output p₂.state → held p₂ ≡ fed (held p₁) w → w ≡ length_bytes (8 * p.total)
    → held p₁ ≡ fed (held p) v → v ≡ padding p.total → r ≡ closed (held p)
unfolding closed
closing v w r p p₁ p₂ e₁ e₂ e₃ e₄ e₅ =
    e₁
    ∙ ap (λ (x : Stream). output x.state) e₂
    ∙ ap₂ (λ (x : Stream) (y : List ℕ). output (fed x y).state) (e₄ ∙ ap (fed (held p)) e₅) e₃

-- what follows n bytes, as one piece
abbrev ending : ℕ → List ℕ
ending n = padding n ++ length_bytes (8 * n)

closed_is : (q : Stream) → closed q ≡ output (fed q (ending q.total)).state
unfolding closed
closed_is q = ap (λ (x : Stream). output x.state) (fed_fed q (padding q.total) (length_bytes (8 * q.total)))

-- a count modulo 2 ^ 64 does as well as the count
ending_count : (n : ℕ) → ending (n % 2 ^ 64) ≡ ending n
unfolding padding length_bytes
ending_count n =
    let e : n % 2 ^ 64 % 64 ≡ n % 64 = omega arith in
    let l : 8 * (n % 2 ^ 64) % 2 ^ 32 ≡ 8 * n % 2 ^ 32 = omega arith in
    let s : n / 0x20000000 ≡ n % 2 ^ 64 / 0x20000000 + 0x800000000 * (n / 2 ^ 64) = omega arith in
    let f : (n % 2 ^ 64 / 0x20000000 + 0x800000000 * (n / 2 ^ 64)) % 2 ^ 32 ≡ n % 2 ^ 64 / 0x20000000 % 2 ^ 32 = omega arith in
    let h : 8 * (n % 2 ^ 64) / 2 ^ 32 % 2 ^ 32 ≡ 8 * n / 2 ^ 32 % 2 ^ 32 =
    ap (λ (x : ℕ). x % 2 ^ 32) (sym (high_word (n % 2 ^ 64))) ∙ sym f ∙ ap (λ (x : ℕ). x % 2 ^ 32) (sym s ∙ high_word n) in
    rw (e, l, h)

closed_fed : (q : Stream) (m : List ℕ) → closed (fed q m) ≡ output (fed q (m ++ ending (q.total + length m))).state
unfolding fed
closed_fed q m =
    let n : ℕ = q.total + length m in
    closed_is (fed q m)
    ∙ ap (λ (x : List ℕ). output (fed (fed q m) x).state) (ending_count n)
    ∙ ap (λ (x : Stream). output x.state) (fed_fed q m (ending n))

pub closed_nil : (q : Stream) → closed (fed q []) ≡ closed q
closed_nil q = closed_fed q [] ∙ ap (λ (n : ℕ). output (fed q (ending n)).state) (add-zero q.total) ∙ sym (closed_is q)

-- a whole message that was fed is its digest
pub closed_digest : (m : List ℕ) → closed (fed begun m) ≡ digest m
unfolding digest padded fed
closed_digest m = closed_fed begun m ∙ ap (λ (n : ℕ). output (fed begun (m ++ ending n)).state) (zero-add (length m))
