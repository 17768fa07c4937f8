-- MD5, to be read beside RFC 1321: its sections 2 and 3 in their order, with its words in quotes. Assumes nothing.
use Rattle.std.specs.Prelude.{ℕ, zero, suc, ◌+◌, ◌-◌, ◌*◌, ◌/◌, ◌%◌, ◌^◌, List, [], ◌∷◌, ◌++◌, length, take, drop, replicate, bit_and, bit_or, bit_xor, slice_index}
use Rattle.rfc1321.specs.declared.State.{State}

-- 2. Terminology and Notation. "a "word" is a 32-bit quantity and a "byte" is an eight-bit quantity": a number below 2 ^ 32, and one below 256. A
-- message is a list of bytes; the RFC's may also end within a byte. Its "X v Y", "X xor Y" and "XY" are bitOr x y, bitXor x y and bitAnd x y.

-- "a sequence of bytes can be interpreted as a sequence of 32-bit words, where each consecutive group of four bytes is interpreted as a word
-- with the low-order (least significant) byte given first": word k of x, from 0 on, and the bytes of a word
unfoldable pub word : List ℕ → ℕ → ℕ
word x k = slice_index x (4 * k) + 2 ^ 8 * slice_index x (4 * k + 1) + 2 ^ 16 * slice_index x (4 * k + 2) + 2 ^ 24 * slice_index x (4 * k + 3)

unfoldable pub bytes : ℕ → List ℕ
bytes w = w % 256 ∷ w / 2 ^ 8 % 256 ∷ w / 2 ^ 16 % 256 ∷ w / 2 ^ 24 % 256 ∷ []

-- "Let the symbol "+" denote addition of words (i.e., modulo-2^32 addition)": ⊞ here, since + adds numbers
infixl 65 ◌⊞◌
unfoldable pub ◌⊞◌ : ℕ → ℕ → ℕ
x ⊞ y = (x + y) % 2 ^ 32

-- "Let X <<< s denote the 32-bit value obtained by circularly shifting (rotating) X left by s bit positions"
infixl 60 ◌<<<◌
unfoldable pub ◌<<<◌ : ℕ → ℕ → ℕ
x <<< s = bit_or (x * 2 ^ s % 2 ^ 32) (x / 2 ^ (32 - s))

-- "Let not(X) denote the bit-wise complement of X"
unfoldable pub not : ℕ → ℕ
not x = 2 ^ 32 - 1 - x

-- 3.1 Step 1. Append Padding Bits. "a single "1" bit is appended to the message, and then "0" bits are appended so that the length in bits of the
-- padded message becomes congruent to 448, modulo 512": after n bytes. A byte's high-order bit is its first, and 448 bits of 512 are 56 bytes of 64.
unfoldable pub padding : ℕ → List ℕ
padding n = 0x80 ∷ replicate ((64 + 55 - n % 64) % 64) 0

-- 3.2 Step 2. Append Length. "A 64-bit representation of b (the length of the message before the padding bits were added) is appended .. only the
-- low-order 64 bits of b are used. (These bits are appended as two 32-bit words and appended low-order word first ..)"
unfoldable pub length_bytes : ℕ → List ℕ
length_bytes b = bytes (b % 2 ^ 32) ++ bytes (b / 2 ^ 32 % 2 ^ 32)

-- the length is in bits: eight times the number of bytes
unfoldable pub padded : List ℕ → List ℕ
padded m = m ++ (padding (length m) ++ length_bytes (8 * length m))

-- 3.3 Step 3. Initialize MD Buffer. "A four-word buffer (A,B,C,D) .. initialized to the following values in hexadecimal, low-order bytes first"
unfoldable pub initial : State
initial =
    record {
      a = word (0x01 ∷ 0x23 ∷ 0x45 ∷ 0x67 ∷ []) 0;
      b = word (0x89 ∷ 0xab ∷ 0xcd ∷ 0xef ∷ []) 0;
      c = word (0xfe ∷ 0xdc ∷ 0xba ∷ 0x98 ∷ []) 0;
      d = word (0x76 ∷ 0x54 ∷ 0x32 ∷ 0x10 ∷ []) 0;
    }

-- 3.4 Step 4. Process Message in 16-Word Blocks. "We first define four auxiliary functions that each take as input three 32-bit words and
-- produce as output one 32-bit word": "F(X,Y,Z) = XY v not(X) Z"
unfoldable pub F : ℕ → ℕ → ℕ → ℕ
F x y z = bit_or (bit_and x y) (bit_and (not x) z)

-- "G(X,Y,Z) = XZ v Y not(Z)"
unfoldable pub G : ℕ → ℕ → ℕ → ℕ
G x y z = bit_or (bit_and x z) (bit_and y (not z))

-- "H(X,Y,Z) = X xor Y xor Z"
unfoldable pub H : ℕ → ℕ → ℕ → ℕ
H x y z = bit_xor (bit_xor x y) z

-- "I(X,Y,Z) = Y xor (X v not(Z))"
unfoldable pub I : ℕ → ℕ → ℕ → ℕ
I x y z = bit_xor y (bit_or x (not z))

-- "a 64-element table T[1 ... 64] constructed from the sine function. Let T[i] denote the i-th element of the table, which is equal to the integer
-- part of 4294967296 times abs(sin(i)), where i is in radians. The elements of the table are given in the appendix."
unfoldable pub table : List ℕ
table =
    0xd76aa478 ∷ 0xe8c7b756 ∷ 0x242070db ∷ 0xc1bdceee ∷ 0xf57c0faf ∷ 0x4787c62a ∷ 0xa8304613 ∷ 0xfd469501 ∷
    0x698098d8 ∷ 0x8b44f7af ∷ 0xffff5bb1 ∷ 0x895cd7be ∷ 0x6b901122 ∷ 0xfd987193 ∷ 0xa679438e ∷ 0x49b40821 ∷
    0xf61e2562 ∷ 0xc040b340 ∷ 0x265e5a51 ∷ 0xe9b6c7aa ∷ 0xd62f105d ∷ 0x02441453 ∷ 0xd8a1e681 ∷ 0xe7d3fbc8 ∷
    0x21e1cde6 ∷ 0xc33707d6 ∷ 0xf4d50d87 ∷ 0x455a14ed ∷ 0xa9e3e905 ∷ 0xfcefa3f8 ∷ 0x676f02d9 ∷ 0x8d2a4c8a ∷
    0xfffa3942 ∷ 0x8771f681 ∷ 0x6d9d6122 ∷ 0xfde5380c ∷ 0xa4beea44 ∷ 0x4bdecfa9 ∷ 0xf6bb4b60 ∷ 0xbebfbc70 ∷
    0x289b7ec6 ∷ 0xeaa127fa ∷ 0xd4ef3085 ∷ 0x04881d05 ∷ 0xd9d4d039 ∷ 0xe6db99e5 ∷ 0x1fa27cf8 ∷ 0xc4ac5665 ∷
    0xf4292244 ∷ 0x432aff97 ∷ 0xab9423a7 ∷ 0xfc93a039 ∷ 0x655b59c3 ∷ 0x8f0ccc92 ∷ 0xffeff47d ∷ 0x85845dd1 ∷
    0x6fa87e4f ∷ 0xfe2ce6e0 ∷ 0xa3014314 ∷ 0x4e0811a1 ∷ 0xf7537e82 ∷ 0xbd3af235 ∷ 0x2ad7d2bb ∷ 0xeb86d391 ∷ []

-- the RFC numbers the elements from 1, and a list is numbered from 0
abbrev pub T : ℕ → ℕ
T i = slice_index table (i - 1)

-- "Let [abcd k s i] denote the operation a = b + ((a + F(b,c,d) + X[k] + T[i]) <<< s)": f is F, G, H or I, and x the block. The RFC's operations are
-- [ABCD k s i], [DABC k s i], [CDAB k s i], [BCDA k s i] and so on: each hands the four on in the order in which the next one names them.
unfoldable pub operation : (ℕ → ℕ → ℕ → ℕ) → List ℕ → ℕ × ℕ × ℕ → State → State
operation f x (k, s, i) q = record { a = q.d; b = q.b ⊞ ((q.a ⊞ f q.b q.c q.d ⊞ word x k ⊞ T i) <<< s); c = q.b; d = q.c }

unfoldable pub operations : (ℕ → ℕ → ℕ → ℕ) → List ℕ → List (ℕ × ℕ × ℕ) → State → State
operations f x [] q = q
operations f x (o ∷ os) q = operations f x os (operation f x o q)

-- "Do the following 16 operations": k, s and i of each, as the RFC prints them
unfoldable pub round1 : List (ℕ × ℕ × ℕ)
round1 =
    (0, 7, 1) ∷ (1, 12, 2) ∷ (2, 17, 3) ∷ (3, 22, 4) ∷
    (4, 7, 5) ∷ (5, 12, 6) ∷ (6, 17, 7) ∷ (7, 22, 8) ∷
    (8, 7, 9) ∷ (9, 12, 10) ∷ (10, 17, 11) ∷ (11, 22, 12) ∷
    (12, 7, 13) ∷ (13, 12, 14) ∷ (14, 17, 15) ∷ (15, 22, 16) ∷ []

unfoldable pub round2 : List (ℕ × ℕ × ℕ)
round2 =
    (1, 5, 17) ∷ (6, 9, 18) ∷ (11, 14, 19) ∷ (0, 20, 20) ∷
    (5, 5, 21) ∷ (10, 9, 22) ∷ (15, 14, 23) ∷ (4, 20, 24) ∷
    (9, 5, 25) ∷ (14, 9, 26) ∷ (3, 14, 27) ∷ (8, 20, 28) ∷
    (13, 5, 29) ∷ (2, 9, 30) ∷ (7, 14, 31) ∷ (12, 20, 32) ∷ []

unfoldable pub round3 : List (ℕ × ℕ × ℕ)
round3 =
    (5, 4, 33) ∷ (8, 11, 34) ∷ (11, 16, 35) ∷ (14, 23, 36) ∷
    (1, 4, 37) ∷ (4, 11, 38) ∷ (7, 16, 39) ∷ (10, 23, 40) ∷
    (13, 4, 41) ∷ (0, 11, 42) ∷ (3, 16, 43) ∷ (6, 23, 44) ∷
    (9, 4, 45) ∷ (12, 11, 46) ∷ (15, 16, 47) ∷ (2, 23, 48) ∷ []

unfoldable pub round4 : List (ℕ × ℕ × ℕ)
round4 =
    (0, 6, 49) ∷ (7, 10, 50) ∷ (14, 15, 51) ∷ (5, 21, 52) ∷
    (12, 6, 53) ∷ (3, 10, 54) ∷ (10, 15, 55) ∷ (1, 21, 56) ∷
    (8, 6, 57) ∷ (15, 10, 58) ∷ (6, 15, 59) ∷ (13, 21, 60) ∷
    (4, 6, 61) ∷ (11, 10, 62) ∷ (2, 15, 63) ∷ (9, 21, 64) ∷ []

-- "increment each of the four registers by the value it had before this block was started": "A = A + AA" and so on, p having AA to DD
unfoldable pub added : State → State → State
added p q = record { a = q.a ⊞ p.a; b = q.b ⊞ p.b; c = q.c ⊞ p.c; d = q.d ⊞ p.d }

-- "Process each 16-word block": one of them, which is a chunk of 64 bytes; n of them in turn; and all that are whole
unfoldable pub operated : State → List ℕ → State
operated q x = added q (operations I x round4 (operations H x round3 (operations G x round2 (operations F x round1 q))))

unfoldable pub chunks : ℕ → State → List ℕ → State
chunks zero q m = q
chunks (suc n) q m = chunks n (operated q (take 64 m)) (drop 64 m)

unfoldable pub hashed : State → List ℕ → State
hashed q m = chunks (length m / 64) q m

-- 3.5 Step 5. Output. "The message digest produced as output is A, B, C, D. That is, we begin with the low-order byte of A, and end with the
-- high-order byte of D."
unfoldable pub output : State → List ℕ
output q = bytes q.a ++ (bytes q.b ++ (bytes q.c ++ bytes q.d))

unfoldable pub digest : List ℕ → List ℕ
digest m = output (hashed initial (padded m))
