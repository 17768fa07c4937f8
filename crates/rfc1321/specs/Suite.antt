-- RFC 1321's test suite (appendix A.5): seven messages with their digests; proofs/Suite has the one statement over them. Assumes nothing.
use Rattle.std.specs.Prelude.{ℕ, zero, suc, ◌/◌, ◌%◌, List, [], ◌∷◌, ◌++◌}

-- n bytes as they are printed
abbrev pub hex : ℕ → ℕ → List ℕ
hex zero x = []
hex (suc n) x = hex n (x / 256) ++ (x % 256 ∷ [])

-- n characters from x on: 0x30 is 0, 0x41 is A, 0x61 is a
abbrev pub up_from : ℕ → ℕ → List ℕ
up_from x zero = []
up_from x (suc n) = x ∷ up_from (suc x) n

abbrev pub times : ℕ → List ℕ → List ℕ
times zero m = []
times (suc n) m = m ++ times n m

-- "", "a", "abc", "message digest", a to z, A to Z with a to z and 0 to 9, and eight times 1234567890
abbrev pub rows : List (List ℕ × List ℕ)
rows =
    ([], hex 16 0xd41d8cd98f00b204e9800998ecf8427e)
    ∷ (hex 1 0x61, hex 16 0x0cc175b9c0f1b6a831c399e269772661)
    ∷ (hex 3 0x616263, hex 16 0x900150983cd24fb0d6963f7d28e17f72)
    ∷ (hex 14 0x6d65737361676520646967657374, hex 16 0xf96b697d7cb7938d525a2f31aaf161d0)
    ∷ (up_from 0x61 26, hex 16 0xc3fcd3d76192e4007dfb496cca67e13b)
    ∷ (up_from 0x41 26 ++ (up_from 0x61 26 ++ up_from 0x30 10), hex 16 0xd174ab98d277d9f5a5611c2c9f419d9f)
    ∷ (times 8 (hex 10 0x31323334353637383930), hex 16 0x57edf4a22be3c955ac49da2e2107b67a)
    ∷ []
