-- The walk over the bytes of the sizes: each tested, and their sum. Assumes nothing.
use mathlib.Core.Path.{◌≡◌, refl, sym, ap, ◌∙◌}
use mathlib.Core.Bool.{Bool, true, false, ◌&&◌, and-false, and-true as and-on}
use mathlib.Core.List.{List, [], ◌∷◌, map}
use Prim.Native.Nat.{ℕ, ◌+◌, ◌*◌, ◌%◌, ◌≤◌, ◌<◌}
use native.Mathlib.Omega.{arith}
use Rattle.std.proofs.Common.{◌⊎◌, inl, inr}
use lib.Dec.{leb}
use lib.ListN.{length, drop, get_or, length-map}
use mir.Syntax.{w32}
use mir.Val.{Fits}
use borrow.Author.Tests.{le-leb, lt-leb}
use Rattle.bsmp.specs.Base.{sum, every}
use Rattle.bsmp.specs.Board.{usable_size}
use Rattle.asking.specs.Learned.{size_rules, usable_sizes}
use Rattle.records.proofs.Walk.{Walked, walked_start, walked_next, walked_stop, walked_end, sum_next, sum_end}
use Rattle.rules.proofs.Checks.{all_off}

-- a size is the low seven bits of a byte
abbrev size_in : ℕ → ℕ
size_in b = b % 128

abbrev usable_byte : ℕ → Bool
usable_byte b = usable_size (size_in b)

each_in : (l : List ℕ) → every usable_size (map size_in l) ≡ every usable_byte l
each_in [] = refl
each_in (b ∷ l) = ap (usable_byte b &&◌) (each_in l)

-- at byte i: the sizes before it add up to s; f is a further test of each byte
pub record Sized (l : List ℕ) (f : ℕ → Bool) (s i : ℕ) : Type 0 where
  pub walked : Walked f l i
  pub usable : Walked usable_byte l i
  pub summed : s + sum (map size_in (drop i l)) ≡ sum (map size_in l)
  pub small : s ≤ 127 * i

module _ (l : List ℕ) (f : ℕ → Bool) where
  abbrev Tells : Bool → Type 0
  Tells r = r ≡ (every f l && usable_sizes (map (λ b. b % 128) l))

  unusable : usable_sizes (map size_in l) ≡ false → Tells false
  unusable h = rw h (sym (and-false (every f l)))

  sizes_few : length l < 1 → Tells false
  unfolding usable_sizes
  sizes_few h = unusable (rw (length-map l size_in, lt-leb 1 (length l) h))

  sizes_many : 64 < length l → Tells false
  unfolding usable_sizes
  sizes_many h = unusable (rw (length-map l size_in, lt-leb (length l) 64 h, and-false (leb 1 (length l))))

  pub sizes_out : (length l < 1) ⊎ ((1 ≤ length l) × (64 < length l)) → Tells false
  sizes_out o = elim o [ inl h ↦ sizes_few h | inr h ↦ sizes_many h.1 ]

  pub sized_start : Sized l f 0 0
  sized_start = record { walked = walked_start f l; usable = walked_start usable_byte l; summed = omega arith; small = omega arith }

  module _ (s i : ℕ) (h : i < length l) (q : Sized l f s i) where
    abbrev b : ℕ
    b = get_or l i 0

    sizes_over : f (get_or l i 0) ≡ false → Tells false
    sizes_over k = rw (walked_stop f l (length l) i b 0 false refl h refl (sym k) refl q.walked)

    sizes_none : get_or l i 0 % 128 < 1 → Tells false
    unfolding usable_sizes
    sizes_none k =
        let o : false ≡ usable_byte b = rw (lt-leb 1 (b % 128) k) in
        unusable (all_off (size_rules (map size_in l)) 1 (each_in l ∙ walked_stop usable_byte l (length l) i b 0 false refl h refl o refl q.usable))

    pub sized_fits : length l ≤ 64 → Fits w32 (s + get_or l i 0 % 128)
    sized_fits k = record { fits = omega (arith, q.small) }

    pub sized_next : f (get_or l i 0) ≡ true → 1 ≤ get_or l i 0 % 128 → Sized l f (s + get_or l i 0 % 128) (i + 1)
    sized_next k m =
        let o : b % 128 ≤ 127 = omega arith in
        record {
          walked = walked_next f l (length l) i b 0 true refl h refl (sym k) refl q.walked;
          usable = walked_next usable_byte l (length l) i b 0 true refl h refl (rw (le-leb 1 (b % 128) m, le-leb (b % 128) 127 o)) refl q.usable;
          summed = sum_next l (length l) i b 0 refl h refl size_in s _ _ refl q.summed;
          small = omega (arith, q.small);
        }

  pub sized_end : (s i : ℕ) → 1 ≤ length l → length l ≤ 64 → length l ≤ i → Sized l f s i → Tells (leb s 4096)
  unfolding usable_sizes
  sized_end s i a b h q =
      rw (walked_end f l (length l) i refl h q.walked, each_in l, walked_end usable_byte l (length l) i refl h q.usable, length-map l size_in, le-leb 1 (length l) a, le-leb (length l) 64 b, ← sum_end l (length l) i refl h size_in s _ q.summed)
      (sym (and-on (leb s 4096)))

-- a byte over the most, or of no size
pub sizes_unfit : (l : List ℕ) (m s i : ℕ) → i < length l → Sized l (λ b. leb b m) s i → (m < get_or l i 0) ⊎ ((get_or l i 0 ≤ m) × (get_or l i 0 % 128 < 1))
    → false ≡ (every (λ b. leb b m) l && usable_sizes (map (λ b. b % 128) l))
sizes_unfit l m s i h q o =
    elim o [ inl k ↦ sizes_over l (λ b. leb b m) s i h q (lt-leb (get_or l i 0) m k) | inr k ↦ sizes_none l (λ b. leb b m) s i h q k.1 ]
