-- What the tests of the lists come to. Assumes nothing.
use mathlib.Core.Path.{◌≡◌, refl, sym, ◌∙◌}
use mathlib.Core.Bool.{Bool, true, false, ◌&&◌}
use mathlib.Core.List.{List, [], ◌∷◌, map}
use Prim.Native.Nat.{ℕ, suc, ◌*◌, ◌/◌, ◌%◌, ◌≤◌, ◌<◌}
use native.Mathlib.Omega.{arith}
use lib.Dec.{leb, eqb}
use lib.ListN.{length, get_or, length-map}
use borrow.Author.Tests.{le-leb, lt-leb, eqb-true}
use mir.Syntax.{w8}
use mir.Val.{Fits}
pub use Rattle.std.proofs.lemmas.Grind.{common_steps}
use Rattle.bsmp.specs.Base.{every}
use Rattle.bsmp.specs.Board.{usable_curves, usable_functions}
use Rattle.bsmp.proofs.Bools.{and_true}
use Rattle.asking.specs.Learned.{usable_sizes, curves_from, functions_from}

-- the list of variables: bytes are no more than 255
pub bytes_low : (p : List ℕ) → ((i : ℕ) → Fits w8 (get_or p i 0)) → every (λ b. leb b 255) p ≡ true
bytes_low [] h = refl
bytes_low (b ∷ p) h = rw (le-leb b 255 (omega (arith, h 0))) (bytes_low p (λ i. h (suc i)))

pub sizes_off : (p : List ℕ) (r : Bool) → ((i : ℕ) → Fits w8 (get_or p i 0)) → r ≡ (every (λ b. leb b 255) p && usable_sizes (map (λ b. b % 128) p)) → r ≡ false
    → usable_sizes (map (λ b. b % 128) p) ≡ false
sizes_off p r h e k = sym (rw (bytes_low p h) at e) ∙ k

-- the list of functions: four bits hold no more than 15
four_bits : (p : List ℕ) → ((i : ℕ) → Fits w8 (get_or p i 0)) → every (λ f. leb f.input 15 && leb f.output 15) (functions_from p) ≡ true
four_bits [] h = refl
four_bits (b ∷ p) h =
    let x : b / 16 ≤ 15 = omega (arith, h 0) in
    let y : b % 16 ≤ 15 = omega arith in
    rw (le-leb (b / 16) 15 x, le-leb (b % 16) 15 y) (four_bits p (λ i. h (suc i)))

pub functions_fit : (p : List ℕ) → ((i : ℕ) → Fits w8 (get_or p i 0)) → length p ≤ 16 → usable_functions (functions_from p) ≡ true
unfolding usable_functions
functions_fit p h l = rw (length-map, le-leb (length p) 16 l, four_bits p h)

pub functions_many : (p : List ℕ) → 16 < length p → usable_functions (functions_from p) ≡ false
unfolding usable_functions
functions_many p l = rw (length-map, lt-leb (length p) 16 l)

-- the list of curves: how many they are
pub curves_whole : (p : List ℕ) → (eqb (5 * length (curves_from p)) (length p) && usable_curves (curves_from p)) ≡ true → length (curves_from p) ≡ length p / 5
curves_whole p h =
    let l : 5 * length (curves_from p) ≡ length p = eqb-true _ _ (and_true (eqb (5 * length (curves_from p)) (length p)) _ h).0 in
    omega arith

pub ruleset listed = (bytes_low, functions_fit, functions_many, curves_whole, common_steps)
