-- The records of a node's lists, and the values that it tells, are read as they were written. Assumes nothing.
use mathlib.Core.Path.{◌≡◌, refl, sym, ap, ap₂, ◌∙◌}
use mathlib.Core.Bool.{Bool, true, false, ◌&&◌}
use mathlib.Core.List.{List, [], ◌∷◌, ◌++◌, map}
use Prim.Native.Nat.{ℕ, zero, suc, ◌+◌, ◌*◌, ◌/◌, ◌%◌, ◌≤◌, ◌<◌}
use native.Mathlib.Omega.{arith}
use native.Mathlib.Decide.{ℕ_discrete}
use lib.Dec.{leb}
use lib.ListN.{length}
use borrow.Author.Tests.{eq-eqb, ne_eqb, le-leb, lt-leb, leb-true}
use Rattle.bsmp.specs.Base.{every, cut, join, within, bit}
use Rattle.bsmp.specs.Board.{Table, layout, State, value_of, size_of, is_writable, is_type, usable_curve}
use Rattle.bsmp.specs.Message.{listed, curve_record, values_of}
use Rattle.bsmp.specs.declared.VariableNumber.{VariableNumber}
use Rattle.bsmp.specs.declared.Curve.{Curve}
use Rattle.bsmp.specs.declared.Function.{Function}
use Rattle.bsmp.proofs.Bools.{and_true, inside}
use Rattle.bsmp.proofs.Lists.{map_map}
use Rattle.bsmp.proofs.Store.{cut_join}
use Rattle.bsmp.proofs.Usable.{Usable}
use Rattle.bsmp.proofs.Stays.{value_length}
use Rattle.asking.specs.Learned.{slot, slot_of, blocks_of, curves_from, functions_from}
use Rattle.asking.specs.Reply.{value, paired}
use Rattle.asking.proofs.Lists.{map_same}

-- 03 and 05: a byte
pub slot_read : (w : Bool) (n : ℕ) → n < 128 → slot_of (listed w n) ≡ slot w n
slot_read true n h =
    let e : (128 + n) % 128 ≡ n = omega arith in ap₂ slot (le-leb 128 (128 + n) (omega arith)) e
slot_read false n h =
    let e : (0 + n) % 128 ≡ n = omega arith in ap₂ slot (lt-leb 128 (0 + n) (omega arith)) e

-- 09: five bytes
pub bit_type : (w : ℕ) → is_type w ≡ true → bit (is_writable w) ≡ w
bit_type zero h = refl
bit_type (suc zero) h = refl
bit_type (suc (suc w)) h = let e : suc (suc w) ≤ 1 = leb-true _ _ h in absurd (omega arith)

blocks_read : (n : ℕ) → 1 ≤ n → n ≤ 65536 → blocks_of (n / 256 % 256 * 256 + n % 256) ≡ n
blocks_read n a b = by (n / 256 % 256 * 256 + n % 256) refl (ℕ_discrete n 65536)
  where
    by : (m : ℕ) → n / 256 % 256 * 256 + n % 256 ≡ m → Dec (n ≡ 65536) → blocks_of m ≡ n
    by m e (yes q) = let z : m ≡ 0 = omega arith in rw (eq-eqb m 0 z) (omega arith)
    by m e (no q) = let z : m ≡ n = omega arith in rw (ne_eqb m 0 (λ u. q (absurd (omega arith)))) z

curve_read : (c : Curve) → usable_curve c ≡ true → (p : List ℕ) → curves_from (curve_record c ++ p) ≡ c ∷ curves_from p
curve_read c h p =
    let a = and_true _ (within 1 65536 c.blocks) h in
    let b = and_true (is_type c.writable) (within 1 4096 c.size) a.0 in
    let s = inside 1 4096 c.size b.1 in
    let n = inside 1 65536 c.blocks a.1 in
    let z : c.size / 256 % 256 * 256 + c.size % 256 ≡ c.size = omega arith in
    ap (◌∷ curves_from p)
    (ap₂ (λ w s. record { writable = w; size = s; blocks = blocks_of (c.blocks / 256 % 256 * 256 + c.blocks % 256) }) (bit_type c.writable b.0) z
    ∙ ap (λ n. record { writable = c.writable; size = c.size; blocks = n }) (blocks_read c.blocks n.0 n.1))

pub curves_read : (cs : List Curve) → every usable_curve cs ≡ true → curves_from (join (map curve_record cs)) ≡ cs
curves_read [] h = refl
curves_read (c ∷ cs) h =
    let w : (usable_curve c ≡ true) × (every usable_curve cs ≡ true) = and_true _ _ h in
    curve_read c w.0 (join (map curve_record cs)) ∙ ap (c ∷◌) (curves_read cs w.1)

-- 0D: a byte
function_read : (f : Function) → (leb f.input 15 && leb f.output 15) ≡ true
    → record { input = (f.input * 16 + f.output) / 16; output = (f.input * 16 + f.output) % 16 } ≡ f
function_read f h =
    let w : (leb f.input 15 ≡ true) × (leb f.output 15 ≡ true) = and_true _ _ h in
    let i = leb-true f.input 15 w.0 in
    let o = leb-true f.output 15 w.1 in
    let a : (f.input * 16 + f.output) / 16 ≡ f.input = omega arith in
    let b : (f.input * 16 + f.output) % 16 ≡ f.output = omega arith in
    ap₂ (λ x y. record { input = x; output = y }) a b

pub functions_read : (fs : List Function) → every (λ f. leb f.input 15 && leb f.output 15) fs ≡ true
    → functions_from (map (λ f. f.input * 16 + f.output) fs) ≡ fs
functions_read [] h = refl
functions_read (f ∷ fs) h =
    let w = and_true (leb f.input 15 && leb f.output 15) _ h in
    ap₂ ◌∷◌ (function_read f w.0) (functions_read fs w.1)

-- 11 and 13: each variable with its own part
paired_map : (is : List VariableNumber) (f : VariableNumber → List ℕ) → paired is (map f is) ≡ map (λ i. value i (f i)) is
paired_map [] f = refl
paired_map (i ∷ is) f = ap (value i (f i) ∷◌) (paired_map is f)

pub values_read : (t : Table) (s : State) → Usable t s → (is : List VariableNumber)
    → paired is (cut (map (size_of (layout t)) is) (values_of s.values is)) ≡ map (λ i. value i (value_of s i)) is
unfolding values_of
values_read t s u is =
    ap (λ ns. paired is (cut ns (join (map (value_of s) is))))
    (map_same (size_of (layout t)) (λ i. length (value_of s i)) is (λ i. sym (value_length t s u i)) ∙ sym (map_map (value_of s) length is))
    ∙ ap (paired is) (cut_join (map (value_of s) is)) ∙ paired_map is (value_of s)
