-- A board: what it declares, what it holds, and which boards 01 takes. Assumes nothing.
use Rattle.std.specs.Prelude.{Bool, true, false, cond, not, ◌&&◌, List, [], ◌∷◌, map, ℕ, ◌+◌, ◌-◌, ◌*◌, ◌^◌, leb, ltb, eqb, length, take, get_or, replicate}
use Rattle.rfc1321.specs.Md5.{digest}
use Rattle.bsmp.specs.Base.{sum, up_from, all, every, some, only, join, same, within, has, marks_of, Test, test}
use Rattle.bsmp.specs.Codes.{kind_of}
use Rattle.bsmp.specs.declared.VariableNumber.{VariableNumber}
use Rattle.bsmp.specs.declared.GroupNumber.{GroupNumber}
use Rattle.bsmp.specs.declared.CurveNumber.{CurveNumber}
use Rattle.bsmp.specs.declared.FunctionNumber.{FunctionNumber}
use Rattle.bsmp.specs.declared.Variable.{Variable}
use Rattle.bsmp.specs.declared.Curve.{Curve}
use Rattle.bsmp.specs.declared.Function.{Function}
use Rattle.bsmp.specs.declared.Kind.{Kind}
use Rattle.bsmp.specs.declared.Kind.TheVariants.{Plain, Number, Unknown}
use Rattle.bsmp.specs.declared.Refusal.{Refusal}
use Rattle.bsmp.specs.declared.Refusal.TheVariants.{BoardUnusable}

-- "Variables, groups, curves and functions are each numbered from 0 on their own": a type for each sort of number ----------
abbrev pub variable : ℕ → VariableNumber
variable n = record { 0 = n }

abbrev pub group : ℕ → GroupNumber
group n = record { 0 = n }

abbrev pub curve : ℕ → CurveNumber
curve n = record { 0 = n }

abbrev pub function : ℕ → FunctionNumber
function n = record { 0 = n }

-- what a board declares: the records that it lends ------------------------------------------------------------------------
pub record Table : Type 0 where
  pub variables : List Variable
  pub curves : List Curve
  pub functions : List Function

-- where no record is
abbrev pub blank_curve : Curve
blank_curve = record { writable = 0; size = 0; blocks = 0 }

abbrev pub blank_function : Function
blank_function = record { input = 0; output = 0 }

-- a type is 0, read-only, or 1, writable
abbrev pub is_type : ℕ → Bool
is_type w = leb w 1

abbrev pub is_writable : ℕ → Bool
is_writable w = eqb w 1

-- the same as messages look at it: the variables' sizes, and the writable ones as marks. Kinds don't travel on the wire.
pub record Layout : Type 0 where
  pub sizes : List ℕ
  pub writable : ℕ
  pub curves : List Curve
  pub functions : List Function

abbrev pub sizes_of : List Variable → List ℕ
sizes_of = map (λ v. v.size)

abbrev pub writable_of : List Variable → ℕ
writable_of vs = marks_of (map (λ v. is_writable v.writable) vs)

abbrev pub layout : Table → Layout
layout t = record {
  sizes = sizes_of t.variables;
  writable = writable_of t.variables;
  curves = t.curves;
  functions = t.functions;
}

-- what a board holds: the bytes of each variable, the bytes of each block (curve after curve), the made groups as marks; by 02,
-- 2026-02, the sum of each curve, which may be stale; and by 02, 2026-03, the length of each block -------------------------
pub record State : Type 0 where
  pub values : List (List ℕ)
  pub blocks : List (List ℕ)
  pub lengths : List ℕ
  pub sums : List (List ℕ)
  pub groups : List ℕ

-- the same board with other values, other blocks, other lengths, other sums, other made groups
abbrev pub with_values : State → List (List ℕ) → State
with_values s vs = record { values = vs; blocks = s.blocks; lengths = s.lengths; sums = s.sums; groups = s.groups }

abbrev pub with_blocks : State → List (List ℕ) → State
with_blocks s bs = record { values = s.values; blocks = bs; lengths = s.lengths; sums = s.sums; groups = s.groups }

abbrev pub with_lengths : State → List ℕ → State
with_lengths s ns = record { values = s.values; blocks = s.blocks; lengths = ns; sums = s.sums; groups = s.groups }

abbrev pub with_sums : State → List (List ℕ) → State
with_sums s ds = record { values = s.values; blocks = s.blocks; lengths = s.lengths; sums = ds; groups = s.groups }

abbrev pub with_groups : State → List ℕ → State
with_groups s gs = record { values = s.values; blocks = s.blocks; lengths = s.lengths; sums = s.sums; groups = gs }

abbrev pub value_of : State → VariableNumber → List ℕ
value_of s i = get_or s.values i.0 []

abbrev pub block_of : State → ℕ → List ℕ
block_of s k = get_or s.blocks k []

abbrev pub sum_of : State → CurveNumber → List ℕ
sum_of s c = get_or s.sums c.0 []

abbrev pub size_of : Layout → VariableNumber → ℕ
size_of l i = get_or l.sizes i.0 0

abbrev pub marked : ℕ → VariableNumber → Bool
marked m i = has m i.0

abbrev pub variables : Layout → List VariableNumber
variables l = map variable (up_from 0 (length l.sizes))

abbrev pub is_same : VariableNumber → VariableNumber → Bool
is_same i j = eqb i.0 j.0

-- "Groups 0, 1 and 2 always exist: all variables, the read-only ones, the writable ones. Groups 3 to 7 are made by message"
unfoldable pub in_group : (writable : ℕ) → List ℕ → GroupNumber → VariableNumber → Bool
in_group w gs g i =
    cond (eqb g.0 0) true
    (cond (eqb g.0 1) (not (marked w i))
    (cond (eqb g.0 2) (marked w i)
    (marked (get_or gs (g.0 - 3) 0) i)))

-- its variables, ascending
unfoldable pub members : Layout → List ℕ → GroupNumber → List VariableNumber
members l gs g = only (in_group l.writable gs g) (variables l)

-- the bytes of all members
unfoldable pub group_bytes : Layout → List ℕ → GroupNumber → ℕ
group_bytes l gs g = sum (map (size_of l) (members l gs g))

-- "1 is read-only and 2 writable, even if empty"; another is writable exactly if all its members are
unfoldable pub writable_group : Layout → List ℕ → GroupNumber → Bool
writable_group l gs g =
    cond (eqb g.0 1) false
    (cond (eqb g.0 2) true
    (every (marked l.writable) (members l gs g)))

abbrev pub group_count : List ℕ → ℕ
group_count gs = 3 + length gs

-- the set of the variables named, as marks
unfoldable pub set_of : Layout → List VariableNumber → ℕ
set_of l is = marks_of (map (λ i. some (is_same i) is) (variables l))

-- curves: "block after block" ---------------------------------------------------------------------------------------------
abbrev pub curve_of : Layout → CurveNumber → Curve
curve_of l c = get_or l.curves c.0 blank_curve

-- the size of each block, curve after curve
abbrev pub block_sizes : List Curve → List ℕ
block_sizes cs = join (map (λ c. replicate c.blocks c.size) cs)

-- the place of a curve's block among all blocks
abbrev pub block_place : Layout → CurveNumber → ℕ → ℕ
block_place l c k = sum (map (λ x. x.blocks) (take c.0 l.curves)) + k

-- 02, 2026-03: "Each block gets a length of its own": what a block holds is so many of its first bytes
abbrev pub content_of : State → ℕ → List ℕ
content_of s k = take (get_or s.lengths k 0) (block_of s k)

-- what n blocks from place k on hold, "in block order"
abbrev pub contents_of : State → (place count : ℕ) → List ℕ
contents_of s k n = join (map (content_of s) (up_from k n))

-- 02, 2026-02: "MD5 by RFC 1321 over the whole curve"; 2026-03: "the checksum covers only those"
abbrev pub curve_sum : Layout → State → CurveNumber → List ℕ
curve_sum l s c = digest (contents_of s (block_place l c 0) (curve_of l c).blocks)

-- 02, 2026-03: "full on a fresh board": each length is its block's size
abbrev pub full_lengths : (sizes lengths : List ℕ) → List ℕ
full_lengths [] ns = ns
full_lengths (m ∷ ms) [] = []
full_lengths (m ∷ ms) (n ∷ ns) = m ∷ full_lengths ms ns

abbrev pub full : Layout → State → State
full l s = with_lengths s (full_lengths (block_sizes l.curves) s.lengths)

-- 02, 2026-02: "a fresh board works it out"
unfoldable pub fresh : Layout → State → State
fresh l s = with_sums (full l s) (map (λ c. curve_sum l (full l s) (curve c)) (up_from 0 (length l.curves)))

abbrev pub function_of : Layout → FunctionNumber → Function
function_of l f = get_or l.functions f.0 blank_function

-- the boards that 01 takes: refusal 1 is given exactly if a rule is broken ------------------------------------------------
-- "a number has size 1, 2, 4 or 8"
abbrev pub fits_kind : ℕ → Kind → Bool
fits_kind n Plain = true
fits_kind n (Number s b) = some (eqb n) (1 ∷ 2 ∷ 4 ∷ 8 ∷ [])
fits_kind n Unknown = false

-- "each 1 to 127 bytes"
abbrev pub usable_size : ℕ → Bool
usable_size n = within 1 127 n

abbrev pub usable_variable : Variable → Bool
usable_variable v = is_type v.writable && usable_size v.size && fits_kind v.size (kind_of v.kind)

-- "1 to 64, .., together at most 4,096"
abbrev pub variable_rules : List Variable → List Bool
variable_rules vs = within 1 64 (length vs) ∷ every usable_variable vs ∷ leb (sum (sizes_of vs)) 4096 ∷ []

unfoldable pub usable_variables : List Variable → Bool
usable_variables vs = all (variable_rules vs)

-- "block size 1 to 4,096; 1 to 65,536 blocks"
abbrev pub usable_curve : Curve → Bool
usable_curve c = is_type c.writable && within 1 4096 c.size && within 1 65536 c.blocks

-- "0 to 8; all together at most 65,536 bytes"
abbrev pub curve_rules : List Curve → List Bool
curve_rules cs = leb (length cs) 8 ∷ every usable_curve cs ∷ leb (sum (map (λ c. c.size * c.blocks) cs)) 65536 ∷ []

unfoldable pub usable_curves : List Curve → Bool
usable_curves cs = all (curve_rules cs)

-- "0 to 16; input 0 to 15 bytes, output 0 to 15 bytes"
unfoldable pub usable_functions : List Function → Bool
usable_functions fs = leb (length fs) 16 && every (λ f. leb f.input 15 && leb f.output 15) fs

-- "0 to 5, each a non-empty set of declared variables; two may be equal"
unfoldable pub usable_groups : (variables : ℕ) → List ℕ → Bool
usable_groups n gs = leb (length gs) 5 && every (λ m. ltb 0 m && ltb m (2 ^ n)) gs

-- "stores: exactly the length that the records add up to": each piece has its declared length (and law `store_test`)
unfoldable pub whole_values : Table → State → Bool
whole_values t s = same (map length s.values) (sizes_of t.variables)

unfoldable pub whole_curves : Table → State → Bool
whole_curves t s = same (map length s.blocks) (block_sizes t.curves)

-- 02, 2026-03: "1 to the block size", "one per block"
abbrev pub fitting : (sizes lengths : List ℕ) → Bool
fitting [] [] = true
fitting [] (n ∷ ns) = false
fitting (m ∷ ms) [] = false
fitting (m ∷ ms) (n ∷ ns) = within 1 m n && fitting ms ns

unfoldable pub fit_lengths : Table → State → Bool
fit_lengths t s = fitting (block_sizes t.curves) s.lengths

-- 02, 2026-02: "answer 0B with 16 bytes"; any are sound
abbrev pub sum_sizes : List Curve → List ℕ
sum_sizes cs = map (λ c. 16) cs

unfoldable pub whole_sums : Table → State → Bool
whole_sums t s = same (map length s.sums) (sum_sizes t.curves)

abbrev pub rules : Table → State → List Bool
rules t s =
    usable_variables t.variables
    ∷ whole_values t s
    ∷ usable_curves t.curves
    ∷ whole_curves t s
    ∷ fit_lengths t s
    ∷ whole_sums t s
    ∷ usable_functions t.functions
    ∷ usable_groups (length t.variables) s.groups
    ∷ []

unfoldable pub usable : Table → State → Bool
usable t s = all (rules t s)

-- "board unusable": what breaks a rule, as the entries test it; the readings look at the variable records only
unfoldable pub faults : Table → State → List (Test Refusal)
faults t s = test 1 BoardUnusable (not (usable t s)) ∷ []

abbrev pub variable_faults : List Variable → List (Test Refusal)
variable_faults vs = test 1 BoardUnusable (not (usable_variables vs)) ∷ []
