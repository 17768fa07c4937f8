-- What is learned of a node: its layout, kinds left out, and its made groups; and the records of the lists (02, 2026-04). Assumes nothing.
use Rattle.std.specs.Prelude.{Bool, cond, ◌||◌, List, [], ◌∷◌, map, ℕ, ◌+◌, ◌*◌, ◌/◌, ◌%◌, leb, eqb, length}
use Rattle.bsmp.specs.Base.{sum, up_from, all, every, within}
use Rattle.bsmp.specs.Board.{variable, group, Table, Layout, layout, State, size_of, marked, members, writable_group, group_count, usable_size, usable_curves, usable_functions, usable_groups}
use Rattle.bsmp.specs.declared.GroupNumber.{GroupNumber}
use Rattle.bsmp.specs.declared.Curve.{Curve}
use Rattle.bsmp.specs.declared.Function.{Function}

pub record Learned : Type 0 where
  pub layout : Layout
  pub groups : List ℕ

-- "the learned table is the node's"
abbrev pub learned_of : Table → State → Learned
learned_of t s = record { layout = layout t; groups = s.groups }

-- 01's limits, as far as they can be seen on the wire: "1 to 64, each 1 to 127 bytes, together at most 4,096"
abbrev pub size_rules : List ℕ → List Bool
size_rules ns = within 1 64 (length ns) ∷ every usable_size ns ∷ leb (sum ns) 4096 ∷ []

unfoldable pub usable_sizes : List ℕ → Bool
usable_sizes ns = all (size_rules ns)

unfoldable pub usable_learned : Learned → Bool
usable_learned x =
    all (usable_sizes x.layout.sizes ∷ usable_curves x.layout.curves ∷ usable_functions x.layout.functions
    ∷ usable_groups (length x.layout.sizes) x.groups ∷ [])

-- a record of the lists 03 and 05: "top bit 1 if writable, low seven" the size or the member count ---------------------------
pub record Slot : Type 0 where
  pub writable : Bool
  pub size : ℕ

abbrev pub slot : Bool → ℕ → Slot
slot w n = record { writable = w; size = n }

abbrev pub slot_of : ℕ → Slot
slot_of b = slot (leb 128 b) (b % 128)

-- the variables of a layout, and its groups
abbrev pub variable_slots : Layout → List Slot
variable_slots l = map (λ i. slot (marked l.writable (variable i)) (size_of l (variable i))) (up_from 0 (length l.sizes))

abbrev pub group_slots : Layout → List ℕ → List Slot
group_slots l gs = map (λ g. slot (writable_group l gs (group g)) (length (members l gs (group g)))) (up_from 0 (group_count gs))

-- how many members a group may have: 1 and 2 exist "even if empty", group 0 has all variables, a made group is "a non-empty set"
abbrev pub may_be_empty : GroupNumber → Bool
may_be_empty g = eqb g.0 1 || eqb g.0 2

abbrev pub fits_count : GroupNumber → ℕ → Bool
fits_count g n = within (cond (may_be_empty g) 0 1) 64 n

-- a record of the list 09: type, block size and blocks in two bytes each, "65,536 as 0" ---------------------------------------
abbrev pub blocks_of : ℕ → ℕ
blocks_of n = cond (eqb n 0) 65536 n

-- whole records of five bytes; an unfinished last one is left out
abbrev pub curves_from : List ℕ → List Curve
curves_from [] = []
curves_from (w ∷ []) = []
curves_from (w ∷ a ∷ []) = []
curves_from (w ∷ a ∷ b ∷ []) = []
curves_from (w ∷ a ∷ b ∷ c ∷ []) = []
curves_from (w ∷ a ∷ b ∷ c ∷ d ∷ p) = record { writable = w; size = a * 256 + b; blocks = blocks_of (c * 256 + d) } ∷ curves_from p

-- a record of the list 0D: "input count in the high four bits, output in the low four"
abbrev pub functions_from : List ℕ → List Function
functions_from = map (λ b. record { input = b / 16; output = b % 16 })
