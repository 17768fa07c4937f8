-- The edges of 01's table of limits, computed: what is still taken and what is no more; and reads that meet busy marks. Assumes nothing.
use mathlib.Core.Path.{◌≡◌, refl}
use mathlib.Core.Bool.{true, false}
use mathlib.Core.List.{List, [], ◌∷◌, map}
use Prim.Native.Nat.{ℕ, ◌+◌, ◌-◌, ◌^◌, ◌<◌}
use native.Mathlib.Omega.{arith}
use lib.IntN.{pos, negsuc}
use lib.ListN.{length, replicate}
use borrow.Author.Tests.{lt-ltb}
use Rattle.bsmp.specs.Board.{variable, group, Layout, usable_variables, usable_curves, usable_functions, usable_groups}
use Rattle.bsmp.specs.Message.{no_group, block_missing, curve_record, judge}
use Rattle.bsmp.specs.Packet.{Place, usable_place, in_multicast, Ending, reply, silence, packet}
use Rattle.bsmp.specs.Number.{Reading, is, reading, Written, bytes, writing}
use Rattle.bsmp.specs.Examples.{hex, table_a, place_a, state_a}
use Rattle.bsmp.specs.declared.GroupNumber.{GroupNumber}
use Rattle.bsmp.specs.declared.Variable.{Variable}
use Rattle.bsmp.specs.declared.Curve.{Curve}
use Rattle.bsmp.specs.declared.Function.{Function}
use Rattle.bsmp.specs.Codes.{Pass}
use Rattle.bsmp.specs.declared.Refusal.TheVariants.{WrongByteCount, WrongKind, DoesNotFit}
use Rattle.bsmp.proofs.Computes.{computes}

abbrev plain : ℕ → Variable
plain n = record { writable = 1; size = n; kind = 0 }

abbrev number : ℕ → Variable
number n = record { writable = 0; size = n; kind = 4 }

abbrev blocks : ℕ → ℕ → Curve
blocks size n = record { writable = 1; size = size; blocks = n }

abbrev takes : ℕ → ℕ → Function
takes i o = record { input = i; output = o }

abbrev place : ℕ → ℕ → Place
place own multicast = record { own = own; multicast = multicast }

-- what 01 takes ..
pub taken :
    map usable_variables ((plain 1 ∷ []) ∷ (plain 127 ∷ []) ∷ replicate 64 (plain 64) ∷ (number 1 ∷ number 2 ∷ number 4 ∷ number 8 ∷ []) ∷ [])
    ≡ replicate 4 true
unfolding computes
taken = refl

pub taken_curves : map usable_curves ([] ∷ (blocks 1 65536 ∷ []) ∷ (blocks 4096 16 ∷ []) ∷ replicate 8 (blocks 4096 2) ∷ []) ≡ replicate 4 true
unfolding computes
taken_curves = refl

pub taken_rest :
    (usable_functions [] ∷ usable_functions (replicate 16 (takes 15 15)) ∷ usable_groups 3 [] ∷ usable_groups 3 (replicate 5 7) ∷ usable_groups 64 ((2 ^ 64 - 1) ∷ [])
    ∷ usable_place (place 1 0x01) ∷ usable_place (place 31 0xFF) ∷ [])
    ≡ replicate 7 true
unfolding computes
taken_rest = refl

-- .. and what it refuses
pub refused_variables :
    map usable_variables ([] ∷ replicate 65 (plain 1) ∷ (plain 0 ∷ []) ∷ (plain 128 ∷ []) ∷ (plain 1 ∷ replicate 64 (plain 64))
    ∷ (number 3 ∷ []) ∷ (record { writable = 2; size = 1; kind = 0 } ∷ []) ∷ (record { writable = 0; size = 1; kind = 5 } ∷ [])
    ∷ (plain 1 ∷ replicate 33 (plain 125)) ∷ [])
    ≡ replicate 9 false
unfolding computes
refused_variables = refl

pub refused_curves :
    map usable_curves ((blocks 1 65537 ∷ []) ∷ (blocks 0 1 ∷ []) ∷ (blocks 1 0 ∷ []) ∷ (blocks 4097 1 ∷ []) ∷ (blocks 2 65536 ∷ [])
    ∷ (blocks 1 65536 ∷ blocks 1 1 ∷ []) ∷ replicate 9 (blocks 1 1) ∷ (record { writable = 2; size = 1; blocks = 1 } ∷ []) ∷ [])
    ≡ replicate 8 false
unfolding computes
refused_curves = refl

pub refused_rest :
    (usable_functions (replicate 17 (takes 0 0)) ∷ usable_functions (takes 16 0 ∷ []) ∷ usable_functions (takes 0 16 ∷ []) ∷ usable_groups 3 (replicate 6 7)
    ∷ usable_groups 3 (0 ∷ []) ∷ usable_groups 3 (8 ∷ []) ∷ usable_place (place 0 0x01) ∷ usable_place (place 32 0x01) ∷ usable_place (place 5 0x80) ∷ [])
    ≡ replicate 9 false
unfolding computes
refused_rest = refl

-- "65,536 as 0", and every block number that fits two bytes exists then
abbrev long : Layout
long = record { sizes = 1 ∷ []; writable = 1; curves = blocks 1 65536 ∷ []; functions = [] }

pub all_blocks : (curve_record (blocks 1 65536) ≡ 1 ∷ 0 ∷ 1 ∷ 0 ∷ 0 ∷ []) × (block_missing long (0 ∷ 0xFF ∷ 0xFF ∷ []) ≡ false)
all_blocks = (refl, refl)

-- "Groups 0, 1 and 2 always exist", also after 32 has removed the made ones
pub after_removal : map (no_group []) (group 0 ∷ group 1 ∷ group 2 ∷ group 3 ∷ []) ≡ false ∷ false ∷ false ∷ true ∷ []
after_removal = refl

pub standard_groups : (gs : List ℕ) (g : GroupNumber) → g.0 < 3 → no_group gs g ≡ false
standard_groups gs g h = rw (lt-ltb g.0 (3 + length gs) (omega arith))

-- "most significant bit is address 248, least is 255"
pub multicast_bits : map (in_multicast 0x81) (247 ∷ 248 ∷ 249 ∷ 254 ∷ 255 ∷ []) ≡ false ∷ true ∷ false ∷ false ∷ true ∷ []
unfolding computes
multicast_bits = refl

-- 02's busy reads, computed on board A: marks, packet, and how it ends; none of them changes a byte
abbrev e5 : Ending
e5 = reply (hex 5 0x00_E5_00_00_1B)

abbrev e8 : Ending
e8 = reply (hex 5 0x00_E8_00_00_18)

pub record BusyRow : Type 0 where
  pub busy : ℕ
  pub packet : List ℕ
  pub ends : Ending

abbrev under : ℕ → List ℕ → Ending → BusyRow
under b p e = record { busy = b; packet = p; ends = e }

abbrev pub busy_rows : List BusyRow
busy_rows =
    -- 10 of variable 0, and of another while it is busy
    under 1 (hex 6 0x05_10_00_01_00_EA) e8
    ∷ under 1 (hex 6 0x05_10_00_01_01_E9) (reply (hex 6 0x00_11_00_01_5A_94))
    -- 12 of all variables with the last of them busy; of the read-only ones, which are not
    ∷ under 4 (hex 6 0x05_12_00_01_00_E8) e8
    ∷ under 6 (hex 6 0x05_12_00_01_01_E7) (reply (hex 9 0x00_13_00_04_FF_FF_FF_FD_EF))
    -- 28 that writes 1 and reads 2: either of them busy; then by multicast
    ∷ under 2 (hex 8 0x05_28_00_03_01_02_77_56) e8
    ∷ under 4 (hex 8 0x05_28_00_03_01_02_77_56) e8
    ∷ under 4 (hex 8 0xF8_28_00_03_01_02_77_63) silence
    -- E3 and E5 come before; in 28 the written one's E5 and E6 too, where only the read one is busy
    ∷ under 15 (hex 6 0x05_10_00_01_03_E7) (reply (hex 5 0x00_E3_00_00_1D))
    ∷ under 7 (hex 7 0x05_12_00_02_00_00_E7) e5
    ∷ under 4 (hex 9 0x05_28_00_04_01_02_77_77_DE) e5
    ∷ under 4 (hex 11 0x05_28_00_06_00_02_00_00_00_00_CB) (reply (hex 5 0x00_E6_00_00_1A))
    -- bits past the last variable count for nothing
    ∷ under (2 ^ 64 - 8) (hex 6 0x05_10_00_01_01_E9) (reply (hex 6 0x00_11_00_01_5A_94))
    ∷ []

pub busy_reads :
    map (λ (r : BusyRow). packet table_a place_a r.busy 4104 r.packet (state_a 0x5A)) busy_rows
    ≡ map (λ (r : BusyRow). record { ending = r.ends; state = state_a 0x5A }) busy_rows
unfolding computes
busy_reads = refl

-- an empty group is never busy: 12 of group 1 where every variable is writable and busy
pub empty_read : judge (record { sizes = 1 ∷ []; writable = 1; curves = []; functions = [] }) [] 1 (0x12 ∷ 0 ∷ 1 ∷ 1 ∷ []) ≡ Pass
unfolding computes
empty_read = refl

-- "Signed one_byte 80 is −128, 7F is 127; −129 and 128 are refused with 12"; 11 comes before 10
abbrev one_byte : List Variable
one_byte = record { writable = 1; size = 1; kind = 3 } ∷ []

pub readings :
    map (λ bs. reading one_byte (variable 0) true bs) (hex 1 0x80 ∷ hex 1 0x7F ∷ hex 2 0 ∷ [])
    ≡ is (negsuc 127) ∷ is (pos 127) ∷ Reading.refused WrongByteCount ∷ []
unfolding computes
readings = refl

pub wrong_kind_lem : map (λ bs. reading one_byte (variable 0) false bs) (hex 1 0x80 ∷ hex 2 0 ∷ []) ≡ Reading.refused WrongKind ∷ Reading.refused WrongKind ∷ []
unfolding computes
wrong_kind_lem = refl

pub writings :
    map (λ z. writing one_byte (variable 0) true z 1) (negsuc 127 ∷ pos 127 ∷ negsuc 128 ∷ pos 128 ∷ [])
    ≡ bytes (hex 1 0x80) ∷ bytes (hex 1 0x7F) ∷ Written.refused DoesNotFit ∷ Written.refused DoesNotFit ∷ []
unfolding computes
writings = refl
