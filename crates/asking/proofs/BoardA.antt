-- The asking side on board A, computed: requests as 01's settled lines have them, their answers as they are read, each refusal, and the board
-- learned from its lists. Assumes nothing.
use mathlib.Core.Path.{◌≡◌, refl}
use mathlib.Core.Bool.{true, false}
use mathlib.Core.List.{List, [], ◌∷◌, map}
use Prim.Native.Nat.{ℕ}
use lib.ListN.{replicate}
use Rattle.std.specs.Prelude.{Ok}
use Rattle.bsmp.specs.Board.{variable, group, curve, function, State, with_groups}
use Rattle.bsmp.specs.Packet.{frame, gave, failed}
use Rattle.bsmp.specs.Examples.{hex, table_a, place_a, state_a}
use Rattle.bsmp.specs.declared.WireError.TheVariants.{ReadOnly, Busy}
use Rattle.bsmp.specs.declared.Refusal.TheVariants.{BoardUnusable, BadAddress, ReplyBufferShort, PacketLength, Checksum, ReplyUnfit, RequestUnwritable}
use Rattle.asking.specs.Request.{Asking, request, asking}
use Rattle.asking.specs.Learned.{Learned, learned_of, slot}
use Rattle.asking.specs.Reply.{value, is_error, is_done, is_version, is_variables, is_groups, is_members, is_curves, is_functions, is_values, is_block, is_sum, is_result, Hearing, hears, hearing, told_of}
use Rattle.asking.specs.Learning.{blank, learning, learns_all, lists}
use Rattle.asking.specs.declared.Masking.TheVariants.{Toggle}
use Rattle.asking.specs.declared.Request.TheVariants.{Version, ListVariables, ListGroups, ShowGroup, ListCurves, ReadSum, ListFunctions, ReadVariable, ReadGroup, WriteVariable}
use Rattle.asking.specs.declared.Request.TheVariants.{MaskVariable, WriteRead, MakeGroup, RemoveGroups, ReadBlock, RunFunction}
use Rattle.asking.specs.declared.Told.TheVariants as T
use Rattle.asking.proofs.Computes.{computes}

abbrev A : Learned
A = learned_of table_a (state_a 0x5A)

-- 01's settled lines, 30 with its IDs sorted; a multicast, and a block's number in two bytes
pub requests :
    asking 5 4104 (ReadVariable (variable 0)) [] ∷ asking 5 4104 Version [] ∷ asking 5 4104 ListVariables [] ∷ asking 5 4104 ListGroups []
    ∷ asking 5 4104 (WriteVariable (variable 0)) (hex 4 0) ∷ asking 5 4104 (WriteVariable (variable 1)) (0 ∷ 0 ∷ [])
    ∷ asking 5 4104 (MaskVariable (variable 1) Toggle) (0x0F ∷ []) ∷ asking 5 4104 (WriteRead (variable 1) (variable 1)) (0x77 ∷ [])
    ∷ asking 5 4104 MakeGroup (2 ∷ 0 ∷ []) ∷ asking 0xF8 4104 (WriteVariable (variable 1)) (0x66 ∷ []) ∷ asking 5 4104 (ReadBlock (curve 0) 256) []
    ∷ []
    ≡ map request
    (hex 6 0x05_10_00_01_00_EA ∷ hex 5 0x05_00_00_00_FB ∷ hex 5 0x05_02_00_00_F9 ∷ hex 5 0x05_04_00_00_F7
    ∷ hex 10 0x05_20_00_05_00_00_00_00_00_D6 ∷ hex 8 0x05_20_00_03_01_00_00_D7
    ∷ hex 8 0x05_24_00_03_01_54_0F_70 ∷ hex 8 0x05_28_00_03_01_01_77_57
    ∷ hex 7 0x05_30_00_02_00_02_C7 ∷ hex 7 0xF8_20_00_02_01_66_7F ∷ hex 8 0x05_40_00_03_00_01_00_B7 ∷ [])
unfolding computes
requests = refl

-- a destination, a short buffer, an ID, a block, and a payload of 4,100 bytes that can't be written
pub unwritten :
    asking 0 4104 Version [] ∷ asking 32 4104 Version [] ∷ asking 247 0 Version [] ∷ asking 31 4103 (ReadVariable (variable 256)) []
    ∷ asking 248 4104 (ReadVariable (variable 256)) [] ∷ asking 1 4104 MakeGroup (256 ∷ 0 ∷ []) ∷ asking 1 4104 (ReadBlock (curve 0) 65536) []
    ∷ asking 255 4104 (WriteVariable (variable 0)) (replicate 4099 0) ∷ []
    ≡ map Asking.refused (BadAddress ∷ BadAddress ∷ BadAddress ∷ ReplyBufferShort ∷ replicate 4 RequestUnwritable)
unfolding computes
unwritten = refl

-- answers, also to the lists with nothing learned; and how the code says them
abbrev replies : List Hearing
replies =
    hearing A 5 (ReadVariable (variable 0)) (hex 9 0x00_11_00_04_FF_FF_FF_FD_F1)
    ∷ hearing blank 5 Version (hex 8 0x00_01_00_03_02_14_00_E6)
    ∷ hearing blank 5 ListVariables (hex 8 0x00_03_00_03_04_81_82_F3)
    ∷ hearing blank 5 ListGroups (hex 8 0x00_05_00_03_03_01_82_72)
    ∷ hearing blank 5 (ShowGroup (group 2)) (frame 0x07 (1 ∷ 2 ∷ []))
    ∷ hearing blank 5 ListCurves (frame 0x09 (1 ∷ 0 ∷ 1 ∷ 0 ∷ 0 ∷ []))
    ∷ hearing blank 5 ListFunctions (frame 0x0D (0x12 ∷ []))
    ∷ hearing A 5 (WriteVariable (variable 0)) (hex 5 0x00_E6_00_00_1A)
    ∷ hearing A 5 (ReadGroup (group 0)) (frame 0xE8 [])
    ∷ hearing A 5 MakeGroup (hex 5 0x00_E0_00_00_20)
    ∷ hearing A 5 (ReadBlock (curve 0) 1) (hex 12 0x00_41_00_07_00_00_01_00_00_00_00_B7)
    ∷ hearing A 5 (ReadSum (curve 0)) (frame 0x0B (hex 16 7))
    ∷ hearing A 5 (ReadGroup (group 2)) (frame 0x13 (0x5A ∷ 0x34 ∷ 0x12 ∷ []))
    ∷ hearing A 5 (RunFunction (function 0)) (frame 0x51 (8 ∷ 9 ∷ []))
    ∷ hearing A 5 (RunFunction (function 0)) (frame 0x53 (7 ∷ []))
    ∷ []

pub heard :
    replies
    ≡ map hears
    (is_values (value (variable 0) (hex 4 0xFF_FF_FF_FD) ∷ [])
    ∷ is_version (2 ∷ 20 ∷ 0 ∷ [])
    ∷ is_variables (slot false 4 ∷ slot true 1 ∷ slot true 2 ∷ [])
    ∷ is_groups (slot false 3 ∷ slot false 1 ∷ slot true 2 ∷ [])
    ∷ is_members (group 2) (variable 1 ∷ variable 2 ∷ [])
    ∷ is_curves (record { writable = 1; size = 1; blocks = 65536 } ∷ [])
    ∷ is_functions (record { input = 1; output = 2 } ∷ [])
    ∷ is_error ReadOnly
    ∷ is_error Busy
    ∷ is_done
    ∷ is_block (curve 0) 1 (hex 4 0)
    ∷ is_sum (curve 0) (hex 16 7)
    ∷ is_values (value (variable 1) (0x5A ∷ []) ∷ value (variable 2) (0x34 ∷ 0x12 ∷ []) ∷ [])
    ∷ is_result (function 0) (gave (8 ∷ 9 ∷ []))
    ∷ is_result (function 0) (failed 7)
    ∷ [])
unfolding computes
heard = refl

pub told :
    map told_of replies
    ≡ map Ok (T.Values 4 ∷ T.Version ∷ T.Variables 3 ∷ T.Groups 3 ∷ T.Members 2 ∷ T.Curves 1 ∷ T.Functions 1 ∷ T.Error ReadOnly ∷ T.Error Busy ∷ T.Done
    ∷ T.Block 4 ∷ T.Sum ∷ T.Values 3 ∷ T.Output 2 ∷ T.Failed 7 ∷ [])
unfolding computes
told = refl

-- no table, a destination, an empty reply, a wrong sum; a multicast, a reply to another, a wrong SIZE, a short value, E0 for a read, another
-- block, a block of no byte, an error with a payload, another's answer, a variable and a group that the table lacks, falling members, an empty
-- made group, one listed as empty, another version, a sum of 15 bytes, an output of three
pub unheard :
    hearing blank 5 (ReadVariable (variable 0)) (hex 9 0x00_11_00_04_FF_FF_FF_FD_F1)
    ∷ hearing A 32 Version []
    ∷ hearing A 5 Version (0 ∷ [])
    ∷ hearing A 5 Version (hex 8 0x00_01_00_03_02_14_00_E7)
    ∷ hearing A 0xF8 Version (hex 8 0x00_01_00_03_02_14_00_E6)
    ∷ hearing A 5 Version (hex 8 0x01_01_00_03_02_14_00_E5)
    ∷ hearing A 5 Version (hex 8 0x00_01_00_04_02_14_00_E5)
    ∷ hearing A 5 (ReadVariable (variable 0)) (frame 0x11 (1 ∷ 2 ∷ 3 ∷ []))
    ∷ hearing A 5 (ReadVariable (variable 0)) (hex 5 0x00_E0_00_00_20)
    ∷ hearing A 5 (ReadBlock (curve 0) 0) (hex 12 0x00_41_00_07_00_00_01_00_00_00_00_B7)
    ∷ hearing A 5 (ReadBlock (curve 0) 1) (frame 0x41 (0 ∷ 0 ∷ 1 ∷ []))
    ∷ hearing A 5 Version (frame 0xE6 (0 ∷ []))
    ∷ hearing A 5 ListVariables (hex 8 0x00_01_00_03_02_14_00_E6)
    ∷ hearing A 5 (ReadVariable (variable 3)) (frame 0x11 [])
    ∷ hearing A 5 (ReadGroup (group 3)) (frame 0x13 [])
    ∷ hearing A 5 (ShowGroup (group 0)) (frame 0x07 (1 ∷ 0 ∷ []))
    ∷ hearing A 5 (ShowGroup (group 3)) (frame 0x07 [])
    ∷ hearing A 5 ListGroups (frame 0x05 (3 ∷ 1 ∷ 0x82 ∷ 0x80 ∷ []))
    ∷ hearing A 5 Version (frame 0x01 (2 ∷ 10 ∷ 0 ∷ []))
    ∷ hearing A 5 (ReadSum (curve 0)) (frame 0x0B (hex 15 7))
    ∷ hearing A 5 (RunFunction (function 0)) (frame 0x51 (7 ∷ 8 ∷ 9 ∷ []))
    ∷ []
    ≡ map Hearing.refused (BoardUnusable ∷ BadAddress ∷ PacketLength ∷ Checksum ∷ replicate 17 ReplyUnfit)
unfolding computes
unheard = refl

-- with two groups made, one of them all variables: from nothing, and from another node's table; then 30 and 32 followed
abbrev grouped : State
grouped = with_groups (state_a 0x5A) (5 ∷ 7 ∷ [])

abbrev another : Learned
another = record { layout = record { sizes = 9 ∷ 200 ∷ []; writable = 3; curves = []; functions = [] }; groups = 1 ∷ 2 ∷ 3 ∷ 1 ∷ 2 ∷ [] }

pub learned :
    map (λ x. learns_all table_a place_a 0 4104 grouped x (lists 2)) (blank ∷ another ∷ []) ≡ replicate 2 (learned_of table_a grouped)
unfolding computes
learned = refl

abbrev E0 : List ℕ
E0 = hex 5 0x00_E0_00_00_20

pub following :
    learning A MakeGroup (2 ∷ 0 ∷ []) (hearing A 5 MakeGroup E0)
    ∷ learning (learned_of table_a grouped) RemoveGroups [] (hearing (learned_of table_a grouped) 5 RemoveGroups E0)
    ∷ learning A MakeGroup (2 ∷ 0 ∷ []) (hearing A 5 MakeGroup (frame 0xE7 []))
    ∷ learning A MakeGroup (2 ∷ 0 ∷ []) (hearing A 5 MakeGroup [])
    ∷ []
    ≡ learned_of table_a (with_groups (state_a 0x5A) (5 ∷ [])) ∷ A ∷ A ∷ A ∷ []
unfolding computes
following = refl
