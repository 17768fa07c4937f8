-- A reply, read as what it says: the answer that 01 gives to a request, what of it fits, and what it tells (02, 2026-04). Assumes nothing.
use Rattle.std.specs.Prelude.{◌≡◌, Bool, true, false, cond, not, ◌&&◌, ◌||◌, Result, Ok, Err, List, [], ◌∷◌, map, ℕ, ◌-◌, ◌*◌, ◌%◌, leb, ltb, eqb, length, drop}
use Rattle.bsmp.specs.Base.{sum, up_from, every, cut, same, ascending, within, byte_at, word_at, Test, test, first}
use Rattle.bsmp.specs.Codes.{coded, Check}
use Rattle.bsmp.specs.Board.{variable, group, Layout, State, value_of, content_of, sum_of, size_of, members, curve_of, block_place, function_of, usable_curves, usable_functions}
use Rattle.bsmp.specs.Message.{no_variable, no_group, no_curve, no_function}
use Rattle.bsmp.specs.Packet.{message, Ran, gave, failed, Ending, reply, silence, run}
use Rattle.bsmp.specs.declared.VariableNumber.{VariableNumber}
use Rattle.bsmp.specs.declared.GroupNumber.{GroupNumber}
use Rattle.bsmp.specs.declared.CurveNumber.{CurveNumber}
use Rattle.bsmp.specs.declared.FunctionNumber.{FunctionNumber}
use Rattle.bsmp.specs.declared.Curve.{Curve}
use Rattle.bsmp.specs.declared.Function.{Function}
use Rattle.bsmp.specs.declared.WireError.{WireError}
use Rattle.bsmp.specs.declared.WireError.TheVariants.{Malformed, Unsupported, BadId, BadValue, BadSize, ReadOnly, Full, Busy}
use Rattle.bsmp.specs.declared.Refusal.{Refusal}
use Rattle.bsmp.specs.declared.Refusal.TheVariants.{BoardUnusable, BadAddress, PacketLength, Checksum, ReplyUnfit}
use Rattle.asking.specs.Request.{is_address, is_multicast}
use Rattle.asking.specs.Learned.{Learned, usable_sizes, usable_learned, Slot, slot_of, variable_slots, group_slots, fits_count, curves_from, functions_from}
use Rattle.asking.specs.declared.Request.{Request}
use Rattle.asking.specs.declared.Request.TheVariants.{Version, ListVariables, ListGroups, ShowGroup, ListCurves, ReadSum, ListFunctions, ReadVariable, ReadGroup, WriteVariable, WriteGroup}
use Rattle.asking.specs.declared.Request.TheVariants.{MaskVariable, MaskGroup, WriteRead, MakeGroup, RemoveGroups, ReadBlock, WriteBlock, RenewSum, RunFunction}
use Rattle.asking.specs.declared.Told.{Told}
use Rattle.asking.specs.declared.Told.TheVariants as T

-- the answer that 01 gives to a request: its third column ------------------------------------------------------------------
pub data Wanted : Type 0 where
  -- E0
  done : Wanted
  -- 02 14 00
  version : Wanted
  -- the lists 03, 05, 09 and 0D, and 07 of a group
  variable_list : Wanted
  group_list : Wanted
  member_list : GroupNumber → Wanted
  curve_list : Wanted
  function_list : Wanted
  -- the code, and the values of these variables; the table may lack what was named
  values : (known : Bool) → (code : ℕ) → List VariableNumber → Wanted
  block : CurveNumber → ℕ → Wanted
  digest : CurveNumber → Wanted
  -- the function is run first
  output : FunctionNumber → Wanted

unfoldable pub wanted : Learned → Request → Wanted
wanted x Version = version
wanted x ListVariables = variable_list
wanted x ListGroups = group_list
wanted x (ShowGroup g) = member_list g
wanted x ListCurves = curve_list
wanted x (ReadSum c) = digest c
wanted x ListFunctions = function_list
wanted x (ReadVariable i) = values (not (no_variable x.layout i)) 0x11 (i ∷ [])
wanted x (ReadGroup g) = values (not (no_group x.groups g)) 0x13 (members x.layout x.groups g)
wanted x (WriteVariable i) = done
wanted x (WriteGroup g) = done
wanted x (MaskVariable i o) = done
wanted x (MaskGroup g o) = done
wanted x (WriteRead i j) = values (not (no_variable x.layout j)) 0x11 (j ∷ [])
wanted x MakeGroup = done
wanted x RemoveGroups = done
wanted x (ReadBlock c k) = block c k
wanted x (WriteBlock c k) = done
wanted x (RenewSum c) = done
wanted x (RunFunction f) = output f

-- what a reply tells --------------------------------------------------------------------------------------------------------
-- a variable and its bytes
pub record Value : Type 0 where
  pub of : VariableNumber
  pub bytes : List ℕ

abbrev pub value : VariableNumber → List ℕ → Value
value i b = record { of = i; bytes = b }

pub data Heard : Type 0 where
  is_error : WireError → Heard
  is_done : Heard
  is_version : List ℕ → Heard
  is_variables : List Slot → Heard
  is_groups : List Slot → Heard
  is_members : GroupNumber → List VariableNumber → Heard
  is_curves : List Curve → Heard
  is_functions : List Function → Heard
  is_values : List Value → Heard
  is_block : CurveNumber → ℕ → List ℕ → Heard
  is_sum : CurveNumber → List ℕ → Heard
  -- a function's result: its output, or its error byte
  is_result : FunctionNumber → Ran → Heard

-- what the board holds of it (l and gs its layout and groups when it was asked, s what it holds after it, r what a function gave)
unfoldable pub holds : Layout → List ℕ → State → Ran → Wanted → Heard
holds l gs s r done = is_done
holds l gs s r version = is_version (2 ∷ 20 ∷ 0 ∷ [])
holds l gs s r variable_list = is_variables (variable_slots l)
holds l gs s r group_list = is_groups (group_slots l gs)
holds l gs s r (member_list g) = is_members g (members l gs g)
holds l gs s r curve_list = is_curves l.curves
holds l gs s r function_list = is_functions l.functions
holds l gs s r (values b c is) = is_values (map (λ i. value i (value_of s i)) is)
holds l gs s r (block c k) = is_block c k (content_of s (block_place l c k))
holds l gs s r (digest c) = is_sum c (sum_of s c)
holds l gs s r (output f) = is_result f r

-- reading a reply -----------------------------------------------------------------------------------------------------------
-- "E1 to E8 with no payload"
abbrev pub error_reply : ℕ → List ℕ → Bool
error_reply c p = within 0xE1 0xE8 c && eqb (length p) 0

abbrev pub errors : List (ℕ × WireError)
errors = (0xE1, Malformed) ∷ (0xE2, Unsupported) ∷ (0xE3, BadId) ∷ (0xE4, BadValue) ∷ (0xE5, BadSize) ∷ (0xE6, ReadOnly) ∷ (0xE7, Full) ∷ []

unfoldable pub error_of : ℕ → WireError
error_of = coded errors Busy

-- "same curve and block"
abbrev pub same_block : CurveNumber → ℕ → List ℕ → Bool
same_block cv k p = eqb (byte_at p 0) cv.0 && eqb (word_at p 1) k

-- "or 01's answer to that request: of the size that the learned table gives"; "lists: whole records within 01's limits, 07 ascending"
unfoldable pub answers : Learned → Wanted → ℕ → List ℕ → Bool
answers x done c p = eqb c 0xE0 && eqb (length p) 0
answers x version c p = eqb c 0x01 && same p (2 ∷ 20 ∷ 0 ∷ [])
answers x variable_list c p = eqb c 0x03 && usable_sizes (map (λ b. (slot_of b).size) p)
answers x group_list c p = eqb c 0x05 && within 3 8 (length p) && every (λ g. fits_count (group g) (slot_of (byte_at p g)).size) (up_from 0 (length p))
answers x (member_list g) c p = eqb c 0x07 && fits_count g (length p) && ascending p && every (λ i. ltb i 64) p
answers x curve_list c p = eqb c 0x09 && eqb (5 * length (curves_from p)) (length p) && usable_curves (curves_from p)
answers x function_list c p = eqb c 0x0D && usable_functions (functions_from p)
answers x (values b k is) c p = b && eqb c k && eqb (length p) (sum (map (size_of x.layout) is))
-- "1 to the block size of bytes"
answers x (block cv k) c p = not (no_curve x.layout cv) && eqb c 0x41 && same_block cv k p && within 1 (curve_of x.layout cv).size (length p - 3)
answers x (digest cv) c p = not (no_curve x.layout cv) && eqb c 0x0B && eqb (length p) 16
answers x (output f) c p =
    not (no_function x.layout f) && ((eqb c 0x51 && eqb (length p) (function_of x.layout f).output) || (eqb c 0x53 && eqb (length p) 1))

-- each variable with its part
abbrev pub paired : List VariableNumber → List (List ℕ) → List Value
paired [] ps = []
paired (i ∷ is) [] = []
paired (i ∷ is) (p ∷ ps) = value i p ∷ paired is ps

-- what such a payload tells
unfoldable pub tells : Learned → Wanted → ℕ → List ℕ → Heard
tells x done c p = is_done
tells x version c p = is_version p
tells x variable_list c p = is_variables (map slot_of p)
tells x group_list c p = is_groups (map slot_of p)
tells x (member_list g) c p = is_members g (map variable p)
tells x curve_list c p = is_curves (curves_from p)
tells x function_list c p = is_functions (functions_from p)
tells x (values b k is) c p = is_values (paired is (cut (map (size_of x.layout) is) p))
tells x (block cv k) c p = is_block cv k (drop 3 p)
tells x (digest cv) c p = is_sum cv p
tells x (output f) c p = is_result f (cond (eqb c 0x51) (gave p) (failed (byte_at p 0)))

-- the lists, the version and E0 are read without a table; where the table counts, it must keep 01's limits
abbrev pub is_sized : Wanted → Bool
is_sized (values b c is) = true
is_sized (block c k) = true
is_sized (digest c) = true
is_sized (output f) = true
is_sized done = false
is_sized version = false
is_sized variable_list = false
is_sized group_list = false
is_sized (member_list g) = false
is_sized curve_list = false
is_sized function_list = false

-- SIZE is the number of bytes that follow
abbrev pub is_whole : List ℕ → Bool
is_whole m = leb 3 (length m) && eqb (word_at m 1) (length m - 3)

pub data Hearing : Type 0 where
  hears : Heard → Hearing
  refused : Refusal → Hearing

module _ (x : Learned) (w : Wanted) where
  -- a message whose SIZE is right: its code and payload
  abbrev pub fits_wanted : ℕ → List ℕ → Bool
  fits_wanted c p = error_reply c p || answers x w c p

  abbrev pub heard_in : ℕ → List ℕ → Heard
  heard_in c p = cond (error_reply c p) (is_error (error_of c)) (tells x w c p)

  -- "A reply fits if its request wasn't multicast, its destination is 0 and it is either .."
  abbrev pub fits : (destination : ℕ) → List ℕ → Bool
  fits to q = not (is_multicast to) && eqb (byte_at q 0) 0 && is_whole (message q) && fits_wanted (byte_at (message q) 0) (drop 3 (message q))

  abbrev pub hearing_tests : (destination : ℕ) → List ℕ → List (Test Refusal)
  hearing_tests to q =
      test 1 BoardUnusable (is_sized w && not (usable_learned x))
      ∷ test 2 BadAddress (not (is_address to))
      ∷ test 4 PacketLength (ltb (length q) 2 || ltb 4104 (length q))
      ∷ test 5 Checksum (not (eqb (sum q % 256) 0))
      ∷ test 13 ReplyUnfit (not (fits to q))
      ∷ []

-- a reply to a request that went to this destination
unfoldable pub hearing : Learned → (destination : ℕ) → Request → List ℕ → Hearing
hearing x to r q =
    first (hearing_tests x (wanted x r) to q) Hearing.refused (hears (heard_in x (wanted x r) (byte_at (message q) 0) (drop 3 (message q))))

-- what is expected of an answer: the error that the node names, or what it holds
abbrev pub expected : Check → Heard → Heard
expected (Err e) h = is_error e
expected (Ok _) h = h

-- how a packet's ending is understood; a function is run first, and its result is heard later
abbrev pub Understood : Learned → (destination : ℕ) → Request → (d : List ℕ) → Heard → Ending → Type 0
Understood x to r d h (reply q) = hearing x to r q ≡ hears h
Understood x to r d h silence = ⊥
Understood x to r d h (run f i due) = (r ≡ RunFunction f) × ((i ≡ d) × (due ≡ true))
Understood x to r d h (Ending.refused n) = ⊥

-- how the code says it: the bytes stand in the reply, a value's, a sum's and an output's from place 4 on, a block's from place 7 on
abbrev pub told_of : Hearing → Result Told Refusal
told_of (hears (is_error e)) = Ok (T.Error e)
told_of (hears is_done) = Ok T.Done
told_of (hears (is_version p)) = Ok T.Version
told_of (hears (is_variables vs)) = Ok (T.Variables (length vs))
told_of (hears (is_groups gs)) = Ok (T.Groups (length gs))
told_of (hears (is_members g is)) = Ok (T.Members (length is))
told_of (hears (is_curves cs)) = Ok (T.Curves (length cs))
told_of (hears (is_functions fs)) = Ok (T.Functions (length fs))
told_of (hears (is_values vs)) = Ok (T.Values (sum (map (λ v. length v.bytes) vs)))
told_of (hears (is_block c k d)) = Ok (T.Block (length d))
told_of (hears (is_sum c d)) = Ok T.Sum
told_of (hears (is_result f (gave out))) = Ok (T.Output (length out))
told_of (hears (is_result f (failed e))) = Ok (T.Failed e)
told_of (Hearing.refused n) = Err n
