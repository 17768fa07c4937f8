-- A message: what it asks for, the first error that it meets, what it changes and what is said to it. Nothing here knows how
-- the message came: addresses and checksums stand above, in Packet. Assumes nothing.
use Rattle.std.specs.Prelude.{Bool, true, false, cond, not, ◌||◌, List, [], ◌∷◌, ◌++◌, map, ℕ, ◌+◌, ◌-◌, ◌*◌, leb, ltb, eqb, length, drop, set, get_or, Ok, Err}
use Rattle.std.specs.Int.Bits.{bit_and, bit_or, bit_xor}
use Rattle.bsmp.specs.Base.{up_from, some, join, cut, ascending, within, bit, byte_at, word_at, word, Test, test, first}
use Rattle.bsmp.specs.Codes.{command_of, operation_of, no_operation, error_code, Check, Pass, Fail}
use Rattle.rfc1321.specs.Md5.{digest}
use Rattle.bsmp.specs.Board.{variable, group, curve, function, Layout, State, with_values, with_blocks, with_lengths, with_sums, with_groups, block_of, sum_of, content_of, contents_of, is_writable, size_of, marked}
use Rattle.bsmp.specs.Board.{members, group_bytes, writable_group, group_count, set_of, curve_of, block_place, function_of}
use Rattle.bsmp.specs.declared.VariableNumber.{VariableNumber}
use Rattle.bsmp.specs.declared.GroupNumber.{GroupNumber}
use Rattle.bsmp.specs.declared.CurveNumber.{CurveNumber}
use Rattle.bsmp.specs.declared.FunctionNumber.{FunctionNumber}
use Rattle.bsmp.specs.declared.Curve.{Curve}
use Rattle.bsmp.specs.declared.Command.{Command}
use Rattle.bsmp.specs.declared.Command.TheVariants.{Version, ListVariables, ListGroups, ShowGroup, ListCurves, ReadSum, ListFunctions, ReadVariable, ReadGroup, WriteVariable, WriteGroup}
use Rattle.bsmp.specs.declared.Command.TheVariants.{MaskVariable, MaskGroup, WriteRead, MakeGroup, RemoveGroups, ReadBlock, WriteBlock, RenewSum, RunFunction, Unknown}
use Rattle.bsmp.specs.declared.Operation.{Operation}
use Rattle.bsmp.specs.declared.Operation.TheVariants.{Replace, TurnOn, TurnOff, Invert, KeepOnly, Other}
use Rattle.bsmp.specs.declared.WireError.{WireError}
use Rattle.bsmp.specs.declared.WireError.TheVariants.{Malformed, Unsupported, BadId, BadValue, BadSize, ReadOnly, Full, Busy}

-- what is done about a message: one change of the state, and one answer out of the state after it -------------------------
pub data Change : Type 0 where
  nothing : Change
  -- each of these variables is changed, byte by byte, by the bytes given for it
  edit : Operation → List VariableNumber → List (List ℕ) → Change
  -- the block at this place gets these first bytes, and their number as its length
  fill : ℕ → List ℕ → Change
  -- the sum of this curve, whose blocks begin at this place and are so many, is worked out anew
  renew : CurveNumber → (place count : ℕ) → Change
  -- these are the made groups from now on
  regroup : List ℕ → Change

pub data Answer : Type 0 where
  -- code and payload
  say : ℕ → List ℕ → Answer
  -- code, and the values of these variables
  tell : ℕ → List VariableNumber → Answer
  -- code, a beginning, and what the block at this place holds
  show : ℕ → List ℕ → ℕ → Answer
  -- code, and the sum of this curve
  attest : ℕ → CurveNumber → Answer
  -- function and input
  call : FunctionNumber → List ℕ → Answer

-- 01's list of wire errors: its ten steps, each with its code -------------------------------------------------------------
abbrev pub bad_message : Bool → Test WireError
bad_message = test 1 Malformed

abbrev pub bad_command : Bool → Test WireError
bad_command = test 2 Unsupported

abbrev pub bad_front : Bool → Test WireError
bad_front = test 3 BadSize

abbrev pub missing : Bool → Test WireError
missing = test 4 BadId

abbrev pub bad_operation : Bool → Test WireError
bad_operation = test 5 Unsupported

abbrev pub bad_place : Bool → Test WireError
bad_place = test 6 BadValue

abbrev pub bad_rest : Bool → Test WireError
bad_rest = test 7 BadSize

abbrev pub read_only : Bool → Test WireError
read_only = test 8 ReadOnly

abbrev pub is_busy : Bool → Test WireError
is_busy = test 9 Busy

abbrev pub is_full : Bool → Test WireError
is_full = test 10 Full

module _ (p : List ℕ) where
  abbrev pub size≠ : ℕ → Bool
  size≠ n = not (eqb (length p) n)

  abbrev pub size< : ℕ → Bool
  size< n = ltb (length p) n

  abbrev pub variable_at : ℕ → VariableNumber
  variable_at i = variable (byte_at p i)

  abbrev pub group_id_at : ℕ → GroupNumber
  group_id_at i = group (byte_at p i)

  abbrev pub curve_at : ℕ → CurveNumber
  curve_at i = curve (byte_at p i)

  abbrev pub function_at : ℕ → FunctionNumber
  function_at i = function (byte_at p i)

-- "any variable, group, curve or function named that doesn't exist"
abbrev pub no_variable : Layout → VariableNumber → Bool
no_variable l i = not (ltb i.0 (length l.sizes))

abbrev pub no_group : List ℕ → GroupNumber → Bool
no_group gs g = not (ltb g.0 (group_count gs))

abbrev pub no_curve : Layout → CurveNumber → Bool
no_curve l c = not (ltb c.0 (length l.curves))

abbrev pub no_function : Layout → FunctionNumber → Bool
no_function l f = not (ltb f.0 (length l.functions))

-- tests that commands share: no payload; one variable or one group to be written, named first, its bytes from n on; a block --
abbrev pub no_payload : List ℕ → List (Test WireError)
no_payload p = bad_front (size≠ p 0) ∷ []

unfoldable pub writes_variable : Layout → List ℕ → ℕ → List (Test WireError)
writes_variable l p n =
    bad_rest (size≠ p (n + size_of l (variable_at p 0)))
    ∷ read_only (not (marked l.writable (variable_at p 0)))
    ∷ []

unfoldable pub writes_group : Layout → List ℕ → List ℕ → ℕ → List (Test WireError)
writes_group l gs p n =
    bad_rest (size≠ p (n + group_bytes l gs (group_id_at p 0)))
    ∷ read_only (not (writable_group l gs (group_id_at p 0)))
    ∷ []

-- 02, 2026-02: "E5 then E3"
abbrev pub names_curve : Layout → List ℕ → List (Test WireError)
names_curve l p = bad_front (size≠ p 1) ∷ missing (no_curve l (curve_at p 0)) ∷ []

abbrev pub block_missing : Layout → List ℕ → Bool
block_missing l p = not (ltb (word_at p 1) (curve_of l (curve_at p 0)).blocks)

-- "top bit 1 if writable, low seven the size"
abbrev pub listed : Bool → ℕ → ℕ
listed writable n = cond writable 128 0 + n

unfoldable pub variable_list : Layout → List ℕ
variable_list l = map (λ i. listed (marked l.writable (variable i)) (size_of l (variable i))) (up_from 0 (length l.sizes))

unfoldable pub group_list : Layout → List ℕ → List ℕ
group_list l gs = map (λ g. listed (writable_group l gs (group g)) (length (members l gs (group g)))) (up_from 0 (group_count gs))

-- "per curve type (0, 1), block size in two bytes, blocks in two (65,536 as 0)"
abbrev pub curve_record : Curve → List ℕ
curve_record c = bit (is_writable c.writable) ∷ word c.size ++ word c.blocks

unfoldable pub curve_list : Layout → List ℕ
curve_list l = join (map curve_record l.curves)

-- "input count in the high four bits, output in the low four"
unfoldable pub function_list : Layout → List ℕ
function_list l = map (λ f. f.input * 16 + f.output) l.functions

-- 01's table of commands --------------------------------------------------------------------------------------------------
-- a command: what it must pass first, in 01's order; whether it finds no place for a new group; what it changes; what it answers
pub record Line : Type 0 where
  pub tests : List (Test WireError)
  pub full : Bool
  pub change : Change
  pub answer : Answer

-- the variables that a change writes, those whose values an answer tells, and both of a command
abbrev pub written : Change → List VariableNumber
written nothing = []
written (edit op is ps) = is
written (fill k d) = []
written (renew c k n) = []
written (regroup gs) = []

abbrev pub told : Answer → List VariableNumber
told (say c p) = []
told (tell c is) = is
told (show c front k) = []
told (attest c n) = []
told (call f i) = []

abbrev pub touched : Line → List VariableNumber
touched n = told n.answer ++ written n.change

-- "a variable to be written is busy", and by 02, 2026-01, one to be read too: after those tests, for every command alike, and "five
-- groups made already" last
abbrev pub last_tests : (busy full : Bool) → List (Test WireError)
last_tests busy full = is_busy busy ∷ is_full full ∷ []

abbrev pub tests_of : Line → (busy : ℕ) → List (Test WireError)
tests_of n busy = n.tests ++ last_tests (some (marked busy) (touched n)) n.full

abbrev pub done : Answer
done = say 0xE0 []

-- a command that changes nothing; one without payload too; one that answers E0
abbrev pub looks : List (Test WireError) → Answer → Line
looks ts a = record { tests = ts; full = false; change = nothing; answer = a }

abbrev pub asks : List ℕ → Answer → Line
asks p a = looks (no_payload p) a

abbrev pub does : List (Test WireError) → Change → Line
does ts c = record { tests = ts; full = false; change = c; answer = done }

module _ (l : Layout) (gs : List ℕ) (p : List ℕ) where
  abbrev pub group_members : List VariableNumber
  group_members = members l gs (group_id_at p 0)

  -- the bytes from n on: all for the variable named first, or cut up for the group's members
  abbrev pub edit_variable : Operation → ℕ → Change
  edit_variable op n = edit op (variable_at p 0 ∷ []) (drop n p ∷ [])

  abbrev pub edit_group : Operation → ℕ → Change
  edit_group op n = edit op group_members (cut (map (size_of l) group_members) (drop n p))

  unfoldable pub line : Command → Line
  line Version = asks p (say 0x01 (2 ∷ 20 ∷ 0 ∷ []))
  line ListVariables = asks p (say 0x03 (variable_list l))
  line ListGroups = asks p (say 0x05 (group_list l gs))
  line ShowGroup = looks (bad_front (size≠ p 1) ∷ missing (no_group gs (group_id_at p 0)) ∷ []) (say 0x07 (map (λ i. i.0) group_members))
  line ListCurves = asks p (say 0x09 (curve_list l))
  line ReadSum = looks (names_curve l p) (attest 0x0B (curve_at p 0))
  line ListFunctions = asks p (say 0x0D (function_list l))
  line ReadVariable = looks (bad_front (size≠ p 1) ∷ missing (no_variable l (variable_at p 0)) ∷ []) (tell 0x11 (variable_at p 0 ∷ []))
  line ReadGroup = looks (bad_front (size≠ p 1) ∷ missing (no_group gs (group_id_at p 0)) ∷ []) (tell 0x13 group_members)
  line WriteVariable = does (bad_front (size< p 1) ∷ missing (no_variable l (variable_at p 0)) ∷ writes_variable l p 1) (edit_variable Replace 1)
  line WriteGroup = does (bad_front (size< p 1) ∷ missing (no_group gs (group_id_at p 0)) ∷ writes_group l gs p 1) (edit_group Replace 1)
  line MaskVariable =
      does (bad_front (size< p 2) ∷ missing (no_variable l (variable_at p 0)) ∷ bad_operation (no_operation (byte_at p 1)) ∷ writes_variable l p 2)
      (edit_variable (operation_of (byte_at p 1)) 2)
  line MaskGroup =
      does (bad_front (size< p 2) ∷ missing (no_group gs (group_id_at p 0)) ∷ bad_operation (no_operation (byte_at p 1)) ∷ writes_group l gs p 2)
      (edit_group (operation_of (byte_at p 1)) 2)
  line WriteRead = record {
    tests = bad_front (size< p 2) ∷ missing (no_variable l (variable_at p 0) || no_variable l (variable_at p 1)) ∷ writes_variable l p 2;
    full = false;
    change = edit_variable Replace 2;
    answer = tell 0x11 (variable_at p 1 ∷ []);
  }
  line MakeGroup = record {
    tests = bad_front (size< p 1 || ltb (length l.sizes) (length p)) ∷ missing (some (λ i. no_variable l (variable i)) p) ∷ bad_place (not (ascending p)) ∷ [];
    full = leb 5 (length gs);
    change = regroup (gs ++ set_of l (map variable p) ∷ []);
    answer = done;
  }
  line RemoveGroups = does (no_payload p) (regroup [])
  line ReadBlock =
      looks (bad_front (size≠ p 3) ∷ missing (no_curve l (curve_at p 0)) ∷ bad_place (block_missing l p) ∷ [])
      (show 0x41 p (block_place l (curve_at p 0) (word_at p 1)))
  line WriteBlock =
      does
      (bad_front (size< p 3) ∷ missing (no_curve l (curve_at p 0)) ∷ bad_place (block_missing l p)
      ∷ bad_rest (not (within 1 (curve_of l (curve_at p 0)).size (length p - 3)))
      ∷ read_only (not (is_writable (curve_of l (curve_at p 0)).writable)) ∷ [])
      (fill (block_place l (curve_at p 0) (word_at p 1)) (drop 3 p))
  line RenewSum = does (names_curve l p) (renew (curve_at p 0) (block_place l (curve_at p 0) 0) (curve_of l (curve_at p 0)).blocks)
  line RunFunction =
      looks (bad_front (size< p 1) ∷ missing (no_function l (function_at p 0)) ∷ bad_rest (size≠ p (1 + (function_of l (function_at p 0)).input)) ∷ [])
      (call (function_at p 0) (drop 1 p))
  line Unknown = looks (bad_command true ∷ []) done

-- judged without looking at any value ------------------------------------------------------------------------------------
-- the first error of a command's tests
unfoldable pub check : Layout → List ℕ → ℕ → List ℕ → Command → Check
check l gs busy p k = first (tests_of (line l gs p k) busy) Fail Pass

-- "A message is command, SIZE in two bytes, then the payload"
abbrev pub message_of : ℕ → List ℕ → List ℕ
message_of code p = code ∷ word (length p) ++ p

-- "message under 3 bytes, or SIZE not the number of bytes that follow"
abbrev pub form_tests : List ℕ → List (Test WireError)
form_tests m = bad_message (ltb (length m) 3 || not (eqb (word_at m 1) (length m - 3))) ∷ []

unfoldable pub judge : Layout → List ℕ → ℕ → List ℕ → Check
judge l gs busy m = first (form_tests m) Fail (check l gs busy (drop 3 m) (command_of (byte_at m 0)))

-- what a message asks for
abbrev pub asked : Layout → List ℕ → List ℕ → Line
asked l gs m = line l gs (drop 3 m) (command_of (byte_at m 0))

-- an operation on a byte and its mask
unfoldable pub operated : Operation → ℕ → ℕ → ℕ
operated Replace old m = m
operated TurnOn old m = bit_or old m
operated TurnOff old m = bit_and old (255 - m)
operated Invert old m = bit_xor old m
operated KeepOnly old m = bit_and old m
operated Other old m = old

-- byte by byte, as far as the shorter goes
unfoldable pub changed : Operation → List ℕ → List ℕ → List ℕ
changed op [] ms = []
changed op (x ∷ xs) [] = []
changed op (x ∷ xs) (m ∷ ms) = operated op x m ∷ changed op xs ms

-- the values with these variables changed, each by its part
abbrev pub edited : Operation → List VariableNumber → List (List ℕ) → List (List ℕ) → List (List ℕ)
edited op [] ps vs = vs
edited op (i ∷ is) [] vs = vs
edited op (i ∷ is) (p ∷ ps) vs = edited op is ps (set vs i.0 (changed op (get_or vs i.0 []) p))

-- "a block write replaces as many of its first bytes as it carries"; by 02, 2026-03, it sets the block's length to their number, and by
-- 2026-02, "leaves [its curve's sum] stale"
abbrev pub filled : List ℕ → List ℕ → List ℕ
filled d block = d ++ drop (length d) block

unfoldable pub after : Change → State → State
after nothing s = s
after (edit op is ps) s = with_values s (edited op is ps s.values)
after (fill k d) s = with_lengths (with_blocks s (set s.blocks k (filled d (block_of s k)))) (set s.lengths k (length d))
after (renew c k n) s = with_sums s (set s.sums c.0 (digest (contents_of s k n)))
after (regroup gs) s = with_groups s gs

-- the values of these variables, one after another
unfoldable pub values_of : List (List ℕ) → List VariableNumber → List ℕ
values_of vs is = join (map (λ i. get_or vs i.0 []) is)

-- what is said to a message: a reply of this code and payload, or that a function is to be run on this input
pub data Said : Type 0 where
  replies : ℕ → List ℕ → Said
  runs : FunctionNumber → List ℕ → Said

unfoldable pub spoken : Answer → State → Said
spoken (say c p) s = replies c p
spoken (tell c is) s = replies c (values_of s.values is)
spoken (show c front k) s = replies c (front ++ content_of s k)
spoken (attest c n) s = replies c (sum_of s n)
spoken (call f i) s = runs f i

-- a message whose check gave v: the state after it ("an error changes values, curves and groups in no byte") ..
unfoldable pub state_after : Line → Check → State → State
state_after l (Err e) s = s
state_after l (Ok _) s = after l.change s

-- .. and what is said, out of that state ("wire errors, each an empty payload")
unfoldable pub said : Line → Check → State → Said
said l (Err e) s = replies (error_code e) []
said l (Ok _) s = spoken l.answer s

-- a message, judged and carried out
pub record Handled : Type 0 where
  pub says : Said
  pub state : State

unfoldable pub carried : Line → Check → State → Handled
carried l v s = record { says = said l v (state_after l v s); state = state_after l v s }

unfoldable pub handled : Layout → (busy : ℕ) → (message : List ℕ) → State → Handled
handled l busy m s = carried (asked l s.groups m) (judge l s.groups busy m) s
