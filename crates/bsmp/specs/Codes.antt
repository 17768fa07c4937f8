-- 01's numbers for commands, operations, wire errors and local refusals, and ours for kinds. Assumes nothing.
use Rattle.std.specs.Prelude.{Bool, true, false, cond, List, [], ◌∷◌, ℕ, eqb, Result, Ok, Err}
use Rattle.bsmp.specs.declared.Command.{Command}
use Rattle.bsmp.specs.declared.Command.TheVariants.{Version, ListVariables, ListGroups, ShowGroup, ListCurves, ReadSum, ListFunctions, ReadVariable, ReadGroup, WriteVariable, WriteGroup}
use Rattle.bsmp.specs.declared.Command.TheVariants.{MaskVariable, MaskGroup, WriteRead, MakeGroup, RemoveGroups, ReadBlock, WriteBlock, RenewSum, RunFunction, Unknown}
use Rattle.bsmp.specs.declared.Operation.{Operation}
use Rattle.bsmp.specs.declared.Operation.TheVariants.{Replace, TurnOn, TurnOff, Invert, KeepOnly, Other}
use Rattle.bsmp.specs.declared.Kind.{Kind}
use Rattle.bsmp.specs.declared.Kind.TheVariants as K
use Rattle.bsmp.specs.declared.WireError.{WireError}
use Rattle.bsmp.specs.declared.WireError.TheVariants.{Malformed, Unsupported, BadId, BadValue, BadSize, ReadOnly, Full, Busy}
use Rattle.bsmp.specs.declared.Refusal.{Refusal}
use Rattle.bsmp.specs.declared.Refusal.TheVariants.{BoardUnusable, BadAddress, ReplyBufferShort, PacketLength, Checksum, NotForThisBoard}
use Rattle.bsmp.specs.declared.Refusal.TheVariants.{NoSuchFunction, OutputLength, NoSuchVariable, WrongByteCount, WrongKind, DoesNotFit, ReplyUnfit, RequestUnwritable}

-- what stands beside a number in a table, or the one that stands for all other numbers
abbrev pub coded : {A : Type 0} → List (ℕ × A) → A → ℕ → A
coded [] other n = other
coded (x ∷ xs) other n = cond (eqb n x.0) x.1 (coded xs other n)

-- "The command codes are these and no others", with 02's 0A and 42 (2026-02)
abbrev pub commands : List (ℕ × Command)
commands =
    (0x00, Version) ∷ (0x02, ListVariables) ∷ (0x04, ListGroups) ∷ (0x06, ShowGroup) ∷ (0x08, ListCurves) ∷ (0x0A, ReadSum) ∷ (0x0C, ListFunctions)
    ∷ (0x10, ReadVariable) ∷ (0x12, ReadGroup)
    ∷ (0x20, WriteVariable) ∷ (0x22, WriteGroup) ∷ (0x24, MaskVariable) ∷ (0x26, MaskGroup) ∷ (0x28, WriteRead)
    ∷ (0x30, MakeGroup) ∷ (0x32, RemoveGroups)
    ∷ (0x40, ReadBlock) ∷ (0x41, WriteBlock) ∷ (0x42, RenewSum)
    ∷ (0x50, RunFunction)
    ∷ []

unfoldable pub command_of : ℕ → Command
command_of = coded commands Unknown

-- "53 set and 4F or turn on the mask's bits; 43 clear turns them off; 54 toggle and 58 xor invert them; 41 and keeps only them"
abbrev pub operations : List (ℕ × Operation)
operations = (0x53, TurnOn) ∷ (0x4F, TurnOn) ∷ (0x43, TurnOff) ∷ (0x54, Invert) ∷ (0x58, Invert) ∷ (0x41, KeepOnly) ∷ []

unfoldable pub operation_of : ℕ → Operation
operation_of = coded operations Other

abbrev pub is_other : Operation → Bool
is_other Replace = false
is_other TurnOn = false
is_other TurnOff = false
is_other Invert = false
is_other KeepOnly = false
is_other Other = true

-- "operation not one of the six"
unfoldable pub no_operation : ℕ → Bool
no_operation o = is_other (operation_of o)

-- "plain bytes, unsigned or signed; big or little endian": a record has it as a number from 0 to 4
abbrev pub kinds : List (ℕ × Kind)
kinds = (0, K.Plain) ∷ (1, K.Number false true) ∷ (2, K.Number false false) ∷ (3, K.Number true true) ∷ (4, K.Number true false) ∷ []

unfoldable pub kind_of : ℕ → Kind
kind_of = coded kinds K.Unknown

-- a message passes all its tests, or gets the first error
abbrev pub Check : Type 0
Check = Result (Unit {0}) WireError

abbrev pub Pass : Check
Pass = Ok tt

abbrev pub Fail : WireError → Check
Fail = Err

abbrev pub error_code : WireError → ℕ
error_code Malformed = 0xE1
error_code Unsupported = 0xE2
error_code BadId = 0xE3
error_code BadValue = 0xE4
error_code BadSize = 0xE5
error_code ReadOnly = 0xE6
error_code Full = 0xE7
error_code Busy = 0xE8

abbrev pub refusal_number : Refusal → ℕ
refusal_number BoardUnusable = 1
refusal_number BadAddress = 2
refusal_number ReplyBufferShort = 3
refusal_number PacketLength = 4
refusal_number Checksum = 5
refusal_number NotForThisBoard = 6
refusal_number NoSuchFunction = 7
refusal_number OutputLength = 8
refusal_number NoSuchVariable = 9
refusal_number WrongByteCount = 10
refusal_number WrongKind = 11
refusal_number DoesNotFit = 12
-- 02, 2026-04: "13 reply doesn't fit the request, .. 14 request can't be written"
refusal_number ReplyUnfit = 13
refusal_number RequestUnwritable = 14
