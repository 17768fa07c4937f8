-- What the work of a message leaves, against what the definition gives. Assumes nothing.
use Rattle.std.specs.Prelude.{◌≡◌, Bool, true, false, List, ℕ, ◌≤◌, length, drop}
use Rattle.bsmp.specs.Base.{every}
use Rattle.bsmp.specs.Board.{Layout, State, is_type}
use Rattle.bsmp.specs.Codes.{Check}
use Rattle.bsmp.specs.Message.{line, asked, said, spoken, state_after, handled}
use Rattle.bsmp.specs.Store.{Lent, held}
use Rattle.bsmp.specs.declared.Command.{Command}
use Rattle.bsmp.specs.declared.Command.TheVariants.{Version, ListVariables, ListGroups, ShowGroup, ListCurves, ReadSum, ListFunctions, ReadVariable, ReadGroup, WriteVariable, WriteGroup}
use Rattle.bsmp.specs.declared.Command.TheVariants.{MaskVariable, MaskGroup, WriteRead, MakeGroup, RemoveGroups, ReadBlock, WriteBlock, RenewSum, RunFunction, Unknown}
use Rattle.records.specs.Lending.{writable_marks}
use Rattle.judging.specs.Judging.{lent_layout, SoundBoard}
use Rattle.changes.specs.Changes.{LeftAs}
use Rattle.changes.specs.declared.Regroup.{Regroup}
use Rattle.answers.specs.Answers.{spoken_of, Spoke}
use Rattle.answers.specs.declared.Spoken.{Spoken}
use Rattle.serve.specs.declared.Columns.{Columns}

-- whether a command looks at which variables are writable: those that list or write variables, and those that look into a group, since
-- groups 1 and 2 are the read-only variables and the writable ones
abbrev pub looks_at_types : Command → Bool
looks_at_types Version = false
looks_at_types ListVariables = true
looks_at_types ListGroups = true
looks_at_types ShowGroup = true
looks_at_types ListCurves = false
looks_at_types ReadSum = false
looks_at_types ListFunctions = false
looks_at_types ReadVariable = false
looks_at_types ReadGroup = true
looks_at_types WriteVariable = true
looks_at_types WriteGroup = true
looks_at_types MaskVariable = true
looks_at_types MaskGroup = true
looks_at_types WriteRead = true
looks_at_types MakeGroup = false
looks_at_types RemoveGroups = false
looks_at_types ReadBlock = false
looks_at_types WriteBlock = false
looks_at_types RenewSum = false
looks_at_types RunFunction = false
looks_at_types Unknown = false

-- types as a usable board has them
pub record SoundTypes (types : List ℕ) : Type 0 where
  pub few : length types ≤ 64
  pub each : every is_type types ≡ true

-- the marks of the writable variables, for a command that looks at them
pub record MarksFor (k : Command) (types : List ℕ) (w : ℕ) : Type 0 where
  pub marks : looks_at_types k ≡ true → w ≡ writable_marks types

-- the layout of what is lent, with types in the place of marks
abbrev pub typed_layout : (sizes types curves functions : List ℕ) → Layout
typed_layout ns ws cs fs = lent_layout ns (writable_marks ws) cs fs

-- the same of the columns that are lent
abbrev pub columns_in : Columns → Layout
columns_in c = typed_layout c.sizes.now c.types.now c.curves.now c.functions.now

-- a message carried out: x was lent, y is left of it, as sound as x was, and g becomes of the made groups
pub record CarriedOut (l : Layout) (m : List ℕ) (v : Check) (x : Lent) (g : Regroup) (y : Lent) : Type 0 where
  pub leaves : LeftAs l (state_after (asked l x.groups m) v (held l x)) g y
  pub sound : SoundBoard l y

-- what is said to a command, and to a message, where no answer is due, on any board
pub record Quiet (k : Command) (m : List ℕ) (s : Spoken) : Type 0 where
  pub is : (l : Layout) (gs : List ℕ) (st : State) → s ≡ spoken_of false (spoken (line l gs (drop 3 m) k).answer st)

pub record Unanswered (v : Check) (m : List ℕ) (s : Spoken) : Type 0 where
  pub is : (l : Layout) (gs : List ℕ) (st : State) → s ≡ spoken_of false (said (asked l gs m) v st)

-- a message that was judged v, carried out and answered out of what that leaves
pub record Fulfilled (due : Bool) (l : Layout) (m : List ℕ) (v : Check) (x : Lent) (r : List ℕ) (at : ℕ)
    (s : Spoken) (g : Regroup) (r' : List ℕ) (y : Lent) : Type 0 where
  pub carried : CarriedOut l m v x g y
  pub spoke : Spoke due (said (asked l x.groups m) v (held l y)) r at s r'

-- what the work of a message leaves: what is said stands in the buffer from `at` on, and y and g are what the definition gives
pub record ServedAs (due : Bool) (l : Layout) (busy : ℕ) (m : List ℕ) (x : Lent) (r : List ℕ) (at : ℕ)
    (s : Spoken) (g : Regroup) (r' : List ℕ) (y : Lent) : Type 0 where
  pub spoke : Spoke due (handled l busy m (held l x)).says r at s r'
  pub leaves : LeftAs l (handled l busy m (held l x)).state g y
