-- How the code learns: an answer by its request and payload, taken into the table's places. Assumes nothing.
use Rattle.std.specs.Prelude.{◌≡◌, Result, List, [], ◌∷◌, map, ℕ, ◌*◌, ◌/◌, ◌%◌, ◌≤◌, length}
use Rattle.bsmp.specs.Base.{join}
use Rattle.bsmp.specs.declared.Curve.{Curve}
use Rattle.bsmp.specs.declared.Refusal.{Refusal}
use Rattle.asking.specs.Learned.{Learned, curves_from}
use Rattle.asking.specs.Reply.{hearing, told_of, tells, wanted}
use Rattle.asking.specs.Learning.{taught, learning}
use Rattle.asking.specs.declared.Request.{Request}
use Rattle.asking.specs.declared.Request.TheVariants.{Version, ListVariables, ListGroups, ShowGroup, ListCurves, ReadSum, ListFunctions, ReadVariable, ReadGroup, WriteVariable, WriteGroup}
use Rattle.asking.specs.declared.Request.TheVariants.{MaskVariable, MaskGroup, WriteRead, MakeGroup, RemoveGroups, ReadBlock, WriteBlock, RenewSum, RunFunction}
use Rattle.asking.specs.declared.Told.{Told}

-- the numbers of the curves' places, and of the functions'
abbrev pub curves_taken : List Curve → List ℕ
curves_taken cs = join (map (λ c. c.writable ∷ c.size ∷ c.blocks ∷ []) cs)

abbrev pub functions_taken : List ℕ → List ℕ
functions_taken bs = join (map (λ b. b / 16 ∷ b % 16 ∷ []) bs)

-- what an answer teaches, by its payload; its code counts for nothing
abbrev pub taught_by : Learned → Request → (bytes payload : List ℕ) → Learned
taught_by x r d p = taught x r d (tells x (wanted x r) 0 p)

-- the payload of an answer has room in the table
abbrev pub Answers : Request → List ℕ → Type 0
Answers ListVariables p = length p ≤ 64
Answers ListGroups p = 3 ≤ length p
Answers ListCurves p = (length p ≤ 40) × (5 * length (curves_from p) ≡ length p)
Answers ListFunctions p = length p ≤ 16
Answers Version p = Unit {0}
Answers (ShowGroup g) p = Unit {0}
Answers (ReadSum c) p = Unit {0}
Answers (ReadVariable i) p = Unit {0}
Answers (ReadGroup g) p = Unit {0}
Answers (WriteVariable i) p = Unit {0}
Answers (WriteGroup g) p = Unit {0}
Answers (MaskVariable i o) p = Unit {0}
Answers (MaskGroup g o) p = Unit {0}
Answers (WriteRead i j) p = Unit {0}
Answers MakeGroup p = Unit {0}
Answers RemoveGroups p = Unit {0}
Answers (ReadBlock c k) p = Unit {0}
Answers (WriteBlock c k) p = Unit {0}
Answers (RenewSum c) p = Unit {0}
Answers (RunFunction f) p = Unit {0}

-- what a call leaves: what was told, and the table
pub record HeardLeft : Type 0 where
  pub told : Result Told Refusal
  pub table : Learned

abbrev pub heard_left : Result Told Refusal → Learned → HeardLeft
heard_left t x = record { told = t; table = x }

unfoldable pub heard_of : Learned → (destination : ℕ) → Request → (bytes reply : List ℕ) → HeardLeft
heard_of x to r d q = heard_left (told_of (hearing x to r q)) (learning x r d (hearing x to r q))
