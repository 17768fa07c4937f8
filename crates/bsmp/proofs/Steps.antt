-- Every message's tests stand in 01's order, and each step has 01's code; so do every entry's local refusals. Assumes nothing.
use mathlib.Core.Path.{◌≡◌, refl, ap, ◌∙◌}
use mathlib.Core.Bool.{Bool, true, cond}
use mathlib.Core.List.{List, [], ◌∷◌, ◌++◌, map}
use Prim.Native.Nat.{ℕ}
use lib.Dec.{eqb}
use lib.IntN.{ℤ}
use lib.ListN.{length, get_or}
use Rattle.bsmp.specs.Base.{Test, first, ascending}
use Rattle.bsmp.specs.Codes.{error_code, refusal_number}
use Rattle.bsmp.specs.Board.{Table, Layout, layout, State, full, fresh, faults}
use Rattle.bsmp.specs.Message.{line, tests_of, form_tests, writes_variable, writes_group, edit, after}
use Rattle.bsmp.specs.Packet.{Place, silence, refuse, is_own, destination, message, ends, place_tests, packet_tests, served, packet, Ran, ran_says, result_tests, function_result, store_tests, board_store, fresh_board}
use Rattle.bsmp.specs.Number.{number_of, bytes_of, is_big, kind_at, reading_tests, range_tests, Reading, is, reading, Written, bytes, writing}
use Rattle.bsmp.specs.declared.VariableNumber.{VariableNumber}
use Rattle.bsmp.specs.declared.FunctionNumber.{FunctionNumber}
use Rattle.bsmp.specs.declared.Variable.{Variable}
use Rattle.bsmp.specs.declared.Operation.TheVariants.{Replace}
use Rattle.bsmp.specs.declared.Refusal.{Refusal}
use Rattle.bsmp.specs.declared.WireError.{WireError}
use Rattle.bsmp.specs.declared.Command.{Command}
use Rattle.bsmp.specs.declared.Command.TheVariants.{Version, ListVariables, ListGroups, ShowGroup, ListCurves, ReadSum, ListFunctions, ReadVariable, ReadGroup, WriteVariable, WriteGroup}
use Rattle.bsmp.specs.declared.Command.TheVariants.{MaskVariable, MaskGroup, WriteRead, MakeGroup, RemoveGroups, ReadBlock, WriteBlock, RenewSum, RunFunction, Unknown}

-- 01's list: the code of each step, from step 1 on
abbrev pub step_codes : List ℕ
step_codes = 0 ∷ 0xE1 ∷ 0xE2 ∷ 0xE5 ∷ 0xE3 ∷ 0xE2 ∷ 0xE4 ∷ 0xE5 ∷ 0xE6 ∷ 0xE8 ∷ 0xE7 ∷ []

-- the tests are in order, and each has its step's code
abbrev pub Ordered : List (Test WireError) → Type 0
Ordered ts = (ascending (map (λ u. u.step) ts) ≡ true) × (map (λ u. error_code u.error) ts ≡ map (λ u. get_or step_codes u.step 0) ts)

pub ordered : (l : Layout) (gs : List ℕ) (busy : ℕ) (m p : List ℕ) (k : Command) → Ordered (form_tests m ++ tests_of (line l gs p k) busy)
unfolding line writes_variable writes_group
ordered l gs busy m p = elim [
  | Version ↦ (refl, refl)
  | ListVariables ↦ (refl, refl)
  | ListGroups ↦ (refl, refl)
  | ShowGroup ↦ (refl, refl)
  | ListCurves ↦ (refl, refl)
  | ReadSum ↦ (refl, refl)
  | ListFunctions ↦ (refl, refl)
  | ReadVariable ↦ (refl, refl)
  | ReadGroup ↦ (refl, refl)
  | WriteVariable ↦ (refl, refl)
  | WriteGroup ↦ (refl, refl)
  | MaskVariable ↦ (refl, refl)
  | MaskGroup ↦ (refl, refl)
  | WriteRead ↦ (refl, refl)
  | MakeGroup ↦ (refl, refl)
  | RemoveGroups ↦ (refl, refl)
  | ReadBlock ↦ (refl, refl)
  | WriteBlock ↦ (refl, refl)
  | RenewSum ↦ (refl, refl)
  | RunFunction ↦ (refl, refl)
  | Unknown ↦ (refl, refl)
]

-- local refusals ----------------------------------------------------------------------------------------------------------------
-- "Smallest number first, except that 11 comes before 10"
abbrev pub rank : ℕ → ℕ
rank n = cond (eqb n 11) 10 (cond (eqb n 10) 11 n)

-- the tests are in that order, and each has its refusal's number
abbrev pub InOrder : List (Test Refusal) → Type 0
InOrder ts = (ascending (map (λ u. rank u.step) ts) ≡ true) × (map (λ u. u.step) ts ≡ map (λ u. refusal_number u.error) ts)

-- an entry is its work behind one list of tests in order
pub record Behind {B : Type 0} (outcome : B) (tests : List (Test Refusal)) (refusal : Refusal → B) (work : B) : Type 0 where
  pub by_tests : outcome ≡ first tests refusal work
  pub in_order : InOrder tests

first_append : {B : Type 0} (ts us : List (Test Refusal)) (f : Refusal → B) (x : B) → first ts f (first us f x) ≡ first (ts ++ us) f x
unfolding first
first_append [] us f x = refl
first_append (t ∷ ts) us f x = ap (cond t.broken (f t.error)) (first_append ts us f x)

pub packet_order : (t : Table) (a : Place) (busy room : ℕ) (p : List ℕ) (s : State)
    → Behind (packet t a busy room p s) (faults t s ++ place_tests a room ++ packet_tests a p) (refuse s) (served (layout t) busy (is_own a (destination p)) (message p) s)
unfolding packet faults
packet_order t a busy room p s = record {
  by_tests = ap (first (faults t s) (refuse s)) (first_append (place_tests a room) (packet_tests a p) (refuse s) _)
      ∙ first_append (faults t s) (place_tests a room ++ packet_tests a p) (refuse s) _;
  in_order = (refl, refl);
}

pub result_order : (t : Table) (room : ℕ) (f : FunctionNumber) (due : Bool) (r : Ran) (s : State)
    → Behind (function_result t room f due r s) (faults t s ++ result_tests (layout t) room f r) (refuse s) (record { ending = ends due (ran_says r); state = s })
unfolding function_result faults
result_order t room f due r s = record { by_tests = first_append (faults t s) (result_tests (layout t) room f r) (refuse s) _; in_order = (refl, refl) }

pub store_order : (t : Table) (i : VariableNumber) (b : List ℕ) (s : State)
    → Behind (board_store t i b s) (faults t s ++ store_tests (layout t) i b) (refuse s) (record { ending = silence; state = after (edit Replace (i ∷ []) (b ∷ [])) s })
unfolding board_store faults
store_order t i b s = record { by_tests = first_append (faults t s) (store_tests (layout t) i b) (refuse s) _; in_order = (refl, refl) }

pub fresh_order : (t : Table) (s : State) → Behind (fresh_board t s) (faults t (full (layout t) s)) (refuse s) (record { ending = silence; state = fresh (layout t) s })
unfolding fresh_board faults
fresh_order t s = record { by_tests = refl; in_order = (refl, refl) }

pub reading_order : (vs : List Variable) (i : VariableNumber) (signed : Bool) (bs : List ℕ)
    → Behind (reading vs i signed bs) (reading_tests vs i signed (length bs)) Reading.refused (is (number_of signed (is_big (kind_at vs i)) bs))
unfolding reading
reading_order vs i signed bs = record { by_tests = refl; in_order = (refl, refl) }

pub writing_order : (vs : List Variable) (i : VariableNumber) (signed : Bool) (z : ℤ) (room : ℕ)
    → Behind (writing vs i signed z room) (reading_tests vs i signed room ++ range_tests signed room z) Written.refused (bytes (bytes_of (is_big (kind_at vs i)) room z))
unfolding writing
writing_order vs i signed z room = record { by_tests = first_append (reading_tests vs i signed room) (range_tests signed room z) Written.refused _; in_order = (refl, refl) }
