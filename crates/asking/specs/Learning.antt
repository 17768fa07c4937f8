-- Learning a node's table from its lists, and following 30 and 32 (02, 2026-04); what a request is meant to change; numbers. Assumes nothing.
use Rattle.std.specs.Prelude.{Bool, cond, not, ◌&&◌, List, [], ◌∷◌, ◌++◌, map, ℕ, suc, ◌+◌, ◌-◌, leb, ltb, eqb, length, take, drop}
use Rattle.bsmp.specs.Base.{up_from, every, cut, bit, marks_of}
use Rattle.bsmp.specs.Board.{variable, group, Table, Layout, State, size_of, members, set_of, curve_of, block_place}
use Rattle.bsmp.specs.Message.{Change, nothing, edit, fill, renew, regroup, no_variable}
use Rattle.bsmp.specs.Packet.{Place, Ending, reply, silence, run, packed, packet}
use Rattle.bsmp.specs.declared.VariableNumber.{VariableNumber}
use Rattle.bsmp.specs.declared.GroupNumber.{GroupNumber}
use Rattle.bsmp.specs.declared.Variable.{Variable}
use Rattle.bsmp.specs.declared.Curve.{Curve}
use Rattle.bsmp.specs.declared.Function.{Function}
use Rattle.bsmp.specs.declared.Operation.{Operation}
use Rattle.bsmp.specs.declared.Operation.TheVariants.{Replace, TurnOn, TurnOff, Invert, KeepOnly}
use Rattle.bsmp.specs.declared.Refusal.TheVariants.{ReplyUnfit}
use Rattle.asking.specs.Request.{fields_of, message_for}
use Rattle.asking.specs.Learned.{Learned, Slot, variable_slots}
use Rattle.asking.specs.Reply.{Heard, is_error, is_done, is_version, is_variables, is_groups, is_members, is_curves, is_functions, is_values, is_block, is_sum, is_result, Hearing, hears, hearing}
use Rattle.asking.specs.declared.Masking.{Masking}
use Rattle.asking.specs.declared.Masking.TheVariants.{Set, Or, Clear, Toggle, Xor, And}
use Rattle.asking.specs.declared.Request.{Request}
use Rattle.asking.specs.declared.Request.TheVariants.{Version, ListVariables, ListGroups, ShowGroup, ListCurves, ReadSum, ListFunctions, ReadVariable, ReadGroup, WriteVariable, WriteGroup}
use Rattle.asking.specs.declared.Request.TheVariants.{MaskVariable, MaskGroup, WriteRead, MakeGroup, RemoveGroups, ReadBlock, WriteBlock, RenewSum, RunFunction}

-- nothing is learned yet
abbrev pub blank : Learned
blank = record { layout = record { sizes = []; writable = 0; curves = []; functions = [] }; groups = [] }

-- the same table with other made groups
abbrev pub with_made : Learned → List ℕ → Learned
with_made x gs = record { layout = x.layout; groups = gs }

-- 01's limits of a made group: "each a non-empty set of declared variables"
abbrev pub can_group : Layout → List VariableNumber → Bool
can_group l is = ltb 0 (length is) && every (λ i. not (no_variable l i)) is

-- the made groups with this one at place k, the next place included; a group that can't be there, or of more than 64 variables, is not learned
unfoldable pub regrouped : Learned → ℕ → List VariableNumber → List ℕ
regrouped x k is =
    cond (leb (length x.layout.sizes) 64 && leb k (length x.groups) && ltb k 5 && can_group x.layout is)
    (take k x.groups ++ set_of x.layout is ∷ drop (suc k) x.groups) x.groups

-- those of groups 0 to 2 are known by the variables' types
abbrev pub shown_groups : Learned → GroupNumber → List VariableNumber → List ℕ
shown_groups x g is = cond (leb 3 g.0) (regrouped x (g.0 - 3) is) x.groups

-- an accepted 30 makes a group, an accepted 32 leaves none
unfoldable pub followed : Learned → Request → (d : List ℕ) → Learned
followed x r d =
    with_made x
    (cond (eqb (fields_of r d).code 0x30) (regrouped x (length x.groups) (map variable d))
    (cond (eqb (fields_of r d).code 0x32) [] x.groups))

-- the lists are taken over; that of the variables forgets the made groups, which are sets of them, and that of the groups those past its end
abbrev pub with_variables : Learned → List Slot → Learned
with_variables x vs = record {
  layout = record { sizes = map (λ v. v.size) vs; writable = marks_of (map (λ v. v.writable) vs); curves = x.layout.curves; functions = x.layout.functions };
  groups = [];
}

abbrev pub with_curves : Learned → List Curve → Learned
with_curves x cs = record {
  layout = record { sizes = x.layout.sizes; writable = x.layout.writable; curves = cs; functions = x.layout.functions };
  groups = x.groups;
}

abbrev pub with_functions : Learned → List Function → Learned
with_functions x fs = record {
  layout = record { sizes = x.layout.sizes; writable = x.layout.writable; curves = x.layout.curves; functions = fs };
  groups = x.groups;
}

unfoldable pub taught : Learned → Request → (d : List ℕ) → Heard → Learned
taught x r d (is_error e) = x
taught x r d is_done = followed x r d
taught x r d (is_version p) = x
taught x r d (is_variables vs) = with_variables x vs
taught x r d (is_groups gs) = with_made x (take (length gs - 3) x.groups)
taught x r d (is_members g is) = with_made x (shown_groups x g is)
taught x r d (is_curves cs) = with_curves x cs
taught x r d (is_functions fs) = with_functions x fs
taught x r d (is_values vs) = x
taught x r d (is_block c k b) = x
taught x r d (is_sum c b) = x
taught x r d (is_result f ran) = x

-- the table after a reply: "a refusal changes nothing"
abbrev pub learning : Learned → Request → (d : List ℕ) → Hearing → Learned
learning x r d (hears h) = taught x r d h
learning x r d (Hearing.refused n) = x

-- a node asked for something and heard, with what is learned so far, and the table after that -----------------------------------
abbrev pub heard_ending : Learned → (destination : ℕ) → Request → Ending → Hearing
heard_ending x to r (reply q) = hearing x to r q
heard_ending x to r silence = Hearing.refused ReplyUnfit
heard_ending x to r (run f i due) = Hearing.refused ReplyUnfit
heard_ending x to r (Ending.refused n) = Hearing.refused ReplyUnfit

abbrev pub asks : Table → Place → (busy room : ℕ) → State → Learned → Request → (d : List ℕ) → Hearing
asks t a busy room s x r d = heard_ending x a.own r (packet t a busy room (packed a.own (message_for r d)) s).ending

abbrev pub learns : Table → Place → (busy room : ℕ) → State → Learned → Request → Learned
learns t a busy room s x r = learning x r [] (asks t a busy room s x r [])

-- one list after another; those of a node with so many made groups
abbrev pub learns_all : Table → Place → (busy room : ℕ) → State → Learned → List Request → Learned
learns_all t a busy room s x [] = x
learns_all t a busy room s x (r ∷ rs) = learns_all t a busy room s (learns t a busy room s x r) rs

abbrev pub lists : (made : ℕ) → List Request
lists n = ListVariables ∷ ListGroups ∷ map (λ k. ShowGroup (group (3 + k))) (up_from 0 n) ++ ListCurves ∷ ListFunctions ∷ []

-- what a request is meant to change -------------------------------------------------------------------------------------------
abbrev pub operation_for : Masking → Operation
operation_for Set = TurnOn
operation_for Or = TurnOn
operation_for Clear = TurnOff
operation_for Toggle = Invert
operation_for Xor = Invert
operation_for And = KeepOnly

unfoldable pub change_for : Layout → List ℕ → Request → (d : List ℕ) → Change
change_for l gs Version d = nothing
change_for l gs ListVariables d = nothing
change_for l gs ListGroups d = nothing
change_for l gs (ShowGroup g) d = nothing
change_for l gs ListCurves d = nothing
change_for l gs (ReadSum c) d = nothing
change_for l gs ListFunctions d = nothing
change_for l gs (ReadVariable i) d = nothing
change_for l gs (ReadGroup g) d = nothing
change_for l gs (WriteVariable i) d = edit Replace (i ∷ []) (d ∷ [])
change_for l gs (WriteGroup g) d = edit Replace (members l gs g) (cut (map (size_of l) (members l gs g)) d)
change_for l gs (MaskVariable i o) d = edit (operation_for o) (i ∷ []) (d ∷ [])
change_for l gs (MaskGroup g o) d = edit (operation_for o) (members l gs g) (cut (map (size_of l) (members l gs g)) d)
change_for l gs (WriteRead i j) d = edit Replace (i ∷ []) (d ∷ [])
change_for l gs MakeGroup d = regroup (gs ++ set_of l (map variable d) ∷ [])
change_for l gs RemoveGroups d = regroup []
change_for l gs (ReadBlock c k) d = nothing
change_for l gs (WriteBlock c k) d = fill (block_place l c k) d
change_for l gs (RenewSum c) d = renew c (block_place l c 0) (curve_of l c).blocks
change_for l gs (RunFunction f) d = nothing

-- numbers: "Kinds don't travel on the wire: the gateway supplies them" ----------------------------------------------------------
abbrev pub with_kinds : List ℕ → List Slot → List Variable
with_kinds [] vs = []
with_kinds (k ∷ ks) [] = []
with_kinds (k ∷ ks) (v ∷ vs) = record { writable = bit v.writable; size = v.size; kind = k } ∷ with_kinds ks vs

-- the records by which the gateway reads and writes numbers, with 01's reading rule as it stands (`reading` and `writing` of bsmp)
abbrev pub records_for : Learned → (kinds : List ℕ) → List Variable
records_for x ks = with_kinds ks (variable_slots x.layout)
