-- A function to be run: its input stands at place 5 of the packet. Assumes nothing.
use mathlib.Core.Path.{◌≡◌, refl, sym, ap, ◌∙◌}
use mathlib.Core.Bool.{Bool, true, false}
use mathlib.Core.List.{List, [], ◌∷◌}
use Prim.Native.Nat.{ℕ, zero, suc, ◌-◌}
use native.Mathlib.Omega.{arith}
use lib.ListN.{length, take, drop, length-drop, length-take}
use lib.Seq.{drop-drop, take-nil}
use Rattle.bsmp.specs.Base.{byte_at}
use Rattle.bsmp.specs.Board.{Table, Layout, layout, State, faults}
use Rattle.bsmp.specs.Codes.{command_of}
use Rattle.bsmp.specs.Message.{Said, replies, runs, spoken, said, state_after, carried, handled, line, asked}
use Rattle.bsmp.specs.Packet.{Place, Ending, reply, silence, run, refuse, ends, place_tests, packet_tests, served, packet, message}
use Rattle.bsmp.specs.declared.FunctionNumber.{FunctionNumber}
use Rattle.bsmp.specs.declared.Command.{Command}
use Rattle.bsmp.specs.declared.Command.TheVariants.{Version, ListVariables, ListGroups, ShowGroup, ListCurves, ReadSum, ListFunctions, ReadVariable, ReadGroup, WriteVariable, WriteGroup}
use Rattle.bsmp.specs.declared.Command.TheVariants.{MaskVariable, MaskGroup, WriteRead, MakeGroup, RemoveGroups, ReadBlock, WriteBlock, RenewSum, RunFunction, Unknown}
use Rattle.bsmp.proofs.Chain.{first_case}
use Rattle.bsmp.proofs.Accepted.{judge_case}

pub drop_take : {A : Type 0} (a n : ℕ) (l : List A) → drop a (take n l) ≡ take (n - a) (drop a l)
drop_take zero n l = let e : n - 0 ≡ n = omega arith in rw e
drop_take (suc a) zero l = let e : 0 - suc a ≡ 0 = omega arith in rw e
drop_take (suc a) (suc n) [] = rw (take-nil (suc n - suc a))
drop_take (suc a) (suc n) (x ∷ l) = let e : suc n - suc a ≡ n - a = omega arith in rw e (drop_take a n l)

-- what a message says is a function's run only if it is 50, and with the input that follows the function's number
abbrev Runs : List ℕ → Command → Said → Type 0
Runs m k (replies c p) = Unit {0}
Runs m k (runs f i) = (i ≡ drop 4 m) × (k ≡ RunFunction)

line_runs : (l : Layout) (gs m : List ℕ) (k : Command) (s : State) → Runs m k (spoken (line l gs (drop 3 m) k).answer s)
unfolding line spoken
line_runs l gs m Version s = tt
line_runs l gs m ListVariables s = tt
line_runs l gs m ListGroups s = tt
line_runs l gs m ShowGroup s = tt
line_runs l gs m ListCurves s = tt
line_runs l gs m ReadSum s = tt
line_runs l gs m ListFunctions s = tt
line_runs l gs m ReadVariable s = tt
line_runs l gs m ReadGroup s = tt
line_runs l gs m WriteVariable s = tt
line_runs l gs m WriteGroup s = tt
line_runs l gs m MaskVariable s = tt
line_runs l gs m MaskGroup s = tt
line_runs l gs m WriteRead s = tt
line_runs l gs m MakeGroup s = tt
line_runs l gs m RemoveGroups s = tt
line_runs l gs m ReadBlock s = tt
line_runs l gs m WriteBlock s = tt
line_runs l gs m RenewSum s = tt
line_runs l gs m RunFunction s = (drop-drop 1 3 m, refl)
line_runs l gs m Unknown s = tt

-- so where no answer is due all but 50 end in silence
pub silent : (l : Layout) (gs m : List ℕ) (k : Command) (s : State) → (k ≡ RunFunction → ⊥) → ends false (spoken (line l gs (drop 3 m) k).answer s) ≡ silence
unfolding ends
silent l gs m k s h = by (spoken (line l gs (drop 3 m) k).answer s) (line_runs l gs m k s)
  where
    by : (x : Said) → Runs m k x → ends false x ≡ silence
    by (replies c p) r = refl
    by (runs f i) r = absurd (h r.1)

handled_runs : (l : Layout) (busy : ℕ) (m : List ℕ) (s : State) → Runs m (command_of (byte_at m 0)) (handled l busy m s).says
unfolding handled carried said
handled_runs l busy m s =
    judge_case l s.groups busy m (λ v. Runs m (command_of (byte_at m 0)) (said (asked l s.groups m) v (state_after (asked l s.groups m) v s))) (λ e. tt)
    (λ f c. line_runs l s.groups m (command_of (byte_at m 0)) _)

-- the input of a run is the part of the packet from place 5 on, up to the checksum
abbrev At5 : List ℕ → Ending → Type 0
At5 p (reply r) = Unit {0}
At5 p silence = Unit {0}
At5 p (run f i due) = i ≡ take (length p - 6) (drop 5 p)
At5 p (Ending.refused n) = Unit {0}

ends_at : (due : Bool) (p : List ℕ) (k : Command) (x : Said) → Runs (message p) k x → At5 p (ends due x)
unfolding ends
ends_at true p k (replies c b) h = tt
ends_at false p k (replies c b) h = tt
ends_at due p k (runs f i) h =
    let e : length p - 2 - 4 ≡ length p - 6 = omega arith in
    h.0 ∙ drop_take 4 (length p - 2) (drop 1 p) ∙ rw (e, drop-drop 4 1 p)

packet_at : (t : Table) (a : Place) (busy room : ℕ) (p : List ℕ) (s : State) → At5 p (packet t a busy room p s).ending
unfolding packet served
packet_at t a busy room p s =
    first_case (λ x. At5 p x.ending) (faults t s) (refuse s) _ (λ r. tt)
    (λ b. first_case (λ x. At5 p x.ending) (place_tests a room) (refuse s) _ (λ r. tt)
    (λ c. first_case (λ x. At5 p x.ending) (packet_tests a p) (refuse s) _ (λ r. tt)
    (λ d. ends_at _ p _ _ (handled_runs (layout t) busy (message p) s))))

pub input_at_5 : (t : Table) (a : Place) (busy room : ℕ) (p : List ℕ) (s : State) (f : FunctionNumber) (i : List ℕ) (due : Bool)
    → (packet t a busy room p s).ending ≡ run f i due → i ≡ take (length i) (drop 5 p)
input_at_5 t a busy room p s f i due h = whole (rw h at (packet_at t a busy room p s))
  where
    whole : i ≡ take (length p - 6) (drop 5 p) → i ≡ take (length i) (drop 5 p)
    whole e =
        let l : length i ≡ length p - 6 = ap length e ∙ simp (length-take, length-drop) (omega arith) in
        e ∙ ap (λ n. take n (drop 5 p)) (sym l)
