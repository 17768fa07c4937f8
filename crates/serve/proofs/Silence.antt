-- What is said to a message where no answer is due: nothing, but that a function is to be run. Assumes nothing.
use mathlib.Core.Path.{◌≡◌, sym, ap, ap₂, ◌∙◌}
use mathlib.Core.Bool.{false}
use mathlib.Core.List.{List}
use Prim.Native.Nat.{ℕ, ◌-◌, ◌≤◌, ◌<◌}
use native.Mathlib.Omega.{arith}
use borrow.Rule.Slice.PartMut.{mid_of}
use lib.ListN.{length, drop, length-drop}
use lib.Seq.{get_or-drop}
use Rattle.bsmp.specs.Base.{byte_at}
use Rattle.bsmp.specs.Board.{Layout, State, function}
use Rattle.bsmp.specs.Codes.{command_of, Check, Pass, Fail}
use Rattle.bsmp.specs.Message.{function_at, line, judge, Said, replies, runs, spoken, said}
use Rattle.bsmp.specs.declared.FunctionNumber.{FunctionNumber}
use Rattle.bsmp.specs.declared.WireError.{WireError}
use Rattle.bsmp.specs.declared.Command.{Command}
use Rattle.bsmp.specs.declared.Command.TheVariants.{RunFunction}
use Rattle.copies.proofs.Put.{put_nil, mid_rest}
use Rattle.judging.proofs.Judging.{message_passed}
use Rattle.answers.specs.Answers.{spoken_of, Spoke}
use Rattle.answers.specs.declared.Spoken.{Spoken}
use Rattle.answers.specs.declared.Spoken.TheVariants.{Run, Nothing}
use Rattle.answers.proofs.Answers.{run_needs}
use Rattle.serve.specs.Serve.{Quiet, Unanswered}

-- nothing is written
pub unheard : (x : Said) (r : List ℕ) (at : ℕ) (s : Spoken) → s ≡ spoken_of false x → Spoke false x r at s r
unheard (replies c p) r at s e = record { said = e; written = sym (put_nil r at); short = omega arith }
unheard (runs f i) r at s e = record { said = e; written = sym (put_nil r at); short = omega arith }

-- a function to be run is named, and told of ..
pub run_long : (k : Command) (m : List ℕ) → k ≡ RunFunction → (k ≡ RunFunction → 3 < length m) → 3 < length m
run_long k m e h = h e

pub run_input : (k : Command) (m : List ℕ) → k ≡ RunFunction → (k ≡ RunFunction → 3 < length m) → 4 ≤ length m
run_input k m e h = omega (arith, h e)

pub quiet_run : (k : Command) (m : List ℕ) (f : FunctionNumber) → k ≡ RunFunction → f ≡ function_at m 3 → Quiet k m (Run f (length m - 4))
unfolding line spoken
quiet_run k m f e h = rw e (record {
  is = λ l gs s. ap₂ Run (h ∙ ap function (sym (get_or-drop 3 m 0 0)))
      (let n : length (drop 1 (drop 3 m)) ≡ length m - 3 - 1 = simp length-drop in omega arith);
})

-- .. and of any other command nothing
pub quiet_nothing : (k c : Command) (m : List ℕ) → k ≡ c
    → ((l : Layout) (gs : List ℕ) (s : State) → Nothing ≡ spoken_of false (spoken (line l gs (drop 3 m) c).answer s)) → Quiet k m Nothing
quiet_nothing k c m e h = rw e (record { is = h })

pub unanswered_pass : (k : Command) (v : Check) (m : List ℕ) (s : Spoken) → k ≡ command_of (byte_at m 0) → v ≡ Pass → Quiet k m s → Unanswered v m s
unfolding said
unanswered_pass k v m s h e q = record { is = λ l gs st. rw (e, ← h) (q.is l gs st) }

pub unanswered_fail : (v : Check) (m : List ℕ) (e : WireError) → v ≡ Fail e → Unanswered v m Nothing
unfolding said
unanswered_fail v m e h = record { is = λ l gs st. rw h }

-- a message that passed and asks for a run has its function's number
pub run_there : (l : Layout) (gs : List ℕ) (busy : ℕ) (m : List ℕ) (k : Command) (v : Check) → v ≡ judge l gs busy m → k ≡ command_of (byte_at m 0) → v ≡ Pass
    → k ≡ RunFunction → 3 < length m
run_there l gs busy m k v j f e g =
    let rest : List ℕ = mid_of 3 (length m - 3) m in
    let n : 0 < length rest = run_needs l.sizes l.writable l.curves l.functions gs rest k g (message_passed l gs busy m v k j e f) in
    let d : length rest ≡ length m - 3 = ap length (mid_rest 3 m) ∙ length-drop 3 m in
    omega arith
