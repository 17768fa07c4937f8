-- What a command that passed is answered, from what its leaf wrote. Assumes nothing.
use mathlib.Core.Path.{◌≡◌, sym, ap, ◌∙◌}
use mathlib.Core.Bool.{true}
use mathlib.Core.List.{List, []}
use Prim.Native.Nat.{ℕ, ◌<◌}
use native.Mathlib.Omega.{arith}
use lib.ListN.{length, drop}
use Rattle.bsmp.specs.Base.{byte_at}
use Rattle.bsmp.specs.Board.{Layout, State}
use Rattle.bsmp.specs.Message.{curve_at, function_at, line, Said, replies, runs, spoken}
use Rattle.bsmp.specs.Store.{Lent, held}
use Rattle.bsmp.specs.declared.Curve.{Curve}
use Rattle.bsmp.specs.declared.Function.{Function}
use Rattle.bsmp.specs.declared.Command.{Command}
use Rattle.bsmp.specs.declared.Command.TheVariants.{ShowGroup, ReadSum, ReadVariable, ReadGroup, WriteRead, ReadBlock, RunFunction}
use Rattle.copies.proofs.Put.{put_nil}
use Rattle.parts.specs.Parts.{layout_of, Passed, PayloadAt}
use Rattle.variables.proofs.Passes as variables
use Rattle.groups.specs.Promises.{GroupKnown}
use Rattle.groups.proofs.Pass as groups
use Rattle.curves.specs.Fits.{BlockRead, SoundSums}
use Rattle.curves.proofs.Passes as curves
use Rattle.sums.specs.Sums.{SumNamed, sum_at}
use Rattle.sums.proofs.Sums.{sum_named, sum_is}
use Rattle.functions.proofs.Passes as functions
use Rattle.answers.specs.Answers.{spoken_of, Spoke}
use Rattle.answers.specs.declared.Spoken.{Spoken}
use Rattle.answers.specs.declared.Spoken.TheVariants.{Reply}

module _ (ns : List ℕ) (w : ℕ) (cs : List Curve) (fs : List Function) (gs p : List ℕ) (k : Command) where
  abbrev Passes : Type 0
  Passes = Passed (layout_of ns w cs fs) gs p k

  -- what a pass says, as the answers ask it
  pub read_some_needs : k ≡ ReadVariable → Passes → 0 < length p
  read_some_needs e h = variables.read_some ns w cs fs gs p (rw e at h)

  pub read_known_needs : k ≡ ReadVariable → Passes → byte_at p 0 < length ns
  read_known_needs e h = variables.read_known ns w cs fs gs p (rw e at h)

  pub second_some_needs : k ≡ WriteRead → Passes → 1 < length p
  second_some_needs e h = variables.write_read_second ns w cs fs gs p (rw e at h)

  pub second_known_needs : k ≡ WriteRead → Passes → byte_at p 1 < length ns
  second_known_needs e h = variables.write_read_known ns w cs fs gs p (rw e at h)

  pub show_needs : k ≡ ShowGroup → Passes → GroupKnown gs p
  show_needs e h = groups.show_known ns w cs fs gs p (rw e at h)

  pub group_read_needs : k ≡ ReadGroup → Passes → GroupKnown gs p
  group_read_needs e h = groups.read_known ns w cs fs gs p (rw e at h)

  pub block_read_needs : k ≡ ReadBlock → Passes → BlockRead cs p
  block_read_needs e h = curves.read_fits ns w cs fs gs p (rw e at h)

  pub sum_needs : (ds : List ℕ) → SoundSums cs ds → k ≡ ReadSum → Passes → SumNamed ds p
  sum_needs ds z e h = sum_named cs ds p z (curves.sum_read ns w cs fs gs p (rw e at h))

  pub run_needs : k ≡ RunFunction → Passes → 0 < length p
  run_needs e h = functions.run_some ns w cs fs gs p (rw e at h)

-- a reply without payload
pub done_said : (code : ℕ) (r : List ℕ) (at : ℕ) (s : Spoken) → s ≡ Reply code 0 → Spoke true (replies code []) r at s r
done_said code r at s e = record { said = e; written = sym (put_nil r at); short = omega arith }

-- what is then said: a reply whose payload was written, one without payload, and a run
module _ (l : Layout) (gs p : List ℕ) (k : Command) (state : State) (r : List ℕ) (at : ℕ) (s : Spoken) (r' : List ℕ) (c : Command) (e : k ≡ c) where
  abbrev says : Command → Said
  says x = spoken (line l gs p x).answer state

  pub answer_told : (v : List ℕ) (code n : ℕ) → PayloadAt r at v n r' → s ≡ Reply code n → says c ≡ replies code v → Spoke true (says k) r at s r'
  answer_told v code n h q f =
      rw (e, f) (record { said = q ∙ ap (Reply code) h.count; written = h.written; short = rw h.count at h.short })

  pub answer_done : s ≡ Reply 0xE0 0 → says c ≡ replies 0xE0 [] → Spoke true (says k) r at s r
  answer_done q f = rw (e, f) (done_said 0xE0 r at s q)

  pub answer_run : s ≡ spoken_of true (runs (function_at p 0) (drop 1 p)) → says c ≡ runs (function_at p 0) (drop 1 p) → Spoke true (says k) r at s r
  answer_run q f = rw (e, f) (record { said = q; written = sym (put_nil r at); short = omega arith })

-- a sum, which is told by its place among the lent ones
pub answer_sum : (l : Layout) (gs p : List ℕ) (k : Command) (x : Lent) (r : List ℕ) (at : ℕ) (s : Spoken) (r' : List ℕ) (n : ℕ) → k ≡ ReadSum → Passed l gs p k
    → PayloadAt r at (sum_at x.sums (curve_at p 0)) n r' → s ≡ Reply 0x0B n → Spoke true (spoken (line l gs p k).answer (held l x)) r at s r'
unfolding line spoken
answer_sum l gs p k x r at s r' n e h q f =
    answer_told l gs p k (held l x) r at s r' ReadSum e (sum_at x.sums (curve_at p 0)) 0x0B n q f
    (ap (replies 0x0B) (sum_is l.curves x.sums (curve_at p 0) (curves.sum_read l.sizes l.writable l.curves l.functions gs p (rw e at h)).known))
