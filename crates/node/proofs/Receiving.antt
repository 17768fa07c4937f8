-- What is said to a packet's message, closed, and what a refusal leaves. Assumes nothing.
use mathlib.Core.Path.{◌≡◌, refl, ap, ◌∙◌, subst}
use mathlib.Core.Bool.{Bool, true, false}
use mathlib.Core.List.{List}
use Prim.Native.Nat.{ℕ, ◌+◌, ◌≤◌}
use native.Mathlib.Omega.{arith}
use lib.ListN.{length}
use Rattle.bsmp.specs.Board.{Layout}
use Rattle.bsmp.specs.Message.{Said, replies, runs, handled}
use Rattle.bsmp.specs.Packet.{Result, refuse, ends, served}
use Rattle.bsmp.specs.Store.{Lent, held, outcome_of, shown}
use Rattle.bsmp.specs.declared.Refusal.{Refusal}
use Rattle.bsmp.specs.declared.Outcome.{Outcome}
use Rattle.bsmp.specs.declared.Outcome.TheVariants as O
use Rattle.copies.proofs.Put.{put_nil}
use Rattle.wire.proofs.Frame.{frame_shown, frame_outcome}
use Rattle.changes.specs.declared.Regroup.{Regroup}
use Rattle.changes.specs.declared.Regroup.TheVariants.{Keep}
use Rattle.changes.proofs.Changes.{all_kept}
use Rattle.answers.specs.Answers.{Spoke}
use Rattle.answers.specs.declared.Spoken.{Spoken}
use Rattle.serve.specs.Serve.{ServedAs}
use Rattle.node.specs.Promise.{end_of, closed_in, Closed, EndsAs}

-- what was said to a message ends as the definition has it
module _ (b : List ℕ) (s : Spoken) (b₁ : List ℕ) (o : Outcome) (b₂ : List ℕ) (room : 4104 ≤ length b) where
  ended : (due : Bool) (x : Said) → Spoke due x b 4 s b₁ → Closed due s b₁ o b₂ → (o ≡ outcome_of (ends due x)) × (b₂ ≡ shown (ends due x) b)
  unfolding ends
  ended true (replies c p) h k = (
    k.outcome ∙ ap (end_of true) h.said ∙ frame_outcome c (length p) (length p + 5) p refl refl,
    frame_shown b p c (length p) b₁ b₂ h.written refl (omega (arith, h.short)) (k.reply ∙ ap (closed_in b₁) h.said),
  )
  ended false (replies c p) h k = (k.outcome ∙ ap (end_of false) h.said, k.reply ∙ ap (closed_in b₁) h.said ∙ h.written ∙ put_nil b 4)
  ended due (runs f i) h k = (k.outcome ∙ ap (end_of due) h.said, k.reply ∙ ap (closed_in b₁) h.said ∙ h.written ∙ put_nil b 4)

-- the message of a packet, served and closed
pub answer_ends : (due : Bool) (l : Layout) (busy : ℕ) (m : List ℕ) (x : Lent) (b : List ℕ) (s : Spoken) (g : Regroup) (b₁ : List ℕ) (y : Lent) (o : Outcome) (b₂ : List ℕ)
    → 4104 ≤ length b → ServedAs due l busy m x b 4 s g b₁ y → Closed due s b₁ o b₂ → EndsAs (served l busy due m (held l x)) l b o g b₂ y
unfolding served
answer_ends due l busy m x b s g b₁ y o b₂ room h k =
    let w = ended b s b₁ o b₂ room due (handled l busy m (held l x)).says h.spoke k in
    record { outcome = w.0; reply = w.1; leaves = h.leaves }

-- a refusal changes nothing of what is lent
pub stopped : (l : Layout) (x : Lent) (b : List ℕ) (z : Result) (n : Refusal) (o : Outcome) (g : Regroup)
    → refuse (held l x) n ≡ z → o ≡ O.Refused n → g ≡ Keep → EndsAs z l b o g b x
stopped l x b z n o g q e f =
    subst (λ u. EndsAs u l b o g b x) q (record { outcome = e; reply = refl; leaves = rw f (all_kept l x) })
