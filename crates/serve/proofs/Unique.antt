-- Uniqueness: any two results that the promise of a message's work allows are equal. Assumes nothing.
use mathlib.Core.Path.{◌≡◌, sym, ◌∙◌}
use mathlib.Core.Bool.{Bool}
use mathlib.Core.List.{List}
use Prim.Native.Nat.{ℕ}
use Rattle.bsmp.specs.Board.{Layout}
use Rattle.bsmp.specs.Message.{handled}
use Rattle.bsmp.specs.Store.{Lent, held}
use Rattle.changes.specs.declared.Regroup.{Regroup}
use Rattle.changes.proofs.Unique.{left_unique}
use Rattle.answers.specs.declared.Spoken.{Spoken}
use Rattle.serve.specs.Serve.{ServedAs}

-- gs are the made groups that were lent
pub served_unique : (due : Bool) (l : Layout) (busy : ℕ) (m : List ℕ) (x : Lent) (r : List ℕ) (at : ℕ) (gs : List ℕ)
    (s₁ s₂ : Spoken) (g₁ g₂ : Regroup) (r₁ r₂ : List ℕ) (y₁ y₂ : Lent) → y₁.groups ≡ gs → y₂.groups ≡ gs
    → ServedAs due l busy m x r at s₁ g₁ r₁ y₁ → ServedAs due l busy m x r at s₂ g₂ r₂ y₂ → (s₁ ≡ s₂) × (g₁ ≡ g₂) × (r₁ ≡ r₂) × (y₁ ≡ y₂)
served_unique due l busy m x r at gs s₁ s₂ g₁ g₂ r₁ r₂ y₁ y₂ e₁ e₂ h k =
    let w = left_unique l (handled l busy m (held l x)).state gs g₁ g₂ y₁ y₂ e₁ e₂ h.leaves k.leaves in
    (h.spoke.said ∙ sym k.spoke.said, w.0, h.spoke.written ∙ sym k.spoke.written, w.1)
