-- An answer that fits is told, any other is refused. Assumes nothing.
use mathlib.Core.Path.{◌≡◌}
use mathlib.Core.Bool.{Bool, true, false, cond}
use Rattle.std.specs.Prelude.{Ok, Err}
use borrow.Author.Tests.{eq-eqb, ne_eqb}
use Rattle.bsmp.specs.declared.Refusal.TheVariants.{ReplyUnfit}
use Rattle.rules.proofs.Checks.{both_on, left_off, right_off}
use Rattle.asking.specs.Reply.{Heard, hears, Hearing, told_of}
use Rattle.asking.specs.declared.Told.{Told}

-- b: whether it fits; h: what it then tells
module _ (b : Bool) (h : Heard) where
  pub unfit : b ≡ false → Err ReplyUnfit ≡ told_of (cond b (hears h) (Hearing.refused ReplyUnfit))
  unfit e = rw e

  pub fit : (t : Told) → b ≡ true → Ok t ≡ told_of (hears h) → Ok t ≡ told_of (cond b (hears h) (Hearing.refused ReplyUnfit))
  fit t e k = rw e k

pub ruleset unfits = (unfit, left_off, right_off, ne_eqb)

pub ruleset fits = (fit, both_on, eq-eqb)
