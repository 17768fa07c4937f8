-- An answer as the definition has it, told if it fits and refused if not. Assumes nothing.
use Rattle.std.specs.Prelude.{cond, List, ℕ}
use Rattle.bsmp.specs.declared.Refusal.TheVariants.{ReplyUnfit}
use Rattle.asking.specs.Learned.{Learned}
use Rattle.asking.specs.Reply.{Wanted, answers, tells, Hearing, hears}

-- an answer that is told, or refusal 13
abbrev pub answered : Learned → Wanted → ℕ → List ℕ → Hearing
answered x w c p = cond (answers x w c p) (hears (tells x w c p)) (Hearing.refused ReplyUnfit)
