-- `answer` meets its contract where arms are joined: each request's answer says the same with what it looks at. Assumes nothing.
use Rattle.std.proofs.Common.{◌≡◌, inl, inr, arith}
use Rattle.asking.specs.Reply.{wanted, answers, tells, done}
use Rattle.learned.specs.Table.{known_table}
use Rattle.replies.proofs.answer.Goals as goal

pub returns-in-ReadVariable : goal.returns-in-ReadVariable
unfolding wanted answers tells
returns-in-ReadVariable c = elim c.in-ReadVariable.is [ inl e ↦ rw e c.variable_told.ensures | inr w ↦ rw w.1 c.variable_told.ensures ]

pub returns-in-WriteVariable : goal.returns-in-WriteVariable
unfolding wanted answers tells
returns-in-WriteVariable c = let w : wanted (known_table c.args.known.now) c.args.request ≡ done = grind (arith, c.in-WriteVariable.is) in rw w c.done.ensures
