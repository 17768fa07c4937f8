-- `serve` meets its contract. Assumes nothing.
use Rattle.serve.proofs.Types.{typed_served}
use Rattle.serve.proofs.Serving.{served}
use borrow.Author.Rules.{rules}
use Rattle.serve.proofs.serve.Goals as goal

pub returns-clause-served : goal.returns-clause-served
returns-clause-served c = search (typed_served, served, rules)
