-- `text::Page::put_hex`
use Rattle.std.proofs.Common.{◌≡◌, ◌+◌, ◌*◌}
use Rattle.text.specs.Page.{SameBuffer}
use Rattle.text.proofs.Page.put_hex.Given as goal

abbrev pub invariant-loop-b : goal.invariant-loop-b
invariant-loop-b l = (l.self.at ≡ l.initial.self.at + 2 * l.b-index) × SameBuffer l.initial.self l.self
