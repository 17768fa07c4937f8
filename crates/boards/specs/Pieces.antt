-- Records by their numbers, as the quick test takes them. Assumes nothing.
use Rattle.std.specs.Prelude.{Bool, ℕ}
use Rattle.bsmp.specs.Base.{up_from, every}
use Rattle.bsmp.specs.Board.{usable_variable}
use Rattle.records.specs.declared.Records.{Records}
use Rattle.records.specs.Lending.{record_at}

-- whether n records from number k on break no rule
unfoldable pub usable_from : Records → ℕ → ℕ → Bool
usable_from r k n = every (λ i. usable_variable (record_at r i)) (up_from k n)
