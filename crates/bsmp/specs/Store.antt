-- What a board lends to a call, flat, and what the call leaves there. Assumes nothing.
use Rattle.std.specs.Prelude.{List, ◌++◌, ℕ, length, take, drop, get_or}
use Rattle.bsmp.specs.Base.{sum, cut, join}
use Rattle.bsmp.specs.Board.{Layout, State, size_of, block_sizes, sum_sizes}
use Rattle.bsmp.specs.Packet.{Ending, reply, silence, run, Result}
use Rattle.bsmp.specs.declared.VariableNumber.{VariableNumber}
use Rattle.bsmp.specs.declared.Outcome.{Outcome}
use Rattle.bsmp.specs.declared.Outcome.TheVariants.{Reply, Silence, Run, Refused}

-- the two stores, the blocks' lengths (02, 2026-03), the sums (02, 2026-02) and the made groups
pub record Lent : Type 0 where
  pub values : List ℕ
  pub blocks : List ℕ
  pub lengths : List ℕ
  pub sums : List ℕ
  pub groups : List ℕ

-- "the bytes of one variable start where those before it end. Curves stand likewise in a second store, block after block", and their sums
-- in a third, curve after curve
abbrev pub held : Layout → Lent → State
held l x = record {
  values = cut l.sizes x.values;
  blocks = cut (block_sizes l.curves) x.blocks;
  lengths = x.lengths;
  sums = cut (sum_sizes l.curves) x.sums;
  groups = x.groups;
}

-- and the stores that hold a state
abbrev pub lent_of : State → Lent
lent_of s = record { values = join s.values; blocks = join s.blocks; lengths = s.lengths; sums = join s.sums; groups = s.groups }

-- where number i starts, for pieces of these lengths; and a variable's bytes in the store
abbrev pub start : List ℕ → ℕ → ℕ
start ns i = sum (take i ns)

abbrev pub bytes_in : Layout → List ℕ → VariableNumber → List ℕ
bytes_in l store i = take (size_of l i) (drop (start l.sizes i.0) store)

-- a block's bytes in the store, and of these what the block holds
abbrev pub block_in : Layout → List ℕ → ℕ → List ℕ
block_in l store k = take (get_or (block_sizes l.curves) k 0) (drop (start (block_sizes l.curves) k) store)

abbrev pub content_in : Layout → Lent → ℕ → List ℕ
content_in l x k = take (get_or x.lengths k 0) (block_in l x.blocks k)

-- how the code says an ending: a reply's bytes stand in the buffer, a function's input at place 5 of the packet
abbrev pub outcome_of : Ending → Outcome
outcome_of (reply r) = Reply (length r)
outcome_of silence = Silence
outcome_of (run f i due) = Run f (length i) due
outcome_of (Ending.refused n) = Refused n

-- "A reply writes its own bytes at the start of the reply buffer and no others; silence, and a function to be run, write none"
abbrev pub shown : Ending → List ℕ → List ℕ
shown (reply r) b = r ++ drop (length r) b
shown silence b = b
shown (run f i due) b = b
shown (Ending.refused n) b = b

-- what a call leaves: its outcome, the reply buffer, and what the board then holds
pub record Left : Type 0 where
  pub outcome : Outcome
  pub buffer : List ℕ
  pub holds : State

abbrev pub leaves : Result → (buffer : List ℕ) → Left
leaves r b = record { outcome = outcome_of r.ending; buffer = shown r.ending b; holds = r.state }
