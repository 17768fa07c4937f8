-- A message that comes in pieces: what is held of it between them. Assumes nothing.
use Rattle.std.specs.Prelude.{ℕ, ◌+◌, ◌*◌, ◌/◌, ◌%◌, ◌^◌, List, [], ◌++◌, length, take, drop}
use Rattle.rfc1321.specs.Md5.{initial, hashed, output, padding, length_bytes}
use Rattle.rfc1321.specs.declared.State.{State}
use Rattle.digest.specs.declared.Progress.{Progress}

-- the state after all whole chunks, the bytes that wait for a whole one, and how many bytes came
pub record Stream : Type 0 where
  pub state : State
  pub waiting : List ℕ
  pub total : ℕ

-- the same as the code has it: those that wait are the first of a buffer of 64 bytes
abbrev pub held : Progress → Stream
held p = record { state = p.state; waiting = take (p.total % 64) p.buffer; total = p.total }

-- nothing yet
abbrev pub begun : Stream
begun = record { state = initial; waiting = []; total = 0 }

-- what is left of m after its whole chunks
unfoldable pub rest : List ℕ → List ℕ
rest m = drop (length m / 64 * 64) m

-- with one more piece. Bytes are counted modulo 2 ^ 64: of the length in bits the RFC takes no more than 64 bits
unfoldable pub fed : Stream → List ℕ → Stream
fed q m = record { state = hashed q.state (q.waiting ++ m); waiting = rest (q.waiting ++ m); total = (q.total + length m) % 2 ^ 64 }

-- the digest: the padding and the length are the last two pieces
unfoldable pub closed : Stream → List ℕ
closed q = output (fed (fed q (padding q.total)) (length_bytes (8 * q.total))).state
