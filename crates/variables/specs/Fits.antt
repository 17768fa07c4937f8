-- What a change of one variable asks of its payload. Assumes nothing.
use Rattle.std.specs.Prelude.{◌≡◌, List, ℕ, ◌+◌, ◌<◌, length, get_or}
use Rattle.bsmp.specs.Base.{byte_at}

-- it names a variable first, and behind its front are as many bytes as that variable has
pub record OneFits (sizes payload : List ℕ) (front : ℕ) : Type 0 where
  pub some : 0 < length payload
  pub known : byte_at payload 0 < length sizes
  pub whole : length payload ≡ front + get_or sizes (byte_at payload 0) 0
