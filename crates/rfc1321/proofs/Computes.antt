-- One name to open every definition of MD5 where a digest is computed. Assumes nothing.
use Rattle.rfc1321.specs.Md5.{word, bytes, ◌⊞◌, ◌<<<◌, not, padding, length_bytes, padded, initial, F, G, H, I, table}
use Rattle.rfc1321.specs.Md5.{operation, operations, round1, round2, round3, round4, added, operated, chunks, hashed, output, digest}

-- to unfold this is to unfold all that its line names
unfoldable pub computes : Type 0
unfolding word bytes ◌⊞◌ ◌<<<◌ not padding length_bytes padded initial F G H I table operation operations round1 round2 round3 round4 added operated chunks hashed output digest
computes = Unit {0}
