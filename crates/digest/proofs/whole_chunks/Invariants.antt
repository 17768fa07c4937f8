-- `whole_chunks` meets its contract. Assumes nothing.
use Rattle.std.proofs.Common.{◌≡◌}
use Rattle.std.specs.Slice.Iter.{chunks_exact_rest, chunks_exact_size}
use Rattle.rfc1321.specs.Md5.{hashed}
use Rattle.digest.proofs.whole_chunks.Given as goal

abbrev pub invariant-loop-x : goal.invariant-loop-x
invariant-loop-x l =
    (chunks_exact_size l.x-iterator ≡ 64)
    × (hashed l.q (chunks_exact_rest l.x-iterator) ≡ hashed l.initial.q l.m)
