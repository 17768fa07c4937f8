-- `whole_chunks` meets its contract. Assumes nothing.
use Rattle.std.proofs.Common.{◌∙◌, arith}
use Rattle.digest.proofs.Chunks.{chunk_turn, chunk_end}
use Rattle.digest.proofs.whole_chunks.Goals as goal

pub loop-x-preserved : goal.loop-x-preserved
loop-x-preserved c =
    let s = c.in-Some.ensures.steps in
    let l = c.loop-x.invariant in
    (s.0 ∙ l.0, chunk_turn _ _ _ _ _ _ c.chunk-q.ensures s.1.0 (s.1.1 ∙ l.0) l.1)

pub returns : goal.returns
returns c =
    let s = c.in-None.ensures.steps in
    let l = c.loop-x.invariant in
    chunk_end _ _ _ (omega (arith, s.1.0, l.0)) l.1
