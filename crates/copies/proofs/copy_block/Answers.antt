-- `copy_block` meets its contract. Assumes nothing.
use Rattle.std.proofs.Common.{◌≡◌, ◌+◌, ◌*◌, ◌/◌, length, arith, rules}
use Rattle.copies.proofs.Put.{put_piece, put_last}
use Rattle.copies.proofs.copy_block.Goals as goal

pub loop-turn-preserved : goal.loop-turn-preserved
loop-turn-preserved c =
    let l = c.loop-turn in
    let e : 64 * (l.turn + 1) ≡ 64 * l.turn + 64 = omega arith in
    (search rules, rw e (put_piece l.dst _ (64 * l.turn) 64 _ _ c.copy_piece.ensures (search rules) (search rules) l.invariant.1))

pub returns : goal.returns
returns c =
    let l = c.loop-turn in
    let e : l.turn ≡ length c.args.src.now / 64 = omega arith in
    put_last _ l.dst _ _ _ c.copy_into.ensures (omega arith) (search rules) (rw e at l.invariant.1)
