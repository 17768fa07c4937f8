-- `feed` meets its contract. Assumes nothing.
use Rattle.std.proofs.Common.{◌≡◌, length, ◌∙◌, rules}
use Rattle.digest.proofs.Feeding.{feed_short, feed_long}
use Rattle.digest.proofs.Progress.feed.Goals as goal

pub returns-then-piece-room : goal.returns-then-piece-room
returns-then-piece-room c =
    let p = c.args.self.now in
    let full : length p.buffer ≡ 64 = search rules in
    feed_short p c.args.piece.now full _ c.if-piece-room.true c.copy_from_slice.ensures.after

pub returns : goal.returns
returns c =
    let p = c.args.self.now in
    let full : length p.buffer ≡ 64 = search rules in
    feed_long p c.args.piece.now full _ c.if-piece-room.false c.split_at.ensures.back _ _ _ _ (c.copy_from_slice-2.ensures.after ∙ c.split_at.ensures.front)
    c.chunk.ensures c.whole_chunks-self.ensures c.copy_from_slice-3.ensures.after
