-- `copy_block` meets its contract. Assumes nothing.
use Rattle.std.proofs.Common.{◌≡◌, ◌*◌, length, drop}
use Rattle.copies.specs.Put.{put}
use Rattle.copies.proofs.copy_block.Given as goal

abbrev pub invariant-loop-turn : goal.invariant-loop-turn
invariant-loop-turn l = (length l.dst ≡ length l.initial.dst) × (put l.dst (64 * l.turn) (drop (64 * l.turn) l.src) ≡ put l.initial.dst 0 l.src)
