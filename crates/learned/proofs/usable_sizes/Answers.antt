-- `usable_sizes` meets its contract: one walk over the bytes. Assumes nothing.
use borrow.Author.Tests.{le-leb}
use Rattle.std.proofs.Common.{inl, inr, rules}
use Rattle.learned.proofs.Sizes.{sized_start, sizes_out, sizes_unfit, sized_fits, sized_next, sized_end}
use Rattle.learned.proofs.usable_sizes.Goals as goal
use Rattle.learned.proofs.usable_sizes.Goals.{then-most-byte-via-then-most-byte, then-most-byte-via-else-most-byte+then-byte-lt1}

pub returns-then-list-lt1 : goal.returns-then-list-lt1
returns-then-list-lt1 c = sizes_out _ _ c.then-list-lt1.either

pub loop-byte-init : goal.loop-byte-init
loop-byte-init c = sized_start _ _

pub returns-then-most-byte : goal.returns-then-most-byte
returns-then-most-byte c =
    sizes_unfit _ _ _ _ c.loop-byte-test.true c.loop-byte.invariant
    (elim c.then-most-byte.branch [
      | then-most-byte-via-then-most-byte w ↦ inl w.if-most-byte.true
      | then-most-byte-via-else-most-byte+then-byte-lt1 w ↦ inr (w.if-most-byte.false, w.if-byte-lt1.true)
    ])

pub overflow_add-bytes : goal.overflow_add-bytes
overflow_add-bytes c = search (sized_fits, rules)

pub loop-byte-preserved : goal.loop-byte-preserved
loop-byte-preserved c =
    let l = c.loop-byte in
    rw c.from-bytes.ensures (sized_next _ _ l.bytes l.byte-index c.loop-byte-test.true l.invariant (le-leb _ _ c.if-most-byte.false) c.if-byte-lt1.false)

pub returns : goal.returns
returns c = search (sized_end, rules)
