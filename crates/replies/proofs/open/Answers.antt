-- `open` meets its contract. Assumes nothing.
use Rattle.std.proofs.Common.{inl, inr}
use Rattle.replies.proofs.Opening.{open_address, open_short, open_long, open_sum, open_multicast, open_elsewhere, open_cut, open_size, open_whole}
use Rattle.replies.proofs.open.Goals.{then-destination-ge248-via-then-destination-ge248, then-destination-ge248-via-else-destination-ge248+then-reply-ne0, then-destination-ge248-via-else-destination-ge248+else-reply-ne0+then-n-lt5, then-destination-ge248-via-else-destination-ge248+else-reply-ne0+else-n-lt5+then-word-n}
use Rattle.replies.proofs.open.Goals as goal

pub returns-then-not-is_address : goal.returns-then-not-is_address
returns-then-not-is_address c = open_address _ _ _ c.is_address.ensures c.if-not-is_address.true

pub returns-then-n-lt2 : goal.returns-then-n-lt2
returns-then-n-lt2 c =
    let a = c.is_address.ensures in
    let v = c.if-not-is_address.false in
    elim c.then-n-lt2.either [ inl h ↦ open_short _ _ _ a v h | inr h ↦ open_long _ _ _ a v h.0 h.1 ]

pub returns-then-byte_sum-ne0 : goal.returns-then-byte_sum-ne0
returns-then-byte_sum-ne0 c = open_sum _ _ _ c.is_address.ensures c.if-not-is_address.false _ c.byte_sum.ensures c.if-n-lt2.false c.if-n-gt4104.false c.if-byte_sum-ne0.true

pub returns-then-destination-ge248 : goal.returns-then-destination-ge248
returns-then-destination-ge248 c =
    let a = c.is_address.ensures in
    let v = c.if-not-is_address.false in
    let s = c.byte_sum.ensures in
    let h = c.if-n-lt2.false in
    let k = c.if-n-gt4104.false in
    let z = c.if-byte_sum-ne0.false in
    elim c.then-destination-ge248.branch [
      | then-destination-ge248-via-then-destination-ge248 w ↦ open_multicast _ _ _ a v _ s h k z w.if-destination-ge248.true c.ranges.destination.fits
      | then-destination-ge248-via-else-destination-ge248+then-reply-ne0 w ↦ open_elsewhere _ _ _ a v _ s h k z w.if-destination-ge248.false w.if-reply-ne0.true
      | then-destination-ge248-via-else-destination-ge248+else-reply-ne0+then-n-lt5 w ↦ open_cut _ _ _ a v _ s h k z w.if-destination-ge248.false w.if-reply-ne0.false w.if-n-lt5.true
      | then-destination-ge248-via-else-destination-ge248+else-reply-ne0+else-n-lt5+then-word-n w ↦ open_size _ _ _ a v _ s h k z w.if-destination-ge248.false w.if-reply-ne0.false _ w.if-n-lt5.false w.word.ensures.0 w.if-word-n.true
    ]

pub returns : goal.returns
returns c = open_whole _ _ _ c.is_address.ensures c.if-not-is_address.false _ c.byte_sum.ensures c.if-n-lt2.false c.if-n-gt4104.false c.if-byte_sum-ne0.false c.if-destination-ge248.false c.if-reply-ne0.false _ c.if-n-lt5.false c.word.ensures.0 c.if-word-n.false
