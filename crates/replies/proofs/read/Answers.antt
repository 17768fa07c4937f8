-- `read` meets its contract. Assumes nothing.
use Rattle.std.proofs.Common.{◌≡◌}
use Rattle.std.proofs.lemmas.Result.{err_from_is_err_and}
use Rattle.bsmp.specs.declared.Refusal.TheVariants.{BoardUnusable}
use Rattle.records.specs.Lending.{curves_of, functions_of}
use Rattle.replies.proofs.Reading.{hearing_plain, hearing_unusable, hearing_usable}
use Rattle.replies.proofs.read.Goals as goal

pub returns-then-not-is_sized : goal.returns-then-not-is_sized
unfolding curves_of functions_of
returns-then-not-is_sized c = hearing_plain _ _ _ _ _ c.is_sized.ensures _ c.if-not-is_sized.true c.read_by.ensures

pub returns-in_err-known : goal.returns-in_err-known
returns-in_err-known c =
    let p = err_from_is_err_and c.from_residual.result c.from_residual.ensures.1 in
    let v = rw c.in_err-known.ensures.ok_part at c.in_err-known.ensures.value in
    let z : c.in_err-known.field-0.0 ≡ BoardUnusable = cc in
    rw (p.1, p.2, z) (hearing_unusable _ _ _ _ _ c.is_sized.ensures c.if-not-is_sized.false (rw c.in_err-known.ensures.ok_part at c.known.ensures))

pub returns : goal.returns
returns c = hearing_usable _ _ _ _ _ c.is_sized.ensures c.if-not-is_sized.false _ _ (rw c.in_ok-known.ensures.ok_part at c.known.ensures) c.read_by-2.ensures
