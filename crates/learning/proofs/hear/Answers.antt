-- `hear` meets its contract. Assumes nothing.
use Rattle.std.proofs.Common.{arith}
use Rattle.std.proofs.lemmas.Result.{err_from_is_err_and}
use Rattle.learned.specs.Table.{held_table}
use Rattle.learning.proofs.Hearing.{refusal_heard, error_heard, reply_long, reply_room, answer_heard}
use Rattle.learning.proofs.hear.Goals as goal

pub returns-in_err-told : goal.returns-in_err-told
returns-in_err-told c =
    let p = err_from_is_err_and c.from_residual.result c.from_residual.ensures.1 in
    rw (p.1, p.2) (refusal_heard _ _ _ _ _ _ c.in_err-told.ensures)

pub returns-in-Error : goal.returns-in-Error
returns-in-Error c = error_heard _ _ _ _ _ _ _ c.in-Error.is c.in_ok-told.ensures

-- three bounds of one lemma, each by an arithmetic of its own
pub overflow_sub-reply : goal.overflow_sub-reply
overflow_sub-reply c = omega (arith, reply_long _ _ _ c.args.bytes.now _ _ c.in_ok-told.ensures c.in_default.not-Error)

pub slice_bounds-learn-count : goal.slice_bounds-learn-count
slice_bounds-learn-count c = omega (arith, reply_long _ _ _ c.args.bytes.now _ _ c.in_ok-told.ensures c.in_default.not-Error)

pub slice_bounds-learn-start : goal.slice_bounds-learn-start
slice_bounds-learn-start c = omega (arith, reply_long _ _ _ c.args.bytes.now _ _ c.in_ok-told.ensures c.in_default.not-Error)

pub learn-requires : goal.learn-requires
learn-requires c = reply_room _ _ _ c.args.bytes.now _ _ c.in_ok-told.ensures c.in_default.not-Error

pub returns : goal.returns
returns c = answer_heard _ _ _ _ _ _ c.in_ok-told.ensures c.in_default.not-Error (held_table c.learn.new.table) c.learn.ensures
