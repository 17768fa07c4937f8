-- `read_by` meets its contract. Assumes nothing.
use Rattle.std.proofs.Common.{rules, arith}
use Rattle.std.proofs.lemmas.Result.{err_from_is_err_and}
use Rattle.replies.proofs.Opening.{message_least, message_code, message_payload}
use Rattle.replies.proofs.Reading.{reply_refused, reply_error, reply_answer}
use Rattle.replies.proofs.read_by.Goals as goal

pub returns-in_err-open : goal.returns-in_err-open
returns-in_err-open c =
    let p = err_from_is_err_and c.from_residual.result c.from_residual.ensures.1 in
    rw (p.1, p.2) (reply_refused _ _ _ c.open.ensures _ _ _ c.in_err-open.was)

pub bounds-reply-1 : goal.bounds-reply-1
bounds-reply-1 c = search (message_code _ (message_least _ _ _ c.open.ensures c.in_ok-open.was), rules)

pub overflow_sub-payload : goal.overflow_sub-payload
overflow_sub-payload c = omega (arith, message_least _ _ _ c.open.ensures c.in_ok-open.was)

pub slice_bounds-payload-count : goal.slice_bounds-payload-count
slice_bounds-payload-count c = omega (arith, message_least _ _ _ c.open.ensures c.in_ok-open.was)

pub slice_bounds-payload-start : goal.slice_bounds-payload-start
slice_bounds-payload-start c = search (message_payload _ (message_least _ _ _ c.open.ensures c.in_ok-open.was), rules)

pub returns-then-is_error : goal.returns-then-is_error
returns-then-is_error c = reply_error _ _ _ c.open.ensures _ _ c.in_ok-open.was _ c.is_error.ensures _ c.if-is_error.true c.error_of.ensures

pub returns : goal.returns
returns c = reply_answer _ _ _ c.open.ensures _ _ c.in_ok-open.was _ c.is_error.ensures _ c.if-is_error.false c.answer.ensures
