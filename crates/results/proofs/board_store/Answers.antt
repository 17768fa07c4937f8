-- `board_store` meets its contract. Assumes nothing.
use Rattle.std.proofs.Common.{arith}
use Rattle.std.proofs.lemmas.Result.{err_from_is_err_and}
use Rattle.results.proofs.Storing.{store_few, store_sound, store_known, store_whole, store_refused, store_done}
use Rattle.results.proofs.board_store.Goals as goal

pub returns-in_err-judge_store : goal.returns-in_err-judge_store
returns-in_err-judge_store c =
    let p = err_from_is_err_and c.from_residual.result c.from_residual.ensures.1 in
    rw (p.1, p.2) (store_refused _ _ _ _ _ _ _ _ _ _ _ c.in_err-judge_store.ensures)

pub shared_ref_as_front-store : goal.shared_ref_as_front-store
shared_ref_as_front-store c = store_few _ _ _ _ _ _ _ _ _ _ c.in_ok-judge_store.ensures

pub store-requires : goal.store-requires
store-requires c = let h = c.in_ok-judge_store.ensures in
    record { sound = store_sound _ _ _ _ _ _ _ _ _ _ h (omega arith); i_in_bounds = (store_known _ _ _ _ _ _ _ _ _ _ h (omega arith), store_whole _ _ _ _ _ _ _ _ _ _ h (omega arith)) }

pub returns : goal.returns
returns c = store_done _ _ _ _ _ _ _ _ _ _ c.in_ok-judge_store.ensures (omega arith) _ c.store.ensures
