-- `fresh_board` meets its contract. Assumes nothing.
use Rattle.std.proofs.Common.{sym}
use Rattle.results.proofs.Freshening.{fresh_curves, fresh_sums_lem, fresh_count, fresh_refused, fresh_done}
use Rattle.results.proofs.fresh_board.Goals as goal

pub returns-then-not-usable_board : goal.returns-then-not-usable_board
returns-then-not-usable_board c = let h = c.if-not-usable_board.ensures in fresh_refused _ _ _ _ _ _ _ _ (sym h)

pub fresh-requires : goal.fresh-requires
fresh-requires c = let h = sym c.if-not-usable_board.ensures in
    record { sound_curves = (fresh_curves _ _ _ _ _ _ _ _ h, fresh_sums_lem _ _ _ _ _ _ _ _ h); lengths_len = fresh_count _ _ _ _ _ _ _ _ h }

pub returns : goal.returns
returns c = fresh_done _ _ _ _ _ _ _ _ (sym c.if-not-usable_board.ensures) _ _ c.fresh.ensures
