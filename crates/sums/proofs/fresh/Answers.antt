-- `fresh` meets its contract. Assumes nothing.
use Rattle.sums.proofs.Lengths.{full_sound}
use Rattle.sums.proofs.Sums.{fresh_full}
use borrow.Author.Rules.{rules}
use Rattle.sums.proofs.fresh.Goals as goal

pub renew_all-requires : goal.renew_all-requires
renew_all-requires c = record { sound_curves = (search rules, search (full_sound, rules)); sound_sums = search rules }

pub returns : goal.returns
returns c = (search rules, search (fresh_full, rules))
