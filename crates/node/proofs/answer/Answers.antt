-- `answer` meets its contract. Assumes nothing.
use Rattle.node.proofs.Tables.{few_records, few_groups, layout_is, groups_are, sound_board, types_sound}
use Rattle.node.proofs.Receiving.{answer_ends}
use Rattle.node.proofs.Carrying.{lent_ends}
use borrow.Author.Rules.{rules}
use Rattle.node.proofs.answer.Goals as goal

pub shared_ref_as_front-columns : goal.shared_ref_as_front-columns
shared_ref_as_front-columns c = few_records _ _ _ _ _ _ _ _ c.requires.fact

pub shared_ref_as_front-sets : goal.shared_ref_as_front-sets
shared_ref_as_front-sets c = few_groups _ _ _ _ _ _ _ _ c.requires.fact

pub serve-served-requires-clause-fact : goal.serve-served-requires-clause-fact
serve-served-requires-clause-fact c = (sound_board _ _ _ _ _ _ _ _ c.requires.fact (search rules) (search rules) (search rules), types_sound _ _ _ _ _ _ _ _ c.requires.fact (search rules) (search rules) (search rules))

pub returns-clause-ends : goal.returns-clause-ends
returns-clause-ends c =
    let room = c.requires.in_bounds.1 in
    lent_ends _ _ _ _ _ _ _ _ _ _ _ _ _ _ _ _ _ _ _ (layout_is _ _ _ _ _ _ _ _ c.requires.fact (search rules) (search rules) (search rules)) (groups_are _ _ _ _ _ _ _ _ c.requires.fact (search rules) (search rules) (search rules))
    (answer_ends _ _ _ _ _ _ _ _ _ _ _ _ room c.serve-served.ensures.served c.close-outcome.ensures)
