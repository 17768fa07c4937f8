-- `learn` meets its contract: each request by the list that answers it. Assumes nothing.
use Rattle.std.proofs.Common.{rules}
use Rattle.learning.proofs.Taught.{variables_learned, groups_learned, curves_learned, functions_learned, make_followed, remove_followed}
use Rattle.learning.proofs.learn.Goals as goal

pub returns-in-ListVariables : goal.returns-in-ListVariables
returns-in-ListVariables c = variables_learned c.args.table.now c.args.ids.now _ _ c.in-ListVariables.is c.requires (search rules) _ _ c.take_sizes.ensures c.marks_in-table.ensures

pub returns-in-ListGroups : goal.returns-in-ListGroups
returns-in-ListGroups c = groups_learned c.args.table.now c.args.ids.now _ _ c.in-ListGroups.is _ c.min-table.ensures

pub returns-in-ListCurves : goal.returns-in-ListCurves
returns-in-ListCurves c = curves_learned c.args.table.now c.args.ids.now _ _ c.in-ListCurves.is c.requires _ c.take_curves.ensures

pub returns-in-ListFunctions : goal.returns-in-ListFunctions
returns-in-ListFunctions c = functions_learned c.args.table.now c.args.ids.now _ _ c.in-ListFunctions.is _ c.take_functions.ensures

pub returns-in-MakeGroup : goal.returns-in-MakeGroup
returns-in-MakeGroup c = make_followed c.args.table.now c.args.ids.now c.args.payload.now _ _ c.in-MakeGroup.is c.put_group.ensures

pub returns-in-RemoveGroups : goal.returns-in-RemoveGroups
returns-in-RemoveGroups c = remove_followed c.args.table.now c.args.ids.now c.args.payload.now _ c.in-RemoveGroups.is
