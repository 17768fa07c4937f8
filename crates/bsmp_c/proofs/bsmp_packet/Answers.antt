-- `bsmp_packet` meets its contract: the columns say what the lent records do (`Same.packet_same`). Assumes nothing.
use Rattle.std.proofs.Common.{List}
use Rattle.bsmp.specs.declared.Variable.{Variable}
use Rattle.plain.specs.Lending.{Lending, lending}
use Rattle.plain.specs.Calls.{packet_of}
use Rattle.bsmp_c.proofs.Same.{of_lent, with_variables, packet_same}
use Rattle.bsmp_c.proofs.bsmp_packet.Goals as goal

pub returns : goal.returns
returns c =
    let a = c.args in
    let board : Lending = lending a.variables.now a.curves.now a.functions.now a.groups.now a.values.now a.blocks.now a.lengths.now a.sums.now in
    of_lent (λ (vs : List Variable). packet_of (with_variables vs board) a.own a.multicast a.busy a.request.now a.reply.now) a.variables.now
    (packet_same board a.own a.multicast a.busy a.request.now a.reply.now) _ _ c.packet.ensures c.take.ensures
