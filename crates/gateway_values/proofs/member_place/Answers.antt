-- `member_place` meets its contract. Assumes nothing.
use Rattle.std.proofs.Common.{rules}
use Rattle.gateway_values.proofs.Places.{variable_none, group_none, member_none, member_told}
use Rattle.gateway_values.proofs.member_place.Goals as goal

pub returns-then-known-i : goal.returns-then-known-i
returns-then-known-i c = variable_none c.args.known.now _ _ _ c.if-known-i.true c.from.ensures

pub returns-then-known-g : goal.returns-then-known-g
returns-then-known-g c = group_none c.args.known.now _ _ c.if-known-i.false _ c.if-known-g.true c.from-then-known-g.ensures

pub returns-then-not-is_marked : goal.returns-then-not-is_marked
returns-then-not-is_marked c = member_none c.args.known.now _ _ c.if-known-i.false c.if-known-g.false c.args.known.now.few (search rules) _ c.group_set-set.ensures _ c.is_marked.ensures _ c.if-not-is_marked.true c.from-then-not-is_marked.ensures

pub returns : goal.returns
returns c = member_told c.args.known.now _ _ c.if-known-i.false c.if-known-g.false c.args.known.now.few (search rules) _ c.group_set-set.ensures _ c.is_marked.ensures c.if-not-is_marked.false _ _ _ c.declared.ensures c.set_bytes-before.ensures.0 c.from-2.ensures
