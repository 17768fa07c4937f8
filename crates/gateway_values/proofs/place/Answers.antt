-- `place` meets its contract. Assumes nothing.
use Rattle.learned.specs.Table.{known_table}
use Rattle.gateway_values.proofs.Places.{place_unusable, place_usable}
use Rattle.gateway_values.proofs.place.Goals as goal

pub returns-in-Some : goal.returns-in-Some
returns-in-Some c = place_usable _ _ _ (known_table c.in-Some.known) _ c.in-Some.ensures c.member_place.ensures

pub returns-in-None : goal.returns-in-None
returns-in-None c = place_unusable _ _ _ _ c.in-None.ensures c.from.ensures
