-- What a packet yields: refusals 2 to 6, or its message. Assumes nothing.
use Rattle.std.specs.Prelude.{Bool, List, ◌++◌, ℕ, Result, Ok, Err}
use Rattle.bsmp.specs.Base.{Test, first}
use Rattle.bsmp.specs.Packet.{Place, is_own, destination, place_tests, packet_tests}
use Rattle.bsmp.specs.declared.Refusal.{Refusal}

-- own address and multicast byte, as they are lent
abbrev pub placed : (own multicast : ℕ) → Place
placed own multicast = record { own = own; multicast = multicast }

-- the tests of the place and the reply buffer, then those of the packet
abbrev pub opening_tests : Place → (room : ℕ) → List ℕ → List (Test Refusal)
opening_tests a room p = place_tests a room ++ packet_tests a p

-- a message: whether an answer is due; or the first refusal
unfoldable pub opened_of : Place → (room : ℕ) → List ℕ → Result Bool Refusal
opened_of a room p = first (opening_tests a room p) Err (Ok (is_own a (destination p)))
