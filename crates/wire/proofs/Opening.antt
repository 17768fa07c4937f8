-- What an opened packet tells its caller. Assumes nothing.
use mathlib.Core.Path.{◌≡◌, sym, ap, ◌∙◌}
use mathlib.Core.Bool.{Bool, false}
use mathlib.Core.List.{List}
use Prim.Native.Nat.{ℕ, ◌-◌, ◌≤◌}
use native.Mathlib.Omega.{arith}
use borrow.Author.Tests.{ltb-false}
use borrow.Rule.Slice.PartMut.{mid_of}
use lib.Dec.{ltb}
use lib.ListN.{length}
use Rattle.std.specs.Prelude.{Result, Ok, Err}
use Rattle.bsmp.specs.Base.{first}
use Rattle.bsmp.specs.Packet.{Place, is_own, destination, message, place_tests, packet_tests}
use Rattle.bsmp.specs.declared.Refusal.{Refusal}
use Rattle.bsmp.proofs.Bools.{or_false}
use Rattle.bsmp.proofs.Chain.{either, clear, clear_at, first_case, first_map}
use Rattle.wire.specs.Opening.{opening_tests, opened_of}

-- the packet's tests before any work: their refusal, or the work
module _ (a : Place) (room : ℕ) (p : List ℕ) (o : Result Bool Refusal) (h : o ≡ opened_of a room p) where
  module _ {B : Type 0} (f : Refusal → B) (ok y : B) where
    tested : either f ok o ≡ first (place_tests a room) f (first (packet_tests a p) f ok)
    unfolding opened_of first
    tested = ap (either f ok) h ∙ first_map (either f ok) (opening_tests a room p) Err (Ok (is_own a (destination p)))

    pub refused_first : (x : Refusal) → o ≡ Err x → y ≡ f x → y ≡ first (place_tests a room) f (first (packet_tests a p) f ok)
    refused_first x e q = q ∙ ap (either f ok) (sym e) ∙ tested

    pub message_first : (d : Bool) → o ≡ Ok d → y ≡ ok → y ≡ first (place_tests a room) f (first (packet_tests a p) f ok)
    message_first d e q = q ∙ ap (either f ok) (sym e) ∙ tested

  module _ (d : Bool) (e : o ≡ Ok d) where
    passed : clear (opening_tests a room p) × (d ≡ is_own a (destination p))
    unfolding opened_of
    passed = first_case (λ z. z ≡ Ok d → clear (opening_tests a room p) × (d ≡ is_own a (destination p))) _ Err _
        (λ x k. cc) (λ c k. (c, cc)) (sym h ∙ e)

    -- whether an answer is due
    pub message_due : d ≡ is_own a (destination p)
    message_due = passed.1

    -- the reply buffer has room
    pub message_room : 4104 ≤ room
    message_room = ltb-false _ _ (clear_at (opening_tests a room p) passed.0 1)

    sized : (ltb (length p) 2 ≡ false) × (ltb 4104 (length p) ≡ false)
    sized = or_false (ltb (length p) 2) _ (clear_at (opening_tests a room p) passed.0 2)

    pub message_least : 2 ≤ length p
    message_least = ltb-false _ _ sized.0

-- so the bytes between destination and checksum can be lent, `&packet[1..packet.len() - 1]`
pub message_end : (p : List ℕ) → 2 ≤ length p → 1 ≤ length p
message_end p h = omega arith

-- and that part is the message
pub message_lent : (p : List ℕ) → mid_of 1 (length p - 1 - 1) p ≡ message p
message_lent p =
    let e : length p - 1 - 1 ≡ length p - 2 = omega arith in
    rw e
