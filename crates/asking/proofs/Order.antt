-- The refusals of both entries stand in order, each by its number. Assumes nothing.
use mathlib.Core.Path.{◌≡◌, refl}
use mathlib.Core.List.{List, [], ◌∷◌, map}
use Prim.Native.Nat.{ℕ}
use lib.ListN.{drop}
use Rattle.bsmp.specs.Base.{byte_at}
use Rattle.bsmp.specs.Packet.{packed, message}
use Rattle.bsmp.proofs.Steps.{Behind}
use Rattle.asking.specs.Request.{fields_of, message_for, asking_tests, Asking, request, asking}
use Rattle.asking.specs.Learned.{Learned}
use Rattle.asking.specs.Reply.{wanted, heard_in, hearing_tests, Hearing, hears, hearing}
use Rattle.asking.specs.declared.Request.{Request}

module _ (to room : ℕ) (r : Request) (d : List ℕ) where
  pub asking_order : Behind (asking to room r d) (asking_tests to room (fields_of r d)) Asking.refused (request (packed to (message_for r d)))
  unfolding asking
  asking_order = record { by_tests = refl; in_order = (refl, refl) }

  pub asking_numbers : map (λ u. u.step) (asking_tests to room (fields_of r d)) ≡ 2 ∷ 3 ∷ 14 ∷ []
  asking_numbers = refl

module _ (x : Learned) (to : ℕ) (r : Request) (q : List ℕ) where
  pub hearing_order : Behind (hearing x to r q) (hearing_tests x (wanted x r) to q) Hearing.refused (hears (heard_in x (wanted x r) (byte_at (message q) 0) (drop 3 (message q))))
  unfolding hearing
  hearing_order = record { by_tests = refl; in_order = (refl, refl) }

  pub hearing_numbers : map (λ u. u.step) (hearing_tests x (wanted x r) to q) ≡ 1 ∷ 2 ∷ 4 ∷ 5 ∷ 13 ∷ []
  hearing_numbers = refl
