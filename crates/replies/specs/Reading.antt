-- How the code reads a reply: in steps, each as the definition has it. Assumes nothing.
use Rattle.std.specs.Prelude.{Bool, cond, not, ◌&&◌, ◌||◌, Result, Ok, Err, List, [], ◌∷◌, ℕ, ◌%◌, ltb, eqb, length, drop}
use Rattle.bsmp.specs.Base.{sum, byte_at, Test, test, first}
use Rattle.bsmp.specs.Packet.{message}
use Rattle.bsmp.specs.declared.Refusal.{Refusal}
use Rattle.bsmp.specs.declared.Refusal.TheVariants.{BadAddress, PacketLength, Checksum, ReplyUnfit}
use Rattle.asking.specs.Request.{is_multicast, is_address}
use Rattle.asking.specs.Learned.{Learned}
use Rattle.asking.specs.Reply.{Wanted, wanted, is_sized, error_reply, error_of, is_whole, is_error, Hearing, hears}
use Rattle.asking.specs.Learning.{blank}
use Rattle.asking.specs.declared.Request.{Request}
use Rattle.learned.specs.Answered.{answered}

-- whether the table counts: the same with any table
abbrev pub sized_request : Request → Bool
sized_request r = is_sized (wanted blank r)

-- the tests of a reply before its code is looked at
abbrev pub open_tests : (destination : ℕ) → List ℕ → List (Test Refusal)
open_tests to q =
    test 2 BadAddress (not (is_address to))
    ∷ test 4 PacketLength (ltb (length q) 2 || ltb 4104 (length q))
    ∷ test 5 Checksum (not (eqb (sum q % 256) 0))
    ∷ test 13 ReplyUnfit (not (not (is_multicast to) && eqb (byte_at q 0) 0 && is_whole (message q)))
    ∷ []

unfoldable pub opened_of : (destination : ℕ) → List ℕ → Result (Unit {0}) Refusal
opened_of to q = first (open_tests to q) Err (Ok tt)

-- an error or an answer
abbrev pub message_heard : Learned → Wanted → ℕ → List ℕ → Hearing
message_heard x w c p = cond (error_reply c p) (hears (is_error (error_of c))) (answered x w c p)

-- a reply, where the table doesn't count or keeps the limits
abbrev pub heard_by : Learned → Wanted → (destination : ℕ) → List ℕ → Hearing
heard_by x w to q = first (open_tests to q) Hearing.refused (message_heard x w (byte_at (message q) 0) (drop 3 (message q)))
