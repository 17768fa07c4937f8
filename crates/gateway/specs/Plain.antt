-- The asking side in plain numbers: a request by its code and numbers, what is written and heard by kinds and places. Assumes nothing.
use Rattle.std.specs.Prelude.{not, Option, Some, None, option_map, Result, Ok, Err, List, [], ◌∷◌, ℕ, length}
use Rattle.bsmp.specs.Base.{Test, test, first}
use Rattle.bsmp.specs.Codes.{coded, error_code, refusal_number}
use Rattle.bsmp.specs.Board.{variable, group, curve, function}
use Rattle.bsmp.specs.Packet.{is_short}
use Rattle.bsmp.specs.declared.Refusal.{Refusal}
use Rattle.bsmp.specs.declared.Refusal.TheVariants.{BadAddress, ReplyBufferShort, ReplyUnfit, RequestUnwritable}
use Rattle.asking.specs.Request.{mask_of, is_address, Asking, asking}
use Rattle.asking.specs.Learned.{Learned}
use Rattle.asking.specs.Reply.{Hearing, hearing, told_of}
use Rattle.asking.specs.Learning.{learning}
use Rattle.asking.specs.declared.Request.{Request}
use Rattle.asking.specs.declared.Request.TheVariants.{Version, ListVariables, ListGroups, ShowGroup, ListCurves, ReadSum, ListFunctions, ReadVariable, ReadGroup, WriteVariable, WriteGroup}
use Rattle.asking.specs.declared.Request.TheVariants.{MaskVariable, MaskGroup, WriteRead, MakeGroup, RemoveGroups, ReadBlock, WriteBlock, RenewSum, RunFunction}
use Rattle.asking.specs.declared.Told.{Told}
use Rattle.asking.specs.declared.Told.TheVariants as T
use Rattle.requests.specs.Writing.{AskedLeft, asked_of}
use Rattle.replies.specs.Reading.{open_tests}
use Rattle.gateway.specs.declared.PlainAsked.{PlainAsked}
use Rattle.gateway.specs.declared.PlainHeard.{PlainHeard}

-- the request of a code, an operation and numbers; none of another code or operation than 01's ------------------------------------
abbrev pub requests : (operation number other block : ℕ) → List (ℕ × Option Request)
requests o n m k =
    (0x00, Some Version) ∷ (0x02, Some ListVariables) ∷ (0x04, Some ListGroups) ∷ (0x06, Some (ShowGroup (group n))) ∷ (0x08, Some ListCurves)
    ∷ (0x0A, Some (ReadSum (curve n))) ∷ (0x0C, Some ListFunctions)
    ∷ (0x10, Some (ReadVariable (variable n))) ∷ (0x12, Some (ReadGroup (group n)))
    ∷ (0x20, Some (WriteVariable (variable n))) ∷ (0x22, Some (WriteGroup (group n)))
    ∷ (0x24, option_map (MaskVariable (variable n)) (mask_of o)) ∷ (0x26, option_map (MaskGroup (group n)) (mask_of o))
    ∷ (0x28, Some (WriteRead (variable n) (variable m)))
    ∷ (0x30, Some MakeGroup) ∷ (0x32, Some RemoveGroups)
    ∷ (0x40, Some (ReadBlock (curve n) k)) ∷ (0x41, Some (WriteBlock (curve n) k)) ∷ (0x42, Some (RenewSum (curve n)))
    ∷ (0x50, Some (RunFunction (function n)))
    ∷ []

unfoldable pub named_of : (code operation number other block : ℕ) → Option Request
named_of c o n m k = coded (requests o n m k) None c

-- writing: what can't be named can't be written, after 2 and 3 ---------------------------------------------------------------------
abbrev pub unnamed_tests : (destination room : ℕ) → List (Test Refusal)
unnamed_tests to room = test 2 BadAddress (not (is_address to)) ∷ test 3 ReplyBufferShort (is_short room) ∷ []

unfoldable pub unnamed : (destination room : ℕ) → Refusal
unnamed to room = first (unnamed_tests to room) (λ n. n) RequestUnwritable

abbrev pub asking_by : (destination room : ℕ) → Option Request → List ℕ → Asking
asking_by to room (Some r) d = asking to room r d
asking_by to room None d = Asking.refused (unnamed to room)

abbrev pub plain_asked_of : Result ℕ Refusal → PlainAsked
plain_asked_of (Ok n) = record { refusal = 0; length = n }
plain_asked_of (Err n) = record { refusal = refusal_number n; length = 0 }

-- what a call leaves: its answer, and the buffer
pub record PlainAskedLeft : Type 0 where
  pub asked : PlainAsked
  pub buffer : List ℕ

abbrev pub plain_asked_left : PlainAsked → List ℕ → PlainAskedLeft
plain_asked_left a b = record { asked = a; buffer = b }

abbrev pub plain_asked_left_of : AskedLeft → PlainAskedLeft
plain_asked_left_of x = plain_asked_left (plain_asked_of x.asked) x.buffer

abbrev pub ask_of : (destination : ℕ) → Option Request → (bytes buffer : List ℕ) → PlainAskedLeft
ask_of to r d b = plain_asked_left_of (asked_of (asking_by to (length b) r d) b)

-- reading: a reply to what can't be named fits nothing -----------------------------------------------------------------------------
unfoldable pub unheard : (destination : ℕ) → List ℕ → Refusal
unheard to q = first (open_tests to q) (λ n. n) ReplyUnfit

abbrev pub hearing_by : Learned → (destination : ℕ) → Option Request → List ℕ → Hearing
hearing_by x to (Some r) q = hearing x to r q
hearing_by x to None q = Hearing.refused (unheard to q)

abbrev pub learning_by : Learned → Option Request → (bytes : List ℕ) → Hearing → Learned
learning_by x (Some r) d h = learning x r d h
learning_by x None d h = x

-- kinds: 0 a refusal, 1 an error, 2 done, 3 the version, 4 to 8 the lists, 9 values, 10 a block, 11 a sum, 12 an output, 13 a function's error byte
abbrev pub said_by : (kind error : ℕ) → PlainHeard
said_by k e = record { kind = k; refusal = 0; error = e; place = 0; length = 0 }

abbrev pub shown_by : (kind place length : ℕ) → PlainHeard
shown_by k p n = record { kind = k; refusal = 0; error = 0; place = p; length = n }

abbrev pub plain_heard_of : Result Told Refusal → PlainHeard
plain_heard_of (Ok (T.Error e)) = said_by 1 (error_code e)
plain_heard_of (Ok T.Done) = said_by 2 0
plain_heard_of (Ok T.Version) = shown_by 3 4 3
plain_heard_of (Ok (T.Variables n)) = shown_by 4 4 n
plain_heard_of (Ok (T.Groups n)) = shown_by 5 4 n
plain_heard_of (Ok (T.Members n)) = shown_by 6 4 n
plain_heard_of (Ok (T.Curves n)) = shown_by 7 4 n
plain_heard_of (Ok (T.Functions n)) = shown_by 8 4 n
plain_heard_of (Ok (T.Values n)) = shown_by 9 4 n
plain_heard_of (Ok (T.Block n)) = shown_by 10 7 n
plain_heard_of (Ok T.Sum) = shown_by 11 4 16
plain_heard_of (Ok (T.Output n)) = shown_by 12 4 n
plain_heard_of (Ok (T.Failed e)) = said_by 13 e
plain_heard_of (Err n) = record { kind = 0; refusal = refusal_number n; error = 0; place = 0; length = 0 }

-- what a call leaves: what was heard, and the table
pub record PlainHeardLeft : Type 0 where
  pub heard : PlainHeard
  pub table : Learned

abbrev pub plain_heard_left : PlainHeard → Learned → PlainHeardLeft
plain_heard_left h x = record { heard = h; table = x }

abbrev pub hear_of : Learned → (destination : ℕ) → Option Request → (bytes reply : List ℕ) → PlainHeardLeft
hear_of x to r d q = plain_heard_left (plain_heard_of (told_of (hearing_by x to r q))) (learning_by x r d (hearing_by x to r q))
