-- The promise of a packet's work: what it leaves in everything that was lent to it, for every input. Assumes nothing.
use Rattle.std.specs.Prelude.{◌≡◌, Bool, true, List, ◌++◌, ℕ, ◌+◌, ◌-◌, ◌≤◌, ◌<◌, length, take, drop}
use Rattle.std.specs.Prelude as R
use Rattle.bsmp.specs.Base.{join}
use Rattle.bsmp.specs.Board.{Table, Layout, layout}
use Rattle.bsmp.specs.Packet.{Place, Result, frame, packet}
use Rattle.bsmp.specs.Store.{Lent, held, outcome_of, shown}
use Rattle.bsmp.specs.declared.Refusal.{Refusal}
use Rattle.bsmp.specs.declared.Outcome.{Outcome}
use Rattle.bsmp.specs.declared.Outcome.TheVariants as O
use Rattle.copies.specs.Put.{put, part}
use Rattle.records.specs.declared.Groups.{Groups}
use Rattle.changes.specs.Changes.{LeftAs}
use Rattle.changes.specs.declared.Regroup.{Regroup}
use Rattle.changes.specs.declared.Regroup.TheVariants.{Keep, Make}
use Rattle.answers.specs.declared.Spoken.{Spoken}
use Rattle.answers.specs.declared.Spoken.TheVariants.{Reply, Run, Nothing}
use Rattle.node.specs.declared.Received.{Received}

-- the group table that holds these made groups in its first places; the others are as they were
abbrev pub table_with : List ℕ → Groups → Groups
table_with gs g = record { count = length gs; sets = take 5 (gs ++ drop (length gs) g.sets) }

-- what a call leaves: its outcome, and all that was lent to it
pub record PacketLeft : Type 0 where
  pub outcome : Outcome
  pub groups : Groups
  pub reply : List ℕ
  pub values : List ℕ
  pub blocks : List ℕ
  pub lengths : List ℕ
  pub sums : List ℕ

-- as the definition has it, from the reply buffer and the group table at the call ..
abbrev pub packet_left_of : Result → (reply : List ℕ) → Groups → PacketLeft
packet_left_of x r g = record {
  outcome = outcome_of x.ending;
  groups = table_with x.state.groups g;
  reply = shown x.ending r;
  values = join x.state.values;
  blocks = join x.state.blocks;
  lengths = x.state.lengths;
  sums = join x.state.sums;
}

-- .. and as the code has it
abbrev pub packet_left : Outcome → Groups → (reply values blocks lengths sums : List ℕ) → PacketLeft
packet_left o g r vs bs ls ds = record { outcome = o; groups = g; reply = r; values = vs; blocks = bs; lengths = ls; sums = ds }

-- for the functions below the entry ---------------------------------------------------------------------------------------
-- how a packet's work ends, and what becomes of the made groups
abbrev pub ended : R.Result Received Refusal → Outcome
ended (R.Ok d) = d.outcome
ended (R.Err e) = O.Refused e

abbrev pub made_of : R.Result Received Refusal → Regroup
made_of (R.Ok d) = d.regroup
made_of (R.Err e) = Keep

-- what is said to a message, as the call ends: closed in its packet, told of, or nothing
abbrev pub end_of : (due : Bool) → Spoken → Outcome
end_of due (Reply c n) = O.Reply (n + 5)
end_of due (Run f n) = O.Run f n due
end_of due Nothing = O.Silence

abbrev pub closed_in : List ℕ → Spoken → List ℕ
closed_in b (Reply c n) = put b 0 (frame c (part b 4 n))
closed_in b (Run f n) = b
closed_in b Nothing = b

pub record Closed (due : Bool) (s : Spoken) (b : List ℕ) (o : Outcome) (b' : List ℕ) : Type 0 where
  pub outcome : o ≡ end_of due s
  pub reply : b' ≡ closed_in b s

-- a reply's payload stands in the buffer, and its packet fits there
pub record Closable (s : Spoken) (b : List ℕ) : Type 0 where
  pub short : (c n : ℕ) → s ≡ Reply c n → n ≤ 4099
  pub room : 4104 ≤ length b

-- a group table of 5 places, with room for what a message makes
pub record Fits (r : Regroup) (g : Groups) : Type 0 where
  pub room : (m : ℕ) → r ≡ Make m → g.count < 5
  pub places : length g.sets ≡ 5

-- what the work leaves before the table is regrouped: y, and g becomes of the made groups
pub record EndsAs (z : Result) (l : Layout) (b : List ℕ) (o : Outcome) (g : Regroup) (b' : List ℕ) (y : Lent) : Type 0 where
  pub outcome : o ≡ outcome_of z.ending
  pub reply : b' ≡ shown z.ending b
  pub leaves : LeftAs l z.state g y

pub record CarriedAs (t : Table) (a : Place) (busy : ℕ) (p : List ℕ) (x : Lent) (b : List ℕ)
    (o : Outcome) (g : Regroup) (b' : List ℕ) (y : Lent) : Type 0 where
  pub ends : EndsAs (packet t a busy (length b) p (held (layout t) x)) (layout t) b o g b' y
