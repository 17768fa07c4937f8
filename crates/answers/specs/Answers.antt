-- What was said to a message, and where its payload stands. Assumes nothing.
use Rattle.std.specs.Prelude.{◌≡◌, Bool, cond, List, [], ℕ, ◌≤◌, length}
use Rattle.bsmp.specs.Message.{Said, replies, runs}
use Rattle.bsmp.specs.Store.{Lent}
use Rattle.copies.specs.Put.{put}
use Rattle.records.specs.Lending.{lent}
use Rattle.answers.specs.declared.Kept.{Kept}
use Rattle.answers.specs.declared.Spoken.{Spoken}
use Rattle.answers.specs.declared.Spoken.TheVariants.{Reply, Run, Nothing}

-- what is lent to be read: the code's Kept, as its slices stand, and the made groups
abbrev pub lent_kept : Kept → (groups : List ℕ) → Lent
lent_kept k gs = lent k.values.now k.blocks.now k.lengths.now k.sums.now gs

-- how the code says what was said, where an answer is due or not: a reply's payload stands in the buffer
abbrev pub spoken_of : (due : Bool) → Said → Spoken
spoken_of due (replies c p) = cond due (Reply c (length p)) Nothing
spoken_of due (runs f i) = Run f (length i)

abbrev pub said_bytes : (due : Bool) → Said → List ℕ
said_bytes due (replies c p) = cond due p []
said_bytes due (runs f i) = []

pub record Spoke (due : Bool) (x : Said) (r : List ℕ) (at : ℕ) (s : Spoken) (r' : List ℕ) : Type 0 where
  pub said : s ≡ spoken_of due x
  pub written : r' ≡ put r at (said_bytes due x)
  pub short : length (said_bytes due x) ≤ 4099
