-- What the commands of groups ask of a payload, and what a walk over new IDs finds. Assumes nothing.
use Rattle.std.specs.Prelude.{◌≡◌, not, List, ℕ, ◌+◌, ◌≤◌, ◌<◌, ltb, length}
use Rattle.bsmp.specs.Base.{some, ascending}
use Rattle.bsmp.specs.Board.{Layout, group_bytes, group_count}
use Rattle.bsmp.specs.Message.{group_id_at}
use Rattle.groups.specs.declared.Ids.{Ids}

-- a group that exists is named first
pub record GroupKnown (gs p : List ℕ) : Type 0 where
  pub some : 0 < length p
  pub known : (group_id_at p 0).0 < group_count gs

-- and after n bytes stand those of all its members, and no more
pub record GroupFits (l : Layout) (gs p : List ℕ) (n : ℕ) : Type 0 where
  pub some : 0 < length p
  pub front : n ≤ length p
  pub known : (group_id_at p 0).0 < group_count gs
  pub whole : length p ≡ n + group_bytes l gs (group_id_at p 0)

-- the IDs looked through, on a board with so many variables
pub record Looked (ids : List ℕ) (count : ℕ) (r : Ids) : Type 0 where
  pub unknown : r.unknown ≡ some (λ i. not (ltb i count)) ids
  pub ascends : r.ascending ≡ ascending ids
