-- What the walks over a set ask for, and what they promise. Assumes nothing.
use Rattle.std.specs.Prelude.{◌≡◌, Bool, false, cond, List, ◌∷◌, map, ℕ, ◌+◌, ◌-◌, ◌^◌, ◌≤◌, ◌<◌, length, get_or}
use Rattle.bsmp.specs.Base.{sum}
use Rattle.bsmp.specs.Board.{Layout, variable, marked, members, set_of}
use Rattle.bsmp.specs.declared.GroupNumber.{GroupNumber}
use Rattle.copies.specs.Put.{put}
use Rattle.sets.specs.Members.{members_below, members_of, group_set}

-- few variables, and a store of exactly the length that their sizes add up to
pub record Sound (sizes store : List ℕ) : Type 0 where
  pub few : length sizes ≤ 64
  pub exact : sum sizes ≡ length store
  pub small : length store ≤ 4096

-- every number of the list is below n
pub record Below (n : ℕ) (list : List ℕ) : Type 0 where
  pub below : (k : ℕ) → k < length list → get_or list k 0 < n

-- the set of the variables that these IDs name, on every board that has them
pub record Named (ids : List ℕ) (set : ℕ) : Type 0 where
  pub set_is : (l : Layout) → Below (length l.sizes) ids → set ≡ set_of l (map variable ids)

-- a group's set: its members are the group's, on every board with these writable variables
pub record GroupSet (writable : ℕ) (groups : List ℕ) (g : GroupNumber) (set : ℕ) : Type 0 where
  pub is : set ≡ group_set writable groups g
  pub members_are : (l : Layout) → l.writable ≡ writable → length l.sizes ≤ 64 → members l groups g ≡ members_of set l.sizes

-- n bytes, at most so many, were put into the reply from a place on, and no others
pub record BytesAt (payload : List ℕ) (most : ℕ) (reply : List ℕ) (at n : ℕ) (reply' : List ℕ) : Type 0 where
  pub count : n ≡ length payload
  pub room : n ≤ most
  pub bytes : reply' ≡ put reply at payload

-- a turn of a walk: the bytes v are put at a place if the variable is a member, and k more bytes are passed
pub record Turned (member : Bool) (k : ℕ) (v list : List ℕ) (place from next : ℕ) (list' : List ℕ) : Type 0 where
  pub passed : next ≡ from + cond member k 0
  pub bytes : list' ≡ cond member (put list place v) list

-- i is the lowest member of a set
pub record Lowest (set i : ℕ) : Type 0 where
  pub few : i < 64
  pub there : 2 ^ i ≤ set
  pub before : (k : ℕ) → k < i → marked set (variable k) ≡ false
  pub below : (n : ℕ) → set < 2 ^ n → i < n
  pub first : (n : ℕ) → n ≤ 64 → set < 2 ^ n → members_below set n ≡ variable i ∷ members_below (set - 2 ^ i) n
