-- Where a walk over a set begins, and a run of members on it. Assumes nothing.
use Rattle.std.specs.Prelude.{◌≡◌, true, false, List, ℕ, ◌+◌, ◌-◌, ◌/◌, ◌^◌, ◌≤◌, ◌<◌, length, take}
use Rattle.bsmp.specs.Base.{sum, has}
use Rattle.bsmp.specs.Board.{variable, marked}

-- where a walk may begin: no member is below i
pub record StartOf (set i : ℕ) : Type 0 where
  pub few : i < 64
  pub before : (k : ℕ) → k < i → marked set (variable k) ≡ false
  pub within : (n : ℕ) → set < 2 ^ n → i ≤ n

-- it begins there: the marks from i on are `rest`
pub record Begun (set rest i : ℕ) : Type 0 where
  pub start : StartOf set i
  pub marks : rest ≡ set / 2 ^ i

-- the first run of a set from variable i on, whose marks from there on are `rest`: its bytes stand from `at` on, and behind it the walk goes on
-- from variable i' with the marks rest'
pub record RunOf (sizes : List ℕ) (rest i at bytes rest' i' : ℕ) : Type 0 where
  -- the first member
  pub first : ℕ
  pub after : i ≤ first
  pub more : first < i'
  pub inside : i' ≤ length sizes
  pub none : (k : ℕ) → i + k < first → has rest k ≡ false
  pub all : (k : ℕ) → first ≤ i + k → i + k < i' → has rest k ≡ true
  pub marks : rest' ≡ rest / 2 ^ (i' - i)
  pub begins : at ≡ sum (take first sizes)
  pub ends : at + bytes ≡ sum (take i' sizes)
