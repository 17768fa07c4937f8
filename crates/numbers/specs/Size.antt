-- The sizes of a number, and where its bytes stand. Assumes nothing.
use Rattle.std.specs.Prelude.{Bool, cond, [], ◌∷◌, ℕ, ◌-◌, ◌*◌, ◌^◌, eqb}
use Rattle.bsmp.specs.Base.{some}

-- "a number has size 1, 2, 4 or 8"; as Board's `fits_kind` has it
abbrev pub is_size : ℕ → Bool
is_size n = some (eqb n) (1 ∷ 2 ∷ 4 ∷ 8 ∷ [])

-- the largest unsigned value of n bytes
abbrev pub largest_of : ℕ → ℕ
largest_of n = 2 ^ (8 * n) - 1

-- half of them: where "u ≥ 2^(8n−1)" begins
abbrev pub half_of : ℕ → ℕ
half_of n = 2 ^ (8 * n - 1)

-- where, among n bytes, the one of weight 256 ^ i stands
abbrev pub place_of : (big : Bool) → ℕ → ℕ → ℕ
place_of big n i = cond big (n - 1 - i) i
