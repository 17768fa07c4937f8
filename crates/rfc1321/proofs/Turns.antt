-- A round as the code goes through it: sixteen operations, four in a turn. Assumes nothing.
use Rattle.std.proofs.Common.{◌≡◌, ℕ, zero, suc, ◌+◌, ◌-◌, ◌*◌, ◌^◌, ◌%◌, ◌<◌, ◌≤◌, List, ◌++◌, get_or, slice_index, drop, refl, arith}
use Rattle.std.specs.Int.{w32, rotate_left}
use Rattle.rfc1321.specs.Md5.{◌⊞◌, ◌<<<◌, word, table, operation, operations}
use Rattle.rfc1321.specs.Rounds.{four, listed, Shift, Listed}
use Rattle.rfc1321.specs.declared.State.{State}

-- a rotation as the library has it
rotated : (x s : ℕ) → Shift s → rotate_left w32 x s ≡ (x <<< s)
unfolding ◌<<<◌
rotated x s h =
    let e : s % 32 ≡ s = omega arith in
    let d : (32 - s) % 32 ≡ 32 - s = omega arith in
    rw (e, d)

-- an operation of what the code has for it: the word y of its function, X[k], and an element of the table, which is numbered from 0
pub operation_made : (f : ℕ → ℕ → ℕ → ℕ) (x t : List ℕ) (k k' s j j' y w r : ℕ) (q : State)
    → r ≡ rotate_left w32 ((((q.a + y) % 2 ^ 32 + w) % 2 ^ 32 + get_or t j' 0) % 2 ^ 32) s → Shift s
    → y ≡ f q.b q.c q.d → w ≡ word x k' → k' ≡ k → t ≡ table → j' ≡ j
    → record { a = q.d; b = (q.b + r) % 2 ^ 32; c = q.b; d = q.c } ≡ operation f x (k, s, suc j) q
unfolding operation ◌⊞◌
operation_made f x t k k' s j j' y w r q e h e₁ e₂ e₃ e₄ e₅ =
    let n : suc j - 1 ≡ j = omega arith in
    rw (e, rotated _ s h, e₁, e₂, e₃, e₄, e₅, n)

module _ (k : ℕ → ℕ) (before : ℕ) (shifts : List ℕ) where
  -- what is left of the sixteen after n turns: a turn, and what is left after it
  parts : (n : ℕ) → n < 4 → drop (4 * n) (listed k before shifts) ≡ four k before shifts (4 * n) ++ drop (4 * (n + 1)) (listed k before shifts)
  parts zero h = refl
  parts (suc zero) h = refl
  parts (suc (suc zero)) h = refl
  parts (suc (suc (suc zero))) h = refl
  parts (suc (suc (suc (suc n)))) h = absurd (omega arith)

  module _ (f : ℕ → ℕ → ℕ → ℕ) (x : List ℕ) (ops : List (ℕ × ℕ × ℕ)) (law : Listed k before shifts ops) where
    abbrev one : (i j : ℕ) → State → State
    one i j q = operation f x (k i, slice_index shifts j, suc (before + i)) q

    pub turn : (n : ℕ) (q q₀ q₁ q₂ q₃ z : State) → n < 4
        → q₀ ≡ one (4 * n) 0 q → q₁ ≡ one (4 * n + 1) 1 q₀ → q₂ ≡ one (4 * n + 2) 2 q₁ → q₃ ≡ one (4 * n + 3) 3 q₂
        → operations f x (drop (4 * n) ops) q ≡ z → operations f x (drop (4 * (n + 1)) ops) q₃ ≡ z
    unfolding operations
    turn n q q₀ q₁ q₂ q₃ z l e₀ e₁ e₂ e₃ h = rw (law.same, e₃, e₂, e₁, e₀) (rw (law.same, parts n l) at h)

    pub turned : (n : ℕ) (q z : State) → 4 ≤ n → n ≤ 4 → operations f x (drop (4 * n) ops) q ≡ z → q ≡ z
    unfolding operations
    turned n q z h k e = let m : n ≡ 4 = omega arith in rw (law.same, m) at e
