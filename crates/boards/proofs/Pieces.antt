-- Records 16 at a time, and what is left of them one by one. Assumes nothing.
use mathlib.Core.Path.{◌≡◌, refl, sym, ap, ◌∙◌}
use mathlib.Core.Bool.{Bool, true, false, not, ◌&&◌, and_assoc, and-true as and-on}
use mathlib.Core.Logic.{◌⊎◌}
use mathlib.Core.List.{List, [], ◌∷◌, map}
use Prim.Native.Nat.{ℕ, zero, suc, ◌+◌, ◌-◌, ◌*◌, ◌/◌, ◌%◌, ◌≤◌, ◌<◌}
use native.Mathlib.Omega.{arith}
use lib.Dec.{eqb}
use lib.ListN.{length, take}
use borrow.Author.Tests.{not-true, not-false}
use Rattle.bsmp.specs.Base.{sum, up_from, every}
use Rattle.bsmp.specs.Board.{sizes_of, usable_variable, usable_variables}
use Rattle.bsmp.specs.declared.Variable.{Variable}
use Rattle.records.specs.declared.Records.{Records}
use Rattle.records.specs.Lending.{record_at, records_of}
use Rattle.boards.specs.Pieces.{usable_from}
use Rattle.records.proofs.Lending.{record_count, sizes_lent}
use Rattle.rules.proofs.Checks.{variables_broken, variables_large, variables_pass}
use Rattle.rules.proofs.Counting.{count_refused}

-- numbers in two parts
every_join : (f : ℕ → Bool) (k m n : ℕ) → every f (up_from k (m + n)) ≡ (every f (up_from k m) && every f (up_from (k + m) n))
every_join f k zero n = let z : 0 + n ≡ n = omega arith in let o : k + 0 ≡ k = omega arith in rw (z, o)
every_join f k (suc m) n =
    let z : suc m + n ≡ suc (m + n) = omega arith in
    let o : suc k + m ≡ k + suc m = omega arith in
    rw z (ap (f k &&◌) (rw o at (every_join f (suc k) m n)) ∙ sym (and_assoc (f k) (every f (up_from (suc k) m)) (every f (up_from (k + suc m) n))))

every_map : {A : Type 0} (f : A → Bool) (g : ℕ → A) (xs : List ℕ) → every f (map g xs) ≡ every (λ i. f (g i)) xs
every_map f g [] = refl
every_map f g (x ∷ xs) = ap (f (g x) &&◌) (every_map f g xs)

module _ (r : Records) where
  join : (k m n : ℕ) → usable_from r k (m + n) ≡ (usable_from r k m && usable_from r (k + m) n)
  unfolding usable_from
  join k m n = every_join (λ i. usable_variable (record_at r i)) k m n

  none : (k : ℕ) → usable_from r k 0 ≡ true
  unfolding usable_from
  none k = refl

  -- one record v, and what its test b gave
  one : (i : ℕ) (v : Variable) (b : Bool) → v ≡ record_at r i → b ≡ usable_variable v → b ≡ usable_from r i 1
  unfolding usable_from
  one i v b o e = e ∙ ap usable_variable o ∙ sym (and-on _)

  -- y records from k up to i pass, and n more are tested, with b; so j are
  module _ (k y i n j : ℕ) (b : Bool) (p : k + y ≡ i) (q : usable_from r k y ≡ true) (e : b ≡ usable_from r i n) (w : j ≡ y + n) where
    further : usable_from r k j ≡ b
    further = rw w (join k y n ∙ rw (q, p, ← e))

    passing : not b ≡ false → usable_from r k j ≡ true
    passing t = further ∙ not-false b t

    -- where some fail, all up to any later place do
    failing : (m : ℕ) → not b ≡ true → j ≤ m → false ≡ usable_from r k m
    failing m t h =
        let o : m ≡ j + (m - j) = omega arith in
        sym (rw o (join k j (m - j) ∙ rw (further, not-true b t)))

  -- the walk within a piece
  pub piece_start : (from : ℕ) → true ≡ usable_from r from 0
  piece_start from = sym (none from)

  pub piece_next : (from i : ℕ) (v : Variable) (a b : Bool) → v ≡ record_at r (from + i) → b ≡ usable_variable v → a ≡ usable_from r from i → (a && b) ≡ usable_from r from (i + 1)
  piece_next from i v a b o e q = rw (q, one (from + i) v b o e) (sym (join from i 1))

  -- the walk over pieces
  pub pieces_start : usable_from r 0 (16 * 0) ≡ true
  pieces_start = none 0

  module _ (whole i : ℕ) (b : Bool) (w : whole % 16 ≡ 0) (h : i < whole / 16) (q : usable_from r 0 (16 * i) ≡ true) (e : b ≡ usable_from r (16 * i) 16) where
    pub pieces_next : not b ≡ false → usable_from r 0 (16 * (i + 1)) ≡ true
    pieces_next t = passing 0 (16 * i) (16 * i) 16 (16 * (i + 1)) b (omega arith) q e (omega arith) t

    pub pieces_stop : not b ≡ true → false ≡ usable_from r 0 whole
    pieces_stop t = failing 0 (16 * i) (16 * i) 16 (16 * (i + 1)) b (omega arith) q e (omega arith) whole t (omega arith)

  -- the walk over the rest
  pub rest_start : (k : ℕ) → usable_from r k (k - k) ≡ true
  rest_start k = let o : k - k ≡ 0 = omega arith in rw o (none k)

  module _ (k i : ℕ) (v : Variable) (b : Bool) (l : k ≤ i) (q : usable_from r k (i - k) ≡ true) (o : v ≡ record_at r i) (e : b ≡ usable_variable v) where
    pub rest_next : not b ≡ false → usable_from r k (i + 1 - k) ≡ true
    rest_next t = passing k (i - k) i 1 (i + 1 - k) b (omega arith) q (one i v b o e) (omega arith) t

    pub rest_stop : (m : ℕ) → not b ≡ true → i < m → false ≡ usable_from r k (m - k)
    rest_stop m t h = failing k (i - k) i 1 (i + 1 - k) b (omega arith) q (one i v b o e) (omega arith) (m - k) t (omega arith)

-- whole pieces and the rest are all records
pub whole_inside : (n : ℕ) → n - n % 16 ≤ n
whole_inside n = omega arith

module _ (r : Records) (stored : ℕ) where
  abbrev vs : List Variable
  vs = records_of r

  abbrev fit : Bool
  fit = usable_variables vs && eqb (sum (sizes_of vs)) stored

  each : every usable_variable vs ≡ usable_from r 0 r.count
  unfolding records_of usable_from
  each = every_map usable_variable (record_at r) (up_from 0 r.count)

  unusable : usable_variables vs ≡ false → false ≡ fit
  unusable h = rw h

  pub counts_refused : (r.count < 1) ⊎ ((1 ≤ r.count) × (64 < r.count)) → false ≡ fit
  counts_refused h = unusable (count_refused r h)

  -- n is what the sizes add up to
  module _ (n : ℕ) (f : n ≡ sum (take r.count r.sizes)) (l : r.count ≤ length r.sizes) where
    summed : n ≡ sum (sizes_of vs)
    summed = f ∙ ap sum (sym (sizes_lent r l))

    pub large_refused : 4096 < n → false ≡ fit
    large_refused t = unusable (variables_large vs n summed t)

    pub quick_taken : n ≤ 4096 → 1 ≤ r.count → r.count ≤ 64 → every usable_variable vs ≡ true → eqb n stored ≡ fit
    quick_taken z x y h = rw (variables_pass vs r.count n (record_count r) x y h summed z, ← summed)

  module _ (whole : ℕ) (h : whole ≤ r.count) (a : Bool) (d : a ≡ usable_from r 0 whole) where
    parts : every usable_variable vs ≡ (a && usable_from r whole (r.count - whole))
    parts =
        let o : r.count ≡ whole + (r.count - whole) = omega arith in
        let z : 0 + whole ≡ whole = omega arith in
        each ∙ ap (usable_from r 0) o ∙ rw z at (join r 0 whole (r.count - whole)) ∙ ap (◌&& usable_from r whole (r.count - whole)) (sym d)

    pub pieces_refused : not a ≡ true → false ≡ fit
    pieces_refused t = unusable (variables_broken vs (parts ∙ rw (not-true a t)))

    module _ (b : Bool) (s : not a ≡ false) (e : b ≡ usable_from r whole (r.count - whole)) where
      pub rest_refused : not b ≡ true → false ≡ fit
      rest_refused t = unusable (variables_broken vs (parts ∙ rw (not-false a s, ← e, not-true b t)))

      pub all_pass : not b ≡ false → every usable_variable vs ≡ true
      all_pass t = parts ∙ rw (not-false a s, ← e, not-false b t)
