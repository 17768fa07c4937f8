-- What the columns say: of 64 records or fewer they are the lent records themselves; of more, only their number counts. Assumes nothing.
use mathlib.Core.Path.{◌≡◌, refl, sym, ◌∙◌, ap, subst}
use mathlib.Core.Logic.{inl, inr}
use mathlib.Core.List.{List}
use Prim.Native.Nat.{ℕ, zero, suc, min, ◌+◌, ◌*◌, ◌/◌, ◌<◌, ◌≤◌}
use native.Mathlib.Nat.{add-zero, not-suc-le-zero, le_of_suc-le-suc, eq-or-lt_of_le}
use native.Mathlib.Omega.{arith}
use native.Mathlib.Decide.{dec_lt}
use lib.ListN.{length, get_or, set, length-set}
use lib.Seq.{set_comm, get_or-set_same, get_or-set_other, ext_get_or}
use Rattle.bsmp.specs.declared.Variable.{Variable}
use Rattle.records.specs.declared.Records.{Records}
use Rattle.records.specs.Lending.{record_at, records_by, records_of}
use Rattle.records.proofs.Lending.{record_count, record_at_lem}
use Rattle.columns.specs.Columns.{blank_variable, variable_at, with_record, columns_to, zeros, columns_of}

to_count : (r : Records) (vs : List Variable) (k : ℕ) → (columns_to r vs k).count ≡ r.count
unfolding columns_to
to_count r vs zero = refl
to_count r vs (suc k) = to_count r vs k

-- a store changes the columns alone
pub columns_whole : (r : Records) (vs : List Variable) (k : ℕ)
    → records_by r.count (columns_to r vs k).writable (columns_to r vs k).sizes (columns_to r vs k).kinds ≡ columns_to r vs k
columns_whole r vs k = ap (λ (n : ℕ). records_by n (columns_to r vs k).writable (columns_to r vs k).sizes (columns_to r vs k).kinds) (sym (to_count r vs k))

-- of the n records that have a place the first i are stored, over what was lent
pub record FirstStored (vs : List Variable) (n : ℕ) (lent held : Records) (i : ℕ) : Type 0 where
  pub within : i ≤ n
  pub stored : held ≡ columns_to lent vs i

-- ---- records that are stored the last first
swap : (r : Records) (i j : ℕ) (u v : Variable) → (j ≡ i → ⊥) → with_record (with_record r j v) i u ≡ with_record (with_record r i u) j v
swap r i j u v h =
    let w = set_comm r.writable j i v.writable u.writable h in
    let s = set_comm r.sizes j i v.size u.size h in
    let t = set_comm r.kinds j i v.kind u.kind h in
    λ k. record { count = r.count; writable = w k; sizes = s k; kinds = t k }

-- k of them, the i-th last
abbrev backwards : Records → List Variable → (i k : ℕ) → Records
backwards r vs i zero = r
backwards r vs i (suc k) = with_record (backwards r vs (suc i) k) i (variable_at vs i)

backwards_last : (r : Records) (vs : List Variable) (i k : ℕ) → backwards r vs i (suc k) ≡ with_record (backwards r vs i k) (i + k) (variable_at vs (i + k))
backwards_last r vs i zero = ap (λ (j : ℕ). with_record r j (variable_at vs j)) (sym (add-zero i))
backwards_last r vs i (suc k) =
    let o : suc i + k ≡ i + suc k = omega arith in
    ap (λ (t : Records). with_record t i (variable_at vs i)) (rw o at (backwards_last r vs (suc i) k)) ∙ swap (backwards r vs (suc i) k) i (i + suc k) (variable_at vs i) (variable_at vs (i + suc k)) (λ e. omega (arith, e))

-- after the first i it comes to the same
backwards_on : (r : Records) (vs : List Variable) (i k : ℕ) → backwards (columns_to r vs i) vs i k ≡ columns_to r vs (i + k)
unfolding columns_to
backwards_on r vs i zero = ap (columns_to r vs) (sym (add-zero i))
backwards_on r vs i (suc k) =
    let o : i + suc k ≡ suc (i + k) = omega arith in
    rw o (backwards_last (columns_to r vs i) vs i k ∙ ap (λ (t : Records). with_record t (i + k) (variable_at vs (i + k))) (backwards_on r vs i k))

-- one of them
one_more : (r : Records) (vs : List Variable) (i : ℕ) → with_record (columns_to r vs i) i (variable_at vs i) ≡ columns_to r vs (i + 1)
unfolding columns_to
one_more r vs i =
    let o : i + 1 ≡ suc i = omega arith in
    rw o

-- four of them
four_more : (r : Records) (vs : List Variable) (i : ℕ)
    → with_record (with_record (with_record (with_record (columns_to r vs i) (i + 3) (variable_at vs (i + 3))) (i + 2) (variable_at vs (i + 2))) (i + 1) (variable_at vs (i + 1))) i (variable_at vs i) ≡ columns_to r vs (i + 4)
unfolding columns_to
four_more r vs i =
    let a : i + 1 ≡ suc i = omega arith in
    let b : i + 2 ≡ suc (suc i) = omega arith in
    let c : i + 3 ≡ suc (suc (suc i)) = omega arith in
    rw (a, b, c) (backwards_on r vs i 4)

-- ---- what a turn of either loop of `take` keeps
pub none_stored : (vs : List Variable) (n : ℕ) (lent : Records) → FirstStored vs n lent lent 0
unfolding columns_to
none_stored vs n lent = record { within = omega arith; stored = refl }

pub one_stored : (vs : List Variable) (n : ℕ) (lent held next : Records) (i : ℕ) → FirstStored vs n lent held i → i < n
    → next ≡ with_record held i (variable_at vs i) → FirstStored vs n lent next (i + 1)
one_stored vs n lent held next i h l e = record { within = omega arith; stored = rw h.stored at e ∙ one_more lent vs i }

pub four_stored : (vs : List Variable) (n : ℕ) (lent held d c b a : Records) (turn : ℕ) → FirstStored vs n lent held (4 * turn) → turn < n / 4
    → d ≡ with_record held (4 * turn + 3) (variable_at vs (4 * turn + 3)) → c ≡ with_record d (4 * turn + 2) (variable_at vs (4 * turn + 2))
    → b ≡ with_record c (4 * turn + 1) (variable_at vs (4 * turn + 1)) → a ≡ with_record b (4 * turn) (variable_at vs (4 * turn))
    → FirstStored vs n lent a (4 * (turn + 1))
four_stored vs n lent held d c b a turn h l dh ch bh ah =
    let o : 4 * (turn + 1) ≡ 4 * turn + 4 = omega arith in
    let q : a ≡ with_record (with_record (with_record (with_record held (4 * turn + 3) (variable_at vs (4 * turn + 3))) (4 * turn + 2) (variable_at vs (4 * turn + 2))) (4 * turn + 1) (variable_at vs (4 * turn + 1))) (4 * turn) (variable_at vs (4 * turn)) =
    rw (bh, ch, dh) at ah in
    rw o (record { within = omega arith; stored = rw h.stored at q ∙ four_more lent vs (4 * turn) })

-- ---- over columns of zeros
abbrev to : List Variable → ℕ → Records
to vs k = columns_to (records_by (length vs) zeros zeros zeros) vs k

-- all are counted
pub columns_count : (vs : List Variable) → (columns_of vs).count ≡ length vs
columns_count vs = to_count _ vs (min (length vs) 64)

-- a column: at each place the record's number
module _ (vs : List Variable) (column : Records → List ℕ) (field : Variable → ℕ) (start : (n : ℕ) → length (column (records_by n zeros zeros zeros)) ≡ 64)
    (put : (r : Records) (i : ℕ) (v : Variable) → column (with_record r i v) ≡ set (column r) i (field v)) where
  column_length : (k : ℕ) → length (column (to vs k)) ≡ 64
  unfolding columns_to
  column_length zero = start (length vs)
  column_length (suc k) =
      ap length (put (to vs k) k (variable_at vs k)) ∙ length-set (column (to vs k)) k (field (variable_at vs k)) ∙ column_length k

  column_at : (k i : ℕ) → k ≤ 64 → i < k → get_or (column (to vs k)) i 0 ≡ field (variable_at vs i)
  unfolding columns_to
  column_at zero i h l = absurd (not-suc-le-zero l)
  column_at (suc k) i h l =
      ap (λ (xs : List ℕ). get_or xs i 0) (put (to vs k) k (variable_at vs k)) ∙ elim (eq-or-lt_of_le (le_of_suc-le-suc l)) [
        | inl e ↦ subst (λ (j : ℕ). get_or (set (column (to vs k)) k (field (variable_at vs k))) j 0 ≡ field (variable_at vs j)) (sym e)
            (get_or-set_same (column (to vs k)) k (field (variable_at vs k)) 0 (omega (arith, column_length k)))
        | inr m ↦ get_or-set_other (column (to vs k)) k i (field (variable_at vs k)) 0 (λ e. omega (arith, m, e)) ∙ column_at k i (omega arith) m
      ]

stored_at : (vs : List Variable) (i : ℕ) → length vs ≤ 64 → i < length vs → record_at (columns_of vs) i ≡ variable_at vs i
stored_at vs i h l =
    let k = min (length vs) 64 in
    let w = column_at vs (λ r. r.writable) (λ v. v.writable) (λ n. refl) (λ r j v. refl) k i (omega arith) (omega arith) in
    let s = column_at vs (λ r. r.sizes) (λ v. v.size) (λ n. refl) (λ r j v. refl) k i (omega arith) (omega arith) in
    let t = column_at vs (λ r. r.kinds) (λ v. v.kind) (λ n. refl) (λ r j v. refl) k i (omega arith) (omega arith) in
    λ j. record { writable = w j; size = s j; kind = t j }

-- 64 or fewer are all there
pub columns_records : (vs : List Variable) → length vs ≤ 64 → records_of (columns_of vs) ≡ vs
columns_records vs h =
    let n : length (records_of (columns_of vs)) ≡ length vs = sym (record_count (columns_of vs)) ∙ columns_count vs in
    ext_get_or blank_variable (records_of (columns_of vs)) vs n
    (λ i l. sym (record_at_lem (columns_of vs) i (omega (arith, columns_count vs))) ∙ stored_at vs i h (omega (arith, n)))

-- so whatever is the same for all lists that are too long is the same of the columns' records and of the lent ones
pub columns_same : {X : Type 0} (of : List Variable → X) (x : X) → ((us : List Variable) → 64 < length us → of us ≡ x)
    → (vs : List Variable) → of (records_of (columns_of vs)) ≡ of vs
columns_same of x long vs = by (dec_lt 64 (length vs))
  where
    n : length (records_of (columns_of vs)) ≡ length vs
    n = sym (record_count (columns_of vs)) ∙ columns_count vs

    by : Dec (64 < length vs) → of (records_of (columns_of vs)) ≡ of vs
    by (yes k) = long (records_of (columns_of vs)) (omega (arith, n)) ∙ sym (long vs k)
    by (no k) = ap of (columns_records vs (omega arith))
