-- The walk over the variable records: their test and the sum of their sizes, together. Assumes nothing.
use mathlib.Core.Path.{◌≡◌, refl, sym, ◌∙◌}
use mathlib.Core.Bool.{Bool, true, false, not}
use mathlib.Core.Logic.{◌⊎◌, inl, inr}
use mathlib.Core.List.{List}
use Prim.Native.Nat.{ℕ, ◌+◌, ◌*◌, ◌≤◌, ◌<◌}
use native.Mathlib.Omega.{arith}
use lib.Dec.{leb}
use lib.ListN.{drop, get_or}
use Rattle.std.specs.Bool.{then_some}
use borrow.Author.Tests.{not-false}
use Rattle.bsmp.specs.Base.{sum, every}
use Rattle.bsmp.specs.Board.{sizes_of, usable_variable, usable_variables}
use Rattle.bsmp.specs.declared.Variable.{Variable}
use Rattle.records.specs.declared.Records.{Records}
use Rattle.records.specs.Lending.{record_at, records_of}
use Rattle.rules.specs.Totals.{variables_total}
use Rattle.records.proofs.Walk.{Walked, walked_start, walked_next, walked_stop, walked_end, sum_next, sum_end}
use Rattle.records.proofs.Lending.{no_variable, record_count, record_at_lem}
use Rattle.records.proofs.Bounds.{variable_rules_lem}
use Rattle.rules.proofs.Checks.{variables_few, variables_many, variables_total_lem}

-- at record i: n bytes so far
pub record Counted (vs : List Variable) (n i : ℕ) : Type 0 where
  pub walked : Walked usable_variable vs i
  pub summed : n + sum (sizes_of (drop i vs)) ≡ sum (sizes_of vs)
  pub small : n ≤ 127 * i

pub counted_start : (vs : List Variable) → Counted vs 0 0
counted_start vs = record { walked = walked_start usable_variable vs; summed = omega arith; small = omega arith }

-- too few records, or too many
pub count_refused : (r : Records) → (r.count < 1) ⊎ ((1 ≤ r.count) × (64 < r.count)) → usable_variables (records_of r) ≡ false
count_refused r (inl h) = variables_few (records_of r) r.count (record_count r) h
count_refused r (inr h) = variables_many (records_of r) r.count (record_count r) h.1

module _ (r : Records) (i n : ℕ) where
  -- the record that stands at i, and what its test b gave
  module _ (v : Variable) (b : Bool) (h : i < r.count) (o : v ≡ record_at r i) (e : b ≡ usable_variable v) (q : Counted (records_of r) n i) where
    stands : v ≡ get_or (records_of r) i no_variable
    stands = o ∙ record_at_lem r i h

    module _ (l : r.count ≤ 64) (t : not b ≡ false) where
      small_size : (1 ≤ v.size) × (v.size ≤ 127)
      small_size = (variable_rules_lem v (sym e ∙ not-false b t)).1

      pub counted_next : Counted (records_of r) (n + v.size) (i + 1)
      counted_next =
          let k = record_count r in
          record {
            walked = walked_next usable_variable (records_of r) r.count i v no_variable b k h stands e t q.walked;
            summed = sum_next (records_of r) r.count i v no_variable k h stands (λ w. w.size) n _ _ refl q.summed;
            small = omega (arith, small_size, q.small);
          }

    -- a record that breaks the rules
    pub counted_stop : not b ≡ true → every usable_variable (records_of r) ≡ false
    counted_stop t = walked_stop usable_variable (records_of r) r.count i v no_variable b (record_count r) h stands e t q.walked

  pub counted_end : 1 ≤ r.count → r.count ≤ 64 → r.count ≤ i → Counted (records_of r) n i → then_some (leb n 4096) n ≡ variables_total (records_of r)
  counted_end a b h q =
      let k = record_count r in
      variables_total_lem (records_of r) r.count n k a b (walked_end usable_variable (records_of r) r.count i k h q.walked) (sum_end (records_of r) r.count i k h (λ v. v.size) n _ q.summed)
