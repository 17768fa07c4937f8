-- With the node's kinds the gateway's records are the node's, so its numbers are 01's. Assumes nothing.
use mathlib.Core.Path.{◌≡◌, refl, sym, ap, ap₂, ◌∙◌}
use mathlib.Core.Bool.{Bool, true, false}
use mathlib.Core.List.{List, [], ◌∷◌, map}
use Prim.Native.Nat.{ℕ}
use native.Mathlib.Omega.{arith}
use native.Mathlib.Nat.{zero-add}
use lib.IntN.{ℤ}
use lib.ListN.{length, get_or, length-map, get_or-map}
use Rattle.bsmp.specs.Base.{up_from, every, has, marks_of}
use Rattle.bsmp.specs.Board.{variable, Table, layout, State, sizes_of, size_of, marked, is_writable, is_type, usable, usable_size, usable_variable, variable_rules, usable_variables}
use Rattle.bsmp.specs.Number.{reading, writing}
use Rattle.bsmp.specs.declared.VariableNumber.{VariableNumber}
use Rattle.bsmp.specs.declared.Variable.{Variable}
use Rattle.bsmp.proofs.Bools.{and_true, all_at}
use Rattle.bsmp.proofs.Lists.{map_numbers}
use Rattle.bsmp.proofs.Marks.{at_number}
use Rattle.bsmp.proofs.Usable.{usable_parts}
use Rattle.sets.proofs.Marks.{has_marks}
use Rattle.asking.specs.Learned.{learned_of, Slot, slot, variable_slots}
use Rattle.asking.specs.Learning.{with_kinds, records_for}
use Rattle.asking.proofs.Lists.{map_numbered}
use Rattle.asking.proofs.Records.{bit_type}

abbrev blank : Variable
blank = record { writable = 0; size = 0; kind = 0 }

abbrev slot_for : Variable → Slot
slot_for v = slot (is_writable v.writable) v.size

slots_are : (t : Table) → variable_slots (layout t) ≡ map slot_for t.variables
slots_are t =
    let vs : List Variable = t.variables in
    let bs : List Bool = map (λ v. is_writable v.writable) vs in
    let n : length (sizes_of vs) ≡ length (map slot_for vs) = length-map vs (λ v. v.size) ∙ sym (length-map vs slot_for) in
    let m : length bs ≡ length (map slot_for vs) = length-map vs (λ v. is_writable v.writable) ∙ sym (length-map vs slot_for) in
    ap (λ k. map (λ i. slot (marked (layout t).writable (variable i)) (size_of (layout t) (variable i))) (up_from 0 k)) n
    ∙ map_numbered _ (λ i. get_or (map slot_for vs) i (slot_for blank)) 0 (length (map slot_for vs))
    (λ k a b. ap₂ slot
    (sym (at_number (has (marks_of bs)) 0 (length bs) k false (omega arith) ∙ ap (has (marks_of bs)) (zero-add k)) ∙ ap (λ l. get_or l k false) (has_marks bs) ∙ get_or-map (λ v. is_writable v.writable) vs k blank)
    (get_or-map (λ v. v.size) vs k blank)
    ∙ sym (get_or-map slot_for vs k blank))
    ∙ map_numbers (map slot_for vs) (slot_for blank)

kinds_back : (vs : List Variable) → every usable_variable vs ≡ true → with_kinds (map (λ v. v.kind) vs) (map slot_for vs) ≡ vs
kinds_back [] h = refl
kinds_back (v ∷ vs) h =
    let w : (usable_variable v ≡ true) × (every usable_variable vs ≡ true) = and_true _ _ h in
    let y = (and_true (is_type v.writable) (usable_size v.size) (and_true _ _ w.0).0).0 in
    ap₂ (λ b l. record { writable = b; size = v.size; kind = v.kind } ∷ l) (bit_type v.writable y) (kinds_back vs w.1)

module _ (t : Table) (s : State) (h : usable t s ≡ true) where
  abbrev kinds : List ℕ
  kinds = map (λ v. v.kind) t.variables

  pub records_back : records_for (learned_of t s) (map (λ v. v.kind) t.variables) ≡ t.variables
  unfolding usable_variables
  records_back = ap (with_kinds kinds) (slots_are t) ∙ kinds_back t.variables (all_at (variable_rules t.variables) (usable_parts t s h).variables 1)

  -- so its numbers, there and back, are those of 01's reading rule on the node
  pub reads_alike : (i : VariableNumber) (signed : Bool) (bs : List ℕ)
      → reading (records_for (learned_of t s) (map (λ v. v.kind) t.variables)) i signed bs ≡ reading t.variables i signed bs
  reads_alike i signed bs = ap (λ vs. reading vs i signed bs) records_back

  pub writes_alike : (i : VariableNumber) (signed : Bool) (z : ℤ) (room : ℕ)
      → writing (records_for (learned_of t s) (map (λ v. v.kind) t.variables)) i signed z room ≡ writing t.variables i signed z room
  writes_alike i signed z room = ap (λ vs. writing vs i signed z room) records_back
