-- The records by which numbers are read and written, as the definition has them and as the code lends them. Assumes nothing.
use mathlib.Core.Path.{◌≡◌, refl, sym, ap, ◌∙◌}
use mathlib.Core.Bool.{Bool, true, false}
use mathlib.Core.List.{List, [], ◌∷◌, map}
use Prim.Native.Nat.{ℕ, zero, suc, min, ◌≤◌, ◌<◌}
use native.Mathlib.Omega.{arith}
use lib.Dec.{leb}
use lib.IntN.{ℤ}
use lib.ListN.{length, take, get_or, replicate, length-map, length-take, get_or-replicate, get_or-map, get_or-append}
use lib.Seq.{ext_get_or, get_or-take}
use borrow.Author.Tests.{leb-true, leb-false}
use Rattle.bsmp.specs.Base.{bit}
use Rattle.bsmp.specs.Board.{is_type}
use Rattle.bsmp.specs.declared.Variable.{Variable}
use Rattle.copies.specs.Put.{put}
use Rattle.records.specs.declared.Records.{Records}
use Rattle.records.specs.Lending.{records_by, records_of}
use Rattle.records.proofs.Lending.{column_count, record_at_lem}
use Rattle.records.proofs.Walk.{length_numbered, numbered_at}
use Rattle.asking.specs.Learned.{Slot, slot, variable_slots}
use Rattle.asking.specs.Learning.{with_kinds, records_for}
use Rattle.learned.specs.Table.{sizes_in, held_table}
use Rattle.learned.specs.declared.LearnedTable.{LearnedTable}
use Rattle.learned.proofs.Fronts.{size_count}
use Rattle.endings.specs.Numbers.{PlainReading}
use Rattle.plain.specs.Calls.{PlainBytesLeft, reading_of, writing_of}
use Rattle.gateway_values.specs.Values.{Taken}
use Rattle.gateway_values.proofs.Alike.{blank, read_only, typed, unusable_many, Blind, reading_blind, writing_blind}

-- variables with their kinds: as many as there are of both, each with its own, and all with a type
abbrev blank_slot : Slot
blank_slot = slot false 0

kinds_count : (ks : List ℕ) (vs : List Slot) → length (with_kinds ks vs) ≡ min (length vs) (length ks)
kinds_count [] vs = omega arith
kinds_count (k ∷ ks) [] = omega arith
kinds_count (k ∷ ks) (v ∷ vs) = omega (arith, kinds_count ks vs)

kinds_at : (ks : List ℕ) (vs : List Slot) (i : ℕ) → i < length vs → i < length ks
    → get_or (with_kinds ks vs) i blank ≡ record { writable = bit (get_or vs i blank_slot).writable; size = (get_or vs i blank_slot).size; kind = get_or ks i 0 }
kinds_at [] vs i h k = absurd (omega (arith, k))
kinds_at (k ∷ ks) [] i h l = absurd (omega (arith, h))
kinds_at (k ∷ ks) (v ∷ vs) zero h l = refl
kinds_at (k ∷ ks) (v ∷ vs) (suc i) h l = kinds_at ks vs i (omega arith) (omega arith)

kinds_typed : (ks : List ℕ) (vs : List Slot) → typed (with_kinds ks vs) ≡ true
kinds_typed [] vs = refl
kinds_typed (k ∷ ks) [] = refl
kinds_typed (k ∷ ks) (v ∷ vs) = rw (by v.writable) (kinds_typed ks vs)
  where
    by : (b : Bool) → is_type (bit b) ≡ true
    by true = refl
    by false = refl

-- the kinds that were taken: d is the column before, and s how many have a place
module _ (n s : ℕ) (ks d column : List ℕ) (h : s ≡ min (length ks) 64) (l : length d ≡ 64) (e : column ≡ put d 0 (take s ks)) where
  column_at : (i : ℕ) → i < 64 → i < length ks → get_or column i 0 ≡ get_or ks i 0
  unfolding put
  column_at i a b =
      let z : i < s = omega arith in
      let y : i < length (take s ks) = simp length-take (omega arith) in
      rw e (get_or-append (take s ks) _ 0 i y ∙ get_or-take s ks i 0 z)

  pub taken_both : (m : ℕ) → m ≡ min n (length ks) → Taken n ks m column
  taken_both m k = record { counted = k; kind_at = column_at }

-- the records of the definition, and those lent: as many, and with places for all, the same but for their types
module _ (x : LearnedTable) (ks : List ℕ) (m : ℕ) (column : List ℕ) (t : Taken x.variables ks m column) where
  abbrev slots : List Slot
  slots = variable_slots (held_table x).layout

  abbrev wanted : List Variable
  wanted = records_for (held_table x) ks

  abbrev lent : List Variable
  lent = records_of (records_by m (replicate 64 0) x.sizes column)

  slots_count : length slots ≡ x.variables
  slots_count = length_numbered _ (length (sizes_in x.variables x.sizes)) ∙ sym (size_count x.variables x.sizes)

  wanted_count : length wanted ≡ m
  wanted_count = omega (arith, kinds_count ks slots, slots_count, t.counted)

  slot_at : (i : ℕ) → i < x.variables → (get_or slots i blank_slot).size ≡ get_or x.sizes i 0
  unfolding sizes_in
  slot_at i h =
      ap (λ v. v.size) (numbered_at _ (length (sizes_in x.variables x.sizes)) i blank_slot (omega (arith, size_count x.variables x.sizes)))
      ∙ numbered_at (λ i. get_or x.sizes i 0) x.variables i 0 h

  record_same : (i : ℕ) → i < m → m ≤ 64 → read_only (get_or wanted i blank) ≡ get_or lent i blank
  record_same i h l =
      let a : i < x.variables = omega (arith, t.counted) in
      let b : i < length ks = omega (arith, t.counted) in
      ap read_only (kinds_at ks slots i (omega (arith, slots_count)) b)
      ∙ ap (λ (n : ℕ). record { writable = 0; size = n; kind = get_or ks i 0 }) (slot_at i a)
      ∙ ap (λ (n : ℕ). record { writable = 0; size = get_or x.sizes i 0; kind = n }) (sym (t.kind_at i (omega arith) b))
      ∙ ap (λ (n : ℕ). record { writable = n; size = get_or x.sizes i 0; kind = get_or column i 0 }) (sym (get_or-replicate 64 i 0 0 (omega arith)))
      ∙ record_at_lem (records_by m (replicate 64 0) x.sizes column) i h

  lent_count : length lent ≡ m
  lent_count = sym (column_count m (replicate 64 0) x.sizes column)

  records_same : m ≤ 64 → map read_only wanted ≡ lent
  records_same l =
      ext_get_or blank (map read_only wanted) lent (length-map wanted read_only ∙ wanted_count ∙ sym lent_count)
      (λ i h. get_or-map read_only wanted i blank ∙ record_same i (omega (arith, h, length-map wanted read_only, wanted_count)) l)

  alike : {A : Type 0} (f : List Variable → A) → Blind f → f lent ≡ f wanted
  alike f b = by (leb m 64) refl
    where
      by : (o : Bool) → leb m 64 ≡ o → f lent ≡ f wanted
      by true o = ap f (sym (records_same (leb-true _ _ o))) ∙ b.types wanted (kinds_typed ks slots)
      by false o =
          let l : 64 < m = leb-false _ _ o in
          b.unusable lent wanted (unusable_many lent (omega (arith, lent_count))) (unusable_many wanted (omega (arith, wanted_count)))

  -- r are the records that the code lends
  module _ (r : Records) (e : r ≡ records_by m (replicate 64 0) x.sizes column) (i : ℕ) (signed : Bool) where
    pub reading_told : (bs : List ℕ) (y : PlainReading) → y ≡ reading_of (records_of r) i signed bs → y ≡ reading_of (records_for (held_table x) ks) i signed bs
    reading_told bs y h = h ∙ ap (λ z. reading_of (records_of z) i signed bs) e ∙ alike (λ vs. reading_of vs i signed bs) (reading_blind i signed bs)

    pub writing_told : (z : ℤ) (buffer : List ℕ) (y : PlainBytesLeft) → y ≡ writing_of (records_of r) i signed z buffer → y ≡ writing_of (records_for (held_table x) ks) i signed z buffer
    writing_told z buffer y h = h ∙ ap (λ w. writing_of (records_of w) i signed z buffer) e ∙ alike (λ vs. writing_of vs i signed z buffer) (writing_blind i signed z buffer)
