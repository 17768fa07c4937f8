-- Records alike but for their types, which are types all the same, are read and written alike. Assumes nothing.
use mathlib.Core.Path.{◌≡◌, refl, sym, ap₂}
use mathlib.Core.Bool.{Bool, true, false, ◌&&◌, and-false}
use mathlib.Core.List.{List, [], ◌∷◌, map}
use Prim.Native.Nat.{ℕ, ◌<◌}
use lib.Dec.{leb}
use lib.IntN.{ℤ}
use lib.ListN.{length, get_or, length-map, get_or-map}
use borrow.Author.Tests.{lt-leb}
use Rattle.bsmp.specs.Base.{every, first}
use Rattle.bsmp.specs.Codes.{kind_of}
use Rattle.bsmp.specs.Board.{is_type, usable_size, fits_kind, usable_variable, usable_variables}
use Rattle.bsmp.specs.Number.{reading, writing}
use Rattle.bsmp.specs.declared.Variable.{Variable}
use Rattle.bsmp.proofs.Bools.{and_true}
use Rattle.bsmp.proofs.Lists.{map_map}
use Rattle.plain.specs.Calls.{reading_of, writing_of}

abbrev pub blank : Variable
blank = record { writable = 0; size = 0; kind = 0 }

-- the same record, read-only
abbrev pub read_only : Variable → Variable
read_only v = record { writable = 0; size = v.size; kind = v.kind }

abbrev pub typed : List Variable → Bool
typed = every (λ v. is_type v.writable)

usable_each : (vs : List Variable) → typed vs ≡ true → every usable_variable (map read_only vs) ≡ every usable_variable vs
usable_each [] h = refl
usable_each (v ∷ vs) h =
    let w : (is_type v.writable ≡ true) × (typed vs ≡ true) = and_true _ _ h in
    ap₂ (λ t r. (t && usable_size v.size && fits_kind v.size (kind_of v.kind)) && r) (sym w.0) (usable_each vs w.1)

module _ (vs : List Variable) where
  usable_alike : typed vs ≡ true → usable_variables (map read_only vs) ≡ usable_variables vs
  unfolding usable_variables
  usable_alike h = rw (length-map vs read_only, usable_each vs h, map_map read_only (λ v. v.size) vs)

  record_alike : (i : ℕ) → get_or (map read_only vs) i blank ≡ read_only (get_or vs i blank)
  record_alike i = get_or-map read_only vs i blank

  pub unusable_many : 64 < length vs → usable_variables vs ≡ false
  unfolding usable_variables
  unusable_many h = rw (lt-leb (length vs) 64 h, and-false (leb 1 (length vs)))

-- what asks of types only that they are types, and makes the same of all lists that are unusable
pub record Blind {A : Type 0} (f : List Variable → A) : Type 0 where
  pub types : (vs : List Variable) → typed vs ≡ true → f (map read_only vs) ≡ f vs
  pub unusable : (vs us : List Variable) → usable_variables vs ≡ false → usable_variables us ≡ false → f vs ≡ f us

module _ (i : ℕ) (signed : Bool) where
  pub reading_blind : (bs : List ℕ) → Blind (λ vs. reading_of vs i signed bs)
  unfolding reading first
  reading_blind bs = record {
    types = λ vs h. rw (usable_alike vs h, length-map vs read_only, record_alike vs i);
    unusable = λ vs us h k. rw (h, k);
  }

  pub writing_blind : (z : ℤ) (buffer : List ℕ) → Blind (λ vs. writing_of vs i signed z buffer)
  unfolding writing first
  writing_blind z buffer = record {
    types = λ vs h. rw (usable_alike vs h, length-map vs read_only, record_alike vs i);
    unusable = λ vs us h k. rw (h, k);
  }
