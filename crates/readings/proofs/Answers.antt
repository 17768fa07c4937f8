-- The returns of both readings. Assumes nothing.
use mathlib.Core.Path.{◌≡◌, sym, ap, ◌∙◌}
use mathlib.Core.Bool.{Bool, true, false, not}
use mathlib.Core.List.{List}
use Prim.Native.Nat.{ℕ}
use borrow.Author.Tests.{not-true, not-false}
use lib.IntN.{ℤ}
use lib.ListN.{length}
use Rattle.std.specs.Prelude.{Ok, Err}
use Rattle.bsmp.specs.Base.{first}
use Rattle.bsmp.specs.Number.{in_range, number_of, bytes_of, is_big, kind_at, range_tests, Reading, is, reading, Written, bytes, writing}
use Rattle.bsmp.specs.declared.VariableNumber.{VariableNumber}
use Rattle.bsmp.specs.declared.Variable.{Variable}
use Rattle.bsmp.specs.declared.Refusal.{Refusal}
use Rattle.bsmp.specs.declared.Refusal.TheVariants.{DoesNotFit}
use Rattle.readings.specs.Answers.{judged_of, writing_left, writing_left_of}
use Rattle.readings.proofs.Tests.{refused_first, good_first, good_big}

-- bytes to number; t is the flag that was passed, for a signed number or not
module _ (vs : List Variable) (i : VariableNumber) (s t : Bool) (f : t ≡ s) (bs : List ℕ) where
  pub read_refused : (x : Refusal) → Err x ≡ judged_of vs i t (length bs) → Reading.refused x ≡ reading vs i s bs
  unfolding reading
  read_refused x e = refused_first vs i s (length bs) Reading.refused _ x (rw f at e)

  -- z is the integer that the number means
  pub read_good : (big : Bool) (z : ℤ) → Ok big ≡ judged_of vs i t (length bs) → z ≡ number_of s big bs → is z ≡ reading vs i s bs
  unfolding reading
  read_good big z e q = ap is (q ∙ ap (λ (b : Bool). number_of s b bs) (good_big vs i s (length bs) big (rw f at e))) ∙ good_first vs i s (length bs) big (rw f at e) Reading.refused _

-- number to bytes
module _ (vs : List Variable) (i : VariableNumber) (s t : Bool) (f : t ≡ s) (z : ℤ) (b : List ℕ) where
  pub write_refused : (x : Refusal) → Err x ≡ judged_of vs i t (length b) → writing_left (Err x) b ≡ writing_left_of (writing vs i s z (length b)) b
  unfolding writing
  write_refused x e = ap (λ (y : Written). writing_left_of y b) (refused_first vs i s (length b) Written.refused _ x (rw f at e))

  -- w is what the test of the range told
  module _ (big w : Bool) (e : Ok big ≡ judged_of vs i t (length b)) (q : w ≡ in_range s (length b) z) where
    left : first (range_tests s (length b) z) Written.refused (bytes (bytes_of (is_big (kind_at vs i)) (length b) z)) ≡ writing vs i s z (length b)
    unfolding writing
    left = good_first vs i s (length b) big (rw f at e) Written.refused _

    pub write_outside : not w ≡ true → writing_left (Err DoesNotFit) b ≡ writing_left_of (writing vs i s z (length b)) b
    unfolding first
    write_outside k = rw (← left, ← q, not-true w k)

    pub write_done : (x : List ℕ) → not w ≡ false → x ≡ bytes_of big (length b) z → writing_left (Ok tt) x ≡ writing_left_of (writing vs i s z (length b)) b
    unfolding first
    write_done x k p = rw (← left, ← q, not-false w k, ← good_big vs i s (length b) big (rw f at e), p)

pub range_inside : (s : Bool) (n : ℕ) (y : ℤ) (w : Bool) → w ≡ in_range s n y → not w ≡ false → in_range s n y ≡ true
range_inside s n y w q k = sym q ∙ not-false w k
