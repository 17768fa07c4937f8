-- What a check's answer tells. Assumes nothing.
use mathlib.Core.Path.{◌≡◌, refl, sym, ap, ◌∙◌}
use mathlib.Core.Bool.{Bool, true, false, false≢true, true≢false}
use Rattle.std.specs.Prelude.{Option, Some, None}
use Rattle.std.specs.Bool.{then_some}
use Rattle.std.specs.Option.{is_some, is_none}

-- an answer, where u tells whether there is one, and a what it is
module _ {A : Type 0} (u : Bool) (a : A) where
  pub none_of : u ≡ false → None ≡ then_some u a
  none_of h = rw h

  pub is_told : (c : Option A) → c ≡ then_some u a → is_some c ≡ u
  is_told c e = ap is_some e ∙ by u
    where
      by : (v : Bool) → is_some (then_some v a) ≡ v
      by true = refl
      by false = refl

  pub none_told : (c : Option A) → c ≡ then_some u a → is_none c ≡ true → u ≡ false
  none_told c e = by u e
    where
      by : (v : Bool) → c ≡ then_some v a → is_none c ≡ true → v ≡ false
      by true o h = absurd (false≢true (ap is_none (sym o) ∙ h))
      by false o h = refl

  pub some_told : (c : Option A) → c ≡ then_some u a → is_none c ≡ false → u ≡ true
  some_told c e = by u e
    where
      by : (v : Bool) → c ≡ then_some v a → is_none c ≡ false → v ≡ true
      by true o h = refl
      by false o h = absurd (true≢false (ap is_none (sym o) ∙ h))

  pub told_none : None ≡ then_some u a → u ≡ false
  told_none e = sym (is_told None e)

  module _ (x : A) (e : Some x ≡ then_some u a) where
    pub told_usable : u ≡ true
    told_usable = sym (is_told (Some x) e)

    pub told_some : x ≡ a
    told_some = let o : Some x ≡ Some a = e ∙ ap (λ v. then_some v a) told_usable in cc
