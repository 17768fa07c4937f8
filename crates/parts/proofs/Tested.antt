-- Tests as code has them at a return. Assumes nothing.
use mathlib.Core.Path.{◌≡◌}
use mathlib.Core.Bool.{Bool, true, false, not, ◌||◌}

pub not_on : (x : Bool) → x ≡ false → not x ≡ true
not_on x h = rw h

pub not_off : (x : Bool) → x ≡ true → not x ≡ false
not_off x h = rw h

pub or_left : (x y : Bool) → x ≡ true → (x || y) ≡ true
or_left x y h = rw h

pub or_right : (x y : Bool) → x ≡ false → y ≡ true → (x || y) ≡ true
or_right x y h k = rw (h, k)

pub or_none : (x y : Bool) → x ≡ false → y ≡ false → (x || y) ≡ false
or_none x y h k = rw (h, k)
