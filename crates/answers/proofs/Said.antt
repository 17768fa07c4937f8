-- What 00 is answered, byte after byte as the code writes it. Assumes nothing.
use mathlib.Core.Path.{◌≡◌, refl, sym, ap, ◌∙◌}
use mathlib.Core.List.{List, [], ◌∷◌}
use Prim.Native.Nat.{ℕ, ◌+◌, ◌≤◌}
use native.Mathlib.Omega.{arith}
use lib.ListN.{length, set, length-set}
use Rattle.copies.specs.Put.{put}
use Rattle.copies.proofs.Put.{put_nil, put_set}
use Rattle.parts.specs.Parts.{PayloadAt}

pub version_told : (r : List ℕ) (at : ℕ) → at + 4099 ≤ length r → PayloadAt r at (2 ∷ 20 ∷ 0 ∷ []) 3 (set (set (set r at 2) (at + 1) 20) (at + 2) 0)
version_told r at h = record {
  count = refl;
  written =
      let e : at + 1 + 1 ≡ at + 2 = omega arith in
      sym (put_nil _ (at + 2 + 1))
      ∙ put_set (set (set r at 2) (at + 1) 20) (at + 2) 0 [] (simp length-set (omega arith))
      ∙ ap (λ (x : ℕ). put (set (set r at 2) (at + 1) 20) x (0 ∷ [])) (sym e)
      ∙ put_set (set r at 2) (at + 1) 20 _ (simp length-set (omega arith))
      ∙ put_set r at 2 _ (omega arith);
  short = omega arith;
}
