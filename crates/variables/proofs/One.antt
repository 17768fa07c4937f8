-- The value of one variable, changed and told. Assumes nothing.
use mathlib.Core.Path.{◌≡◌, sym, ap, ◌∙◌}
use mathlib.Core.List.{List, [], ◌∷◌, append-nil}
use Prim.Native.Nat.{ℕ, ◌+◌, ◌≤◌, ◌<◌}
use native.Mathlib.Omega.{arith}
use lib.ListN.{length, take, drop, get_or}
use Rattle.bsmp.specs.Base.{sum, cut, byte_at}
use Rattle.bsmp.specs.Message.{variable_at, changed, edited, values_of}
use Rattle.bsmp.specs.declared.Operation.{Operation}
use Rattle.bsmp.specs.declared.VariableNumber.{VariableNumber}
use Rattle.copies.specs.Put.{put, part}
use Rattle.copies.proofs.Put.{length_part}
use Rattle.lists.proofs.Pieces.{value_part, edit_one}
use Rattle.sets.specs.Members.{size_at}
use Rattle.sets.specs.Promises.{Sound}
use Rattle.sets.proofs.Places.{place_room}
use Rattle.parts.specs.Parts.{PayloadAt}

-- a change keeps the store's length, so the next call may lean on it
pub sound_kept : (ns s s' : List ℕ) → Sound ns s → length s' ≡ length s → Sound ns s'
sound_kept ns s s' z e = record { few = z.few; exact = z.exact ∙ sym e; small = omega (arith, z.small) }

-- where variable i stands, and that its n bytes are there
module _ (ns s : List ℕ) (i : VariableNumber) (at n : ℕ) (z : Sound ns s) (h : i.0 < length ns) (e : at ≡ sum (take i.0 ns)) (w : n ≡ size_at ns i) where
  pub one_room : at + n ≤ length s
  one_room = rw w (place_room ns s i.0 at z h e)

  pub one_edited : (op : Operation) (p : List ℕ) (f : ℕ) (s' : List ℕ) → length p ≡ f + size_at ns i
      → s' ≡ put s at (changed op (part s at n) (part p f n)) → cut ns s' ≡ edited op (i ∷ []) (drop f p ∷ []) (cut ns s)
  one_edited op p f s' k q = edit_one op ns s p i.0 f at s' h (omega (arith, z.exact)) k e (rw w at q)

  pub one_reply : (to l : ℕ) → to + 4099 ≤ l → to + n ≤ l
  one_reply to l k = omega (arith, one_room, z.small)

  pub one_told : (p : List ℕ) (j to : ℕ) (r r' : List ℕ) → i ≡ variable_at p j → r' ≡ put r to (part s at n)
      → PayloadAt r to (values_of (cut ns s) (variable_at p j ∷ [])) n r'
  unfolding values_of
  one_told p j to r r' q k =
      let v : get_or (cut ns s) (byte_at p j) [] ≡ part s at n = rw (← ap (λ (x : VariableNumber). x.0) q, w) (value_part ns s i.0 at h e) in
      rw (append-nil, v) (record { count = sym (length_part s at n one_room); written = k; short = omega (arith, one_room, z.small) })
