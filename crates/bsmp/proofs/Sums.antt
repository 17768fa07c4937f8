-- Sums of curves (02, 2026-02): a fresh board's are the MD5 of its curves, 42 renews one of them, and no other message changes any, so a block
-- write leaves its curve's stale. Assumes nothing.
use mathlib.Core.Path.{◌≡◌, refl, sym, ap, ◌∙◌}
use mathlib.Core.Logic.{◌↔◌, ◌≢◌, ◌⊎◌, inl, inr}
use mathlib.Core.Bool.{Bool, true, false}
use mathlib.Core.List.{List, [], ◌∷◌, map}
use Prim.Native.Nat.{ℕ, ◌<◌}
use native.Mathlib.Nat.{zero-add}
use native.Mathlib.Omega.{arith}
use lib.ListN.{length, drop, length-map}
use lib.Seq.{get_or-set_same, get_or-set_other}
use borrow.Author.Tests.{ltb-true, not-false}
use Rattle.bsmp.specs.Base.{some, byte_at, Test}
use Rattle.bsmp.specs.Codes.{command_of, Pass}
use Rattle.bsmp.specs.Board.{curve, Table, Layout, layout, State, sum_of, curve_sum, full, fresh, marked, usable}
use Rattle.bsmp.specs.Message.{line, curve_at, names_curve, touched, form_tests, replies, after, spoken, said, state_after, carried, handled, asked, judge}
use Rattle.bsmp.specs.Packet.{Ending, reply, silence, fresh_board}
use Rattle.bsmp.specs.Apart.{Event, arrives, endings}
use Rattle.bsmp.specs.Examples.{hex, table_a, place_a, state_a}
use Rattle.bsmp.specs.declared.CurveNumber.{CurveNumber}
use Rattle.bsmp.specs.declared.Command.TheVariants.{ReadSum, RenewSum}
use Rattle.bsmp.specs.declared.WireError.{WireError}
use Rattle.bsmp.proofs.Computes.{computes}
use Rattle.bsmp.proofs.Chain.{clear, clear_at}
use Rattle.bsmp.proofs.Usable.{usable_parts}
use Rattle.bsmp.proofs.Accepted.{accepted}
use Rattle.bsmp.proofs.Stays.{fresh_state}
use Rattle.bsmp.proofs.Keeps.{curves_kept}
use Rattle.bsmp.proofs.Marks.{at_number}

-- the sum of a curve is that of what the curve holds
abbrev pub Current : Layout → State → CurveNumber → Type 0
Current l s c = sum_of s c ≡ curve_sum l s c

-- "a fresh board works it out"
pub fresh_current : (t : Table) (s : State) (c : CurveNumber) → usable t (full (layout t) s) ≡ true → c.0 < length t.curves
    → Current (layout t) (fresh_board t s).state c
unfolding fresh
fresh_current t s c u h =
    let f : ℕ → List ℕ = λ k. curve_sum (layout t) (full (layout t) s) (curve k) in
    rw (fresh_state t s u) (at_number f 0 (length t.curves) c.0 [] h ∙ ap f (zero-add c.0))

-- "42 renews it", and no other message any; so "a block write leaves it stale": as it was, byte by byte
pub stale : (l : Layout) (busy : ℕ) (m : List ℕ) (s : State) → command_of (byte_at m 0) ≢ RenewSum → (handled l busy m s).state.sums ≡ s.sums
stale l busy m s n = (curves_kept l busy m s).sums n

-- "E5 then E3 for both", and nothing else stops them: no type of a curve, no busy mark
pub only_two : (l : Layout) (gs : List ℕ) (busy : ℕ) (m : List ℕ) → (command_of (byte_at m 0) ≡ ReadSum) ⊎ (command_of (byte_at m 0) ≡ RenewSum)
    → (judge l gs busy m ≡ Pass) ↔ (clear (form_tests m) × clear (names_curve l (drop 3 m)))
unfolding line
only_two l gs busy m k =
    let n : ((asked l gs m).tests ≡ names_curve l (drop 3 m)) × (some (marked busy) (touched (asked l gs m)) ≡ false) × ((asked l gs m).full ≡ false) = by k in (
      λ h. let r = (accepted l gs busy m).0 h in (r.formed, sym (ap broken n.0) ∙ r.tested),
      λ h. (accepted l gs busy m).1 (record { formed = h.0; tested = ap broken n.0 ∙ h.1; free = n.1; not_full = n.2 }),
    )
  where
    broken : List (Test WireError) → Bool
    broken ts = some (λ u. u.broken) ts

    by : (command_of (byte_at m 0) ≡ ReadSum) ⊎ (command_of (byte_at m 0) ≡ RenewSum)
        → ((asked l gs m).tests ≡ names_curve l (drop 3 m)) × (some (marked busy) (touched (asked l gs m)) ≡ false) × ((asked l gs m).full ≡ false)
    by (inl e) = rw e (refl, refl, refl)
    by (inr e) = rw e (refl, refl, refl)

-- an accepted 0A is answered with the curve's sum as it stands
pub told_sum : (l : Layout) (busy : ℕ) (m : List ℕ) (s : State) → command_of (byte_at m 0) ≡ ReadSum → judge l s.groups busy m ≡ Pass
    → (handled l busy m s).says ≡ replies 0x0B (sum_of s (curve_at (drop 3 m) 0))
unfolding handled carried state_after said spoken line after
told_sum l busy m s k v = rw (v, k)

module _ (t : Table) (busy : ℕ) (m : List ℕ) (s : State) (u : usable t s ≡ true) (k : command_of (byte_at m 0) ≡ RenewSum) (v : judge (layout t) s.groups busy m ≡ Pass) where
  abbrev named : CurveNumber
  named = curve_at (drop 3 m) 0

  pub known : named.0 < length t.curves
  unfolding line
  known =
      let c = rw k at ((accepted (layout t) s.groups busy m).0 v).tested in
      ltb-true _ _ (not-false _ (clear_at (line (layout t) s.groups (drop 3 m) RenewSum).tests c 1))

  -- what an accepted 42 leaves: the curve's sum renewed, for a read-only curve too; the others' sums, and all else, as they were
  pub renewed_state : (handled (layout t) busy m s).state ≡ after (line (layout t) s.groups (drop 3 m) RenewSum).change s
  unfolding handled carried state_after
  renewed_state = rw (v, k)

  pub renewed : Current (layout t) (handled (layout t) busy m s).state named
  unfolding line after
  renewed =
      let n : length s.sums ≡ length t.curves = sym (length-map s.sums length) ∙ ap length (usable_parts t s u).sums ∙ length-map t.curves (λ c. 16) in
      rw renewed_state (get_or-set_same s.sums named.0 _ [] (omega (arith, known)))

  pub others_stay : (c : CurveNumber) → c.0 ≢ named.0 → sum_of (handled (layout t) busy m s).state c ≡ sum_of s c
  unfolding line after
  others_stay c n = rw renewed_state (get_or-set_other s.sums named.0 c.0 _ [] n)

  -- "the line wants to see whether a download arrived": 0A is then answered with the MD5 of what the curve holds
  pub arrived : (busy' : ℕ) (q : List ℕ) → command_of (byte_at q 0) ≡ ReadSum → curve_at (drop 3 q) 0 ≡ named
      → judge (layout t) (handled (layout t) busy m s).state.groups busy' q ≡ Pass
      → (handled (layout t) busy' q (handled (layout t) busy m s).state).says ≡ replies 0x0B (curve_sum (layout t) s named)
  unfolding line after
  arrived busy' q e f w =
      told_sum (layout t) busy' q _ e w
      ∙ ap (replies 0x0B) (ap (sum_of (handled (layout t) busy m s).state) f ∙ renewed ∙ ap (λ x. curve_sum (layout t) x named) renewed_state)

-- computed on board A, one packet after another, nothing busy: the sum of a fresh board, block 1 written, the sum as it was, 42, the sum of what the curve
-- holds now; 42 by multicast after one more write; then E5 before E3, and E3
abbrev pub sent : List ℕ → Event
sent p = arrives 0 4104 p

abbrev pub answers : List (List ℕ) → State → List Ending
answers ps s = endings table_a place_a (map sent ps) s

abbrev pub ok : Ending
ok = reply (hex 5 0x00_E0_00_00_20)

abbrev zero_sum : Ending
zero_sum = reply (hex 21 0x00_0B_00_10_7DEA362B3FAC8E00956A4952A3D4F474_2B)

pub sums_read :
    answers (hex 6 0x05_0A_00_01_00_F0
    ∷ hex 12 0x05_41_00_07_00_00_01_01_02_03_04_A8
    ∷ hex 6 0x05_0A_00_01_00_F0
    ∷ hex 6 0x05_42_00_01_00_B8
    ∷ hex 6 0x05_0A_00_01_00_F0
    ∷ hex 12 0x05_41_00_07_00_00_01_00_00_00_00_B2
    ∷ hex 6 0xF8_42_00_01_00_C5
    ∷ hex 6 0x05_0A_00_01_00_F0
    ∷ hex 7 0x05_0A_00_02_09_09_DD
    ∷ hex 5 0x05_42_00_00_B9
    ∷ hex 6 0x05_42_00_01_01_B7
    ∷ []) (state_a 0x5A)
    ≡ zero_sum ∷ ok ∷ zero_sum ∷ ok ∷ reply (hex 21 0x00_0B_00_10_8BDAA24055DC46C2806C26C94E7A9392_9D) ∷ ok ∷ silence ∷ zero_sum
    ∷ reply (hex 5 0x00_E5_00_00_1B) ∷ reply (hex 5 0x00_E5_00_00_1B) ∷ reply (hex 5 0x00_E3_00_00_1D) ∷ []
unfolding computes
sums_read = refl

-- board A is fresh as the examples have it
pub fresh_A : (fresh_board table_a (state_a 0x5A)).state ≡ state_a 0x5A
unfolding computes
fresh_A = refl
