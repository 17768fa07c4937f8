-- A reply that is heard teaches what its payload says; an error and a refusal teach nothing. Assumes nothing.
use mathlib.Core.Path.{◌≡◌, refl, sym, ap, ap₂, ◌∙◌}
use mathlib.Core.Bool.{Bool, true, false, cond, ◌&&◌, ◌||◌}
use mathlib.Core.List.{List, map}
use Prim.Native.Nat.{ℕ, ◌-◌, ◌*◌, ◌/◌, ◌%◌, ◌≤◌}
use native.Mathlib.Omega.{arith}
use borrow.Author.Tests.{leb-true, eqb-true}
use borrow.Rule.Slice.PartMut.{mid_of}
use lib.Dec.{leb, eqb}
use lib.ListN.{length, take, drop, length-map, length-take, length-drop}
use Rattle.bsmp.specs.Base.{all, every, within, byte_at, word_at, up_from}
use Rattle.bsmp.specs.Board.{group, curve_rules, usable_curves, usable_functions}
use Rattle.bsmp.specs.Packet.{message, gave, failed}
use Rattle.bsmp.proofs.Bools.{and_true, inside, all_at}
use Rattle.asking.specs.Learned.{Learned, size_rules, usable_sizes, slot_of, fits_count, curves_from, functions_from}
use Rattle.asking.specs.Reply.{Wanted, wanted, is_error, is_done, is_version, is_variables, is_groups, is_members, is_curves, is_functions, is_values, is_block, is_sum, is_result}
use Rattle.asking.specs.Reply.{error_reply, error_of, answers, tells, is_whole, Hearing, hears, hearing, told_of}
use Rattle.asking.specs.Learning.{taught, learning}
use Rattle.asking.specs.declared.Request.{Request}
use Rattle.asking.specs.declared.Request.TheVariants.{Version, ListVariables, ListGroups, ShowGroup, ListCurves, ReadSum, ListFunctions, ReadVariable, ReadGroup, WriteVariable, WriteGroup}
use Rattle.asking.specs.declared.Request.TheVariants.{MaskVariable, MaskGroup, WriteRead, MakeGroup, RemoveGroups, ReadBlock, WriteBlock, RenewSum, RunFunction}
use Rattle.asking.specs.declared.Told.{Told}
use Rattle.asking.specs.declared.Told.TheVariants as T
use Rattle.bsmp.specs.declared.Refusal.{Refusal}
use Rattle.bsmp.specs.declared.WireError.{WireError}
use Rattle.std.specs.Prelude.{Ok, Err}
use Rattle.asking.proofs.Frames.{taken}
use Rattle.asking.proofs.Places.{payload_place}
use Rattle.learning.specs.Taking.{Answers, taught_by, heard_left, heard_of}

-- what an answer has, by its request -----------------------------------------------------------------------------------------------
module _ (x : Learned) (c : ℕ) (p : List ℕ) where
  has_room : (r : Request) → answers x (wanted x r) c p ≡ true → Answers r p
  unfolding answers wanted usable_sizes usable_curves usable_functions
  has_room ListVariables h =
      let u = (and_true (eqb c 0x03) (all (size_rules (map (λ b. (slot_of b).size) p))) h).1 in
      omega (arith, length-map p (λ b. (slot_of b).size), inside 1 64 (length (map (λ b. (slot_of b).size) p)) (all_at (size_rules (map (λ b. (slot_of b).size) p)) u 0))
  has_room ListGroups h =
      let u = (and_true (eqb c 0x05 && within 3 8 (length p)) (every (λ g. fits_count (group g) (slot_of (byte_at p g)).size) (up_from 0 (length p))) h).0 in
      (inside 3 8 (length p) (and_true (eqb c 0x05) (within 3 8 (length p)) u).1).0
  has_room ListCurves h =
      let u = and_true (eqb c 0x09 && eqb (5 * length (curves_from p)) (length p)) (all (curve_rules (curves_from p))) h in
      let e : 5 * length (curves_from p) ≡ length p = eqb-true _ _ (and_true (eqb c 0x09) (eqb (5 * length (curves_from p)) (length p)) u.0).1 in
      let n : length (curves_from p) ≤ 8 = leb-true _ 8 (all_at (curve_rules (curves_from p)) u.1 0) in
      (omega arith, e)
  has_room ListFunctions h =
      let u = (and_true (eqb c 0x0D) (leb (length (functions_from p)) 16 && every (λ f. leb f.input 15 && leb f.output 15) (functions_from p)) h).1 in
      let n : length (functions_from p) ≡ length p = length-map p (λ b. record { input = b / 16; output = b % 16 }) in
      omega (arith, n, leb-true (length (functions_from p)) 16 (and_true (leb (length (functions_from p)) 16) _ u).0)
  has_room Version h = tt
  has_room (ShowGroup g) h = tt
  has_room (ReadSum v) h = tt
  has_room (ReadVariable i) h = tt
  has_room (ReadGroup g) h = tt
  has_room (WriteVariable i) h = tt
  has_room (WriteGroup g) h = tt
  has_room (MaskVariable i o) h = tt
  has_room (MaskGroup g o) h = tt
  has_room (WriteRead i j) h = tt
  has_room MakeGroup h = tt
  has_room RemoveGroups h = tt
  has_room (ReadBlock v k) h = tt
  has_room (WriteBlock v k) h = tt
  has_room (RenewSum v) h = tt
  has_room (RunFunction f) h = tt

  -- its code counts for nothing in what it teaches
  codeless : (r : Request) (d : List ℕ) (w : Wanted) → taught x r d (tells x w c p) ≡ taught x r d (tells x w 0 p)
  unfolding taught tells
  codeless r d Wanted.done = refl
  codeless r d Wanted.version = refl
  codeless r d Wanted.variable_list = refl
  codeless r d Wanted.group_list = refl
  codeless r d (Wanted.member_list g) = refl
  codeless r d Wanted.curve_list = refl
  codeless r d Wanted.function_list = refl
  codeless r d (Wanted.values b k is) = refl
  codeless r d (Wanted.block v k) = refl
  codeless r d (Wanted.digest v) = refl
  codeless r d (Wanted.output f) = refl

-- a refusal and an error teach nothing -----------------------------------------------------------------------------------------------
untaught : (x : Learned) (r : Request) (d : List ℕ) (h : Hearing) (n : Refusal) → told_of h ≡ Err n → learning x r d h ≡ x
untaught x r d (Hearing.refused m) n e = refl
untaught x r d (hears (is_error m)) n e = cc
untaught x r d (hears is_done) n e = cc
untaught x r d (hears (is_version p)) n e = cc
untaught x r d (hears (is_variables vs)) n e = cc
untaught x r d (hears (is_groups gs)) n e = cc
untaught x r d (hears (is_members g is)) n e = cc
untaught x r d (hears (is_curves cs)) n e = cc
untaught x r d (hears (is_functions fs)) n e = cc
untaught x r d (hears (is_values vs)) n e = cc
untaught x r d (hears (is_block v k b)) n e = cc
untaught x r d (hears (is_sum v b)) n e = cc
untaught x r d (hears (is_result f (gave o))) n e = cc
untaught x r d (hears (is_result f (failed o))) n e = cc

error_taught : (x : Learned) (r : Request) (d : List ℕ) (h : Hearing) (n : WireError) → told_of h ≡ Ok (T.Error n) → learning x r d h ≡ x
unfolding taught
error_taught x r d (Hearing.refused m) n e = cc
error_taught x r d (hears (is_error m)) n e = refl
error_taught x r d (hears is_done) n e = cc
error_taught x r d (hears (is_version p)) n e = cc
error_taught x r d (hears (is_variables vs)) n e = cc
error_taught x r d (hears (is_groups gs)) n e = cc
error_taught x r d (hears (is_members g is)) n e = cc
error_taught x r d (hears (is_curves cs)) n e = cc
error_taught x r d (hears (is_functions fs)) n e = cc
error_taught x r d (hears (is_values vs)) n e = cc
error_taught x r d (hears (is_block v k b)) n e = cc
error_taught x r d (hears (is_sum v b)) n e = cc
error_taught x r d (hears (is_result f (gave o))) n e = cc
error_taught x r d (hears (is_result f (failed o))) n e = cc

module _ (x : Learned) (to : ℕ) (r : Request) (d q : List ℕ) where
  pub refusal_heard : (n : Refusal) → Err n ≡ told_of (hearing x to r q) → heard_left (Err n) x ≡ heard_of x to r d q
  unfolding heard_of
  refusal_heard n e = ap₂ heard_left e (sym (untaught x r d (hearing x to r q) n (sym e)))

  pub error_heard : (t : Told) (n : WireError) → t ≡ T.Error n → Ok t ≡ told_of (hearing x to r q) → heard_left (Ok t) x ≡ heard_of x to r d q
  unfolding heard_of
  error_heard t n f e = ap₂ heard_left e (sym (error_taught x r d (hearing x to r q) n (sym e ∙ ap Ok f)))

  -- an answer -----------------------------------------------------------------------------------------------------------------------------
  abbrev code : ℕ
  code = byte_at (message q) 0

  abbrev payload : List ℕ
  payload = drop 3 (message q)

  record Answered : Type 0 where
    pub whole : is_whole (message q) ≡ true
    pub fits : answers x (wanted x r) code payload ≡ true
    pub heard : hearing x to r q ≡ hears (tells x (wanted x r) code payload)

  -- t was told, and is no error
  module _ (t : Told) (told : Ok t ≡ told_of (hearing x to r q)) (no : (n : WireError) → t ≡ T.Error n → ⊥) where
    answered_by : (h : Hearing) → hearing x to r q ≡ h → Ok t ≡ told_of h → Answered
    answered_by (Hearing.refused n) e k = cc
    answered_by (hears h) e k = let w = taken x to r q h e in by (error_reply code payload) w.fitting w.says w.whole
      where
        by : (v : Bool) → (v || answers x (wanted x r) code payload) ≡ true → h ≡ cond v (is_error (error_of code)) (tells x (wanted x r) code payload) → is_whole (message q) ≡ true → Answered
        by true f s w = let z : t ≡ T.Error (error_of code) = (let o : Ok t ≡ Ok (T.Error (error_of code)) = k ∙ ap (λ z. told_of (hears z)) s in cc) in absurd (no (error_of code) z)
        by false f s w = record { whole = w; fits = f; heard = e ∙ ap hears s }

    answered : Answered
    answered = answered_by (hearing x to r q) refl told

    pub reply_long : 5 ≤ length q
    reply_long =
        let n : 3 ≤ length (message q) = leb-true 3 _ (and_true (leb 3 (length (message q))) (eqb (word_at (message q) 1) (length (message q) - 3)) answered.whole).0 in
        let k : length (message q) ≤ length q - 2 = simp (length-take, length-drop) (omega arith) in
        omega arith

    abbrev there : List ℕ
    there = mid_of 4 (length q - 1 - 4) q

    payload_there : there ≡ payload
    payload_there = let n : length q - 1 - 4 ≡ length q - 5 = omega arith in ap (λ j. take j (drop 4 q)) n ∙ sym (payload_place q)

    pub reply_room : Answers r there
    reply_room = rw payload_there (has_room x code payload r answered.fits)

    pub answer_heard : (y : Learned) → y ≡ taught_by x r d there → heard_left (Ok t) y ≡ heard_of x to r d q
    unfolding heard_of
    answer_heard y e =
        ap₂ heard_left told
        (e ∙ ap (taught_by x r d) payload_there ∙ sym (codeless x code payload r d (wanted x r)) ∙ ap (learning x r d) (sym answered.heard))
