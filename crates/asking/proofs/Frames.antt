-- A reply taken apart: what is known of one that is heard, and how a node's frame is heard. Assumes nothing.
use mathlib.Core.Path.{◌≡◌, refl, sym, ap, ◌∙◌}
use mathlib.Core.Bool.{true, false, not, ◌&&◌, true≢false}
use mathlib.Core.List.{List, []}
use Prim.Native.Nat.{ℕ, suc, ◌+◌, ◌-◌, ◌*◌, ◌/◌, ◌%◌, ◌≤◌}
use native.Mathlib.Omega.{arith}
use lib.Dec.{eqb}
use lib.ListN.{length, drop}
use borrow.Author.Tests.{eq-eqb, le-leb, lt-leb, le-ltb, not-true, not-false}
use Rattle.bsmp.specs.Base.{sum, within, byte_at}
use Rattle.bsmp.specs.Codes.{error_code}
use Rattle.bsmp.specs.Message.{message_of}
use Rattle.bsmp.specs.Packet.{Place, usable_place, message, frame}
use Rattle.bsmp.specs.declared.WireError.{WireError}
use Rattle.bsmp.specs.declared.WireError.TheVariants.{Malformed, Unsupported, BadId, BadValue, BadSize, ReadOnly, Full, Busy}
use Rattle.bsmp.proofs.Bools.{and_true, inside}
use Rattle.bsmp.proofs.Chain.{clear, clear_at, first_case, first_clear}
use Rattle.bsmp.proofs.Room.{frame_length, frame_sum}
use Rattle.bsmp.proofs.Wrong.{packed_message}
use Rattle.asking.specs.Request.{is_multicast, is_address}
use Rattle.asking.specs.Learned.{Learned, usable_learned}
use Rattle.asking.specs.Reply.{Wanted, wanted, Heard, error_reply, error_of, is_sized, is_whole, fits_wanted, heard_in, fits, hearing_tests, Hearing, hears, hearing}
use Rattle.asking.specs.declared.Request.{Request}
use Rattle.asking.proofs.Lists.{clash, and_both, in_range_lem}

-- a reply that is heard ------------------------------------------------------------------------------------------------------------
abbrev pub code_in : List ℕ → ℕ
code_in q = byte_at (message q) 0

abbrev pub payload_in : List ℕ → List ℕ
payload_in q = drop 3 (message q)

pub record Taken (x : Learned) (to : ℕ) (r : Request) (q : List ℕ) (h : Heard) : Type 0 where
  pub single : is_multicast to ≡ false
  pub whole : is_whole (message q) ≡ true
  pub fitting : fits_wanted x (wanted x r) (code_in q) (payload_in q) ≡ true
  pub says : h ≡ heard_in x (wanted x r) (code_in q) (payload_in q)

pub taken : (x : Learned) (to : ℕ) (r : Request) (q : List ℕ) (h : Heard) → hearing x to r q ≡ hears h → Taken x to r q h
unfolding hearing
taken x to r q h =
    first_case (λ z. z ≡ hears h → Taken x to r q h) (hearing_tests x (wanted x r) to q) Hearing.refused
    (hears (heard_in x (wanted x r) (code_in q) (payload_in q))) (λ e k. absurd (clash cc))
    (λ c k.
    let f : fits x (wanted x r) to q ≡ true = not-false _ (clear_at (hearing_tests x (wanted x r) to q) c 4) in
    let a = and_true _ (fits_wanted x (wanted x r) (code_in q) (payload_in q)) f in
    let w = and_true (not (is_multicast to) && eqb (byte_at q 0) 0) (is_whole (message q)) a.0 in
    let b = and_true (not (is_multicast to)) (eqb (byte_at q 0) 0) w.0 in
    record { single = not-true _ b.0; whole = w.1; fitting = a.1; says = cc })

-- no reply to a multicast is heard
pub never_multicast : (x : Learned) (to : ℕ) (r : Request) (q : List ℕ) (h : Heard) → is_multicast to ≡ true → hearing x to r q ≡ hears h → ⊥
never_multicast x to r q h m k = true≢false (sym m ∙ (taken x to r q h k).single)

-- a node's frame -------------------------------------------------------------------------------------------------------------------
frame_message : (c : ℕ) (p : List ℕ) → message (frame c p) ≡ message_of c p
unfolding frame
frame_message c p = packed_message 0 (message_of c p)

pub error_again : (e : WireError) → (error_reply (error_code e) [] ≡ true) × (error_of (error_code e) ≡ e)
unfolding error_of
error_again Malformed = (refl, refl)
error_again Unsupported = (refl, refl)
error_again BadId = (refl, refl)
error_again BadValue = (refl, refl)
error_again BadSize = (refl, refl)
error_again ReadOnly = (refl, refl)
error_again Full = (refl, refl)
error_again Busy = (refl, refl)

-- a node's own address
pub record Own (d : ℕ) : Type 0 where
  pub low : 1 ≤ d
  pub high : d ≤ 31

pub own : (a : Place) → usable_place a ≡ true → Own a.own
unfolding usable_place
own a h = let w = inside 1 31 a.own (and_true _ _ (and_true (within 1 31 a.own && _) _ h).0).0 in record { low = w.0; high = w.1 }

module _ (x : Learned) (to : ℕ) (r : Request) (o : Own to) (table : (is_sized (wanted x r) && not (usable_learned x)) ≡ false) (c : ℕ) (p : List ℕ) (n : length p ≤ 4099) where
  abbrev W : Wanted
  W = wanted x r

  -- SIZE is right
  frame_whole : is_whole (message_of c p) ≡ true
  frame_whole =
      and_both _ _ (le-leb 3 (suc (suc (suc (length p)))) (omega arith))
      (eq-eqb (length p / 256 % 256 * 256 + length p % 256) (suc (suc (suc (length p))) - 3) (omega arith))

  frame_to : byte_at (frame c p) 0 ≡ 0
  unfolding frame
  frame_to = refl

  frame_fits : fits_wanted x W c p ≡ true → fits x W to (frame c p) ≡ true
  frame_fits f =
      let m : message (frame c p) ≡ message_of c p = frame_message c p in
      let u : not (is_multicast to) ≡ true = rw (lt-leb 248 to (omega (arith, o.high))) in
      rw (u, frame_to, m, frame_whole) f

  frame_clear : fits_wanted x W c p ≡ true → clear (hearing_tests x W to (frame c p))
  unfolding is_address
  frame_clear f =
      let k : length (frame c p) ≡ length p + 5 = frame_length c p in
      rw (
        table,
        in_range_lem 1 31 to o.low o.high,
        le-ltb (length (frame c p)) 2 (omega arith),
        le-ltb 4104 (length (frame c p)) (omega arith),
        eq-eqb (sum (frame c p) % 256) 0 (frame_sum c p),
        frame_fits f,
      )

  pub heard_frame : fits_wanted x (wanted x r) c p ≡ true → hearing x to r (frame c p) ≡ hears (heard_in x (wanted x r) c p)
  unfolding hearing
  heard_frame f =
      first_clear (hearing_tests x W to (frame c p)) Hearing.refused _ (frame_clear f)
      ∙ ap (λ m. hears (heard_in x W (byte_at m 0) (drop 3 m))) (frame_message c p)
