-- What a caller may lean on: each promise allows one result only, where z is its right side; and a refused
-- call leaves what it was lent as it was. Assumes nothing.
use mathlib.Core.Path.{◌≡◌, refl, sym, ◌∙◌}
use mathlib.Core.List.{List}
use Prim.Native.Nat.{ℕ}
use native.Mathlib.Omega.{arith}
use lib.ListN.{length}
use Rattle.bsmp.specs.Packet.{gave, failed}
use Rattle.asking.specs.Request.{Asking, request}
use Rattle.asking.specs.Learned.{Learned}
use Rattle.asking.specs.Reply.{is_error, is_done, is_version, is_variables, is_groups, is_members, is_curves, is_functions, is_values, is_block, is_sum, is_result, Hearing, hears, told_of}
use Rattle.requests.specs.Writing.{asked_of}
use Rattle.asking.specs.declared.Request.{Request}
use Rattle.std.specs.Prelude.{Option, Some, None}
use Rattle.gateway.specs.declared.PlainAsked.{PlainAsked}
use Rattle.gateway.specs.declared.PlainHeard.{PlainHeard}
use Rattle.gateway.specs.Plain.{asking_by, PlainAskedLeft, plain_asked_left, plain_asked_left_of, ask_of, hearing_by, learning_by, plain_heard_of, PlainHeardLeft, plain_heard_left, hear_of}

pub ask_unique : (z : PlainAskedLeft) (a a' : PlainAsked) (b b' : List ℕ) → plain_asked_left a b ≡ z → plain_asked_left a' b' ≡ z → (a ≡ a') × (b ≡ b')
ask_unique z a a' b b' h k = let e : plain_asked_left a b ≡ plain_asked_left a' b' = h ∙ sym k in (λ i. (e i).asked, λ i. (e i).buffer)

pub hear_unique : (z : PlainHeardLeft) (h h' : PlainHeard) (x x' : Learned) → plain_heard_left h x ≡ z → plain_heard_left h' x' ≡ z → (h ≡ h') × (x ≡ x')
hear_unique z h h' x x' e f = let g : plain_heard_left h x ≡ plain_heard_left h' x' = e ∙ sym f in (λ i. (g i).heard, λ i. (g i).table)

-- refusals ------------------------------------------------------------------------------------------------------------------------------
refused_buffer : (z : Asking) (a : PlainAsked) (b b' : List ℕ) → plain_asked_left a b' ≡ plain_asked_left_of (asked_of z b) → (a.refusal ≡ 0 → ⊥) → b' ≡ b
refused_buffer (request q) a b b' h k = absurd (k (λ i. (h i).asked.refusal))
refused_buffer (Asking.refused n) a b b' h k = λ i. (h i).buffer

pub ask_refused : (to : ℕ) (r : Option Request) (d b b' : List ℕ) (a : PlainAsked) → plain_asked_left a b' ≡ ask_of to r d b → (a.refusal ≡ 0 → ⊥) → b' ≡ b
ask_refused to r d b b' a = refused_buffer (asking_by to (length b) r d) a b b'

-- what was heard has another kind than a refusal
refused_table : (x : Learned) (r : Option Request) (d : List ℕ) (z : Hearing) → (plain_heard_of (told_of z)).kind ≡ 0 → learning_by x r d z ≡ x
refused_table x (Some r) d (Hearing.refused n) h = refl
refused_table x None d z h = refl
refused_table x (Some r) d (hears (is_error e)) h = absurd (omega (arith, h))
refused_table x (Some r) d (hears is_done) h = absurd (omega (arith, h))
refused_table x (Some r) d (hears (is_version p)) h = absurd (omega (arith, h))
refused_table x (Some r) d (hears (is_variables vs)) h = absurd (omega (arith, h))
refused_table x (Some r) d (hears (is_groups gs)) h = absurd (omega (arith, h))
refused_table x (Some r) d (hears (is_members g is)) h = absurd (omega (arith, h))
refused_table x (Some r) d (hears (is_curves cs)) h = absurd (omega (arith, h))
refused_table x (Some r) d (hears (is_functions fs)) h = absurd (omega (arith, h))
refused_table x (Some r) d (hears (is_values vs)) h = absurd (omega (arith, h))
refused_table x (Some r) d (hears (is_block c k b)) h = absurd (omega (arith, h))
refused_table x (Some r) d (hears (is_sum c b)) h = absurd (omega (arith, h))
refused_table x (Some r) d (hears (is_result f (gave o))) h = absurd (omega (arith, h))
refused_table x (Some r) d (hears (is_result f (failed o))) h = absurd (omega (arith, h))

pub hear_refused : (x y : Learned) (to : ℕ) (r : Option Request) (d q : List ℕ) (h : PlainHeard) → plain_heard_left h y ≡ hear_of x to r d q → h.kind ≡ 0 → y ≡ x
hear_refused x y to r d q h e k =
    (λ i. (e i).table) ∙ refused_table x r d (hearing_by x to r q) (sym (λ i. (e i).heard.kind) ∙ k)
