-- The refusal of a reply to what is not named: its own, or that it fits nothing. Assumes nothing.
use mathlib.Core.Path.{◌≡◌, sym, ap, ◌∙◌}
use mathlib.Core.List.{List}
use Prim.Native.Nat.{ℕ}
use Rattle.std.specs.Prelude.{Result, Ok, Err}
use Rattle.bsmp.specs.declared.Refusal.{Refusal}
use Rattle.bsmp.specs.declared.Refusal.TheVariants.{ReplyUnfit}
use Rattle.bsmp.proofs.Chain.{first_map}
use Rattle.replies.specs.Reading.{open_tests, opened_of}
use Rattle.gateway.specs.Plain.{unheard}

abbrev refusal_of : Result (Unit {0}) Refusal → Refusal
refusal_of (Ok _) = ReplyUnfit
refusal_of (Err n) = n

opened_refusal : (to : ℕ) (q : List ℕ) → refusal_of (opened_of to q) ≡ unheard to q
unfolding opened_of unheard
opened_refusal to q = first_map refusal_of (open_tests to q) Err (Ok tt)

module _ (to : ℕ) (q : List ℕ) (o : Result (Unit {0}) Refusal) (e : o ≡ opened_of to q) where
  pub unheard_message : o ≡ Ok tt → ReplyUnfit ≡ unheard to q
  unheard_message h = ap refusal_of (sym h ∙ e) ∙ opened_refusal to q

  pub unheard_refused : (n : Refusal) → o ≡ Err n → n ≡ unheard to q
  unheard_refused n h = ap refusal_of (sym h ∙ e) ∙ opened_refusal to q
