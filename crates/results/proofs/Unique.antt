-- What a reader may lean on: each promise allows one result only, and a refused call leaves what it was lent as it was. Assumes nothing.
use mathlib.Core.Path.{◌≡◌, refl, sym, ap, ◌∙◌}
use Rattle.std.specs.Prelude as R
use mathlib.Core.List.{List}
use Prim.Native.Nat.{ℕ}
use native.Mathlib.Omega.{arith}
use lib.ListN.{length}
use Rattle.bsmp.specs.Board.{Table, State, layout, sizes_of, sum_sizes, full, fresh, faults}
use Rattle.bsmp.specs.Packet.{Ending, reply, silence, run, refuse, store_tests, board_store, fresh_board}
use Rattle.bsmp.specs.Store.{Lent, held}
use Rattle.bsmp.specs.declared.VariableNumber.{VariableNumber}
use Rattle.bsmp.specs.declared.Refusal.{Refusal}
use Rattle.bsmp.specs.declared.Outcome.{Outcome}
use Rattle.bsmp.specs.declared.Outcome.TheVariants as O
use Rattle.bsmp.proofs.Chain.{first_case}
use Rattle.bsmp.proofs.Store.{join_cut}
use Rattle.results.specs.Results.{ResultLeft, result_left, result_left_of, Stored, stored_of, StoreLeft, store_left, store_left_of, FreshLeft, fresh_left, fresh_left_of}

-- x is what the definition gives, the right side of the promise
pub result_unique : (x : ResultLeft) (o o' : Outcome) (b b' : List ℕ) → result_left o b ≡ x → result_left o' b' ≡ x → (o ≡ o') × (b ≡ b')
result_unique x o o' b b' h k = (ap (λ (y : ResultLeft). y.outcome) (h ∙ sym k), ap (λ (y : ResultLeft). y.reply) (h ∙ sym k))

pub store_unique : (x : StoreLeft) (a a' : Stored) (vs vs' : List ℕ) → store_left a vs ≡ x → store_left a' vs' ≡ x → (a ≡ a') × (vs ≡ vs')
store_unique x a a' vs vs' h k = (ap (λ (y : StoreLeft). y.stored) (h ∙ sym k), ap (λ (y : StoreLeft). y.values) (h ∙ sym k))

pub fresh_unique : (x : FreshLeft) (a a' : Stored) (ls ls' ds ds' : List ℕ) → fresh_left a ls ds ≡ x → fresh_left a' ls' ds' ≡ x → (a ≡ a') × (ls ≡ ls') × (ds ≡ ds')
fresh_unique x a a' ls ls' ds ds' h k =
    (ap (λ (y : FreshLeft). y.stored) (h ∙ sym k), ap (λ (y : FreshLeft). y.lengths) (h ∙ sym k), ap (λ (y : FreshLeft). y.sums) (h ∙ sym k))

-- the answer of a board store, and of a fresh board, tells its whole ending
abbrev ending_of : Stored → Ending
ending_of (R.Ok tt) = silence
ending_of (R.Err n) = Ending.refused n

pub store_ends : (t : Table) (i : VariableNumber) (b : List ℕ) (s : State) → (board_store t i b s).ending ≡ ending_of (stored_of (board_store t i b s).ending)
unfolding board_store
store_ends t i b s =
    first_case (λ r. r.ending ≡ ending_of (stored_of r.ending)) (faults t s) (refuse s) _ (λ n. refl)
    (λ d. first_case (λ r. r.ending ≡ ending_of (stored_of r.ending)) (store_tests (layout t) i b) (refuse s) _ (λ n. refl) (λ c. refl))

pub fresh_ends : (t : Table) (s : State) → (fresh_board t s).ending ≡ ending_of (stored_of (fresh_board t s).ending)
unfolding fresh_board
fresh_ends t s = first_case (λ r. r.ending ≡ ending_of (stored_of r.ending)) (faults t (full (layout t) s)) (refuse s) _ (λ n. refl) (λ c. refl)

reply_no : (n : Refusal) (k : ℕ) → O.Refused n ≡ O.Reply k → ⊥
reply_no n k h = let z : ◌≡◌ {A = ℕ} 0 1 = cc in omega arith

-- "A local refusal returns its number only and changes no byte of any .. buffer"
pub refused_reply : (e : Ending) (n : Refusal) (b b' : List ℕ) → result_left (O.Refused n) b' ≡ result_left_of e b → b' ≡ b
refused_reply (reply r) n b b' h = absurd (reply_no n (length r) (ap (λ (y : ResultLeft). y.outcome) h))
refused_reply silence n b b' h = ap (λ (y : ResultLeft). y.reply) h
refused_reply (run f i due) n b b' h = ap (λ (y : ResultLeft). y.reply) h
refused_reply (Ending.refused m) n b b' h = ap (λ (y : ResultLeft). y.reply) h

done_no : (n : Refusal) → ◌≡◌ {A = Stored} (R.Err n) (R.Ok tt) → ⊥
done_no n h = cc

pub refused_values : (t : Table) (i : VariableNumber) (b : List ℕ) (x : Lent) (n : Refusal) (vs' : List ℕ)
    → store_left (R.Err n) vs' ≡ store_left_of (board_store t i b (held (layout t) x)) → vs' ≡ x.values
unfolding board_store
refused_values t i b x n vs' =
    first_case (λ r. store_left (R.Err n) vs' ≡ store_left_of r → vs' ≡ x.values) (faults t (held (layout t) x)) (refuse (held (layout t) x)) _ kept
    (λ d. first_case (λ r. store_left (R.Err n) vs' ≡ store_left_of r → vs' ≡ x.values) (store_tests (layout t) i b) (refuse (held (layout t) x)) _ kept
    (λ c h. absurd (done_no n (ap (λ (y : StoreLeft). y.stored) h))))
  where
    kept : (m : Refusal) → store_left (R.Err n) vs' ≡ store_left_of (refuse (held (layout t) x) m) → vs' ≡ x.values
    kept m h = ap (λ (y : StoreLeft). y.values) h ∙ join_cut (sizes_of t.variables) x.values

pub refused_fresh : (t : Table) (x : Lent) (n : Refusal) (ls' ds' : List ℕ) → fresh_left (R.Err n) ls' ds' ≡ fresh_left_of (fresh_board t (held (layout t) x))
    → (ls' ≡ x.lengths) × (ds' ≡ x.sums)
unfolding fresh_board fresh
refused_fresh t x n ls' ds' =
    first_case (λ r. fresh_left (R.Err n) ls' ds' ≡ fresh_left_of r → (ls' ≡ x.lengths) × (ds' ≡ x.sums)) (faults t (full (layout t) (held (layout t) x))) (refuse (held (layout t) x)) _
    (λ m h. (ap (λ (y : FreshLeft). y.lengths) h, ap (λ (y : FreshLeft). y.sums) h ∙ join_cut (sum_sizes t.curves) x.sums))
    (λ c h. absurd (done_no n (ap (λ (y : FreshLeft). y.stored) h)))
