-- What a function's result, a board store and a fresh board leave, of the code and of the definition. Assumes nothing.
use Rattle.std.specs.Prelude.{List, [], ◌∷◌, ℕ}
use Rattle.std.specs.Prelude as R
use denote.Bor.{Bor}
use Rattle.bsmp.specs.Base.{join}
use Rattle.bsmp.specs.Packet.{Ending, reply, silence, run, Result, gave, failed}
use Rattle.bsmp.specs.Packet as P
use Rattle.bsmp.specs.Store.{outcome_of, shown}
use Rattle.bsmp.specs.declared.Outcome.{Outcome}
use Rattle.bsmp.specs.declared.Refusal.{Refusal}

-- how a function ran, as the code has it: the output that it gave, or its error byte
abbrev pub ran_of : R.Result (Bor (List ℕ)) ℕ → P.Ran
ran_of (R.Ok output) = gave output.now
ran_of (R.Err e) = failed e

-- the payload of the reply
abbrev pub ran_payload : P.Ran → List ℕ
ran_payload (gave output) = output
ran_payload (failed e) = e ∷ []

-- a function's result leaves an outcome and the reply buffer
pub record ResultLeft : Type 0 where
  pub outcome : Outcome
  pub reply : List ℕ

abbrev pub result_left : Outcome → List ℕ → ResultLeft
result_left o b = record { outcome = o; reply = b }

abbrev pub result_left_of : Ending → (buffer : List ℕ) → ResultLeft
result_left_of e b = result_left (outcome_of e) (shown e b)

-- the answer of a board store, and of a fresh board: good, or the refusal
abbrev pub Stored : Type 0
Stored = R.Result (Unit {0}) Refusal

-- a board store and a fresh board end in silence or in a refusal; the other two endings don't occur (laws `store_ends`, `fresh_ends`) and
-- stand as good
abbrev pub stored_of : Ending → Stored
stored_of (Ending.refused n) = R.Err n
stored_of silence = R.Ok tt
stored_of (reply r) = R.Ok tt
stored_of (run f i due) = R.Ok tt

-- a board store leaves its answer and the store of the values
pub record StoreLeft : Type 0 where
  pub stored : Stored
  pub values : List ℕ

abbrev pub store_left : Stored → List ℕ → StoreLeft
store_left a vs = record { stored = a; values = vs }

abbrev pub store_left_of : Result → StoreLeft
store_left_of r = store_left (stored_of r.ending) (join r.state.values)

-- a fresh board leaves its answer, the lengths and the sums
pub record FreshLeft : Type 0 where
  pub stored : Stored
  pub lengths : List ℕ
  pub sums : List ℕ

abbrev pub fresh_left : Stored → (lengths sums : List ℕ) → FreshLeft
fresh_left a ls ds = record { stored = a; lengths = ls; sums = ds }

abbrev pub fresh_left_of : Result → FreshLeft
fresh_left_of r = fresh_left (stored_of r.ending) r.state.lengths (join r.state.sums)
