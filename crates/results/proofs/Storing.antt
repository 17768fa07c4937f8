-- A board store: its tests as code meets them, what a pass lets the store lean on, and what the call leaves. Assumes nothing.
use mathlib.Core.Path.{◌≡◌, sym, ap, ◌∙◌}
use mathlib.Core.Bool.{true, false}
use Rattle.std.specs.Prelude as R
use mathlib.Core.List.{List, [], ◌∷◌}
use Prim.Native.Nat.{ℕ, ◌≤◌, ◌<◌}
use native.Mathlib.Omega.{arith}
use lib.ListN.{length, take, get_or, length-map, get_or-map}
use borrow.Author.Tests.{ltb-true, eqb-true, not-false}
use Rattle.bsmp.specs.Base.{Test, cut, join}
use Rattle.bsmp.specs.Board.{Table, layout, State, sizes_of, usable}
use Rattle.bsmp.specs.Message.{edited, after}
use Rattle.bsmp.specs.Packet.{refuse, store_tests, board_store}
use Rattle.bsmp.specs.Store.{Lent, held}
use Rattle.bsmp.specs.declared.VariableNumber.{VariableNumber}
use Rattle.bsmp.specs.declared.Variable.{Variable}
use Rattle.bsmp.specs.declared.Operation.TheVariants.{Replace}
use Rattle.bsmp.specs.declared.Refusal.{Refusal}
use Rattle.bsmp.proofs.Chain.{broken_at}
use Rattle.bsmp.proofs.Store.{join_cut}
use Rattle.sets.specs.Members.{size_at}
use Rattle.sets.specs.Promises as sets
use Rattle.records.specs.declared.Records.{Records}
use Rattle.records.specs.Lending.{records_of, table_of, lent}
use Rattle.records.proofs.Lending.{no_variable, record_count, record_at_lem, sizes_lent}
use Rattle.records.proofs.Sound.{Sound, usable_sound, variables_most, variables_small}
use Rattle.results.specs.Results.{store_left, store_left_of}
use Rattle.results.proofs.Judging.{judged, refused_first, passed_first, passed_sound, passed_test}

-- refusals 9 and 10 ------------------------------------------------------------------------------------------------------
module _ (r : Records) where
  pub size_count : length (sizes_of (records_of r)) ≡ r.count
  size_count = length-map (records_of r) (λ v. v.size) ∙ sym (record_count r)

  pub size_at_lem : (i : ℕ) → i < r.count → get_or (sizes_of (records_of r)) i 0 ≡ get_or r.sizes i 0
  size_at_lem i h = get_or-map (λ v. v.size) (records_of r) i no_variable ∙ ap (λ (v : Variable). v.size) (sym (record_at_lem r i h))

pub size_inside : (t : Table) (x : Lent) (r : Records) (i : ℕ) → usable t (held (layout t) x) ≡ true → t.variables ≡ records_of r → i < r.count → i < 64
size_inside t x r i u e h = omega (arith, record_count r, variables_most (records_of r) (rw e at (usable_sound t x u).variables))

module _ (r : Records) (cs fs vs bs ls ds gs : List ℕ) where
  abbrev t : Table
  t = table_of r cs fs

  abbrev x : Lent
  x = lent vs bs ls ds gs

  abbrev s : State
  s = held (layout t) x

  few : Sound t x → r.count ≤ 64
  few z = rw (record_count r) (variables_most (records_of r) z.variables)

  -- the call ---------------------------------------------------------------------------------------------------------------
  module _ (i : VariableNumber) (b : List ℕ) where
    abbrev tests : List (Test Refusal)
    tests = store_tests (layout t) i b

    pub store_refused : (n : Refusal) → R.Err n ≡ judged t x tests → store_left (R.Err n) vs ≡ store_left_of (board_store t i b s)
    unfolding board_store
    store_refused n h =
        ap (store_left (R.Err n)) (sym (join_cut (sizes_of (records_of r)) vs))
        ∙ ap store_left_of (refused_first t x tests (refuse s) _ n h)

    -- what a pass lets the store lean on
    module _ (h : R.Ok tt ≡ judged t x tests) where
      test : (k : ℕ) → broken_at tests k ≡ false
      test = passed_test t x tests h

      sound : Sound t x
      sound = passed_sound t x tests h

      pub store_few : r.count ≤ 64
      store_few = few sound

      module _ (l : length r.sizes ≡ 64) where
        lending : sizes_of (records_of r) ≡ take r.count r.sizes
        lending = sizes_lent r (omega (arith, store_few))

        pub store_sound : sets.Sound (take r.count r.sizes) vs
        store_sound =
            let z = sound in
            rw (← lending) (record {
              few = omega (arith, size_count r, store_few);
              exact = sym z.values;
              small = omega (arith, z.values, variables_small (records_of r) z.variables);
            })

        pub store_known : i.0 < length (take r.count r.sizes)
        store_known = rw (← lending) (ltb-true _ _ (not-false _ (test 0)))

        pub store_whole : length b ≡ size_at (take r.count r.sizes) i
        store_whole = rw (← lending) (eqb-true _ _ (not-false _ (test 1)))

        pub store_done : (vs' : List ℕ)
            → cut (take r.count r.sizes) vs' ≡ edited Replace (i ∷ []) (b ∷ []) (cut (take r.count r.sizes) vs)
            → store_left (R.Ok tt) vs' ≡ store_left_of (board_store t i b s)
        unfolding board_store after
        store_done vs' q =
            ap (store_left (R.Ok tt)) (sym (join_cut (sizes_of (records_of r)) vs') ∙ ap join (rw (← lending) at q))
            ∙ ap store_left_of (passed_first t x tests h (refuse s) _)
