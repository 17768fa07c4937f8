-- Fresh boards (02, 2026-03: "full on a fresh board"): what one leaves in the lengths, what it goes by, and which boards it takes. Its sums
-- are in Sums. Assumes nothing.
use mathlib.Core.Path.{◌≡◌, refl, sym, ap, ◌∙◌}
use mathlib.Core.Logic.{◌↔◌}
use mathlib.Core.Bool.{true}
use mathlib.Core.List.{List, [], ◌∷◌, ◌++◌, map}
use Prim.Native.Nat.{ℕ, zero, suc, ◌≤◌}
use native.Mathlib.Omega.{arith}
use lib.ListN.{length, replicate}
use borrow.Author.Tests.{leb-true, le-leb}
use Rattle.bsmp.specs.Base.{every, within, first, up_from}
use Rattle.bsmp.specs.Board.{curve, is_type, Table, Layout, layout, State, with_sums, sizes_of, block_sizes, curve_sum, sum_sizes, full_lengths, full, fresh, fitting, usable_variables, usable_curve, curve_rules, usable_curves, usable_functions, usable_groups, usable, faults}
use Rattle.bsmp.specs.Packet.{Ending, silence, Result, fresh_board}
use Rattle.bsmp.specs.declared.Curve.{Curve}
use Rattle.bsmp.proofs.Bools.{and_true, all_at, bool_eq}
use Rattle.bsmp.proofs.Chain.{first_map}
use Rattle.bsmp.proofs.Usable.{usable_parts, usable_whole, usable_fit, faults_by}
use Rattle.bsmp.proofs.Stays.{fresh_state, fresh_usable}
use Rattle.bsmp.proofs.Lengths.{fitting_count}

-- full lengths are as many as there were, and the sizes, where those are as many
pub full_count : (ms ns : List ℕ) → length (full_lengths ms ns) ≡ length ns
full_count [] ns = refl
full_count (m ∷ ms) [] = refl
full_count (m ∷ ms) (n ∷ ns) = ap suc (full_count ms ns)

pub full_sizes : (ms ns : List ℕ) → length ns ≡ length ms → full_lengths ms ns ≡ ms
full_sizes [] [] h = refl
full_sizes [] (n ∷ ns) h = absurd (omega (arith, h))
full_sizes (m ∷ ms) [] h = absurd (omega (arith, h))
full_sizes (m ∷ ms) (n ∷ ns) h = ap (m ∷◌) (full_sizes ms ns (omega (arith, h)))

pub fit_count : (ms ns : List ℕ) → fitting ms (full_lengths ms ns) ≡ true → length ns ≡ length ms
fit_count ms ns h = sym (full_count ms ns) ∙ fitting_count ms (full_lengths ms ns) h

-- so they fit or don't, whatever stood there
module _ (ms : List ℕ) where
  fit_same : (ns ns' : List ℕ) → length ns ≡ length ns' → fitting ms (full_lengths ms ns) ≡ true → full_lengths ms ns ≡ full_lengths ms ns'
  fit_same ns ns' n h = let k : length ns ≡ length ms = fit_count ms ns h in full_sizes ms ns k ∙ sym (full_sizes ms ns' (sym n ∙ k))

  fit_alike : (ns ns' : List ℕ) → length ns ≡ length ns' → fitting ms (full_lengths ms ns) ≡ fitting ms (full_lengths ms ns')
  fit_alike ns ns' n = bool_eq _ _
      (λ h. sym (ap (fitting ms) (fit_same ns ns' n h)) ∙ h)
      (λ h. sym (ap (fitting ms) (fit_same ns' ns (sym n) h)) ∙ h)

-- sizes fit themselves, as none is 0
replicate_fits : (n x : ℕ) (ms : List ℕ) → 1 ≤ x → fitting ms ms ≡ true → fitting (replicate n x ++ ms) (replicate n x ++ ms) ≡ true
replicate_fits zero x ms h k = k
replicate_fits (suc n) x ms h k = rw (le-leb 1 x h, le-leb x x (omega arith)) (replicate_fits n x ms h k)

sizes_fit : (cs : List Curve) → every usable_curve cs ≡ true → fitting (block_sizes cs) (block_sizes cs) ≡ true
sizes_fit [] h = refl
sizes_fit (c ∷ cs) h =
    let w : (usable_curve c ≡ true) × (every usable_curve cs ≡ true) = and_true _ _ h in
    let z : within 1 4096 c.size ≡ true = (and_true (is_type c.writable) _ (and_true _ _ w.0).0).1 in
    replicate_fits c.blocks c.size (block_sizes cs) (leb-true _ _ (and_true _ _ z).0) (sizes_fit cs w.1)

pub curves_fit : (cs : List Curve) → usable_curves cs ≡ true → fitting (block_sizes cs) (block_sizes cs) ≡ true
unfolding usable_curves
curves_fit cs h = sizes_fit cs (all_at (curve_rules cs) h 1)

-- "full on a fresh board"
pub fresh_full : (t : Table) (s : State) → usable t (full (layout t) s) ≡ true → (fresh_board t s).state.lengths ≡ block_sizes t.curves
unfolding fresh
fresh_full t s u =
    let ms : List ℕ = block_sizes t.curves in
    rw (fresh_state t s u) (full_sizes ms s.lengths (fit_count ms s.lengths (usable_parts t _ u).lengths))

-- it goes by nothing that stands in the lengths and the sums: they only have to be there
pub record AlikeButFresh (s₁ s₂ : State) : Type 0 where
  pub values : s₁.values ≡ s₂.values
  pub blocks : s₁.blocks ≡ s₂.blocks
  pub lengths : length s₁.lengths ≡ length s₂.lengths
  pub sums : map length s₁.sums ≡ map length s₂.sums
  pub groups : s₁.groups ≡ s₂.groups

module _ (t : Table) (s₁ s₂ : State) (h : AlikeButFresh s₁ s₂) where
  abbrev l : Layout
  l = layout t

  full_alike : usable t (full l s₁) ≡ usable t (full l s₂)
  full_alike =
      usable_fit t (full l s₁) (full l s₂) (ap (map length) h.values) (ap (map length) h.blocks)
      (fit_alike (block_sizes t.curves) s₁.lengths s₂.lengths h.lengths) h.sums h.groups

  abbrev summed : State → State
  summed s = with_sums s (map (λ c. curve_sum l s (curve c)) (up_from 0 (length l.curves)))

  fresh_same : usable t (full l s₁) ≡ true → fresh l s₁ ≡ fresh l s₂
  unfolding fresh
  fresh_same u =
      let e = fit_same (block_sizes t.curves) s₁.lengths s₂.lengths h.lengths (usable_parts t _ u).lengths in
      ap summed (λ i. record { values = h.values i; blocks = h.blocks i; lengths = e i; sums = []; groups = h.groups i })

  pub fresh_asks : ((fresh_board t s₁).ending ≡ (fresh_board t s₂).ending) × (usable t (full (layout t) s₁) ≡ true → (fresh_board t s₁).state ≡ (fresh_board t s₂).state)
  unfolding fresh_board
  fresh_asks = (
    first_map (λ (r : Result). r.ending) (faults t (full l s₁)) _ _
        ∙ ap (λ ts. first ts Ending.refused silence) (faults_by t (full l s₁) (full l s₂) full_alike)
        ∙ sym (first_map (λ (r : Result). r.ending) (faults t (full l s₂)) _ _),
    λ u. fresh_state t s₁ u ∙ fresh_same u ∙ sym (fresh_state t s₂ (sym full_alike ∙ u)),
  )

-- and it takes a board exactly if all else is as 01 wants it
pub record UsableButLengths (t : Table) (s : State) : Type 0 where
  pub variables : usable_variables t.variables ≡ true
  pub values : map length s.values ≡ sizes_of t.variables
  pub curves : usable_curves t.curves ≡ true
  pub blocks : map length s.blocks ≡ block_sizes t.curves
  pub count : length s.lengths ≡ length (block_sizes t.curves)
  pub sums : map length s.sums ≡ sum_sizes t.curves
  pub functions : usable_functions t.functions ≡ true
  pub groups : usable_groups (length t.variables) s.groups ≡ true

pub fresh_takes : (t : Table) (s : State) → (usable t (full (layout t) s) ≡ true) ↔ UsableButLengths t s
fresh_takes t s = (there, back)
  where
    there : usable t (full (layout t) s) ≡ true → UsableButLengths t s
    there h =
        let u = usable_parts t _ h in
        record {
          variables = u.variables;
          values = u.values;
          curves = u.curves;
          blocks = u.blocks;
          count = fit_count (block_sizes t.curves) s.lengths u.lengths;
          sums = u.sums;
          functions = u.functions;
          groups = u.groups;
        }

    back : UsableButLengths t s → usable t (full (layout t) s) ≡ true
    back u = usable_whole t _ record {
      variables = u.variables;
      values = u.values;
      curves = u.curves;
      blocks = u.blocks;
      lengths = ap (fitting (block_sizes t.curves)) (full_sizes (block_sizes t.curves) s.lengths u.count) ∙ curves_fit t.curves u.curves;
      sums = u.sums;
      functions = u.functions;
      groups = u.groups;
    }

-- such a board is usable after it
pub fresh_board_usable : (t : Table) (s : State) → UsableButLengths t s → usable t (fresh_board t s).state ≡ true
fresh_board_usable t s u = let h : usable t (full (layout t) s) ≡ true = (fresh_takes t s).1 u in rw (fresh_state t s h) (fresh_usable t s h)
