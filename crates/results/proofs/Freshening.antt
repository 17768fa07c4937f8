-- A fresh board: what a board that is usable with its blocks full lets the call lean on, and what the call leaves. Assumes nothing.
use mathlib.Core.Path.{◌≡◌, refl, sym, ap, ap₂, ◌∙◌}
use mathlib.Core.Bool.{true, false}
use Rattle.std.specs.Prelude as R
use mathlib.Core.List.{List}
use Prim.Native.Nat.{ℕ}
use lib.ListN.{length}
use Rattle.bsmp.specs.Base.{join}
use Rattle.bsmp.specs.Board.{Table, layout, State, block_sizes, sum_sizes, full_lengths, full, fresh, usable}
use Rattle.bsmp.specs.Packet.{refuse, fresh_board}
use Rattle.bsmp.specs.Store.{Lent, held}
use Rattle.bsmp.specs.declared.Refusal.TheVariants.{BoardUnusable}
use Rattle.bsmp.proofs.Usable.{faults_none, faults_some}
use Rattle.bsmp.proofs.Store.{join_cut}
use Rattle.bsmp.proofs.Fresh.{fit_count, full_sizes}
use Rattle.records.specs.Lending.{curves_of, table_of, lent}
use Rattle.records.specs.declared.Records.{Records}
use Rattle.records.proofs.Sound.{Sound, usable_sound}
use Rattle.curves.specs.Fits.{SoundCurves, SoundSums}
use Rattle.sums.specs.Sums.{sums_in, fresh_sums}
use Rattle.results.specs.Results.{fresh_left, fresh_left_of}

module _ (r : Records) (cs fs vs bs ls ds gs : List ℕ) where
  abbrev t : Table
  t = table_of r cs fs

  abbrev s : State
  s = held (layout t) (lent vs bs ls ds gs)

  abbrev filled : Lent
  filled = lent vs bs (full_lengths (block_sizes (curves_of cs)) ls) ds gs

  pub fresh_refused : usable t (full (layout t) s) ≡ false → fresh_left (R.Err BoardUnusable) ls ds ≡ fresh_left_of (fresh_board t s)
  unfolding fresh_board
  fresh_refused h =
      ap (fresh_left (R.Err BoardUnusable) ls) (sym (join_cut (sum_sizes t.curves) ds))
      ∙ ap fresh_left_of (faults_some t (full (layout t) s) (refuse s) _ (refuse s BoardUnusable) h refl)

  module _ (h : usable t (full (layout t) s) ≡ true) where
    sound : Sound t filled
    sound = usable_sound t filled h

    pub fresh_curves : SoundCurves (curves_of cs) bs
    fresh_curves = let z = sound in record { usable = z.curves; exact = z.blocks }

    pub fresh_sums_lem : SoundSums (curves_of cs) ds
    fresh_sums_lem = record { exact = sound.sums }

    pub fresh_count : length ls ≡ length (block_sizes (curves_of cs))
    fresh_count = fit_count (block_sizes (curves_of cs)) ls sound.lengths

    pub fresh_done : (ls' ds' : List ℕ)
        → (ls' ≡ block_sizes (curves_of cs)) × (sums_in (curves_of cs) ds' ≡ fresh_sums (curves_of cs) bs (block_sizes (curves_of cs)) (length (curves_of cs)))
        → fresh_left (R.Ok tt) ls' ds' ≡ fresh_left_of (fresh_board t s)
    unfolding fresh_board fresh
    fresh_done ls' ds' q =
        let f : block_sizes (curves_of cs) ≡ full_lengths (block_sizes (curves_of cs)) ls = sym (full_sizes (block_sizes (curves_of cs)) ls fresh_count) in
        let z : sums_in (curves_of cs) ds' ≡ fresh_sums (curves_of cs) bs (full_lengths (block_sizes (curves_of cs)) ls) (length (curves_of cs)) =
        q.1 ∙ ap (λ ns. fresh_sums (curves_of cs) bs ns (length (curves_of cs))) f in
        ap₂ (fresh_left (R.Ok tt)) (q.0 ∙ f) (sym (join_cut (sum_sizes t.curves) ds') ∙ ap join z)
        ∙ ap fresh_left_of (faults_none t (full (layout t) s) (refuse s) _ _ h refl)
