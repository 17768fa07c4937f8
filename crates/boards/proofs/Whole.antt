-- The whole board's rules as the code meets them. Assumes nothing.
use mathlib.Core.Path.{◌≡◌, refl, sym, ap, ◌∙◌}
use mathlib.Core.Bool.{Bool, true, false, cond, not, ◌&&◌, false≢true}
use mathlib.Core.List.{List}
use Prim.Native.Nat.{ℕ, ◌+◌, ◌-◌, ◌*◌, ◌/◌, ◌%◌}
use native.Mathlib.Decide.{ℕ_discrete}
use native.Mathlib.Omega.{arith}
use lib.ListN.{length}
use lib.Dec.{eqb}
use borrow.Author.Tests.{not-true, not-false, eq-eqb, eqb-true}
use Rattle.bsmp.specs.Base.{sum}
use Rattle.bsmp.specs.Board.{Table, layout, sizes_of, block_sizes, full_lengths, full, fitting, sum_sizes, usable_variables, usable_curves, usable_functions, usable_groups, usable}
use Rattle.bsmp.specs.Store.{Lent, held}
use Rattle.bsmp.proofs.Bools.{and_true, not_so, bool_eq}
use Rattle.bsmp.proofs.Store.{curve_bytes_lem, sum_bytes}
use Rattle.bsmp.proofs.Fresh.{full_sizes, fit_count, curves_fit}
use Rattle.std.specs.Prelude.{Some, None}
use Rattle.rules.proofs.Totals.{told_none, told_usable, told_some}
use Rattle.records.specs.declared.Records.{Records}
use Rattle.records.specs.declared.Groups.{Groups}
use Rattle.rules.specs.declared.CurveTotal.{CurveTotal}
use Rattle.records.specs.Lending.{records_of, curves_of, functions_of, groups_of, table_of, lent}
use Rattle.rules.specs.Totals.{variables_total, curves_total}
use Rattle.records.proofs.Lending.{record_count, curve_count}
use Rattle.rules.proofs.Thirds.{cut_off}
use Rattle.records.proofs.Sound.{Sound, usable_sound, sound_usable}
use Rattle.records.proofs.Blocks.{block_count}

-- the sums' length goes by the number of curves, which have three numbers each: d bytes and c numbers are of k curves
curves_of_lem : (d c : ℕ) (P : Type 0) → 3 * d ≡ 16 * c → ((k : ℕ) → d ≡ 16 * k → c ≡ 3 * k → P) → P
curves_of_lem d c P e f = f (d - 5 * c) (omega (arith, e)) (omega (arith, e))

of_curves : (d c k : ℕ) → d ≡ 16 * k → c ≡ 3 * k → (d % 16 ≡ 0) × (d ≡ 16 * ((c + 2) / 3))
of_curves d c k p q = (omega (arith, p), omega (arith, p, q))

module _ (cs ds : List ℕ) where
  all_sums : sum (sum_sizes (curves_of cs)) ≡ 16 * ((length cs + 2) / 3)
  all_sums = sum_bytes (curves_of cs) ∙ ap (16 *◌) (sym (curve_count cs))

  -- a sum for each curve: three numbers and 16 bytes, where no record is cut off
  sums_exact : 3 * length ds ≡ 16 * length cs → length ds ≡ sum (sum_sizes (curves_of cs))
  sums_exact e = curves_of_lem (length ds) (length cs) (length ds ≡ sum (sum_sizes (curves_of cs))) e (λ k p q. (of_curves (length ds) (length cs) k p q).1 ∙ sym all_sums)

  sums_enough : usable_curves (curves_of cs) ≡ true → length ds ≡ sum (sum_sizes (curves_of cs)) → eqb (3 * length ds) (16 * length cs) ≡ true
  sums_enough u e = by (ℕ_discrete (length cs % 3) 0)
    where
      by : Dec (length cs % 3 ≡ 0) → eqb (3 * length ds) (16 * length cs) ≡ true
      by (yes k) = eq-eqb (3 * length ds) (16 * length cs) (omega (arith, e, all_sums))
      by (no k) = absurd (false≢true (sym (cut_off cs k) ∙ u))

-- what is lent is unusable where one of its parts is, and usable where all are
module _ (r : Records) (cs fs vs bs ns ds : List ℕ) (g : Groups) where
  abbrev table : Table
  table = table_of r cs fs

  abbrev lending : Lent
  lending = lent vs bs ns ds (groups_of g)

  abbrev whole : Bool
  whole = usable table (held (layout table) lending)

  refused : (Sound table lending → ⊥) → false ≡ whole
  refused n = sym (not_so whole (λ u. n (usable_sound table lending u)))

  unless : (b b' : Bool) → b ≡ b' → not b ≡ true → b' ≡ true → ⊥
  unless b b' e h q = false≢true (sym (not-true b h) ∙ e ∙ q)

  board_variables : None ≡ variables_total (records_of r) → false ≡ whole
  board_variables e = refused (λ s. false≢true (sym (told_none _ _ e) ∙ s.variables))

  board_values : (n : ℕ) → Some n ≡ variables_total (records_of r) → (n ≡ length vs → ⊥) → false ≡ whole
  board_values n e h = refused (λ s. h (told_some _ _ n e ∙ sym s.values))

  pub board_curves : None ≡ curves_total (curves_of cs) → false ≡ whole
  board_curves e = refused (λ s. false≢true (sym (told_none _ _ e) ∙ s.curves))

  curve_bytes_told : (d : CurveTotal) → Some d ≡ curves_total (curves_of cs) → d.bytes ≡ sum (block_sizes (curves_of cs))
  curve_bytes_told d e = ap (λ (y : CurveTotal). y.bytes) (told_some _ _ d e) ∙ sym (curve_bytes_lem (curves_of cs))

  pub board_lengths : (b : Bool) → b ≡ fitting (block_sizes (curves_of cs)) ns → not b ≡ true → false ≡ whole
  board_lengths b e h = refused (λ s. unless b _ e h s.lengths)

  pub board_blocks : (d : CurveTotal) → Some d ≡ curves_total (curves_of cs) → (d.bytes ≡ length bs → ⊥) → false ≡ whole
  board_blocks d e n = refused (λ s. n (curve_bytes_told d e ∙ sym s.blocks))

  pub board_sums : (b : Bool) → b ≡ eqb (3 * length ds) (16 * length cs) → not b ≡ true → false ≡ whole
  board_sums b e h = refused (λ s. unless b _ e h (sums_enough cs ds s.curves s.sums))

  board_functions : (b : Bool) → b ≡ usable_functions (functions_of fs) → not b ≡ true → false ≡ whole
  board_functions b e h = refused (λ s. unless _ _ e h s.functions)

  -- the groups' check goes by the number of records
  counted : (b : Bool) → b ≡ usable_groups r.count (groups_of g) → b ≡ usable_groups (length (records_of r)) (groups_of g)
  counted b e = e ∙ ap (λ n. usable_groups n (groups_of g)) (record_count r)

  pub board_groups : (b : Bool) → b ≡ usable_groups r.count (groups_of g) → not b ≡ true → false ≡ whole
  board_groups b e h = refused (λ s. unless _ _ (counted b e) h s.groups)

  -- so all comes to the last of the tests
  last : (b : Bool) → (b ≡ true → Sound table lending) → (b ≡ false → Sound table lending → ⊥) → b ≡ whole
  last true so never = sym (sound_usable table lending (so refl))
  last false so never = refused (never refl)

  module _ (d : CurveTotal) (a b m : Bool) (ed : Some d ≡ curves_total (curves_of cs)) (vd : d.bytes ≡ length bs)
      (em : m ≡ eqb (3 * length ds) (16 * length cs)) (hm : not m ≡ false)
      (ea : a ≡ usable_functions (functions_of fs)) (eb : b ≡ usable_groups r.count (groups_of g)) where
    sound : fitting (block_sizes (curves_of cs)) ns ≡ true → usable_variables (records_of r) ≡ true → length vs ≡ sum (sizes_of (records_of r)) → a ≡ true → b ≡ true → Sound table lending
    sound hl hv vv ha hb = record {
      variables = hv;
      values = vv;
      curves = told_usable _ _ d ed;
      blocks = sym vd ∙ curve_bytes_told d ed;
      lengths = hl;
      sums = sums_exact cs ds (eqb-true (3 * length ds) (16 * length cs) (sym em ∙ not-false m hm));
      functions = sym ea ∙ ha;
      groups = sym (counted b eb) ∙ hb;
    }

    -- the variables as one walk tests them
    module _ (c : ℕ) (ec : Some c ≡ variables_total (records_of r)) (vc : c ≡ length vs) (ha : not a ≡ false) (hb : not b ≡ false) where
      walked : fitting (block_sizes (curves_of cs)) ns ≡ true → Sound table lending
      walked hl = sound hl (told_usable _ _ c ec) (sym vc ∙ told_some _ _ c ec) (not-false a ha) (not-false b hb)

      -- so all comes to the lengths: that each fits ..
      pub board_fitted : (k : Bool) → k ≡ fitting (block_sizes (curves_of cs)) ns → k ≡ whole
      board_fitted k ek = last k (λ h. walked (sym ek ∙ h)) (λ h s. false≢true (sym h ∙ ek ∙ s.lengths))

    -- for packets, to the last of the tests
    pub board_quick : (c k : Bool) → c ≡ (usable_variables (records_of r) && eqb (sum (sizes_of (records_of r))) (length vs)) → not c ≡ false
        → k ≡ fitting (block_sizes (curves_of cs)) ns → not k ≡ false → not b ≡ false → a ≡ whole
    board_quick c k ec hc ek hk hb =
        let w = and_true (usable_variables (records_of r)) _ (sym ec ∙ not-false c hc) in
        last a (λ h. sound (sym ek ∙ not-false k hk) w.0 (sym (eqb-true _ _ w.1)) h (not-false b hb)) (λ h s. false≢true (sym h ∙ ea ∙ s.functions))

  pub board_own : (c : Bool) → c ≡ (usable_variables (records_of r) && eqb (sum (sizes_of (records_of r))) (length vs)) → not c ≡ true → false ≡ whole
  board_own c e h = refused (λ s. unless c _ e h (rw (s.variables, s.values) (eq-eqb (sum (sizes_of (records_of r))) (sum (sizes_of (records_of r))) refl)))

-- a board that is to be fresh: it is tested with its blocks full
module _ (r : Records) (cs fs vs bs ns ds : List ℕ) (g : Groups) where
  abbrev full_lengths_lem : List ℕ
  full_lengths_lem = full_lengths (block_sizes (curves_of cs)) ns

  abbrev tested : Bool → Bool
  tested fresh = usable (table_of r cs fs) (cond fresh (full (layout (table_of r cs fs)) (held (layout (table_of r cs fs)) (lent vs bs ns ds (groups_of g))))
      (held (layout (table_of r cs fs)) (lent vs bs ns ds (groups_of g))))

  -- what refuses a board whatever its lengths are refuses it either way
  module _ (fresh : Bool) where
    either_way : ((ls : List ℕ) → false ≡ whole r cs fs vs bs ls ds g) → false ≡ tested fresh
    either_way h = by fresh
      where
        by : (b : Bool) → false ≡ tested b
        by true = h full_lengths_lem
        by false = h ns

    pub sums_refuse : (b : Bool) → b ≡ eqb (3 * length ds) (16 * length cs) → not b ≡ true → false ≡ tested fresh
    sums_refuse b e h = either_way (λ ls. board_sums r cs fs vs bs ls ds g b e h)

    pub variables_refuse : None ≡ variables_total (records_of r) → false ≡ tested fresh
    variables_refuse e = either_way (λ ls. board_variables r cs fs vs bs ls ds g e)

    pub values_refuse : (n : ℕ) → Some n ≡ variables_total (records_of r) → (n ≡ length vs → ⊥) → false ≡ tested fresh
    values_refuse n e h = either_way (λ ls. board_values r cs fs vs bs ls ds g n e h)

    pub functions_refuse : (b : Bool) → b ≡ usable_functions (functions_of fs) → not b ≡ true → false ≡ tested fresh
    functions_refuse b e h = either_way (λ ls. board_functions r cs fs vs bs ls ds g b e h)

    pub groups_refuse : (b : Bool) → b ≡ usable_groups r.count (groups_of g) → not b ≡ true → false ≡ tested fresh
    groups_refuse b e h = either_way (λ ls. board_groups r cs fs vs bs ls ds g b e h)

    pub curves_refuse : None ≡ curves_total (curves_of cs) → false ≡ tested fresh
    curves_refuse e = either_way (λ ls. board_curves r cs fs vs bs ls ds g e)

    pub blocks_refuse : (d : CurveTotal) → Some d ≡ curves_total (curves_of cs) → (d.bytes ≡ length bs → ⊥) → false ≡ tested fresh
    blocks_refuse d e n = either_way (λ ls. board_blocks r cs fs vs bs ls ds g d e n)

  pub as_it_is : (fresh k : Bool) → fresh ≡ false → k ≡ whole r cs fs vs bs ns ds g → k ≡ tested fresh
  as_it_is fresh k e h = rw e h

  -- .. or, where they are to be full, that there is one for each block
  module _ (d : CurveTotal) (a b m : Bool) (ed : Some d ≡ curves_total (curves_of cs)) (vd : d.bytes ≡ length bs)
      (em : m ≡ eqb (3 * length ds) (16 * length cs)) (hm : not m ≡ false)
      (ea : a ≡ usable_functions (functions_of fs)) (eb : b ≡ usable_groups r.count (groups_of g))
      (c : ℕ) (ec : Some c ≡ variables_total (records_of r)) (vc : c ≡ length vs) (ha : not a ≡ false) (hb : not b ≡ false) where
    full_fit : eqb d.blocks (length ns) ≡ fitting (block_sizes (curves_of cs)) full_lengths_lem
    full_fit =
        let u : usable_curves (curves_of cs) ≡ true = told_usable _ _ d ed in
        let n : d.blocks ≡ length (block_sizes (curves_of cs)) = ap (λ (y : CurveTotal). y.blocks) (told_some _ _ d ed) ∙ sym (block_count (curves_of cs)) in
        bool_eq _ _
        (λ h. rw (full_sizes (block_sizes (curves_of cs)) ns (sym (eqb-true _ _ h) ∙ n)) (curves_fit (curves_of cs) u))
        (λ h. eq-eqb d.blocks (length ns) (n ∙ sym (fit_count (block_sizes (curves_of cs)) ns h)))

    pub board_freshable : (fresh : Bool) → fresh ≡ true → eqb d.blocks (length ns) ≡ tested fresh
    board_freshable fresh e = rw e (board_fitted r cs fs vs bs full_lengths_lem ds g d a b m ed vd em hm ea eb c ec vc ha hb _ full_fit)
