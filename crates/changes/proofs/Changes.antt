-- What a command that passed changes of what is lent, from what its change says of the part that it writes. Assumes nothing.
use mathlib.Core.Path.{◌≡◌, refl, ap, ap₂}
use mathlib.Core.Bool.{true}
use mathlib.Core.List.{List, [], ◌∷◌, ◌++◌, map}
use Prim.Native.Nat.{ℕ, ◌≤◌, ◌<◌}
use native.Mathlib.Omega.{arith}
use lib.ListN.{length, drop, set, get_or, length-drop}
use Rattle.rfc1321.specs.Md5.{digest}
use Rattle.bsmp.specs.Base.{cut, byte_at, word_at}
use Rattle.bsmp.specs.Codes.{operation_of}
use Rattle.bsmp.specs.Board.{Layout, State, block_sizes, fitting, size_of, members, with_values, with_blocks, with_lengths, with_sums, with_groups, contents_of}
use Rattle.bsmp.specs.Message.{edit, fill, renew, regroup, variable_at, group_id_at, curve_at, line, edited, filled, after}
use Rattle.bsmp.specs.Store.{Lent, held}
use Rattle.bsmp.specs.declared.VariableNumber.{VariableNumber}
use Rattle.bsmp.specs.declared.CurveNumber.{CurveNumber}
use Rattle.bsmp.specs.declared.Curve.{Curve}
use Rattle.bsmp.specs.declared.Function.{Function}
use Rattle.bsmp.specs.declared.Operation.{Operation}
use Rattle.bsmp.specs.declared.Operation.TheVariants.{Replace}
use Rattle.bsmp.specs.declared.Command.{Command}
use Rattle.bsmp.specs.declared.Command.TheVariants.{WriteVariable, WriteGroup, MaskVariable, MaskGroup, WriteRead, MakeGroup, RemoveGroups, WriteBlock, RenewSum}
use Rattle.bsmp.proofs.Stays.{lengths_set, block_size}
use Rattle.sets.specs.Promises.{Below, Named}
use Rattle.parts.specs.Parts.{layout_of, variables_only, Passed}
use Rattle.records.specs.Lending.{lent_values, lent_blocks, lent_sums}
use Rattle.variables.specs.Fits.{OneFits}
use Rattle.variables.proofs.Passes as variables
use Rattle.groups.specs.Promises.{GroupFits}
use Rattle.groups.proofs.Pass as groups
use Rattle.curves.specs.Fits.{SoundLengths, BlockFits, CurveNamed, named_curve, blocks_in, place_of, named_block}
use Rattle.curves.proofs.Passes as curves
use Rattle.sums.specs.Sums.{sums_in, content_in}
use Rattle.judging.specs.Judging.{SoundBoard}
use Rattle.changes.specs.Changes.{regrouped, removal, LeftAs, ChangedBy}
use Rattle.changes.specs.declared.Regroup.{Regroup}
use Rattle.changes.specs.declared.Regroup.TheVariants.{Keep, Make, Remove}

-- the removal of all made groups, where there are none and where there are some
pub none_removed : (gs : List ℕ) → length gs ≡ 0 → Keep ≡ removal gs
none_removed [] h = refl
none_removed (g ∷ gs) h = absurd (omega (arith, h))

pub all_removed : (gs : List ℕ) → (length gs ≡ 0 → ⊥) → Remove ≡ removal gs
all_removed [] h = absurd (h refl)
all_removed (g ∷ gs) h = refl

as_command : (l : Layout) (gs p : List ℕ) (k c : Command) → k ≡ c → Passed l gs p k → Passed l gs p c
as_command l gs p k c e h = rw e at h

module _ (ns : List ℕ) (w : ℕ) (cs : List Curve) (fs : List Function) (gs p : List ℕ) (k : Command) where
  abbrev Passes : Type 0
  Passes = Passed (layout_of ns w cs fs) gs p k

  -- what a pass says, as the changes ask it
  pub write_needs : k ≡ WriteVariable → Passes → OneFits ns p 1
  write_needs e h = variables.write_fits ns w cs fs gs p (as_command _ _ _ _ WriteVariable e h)

  pub mask_needs : k ≡ MaskVariable → Passes → OneFits ns p 2
  mask_needs e h = variables.mask_fits ns w cs fs gs p (as_command _ _ _ _ MaskVariable e h)

  pub mask_operation : k ≡ MaskVariable → Passes → 1 < length p
  mask_operation e h = variables.mask_second ns w cs fs gs p (as_command _ _ _ _ MaskVariable e h)

  pub write_read_needs : k ≡ WriteRead → Passes → OneFits ns p 2
  write_read_needs e h = variables.write_read_fits ns w cs fs gs p (as_command _ _ _ _ WriteRead e h)

  pub group_write_needs : k ≡ WriteGroup → Passes → GroupFits (variables_only ns w) gs p 1
  group_write_needs e h = groups.write_fits ns w cs fs gs p (as_command _ _ _ _ WriteGroup e h)

  pub group_mask_needs : k ≡ MaskGroup → Passes → GroupFits (variables_only ns w) gs p 2
  group_mask_needs e h = groups.mask_fits ns w cs fs gs p (as_command _ _ _ _ MaskGroup e h)

  pub group_mask_operation : k ≡ MaskGroup → Passes → 1 < length p
  group_mask_operation e h = groups.mask_some ns w cs fs gs p (as_command _ _ _ _ MaskGroup e h)

  pub block_needs : k ≡ WriteBlock → Passes → BlockFits cs p
  block_needs e h = curves.write_fits ns w cs fs gs p (as_command _ _ _ _ WriteBlock e h)

  named_curve_lem : k ≡ RenewSum → Passes → CurveNamed cs p
  named_curve_lem e h = curves.sum_renewed ns w cs fs gs p (as_command _ _ _ _ RenewSum e h)

  pub renew_some : k ≡ RenewSum → Passes → 0 < length p
  renew_some e h = (named_curve_lem e h).some

  pub renew_known : (c : CurveNumber) → c ≡ curve_at p 0 → k ≡ RenewSum → Passes → c.0 < length cs
  renew_known c f e h = rw f (named_curve_lem e h).known

  pub make_needs : (x : Lent) → SoundBoard (layout_of ns w cs fs) x → k ≡ MakeGroup → Passes → Below 64 p
  make_needs x s e h = groups.make_below ns w cs fs gs p (as_command _ _ _ _ MakeGroup e h) s.variables.few

-- a length set to as many bytes as a block write carries
write_fit : (cs : List Curve) (p ls : List ℕ) → SoundLengths cs ls → BlockFits cs p → fitting (block_sizes cs) (set ls (place_of cs p) (length (drop 3 p))) ≡ true
write_fit cs p ls z h =
    let n : get_or (block_sizes cs) (place_of cs p) 0 ≡ (named_curve cs p).size = block_size cs (byte_at p 0) (word_at p 1) h.named.known h.named.below in
    let a : 1 ≤ length (drop 3 p) = simp length-drop (omega (arith, h.some)) in
    let b : length (drop 3 p) ≤ get_or (block_sizes cs) (place_of cs p) 0 = simp length-drop (omega (arith, h.fits, n)) in
    lengths_set (block_sizes cs) ls (place_of cs p) (length (drop 3 p)) z.fit a b

-- what is then left of what is lent
stays : (l : Layout) (s : State) (y : Lent) → held l y ≡ s → LeftAs l s Keep y
stays l s y h = record { holds = h; some_removed = λ e. let z : ◌≡◌ {A = ℕ} 0 1 = cc in absurd (omega arith) }

pub all_kept : (l : Layout) (x : Lent) → LeftAs l (held l x) Keep x
all_kept l x = stays l (held l x) x refl

module _ (l : Layout) (x : Lent) (z : SoundBoard l x) where
  -- a change of the values alone, one of a block and its length, one of the sums, and one of the made groups
  values_edited : (op : Operation) (is : List VariableNumber) (ps : List (List ℕ)) (vs : List ℕ)
      → cut l.sizes vs ≡ edited op is ps (cut l.sizes x.values) → ChangedBy l x (edit op is ps) Keep (lent_values x vs)
  unfolding after
  values_edited op is ps vs h = record { leaves = stays l _ (lent_values x vs) (ap (with_values (held l x)) h); fit = z.lengths.fit }

  block_filled : (k : ℕ) (d bs ls : List ℕ)
      → blocks_in l.curves bs ≡ set (blocks_in l.curves x.blocks) k (filled d (get_or (blocks_in l.curves x.blocks) k []))
      → ls ≡ set x.lengths k (length d) → fitting (block_sizes l.curves) ls ≡ true → ChangedBy l x (fill k d) Keep (lent_blocks x bs ls)
  unfolding after
  block_filled k d bs ls h n f =
      record { leaves = stays l _ (lent_blocks x bs ls) (ap₂ (λ ps ns. with_lengths (with_blocks (held l x) ps) ns) h n); fit = f }

  sum_renewed : (c : CurveNumber) (k n : ℕ) (ds : List ℕ)
      → sums_in l.curves ds ≡ set (sums_in l.curves x.sums) c.0 (digest (contents_of (held l x) k n)) → ChangedBy l x (renew c k n) Keep (lent_sums x ds)
  unfolding after
  sum_renewed c k n ds h = record { leaves = stays l _ (lent_sums x ds) (ap (with_sums (held l x)) h); fit = z.lengths.fit }

  groups_made : (r : Regroup) (gs : List ℕ) → regrouped r x.groups ≡ gs → (r ≡ Remove → 0 < length x.groups) → ChangedBy l x (regroup gs) r x
  unfolding after
  groups_made r gs h k = record { leaves = record { holds = ap (with_groups (held l x)) h; some_removed = k }; fit = z.lengths.fit }

  module _ (p : List ℕ) (k : Command) where
    abbrev Changed : Regroup → Lent → Type 0
    Changed = ChangedBy l x (line l x.groups p k).change

    -- commands that write to the values
    module _ (vs : List ℕ) where
      abbrev With : Lent
      With = lent_values x vs

      abbrev Values : List (List ℕ)
      Values = cut l.sizes x.values

      -- one variable, named first; r as it comes with the values
      abbrev Edited : Regroup → Operation → ℕ → Type 0
      Edited r op n = (r ≡ Keep) × (cut l.sizes vs ≡ edited op (variable_at p 0 ∷ []) (drop n p ∷ []) Values)

      pub written : (r : Regroup) → k ≡ WriteVariable → Edited r Replace 1 → Changed r With
      unfolding line
      written r e h = rw (e, h.0) (values_edited _ _ _ vs h.1)

      pub masked : (r : Regroup) (op : Operation) → k ≡ MaskVariable → op ≡ operation_of (byte_at p 1) → Edited r op 2 → Changed r With
      unfolding line
      masked r op e o h = rw (e, ← o, h.0) (values_edited op _ _ vs h.1)

      pub written_read : (r : Regroup) → k ≡ WriteRead → Edited r Replace 2 → Changed r With
      unfolding line
      written_read r e h = rw (e, h.0) (values_edited _ _ _ vs h.1)

      abbrev Members : List VariableNumber
      Members = members (variables_only l.sizes l.writable) x.groups (group_id_at p 0)

      abbrev group_edited : Operation → ℕ → List (List ℕ)
      group_edited op n = edited op Members (cut (map (size_of (variables_only l.sizes l.writable)) Members) (drop n p)) Values

      pub group_written : k ≡ WriteGroup → cut l.sizes vs ≡ group_edited Replace 1 → Changed Keep With
      unfolding line members
      group_written e h = rw e (values_edited _ _ _ vs h)

      pub group_masked : (op : Operation) → k ≡ MaskGroup → op ≡ operation_of (byte_at p 1) → cut l.sizes vs ≡ group_edited op 2 → Changed Keep With
      unfolding line members
      group_masked op e o h = rw (e, ← o) (values_edited op _ _ vs h)

    pub block_written : (bs ls : List ℕ) → k ≡ WriteBlock → Passed l x.groups p k
        → (blocks_in l.curves bs ≡ set (blocks_in l.curves x.blocks) (place_of l.curves p) (filled (drop 3 p) (named_block l.curves x.blocks p)))
        × (ls ≡ set x.lengths (place_of l.curves p) (length (drop 3 p)))
        → Changed Keep (lent_blocks x bs ls)
    unfolding line
    block_written bs ls e w h =
        let f : BlockFits l.curves p = block_needs l.sizes l.writable l.curves l.functions x.groups p k e w in
        rw e (block_filled _ _ bs ls h.0 h.1 (rw h.1 (write_fit l.curves p x.lengths z.lengths f)))

    pub sum_worked : (c : CurveNumber) (ds : List ℕ) → k ≡ RenewSum → c ≡ curve_at p 0
        → sums_in l.curves ds ≡ set (sums_in l.curves x.sums) c.0 (digest (content_in l.curves x.blocks x.lengths c)) → Changed Keep (lent_sums x ds)
    unfolding line
    sum_worked c ds e f h = rw e (sum_renewed _ _ _ ds (rw f at h))

    -- the made groups: one more, or none
    pub group_made : (m : ℕ) → k ≡ MakeGroup → Passed l x.groups p k → Named p m → Changed (Make m) x
    unfolding line
    group_made m e h q =
        let n = groups.make_set _ _ _ _ x.groups p m (as_command l x.groups p k MakeGroup e h) q in
        rw e (groups_made (Make m) _ (ap (λ s. x.groups ++ s ∷ []) n) (λ f. let z : ◌≡◌ {A = ℕ} 0 1 = cc in absurd (omega arith)))

    pub groups_removed : (r : Regroup) → k ≡ RemoveGroups → r ≡ removal x.groups → Changed r x
    unfolding line
    groups_removed r e h = rw (e, h) (by x.groups refl)
      where
        by : (gs : List ℕ) → x.groups ≡ gs → ChangedBy l x (regroup []) (removal gs) x
        by [] q = groups_made Keep [] q (λ f. let z : ◌≡◌ {A = ℕ} 0 1 = cc in absurd (omega arith))
        by (g ∷ gs) q = groups_made Remove [] refl (λ f. rw q (omega arith))
