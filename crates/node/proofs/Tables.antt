-- The group table after a call, and what a usable board's lent parts are. Assumes nothing.
use mathlib.Core.Path.{◌≡◌, refl, sym, ap, ap₂, ◌∙◌}
use mathlib.Core.Bool.{true}
use mathlib.Core.List.{List, [], ◌∷◌, ◌++◌, map, append_assoc}
use Prim.Native.Nat.{ℕ, ◌+◌, ◌-◌, ◌≤◌, ◌<◌}
use native.Mathlib.Omega.{arith}
use native.Mathlib.Decide.{dec_lt}
use lib.ListN.{length, take, drop, get_or, set, length-append, length-take, length-drop, length-set, get_or-append}
use lib.Seq.{take_all, get_or-take, get_or-drop, get_or-append-add, ext_get_or}
use Rattle.bsmp.specs.Base.{sum, every}
use Rattle.bsmp.specs.Board.{Table, layout, is_type, sizes_of, usable_variable, usable}
use Rattle.bsmp.specs.Store.{held}
use Rattle.bsmp.specs.declared.Variable.{Variable}
use Rattle.bsmp.proofs.Bools.{and_true}
use Rattle.bsmp.proofs.Usable.{sizes_usable}
use Rattle.copies.specs.Put.{put}
use Rattle.copies.proofs.Put.{set_put}
use Rattle.records.specs.Lending.{records_of, groups_of, with_group, without_groups, table_of, lent}
use Rattle.records.specs.declared.Records.{Records}
use Rattle.records.specs.declared.Groups.{Groups}
use Rattle.records.proofs.Lending.{record_count, sizes_lent, types_lent, group_count_lem, group_at, groups_lent, layout_lent}
use Rattle.records.proofs.Sound as R
use Rattle.judging.specs.Judging.{SoundBoard}
use Rattle.serve.specs.Serve.{typed_layout, SoundTypes}
use Rattle.changes.specs.Changes.{regrouped}
use Rattle.changes.specs.declared.Regroup.{Regroup}
use Rattle.changes.specs.declared.Regroup.TheVariants.{Keep, Make, Remove}
use Rattle.node.specs.Promise.{table_with, Fits}

-- the table of the groups that it holds is the table, whatever its count
module _ (g : Groups) (five : length g.sets ≡ 5) where
  places : List ℕ
  places = groups_of g ++ drop (length (groups_of g)) g.sets

  places_length : 5 ≤ length places
  unfolding places
  places_length = simp (length-append, length-drop) (omega arith)

  place_at : (i : ℕ) → i < 5 → get_or places i 0 ≡ get_or g.sets i 0
  unfolding places
  place_at i h = by (dec_lt i (length (groups_of g)))
    where
      n : ℕ
      n = length (groups_of g)

      by : Dec (i < n) → get_or (groups_of g ++ drop n g.sets) i 0 ≡ get_or g.sets i 0
      by (yes k) = get_or-append (groups_of g) (drop n g.sets) 0 i k ∙ sym (group_at g i (omega (arith, group_count_lem g)))
      by (no k) =
          let e : i ≡ n + (i - n) = omega arith in
          ap (λ j. get_or (groups_of g ++ drop n g.sets) j 0) e ∙ get_or-append-add (groups_of g) (drop n g.sets) (i - n) 0
          ∙ get_or-drop n g.sets (i - n) 0 ∙ ap (λ j. get_or g.sets j 0) (sym e)

  pub table_same : g ≡ table_with (groups_of g) g
  unfolding places
  table_same =
      let l : length (take 5 places) ≡ 5 = simp length-take (omega (arith, places_length)) in
      let s : take 5 places ≡ g.sets =
      ext_get_or 0 (take 5 places) g.sets (l ∙ sym five) (λ i h. get_or-take 5 places i 0 (omega arith) ∙ place_at i (omega arith)) in
      λ i. record { count = group_count_lem g i; sets = sym s i }

-- .. with one group more, and with none
module _ (g : Groups) (five : length g.sets ≡ 5) where
  with_one : (m : ℕ) → g.count < 5 → with_group g m ≡ table_with (groups_of g ++ m ∷ []) g
  unfolding put
  with_one m h =
      let k : length (groups_of g ++ m ∷ []) ≡ g.count + 1 = simp length-append (omega (arith, group_count_lem g)) in
      let t : groups_of g ≡ take g.count g.sets = groups_lent g (omega arith) in
      let p : (groups_of g ++ m ∷ []) ++ drop (length (groups_of g ++ m ∷ [])) g.sets ≡ set g.sets g.count m =
      append_assoc (groups_of g) (m ∷ []) _ ∙ ap₂ (λ a b. a ++ m ∷ drop b g.sets) t k ∙ sym (set_put g.sets g.count m (omega arith)) in
      let l : length (set g.sets g.count m) ≤ 5 = rw (length-set g.sets g.count m) (omega arith) in
      λ i. record { count = sym k i; sets = (sym (take_all 5 (set g.sets g.count m) l) ∙ ap (take 5) (sym p)) i }

  with_none : without_groups g ≡ table_with [] g
  with_none = λ i. record { count = 0; sets = sym (take_all 5 g.sets (omega arith)) i }

-- so the table after a message, by what becomes of the made groups
module _ (r : Regroup) (g : Groups) (h : Fits r g) where
  abbrev after : Groups
  after = table_with (regrouped r (groups_of g)) g

  pub regroup_keep : r ≡ Keep → g ≡ after
  regroup_keep e = rw e (table_same g h.places)

  pub regroup_room : (m : ℕ) → r ≡ Make m → g.count < 5
  regroup_room = h.room

  pub regroup_make : (m : ℕ) (g' : Groups) → r ≡ Make m → g' ≡ with_group g m → g' ≡ after
  regroup_make m g' k q = q ∙ rw k (with_one g h.places m (h.room m k))

  pub regroup_remove : (g' : Groups) → r ≡ Remove → g' ≡ without_groups g → g' ≡ after
  regroup_remove g' k q = q ∙ rw k (with_none g h.places)

-- a usable board ---------------------------------------------------------------------------------------------------------------
types_pass : (vs : List Variable) → every usable_variable vs ≡ true → every is_type (map (λ v. v.writable) vs) ≡ true
types_pass [] h = refl
types_pass (v ∷ vs) h =
    let w = and_true (usable_variable v) (every usable_variable vs) h in
    let t : is_type v.writable ≡ true = (and_true _ _ (and_true _ _ w.0).0).0 in
    rw (t, types_pass vs w.1)

module _ (r : Records) (cs fs : List ℕ) (g : Groups) (vs bs ls ds : List ℕ) where
  abbrev T : Table
  T = table_of r cs fs

  module _ (usable_is : usable T (held (layout T) (lent vs bs ls ds (groups_of g))) ≡ true) where
    sound : R.Sound T (lent vs bs ls ds (groups_of g))
    sound = R.usable_sound T (lent vs bs ls ds (groups_of g)) usable_is

    pub few_records : r.count ≤ 64
    few_records = omega (arith, record_count r, R.variables_most (records_of r) sound.variables)

    pub few_groups : g.count ≤ 5
    few_groups = omega (arith, group_count_lem g, R.groups_most (length (records_of r)) (groups_of g) sound.groups)

    -- what is lent by its fronts is as the definition has it
    module _ (types : length r.writable ≡ 64) (sizes : length r.sizes ≡ 64) (places : length g.sets ≡ 5) where
      within_sizes : r.count ≤ length r.sizes
      within_sizes = omega (arith, few_records, sizes)

      within_types : r.count ≤ length r.writable
      within_types = omega (arith, few_records, types)

      sizes_are : sizes_of (records_of r) ≡ take r.count r.sizes
      sizes_are = sizes_lent r within_sizes

      types_are : map (λ v. v.writable) (records_of r) ≡ take r.count r.writable
      types_are = types_lent r within_types

      pub layout_is : typed_layout (take r.count r.sizes) (take r.count r.writable) cs fs ≡ layout (table_of r cs fs)
      layout_is = layout_lent r cs fs within_sizes within_types

      pub groups_are : take g.count g.sets ≡ groups_of g
      groups_are = sym (groups_lent g (omega (arith, few_groups, places)))

      -- all that serving a message leans on
      pub sound_board : SoundBoard (typed_layout (take r.count r.sizes) (take r.count r.writable) cs fs) (lent vs bs ls ds (take g.count g.sets))
      sound_board = rw groups_are (record {
        variables = record {
          few = rw (← sizes_are, sizes_count) few_records;
          exact = ap sum (sym sizes_are) ∙ sym sound.values;
          small = rw sound.values (R.variables_small (records_of r) sound.variables);
        };
        sizes = rw (← sizes_are) (sizes_usable (records_of r) sound.variables);
        curves = record { usable = sound.curves; exact = sound.blocks };
        lengths = record { fit = sound.lengths };
        sums = record { exact = sound.sums };
        functions = sound.functions;
        groups = R.groups_most (length (records_of r)) (groups_of g) sound.groups;
      })
        where
          sizes_count : length (sizes_of (records_of r)) ≡ r.count
          sizes_count = ap length sizes_are ∙ simp length-take (omega (arith, within_sizes))

      pub types_sound : SoundTypes (take r.count r.writable)
      types_sound = record {
        few = rw (length-take) (omega (arith, few_records));
        each = rw (← types_are) (types_pass (records_of r) (R.variables_each (records_of r) sound.variables));
      }
