-- A packet's work on any board, and the group table that it leaves. Assumes nothing.
use mathlib.Core.Path.{◌≡◌, refl, sym, ap, ◌∙◌, subst}
use mathlib.Core.Bool.{Bool, true, false, not}
use mathlib.Core.List.{List, [], ◌∷◌, ◌++◌}
use Prim.Native.Nat.{ℕ, ◌+◌, ◌-◌, ◌≤◌, ◌<◌}
use borrow.Rule.Slice.PartMut.{mid_of}
use native.Mathlib.Omega.{arith}
use lib.ListN.{length, length-append}
use borrow.Author.Tests.{not-true, not-false}
use Rattle.bsmp.specs.Base.{join, first}
use Rattle.bsmp.specs.Board.{Table, Layout, layout, State, block_sizes, sum_sizes, usable}
use Rattle.bsmp.specs.Packet.{Place, Result, refuse, place_tests, packet_tests, is_own, destination, message, served, packet}
use Rattle.bsmp.specs.Store.{Lent, held}
use Rattle.bsmp.specs.Apart.{arrives}
use Rattle.bsmp.specs.declared.Refusal.{Refusal}
use Rattle.bsmp.specs.declared.Refusal.TheVariants.{BoardUnusable}
use Rattle.bsmp.specs.declared.Outcome.{Outcome}
use Rattle.bsmp.specs.declared.Outcome.TheVariants as O
use Rattle.bsmp.proofs.Usable.{usable_parts, faults_none, faults_some}
use Rattle.bsmp.proofs.Stays.{stays}
use Rattle.bsmp.proofs.Store.{join_cut}
use Rattle.records.specs.Lending.{groups_of, table_of, lent}
use Rattle.records.specs.declared.Records.{Records}
use Rattle.records.specs.declared.Groups.{Groups}
use Rattle.records.proofs.Lending.{group_count_lem}
use Rattle.records.proofs.Sound.{groups_most}
use Rattle.wire.specs.Opening.{placed, opened_of}
use Rattle.std.specs.Prelude as R
use Rattle.wire.proofs.Opening.{refused_first, message_first, message_due, message_lent}
use Rattle.changes.specs.Changes.{regrouped}
use Rattle.changes.specs.declared.Regroup.{Regroup}
use Rattle.changes.specs.declared.Regroup.TheVariants.{Keep, Make}
use Rattle.node.specs.Promise.{table_with, packet_left, packet_left_of, Fits, EndsAs, CarriedAs}
use Rattle.node.proofs.Tables.{regroup_keep}
use Rattle.node.proofs.Receiving.{stopped}

-- any board ----------------------------------------------------------------------------------------------------------------------
module _ (r : Records) (cs fs : List ℕ) (g : Groups) (vs bs ls ds : List ℕ) (own mc busy : ℕ) (p b : List ℕ) where
  abbrev T : Table
  T = table_of r cs fs

  abbrev X : Lent
  X = lent vs bs ls ds (groups_of g)

  abbrev A : Place
  A = placed own mc

  pub carried_unusable : (u : Bool) → u ≡ usable T (held (layout T) X) → not u ≡ true → CarriedAs T A busy p X b (O.Refused BoardUnusable) Keep b X
  unfolding packet
  carried_unusable u checked v = record {
    ends = stopped (layout T) X b _ BoardUnusable _ _ (faults_some T (held (layout T) X) _ _ _ (sym checked ∙ not-true u v) refl) refl refl;
  }

  -- the packet's tests, on a usable board
  module _ (u : Bool) (checked : u ≡ usable T (held (layout T) X)) (v : not u ≡ false) (d : R.Result Bool Refusal) (e : d ≡ opened_of A (length b) p) where
    abbrev Work : Result
    Work = served (layout T) busy (is_own A (destination p)) (message p) (held (layout T) X)

    reached : (z : Result) → z ≡ first (place_tests A (length b)) (refuse (held (layout T) X)) (first (packet_tests A p) (refuse (held (layout T) X)) Work)
        → z ≡ packet T A busy (length b) p (held (layout T) X)
    unfolding packet
    reached z h = faults_none T (held (layout T) X) (refuse (held (layout T) X)) _ z (sym checked ∙ not-false u v) h

    pub carried_unopened : (n : Refusal) → d ≡ R.Err n → CarriedAs T A busy p X b (O.Refused n) Keep b X
    carried_unopened n h = record {
      ends =
          stopped (layout T) X b _ n _ _
          (reached _ (refused_first A (length b) p d e (refuse (held (layout T) X)) _ (refuse (held (layout T) X) n) n h refl)) refl refl;
    }

    pub carried_served : (due : Bool) (o : Outcome) (q : Regroup) (b' : List ℕ) (y : Lent) → d ≡ R.Ok due
        → EndsAs (served (layout T) busy due (message p) (held (layout T) X)) (layout T) b o q b' y → CarriedAs T A busy p X b o q b' y
    carried_served due o q b' y h k = record {
      ends =
          subst (λ z. EndsAs z (layout T) b o q b' y)
          (reached _
          (message_first A (length b) p d e (refuse (held (layout T) X)) Work _ due h
          (ap (λ t. served (layout T) busy t (message p) (held (layout T) X)) (message_due A (length b) p d e due h)))) k;
    }

-- what was lent by its fronts is what the definition has
module _ (t : Table) (g : Groups) (busy : ℕ) (p b : List ℕ) (o : Outcome) (q : Regroup) (due : Bool) (vs bs ls ds b' vs' bs' ls' ds' : List ℕ) (l : Layout) (gs : List ℕ) where
  pub lent_ends : l ≡ layout t → gs ≡ groups_of g
      → EndsAs (served l busy due (mid_of 1 (length p - 1 - 1) p) (held l (lent vs bs ls ds gs))) l b o q b' (lent vs' bs' ls' ds' gs)
      → EndsAs (served (layout t) busy due (message p) (held (layout t) (lent vs bs ls ds (groups_of g)))) (layout t) b o q b' (lent vs' bs' ls' ds' (groups_of g))
  lent_ends e f h =
      subst (λ m. EndsAs (served (layout t) busy due m (held (layout t) (lent vs bs ls ds (groups_of g)))) (layout t) b o q b' (lent vs' bs' ls' ds' (groups_of g))) (message_lent p)
      (subst (λ hs. EndsAs (served (layout t) busy due (mid_of 1 (length p - 1 - 1) p) (held (layout t) (lent vs bs ls ds hs))) (layout t) b o q b' (lent vs' bs' ls' ds' hs)) f
      (subst (λ k. EndsAs (served k busy due (mid_of 1 (length p - 1 - 1) p) (held k (lent vs bs ls ds gs))) k b o q b' (lent vs' bs' ls' ds' gs)) e h))

-- .. and the group table that it leaves -----------------------------------------------------------------------------------------
module _ (t : Table) (a : Place) (busy : ℕ) (p vs bs ls ds : List ℕ) (g : Groups) (b : List ℕ) (o : Outcome) (r : Regroup) (b' vs' bs' ls' ds' : List ℕ)
    (h : CarriedAs t a busy p (lent vs bs ls ds (groups_of g)) b o r b' (lent vs' bs' ls' ds' (groups_of g))) where
  abbrev S : State
  S = held (layout t) (lent vs bs ls ds (groups_of g))

  abbrev Z : Result
  Z = packet t a busy (length b) p S

  groups_are : regrouped r (groups_of g) ≡ Z.state.groups
  groups_are = ap (λ s. s.groups) h.ends.leaves.holds

  -- a group is made on a usable board only, which stays usable
  few : (u : Bool) → usable t S ≡ u → (n : ℕ) → r ≡ Make n → g.count < 5
  unfolding packet
  few true u n e =
      let m : groups_of g ++ n ∷ [] ≡ Z.state.groups = ap (λ y. regrouped y (groups_of g)) (sym e) ∙ groups_are in
      let w = usable_parts t Z.state (stays t a (arrives busy (length b) p) S u) in
      let l : length (groups_of g ++ n ∷ []) ≤ 5 = rw m (groups_most _ Z.state.groups w.groups) in
      let c : length (groups_of g ++ n ∷ []) ≡ length (groups_of g) + 1 = simp length-append in
      omega (arith, group_count_lem g)
  few false u n e =
      let z : refuse S BoardUnusable ≡ Z = faults_some t S (refuse S) _ _ u refl in
      let m : groups_of g ++ n ∷ [] ≡ groups_of g = ap (λ y. regrouped y (groups_of g)) (sym e) ∙ groups_are ∙ sym (ap (λ y. y.state.groups) z) in
      let c : length (groups_of g ++ n ∷ []) ≡ length (groups_of g) + 1 = simp length-append in
      absurd (omega (arith, c, ap length m))

  pub packet_fits : length g.sets ≡ 5 → Fits r g
  packet_fits five = record { room = few (usable t S) refl; places = five }

  -- what was lent is left as the stores are
  pub packet_left_lem : (g' : Groups) (vs₂ bs₂ ls₂ ds₂ : List ℕ) → vs₂ ≡ vs' → bs₂ ≡ bs' → ls₂ ≡ ls' → ds₂ ≡ ds'
      → g' ≡ table_with (regrouped r (groups_of g)) g → packet_left o g' b' vs₂ bs₂ ls₂ ds₂ ≡ packet_left_of Z b g
  packet_left_lem g' vs₂ bs₂ ls₂ ds₂ v w n d e =
      let z : held (layout t) (lent vs' bs' ls' ds' (regrouped r (groups_of g))) ≡ Z.state = h.ends.leaves.holds in
      λ i. record {
        outcome = h.ends.outcome i;
        groups = (e ∙ ap (λ s. table_with s.groups g) z) i;
        reply = h.ends.reply i;
        values = (v ∙ sym (join_cut (layout t).sizes vs') ∙ ap (λ s. join s.values) z) i;
        blocks = (w ∙ sym (join_cut (block_sizes (layout t).curves) bs') ∙ ap (λ s. join s.blocks) z) i;
        lengths = (n ∙ ap (λ s. s.lengths) z) i;
        sums = (d ∙ sym (join_cut (sum_sizes (layout t).curves) ds') ∙ ap (λ s. join s.sums) z) i;
      }

  -- and where nothing is made of the made groups, so is the table
  pub packet_kept : (vs₂ bs₂ ls₂ ds₂ : List ℕ) → vs₂ ≡ vs' → bs₂ ≡ bs' → ls₂ ≡ ls' → ds₂ ≡ ds' → r ≡ Keep → length g.sets ≡ 5
      → packet_left o g b' vs₂ bs₂ ls₂ ds₂ ≡ packet_left_of Z b g
  packet_kept vs₂ bs₂ ls₂ ds₂ v w n d k five = packet_left_lem g vs₂ bs₂ ls₂ ds₂ v w n d (regroup_keep r g (packet_fits five) k)
