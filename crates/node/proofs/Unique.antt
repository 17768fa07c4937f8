-- The promise of a packet's work allows one result only, and a refusal changes nothing. Assumes nothing.
use mathlib.Core.Path.{◌≡◌, sym, ap, ◌∙◌}
use mathlib.Core.List.{List}
use Prim.Native.Nat.{ℕ}
use lib.ListN.{length}
use Rattle.bsmp.specs.Board.{Table, layout, State, block_sizes, sum_sizes}
use Rattle.bsmp.specs.Packet.{Place, Ending, Result, packet}
use Rattle.bsmp.specs.Store.{held}
use Rattle.bsmp.specs.Apart.{arrives}
use Rattle.bsmp.specs.declared.Refusal.{Refusal}
use Rattle.bsmp.specs.declared.Outcome.{Outcome}
use Rattle.bsmp.specs.declared.Outcome.TheVariants as O
use Rattle.bsmp.proofs.Keeps.{refusal_keeps, outcome_refused}
use Rattle.bsmp.proofs.Store.{join_cut}
use Rattle.records.specs.Lending.{groups_of, lent}
use Rattle.records.specs.declared.Groups.{Groups}
use Rattle.node.specs.Promise.{PacketLeft, packet_left, packet_left_of}
use Rattle.node.proofs.Tables.{table_same}

-- any two results that it allows are equal, with all that they leave
pub unique : (x : PacketLeft) (o o' : Outcome) (g g' : Groups) (r r' vs vs' bs bs' ls ls' ds ds' : List ℕ) → packet_left o g r vs bs ls ds ≡ x → packet_left o' g' r' vs' bs' ls' ds' ≡ x
    → (o ≡ o') × (g ≡ g') × (r ≡ r') × (vs ≡ vs') × (bs ≡ bs') × (ls ≡ ls') × (ds ≡ ds')
unique x o o' g g' r r' vs vs' bs bs' ls ls' ds ds' h k =
    let q : packet_left o g r vs bs ls ds ≡ packet_left o' g' r' vs' bs' ls' ds' = h ∙ sym k in
    (ap (λ y. y.outcome) q, ap (λ y. y.groups) q, ap (λ y. y.reply) q, ap (λ y. y.values) q, ap (λ y. y.blocks) q, ap (λ y. y.lengths) q, ap (λ y. y.sums) q)

-- a refused packet leaves the reply buffer, both stores, the lengths, the sums and the group table as they were
pub refused_keeps : (t : Table) (a : Place) (busy : ℕ) (p : List ℕ) (g : Groups) (n : Refusal) (o : Outcome) (g' : Groups) (r r' vs vs' bs bs' ls ls' ds ds' : List ℕ) → length g.sets ≡ 5
    → o ≡ O.Refused n → packet_left o g' r' vs' bs' ls' ds' ≡ packet_left_of (packet t a busy (length r) p (held (layout t) (lent vs bs ls ds (groups_of g)))) r g
    → (r' ≡ r) × (vs' ≡ vs) × (bs' ≡ bs) × (ls' ≡ ls) × (ds' ≡ ds) × (g' ≡ g)
refused_keeps t a busy p g n out g' r r' vs vs' bs bs' ls ls' ds ds' five e h =
    let s : State = held (layout t) (lent vs bs ls ds (groups_of g)) in
    let x : Result = packet t a busy (length r) p s in
    let o : x.ending ≡ Ending.refused n = outcome_refused x.ending n (sym (ap (λ y. y.outcome) h) ∙ e) in
    let k : x.state ≡ s = refusal_keeps t a (arrives busy (length r) p) s n o in
    let q : packet_left_of x r g ≡ packet_left_of (record { ending = Ending.refused n; state = s }) r g = λ i. packet_left_of (record { ending = o i; state = k i }) r g in
    let z = h ∙ q in (
      ap (λ y. y.reply) z,
      ap (λ y. y.values) z ∙ join_cut (layout t).sizes vs,
      ap (λ y. y.blocks) z ∙ join_cut (block_sizes (layout t).curves) bs,
      ap (λ y. y.lengths) z,
      ap (λ y. y.sums) z ∙ join_cut (sum_sizes (layout t).curves) ds,
      ap (λ y. y.groups) z ∙ sym (table_same g five),
    )
