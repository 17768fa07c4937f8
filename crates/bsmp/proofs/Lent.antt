-- Demand 3 over the lent flat stores and the reply buffer's bytes, as an entry sees them; and the same of stale bytes. Assumes nothing.
use mathlib.Core.Path.{◌≡◌, refl, sym, ap, ap₂, ◌∙◌, subst, subst₂}
use mathlib.Core.Logic.{◌↔◌}
use mathlib.Core.Bool.{true}
use mathlib.Core.List.{List, [], ◌∷◌, map}
use Prim.Native.Nat.{ℕ, ◌≤◌, ◌<◌}
use native.Mathlib.Omega.{arith}
use native.Mathlib.Decide.{dec_lt}
use lib.ListN.{length, take, drop, get_or, length-map, get_or-eq_default}
use lib.Seq.{take_at}
use Rattle.bsmp.specs.Base.{sum, cut}
use Rattle.bsmp.specs.Board.{Table, Layout, layout, State, value_of, block_sizes, content_of, sum_sizes, usable}
use Rattle.bsmp.specs.Packet.{Place, Ending, reply, silence, run, Result}
use Rattle.bsmp.specs.Store.{Lent, held, lent_of, start, bytes_in, content_in, outcome_of, shown}
use Rattle.bsmp.specs.Apart.{Alike, AlikeButStale, happen, reads, answer_of, endings, later, unread, never_fresh}
use Rattle.bsmp.specs.Apart.{Call, event_of, buffer_of, left_by, Seen, answer_in, seen_of, seen_all, lent_after, LentAlike, LentAlikeButStale}
use Rattle.bsmp.specs.declared.VariableNumber.{VariableNumber}
use Rattle.bsmp.proofs.Store.{join_cut, cut_unique, piece, sum_lengths}
use Rattle.bsmp.proofs.Usable.{usable_parts}
use Rattle.bsmp.proofs.Apart.{step, before}
use Rattle.bsmp.proofs.Stale.{stale_apart}
use Rattle.bsmp.proofs.Stays.{stays, later_usable, held_again}

-- a variable's bytes in the store are its value
value_in : (l : Layout) (x : Lent) (i : VariableNumber) → i.0 < length l.sizes → value_of (held l x) i ≡ bytes_in l x.values i
value_in l x i h = piece l.sizes x.values i.0 h

-- the answer's bytes in the buffer are the answer
answer_in_lem : (e : Ending) (b : List ℕ) → answer_in (outcome_of e) (shown e b) ≡ answer_of e
answer_in_lem (reply r) b = take_at r (drop (length r) b) (length r) refl
answer_in_lem silence b = refl
answer_in_lem (run f i due) b = refl
answer_in_lem (Ending.refused n) b = refl

-- what is seen goes by the ending, whatever stood in the buffer
abbrev seen_ending : Ending → Seen
seen_ending e = record { outcome = outcome_of e; answer = answer_of e }

seen_ending_lem : (t : Table) (a : Place) (c : Call) (x : Lent) → seen_of (left_by t a c x) ≡ seen_ending (happen t a (event_of c) (held (layout t) x)).ending
seen_ending_lem t a c x =
    let e : Ending = (happen t a (event_of c) (held (layout t) x)).ending in
    ap (λ b. record { outcome = outcome_of e; answer = b }) (answer_in_lem e (buffer_of c))

-- boards alike in their stores are alike in the definition, and back ---------------------------------------------------------
-- what holds of stores piece by piece holds of their pieces by number, as past the last there is nothing
past_end : (ns l : List ℕ) → map length (cut ns l) ≡ ns → (i : ℕ) → length ns ≤ i → get_or (cut ns l) i [] ≡ []
past_end ns l h i k =
    get_or-eq_default (cut ns l) [] (let n : length (cut ns l) ≡ length ns = sym (length-map (cut ns l) length) ∙ ap length h in omega arith)

by_piece : (f₁ f₂ : List ℕ → List ℕ) → f₁ [] ≡ f₂ [] → (ns l₁ l₂ : List ℕ) → map length (cut ns l₁) ≡ ns → map length (cut ns l₂) ≡ ns → (i : ℕ)
    → (i < length ns → f₁ (take (get_or ns i 0) (drop (start ns i) l₁)) ≡ f₂ (take (get_or ns i 0) (drop (start ns i) l₂)))
    → f₁ (get_or (cut ns l₁) i []) ≡ f₂ (get_or (cut ns l₂) i [])
by_piece f₁ f₂ e ns l₁ l₂ h₁ h₂ i g = by (dec_lt i (length ns))
  where
    by : Dec (i < length ns) → f₁ (get_or (cut ns l₁) i []) ≡ f₂ (get_or (cut ns l₂) i [])
    by (yes k) = ap f₁ (piece ns l₁ i k) ∙ g k ∙ sym (ap f₂ (piece ns l₂ i k))
    by (no k) = ap f₁ (past_end ns l₁ h₁ i (omega arith)) ∙ e ∙ sym (ap f₂ (past_end ns l₂ h₂ i (omega arith)))

whole : (ns l : List ℕ) → sum (map length (cut ns l)) ≡ length l
whole ns l = sum_lengths (cut ns l) ∙ ap length (join_cut ns l)

-- stores whose pieces have equal lengths are equally long
sizes_alike : (ns l₁ l₂ : List ℕ) → map length (cut ns l₁) ≡ map length (cut ns l₂) → length l₁ ≡ length l₂
sizes_alike ns l₁ l₂ h = sym (whole ns l₁) ∙ ap (λ l. sum l) h ∙ whole ns l₂

module _ (t : Table) where
  abbrev L : Layout
  L = layout t

  -- but for a variable's bytes
  module _ (v : VariableNumber) where
    pub alike_held : (x₁ x₂ : Lent) → usable t (held L x₁) ≡ true → usable t (held L x₂) ≡ true → LentAlike L v x₁ x₂ → Alike v (held L x₁) (held L x₂)
    alike_held x₁ x₂ u₁ u₂ h =
        let k₁ : map length (held L x₁).values ≡ L.sizes = (usable_parts t (held L x₁) u₁).values in
        let k₂ : map length (held L x₂).values ≡ L.sizes = (usable_parts t (held L x₂) u₂).values in
        record {
          others = λ i n. by_piece (λ p. p) (λ p. p) refl L.sizes x₁.values x₂.values k₁ k₂ i.0 (λ k. h.others i k n);
          sizes = k₁ ∙ sym k₂;
          blocks = ap (cut (block_sizes t.curves)) h.blocks;
          lengths = h.lengths;
          sums = ap (cut (sum_sizes t.curves)) h.sums;
          groups = h.groups;
        }

    pub held_alike : (x₁ x₂ : Lent) → Alike v (held L x₁) (held L x₂) → LentAlike L v x₁ x₂
    held_alike x₁ x₂ h = record {
      others = λ i k n. sym (value_in L x₁ i k) ∙ h.others i n ∙ value_in L x₂ i k;
      size = sizes_alike L.sizes x₁.values x₂.values h.sizes;
      blocks = cut_unique (block_sizes t.curves) _ x₁.blocks x₂.blocks h.blocks refl;
      lengths = h.lengths;
      sums = cut_unique (sum_sizes t.curves) _ x₁.sums x₂.sums h.sums refl;
      groups = h.groups;
    }

  -- but for stale bytes
  content_in_lem : (x : Lent) (k : ℕ) → k < length (block_sizes t.curves) → content_of (held L x) k ≡ content_in L x k
  content_in_lem x k h = ap (take (get_or x.lengths k 0)) (piece (block_sizes t.curves) x.blocks k h)

  stale_held : (x₁ x₂ : Lent) → usable t (held L x₁) ≡ true → usable t (held L x₂) ≡ true → LentAlikeButStale L x₁ x₂ → AlikeButStale (held L x₁) (held L x₂)
  stale_held x₁ x₂ u₁ u₂ h =
      let k₁ : map length (held L x₁).blocks ≡ block_sizes t.curves = (usable_parts t (held L x₁) u₁).blocks in
      let k₂ : map length (held L x₂).blocks ≡ block_sizes t.curves = (usable_parts t (held L x₂) u₂).blocks in
      record {
        values = ap (cut L.sizes) h.values;
        contents = λ k. by_piece (take (get_or x₁.lengths k 0)) (take (get_or x₂.lengths k 0)) (ap (λ ns. take (get_or ns k 0) []) h.lengths)
            (block_sizes t.curves) x₁.blocks x₂.blocks k₁ k₂ k (h.contents k);
        sizes = k₁ ∙ sym k₂;
        lengths = h.lengths;
        sums = ap (cut (sum_sizes t.curves)) h.sums;
        groups = h.groups;
      }

  held_stale : (x₁ x₂ : Lent) → AlikeButStale (held L x₁) (held L x₂) → LentAlikeButStale L x₁ x₂
  held_stale x₁ x₂ h = record {
    values = cut_unique L.sizes _ x₁.values x₂.values h.values refl;
    contents = λ k n. sym (content_in_lem x₁ k n) ∙ h.contents k ∙ content_in_lem x₂ k n;
    size = sizes_alike (block_sizes t.curves) x₁.blocks x₂.blocks h.sizes;
    lengths = h.lengths;
    sums = cut_unique (sum_sizes t.curves) _ x₁.sums x₂.sums h.sums refl;
    groups = h.groups;
  }

-- a run from stores to stores is the run from state to state -----------------------------------------------------------------
module _ (t : Table) (a : Place) where
  run_seen : (cs : List Call) (x : Lent) (s : State) → usable t s ≡ true → held (layout t) x ≡ s
      → (seen_all t a cs x ≡ map seen_ending (endings t a (map event_of cs) s)) × (held (layout t) (lent_after t a cs x) ≡ later t a (map event_of cs) s)
  run_seen [] x s u h = (refl, h)
  run_seen (c ∷ cs) x s u h =
      let s' : State = (happen t a (event_of c) s).state in
      let n : held (layout t) (lent_of (left_by t a c x).holds) ≡ s' =
      ap (λ y. held (layout t) (lent_of (happen t a (event_of c) y).state)) h ∙ held_again t s' (stays t a (event_of c) s u) in
      let r = run_seen cs (lent_of (left_by t a c x).holds) s' (stays t a (event_of c) s u) n in
      (ap₂ ◌∷◌ (seen_ending_lem t a c x ∙ ap (λ y. seen_ending (happen t a (event_of c) y).ending) h) r.0, r.1)

-- so what a run of events leaves alike, with all endings alike, is left alike by runs of calls for these events, with all that is seen alike
module _ (t : Table) (a : Place) (R : State → State → Type 0) (x₁ x₂ : Lent)
    (u₁ : usable t (held (layout t) x₁) ≡ true) (u₂ : usable t (held (layout t) x₂) ≡ true)
    (cs₁ cs₂ : List Call) (same : map event_of cs₁ ≡ map event_of cs₂) where
  pub states : (endings t a (map event_of cs₁) (held (layout t) x₁) ≡ endings t a (map event_of cs₁) (held (layout t) x₂))
      × R (later t a (map event_of cs₁) (held (layout t) x₁)) (later t a (map event_of cs₁) (held (layout t) x₂))
      → R (held (layout t) (lent_after t a cs₁ x₁)) (held (layout t) (lent_after t a cs₂ x₂)) × (seen_all t a cs₁ x₁ ≡ seen_all t a cs₂ x₂)
  states b =
      let r₁ = run_seen t a cs₁ x₁ (held (layout t) x₁) u₁ refl in
      let r₂ = run_seen t a cs₂ x₂ (held (layout t) x₂) u₂ refl in
      let e : later t a (map event_of cs₂) (held (layout t) x₂) ≡ later t a (map event_of cs₁) (held (layout t) x₂) =
      ap (λ es. later t a es (held (layout t) x₂)) (sym same) in (
        subst₂ R (sym r₁.1) (sym (r₂.1 ∙ e)) b.1,
        r₁.0 ∙ ap (map seen_ending) (b.0 ∙ ap (λ es. endings t a es (held (layout t) x₂)) same) ∙ sym r₂.0,
      )

-- equal answers exactly if the values after them are equal
abbrev Told : Result → Result → VariableNumber → Type 0
Told r₁ r₂ v = (answer_of r₁.ending ≡ answer_of r₂.ending) ↔ (value_of r₁.state v ≡ value_of r₂.state v)

-- the variable's bytes in the store that a call leaves
value_after : (t : Table) (a : Place) (v : VariableNumber) (c : Call) (y : Lent) → usable t (held (layout t) y) ≡ true → v.0 < length (layout t).sizes
    → bytes_in (layout t) (lent_of (left_by t a c y).holds).values v ≡ value_of (happen t a (event_of c) (held (layout t) y)).state v
value_after t a v c y u k =
    let s : State = (happen t a (event_of c) (held (layout t) y)).state in
    sym (value_in (layout t) (lent_of s) v k) ∙ ap (λ z. value_of z v) (held_again t s (stays t a (event_of c) (held (layout t) y) u))

-- demand 3, for two boards that 01 takes, as they lend what they hold and as the calls' buffers show it
module _ (t : Table) (a : Place) (v : VariableNumber) (x₁ x₂ : Lent)
    (u₁ : usable t (held (layout t) x₁) ≡ true) (u₂ : usable t (held (layout t) x₂) ≡ true) (h : LentAlike (layout t) v x₁ x₂)
    (cs₁ cs₂ : List Call) (same : map event_of cs₁ ≡ map event_of cs₂) (quiet : unread t a v (map event_of cs₁) (held (layout t) x₁) ≡ true) where
  abbrev y₁ : Lent
  y₁ = lent_after t a cs₁ x₁

  abbrev y₂ : Lent
  y₂ = lent_after t a cs₂ x₂

  alike : Alike v (held (layout t) y₁) (held (layout t) y₂) × (seen_all t a cs₁ x₁ ≡ seen_all t a cs₂ x₂)
  alike = states t a (Alike v) x₁ x₂ u₁ u₂ cs₁ cs₂ same (before t a v (map event_of cs₁) _ _ (alike_held t v x₁ x₂ u₁ u₂ h) quiet)

  after_usable₁ : usable t (held (layout t) y₁) ≡ true
  after_usable₁ = rw (run_seen t a cs₁ x₁ (held (layout t) x₁) u₁ refl).1 (later_usable t a (map event_of cs₁) _ u₁)

  after_usable₂ : usable t (held (layout t) y₂) ≡ true
  after_usable₂ = rw (run_seen t a cs₂ x₂ (held (layout t) x₂) u₂ refl).1 (later_usable t a (map event_of cs₂) _ u₂)

  -- until a call reads v, what is seen is equal, and the stores differ at most in v ..
  pub lent_before : (seen_all t a cs₁ x₁ ≡ seen_all t a cs₂ x₂) × LentAlike (layout t) v y₁ y₂
  lent_before = (alike.1, held_alike t v y₁ y₂ alike.0)

  -- .. and at the first call that does, the answers are equal exactly if the variable's bytes are, after it
  pub lent_apart : (c₁ c₂ : Call) → event_of c₁ ≡ event_of c₂ → v.0 < length (layout t).sizes → reads t a v (event_of c₁) (held (layout t) y₁) ≡ true
      → ((seen_of (left_by t a c₁ y₁)).answer ≡ (seen_of (left_by t a c₂ y₂)).answer)
      ↔ (bytes_in (layout t) (lent_of (left_by t a c₁ y₁).holds).values v ≡ bytes_in (layout t) (lent_of (left_by t a c₂ y₂).holds).values v)
  lent_apart c₁ c₂ e k r =
      let w : Told (happen t a (event_of c₁) (held (layout t) y₁)) (happen t a (event_of c₂) (held (layout t) y₂)) v =
      subst (λ ev. Told (happen t a (event_of c₁) (held (layout t) y₁)) (happen t a ev (held (layout t) y₂)) v) e
      ((step t a v (event_of c₁) _ _ alike.0).shows r) in
      let b₁ = value_after t a v c₁ y₁ after_usable₁ k in
      let b₂ = value_after t a v c₂ y₂ after_usable₂ k in
      let a₁ = answer_in_lem (happen t a (event_of c₁) (held (layout t) y₁)).ending (buffer_of c₁) in
      let a₂ = answer_in_lem (happen t a (event_of c₂) (held (layout t) y₂)).ending (buffer_of c₂) in
      (λ q. b₁ ∙ w.0 (sym a₁ ∙ q ∙ a₂) ∙ sym b₂, λ q. a₁ ∙ w.1 (sym b₁ ∙ q ∙ b₂) ∙ sym a₂)

-- and stale bytes likewise, for ever: whatever the calls are, but for a fresh board, all that is seen is equal, and the stores differ at most there
pub lent_stale : (t : Table) (a : Place) (x₁ x₂ : Lent) → usable t (held (layout t) x₁) ≡ true → usable t (held (layout t) x₂) ≡ true
    → LentAlikeButStale (layout t) x₁ x₂ → (cs₁ cs₂ : List Call) → map event_of cs₁ ≡ map event_of cs₂ → never_fresh (map event_of cs₁) ≡ true
    → (seen_all t a cs₁ x₁ ≡ seen_all t a cs₂ x₂) × LentAlikeButStale (layout t) (lent_after t a cs₁ x₁) (lent_after t a cs₂ x₂)
lent_stale t a x₁ x₂ u₁ u₂ h cs₁ cs₂ same old =
    let b = states t a AlikeButStale x₁ x₂ u₁ u₂ cs₁ cs₂ same (stale_apart t a (map event_of cs₁) _ _ (stale_held t x₁ x₂ u₁ u₂ h) old) in
    (b.1, held_stale t _ _ b.0)
