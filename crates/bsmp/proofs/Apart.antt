-- Demand 3, proved over demand 2's definition: Hidden's steps, with one variable's bytes hidden. Assumes nothing.
use mathlib.Core.Path.{◌≡◌, refl, sym, ap, ap₂, ◌∙◌, subst, fun_ext}
use mathlib.Core.Logic.{◌↔◌, ◌≢◌, ⊎_elim}
use mathlib.Core.Bool.{Bool, true, false, ◌&&◌, false≢true}
use mathlib.Core.List.{List, [], ◌∷◌, ◌++◌, map}
use Prim.Native.Nat.{ℕ, suc, ◌+◌}
use native.Mathlib.Omega.{arith}
use native.Mathlib.Decide.{ℕ_discrete}
use lib.ListN.{length, take, drop, set, get_or, length-append}
use borrow.Author.Tests.{eqb-true, eqb-false}
use Rattle.bsmp.specs.Base.{some, join, up_from}
use Rattle.rfc1321.specs.Md5.{digest}
use Rattle.bsmp.specs.Board.{variable, curve, Table, Layout, State, value_of, block_sizes, curve_of, block_place, content_of, contents_of, full_lengths, full, fresh, is_same, usable, faults}
use Rattle.bsmp.specs.Message.{Change, nothing, edit, fill, renew, regroup, Answer, say, tell, show, attest, call, changed, edited, filled, after, values_of, replies, spoken}
use Rattle.bsmp.specs.Packet.{Place, reply, frame, ends}
use Rattle.bsmp.specs.Apart.{Alike, Event, happen, tells, reads, answer_of, Apart, endings, later, unread}
use Rattle.bsmp.specs.declared.VariableNumber.{VariableNumber}
use Rattle.bsmp.specs.declared.CurveNumber.{CurveNumber}
use Rattle.bsmp.specs.declared.Operation.{Operation}
use Rattle.bsmp.proofs.Bools.{or_false, or_true, and_false}
use Rattle.bsmp.proofs.Usable.{usable_by, faults_by}
use Rattle.bsmp.proofs.Lists.{map_set, length_at, set_at, count_same, parts, every_by}
use Rattle.bsmp.proofs.Hiding.{Hidden, step as hidden_step, before as hidden_before}

-- numbers of variables
pub other_number : (i v : VariableNumber) → is_same v i ≡ false → i ≢ v
other_number i v h e = eqb-false v.0 i.0 h (ap (λ x. x.0) (sym e))

pub same_number : (i v : VariableNumber) → is_same v i ≡ true → v ≡ i
same_number i v h = ap variable (eqb-true v.0 i.0 h)

-- lists of values that differ at most at v
record Near (v : VariableNumber) (xs ys : List (List ℕ)) : Type 0 where
  others : (i : VariableNumber) → i ≢ v → get_or xs i.0 [] ≡ get_or ys i.0 []
  sizes : map length xs ≡ map length ys

length_changed : (op : Operation) (x y p : List ℕ) → length x ≡ length y → length (changed op x p) ≡ length (changed op y p)
unfolding changed
length_changed op [] [] p h = refl
length_changed op [] (b ∷ y) p h = absurd (omega (arith, h))
length_changed op (a ∷ x) [] p h = absurd (omega (arith, h))
length_changed op (a ∷ x) (b ∷ y) [] h = refl
length_changed op (a ∷ x) (b ∷ y) (c ∷ p) h = ap suc (length_changed op x y p (omega (arith, h)))

edited_near : (v : VariableNumber) (op : Operation) (is : List VariableNumber) (ps xs ys : List (List ℕ)) → Near v xs ys
    → Near v (edited op is ps xs) (edited op is ps ys)
edited_near v op [] ps xs ys h = h
edited_near v op (i ∷ is) [] xs ys h = h
edited_near v op (i ∷ is) (p ∷ ps) xs ys h = edited_near v op is ps _ _ record {
  others = λ j n. set_at xs ys i.0 j.0 _ _ [] (count_same xs ys h.sizes)
      (λ e. ap (λ x. changed op x p) (h.others i (λ q. n (ap variable e ∙ q)))) (h.others j n);
  sizes = map_set length xs i.0 _
      ∙ ap₂ (λ l n. set l i.0 n) h.sizes (length_changed op (get_or xs i.0 []) (get_or ys i.0 []) p (length_at xs ys h.sizes i.0))
      ∙ sym (map_set length ys i.0 _);
}

-- what blocks hold goes by the blocks and their lengths alone
content_same : (v : VariableNumber) (s₁ s₂ : State) → Alike v s₁ s₂ → (k : ℕ) → content_of s₁ k ≡ content_of s₂ k
content_same v s₁ s₂ h k = ap₂ (λ ns bs. take (get_or ns k 0) (get_or bs k [])) h.lengths h.blocks

pub contents_same : (s₁ s₂ : State) → ((k : ℕ) → content_of s₁ k ≡ content_of s₂ k) → (k n : ℕ) → contents_of s₁ k n ≡ contents_of s₂ k n
contents_same s₁ s₂ h k n = ap (λ f. join (map f (up_from k n))) (fun_ext h)

after_alike : (v : VariableNumber) (ch : Change) (s₁ s₂ : State) → Alike v s₁ s₂ → Alike v (after ch s₁) (after ch s₂)
unfolding after
after_alike v nothing s₁ s₂ h = h
after_alike v (edit op is ps) s₁ s₂ h =
    let n : Near v (edited op is ps s₁.values) (edited op is ps s₂.values) =
    edited_near v op is ps _ _ record { others = h.others; sizes = h.sizes } in
    record { others = n.others; sizes = n.sizes; blocks = h.blocks; lengths = h.lengths; sums = h.sums; groups = h.groups }
after_alike v (fill k d) s₁ s₂ h =
    record {
      others = h.others;
      sizes = h.sizes;
      blocks = ap (λ l. set l k (filled d (get_or l k []))) h.blocks;
      lengths = ap (λ ns. set ns k (length d)) h.lengths;
      sums = h.sums;
      groups = h.groups;
    }
after_alike v (renew c k n) s₁ s₂ h = record {
  others = h.others;
  sizes = h.sizes;
  blocks = h.blocks;
  lengths = h.lengths;
  sums = ap₂ (λ ds m. set ds c.0 (digest m)) h.sums (contents_same s₁ s₂ (content_same v s₁ s₂ h) k n);
  groups = h.groups;
}
after_alike v (regroup gs) s₁ s₂ h = record { others = h.others; sizes = h.sizes; blocks = h.blocks; lengths = h.lengths; sums = h.sums; groups = refl }

-- the sums of a fresh board go by its blocks alone
full_alike : (v : VariableNumber) (l : Layout) (s₁ s₂ : State) → Alike v s₁ s₂ → Alike v (full l s₁) (full l s₂)
full_alike v l s₁ s₂ h = record {
  others = h.others;
  sizes = h.sizes;
  blocks = h.blocks;
  lengths = ap (full_lengths (block_sizes l.curves)) h.lengths;
  sums = h.sums;
  groups = h.groups;
}

fresh_alike : (v : VariableNumber) (l : Layout) (s₁ s₂ : State) → Alike v s₁ s₂ → Alike v (fresh l s₁) (fresh l s₂)
unfolding fresh
fresh_alike v l s₁ s₂ h =
    let f = full_alike v l s₁ s₂ h in
    record {
      others = f.others;
      sizes = f.sizes;
      blocks = f.blocks;
      lengths = f.lengths;
      sums = ap (λ (g : CurveNumber → List ℕ). map (λ c. digest (g (curve c))) (up_from 0 (length l.curves)))
          (fun_ext (λ c. contents_same (full l s₁) (full l s₂) (content_same v _ _ f) (block_place l c 0) (curve_of l c).blocks));
      groups = f.groups;
    }

pub usable_alike : (t : Table) (v : VariableNumber) (s₁ s₂ : State) → Alike v s₁ s₂ → usable t s₁ ≡ usable t s₂
usable_alike t v s₁ s₂ h = usable_by t s₁ s₂ h.sizes (ap (map length) h.blocks) h.lengths (ap (map length) h.sums) h.groups

pub faults_alike : (t : Table) (v : VariableNumber) (s₁ s₂ : State) → Alike v s₁ s₂ → faults t s₁ ≡ faults t s₂
faults_alike t v s₁ s₂ h = faults_by t s₁ s₂ (usable_alike t v s₁ s₂ h)

-- answers -------------------------------------------------------------------------------------------------------------------
-- a frame shows its payload
frame_payload : (c : ℕ) (p q : List ℕ) → length p ≡ length q → frame c p ≡ frame c q → p ≡ q
unfolding frame
frame_payload c p q n e = (parts p q _ _ n (ap (drop 4) e)).0

module _ (v : VariableNumber) (s₁ s₂ : State) (h : Alike v s₁ s₂) where
  unread_values : (is : List VariableNumber) → some (is_same v) is ≡ false → values_of s₁.values is ≡ values_of s₂.values is
  unfolding values_of
  unread_values [] e = refl
  unread_values (i ∷ is) e =
      let o : (is_same v i ≡ false) × (some (is_same v) is ≡ false) = or_false _ _ e in
      ap₂ ◌++◌ (h.others i (other_number i v o.0)) (unread_values is o.1)

  told_length : (is : List VariableNumber) → length (values_of s₁.values is) ≡ length (values_of s₂.values is)
  unfolding values_of
  told_length [] = refl
  told_length (i ∷ is) = simp length-append (ap₂ ◌+◌ (length_at s₁.values s₂.values h.sizes i.0) (told_length is))

  read_values : (is : List VariableNumber) → some (is_same v) is ≡ true → values_of s₁.values is ≡ values_of s₂.values is → value_of s₁ v ≡ value_of s₂ v
  unfolding values_of
  read_values [] e q = absurd (false≢true e)
  read_values (i ∷ is) e q =
      let b : (value_of s₁ i ≡ value_of s₂ i) × (values_of s₁.values is ≡ values_of s₂.values is) =
      parts _ _ _ _ (length_at s₁.values s₂.values h.sizes i.0) q in
      ⊎_elim (λ r. subst (λ k. value_of s₁ k ≡ value_of s₂ k) (sym (same_number i v r)) b.0) (λ r. read_values is r b.1) (or_true _ _ e)

  everywhere : value_of s₁ v ≡ value_of s₂ v → (i : VariableNumber) → Dec (i.0 ≡ v.0) → value_of s₁ i ≡ value_of s₂ i
  everywhere q i (yes e) = subst (λ k. value_of s₁ k ≡ value_of s₂ k) (ap variable (sym e)) q
  everywhere q i (no n) = h.others i (λ e. n (ap (λ x. x.0) e))

  spoken_same : (due : Bool) (an : Answer) → (due && tells v an) ≡ false → ends due (spoken an s₁) ≡ ends due (spoken an s₂)
  unfolding ends spoken
  spoken_same due (say c p) e = refl
  spoken_same true (tell c is) e = ap (λ p. reply (frame c p)) (unread_values is e)
  spoken_same false (tell c is) e = refl
  spoken_same due (show c front k) e = ap (λ b. ends due (replies c (front ++ b))) (content_same v s₁ s₂ h k)
  spoken_same due (attest c n) e = ap (λ l. ends due (replies c (get_or l n.0 []))) h.sums
  spoken_same due (call f i) e = refl

  spoken_told : (due : Bool) (an : Answer) → (due && tells v an) ≡ true
      → (answer_of (ends due (spoken an s₁)) ≡ answer_of (ends due (spoken an s₂))) ↔ (value_of s₁ v ≡ value_of s₂ v)
  unfolding ends spoken values_of
  spoken_told due (say c p) e = absurd (and_false due e)
  spoken_told true (tell c is) e = (
    λ q. read_values is e (frame_payload c _ _ (told_length is) q),
    λ q. ap (λ g. frame c (join (map g is))) (fun_ext (λ i. everywhere q i (ℕ_discrete i.0 v.0))),
  )
  spoken_told false (tell c is) e = absurd (false≢true e)
  spoken_told due (show c front k) e = absurd (and_false due e)
  spoken_told due (attest c n) e = absurd (and_false due e)
  spoken_told due (call f i) e = absurd (and_false due e)

-- demand 3 -----------------------------------------------------------------------------------------------------------------
-- every event keeps v hidden
hidden : (v : VariableNumber) → Hidden (Alike v) (λ s₁ s₂. value_of s₁ v ≡ value_of s₂ v) (tells v) (λ e. true)
hidden v = record {
  groups = λ s₁ s₂ h. h.groups;
  taken = λ t s₁ s₂ h. usable_alike t v s₁ s₂ h;
  kept = after_alike v;
  freshened = λ k l s₁ s₂ h. (full_alike v l s₁ s₂ h, fresh_alike v l s₁ s₂ h);
  untold = spoken_same v;
  told = spoken_told v;
}

-- one event
pub step : (t : Table) (a : Place) (v : VariableNumber) (e : Event) (s₁ s₂ : State) → Alike v s₁ s₂
    → Apart (Alike v) (λ x₁ x₂. value_of x₁ v ≡ value_of x₂ v) (happen t a e s₁) (happen t a e s₂) (reads t a v e s₁)
step t a v e s₁ s₂ h = hidden_step (hidden v) t a e s₁ s₂ refl h

module _ (t : Table) (a : Place) (v : VariableNumber) where
  -- all events before the first that reads v
  pub before : (es : List Event) (s₁ s₂ : State) → Alike v s₁ s₂ → unread t a v es s₁ ≡ true
      → (endings t a es s₁ ≡ endings t a es s₂) × Alike v (later t a es s₁) (later t a es s₂)
  before es s₁ s₂ h u = hidden_before (hidden v) t a es s₁ s₂ (every_by _ es (λ e. refl)) h u

  -- demand 3, whole: events that do not read v, and then one that does
  pub apart : (es : List Event) (e : Event) (s₁ s₂ : State) → Alike v s₁ s₂ → unread t a v es s₁ ≡ true → reads t a v e (later t a es s₁) ≡ true
      → (endings t a es s₁ ≡ endings t a es s₂)
      × Alike v (later t a es s₁) (later t a es s₂)
      × ((answer_of (happen t a e (later t a es s₁)).ending ≡ answer_of (happen t a e (later t a es s₂)).ending)
      ↔ (value_of (happen t a e (later t a es s₁)).state v ≡ value_of (happen t a e (later t a es s₂)).state v))
  apart es e s₁ s₂ h u r =
      let b : (endings t a es s₁ ≡ endings t a es s₂) × Alike v (later t a es s₁) (later t a es s₂) = before es s₁ s₂ h u in
      (b.0, b.1, (step t a v e _ _ b.1).shows r)
