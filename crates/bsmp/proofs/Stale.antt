-- Stale bytes (02, 2026-03): what stands past a block's length is told by no answer and no sum, so two boards that differ only there end alike
-- for ever. Hidden's steps, with those bytes hidden; only a fresh board, which makes all blocks full, brings them back. Assumes nothing.
use Rattle.std.specs.Prelude.{Ok, Err}
use mathlib.Core.Path.{◌≡◌, refl, sym, ap, ap₂, ◌∙◌}
use mathlib.Core.Bool.{Bool, true, false, not, true≢false}
use mathlib.Core.List.{List, [], ◌∷◌, ◌++◌, map}
use Prim.Native.Nat.{ℕ, zero, suc, ◌+◌, ◌-◌}
use native.Mathlib.Omega.{arith}
use lib.ListN.{length, take, drop, set, get_or, length-append, length-drop}
use lib.Seq.{take_at}
use Rattle.rfc1321.specs.Md5.{digest}
use Rattle.bsmp.specs.Board.{Table, State, block_of}
use Rattle.bsmp.specs.Message.{Change, nothing, edit, fill, renew, regroup, Answer, say, tell, show, attest, call, Line, edited, filled, after, values_of, replies, spoken}
use Rattle.bsmp.specs.Packet.{Place, ends, is_own, destination}
use Rattle.bsmp.specs.Apart.{AlikeButStale, Event, arrives, returns, stores, freshens, read_by, reads_by, happen, endings, later, unread_by, is_fresh, never_fresh}
use Rattle.bsmp.specs.Codes.{Check}
use Rattle.bsmp.proofs.Bools.{and_false, not_so}
use Rattle.bsmp.proofs.Usable.{usable_by}
use Rattle.bsmp.proofs.Lists.{map_set, length_at, count_same}
use Rattle.bsmp.proofs.Hiding.{Hidden, first_false, before}
use Rattle.bsmp.proofs.Apart.{contents_same}

-- what a block was written with is what it then holds, whatever stood there
pub take_filled : (d block : List ℕ) → take (length d) (filled d block) ≡ d
take_filled d block = take_at d (drop (length d) block) (length d) refl

-- blocks that hold alike still do after one more is written alike
content_set : (ns : List ℕ) (bs₁ bs₂ : List (List ℕ)) (i j n : ℕ) (b₁ b₂ : List ℕ) → length bs₁ ≡ length bs₂ → take n b₁ ≡ take n b₂
    → take (get_or ns j 0) (get_or bs₁ j []) ≡ take (get_or ns j 0) (get_or bs₂ j [])
    → take (get_or (set ns i n) j 0) (get_or (set bs₁ i b₁) j []) ≡ take (get_or (set ns i n) j 0) (get_or (set bs₂ i b₂) j [])
content_set [] bs₁ bs₂ i j n b₁ b₂ l e h = refl
content_set (m ∷ ns) [] [] i j n b₁ b₂ l e h = refl
content_set (m ∷ ns) [] (y ∷ bs₂) i j n b₁ b₂ l e h = absurd (omega (arith, l))
content_set (m ∷ ns) (x ∷ bs₁) [] i j n b₁ b₂ l e h = absurd (omega (arith, l))
content_set (m ∷ ns) (x ∷ bs₁) (y ∷ bs₂) zero zero n b₁ b₂ l e h = e
content_set (m ∷ ns) (x ∷ bs₁) (y ∷ bs₂) zero (suc j) n b₁ b₂ l e h = h
content_set (m ∷ ns) (x ∷ bs₁) (y ∷ bs₂) (suc i) zero n b₁ b₂ l e h = h
content_set (m ∷ ns) (x ∷ bs₁) (y ∷ bs₂) (suc i) (suc j) n b₁ b₂ l e h = content_set ns bs₁ bs₂ i j n b₁ b₂ (omega (arith, l)) e h

filled_length : (d b₁ b₂ : List ℕ) → length b₁ ≡ length b₂ → length (filled d b₁) ≡ length (filled d b₂)
filled_length d b₁ b₂ h = simp (length-append, length-drop) (ap (λ n. length d + (n - length d)) h)

after_stale : (ch : Change) (s₁ s₂ : State) → AlikeButStale s₁ s₂ → AlikeButStale (after ch s₁) (after ch s₂)
unfolding after
after_stale nothing s₁ s₂ h = h
after_stale (edit op is ps) s₁ s₂ h =
    record { values = ap (edited op is ps) h.values; contents = h.contents; sizes = h.sizes; lengths = h.lengths; sums = h.sums; groups = h.groups }
after_stale (fill k d) s₁ s₂ h = record {
  values = h.values;
  contents = λ j.
      ap (λ ns. take (get_or (set ns k (length d)) j 0) (get_or (set s₁.blocks k (filled d (block_of s₁ k))) j [])) h.lengths
      ∙ content_set s₂.lengths s₁.blocks s₂.blocks k j (length d) _ _ (count_same s₁.blocks s₂.blocks h.sizes)
      (take_filled d (block_of s₁ k) ∙ sym (take_filled d (block_of s₂ k)))
      (ap (λ ns. take (get_or ns j 0) (block_of s₁ j)) (sym h.lengths) ∙ h.contents j);
  sizes = map_set length s₁.blocks k _
      ∙ ap₂ (λ l n. set l k n) h.sizes (filled_length d (block_of s₁ k) (block_of s₂ k) (length_at s₁.blocks s₂.blocks h.sizes k))
      ∙ sym (map_set length s₂.blocks k _);
  lengths = ap (λ ns. set ns k (length d)) h.lengths;
  sums = h.sums;
  groups = h.groups;
}
after_stale (renew c k n) s₁ s₂ h = record {
  values = h.values;
  contents = h.contents;
  sizes = h.sizes;
  lengths = h.lengths;
  sums = ap₂ (λ ds m. set ds c.0 (digest m)) h.sums (contents_same s₁ s₂ h.contents k n);
  groups = h.groups;
}
after_stale (regroup gs) s₁ s₂ h = record { values = h.values; contents = h.contents; sizes = h.sizes; lengths = h.lengths; sums = h.sums; groups = refl }

spoken_stale : (s₁ s₂ : State) → AlikeButStale s₁ s₂ → (an : Answer) → spoken an s₁ ≡ spoken an s₂
unfolding spoken
spoken_stale s₁ s₂ h (say c p) = refl
spoken_stale s₁ s₂ h (tell c is) = ap (λ vs. replies c (values_of vs is)) h.values
spoken_stale s₁ s₂ h (show c front k) = ap (λ b. replies c (front ++ b)) (h.contents k)
spoken_stale s₁ s₂ h (attest c n) = ap (λ ds. replies c (get_or ds n.0 [])) h.sums
spoken_stale s₁ s₂ h (call f i) = refl

-- no answer tells a stale byte
abbrev none : Answer → Bool
none an = false

hidden : Hidden AlikeButStale (λ s₁ s₂. Unit) none (λ e. not (is_fresh e))
hidden = record {
  groups = λ s₁ s₂ h. h.groups;
  taken = λ t s₁ s₂ h. usable_by t s₁ s₂ (ap (map length) h.values) h.sizes h.lengths (ap (map length) h.sums) h.groups;
  kept = after_stale;
  freshened = λ k. absurd (true≢false (sym k));
  untold = λ s₁ s₂ h due an e. ap (ends due) (spoken_stale s₁ s₂ h an);
  told = λ s₁ s₂ h due an e. absurd (and_false due e);
}

none_read : (n : Line) (c : Check) → read_by none n c ≡ false
none_read n (Err e) = refl
none_read n (Ok _) = refl

module _ (t : Table) (a : Place) where
  never_read : (e : Event) (s : State) → reads_by none t a e s ≡ false
  never_read (arrives busy room p) s = rw (none_read, not_so _ (and_false (is_own a (destination p))), first_false, first_false, first_false)
  never_read (returns room f due r) s = refl
  never_read (stores i b) s = refl
  never_read freshens s = refl

  never_unread : (es : List Event) (s : State) → unread_by none t a es s ≡ true
  never_unread [] s = refl
  never_unread (e ∷ es) s = rw (never_read e s) (never_unread es (happen t a e s).state)

  -- the same events, none of them a fresh board, end alike, and the boards still differ at most in such bytes
  pub stale_apart : (es : List Event) (s₁ s₂ : State) → AlikeButStale s₁ s₂ → never_fresh es ≡ true
      → (endings t a es s₁ ≡ endings t a es s₂) × AlikeButStale (later t a es s₁) (later t a es s₂)
  stale_apart es s₁ s₂ h f = before hidden t a es s₁ s₂ f h (never_unread es s₁)
