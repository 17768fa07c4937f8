-- Lengths of blocks (02, 2026-03): an accepted 41 makes its block hold what it carries, no byte more, and no other message changes any; so a
-- read returns what was written, and 42 sums it. Each length is 1 to its block's size on every usable board. Assumes nothing.
use mathlib.Core.Path.{◌≡◌, refl, sym, ap, ap₂, ◌∙◌, subst}
use mathlib.Core.Logic.{◌≢◌}
use mathlib.Core.Bool.{true, false≢true}
use mathlib.Core.List.{List, [], ◌∷◌, ◌++◌, map}
use Prim.Native.Nat.{ℕ, zero, suc, ◌+◌, ◌≤◌, ◌<◌}
use native.Mathlib.Omega.{arith}
use lib.Dec.{leb}
use lib.ListN.{length, take, drop, get_or, length-append, length-drop, length-map}
use lib.Seq.{drop_at, get_or-set_same, get_or-set_other, length-take-le}
use borrow.Author.Tests.{eqb-true, leb-true, not-false}
use Rattle.rfc1321.specs.Md5.{digest}
use Rattle.bsmp.specs.Base.{byte_at, word_at, join, up_from, within}
use Rattle.bsmp.specs.Codes.{command_of, Pass}
use Rattle.bsmp.specs.Board.{Table, Layout, layout, State, with_blocks, with_lengths, block_of, curve_of, block_sizes, block_place, content_of, curve_sum, fitting, usable}
use Rattle.bsmp.specs.Message.{fill, curve_at, tests_of, asked, line, replies, filled, after, spoken, said, state_after, carried, handled, judge}
use Rattle.bsmp.specs.Packet.{Place, Ending, reply, silence, refused}
use Rattle.bsmp.specs.Apart.{Event, freshens, happen, endings, later}
use Rattle.bsmp.specs.Examples.{hex, table_a, place_a, state_a}
use Rattle.bsmp.specs.declared.CurveNumber.{CurveNumber}
use Rattle.bsmp.specs.declared.Command.TheVariants.{ReadSum, ReadBlock, WriteBlock, RenewSum}
use Rattle.bsmp.specs.declared.Refusal.TheVariants.{BoardUnusable}
use Rattle.bsmp.proofs.Computes.{computes}
use Rattle.bsmp.proofs.Bools.{and_true}
use Rattle.bsmp.proofs.Chain.{clear, clear_at}
use Rattle.bsmp.proofs.Usable.{Usable, usable_parts}
use Rattle.bsmp.proofs.Accepted.{fail_no, judge_case, accepted}
use Rattle.bsmp.proofs.Stale.{take_filled}
use Rattle.bsmp.proofs.Stays.{Fits, block_bytes, line_fits, handled_usable, later_usable}
use Rattle.bsmp.proofs.Keeps.{curves_kept}
use Rattle.bsmp.proofs.Sums.{arrived, sent, answers, ok}

-- "1 to the block size", "one per block" --------------------------------------------------------------------------------------
pub fitting_count : (ms ns : List ℕ) → fitting ms ns ≡ true → length ns ≡ length ms
fitting_count [] [] h = refl
fitting_count [] (n ∷ ns) h = absurd (false≢true h)
fitting_count (m ∷ ms) [] h = absurd (false≢true h)
fitting_count (m ∷ ms) (n ∷ ns) h = ap suc (fitting_count ms ns (and_true (within 1 m n) _ h).1)

pub fitting_least : (ms ns : List ℕ) → fitting ms ns ≡ true → (k : ℕ) → k < length ms → 1 ≤ get_or ns k 0
fitting_least [] ns h k l = absurd (omega (arith, l))
fitting_least (m ∷ ms) [] h k l = absurd (false≢true h)
fitting_least (m ∷ ms) (n ∷ ns) h zero l = leb-true 1 n (and_true _ _ (and_true (within 1 m n) _ h).0).0
fitting_least (m ∷ ms) (n ∷ ns) h (suc k) l = fitting_least ms ns (and_true (within 1 m n) _ h).1 k (omega (arith, l))

pub fitting_most : (ms ns : List ℕ) → fitting ms ns ≡ true → (k : ℕ) → get_or ns k 0 ≤ get_or ms k 0
fitting_most [] [] h k = omega arith
fitting_most [] (n ∷ ns) h k = absurd (false≢true h)
fitting_most (m ∷ ms) [] h k = absurd (false≢true h)
fitting_most (m ∷ ms) (n ∷ ns) h zero = leb-true n m (and_true (leb 1 n) _ (and_true (within 1 m n) _ h).0).1
fitting_most (m ∷ ms) (n ∷ ns) h (suc k) = fitting_most ms ns (and_true (within 1 m n) _ h).1 k

pub record InRange (t : Table) (s : State) : Type 0 where
  pub count : length s.lengths ≡ length (block_sizes t.curves)
  pub least : (k : ℕ) → k < length (block_sizes t.curves) → 1 ≤ get_or s.lengths k 0
  pub most : (k : ℕ) → get_or s.lengths k 0 ≤ get_or (block_sizes t.curves) k 0

pub in_range_lem : (t : Table) (s : State) → usable t s ≡ true → InRange t s
in_range_lem t s h =
    let f = (usable_parts t s h).lengths in
    record {
      count = fitting_count (block_sizes t.curves) s.lengths f;
      least = fitting_least (block_sizes t.curves) s.lengths f;
      most = fitting_most (block_sizes t.curves) s.lengths f;
    }

-- and so after every event
pub stays_in_range : (t : Table) (a : Place) (es : List Event) (s : State) → usable t s ≡ true → InRange t (later t a es s)
stays_in_range t a es s h = in_range_lem t (later t a es s) (later_usable t a es s h)

-- a block holds as many bytes as its length says
pub content_length : (t : Table) (s : State) → usable t s ≡ true → (k : ℕ) → length (content_of s k) ≡ get_or s.lengths k 0
content_length t s u k = length-take-le (get_or s.lengths k 0) (block_of s k) (rw (block_bytes t s (usable_parts t s u) k) ((in_range_lem t s u).most k))

-- a block written ------------------------------------------------------------------------------------------------------------
pub place_known : (l : List ℕ) (k : ℕ) → 1 ≤ get_or l k 0 → k < length l
place_known [] k h = absurd (omega (arith, h))
place_known (x ∷ l) zero h = omega arith
place_known (x ∷ l) (suc k) h = omega (arith, place_known l k h)

module _ (t : Table) (s : State) (u : usable t s ≡ true) (k : ℕ) (d : List ℕ) (f : Fits t s (fill k d)) where
  there : (k < length s.blocks) × (k < length s.lengths)
  there =
      let w : Usable t s = usable_parts t s u in
      let n : length s.blocks ≡ length (block_sizes t.curves) = sym (length-map s.blocks length) ∙ ap length w.blocks in
      let m : length s.lengths ≡ length (block_sizes t.curves) = (in_range_lem t s u).count in
      let p : k < length (block_sizes t.curves) = place_known (block_sizes t.curves) k (omega (arith, f.0, f.1, block_bytes t s w k)) in
      (omega arith, omega arith)

  filled_block : block_of (after (fill k d) s) k ≡ filled d (block_of s k)
  unfolding after
  filled_block = get_or-set_same s.blocks k _ [] there.0

  filled_holds : content_of (after (fill k d) s) k ≡ d
  unfolding after
  filled_holds = ap₂ take (get_or-set_same s.lengths k (length d) 0 there.1) filled_block ∙ take_filled d (block_of s k)

  filled_stale : drop (length d) (block_of (after (fill k d) s) k) ≡ drop (length d) (block_of s k)
  filled_stale = ap (drop (length d)) filled_block ∙ drop_at d _ (length d) refl

filled_others : (s : State) (k : ℕ) (d : List ℕ) (i : ℕ) → i ≢ k
    → (block_of (after (fill k d) s) i ≡ block_of s i) × (get_or (after (fill k d) s).lengths i 0 ≡ get_or s.lengths i 0)
unfolding after
filled_others s k d i n = (get_or-set_other s.blocks k i _ [] n, get_or-set_other s.lengths k i _ 0 n)

-- a message that is an accepted 41 of block j of curve c, and carries d; and an accepted 40 of that block
pub record Writes (t : Table) (c : CurveNumber) (j : ℕ) (d : List ℕ) (busy : ℕ) (m : List ℕ) (s : State) : Type 0 where
  pub command : command_of (byte_at m 0) ≡ WriteBlock
  pub named : curve_at (drop 3 m) 0 ≡ c
  pub block : word_at (drop 3 m) 1 ≡ j
  pub carries : drop 3 (drop 3 m) ≡ d
  pub passes : judge (layout t) s.groups busy m ≡ Pass

pub record Reads (t : Table) (c : CurveNumber) (j : ℕ) (busy : ℕ) (m : List ℕ) (s : State) : Type 0 where
  pub command : command_of (byte_at m 0) ≡ ReadBlock
  pub named : curve_at (drop 3 m) 0 ≡ c
  pub block : word_at (drop 3 m) 1 ≡ j
  pub passes : judge (layout t) s.groups busy m ≡ Pass

module _ (t : Table) (c : CurveNumber) (j : ℕ) (busy : ℕ) (q : List ℕ) (s : State) (r : Reads t c j busy q s) where
  front : length (drop 3 q) ≡ 3
  unfolding line
  front =
      let a = rw r.command at ((accepted (layout t) s.groups busy q).0 r.passes).tested in
      eqb-true _ _ (not-false _ (clear_at (line (layout t) s.groups (drop 3 q) ReadBlock).tests a 0))

  -- a read is answered with what the block holds, ..
  pub told_block : (handled (layout t) busy q s).says ≡ replies 0x41 (drop 3 q ++ content_of s (block_place (layout t) c j))
  unfolding handled carried state_after said spoken line after
  told_block = rw (r.passes, r.command) (ap (λ i. replies 0x41 (drop 3 q ++ content_of s i)) (ap₂ (block_place (layout t)) r.named r.block))

  -- .. and "returns that many bytes" after curve and block
  pub told_length : usable t s ≡ true → length (drop 3 q ++ content_of s (block_place (layout t) c j)) ≡ 3 + get_or s.lengths (block_place (layout t) c j) 0
  told_length u = length-append (drop 3 q) _ ∙ ap₂ ◌+◌ front (content_length t s u (block_place (layout t) c j))

module _ (t : Table) (c : CurveNumber) (j : ℕ) (d : List ℕ) (busy : ℕ) (m : List ℕ) (s : State) (u : usable t s ≡ true) (w : Writes t c j d busy m s) where
  abbrev place : ℕ
  place = block_place (layout t) c j

  abbrev now : State
  now = (handled (layout t) busy m s).state

  change : (line (layout t) s.groups (drop 3 m) WriteBlock).change ≡ fill place d
  unfolding line
  change = ap₂ fill (ap₂ (block_place (layout t)) w.named w.block) w.carries

  -- all that it changes
  pub written : (handled (layout t) busy m s).state ≡ after (fill (block_place (layout t) c j) d) s
  unfolding handled carried state_after
  written = rw (w.passes, w.command) (ap (λ ch. after ch s) change)

  fits : Fits t s (fill place d)
  fits =
      let k : clear (tests_of (asked (layout t) s.groups m) busy) =
      judge_case (layout t) s.groups busy m (λ v. v ≡ Pass → clear (tests_of (asked (layout t) s.groups m) busy)) (λ e h. absurd (fail_no e h)) (λ f g h. g) w.passes in
      subst (Fits t s) change (line_fits t s busy (drop 3 m) u WriteBlock (rw w.command at k))

  -- "a write sets it": the block holds what was carried ..
  pub holds : content_of (handled (layout t) busy m s).state (block_place (layout t) c j) ≡ d
  holds = rw written (filled_holds t s u place d fits)

  -- .. and the bytes behind it are those that stood there
  pub rest_stays : drop (length d) (block_of (handled (layout t) busy m s).state (block_place (layout t) c j)) ≡ drop (length d) (block_of s (block_place (layout t) c j))
  rest_stays = rw written (filled_stale t s u place d fits)

  -- no other block changes, in no byte and not in its length
  pub others_stay : (i : ℕ) → i ≢ block_place (layout t) c j
      → (block_of (handled (layout t) busy m s).state i ≡ block_of s i) × (get_or (handled (layout t) busy m s).state.lengths i 0 ≡ get_or s.lengths i 0)
  others_stay i n = rw written (filled_others s place d i n)

  -- so what was written reads back, and nothing that stood behind it; as many bytes in all as the 41 had
  pub reads_back : (busy' : ℕ) (q : List ℕ) → Reads t c j busy' q (handled (layout t) busy m s).state
      → ((handled (layout t) busy' q (handled (layout t) busy m s).state).says ≡ replies 0x41 (drop 3 q ++ d)) × (length (drop 3 q ++ d) ≡ length (drop 3 m))
  reads_back busy' q r =
      let n : length (drop 3 q) ≡ 3 = front t c j busy' q now r in
      let k : 1 ≤ length (drop 3 (drop 3 m)) = rw w.carries fits.0 in (
        told_block t c j busy' q now r ∙ ap (λ x. replies 0x41 (drop 3 q ++ x)) holds,
        rw (← w.carries) (simp (length-append, length-drop) (omega (arith, simp length-drop at n, simp length-drop at k))),
      )

-- no other message changes any block, or its length
pub only_41 : (l : Layout) (busy : ℕ) (m : List ℕ) (s : State) → command_of (byte_at m 0) ≢ WriteBlock
    → ((handled l busy m s).state.blocks ≡ s.blocks) × ((handled l busy m s).state.lengths ≡ s.lengths)
only_41 l busy m s n = let k = curves_kept l busy m s in (k.blocks n, k.lengths n)

-- a whole curve written --------------------------------------------------------------------------------------------------------
-- accepted 41s of a curve's blocks from j on, one after another, with what each carries; and the states before and after them
pub data Download (t : Table) (c : CurveNumber) : ℕ → List (List ℕ) → State → State → Type 0 where
  over : {j : ℕ} {s : State} → Download t c j [] s s
  next : {j : ℕ} {d : List ℕ} {ds : List (List ℕ)} {s s' : State} (busy : ℕ) (m : List ℕ) → Writes t c j d busy m s
      → Download t c (suc j) ds (handled (layout t) busy m s).state s' → Download t c j (d ∷ ds) s s'

module _ (t : Table) (c : CurveNumber) where
  pub download_usable : {j : ℕ} {ds : List (List ℕ)} {s s' : State} → usable t s ≡ true → Download t c j ds s s' → usable t s' ≡ true
  download_usable u over = u
  download_usable {s = s} u (next busy m w r) = download_usable (handled_usable t busy m s u) r

  -- blocks before j stay ..
  before_stay : {j : ℕ} {ds : List (List ℕ)} {s s' : State} → usable t s ≡ true → Download t c j ds s s'
      → (i : ℕ) → i < block_place (layout t) c j → content_of s' i ≡ content_of s i
  before_stay u over i h = refl
  before_stay {j = j} {s = s} u (next {d = d} busy m w r) i h =
      let o = others_stay t c j d busy m s u w i (λ e. omega arith) in
      before_stay (handled_usable t busy m s u) r i (omega arith) ∙ ap₂ take o.1 o.0

  -- .. and those from j on hold what was carried
  pub all_held : {j : ℕ} {ds : List (List ℕ)} {s s' : State} → usable t s ≡ true → Download t c j ds s s'
      → (i : ℕ) → i ≡ block_place (layout t) c j → map (content_of s') (up_from i (length ds)) ≡ ds
  all_held u over i e = refl
  all_held {j = j} {s = s} {s' = s'} u (next {d = d} busy m w r) i e =
      let n : usable t (handled (layout t) busy m s).state ≡ true = handled_usable t busy m s u in
      ap₂ ◌∷◌ (ap (content_of s') e ∙ before_stay n r (block_place (layout t) c j) (omega arith) ∙ holds t c j d busy m s u w)
      (all_held n r (suc i) (omega arith))

  -- so the MD5 of a curve of which each block was written is that of the written bytes, "in block order"
  pub downloaded : {ds : List (List ℕ)} {s s' : State} → usable t s ≡ true → Download t c 0 ds s s' → length ds ≡ (curve_of (layout t) c).blocks
      → curve_sum (layout t) s' c ≡ digest (join ds)
  downloaded {ds = ds} {s = s} {s' = s'} u r n =
      ap (λ k. digest (join (map (content_of s') (up_from (block_place (layout t) c 0) k)))) (sym n)
      ∙ ap (λ x. digest (join x)) (all_held u r (block_place (layout t) c 0) refl)

  -- "the line wants to see whether a download arrived": 42 and then 0A of it are answered with the MD5 of what was written
  pub download_told : {ds : List (List ℕ)} {s s' : State} → usable t s ≡ true → Download t c 0 ds s s' → length ds ≡ (curve_of (layout t) c).blocks
      → (busy : ℕ) (m : List ℕ) → command_of (byte_at m 0) ≡ RenewSum → curve_at (drop 3 m) 0 ≡ c → judge (layout t) s'.groups busy m ≡ Pass
      → (busy' : ℕ) (q : List ℕ) → command_of (byte_at q 0) ≡ ReadSum → curve_at (drop 3 q) 0 ≡ c
      → judge (layout t) (handled (layout t) busy m s').state.groups busy' q ≡ Pass
      → (handled (layout t) busy' q (handled (layout t) busy m s').state).says ≡ replies 0x0B (digest (join ds))
  download_told {s' = s'} u r n busy m k e v busy' q k' e' v' =
      arrived t busy m s' (download_usable u r) k v busy' q k' (e' ∙ sym e) v'
      ∙ ap (replies 0x0B) (ap (curve_sum (layout t) s') e ∙ downloaded u r n)

-- computed on board A: "a download of 3 bytes" into block 1 after one of 4 ----------------------------------------------------
abbrev four : List ℕ
four = hex 12 0x05_41_00_07_00_00_01_01_02_03_04_A8

abbrev three : List ℕ
three = hex 11 0x05_41_00_06_00_00_01_0A_0B_0C_92

abbrev read1 : List ℕ
read1 = hex 8 0x05_40_00_03_00_00_01_B7

-- it reads back as 3, and 42 sums these after block 0's 4; a longer write after it reads back longer; a multicast one is silent and sets block
-- 0's length too; then no byte at all, and one too many, get E5
pub lengths_read :
    answers (four ∷ three ∷ read1 ∷ hex 6 0x05_42_00_01_00_B8 ∷ hex 6 0x05_0A_00_01_00_F0
    ∷ hex 12 0x05_41_00_07_00_00_01_11_12_13_14_68 ∷ read1
    ∷ hex 9 0xF8_41_00_04_00_00_00_77_4C ∷ hex 8 0x05_40_00_03_00_00_00_B8
    ∷ hex 8 0x05_41_00_03_00_00_01_B6 ∷ hex 13 0x05_41_00_08_00_00_01_01_02_03_04_05_A2
    ∷ []) (state_a 0x5A)
    ≡ ok ∷ ok ∷ reply (hex 11 0x00_41_00_06_00_00_01_0A_0B_0C_97) ∷ ok ∷ reply (hex 21 0x00_0B_00_10_7F98260096789D22A77EAD2B9FCC54E2_3D)
    ∷ ok ∷ reply (hex 12 0x00_41_00_07_00_00_01_11_12_13_14_6D)
    ∷ silence ∷ reply (hex 9 0x00_41_00_04_00_00_00_77_44)
    ∷ reply (hex 5 0x00_E5_00_00_1B) ∷ reply (hex 5 0x00_E5_00_00_1B) ∷ []
unfolding computes
lengths_read = refl

-- "and the fourth is stale": it is still in the store ..
abbrev shortened : State
shortened = later table_a place_a (map sent (four ∷ three ∷ [])) (state_a 0x5A)

pub fourth_stays : shortened ≡ with_lengths (with_blocks (state_a 0x5A) (hex 4 0 ∷ hex 4 0x0A_0B_0C_04 ∷ [])) (4 ∷ 3 ∷ [])
unfolding computes
fourth_stays = refl

-- .. and a fresh board, which makes the block full, brings it back
pub fourth_back : endings table_a place_a (freshens ∷ sent read1 ∷ []) shortened ≡ silence ∷ reply (hex 12 0x00_41_00_07_00_00_01_0A_0B_0C_04_92) ∷ []
unfolding computes
fourth_back = refl

-- "a length out of range, lengths not one per block .. make the board unusable": 0, 5, one too few, one too many; the edges are taken; and a fresh
-- board takes what is out of range, as it goes by no length, and not a wrong number of them
abbrev ends_with : Event → List ℕ → Ending
ends_with e ns = (happen table_a place_a e (with_lengths (state_a 0x5A) ns)).ending

pub lengths_refused :
    (map (ends_with (sent three)) ((0 ∷ 4 ∷ []) ∷ (4 ∷ 5 ∷ []) ∷ (4 ∷ []) ∷ (4 ∷ 4 ∷ 4 ∷ []) ∷ (1 ∷ 4 ∷ []) ∷ [])
    ≡ refused BoardUnusable ∷ refused BoardUnusable ∷ refused BoardUnusable ∷ refused BoardUnusable ∷ ok ∷ [])
    × (map (ends_with freshens) ((0 ∷ 5 ∷ []) ∷ (4 ∷ []) ∷ (4 ∷ 4 ∷ 4 ∷ []) ∷ []) ≡ silence ∷ refused BoardUnusable ∷ refused BoardUnusable ∷ [])
unfolding computes
lengths_refused = (refl, refl)
