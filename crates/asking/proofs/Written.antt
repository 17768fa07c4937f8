-- A written request asks the node for what was meant. Assumes nothing.
use mathlib.Core.Path.{◌≡◌, refl, ap, ◌∙◌}
use mathlib.Core.Bool.{true, ◌&&◌}
use mathlib.Core.List.{List, [], ◌∷◌, ◌++◌, map, append-nil}
use Prim.Native.Nat.{ℕ, ◌+◌, ◌*◌, ◌/◌, ◌%◌, ◌≤◌, ◌<◌}
use native.Mathlib.Omega.{arith}
use lib.Dec.{leb}
use lib.ListN.{length, length-append}
use borrow.Author.Tests.{leb-true, ltb-false, not-false}
use Rattle.bsmp.specs.Base.{every, cut}
use Rattle.bsmp.specs.Codes.{command_of, operation_of}
use Rattle.bsmp.specs.Board.{variable, Layout, size_of, members, set_of, block_place}
use Rattle.bsmp.specs.Message.{edit, fill, regroup, Line, line}
use Rattle.bsmp.specs.Packet.{packed}
use Rattle.bsmp.proofs.Bools.{and_true}
use Rattle.bsmp.proofs.Chain.{clear_at, first_case}
use Rattle.bsmp.proofs.Room.{Sent, packed_sum}
use Rattle.asking.specs.Request.{mask_code, sorted, Fields, fields_of, payload_of, can_write, message_for, asking_tests, Asking, request, asking}
use Rattle.asking.specs.Learning.{operation_for, change_for}
use Rattle.asking.specs.declared.Masking.{Masking}
use Rattle.asking.specs.declared.Masking.TheVariants.{Set, Or, Clear, Toggle, Xor, And}
use Rattle.asking.specs.declared.Request.{Request}
use Rattle.asking.specs.declared.Request.TheVariants.{Version, ListVariables, ListGroups, ShowGroup, ListCurves, ReadSum, ListFunctions, ReadVariable, ReadGroup, WriteVariable, WriteGroup}
use Rattle.asking.specs.declared.Request.TheVariants.{MaskVariable, MaskGroup, WriteRead, MakeGroup, RemoveGroups, ReadBlock, WriteBlock, RenewSum, RunFunction}
use Rattle.asking.proofs.Lists.{clash}
use Rattle.asking.proofs.Sorted.{sorted_set}

-- what can be written: each block in two bytes, and no more payload than a packet takes
pub record Writable (f : Fields) : Type 0 where
  pub blocks : every (λ k. leb k 65535) f.blocks ≡ true
  pub few : length (payload_of f) ≤ 4099

writable : (f : Fields) → can_write f ≡ true → Writable f
unfolding can_write
writable f h =
    let w = and_true (every (λ i. leb i 255) f.ids && every (λ k. leb k 65535) f.blocks) (leb (length (payload_of f)) 4099) h in
    record { blocks = (and_true (every (λ i. leb i 255) f.ids) _ w.0).1; few = leb-true _ 4099 w.1 }

-- a written request is its packet
pub written : (to room : ℕ) (r : Request) (d q : List ℕ) → asking to room r d ≡ request q → Writable (fields_of r d) × (q ≡ packed to (message_for r d))
unfolding asking
written to room r d q =
    first_case (λ z. z ≡ request q → Writable (fields_of r d) × (q ≡ packed to (message_for r d))) (asking_tests to room (fields_of r d)) Asking.refused
    (request (packed to (message_for r d))) (λ e h. absurd (clash cc))
    (λ c h. (writable (fields_of r d) (not-false _ (clear_at (asking_tests to room (fields_of r d)) c 2)), cc))

packed_length : (to : ℕ) (m : List ℕ) → length (packed to m) ≡ length m + 2
packed_length to m = simp length-append (omega arith)

-- and a packet that any node takes: all its bytes sum to 0 modulo 256, and it fits the buffer that was lent
pub written_well : (to room : ℕ) (r : Request) (d q : List ℕ) → asking to room r d ≡ request q → Sent q × (length q ≤ room)
unfolding asking
written_well to room r d q =
    first_case (λ z. z ≡ request q → Sent q × (length q ≤ room)) (asking_tests to room (fields_of r d)) Asking.refused
    (request (packed to (message_for r d))) (λ e h. absurd (clash cc))
    (λ c h.
    let same : q ≡ packed to (message_for r d) = cc in
    let w = writable (fields_of r d) (not-false _ (clear_at (asking_tests to room (fields_of r d)) c 2)) in
    let n = packed_length to (message_for r d) in
    let enough : 4104 ≤ room = ltb-false room 4104 (clear_at (asking_tests to room (fields_of r d)) c 1) in
    rw same ((omega (arith, w.few), packed_sum to (message_for r d)), omega (arith, w.few)))

-- a block's number in two bytes
pub word_read : (n : ℕ) → n < 65536 → n / 256 % 256 * 256 + n % 256 ≡ n
word_read n h = omega arith

pub block_read : (k : ℕ) → every (λ k. leb k 65535) (k ∷ []) ≡ true → k / 256 % 256 * 256 + k % 256 ≡ k
block_read k h = let e = leb-true k 65535 (and_true (leb k 65535) true h).0 in word_read k (omega arith)

pub sorted_payload : (d : List ℕ) → sorted d ++ [] ++ [] ≡ sorted d
sorted_payload d = append-nil (sorted d ++ []) ∙ append-nil (sorted d)

-- its row of 01's table
abbrev pub row_of : Layout → List ℕ → Request → (d : List ℕ) → Line
row_of l gs r d = line l gs (payload_of (fields_of r d)) (command_of (fields_of r d).code)

operation_means : (o : Masking) → operation_of (mask_code o) ≡ operation_for o
unfolding operation_of
operation_means Set = refl
operation_means Or = refl
operation_means Clear = refl
operation_means Toggle = refl
operation_means Xor = refl
operation_means And = refl

-- it changes what was meant
pub means : (l : Layout) (gs : List ℕ) (r : Request) (d : List ℕ) → Writable (fields_of r d) → (row_of l gs r d).change ≡ change_for l gs r d
unfolding line command_of fields_of change_for
means l gs Version d w = refl
means l gs ListVariables d w = refl
means l gs ListGroups d w = refl
means l gs (ShowGroup g) d w = refl
means l gs ListCurves d w = refl
means l gs (ReadSum c) d w = refl
means l gs ListFunctions d w = refl
means l gs (ReadVariable i) d w = refl
means l gs (ReadGroup g) d w = refl
means l gs (WriteVariable i) d w = refl
means l gs (WriteGroup g) d w = refl
means l gs (MaskVariable i o) d w = ap (λ x. edit x (i ∷ []) (d ∷ [])) (operation_means o)
means l gs (MaskGroup g o) d w = ap (λ x. edit x (members l gs g) (cut (map (size_of l) (members l gs g)) d)) (operation_means o)
means l gs (WriteRead i j) d w = refl
means l gs MakeGroup d w = ap (λ p. regroup (gs ++ set_of l (map variable p) ∷ [])) (sorted_payload d) ∙ ap (λ m. regroup (gs ++ m ∷ [])) (sorted_set l d)
means l gs RemoveGroups d w = refl
means l gs (ReadBlock c k) d w = refl
means l gs (WriteBlock c k) d w = ap (λ n. fill (block_place l c n) d) (block_read k w.blocks)
means l gs (RenewSum c) d w = refl
means l gs (RunFunction f) d w = refl
