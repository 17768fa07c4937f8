-- Where the bytes of a heard reply stand: the payload from place 4 on, a block's bytes from place 7 on, and each value behind those before it.
-- Assumes nothing.
use mathlib.Core.Path.{◌≡◌, refl, sym, ap, ap₂, ◌∙◌}
use mathlib.Core.Bool.{Bool, true, false, cond, ◌&&◌, ◌||◌}
use mathlib.Core.List.{List, [], ◌∷◌, map}
use Prim.Native.Nat.{ℕ, zero, suc, ◌-◌, ◌<◌}
use native.Mathlib.Omega.{arith}
use lib.Dec.{eqb}
use lib.ListN.{length, take, drop, get_or, length-map, get_or-map}
use lib.Seq.{drop-drop}
use borrow.Author.Tests.{eqb-true}
use Rattle.bsmp.specs.Base.{sum, cut}
use Rattle.bsmp.specs.Board.{variable, size_of}
use Rattle.bsmp.specs.Store.{start}
use Rattle.bsmp.specs.Packet.{message}
use Rattle.bsmp.specs.declared.VariableNumber.{VariableNumber}
use Rattle.bsmp.proofs.Bools.{and_true}
use Rattle.bsmp.proofs.Store.{piece, lengths_cut}
use Rattle.bsmp.proofs.Input.{drop_take}
use Rattle.asking.specs.Learned.{Learned}
use Rattle.asking.specs.Reply.{Wanted, values, wanted, Value, value, is_error, is_values, error_reply, error_of, answers, paired, tells, hears, hearing}
use Rattle.asking.specs.declared.Request.{Request}
use Rattle.asking.proofs.Lists.{clash}
use Rattle.asking.proofs.Frames.{code_in, payload_in, taken}

pub payload_place : (q : List ℕ) → drop 3 (message q) ≡ take (length q - 5) (drop 4 q)
payload_place q =
    let n : length q - 2 - 3 ≡ length q - 5 = omega arith in
    drop_take 3 (length q - 2) (drop 1 q) ∙ ap₂ take n (drop-drop 3 1 q)

pub block_place_lem : (q : List ℕ) → drop 3 (drop 3 (message q)) ≡ take (length q - 8) (drop 7 q)
block_place_lem q =
    let n : length q - 5 - 3 ≡ length q - 8 = omega arith in
    ap (drop 3) (payload_place q) ∙ drop_take 3 (length q - 5) (drop 4 q) ∙ ap₂ take n (drop-drop 3 4 q)

-- each variable with its own part
paired_at : (is : List VariableNumber) (ps : List (List ℕ)) (k : ℕ) (v : Value) (i : VariableNumber) → length ps ≡ length is → k < length is
    → get_or (paired is ps) k v ≡ value (get_or is k i) (get_or ps k [])
paired_at [] ps k v i n h = absurd (omega (arith, h))
paired_at (j ∷ is) [] k v i n h = absurd (omega (arith, n))
paired_at (j ∷ is) (p ∷ ps) zero v i n h = refl
paired_at (j ∷ is) (p ∷ ps) (suc k) v i n h = paired_at is ps k v i (omega (arith, n)) (omega (arith, h))

count_paired : (is : List VariableNumber) (ps : List (List ℕ)) → length ps ≡ length is → length (paired is ps) ≡ length is
count_paired [] ps n = refl
count_paired (j ∷ is) [] n = absurd (omega (arith, n))
count_paired (j ∷ is) (p ∷ ps) n = ap suc (count_paired is ps (omega (arith, n)))

-- the values that were asked for, all of them and no other: value k is variable k's, whole, and stands in the payload behind those before it
abbrev none : Value
none = value (variable 0) []

pub record ValuesAt (x : Learned) (is : List VariableNumber) (p : List ℕ) (vs : List Value) : Type 0 where
  pub count : length vs ≡ length is
  pub of : (k : ℕ) → k < length is → (get_or vs k (value (variable 0) [])).of ≡ get_or is k (variable 0)
  pub bytes : (k : ℕ) → k < length is
      → (get_or vs k (value (variable 0) [])).bytes ≡ take (size_of x.layout (get_or is k (variable 0))) (drop (start (map (size_of x.layout) is) k) p)
  pub whole : (k : ℕ) → k < length is → length (get_or vs k (value (variable 0) [])).bytes ≡ size_of x.layout (get_or is k (variable 0))

module _ (x : Learned) (is : List VariableNumber) (p : List ℕ) where
  abbrev ns : List ℕ
  ns = map (size_of x.layout) is

  paired_values : length p ≡ sum ns → ValuesAt x is p (paired is (cut ns p))
  paired_values h =
      let ls : map length (cut ns p) ≡ ns = lengths_cut ns p h in
      let n : length ns ≡ length is = length-map is (size_of x.layout) in
      let c : length (cut ns p) ≡ length is = sym (length-map (cut ns p) length) ∙ ap length ls ∙ n in
      let at : (k : ℕ) → k < length is → get_or (paired is (cut ns p)) k none ≡ value (get_or is k (variable 0)) (get_or (cut ns p) k []) =
      λ k l. paired_at is (cut ns p) k none (variable 0) c l in
      let size : (k : ℕ) → k < length is → get_or ns k 0 ≡ size_of x.layout (get_or is k (variable 0)) = λ k l. size_at_lem is k l in
      record {
        count = count_paired is (cut ns p) c;
        of = λ k l. ap (λ (v : Value). v.of) (at k l);
        bytes = λ k l. ap (λ (v : Value). v.bytes) (at k l) ∙ piece ns p k (omega (arith, n, l)) ∙ ap (λ j. take j (drop (start ns k) p)) (size k l);
        whole = λ k l. ap (λ (v : Value). length v.bytes) (at k l) ∙ sym (get_or-map length (cut ns p) k []) ∙ ap (λ ms. get_or ms k 0) ls ∙ size k l;
      }
    where
      size_at_lem : (is : List VariableNumber) (k : ℕ) → k < length is → get_or (map (size_of x.layout) is) k 0 ≡ size_of x.layout (get_or is k (variable 0))
      size_at_lem [] k l = absurd (omega (arith, l))
      size_at_lem (i ∷ is) zero l = refl
      size_at_lem (i ∷ is) (suc k) l = size_at_lem is k (omega (arith, l))

pub value_place : (x : Learned) (to : ℕ) (r : Request) (q : List ℕ) (b : Bool) (c : ℕ) (is : List VariableNumber) (vs : List Value)
    → wanted x r ≡ values b c is → hearing x to r q ≡ hears (is_values vs) → ValuesAt x is (take (length q - 5) (drop 4 q)) vs
unfolding answers tells
value_place x to r q b c is vs w k = rw (← payload_place q) (by (wanted x r) w (taken x to r q (is_values vs) k).fitting (taken x to r q (is_values vs) k).says)
  where
    told : (e : Bool) → (e || (b && eqb (code_in q) c && eqb (length (payload_in q)) (sum (map (size_of x.layout) is)))) ≡ true
        → is_values vs ≡ cond e (is_error (error_of (code_in q))) (is_values (paired is (cut (map (size_of x.layout) is) (payload_in q)))) → ValuesAt x is (payload_in q) vs
    told true f s = absurd (clash cc)
    told false f s =
        let same : vs ≡ paired is (cut (map (size_of x.layout) is) (payload_in q)) = cc in
        rw same (paired_values x is (payload_in q) (eqb-true _ _ (and_true (b && eqb (code_in q) c) _ f).1))

    by : (w : Wanted) → w ≡ values b c is → (error_reply (code_in q) (payload_in q) || answers x w (code_in q) (payload_in q)) ≡ true
        → is_values vs ≡ cond (error_reply (code_in q) (payload_in q)) (is_error (error_of (code_in q))) (tells x w (code_in q) (payload_in q)) → ValuesAt x is (payload_in q) vs
    by w e f s = told (error_reply (code_in q) (payload_in q)) (rw e at f) (rw e at s)
