-- What `open` meets, one return at a time, and what an opened reply tells its caller. Assumes nothing.
use mathlib.Core.Path.{◌≡◌, sym, ap, ◌∙◌}
use mathlib.Core.Bool.{Bool, true, false, cond, not, ◌&&◌}
use Rattle.std.proofs.Common.{Result, Ok, Err}
use mathlib.Core.List.{List}
use Prim.Native.Nat.{ℕ, ◌+◌, ◌-◌, ◌*◌, ◌%◌, ◌^◌, ◌≤◌, ◌<◌}
use native.Mathlib.Omega.{arith}
use borrow.Author.Tests.{lt-ltb, le-ltb, le-leb, lt-leb, eq-eqb, ne_eqb, leb-true, not-false}
use borrow.Rule.Slice.PartMut.{mid_of}
use lib.Dec.{eqb}
use lib.ListN.{length, take, drop, get_or, length-take, length-drop}
use lib.Seq.{get_or-take, get_or-drop, drop-drop, take-add, drop_at}
use Rattle.bsmp.specs.Base.{sum, byte_at, word_at, first}
use Rattle.bsmp.specs.Packet.{message}
use Rattle.bsmp.specs.declared.Refusal.{Refusal}
use Rattle.bsmp.specs.declared.Refusal.TheVariants.{BadAddress, PacketLength, Checksum, ReplyUnfit}
use Rattle.bsmp.proofs.Bools.{and_true}
use Rattle.bsmp.proofs.Chain.{either, clear_at, first_case, first_map}
use Rattle.asking.specs.Request.{is_multicast, is_address}
use Rattle.asking.specs.Reply.{is_whole}
use Rattle.replies.specs.Reading.{open_tests, opened_of}

-- the message, by places in the reply -----------------------------------------------------------------------------------
module _ (q : List ℕ) where
  message_length : length (message q) ≡ length q - 2
  message_length = simp (length-take, length-drop) (omega arith)

  message_at : (i : ℕ) → i < length q - 2 → byte_at (message q) i ≡ get_or q (1 + i) 0
  message_at i h = get_or-take (length q - 2) (drop 1 q) i 0 h ∙ get_or-drop 1 q i 0

  whole_least : is_whole (message q) ≡ true → 5 ≤ length q
  whole_least h = omega (arith, message_length, leb-true 3 (length (message q)) (and_true _ _ h).0)

  cut_off : length q < 5 → is_whole (message q) ≡ false
  cut_off h = let l : length (message q) < 3 = omega (arith, message_length) in rw (lt-leb 3 (length (message q)) l)

  -- n is the field SIZE
  module _ (n : ℕ) (h : 5 ≤ length q) (e : n ≡ get_or q 2 0 * 256 + get_or q 3 0) where
    size_field : word_at (message q) 1 ≡ n
    size_field = omega (arith, message_at 1 (omega arith), message_at 2 (omega arith))

    size_tested : is_whole (message q) ≡ eqb n (length q - 5)
    size_tested =
        let l : 3 ≤ length (message q) = omega (arith, message_length) in
        let m : length (message q) - 3 ≡ length q - 5 = omega (arith, message_length) in
        rw (le-leb 3 (length (message q)) l, size_field, m)

-- the returns of `open` --------------------------------------------------------------------------------------------------
module _ (to : ℕ) (q : List ℕ) (a : Bool) (ae : a ≡ is_address to) where
  abbrev Opens : Result (Unit {0}) Refusal → Type 0
  Opens o = o ≡ opened_of to q

  pub open_address : a ≡ false → Opens (Err BadAddress)
  unfolding opened_of first
  open_address v = simp (← ae, v)

  module _ (v : a ≡ true) where
    pub open_short : length q < 2 → Opens (Err PacketLength)
    unfolding opened_of first
    open_short h = simp (← ae, v, lt-ltb _ _ h)

    pub open_long : 2 ≤ length q → 4104 < length q → Opens (Err PacketLength)
    unfolding opened_of first
    open_long h k = simp (← ae, v, le-ltb _ _ h, lt-ltb _ _ k)

    module _ (s : ℕ) (e : s ≡ sum q % 256) (h : 2 ≤ length q) (k : length q ≤ 4104) where
      pub open_sum : (s ≡ 0 → ⊥) → Opens (Err Checksum)
      unfolding opened_of first
      open_sum z = simp (← ae, v, le-ltb _ _ h, le-ltb _ _ k, ← e, ne_eqb _ _ z)

      module _ (z : s ≡ 0) where
        -- past the checksum one test is left
        last : (o : Result (Unit {0}) Refusal) → o ≡ cond (not (not (is_multicast to) && eqb (byte_at q 0) 0 && is_whole (message q))) (Err ReplyUnfit) (Ok tt) → Opens o
        unfolding opened_of first
        last o r = simp (← ae, v, le-ltb _ _ h, le-ltb _ _ k, ← e, eq-eqb _ _ z) r

        pub open_multicast : 248 ≤ to → to < 2 ^ 8 → Opens (Err ReplyUnfit)
        open_multicast m b = let o : to ≤ 255 = omega arith in last _ (rw (le-leb 248 to m, le-leb to 255 o))

        module _ (m : to < 248) where
          pub open_elsewhere : (get_or q 0 0 ≡ 0 → ⊥) → Opens (Err ReplyUnfit)
          open_elsewhere d = last _ (rw (lt-leb 248 to m, ne_eqb _ _ d))

          module _ (d : get_or q 0 0 ≡ 0) where
            pub open_cut : length q < 5 → Opens (Err ReplyUnfit)
            open_cut l = last _ (rw (lt-leb 248 to m, d, cut_off q l))

            module _ (n : ℕ) (l : 5 ≤ length q) (f : n ≡ get_or q 2 0 * 256 + get_or q 3 0) where
              pub open_size : (n ≡ length q - 5 → ⊥) → Opens (Err ReplyUnfit)
              open_size w = last _ (rw (lt-leb 248 to m, d, size_tested q n l f, ne_eqb _ _ w))

              pub open_whole : n ≡ length q - 5 → Opens (Ok tt)
              open_whole w = last _ (rw (lt-leb 248 to m, d, size_tested q n l f, eq-eqb _ _ w))

-- what an opened reply tells ----------------------------------------------------------------------------------------------
module _ (to : ℕ) (q : List ℕ) (o : Result (Unit {0}) Refusal) (h : o ≡ opened_of to q) where
  module _ {B : Type 0} (f : Refusal → B) (ok : B) where
    tested : either f ok o ≡ first (open_tests to q) f ok
    unfolding opened_of
    tested = ap (either f ok) h ∙ first_map (either f ok) (open_tests to q) Err (Ok tt)

    pub refused_first : (x : Refusal) → o ≡ Err x → f x ≡ first (open_tests to q) f ok
    refused_first x e = ap (either f ok) (sym e) ∙ tested

    pub message_first : o ≡ Ok tt → ok ≡ first (open_tests to q) f ok
    message_first e = ap (either f ok) (sym e) ∙ tested

  -- the message's head is there
  pub message_least : o ≡ Ok tt → 5 ≤ length q
  unfolding opened_of
  message_least e =
      first_case (λ z. z ≡ Ok tt → 5 ≤ length q) (open_tests to q) Err (Ok tt) (λ x k. absurd (never x k))
      (λ c k. whole_least q (and_true (not (is_multicast to) && eqb (byte_at q 0) 0) _ (not-false _ (clear_at (open_tests to q) c 3))).1) (sym h ∙ e)
    where
      never : (x : Refusal) → ◌≡◌ {A = Result (Unit {0}) Refusal} (Err x) (Ok tt) → ⊥
      never x k = cc

-- its code, and its payload as a part of the reply, `&reply[4..reply.len() - 1]`
module _ (q : List ℕ) (h : 5 ≤ length q) where
  pub message_end : 1 ≤ length q
  message_end = omega arith

  pub message_code : 1 < length q
  message_code = omega arith

  pub message_payload : 4 ≤ length q - 1
  message_payload = omega arith

  pub code_at : get_or q 1 0 ≡ byte_at (message q) 0
  code_at = sym (message_at q 0 (omega arith))

  pub payload_at : mid_of 4 (length q - 1 - 4) q ≡ drop 3 (message q)
  payload_at =
      let n : ℕ = length q - 1 - 4 in
      let e : length q - 2 ≡ 3 + n = omega arith in
      let l : length (take 3 (drop 1 q)) ≡ 3 = simp (length-take, length-drop) (omega arith) in
      sym (ap (λ (k : ℕ). drop 3 (take k (drop 1 q))) e ∙ ap (drop 3) (take-add 3 n (drop 1 q)) ∙ drop_at (take 3 (drop 1 q)) (take n (drop 3 (drop 1 q))) 3 l ∙ ap (take n) (drop-drop 3 1 q))
