-- A message in a unicast packet is carried out, on any usable board; so 01's five wrong nodes don't meet the definition.
-- Assumes nothing.
use mathlib.Core.Path.{◌≡◌, refl, sym, ap, ap₂, ◌∙◌}
use mathlib.Core.Bool.{Bool, true, false}
use mathlib.Core.List.{List, [], ◌∷◌, ◌++◌}
use Prim.Native.Nat.{ℕ, ◌+◌, ◌-◌, ◌%◌, ◌≤◌, ◌^◌, ◌*◌}
use native.Mathlib.Omega.{arith}
use lib.Dec.{leb, lit≤}
use lib.IntN.{pos}
use lib.ListN.{length, length-append, length-map}
use lib.Pow.{pow_mono}
use lib.Seq.{take_at}
use borrow.Author.Tests.{eq-eqb, eqb-false, le-ltb, lt-ltb, lt-leb, leb-true}
use Rattle.bsmp.specs.Base.{sum, some, byte_at}
use Rattle.bsmp.specs.Board.{variable, Table, layout, State, with_groups, set_of, variable_rules, usable, usable_variables, faults}
use Rattle.bsmp.specs.Message.{line, message_of, check, judge, asked, spoken, said, state_after, after, carried, handled}
use Rattle.bsmp.specs.Codes.{command_of, Pass}
use Rattle.bsmp.specs.Packet.{Place, Ending, reply, Result, refuse, usable_place, checksum, packed, frame, ends, place_tests, packet_tests, served, packet, message}
use Rattle.bsmp.specs.Number.{in_range, record_of, reading_tests, Reading, is, reading, bytes_of, is_big, kind_at}
use Rattle.bsmp.specs.Apart.{Event, answer_of, later}
use Rattle.bsmp.specs.declared.VariableNumber.{VariableNumber}
use Rattle.bsmp.specs.declared.Variable.{Variable}
use Rattle.bsmp.proofs.Bools.{and_true, all_at}
use Rattle.bsmp.proofs.Chain.{clear, first_clear}
use Rattle.bsmp.proofs.Usable.{usable_parts, usable_clear}
use Rattle.bsmp.proofs.Room.{packed_sum}
use Rattle.bsmp.proofs.Stays.{later_usable}
use Rattle.bsmp.proofs.Number.{there, length_bytes_lem, reading_size}

-- a board in use
pub record Ready (t : Table) (a : Place) (room : ℕ) (s : State) : Type 0 where
  pub board : usable t s ≡ true
  pub place : usable_place a ≡ true
  pub enough : 4104 ≤ room

pub packed_message : (d : ℕ) (m : List ℕ) → message (packed d m) ≡ m
packed_message d m = take_at m (checksum (d ∷ m) ∷ []) (length (packed d m) - 2) (simp length-append (omega arith))

place_clear : (t : Table) (a : Place) (room : ℕ) (s : State) → Ready t a room s → clear (place_tests a room)
place_clear t a room s r = rw (r.place, le-ltb room 4104 r.enough)

packed_clear : (a : Place) (m : List ℕ) → length m ≤ 4102 → clear (packet_tests a (packed a.own m))
packed_clear a m h =
    let n : length (packed a.own m) ≡ length m + 2 = simp length-append (omega arith) in
    rw (
      le-ltb (length (packed a.own m)) 2 (omega arith),
      le-ltb 4104 (length (packed a.own m)) (omega arith),
      eq-eqb (sum (packed a.own m) % 256) 0 (packed_sum a.own m),
      eq-eqb a.own a.own refl,
    )

pub unicast : (t : Table) (a : Place) (busy room : ℕ) (m : List ℕ) (s : State) → Ready t a room s → length m ≤ 4102
    → packet t a busy room (packed a.own m) s ≡ served (layout t) busy true m s
unfolding packet
unicast t a busy room m s r h =
    first_clear (faults t s) (refuse s) _ (usable_clear t s r.board)
    ∙ first_clear (place_tests a room) (refuse s) _ (place_clear t a room s r)
    ∙ first_clear (packet_tests a (packed a.own m)) (refuse s) _ (packed_clear a m h)
    ∙ ap₂ (λ due x. served (layout t) busy due x s) (eq-eqb a.own a.own refl) (packed_message a.own m)

pub some_variable : (t : Table) (s : State) → usable t s ≡ true → 1 ≤ length t.variables
unfolding usable_variables
some_variable t s h = leb-true _ _ (and_true (leb 1 (length t.variables)) _ (all_at (variable_rules t.variables) (usable_parts t s h).variables 0)).0

abbrev version_answer : Ending
version_answer = reply (frame 0x01 (2 ∷ 20 ∷ 0 ∷ []))

-- the code of an answer
abbrev code_of : Ending → ℕ
code_of e = byte_at (answer_of e) 1

-- a message that comes to such a board in a packet to its own address, and that no error stops: the laws below ask of a wrong node only
-- what it does with these, so one that is wrong on good packets alone is shut out
pub record Accepted (t : Table) (busy : ℕ) (s : State) (m : List ℕ) : Type 0 where
  pub fits : length m ≤ 4102
  pub passes : judge (layout t) s.groups busy m ≡ Pass

abbrev version_message : List ℕ
version_message = message_of 0x00 []

abbrev removal : List ℕ
removal = message_of 0x32 []

abbrev making : List ℕ
making = message_of 0x30 (0 ∷ [])

module _ (t : Table) (a : Place) (busy room : ℕ) (s : State) (r : Ready t a room s) where
  abbrev sent : List ℕ → Result
  sent m = packet t a busy room (packed a.own m) s

  version_accepted : Accepted t busy s version_message
  unfolding judge check line command_of Rattle.bsmp.specs.Base.first
  version_accepted = record { fits = lit≤ tt; passes = refl }

  version_answered : sent version_message ≡ record { ending = version_answer; state = s }
  unfolding served handled carried judge check line said state_after spoken after ends command_of Rattle.bsmp.specs.Base.first
  version_answered = unicast t a busy room version_message s r (lit≤ tt)

  removal_accepted : Accepted t busy s removal
  unfolding judge check line command_of Rattle.bsmp.specs.Base.first
  removal_accepted = record { fits = lit≤ tt; passes = refl }

  groups_removed : sent removal ≡ record { ending = reply (frame 0xE0 []); state = with_groups s [] }
  unfolding served handled carried judge check line said state_after spoken after ends command_of Rattle.bsmp.specs.Base.first
  groups_removed = unicast t a busy room removal s r (lit≤ tt)

  some_size : 1 ≤ length (layout t).sizes
  some_size = rw (length-map t.variables (λ v. v.size)) (some_variable t s r.board)

  making_accepted : s.groups ≡ [] → Accepted t busy s making
  unfolding judge check line command_of Rattle.bsmp.specs.Base.first
  making_accepted none =
      let l : length s.groups ≡ 0 = ap length none in
      record {
        fits = lit≤ tt;
        passes = rw (le-ltb (length (layout t).sizes) 1 some_size, lt-ltb 0 (length (layout t).sizes) some_size, lt-leb 5 (length s.groups) (omega arith));
      }

  first_made : s.groups ≡ [] → (sent making).state.groups ≡ s.groups ++ set_of (layout t) (variable 0 ∷ []) ∷ []
  unfolding served handled carried line state_after after command_of
  first_made none =
      ap (λ x. x.state.groups) (unicast t a busy room making s r (lit≤ tt))
      ∙ ap (λ v. (state_after (asked (layout t) s.groups making) v s).groups) (making_accepted none).passes

  -- answers E2 to all
  pub not_E2_to_all : ((m : List ℕ) → Accepted t busy s m → (sent m).ending ≡ reply (frame 0xE2 [])) → ⊥
  unfolding frame
  not_E2_to_all h = eqb-false 0x01 0xE2 refl (ap code_of (sym (ap (λ x. x.ending) version_answered) ∙ h version_message version_accepted))

  -- sends the same reply always
  pub not_one_reply : (e : Ending) → ((m : List ℕ) → Accepted t busy s m → (sent m).ending ≡ e) → ⊥
  unfolding frame
  not_one_reply e h =
      eqb-false 0x01 0xE0 refl (ap code_of (sym (ap (λ x. x.ending) version_answered) ∙ h version_message version_accepted
      ∙ sym (h removal removal_accepted) ∙ ap (λ x. x.ending) groups_removed))

  -- changes nothing: then there would be no made groups, and a first one could not be made
  pub not_frozen : ((m : List ℕ) → Accepted t busy s m → (sent m).state ≡ s) → ⊥
  not_frozen h =
      let none : s.groups ≡ [] = sym (ap (λ x. x.groups) (sym (ap (λ x. x.state) groups_removed) ∙ h removal removal_accepted)) in
      let gone : s.groups ++ set_of (layout t) (variable 0 ∷ []) ∷ [] ≡ [] =
      sym (first_made none) ∙ ap (λ x. x.groups) (h making (making_accepted none)) ∙ none in
      let l : length (s.groups ++ set_of (layout t) (variable 0 ∷ []) ∷ []) ≡ 0 = ap length gone in
      omega (arith, simp length-append at l)

-- serves only its first packet: whatever came before, the board is in use and each message is served ..
pub still_ready : (t : Table) (a : Place) (room : ℕ) (es : List Event) (s : State) → Ready t a room s → Ready t a room (later t a es s)
still_ready t a room es s r = record { board = later_usable t a es s r.board; place = r.place; enough = r.enough }

pub still_served : (t : Table) (a : Place) (busy room : ℕ) (es : List Event) (m : List ℕ) (s : State) → Ready t a room s → length m ≤ 4102
    → packet t a busy room (packed a.own m) (later t a es s) ≡ served (layout t) busy true m (later t a es s)
still_served t a busy room es m s r h = unicast t a busy room m (later t a es s) (still_ready t a room es s r) h

-- .. so there is no one thing that the next accepted messages all come to
pub not_first_only : (t : Table) (a : Place) (busy room : ℕ) (es : List Event) (s : State) → Ready t a room s
    → (e : Ending) → ((m : List ℕ) → Accepted t busy (later t a es s) m → (packet t a busy room (packed a.own m) (later t a es s)).ending ≡ e) → ⊥
not_first_only t a busy room es s r = not_one_reply t a busy room (later t a es s) (still_ready t a room es s r)

-- a reading that always gives 0: of any variable that a usable board declares as such a number, the bytes of 1 read as 1
one_fits : (sg : Bool) (n : ℕ) → 1 ≤ n → in_range sg n (pos 1) ≡ true
unfolding in_range
one_fits true n h = lt-ltb 1 (2 ^ (8 * n - 1)) (pow_mono {i = 1} (omega arith))
one_fits false n h = lt-ltb 1 (2 ^ (8 * n)) (pow_mono {i = 1} (omega arith))

pub not_always_zero : (vs : List Variable) (i : VariableNumber) (sg : Bool) → clear (reading_tests vs i sg (record_of vs i).size)
    → ((bs : List ℕ) → length bs ≡ (record_of vs i).size → reading vs i sg bs ≡ is (pos 0)) → ⊥
unfolding reading
not_always_zero vs i sg c h =
    let n : ℕ = (record_of vs i).size in
    let big : Bool = is_big (kind_at vs i) in
    let bs : List ℕ = bytes_of big n (pos 1) in
    let some : 1 ≤ n = reading_size vs i sg n c in
    let k : length bs ≡ n = length_bytes_lem big n (pos 1) in
    let e : reading vs i sg bs ≡ is (pos 1) =
    first_clear (reading_tests vs i sg (length bs)) Reading.refused _ (rw k c) ∙ ap is (there sg big n (pos 1) some (one_fits sg n some)) in
    let q : is (pos 1) ≡ is (pos 0) = sym e ∙ h bs k in
    let z : ◌≡◌ {A = ℕ} 1 0 = cc in omega arith
