-- Values that are read: of a variable, and of a group. Assumes nothing.
use mathlib.Core.Path.{◌≡◌, refl, sym, ap, ◌∙◌}
use mathlib.Core.Bool.{Bool, true, false, cond, not, ◌&&◌}
use mathlib.Core.List.{List, [], ◌∷◌, map}
use Prim.Native.Nat.{ℕ, ◌+◌, ◌≤◌, ◌<◌}
use native.Mathlib.Omega.{arith}
use lib.Dec.{ltb, eqb}
use lib.ListN.{length, drop, get_or, length-take, length-drop}
use borrow.Author.Tests.{eqb-true, lt-ltb, le-ltb}
use Rattle.bsmp.specs.Base.{sum, cut}
use Rattle.bsmp.specs.Board.{size_of, members}
use Rattle.bsmp.specs.Message.{no_variable, no_group}
use Rattle.bsmp.specs.declared.VariableNumber.{VariableNumber}
use Rattle.bsmp.specs.declared.GroupNumber.{GroupNumber}
use Rattle.bsmp.specs.declared.Refusal.{Refusal}
use Rattle.bsmp.specs.declared.Refusal.TheVariants.{ReplyUnfit}
use Rattle.std.specs.Prelude.{Result, Ok, Err}
use Rattle.bsmp.proofs.Bools.{and_true}
use Rattle.sets.specs.Members.{set_bytes}
use Rattle.sets.specs.Promises.{GroupSet}
use Rattle.asking.specs.Learned.{Learned}
use Rattle.asking.specs.Reply.{paired, values, answers, tells, is_values, hears, Hearing, told_of}
use Rattle.asking.specs.declared.Told.{Told}
use Rattle.asking.specs.declared.Told.TheVariants as T
use Rattle.learned.specs.Table.{table_in}
use Rattle.learned.specs.Answered.{answered}

-- what is named is one of m
module _ (i m n : ℕ) (e : m ≡ n) where
  known_on : i < m → not (not (ltb i n)) ≡ true
  known_on h = rw (← e, lt-ltb i m h)

  known_off : m ≤ i → not (not (ltb i n)) ≡ false
  known_off h = rw (← e, le-ltb i m h)

-- the parts of a payload of exactly the size have its length
parts_length : (f : VariableNumber → ℕ) (is : List VariableNumber) (p : List ℕ) → length p ≡ sum (map f is)
    → length p ≡ sum (map (λ v. length v.bytes) (paired is (cut (map f is) p)))
unfolding sum
parts_length f [] p h = h
parts_length f (i ∷ is) p h =
    let d : length (drop (f i) p) ≡ sum (map f is) = simp length-drop (omega arith) in
    omega (arith, length-take (f i) p, length-drop (f i) p, parts_length f is (drop (f i) p) d)

-- so many bytes under the code, or none
abbrev told_bytes : (code want size : ℕ) → List ℕ → Result Told Refusal
told_bytes c k n p = cond (eqb c k && eqb (length p) n) (Ok (T.Values n)) (Err ReplyUnfit)

-- as a read's answer has it: b says whether the table has what was named
module _ (x : Learned) (b : Bool) (c k : ℕ) (is : List VariableNumber) (p : List ℕ) where
  values_told : (n : ℕ) → b ≡ true → n ≡ sum (map (size_of x.layout) is) → told_bytes c k n p ≡ told_of (answered x (values b k is) c p)
  unfolding answers tells
  values_told n h e = rw (h, ← e) (by (eqb c k && eqb (length p) n) refl)
    where
      by : (o : Bool) → (eqb c k && eqb (length p) n) ≡ o → cond o (Ok (T.Values n)) (Err ReplyUnfit) ≡ told_of (cond o (hears (is_values (paired is (cut (map (size_of x.layout) is) p)))) (Hearing.refused ReplyUnfit))
      by true o =
          let l : length p ≡ n = eqb-true _ _ (and_true (eqb c k) _ o).1 in
          ap (λ m. Ok (T.Values m)) (sym l ∙ parts_length (size_of x.layout) is p (l ∙ e))
      by false o = refl

  values_unknown : b ≡ false → Err ReplyUnfit ≡ told_of (answered x (values b k is) c p)
  unfolding answers
  values_unknown h = rw h

-- a variable
module _ (ss : List ℕ) (i : VariableNumber) (c : ℕ) (p : List ℕ) where
  abbrev variables : Learned
  variables = table_in ss 0 [] [] []

  abbrev VariableTold : Result Told Refusal → Type 0
  VariableTold r = r ≡ told_of (answered variables (values (not (no_variable variables.layout i)) 0x11 (i ∷ [])) c p)

  pub variable_unknown : length ss ≤ i.0 → VariableTold (Err ReplyUnfit)
  variable_unknown h = values_unknown variables _ c 0x11 (i ∷ []) p (known_off i.0 (length ss) (length ss) refl h)

  pub variable_told : (r : Result Told Refusal) → i.0 < length ss → r ≡ told_bytes c 0x11 (get_or ss i.0 0) p → VariableTold r
  unfolding sum
  variable_told r h e = e ∙ values_told variables _ c 0x11 (i ∷ []) p (get_or ss i.0 0) (known_on i.0 (length ss) (length ss) refl h) (omega arith)

-- a group, whose set it is
module _ (ss : List ℕ) (w : ℕ) (gs : List ℕ) (g : GroupNumber) (c : ℕ) (p : List ℕ) where
  abbrev grouped : Learned
  grouped = table_in ss w gs [] []

  abbrev GroupTold : Result Told Refusal → Type 0
  GroupTold r = r ≡ told_of (answered grouped (values (not (no_group grouped.groups g)) 0x13 (members grouped.layout grouped.groups g)) c p)

  pub group_unknown : 3 + length gs ≤ g.0 → GroupTold (Err ReplyUnfit)
  group_unknown h = values_unknown grouped _ c 0x13 _ p (known_off g.0 (3 + length gs) (3 + length gs) refl h)

  pub group_told : (set n : ℕ) (r : Result Told Refusal) → g.0 < 3 + length gs → GroupSet w gs g set → length ss ≤ 64 → n ≡ set_bytes set ss → r ≡ told_bytes c 0x13 n p → GroupTold r
  unfolding set_bytes
  group_told set n r h s l e k =
      k ∙ values_told grouped _ c 0x13 (members grouped.layout gs g) p n (known_on g.0 (3 + length gs) (3 + length gs) refl h)
      (e ∙ ap (λ is. sum (map (size_of grouped.layout) is)) (sym (s.members_are grouped.layout refl l)))
