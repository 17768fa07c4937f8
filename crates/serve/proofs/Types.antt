-- Which variables are writable: a command that does not look at that is served alike under any marks. Assumes nothing.
use mathlib.Core.Path.{◌≡◌, refl, sym, ap, subst, ◌∙◌}
use mathlib.Core.Bool.{Bool, true, false, true≢false}
use mathlib.Core.List.{List}
use Prim.Native.Nat.{ℕ, ◌≤◌}
use lib.ListN.{length, drop}
use Rattle.bsmp.specs.Base.{every, byte_at, first}
use Rattle.bsmp.specs.Board.{Layout, State, is_type, set_of}
use Rattle.bsmp.specs.Codes.{command_of, Pass, Fail}
use Rattle.bsmp.specs.Message.{curve_list, function_list, Line, tests_of, line, check, form_tests, judge, asked, carried, handled}
use Rattle.bsmp.specs.Store.{Lent, held}
use Rattle.bsmp.specs.declared.Command.{Command}
use Rattle.bsmp.specs.declared.Command.TheVariants.{Version, ListVariables, ListGroups, ShowGroup, ListCurves, ReadSum, ListFunctions, ReadVariable, ReadGroup, WriteVariable, WriteGroup}
use Rattle.bsmp.specs.declared.Command.TheVariants.{MaskVariable, MaskGroup, WriteRead, MakeGroup, RemoveGroups, ReadBlock, WriteBlock, RenewSum, RunFunction, Unknown}
use Rattle.records.specs.Lending.{writable_marks}
use Rattle.judging.specs.Judging.{lent_layout, SoundBoard}
use Rattle.changes.specs.Changes.{LeftAs}
use Rattle.changes.specs.declared.Regroup.{Regroup}
use Rattle.answers.specs.Answers.{Spoke}
use Rattle.answers.specs.declared.Spoken.{Spoken}
use Rattle.serve.specs.Serve.{looks_at_types, SoundTypes, MarksFor, typed_layout, ServedAs}

-- the marks, made where they are looked at
module _ (k : Command) (ws : List ℕ) (b : Bool) (e : b ≡ looks_at_types k) where
  pub marks_made : (w : ℕ) → w ≡ writable_marks ws → MarksFor k ws w
  marks_made w h = record { marks = λ _. h }

  pub marks_spared : (w : ℕ) → b ≡ false → MarksFor k ws w
  marks_spared w h = record { marks = λ q. absurd (true≢false (sym q ∙ sym e ∙ h)) }

pub types_few : (ws : List ℕ) → SoundTypes ws → length ws ≤ 64
types_few ws h = h.few

pub types_each : (ws : List ℕ) → SoundTypes ws → every is_type ws ≡ true
types_each ws h = h.each

-- the marks of the writable variables count for nothing where the command does not look at them
module _ (ns cs fs gs : List ℕ) (w w' : ℕ) where
  line_same : (p : List ℕ) (k : Command) → looks_at_types k ≡ false → line (lent_layout ns w cs fs) gs p k ≡ line (lent_layout ns w' cs fs) gs p k
  unfolding line set_of curve_list function_list
  line_same p Version e = refl
  line_same p ListVariables e = absurd (true≢false e)
  line_same p ListGroups e = absurd (true≢false e)
  line_same p ShowGroup e = absurd (true≢false e)
  line_same p ListCurves e = refl
  line_same p ReadSum e = refl
  line_same p ListFunctions e = refl
  line_same p ReadVariable e = refl
  line_same p ReadGroup e = absurd (true≢false e)
  line_same p WriteVariable e = absurd (true≢false e)
  line_same p WriteGroup e = absurd (true≢false e)
  line_same p MaskVariable e = absurd (true≢false e)
  line_same p MaskGroup e = absurd (true≢false e)
  line_same p WriteRead e = absurd (true≢false e)
  line_same p MakeGroup e = refl
  line_same p RemoveGroups e = refl
  line_same p ReadBlock e = refl
  line_same p WriteBlock e = refl
  line_same p RenewSum e = refl
  line_same p RunFunction e = refl
  line_same p Unknown e = refl

-- a message is handled alike, whichever of the two has the line
handled_same : (l l' : Layout) (busy : ℕ) (m : List ℕ) (s : State) → asked l s.groups m ≡ asked l' s.groups m → handled l busy m s ≡ handled l' busy m s
unfolding handled judge check
handled_same l l' busy m s e = ap (λ (n : Line). carried n (first (form_tests m) Fail (first (tests_of n busy) Fail Pass)) s) e

module _ (ns ws cs fs : List ℕ) (busy : ℕ) (m : List ℕ) (x : Lent) (k : Command) (w : ℕ) (e : k ≡ command_of (byte_at m 0)) (h : MarksFor k ws w) where
  abbrev typed : Layout
  typed = typed_layout ns ws cs fs

  abbrev marked : Layout
  marked = lent_layout ns w cs fs

  marks_enough : handled marked busy m (held marked x) ≡ handled typed busy m (held typed x)
  marks_enough = handled_same marked typed busy m (held marked x) (by (looks_at_types k) refl)
    where
      by : (b : Bool) → looks_at_types k ≡ b → asked marked x.groups m ≡ asked typed x.groups m
      by true q = ap (λ n. asked (lent_layout ns n cs fs) x.groups m) (h.marks q)
      by false q = line_same ns cs fs x.groups w (writable_marks ws) (drop 3 m) (command_of (byte_at m 0)) (rw (← e) q)

  -- so what is served by such marks is served as the board's own types ask
  pub typed_served : (due : Bool) (r : List ℕ) (at : ℕ) (s : Spoken) (g : Regroup) (r' : List ℕ) (y : Lent) → ServedAs due marked busy m x r at s g r' y → ServedAs due typed busy m x r at s g r' y
  typed_served due r at s g r' y z = record {
    spoke = subst (λ u. Spoke due u.says r at s r') marks_enough z.spoke;
    leaves = subst (λ u. LeftAs typed u.state g y) marks_enough (record { holds = z.leaves.holds; some_removed = z.leaves.some_removed });
  }
