-- A message's work: its two ends, what is said to it, and what the definition gives. Assumes nothing.
use Rattle.std.specs.Prelude.{Ok, Err}
use mathlib.Core.Path.{◌≡◌, refl, ap, ◌∙◌, subst}
use mathlib.Core.Bool.{Bool, true, false}
use mathlib.Core.List.{List}
use Prim.Native.Nat.{ℕ, ◌-◌}
use borrow.Rule.Slice.PartMut.{mid_of}
use lib.ListN.{length}
use Rattle.bsmp.specs.Board.{Layout, State, with_groups}
use Rattle.bsmp.specs.Base.{byte_at}
use Rattle.bsmp.specs.Codes.{command_of, error_code, Check, Pass, Fail}
use Rattle.bsmp.specs.Message.{Answer, say, tell, show, attest, call, Line, line, asked, judge, Said, spoken, said, state_after, carried, handled}
use Rattle.bsmp.specs.Store.{Lent, held}
use Rattle.bsmp.specs.declared.WireError.{WireError}
use Rattle.bsmp.specs.declared.Command.{Command}
use Rattle.copies.proofs.Put.{mid_rest}
use Rattle.variables.proofs.One.{sound_kept}
use Rattle.judging.specs.Judging.{lent_in, SameStores, SoundBoard}
use Rattle.judging.specs.declared.Stores.{Stores}
use Rattle.changes.specs.Changes.{regrouped, LeftAs, ChangedBy}
use Rattle.changes.specs.declared.Regroup.{Regroup}
use Rattle.changes.specs.declared.Regroup.TheVariants.{Keep}
use Rattle.changes.proofs.Changes.{all_kept}
use Rattle.answers.specs.Answers.{Spoke}
use Rattle.answers.specs.declared.Spoken.{Spoken}
use Rattle.answers.specs.declared.Spoken.TheVariants.{Reply}
use Rattle.answers.proofs.Answers.{done_said}
use Rattle.serve.specs.Serve.{CarriedOut, Unanswered, Fulfilled, ServedAs}
use Rattle.serve.proofs.Silence.{unheard}

-- carried out: the board is as sound after a change of its stores
module _ (l : Layout) (m : List ℕ) (k : Command) (v : Check) (s : Stores) (gs : List ℕ) (h : SoundBoard l (lent_in s gs)) where
  pub carried_pass : (g : Regroup) (s' : Stores) → SameStores s s' → k ≡ command_of (byte_at m 0) → v ≡ Pass
      → ChangedBy l (lent_in s gs) (line l gs (mid_of 3 (length m - 3) m) k).change g (lent_in s' gs) → CarriedOut l m v (lent_in s gs) g (lent_in s' gs)
  unfolding state_after
  carried_pass g s' a j e w = record {
    leaves = rw e (ChangedBy.leaves (rw (j, mid_rest 3 m) at w));
    sound = record {
      variables = sound_kept l.sizes s.values.now s'.values.now h.variables a.values_long;
      sizes = h.sizes;
      curves = record { usable = h.curves.usable; exact = a.blocks_long ∙ h.curves.exact };
      lengths = record { fit = w.fit };
      sums = record { exact = a.sums_long ∙ h.sums.exact };
      functions = h.functions;
      groups = h.groups;
    };
  }

  pub carried_fail : (e : WireError) → v ≡ Fail e → CarriedOut l m v (lent_in s gs) Keep (lent_in s gs)
  unfolding state_after
  carried_fail e q = record { leaves = rw q (all_kept l (lent_in s gs)); sound = h }

-- what is said to it, where an answer is due
module _ (l : Layout) (gs m : List ℕ) (v : Check) (s : State) (r : List ℕ) (at : ℕ) (t : Spoken) where
  pub respond_pass : (k : Command) (r' : List ℕ) → k ≡ command_of (byte_at m 0) → v ≡ Pass
      → Spoke true (spoken (line l gs (mid_of 3 (length m - 3) m) k).answer s) r at t r' → Spoke true (said (asked l gs m) v s) r at t r'
  unfolding said
  respond_pass k r' j e h = rw (e, ← j, ← mid_rest 3 m) h

  pub respond_fail : (e : WireError) (c : ℕ) → v ≡ Fail e → c ≡ error_code e → t ≡ Reply c 0 → Spoke true (said (asked l gs m) v s) r at t r
  unfolding said
  respond_fail e c h f q = rw (h, ← f) (done_said c r at t q)

-- what is said doesn't look at the groups of the state
spoken_alike : (a : Answer) (s : State) (gs : List ℕ) → spoken a s ≡ spoken a (with_groups s gs)
unfolding spoken
spoken_alike (say c p) s gs = refl
spoken_alike (tell c is) s gs = refl
spoken_alike (show c front k) s gs = refl
spoken_alike (attest c n) s gs = refl
spoken_alike (call g i) s gs = refl

said_alike : (l : Line) (v : Check) (s : State) (gs : List ℕ) → said l v s ≡ said l v (with_groups s gs)
unfolding said
said_alike l (Err x) s gs = refl
said_alike l (Ok _) s gs = spoken_alike l.answer s gs

-- what is said where an answer is due, and where none is
module _ (due : Bool) (x : Said) (r : List ℕ) (at : ℕ) (s : Spoken) (r' : List ℕ) where
  pub said_due : due ≡ true → Spoke true x r at s r' → Spoke due x r at s r'
  said_due d w = rw d w

pub said_quiet : (due : Bool) (l : Layout) (gs m : List ℕ) (v : Check) (st : State) (r : List ℕ) (at : ℕ) (s : Spoken) → due ≡ false → Unanswered v m s
    → Spoke due (said (asked l gs m) v st) r at s r
said_quiet due l gs m v st r at s d u = rw d (unheard (said (asked l gs m) v st) r at s (u.is l gs st))

-- the whole work of a message
pub fulfilled : (due : Bool) (l : Layout) (m : List ℕ) (v : Check) (x : Lent) (r : List ℕ) (at : ℕ) (s : Spoken) (g : Regroup) (r' : List ℕ) (y : Lent)
    → CarriedOut l m v x g y → Spoke due (said (asked l x.groups m) v (held l y)) r at s r' → Fulfilled due l m v x r at s g r' y
fulfilled due l m v x r at s g r' y h w = record { carried = h; spoke = w }

pub served : (due : Bool) (l : Layout) (busy : ℕ) (m : List ℕ) (k : Command) (x : Lent) (r : List ℕ) (at : ℕ) (v : Check) (g : Regroup) (y : Lent) (s : Spoken) (r' : List ℕ)
    → v ≡ judge l x.groups busy m → Fulfilled due l m v x r at s g r' y → ServedAs due l busy m x r at s g r' y
unfolding handled carried
served due l busy m k x r at v g y s r' q f =
    let h : LeftAs l (state_after (asked l x.groups m) v (held l x)) g y = f.carried.leaves in
    let s' : State = state_after (asked l x.groups m) v (held l x) in
    let e : said (asked l x.groups m) v (held l y) ≡ said (asked l x.groups m) v s' =
    said_alike (asked l x.groups m) v (held l y) (regrouped g y.groups) ∙ ap (said (asked l x.groups m) v) h.holds in
    let w : Spoke due (said (asked l x.groups m) v s') r at s r' = subst (λ z. Spoke due z r at s r') e f.spoke in
    record {
      spoke = subst (λ u. Spoke due (said (asked l x.groups m) u (state_after (asked l x.groups m) u (held l x))) r at s r') q w;
      leaves = subst (λ u. LeftAs l (state_after (asked l x.groups m) u (held l x)) g y) q h;
    }
