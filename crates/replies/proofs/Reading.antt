-- From the answer to the reply: the request that a match found, an error, and where the table counts. Assumes nothing.
use mathlib.Core.Path.{◌≡◌, refl, sym, ap, ◌∙◌}
use mathlib.Core.Bool.{Bool, true, false, cond, not, ◌&&◌, ◌||◌, true≢false}
use mathlib.Core.List.{List}
use Prim.Native.Nat.{ℕ, ◌-◌}
use Rattle.std.proofs.Common.{Some, None, Result, Ok, Err}
use lib.Dec.{eqb}
use lib.ListN.{length, drop, get_or}
use borrow.Rule.Slice.PartMut.{mid_of}
use Rattle.bsmp.specs.Base.{byte_at, first}
use Rattle.bsmp.specs.Packet.{message}
use Rattle.bsmp.specs.declared.WireError.{WireError}
use Rattle.bsmp.specs.declared.Refusal.{Refusal}
use Rattle.bsmp.specs.declared.Refusal.TheVariants.{BoardUnusable, ReplyUnfit}
use Rattle.records.specs.Lending.{curves_of, functions_of}
use Rattle.asking.specs.Request.{is_multicast}
use Rattle.asking.specs.Learned.{Learned, usable_learned}
use Rattle.asking.specs.Reply.{Wanted, wanted, done, version, variable_list, group_list, member_list, curve_list, function_list, values, block, digest, output}
use Rattle.asking.specs.Reply.{Heard, is_error, is_sized, error_reply, error_of, answers, tells, is_whole, Hearing, hears, hearing, told_of}
use Rattle.asking.specs.Learning.{blank}
use Rattle.asking.specs.declared.Request.{Request}
use Rattle.asking.specs.declared.Request.TheVariants.{Version, ListVariables, ListGroups, ShowGroup, ListCurves, ReadSum, ListFunctions, ReadVariable, ReadGroup, WriteVariable, WriteGroup}
use Rattle.asking.specs.declared.Request.TheVariants.{MaskVariable, MaskGroup, WriteRead, MakeGroup, RemoveGroups, ReadBlock, WriteBlock, RenewSum, RunFunction}
use Rattle.asking.specs.declared.Told.{Told}
use Rattle.asking.specs.declared.Told.TheVariants as T
use Rattle.learned.specs.Answered.{answered}
use Rattle.replies.specs.Reading.{opened_of, message_heard, heard_by}
use Rattle.replies.proofs.Opening.{refused_first, message_first, message_least, code_at, payload_at}

-- a message: an error, or the answer; b says which
module _ (x : Learned) (w : Wanted) (c : ℕ) (p : List ℕ) (b : Bool) (e : b ≡ error_reply c p) where
  error_told : (y : WireError) → b ≡ true → y ≡ error_of c → Ok (T.Error y) ≡ told_of (message_heard x w c p)
  error_told y h k = rw (← e, h, k)

  answer_told : (t : Result Told Refusal) → b ≡ false → t ≡ told_of (answered x w c p) → t ≡ told_of (message_heard x w c p)
  answer_told t h k = rw (← e, h) k

-- a reply: its refusal, or its message
module _ (to : ℕ) (q : List ℕ) (o : Result (Unit {0}) Refusal) (h : o ≡ opened_of to q) (x : Learned) (w : Wanted) where
  pub reply_refused : (n : Refusal) → o ≡ Err n → Err n ≡ told_of (heard_by x w to q)
  reply_refused n e = ap told_of (refused_first to q o h Hearing.refused _ n e)

  module _ (e : o ≡ Ok tt) where
    reply_message : (t : Result Told Refusal) → t ≡ told_of (message_heard x w (get_or q 1 0) (mid_of 4 (length q - 1 - 4) q)) → t ≡ told_of (heard_by x w to q)
    reply_message t k =
        let l = message_least to q o h e in
        (rw (code_at q l, payload_at q l) at k) ∙ ap told_of (message_first to q o h Hearing.refused (message_heard x w (byte_at (message q) 0) (drop 3 (message q))) e)

    module _ (b : Bool) (be : b ≡ error_reply (get_or q 1 0) (mid_of 4 (length q - 1 - 4) q)) where
      pub reply_error : (y : WireError) → b ≡ true → y ≡ error_of (get_or q 1 0) → Ok (T.Error y) ≡ told_of (heard_by x w to q)
      reply_error y u k = reply_message _ (error_told x w _ _ b be y u k)

      pub reply_answer : (t : Result Told Refusal) → b ≡ false → t ≡ told_of (answered x w (get_or q 1 0) (mid_of 4 (length q - 1 - 4) q)) → t ≡ told_of (heard_by x w to q)
      reply_answer t u k = reply_message t (answer_told x w _ _ b be t u k)

-- the table counts for the same requests, whatever it is; for the others all tables give the same
module _ (x y : Learned) where
  same_wanted : (r : Request) → (is_sized (wanted x r) ≡ is_sized (wanted y r)) × (is_sized (wanted y r) ≡ false → wanted x r ≡ wanted y r)
  unfolding wanted
  same_wanted Version = (refl, λ h. refl)
  same_wanted ListVariables = (refl, λ h. refl)
  same_wanted ListGroups = (refl, λ h. refl)
  same_wanted (ShowGroup g) = (refl, λ h. refl)
  same_wanted ListCurves = (refl, λ h. refl)
  same_wanted (ReadSum c) = (refl, λ h. refl)
  same_wanted ListFunctions = (refl, λ h. refl)
  same_wanted (ReadVariable i) = (refl, λ h. absurd (true≢false h))
  same_wanted (ReadGroup g) = (refl, λ h. absurd (true≢false h))
  same_wanted (WriteVariable i) = (refl, λ h. refl)
  same_wanted (WriteGroup g) = (refl, λ h. refl)
  same_wanted (MaskVariable i o) = (refl, λ h. refl)
  same_wanted (MaskGroup g o) = (refl, λ h. refl)
  same_wanted (WriteRead i j) = (refl, λ h. absurd (true≢false h))
  same_wanted MakeGroup = (refl, λ h. refl)
  same_wanted RemoveGroups = (refl, λ h. refl)
  same_wanted (ReadBlock c k) = (refl, λ h. refl)
  same_wanted (WriteBlock c k) = (refl, λ h. refl)
  same_wanted (RenewSum c) = (refl, λ h. refl)
  same_wanted (RunFunction f) = (refl, λ h. refl)

  plain : (w : Wanted) (c : ℕ) (p : List ℕ) → is_sized w ≡ false → answered x w c p ≡ answered y w c p
  unfolding answers tells
  plain done c p h = refl
  plain version c p h = refl
  plain variable_list c p h = refl
  plain group_list c p h = refl
  plain (member_list g) c p h = refl
  plain curve_list c p h = refl
  plain function_list c p h = refl
  plain (values b k is) c p h = absurd (true≢false h)
  plain (block v k) c p h = absurd (true≢false h)
  plain (digest v) c p h = absurd (true≢false h)
  plain (output f) c p h = absurd (true≢false h)

  same_reply : (r : Request) (to : ℕ) (q : List ℕ) → is_sized (wanted y r) ≡ false → heard_by x (wanted x r) to q ≡ heard_by y (wanted y r) to q
  same_reply r to q h = rw ((same_wanted r).1 h, plain (wanted y r) (byte_at (message q) 0) (drop 3 (message q)) h)

-- refusal 1 goes before the others
unfitting : (o e a : Bool) (u v : Heard)
    → cond (not (o && (e || a))) (Hearing.refused ReplyUnfit) (hears (cond e u v)) ≡ cond (not o) (Hearing.refused ReplyUnfit) (cond e (hears u) (cond a (hears v) (Hearing.refused ReplyUnfit)))
unfitting false e a u v = refl
unfitting true true a u v = refl
unfitting true false true u v = refl
unfitting true false false u v = refl

module _ (x : Learned) (to : ℕ) (r : Request) (q : List ℕ) where
  tested : hearing x to r q ≡ cond (is_sized (wanted x r) && not (usable_learned x)) (Hearing.refused BoardUnusable) (heard_by x (wanted x r) to q)
  unfolding hearing first
  tested =
      let c : ℕ = byte_at (message q) 0 in
      let p : List ℕ = drop 3 (message q) in
      rw (unfitting (not (is_multicast to) && eqb (byte_at q 0) 0 && is_whole (message q)) (error_reply c p) (answers x (wanted x r) c p) (is_error (error_of c)) (tells x (wanted x r) c p))

  module _ (b : Bool) (e : (is_sized (wanted x r) && not (usable_learned x)) ≡ b) where
    stopped : b ≡ true → hearing x to r q ≡ Hearing.refused BoardUnusable
    stopped h = tested ∙ ap (λ z. cond z (Hearing.refused BoardUnusable) (heard_by x (wanted x r) to q)) (e ∙ h)

    passed : b ≡ false → hearing x to r q ≡ heard_by x (wanted x r) to q
    passed h = tested ∙ ap (λ z. cond z (Hearing.refused BoardUnusable) (heard_by x (wanted x r) to q)) (e ∙ h)

  -- b says whether the table counts
  module _ (b : Bool) (e : b ≡ is_sized (wanted blank r)) where
    counts : is_sized (wanted x r) ≡ b
    counts = (same_wanted x blank r).0 ∙ sym e

    pub hearing_plain : (t : Result Told Refusal) → b ≡ false → (let y = blank in t ≡ told_of (heard_by y (wanted y r) to q)) → t ≡ told_of (hearing x to r q)
    unfolding curves_of functions_of
    hearing_plain t h k =
        let o : is_sized (wanted blank r) ≡ false = sym e ∙ h in
        k ∙ ap told_of (sym (passed _ (rw (counts, h)) refl ∙ same_reply x blank r to q o))

    module _ (h : b ≡ true) where
      unusable : (is_sized (wanted x r) && not (usable_learned x)) ≡ not (usable_learned x)
      unusable = rw (counts, h)

      pub hearing_unusable : None ≡ cond (usable_learned x) (Some x) None → Err BoardUnusable ≡ told_of (hearing x to r q)
      hearing_unusable k = ap told_of (sym (stopped _ unusable (ap not (known_off (usable_learned x) k))))
        where
          known_off : (u : Bool) → None ≡ cond u (Some x) None → u ≡ false
          known_off true z = cc
          known_off false z = refl

      pub hearing_usable : (k : Learned) (t : Result Told Refusal) → Some k ≡ cond (usable_learned x) (Some x) None → t ≡ told_of (heard_by k (wanted k r) to q) → t ≡ told_of (hearing x to r q)
      hearing_usable k t m z =
          let w = known_on (usable_learned x) m in
          z ∙ ap (λ y. told_of (heard_by y (wanted y r) to q)) w.1 ∙ ap told_of (sym (passed _ unusable (ap not w.0)))
        where
          known_on : (u : Bool) → Some k ≡ cond u (Some x) None → (u ≡ true) × (k ≡ x)
          known_on true z = (refl, cc)
          known_on false z = cc
