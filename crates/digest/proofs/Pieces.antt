-- A message in pieces, as callers cite it: `begin`, a `feed` for each piece, and `finish`. Assumes nothing.
use Rattle.std.proofs.Common.{◌≡◌, ℕ, List, [], ◌++◌, sym, ap, ◌∙◌}
use Rattle.rfc1321.specs.Md5.{digest}
use Rattle.digest.specs.Stream.{Stream, held, begun, fed, closed}
use Rattle.digest.specs.declared.Progress.{Progress}
use Rattle.digest.proofs.Chunks.{fed_fed}
use Rattle.digest.proofs.Closing.{closed_nil, closed_digest}

-- a loop over the pieces of m, where l is what is left of m: fed by l, what is held comes to what `begin` gives, fed by m. A turn feeds the piece v
pub piece_next : (v l l' : List ℕ) (p p' : Progress) (x : Stream) → held p' ≡ fed (held p) v → l ≡ v ++ l' → fed (held p) l ≡ x → fed (held p') l' ≡ x
piece_next v l l' p p' x e c h = ap (λ (y : Stream). fed y l') e ∙ fed_fed (held p) v l' ∙ ap (fed (held p)) (sym c) ∙ h

-- where nothing is left, `finish` gives the digest of m
pub pieces_digest : (m l r : List ℕ) (p p₀ : Progress) → r ≡ closed (held p) → fed (held p) l ≡ fed (held p₀) m → l ≡ [] → held p₀ ≡ begun → r ≡ digest m
pieces_digest m l r p p₀ e h n s =
    e ∙ sym (closed_nil (held p)) ∙ ap closed (ap (fed (held p)) (sym n) ∙ h ∙ ap (λ (x : Stream). fed x m) s) ∙ closed_digest m

-- all in one piece
pub digest_made : (m r : List ℕ) (p p₀ : Progress) → r ≡ closed (held p) → held p ≡ fed (held p₀) m → held p₀ ≡ begun → r ≡ digest m
digest_made m r p p₀ e h s = e ∙ ap closed (h ∙ ap (λ (x : Stream). fed x m) s) ∙ closed_digest m
