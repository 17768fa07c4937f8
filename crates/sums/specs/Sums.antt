-- The sums among a board's bytes, what a curve holds, and the sums worked out from it. Assumes nothing.
use Rattle.std.specs.Prelude.{◌≡◌, true, List, [], ◌∷◌, ◌++◌, map, ℕ, ◌+◌, ◌*◌, ◌≤◌, ◌<◌, leb, length, take, drop}
use Rattle.rfc1321.specs.Md5.{digest}
use Rattle.bsmp.specs.Base.{every, join, up_from, cut, byte_at}
use Rattle.bsmp.specs.Board.{curve, curve_of, sum_sizes, block_place}
use Rattle.bsmp.specs.declared.CurveNumber.{CurveNumber}
use Rattle.bsmp.specs.declared.Curve.{Curve}
use Rattle.copies.specs.Put.{part}
use Rattle.parts.specs.Parts.{curves_only}
use Rattle.curves.specs.Fits.{content_at}

-- the sums that the bytes hold, a curve's after another's
abbrev pub sums_in : List Curve → (sums : List ℕ) → List (List ℕ)
sums_in cs sums = cut (sum_sizes cs) sums

-- where a curve's stands among them
abbrev pub sum_at : (sums : List ℕ) → CurveNumber → List ℕ
sum_at sums c = part sums (16 * c.0) 16

-- a payload names a curve whose sum stands among these
pub record SumNamed (sums payload : List ℕ) : Type 0 where
  pub some : 0 < length payload
  pub inside : 16 * byte_at payload 0 + 16 ≤ length sums

-- what a curve holds: what its blocks hold, one after another
abbrev pub content_in : List Curve → (store lengths : List ℕ) → CurveNumber → List ℕ
content_in cs store lengths c = join (map (content_at cs store lengths) (up_from (block_place (curves_only cs) c 0) (curve_of (curves_only cs) c).blocks))

-- the same of blocks of one size, with their lengths, in a store of their own
unfoldable pub covered : (size : ℕ) → (lengths store : List ℕ) → List ℕ
covered size [] store = []
covered size (n ∷ ns) store = take n store ++ covered size ns (drop size store)

pub record Blocks (size : ℕ) (lengths store : List ℕ) : Type 0 where
  pub whole : length store ≡ size * length lengths
  pub fit : every (λ n. leb n size) lengths ≡ true
  pub small : length store ≤ 65536

-- the sums of the first n curves, worked out
abbrev pub fresh_sums : List Curve → (store lengths : List ℕ) → ℕ → List (List ℕ)
fresh_sums cs store lengths n = map (λ c. digest (content_in cs store lengths (curve c))) (up_from 0 n)
