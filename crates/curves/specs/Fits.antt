-- What the commands of curves ask of a board and of a payload, the block that a payload names, and what blocks hold. Assumes nothing.
use Rattle.std.specs.Prelude.{◌≡◌, true, List, [], ℕ, ◌+◌, ◌≤◌, ◌<◌, length, take, get_or}
use Rattle.bsmp.specs.Base.{sum, cut, word_at}
use Rattle.bsmp.specs.Board.{curve_of, block_sizes, sum_sizes, block_place, fitting, usable_curves}
use Rattle.bsmp.specs.Store.{start}
use Rattle.bsmp.specs.Message.{curve_at}
use Rattle.bsmp.specs.declared.Curve.{Curve}
use Rattle.parts.specs.Parts.{curves_only}
use Rattle.curves.specs.declared.Block.{Block}

-- usable curves, and a store of exactly their length
pub record SoundCurves (cs : List Curve) (store : List ℕ) : Type 0 where
  pub usable : usable_curves cs ≡ true
  pub exact : length store ≡ sum (block_sizes cs)

-- a length for each block, 1 to its size
pub record SoundLengths (cs : List Curve) (lengths : List ℕ) : Type 0 where
  pub fit : fitting (block_sizes cs) lengths ≡ true

-- the sums: 16 bytes for each curve, one curve's after another's
pub record SoundSums (cs : List Curve) (sums : List ℕ) : Type 0 where
  pub exact : length sums ≡ sum (sum_sizes cs)

-- the curve named first
abbrev pub named_curve : List Curve → (payload : List ℕ) → Curve
named_curve cs p = curve_of (curves_only cs) (curve_at p 0)

-- a payload names a curve: what a pass of 0A and of 42 says
pub record CurveNamed (cs : List Curve) (payload : List ℕ) : Type 0 where
  pub some : 0 < length payload
  pub known : (curve_at payload 0).0 < length cs

-- a payload names a curve that exists and one of its blocks ..
pub record BlockNamed (cs : List Curve) (payload : List ℕ) : Type 0 where
  pub front : 3 ≤ length payload
  pub known : (curve_at payload 0).0 < length cs
  pub below : word_at payload 1 < (named_curve cs payload).blocks

-- .. and nothing else: what a pass of 40 says
pub record BlockRead (cs : List Curve) (payload : List ℕ) : Type 0 where
  pub named : BlockNamed cs payload
  pub whole : length payload ≡ 3

-- .. and carries 1 to the block size of bytes: what a pass of 41 says
pub record BlockFits (cs : List Curve) (payload : List ℕ) : Type 0 where
  pub named : BlockNamed cs payload
  pub some : 3 < length payload
  pub fits : length payload ≤ 3 + (named_curve cs payload).size

-- the blocks that a store holds; the place of the block named, among all; and its bytes
abbrev pub blocks_in : List Curve → (store : List ℕ) → List (List ℕ)
blocks_in cs store = cut (block_sizes cs) store

abbrev pub place_of : List Curve → (payload : List ℕ) → ℕ
place_of cs p = block_place (curves_only cs) (curve_at p 0) (word_at p 1)

abbrev pub named_block : List Curve → (store payload : List ℕ) → List ℕ
named_block cs store p = get_or (blocks_in cs store) (place_of cs p) []

-- what a block holds: as many of its first bytes as its length says
abbrev pub content_at : List Curve → (store lengths : List ℕ) → ℕ → List ℕ
content_at cs store lengths k = take (get_or lengths k 0) (get_or (blocks_in cs store) k [])

abbrev pub named_content : List Curve → (store lengths payload : List ℕ) → List ℕ
named_content cs store lengths p = content_at cs store lengths (place_of cs p)

-- where the block named stands in the store: inside, and no longer than 01 allows
pub record BlockAt (cs : List Curve) (payload : List ℕ) (b : Block) : Type 0 where
  pub place : b.place ≡ place_of cs payload
  pub below : place_of cs payload < length (block_sizes cs)
  pub at : b.at ≡ start (block_sizes cs) (place_of cs payload)
  pub own : get_or (block_sizes cs) (place_of cs payload) 0 ≡ (named_curve cs payload).size
  pub inside : b.at + (named_curve cs payload).size ≤ sum (block_sizes cs)
  pub small : (named_curve cs payload).size ≤ 4096
