-- The list of functions, byte after byte as the walk writes it. Assumes nothing.
use mathlib.Core.Path.{◌≡◌, sym, ap, ◌∙◌}
use mathlib.Core.Bool.{true}
use mathlib.Core.List.{List}
use Prim.Native.Nat.{ℕ, ◌+◌, ◌*◌, ◌≤◌, ◌<◌}
use native.Mathlib.Omega.{arith}
use lib.ListN.{length, set, get_or, length-map, get_or-map}
use Rattle.bsmp.specs.Board.{blank_function, usable_functions}
use Rattle.bsmp.specs.Message.{function_list}
use Rattle.bsmp.specs.declared.Function.{Function}
use Rattle.parts.specs.Parts.{functions_only}
use Rattle.parts.proofs.Listing.{Listing, listing_start, listing_byte}
use Rattle.records.proofs.Sound.{functions_most, function_bytes}

-- a function's byte in the list
abbrev list_byte : Function → ℕ
list_byte f = f.input * 16 + f.output

module _ (fs : List Function) where
  -- both counts fit four bits
  module _ (u : usable_functions fs ≡ true) (n i : ℕ) (x : Function) (l : n ≡ length fs) (h : i < n) (e : x ≡ get_or fs i blank_function) where
    pub input_small : x.input ≤ 15
    input_small = rw e (function_bytes fs u i (omega arith)).0

    pub output_small : x.output ≤ 15
    output_small = rw e (function_bytes fs u i (omega arith)).1

  module _ (r₀ : List ℕ) (at : ℕ) where
    pub list_start : usable_functions fs ≡ true → Listing (function_list (functions_only fs)) (length fs) r₀ at 0 r₀
    unfolding function_list
    list_start u = listing_start _ _ r₀ at (length-map fs list_byte) (omega (arith, functions_most fs u))

    pub list_next : (n i : ℕ) (r : List ℕ) (x : Function) (b : ℕ) → Listing (function_list (functions_only fs)) (length fs) r₀ at i r → at + 4099 ≤ length r₀
        → n ≡ length fs → i < n → x ≡ get_or fs i blank_function → b ≡ x.input * 16 + x.output
        → Listing (function_list (functions_only fs)) (length fs) r₀ at (i + 1) (set r (at + i) b)
    unfolding function_list
    list_next n i r x b q o l h e w =
        listing_byte _ _ r₀ at i r q b o (omega arith) (w ∙ ap list_byte e ∙ sym (get_or-map list_byte fs i blank_function))
