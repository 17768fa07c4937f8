-- `set_bytes` meets its contract. Assumes nothing.
use Rattle.std.proofs.Common.{rules, arith, ℕ, ◌<◌}
use lib.ListN.{get_or}
use Rattle.members.proofs.Walk.{add_start, add_next, add_end, add_small}
use Rattle.members.proofs.Whole.{bytes_whole, small_whole}
use Rattle.members.proofs.set_bytes.Goals as goal

pub returns-then-set : goal.returns-then-set
returns-then-set c =
    let bytes : (k : ℕ) → get_or c.args.sizes.now k 0 < 256 = λ k. omega (arith, c.shared_slice_known-1.given k) in
    (search (bytes_whole, rules), search (small_whole, rules))

pub loop-i-init : goal.loop-i-init
loop-i-init c = add_start _ _ _ (cc)

pub overflow_add-bytes : goal.overflow_add-bytes
overflow_add-bytes c =
    let bytes : (k : ℕ) → get_or c.args.sizes.now k 0 < 256 = λ k. omega (arith, c.shared_slice_known-1.given k) in
    omega (arith, c.from-bytes.ensures, bytes c.in-Some.i.0, add_small c.args.sizes.now c.args.set _ _ bytes (omega arith) c.loop-i.invariant)

pub loop-i-preserved : goal.loop-i-preserved
loop-i-preserved c = rw c.from-bytes.ensures (add_next _ _ _ _ _ _ c.in-Some.ensures.steps c.loop-i.invariant)

pub returns : goal.returns
returns c =
    let bytes : (k : ℕ) → get_or c.args.sizes.now k 0 < 256 = λ k. omega (arith, c.shared_slice_known-1.given k) in
    (add_end _ _ _ _ c.in-None.ensures.steps.0 c.loop-i.invariant, add_small _ _ _ _ bytes (omega arith) c.loop-i.invariant)
