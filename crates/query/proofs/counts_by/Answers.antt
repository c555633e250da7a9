-- `query::counts_by` meets its contract.
use Prim.Native.Nat.{ℕ, ◌^◌, ◌≤◌, ◌<◌}
use native.Mathlib.Omega.{arith}
use lib.Bits.{bit_and}
use lib.Count.{ones, ones-le}
use Rattle.query.proofs.Counting.{odd_fewer}
use Rattle.query.proofs.counts_by.Goals as goal

-- no more are left than there are points, and no more are odd than are left
fewer : (left odd n : ℕ) → left < 2 ^ n → (ones (bit_and left odd) ≤ ones left) × (ones left ≤ n)
fewer left odd n h = (odd_fewer left odd n h, ones-le n left h)

pub overflow_sub-result : goal.overflow_sub-result
overflow_sub-result c = omega (arith, fewer c.args.left c.args.odd c.args.n c.requires.1, c.requires.0)

pub overflow_sub-result-2 : goal.overflow_sub-result-2
overflow_sub-result-2 c = omega (arith, fewer c.args.left c.args.odd c.args.n c.requires.1, c.requires.0)
