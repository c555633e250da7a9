-- `solver_moments::copy_small` meets its contract.
use Prim.Native.Nat.{ℕ, ◌≤◌, ◌<◌}
use mathlib.Core.Path.{◌≡◌}
use lib.IntN.{pos, nat_abs}
use lib.ListN.{length, get_or}
use Rattle.solver_moments.proofs.copy_small.Given as goal

abbrev pub invariant-loop-k : goal.invariant-loop-k
invariant-loop-k l =
    (l.k ≤ length l.x) × (length l.out ≡ length l.initial.out) × ((j : ℕ) → j < l.k → nat_abs (get_or l.x j (pos 0)) ≤ 64)
    × ((j : ℕ) → j < l.k → get_or l.out j (pos 0) ≡ get_or l.x j (pos 0))
