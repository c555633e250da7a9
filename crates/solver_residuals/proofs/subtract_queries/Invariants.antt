-- `solver_residuals::subtract_queries` meets its contract.
use Prim.Native.Nat.{ℕ, ◌-◌, ◌≤◌}
use mathlib.Core.Path.{◌≡◌}
use mathlib.Core.List.{List}
use lib.IntN.{ℤ, pos, nat_abs, ◌-ℤ◌}
use lib.ListN.{length, get_or}
use Rattle.refusals.specs.Limits.{most_points}
use Rattle.integers.proofs.Stores.{Writing}
use Rattle.solver_residuals.specs.Residuals.{digit_sum}
use Rattle.solver_residuals.proofs.subtract_queries.Given as goal

-- the number that remains at h, small
abbrev pub Remains : (i : ℕ) (a o t : List ℕ) (u x : List ℤ) → ℕ → ℤ → Type 0
Remains i a o t u x h z = (z ≡ get_or x h (pos 0) -ℤ digit_sum i (get_or a h 0) o t u) × (nat_abs z ≤ most_points)

abbrev pub invariant-loop-k : goal.invariant-loop-k
invariant-loop-k l =
    Writing (pos 0) (Remains l.i l.a l.ones l.twos l.u l.x) (length l.a) l.initial.r l.r l.k
    × Writing (pos 0) (Remains l.i l.a l.ones l.twos l.v l.y) (length l.a) l.initial.t l.t l.k
