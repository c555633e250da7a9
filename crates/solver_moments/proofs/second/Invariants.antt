-- `solver_moments::second` meets its contract.
use mathlib.Core.Path.{◌≡◌}
use lib.IntN.{pos}
use lib.ListN.{length, get_or}
use Rattle.solver_moments.specs.Moments.{second_of}
use Rattle.integers.proofs.Stores.{Writing}
use Rattle.solver_moments.proofs.second.Given as goal

abbrev pub invariant-loop-j : goal.invariant-loop-j
invariant-loop-j l = Writing (pos 0) (λ h z. z ≡ second_of (get_or l.mark h 0) (get_or l.d h (pos 0))) (length l.mark) l.initial.e l.e l.j
