-- `plane::powers` meets its contract. The loop's invariant: p has seven numbers, and below i they are the powers of x.
use mathlib.Core.Path.{◌≡◌}
use Prim.Native.Nat.{ℕ, ◌<◌}
use lib.ListN.{length, get_or}
use lib.IntN.{pos}
use Rattle.integers.specs.Powers.{power}
use Rattle.plane.proofs.powers.Given as goal

abbrev pub invariant-loop-i : goal.invariant-loop-i
invariant-loop-i l = (length l.p ≡ 7) × ((k : ℕ) → k < l.i → get_or l.p k (pos 0) ≡ power l.x k)
