-- `layout::coefficients` meets its contract. The loop's invariant: p has the coefficients below i, and 0 from there on.
use mathlib.Core.Path.{◌≡◌}
use Prim.Native.Nat.{ℕ}
use lib.ListN.{length, get_or}
use lib.IntN.{pos}
use Rattle.layout.specs.Values.{coefficient_below}
use Rattle.layout.proofs.coefficients.Given as goal

abbrev pub invariant-loop-i : goal.invariant-loop-i
invariant-loop-i l = (length l.p ≡ 7) × ((k : ℕ) → get_or l.p k (pos 0) ≡ coefficient_below l.card l.at l.i k)
