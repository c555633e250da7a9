-- `adapted::split` meets its contract: each turn takes the smallest low part that is left.
use Prim.Native.Nat.{ℕ, ◌-◌, ◌+◌}
use mathlib.Core.Path.{◌≡◌}
use lib.ListN.{length}
use Rattle.adapted.proofs.Merging.{Merged}
use Rattle.adapted.proofs.split.Given as goal

abbrev pub invariant-loop-w : goal.invariant-loop-w
invariant-loop-w l =
    (length l.low ≡ length l.initial.low) × (length l.mark ≡ length l.initial.mark) × (length l.at ≡ length l.initial.at)
    × ((t : ℕ) × Merged l.l l.w l.mid l.top l.low l.mark l.at l.a l.b l.c l.n t)

abbrev pub decreases-loop-w : goal.decreases-loop-w
decreases-loop-w l = (l.mid + l.top + length l.l) - (l.a + l.b + l.c)
