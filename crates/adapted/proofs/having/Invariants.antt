-- `adapted::having` meets its contract: what the elements passed leave is written.
use mathlib.Core.Path.{◌≡◌}
use lib.ListN.{length, take}
use lib.Seq.{sets}
use Rattle.adapted.specs.Split.{chosen}
use Rattle.adapted.proofs.having.Given as goal

abbrev pub invariant-loop-q : goal.invariant-loop-q
invariant-loop-q l =
    (l.n ≡ length (chosen l.k (take (length l.yielded) l.low) (take (length l.yielded) l.mark)))
    × (l.out ≡ sets l.initial.out 0 (chosen l.k (take (length l.yielded) l.low) (take (length l.yielded) l.mark)))
