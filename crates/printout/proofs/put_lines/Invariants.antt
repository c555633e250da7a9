-- `printout::put_lines` meets its contract: after k questions their lines stand at the front, and the rest of the printout is left.
use mathlib.Core.Path.{◌≡◌}
use Prim.Native.Nat.{◌≤◌}
use lib.ListN.{length, take}
use Rattle.run_record.specs.Record.{state_of}
use Rattle.printout.specs.Written.{most_text}
use Rattle.printout.specs.Steps.{asking}
use Rattle.printout.proofs.Remaining.{Left}
use Rattle.printout.proofs.put_lines.Given as goal

abbrev pub invariant-loop-k : goal.invariant-loop-k
invariant-loop-k l =
    (l.at ≤ most_text) × (length l.out ≡ most_text) × Left l.card (asking l.opened (state_of l.run) l.a) (take l.at l.out) l.k
