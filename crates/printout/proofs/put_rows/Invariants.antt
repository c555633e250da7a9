-- `printout::put_rows` meets its contract: the rows passed are written.
use mathlib.Core.Path.{◌≡◌}
use Prim.Native.Nat.{◌+◌, ◌*◌, ◌≤◌}
use lib.ListN.{length, take}
use Rattle.rounds.specs.Rows.{rows_with}
use Rattle.lines.specs.Put.{Put}
use Rattle.lines.specs.Text.{longest_line}
use Rattle.printout.specs.Printout.{row_lines, together}
use Rattle.printout.proofs.put_rows.Given as goal

abbrev pub invariant-loop-pattern : goal.invariant-loop-pattern
invariant-loop-pattern l =
    (length l.out ≡ length l.initial.out) × (l.end ≤ l.at + longest_line * length l.yielded)
    × Put l.initial.out l.at
    (together (row_lines (rows_with (take (length l.yielded) l.patterns) (take (length l.yielded) l.counts)))) l.out l.end
