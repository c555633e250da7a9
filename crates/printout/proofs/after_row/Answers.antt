-- `printout::after_row` meets its contract.
use mathlib.Core.Path.{refl}
use native.Mathlib.Numerals.{add-one}
use borrow.Author.Tests.{lt-ltb, le-ltb}
use Rattle.printout.specs.Progress.{after_row}
use Rattle.printout.proofs.after_row.Goals as goal

pub returns-then-p-lt-MOST_ROWS : goal.returns-then-p-lt-MOST_ROWS
unfolding after_row
returns-then-p-lt-MOST_ROWS c = rw (lt-ltb _ _ c.if-p-lt-MOST_ROWS.true, add-one c.args.p) refl

pub returns-else-p-lt-MOST_ROWS : goal.returns-else-p-lt-MOST_ROWS
unfolding after_row
returns-else-p-lt-MOST_ROWS c = rw (le-ltb _ _ c.if-p-lt-MOST_ROWS.false) refl
