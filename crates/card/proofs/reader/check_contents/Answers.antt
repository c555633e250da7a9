-- `card::reader::check_contents` meets its contract.
use mathlib.Core.Path.{sym, ap}
use native.Mathlib.Omega.{arith}
use Rattle.refusals.specs.Refusals.{checked}
use Rattle.card.proofs.Header.{cut_contents, bad_first, sound-contents}
use Rattle.card.proofs.reader.check_contents.Goals as goal

pub returns-then-card-begin : goal.returns-then-card-begin
returns-then-card-begin c = ap checked (sym (cut_contents _ (omega arith)))

pub returns-then-offset-begin : goal.returns-then-offset-begin
returns-then-offset-begin c = ap checked (sym (bad_first _ (omega arith) (omega arith)))

pub returns : goal.returns
returns c = ap checked (sym (sound-contents _ (omega arith) (omega arith)))
