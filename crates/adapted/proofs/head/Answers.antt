-- `adapted::head` meets its contract.
use mathlib.Core.Path.{refl}
use borrow.Author.Tests.{lt-ltb, le-ltb}
use Rattle.adapted.specs.Split.{head_of}
use Rattle.adapted.proofs.head.Goals as goal

pub returns-then-k-end : goal.returns-then-k-end
unfolding head_of
returns-then-k-end c = rw (lt-ltb _ _ c.if-k-end.true) refl

pub returns-else-k-end : goal.returns-else-k-end
unfolding head_of
returns-else-k-end c = rw (le-ltb _ _ c.if-k-end.false) refl
