-- `layout::word` meets its contract.
use native.Mathlib.Omega.{arith}
use Rattle.layout.specs.Format.{word}
use Rattle.layout.proofs.word.Goals as goal

pub returns : goal.returns
unfolding word
returns c = omega (arith, c.from_be_bytes.ensures)
