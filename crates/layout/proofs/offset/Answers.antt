-- `layout::offset` meets its contract.
use native.Mathlib.Omega.{arith}
use Rattle.layout.specs.Format.{offset}
use Rattle.layout.proofs.offset.Goals as goal

pub returns : goal.returns
unfolding offset
returns c = omega (arith, c.from.ensures, c.from_be_bytes.ensures)
