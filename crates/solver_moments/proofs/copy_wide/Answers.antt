-- `solver_moments::copy_wide` meets its contract.
use native.Mathlib.Omega.{arith}
use mathlib.Core.Path.{◌∙◌}
use borrow.Author.Rules.{rules}
use lib.IntN.{pos}
use lib.ListN.{get_or}
use Rattle.integers.proofs.I16.{back}
use Rattle.integers.proofs.I64.{back_64}
use Rattle.integers.proofs.Stores.{copying_next}
use Rattle.solver_moments.proofs.copy_wide.Goals as goal

pub loop-k-preserved : goal.loop-k-preserved
loop-k-preserved c =
    let a = c.args in
    copying_next (pos 0) a.x.now a.out.now c.loop-k.out c.loop-k.k _ c.loop-k.invariant (omega arith) c.requires
    (back_64 c.from.result (search rules) ∙ c.from.ensures ∙ back (get_or a.x.now c.loop-k.k (pos 0)) (search rules))
