-- `solver_moments::copy_small` meets its contract.
use native.Mathlib.Omega.{arith}
use mathlib.Core.Path.{◌≡◌, ◌∙◌}
use lib.IntN.{pos}
use lib.ListN.{length}
use lib.Seq.{ext_get_or}
use Rattle.integers.proofs.Sums.{within_of}
use Rattle.solver_moments.proofs.copy_small.Goals as goal

pub returns : goal.returns
returns c =
    let e : c.loop-k.k ≡ length c.args.x.now = omega (arith, c.loop-k.invariant.0, c.loop-k-test.false) in (
      within_of 64 _ (λ k h. c.loop-k.invariant.2 k (omega arith)),
      ext_get_or (pos 0) _ _ (c.loop-k.invariant.1 ∙ c.requires)
          (λ k h. c.loop-k.invariant.3 k (omega (arith, c.loop-k.invariant.1, c.requires))),
    )
