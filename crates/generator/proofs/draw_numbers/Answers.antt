-- `generator::draw_numbers` meets its contract: what is left to draw, stored from the present place on, gives the end (`Storing`).
use Rattle.std.proofs.Common.{ℕ, ◌^◌, ◌<◌, pos, ◌-ℤ◌, ap, ◌∙◌, arith}
use Rattle.integers.proofs.I64.{less_is}
use Rattle.generator.proofs.Draws.{storing_next, storing_last}
use Rattle.generator.proofs.draw_numbers.Goals as goal

pub loop-k-preserved : goal.loop-k-preserved
loop-k-preserved c =
    let f : c.below.result < 2 ^ 32 = omega arith in
    let g : c.args.less < 2 ^ 32 = omega arith in
    storing_next _ _ _ _ _ _ _ _ _ _ _ c.loop-k.invariant (omega arith) c.step-next.ensures
    (less_is _ _ f g ∙ ap (λ (r : ℕ). pos r -ℤ pos c.args.less) c.below.ensures.0)

pub returns : goal.returns
returns c = storing_last _ _ _ _ _ _ _ _ _ c.loop-k.invariant (omega arith)
