-- `solver_residuals::residuals` meets its contract.
use mathlib.Core.Path.{◌∙◌}
use Rattle.solver_residuals.proofs.Gathering.{left-over_both}
use Rattle.solver_residuals.proofs.residuals.Goals as goal

pub returns : goal.returns
returns c =
    let a = c.args in
    let z = c.requires.x_len in
    left-over_both a.i c.gather-c.result a.l.now a.low.now _ _ a.v.now a.w.now _ _ a.x.now a.y.now _ _ c.residuals_by.result
    c.requires.i_le_most_polynomials.1 c.requires.i_le_most_polynomials.2 z.0 z.1 (c.residuals_by.auto.r ∙ z.2)
    (c.residuals_by.auto.t ∙ z.3) c.gather-c.ensures.gathered c.gather-c.ensures.gathered_2 c.residuals_by.ensures
