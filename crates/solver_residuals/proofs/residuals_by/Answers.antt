-- `solver_residuals::residuals_by` meets its contract.
use native.Mathlib.Omega.{arith}
use mathlib.Core.Path.{◌≡◌, sym, subst, ◌∙◌}
use borrow.Author.Tests.{eqb-true}
use lib.ListN.{length}
use Rattle.integers.specs.Sums.{Within}
use Rattle.refusals.specs.Limits.{most_points}
use Rattle.signs.specs.Adapted.{adapted}
use Rattle.signs.proofs.Powers.{power-most}
use Rattle.signs.proofs.Size.{as_many}
use Rattle.solver_residuals.proofs.Gathering.{copied_rests, adapted-front, adapted-small}
use Rattle.solver_residuals.proofs.residuals_by.Goals as goal

pub returns-then-is_empty : goal.returns-then-is_empty
returns-then-is_empty c =
    let a = c.args in
    let A = adapted a.i a.l.now in
    let none : length a.ones.now ≡ 0 = omega (arith, c.requires.ones_len.0, eqb-true _ _ (sym c.if-is_empty.ensures)) in
    let e₁ = c.copy_from_slice.ensures.after in
    let e₂ = c.copy_from_slice-then-is_empty.ensures.after in
    let w = c.requires.within in (
      copied_rests a.i A a.ones.now a.twos.now a.u.now a.x.now _ none e₁,
      copied_rests a.i A a.ones.now a.twos.now a.v.now a.y.now _ none e₂,
      subst (Within most_points) (sym e₁) w.0,
      subst (Within most_points) (sym e₂) w.1,
    )

pub adapted-requires : goal.adapted-requires
adapted-requires c =
    record {
      i_le_most_polynomials = (c.requires.i_le_most_polynomials.0, omega (arith, power-most c.args.i c.requires.i_le_most_polynomials.0));
      rising = (c.requires.i_le_most_polynomials.1, c.requires.i_le_most_polynomials.2);
      l_len_bound = (c.requires.i_le_most_polynomials.3, omega (arith, c.requires.i_le_most_polynomials.3));
    }

pub subtract_queries-requires : goal.subtract_queries-requires
subtract_queries-requires c =
    let a = c.args in
    let e = adapted-front a.i a.l.now _ _ c.requires.i_le_most_polynomials.1 c.requires.i_le_most_polynomials.2
    c.requires.i_le_most_polynomials.3 c.adapted.ensures.out_after in
    let n = sym (as_many a.i a.l.now c.requires.i_le_most_polynomials.1 c.requires.i_le_most_polynomials.2) in
    let z = c.requires.x_len in
    record {
      i_le_most_polynomials = rw e (c.requires.i_le_most_polynomials.0, adapted-small a.i a.l.now, z.0 ∙ n, z.1 ∙ n, z.2 ∙ n, z.3 ∙ n);
      within = c.requires.within;
      ones_len = c.requires.ones_len;
    }

pub returns : goal.returns
returns c =
    let a = c.args in
    let e = adapted-front a.i a.l.now _ _ c.requires.i_le_most_polynomials.1 c.requires.i_le_most_polynomials.2
    c.requires.i_le_most_polynomials.3 c.adapted.ensures.out_after in
    rw e at c.subtract_queries.ensures
