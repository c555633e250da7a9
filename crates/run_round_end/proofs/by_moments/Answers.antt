-- `run_round_end::by_moments` meets its contract.
use mathlib.Core.Path.{refl}
use native.Mathlib.Omega.{arith}
use Rattle.signs.proofs.Orders.{below_from, rising_from}
use Rattle.solutions.specs.Solution.{Solution}
use Rattle.solver_recursion.proofs.Turns.{within-sum}
use Rattle.run_round_end.proofs.StepLaws.{Proper, proper_from}
use Rattle.run_round_end.proofs.MomentLaws.{moments_both, moments_none}
use Rattle.run_round_end.proofs.by_moments.Goals as goal
use Rattle.run_round_end.proofs.by_moments.Goals.{Start}

proper_here : (s : Start) → Proper s.args.i s.args.patterns.now s.args.counts.now
proper_here s = proper_from s.args.i s.args.patterns.now s.args.counts.now s.requires.i_lt_most_polynomials.1 s.requires.counts_value.0

pub solve_pair-requires : goal.solve_pair-requires
solve_pair-requires c =
    let p = proper_here (goal.at.solve_pair-requires c).Start in record {
      i_le_most_polynomials = (omega (arith, c.requires.i_lt_most_polynomials.0), rising_from _ p.rising, below_from _ _ p.below, p.few);
      x_len = (c.requires.i_lt_most_polynomials.2, c.requires.i_lt_most_polynomials.3, c.requires.within.2, c.requires.within.3);
      within = (c.requires.within.0, c.requires.within.1);
    }

pub returns-in_err-solve_pair : goal.returns-in_err-solve_pair
returns-in_err-solve_pair c =
    rw (
      c.from_residual.ensures,
      moments_none c.args.i c.args.patterns.now c.args.counts.now c.args.x.now c.args.y.now c.requires.i_lt_most_polynomials.1
          c.requires.i_lt_most_polynomials.2 c.requires.i_lt_most_polynomials.3
          (proper_here (goal.at.returns-in_err-solve_pair c).Start) c.in_err-solve_pair.ensures,
    )
    refl

pub judge-requires : goal.judge-requires
judge-requires c =
    let S : Solution c.args.i c.args.patterns.now c.args.x.now c.solve_pair.new.u
    × Solution c.args.i c.args.patterns.now c.args.y.now c.solve_pair.new.v = c.in_ok-solve_pair.ensures in record {
      i_lt_most_polynomials = (c.requires.i_lt_most_polynomials.0, c.requires.i_lt_most_polynomials.1, S.0.one_each, S.1.one_each);
      counts_value = (c.requires.counts_value.0, within-sum 64 _ S.0.small, within-sum 64 _ S.1.small);
      most_points_in_bounds = (c.requires.counts_value.1, c.requires.counts_value.2);
    }

pub returns : goal.returns
returns c =
    let S : Solution c.args.i c.args.patterns.now c.args.x.now c.solve_pair.new.u
    × Solution c.args.i c.args.patterns.now c.args.y.now c.solve_pair.new.v = c.in_ok-solve_pair.ensures in
    rw (
    moments_both c.args.i c.args.patterns.now c.args.counts.now c.args.x.now c.args.y.now c.requires.i_lt_most_polynomials.1
    c.requires.i_lt_most_polynomials.2 c.requires.i_lt_most_polynomials.3
    (proper_here (goal.at.returns c).Start) _ _ S.0 S.1
    )
    c.judge.ensures
