-- `solver_moments::second_value` meets its contract.
use borrow.Author.Rules.{rules}
use lib.IntN.{pos, ◌-ℤ◌}
use Rattle.solver_moments.specs.Moments.{second_of}
use Rattle.integers.proofs.I16.{back}
use Rattle.solver_moments.proofs.second_value.Goals as goal

pub returns-in-2 : goal.returns-in-2
unfolding second_of
returns-in-2 c = rw c.in-2.is (back c.args.d (search rules))

pub returns-in-4 : goal.returns-in-4
unfolding second_of
returns-in-4 c = rw (c.in-4.is, back c.args.d (search rules)) (back (pos 0 -ℤ c.args.d) (search rules))

pub returns-in_default : goal.returns-in_default
unfolding second_of
returns-in_default c = search rules
