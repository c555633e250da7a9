-- `solver_moments::third_value` meets its contract.
use Prim.Native.Nat.{◌%◌}
use borrow.Author.Tests.{eq-eqb}
use borrow.Author.Rules.{rules}
use lib.IntN.{pos, ◌-ℤ◌}
use Rattle.solver_moments.specs.Moments.{third_of}
use Rattle.integers.proofs.I16.{back}
use Rattle.solver_moments.proofs.third_value.Goals as goal

pub returns-then-m-eq0 : goal.returns-then-m-eq0
unfolding third_of
returns-then-m-eq0 c = rw (eq-eqb (c.args.m % 2) 0 c.if-m-eq0.true) (back c.args.d (search rules))

pub returns-in-3 : goal.returns-in-3
unfolding third_of
returns-in-3 c = rw c.in-3.is (back c.args.e (search rules))

pub returns-in-5 : goal.returns-in-5
unfolding third_of
returns-in-5 c = rw (c.in-5.is, back c.args.e (search rules)) (back (pos 0 -ℤ c.args.e) (search rules))

pub returns-in_default : goal.returns-in_default
unfolding third_of
returns-in_default c = search rules
