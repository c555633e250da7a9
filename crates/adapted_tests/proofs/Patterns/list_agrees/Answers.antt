-- `adapted_tests::Patterns::list_agrees` is safe: the product numbers of eight polynomials are below 3^8.
use Rattle.std.proofs.Common.{◌^◌, ◌≤◌, arith}
use Rattle.std.proofs.Math.Nat.{pow-le-pow_right}
use Rattle.signs.proofs.Orders.{below_from, rising_from}
use Rattle.adapted_tests.proofs.Patterns.list_agrees.Goals as goal

pub adapted-n-requires-clause-i_le_most_polynomials : goal.adapted-n-requires-clause-i_le_most_polynomials
adapted-n-requires-clause-i_le_most_polynomials c =
    let most : 3 ^ c.args.self.s ≤ 6561 = pow-le-pow_right (omega arith) c.args.self.counted in
    (c.args.self.counted, omega arith)

pub adapted-n-requires-clause-rising : goal.adapted-n-requires-clause-rising
adapted-n-requires-clause-rising c = (rising_from _ c.args.self.rising, below_from _ _ c.args.self.below)
