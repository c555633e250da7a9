-- `adapted_tests::Patterns::balance` is safe: each pattern is below 3^s.
use Rattle.std.proofs.Common.{◌^◌, rules}
use Rattle.signs.proofs.Orders.{below_from}
use Rattle.signs.proofs.Positions.{below_at}
use Rattle.adapted_tests.proofs.Patterns.balance.Goals as goal

pub sign-requires : goal.sign-requires
sign-requires c =
    let patterns = c.args.self in (
      patterns.counted,
      c.requires,
      below_at (3 ^ patterns.s) patterns.list.now (below_from _ _ patterns.below) c.loop-number.number-index (search rules),
    )
