-- `query::count` meets its contract: the digits passed are in the two words, those left below.
use Prim.Native.Nat.{◌^◌, ◌≤◌, ◌<◌}
use Rattle.query.proofs.Counting.{Kept}
use Rattle.query.proofs.count.Given as goal

abbrev pub invariant-loop-j : goal.invariant-loop-j
invariant-loop-j l = (l.j ≤ l.card.s) × (l.rest < 3 ^ l.j) × Kept l.card l.a l.rest l.j l.left l.odd
