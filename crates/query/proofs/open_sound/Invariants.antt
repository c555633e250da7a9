-- `query::open_sound` meets its contract: j polynomials have their words.
use Prim.Native.Nat.{◌≤◌}
use Rattle.plane.specs.Contents.{contents_of}
use Rattle.query.proofs.Opening.{Filled}
use Rattle.query.proofs.open_sound.Given as goal

abbrev pub invariant-loop-j : goal.invariant-loop-j
invariant-loop-j l =
    (l.j ≤ l.s) × Filled (contents_of l.card) 1 l.j l.positive × Filled (contents_of l.card) 2 l.j l.negative
