-- `card_checks::wanted` meets its contract. The loop's invariant: the sum so far, and what is left of the degrees, make what is wanted.
use Rattle.std.proofs.Common.{◌≡◌, ◌+◌, drop}
use Rattle.card_bytes.specs.Bytes.{wanted}
use Rattle.card_checks.proofs.wanted.Given as goal

abbrev pub invariant-loop-d : goal.invariant-loop-d
invariant-loop-d l = l.sum + wanted (drop l.d-index l.degrees) ≡ wanted l.degrees
