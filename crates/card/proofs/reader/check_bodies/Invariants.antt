-- `card::reader::check_bodies` meets its contract. The loop's invariant: what is left to say of the bodies from polynomial j
-- on, which begins at byte at, is what was to be said of all.
use mathlib.Core.Path.{◌≡◌}
use Prim.Native.Nat.{◌-◌, ◌≤◌}
use lib.ListN.{length}
use Rattle.layout.specs.Format.{polynomials, bodies_at}
use Rattle.card.specs.Card.{bodies_refusal}
use Rattle.card.proofs.reader.check_bodies.Given as goal

abbrev pub invariant-loop-j : goal.invariant-loop-j
invariant-loop-j l =
    (l.at ≤ length l.card) × (bodies_refusal l.card (polynomials l.card) 0 (bodies_at l.card) ≡ bodies_refusal l.card
    (polynomials l.card - l.j) l.j l.at)
