-- `card_writer::bytes::put_bodies` meets its contract: the bodies left, put from the present byte on, give the run.
use mathlib.Core.Path.{◌≡◌}
use lib.ListN.{length, drop}
use lib.Seq.{sets}
use Rattle.card_bytes.specs.Bytes.{bodies}
use Rattle.card_writer.proofs.Bodies.{Left}
use Rattle.card_writer.proofs.bytes.put_bodies.Given as goal

abbrev pub invariant-loop-d : goal.invariant-loop-d
invariant-loop-d l =
    Left l.degrees l.left l.place l.d-index (length l.initial.out) × (length l.out ≡ length l.initial.out)
    × (sets l.out l.place (bodies (drop l.d-index l.degrees) l.left) ≡ sets l.initial.out l.at (bodies l.degrees l.coefficients))
