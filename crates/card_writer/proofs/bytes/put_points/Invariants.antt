-- `card_writer::bytes::put_points` meets its contract: the points left, put from the present byte on, give the run.
use mathlib.Core.Path.{◌≡◌}
use mathlib.Core.List.{map}
use Prim.Native.Nat.{◌+◌}
use lib.ListN.{length, drop}
use lib.Seq.{sets}
use Rattle.card_bytes.specs.Bytes.{complement}
use Rattle.card_writer.proofs.bytes.put_points.Given as goal

abbrev pub invariant-loop-k : goal.invariant-loop-k
invariant-loop-k l =
    (length l.out ≡ length l.initial.out)
    × (sets l.out (l.at + l.k) (map (complement 128) (drop l.k l.points)) ≡ sets l.initial.out l.at (map (complement 128) l.points))
