-- `card_writer::bytes::put_body` meets its contract: the coefficients left, put from the present byte on, give the run.
use mathlib.Core.Path.{◌≡◌}
use Prim.Native.Nat.{◌+◌, ◌*◌}
use lib.ListN.{length, drop}
use lib.Seq.{sets}
use Rattle.card_writer.proofs.Turns.{words}
use Rattle.card_writer.proofs.bytes.put_body.Given as goal

abbrev pub invariant-loop-i : goal.invariant-loop-i
invariant-loop-i l =
    (length l.out ≡ length l.initial.out)
    × (sets l.out (l.at + 1 + 4 * l.i) (words (drop l.i l.coefficients)) ≡ sets l.initial.out (l.at + 1) (words l.coefficients))
