-- `card_writer::bytes::put_offsets` meets its contract: the offsets left, put from the present byte on, give the run.
use mathlib.Core.Path.{◌≡◌}
use Prim.Native.Nat.{◌+◌, ◌*◌, ◌≤◌}
use lib.ListN.{length, drop}
use lib.Seq.{sets}
use Rattle.card_bytes.specs.Bytes.{offsets}
use Rattle.card_writer.proofs.bytes.put_offsets.Given as goal

abbrev pub invariant-loop-j : goal.invariant-loop-j
invariant-loop-j l =
    (length l.out ≡ length l.initial.out) × (l.begins ≤ 22 + 29 * l.j)
    × (sets l.out (4 + 2 * l.j) (offsets l.begins (drop l.j l.degrees)) ≡ sets l.initial.out 4 (offsets l.initial.begins l.degrees))
