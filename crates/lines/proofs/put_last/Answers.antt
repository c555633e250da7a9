-- `lines::put_last` meets its contract: 2 bytes, at most 20 digits and a newline.
use Prim.Native.Nat.{◌≤◌}
use native.Mathlib.Omega.{arith}
use lib.ListN.{length}
use Rattle.lines.specs.Text.{decimal}
use Rattle.lines.proofs.Decimals.{decimal-length}
use Rattle.lines.proofs.Putting.{put_more}
use Rattle.lines.proofs.put_last.Goals as goal
use Rattle.lines.proofs.put_last.Goals.{Start}

small : (c : Start) → length (decimal c.args.n) ≤ 20
small c = decimal-length 19 c.args.n (omega (arith, c.ranges.n))

pub put_letter-end-requires : goal.put_letter-end-requires
put_letter-end-requires c = omega (arith, small (goal.at.put_letter-end-requires c).Start, c.requires)

pub put_byte-requires : goal.put_byte-requires
put_byte-requires c =
    omega (arith, small (goal.at.put_byte-requires c).Start, c.requires, c.put_letter-end.auto, c.put_letter-end.ensures.ends)

pub returns : goal.returns
returns c =
    let p = c.put_letter-end.ensures in
    let q = c.put_byte.ensures in
    record { put = put_more p q; fits = omega (arith, small (goal.at.returns c).Start, p.ends, q.ends) }
