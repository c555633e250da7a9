-- `lines::put_question` meets its contract: 2 bytes, at most 5 digits, a space, at most 20 bytes and a newline.
use Prim.Native.Nat.{◌≤◌}
use native.Mathlib.Omega.{arith}
use lib.ListN.{length}
use mir.Syntax.{w64}
use mir.ValLaws.{to_z-of_z}
use Rattle.lines.specs.Text.{decimal, signed, question_line}
use Rattle.lines.proofs.Decimals.{decimal-length-16}
use Rattle.lines.proofs.Signed.{signed-length}
use Rattle.lines.proofs.Putting.{put_more}
use Rattle.lines.proofs.put_question.Goals as goal
use Rattle.lines.proofs.put_question.Goals.{After-from}

small : (c : After-from) → (length (decimal c.from.result) ≤ 5) × (length (signed c.args.answer) ≤ 20)
small c = (decimal-length-16 c.from.ensures c.ranges.product, signed-length c.args.answer c.ranges.answer)

pub put_letter-i-requires : goal.put_letter-i-requires
put_letter-i-requires c = omega (arith, small (goal.at.put_letter-i-requires c).After-from, c.requires)

pub put_byte-j-requires : goal.put_byte-j-requires
put_byte-j-requires c =
    omega (arith, small (goal.at.put_byte-j-requires c).After-from, c.requires, c.put_letter-i.auto, c.put_letter-i.ensures.ends)

pub put_integer-k-requires : goal.put_integer-k-requires
put_integer-k-requires c =
    rw (to_z-of_z w64 c.args.answer c.ranges.answer)
    (omega (
      arith,
      small (goal.at.put_integer-k-requires c).After-from,
      c.requires,
      c.put_letter-i.auto,
      c.put_letter-i.ensures.ends,
      c.put_byte-j.auto,
      c.put_byte-j.ensures.ends,
    ))

pub put_byte-requires : goal.put_byte-requires
put_byte-requires c =
    let e = rw (to_z-of_z w64 c.args.answer c.ranges.answer) at c.put_integer-k.ensures.ends in
    omega (
      arith,
      small (goal.at.put_byte-requires c).After-from,
      c.requires,
      c.put_letter-i.auto,
      c.put_letter-i.ensures.ends,
      c.put_byte-j.auto,
      c.put_byte-j.ensures.ends,
      c.put_integer-k.auto,
      e,
    )

pub returns : goal.returns
unfolding question_line
returns c =
    let f = c.from.ensures in
    let p = rw f at c.put_letter-i.ensures in
    let q = c.put_byte-j.ensures in
    let e = to_z-of_z w64 c.args.answer c.ranges.answer in
    let i = rw e at c.put_integer-k.ensures in
    let n = c.put_byte.ensures in
    record {
      put = put_more p (put_more (put_more q i) n);
      fits = omega (
        arith,
        rw f at (small (goal.at.returns c).After-from),
        p.ends,
        q.ends,
        i.ends,
        n.ends,
      );
    }
