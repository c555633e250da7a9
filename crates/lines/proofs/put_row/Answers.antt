-- `lines::put_row` meets its contract: 2 bytes, at most 5 digits, a space, at most 5 digits and a newline.
use mathlib.Core.Path.{refl}
use native.Mathlib.Omega.{arith}
use Rattle.lines.specs.Text.{row_line}
use Rattle.lines.proofs.Decimals.{decimal-length-16}
use Rattle.lines.proofs.Putting.{put_more}
use Rattle.lines.proofs.put_row.Goals as goal

pub put_letter-j-requires : goal.put_letter-j-requires
put_letter-j-requires c = omega (arith, decimal-length-16 c.from.ensures c.ranges.pattern, c.requires)

pub put_byte-k-requires : goal.put_byte-k-requires
put_byte-k-requires c =
    omega (
      arith,
      decimal-length-16 c.from.ensures c.ranges.pattern,
      c.requires,
      c.put_letter-j.auto,
      c.put_letter-j.ensures.ends,
    )

pub put_natural-m-requires : goal.put_natural-m-requires
put_natural-m-requires c =
    omega (
      arith,
      decimal-length-16 c.from.ensures c.ranges.pattern,
      decimal-length-16 c.from-2.ensures c.ranges.count,
      c.requires,
      c.put_letter-j.auto,
      c.put_letter-j.ensures.ends,
      c.put_byte-k.auto,
      c.put_byte-k.ensures.ends,
    )

pub put_byte-requires : goal.put_byte-requires
put_byte-requires c =
    omega (
      arith,
      decimal-length-16 c.from.ensures c.ranges.pattern,
      decimal-length-16 c.from-2.ensures c.ranges.count,
      c.requires,
      c.put_letter-j.auto,
      c.put_letter-j.ensures.ends,
      c.put_byte-k.auto,
      c.put_byte-k.ensures.ends,
      c.put_natural-m.auto,
      c.put_natural-m.ensures.ends,
    )

pub returns : goal.returns
unfolding row_line
returns c =
    let p = rw c.from.ensures at c.put_letter-j.ensures in
    let q = c.put_byte-k.ensures in
    let i = rw c.from-2.ensures at c.put_natural-m.ensures in
    let n = c.put_byte.ensures in
    record {
      put = put_more p (put_more (put_more q i) n);
      fits = omega (
        arith,
        decimal-length-16 refl c.ranges.pattern,
        decimal-length-16 refl c.ranges.count,
        p.ends,
        q.ends,
        i.ends,
        n.ends,
      );
    }
