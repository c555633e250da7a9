-- `lines::put_integer` meets its contract.
use mathlib.Core.Path.{◌≡◌, sym, ap}
use mathlib.Core.List.{◌∷◌}
use native.Mathlib.Omega.{arith}
use lib.IntN.{nat_abs}
use lib.ListN.{length}
use mir.Syntax.{w64}
use mir.ValLaws.{to_z-of_z}
use Rattle.integers.proofs.Parts.{int}
use Rattle.lines.specs.Text.{minus, decimal, signed}
use Rattle.lines.proofs.Signed.{signed_below, signed_above}
use Rattle.lines.proofs.Putting.{put_more, put_same}
use Rattle.lines.proofs.put_integer.Goals as goal
use Rattle.lines.proofs.put_integer.Goals.{Else-z-lt0, Then-z-lt0}

-- the two arms
negative : (c : Then-z-lt0) → let z = c.args.z in signed z ≡ minus ∷ decimal (nat_abs z)
negative c =
    let e = to_z-of_z w64 c.args.z c.ranges.z in
    signed_below c.args.z (omega (int, c.if-z-lt0.true))

not_negative : (c : Else-z-lt0) → let z = c.args.z in signed z ≡ decimal (nat_abs z)
not_negative c =
    let e = to_z-of_z w64 c.args.z c.ranges.z in
    signed_above c.args.z (omega (int, c.if-z-lt0.false))

pub put_byte-k-requires : goal.put_byte-k-requires
put_byte-k-requires c = omega (arith, ap length (negative (goal.at.put_byte-k-requires c).Then-z-lt0), c.requires)

pub put_natural-requires : goal.put_natural-requires
put_natural-requires c =
    let m = rw (to_z-of_z w64 c.args.z c.ranges.z) at c.unsigned_abs.ensures.value in
    rw m (omega (
      arith,
      ap length (negative (goal.at.put_natural-requires c).Then-z-lt0),
      c.requires,
      c.put_byte-k.auto,
      c.put_byte-k.ensures.ends,
    ))

pub returns-then-z-lt0 : goal.returns-then-z-lt0
returns-then-z-lt0 c =
    let m = rw (to_z-of_z w64 c.args.z c.ranges.z) at c.unsigned_abs.ensures.value in
    put_same (sym (negative (goal.at.returns-then-z-lt0 c).Then-z-lt0))
    (put_more c.put_byte-k.ensures
    (rw m at c.put_natural.ensures))

pub put_natural-requires-2 : goal.put_natural-requires-2
put_natural-requires-2 c =
    let m = rw (to_z-of_z w64 c.args.z c.ranges.z) at c.unsigned_abs-2.ensures.value in
    rw (m, ← not_negative (goal.at.put_natural-requires-2 c).Else-z-lt0) c.requires

pub returns : goal.returns
returns c =
    let m = rw (to_z-of_z w64 c.args.z c.ranges.z) at c.unsigned_abs-2.ensures.value in
    put_same (sym (not_negative (goal.at.returns c).Else-z-lt0)) (rw m at c.put_natural-2.ensures)
