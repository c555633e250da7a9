-- `card::reader::check_points` meets its contract. The loop's invariant: no point before this byte's is wrong, and low is the last one
-- passed, or the least that a point may be, with 128 added.
use mathlib.Core.Path.{◌≡◌, refl, sym, ap, subst, ◌∙◌}
use mathlib.Core.Bool.{Bool, true, false}
use mathlib.Core.List.{List}
use Prim.Native.Nat.{ℕ, ◌+◌, ◌-◌, ◌<◌}
use lib.IntN.{pos, ◌+ℤ◌}
use lib.ListN.{length, take, drop, get_or}
use Rattle.layout.specs.Format.{two's, point}
use native.Mathlib.Omega.{arith}
use Rattle.std.proofs.lemmas.List.{get_or-drop, get_or-take}
use Rattle.integers.specs.Search.{any_below}
use Rattle.integers.proofs.Search.{some_none, some_more}
use Rattle.refusals.specs.Refusals.{checked}
use Rattle.card.proofs.Points.{wrong, low_next, low_least, falls, too_high, right, bad_point, good-points}
use Rattle.card.proofs.reader.check_points.Goals as goal
use Rattle.card.proofs.reader.check_points.Goals.{then-point-low-via-then-point-low as below}
use Rattle.card.proofs.reader.check_points.Goals.{then-point-low-via-else-point-low+then-point-gt-MOST_POINT as above}

pub loop-byte-init : goal.loop-byte-init
loop-byte-init c = (some_none _, refl)

-- the point that a byte of the rest of the card is
point_of_byte : (c : List ℕ) (at k p : ℕ) → at + k < length c
    → pos p ≡ two's 128 (get_or (take (length c - at) (drop at c)) k 0) +ℤ pos 128 → pos p ≡ point c at k +ℤ pos 128
point_of_byte c at k p h e = let g : get_or (take (length c - at) (drop at c)) k 0 ≡ get_or c (at + k) 0 =
    get_or-take (length c - at) (drop at c) k 0 (omega arith) ∙ get_or-drop at c k 0 in rw g at e

ended : (f : ℕ → Bool) (k n : ℕ) → k ≡ n → any_below f k ≡ false → any_below f n ≡ false
ended f k n e h = subst (λ (m : ℕ). any_below f m ≡ false) e h

pub returns-then-point-low : goal.returns-then-point-low
returns-then-point-low c =
    let a = c.args in
    let e : pos c.biased-point.result ≡ point a.card.now a.at c.loop-byte.byte-index +ℤ pos 128 =
    point_of_byte a.card.now a.at c.loop-byte.byte-index _ (omega arith) c.biased-point.ensures in
    let wrong-point : wrong a.card.now a.at c.loop-byte.byte-index ≡ true = elim c.then-point-low.branch [
      | below w ↦ falls _ _ c.loop-byte.byte-index _ _ e c.loop-byte.invariant.1 w.if-point-low.true
      | above w ↦ too_high a.card.now a.at c.loop-byte.byte-index _ e w.if-point-gt-MOST_POINT.true
    ] in
    ap checked (sym (bad_point _ _ (omega arith) c.loop-byte.byte-index (omega arith) wrong-point))

pub loop-byte-preserved : goal.loop-byte-preserved
loop-byte-preserved c =
    let a = c.args in
    let e : pos c.biased-point.result ≡ point a.card.now a.at c.loop-byte.byte-index +ℤ pos 128 =
    point_of_byte a.card.now a.at c.loop-byte.byte-index _ (omega arith) c.biased-point.ensures in
    let l = low_least _ _ c.loop-byte.byte-index _ c.loop-byte.invariant.1 in (
      some_more _ c.loop-byte.byte-index c.loop-byte.invariant.0
          (right _ _ c.loop-byte.byte-index _ _ e c.loop-byte.invariant.1 c.if-point-low.false c.if-point-gt-MOST_POINT.false),
      low_next _ _ c.loop-byte.byte-index _ e (omega arith),
    )

pub returns : goal.returns
returns c = ap checked (sym (good-points _ _ (omega arith) (ended _ _ _ (omega arith) c.loop-byte.invariant.0)))
