-- `plane_checks::check_points` meets its contract. The loop's invariant: no point below k is wrong, and low is the place of the last one
-- passed, or below that of every point.
use mathlib.Core.Path.{◌≡◌, refl, sym, ap, subst}
use mathlib.Core.Bool.{Bool, true, false}
use Prim.Native.Nat.{ℕ}
use native.Mathlib.Omega.{arith}
use borrow.Author.Rules.{sfits_of}
use Rattle.integers.specs.Search.{any_below}
use Rattle.integers.proofs.Search.{some_none, some_more}
use Rattle.refusals.specs.Refusals.{checked}
use Rattle.plane.specs.Format.{Point, plane_point}
use Rattle.plane_checks.specs.Checks.{wrong_plane_point}
use Rattle.plane_checks.proofs.Within.{is_far, is_near}
use Rattle.plane_checks.proofs.Points.{Held, scaled_fits, place-fits, place_is}
use Rattle.plane_checks.proofs.Points.{low_next, far_x, far_y, falls, right, bad_point, good-points}
use Rattle.plane_checks.proofs.check_points.Goals as goal
use Rattle.plane_checks.proofs.check_points.Goals.{Else-not-within-2}
use Rattle.plane_checks.proofs.check_points.Goals.{then-not-within-via-then-not-within as by-x}
use Rattle.plane_checks.proofs.check_points.Goals.{then-not-within-via-else-not-within+then-not-within-2 as by-y}

pub loop-k-init : goal.loop-k-init
loop-k-init c = (some_none _, refl)

pub returns-then-not-within : goal.returns-then-not-within
returns-then-not-within c =
    let a = c.args in
    let wrong : wrong_plane_point a.card.now a.at c.loop-k.k ≡ true = elim c.then-not-within.branch [
      | by-x w ↦ far_x a.card.now a.at c.loop-k.k
          (is_far (sfits_of c.point-x.type_inv) c.point-x.ensures 100 c.within.ensures w.if-not-within.true)
      | by-y w ↦ far_y a.card.now a.at c.loop-k.k
          (is_far (sfits_of c.point-y.type_inv) c.point-y.ensures 100 w.within-else-not-within.ensures w.if-not-within-2.true)
    ] in
    ap checked (sym (bad_point _ _ (omega arith) c.loop-k.k (omega arith) wrong))

-- the point of a turn, once both tests passed
abbrev at_turn : (c : Else-not-within-2) → Point
at_turn c =
    let a = c.args in
    plane_point a.card.now a.at c.loop-k.k

held : (c : Else-not-within-2) → Held c.point-x.result c.point-y.result (at_turn c)
held c =
    record {
      fits_x = sfits_of c.point-x.type_inv;
      fits_y = sfits_of c.point-y.type_inv;
      is_x = c.point-x.ensures;
      is_y = c.point-y.ensures;
      near = (
        is_near (sfits_of c.point-x.type_inv) c.point-x.ensures 100 c.within.ensures c.if-not-within.false,
        is_near (sfits_of c.point-y.type_inv) c.point-y.ensures 100 c.within-else-not-within.ensures c.if-not-within-2.false,
      );
    }

pub overflow_mul-place : goal.overflow_mul-place
overflow_mul-place c = scaled_fits (held c)

pub overflow_add-place : goal.overflow_add-place
overflow_add-place c = place-fits (held c)

pub returns-then-place-low : goal.returns-then-place-low
returns-then-place-low c =
    let h = held (goal.at.returns-then-place-low c).Else-not-within-2 in
    ap checked (sym (bad_point _ _ (omega arith) c.loop-k.k (omega arith)
    (falls _ _ _ _ c.loop-k.k (place_is h) h.near c.loop-k.invariant.1 c.if-place-low.true)))

pub loop-k-preserved : goal.loop-k-preserved
loop-k-preserved c =
    let h = held (goal.at.loop-k-preserved c).Else-not-within-2 in (
      some_more _ c.loop-k.k c.loop-k.invariant.0 (right _ _ _ _ c.loop-k.k (place_is h) h.near c.loop-k.invariant.1 c.if-place-low.false),
      low_next _ _ c.loop-k.k _ (place_is h) h.near,
    )

ended : (f : ℕ → Bool) (k n : ℕ) → k ≡ n → any_below f k ≡ false → any_below f n ≡ false
ended f k n e h = subst (λ (m : ℕ). any_below f m ≡ false) e h

pub returns : goal.returns
returns c = ap checked (sym (good-points _ _ (omega arith) (ended _ _ _ (omega arith) c.loop-k.invariant.0)))
