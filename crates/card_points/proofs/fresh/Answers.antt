-- `card_points::fresh` meets its contract.
use mathlib.Core.Path.{◌≡◌, sym, ap, ◌∙◌}
use mathlib.Core.Bool.{not}
use Prim.Native.Nat.{◌+◌, ◌*◌, ◌-◌}
use native.Mathlib.Omega.{arith}
use borrow.Author.Tests.{ne_eqb}
use Rattle.layout.specs.Format.{byte}
use Rattle.card.proofs.ByKind.{kind-plane, kind-line}
use Rattle.card_points.proofs.Neighbours as points
use Rattle.card_points.proofs.fresh.Goals as goal
use Rattle.card_points.proofs.fresh.Goals.{Else-is_plane, Then-is_plane}

pub returns-then-k-eq0 : goal.returns-then-k-eq0
returns-then-k-eq0 c = points.first_new _ _ c.if-k-eq0.true

-- ---- in the plane
in_plane : (c : Then-is_plane) → byte c.args.card.now 0 ≡ 2
in_plane c = kind-plane c.args.card.now (sym c.is_plane.ensures ∙ c.if-is_plane.true)

pub returns-then-card-i : goal.returns-then-card-i
returns-then-card-i c =
    let a = c.args in
    let w = c.type_inv.card in
    ap not (ne_eqb _ _ c.if-card-i.true)
    ∙ points.plane_new_x _ a.from a.k c.requires.1 (omega arith) (in_plane (goal.at.returns-then-card-i c).Then-is_plane)
    (omega (arith, w (a.from + 2 * a.k - 2))) (omega (arith, w (a.from + 2 * a.k))) c.if-card-i.true

pub returns-else-card-i : goal.returns-else-card-i
returns-else-card-i c =
    let a = c.args in
    let w = c.type_inv.card in
    points.plane_new_y _ a.from a.k c.requires.1 (omega arith) (in_plane (goal.at.returns-else-card-i c).Then-is_plane)
    c.if-card-i.false (omega (arith, w (a.from + 2 * a.k - 1))) (omega (arith, w (a.from + 2 * a.k + 1)))

-- ---- on the line
on_line : (c : Else-is_plane) → byte c.args.card.now 0 ≡ 1
on_line c =
    kind-line c.args.card.now c.requires.0.kind (sym c.is_plane.ensures ∙ c.if-is_plane.false)

pub returns : goal.returns
returns c =
    let a = c.args in
    let w = c.type_inv.card in
    points.line-new _ a.from a.k c.requires.1 (omega arith) (on_line (goal.at.returns c).Else-is_plane)
    (omega (arith, w (a.from + a.k - 1))) (omega (arith, w (a.from + a.k)))
