-- `card_draw::draw` meets its contract.
use mathlib.Core.Path.{sym, ap, ◌∙◌}
use native.Mathlib.Omega.{arith}
use lib.IntN.{pos}
use lib.ListN.{replicate}
use lib.Seq.{length-take-le}
use Rattle.std.proofs.lemmas.Result.{err_from_is_err_and}
use Rattle.refusals.proofs.Refusals.{passed_none, refused_by, refused_some}
use Rattle.card_draw.proofs.Drawing.{Allowed, allowed, room_most, take-replicate, drawing-refused, drawing-writing}
use Rattle.card_draw.proofs.draw.Goals as goal
use Rattle.card_draw.proofs.draw.Goals.{In_ok-check}

pub returns-in_err-check : goal.returns-in_err-check
returns-in_err-check c =
    let a = c.args in
    let p = err_from_is_err_and c.from_residual.result c.from_residual.ensures.1 in
    let h = c.in_err-check.ensures in
    let w = drawing-refused a.seed a.s a.n a.d a.out.now (refused_some _ h) in
    record {
      value = rw (p.1, p.2, refused_by _ h) (sym (ap (λ x. x.0) w));
      out_after = sym (ap (λ x. x.1) w);
    }

-- s, n and d are within their limits
known : (c : In_ok-check)
    → Allowed c.args.s c.args.n c.args.d
known c = allowed _ _ _ (passed_none _ c.in_ok-check.ensures)

pub overflow_add-many : goal.overflow_add-many
overflow_add-many c = omega (arith, (known c).d-most)

pub overflow_mul-many : goal.overflow_mul-many
overflow_mul-many c = omega (arith, room_most _ _ _ (known c))

pub slice_bounds-degrees-end : goal.slice_bounds-degrees-end
slice_bounds-degrees-end c = (known c).s_most

pub slice_bounds-draw_card-end : goal.slice_bounds-draw_card-end
slice_bounds-draw_card-end c = sym (length-take-le _ _ (known (goal.at.slice_bounds-draw_card-end c).In_ok-check).s_most)

pub slice_bounds-coefficients-end : goal.slice_bounds-coefficients-end
slice_bounds-coefficients-end c = room_most _ _ _ (known (goal.at.slice_bounds-coefficients-end c).In_ok-check)

pub slice_bounds-draw_card-end-2 : goal.slice_bounds-draw_card-end-2
slice_bounds-draw_card-end-2 c = sym
    (length-take-le _ _ (room_most _ _ _ (known (goal.at.slice_bounds-draw_card-end-2 c).In_ok-check)))

pub slice_bounds-points-end : goal.slice_bounds-points-end
slice_bounds-points-end c = (known (goal.at.slice_bounds-points-end c).In_ok-check).n_most

pub slice_bounds-draw_card-end-3 : goal.slice_bounds-draw_card-end-3
slice_bounds-draw_card-end-3 c = sym (length-take-le _ _ (known (goal.at.slice_bounds-draw_card-end-3 c).In_ok-check).n_most)

pub draw_card-requires : goal.draw_card-requires
draw_card-requires c =
    let k = known (goal.at.draw_card-requires c).In_ok-check in (k.s_most, k.d-most, length-take-le _ _ (room_most _ _ _ k))

pub returns : goal.returns
returns c =
    let a = c.args in
    let w = drawing-writing a.seed a.s a.n a.d a.out.now (passed_none _ c.in_ok-check.ensures) in
    let ds = take-replicate a.s 8 a.d (known (goal.at.returns c).In_ok-check).s_most in
    let n = length-take-le a.n (replicate 64 (pos 0)) (known (goal.at.returns c).In_ok-check).n_most in
    record {
      value = c.draw_card.ensures.value ∙ rw (ds, n, w);
      out_after = c.draw_card.ensures.out_after ∙ rw (ds, n, w);
    }
