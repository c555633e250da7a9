-- `card_draw::draw_points` meets its contract.
use Rattle.card_draw.proofs.Storing.{points_stored}
use Rattle.card_draw.proofs.draw_points.Goals as goal

pub returns : goal.returns
returns c =
    let a = c.args in
    points_stored a.out.now _ _ a.state c.draw_numbers.ensures.1 c.sort.ensures
