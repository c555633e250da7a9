-- `card_draw::draw_polynomials` meets its contract: what is left to draw, stored from the present place on, gives the end (`Storing`).
use Rattle.card_draw.proofs.Storing.{Storing}
use Rattle.card_draw.proofs.draw_polynomials.Given as goal

abbrev pub invariant-loop-j : goal.invariant-loop-j
invariant-loop-j l = Storing l.s l.d l.state l.initial.out l.out l.next l.j
