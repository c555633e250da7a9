-- `generator::draw_numbers` meets its contract: what is left to draw, stored from the present place on, gives the end (`Storing`).
use Rattle.generator.proofs.Draws.{Storing}
use Rattle.generator.proofs.draw_numbers.Given as goal

abbrev pub invariant-loop-k : goal.invariant-loop-k
invariant-loop-k l = Storing l.m l.less l.n l.state l.initial.out l.at l.out l.next l.k
