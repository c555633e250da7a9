-- `card_tests::print_cards` ends: each record has bytes.
use Rattle.std.proofs.Common.{length}
use Rattle.card_tests.proofs.print_cards.Given as goal

abbrev pub decreases-loop-rest : goal.decreases-loop-rest
decreases-loop-rest g l = length l.rest
