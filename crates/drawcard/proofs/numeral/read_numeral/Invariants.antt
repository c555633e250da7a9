-- `numeral::read_numeral` meets its contract: the number so far, with the bytes that are left, is the number that the text is.
use Rattle.std.proofs.Common.{◌≡◌, drop}
use Rattle.drawcard.specs.Numeral.{numeral_from, numeral_of}
use Rattle.drawcard.proofs.numeral.read_numeral.Given as goal

abbrev pub invariant-loop-b : goal.invariant-loop-b
invariant-loop-b l = numeral_from l.n (drop l.b-index l.text) ≡ numeral_of l.text
