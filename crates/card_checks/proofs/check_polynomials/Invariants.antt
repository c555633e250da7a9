-- `card_checks::check_polynomials` meets its contract. The loop's invariant: the polynomials that are left decide, and their coefficients
-- are what is left of the list.
use Rattle.std.proofs.Common.{◌≡◌, length, drop}
use Rattle.card_bytes.specs.Bytes.{wanted}
use Rattle.card_bytes.specs.Causes.{polynomials_cause}
use Rattle.card_checks.proofs.check_polynomials.Given as goal

abbrev pub invariant-loop-d : goal.invariant-loop-d
invariant-loop-d l = record {
  decides : polynomials_cause (drop l.d-index l.degrees) l.left ≡ polynomials_cause l.degrees l.coefficients;
  long : length l.left ≡ wanted (drop l.d-index l.degrees);
}
