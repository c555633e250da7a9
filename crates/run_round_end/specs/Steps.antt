-- The steps of a round's end as the code takes them.
--
--   with_sign t           == the count with the sign of the digit t: `with_zero` for 0, `with_plus` for 1, `with_minus` for 2
-- sign_rows w t R es gs == the rows of R extended by the sign of the digit t, those with a count above 0; w is the weight of the new digit
--   proper_counts C       == the test that the counts C are above 0 and add up to at most 64
use Rattle.std.specs.Prelude.{Bool, ◌&&◌, List, ℕ, zero, suc, ◌*◌, leb, ℤ}
use Rattle.refusals.specs.Limits.{most_points}
use Rattle.rounds.specs.Rows.{Row}
use Rattle.rounds.specs.Moments.{with_zero, with_plus, with_minus, extended_by}
use Rattle.rounds.specs.RoundEnd.{all_positive, sum}

unfoldable pub with_sign : ℕ → ℕ → ℤ → ℤ → ℕ
with_sign zero d e g = with_zero d e g
with_sign (suc zero) d e g = with_plus d e g
with_sign (suc (suc t)) d e g = with_minus d e g

abbrev pub sign_rows : ℕ → ℕ → List Row → List ℤ → List ℤ → List Row
sign_rows w t R es gs = extended_by (t * w) (with_sign t) R es gs

unfoldable pub proper_counts : List ℕ → Bool
proper_counts C = all_positive C && leb (sum C) most_points
