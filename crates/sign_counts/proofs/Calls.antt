-- THEOREM of the code: the panel number of the counts of some whole numbers is the sum of their signs. The call is known by its contract
-- alone (`Learnt`), so that a weaker promise breaks the theorem.
use mathlib.Core.Path.{◌≡◌, ◌∙◌}
use mathlib.Core.List.{List, map}
use lib.IntN.{ℤ}
use Rattle.integers.specs.Sign.{sgn_ℤ}
use Rattle.integers.specs.Sums.{sum_ℤ}
use Rattle.sign_counts.specs.Counts.{sign_counts}
use Rattle.sign_counts.proofs.Laws.{panel-sum}
use Rattle.sign_counts.proofs.panel_number.Reads as panel

pub panel-shown : (zs : List ℤ) (r : ℤ) → panel.Learnt tt (sign_counts zs, tt) r (sign_counts zs, tt) → r ≡ sum_ℤ (map sgn_ℤ zs)
panel-shown zs r e = e ∙ panel-sum zs
