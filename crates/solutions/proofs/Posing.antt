-- The test of a question to the solver says `Posed`.
use mathlib.Core.Path.{◌≡◌}
use mathlib.Core.Bool.{true, ◌&&◌}
use mathlib.Core.List.{List}
use Prim.Native.Nat.{ℕ, ◌^◌, ◌≤◌}
use borrow.Author.Tests.{eqb-true, leb-true}
use lib.Dec.{eqb, leb}
use lib.IntN.{ℤ}
use lib.ListN.{length}
use Rattle.refusals.specs.Limits.{most_points}
use Rattle.signs.specs.Lists.{is_below, is_rising}
use Rattle.signs.proofs.Orders.{both_left, both_right, below_from, rising_from}
use Rattle.solutions.specs.Solution.{Posed}
use Rattle.solutions.specs.Posing.{is_list}

pub list_true : (s : ℕ) (L : List ℕ) (xs : List ℤ) → is_list s L xs ≡ true → (length L ≤ most_points) × Posed s L xs
unfolding is_list
list_true s L xs e = (leb-true (length L) most_points (both_left _ _ e), posed (both_right (leb (length L) most_points) _ e))
  where
    posed : eqb (length xs) (length L) && (is_rising L && is_below (3 ^ s) L) ≡ true → Posed s L xs
    posed f =
        let g = both_right (eqb (length xs) (length L)) (is_rising L && is_below (3 ^ s) L) f in
        record {
          rising = rising_from L (both_left (is_rising L) (is_below (3 ^ s) L) g);
          below = below_from (3 ^ s) L (both_right (is_rising L) (is_below (3 ^ s) L) g);
          full = eqb-true (length xs) (length L) (both_left (eqb (length xs) (length L)) (is_rising L && is_below (3 ^ s) L) f);
        }
