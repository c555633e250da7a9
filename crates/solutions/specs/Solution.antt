-- What the solver is asked for (document 01, "Adapted lists", the solver).
--
--   limit              == 64, the most points: what the absolute values may add up to
--   Posed s L ds       == a question: a rising list L of patterns of s polynomials, and as many whole numbers ds
--   Solution s L ds ws == "the whole numbers, one per pattern, whose queries on the adapted list are those numbers. They may be negative.
--                         Their absolute values must add up to at most 64."
--   IsSolver f         == f gives the solution where there is one, and nothing where there is none; there is never a second solution
use Rattle.std.specs.Prelude.{◌≡◌, ◌↔◌, List, map, ℕ, ◌^◌, ◌≤◌, ℤ, length}
use Rattle.std.proofs.Math.Option.{Option, some, none}
use Rattle.refusals.specs.Limits.{most_points}
use Rattle.integers.specs.Sums.{sum_abs}
use Rattle.signs.specs.Lists.{Below, Rising}
use Rattle.signs.specs.Signs.{weighted}
use Rattle.signs.specs.Adapted.{adapted}

abbrev pub limit : ℕ
limit = most_points

pub record Posed (s : ℕ) (L : List ℕ) (ds : List ℤ) : Type 0 where
  pub rising : Rising L
  pub below : Below (3 ^ s) L
  pub full : length ds ≡ length L

pub record Solution (s : ℕ) (L : List ℕ) (ds ws : List ℤ) : Type 0 where
  pub one_each : length ws ≡ length L
  pub give : map (weighted s L ws) (adapted s L) ≡ ds
  pub small : sum_abs ws ≤ limit

pub record IsSolver (f : ℕ → List ℕ → List ℤ → Option (List ℤ)) : Type 0 where
  pub found : (s : ℕ) (L : List ℕ) (ds ws : List ℤ) → Posed s L ds → (f s L ds ≡ some ws) ↔ Solution s L ds ws
  pub refused : (s : ℕ) (L : List ℕ) (ds : List ℤ) → Posed s L ds → (f s L ds ≡ none) ↔ ((ws : List ℤ) → Solution s L ds ws → ⊥)
  pub only : (s : ℕ) (L : List ℕ) (ds ws vs : List ℤ) → Posed s L ds → Solution s L ds ws → Solution s L ds vs → ws ≡ vs
