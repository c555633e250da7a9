-- What holds of 0 and of the numbers of the causes holds of the number that refuses a polynomial or points.
use mathlib.Core.Bool.{not}
use mathlib.Core.List.{List}
use Prim.Native.Nat.{ℕ, ◌+◌, ◌*◌}
use lib.Dec.{ltb, leb, eqb}
use lib.ListN.{length}
use Rattle.refusals.specs.Numbers.{wrong_length, wrong_coefficient, wrong_point, wrong_terms}
use Rattle.refusals.specs.Limits.{most_terms, most_coefficient}
use Rattle.refusals.proofs.Causes.{only_holds, first_holds}
use Rattle.integers.specs.Search.{any_below, outside}
use Rattle.layout.specs.Format.{point_count}
use Rattle.plane.specs.Format.{term_count, plane_size, term_coefficient}
use Rattle.plane_checks.specs.Checks.{wrong_term, plane_refusal, wrong_plane_point, plane_points_refusal}

module _ (P : ℕ → Type 0) (none : P 0) (c : List ℕ) (at : ℕ) (length-fails : P wrong_length) where
  pub plane_holds : P wrong_terms → P wrong_coefficient → P (plane_refusal c at)
  unfolding plane_refusal
  plane_holds terms-fail coefficient-fails =
      first_holds P wrong_length (leb (length c) at) length-fails
      (first_holds P wrong_terms (ltb most_terms (term_count c at)) terms-fail
      (first_holds P wrong_length (ltb (length c) (at + plane_size c at)) length-fails
      (first_holds P wrong_terms (any_below (wrong_term c at) (term_count c at)) terms-fail
      (only_holds P wrong_coefficient (any_below (λ i. outside most_coefficient (term_coefficient c at i)) (term_count c at)) none
      coefficient-fails))))

  pub plane-points_holds : P wrong_point → P (plane_points_refusal c at)
  unfolding plane_points_refusal
  plane-points_holds point-fails =
      first_holds P wrong_length (not (eqb (length c) (at + 2 * point_count c))) length-fails
      (only_holds P wrong_point (any_below (wrong_plane_point c at) (point_count c)) none point-fails)
