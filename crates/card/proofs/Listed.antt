-- Every number that refuses a card is one of the list `card_numbers`, and every number that refuses a position is one of these or 14.
use mathlib.Core.Path.{◌≡◌, refl}
use mathlib.Core.Bool.{Bool, true, false, cond, not, ◌||◌, ◌&&◌}
use mathlib.Core.Logic.{◌⊎◌, inl, inr}
use mathlib.Core.List.{List, ◌∷◌}
use Prim.Native.Nat.{ℕ, zero, suc, ◌+◌}
use lib.Dec.{leb, ltb, eqb}
use lib.IntN.{nat_abs}
use lib.ListN.{length}
use Rattle.refusals.specs.Numbers.{wrong_length, wrong_byte, wrong_count, wrong_offset, wrong_coefficient, wrong_point, wrong_degree}
use Rattle.refusals.specs.Numbers.{zero_top}
use Rattle.refusals.specs.Numbers.{wrong_terms, past_last, card_numbers, is_among, Among, ◌when◌, ◌▸◌}
use Rattle.refusals.specs.Limits.{most_polynomials, most_points, most_degree, most_coefficient, most_point}
use Rattle.refusals.proofs.Causes.{then_holds, only_holds, first_holds}
use Rattle.layout.specs.Format.{byte, polynomials, point_count, offset, bodies_at, degree, size, coefficient, point}
use Rattle.integers.specs.Search.{any_below, outside}
use Rattle.card.specs.Card.{falling, contents_refusal, header_refusal, coefficients_refusal, polynomial_refusal}
use Rattle.plane.specs.Format.{is_plane}
use Rattle.plane_checks.specs.Checks.{plane_refusal, plane_points_refusal}
use Rattle.plane_checks.proofs.Listed.{plane_holds, plane-points_holds}
use Rattle.card.specs.Kinds.{body_size}
use Rattle.card.specs.Card.{body_refusal, end_refusal, bodies_refusal, points_refusal, refusal, position_refusal}
use Rattle.card.proofs.ByKind.{other}

-- what holds of 0 and of the header's numbers holds of the number that refuses a card within the header and the contents; so for the points
module _ (P : ℕ → Type 0) (none : P 0) (c : List ℕ) where
  contents_holds : P wrong_length → P wrong_offset → P (contents_refusal c)
  unfolding contents_refusal
  contents_holds length-fails offset-fails =
      first_holds P wrong_length (ltb (length c) (bodies_at c)) length-fails
      (only_holds P wrong_offset (not (eqb (offset c 0) (bodies_at c))) none offset-fails)

  pub header_holds : P wrong_length → P wrong_byte → P wrong_count → P wrong_offset → P (header_refusal c)
  unfolding header_refusal
  header_holds length-fails byte-fails count-fails offset-fails =
      first_holds P wrong_length (ltb (length c) 4) length-fails
      (first_holds P wrong_byte (other c || not (eqb (byte c 3) 0)) byte-fails
      (first_holds P wrong_count (ltb (polynomials c) 1 || ltb most_polynomials (polynomials c)) count-fails
      (first_holds P wrong_count (ltb most_points (point_count c)) count-fails (contents_holds length-fails offset-fails))))

  coefficients_holds : (at : ℕ) → P wrong_coefficient → P zero_top → P (coefficients_refusal c at)
  unfolding coefficients_refusal
  coefficients_holds at limits-fail top-fails =
      first_holds P wrong_coefficient (any_below (λ i. outside most_coefficient (coefficient c at i)) (degree c at + 1)) limits-fail
      (only_holds P zero_top (ltb 0 (degree c at) && eqb (nat_abs (coefficient c at (degree c at))) 0) none top-fails)

  pub polynomial_holds : (at : ℕ) → P wrong_length → P wrong_degree → P wrong_coefficient → P zero_top → P (polynomial_refusal c at)
  unfolding polynomial_refusal
  polynomial_holds at length-fails degree-fails limits-fail top-fails =
      first_holds P wrong_length (leb (length c) at) length-fails
      (first_holds P wrong_degree (ltb most_degree (degree c at)) degree-fails
      (first_holds P wrong_length (ltb (length c) (at + size c at)) length-fails (coefficients_holds at limits-fail top-fails)))

  pub points_holds : (at : ℕ) → P wrong_length → P wrong_point → P (points_refusal c at)
  unfolding points_refusal
  points_holds at length-fails point-fails =
      first_holds P wrong_length (not (eqb (length c) (at + point_count c))) length-fails
      (only_holds P wrong_point (any_below (λ k. outside most_point (point c at k) || falling c at k) (point_count c)) none point-fails)

  pub end_holds : (at : ℕ) → P wrong_length → P wrong_point → P (end_refusal c at)
  end_holds at length-fails point-fails = go (is_plane c)
    where
      go : (t : Bool) → P (cond t (plane_points_refusal c at) (points_refusal c at))
      go true = plane-points_holds P none c at length-fails point-fails
      go false = points_holds at length-fails point-fails

-- none, or a card's number
abbrev pub Listed : ℕ → Type 0
Listed m = Among (0 ∷ card_numbers) m

there : (m : ℕ) → is_among m card_numbers ≡ true → Listed m
unfolding is_among
there m h = record { stands = rw h (or_true (eqb m 0)) }
  where
    or_true : (b : Bool) → b || true ≡ true
    or_true true = refl
    or_true false = refl

none_listed : Listed 0
unfolding is_among
none_listed = record { stands = refl }

-- a cause with a card's number, before others
first_listed : (m : ℕ) (t : Bool) {r : ℕ} → is_among m card_numbers ≡ true → Listed r → Listed (m when t ▸ r)
first_listed m t h = first_holds Listed m t (there m h)

module _ (c : List ℕ) where
  header_listed : Listed (header_refusal c)
  unfolding is_among card_numbers
  header_listed =
      header_holds Listed none_listed c (there wrong_length refl) (there wrong_byte refl) (there wrong_count refl) (there wrong_offset refl)

  end_listed : (at : ℕ) → Listed (end_refusal c at)
  unfolding is_among card_numbers
  end_listed at = end_holds Listed none_listed c at (there wrong_length refl) (there wrong_point refl)

  body_listed : (at : ℕ) → Listed (body_refusal c at)
  unfolding is_among card_numbers
  body_listed at = go (is_plane c)
    where
      go : (t : Bool) → Listed (cond t (plane_refusal c at) (polynomial_refusal c at))
      go true = plane_holds Listed none_listed c at (there wrong_length refl) (there wrong_terms refl) (there wrong_coefficient refl)
      go false =
          polynomial_holds Listed none_listed c at (there wrong_length refl) (there wrong_degree refl) (there wrong_coefficient refl)
          (there zero_top refl)

  bodies_listed : (k j at : ℕ) → Listed (bodies_refusal c k j at)
  unfolding bodies_refusal is_among card_numbers
  bodies_listed zero j at = end_listed at
  bodies_listed (suc k) j at =
      then_holds Listed (body_refusal c at) (body_listed at)
      (first_listed wrong_offset (not (eqb (offset c (suc j)) (at + body_size c at))) refl (bodies_listed k (suc j) (at + body_size c at)))

  -- THE LAW for a card
  pub refusal_listed : Listed (refusal c)
  unfolding refusal
  refusal_listed = then_holds Listed (header_refusal c) header_listed (bodies_listed (polynomials c) 0 (bodies_at c))

  -- and for a position on it
  pub position_listed : (j : ℕ) → Listed (position_refusal c j) ⊎ (position_refusal c j ≡ past_last)
  unfolding position_refusal
  position_listed j = go (refusal c) (leb (polynomials c) j) refusal_listed
    where
      go : (m : ℕ) (t : Bool) → Listed m → Listed (m ▸ past_last when t) ⊎ ((m ▸ past_last when t) ≡ past_last)
      go zero true h = inr refl
      go zero false h = inl h
      go (suc m) t h = inl h
