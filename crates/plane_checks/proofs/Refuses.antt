-- THE CAUSES, as document 02 orders them: each number refuses a polynomial in X and Y, or points of the plane, exactly for its cause
-- (`refuses`, `points_refuse`).
--
--   Which c at m       == m is the number of one of the causes of a polynomial, or 0, and that cause holds, or none
--   WhichPoints c at m == so for the points
use mathlib.Core.Path.{◌≡◌, refl, sym, ◌∙◌}
use mathlib.Core.Bool.{Bool, true, false, false≢true}
use mathlib.Core.Logic.{◌⊎◌, inl, inr, ⊎_elim}
use mathlib.Core.List.{List, [], ◌∷◌}
use Prim.Native.Nat.{ℕ, ◌+◌, ◌*◌, ◌≤◌, ◌<◌}
use native.Mathlib.Omega.{arith}
use native.Mathlib.Decide.{ℕ_discrete}
use lib.ListN.{length}
use Rattle.refusals.specs.Numbers.{is_among, Among}
use Rattle.integers.specs.Search.{any_below, outside}
use Rattle.integers.proofs.Tests.{bool_cases}
use Rattle.layout.specs.Format.{point_count}
use Rattle.layout.proofs.Twos.{below_or}
use Rattle.plane.specs.Format.{term_count, plane_size, term_coefficient}
use Rattle.plane.specs.Body.{WholePlane, Terms, PlaneBody}
use Rattle.plane_checks.specs.Checks.{wrong_term, plane_refusal, wrong_plane_point, plane_points_refusal}
use Rattle.plane_checks.specs.Claim.{ManyTerms, Cut, Refuses, PlanePoints, PointsRefuse}
use Rattle.plane_checks.proofs.Listed.{plane_holds, plane-points_holds}
use Rattle.plane_checks.proofs.Terms as terms
use Rattle.plane_checks.proofs.Points as points

-- a test that is not false is true
otherwise : (t : Bool) → (t ≡ false → ⊥) → t ≡ true
otherwise true h = refl
otherwise false h = absurd (h refl)

apart : {t : Bool} → t ≡ true → t ≡ false → ⊥
apart e f = false≢true (sym f ∙ e)

-- ---- one polynomial
module _ (c : List ℕ) (at : ℕ) where
  abbrev Faulty : Type 0
  Faulty = ManyTerms c at ⊎ (WholePlane c at × (Terms c at → ⊥))

  abbrev Large : Type 0
  Large = Terms c at × (PlaneBody c at → ⊥)

  cut_refused : Cut c at → plane_refusal c at ≡ 1
  cut_refused (inl h) = terms.no_count c at h
  cut_refused (inr (few, short)) = go (below_or at (length c))
    where
      go : (at < length c) ⊎ (length c ≤ at) → plane_refusal c at ≡ 1
      go (inl b) = terms.cut_body c at b few short
      go (inr h) = terms.no_count c at h

  faulty_refused : Faulty → plane_refusal c at ≡ 18
  faulty_refused (inl (begins, many)) = terms.many-terms c at begins many
  faulty_refused (inr (w, n)) = terms.wrong-terms c at w (otherwise _ (λ e. n (terms.terms_of c at w e)))

  large_refused : Large → plane_refusal c at ≡ 5
  large_refused (t, n) = terms.wrong-limits c at t.whole (terms.none_wrong c at t) (otherwise _ (λ e. n (terms.body_of c at t e)))

  body_unrefused : PlaneBody c at → plane_refusal c at ≡ 0
  body_unrefused b = terms.sound-body c at b.terms.whole (terms.none_wrong c at b.terms) (terms.none_large c at b)

  abbrev Which : ℕ → Type 0
  Which m = (Cut c at × (m ≡ 1)) ⊎ ((Faulty × (m ≡ 18)) ⊎ ((Large × (m ≡ 5)) ⊎ (PlaneBody c at × (m ≡ 0))))

  as_cut : Cut c at → Which (plane_refusal c at)
  as_cut x = inl (x, cut_refused x)

  as_faulty : Faulty → Which (plane_refusal c at)
  as_faulty x = inr (inl (x, faulty_refused x))

  as_large : Large → Which (plane_refusal c at)
  as_large x = inr (inr (inl (x, large_refused x)))

  as_body : PlaneBody c at → Which (plane_refusal c at)
  as_body x = inr (inr (inr (x, body_unrefused x)))

  which : Which (plane_refusal c at)
  which = first (below_or at (length c))
    where
      limits : Terms c at → Which (plane_refusal c at)
      limits t =
          ⊎_elim (λ e. as_large (t, λ b. apart e (terms.none_large c at b)))
          (λ e. as_body (terms.body_of c at t e))
          (bool_cases (any_below (λ i. outside 1000000 (term_coefficient c at i)) (term_count c at)))

      all : WholePlane c at → Which (plane_refusal c at)
      all w =
          ⊎_elim (λ e. as_faulty (inr (w, λ t. apart e (terms.none_wrong c at t))))
          (λ e. limits (terms.terms_of c at w e))
          (bool_cases (any_below (wrong_term c at) (term_count c at)))

      third : at < length c → term_count c at ≤ 9 → (length c < at + plane_size c at) ⊎ (at + plane_size c at ≤ length c)
          → Which (plane_refusal c at)
      third b f (inl short) = as_cut (inr (f, short))
      third b f (inr ends) = all (record { begins = b; few = f; ends = ends })

      second : at < length c → (9 < term_count c at) ⊎ (term_count c at ≤ 9) → Which (plane_refusal c at)
      second b (inl many) = as_faulty (inl (b, many))
      second b (inr few) = third b few (below_or (length c) (at + plane_size c at))

      first : (at < length c) ⊎ (length c ≤ at) → Which (plane_refusal c at)
      first (inl b) = second b (below_or 9 (term_count c at))
      first (inr h) = as_cut (inl h)

  listed : Among (0 ∷ 1 ∷ 5 ∷ 18 ∷ []) (plane_refusal c at)
  unfolding is_among
  listed =
      plane_holds (Among (0 ∷ 1 ∷ 5 ∷ 18 ∷ [])) (record { stands = refl }) c at (record { stands = refl }) (record { stands = refl })
      (record { stands = refl })

  pub refuses : Refuses c at (plane_refusal c at)
  refuses =
      record {
        is_1 = (is_1 which, cut_refused);
        is_18 = (is_18 which, faulty_refused);
        is_5 = (is_5 which, large_refused);
        is_0 = (is_0 which, body_unrefused);
        no_other = listed;
      }
    where
      is_1 : {m : ℕ} → Which m → m ≡ 1 → Cut c at
      is_1 (inl (x, e)) f = x
      is_1 (inr (inl (x, e))) f = absurd (omega arith)
      is_1 (inr (inr (inl (x, e)))) f = absurd (omega arith)
      is_1 (inr (inr (inr (x, e)))) f = absurd (omega arith)

      is_18 : {m : ℕ} → Which m → m ≡ 18 → Faulty
      is_18 (inl (x, e)) f = absurd (omega arith)
      is_18 (inr (inl (x, e))) f = x
      is_18 (inr (inr (inl (x, e)))) f = absurd (omega arith)
      is_18 (inr (inr (inr (x, e)))) f = absurd (omega arith)

      is_5 : {m : ℕ} → Which m → m ≡ 5 → Large
      is_5 (inl (x, e)) f = absurd (omega arith)
      is_5 (inr (inl (x, e))) f = absurd (omega arith)
      is_5 (inr (inr (inl (x, e)))) f = x
      is_5 (inr (inr (inr (x, e)))) f = absurd (omega arith)

      is_0 : {m : ℕ} → Which m → m ≡ 0 → PlaneBody c at
      is_0 (inl (x, e)) f = absurd (omega arith)
      is_0 (inr (inl (x, e))) f = absurd (omega arith)
      is_0 (inr (inr (inl (x, e)))) f = absurd (omega arith)
      is_0 (inr (inr (inr (x, e)))) f = x

-- ---- the points
module _ (c : List ℕ) (at : ℕ) where
  abbrev Full : Type 0
  Full = length c ≡ at + 2 * point_count c

  abbrev Misplaced : Type 0
  Misplaced = Full × (PlanePoints c at → ⊥)

  misplaced_refused : Misplaced → plane_points_refusal c at ≡ 6
  misplaced_refused (full, n) = points.bad_points c at full (otherwise _ (λ e. n (points.points_of c at full e)))

  points_unrefused : PlanePoints c at → plane_points_refusal c at ≡ 0
  points_unrefused p = points.good-points c at p.ends (points.none_wrong c at p)

  abbrev WhichPoints : ℕ → Type 0
  WhichPoints m = ((Full → ⊥) × (m ≡ 1)) ⊎ ((Misplaced × (m ≡ 6)) ⊎ (PlanePoints c at × (m ≡ 0)))

  as_misplaced : Misplaced → WhichPoints (plane_points_refusal c at)
  as_misplaced x = inr (inl (x, misplaced_refused x))

  as_points : PlanePoints c at → WhichPoints (plane_points_refusal c at)
  as_points x = inr (inr (x, points_unrefused x))

  which_points : WhichPoints (plane_points_refusal c at)
  which_points = first (ℕ_discrete (length c) (at + 2 * point_count c))
    where
      all : Full → WhichPoints (plane_points_refusal c at)
      all full =
          ⊎_elim (λ e. as_misplaced (full, λ p. apart e (points.none_wrong c at p)))
          (λ e. as_points (points.points_of c at full e))
          (bool_cases (any_below (wrong_plane_point c at) (point_count c)))

      first : Dec Full → WhichPoints (plane_points_refusal c at)
      first (yes full) = all full
      first (no h) = inl (h, points.plane_not_full c at h)

  points_listed : Among (0 ∷ 1 ∷ 6 ∷ []) (plane_points_refusal c at)
  unfolding is_among
  points_listed =
      plane-points_holds (Among (0 ∷ 1 ∷ 6 ∷ [])) (record { stands = refl }) c at (record { stands = refl }) (record { stands = refl })

  pub points_refuse : PointsRefuse c at (plane_points_refusal c at)
  points_refuse =
      record {
        is_1 = (is_1 which_points, points.plane_not_full c at);
        is_6 = (is_6 which_points, misplaced_refused);
        is_0 = (is_0 which_points, points_unrefused);
        no_other = points_listed;
      }
    where
      is_1 : {m : ℕ} → WhichPoints m → m ≡ 1 → Full → ⊥
      is_1 (inl (x, e)) f = x
      is_1 (inr (inl (x, e))) f = absurd (omega arith)
      is_1 (inr (inr (x, e))) f = absurd (omega arith)

      is_6 : {m : ℕ} → WhichPoints m → m ≡ 6 → Misplaced
      is_6 (inl (x, e)) f = absurd (omega arith)
      is_6 (inr (inl (x, e))) f = x
      is_6 (inr (inr (x, e))) f = absurd (omega arith)

      is_0 : {m : ℕ} → WhichPoints m → m ≡ 0 → PlanePoints c at
      is_0 (inl (x, e)) f = absurd (omega arith)
      is_0 (inr (inl (x, e))) f = absurd (omega arith)
      is_0 (inr (inr (x, e))) f = x
