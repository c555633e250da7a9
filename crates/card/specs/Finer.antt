-- Which number refuses a card for a wrong polynomial (document 02, wish 1: "5 stays for a coefficient outside its limits. All other cards
-- are refused as before"; wish 6: 18, and 5 after it), in words of its own. That `Finer` holds of every card that is not of points in the
-- plane, and `PlaneFiner` of those, is proofs/Finer.antt.
--
--   Reached c j                == the checks come to polynomial j: no number refuses the header and the contents, and each polynomial
--                                 before it is sound, with the next offset where its body ends
--   HighDegree c at            == the body that begins at byte `at` has its degree byte on the card c, and the degree is above 6
--   LargeCoefficient c at      == it is `Whole`, and a coefficient is outside −1,000,000 to 1,000,000
--   ZeroTop c at               == it is `Small`, and its top coefficient is 0 though its degree is not
--   coarse m                   == the number m, with 16 and 17 read as 5
--   refusal_before c            == the number that refuses the card c by document 01's own "Card order", or 0; for this claim only
--   polynomials_before c k j at == the number that refuses it by that order from polynomial j on, whose body begins at byte `at`, or 0;
--                                 there are k polynomials left
--   Finer c                    == each of 5, 16 and 17 refuses the card c exactly for its cause, with 16 and 17 read as 5 its number is
--                                 document 01's, and 18 is not
--   PlaneFiner c               == of 18 and 5 each refuses the card c exactly for its cause, and neither 16 nor 17 does
use Rattle.std.specs.Prelude.{◌≡◌, cond, not, ◌||◌, ◌&&◌, ◌↔◌, ◌⊎◌, ◌≢◌, List, ℕ, zero, suc, ◌+◌, ◌≤◌, ◌<◌, ltb, leb, eqb, pos, nat_abs}
use Rattle.std.specs.Prelude.{length}
use Rattle.refusals.specs.Numbers.{◌when◌, ◌▸◌}
use Rattle.layout.specs.Format.{byte, polynomials, point_count, offset, bodies_at, degree, size, coefficient, point}
use Rattle.layout.specs.Body.{Whole, Small}
use Rattle.plane.specs.Body.{WholePlane, Terms, PlaneBody}
use Rattle.plane_checks.specs.Claim.{ManyTerms}
use Rattle.integers.specs.Search.{any_below, outside}
use Rattle.card.specs.Kinds.{body_size, SoundBody}
use Rattle.card.specs.Card.{falling, header_refusal, refusal}

-- ---- the causes
pub record Reached (c : List ℕ) (j : ℕ) : Type 0 where
  pub header : header_refusal c ≡ 0
  pub below : j < polynomials c
  pub body : (i : ℕ) → i < j → SoundBody c (offset c i)
  pub follows : (i : ℕ) → i < j → offset c (suc i) ≡ offset c i + body_size c (offset c i)

abbrev pub HighDegree : List ℕ → ℕ → Type 0
HighDegree c at = (at < length c) × (6 < degree c at)

abbrev pub LargeCoefficient : List ℕ → ℕ → Type 0
LargeCoefficient c at = Whole c at × (i : ℕ) × (i ≤ degree c at) × (1000000 < nat_abs (coefficient c at i))

abbrev pub ZeroTop : List ℕ → ℕ → Type 0
ZeroTop c at = Small c at × (0 < degree c at) × (coefficient c at (degree c at) ≡ pos 0)

-- ---- as before
unfoldable pub coarse : ℕ → ℕ
coarse m = cond (eqb m 16 || eqb m 17) 5 m

unfoldable pub polynomials_before : List ℕ → ℕ → ℕ → ℕ → ℕ
-- "Last, remaining bytes not n, 1; points, 6"
polynomials_before c zero j at =
    1 when not (eqb (length c) (at + point_count c))
    ▸ 6 when any_below (λ k. outside 100 (point c at k) || falling c at k) (point_count c)
-- "Then each polynomial: missing degree byte, 1; degree, 5; body cut short, 1; coefficients, 5; next offset, 4"
polynomials_before c (suc k) j at =
    1 when leb (length c) at
    ▸ 5 when ltb 6 (degree c at)
    ▸ 1 when ltb (length c) (at + size c at)
    ▸ 5 when (any_below (λ i. outside 1000000 (coefficient c at i)) (degree c at + 1)
    || (ltb 0 (degree c at) && eqb (nat_abs (coefficient c at (degree c at))) 0))
    ▸ 4 when not (eqb (offset c (suc j)) (at + size c at))
    ▸ polynomials_before c k (suc j) (at + size c at)

-- "under 4 bytes, 1; bytes 0 and 3, 2; s, then n, 3; contents cut short, 1; first offset, 4"
unfoldable pub refusal_before : List ℕ → ℕ
refusal_before c =
    1 when ltb (length c) 4
    ▸ 2 when (not (eqb (byte c 0) 1) || not (eqb (byte c 3) 0))
    ▸ 3 when (ltb (polynomials c) 1 || ltb 8 (polynomials c))
    ▸ 3 when ltb 64 (point_count c)
    ▸ 1 when ltb (length c) (bodies_at c)
    ▸ 4 when not (eqb (offset c 0) (bodies_at c))
    ▸ polynomials_before c (polynomials c) 0 (bodies_at c)

-- ---- the claim
pub record Finer (c : List ℕ) : Type 0 where
  -- "5 stays for a coefficient outside its limits"
  pub five : (refusal c ≡ 5) ↔ ((j : ℕ) × Reached c j × LargeCoefficient c (offset c j))
  -- "16, degree above 6, where the degree was checked"
  pub sixteen : (refusal c ≡ 16) ↔ ((j : ℕ) × Reached c j × HighDegree c (offset c j))
  -- "17, top coefficient 0 with degree above 0, after the coefficients of that polynomial"
  pub seventeen : (refusal c ≡ 17) ↔ ((j : ℕ) × Reached c j × ZeroTop c (offset c j))
  -- "All other cards are refused as before"
  pub as_before : coarse (refusal c) ≡ refusal_before c
  pub no_18 : refusal c ≢ 18

pub record PlaneFiner (c : List ℕ) : Type 0 where
  -- "18, t above 9, where 16 stands for the line; .. then 18 again for powers too high, terms not rising or a coefficient of 0"
  pub eighteen : (refusal c ≡ 18) ↔ ((j : ℕ) × Reached c j
      × (ManyTerms c (offset c j) ⊎ (WholePlane c (offset c j) × (Terms c (offset c j) → ⊥))))
  -- "then coefficient limits by 5"
  pub five : (refusal c ≡ 5) ↔ ((j : ℕ) × Reached c j × (Terms c (offset c j) × (PlaneBody c (offset c j) → ⊥)))
  pub no_16 : refusal c ≢ 16
  pub no_17 : refusal c ≢ 17
