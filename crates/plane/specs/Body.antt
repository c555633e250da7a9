-- What a sound body of a polynomial in X and Y is (document 02, wish 6), in words of its own.
--
--   Before a b a' b' == a term with the powers a of X and b of Y stands before one with the powers a' and b': by the power of X, then of Y
--   WholePlane c at  == the body that begins at byte `at` lies on the card c, and has at most 9 terms
--   Terms c at       == it is `WholePlane`; the powers of each term are together at most 6, no coefficient is 0, and each term stands
--                       before the next
--   PlaneBody c at   == it is `Terms`, and its coefficients are from −1,000,000 to 1,000,000: a sound body
use Rattle.std.specs.Prelude.{◌≡◌, ◌⊎◌, List, ℕ, suc, ◌+◌, ◌≤◌, ◌<◌, pos, nat_abs, length}
use Rattle.refusals.specs.Limits.{most_degree, most_terms, most_coefficient}
use Rattle.plane.specs.Format.{term_count, plane_size, x_power, y_power, term_coefficient}

abbrev pub Before : ℕ → ℕ → ℕ → ℕ → Type 0
Before a b a' b' = (a < a') ⊎ ((a ≡ a') × (b < b'))

pub record WholePlane (c : List ℕ) (at : ℕ) : Type 0 where
  pub begins : at < length c
  pub few : term_count c at ≤ most_terms
  pub ends : at + plane_size c at ≤ length c

pub record Terms (c : List ℕ) (at : ℕ) : Type 0 where
  pub whole : WholePlane c at
  pub low : (i : ℕ) → i < term_count c at → x_power c at i + y_power c at i ≤ most_degree
  pub some : (i : ℕ) → i < term_count c at → term_coefficient c at i ≡ pos 0 → ⊥
  pub rising : (i : ℕ) → suc i < term_count c at → Before (x_power c at i) (y_power c at i) (x_power c at (suc i)) (y_power c at (suc i))

pub record PlaneBody (c : List ℕ) (at : ℕ) : Type 0 where
  pub terms : Terms c at
  pub small : (i : ℕ) → i < term_count c at → nat_abs (term_coefficient c at i) ≤ most_coefficient
