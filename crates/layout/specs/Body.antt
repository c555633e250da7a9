-- What a sound body of a polynomial is (document 01, "The card").
--
--   Whole c at == the body that begins at byte `at` lies on the card c, and its degree is at most 6
--   Small c at == it is `Whole`, and its coefficients are from −1,000,000 to 1,000,000
--   Body c at  == it is `Small`, and its top coefficient is not 0 unless its degree is: a sound body
use Rattle.std.specs.Prelude.{◌≡◌, List, ℕ, ◌+◌, ◌≤◌, ◌<◌, pos, nat_abs, length}
use Rattle.refusals.specs.Limits.{most_degree, most_coefficient}
use Rattle.layout.specs.Format.{degree, size, coefficient}

pub record Whole (c : List ℕ) (at : ℕ) : Type 0 where
  pub begins : at < length c
  pub low : degree c at ≤ most_degree
  pub ends : at + size c at ≤ length c

pub record Small (c : List ℕ) (at : ℕ) : Type 0 where
  pub whole : Whole c at
  pub small : (i : ℕ) → i ≤ degree c at → nat_abs (coefficient c at i) ≤ most_coefficient

pub record Body (c : List ℕ) (at : ℕ) : Type 0 where
  pub small : Small c at
  pub top : coefficient c at (degree c at) ≡ pos 0 → degree c at ≡ 0
