-- "It has as many products as patterns, and the square matrix of their signs can be inverted" (document 01, "Adapted lists"), in words of
-- its own: whatever numbers are asked of the adapted list, exactly one fraction for each pattern has them as queries. That it is so for
-- every rising list is `invertible` of proofs/Inverse.antt.
--
--   Fractions s L ds N ws == the fractions ws / N, one for each pattern of L, have the queries ds on the adapted list of L
--   Invertible s L        == as many products as patterns; one denominator serves whatever numbers are asked; and two lists of fractions
--                            with the same queries are the same fractions
use Rattle.std.specs.Prelude.{◌≡◌, List, map, ℕ, ◌<◌, ℤ, pos, ◌*ℤ◌, length}
use Rattle.signs.specs.Signs.{weighted}
use Rattle.signs.specs.Adapted.{adapted}

pub record Fractions (s : ℕ) (L : List ℕ) (ds : List ℤ) (N : ℕ) (ws : List ℤ) : Type 0 where
  pub above_zero : 0 < N
  pub one_each : length ws ≡ length L
  pub give : map (weighted s L ws) (adapted s L) ≡ map (λ d. pos N *ℤ d) ds

pub record Invertible (s : ℕ) (L : List ℕ) : Type 0 where
  pub square : length (adapted s L) ≡ length L
  pub denominator : ℕ
  pub solved : (ds : List ℤ) → length ds ≡ length (adapted s L) → (ws : List ℤ) × Fractions s L ds denominator ws
  pub only : (ds : List ℤ) (N M : ℕ) (ws vs : List ℤ) → Fractions s L ds N ws → Fractions s L ds M vs
      → map (λ w. pos M *ℤ w) ws ≡ map (λ v. pos N *ℤ v) vs
