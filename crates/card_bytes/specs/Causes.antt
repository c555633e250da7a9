-- Which degrees, coefficients and points are refused, and by which number (document 02, wish 2: "refusing s and n .. by 3, then degrees
-- by 16, then a coefficient list not as long as they say by 1, then 5 and 17 for each polynomial, then points by 6").
--
--   some f l               == f holds of an element of l
--   below x l              == the first element of l, if there is one, is below x
--   wrong_points ps         == a point is outside its limits, or below the one before it
--   polynomial_cause d l    == the number that refuses the coefficients l of a polynomial of degree d, or 0
--   polynomials_cause ds cs == the number that refuses the first wrong one of the polynomials of the degrees ds, whose coefficients stand
--                             one after the other in cs, or 0
--   write_cause ds cs ps    == the number that refuses the degrees ds, the coefficients cs and the points ps, or 0
use Rattle.std.specs.Prelude.{Bool, false, not, ◌||◌, ◌&&◌, List, [], ◌∷◌, ℕ, ◌+◌, ltb, eqb, ℤ, pos, nat_abs, length, get_or, take, drop}
use Rattle.std.specs.Int.Signed.{lt_z}
use Rattle.refusals.specs.Numbers.{wrong_length, wrong_count, wrong_coefficient, wrong_point, wrong_degree, zero_top, ◌when◌, ◌▸◌}
use Rattle.refusals.specs.Limits.{most_polynomials, most_points, most_degree, most_coefficient, most_point}
use Rattle.integers.specs.Search.{outside}
use Rattle.card_bytes.specs.Bytes.{wanted}

unfoldable pub some : {A : Type 0} → (A → Bool) → List A → Bool
some f [] = false
some f (x ∷ l) = f x || some f l

-- ---- the points

unfoldable pub below : ℤ → List ℤ → Bool
below x [] = false
below x (y ∷ l) = lt_z y x

unfoldable pub wrong_points : List ℤ → Bool
wrong_points [] = false
wrong_points (x ∷ l) = outside most_point x || (below x l || wrong_points l)

-- ---- the polynomials

unfoldable pub polynomial_cause : ℕ → List ℤ → ℕ
polynomial_cause d l = wrong_coefficient when some (outside most_coefficient) l ▸ zero_top when
    (ltb 0 d && eqb (nat_abs (get_or l d (pos 0))) 0)

unfoldable pub polynomials_cause : List ℕ → List ℤ → ℕ
polynomials_cause [] cs = 0
polynomials_cause (d ∷ ds) cs = polynomial_cause d (take (d + 1) cs) ▸ polynomials_cause ds (drop (d + 1) cs)

-- ---- all

unfoldable pub write_cause : List ℕ → List ℤ → List ℤ → ℕ
write_cause ds cs ps =
    wrong_count when (ltb (length ds) 1 || ltb most_polynomials (length ds))
    ▸ wrong_count when ltb most_points (length ps)
    ▸ wrong_degree when some (ltb most_degree) ds
    ▸ wrong_length when not (eqb (length cs) (wanted ds))
    ▸ polynomials_cause ds cs
    ▸ wrong_point when wrong_points ps
