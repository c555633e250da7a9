-- The test of a question to the solver (document 01, cause 11). That it says `Posed` is in proofs/Posing.antt.
--
--   is_list s L xs == the test that L is a rising list of at most 64 patterns of s polynomials, with as many numbers xs
use Rattle.std.specs.Prelude.{Bool, ◌&&◌, List, ℕ, ◌^◌, eqb, leb, ℤ, length}
use Rattle.refusals.specs.Limits.{most_points}
use Rattle.signs.specs.Lists.{is_below, is_rising}

unfoldable pub is_list : ℕ → List ℕ → List ℤ → Bool
is_list s L xs = leb (length L) most_points && (eqb (length xs) (length L) && (is_rising L && is_below (3 ^ s) L))
