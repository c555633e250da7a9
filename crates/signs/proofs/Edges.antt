-- Document 01's starred edges about signs and adapted lists, computed from the definitions. All starred lines are one table with one
-- theorem in proofs/Starred.antt of `runs`.
use mathlib.Core.Path.{◌≡◌, refl}
use mathlib.Core.List.{[], ◌∷◌}
use lib.IntN.{pos}
use Rattle.signs.specs.Lists.{times, up_to, keep, shift}
use Rattle.integers.specs.Powers.{power}
use Rattle.signs.specs.Signs.{sign_of, sign}
use Rattle.signs.specs.Adapted.{signs_of, restrictions, adapted}

pub record SignEdges : Type 0 where
  -- "Product 0 on pattern 0 is 1; product 1 on it is 0; product 2 on pattern 2 is 1."
  pub zero_to_zero : sign 1 0 0 ≡ pos 1
  pub zero_to_one : sign 1 1 0 ≡ pos 0
  pub minus_squared : sign 1 2 2 ≡ pos 1
  -- "s = 3, patterns 13, 22, 26: adapted list 0, 1, 9"
  pub three-patterns : adapted 3 (13 ∷ 22 ∷ 26 ∷ []) ≡ 0 ∷ 1 ∷ 9 ∷ []

pub sign_edges : SignEdges
unfolding sign_of power sign times up_to keep shift signs_of restrictions adapted
sign_edges = record { zero_to_zero = refl; zero_to_one = refl; minus_squared = refl; three-patterns = refl }
