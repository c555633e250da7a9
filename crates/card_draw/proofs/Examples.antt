-- Drawn numbers computed from the definitions, as a second program draws them: the seeds at both ends, and 2068, by which the first top
-- coefficient is replaced, the points are not drawn in order, and one is drawn twice (−1, 0, −1, 8 and then −7, −1, −7).
use mathlib.Core.Path.{◌≡◌, refl}
use mathlib.Core.List.{[], ◌∷◌}
use lib.IntN.{pos, negsuc}
use Rattle.sequences.specs.Sorted.{insert, sorted}
use Rattle.generator.specs.Generator.{step, after, below, draws}
use Rattle.card_draw.specs.Drawn.{drawn_polynomial, drawn_coefficients, drawn_points}

pub seeds :
    (drawn_coefficients 1 0 0 ≡ negsuc 4 ∷ [])
    × (drawn_coefficients 1 1 1 ≡ pos 2 ∷ pos 4 ∷ [])
    × (drawn_points 2 (after 2 1) ≡ negsuc 17 ∷ pos 66 ∷ [])
    × (drawn_coefficients 1 0 4294967295 ≡ pos 8 ∷ [])
    × (drawn_points 3 (after 1 4294967295) ≡ negsuc 49 ∷ pos 38 ∷ pos 92 ∷ [])
    × (drawn_coefficients 2 1 2068 ≡ negsuc 0 ∷ pos 1 ∷ negsuc 0 ∷ pos 8 ∷ [])
    × (drawn_points 3 (after 4 2068) ≡ negsuc 6 ∷ negsuc 6 ∷ negsuc 0 ∷ [])
unfolding insert sorted step after below draws drawn_polynomial drawn_coefficients drawn_points
seeds = (refl, refl, refl, refl, refl, refl, refl)
