-- Steps and draws, computed from the definitions.
use Rattle.std.proofs.Common.{◌≡◌, ◌-◌, ◌^◌, [], ◌∷◌, pos, negsuc, refl}
use Rattle.generator.specs.Generator.{step, below, draws}

pub step-zero : step 0 ≡ 1013904223
unfolding step
step-zero = refl

pub step_last : step (2 ^ 32 - 1) ≡ 1012239698
unfolding step
step_last = refl

pub coefficients_of_7 : draws 19 9 5 7 ≡ pos 2 ∷ pos 7 ∷ pos 3 ∷ negsuc 1 ∷ negsuc 5 ∷ []
unfolding step below draws
coefficients_of_7 = refl

pub points_of_0 : draws 201 100 3 0 ≡ pos 94 ∷ pos 66 ∷ negsuc 58 ∷ []
unfolding step below draws
points_of_0 = refl
