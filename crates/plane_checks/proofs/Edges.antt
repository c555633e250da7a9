-- Bodies of document 02's wish 6 and their edges, by computing the definitions. Each body begins at byte 0.
--
--   overflowing == 7 X^255 Y: powers whose sum, taken in a byte, would be 0
--   repeated    == 2 X + 3 X: the same term twice
--   zero_later   == 1,000,001 Y + 0 X: a coefficient too large, and after it one of 0
--   large_only   == 1,000,001 Y + 1 X
--   six         == 5 X^2 Y^4 − 1 X^3: powers that are together 6, and a rising term
use mathlib.Core.Path.{◌≡◌, refl}
use mathlib.Core.List.{List, [], ◌∷◌}
use Prim.Native.Nat.{ℕ}
use Rattle.integers.specs.Search.{any_below}
use Rattle.layout.specs.Format.{two's, word}
use Rattle.plane_checks.specs.Checks.{plane_refusal, plane_points_refusal}

abbrev overflowing : List ℕ
overflowing = 1 ∷ 255 ∷ 1 ∷ 0 ∷ 0 ∷ 0 ∷ 7 ∷ []

abbrev repeated : List ℕ
repeated = 2 ∷ 1 ∷ 0 ∷ 0 ∷ 0 ∷ 0 ∷ 2 ∷ 1 ∷ 0 ∷ 0 ∷ 0 ∷ 0 ∷ 3 ∷ []

abbrev zero_later : List ℕ
zero_later = 2 ∷ 0 ∷ 1 ∷ 0 ∷ 15 ∷ 66 ∷ 65 ∷ 1 ∷ 0 ∷ 0 ∷ 0 ∷ 0 ∷ 0 ∷ []

abbrev large_only : List ℕ
large_only = 2 ∷ 0 ∷ 1 ∷ 0 ∷ 15 ∷ 66 ∷ 65 ∷ 1 ∷ 0 ∷ 0 ∷ 0 ∷ 0 ∷ 1 ∷ []

abbrev six : List ℕ
six = 2 ∷ 2 ∷ 4 ∷ 0 ∷ 0 ∷ 0 ∷ 5 ∷ 3 ∷ 0 ∷ 255 ∷ 255 ∷ 255 ∷ 255 ∷ []

overflowing_refused : plane_refusal overflowing 0 ≡ 18
unfolding plane_refusal any_below two's word
overflowing_refused = refl

repeated-refused : plane_refusal repeated 0 ≡ 18
unfolding plane_refusal any_below two's word
repeated-refused = refl

zero-before_large : plane_refusal zero_later 0 ≡ 18
unfolding plane_refusal any_below two's word
zero-before_large = refl

large_refused : plane_refusal large_only 0 ≡ 5
unfolding plane_refusal any_below two's word
large_refused = refl

six_sound : plane_refusal six 0 ≡ 0
unfolding plane_refusal any_below two's word
six_sound = refl

-- the polynomial 0, and a body of which only t is there
zero-sound : plane_refusal (0 ∷ []) 0 ≡ 0
unfolding plane_refusal any_below two's word
zero-sound = refl

ten_terms_cut : plane_refusal (10 ∷ []) 0 ≡ 18
unfolding plane_refusal any_below two's word
ten_terms_cut = refl

nine_terms_cut : plane_refusal (9 ∷ []) 0 ≡ 1
unfolding plane_refusal any_below two's word
nine_terms_cut = refl

-- points from byte 4 on: (−100, 100) twice and then (1, −2); falling by X; falling by Y; X past its limit; Y past it; one byte too few
points-sound : plane_points_refusal (2 ∷ 1 ∷ 3 ∷ 0 ∷ 156 ∷ 100 ∷ 156 ∷ 100 ∷ 1 ∷ 254 ∷ []) 4 ≡ 0
unfolding plane_points_refusal any_below two's
points-sound = refl

falling_by_x : plane_points_refusal (2 ∷ 1 ∷ 2 ∷ 0 ∷ 1 ∷ 0 ∷ 0 ∷ 5 ∷ []) 4 ≡ 6
unfolding plane_points_refusal any_below two's
falling_by_x = refl

falling_by_y : plane_points_refusal (2 ∷ 1 ∷ 2 ∷ 0 ∷ 1 ∷ 0 ∷ 1 ∷ 255 ∷ []) 4 ≡ 6
unfolding plane_points_refusal any_below two's
falling_by_y = refl

x_too_far : plane_points_refusal (2 ∷ 1 ∷ 1 ∷ 0 ∷ 155 ∷ 0 ∷ []) 4 ≡ 6
unfolding plane_points_refusal any_below two's
x_too_far = refl

y_too_far : plane_points_refusal (2 ∷ 1 ∷ 1 ∷ 0 ∷ 0 ∷ 101 ∷ []) 4 ≡ 6
unfolding plane_points_refusal any_below two's
y_too_far = refl

y-missing : plane_points_refusal (2 ∷ 1 ∷ 1 ∷ 0 ∷ 0 ∷ []) 4 ≡ 1
unfolding plane_points_refusal any_below two's
y-missing = refl
