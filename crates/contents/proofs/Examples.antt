-- Points counted once, by computing the definition: repeats that stand together and apart, none, and one point throughout.
use mathlib.Core.Path.{◌≡◌, refl}
use mathlib.Core.List.{[], ◌∷◌}
use lib.Dec.{eqb}
use Rattle.contents.specs.Distinct.{without, distinct}

together_and_apart : distinct eqb (5 ∷ 5 ∷ 2 ∷ 7 ∷ 2 ∷ 5 ∷ []) ≡ (5 ∷ 2 ∷ 7 ∷ [])
unfolding distinct without
together_and_apart = refl

none_twice : distinct eqb (5 ∷ 2 ∷ 7 ∷ []) ≡ (5 ∷ 2 ∷ 7 ∷ [])
unfolding distinct without
none_twice = refl

throughout : distinct eqb (4 ∷ 4 ∷ 4 ∷ []) ≡ (4 ∷ [])
unfolding distinct without
throughout = refl
