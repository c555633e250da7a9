-- Where the distinct points of a card stand. That the points there are those of its contents, each once, is a law.
--
--   repeats c k  == point k of the card c is the point before it
--   places_to c n == of the first n points of the card c, the places of those that are not the point before them, rising
--   places_of c   == the same of all its points
--   Placed c l n == the list l begins with these places, which are n
use Rattle.std.specs.Prelude.{◌≡◌, Bool, false, cond, List, [], ◌∷◌, ◌++◌, ℕ, zero, suc, length, take}
use Rattle.layout.specs.Format.{point_count}
use Rattle.plane.specs.Contents.{card_point, same_point}

unfoldable pub repeats : List ℕ → ℕ → Bool
repeats c zero = false
repeats c (suc k) = same_point (card_point c k) (card_point c (suc k))

unfoldable pub places_to : List ℕ → ℕ → List ℕ
places_to c zero = []
places_to c (suc k) = places_to c k ++ cond (repeats c k) [] (k ∷ [])

abbrev pub places_of : List ℕ → List ℕ
places_of c = places_to c (point_count c)

pub record Placed (c l : List ℕ) (n : ℕ) : Type 0 where
  pub many : n ≡ length (places_of c)
  pub front : take n l ≡ places_of c
