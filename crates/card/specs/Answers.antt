-- What each call answers: the definitions of `Card` and `Values` as values of the calls' own types.
--
--   shape c           == s and n of the card c
--   reading c         == s and n of the card c, or what refuses it
--   place c j         == where the body of polynomial j begins on c, and how many bytes it has
--   stretch c j       == the same, or what refuses c or j
--   body c j          == those bytes, or none where c or j is refused
--   start c j         == the byte where the stretch begins, or 0 where c or j is refused
--   value_answer c j x == the value of polynomial j of c at x, for a card of points on the line, or what refuses c or j
--   value_at_answer c j p == the value of polynomial j of c at the point p, or what refuses c, j or p
use Rattle.std.specs.Prelude.{List, [], ℕ, ℤ, Result, Ok, take, drop}
use Rattle.card.specs.declared.Shape.{Shape}
use Rattle.card.specs.declared.Stretch.{Stretch}
use Rattle.refusals.specs.declared.Refusal.{Refusal}
use Rattle.layout.specs.Format.{polynomials, point_count, offset}
use Rattle.card.specs.Kinds.{body_size}
use Rattle.card.specs.Card.{refusal, position_refusal, kind_refusal, place_refusal}
use Rattle.refusals.specs.Numbers.{◌▸◌, unless}
use Rattle.refusals.specs.Refusals.{refusing}
use Rattle.layout.specs.Values.{value}
use Rattle.plane.specs.Format.{Point}
use Rattle.plane.specs.Contents.{value_at}

abbrev pub shape : List ℕ → Shape
shape c = record { polynomials = polynomials c; points = point_count c }

unfoldable pub reading : List ℕ → Result Shape Refusal
reading c = unless (refusal c) refusing (Ok (shape c))

abbrev pub place : List ℕ → ℕ → Stretch
place c j = record { start = offset c j; len = body_size c (offset c j) }

unfoldable pub stretch : List ℕ → ℕ → Result Stretch Refusal
stretch c j = unless (position_refusal c j) refusing (Ok (place c j))

unfoldable pub body : List ℕ → ℕ → List ℕ
body c j = unless (position_refusal c j) (λ m. []) (take (body_size c (offset c j)) (drop (offset c j) c))

unfoldable pub start : List ℕ → ℕ → ℕ
start c j = unless (position_refusal c j) (λ m. 0) (offset c j)

unfoldable pub value_answer : List ℕ → ℕ → ℤ → Result ℤ Refusal
value_answer c j x = unless (kind_refusal c ▸ position_refusal c j) refusing (Ok (value c (offset c j) x))

unfoldable pub value_at_answer : List ℕ → ℕ → Point → Result ℤ Refusal
value_at_answer c j p = unless (place_refusal c j p) refusing (Ok (value_at c (offset c j) p))
