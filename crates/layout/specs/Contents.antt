-- The contents that the bytes of a card of points on the line give.
--
--   line_contents c == the contents of the card c: its polynomials, and its points in the card's order, as often as they stand on it
use Rattle.std.specs.Prelude.{List, map, ℕ, ℤ}
use Rattle.signs.specs.Lists.{up_to}
use Rattle.contents.specs.Contents.{Contents}
use Rattle.layout.specs.Format.{polynomials, point_count, offset, point_of}
use Rattle.layout.specs.Values.{value}

abbrev pub line_contents : List ℕ → Contents ℤ
line_contents c = record { s = polynomials c; value = λ j x. value c (offset c j) x; points = map (point_of c) (up_to (point_count c)) }
