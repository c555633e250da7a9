-- The limits of a card and of a run (document 01, "The card", "The run"; document 02, wish 6).
--
--   most_polynomials, most_points == 8 and 64
--   most_degree                  == 6; in the plane, of both powers together
--   most_terms                   == 9, of a polynomial in the plane
--   most_coefficient, most_point  == 1,000,000 and 100: from minus this to this
--   most_questions               == 593, of a done run
--   longest_line                 == 318, the bytes of the longest card of points on the line
--   longest_card                 == 590, the bytes of the longest card of either kind, which is one of points in the plane
use Rattle.std.specs.Prelude.{ℕ}

abbrev pub most_polynomials : ℕ
most_polynomials = 8

abbrev pub most_points : ℕ
most_points = 64

abbrev pub most_degree : ℕ
most_degree = 6

abbrev pub most_terms : ℕ
most_terms = 9

abbrev pub most_coefficient : ℕ
most_coefficient = 1000000

abbrev pub most_point : ℕ
most_point = 100

abbrev pub most_questions : ℕ
most_questions = 593

abbrev pub longest_line : ℕ
longest_line = 318

abbrev pub longest_card : ℕ
longest_card = 590
