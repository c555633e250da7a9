-- The end of a round as a call makes it, whatever rows and answers it is given.
--
-- proper_rows i R   == the test that R are rows of P1 .. Pi as a round leaves them: patterns rising and below 3^i, counts above 0 that add
--                       up to at most 64
--   round_rows i R ws == the rows after round i + 1, from the rows R before it and its answers ws; none where R are no such rows, where ws
--                       are not twice as many, or where no counts fit (10)
use Rattle.std.specs.Prelude.{Bool, true, cond, ◌&&◌, List, [], ◌∷◌, ℕ, ◌+◌, ◌*◌, ◌^◌, eqb, leb, ltb, ℤ, length}
use Rattle.std.proofs.Math.Option.{Option, some, none}
use Rattle.refusals.specs.Limits.{most_points}
use Rattle.signs.specs.Lists.{is_below, is_rising}
use Rattle.rounds.specs.Rows.{Row, patterns, counts}
use Rattle.rounds.specs.Moments.{by_moments}

unfoldable pub all_positive : List ℕ → Bool
all_positive [] = true
all_positive (c ∷ C) = ltb 0 c && all_positive C

unfoldable pub sum : List ℕ → ℕ
sum [] = 0
sum (c ∷ C) = c + sum C

unfoldable pub proper_rows : ℕ → List Row → Bool
proper_rows i R = is_rising (patterns R) && (is_below (3 ^ i) (patterns R) && (all_positive (counts R) && leb (sum (counts R)) most_points))

unfoldable pub round_rows : ℕ → List Row → List ℤ → Option (List Row)
round_rows i R ws = cond (proper_rows i R && eqb (length ws) (2 * length R)) (by_moments i R ws) none
