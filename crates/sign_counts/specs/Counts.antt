-- How many of some whole numbers are positive, negative and 0 (document 02, wish 4).
--
--   sign_counts zs == how many of the whole numbers zs are positive, how many are negative and how many are 0
--   panel_number t == "the panel number is the first less the second"
--   in_all t       == the three counts added up
use Rattle.std.specs.Prelude.{List, map, ℕ, ◌+◌, ℤ, pos, ◌-ℤ◌}
use Rattle.signs.specs.Lists.{times}
use Rattle.signs.specs.Signs.{sign_digit}
use Rattle.sign_counts.specs.declared.SignCounts.{SignCounts}

unfoldable pub sign_counts : List ℤ → SignCounts
sign_counts zs =
    let signs = map sign_digit zs in
    record { positive = times 1 signs; negative = times 2 signs; zero = times 0 signs }

abbrev pub panel_number : SignCounts → ℤ
panel_number t = pos t.positive -ℤ pos t.negative

abbrev pub in_all : SignCounts → ℕ
in_all t = t.positive + t.negative + t.zero
