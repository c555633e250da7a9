-- The card that a seed draws (document 02, wish 2), and what a call that draws one answers and leaves in the buffer lent to it.
--
--   top d z                 == the top coefficient z of a polynomial of degree d: "A top coefficient of 0 becomes 1 when d is above 0"
--   drawn_polynomial d σ     == the coefficients of a polynomial of degree d, drawn from the state σ on: each "a draw below 19, less 9"
--   drawn_coefficients s d σ == the coefficients of s polynomials, "P1 first, constant first"
--   drawn_points n σ         == n points, "each a draw below 201, less 100, then put in rising order, repeats kept"
--   drawn_card seed s n d    == the card of s polynomials of degree d and n points; "Points come next": after the coefficients
--   draw_cause s n d         == "In a draw s and n are refused by 3, then d by 16": the number, or 0
--   drawing seed s n d out  == the answer of a call with the buffer out, and what the buffer holds then
use Rattle.std.specs.Prelude.{cond, ◌||◌, ◌&&◌, List, [], ◌++◌, ℕ, zero, suc, ◌+◌, ◌*◌, ltb, eqb, ℤ, pos, nat_abs, Result, get_or, set}
use Rattle.std.specs.Prelude.{replicate}
use Rattle.refusals.specs.Numbers.{wrong_count, wrong_degree, ◌when◌, ◌▸◌}
use Rattle.refusals.specs.Limits.{most_polynomials, most_points, most_degree}
use Rattle.refusals.specs.declared.Refusal.{Refusal}
use Rattle.sequences.specs.Sorted.{sorted}
use Rattle.generator.specs.Generator.{after, draws}
use Rattle.card_bytes.specs.Bytes.{card_bytes}
use Rattle.card_writer.specs.Writing.{buffer_cause, placed}

abbrev pub top : ℕ → ℤ → ℤ
top d z = cond (ltb 0 d && eqb (nat_abs z) 0) (pos 1) z

unfoldable pub drawn_polynomial : ℕ → ℕ → List ℤ
drawn_polynomial d σ = let l = draws 19 9 (d + 1) σ in set l d (top d (get_or l d (pos 0)))

unfoldable pub drawn_coefficients : ℕ → ℕ → ℕ → List ℤ
drawn_coefficients zero d σ = []
drawn_coefficients (suc s) d σ = drawn_polynomial d σ ++ drawn_coefficients s d (after (d + 1) σ)

unfoldable pub drawn_points : ℕ → ℕ → List ℤ
drawn_points n σ = sorted (draws 201 100 n σ)

unfoldable pub drawn_card : ℕ → ℕ → ℕ → ℕ → List ℕ
drawn_card seed s n d = card_bytes (replicate s d) (drawn_coefficients s d seed) (drawn_points n (after (s * (d + 1)) seed))

unfoldable pub draw_cause : ℕ → ℕ → ℕ → ℕ
draw_cause s n d =
    wrong_count when (ltb s 1 || ltb most_polynomials s)
    ▸ wrong_count when ltb most_points n
    ▸ wrong_degree when ltb most_degree d

unfoldable pub drawing : ℕ → ℕ → ℕ → ℕ → List ℕ → Result ℕ Refusal × List ℕ
drawing seed s n d out = placed (draw_cause s n d ▸ buffer_cause (drawn_card seed s n d) out) (drawn_card seed s n d) out
