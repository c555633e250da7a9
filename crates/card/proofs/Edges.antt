-- Cards of document 01 and its edges, and those of document 02, wish 1, by computing the definitions.
--
--   example == the card of document 01, "One card through": P1 = X, P2 = X + 1, P3 = X − 2 at −3, 1, 3
--   largest == one polynomial of degree 6 with all coefficients 1,000,000, at 100
use mathlib.Core.Path.{◌≡◌, refl}
use mathlib.Core.List.{List, [], ◌∷◌, ◌++◌}
use Prim.Native.Nat.{ℕ}
use lib.IntN.{pos, negsuc}
use Rattle.std.proofs.Common.{Ok, Err}
use lib.ListN.{take, set}
use Rattle.integers.specs.Sums.{sum_to}
use Rattle.integers.specs.Powers.{power}
use Rattle.layout.specs.Format.{two's, offset, word}
use Rattle.layout.specs.Values.{value, value_of}
use Rattle.refusals.specs.declared.Refusal.TheVariants.{WrongLength, WrongByte, WrongCount, WrongOffset, WrongCoefficient, WrongPoint}
use Rattle.refusals.specs.declared.Refusal.TheVariants.{PastLast, WrongDegree, ZeroTop}
use Rattle.integers.specs.Search.{any_below}
use Rattle.card.specs.Card.{contents_refusal, header_refusal, polynomial_refusal, coefficients_refusal, bodies_refusal}
use Rattle.card.specs.Card.{points_refusal, refusal, position_refusal}
use Rattle.card.specs.Answers.{reading, stretch, body}
use Rattle.card.specs.Finer.{polynomials_before, refusal_before}

abbrev example : List ℕ
example =
    1 ∷ 3 ∷ 3 ∷ 0 ∷ 0 ∷ 12 ∷ 0 ∷ 21 ∷ 0 ∷ 30 ∷ 0 ∷ 39 ∷ 1 ∷ 0
    ∷ 0 ∷ 0 ∷ 0 ∷ 0 ∷ 0 ∷ 0 ∷ 1 ∷ 1 ∷ 0 ∷ 0 ∷ 0 ∷ 1 ∷ 0 ∷ 0
    ∷ 0 ∷ 1 ∷ 1 ∷ 255 ∷ 255 ∷ 255 ∷ 254 ∷ 0 ∷ 0 ∷ 0 ∷ 1 ∷ 253 ∷ 1 ∷ 3 ∷ []

abbrev largest : List ℕ
largest =
    1 ∷ 1 ∷ 1 ∷ 0 ∷ 0 ∷ 8 ∷ 0 ∷ 37 ∷ 6 ∷ 0 ∷ 15 ∷ 66 ∷ 64 ∷ 0
    ∷ 15 ∷ 66 ∷ 64 ∷ 0 ∷ 15 ∷ 66 ∷ 64 ∷ 0 ∷ 15 ∷ 66 ∷ 64 ∷ 0 ∷ 15 ∷ 66
    ∷ 64 ∷ 0 ∷ 15 ∷ 66 ∷ 64 ∷ 0 ∷ 15 ∷ 66 ∷ 64 ∷ 100 ∷ []

-- the example has 3 polynomials and 3 points
example_read : reading example ≡ Ok (record { polynomials = 3; points = 3 })
unfolding reading refusal header_refusal contents_refusal bodies_refusal polynomial_refusal coefficients_refusal points_refusal any_below
    offset
    two's word
example_read = refl

-- the body of P3, its degree byte first
example_body : body example 2 ≡ (1 ∷ 255 ∷ 255 ∷ 255 ∷ 254 ∷ 0 ∷ 0 ∷ 0 ∷ 1 ∷ [])
unfolding body position_refusal refusal header_refusal contents_refusal bodies_refusal polynomial_refusal coefficients_refusal
    points_refusal
    any_below offset two's word
example_body = refl

example_stretch : stretch example 2 ≡ Ok (record { start = 30; len = 9 })
unfolding stretch position_refusal refusal header_refusal contents_refusal bodies_refusal polynomial_refusal coefficients_refusal
    points_refusal
    any_below offset two's word
example_stretch = refl

-- a position past the last polynomial
past_the_last : stretch example 3 ≡ Err PastLast
unfolding stretch position_refusal refusal header_refusal contents_refusal bodies_refusal polynomial_refusal coefficients_refusal
    points_refusal
    any_below offset two's word
past_the_last = refl

-- P3 at the first point: −3 − 2
example_value : value_of example 2 0 ≡ negsuc 4
unfolding value sum_to power offset two's word
example_value = refl

-- a byte cut off, and a byte too many
one-short : reading (take 41 example) ≡ Err WrongLength
unfolding reading refusal header_refusal contents_refusal bodies_refusal polynomial_refusal coefficients_refusal points_refusal any_below
    offset
    two's word
one-short = refl

one-long : reading (example ++ (3 ∷ [])) ≡ Err WrongLength
unfolding reading refusal header_refusal contents_refusal bodies_refusal polynomial_refusal coefficients_refusal points_refusal any_below
    offset
    two's word
one-long = refl

-- byte 0, then byte 3
bad_kind : reading (set example 0 0) ≡ Err WrongByte
unfolding reading refusal header_refusal contents_refusal bodies_refusal polynomial_refusal coefficients_refusal points_refusal any_below
    offset
    two's word
bad_kind = refl

bad_zero : reading (set example 3 1) ≡ Err WrongByte
unfolding reading refusal header_refusal contents_refusal bodies_refusal polynomial_refusal coefficients_refusal points_refusal any_below
    offset
    two's word
bad_zero = refl

-- s, then n
many-polynomials : reading (set example 1 9) ≡ Err WrongCount
unfolding reading refusal header_refusal contents_refusal bodies_refusal polynomial_refusal coefficients_refusal points_refusal any_below
    offset
    two's word
many-polynomials = refl

many-points : reading (set example 2 65) ≡ Err WrongCount
unfolding reading refusal header_refusal contents_refusal bodies_refusal polynomial_refusal coefficients_refusal points_refusal any_below
    offset
    two's word
many-points = refl

-- the first offset, and the last
bad_offset : reading (set example 5 13) ≡ Err WrongOffset
unfolding reading refusal header_refusal contents_refusal bodies_refusal polynomial_refusal coefficients_refusal points_refusal any_below
    offset
    two's word
bad_offset = refl

bad_last_offset : reading (set example 11 38) ≡ Err WrongOffset
unfolding reading refusal header_refusal contents_refusal bodies_refusal polynomial_refusal coefficients_refusal points_refusal any_below
    offset
    two's word
bad_last_offset = refl

-- a degree, a coefficient and a top coefficient
bad_degree : reading (set example 12 7) ≡ Err WrongDegree
unfolding reading refusal header_refusal contents_refusal bodies_refusal polynomial_refusal coefficients_refusal points_refusal any_below
    offset
    two's word
bad_degree = refl

bad_coefficient : reading (set example 13 1) ≡ Err WrongCoefficient
unfolding reading refusal header_refusal contents_refusal bodies_refusal polynomial_refusal coefficients_refusal points_refusal any_below
    offset
    two's word
bad_coefficient = refl

bad_top : reading (set example 20 0) ≡ Err ZeroTop
unfolding reading refusal header_refusal contents_refusal bodies_refusal polynomial_refusal coefficients_refusal points_refusal any_below
    offset
    two's word
bad_top = refl

-- a point outside, and a point falling
bad_point : reading (set example 41 101) ≡ Err WrongPoint
unfolding reading refusal header_refusal contents_refusal bodies_refusal polynomial_refusal coefficients_refusal points_refusal any_below
    offset
    two's word
bad_point = refl

falling-point : reading (set example 41 0) ≡ Err WrongPoint
unfolding reading refusal header_refusal contents_refusal bodies_refusal polynomial_refusal coefficients_refusal points_refusal any_below
    offset
    two's word
falling-point = refl

-- the order of causes: a card of three bytes is short before its byte 0 is wrong
short-first : reading (0 ∷ 1 ∷ 0 ∷ []) ≡ Err WrongLength
unfolding reading refusal header_refusal contents_refusal bodies_refusal polynomial_refusal coefficients_refusal points_refusal any_below
    offset
    two's word
short-first = refl

-- a body cut short hides a coefficient that was read
cut_first : reading (take 19 (set example 13 1)) ≡ Err WrongLength
unfolding reading refusal header_refusal contents_refusal bodies_refusal polynomial_refusal coefficients_refusal points_refusal any_below
    offset
    two's word
cut_first = refl

-- contents cut short, within an offset and before the last
cut_contents : reading (take 5 example) ≡ Err WrongLength
unfolding reading refusal header_refusal contents_refusal bodies_refusal polynomial_refusal coefficients_refusal points_refusal any_below
    offset
    two's word
cut_contents = refl

cut_last_offset : reading (take 11 example) ≡ Err WrongLength
unfolding reading refusal header_refusal contents_refusal bodies_refusal polynomial_refusal coefficients_refusal points_refusal any_below
    offset
    two's word
cut_last_offset = refl

-- a missing degree byte, of the first polynomial and of the second
no_degree : reading (take 12 example) ≡ Err WrongLength
unfolding reading refusal header_refusal contents_refusal bodies_refusal polynomial_refusal coefficients_refusal points_refusal any_below
    offset
    two's word
no_degree = refl

no_second-degree : reading (take 21 example) ≡ Err WrongLength
unfolding reading refusal header_refusal contents_refusal bodies_refusal polynomial_refusal coefficients_refusal points_refusal any_below
    offset
    two's word
no_second-degree = refl

-- a degree is tested before the body is seen to be cut short
degree-first : reading (take 13 (set example 12 7)) ≡ Err WrongDegree
unfolding reading refusal header_refusal contents_refusal bodies_refusal polynomial_refusal coefficients_refusal points_refusal any_below
    offset
    two's word
degree-first = refl

-- a wrong first offset hides a bad degree, but a bad degree hides the offset after it
offset-first : reading (set (set example 5 13) 12 7) ≡ Err WrongOffset
unfolding reading refusal header_refusal contents_refusal bodies_refusal polynomial_refusal coefficients_refusal points_refusal any_below
    offset
    two's word
offset-first = refl

degree-before-offset : reading (set (set example 12 7) 7 0) ≡ Err WrongDegree
unfolding reading refusal header_refusal contents_refusal bodies_refusal polynomial_refusal coefficients_refusal points_refusal any_below
    offset
    two's word
degree-before-offset = refl

-- a coefficient hides the offset after it
coefficient-first : reading (set (set example 13 1) 7 0) ≡ Err WrongCoefficient
unfolding reading refusal header_refusal contents_refusal bodies_refusal polynomial_refusal coefficients_refusal points_refusal any_below
    offset
    two's word
coefficient-first = refl

-- a byte too many hides a bad point
length-first : reading (set example 41 101 ++ (3 ∷ [])) ≡ Err WrongLength
unfolding reading refusal header_refusal contents_refusal bodies_refusal polynomial_refusal coefficients_refusal points_refusal any_below
    offset
    two's word
length-first = refl

-- document 02, wish 1. A degree of 255; a top coefficient of 0 at degree 6, and at degree 0, where it is sound. A coefficient outside its
-- limits hides a top coefficient of 0, which hides the offset after it and the next polynomial's coefficients
polynomial_edges : (reading (set example 12 255) ≡ Err WrongDegree)
    × (reading (set (set (set largest 34 0) 35 0) 36 0) ≡ Err ZeroTop)
    × (reading (1 ∷ 1 ∷ 0 ∷ 0 ∷ 0 ∷ 8 ∷ 0 ∷ 13 ∷ 0 ∷ 0 ∷ 0 ∷ 0 ∷ 0 ∷ []) ≡ Ok (record { polynomials = 1; points = 0 }))
    × (reading (set (set example 13 1) 20 0) ≡ Err WrongCoefficient)
    × (reading (set (set example 20 0) 7 0) ≡ Err ZeroTop)
    × (reading (set (set example 20 0) 22 1) ≡ Err ZeroTop)
unfolding reading refusal header_refusal contents_refusal bodies_refusal polynomial_refusal coefficients_refusal points_refusal any_below
    offset
    two's word
polynomial_edges = (refl, refl, refl, refl, refl, refl)

-- by document 01's own order the example is sound, and a degree, a coefficient and a top coefficient are 5
edges_before : (refusal_before example ≡ 0) × (refusal_before (set example 12 7) ≡ 5) × (refusal_before (set example 13 1) ≡ 5)
    × (refusal_before (set example 20 0) ≡ 5)
unfolding refusal_before polynomials_before any_below offset two's word
edges_before = (refl, refl, refl, refl)

-- the largest value
largest_read : reading largest ≡ Ok (record { polynomials = 1; points = 1 })
unfolding reading refusal header_refusal contents_refusal bodies_refusal polynomial_refusal coefficients_refusal points_refusal any_below
    offset
    two's word
largest_read = refl

largest-value : value_of largest 0 0 ≡ pos 1010101010101000000
unfolding value sum_to power offset two's word
largest-value = refl
