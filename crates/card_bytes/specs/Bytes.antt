-- The bytes of a card by what it says (document 01, "The card"): the degrees of its polynomials, their coefficients in one list, P1 first
-- and constant first, and its points.
--
--   bytes k v          == the number v in k bytes, high byte first
--   complement h z     == z in two's complement: itself from 0 on, and z + 2h below 0
--   body_size d         == how many bytes the body of a polynomial of degree d has: one, and four for each of its d + 1 coefficients
--   wanted ds          == how many coefficients polynomials of the degrees ds have in all
--   bodies_from s       == where the first body of a card with s polynomials begins: after 4 bytes and s + 1 offsets
--   offsets at ds      == the contents: where each body begins, the first at byte `at`, and last where the points begin
--   body d l           == the body of a polynomial: its degree, then its coefficients l
--   bodies ds cs       == the bodies of polynomials of the degrees ds, whose coefficients stand one after the other in cs
--   card_bytes ds cs ps == the card: header, contents, bodies, points
use mathlib.Core.List.{List, [], ◌∷◌, ◌++◌, map, flat_map}
use Rattle.std.specs.Prelude.{ℕ, zero, suc, ◌+◌, ◌*◌, ◌-◌, ◌/◌, ◌%◌, ◌^◌, ℤ, pos, negsuc, length, take, drop}

unfoldable pub bytes : ℕ → ℕ → List ℕ
bytes zero v = []
bytes (suc k) v = bytes k (v / 256) ++ (v % 256 ∷ [])

unfoldable pub complement : ℕ → ℤ → ℕ
complement h (pos n) = n
complement h (negsuc n) = 2 * h - suc n

abbrev pub body_size : ℕ → ℕ
body_size d = 1 + 4 * (d + 1)

unfoldable pub wanted : List ℕ → ℕ
wanted [] = 0
wanted (d ∷ ds) = (d + 1) + wanted ds

abbrev pub bodies_from : ℕ → ℕ
bodies_from s = 4 + 2 * (s + 1)

unfoldable pub offsets : ℕ → List ℕ → List ℕ
offsets at [] = bytes 2 at
offsets at (d ∷ ds) = bytes 2 at ++ offsets (at + body_size d) ds

unfoldable pub body : ℕ → List ℤ → List ℕ
body d l = d ∷ flat_map (λ z. bytes 4 (complement (2 ^ 31) z)) l

unfoldable pub bodies : List ℕ → List ℤ → List ℕ
bodies [] cs = []
bodies (d ∷ ds) cs = body d (take (d + 1) cs) ++ bodies ds (drop (d + 1) cs)

unfoldable pub card_bytes : List ℕ → List ℤ → List ℤ → List ℕ
card_bytes ds cs ps =
    (1 ∷ length ds ∷ length ps ∷ 0 ∷ []) ++ (offsets (bodies_from (length ds)) ds ++ (bodies ds cs ++ map (complement 128) ps))
