-- Document 01's own card (000's example 3.2.13: X, X + 1 and X − 2 at −3, 1 and 3), computed from the definitions, and edges of the causes.
use mathlib.Core.Path.{◌≡◌, refl}
use mathlib.Core.List.{List, [], ◌∷◌, flat_map}
use Prim.Native.Nat.{ℕ}
use lib.IntN.{ℤ, pos, negsuc}
use Rattle.card_bytes.specs.Bytes.{bytes, complement, wanted, offsets, body, bodies, card_bytes}
use Rattle.card_bytes.specs.Causes.{some, below, wrong_points, polynomial_cause, polynomials_cause, write_cause}

abbrev line : List ℕ
line = 1 ∷ 1 ∷ 1 ∷ []

abbrev factors : List ℤ
factors = pos 0 ∷ pos 1 ∷ pos 1 ∷ pos 1 ∷ negsuc 1 ∷ pos 1 ∷ []

abbrev points : List ℤ
points = negsuc 2 ∷ pos 1 ∷ pos 3 ∷ []

-- `01 03 03 00 000C 0015 001E 0027 | 01 00000000 00000001 | 01 00000001 00000001 | 01 FFFFFFFE 00000001 | FD 01 03`
pub roy : card_bytes line factors points
    ≡ 1 ∷ 3 ∷ 3 ∷ 0 ∷ 0 ∷ 12 ∷ 0 ∷ 21 ∷ 0 ∷ 30 ∷ 0 ∷ 39 ∷ 1 ∷ 0 ∷ 0 ∷ 0 ∷ 0 ∷ 0 ∷ 0 ∷ 0 ∷ 1 ∷ 1 ∷ 0 ∷ 0 ∷ 0 ∷ 1 ∷ 0 ∷ 0 ∷ 0 ∷ 1
    ∷ 1 ∷ 255 ∷ 255 ∷ 255 ∷ 254 ∷ 0 ∷ 0 ∷ 0 ∷ 1 ∷ 253 ∷ 1 ∷ 3 ∷ []
unfolding bytes complement offsets body bodies card_bytes flat_map
roy = refl

pub roy_written : write_cause line factors points ≡ 0
unfolding some below wrong_points polynomial_cause polynomials_cause write_cause wanted
roy_written = refl
