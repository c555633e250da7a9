-- Adapted lists (document 01, "Adapted lists").
--
--   signs_of i L q      == with how many signs of P(i+1) the pattern q of P1 .. Pi stands in L, a list of patterns of P1 .. P(i+1)
--   restrictions k i L == P(i+1) taken off: the patterns of P1 .. Pi that stood with at least k signs of it, each once, rising
--                         (document 01's L1, L2, L3 for k = 1, 2, 3)
--   adapted i L        == the adapted list of L, a list of patterns of i polynomials
--   extended i P       == the patterns of P, of P1 .. Pi, each extended by the three signs of P(i+1)
use Rattle.std.specs.Prelude.{List, [], ◌∷◌, ◌++◌, ℕ, zero, suc, ◌+◌, ◌*◌, ◌^◌, min, leb}
use Rattle.signs.specs.Lists.{times, up_to, keep, shift}

unfoldable pub signs_of : ℕ → List ℕ → ℕ → ℕ
signs_of i L q = min 1 (times q L) + min 1 (times (q + 3 ^ i) L) + min 1 (times (q + 2 * 3 ^ i) L)

unfoldable pub restrictions : ℕ → ℕ → List ℕ → List ℕ
restrictions k i L = keep (λ q. leb k (signs_of i L q)) (up_to (3 ^ i))

unfoldable pub adapted : ℕ → List ℕ → List ℕ
adapted zero [] = []
adapted zero (σ ∷ L) = 0 ∷ []
adapted (suc i) L =
    adapted i (restrictions 1 i L) ++ (shift (3 ^ i) (adapted i (restrictions 2 i L)) ++ shift (2 * 3 ^ i) (adapted i (restrictions 3 i L)))

unfoldable pub extended : ℕ → List ℕ → List ℕ
extended i P = P ++ (shift (3 ^ i) P ++ shift (2 * 3 ^ i) P)
