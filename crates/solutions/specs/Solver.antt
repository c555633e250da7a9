-- The solver as a definition that computes: whole numbers on a list of patterns whose queries on its adapted list are given numbers, worked
-- out by taking one polynomial off at each step, with exact halving. A whole number is a difference of two natural numbers, so nothing
-- overflows and nothing is refused because an inner value grew. That it is a solver as document 01 asks is `solver_right` of proofs/.
--
--   Weight                == a whole number at each pattern, or at each product: up − dn
--   v ⊕ w, v ⊖ w, half w  == sum, difference and half, which is exact where the number is even
--   all_even w n           == the test that w is even at each number below n
--   queries i w           == the query of each product of i polynomials, where each pattern counts as w says
--   block i k d           == the numbers asked of the products with power k on P(i+1)
--   known_difference i L u == + less − of P(i+1) at each pattern of P1 .. Pi where at most one sign stands in L; u sums all three signs
--   known_sum i L u v      == + and − of P(i+1) where at most two do; v is + less −
--   by_sign i w₀ w₁ w₂     == one weight of P1 .. P(i+1) from three of P1 .. Pi, by the sign of P(i+1)
--   combine i u v t       == the weight with u the sum of the three signs, v + less −, t + and −: + is (t + v) / 2, − is (t − v) / 2, 0 is
--                            u − t
--   solve s L d           == the weight on the patterns L whose query of each product α of the adapted list is d at α, if there is one
--   lookup α A ds         == the number of ds that stands where α stands in A
--   weight_of f            == the whole numbers f as a weight
--   values w L            == the numbers that w has at the patterns L
--   within_limit ws        == ws where its absolute values add up to at most the limit, none otherwise
--   solver_of s L ds       == the solver: none where it refuses (12)
use Rattle.std.specs.Prelude.{Bool, true, false, cond, List, [], ◌∷◌, ℕ, zero, suc, ◌+◌, ◌*◌, ◌-◌, ◌^◌, ◌/◌, ◌%◌, eqb, leb, ltb, ℤ, pos}
use Rattle.std.proofs.Math.Option.{Option, some, none}
use Rattle.std.proofs.Math.IntN.{sub_ℕ}
use Rattle.integers.specs.Sums.{sum_abs}
use Rattle.integers.specs.Parts.{up, dn}
use Rattle.signs.specs.Lists.{times}
use Rattle.signs.specs.Adapted.{restrictions, adapted}
use Rattle.signs.specs.Tally.{tally}
use Rattle.solutions.specs.Solution.{limit}

-- ---- weights

pub record Weight : Type 0 where
  pub up : ℕ → ℕ
  pub dn : ℕ → ℕ

infixl 20 ◌⊕◌ ◌⊖◌
unfoldable pub ◌⊕◌ : Weight → Weight → Weight
v ⊕ w = record { up = λ q. v.up q + w.up q; dn = λ q. v.dn q + w.dn q }

unfoldable pub ◌⊖◌ : Weight → Weight → Weight
v ⊖ w = record { up = λ q. v.up q + w.dn q; dn = λ q. v.dn q + w.up q }

unfoldable pub half : Weight → Weight
half w = record { up = λ q. (w.up q - w.dn q) / 2; dn = λ q. (w.dn q - w.up q) / 2 }

unfoldable pub all_even : Weight → ℕ → Bool
all_even w zero = true
all_even w (suc n) = cond (eqb ((w.up n + w.dn n) % 2) 0) (all_even w n) false

unfoldable pub queries : ℕ → Weight → Weight
queries i w = record { up = λ α. tally i α w.up w.dn; dn = λ α. tally i α w.dn w.up }

unfoldable pub block : ℕ → ℕ → Weight → Weight
block i k d = record { up = λ α. d.up (α + k * 3 ^ i); dn = λ α. d.dn (α + k * 3 ^ i) }

-- ---- one pattern of P1 .. Pi with the three signs of P(i+1), of which those with t above 0 stand in the list

-- + less − where at most one sign does: u − u' is the sum of all three
unfoldable pub known1 : (t₀ t₁ t₂ u u' : ℕ) → ℕ
known1 zero zero zero u u' = 0
known1 zero zero (suc t₂) u u' = u'
known1 zero (suc t₁) zero u u' = u
known1 zero (suc t₁) (suc t₂) u u' = 0
known1 (suc t₀) t₁ t₂ u u' = 0

-- + and − where at most two do: v − v' is + less −
unfoldable pub known2 : (t₀ t₁ t₂ u v v' : ℕ) → ℕ
known2 zero zero zero u v v' = 0
known2 zero zero (suc t₂) u v v' = u
known2 zero (suc t₁) t₂ u v v' = u
known2 (suc t₀) zero zero u v v' = 0
known2 (suc t₀) zero (suc t₂) u v v' = v'
known2 (suc t₀) (suc t₁) zero u v v' = v
known2 (suc t₀) (suc t₁) (suc t₂) u v v' = 0

unfoldable pub known_difference : ℕ → List ℕ → Weight → Weight
known_difference i L u =
    record {
      up = λ q. known1 (times q L) (times (q + 3 ^ i) L) (times (q + 2 * 3 ^ i) L) (u.up q) (u.dn q);
      dn = λ q. known1 (times q L) (times (q + 3 ^ i) L) (times (q + 2 * 3 ^ i) L) (u.dn q) (u.up q);
    }

unfoldable pub known_sum : ℕ → List ℕ → Weight → Weight → Weight
known_sum i L u v =
    record {
      up = λ q. known2 (times q L) (times (q + 3 ^ i) L) (times (q + 2 * 3 ^ i) L) (u.up q) (v.up q) (v.dn q);
      dn = λ q. known2 (times q L) (times (q + 3 ^ i) L) (times (q + 2 * 3 ^ i) L) (u.dn q) (v.dn q) (v.up q);
    }

unfoldable pub glue : ℕ → (ℕ → ℕ) → (ℕ → ℕ) → (ℕ → ℕ) → ℕ → ℕ
glue i f₀ f₁ f₂ x = cond (ltb x (3 ^ i)) (f₀ x) (cond (ltb x (2 * 3 ^ i)) (f₁ (x - 3 ^ i)) (f₂ (x - 2 * 3 ^ i)))

unfoldable pub by_sign : ℕ → Weight → Weight → Weight → Weight
by_sign i w₀ w₁ w₂ = record { up = glue i w₀.up w₁.up w₂.up; dn = glue i w₀.dn w₁.dn w₂.dn }

-- ---- one polynomial taken off at each step

abbrev pub and_then : {A B : Type 0} → Option A → (A → Option B) → Option B
and_then none f = none
and_then (some a) f = f a

unfoldable pub combine : ℕ → Weight → Weight → Weight → Option Weight
combine i u v t = cond (all_even (t ⊕ v) (3 ^ i)) (some (by_sign i (u ⊖ t) (half (t ⊕ v)) (half (t ⊖ v)))) none

unfoldable pub solve : ℕ → List ℕ → Weight → Option Weight
solve zero [] d = some (record { up = λ q. 0; dn = λ q. 0 })
solve zero (σ ∷ L) d = some d
solve (suc i) L d =
    and_then (solve i (restrictions 1 i L) (block i 0 d)) λ u.
    and_then (solve i (restrictions 2 i L) (block i 1 d ⊖ queries i (known_difference i L u))) λ x.
    and_then (solve i (restrictions 3 i L) (block i 2 d ⊖ queries i (known_sum i L u (known_difference i L u ⊕ x)))) λ y.
    combine i u (known_difference i L u ⊕ x) (known_sum i L u (known_difference i L u ⊕ x) ⊕ y)

-- ---- whole numbers in, whole numbers out

unfoldable pub lookup : ℕ → List ℕ → List ℤ → ℤ
lookup α [] ds = pos 0
lookup α (x ∷ A) [] = pos 0
lookup α (x ∷ A) (d ∷ ds) = cond (eqb α x) d (lookup α A ds)

unfoldable pub weight_of : (ℕ → ℤ) → Weight
weight_of f = record { up = λ α. up (f α); dn = λ α. dn (f α) }

unfoldable pub values : Weight → List ℕ → List ℤ
values w [] = []
values w (q ∷ L) = sub_ℕ (w.up q) (w.dn q) ∷ values w L

unfoldable pub within_limit : List ℤ → Option (List ℤ)
within_limit ws = cond (leb (sum_abs ws) limit) (some ws) none

unfoldable pub solver_of : ℕ → List ℕ → List ℤ → Option (List ℤ)
solver_of s L ds = and_then (solve s L (weight_of (λ α. lookup α (adapted s L) ds))) λ w. within_limit (values w L)
