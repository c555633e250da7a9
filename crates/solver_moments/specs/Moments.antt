-- The moments of patterns, as the code has them: definitions of inner functions. What they mean for the numbers of a list of patterns is
-- proved in the crate `solver_recursion`.
--
-- The three moments of a pattern q of P1 .. Pi are sums, over the signs of P(i+1), of the numbers of q with that sign: d of all three, e of
-- + less −, g of + and −. A mark says with which signs q stands: 1 for 0, 2 for +, 4 for −, added up.
--
--   most_moment                  == 256, more than any moment's absolute value
--   CopiedWithin n x o r        == r is Some where each number of x is in −n .. n, and then o holds them; else None
--   second_of m d                == e of a pattern with one sign, from d; 0 with more, where it is not known
--   third_of m d e               == g of a pattern with one or two signs, from d and e; 0 with three
--   Second m d e                == e holds the known second moments of the patterns with the marks m and the first moments d
--   Third m d e g               == g holds the known third moments
--   rank k m j                  == how many of the first j marks of m have at least k signs
--   addend k m f j              == the number of f for mark j of m: those with at least k signs have one each, in order, the others 0
--   Spread k m f v w            == w is v with f put back
--   put_one b v j y              == v with y at j where the test b holds
--   NumberOf c d e g z          == z is the number of a pattern with last digit c, from the moments of its low part
--   NumberAt w L at d e g k z   == z is the number of the pattern L[k], whose low part has its moments at at[k]
--   doubled_of c d e g           == twice the number of a pattern with last digit c, from the moments of its low part
--   is_odd x                     == the test that x is odd
--   Fitting w L at d e g ws     == ws are the whole numbers of the patterns L, one each, and their absolute values add up to at most 64
--   CombinedBoth w L at d e g d₂ e₂ g₂ u v r == r is Some where the patterns L have such numbers from the moments d, e, g and from d₂, e₂,
--                                  g₂, and then u and v hold them; else None
use Rattle.std.specs.Prelude.{◌≡◌, Bool, cond, not, Option, Some, None, List, [], ◌∷◌, ℕ, zero, suc, ◌+◌, ◌*◌, ◌/◌, ◌%◌, ◌<◌, ◌≤◌, eqb, leb}
use Rattle.std.specs.Prelude.{ℤ}
use Rattle.std.specs.Prelude.{pos, ◌+ℤ◌, ◌-ℤ◌, length, get_or, set}
use Rattle.refusals.specs.Limits.{most_points}
use Rattle.integers.specs.Sums.{sum_abs, Within}
use Rattle.integers.specs.Half.{is_even}
use Rattle.adapted.specs.Split.{count_of}

abbrev pub most_moment : ℕ
most_moment = 4 * most_points

abbrev pub CopiedWithin : ℕ → List ℤ → List ℤ → Option (Unit {0}) → Type 0
CopiedWithin n x o (Some _) = Within n x × (o ≡ x)
CopiedWithin n x o None = Within n x → ⊥

unfoldable pub second_of : ℕ → ℤ → ℤ
second_of m d = cond (eqb m 2) d (cond (eqb m 4) (pos 0 -ℤ d) (pos 0))

unfoldable pub third_of : ℕ → ℤ → ℤ → ℤ
third_of m d e = cond (eqb (m % 2) 0) d (cond (eqb m 3) e (cond (eqb m 5) (pos 0 -ℤ e) (pos 0)))

pub record Second (m : List ℕ) (d e : List ℤ) : Type 0 where
  pub at : (j : ℕ) → j < length m → get_or e j (pos 0) ≡ second_of (get_or m j 0) (get_or d j (pos 0))

pub record Third (m : List ℕ) (d e g : List ℤ) : Type 0 where
  pub at : (j : ℕ) → j < length m → get_or g j (pos 0) ≡ third_of (get_or m j 0) (get_or d j (pos 0)) (get_or e j (pos 0))

unfoldable pub rank : ℕ → List ℕ → ℕ → ℕ
rank k [] j = 0
rank k (m ∷ ms) zero = 0
rank k (m ∷ ms) (suc j) = cond (leb k (count_of m)) 1 0 + rank k ms j

unfoldable pub addend : ℕ → List ℕ → List ℤ → ℕ → ℤ
addend k m f j = cond (leb k (count_of (get_or m j 0))) (get_or f (rank k m j) (pos 0)) (pos 0)

abbrev pub put_one : {A : Type 0} → Bool → List A → ℕ → A → List A
put_one b v j y = cond b (set v j y) v

pub record Spread (k : ℕ) (m : List ℕ) (f v w : List ℤ) : Type 0 where
  pub at : (j : ℕ) → j < length m → get_or w j (pos 0) ≡ get_or v j (pos 0) +ℤ addend k m f j

abbrev pub NumberOf : ℕ → ℤ → ℤ → ℤ → ℤ → Type 0
NumberOf zero d e g z = z ≡ d -ℤ g
NumberOf (suc zero) d e g z = z +ℤ z ≡ g +ℤ e
NumberOf (suc (suc c)) d e g z = z +ℤ z ≡ g -ℤ e

abbrev pub NumberAt : ℕ → List ℕ → List ℕ → List ℤ → List ℤ → List ℤ → ℕ → ℤ → Type 0
NumberAt w L at d e g k z =
    NumberOf (get_or L k 0 / w) (get_or d (get_or at k 0) (pos 0)) (get_or e (get_or at k 0) (pos 0)) (get_or g (get_or at k 0) (pos 0)) z

unfoldable pub doubled_of : ℕ → ℤ → ℤ → ℤ → ℤ
doubled_of zero d e g = (d -ℤ g) +ℤ (d -ℤ g)
doubled_of (suc zero) d e g = g +ℤ e
doubled_of (suc (suc c)) d e g = g -ℤ e

abbrev pub is_odd : ℤ → Bool
is_odd x = not (is_even x)

pub record Fitting (w : ℕ) (L at : List ℕ) (d e g ws : List ℤ) : Type 0 where
  pub one_each : length ws ≡ length L
  pub numbers : (k : ℕ) → k < length L → NumberAt w L at d e g k (get_or ws k (pos 0))
  pub small : sum_abs ws ≤ most_points

abbrev pub CombinedBoth : ℕ → List ℕ → List ℕ → List ℤ → List ℤ → List ℤ → List ℤ → List ℤ → List ℤ → List ℤ → List ℤ → Option (Unit {0})
    → Type 0
CombinedBoth w L at d e g d₂ e₂ g₂ u v (Some _) = Fitting w L at d e g u × Fitting w L at d₂ e₂ g₂ v
CombinedBoth w L at d e g d₂ e₂ g₂ u v None = (us vs : List ℤ) → Fitting w L at d e g us → Fitting w L at d₂ e₂ g₂ vs → ⊥
