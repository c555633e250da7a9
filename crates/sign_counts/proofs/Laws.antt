-- The three counts of a list of whole numbers: they add up to its length, the first less the second is the sum of the signs and the two
-- together that of their squares; and nothing but the signs counts.
use mathlib.Core.Path.{◌≡◌, refl, ap, ap₂, ◌∙◌}
use mathlib.Core.List.{List, [], ◌∷◌, map}
use Prim.Native.Nat.{zero, suc, ◌+◌}
use native.Mathlib.Omega.{arith}
use lib.IntN.{ℤ, pos, negsuc, ◌*ℤ◌}
use lib.ListN.{length}
use Rattle.integers.specs.Sign.{sgn_ℤ}
use Rattle.integers.specs.Sums.{sum_ℤ}
use Rattle.integers.proofs.Parts.{Dif, int, sum, dif}
use Rattle.signs.specs.Lists.{times}
use Rattle.signs.specs.Signs.{sign_digit}
use Rattle.sign_counts.specs.declared.SignCounts.{SignCounts}
use Rattle.sign_counts.specs.Counts.{sign_counts, panel_number, in_all}

-- THE LAW: the three add up to how many numbers there are
pub all-counted : (zs : List ℤ) → in_all (sign_counts zs) ≡ length zs
unfolding sign_counts times sign_digit
all-counted [] = refl
all-counted (pos zero ∷ zs) = omega (arith, all-counted zs)
all-counted (pos (suc n) ∷ zs) = omega (arith, all-counted zs)
all-counted (negsuc n ∷ zs) = omega (arith, all-counted zs)

-- the panel number, as a difference that `omega` reads
shown : (t : SignCounts) → Dif (pos t.positive) (pos t.negative) (panel_number t)
shown t = dif (pos t.positive) (pos t.negative)

-- THE LAW: the first less the second is the sum of the signs
pub panel-sum : (zs : List ℤ) → panel_number (sign_counts zs) ≡ sum_ℤ (map sgn_ℤ zs)
unfolding sign_counts times sign_digit sum_ℤ
panel-sum [] = refl
panel-sum (pos zero ∷ zs) =
    omega (int, shown (sign_counts (pos zero ∷ zs)), shown (sign_counts zs), sum (pos 0) (sum_ℤ (map sgn_ℤ zs)), panel-sum zs)
panel-sum (pos (suc n) ∷ zs) =
    omega (int, shown (sign_counts (pos (suc n) ∷ zs)), shown (sign_counts zs), sum (pos 1) (sum_ℤ (map sgn_ℤ zs)), panel-sum zs)
panel-sum (negsuc n ∷ zs) =
    omega (int, shown (sign_counts (negsuc n ∷ zs)), shown (sign_counts zs), sum (negsuc 0) (sum_ℤ (map sgn_ℤ zs)), panel-sum zs)

-- THE LAW: the first and the second together are the sum of the signs' squares. The three laws leave no other counts
pub squares_sum : (zs : List ℤ) →
    let t = sign_counts zs in
    pos (t.positive + t.negative) ≡ sum_ℤ (map (λ z. sgn_ℤ z *ℤ sgn_ℤ z) zs)
unfolding sign_counts times sign_digit sum_ℤ
squares_sum [] = refl
squares_sum (pos zero ∷ zs) = rw (← squares_sum zs) (ap pos (omega arith))
squares_sum (pos (suc n) ∷ zs) = rw (← squares_sum zs) (ap pos (omega arith))
squares_sum (negsuc n ∷ zs) = rw (← squares_sum zs) (ap pos (omega arith))

-- THE LAW: nothing but the signs counts, so that where g gives the signs of f, both have the same counts
digit_sgn : (z : ℤ) → sign_digit z ≡ sign_digit (sgn_ℤ z)
unfolding sign_digit
digit_sgn (pos zero) = refl
digit_sgn (pos (suc n)) = refl
digit_sgn (negsuc n) = refl

module _ {A : Type 0} (f g : A → ℤ) (e : (a : A) → sgn_ℤ (f a) ≡ g a) where
  same_digits : (l : List A) → map sign_digit (map f l) ≡ map sign_digit (map g l)
  same_digits [] = refl
  same_digits (a ∷ l) = ap₂ ◌∷◌ (digit_sgn (f a) ∙ ap sign_digit (e a)) (same_digits l)

  pub signs-counted : (l : List A) → sign_counts (map f l) ≡ sign_counts (map g l)
  unfolding sign_counts
  signs-counted l = rw (same_digits l) refl
