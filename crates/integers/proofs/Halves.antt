-- Exact halves: what `half_of` means.
--
-- A call promises  r ≡ half_of x,  and a match tells  r ≡ Some h  or  r ≡ None:  `half_means` turns the first into  IsHalf x r.
use mathlib.Core.Path.{◌≡◌, refl, sym, ap, subst}
use mathlib.Core.Logic.{◌↔◌, ◌⊎◌, inl, inr}
use mathlib.Core.Bool.{true, false}
use Rattle.std.specs.Prelude.{Option, Some, None}
use Prim.Native.Nat.{◌+◌, ◌%◌}
use native.Mathlib.Omega.{arith}
use borrow.Author.Tests.{eqb-true, eqb-false}
use lib.IntN.{ℤ, pos, nat_abs, ◌+ℤ◌}
use lib.Signed.{quot_z}
use Rattle.integers.specs.Half.{is_even, half_of, IsHalf}
use Rattle.integers.proofs.Parts.{int, parts, side, sum, halved}
use Rattle.integers.proofs.Tests.{bool_cases}

-- the test of parity, and what it says
pub even_true : (x : ℤ) → is_even x ≡ true → nat_abs x % 2 ≡ 0
unfolding is_even
even_true x t = omega (arith, eqb-true)

pub even_false : (x : ℤ) → is_even x ≡ false → nat_abs x % 2 ≡ 0 → ⊥
unfolding is_even
even_false x t e = omega (arith, eqb-false)

-- the definition's answer is the half, or x has none
pub half_is : (x : ℤ) → IsHalf x (half_of x)
unfolding half_of
half_is x = go (bool_cases (is_even x))
  where
    go : (is_even x ≡ true) ⊎ (is_even x ≡ false) → IsHalf x (half_of x)
    go (inl t) = rw t (omega (int, even_true x t, halved x, parts x, side x, sum (quot_z x (pos 2)) (quot_z x (pos 2))))
    go (inr t) = rw t (λ h d. even_false x t (omega (int, parts x, side x, sum h h)))

-- and no other answer is
pub half_unique : (x : ℤ) (r s : Option ℤ) → IsHalf x r → IsHalf x s → r ≡ s
half_unique x (Some h) (Some k) p q = ap Some (omega (int, sum h h, sum k k))
half_unique x (Some h) None p q = absurd (q h p)
half_unique x None (Some k) p q = absurd (p k q)
half_unique x None None p q = refl

pub half_means : (x : ℤ) (r : Option ℤ) → r ≡ half_of x → IsHalf x r
half_means x r e = subst (IsHalf x) (sym e) (half_is x)

-- ---- the answer is `Some h` exactly where h + h is x, and `None` exactly where no h has this
pub whole_iff : (x h : ℤ) → half_of x ≡ Some h ↔ h +ℤ h ≡ x
whole_iff x h = (λ e. half_means x (Some h) (sym e), λ p. half_unique x (half_of x) (Some h) (half_is x) p)

pub odd_iff : (x : ℤ) → half_of x ≡ None ↔ ((h : ℤ) → h +ℤ h ≡ x → ⊥)
odd_iff x = (λ e. half_means x None (sym e), λ p. half_unique x (half_of x) None (half_is x) p)

-- ---- sizes
pub abs_half : (x h : ℤ) → h +ℤ h ≡ x → nat_abs h + nat_abs h ≡ nat_abs x
abs_half x h e = omega (int, sum h h, parts h, side h, parts x, side x)
