-- The value of a product and the pattern of a point by their digits, polynomial by polynomial (document 01, "Patterns and products": the
-- sum of digit times 3^(j−1)): digit j, from 0, of a number α is α / 3^j mod 3.
--
--   prod_to f n == f 0 · .. · f (n − 1)
use mathlib.Core.Path.{◌≡◌, refl, sym, ap, ap₂, subst, ◌∙◌}
use mathlib.Core.Logic.{⊎_elim}
use Prim.Native.Nat.{ℕ, zero, suc, ◌+◌, ◌*◌, ◌-◌, ◌/◌, ◌%◌, ◌^◌, ◌<◌}
use native.Mathlib.Omega.{arith}
use native.Mathlib.Nat.{pow-suc, one-le-pow, mod-lt, mod-eq_of_lt, mul_assoc, mul_comm, mul_left_comm, zero-add, suc-add}
use lib.Arith.{digits_div, digits_mod, mod-mul}
use lib.IntN.{ℤ, pos, ◌*ℤ◌}
use Rattle.integers.proofs.Tests.{eq_cases}
use Rattle.integers.specs.Powers.{power}
use Rattle.signs.specs.Signs.{sign_digit}
use Rattle.signs.proofs.Digits.{top, low, digits}
use Rattle.signs.proofs.SignDigits.{digit-small}
use Rattle.contents.specs.Contents.{product_to, pattern_to}
use Rattle.contents.proofs.Patterns.{pattern_below}

unfoldable pub prod_to : (ℕ → ℤ) → ℕ → ℤ
prod_to f zero = pos 1
prod_to f (suc n) = f n *ℤ prod_to f n

prod_to_ext : (f g : ℕ → ℤ) (n : ℕ) → ((j : ℕ) → j < n → f j ≡ g j) → prod_to f n ≡ prod_to g n
unfolding prod_to
prod_to_ext f g zero e = refl
prod_to_ext f g (suc n) e = ap₂ ◌*ℤ◌ (e n (omega arith)) (prod_to_ext f g n (λ j h. e j (omega arith)))

-- ---- digits

positive : (i : ℕ) → 0 < 3 ^ i
positive i = one-le-pow i 3 (omega arith)

-- the digits above the s-th are cut off, and those below stay
powers : (t j : ℕ) → 3 ^ suc (t + j) ≡ 3 ^ t * 3 * 3 ^ j
powers zero j = rw (zero-add j) (omega (arith, pow-suc 3 j))
powers (suc t) j = rw (suc-add t j, pow-suc 3 (suc (t + j)), powers t j, pow-suc 3 t) (simp (mul_assoc, mul_comm, mul_left_comm))

digit_cut : (n t j : ℕ) → n % 3 ^ suc (t + j) / 3 ^ j % 3 ≡ n / 3 ^ j % 3
digit_cut n t j =
    let p : 0 < 3 ^ t * 3 = omega (arith, positive t) in
    rw (powers t j, mod-mul n {m = 3 ^ t * 3} {c = 3 ^ j} p (positive j), digits_div (n / 3 ^ j % (3 ^ t * 3)) (mod-lt n (positive j)))
    (rw (mod-mul (n / 3 ^ j) {m = 3 ^ t} {c = 3} (positive t) (omega arith))
    (digits_mod (n / 3 ^ j / 3 % 3 ^ t) (mod-lt (n / 3 ^ j) (omega arith))))

digit_low : (n s j : ℕ) → j < s → n % 3 ^ s / 3 ^ j % 3 ≡ n / 3 ^ j % 3
digit_low n s j h =
    let e : s ≡ suc (s - suc j + j) = omega arith in
    subst (λ (i : ℕ). n % 3 ^ i / 3 ^ j % 3 ≡ n / 3 ^ j % 3) (sym e) (digit_cut n (s - suc j) j)

-- the digit on top
digit-top : (n s : ℕ) → n < 3 ^ suc s → n / 3 ^ s % 3 ≡ n / 3 ^ s
digit-top n s h = let (r, d, hr, hd, e) = digits s n h in rw (e, top s d hr) (mod-eq_of_lt hd)

-- ---- the laws

module _ (v : ℕ → ℤ) where
  pub product_digits : (s α : ℕ) → α < 3 ^ s → product_to v s α ≡ prod_to (λ j. power (v j) (α / 3 ^ j % 3)) s
  unfolding product_to prod_to
  product_digits zero α h = refl
  product_digits (suc s) α h =
      ap₂ ◌*ℤ◌ (ap (power (v s)) (sym (digit-top α s h)))
      (product_digits s (α % 3 ^ s) (mod-lt α (positive s)) ∙ prod_to_ext _ _ s (λ j g. ap (power (v j)) (digit_low α s j g)))

  pub pattern_digits : (s j : ℕ) → j < s → pattern_to v s / 3 ^ j % 3 ≡ sign_digit (v j)
  unfolding pattern_to
  pattern_digits zero j h = absurd (omega arith)
  pattern_digits (suc s) j h =
      let d = sign_digit (v s) in
      let b = pattern_below v s in
      ⊎_elim (λ w. rw (w.0, top s d b) (mod-eq_of_lt (digit-small (v s))))
      (λ w. let g : j < s = omega (arith, w.0) in
      sym (digit_low (pattern_to v s + d * 3 ^ s) s j g) ∙ rw (low s d b) (pattern_digits s j g)) (eq_cases j s)
