-- The sign of an integer, −1, 0 or 1, by its parts; and of a product.
use mathlib.Core.Path.{◌≡◌, refl, sym, ap, ◌∙◌}
use Prim.Native.Nat.{ℕ, zero, suc, ◌*◌, ◌<◌}
use native.Mathlib.Omega.{arith}
use lib.IntN.{ℤ, pos, negsuc, neg_ℤ, ◌*ℤ◌, zero-*ℤ, *ℤ-zero}
use Rattle.integers.specs.Sign.{sgn_ℤ}
use Rattle.integers.proofs.Parts.{up, dn, neg}

pub sgn_pos : (z : ℤ) → 0 < up z → sgn_ℤ z ≡ pos 1
sgn_pos (pos zero) h = absurd (omega arith)
sgn_pos (pos (suc n)) h = refl
sgn_pos (negsuc n) h = absurd (omega arith)

pub sgn_neg : (z : ℤ) → 0 < dn z → sgn_ℤ z ≡ negsuc 0
sgn_neg (pos n) h = absurd (omega arith)
sgn_neg (negsuc n) h = refl

-- the sign of a product is the product of the signs
above : (m n : ℕ) → 0 < suc m * suc n
above m n = omega arith

pub sgn-* : (a b : ℤ) → sgn_ℤ (a *ℤ b) ≡ sgn_ℤ a *ℤ sgn_ℤ b
sgn-* (pos zero) b = ap sgn_ℤ (zero-*ℤ b) ∙ sym (zero-*ℤ (sgn_ℤ b))
sgn-* (pos (suc m)) (pos zero) = ap sgn_ℤ (*ℤ-zero (pos (suc m)))
sgn-* (pos (suc m)) (pos (suc n)) = sgn_pos (pos (suc m * suc n)) (above m n)
sgn-* (pos (suc m)) (negsuc n) =
    let e = neg (pos (suc m * suc n)) in sgn_neg (neg_ℤ (pos (suc m * suc n))) (omega (arith, above m n))
sgn-* (negsuc m) (pos zero) = ap sgn_ℤ (*ℤ-zero (negsuc m))
sgn-* (negsuc m) (pos (suc n)) =
    let e = neg (pos (suc m * suc n)) in sgn_neg (neg_ℤ (pos (suc m * suc n))) (omega (arith, above m n))
sgn-* (negsuc m) (negsuc n) = sgn_pos (pos (suc m * suc n)) (above m n)
