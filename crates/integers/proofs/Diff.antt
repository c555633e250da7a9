-- A whole number as a difference of two natural numbers: `Diff z a b` says z = a − b, so that omega does the rest.
use mathlib.Core.Path.{◌≡◌, refl, sym, ap, subst}
use mathlib.Core.Bool.{Bool, true, false, not, cond}
use Prim.Native.Nat.{ℕ, zero, suc, ◌+◌, ◌-◌}
use native.Mathlib.Omega.{arith}
use native.Mathlib.Nat.{one-mul}
use lib.Dec.{T, ltb, ltb→lt, nltb→le}
use lib.IntN.{ℤ, pos, negsuc, ◌+ℤ◌, ◌*ℤ◌, neg_ℤ, sub_ℕ}
use Rattle.integers.proofs.Tests.{T_of}

abbrev pub DiffAt : ℤ → ℕ → ℕ → Type 0
DiffAt (pos k) a b = a ≡ k + b
DiffAt (negsuc k) a b = b ≡ suc k + a

-- a record, so that a and b can be implicit arguments; omega reads and proves it by its field
pub record Diff (z : ℤ) (a b : ℕ) : Type 0 where
  pub by : DiffAt z a b

pub diff_sub : (a b : ℕ) → Diff (sub_ℕ a b) a b
diff_sub a b = go (ltb a b) refl
  where
    go : (t : Bool) → ltb a b ≡ t → Diff (cond t (negsuc (b - suc a)) (pos (a - b))) a b
    go true e = omega (arith, ltb→lt a b (T_of e))
    go false e = omega (arith, nltb→le a b (subst (λ (t : Bool). T (not t)) (sym e) tt))

-- two whole numbers with the same difference are equal, and one whole number has one difference
pub diff_same : (z z' : ℤ) {a b a' b' : ℕ} → Diff z a b → Diff z' a' b' → a + b' ≡ a' + b → z ≡ z'
diff_same (pos k) (pos k') x y e = ap pos (omega arith)
diff_same (pos k) (negsuc k') x y e = absurd (omega arith)
diff_same (negsuc k) (pos k') x y e = absurd (omega arith)
diff_same (negsuc k) (negsuc k') x y e = ap negsuc (omega arith)

pub diff_one : (z : ℤ) {a b a' b' : ℕ} → Diff z a b → Diff z a' b' → a + b' ≡ a' + b
diff_one (pos k) x y = omega arith
diff_one (negsuc k) x y = omega arith

pub diff_move : (z : ℤ) {a b a' b' : ℕ} → Diff z a b → a + b' ≡ a' + b → Diff z a' b'
diff_move (pos k) x e = omega arith
diff_move (negsuc k) x e = omega arith

pub diff_neg : (z : ℤ) {a b : ℕ} → Diff z a b → Diff (neg_ℤ z) b a
diff_neg (pos zero) x = omega arith
diff_neg (pos (suc k)) x = omega arith
diff_neg (negsuc k) x = omega arith

pub diff_add : (x y : ℤ) {a b c d : ℕ} → Diff x a b → Diff y c d → Diff (x +ℤ y) (a + c) (b + d)
diff_add (pos j) (pos k) u v = omega arith
diff_add (pos j) (negsuc k) u v = diff_move (sub_ℕ j (suc k)) (diff_sub j (suc k)) (omega arith)
diff_add (negsuc j) (pos k) u v = diff_move (sub_ℕ k (suc j)) (diff_sub k (suc j)) (omega arith)
diff_add (negsuc j) (negsuc k) u v = omega arith

-- ---- the three factors

pub one-*ℤ : (z : ℤ) → pos 1 *ℤ z ≡ z
one-*ℤ (pos k) = ap pos (omega arith)
one-*ℤ (negsuc k) = ap (λ (m : ℕ). neg_ℤ (pos m)) (one-mul (suc k))

pub minus-*ℤ : (z : ℤ) → negsuc 0 *ℤ z ≡ neg_ℤ z
minus-*ℤ (pos k) = ap (λ (m : ℕ). neg_ℤ (pos m)) (one-mul k)
minus-*ℤ (negsuc k) = ap pos (one-mul (suc k))
