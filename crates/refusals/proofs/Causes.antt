-- Laws of causes in order.
use mathlib.Core.Path.{◌≡◌, refl, sym}
use mathlib.Core.Bool.{Bool, true, false, not}
use Prim.Native.Nat.{ℕ, zero, suc}
use native.Mathlib.Omega.{arith}
use borrow.Author.Tests.{eqb-true}
use lib.Dec.{eqb}
use Rattle.refusals.specs.Numbers.{◌when◌, ◌▸◌}

-- ---- what holds of the number of each cause, and of 0, holds of the number that causes in order give

module _ (P : ℕ → Type 0) where
  -- two causes, one after the other
  pub then_holds : (a : ℕ) {r : ℕ} → P a → P r → P (a ▸ r)
  then_holds zero h k = k
  then_holds (suc a) h k = h

  -- one cause
  pub only_holds : (m : ℕ) (t : Bool) → P 0 → P m → P (m when t)
  only_holds m true z h = h
  only_holds m false z h = z

  -- one cause before others
  pub first_holds : (m : ℕ) (t : Bool) {r : ℕ} → P m → P r → P (m when t ▸ r)
  first_holds zero true h k = k
  first_holds (suc m) true h k = h
  first_holds m false h k = k

-- ---- which cause

-- the causes before b do not hold where a ▸ b is 0, nor does b
pub first_none : (a b : ℕ) → (a ▸ b) ≡ 0 → a ≡ 0
first_none zero b e = refl
first_none (suc a) b e = e

pub then_none : (a b : ℕ) → (a ▸ b) ≡ 0 → b ≡ 0
then_none zero b e = e
then_none (suc a) b e = absurd (omega arith)

-- a number is given, or the next cause is asked
pub first_some : (a b : ℕ) → (a ≡ 0 → ⊥) → a ≡ (a ▸ b)
first_some zero b h = absurd (h refl)
first_some (suc a) b h = refl

pub then_some : (a b : ℕ) → a ≡ 0 → b ≡ (a ▸ b)
then_some a b e = rw e

pub holds_not : (m : ℕ) (t : Bool) → (suc m when t) ≡ 0 → t ≡ false
holds_not m true e = absurd (omega arith)
holds_not m false e = refl

pub is_equal : (a b : ℕ) → not (eqb a b) ≡ false → a ≡ b
is_equal a b e = eqb-true a b (swap (eqb a b) e)
  where
    swap : (t : Bool) → not t ≡ false → t ≡ true
    swap true e = refl
    swap false e = sym e

-- causes in order: the same first, and then the same where the first does not refuse
pub next : (a a' b b' : ℕ) → a ≡ a' → (a' ≡ 0 → b ≡ b') → (a ▸ b) ≡ (a' ▸ b')
next a zero b b' e f = rw e (f refl)
next a (suc a') b b' e f = rw e refl
