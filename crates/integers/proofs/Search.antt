-- Laws of `any_below`: that a test holds of a number below n.
use mathlib.Core.Path.{◌≡◌, refl}
use mathlib.Core.Bool.{Bool, true, false, ◌||◌}
use mathlib.Core.Logic.{⊎_elim}
use Prim.Native.Nat.{ℕ, zero, suc, ◌+◌, ◌<◌}
use native.Mathlib.Numerals.{add-one}
use native.Mathlib.Omega.{arith}
use Rattle.integers.proofs.Tests.{eq_cases}
use Rattle.integers.specs.Search.{any_below}

or_true : (a : Bool) → a || true ≡ true
or_true true = refl
or_true false = refl

pub or_none : (a : Bool) → a || false ≡ a
or_none true = refl
or_none false = refl

pub or_left : (a b : Bool) → a ≡ true → a || b ≡ true
or_left a b e = rw e

pub or_right : (a b : Bool) → b ≡ true → a || b ≡ true
or_right a b e = rw e (or_true a)

pub or_false : (a b : Bool) → a ≡ false → b ≡ false → a || b ≡ false
or_false a b p q = rw (p, q)

pub left_false : (a b : Bool) → a || b ≡ false → a ≡ false
left_false true b e = e
left_false false b e = refl

pub right_false : (a b : Bool) → a || b ≡ false → b ≡ false
right_false true true e = e
right_false true false e = refl
right_false false b e = e

module _ (f : ℕ → Bool) where
  pub some_none : any_below f 0 ≡ false
  unfolding any_below
  some_none = refl

  pub some_more : (n : ℕ) → any_below f n ≡ false → f n ≡ false → any_below f (n + 1) ≡ false
  unfolding any_below
  some_more n p q = rw (add-one n) (or_false (any_below f n) (f n) p q)

  pub some_true : (n k : ℕ) → k < n → f k ≡ true → any_below f n ≡ true
  unfolding any_below
  some_true zero k h e = absurd (omega arith)
  some_true (suc n) k h e =
      ⊎_elim (λ w. rw (← w.0, e) (or_true (any_below f k)))
      (λ w. rw (some_true n k (omega (arith, w.0)) e))
      (eq_cases k n)

  pub some_which : (n : ℕ) → any_below f n ≡ true → (k : ℕ) × (k < n) × (f k ≡ true)
  unfolding any_below
  some_which zero e = absurd (let x : ◌≡◌ {A = ℕ} 0 1 = cc in omega arith)
  some_which (suc n) e = go (f n) refl e (some_which n)
    where
      go : (t : Bool) → f n ≡ t → any_below f n || t ≡ true → (any_below f n ≡ true → (k : ℕ) × (k < n) × (f k ≡ true))
          → (k : ℕ) × (k < suc n) × (f k ≡ true)
      go true h e before = (n, omega arith, h)
      go false h e before = let (k, l, g) = before (rw (or_none (any_below f n)) at e) in (k, omega arith, g)

  pub some_false : (n : ℕ) → any_below f n ≡ false → (k : ℕ) → k < n → f k ≡ false
  unfolding any_below
  some_false zero e k h = absurd (omega arith)
  some_false (suc n) e k h =
      ⊎_elim (λ w. rw w.0 (right_false (any_below f n) (f n) e))
      (λ w. some_false n (left_false (any_below f n) (f n) e) k (omega (arith, w.0)))
      (eq_cases k n)

  pub none_below : (n : ℕ) → ((k : ℕ) → k < n → f k ≡ false) → any_below f n ≡ false
  unfolding any_below
  none_below zero h = refl
  none_below (suc n) h = or_false (any_below f n) (f n) (none_below n (λ k l. h k (omega arith))) (h n (omega arith))

-- tests that agree below n
pub any_same : (f g : ℕ → Bool) (n : ℕ) → ((k : ℕ) → k < n → f k ≡ g k) → any_below f n ≡ any_below g n
unfolding any_below
any_same f g zero h = refl
any_same f g (suc n) h = rw (any_same f g n (λ k l. h k (omega arith)), h n (omega arith)) refl
