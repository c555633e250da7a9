-- Tests as facts: a test's value, and what it says.
use mathlib.Core.Path.{◌≡◌, refl, sym, subst}
use mathlib.Core.Logic.{◌≢◌, ◌⊎◌, inl, inr}
use mathlib.Core.Bool.{Bool, true, false}
use Prim.Native.Nat.{ℕ}
use native.Mathlib.Decide.{ℕ_discrete}
use lib.Dec.{T, eqb, eqb→eq, eqb_refl}

pub is_true : (b : Bool) → T b → b ≡ true
is_true true t = refl
is_true false t = absurd t

pub is_false : (b : Bool) → (T b → ⊥) → b ≡ false
is_false true h = absurd (h tt)
is_false false h = refl

pub eqb_same : (q : ℕ) → eqb q q ≡ true
eqb_same q = is_true (eqb q q) (eqb_refl q)

pub eqb_other : (q x : ℕ) → q ≢ x → eqb q x ≡ false
eqb_other q x h = is_false (eqb q x) (λ t. h (eqb→eq q x t))

-- two numbers are equal or not, and the test says which
pub eq_cases : (q x : ℕ) → ((q ≡ x) × (eqb q x ≡ true)) ⊎ ((q ≢ x) × (eqb q x ≡ false))
eq_cases q x = go (ℕ_discrete q x)
  where
    go : Dec (q ≡ x) → ((q ≡ x) × (eqb q x ≡ true)) ⊎ ((q ≢ x) × (eqb q x ≡ false))
    go (yes e) = inl (e, rw e (eqb_same x))
    go (no h) = inr (h, eqb_other q x h)

-- a test, as a case distinction that keeps its equation
pub bool_cases : (b : Bool) → (b ≡ true) ⊎ (b ≡ false)
bool_cases true = inl refl
bool_cases false = inr refl

pub T_of : {b : Bool} → b ≡ true → T b
T_of e = subst T (sym e) tt

pub not_T_of : {b : Bool} → b ≡ false → T b → ⊥
not_T_of e t = subst T e t
