-- Laws of the definitions of specs/Remains.antt.
use Prim.Native.Nat.{ℕ, zero, suc, ◌%◌, ◌≤◌, ◌<◌}
use native.Mathlib.Decide.{dec_lt}
use native.Mathlib.Omega.{arith}
use mathlib.Core.Path.{◌≡◌, refl, sym, ap, ap₂, ◌∙◌}
use mathlib.Core.Bool.{Bool, true, false, cond, ◌||◌, true≢false}
use mathlib.Core.List.{List, [], ◌∷◌, ◌++◌}
use borrow.Author.Tests.{lt-ltb, ltb-false}
use lib.Bits.{bit_and, bit_or}
use lib.Count.{ones}
use lib.Dec.{eqb}
use lib.IntN.{ℤ, pos, negsuc, nat_abs, ◌+ℤ◌, ◌-ℤ◌, ◌*ℤ◌, +ℤ_idl, +ℤ_idr, +ℤ_assoc}
use lib.ListN.{length, get_or, drop}
use lib.Seq.{drop-cons}
use mir.Syntax.{w16}
use mir.Val.{SFits, to_z, of_z}
use Rattle.integers.proofs.I16.{back}
use Rattle.integers.proofs.Abs.{abs_zero}
use Rattle.signs.specs.Signs.{sign, weighted}
use Rattle.signs.specs.Bits.{sign_bits}
use Rattle.solver_residuals.specs.Residuals.{residuals, other0, either0, bit_sum}

-- ---- sums

sign_cases : (a b : Bool) → nat_abs (cond a (cond b (pos 1) (negsuc 0)) (pos 0)) ≤ 1
sign_cases true true = omega arith
sign_cases true false = omega arith
sign_cases false b = omega arith

pub sign_small : (a₁ a₂ p₁ p₂ : ℕ) → nat_abs (sign_bits a₁ a₂ p₁ p₂) ≤ 1
unfolding sign_bits
sign_small a₁ a₂ p₁ p₂ = sign_cases (eqb (bit_and (bit_or a₁ a₂) (bit_or p₁ p₂)) (bit_or a₁ a₂)) (eqb (ones (bit_and a₁ p₂) % 2) 0)

-- the sum from place j on
pub sum_next : (a₁ a₂ j : ℕ) (o t : List ℕ) (v : List ℤ) → j < length v → length o ≡ length v → length t ≡ length v
    → bit_sum a₁ a₂ (drop j o) (drop j t) (drop j v)
    ≡ (sign_bits a₁ a₂ (get_or o j 0) (get_or t j 0) *ℤ get_or v j (pos 0)) +ℤ bit_sum a₁ a₂ (drop (suc j) o) (drop (suc j) t)
    (drop (suc j) v)
unfolding bit_sum
sum_next a₁ a₂ j o t v h e f = rw (drop-cons o j 0 (omega arith), drop-cons t j 0 (omega arith), drop-cons v j (pos 0) h) refl

pub sum_none : (a₁ a₂ : ℕ) (t : List ℕ) (v : List ℤ) → bit_sum a₁ a₂ [] t v ≡ pos 0
unfolding bit_sum
sum_none a₁ a₂ t v = refl

-- the sum with one more at the end
pub sum_snoc : (a₁ a₂ p q : ℕ) (x : ℤ) (o t : List ℕ) (v : List ℤ) → length o ≡ length v → length t ≡ length v
    → bit_sum a₁ a₂ (o ++ (p ∷ [])) (t ++ (q ∷ [])) (v ++ (x ∷ [])) ≡ bit_sum a₁ a₂ o t v +ℤ (sign_bits a₁ a₂ p q *ℤ x)
unfolding bit_sum
sum_snoc a₁ a₂ p q x [] [] [] e f = +ℤ_idr (sign_bits a₁ a₂ p q *ℤ x) ∙ sym (+ℤ_idl (sign_bits a₁ a₂ p q *ℤ x))
sum_snoc a₁ a₂ p q x [] [] (y ∷ v) e f = absurd (omega arith)
sum_snoc a₁ a₂ p q x [] (b ∷ t) [] e f = absurd (omega arith)
sum_snoc a₁ a₂ p q x [] (b ∷ t) (y ∷ v) e f = absurd (omega arith)
sum_snoc a₁ a₂ p q x (c ∷ o) t [] e f = absurd (omega arith)
sum_snoc a₁ a₂ p q x (c ∷ o) [] (y ∷ v) e f = absurd (omega arith)
sum_snoc a₁ a₂ p q x (c ∷ o) (b ∷ t) (y ∷ v) e f =
    ap (λ (z : ℤ). (sign_bits a₁ a₂ c b *ℤ y) +ℤ z) (sum_snoc a₁ a₂ p q x o t v (omega arith) (omega arith))
    ∙ sym (+ℤ_assoc (sign_bits a₁ a₂ c b *ℤ y) (bit_sum a₁ a₂ o t v) (sign_bits a₁ a₂ p q *ℤ x))

-- the query from place j on
pub weighted_next : (i α j : ℕ) (l : List ℕ) (v : List ℤ) → j < length l → length v ≡ length l
    → weighted i (drop j l) (drop j v) α ≡ (sign i α (get_or l j 0) *ℤ get_or v j (pos 0)) +ℤ weighted i (drop (suc j) l) (drop (suc j) v) α
unfolding weighted
weighted_next i α j l v h e = rw (drop-cons l j 0 h, drop-cons v j (pos 0) (omega arith)) refl

-- ---- the test of 0, by the bits

pub zero_bits : (x : ℤ) → SFits w16 x → of_z w16 x ≡ of_z w16 (pos 0) → other0 x ≡ false
zero_bits x f e = let z : x ≡ pos 0 = sym (back x f) ∙ ap (to_z w16) e in rw z refl

pub other_bits : (x : ℤ) → (of_z w16 x ≡ of_z w16 (pos 0) → ⊥) → other0 x ≡ true
other_bits x h = go (dec_lt 0 (nat_abs x))
  where
    go : Dec (0 < nat_abs x) → other0 x ≡ true
    go (yes p) = lt-ltb 0 (nat_abs x) p
    go (no p) = absurd (h (ap (of_z w16) (abs_zero x (omega arith))))

-- where neither counts both are 0
none_is : (x : ℤ) → other0 x ≡ false → x ≡ pos 0
none_is x e = abs_zero x (omega (arith, ltb-false 0 (nat_abs x) e))

pub neither_0 : (x y : ℤ) → either0 x y ≡ false → x ≡ pos 0
unfolding either0
neither_0 x y = go (other0 x) refl
  where
    go : (b : Bool) → other0 x ≡ b → (b || other0 y) ≡ false → x ≡ pos 0
    go true e h = absurd (true≢false h)
    go false e h = none_is x e

pub neither_1 : (x y : ℤ) → either0 x y ≡ false → y ≡ pos 0
unfolding either0
neither_1 x y = go (other0 x)
  where
    go : (b : Bool) → (b || other0 y) ≡ false → y ≡ pos 0
    go true h = absurd (true≢false h)
    go false h = none_is y h

-- ---- what residuals of the numbers asked

pub residuals-length : (i : ℕ) (l : List ℕ) (v : List ℤ) (A : List ℕ) (x : List ℤ) → length x ≡ length A
    → length (residuals i l v A x) ≡ length A
unfolding residuals
residuals-length i l v [] x e = refl
residuals-length i l v (α ∷ A) [] e = absurd (omega arith)
residuals-length i l v (α ∷ A) (y ∷ x) e = ap suc (residuals-length i l v A x (omega arith))

pub residuals_is : (i : ℕ) (l : List ℕ) (v : List ℤ) (A : List ℕ) (x r : List ℤ) → length x ≡ length A → length r ≡ length A
    → ((k : ℕ) → k < length A → get_or r k (pos 0) ≡ get_or x k (pos 0) -ℤ weighted i l v (get_or A k 0)) → r ≡ residuals i l v A x
unfolding residuals
residuals_is i l v [] x [] e f g = refl
residuals_is i l v [] x (z ∷ r) e f g = absurd (omega arith)
residuals_is i l v (α ∷ A) [] r e f g = absurd (omega arith)
residuals_is i l v (α ∷ A) (y ∷ x) [] e f g = absurd (omega arith)
residuals_is i l v (α ∷ A) (y ∷ x) (z ∷ r) e f g =
    ap₂ ◌∷◌ (g 0 (omega arith)) (residuals_is i l v A x r (omega arith) (omega arith) (λ k h. g (suc k) (omega arith)))

pub residuals-at : (i : ℕ) (l : List ℕ) (v : List ℤ) (A : List ℕ) (x : List ℤ) (k : ℕ) → length x ≡ length A → k < length A
    → get_or (residuals i l v A x) k (pos 0) ≡ get_or x k (pos 0) -ℤ weighted i l v (get_or A k 0)
unfolding residuals
residuals-at i l v [] x k e h = absurd (omega arith)
residuals-at i l v (α ∷ A) [] k e h = absurd (omega arith)
residuals-at i l v (α ∷ A) (y ∷ x) zero e h = refl
residuals-at i l v (α ∷ A) (y ∷ x) (suc k) e h = residuals-at i l v A x k (omega arith) (omega arith)
