-- Identities of ℤ by one `simp`: `simp ringℤ` proves an equation that holds by the laws of a commutative ring, as
-- `(a +ℤ b) -ℤ (c +ℤ a) ≡ b -ℤ c`, with nothing to name. It writes each side as one difference of two sums of products, `minus p n`,
-- takes `minus p n ≡ minus q m` to `p +ℤ m ≡ q +ℤ n`, and sorts, so that nothing has to cancel. `simp ringℤ at h` normalizes a hypothesis.
-- For a goal that needs hypotheses or an order, use `omega int` (`Parts`).
use mathlib.Core.Path.{◌≡◌, refl, sym, ap, ap₂, ◌∙◌}
use mathlib.Core.Logic.{◌↔◌}
use Prim.Native.Nat.{ℕ, zero, suc, ◌+◌, ◌*◌}
use lib.IntN.{ℤ, pos, negsuc, neg_ℤ, ◌+ℤ◌, ◌-ℤ◌, ◌*ℤ◌, +ℤ_assoc, +ℤ_comm, +ℤ_idl, +ℤ_idr, neg_ℤ-+ℤ, neg_ℤ-neg_ℤ, *ℤ_comm, zero-*ℤ, *ℤ-zero}
use Rattle.integers.proofs.Parts.{sum, dif, neg, times, int}

-- ---- the sum
pub +ℤ-left-comm : (a b c : ℤ) → a +ℤ (b +ℤ c) ≡ b +ℤ (a +ℤ c)
+ℤ-left-comm a b c = omega (int, sum b c, sum a c, sum a (b +ℤ c), sum b (a +ℤ c))

-- two literals beside each other
pub pos_fold : (m n : ℕ) (a : ℤ) → pos m +ℤ (pos n +ℤ a) ≡ pos (m + n) +ℤ a
pos_fold m n a = sym (+ℤ_assoc (pos m) (pos n) a)

-- ---- the difference, under a name that does not unfold
pub minus : ℤ → ℤ → ℤ
minus a b = a -ℤ b

pub neg_minus : (a : ℤ) → neg_ℤ a ≡ minus (pos 0) a
unfolding minus
neg_minus a = sym (+ℤ_idl (neg_ℤ a))

pub negsuc_minus : (n : ℕ) → negsuc n ≡ minus (pos 0) (pos (suc n))
unfolding minus
negsuc_minus n = sym (+ℤ_idl (negsuc n))

pub minus-sum : (a b c : ℤ) → minus a b +ℤ c ≡ minus (a +ℤ c) b
unfolding minus
minus-sum a b c = omega (int, dif a b, sum (a -ℤ b) c, sum a c, dif (a +ℤ c) b)

pub sum-minus : (a b c : ℤ) → c +ℤ minus a b ≡ minus (c +ℤ a) b
unfolding minus
sum-minus a b c = omega (int, dif a b, sum c (a -ℤ b), sum c a, dif (c +ℤ a) b)

pub minus_minus : (a b c : ℤ) → minus (minus a b) c ≡ minus a (b +ℤ c)
unfolding minus
minus_minus a b c = omega (int, dif a b, dif (a -ℤ b) c, sum b c, dif a (b +ℤ c))

pub minus_of_minus : (a b c : ℤ) → minus a (minus b c) ≡ minus (a +ℤ c) b
unfolding minus
minus_of_minus a b c = omega (int, dif b c, dif a (b -ℤ c), sum a c, dif (a +ℤ c) b)

pub minus_both : (a b c d : ℤ) → (minus a b ≡ minus c d) ↔ (a +ℤ d ≡ c +ℤ b)
unfolding minus
minus_both a b c d = (λ h. omega (int, dif a b, dif c d, sum a d, sum c b), λ h. omega (int, dif a b, dif c d, sum a d, sum c b))

pub minus-left : (a b c : ℤ) → (minus a b ≡ c) ↔ (a ≡ c +ℤ b)
unfolding minus
minus-left a b c = (λ h. omega (int, dif a b, sum c b), λ h. omega (int, dif a b, sum c b))

pub minus_right : (a b c : ℤ) → (c ≡ minus a b) ↔ (c +ℤ b ≡ a)
unfolding minus
minus_right a b c = (λ h. omega (int, dif a b, sum c b), λ h. omega (int, dif a b, sum c b))

-- ---- the product
pub *ℤ-neg : (a b : ℤ) → a *ℤ neg_ℤ b ≡ neg_ℤ (a *ℤ b)
*ℤ-neg (pos m) (pos zero) = omega (int, neg (pos (m * 0)))
*ℤ-neg (pos m) (pos (suc n)) = refl
*ℤ-neg (pos m) (negsuc n) = sym (neg_ℤ-neg_ℤ (pos (m * suc n)))
*ℤ-neg (negsuc m) (pos zero) = omega (int, neg (pos (suc m * 0)), neg (neg_ℤ (pos (suc m * 0))))
*ℤ-neg (negsuc m) (pos (suc n)) = sym (neg_ℤ-neg_ℤ (pos (suc m * suc n)))
*ℤ-neg (negsuc m) (negsuc n) = refl

pub neg-*ℤ : (a b : ℤ) → neg_ℤ a *ℤ b ≡ neg_ℤ (a *ℤ b)
neg-*ℤ a b = *ℤ_comm (neg_ℤ a) b ∙ *ℤ-neg b a ∙ ap neg_ℤ (*ℤ_comm b a)

-- by the parts where the first factor is a natural number, and by its negation where it is negative
pos_dist : (k : ℕ) (b c : ℤ) → pos k *ℤ (b +ℤ c) ≡ pos k *ℤ b +ℤ pos k *ℤ c
pos_dist k b c =
    let e = ap (λ (n : ℕ). k * n) (sum b c).balance in
    omega (int, times k b, times k c, times k (b +ℤ c), sum (pos k *ℤ b) (pos k *ℤ c))

pub *ℤ-dist : (a b c : ℤ) → a *ℤ (b +ℤ c) ≡ a *ℤ b +ℤ a *ℤ c
*ℤ-dist (pos k) b c = pos_dist k b c
*ℤ-dist (negsuc k) b c =
    neg-*ℤ (pos (suc k)) (b +ℤ c) ∙ ap neg_ℤ (pos_dist (suc k) b c)
    ∙ neg_ℤ-+ℤ (pos (suc k) *ℤ b) (pos (suc k) *ℤ c)
    ∙ sym (ap₂ ◌+ℤ◌ (neg-*ℤ (pos (suc k)) b) (neg-*ℤ (pos (suc k)) c))

pub dist-*ℤ : (a b c : ℤ) → (b +ℤ c) *ℤ a ≡ b *ℤ a +ℤ c *ℤ a
dist-*ℤ a b c = *ℤ_comm (b +ℤ c) a ∙ *ℤ-dist a b c ∙ ap₂ ◌+ℤ◌ (*ℤ_comm a b) (*ℤ_comm a c)

pos_assoc : (k m : ℕ) (c : ℤ) → pos (k * m) *ℤ c ≡ pos k *ℤ (pos m *ℤ c)
pos_assoc k m c =
    let s = times m c in
    let u = ap (λ (n : ℕ). k * n) s.up_is in
    let d = ap (λ (n : ℕ). k * n) s.dn_is in
    omega (int, times (k * m) c, times k (pos m *ℤ c))

pos_assoc' : (k : ℕ) (b c : ℤ) → (pos k *ℤ b) *ℤ c ≡ pos k *ℤ (b *ℤ c)
pos_assoc' k (pos m) c = pos_assoc k m c
pos_assoc' k (negsuc m) c =
    neg-*ℤ (pos (k * suc m)) c ∙ ap neg_ℤ (pos_assoc k (suc m) c)
    ∙ sym (*ℤ-neg (pos k) (pos (suc m) *ℤ c)) ∙ ap (λ x. pos k *ℤ x) (sym (neg-*ℤ (pos (suc m)) c))

pub *ℤ-assoc : (a b c : ℤ) → (a *ℤ b) *ℤ c ≡ a *ℤ (b *ℤ c)
*ℤ-assoc (pos k) b c = pos_assoc' k b c
*ℤ-assoc (negsuc k) b c =
    ap (λ x. x *ℤ c) (neg-*ℤ (pos (suc k)) b) ∙ neg-*ℤ (pos (suc k) *ℤ b) c
    ∙ ap neg_ℤ (pos_assoc' (suc k) b c) ∙ sym (neg-*ℤ (pos (suc k)) (b *ℤ c))

pub *ℤ-left-comm : (a b c : ℤ) → a *ℤ (b *ℤ c) ≡ b *ℤ (a *ℤ c)
*ℤ-left-comm a b c = sym (*ℤ-assoc a b c) ∙ ap (λ x. x *ℤ c) (*ℤ_comm a b) ∙ *ℤ-assoc b a c

pub *ℤ-minus : (a b c : ℤ) → a *ℤ minus b c ≡ minus (a *ℤ b) (a *ℤ c)
unfolding minus
*ℤ-minus a b c = *ℤ-dist a b (neg_ℤ c) ∙ ap (λ x. a *ℤ b +ℤ x) (*ℤ-neg a c)

pub minus-*ℤ : (a b c : ℤ) → minus b c *ℤ a ≡ minus (b *ℤ a) (c *ℤ a)
unfolding minus
minus-*ℤ a b c = dist-*ℤ a b (neg_ℤ c) ∙ ap (λ x. b *ℤ a +ℤ x) (neg-*ℤ c a)

-- small literal factors, as sums, on either side: `simp` sorts a product's factors
pub 1-*ℤ : (a : ℤ) → pos 1 *ℤ a ≡ a
1-*ℤ a = omega (int, times 1 a)

pub *ℤ-1 : (a : ℤ) → a *ℤ pos 1 ≡ a
*ℤ-1 a = *ℤ_comm a (pos 1) ∙ 1-*ℤ a

pub 2-*ℤ : (a : ℤ) → pos 2 *ℤ a ≡ a +ℤ a
2-*ℤ a = omega (int, times 2 a, sum a a)

pub *ℤ-2 : (a : ℤ) → a *ℤ pos 2 ≡ a +ℤ a
*ℤ-2 a = *ℤ_comm a (pos 2) ∙ 2-*ℤ a

pub 3-*ℤ : (a : ℤ) → pos 3 *ℤ a ≡ a +ℤ (a +ℤ a)
3-*ℤ a = omega (int, times 3 a, sum a a, sum a (a +ℤ a))

pub *ℤ-3 : (a : ℤ) → a *ℤ pos 3 ≡ a +ℤ (a +ℤ a)
*ℤ-3 a = *ℤ_comm a (pos 3) ∙ 3-*ℤ a

pub 4-*ℤ : (a : ℤ) → pos 4 *ℤ a ≡ (a +ℤ a) +ℤ (a +ℤ a)
4-*ℤ a = omega (int, times 4 a, sum a a, sum (a +ℤ a) (a +ℤ a))

pub *ℤ-4 : (a : ℤ) → a *ℤ pos 4 ≡ (a +ℤ a) +ℤ (a +ℤ a)
*ℤ-4 a = *ℤ_comm a (pos 4) ∙ 4-*ℤ a

-- ---- the sets: `groupℤ` for sums and differences, `ringℤ` for products too
pub ruleset groupℤ = (
  neg_minus,
  negsuc_minus,
  minus-sum,
  sum-minus,
  minus_minus,
  minus_of_minus,
  minus_both,
  minus-left,
  minus_right,
  +ℤ_assoc,
  +ℤ_comm,
  +ℤ-left-comm,
  +ℤ_idl,
  +ℤ_idr,
  pos_fold,
)

pub ruleset ringℤ = (
  groupℤ,
  *ℤ-dist,
  dist-*ℤ,
  *ℤ-minus,
  minus-*ℤ,
  *ℤ-assoc,
  *ℤ_comm,
  *ℤ-left-comm,
  zero-*ℤ,
  *ℤ-zero,
  *ℤ-1,
  1-*ℤ,
  *ℤ-2,
  2-*ℤ,
  *ℤ-3,
  3-*ℤ,
  *ℤ-4,
  4-*ℤ,
)
