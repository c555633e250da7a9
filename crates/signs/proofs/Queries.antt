-- The query of a list of patterns is the tally of its counts: query s E α = tally (counts) 0 − tally 0 (counts).
use mathlib.Core.Path.{◌≡◌, refl, sym, ap, ◌∙◌}
use mathlib.Core.Logic.{◌≢◌}
use mathlib.Core.List.{List, [], ◌∷◌}
use Prim.Native.Nat.{ℕ, zero, suc, ◌+◌, ◌*◌, ◌^◌, ◌<◌}
use native.Mathlib.Omega.{arith}
use native.Mathlib.Decide.{ℕ_discrete}
use lib.IntN.{ℤ, pos, ◌+ℤ◌, ◌*ℤ◌, neg_ℤ, zero-*ℤ}
use Rattle.integers.proofs.Diff.{Diff, diff_neg, diff_add, one-*ℤ, minus-*ℤ}
use Rattle.signs.specs.Lists.{times, Below}
use Rattle.integers.specs.Powers.{power}
use Rattle.signs.specs.Signs.{sign, sign_of, query}
use Rattle.signs.proofs.Digits.{top, low, digits}
use Rattle.signs.proofs.Lists.{times-nil, times-same, times_other, times-append}
use Rattle.signs.proofs.Tallies.{fold, tally, Agree, tally_ext, none, plus, tally_plus}

-- the counts of a list of patterns
abbrev pub counts : List ℕ → ℕ → ℕ
counts E q = times q E

-- the weight of one point at σ
abbrev pub point : ℕ → ℕ → ℕ
point σ q = times q (σ ∷ [])

point-same : (σ q : ℕ) → q ≡ σ → point σ q ≡ 1
point-same σ q e = rw e (omega (arith, times-same σ [], times-nil σ))

point_other : (σ q : ℕ) → q ≢ σ → point σ q ≡ 0
point_other σ q h = omega (arith, times_other q σ [] h, times-nil q)

-- a point at r + d·3^i is one at r, seen at q + d·3^i
point-shift : (r q c : ℕ) → point (r + c) (q + c) ≡ point r q
point-shift r q c = go (ℕ_discrete q r)
  where
    go : Dec (q ≡ r) → point (r + c) (q + c) ≡ point r q
    go (yes e) = point-same (r + c) (q + c) (omega arith) ∙ sym (point-same r q e)
    go (no h) = point_other (r + c) (q + c) (omega arith) ∙ sym (point_other r q h)

-- the difference that a whole number stands for, at weights that agree
pub diff_ext : (i α : ℕ) (z : ℤ) (p p' n n' : ℕ → ℕ) → Agree i p p' → Agree i n n'
    → Diff z (tally i α p n) (tally i α n p) → Diff z (tally i α p' n') (tally i α n' p')
diff_ext i α z p p' n n' a b d = rw (← tally_ext i α p p' n n' a b, ← tally_ext i α n n' p p' b a) d

diff_none : (i α : ℕ) → Diff (pos 0) (tally i α none none) (tally i α none none)
diff_none i α = record { by = omega arith }

-- ---- P(i+1) summed out of a point at r + d·3^i

module _ (i r : ℕ) (h : r < 3 ^ i) where
  at-0 : (q : ℕ) → q < 3 ^ i
      → (point (r + 0 * 3 ^ i) q ≡ point r q) × (point (r + 0 * 3 ^ i) (q + 3 ^ i) ≡ 0) × (point (r + 0 * 3 ^ i) (q + 2 * 3 ^ i) ≡ 0)
  at-0 q b = (
    ap (λ (x : ℕ). point x q) (omega arith),
    point_other (r + 0 * 3 ^ i) (q + 3 ^ i) (omega arith),
    point_other (r + 0 * 3 ^ i) (q + 2 * 3 ^ i) (omega arith),
  )

  at_1 : (q : ℕ) → q < 3 ^ i
      → (point (r + 1 * 3 ^ i) q ≡ 0) × (point (r + 1 * 3 ^ i) (q + 3 ^ i) ≡ point r q) × (point (r + 1 * 3 ^ i) (q + 2 * 3 ^ i) ≡ 0)
  at_1 q b = (
    point_other (r + 1 * 3 ^ i) q (omega arith),
    ap (λ (x : ℕ). point x (q + 3 ^ i)) (omega arith) ∙ point-shift r q (3 ^ i),
    point_other (r + 1 * 3 ^ i) (q + 2 * 3 ^ i) (omega arith),
  )

  at-2 : (q : ℕ) → q < 3 ^ i
      → (point (r + 2 * 3 ^ i) q ≡ 0) × (point (r + 2 * 3 ^ i) (q + 3 ^ i) ≡ 0) × (point (r + 2 * 3 ^ i) (q + 2 * 3 ^ i) ≡ point r q)
  at-2 q b =
      (point_other (r + 2 * 3 ^ i) q (omega arith), point_other (r + 2 * 3 ^ i) (q + 3 ^ i) (omega arith), point-shift r q (2 * 3 ^ i))

  -- the sign with P(i+1) at sign d and power k, from the sign without it
  sign-step : (k d x : ℕ) (z : ℤ) → k < 3 → d < 3 → Diff z (tally i x (point r) none) (tally i x none (point r))
      → Diff (power (sign_of d) k *ℤ z) (tally i x (fold i k (point (r + d * 3 ^ i)) none) (fold i k none (point (r + d * 3 ^ i))))
      (tally i x (fold i k none (point (r + d * 3 ^ i))) (fold i k (point (r + d * 3 ^ i)) none))
  unfolding power sign_of fold
  sign-step zero zero x z hk hd e =
      rw one-*ℤ (diff_ext i x z (point r) _ none _ (λ q b. omega (arith, at-0 q b)) (λ q b. refl) e)
  sign-step zero (suc zero) x z hk hd e =
      rw one-*ℤ (diff_ext i x z (point r) _ none _ (λ q b. omega (arith, at_1 q b)) (λ q b. refl) e)
  sign-step zero (suc (suc zero)) x z hk hd e =
      rw one-*ℤ (diff_ext i x z (point r) _ none _ (λ q b. omega (arith, at-2 q b)) (λ q b. refl) e)
  sign-step (suc zero) zero x z hk hd e =
      rw zero-*ℤ (diff_ext i x (pos 0) none _ none _ (λ q b. omega (arith, at-0 q b)) (λ q b. omega (arith, at-0 q b)) (diff_none i x))
  sign-step (suc zero) (suc zero) x z hk hd e =
      rw one-*ℤ (diff_ext i x z (point r) _ none _ (λ q b. omega (arith, at_1 q b)) (λ q b. omega (arith, at_1 q b)) e)
  sign-step (suc zero) (suc (suc zero)) x z hk hd e =
      rw minus-*ℤ (diff_ext i x (neg_ℤ z) none _ (point r) _ (λ q b. omega (arith, at-2 q b)) (λ q b. omega (arith, at-2 q b))
      (diff_neg z e))
  sign-step (suc (suc zero)) zero x z hk hd e =
      rw zero-*ℤ (diff_ext i x (pos 0) none _ none _ (λ q b. omega (arith, at-0 q b)) (λ q b. omega (arith, at-0 q b)) (diff_none i x))
  sign-step (suc (suc zero)) (suc zero) x z hk hd e =
      rw one-*ℤ (diff_ext i x z (point r) _ none _ (λ q b. omega (arith, at_1 q b)) (λ q b. omega (arith, at_1 q b)) e)
  sign-step (suc (suc zero)) (suc (suc zero)) x z hk hd e =
      rw one-*ℤ (diff_ext i x z (point r) _ none _ (λ q b. omega (arith, at-2 q b)) (λ q b. omega (arith, at-2 q b)) e)
  sign-step zero (suc (suc (suc d))) x z hk hd e = absurd (omega arith)
  sign-step (suc zero) (suc (suc (suc d))) x z hk hd e = absurd (omega arith)
  sign-step (suc (suc zero)) (suc (suc (suc d))) x z hk hd e = absurd (omega arith)
  sign-step (suc (suc (suc k))) d x z hk hd e = absurd (omega arith)

-- the sign of a product on a pattern is the tally of one point
pub sign-tally : (s α σ : ℕ) → α < 3 ^ s → σ < 3 ^ s → Diff (sign s α σ) (tally s α (point σ) none) (tally s α none (point σ))
unfolding sign tally
sign-tally zero α σ a b = record { by = omega (arith, point-same σ 0 (omega arith)) }
sign-tally (suc i) α σ a b =
    let (x, k, hx, hk, e) = digits i α a in
    let (r, d, hr, hd, f) = digits i σ b in
    rw (e, f, top i k hx, top i d hr, low i k hx, low i d hr) (sign-step i r hr k d x (sign i x r) hk hd (sign-tally i x r hx hr))

-- the query of a list of patterns is the tally of its counts
pub query-tally : (s α : ℕ) (E : List ℕ) → α < 3 ^ s → Below (3 ^ s) E
    → Diff (query s E α) (tally s α (counts E) none) (tally s α none (counts E))
unfolding query times Below
query-tally s α [] a b = diff_none s α
query-tally s α (σ ∷ E) a b =
    diff_sum (sign-tally s α σ a b.0) (query-tally s α E a b.1)
  where
    split_counts : Agree s (counts (σ ∷ E)) (plus (point σ) (counts E))
    split_counts q h = omega (arith, times-append q (σ ∷ []) E)

    diff_sum : Diff (sign s α σ) (tally s α (point σ) none) (tally s α none (point σ))
        → Diff (query s E α) (tally s α (counts E) none) (tally s α none (counts E))
        → Diff (sign s α σ +ℤ query s E α) (tally s α (counts (σ ∷ E)) none) (tally s α none (counts (σ ∷ E)))
    diff_sum d e =
        rw (
          tally_ext s α (counts (σ ∷ E)) (plus (point σ) (counts E)) none (plus none none) split_counts (λ q h. refl),
          tally_ext s α none (plus none none) (counts (σ ∷ E)) (plus (point σ) (counts E)) (λ q h. refl) split_counts,
          tally_plus s α (point σ) (counts E) none none,
          tally_plus s α none none (point σ) (counts E),
        )
        (diff_add (sign s α σ) (query s E α) d e)
