-- Laws of `tally`: it sees only the patterns of its polynomials, and it is additive.
unfoldable pub use Rattle.signs.specs.Tally.{fold, tally}
use mathlib.Core.Path.{◌≡◌, refl, ◌∙◌}
use Prim.Native.Nat.{ℕ, zero, suc, ◌+◌, ◌*◌, ◌^◌, ◌/◌, ◌%◌, ◌<◌}
use native.Mathlib.Omega.{arith}
use Rattle.signs.proofs.Digits.{top, low}

pub tally-at : (i k a : ℕ) (p n : ℕ → ℕ) → a < 3 ^ i → tally (suc i) (a + k * 3 ^ i) p n ≡ tally i a (fold i k p n) (fold i k n p)
unfolding tally
tally-at i k a p n h = rw (top i k h, low i k h) refl

-- two weights agree on the patterns of i polynomials
abbrev pub Agree : ℕ → (ℕ → ℕ) → (ℕ → ℕ) → Type 0
Agree i p p' = (q : ℕ) → q < 3 ^ i → p q ≡ p' q

pub fold_ext : (i k : ℕ) (p p' n n' : ℕ → ℕ) → Agree (suc i) p p' → Agree (suc i) n n' → Agree i (fold i k p n) (fold i k p' n')
unfolding fold
fold_ext i zero p p' n n' a b q h = omega (arith, a q (omega arith), a (q + 3 ^ i) (omega arith), a (q + 2 * 3 ^ i) (omega arith))
fold_ext i (suc zero) p p' n n' a b q h = omega (arith, a (q + 3 ^ i) (omega arith), b (q + 2 * 3 ^ i) (omega arith))
fold_ext i (suc (suc k)) p p' n n' a b q h = omega (arith, a (q + 3 ^ i) (omega arith), a (q + 2 * 3 ^ i) (omega arith))

pub tally_ext : (i α : ℕ) (p p' n n' : ℕ → ℕ) → Agree i p p' → Agree i n n' → tally i α p n ≡ tally i α p' n'
unfolding tally
tally_ext zero α p p' n n' a b = a 0 (omega arith)
tally_ext (suc i) α p p' n n' a b =
    tally_ext i (α % 3 ^ i) _ _ _ _ (fold_ext i (α / 3 ^ i) p p' n n' a b) (fold_ext i (α / 3 ^ i) n n' p p' b a)

abbrev pub none : ℕ → ℕ
none q = 0

fold_none : (i k : ℕ) → Agree i (fold i k none none) none
unfolding fold
fold_none i zero q h = refl
fold_none i (suc zero) q h = refl
fold_none i (suc (suc k)) q h = refl

pub tally_none : (i α : ℕ) → tally i α none none ≡ 0
unfolding tally
tally_none zero α = refl
tally_none (suc i) α = tally_ext i (α % 3 ^ i) _ _ _ _ (fold_none i (α / 3 ^ i)) (fold_none i (α / 3 ^ i)) ∙ tally_none i (α % 3 ^ i)

-- the sum of two weights
abbrev pub plus : (ℕ → ℕ) → (ℕ → ℕ) → ℕ → ℕ
plus p p' q = p q + p' q

fold_plus : (i k : ℕ) (p p' n n' : ℕ → ℕ) → Agree i (fold i k (plus p p') (plus n n')) (plus (fold i k p n) (fold i k p' n'))
unfolding fold
fold_plus i zero p p' n n' q h = omega arith
fold_plus i (suc zero) p p' n n' q h = omega arith
fold_plus i (suc (suc k)) p p' n n' q h = omega arith

pub tally_plus : (i α : ℕ) (p p' n n' : ℕ → ℕ) → tally i α (plus p p') (plus n n') ≡ tally i α p n + tally i α p' n'
unfolding tally
tally_plus zero α p p' n n' = refl
tally_plus (suc i) α p p' n n' =
    tally_ext i (α % 3 ^ i) _ _ _ _ (fold_plus i (α / 3 ^ i) p p' n n') (fold_plus i (α / 3 ^ i) n n' p p')
    ∙ tally_plus i (α % 3 ^ i) _ _ _ _
