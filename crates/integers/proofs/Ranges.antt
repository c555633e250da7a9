-- The range from −n to n: what `is_within` means.
use mathlib.Core.Path.{◌≡◌, refl, sym, ◌∙◌}
use mathlib.Core.Logic.{◌↔◌}
use mathlib.Core.Bool.{Bool, true, false, ◌&&◌, false≢true}
use Prim.Native.Nat.{ℕ}
use lib.Dec.{leb, leb→le}
use lib.IntN.{ℤ, pos, neg_ℤ, nat_abs}
use lib.Signed.{le_z, ◌≤ℤ◌, ◌<ℤ◌}
use Rattle.integers.specs.Range.{is_within}
use Rattle.integers.proofs.Parts.{int, parts, side, neg, same_test}
use Rattle.integers.proofs.Tests.{is_true, is_false}

-- two tests, as one
pub both : (a b : Bool) → a && b ≡ true → (a ≡ true) × (b ≡ true)
both true true e = (refl, refl)
both true false e = absurd (false≢true e)
both false b e = absurd (false≢true e)

-- the test, and the order that it decides
pub within_iff : (x n : ℤ) → is_within x n ≡ true ↔ (neg_ℤ n ≤ℤ x) × (x ≤ℤ n)
unfolding is_within
within_iff x n = (
  λ e. let t = both (le_z (neg_ℤ n) x) (le_z x n) e in (omega (int, t.0), omega (int, t.1)),
  λ p. let s : le_z (neg_ℤ n) x ≡ true = omega (int, p.0) in let t : le_z x n ≡ true = omega (int, p.1) in rw (s, t) refl,
)

-- n negative: no x is in the range
pub within_none : (x n : ℤ) → n <ℤ pos 0 → is_within x n ≡ false
within_none x n h = is_false (is_within x n) (λ t. let p = (within_iff x n).0 (is_true (is_within x n) t) in omega (int, neg n, p.0, p.1))

-- n not negative: the absolute value of x is at most n
pub within_abs : (x : ℤ) (k : ℕ) → is_within x (pos k) ≡ leb (nat_abs x) k
within_abs x k =
    same_test
    (λ e. let p = (within_iff x (pos k)).0 e in omega (int, parts x, side x, neg (pos k), p.0, p.1))
    (λ e. is_false (leb (nat_abs x) k) (λ t.
    let l = leb→le (nat_abs x) k t in
    let a : neg_ℤ (pos k) ≤ℤ x = omega (int, parts x, neg (pos k)) in
    let b : x ≤ℤ pos k = omega (int, parts x) in
    false≢true (sym e ∙ (within_iff x (pos k)).1 (a, b))))
