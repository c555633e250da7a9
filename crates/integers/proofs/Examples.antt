-- A worked example of each use of the kit. Copy the one that is nearest.
use mathlib.Core.Path.{◌≡◌, refl, sym, ◌∙◌}
use Prim.Native.Nat.{ℕ, ◌+◌, ◌^◌, ◌≤◌}
use lib.IntN.{ℤ, pos, negsuc, nat_abs, ◌+ℤ◌, ◌-ℤ◌, ◌*ℤ◌}
use lib.Signed.{le_z, quot_z, ◌≤ℤ◌, ◌<ℤ◌}
use mathlib.Core.Bool.{true}
use Rattle.std.specs.Prelude.{Some, None}
use mir.Syntax.{w64}
use mir.Val.{SFits}
use Rattle.integers.proofs.Parts.{int, parts, side, sum, dif, times, halved, ne_parts}
use Rattle.integers.proofs.Ring.{groupℤ, ringℤ}
use Rattle.integers.proofs.Expr.{‵◌, ◌⊞◌, ◌⊟◌, linear}
use native.Mathlib.Omega.{arith}
use Rattle.integers.specs.Half.{half_of}
use Rattle.integers.specs.Range.{is_within}
use Rattle.integers.proofs.Halves.{half_means, abs_half}
use Rattle.integers.proofs.Ranges.{within_abs}

-- ---- identities, with nothing to name: `simp groupℤ` for sums and differences, `simp ringℤ` for products too
cancels : (a b c : ℤ) → (a +ℤ b) -ℤ (c +ℤ a) ≡ b -ℤ c
cancels a b c = simp groupℤ

long : (a b c d e f : ℤ) → ((a +ℤ b) +ℤ (c -ℤ d)) -ℤ ((e +ℤ a) -ℤ (d -ℤ f)) ≡ (b +ℤ c) -ℤ (e +ℤ f)
long a b c d e f = simp groupℤ

any_terms : (f : ℕ → ℤ) (g : ℤ → ℤ) (a b : ℤ) → (f 3 +ℤ g a) -ℤ (b +ℤ f 3) ≡ g a -ℤ b
any_terms f g a b = simp groupℤ

literals : (a b : ℤ) → (a +ℤ pos 1) -ℤ (b -ℤ pos 1) ≡ (a -ℤ b) +ℤ pos 2
literals a b = simp groupℤ

to_zero : (a b : ℤ) → (a -ℤ b) +ℤ (b -ℤ a) ≡ pos 0
to_zero a b = simp groupℤ

products : (a b : ℤ) → (a +ℤ b) *ℤ (a -ℤ b) ≡ a *ℤ a -ℤ b *ℤ b
products a b = simp ringℤ

small_factors : (x y : ℤ) → pos 2 *ℤ (x +ℤ y) -ℤ (x -ℤ y) ≡ x +ℤ pos 3 *ℤ y
small_factors x y = simp ringℤ

cube : (a b : ℤ) → (a -ℤ b) *ℤ ((a *ℤ a +ℤ a *ℤ b) +ℤ b *ℤ b) ≡ a *ℤ (a *ℤ a) -ℤ b *ℤ (b *ℤ b)
cube a b = simp ringℤ

square-3 : (a b c : ℤ) → ((a +ℤ b) +ℤ c) *ℤ ((a +ℤ b) +ℤ c)
    ≡ ((a *ℤ a +ℤ b *ℤ b) +ℤ c *ℤ c) +ℤ pos 2 *ℤ ((a *ℤ b +ℤ b *ℤ c) +ℤ a *ℤ c)
square-3 a b c = simp ringℤ

-- ---- a hypothesis, normalized: what stands on both sides stays, sorted alike
normalized : (P : ℤ → Type 0) (a b : ℤ) → P ((b +ℤ a) +ℤ pos 0) → P (a +ℤ b)
normalized P a b h = simp groupℤ at h

moved : (a b c : ℤ) → a -ℤ b ≡ c → a ≡ b +ℤ c
moved a b c h = simp groupℤ at h

-- ---- from hypotheses: `omega (int, ..)`, with one fact for each sum and difference that the goal or a hypothesis names
halves : (x y g e : ℤ) → x +ℤ x ≡ g +ℤ e → y +ℤ y ≡ g -ℤ e → x +ℤ y ≡ g
halves x y g e p q = omega (int, sum x x, sum y y, sum g e, dif g e, sum x y)

odd : (x h : ℤ) → h +ℤ h ≡ x +ℤ pos 1 → (k : ℤ) → k +ℤ k ≡ x → ⊥
odd x h p k q = omega (int, sum h h, sum x (pos 1), sum k k)

scaled : (x y : ℤ) → pos 3 *ℤ x ≡ pos 3 *ℤ y → x ≡ y
scaled x y e = omega (int, times 3 x, times 3 y)

variable_literal : (x : ℤ) (m n : ℕ) → (x +ℤ pos m) +ℤ pos n ≡ x +ℤ pos (n + m)
variable_literal x m n = omega (int, sum x (pos m), sum (x +ℤ pos m) (pos n), sum x (pos (n + m)))

-- a deep expression is one fact: its mirror
mirrored : (a b c d e : ℤ) → a ≡ d → ((a +ℤ b) -ℤ c) -ℤ (d -ℤ e) ≡ (b +ℤ e) -ℤ c
mirrored a b c d e h = omega (int, linear ((‵ a ⊞ ‵ b ⊟ ‵ c) ⊟ (‵ d ⊟ ‵ e)), linear (‵ b ⊞ ‵ e ⊟ ‵ c))

-- ---- orders and tests
adds : (a b c : ℤ) → a ≤ℤ b → (a +ℤ c) ≤ℤ (b +ℤ c)
adds a b c h = omega (int, sum a c, sum b c)

clash : (a b : ℤ) → a ≤ℤ b → b <ℤ a → ⊥
clash a b h k = omega int

strict : (a b : ℤ) → a ≤ℤ b → (a ≡ b → ⊥) → a <ℤ b
strict a b h n = omega (int, ne_parts a b n)

tested : (a b : ℤ) → le_z a b ≡ true → a <ℤ (b +ℤ pos 1)
tested a b t = omega (int, sum b (pos 1))

-- ---- absolute values and fits: `parts z` for `nat_abs z`, `mag z` and `SFits`, and `side z` where it matters that one part is 0
bounded : (a : ℤ) → nat_abs a ≤ 64 → negsuc 63 ≤ℤ a
bounded a h = omega (int, parts a)

between : (a : ℤ) → negsuc 63 ≤ℤ a → a ≤ℤ pos 64 → nat_abs a ≤ 64
between a h k = omega (int, parts a, side a)

fits_sum : (a b : ℤ) → nat_abs a ≤ 4096 → nat_abs b ≤ 4096 → SFits w64 (a +ℤ b)
fits_sum a b h k = omega (int, sum a b, parts a, parts b, parts (a +ℤ b))

fits-half : (a : ℤ) → SFits w64 a → nat_abs (quot_z a (pos 2)) ≤ 2 ^ 62
fits-half a h = omega (int, halved a, parts a, side a, parts (quot_z a (pos 2)))

-- ---- halves and ranges: what a call's promise gives its caller
half_known : (x h : ℤ) → Some h ≡ half_of x → h +ℤ h ≡ x
half_known x h e = half_means x (Some h) e

half-within : (x h : ℤ) (k : ℕ) → Some h ≡ half_of x → nat_abs x ≤ k + k → nat_abs h ≤ k
half-within x h k e b = let d = half_means x (Some h) e in omega (arith, abs_half x h d)

no_half : (x : ℤ) → None ≡ half_of (x +ℤ x) → ⊥
no_half x e = half_means (x +ℤ x) None e x refl

in_range : (x : ℤ) → is_within x (pos 64) ≡ true → nat_abs x ≤ 64
in_range x t = let e = within_abs x 64 in omega (int, sym e ∙ t)

-- ---- how far it goes: six equations, nine integers
unique : (q0 q1 q2 z p m z' p' m' : ℤ)
    → (z +ℤ p) +ℤ m ≡ q0 → p -ℤ m ≡ q1 → p +ℤ m ≡ q2
    → (z' +ℤ p') +ℤ m' ≡ q0 → p' -ℤ m' ≡ q1 → p' +ℤ m' ≡ q2
    → (z ≡ z') × (p ≡ p') × (m ≡ m')
unique q0 q1 q2 z p m z' p' m' a b c a' b' c' =
    omega (int, sum z p, sum (z +ℤ p) m, dif p m, sum p m, sum z' p', sum (z' +ℤ p') m', dif p' m', sum p' m')
