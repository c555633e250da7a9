-- One fact for a whole linear expression, where `omega (int, ..)` would want one for each sum in it: `omega (int, linear e)`.
-- An `Ex` mirrors the expression, with any integer as a leaf: `linear ((‵ a ⊞ ‵ b) ⊟ ‵ c)` speaks of `(a +ℤ b) -ℤ c`.
use mathlib.Core.Path.{◌≡◌}
use Prim.Native.Nat.{ℕ, ◌+◌}
use native.Mathlib.Omega.{arith}
use lib.IntN.{ℤ, ◌+ℤ◌, ◌-ℤ◌}
use Rattle.integers.proofs.Parts.{up, dn, sum, dif}

infix 90 ‵◌
infixl 60 ◌⊞◌ ◌⊟◌
pub data Ex : Type 0 where
  ‵◌ : ℤ → Ex
  ◌⊞◌ ◌⊟◌ : Ex → Ex → Ex

abbrev pub val : Ex → ℤ
val (‵ z) = z
val (a ⊞ b) = val a +ℤ val b
val (a ⊟ b) = val a -ℤ val b

-- what is added and what is taken away, as sums of the leaves' parts
abbrev mutual
  pub plus : Ex → ℕ
  plus (‵ z) = up z
  plus (a ⊞ b) = plus a + plus b
  plus (a ⊟ b) = plus a + less b

  pub less : Ex → ℕ
  less (‵ z) = dn z
  less (a ⊞ b) = less a + less b
  less (a ⊟ b) = less a + plus b

pub linear : (e : Ex) → up (val e) + less e ≡ plus e + dn (val e)
linear (‵ z) = omega arith
linear (a ⊞ b) = let p = linear a in let q = linear b in omega (arith, sum (val a) (val b))
linear (a ⊟ b) = let p = linear a in let q = linear b in omega (arith, dif (val a) (val b))
