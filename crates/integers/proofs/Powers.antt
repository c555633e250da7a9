-- Laws of powers of integers.
use mathlib.Core.Path.{◌≡◌, sym, ap, ◌∙◌}
use Prim.Native.Nat.{ℕ, zero, suc, ◌+◌}
use native.Mathlib.Nat.{zero-add, suc-add}
use lib.IntN.{ℤ, ◌*ℤ◌}
use Rattle.integers.specs.Powers.{power}
use Rattle.integers.proofs.Ring.{1-*ℤ, *ℤ-1, *ℤ-assoc}

pub power-one : (z : ℤ) → power z 1 ≡ z
unfolding power
power-one z = *ℤ-1 z

-- exponents add up
pub power-sum : (z : ℤ) (j k : ℕ) → power z (j + k) ≡ power z j *ℤ power z k
unfolding power
power-sum z zero k = ap (power z) (zero-add k) ∙ sym (1-*ℤ (power z k))
power-sum z (suc j) k =
    ap (power z) (suc-add j k) ∙ ap (λ (x : ℤ). z *ℤ x) (power-sum z j k) ∙ sym (*ℤ-assoc z (power z j) (power z k))
