-- The causes of one polynomial: large coefficients, then a top one that is 0 though the degree is not.
use mathlib.Core.Path.{◌≡◌}
use mathlib.Core.Bool.{true, false}
use mathlib.Core.List.{List}
use Prim.Native.Nat.{ℕ, ◌<◌}
use borrow.Author.Tests.{lt-ltb, ne_eqb}
use lib.IntN.{ℤ, pos, nat_abs}
use lib.ListN.{get_or}
use Rattle.integers.proofs.Abs.{abs_zero}
use Rattle.refusals.specs.Numbers.{wrong_coefficient, zero_top}
use Rattle.refusals.specs.Limits.{most_coefficient}
use Rattle.integers.specs.Search.{outside}
use Rattle.card_bytes.specs.Causes.{some, polynomial_cause}

module _ (d : ℕ) (l : List ℤ) where
  pub cause_large : true ≡ some (outside most_coefficient) l → wrong_coefficient ≡ polynomial_cause d l
  unfolding polynomial_cause
  cause_large e = rw (← e)

  pub cause_constant : false ≡ some (outside most_coefficient) l → d ≡ 0 → 0 ≡ polynomial_cause d l
  unfolding polynomial_cause
  cause_constant e h = rw (← e, h)

  pub cause_zero_top : false ≡ some (outside most_coefficient) l → 0 < d → get_or l d (pos 0) ≡ pos 0 → zero_top ≡ polynomial_cause d l
  unfolding polynomial_cause
  cause_zero_top e h z = rw (← e, lt-ltb 0 d h, z)

  pub cause_none : false ≡ some (outside most_coefficient) l → 0 < d → (get_or l d (pos 0) ≡ pos 0 → ⊥) → 0 ≡ polynomial_cause d l
  unfolding polynomial_cause
  cause_none e h n = rw (← e, lt-ltb 0 d h, ne_eqb (nat_abs (get_or l d (pos 0))) 0 (λ z. n (abs_zero (get_or l d (pos 0)) z)))
