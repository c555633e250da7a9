-- `signs::low_digits` meets its contract: nothing stands below the last digit.
use mathlib.Core.Path.{◌≡◌, ◌∙◌}
use Prim.Native.Nat.{ℕ, ◌+◌}
use native.Mathlib.Omega.{arith}
use Rattle.signs.specs.Bits.{digit_set}
use Rattle.signs.proofs.low_digits.Goals as goal

last : (d x n y : ℕ) → x + digit_set d 0 n ≡ y → x ≡ y
unfolding digit_set
last d x n y e = omega arith

pub returns : goal.returns
returns c =
    record {
      ones_value = last 1 _ _ _ (c.take_digit-all.ensures.left_value ∙ c.take_digit-three.ensures.left_value
          ∙ c.take_digit-two.ensures.left_value ∙ c.take_digit-one.ensures.left_value);
      twos_value = last 2 _ _ _ (c.take_digit-all.ensures.left_value_2 ∙ c.take_digit-three.ensures.left_value_2
          ∙ c.take_digit-two.ensures.left_value_2 ∙ c.take_digit-one.ensures.left_value_2);
    }
