-- Exact halves of integers.
--
--   is_even x   == the test that x is even
--   half_of x   == half of x where x is even; nothing where it is not
--   IsHalf x r  == what the answer r says of x: `Some h` that x is h + h, `None` that x is no integer's double
use Rattle.std.specs.Prelude.{◌≡◌, Bool, cond, ◌%◌, eqb, Option, Some, None, ℤ, pos, nat_abs, ◌+ℤ◌}
use Rattle.std.specs.Int.Signed.{quot_z}

unfoldable pub is_even : ℤ → Bool
is_even x = eqb (nat_abs x % 2) 0

unfoldable pub half_of : ℤ → Option ℤ
half_of x = cond (is_even x) (Some (quot_z x (pos 2))) None

abbrev pub IsHalf : ℤ → Option ℤ → Type 0
IsHalf x (Some h) = h +ℤ h ≡ x
IsHalf x None = (h : ℤ) → h +ℤ h ≡ x → ⊥
