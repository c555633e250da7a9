-- The digits of a number as the code takes them: from the top, each by the digit function from what is left, and the digit times its
-- weight taken off (document 02, "No division in the digit step").
--
--   Taken W D s n           == the s digits of n, so taken: `weight j` is a weight that may come out for position j (`W`), `digit j` a
--                              digit that may come out for what is left and that weight (`D`), `left j` what is left when it is taken off
--   RightDigits s n w d     == the digits d are those that division by 3^j and remainder by 3 give, and weighed by w they add up to n
--   RightSets s n ones twos == bit j of `ones` is set where that digit j is 1, of `twos` where it is 2, for the s digits
use Rattle.std.specs.Prelude.{◌≡◌, ℕ, suc, ◌*◌, ◌-◌, ◌/◌, ◌%◌, ◌^◌, ◌<◌}
use Rattle.signs.specs.Lists.{total}
use Rattle.signs.specs.Bits.{bit_of}

pub record Taken (W : ℕ → ℕ → Type 0) (D : ℕ → ℕ → ℕ → Type 0) (s n : ℕ) : Type 0 where
  pub weight : ℕ → ℕ
  pub digit : ℕ → ℕ
  pub left : ℕ → ℕ
  pub whole : left s ≡ n
  pub weighed : (j : ℕ) → j < s → W j (weight j)
  pub answered : (j : ℕ) → j < s → D (left (suc j)) (weight j) (digit j)
  pub taken_off : (j : ℕ) → j < s → left j ≡ left (suc j) - digit j * weight j

pub record RightDigits (s n : ℕ) (w d : ℕ → ℕ) : Type 0 where
  pub by_division : (j : ℕ) → j < s → d j ≡ n / 3 ^ j % 3
  pub add_up : total (λ j. d j * w j) s ≡ n

pub record RightSets (s n ones twos : ℕ) : Type 0 where
  pub ones_are : ones ≡ total (λ j. bit_of (n / 3 ^ j % 3) 1 * 2 ^ j) s
  pub twos_are : twos ≡ total (λ j. bit_of (n / 3 ^ j % 3) 2 * 2 ^ j) s
