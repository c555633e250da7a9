-- Two's complement: what a number below 2h stands for, its absolute value and its order.
use mathlib.Core.Path.{◌≡◌, sym, ap, ◌∙◌}
use mathlib.Core.Logic.{◌⊎◌, inl, inr, ⊎_elim}
use Prim.Native.Nat.{ℕ, suc, ◌+◌, ◌-◌, ◌*◌, ◌^◌, ◌≤◌, ◌<◌}
use native.Mathlib.Omega.{arith}
use borrow.Author.Tests.{ltb-true, ltb-false, lt-ltb, le-ltb}
use lib.Dec.{ltb}
use lib.IntN.{pos, nat_abs, ◌-ℤ◌}
use mir.Syntax.{w8, w32}
use mir.Val.{to_z}
use mir.Facts.{to_z_pos, to_z-neg}
use Rattle.integers.proofs.Parts.{int, parts, side, dif}
use Rattle.integers.proofs.Tests.{bool_cases}
use Rattle.layout.specs.Format.{two's}

pub below_or : (b h : ℕ) → (b < h) ⊎ (h ≤ b)
below_or b h = ⊎_elim (λ e. inl (ltb-true b h e)) (λ e. inr (ltb-false b h e)) (bool_cases (ltb b h))

module _ (h b : ℕ) where
  pub twos-low : b < h → two's h b ≡ pos b
  unfolding two's
  twos-low l = rw (lt-ltb b h l)

  pub twos_high : h ≤ b → two's h b ≡ pos b -ℤ pos (2 * h)
  unfolding two's
  twos_high l = rw (le-ltb b h l)

  pub abs_low : b < h → nat_abs (two's h b) ≡ b
  abs_low l = ap nat_abs (twos-low l)

  pub abs_high : h ≤ b → b ≤ 2 * h → nat_abs (two's h b) + b ≡ 2 * h
  abs_high l m = rw (twos_high l) (omega (int, dif (pos b) (pos (2 * h)), parts (pos b -ℤ pos (2 * h)), side (pos b -ℤ pos (2 * h))))

-- four bytes stand for 0 only where all are 0
pub abs_word : (w : ℕ) → w < 2 ^ 32 → nat_abs (two's (2 ^ 31) w) ≡ 0 → w ≡ 0
abs_word w f e =
    ⊎_elim (λ b. omega (arith, abs_low (2 ^ 31) w b)) (λ b. omega (arith, abs_high (2 ^ 31) w b (omega arith)))
    (below_or w (2 ^ 31))

pub abs_word-zero : (w : ℕ) → w ≡ 0 → nat_abs (two's (2 ^ 31) w) ≡ 0
abs_word-zero w e = omega (arith, abs_low (2 ^ 31) w (omega arith))

-- what the bits of a byte, and of four bytes, stand for as a signed number of as many bits
pub signed_byte : (b : ℕ) → b < 256 → to_z w8 b ≡ two's 128 b
signed_byte b l = ⊎_elim (λ h. to_z_pos w8 h ∙ sym (twos-low 128 b h)) high (below_or b 128)
  where
    high : 128 ≤ b → to_z w8 b ≡ two's 128 b
    high h =
        let e : 2 ^ 8 - suc (255 - b) ≡ b = omega arith in
        rw e at (to_z-neg w8 (255 - b) (omega arith)) ∙ rw (twos_high 128 b h) (omega (int, dif (pos b) (pos 256)))

pub signed_word : (w : ℕ) → w < 2 ^ 32 → to_z w32 w ≡ two's (2 ^ 31) w
signed_word w l = ⊎_elim (λ h. to_z_pos w32 h ∙ sym (twos-low (2 ^ 31) w h)) high (below_or w (2 ^ 31))
  where
    high : 2 ^ 31 ≤ w → to_z w32 w ≡ two's (2 ^ 31) w
    high h =
        let e : 2 ^ 32 - suc (2 ^ 32 - 1 - w) ≡ w = omega arith in
        rw e at (to_z-neg w32 (2 ^ 32 - 1 - w) (omega arith)) ∙ rw (twos_high (2 ^ 31) w h) (omega (int, dif (pos w) (pos (2 ^ 32))))
