-- `signs::digit_sets` meets its contract: digits past the s-th are 0.
use mathlib.Core.Path.{◌≡◌, ap, ◌∙◌}
use Prim.Native.Nat.{ℕ, suc, ◌+◌, ◌-◌, ◌^◌, ◌<◌, ◌≤◌}
use native.Mathlib.Nat.{pow-le-pow_right, zero-add}
use native.Mathlib.Omega.{arith}
use Rattle.signs.specs.Bits.{digit_set}
use Rattle.signs.proofs.Digitwise.{more_places}
use Rattle.signs.proofs.digit_sets.Goals as goal

-- the number of s polynomials as one of more
past : (d s t n : ℕ) → s ≤ t → n < 3 ^ s → digit_set (suc d) t n ≡ digit_set (suc d) s n
past d s t n h l =
    let e : t ≡ t - s + s = omega arith in
    ap (λ (i : ℕ). digit_set (suc d) i n) e ∙ more_places d (t - s) s n l

below : (s t n : ℕ) → s ≤ t → n < 3 ^ s → n < 3 ^ t
below s t n h l = omega (arith, pow-le-pow_right {n = 3} (omega arith) {i = s} {j = t} h)

pub high_digits-requires : goal.high_digits-requires
high_digits-requires c = below c.args.s 8 c.args.n c.requires.0 c.requires.1

pub returns-then-s-gt4 : goal.returns-then-s-gt4
returns-then-s-gt4 c = (
  c.low_digits.ensures.ones_value ∙ c.high_digits.ensures.left_value ∙ past 0 c.args.s 8 c.args.n c.requires.0 c.requires.1,
  c.low_digits.ensures.twos_value ∙ c.high_digits.ensures.left_value_2 ∙ past 1 c.args.s 8 c.args.n c.requires.0 c.requires.1,
)

pub low_digits-requires-else-s-gt4 : goal.low_digits-requires-else-s-gt4
low_digits-requires-else-s-gt4 c =
    (below c.args.s 4 c.args.n (omega (arith, c.if-s-gt4.false)) c.requires.1, omega arith, omega arith)

pub returns-else-s-gt4 : goal.returns-else-s-gt4
returns-else-s-gt4 c =
    let h : c.args.s ≤ 4 = omega (arith, c.if-s-gt4.false) in (
      c.low_digits-else-s-gt4.ensures.ones_value ∙ zero-add _ ∙ past 0 c.args.s 4 c.args.n h c.requires.1,
      c.low_digits-else-s-gt4.ensures.twos_value ∙ zero-add _ ∙ past 1 c.args.s 4 c.args.n h c.requires.1,
    )
