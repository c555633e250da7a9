-- `signs::take_digit` meets its contract: the digit goes into its set, and what is left stands below it.
use mathlib.Core.Path.{◌≡◌, sym, ap, ◌∙◌}
use Prim.Native.Nat.{ℕ, ◌+◌, ◌*◌, ◌-◌, ◌/◌, ◌%◌, ◌^◌, ◌<◌}
use native.Mathlib.Nat.{one-le-pow, pow-suc, div-add-mod', mod-lt}
use native.Mathlib.Omega.{arith}
use Rattle.signs.proofs.Digits.{top, digits}
use Rattle.signs.proofs.Digitwise.{digit-taken, bit_alone}
use Rattle.signs.proofs.take_digit.Goals as goal
use Rattle.signs.proofs.take_digit.Goals.{After-digit-d, Else-d-eq1}

-- the digit as division gives it, its share, and what stays
quotient : (c : After-digit-d) → c.args.t.left / 3 ^ c.args.j ≡ c.digit-d.result
quotient c = sym (c.digit-d.ensures ∙ ap (λ (w : ℕ). c.args.t.left / w) c.power-w.ensures)

share : (c : After-digit-d) → (q : ℕ) → c.digit-d.result ≡ q
    → q * c.power-w.result + c.args.t.left % 3 ^ c.args.j ≡ c.args.t.left
share c q e =
    let n = c.args.t.left in
    let j = c.args.j in
    rw c.power-w.ensures
    (ap (λ (x : ℕ). x * 3 ^ j + n % 3 ^ j) (sym (quotient c ∙ e)) ∙ div-add-mod' n (3 ^ j))

left_small : (c : After-digit-d) → c.args.t.left % 3 ^ c.args.j < 3 ^ c.args.j
left_small c = mod-lt c.args.t.left (one-le-pow c.args.j 3 (omega arith))

-- neither 0 nor 1: the digit is 2
two_is : (c : Else-d-eq1) → c.digit-d.result ≡ 2
two_is c =
    let n = c.args.t.left in
    let j = c.args.j in
    let (q, k, l, s, e) = digits j n c.requires.1 in
    let f : n / 3 ^ j ≡ k = ap (λ (x : ℕ). x / 3 ^ j) e ∙ top j k l in
    omega (arith, quotient (goal.at.Else-d-eq1 c).After-digit-d, f, s, c.if-d-eq0.false, c.if-d-eq1.false)

pub returns-then-d-eq0 : goal.returns-then-d-eq0
returns-then-d-eq0 c =
    let n = c.args.t.left in
    let j = c.args.j in
    let e = share (goal.at.returns-then-d-eq0 c).After-digit-d 0 c.if-d-eq0.true in
    let r : n % 3 ^ j ≡ n = omega (arith, e) in
    let q = quotient (goal.at.returns-then-d-eq0 c).After-digit-d ∙ c.if-d-eq0.true in
    let k = pow-suc 2 j in record {
      left_bound = (
        omega (arith, left_small (goal.at.returns-then-d-eq0 c).After-digit-d, r),
        omega (arith, k, c.requires),
        omega (arith, k, c.requires),
      );
      left_value = omega (arith, digit-taken 1 j n 0 n c.args.t.ones q r);
      left_value_2 = omega (arith, digit-taken 2 j n 0 n c.args.t.twos q r);
    }

pub returns-then-d-eq1 : goal.returns-then-d-eq1
returns-then-d-eq1 c =
    let n = c.args.t.left in
    let j = c.args.j in
    let is = c.if-d-eq1.true in
    let e = share (goal.at.returns-then-d-eq1 c).After-digit-d 1 is in
    let r : n % 3 ^ j ≡ n - c.power-w.result = omega (arith, e) in
    let q = quotient (goal.at.returns-then-d-eq1 c).After-digit-d ∙ is in
    let k = pow-suc 2 j in
    let b = bit_alone j c.requires.0 in record {
      left_bound = (
        omega (arith, left_small (goal.at.returns-then-d-eq1 c).After-digit-d, r),
        omega (arith, k, b, c.requires),
        omega (arith, k, b, c.requires),
      );
      left_value = omega (arith, b, digit-taken 1 j n 1 _ c.args.t.ones q r);
      left_value_2 = omega (arith, b, digit-taken 2 j n 1 _ c.args.t.twos q r);
    }

pub returns : goal.returns
returns c =
    let n = c.args.t.left in
    let j = c.args.j in
    let is = two_is (goal.at.returns c).Else-d-eq1 in
    let e = share (goal.at.returns c).After-digit-d 2 is in
    let r : n % 3 ^ j ≡ n - 2 * c.power-w.result = omega (arith, e) in
    let q = quotient (goal.at.returns c).After-digit-d ∙ is in
    let k = pow-suc 2 j in
    let b = bit_alone j c.requires.0 in record {
      left_bound = (
        omega (arith, left_small (goal.at.returns c).After-digit-d, r),
        omega (arith, k, b, c.requires),
        omega (arith, k, b, c.requires),
      );
      left_value = omega (arith, b, digit-taken 1 j n 2 _ c.args.t.ones q r);
      left_value_2 = omega (arith, b, digit-taken 2 j n 2 _ c.args.t.twos q r);
    }
