-- `polynomials::evaluate` meets its contract. The loop's invariant: v is what Horner's rule has of the n coefficients taken.
use mathlib.Core.Path.{◌≡◌, sym, ap, ap₂, ◌∙◌}
use mathlib.Core.List.{List, reverse}
use Prim.Native.Nat.{ℕ, suc, ◌+◌, ◌*◌, ◌-◌, ◌≤◌, ◌<◌}
use native.Mathlib.Omega.{arith}
use native.Mathlib.Numerals.{add-one}
use lib.ListN.{length, get_or}
use lib.IntN.{ℤ, pos, nat_abs, ◌+ℤ◌, ◌*ℤ◌}
use mir.Syntax.{w64}
use mir.Val.{SFits, to_z, of_z}
use mir.Facts.{to_z-of_z}
use Rattle.std.proofs.lemmas.Iterator.Adapters.{YieldsList-from_rev_slice}
use Rattle.std.proofs.lemmas.Iterator.Consumers.{YieldsList-turn, YieldsList-end}
use Rattle.std.proofs.lemmas.List.{get_or-reverse, get_or_default, length-reverse, length_push}
use Rattle.integers.specs.Sums.{Within}
use Rattle.integers.proofs.Abs.{abs_sum}
use Rattle.integers.proofs.I64.{fits_abs}
use Rattle.refusals.specs.Limits.{most_coefficient}
use Rattle.polynomials.specs.Values.{evaluate}
use Rattle.polynomials.proofs.Horner.{from, top, top-le, from_none, from_more, from_all, from_times, from_top}
use Rattle.polynomials.proofs.evaluate.Goals as goal

-- ---- what is known in a turn, which takes coefficient 6 − n
module _ (p : List ℤ) (x : ℤ) (s : Within most_coefficient p) (b : nat_abs x ≤ 128) (n : ℕ) (l : n < 7) where
  abbrev sofar : ℤ
  sofar = from (λ k. get_or p k (pos 0)) x (7 - n) n

  abbrev coef : ℤ
  coef = get_or p (6 - n) (pos 0)

  bound : nat_abs sofar ≤ top n
  bound = from_top (λ k. get_or p k (pos 0)) x b n (7 - n) (λ k g h. s.at k)

  times : nat_abs (sofar *ℤ x) ≤ top 6 * 128
  times =
      let t = top-le n 6 (omega arith) in
      omega (arith, from_times (λ k. get_or p k (pos 0)) x b n (7 - n) bound)

  fits_times : SFits w64 (sofar *ℤ x)
  fits_times = fits_abs _ (omega (arith, times))

  fits_coef : SFits w64 coef
  fits_coef = fits_abs _ (omega (arith, s.at (6 - n)))

  fits_next : SFits w64 (sofar *ℤ x +ℤ coef)
  fits_next = fits_abs _ (omega (arith, times, s.at (6 - n), abs_sum (sofar *ℤ x) coef))

  next : sofar *ℤ x +ℤ coef ≡ from (λ k. get_or p k (pos 0)) x (7 - (n + 1)) (n + 1)
  next =
      let e : 7 - (n + 1) ≡ 6 - n = omega arith in
      let f : 7 - n ≡ suc (6 - n) = omega arith in
      rw (e, add-one n) (ap (λ (k : ℕ). from (λ k. get_or p k (pos 0)) x k n *ℤ x +ℤ coef) f
      ∙ sym (from_more (λ k. get_or p k (pos 0)) x n (6 - n)))

  -- the same of what the machine holds
  module _ (v : ℕ) (c : ℤ) (f : SFits w64 x) (g : c ≡ coef) (e : to_z w64 v
      ≡ from (λ k. get_or p k (pos 0)) (to_z w64 (of_z w64 x)) (7 - n) n) where
    product : to_z w64 v *ℤ to_z w64 (of_z w64 x) ≡ sofar *ℤ x
    product = rw (e, to_z-of_z f)

    product_fits : SFits w64 (to_z w64 v *ℤ to_z w64 (of_z w64 x))
    product_fits = rw product fits_times

    both : to_z w64 (of_z w64 (to_z w64 v *ℤ to_z w64 (of_z w64 x))) +ℤ to_z w64 (of_z w64 c) ≡ sofar *ℤ x +ℤ coef
    both = ap₂ ◌+ℤ◌ (to_z-of_z product_fits ∙ product) (ap (λ (z : ℤ). to_z w64 (of_z w64 z)) g ∙ to_z-of_z fits_coef)

    both_fits : SFits w64 (to_z w64 (of_z w64 (to_z w64 v *ℤ to_z w64 (of_z w64 x))) +ℤ to_z w64 (of_z w64 c))
    both_fits = rw both fits_next

    taken : (m : ℕ) → m ≡ n + 1 → to_z w64 (of_z w64 (to_z w64 (of_z w64 (to_z w64 v *ℤ to_z w64 (of_z w64 x))) +ℤ to_z w64 (of_z w64 c)))
        ≡ from (λ k. get_or p k (pos 0)) (to_z w64 (of_z w64 x)) (7 - m) m
    taken m h =
        to_z-of_z both_fits ∙ both ∙ next
        ∙ sym (ap₂ (λ (z : ℤ) (m : ℕ). from (λ k. get_or p k (pos 0)) z (7 - m) m) (to_z-of_z f) h)

-- the coefficient that a turn takes, where the slice is gone over from its end
item : (p : List ℤ) (n : ℕ) (z : ℤ) → length p ≡ 7 → (n < length (reverse p)) × (z ≡ get_or (reverse p) n z)
    → (n < 7) × (z ≡ get_or p (6 - n) (pos 0))
item p n z h (k, e) =
    let l : n < 7 = omega (arith, length-reverse p) in
    let i : length p - 1 - n ≡ 6 - n = omega arith in
    (l, e ∙ get_or-reverse p n z (omega arith) ∙ ap (λ (i : ℕ). get_or p i z) i ∙ get_or_default p (6 - n) z (pos 0) (omega arith))

-- ---- all taken
whole : (p : List ℤ) (x : ℤ) (n v : ℕ) → SFits w64 x → n ≡ 7
    → to_z w64 v ≡ from (λ k. get_or p k (pos 0)) (to_z w64 (of_z w64 x)) (7 - n) n → to_z w64 v ≡ evaluate p x
unfolding evaluate
whole p x n v f l e =
    let z : 7 - n ≡ 0 = omega arith in
    e ∙ rw (to_z-of_z f, z, l) (from_all (λ k. get_or p k (pos 0)) x 7)

pub loop-c-init : goal.loop-c-init
loop-c-init c = record { can = tt; finite = tt; few = omega arith; value = sym (from_none _ _ 7) }

pub overflow_mul-v : goal.overflow_mul-v
overflow_mul-v c =
    let n = length c.loop-c.yielded in
    let all = YieldsList-from_rev_slice {s = c.into_iter-c-iterator.result} c.args.p.now (cc) in
    let t = item c.args.p.now n c.in-Some.c.now c.told-p (YieldsList-turn all c.loop-c.yielded c.loop-c.c-iterator
    c.loop-c.yielded_by c.next.result c.next.new.self c.in-Some.c c.in-Some.is c.next.ensures.steps) in
    product_fits _ _ c.requires.0 c.requires.1 n t.0 c.loop-c.v-bits c.in-Some.c.now c.ranges.x t.1 c.loop-c.invariant.value

pub overflow_add-v : goal.overflow_add-v
overflow_add-v c =
    let n = length c.loop-c.yielded in
    let all = YieldsList-from_rev_slice {s = c.into_iter-c-iterator.result} c.args.p.now (cc) in
    let t = item c.args.p.now n c.in-Some.c.now c.told-p (YieldsList-turn all c.loop-c.yielded c.loop-c.c-iterator
    c.loop-c.yielded_by c.next.result c.next.new.self c.in-Some.c c.in-Some.is c.next.ensures.steps) in
    both_fits _ _ c.requires.0 c.requires.1 n t.0 c.loop-c.v-bits c.in-Some.c.now c.ranges.x t.1 c.loop-c.invariant.value

pub loop-c-preserved : goal.loop-c-preserved
loop-c-preserved c =
    let n = length c.loop-c.yielded in
    let all = YieldsList-from_rev_slice {s = c.into_iter-c-iterator.result} c.args.p.now (cc) in
    let t = item c.args.p.now n c.in-Some.c.now c.told-p (YieldsList-turn all c.loop-c.yielded c.loop-c.c-iterator
    c.loop-c.yielded_by c.next.result c.next.new.self c.in-Some.c c.in-Some.is c.next.ensures.steps) in
    let k = length_push c.loop-c.yielded c.in-Some.c in record {
      can = tt;
      finite = tt;
      few = omega (arith, k, t.0);
      value = taken _ _ c.requires.0 c.requires.1 n t.0 c.loop-c.v-bits c.in-Some.c.now c.ranges.x t.1 c.loop-c.invariant.value _ k;
    }

pub returns : goal.returns
returns c =
    let all = YieldsList-from_rev_slice {s = c.into_iter-c-iterator.result} c.args.p.now (cc) in
    let t = YieldsList-end all c.loop-c.yielded c.loop-c.c-iterator c.loop-c.yielded_by c.next.result c.next.new.self c.in-None.is
    c.next.ensures.steps in
    whole _ _ (length c.loop-c.yielded) c.loop-c.v-bits c.ranges.x (omega (arith, t.1, length-reverse c.args.p.now, c.told-p))
    c.loop-c.invariant.value
