-- The proof of the cycle of calls {adapted, adapted_split, adapted_parts, adapted_high}.
use Rattle.std.proofs.Common.{◌≡◌, suc, ◌-◌, ◌^◌, ◌≤◌, take, arith}
use Rattle.adapted.specs.Split.{chosen}
use Rattle.adapted.proofs.Adapting.{chosen-rising, chosen-below, parts_length, written_parts, written_none, written_one}
use Rattle.adapted.proofs.Adapting.{some_polynomial, front, fronts}
use Rattle.adapted.proofs.Merge.{chosen-length}
use Rattle.adapted.proofs.+adapting.Goals as goal

-- ---- adapted

pub adapted-returns-in-0-clause-out_after : goal.adapted-returns-in-0-clause-out_after
adapted-returns-in-0-clause-out_after t c =
    let a = c.args in
    written_none a.i a.b a.at a.l.now a.out.now c.in-0.is

pub adapted-returns-in-1-clause-out_after : goal.adapted-returns-in-1-clause-out_after
adapted-returns-in-1-clause-out_after t c =
    let a = c.args in
    written_one a.i a.b a.at a.l.now a.out.now c.requires.rising.1 c.in-1.is

-- at least two patterns: there is a polynomial to take off
pub adapted-overflow_sub-i : goal.adapted-overflow_sub-i
adapted-overflow_sub-i t c =
    some_polynomial c.args.i c.args.l.now c.requires.rising.0 c.requires.rising.1 (λ e. omega arith) (λ e. omega arith)

pub adapted-adapted_split-requires : goal.adapted-adapted_split-requires
adapted-adapted_split-requires t c =
    let h : 1 ≤ c.args.i = some_polynomial c.args.i c.args.l.now c.requires.rising.0 c.requires.rising.1 (λ e. omega arith)
    (λ e. omega arith)
    in
    let e : suc (c.args.i - 1) ≡ c.args.i = omega arith in (
      omega arith,
      ((omega arith, rw e c.requires.i_le_most_polynomials.1), ((c.requires.rising.0, rw e c.requires.rising.1), c.requires.l_len_bound)),
    )

pub adapted-returns-in_default-clause-out_after : goal.adapted-returns-in_default-clause-out_after
adapted-returns-in_default-clause-out_after t c =
    let h : 1 ≤ c.args.i = some_polynomial c.args.i c.args.l.now c.requires.rising.0 c.requires.rising.1 (λ e. omega arith)
    (λ e. omega arith)
    in
    let e : suc (c.args.i - 1) ≡ c.args.i = omega arith in
    rw e at c.adapted_split.ensures.out_after

-- ---- adapted_high

pub adapted_high-slice_bounds-l-end : goal.adapted_high-slice_bounds-l-end
adapted_high-slice_bounds-l-end t c =
    let a = c.args in
    omega (arith, c.having-n.ensures.value, c.having-n.auto.out, c.requires.low_len_bound, chosen-length a.k a.low.now a.mark.now)

-- the patterns that `having` left
pub adapted_high-slice_bounds-adapted-end : goal.adapted_high-slice_bounds-adapted-end
adapted_high-slice_bounds-adapted-end t c =
    let a = c.args in
    let e : take c.having-n.result c.having-n.new.out ≡ chosen a.k a.low.now a.mark.now =
    front a.k c.having-n.result a.low.now a.mark.now c.having-n.new.out c.requires.low_len_bound.0 c.having-n.ensures.value
    c.having-n.ensures.out_after in
    rw e c.having-n.ensures.value

pub adapted_high-adapted-requires : goal.adapted_high-adapted-requires
adapted_high-adapted-requires t c =
    let a = c.args in
    let e : take c.having-n.result c.having-n.new.out ≡ chosen a.k a.low.now a.mark.now =
    front a.k c.having-n.result a.low.now a.mark.now c.having-n.new.out c.requires.low_len_bound.0 c.having-n.ensures.value
    c.having-n.ensures.out_after in
    let h = chosen-length a.k a.low.now a.mark.now in (
      omega arith,
      (
        (omega arith, omega arith),
        (
          (
            rw e (chosen-rising a.k a.low.now a.mark.now c.requires.rising.0),
            rw e (chosen-below a.k (3 ^ a.i) a.low.now a.mark.now c.requires.rising.1),
          ),
          (rw e (omega arith), rw e c.requires.low_len_bound.1),
        ),
      ),
    )

pub adapted_high-returns-clause-value : goal.adapted_high-returns-clause-value
adapted_high-returns-clause-value t c =
    let a = c.args in
    let e : take c.having-n.result c.having-n.new.out ≡ chosen a.k a.low.now a.mark.now =
    front a.k c.having-n.result a.low.now a.mark.now c.having-n.new.out c.requires.low_len_bound.0 c.having-n.ensures.value
    c.having-n.ensures.out_after in
    rw e at c.adapted.ensures.value

pub adapted_high-returns-clause-out_after : goal.adapted_high-returns-clause-out_after
adapted_high-returns-clause-out_after t c =
    let a = c.args in
    let e : take c.having-n.result c.having-n.new.out ≡ chosen a.k a.low.now a.mark.now =
    front a.k c.having-n.result a.low.now a.mark.now c.having-n.new.out c.requires.low_len_bound.0 c.having-n.ensures.value
    c.having-n.ensures.out_after in
    rw e at c.adapted.ensures.out_after

-- ---- adapted_parts

pub adapted_parts-adapted-second-requires : goal.adapted_parts-adapted-second-requires
adapted_parts-adapted-second-requires t c =
    let n = parts_length c.args.i c.args.low.now c.args.mark.now c.requires.rising.0 c.requires.rising.1 in (
      omega arith,
      ((omega arith, omega arith), ((c.requires.rising.0, c.requires.rising.1), (c.requires.low_len_bound.0, omega arith))),
    )

pub adapted_parts-adapted_high-third-requires : goal.adapted_parts-adapted_high-third-requires
adapted_parts-adapted_high-third-requires t c =
    let n = parts_length c.args.i c.args.low.now c.args.mark.now c.requires.rising.0 c.requires.rising.1 in (
      omega arith,
      ((omega arith, omega arith), (c.requires.rising, (c.requires.low_len_bound.0, omega arith))),
    )

pub adapted_parts-adapted_high-requires : goal.adapted_parts-adapted_high-requires
adapted_parts-adapted_high-requires t c =
    let n = parts_length c.args.i c.args.low.now c.args.mark.now c.requires.rising.0 c.requires.rising.1 in (
      omega arith,
      ((omega arith, omega arith), (c.requires.rising, (c.requires.low_len_bound.0, omega arith))),
    )

pub adapted_parts-returns-clause-value : goal.adapted_parts-returns-clause-value
adapted_parts-returns-clause-value t c =
    let n = parts_length c.args.i c.args.low.now c.args.mark.now c.requires.rising.0 c.requires.rising.1 in
    omega arith

pub adapted_parts-returns-clause-out_after : goal.adapted_parts-returns-clause-out_after
adapted_parts-returns-clause-out_after t c =
    let a = c.args in
    let one = c.adapted-second in
    let two = c.adapted_high-third in
    let three = c.adapted_high in
    written_parts a.i a.b a.w a.at one.result two.result a.low.now a.mark.now a.out.now one.new.out two.new.out three.new.out
    c.requires.i_lt_most_polynomials.1 c.requires.rising.0 c.requires.rising.1 one.ensures.value two.ensures.value one.ensures.out_after
    two.ensures.out_after three.ensures.out_after

-- ---- adapted_split

pub adapted_split-adapted_parts-requires : goal.adapted_split-adapted_parts-requires
adapted_split-adapted_parts-requires t c =
    let s = c.split-n in
    let k = fronts c.args.i s.result c.power-w.result c.args.l.now s.new.low s.new.mark s.new.at c.power-w.ensures c.requires.rising.0
    c.requires.rising.1 (omega (arith, s.auto.low)) (omega (arith, s.auto.mark)) s.ensures in (
      omega arith,
      (
        (c.requires.i_lt_most_polynomials.0, c.power-w.ensures, c.requires.i_lt_most_polynomials.1),
        ((s.ensures.rising, k.below, omega arith, k.marks), (omega arith, rw k.size c.requires.l_len_bound.1)),
      ),
    )

pub adapted_split-returns-clause-value : goal.adapted_split-returns-clause-value
adapted_split-returns-clause-value t c =
    let s = c.split-n in
    let k = fronts c.args.i s.result c.power-w.result c.args.l.now s.new.low s.new.mark s.new.at c.power-w.ensures c.requires.rising.0
    c.requires.rising.1 (omega (arith, s.auto.low)) (omega (arith, s.auto.mark)) s.ensures in
    rw k.size at c.adapted_parts.ensures.value

pub adapted_split-returns-clause-out_after : goal.adapted_split-returns-clause-out_after
adapted_split-returns-clause-out_after t c =
    let s = c.split-n in
    let k = fronts c.args.i s.result c.power-w.result c.args.l.now s.new.low s.new.mark s.new.at c.power-w.ensures c.requires.rising.0
    c.requires.rising.1 (omega (arith, s.auto.low)) (omega (arith, s.auto.mark)) s.ensures in
    rw k.parts at c.adapted_parts.ensures.out_after
