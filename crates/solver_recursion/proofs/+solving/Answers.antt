-- The functions of the solver's recursion meet their contracts: the solver finds both solutions, or there are not two.
use mathlib.Core.Path.{◌≡◌, sym, ap, ◌∙◌}
use mathlib.Core.List.{◌++◌}
use Rattle.std.specs.Prelude.{Some}
use native.Mathlib.Omega.{arith}
use borrow.Author.Rules.{rules}
use lib.IntN.{pos}
use lib.ListN.{length, get_or, take}
use lib.Seq.{length-take-le}
use Rattle.integers.specs.Sums.{Within}
use Rattle.integers.proofs.Sums.{within_more}
use Rattle.integers.proofs.I16.{back}
use Rattle.signs.proofs.Powers.{power_less}
use Rattle.adapted.specs.Split.{chosen}
use Rattle.adapted.proofs.Adapting.{some_polynomial, chosen-rising, chosen-below}
use Rattle.adapted.proofs.Merge.{chosen-length}
use Rattle.solutions.specs.Solution.{Posed, Solution}
use Rattle.signs.specs.Adapted.{adapted}
use Rattle.solver_residuals.specs.Residuals.{residuals}
use Rattle.solver_recursion.specs.Steps.{asked₂, PutBoth}
use Rattle.solver_recursion.proofs.Steps.{rank-all}
use Rattle.solver_recursion.proofs.Turns.{no_patterns, one_pattern, within-sum, second-within, third-within, spread_within}
use Rattle.solver_recursion.proofs.Turns.{moment_none, residuals_none, both_too_large, room, within_between, parted}
use Rattle.solver_recursion.proofs.Turns.{below-places, front_list, below-three, long-between, long_rest, none_first, none_second}
use Rattle.solver_recursion.proofs.Turns.{with_third, combined, moments_within, spare, front_of, long_front, count_front}
use Prim.Native.Nat.{ℕ, suc, ◌+◌, ◌-◌, ◌^◌, ◌≤◌}
use Rattle.solver_recursion.proofs.+solving.Goals as goal

-- the slices that `moment` lends have room
pub find_moments-slice_bounds-moment-end : goal.find_moments-slice_bounds-moment-end
find_moments-slice_bounds-moment-end t c =
    let two : c.shared.result ≡ length (chosen 2 c.args.low.now c.args.mark.now) =
    c.shared.ensures ∙ rank-all 2 c.args.low.now c.args.mark.now c.requires.i_lt_most_polynomials.4 in
    omega (arith, two, c.requires.x_len)

pub moment-slice_bounds-l-end : goal.moment-slice_bounds-l-end
moment-slice_bounds-l-end t c =
    let few : length c.args.x.now ≤ 64 = omega (
      arith,
      c.requires.x_len.0,
      chosen-length c.args.k c.args.low.now c.args.mark.now,
      c.requires.i_lt_most_polynomials.3,
    ) in
    omega (arith, few, c.having.auto.out)

pub moment-slice_bounds-residuals-end : goal.moment-slice_bounds-residuals-end
moment-slice_bounds-residuals-end t c =
    let few : length c.args.x.now ≤ 64 = omega (
      arith,
      c.requires.x_len.0,
      chosen-length c.args.k c.args.low.now c.args.mark.now,
      c.requires.i_lt_most_polynomials.3,
    ) in
    sym (length-take-le _ _ (omega (arith, few, c.having.auto.out)))

pub moment-slice_bounds-r-end : goal.moment-slice_bounds-r-end
moment-slice_bounds-r-end t c =
    let few : length c.args.x.now ≤ 64 = omega (
      arith,
      c.requires.x_len.0,
      chosen-length c.args.k c.args.low.now c.args.mark.now,
      c.requires.i_lt_most_polynomials.3,
    ) in
    few

pub moment-slice_bounds-residuals-end-2 : goal.moment-slice_bounds-residuals-end-2
moment-slice_bounds-residuals-end-2 t c =
    let few : length c.args.x.now ≤ 64 = omega (
      arith,
      c.requires.x_len.0,
      chosen-length c.args.k c.args.low.now c.args.mark.now,
      c.requires.i_lt_most_polynomials.3,
    ) in
    sym (length-take-le _ _ few)

pub moment-slice_bounds-t-end : goal.moment-slice_bounds-t-end
moment-slice_bounds-t-end t c =
    let few : length c.args.x.now ≤ 64 = omega (
      arith,
      c.requires.x_len.0,
      chosen-length c.args.k c.args.low.now c.args.mark.now,
      c.requires.i_lt_most_polynomials.3,
    ) in
    few

pub moment-slice_bounds-residuals-end-3 : goal.moment-slice_bounds-residuals-end-3
moment-slice_bounds-residuals-end-3 t c =
    let few : length c.args.x.now ≤ 64 = omega (
      arith,
      c.requires.x_len.0,
      chosen-length c.args.k c.args.low.now c.args.mark.now,
      c.requires.i_lt_most_polynomials.3,
    ) in
    sym (length-take-le _ _ few)

pub moment-slice_bounds-l-end-2 : goal.moment-slice_bounds-l-end-2
moment-slice_bounds-l-end-2 t c =
    let few : length c.args.x.now ≤ 64 = omega (
      arith,
      c.requires.x_len.0,
      chosen-length c.args.k c.args.low.now c.args.mark.now,
      c.requires.i_lt_most_polynomials.3,
    ) in
    omega (arith, few, c.having.auto.out)

pub moment-slice_bounds-put_moment-end : goal.moment-slice_bounds-put_moment-end
moment-slice_bounds-put_moment-end t c =
    let few : length c.args.x.now ≤ 64 = omega (
      arith,
      c.requires.x_len.0,
      chosen-length c.args.k c.args.low.now c.args.mark.now,
      c.requires.i_lt_most_polynomials.3,
    ) in
    sym (length-take-le _ _ (omega (arith, few, c.having.auto.out)))

pub find_moments-overflow_add-m : goal.find_moments-overflow_add-m
find_moments-overflow_add-m t c =
    let two : let a = c.args in
    c.shared.result ≡ length (chosen 2 a.low.now a.mark.now) =
    c.shared.ensures ∙ rank-all 2 c.args.low.now c.args.mark.now c.requires.i_lt_most_polynomials.4 in
    let a = c.args in
    omega (arith, two, chosen-length 2 a.low.now a.mark.now, c.requires.i_lt_most_polynomials.3)

pub find_moments-returns-in_err-solve_pair : goal.find_moments-returns-in_err-solve_pair
find_moments-returns-in_err-solve_pair t c =
    let a = c.args in
    rw c.from_residual.ensures (none_first a.i a.low.now a.mark.now a.x.now a.y.now c.in_err-solve_pair.ensures)

pub find_moments-second-requires : goal.find_moments-second-requires
find_moments-second-requires t c =
    let firsts : let a = c.args in
    Solution a.i a.low.now (take (length a.low.now) a.x.now) c.solve_pair.new.u
    × Solution a.i a.low.now (take (length a.low.now) a.y.now) c.solve_pair.new.v =
    c.in_ok-solve_pair.ensures in
    let a = c.args in (
      c.solve_pair.auto.u ∙ c.requires.d_len.0 ∙ sym c.requires.i_lt_most_polynomials.4,
      c.requires.d_len.1 ∙ sym c.requires.i_lt_most_polynomials.4,
      within_more 64 256 _ (omega arith) (within-sum 64 _ firsts.0.small),
    )

pub find_moments-second-requires-2 : goal.find_moments-second-requires-2
find_moments-second-requires-2 t c =
    let firsts : let a = c.args in
    Solution a.i a.low.now (take (length a.low.now) a.x.now) c.solve_pair.new.u
    × Solution a.i a.low.now (take (length a.low.now) a.y.now) c.solve_pair.new.v =
    c.in_ok-solve_pair.ensures in
    let a = c.args in (
      c.solve_pair.auto.v ∙ c.requires.d_len.3 ∙ sym c.requires.i_lt_most_polynomials.4,
      c.requires.d_len.4 ∙ sym c.requires.i_lt_most_polynomials.4,
      within_more 64 256 _ (omega arith) (within-sum 64 _ firsts.1.small),
    )

pub find_moments-moment-requires : goal.find_moments-moment-requires
find_moments-moment-requires t c =
    let two : let a = c.args in
    c.shared.result ≡ length (chosen 2 a.low.now a.mark.now) =
    c.shared.ensures ∙ rank-all 2 c.args.low.now c.args.mark.now c.requires.i_lt_most_polynomials.4 in
    let firsts : let a = c.args in
    Solution a.i a.low.now (take (length a.low.now) a.x.now) c.solve_pair.new.u
    × Solution a.i a.low.now (take (length a.low.now) a.y.now) c.solve_pair.new.v =
    c.in_ok-solve_pair.ensures in
    let small_0 : Within 64 c.second.new.e =
    second-within 64 _ _ c.second.new.e c.second.ensures (c.second.auto.e ∙ c.requires.d_len.1 ∙ sym c.requires.i_lt_most_polynomials.4)
    (within-sum 64 _ firsts.0.small) in
    let small_0' : Within 64 c.second-2.new.e =
    second-within 64 _ _ c.second-2.new.e c.second-2.ensures (c.second-2.auto.e ∙ c.requires.d_len.4
    ∙ sym c.requires.i_lt_most_polynomials.4)
    (within-sum 64 _ firsts.1.small) in
    let a = c.args in
    let n = length a.low.now in
    let e = ap (λ (k : ℕ). n + k) two in
    let lx = long-between n (length (chosen 2 a.low.now a.mark.now)) _ a.x.now (omega (arith, c.requires.x_len.0)) e in
    let ly = long-between n (length (chosen 2 a.low.now a.mark.now)) _ a.y.now (omega (arith, c.requires.x_len.0, c.requires.x_len.1)) e
    in (
      omega (arith, c.decreases),
      (
        c.requires.i_lt_most_polynomials,
        (
          (
            lx,
            ly ∙ sym lx,
            c.second.auto.e ∙ c.requires.d_len.1,
            c.second-2.auto.e ∙ c.requires.d_len.4,
          ),
          (
            within_between 64 n (n + c.shared.result) a.x.now c.requires.x_len.2,
            within_between 64 n (n + c.shared.result) a.y.now c.requires.x_len.3,
            within_more 64 128 _ (omega arith) small_0,
            within_more 64 128 _ (omega arith) small_0',
          ),
        ),
      ),
    )

pub find_moments-returns-in_err-moment : goal.find_moments-returns-in_err-moment
find_moments-returns-in_err-moment t c =
    let two : let a = c.args in
    c.shared.result ≡ length (chosen 2 a.low.now a.mark.now) =
    c.shared.ensures ∙ rank-all 2 c.args.low.now c.args.mark.now c.requires.i_lt_most_polynomials.4 in
    let firsts : let a = c.args in
    Solution a.i a.low.now (take (length a.low.now) a.x.now) c.solve_pair.new.u
    × Solution a.i a.low.now (take (length a.low.now) a.y.now) c.solve_pair.new.v =
    c.in_ok-solve_pair.ensures in
    let a = c.args in
    let S = firsts in
    rw c.from_residual-in_err-moment.ensures (none_second a.i a.low.now a.mark.now a.x.now a.y.now c.solve_pair.new.u c.solve_pair.new.v
    c.second.new.e c.second-2.new.e S.0 S.1 (c.second.auto.e ∙ c.requires.d_len.1) (c.second-2.auto.e ∙ c.requires.d_len.4) c.second.ensures
    c.second-2.ensures
    (rw two at c.in_err-moment.ensures))

pub find_moments-third-requires : goal.find_moments-third-requires
find_moments-third-requires t c =
    let long : length c.moment.new.v ≡ length c.args.low.now =
    c.moment.auto.v ∙ c.second.auto.e ∙ c.requires.d_len.1 in
    let firsts : let a = c.args in
    Solution a.i a.low.now (take (length a.low.now) a.x.now) c.solve_pair.new.u
    × Solution a.i a.low.now (take (length a.low.now) a.y.now) c.solve_pair.new.v =
    c.in_ok-solve_pair.ensures in
    let small_0 : Within 64 c.second.new.e =
    second-within 64 _ _ c.second.new.e c.second.ensures (c.second.auto.e ∙ c.requires.d_len.1 ∙ sym c.requires.i_lt_most_polynomials.4)
    (within-sum 64 _ firsts.0.small) in
    let two : let a = c.args in
    c.shared.result ≡ length (chosen 2 a.low.now a.mark.now) =
    c.shared.ensures ∙ rank-all 2 c.args.low.now c.args.mark.now c.requires.i_lt_most_polynomials.4 in
    let seconds : let a = c.args in
    let L = chosen 2 a.low.now a.mark.now in
    PutBoth a.i L a.mark.now 2
    (residuals a.i a.low.now c.second.new.e (adapted a.i L) (asked₂ a.low.now a.mark.now a.x.now))
    (residuals a.i a.low.now c.second-2.new.e
    (adapted a.i L) (asked₂ a.low.now a.mark.now a.y.now))
    c.second.new.e c.second-2.new.e c.moment.new.v
    c.moment.new.w (Some tt) =
    rw two at c.in_ok-moment.ensures in
    let small : Within 128 c.moment.new.v =
    let M = seconds.0 in
    spread_within 64 2 _ M.0 _ _ M.2 (long ∙ sym c.requires.i_lt_most_polynomials.4) small_0
    (within-sum 64 M.0 M.1.small) in
    let a = c.args in (
      c.solve_pair.auto.u ∙ c.requires.d_len.0 ∙ sym c.requires.i_lt_most_polynomials.4,
      long ∙ sym c.requires.i_lt_most_polynomials.4,
      c.requires.d_len.2 ∙ sym c.requires.i_lt_most_polynomials.4,
      within_more 128 256 _ (omega arith) small,
    )

pub find_moments-third-requires-2 : goal.find_moments-third-requires-2
find_moments-third-requires-2 t c =
    let long' : length c.moment.new.w ≡ length c.args.low.now =
    c.moment.auto.w ∙ c.second-2.auto.e ∙ c.requires.d_len.4 in
    let firsts : let a = c.args in
    Solution a.i a.low.now (take (length a.low.now) a.x.now) c.solve_pair.new.u
    × Solution a.i a.low.now (take (length a.low.now) a.y.now) c.solve_pair.new.v =
    c.in_ok-solve_pair.ensures in
    let small_0' : Within 64 c.second-2.new.e =
    second-within 64 _ _ c.second-2.new.e c.second-2.ensures (c.second-2.auto.e ∙ c.requires.d_len.4
    ∙ sym c.requires.i_lt_most_polynomials.4)
    (within-sum 64 _ firsts.1.small) in
    let two : let a = c.args in
    c.shared.result ≡ length (chosen 2 a.low.now a.mark.now) =
    c.shared.ensures ∙ rank-all 2 c.args.low.now c.args.mark.now c.requires.i_lt_most_polynomials.4 in
    let seconds : let a = c.args in
    let L = chosen 2 a.low.now a.mark.now in
    PutBoth a.i L a.mark.now 2
    (residuals a.i a.low.now c.second.new.e (adapted a.i L) (asked₂ a.low.now a.mark.now a.x.now))
    (residuals a.i a.low.now c.second-2.new.e
    (adapted a.i L) (asked₂ a.low.now a.mark.now a.y.now))
    c.second.new.e c.second-2.new.e c.moment.new.v
    c.moment.new.w (Some tt) =
    rw two at c.in_ok-moment.ensures in
    let small' : Within 128 c.moment.new.w =
    let M = seconds.1 in
    spread_within 64 2 _ M.0 _ _ M.2 (long' ∙ sym c.requires.i_lt_most_polynomials.4) small_0'
    (within-sum 64 M.0 M.1.small) in
    let a = c.args in (
      c.solve_pair.auto.v ∙ c.requires.d_len.3 ∙ sym c.requires.i_lt_most_polynomials.4,
      long' ∙ sym c.requires.i_lt_most_polynomials.4,
      c.requires.d_len.5 ∙ sym c.requires.i_lt_most_polynomials.4,
      within_more 128 256 _ (omega arith) small',
    )

pub find_moments-moment-requires-2 : goal.find_moments-moment-requires-2
find_moments-moment-requires-2 t c =
    let two : let a = c.args in
    c.shared.result ≡ length (chosen 2 a.low.now a.mark.now) =
    c.shared.ensures ∙ rank-all 2 c.args.low.now c.args.mark.now c.requires.i_lt_most_polynomials.4 in
    let firsts : let a = c.args in
    Solution a.i a.low.now (take (length a.low.now) a.x.now) c.solve_pair.new.u
    × Solution a.i a.low.now (take (length a.low.now) a.y.now) c.solve_pair.new.v =
    c.in_ok-solve_pair.ensures in
    let small_0 : Within 64 c.second.new.e =
    second-within 64 _ _ c.second.new.e c.second.ensures (c.second.auto.e ∙ c.requires.d_len.1 ∙ sym c.requires.i_lt_most_polynomials.4)
    (within-sum 64 _ firsts.0.small) in
    let seconds : let a = c.args in
    let L = chosen 2 a.low.now a.mark.now in
    PutBoth a.i L a.mark.now 2
    (residuals a.i a.low.now c.second.new.e (adapted a.i L) (asked₂ a.low.now a.mark.now a.x.now))
    (residuals a.i a.low.now c.second-2.new.e
    (adapted a.i L) (asked₂ a.low.now a.mark.now a.y.now))
    c.second.new.e c.second-2.new.e c.moment.new.v
    c.moment.new.w (Some tt) =
    rw two at c.in_ok-moment.ensures in
    let long : length c.moment.new.v ≡ length c.args.low.now =
    c.moment.auto.v ∙ c.second.auto.e ∙ c.requires.d_len.1 in
    let small : Within 128 c.moment.new.v =
    let M = seconds.0 in
    spread_within 64 2 _ M.0 _ _ M.2 (long ∙ sym c.requires.i_lt_most_polynomials.4) small_0
    (within-sum 64 M.0 M.1.small) in
    let small_0' : Within 64 c.second-2.new.e =
    second-within 64 _ _ c.second-2.new.e c.second-2.ensures (c.second-2.auto.e ∙ c.requires.d_len.4
    ∙ sym c.requires.i_lt_most_polynomials.4)
    (within-sum 64 _ firsts.1.small) in
    let long' : length c.moment.new.w ≡ length c.args.low.now =
    c.moment.auto.w ∙ c.second-2.auto.e ∙ c.requires.d_len.4 in
    let small' : Within 128 c.moment.new.w =
    let M = seconds.1 in
    spread_within 64 2 _ M.0 _ _ M.2 (long' ∙ sym c.requires.i_lt_most_polynomials.4) small_0'
    (within-sum 64 M.0 M.1.small) in
    let a = c.args in
    let S = firsts in
    let n = length a.low.now + c.shared.result in
    let lx = long_rest n (length (chosen 3 a.low.now a.mark.now)) a.x.now (omega (
      arith,
      two,
      c.requires.x_len.0,
    )) in
    let ly = long_rest n (length (chosen 3 a.low.now a.mark.now)) a.y.now (omega (
      arith,
      two,
      c.requires.x_len.0,
      c.requires.x_len.1,
    )) in
    let l = c.third.auto.g ∙ c.requires.d_len.2 in
    let l' = c.third-2.auto.g ∙ c.requires.d_len.5 in (
      omega (arith, c.decreases),
      (
        c.requires.i_lt_most_polynomials,
        (
          (lx, ly ∙ sym lx, l, l'),
          (
            within_between 64 n (length a.x.now) a.x.now c.requires.x_len.2,
            within_between 64 n (length a.y.now) a.y.now c.requires.x_len.3,
            third-within 128 _ _ _ c.third.new.g c.third.ensures (l ∙ sym c.requires.i_lt_most_polynomials.4)
                (within_more 64 128 _ (omega arith) (within-sum 64 _ S.0.small)) small,
            third-within 128 _ _ _ c.third-2.new.g c.third-2.ensures (l' ∙ sym c.requires.i_lt_most_polynomials.4)
                (within_more 64 128 _ (omega arith) (within-sum 64 _ S.1.small)) small',
          ),
        ),
      ),
    )

pub find_moments-returns : goal.find_moments-returns
find_moments-returns t c =
    let two : let a = c.args in
    c.shared.result ≡ length (chosen 2 a.low.now a.mark.now) =
    c.shared.ensures ∙ rank-all 2 c.args.low.now c.args.mark.now c.requires.i_lt_most_polynomials.4 in
    let firsts : let a = c.args in
    Solution a.i a.low.now (take (length a.low.now) a.x.now) c.solve_pair.new.u
    × Solution a.i a.low.now (take (length a.low.now) a.y.now) c.solve_pair.new.v =
    c.in_ok-solve_pair.ensures in
    let seconds : let a = c.args in
    let L = chosen 2 a.low.now a.mark.now in
    PutBoth a.i L a.mark.now 2
    (residuals a.i a.low.now c.second.new.e (adapted a.i L) (asked₂ a.low.now a.mark.now a.x.now))
    (residuals a.i a.low.now c.second-2.new.e
    (adapted a.i L) (asked₂ a.low.now a.mark.now a.y.now))
    c.second.new.e c.second-2.new.e c.moment.new.v
    c.moment.new.w (Some tt) =
    rw two at c.in_ok-moment.ensures in
    let long : length c.moment.new.v ≡ length c.args.low.now =
    c.moment.auto.v ∙ c.second.auto.e ∙ c.requires.d_len.1 in
    let long' : length c.moment.new.w ≡ length c.args.low.now =
    c.moment.auto.w ∙ c.second-2.auto.e ∙ c.requires.d_len.4 in
    let a = c.args in
    let S = firsts in
    let M = seconds in
    let l = c.third.auto.g ∙ c.requires.d_len.2 in
    let l' = c.third-2.auto.g ∙ c.requires.d_len.5 in
    with_third a.i a.low.now a.mark.now a.x.now a.y.now c.solve_pair.new.u c.solve_pair.new.v
    c.second.new.e c.second-2.new.e S.0 S.1 (c.second.auto.e ∙ c.requires.d_len.1) (c.second-2.auto.e ∙ c.requires.d_len.4) c.second.ensures
    c.second-2.ensures
    M.0.0 M.1.0 c.moment.new.v c.moment.new.w c.third.new.g c.third-2.new.g M.0.1 M.1.1
    long long' M.0.2 M.1.2 l l' c.third.ensures
    c.third-2.ensures
    c.moment-2.new.v c.moment-2.new.w c.moment-2.result (c.moment-2.auto.v ∙ l) (c.moment-2.auto.w ∙ l') (rw two at c.moment-2.ensures)

pub moment-returns-then-n-eq0 : goal.moment-returns-then-n-eq0
moment-returns-then-n-eq0 t c =
    let a = c.args in
    let L = chosen a.k a.low.now a.mark.now in
    let z : length L ≡ 0 = omega (arith, c.if-n-eq0.true, c.requires.x_len.0) in
    moment_none a.i L a.mark.now a.k _ _ a.v.now a.w.now z
    (residuals_none a.i L a.low.now a.v.now a.x.now z) (residuals_none a.i L a.low.now a.w.now a.y.now z)

pub moment-residuals-requires-clause-i_le_most_polynomials : goal.moment-residuals-requires-clause-i_le_most_polynomials
moment-residuals-requires-clause-i_le_most_polynomials t c =
    let few : length c.args.x.now ≤ 64 =
    omega (arith, c.requires.x_len.0, chosen-length c.args.k c.args.low.now c.args.mark.now, c.requires.i_lt_most_polynomials.3) in
    let listed : let a = c.args in
    take (length a.x.now) c.having.new.out ≡ chosen a.k a.low.now a.mark.now =
    front_list (chosen c.args.k c.args.low.now c.args.mark.now) _ _ (length c.args.x.now) c.requires.x_len.0
    few c.having.ensures.out_after in
    let a = c.args in
    let n = c.requires.x_len in
    rw listed (
      omega (arith, c.requires.i_lt_most_polynomials.0),
      chosen-rising a.k a.low.now a.mark.now c.requires.i_lt_most_polynomials.1,
      chosen-below a.k (3 ^ a.i) a.low.now a.mark.now c.requires.i_lt_most_polynomials.2,
      omega (arith, few, n.0),
    )

pub moment-residuals-requires-clause-x_len : goal.moment-residuals-requires-clause-x_len
moment-residuals-requires-clause-x_len t c =
    let few : length c.args.x.now ≤ 64 =
    omega (arith, c.requires.x_len.0, chosen-length c.args.k c.args.low.now c.args.mark.now, c.requires.i_lt_most_polynomials.3) in
    let listed : let a = c.args in
    take (length a.x.now) c.having.new.out ≡ chosen a.k a.low.now a.mark.now =
    front_list (chosen c.args.k c.args.low.now c.args.mark.now) _ _ (length c.args.x.now) c.requires.x_len.0
    few c.having.ensures.out_after in
    let a = c.args in
    let n = c.requires.x_len in
    rw listed (n.0, n.1 ∙ n.0, length-take-le _ _ few ∙ n.0, length-take-le _ _ few ∙ n.0)

pub moment-returns-in_err-residuals : goal.moment-returns-in_err-residuals
moment-returns-in_err-residuals t c =
    let few : length c.args.x.now ≤ 64 =
    omega (arith, c.requires.x_len.0, chosen-length c.args.k c.args.low.now c.args.mark.now, c.requires.i_lt_most_polynomials.3) in
    let listed : let a = c.args in
    take (length a.x.now) c.having.new.out ≡ chosen a.k a.low.now a.mark.now =
    front_list (chosen c.args.k c.args.low.now c.args.mark.now) _ _ (length c.args.x.now) c.requires.x_len.0
    few c.having.ensures.out_after in
    let a = c.args in
    rw c.from_residual.ensures (both_too_large a.i (chosen a.k a.low.now a.mark.now) _ _
    (rw listed at c.in_err-residuals.ensures))

pub moment-slice_bounds-r-end-2 : goal.moment-slice_bounds-r-end-2
moment-slice_bounds-r-end-2 t c =
    let few : length c.args.x.now ≤ 64 =
    omega (arith, c.requires.x_len.0, chosen-length c.args.k c.args.low.now c.args.mark.now, c.requires.i_lt_most_polynomials.3) in
    let rests : let n = length c.args.x.now in
    (length c.residuals.new.r ≡ n) × (length c.residuals.new.t ≡ n) =
    let f = length-take-le _ _ few in
    (c.residuals.auto.r ∙ f, c.residuals.auto.t ∙ f) in
    let a = c.args in
    long_front _ c.residuals.new.r (spare (length a.x.now)) rests.0

pub moment-slice_bounds-put_moment-end-2 : goal.moment-slice_bounds-put_moment-end-2
moment-slice_bounds-put_moment-end-2 t c =
    let few : length c.args.x.now ≤ 64 =
    omega (arith, c.requires.x_len.0, chosen-length c.args.k c.args.low.now c.args.mark.now, c.requires.i_lt_most_polynomials.3) in
    let rests : let n = length c.args.x.now in
    (length c.residuals.new.r ≡ n) × (length c.residuals.new.t ≡ n) =
    let f = length-take-le _ _ few in
    (c.residuals.auto.r ∙ f, c.residuals.auto.t ∙ f) in
    let a = c.args in
    count_front _ c.residuals.new.r (spare (length a.x.now))
    rests.0

pub moment-slice_bounds-t-end-2 : goal.moment-slice_bounds-t-end-2
moment-slice_bounds-t-end-2 t c =
    let few : length c.args.x.now ≤ 64 =
    omega (arith, c.requires.x_len.0, chosen-length c.args.k c.args.low.now c.args.mark.now, c.requires.i_lt_most_polynomials.3) in
    let rests : let n = length c.args.x.now in
    (length c.residuals.new.r ≡ n) × (length c.residuals.new.t ≡ n) =
    let f = length-take-le _ _ few in
    (c.residuals.auto.r ∙ f, c.residuals.auto.t ∙ f) in
    let a = c.args in
    long_front _ c.residuals.new.t (spare (length a.x.now))
    rests.1

pub moment-slice_bounds-put_moment-end-3 : goal.moment-slice_bounds-put_moment-end-3
moment-slice_bounds-put_moment-end-3 t c =
    let few : length c.args.x.now ≤ 64 =
    omega (arith, c.requires.x_len.0, chosen-length c.args.k c.args.low.now c.args.mark.now, c.requires.i_lt_most_polynomials.3) in
    let rests : let n = length c.args.x.now in
    (length c.residuals.new.r ≡ n) × (length c.residuals.new.t ≡ n) =
    let f = length-take-le _ _ few in
    (c.residuals.auto.r ∙ f, c.residuals.auto.t ∙ f) in
    let a = c.args in
    count_front _ c.residuals.new.t (spare (length a.x.now)) rests.1

pub moment-put_moment-requires : goal.moment-put_moment-requires
moment-put_moment-requires t c =
    let few : length c.args.x.now ≤ 64 =
    omega (arith, c.requires.x_len.0, chosen-length c.args.k c.args.low.now c.args.mark.now, c.requires.i_lt_most_polynomials.3) in
    let listed : let a = c.args in
    take (length a.x.now) c.having.new.out ≡ chosen a.k a.low.now a.mark.now =
    front_list (chosen c.args.k c.args.low.now c.args.mark.now) _ _ (length c.args.x.now) c.requires.x_len.0
    few c.having.ensures.out_after in
    let rests : let n = length c.args.x.now in
    (length c.residuals.new.r ≡ n) × (length c.residuals.new.t ≡ n) =
    let f = length-take-le _ _ few in
    (c.residuals.auto.r ∙ f, c.residuals.auto.t ∙ f) in
    let a = c.args in
    let e = listed in
    let N = rests in
    let f₁ = front_of (length a.x.now) c.residuals.new.r (spare (length a.x.now)) N.0 in
    let f₂ = front_of (length a.x.now) c.residuals.new.t (spare (length a.x.now)) N.1 in
    let E = rw e at c.in_ok-residuals.ensures in
    let n = c.requires.x_len in (
      omega (arith, c.decreases),
      rw (e, f₁, f₂) (
        (
          c.requires.i_lt_most_polynomials.0,
          chosen-rising a.k a.low.now a.mark.now c.requires.i_lt_most_polynomials.1,
          chosen-below a.k (3 ^ a.i) a.low.now a.mark.now c.requires.i_lt_most_polynomials.2,
          omega (arith, few, n.0),
          c.requires.i_lt_most_polynomials.5,
          omega (arith, c.requires.i_lt_most_polynomials.4, c.requires.i_lt_most_polynomials.3),
        ),
        (
          (
            sym (rank-all a.k a.low.now a.mark.now c.requires.i_lt_most_polynomials.4),
            N.0 ∙ n.0,
            N.1 ∙ n.0,
            n.2 ∙ sym c.requires.i_lt_most_polynomials.4,
            n.3 ∙ sym c.requires.i_lt_most_polynomials.4,
          ),
          (E.2, E.3, c.requires.within.2, c.requires.within.3),
        ),
      ),
    )

pub moment-returns : goal.moment-returns
moment-returns t c =
    let few : length c.args.x.now ≤ 64 =
    omega (arith, c.requires.x_len.0, chosen-length c.args.k c.args.low.now c.args.mark.now, c.requires.i_lt_most_polynomials.3) in
    let listed : let a = c.args in
    take (length a.x.now) c.having.new.out ≡ chosen a.k a.low.now a.mark.now =
    front_list (chosen c.args.k c.args.low.now c.args.mark.now) _ _ (length c.args.x.now) c.requires.x_len.0
    few c.having.ensures.out_after in
    let rests : let n = length c.args.x.now in
    (length c.residuals.new.r ≡ n) × (length c.residuals.new.t ≡ n) =
    let f = length-take-le _ _ few in
    (c.residuals.auto.r ∙ f, c.residuals.auto.t ∙ f) in
    let a = c.args in
    let e = listed in
    let N = rests in
    let f₁ = front_of (length a.x.now) c.residuals.new.r (spare (length a.x.now)) N.0 in
    let f₂ = front_of (length a.x.now) c.residuals.new.t (spare (length a.x.now)) N.1 in
    let E = rw e at c.in_ok-residuals.ensures in
    rw (e, f₁ ∙ E.0, f₂ ∙ E.1) at c.put_moment.ensures

pub put_moment-put-requires-clause-within : goal.put_moment-put-requires-clause-within
put_moment-put-requires-clause-within t c =
    let a = c.args in
    let n = c.solve_pair.auto.u ∙ length-take-le _ _ c.requires.i_lt_most_polynomials.3 in
    let S = c.in_ok-solve_pair.ensures in
    rw (front_of (length a.l.now) c.solve_pair.new.u (spare (length a.l.now)) n) (c.requires.within.2, within-sum 64 _ S.0.small)

pub put_moment-put-requires-2-clause-within : goal.put_moment-put-requires-2-clause-within
put_moment-put-requires-2-clause-within t c =
    let a = c.args in
    let n = c.solve_pair.auto.v ∙ length-take-le _ _ c.requires.i_lt_most_polynomials.3 in
    let S = c.in_ok-solve_pair.ensures in
    rw (front_of (length a.l.now) c.solve_pair.new.v (spare (length a.l.now)) n) (c.requires.within.3, within-sum 64 _ S.1.small)

pub solve_low-find_moments-requires : goal.solve_low-find_moments-requires
solve_low-find_moments-requires t c =
    let a = c.args in
    let Q = c.requires.parted.0 in
    let few = c.requires.parted.1 in
    let P : Posed (suc a.i) a.l.now a.x.now = record {
      rising = c.requires.i_lt_most_polynomials.2;
      below
          = c.requires.i_lt_most_polynomials.3;
      full = c.requires.x_len.0;
    } in
    let P' : Posed (suc a.i) a.l.now a.y.now = record {
      rising = c.requires.i_lt_most_polynomials.2;
      below
          = c.requires.i_lt_most_polynomials.3;
      full = c.requires.x_len.1;
    } in
    let R = room a.i a.l.now a.low.now a.mark.now a.at.now a.x.now P Q in
    let k = length-take-le _ _ few in (
      omega (arith, c.decreases),
      (
        (c.requires.i_lt_most_polynomials.0, R.rising, R.below, few, Q.marked, Q.few),
        ((R.sizes, c.requires.x_len.1 ∙ sym c.requires.x_len.0, c.requires.within.0, c.requires.within.1), (k, k, k, k, k, k)),
      ),
    )

pub solve_low-returns-in_err-find_moments : goal.solve_low-returns-in_err-find_moments
solve_low-returns-in_err-find_moments t c =
    let a = c.args in
    let q = c.requires.i_lt_most_polynomials in
    let P : Posed (suc a.i) a.l.now a.x.now = record { rising = q.2; below = q.3; full = c.requires.x_len.0 } in
    let P' : Posed (suc a.i) a.l.now a.y.now = record { rising = q.2; below = q.3; full = c.requires.x_len.1 } in
    rw c.from_residual.ensures (c.in_err-find_moments.ensures a.l.now a.at.now P P' q.4 c.requires.parted.0)

pub solve_low-returns : goal.solve_low-returns
solve_low-returns t c =
    let longs : let l = c.args.low.now in
    (length c.find_moments.new.d ≡ length l)
    × (length c.find_moments.new.e ≡ length l)
    × (length c.find_moments.new.g ≡ length l)
    × (length c.find_moments.new.d2 ≡ length l)
    × (length c.find_moments.new.e2 ≡ length l)
    × (length c.find_moments.new.g2 ≡ length l) =
    let few = length-take-le _ _ c.requires.parted.1 in (
      c.find_moments.auto.d ∙ few,
      c.find_moments.auto.e ∙ few,
      c.find_moments.auto.g ∙ few,
      c.find_moments.auto.d2 ∙ few,
      c.find_moments.auto.e2 ∙ few,
      c.find_moments.auto.g2 ∙ few,
    ) in
    let fronts : let n = length c.args.low.now in
    (take n (c.find_moments.new.d ++ spare n) ≡ c.find_moments.new.d)
    × (take n (c.find_moments.new.e ++ spare n) ≡ c.find_moments.new.e)
    × (take n (c.find_moments.new.g ++ spare n) ≡ c.find_moments.new.g)
    × (take n (c.find_moments.new.d2 ++ spare n) ≡ c.find_moments.new.d2)
    × (take n (c.find_moments.new.e2 ++ spare n) ≡ c.find_moments.new.e2)
    × (take n (c.find_moments.new.g2 ++ spare n) ≡ c.find_moments.new.g2) =
    let n = length c.args.low.now in
    let N = longs in (
      front_of n _ (spare n) N.0,
      front_of n _ (spare n) N.1,
      front_of n _ (spare n) N.2,
      front_of n _ (spare n) N.3,
      front_of
          n _ (spare n) N.4,
      front_of n _ (spare n) N.5,
    ) in
    let a = c.args in
    let Q = c.requires.parted.0 in
    let few = c.requires.parted.1 in
    let P : Posed (suc a.i) a.l.now a.x.now = record {
      rising = c.requires.i_lt_most_polynomials.2;
      below
          = c.requires.i_lt_most_polynomials.3;
      full = c.requires.x_len.0;
    } in
    let P' : Posed (suc a.i) a.l.now a.y.now = record {
      rising = c.requires.i_lt_most_polynomials.2;
      below
          = c.requires.i_lt_most_polynomials.3;
      full = c.requires.x_len.1;
    } in
    let M = c.in_ok-find_moments.ensures in
    let N = longs in
    let F = fronts in
    combined a.i a.l.now a.low.now a.mark.now a.at.now a.x.now a.y.now _ _ _ _ _ _ _ _
    c.combine_pair.result P P' Q M.0 M.1
    (rw (F.0, F.1, F.2, F.3, F.4, F.5, c.requires.i_lt_most_polynomials.1) at c.combine_pair.ensures)

pub solve_pair-returns-then-l-eq0 : goal.solve_pair-returns-then-l-eq0
solve_pair-returns-then-l-eq0 t c =
    let a = c.args in (
      no_patterns a.i a.l.now a.x.now a.u.now c.if-l-eq0.true c.requires.x_len.0 c.requires.x_len.2,
      no_patterns a.i a.l.now a.y.now a.v.now c.if-l-eq0.true c.requires.x_len.1 c.requires.x_len.3,
    )

pub solve_pair-returns-then-l-eq1 : goal.solve_pair-returns-then-l-eq1
solve_pair-returns-then-l-eq1 t c =
    let a = c.args in
    let h = c.if-l-eq1.true in (
      one_pattern a.i a.l.now a.x.now a.u.now _ h c.requires.i_le_most_polynomials.2 c.requires.x_len.0 c.requires.x_len.2
          c.requires.within.0
          (back (get_or a.x.now 0 (pos 0)) (search rules)),
      one_pattern a.i a.l.now a.y.now a.v.now _ h c.requires.i_le_most_polynomials.2 c.requires.x_len.1 c.requires.x_len.3
          c.requires.within.1
          (back (get_or a.y.now 0 (pos 0)) (search rules)),
    )

pub solve_pair-overflow_sub-i : goal.solve_pair-overflow_sub-i
solve_pair-overflow_sub-i t c =
    let a = c.args in
    let h = some_polynomial a.i a.l.now c.requires.i_le_most_polynomials.1 c.requires.i_le_most_polynomials.2 c.if-l-eq0.false
    c.if-l-eq1.false in h

pub solve_pair-solve_split-requires : goal.solve_pair-solve_split-requires
solve_pair-solve_split-requires t c =
    let a = c.args in
    let h = some_polynomial a.i a.l.now c.requires.i_le_most_polynomials.1 c.requires.i_le_most_polynomials.2 c.if-l-eq0.false
    c.if-l-eq1.false in
    let e : a.i ≡ suc (a.i - 1) = omega (arith, h) in (
      omega (arith, c.decreases, h),
      (
        (
          omega (arith, c.requires.i_le_most_polynomials.0),
          c.requires.i_le_most_polynomials.1,
          rw e at c.requires.i_le_most_polynomials.2,
          c.requires.i_le_most_polynomials.3,
        ),
        (c.requires.x_len, c.requires.within),
      ),
    )

pub solve_pair-returns : goal.solve_pair-returns
solve_pair-returns t c =
    let a = c.args in
    let h = some_polynomial a.i a.l.now c.requires.i_le_most_polynomials.1 c.requires.i_le_most_polynomials.2 c.if-l-eq0.false
    c.if-l-eq1.false in
    let e : a.i ≡ suc (a.i - 1) = omega (arith, h) in
    rw e c.solve_split.ensures

pub solve_split-split-n-requires-clause-w_bound : goal.solve_split-split-n-requires-clause-w_bound
solve_split-split-n-requires-clause-w_bound t c =
    let a = c.args in
    let h = c.requires.i_lt_most_polynomials.3 in
    rw c.power-w.ensures (
      power_less a.i c.requires.i_lt_most_polynomials.0,
      c.requires.i_lt_most_polynomials.1,
      below-three a.i a.l.now c.requires.i_lt_most_polynomials.2,
      h,
    )

pub solve_split-solve_low-requires : goal.solve_split-solve_low-requires
solve_split-solve_low-requires t c =
    let a = c.args in
    let h = c.requires.i_lt_most_polynomials.3 in (
      omega (arith, c.decreases),
      (
        (c.requires.i_lt_most_polynomials.0, c.power-w.ensures, c.requires.i_lt_most_polynomials.1, c.requires.i_lt_most_polynomials.2, h),
        (
          c.requires.x_len,
          (
            c.requires.within,
            (
              parted a.i c.split-n.result a.l.now c.split-n.new.low c.split-n.new.mark c.split-n.new.at
                  (omega (arith, c.split-n.auto.low)) (omega (arith, c.split-n.auto.mark)) (omega (arith, c.split-n.auto.at))
                  (rw c.power-w.ensures at c.split-n.ensures),
              omega (
                arith,
                length-take-le c.split-n.result c.split-n.new.low (omega (arith, c.split-n.ensures.few, c.split-n.auto.low, h)),
                c.split-n.ensures.few,
              ),
              length-take-le _ _ (omega (arith, c.split-n.auto.at)),
            ),
          ),
        ),
      ),
    )

pub solve_low-combine_pair-requires : goal.solve_low-combine_pair-requires
solve_low-combine_pair-requires t c =
    let longs : let l = c.args.low.now in
    (length c.find_moments.new.d ≡ length l)
    × (length c.find_moments.new.e ≡ length l)
    × (length c.find_moments.new.g ≡ length l)
    × (length c.find_moments.new.d2 ≡ length l)
    × (length c.find_moments.new.e2 ≡ length l)
    × (length c.find_moments.new.g2 ≡ length l) =
    let few = length-take-le _ _ c.requires.parted.1 in (
      c.find_moments.auto.d ∙ few,
      c.find_moments.auto.e ∙ few,
      c.find_moments.auto.g ∙ few,
      c.find_moments.auto.d2 ∙ few,
      c.find_moments.auto.e2 ∙ few,
      c.find_moments.auto.g2 ∙ few,
    ) in
    let fronts : let n = length c.args.low.now in
    (take n (c.find_moments.new.d ++ spare n) ≡ c.find_moments.new.d)
    × (take n (c.find_moments.new.e ++ spare n) ≡ c.find_moments.new.e)
    × (take n (c.find_moments.new.g ++ spare n) ≡ c.find_moments.new.g)
    × (take n (c.find_moments.new.d2 ++ spare n) ≡ c.find_moments.new.d2)
    × (take n (c.find_moments.new.e2 ++ spare n) ≡ c.find_moments.new.e2)
    × (take n (c.find_moments.new.g2 ++ spare n) ≡ c.find_moments.new.g2) =
    let n = length c.args.low.now in
    let N = longs in (
      front_of n _ (spare n) N.0,
      front_of n _ (spare n) N.1,
      front_of n _ (spare n) N.2,
      front_of n _ (spare n) N.3,
      front_of
          n _ (spare n) N.4,
      front_of n _ (spare n) N.5,
    ) in
    let a = c.args in
    let Q = c.requires.parted.0 in
    let few = c.requires.parted.1 in
    let P : Posed (suc a.i) a.l.now a.x.now = record {
      rising = c.requires.i_lt_most_polynomials.2;
      below
          = c.requires.i_lt_most_polynomials.3;
      full = c.requires.x_len.0;
    } in
    let P' : Posed (suc a.i) a.l.now a.y.now = record {
      rising = c.requires.i_lt_most_polynomials.2;
      below
          = c.requires.i_lt_most_polynomials.3;
      full = c.requires.x_len.1;
    } in
    let M = c.in_ok-find_moments.ensures in
    let N = longs in
    let F = fronts in
    let w₁ = moments_within a.i a.low.now a.mark.now a.x.now _ _ _ Q.marked M.0 in
    let w₂ = moments_within a.i a.low.now a.mark.now a.y.now _ _ _ Q.marked M.1 in
    record {
      below = rw (F.0, c.requires.i_lt_most_polynomials.1) (
        below-three a.i a.l.now c.requires.i_lt_most_polynomials.3,
        c.requires.parted.2,
        c.requires.x_len.2,
        c.requires.x_len.3,
        below-places a.i _ a.l.now a.low.now a.mark.now a.at.now Q c.requires.parted.2 N.0,
        c.requires.i_lt_most_polynomials.4,
      );
      e_len = rw (F.0, F.1, F.2, F.3, F.4, F.5) (
        N.1 ∙ sym N.0,
        N.2 ∙ sym N.0,
        N.3 ∙ sym N.0,
        N.4 ∙ sym N.0,
        N.5 ∙ sym N.0,
        w₁.0,
        w₁.1,
        w₁.2,
        w₂.0,
        w₂.1,
        w₂.2,
      );
    }
