-- `run_round_end::count_with` meets its contract: the counts of a row that splits are small.
use mathlib.Core.Path.{◌≡◌, refl}
use native.Mathlib.Omega.{arith}
use lib.IntN.{pos, ◌+ℤ◌, ◌-ℤ◌}
use mir.Syntax.{w16}
use mir.Val.{to_z, of_z}
use mir.Facts.{to_z-of_z, to_z_pos}
use Rattle.run_round_end.specs.Steps.{with_sign}
use Rattle.run_round_end.proofs.SplitLaws.{Bounded, splits_bounded, zero-fits, plus_fits, minus-fits, zero-whole, plus_whole}
use Rattle.run_round_end.proofs.SplitLaws.{minus-whole}
use Rattle.run_round_end.proofs.count_with.Goals as goal
use Rattle.run_round_end.proofs.count_with.Goals.{Start}

small : (s : Start) → Bounded s.args.d s.args.e s.args.g
small s = splits_bounded s.args.d s.args.e s.args.g s.requires.2

-- the three numbers, as the code reads them back
zero_is : (s : Start) → to_z w16 (of_z w16 (to_z w16 s.args.d -ℤ to_z w16 (of_z w16 s.args.g))) ≡ pos s.args.d -ℤ s.args.g
zero_is s =
    rw (to_z_pos w16 {n = s.args.d} (omega (arith, s.requires)), to_z-of_z s.ranges.g)
    (to_z-of_z (zero-fits s.args.d s.args.e s.args.g s.requires.1 (small s)))

plus_is : (s : Start) → to_z w16 (of_z w16 (to_z w16 (of_z w16 s.args.g) +ℤ to_z w16 (of_z w16 s.args.e))) ≡ s.args.g +ℤ s.args.e
plus_is s =
    rw (to_z-of_z s.ranges.g, to_z-of_z s.ranges.e) (to_z-of_z (plus_fits s.args.d s.args.e s.args.g s.requires.1 (small s)))

minus_is : (s : Start) → to_z w16 (of_z w16 (to_z w16 (of_z w16 s.args.g) -ℤ to_z w16 (of_z w16 s.args.e))) ≡ s.args.g -ℤ s.args.e
minus_is s =
    rw (to_z-of_z s.ranges.g, to_z-of_z s.ranges.e) (to_z-of_z (minus-fits s.args.d s.args.e s.args.g s.requires.1 (small s)))

pub overflow_sub-result : goal.overflow_sub-result
overflow_sub-result c =
    rw (to_z_pos w16 {n = c.args.d} (omega (arith, c.requires)), to_z-of_z c.ranges.g)
    (zero-fits c.args.d c.args.e c.args.g c.requires.1 (small (goal.at.overflow_sub-result c).Start))

pub overflow_cast-result-in-0 : goal.overflow_cast-result-in-0
overflow_cast-result-in-0 c = rw (zero_is (goal.at.overflow_cast-result-in-0 c).Start)
    (zero-whole c.args.d c.args.e c.args.g c.requires.1 (small (goal.at.overflow_cast-result-in-0 c).Start))

pub returns-in-0 : goal.returns-in-0
unfolding with_sign
returns-in-0 c = rw (zero_is (goal.at.returns-in-0 c).Start, c.in-0.is) refl

pub overflow_add-result : goal.overflow_add-result
overflow_add-result c =
    rw (to_z-of_z c.ranges.g, to_z-of_z c.ranges.e)
    (plus_fits c.args.d c.args.e c.args.g c.requires.1 (small (goal.at.overflow_add-result c).Start))

pub overflow_cast-result-in-1 : goal.overflow_cast-result-in-1
overflow_cast-result-in-1 c = rw (plus_is (goal.at.overflow_cast-result-in-1 c).Start)
    (plus_whole c.args.d c.args.e c.args.g c.requires.1 (small (goal.at.overflow_cast-result-in-1 c).Start))

pub returns-in-1 : goal.returns-in-1
unfolding with_sign
returns-in-1 c = rw (plus_is (goal.at.returns-in-1 c).Start, c.in-1.is) refl

pub overflow_sub-result-in_default : goal.overflow_sub-result-in_default
overflow_sub-result-in_default c =
    rw (to_z-of_z c.ranges.g, to_z-of_z c.ranges.e)
    (minus-fits c.args.d c.args.e c.args.g c.requires.1 (small (goal.at.overflow_sub-result-in_default c).Start))

pub overflow_cast-result-in_default : goal.overflow_cast-result-in_default
overflow_cast-result-in_default c = rw (minus_is (goal.at.overflow_cast-result-in_default c).Start)
    (minus-whole c.args.d c.args.e c.args.g c.requires.1 (small (goal.at.overflow_cast-result-in_default c).Start))

pub returns-in_default : goal.returns-in_default
unfolding with_sign
returns-in_default c =
    let e : c.args.t ≡ 2 = omega (arith, c.requires) in
    rw (minus_is (goal.at.returns-in_default c).Start, e) refl
