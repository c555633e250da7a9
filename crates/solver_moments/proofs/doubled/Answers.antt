-- `solver_moments::doubled` meets its contract.
use mathlib.Core.Path.{◌≡◌}
use native.Mathlib.Omega.{arith}
use native.Mathlib.Nat.{div-eq_of_lt, div-eq_of_lt-le}
use Prim.Native.Nat.{◌/◌}
use borrow.Author.Rules.{rules}
use lib.IntN.{pos, ◌+ℤ◌, ◌-ℤ◌, ◌*ℤ◌}
use lib.ListN.{get_or}
use Rattle.integers.proofs.I16.{back}
use Rattle.integers.proofs.Ring.{2-*ℤ}
use Rattle.solver_moments.specs.Moments.{doubled_of}
use Rattle.solver_moments.proofs.doubled.Goals as goal

pub returns-then-q-w : goal.returns-then-q-w
unfolding doubled_of
returns-then-q-w c =
    let a = c.args in
    let t : a.q / a.w ≡ 0 = div-eq_of_lt c.if-q-w.true in
    let d = get_or a.d.now a.j (pos 0) in
    let g = get_or a.g.now a.j (pos 0) in
    rw (back d (search rules), back g (search rules), back (d -ℤ g) (search rules), t, back (pos 2 *ℤ (d -ℤ g)) (search rules))
    (2-*ℤ (d -ℤ g))

pub returns-then-q-w-2 : goal.returns-then-q-w-2
unfolding doubled_of
returns-then-q-w-2 c =
    let a = c.args in
    let t : a.q / a.w ≡ 1 = div-eq_of_lt-le _ (omega arith) (omega arith) in
    let e = get_or a.e.now a.j (pos 0) in
    let g = get_or a.g.now a.j (pos 0) in
    rw (back e (search rules), back g (search rules), t) (back (g +ℤ e) (search rules))

pub returns-else-q-w-2 : goal.returns-else-q-w-2
unfolding doubled_of
returns-else-q-w-2 c =
    let a = c.args in
    let t : a.q / a.w ≡ 2 = div-eq_of_lt-le _ (omega arith) (omega arith) in
    let e = get_or a.e.now a.j (pos 0) in
    let g = get_or a.g.now a.j (pos 0) in
    rw (back e (search rules), back g (search rules), t) (back (g -ℤ e) (search rules))
