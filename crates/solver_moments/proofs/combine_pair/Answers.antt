-- `solver_moments::combine_pair` meets its contract.
use mathlib.Core.Path.{◌≡◌, refl, sym, ap, ap₂, ◌∙◌}
use mathlib.Core.Bool.{Bool, true, false, cond, not, ◌&&◌, ◌||◌}
use Rattle.std.specs.Prelude.{Some, None}
use Prim.Native.Nat.{ℕ, ◌*◌, ◌≤◌, ◌<◌}
use native.Mathlib.Omega.{arith}
use borrow.Author.Rules.{rules}
use borrow.Author.Tests.{le-leb, lt-leb}
use lib.Dec.{leb}
use lib.IntN.{ℤ, nat_abs}
use lib.ListN.{length, get_or}
use lib.Signed.{shr_z}
use mir.Syntax.{w16}
use mir.Val.{to_z, of_z}
use Rattle.integers.proofs.I16.{back}
use Rattle.signs.proofs.Positions.{below_at}
use Rattle.solver_moments.specs.Moments.{is_odd, CombinedBoth}
use Rattle.solver_moments.proofs.Loops.{doubled_at, doubled_small, halving_small}
use Rattle.solver_moments.proofs.Loops.{combining_first, combining_next, combining_last}
use Rattle.solver_moments.proofs.combine_pair.Goals as goal
use Rattle.solver_moments.proofs.combine_pair.Goals.{After-doubled-x, After-doubled-y, After-loop-k, At-loop-k, In-loop-k}
use Rattle.solver_moments.proofs.combine_pair.Goals.{then-odd-via-then-odd, then-odd-via-else-odd+then-sum-gt-DOUBLE}
use Rattle.solver_moments.proofs.combine_pair.Goals.{then-odd-via-else-odd+else-sum-gt-DOUBLE+then-sum2-gt-DOUBLE}

-- ---- what is known in every turn
-- the doubles of the two systems
abbrev one : (at : At-loop-k) → ℕ → ℤ
one at =
    let a = at.args in
    doubled_at a.w a.l.now a.at.now a.d.now a.e.now a.g.now

abbrev other : (at : At-loop-k) → ℕ → ℤ
other at =
    let a = at.args in
    doubled_at a.w a.l.now a.at.now a.d2.now a.e2.now a.g2.now

one_small : (at : At-loop-k) (j : ℕ) → nat_abs (one at j) ≤ 1024
one_small at j =
    let a = at.args in
    let p = at.requires.e_len in
    doubled_small a.w a.l.now a.at.now a.d.now a.e.now a.g.now p.5 p.6 p.7 j

other_small : (at : At-loop-k) (j : ℕ) → nat_abs (other at j) ≤ 1024
other_small at j =
    let a = at.args in
    let p = at.requires.e_len in
    doubled_small a.w a.l.now a.at.now a.d2.now a.e2.now a.g2.now p.8 p.9 p.10 j

-- the pattern has a digit, and its low part moments
pattern : (i : In-loop-k) → let a = i.args in
    get_or a.l.now i.loop-k.k 0 < 3 * a.w
pattern i =
    below_at (3 * i.args.w) i.args.l.now i.requires.below.0 i.loop-k.k (omega arith)

place : (i : In-loop-k) → let a = i.args in
    get_or a.at.now i.loop-k.k 0 < length a.d.now
place i =
    below_at (length i.args.d.now) i.args.at.now i.requires.below.4 i.loop-k.k (omega (arith, i.requires.below.1))

-- its doubles, as the code has them
one_is : (c : After-doubled-x) → to_z w16 (of_z w16 c.doubled-x.result) ≡ one (goal.at.After-doubled-x c).At-loop-k c.loop-k.k
one_is c = back c.doubled-x.result (search rules) ∙ c.doubled-x.ensures

other_is : (c : After-doubled-y) → to_z w16 (of_z w16 c.doubled-y.result) ≡ other (goal.at.After-doubled-y c).At-loop-k c.loop-k.k
other_is c = back c.doubled-y.result (search rules) ∙ c.doubled-y.ensures

-- ---- the needs
pub loop-k-init : goal.loop-k-init
loop-k-init c =
    let a = c.args in
    combining_first (doubled_at a.w a.l.now a.at.now a.d.now a.e.now a.g.now)
    (doubled_at a.w a.l.now a.at.now a.d2.now a.e2.now a.g2.now) a.u.now a.v.now (length a.l.now)

pub doubled-x-requires : goal.doubled-x-requires
doubled-x-requires c =
    let p = c.requires.e_len in
    record {
      q_bound = (pattern (goal.at.doubled-x-requires c).In-loop-k, place (goal.at.doubled-x-requires c).In-loop-k, p.0, p.1);
      within = (p.5, p.6, p.7);
    }

pub doubled-y-requires : goal.doubled-y-requires
doubled-y-requires c =
    let p = c.requires.e_len in
    record {
      q_bound = (
        pattern (goal.at.doubled-y-requires c).In-loop-k,
        omega (arith, place (goal.at.doubled-y-requires c).In-loop-k, p.2),
        p.3 ∙ sym p.2,
        p.4 ∙ sym p.2,
      );
      within = (p.8, p.9, p.10);
    }

pub overflow_add-sum : goal.overflow_add-sum
overflow_add-sum c =
    let I = c.loop-k.invariant in
    let at = (goal.at.overflow_add-sum c).At-loop-k in
    omega (
      arith,
      halving_small (one at) c.args.u.now c.loop-k.u c.loop-k.sum c.loop-k.k I.one (one_small at),
      c.from-sum.ensures ∙ c.unsigned_abs.ensures.value ∙ ap nat_abs (one_is (goal.at.overflow_add-sum c).After-doubled-x),
      one_small at c.loop-k.k,
      I.place,
      c.requires.below.5,
    )

pub overflow_add-sum2 : goal.overflow_add-sum2
overflow_add-sum2 c =
    let I = c.loop-k.invariant in
    let at = (goal.at.overflow_add-sum2 c).At-loop-k in
    omega (
      arith,
      halving_small (other at) c.args.v.now c.loop-k.v c.loop-k.sum2 c.loop-k.k I.other (other_small at),
      c.from-sum2.ensures ∙ c.unsigned_abs-in-loop-k.ensures.value
          ∙ ap nat_abs (other_is (goal.at.overflow_add-sum2 c).After-doubled-y),
      other_small at c.loop-k.k,
      I.place,
      c.requires.below.5,
    )

pub loop-k-preserved : goal.loop-k-preserved
loop-k-preserved c =
    let a = c.args in
    let x = one_is (goal.at.loop-k-preserved c).After-doubled-x in
    let y = other_is (goal.at.loop-k-preserved c).After-doubled-y in
    combining_next (one (goal.at.loop-k-preserved c).At-loop-k) (other (goal.at.loop-k-preserved c).At-loop-k) a.u.now a.v.now c.loop-k.u
    c.loop-k.v c.loop-k.sum c.loop-k.sum2 c.loop-k.odd
    _ (length a.l.now) c.loop-k.k _ _ _ _ c.loop-k.invariant (omega (arith, c.loop-k-test.true)) c.requires.below.2 c.requires.below.3
    (ap (λ (o : Bool). c.loop-k.odd || o) (ap₂ ◌||◌ (c.is_odd.ensures ∙ ap is_odd x) (c.is_odd-in-loop-k.ensures ∙ ap is_odd y)))
    (c.from-sum.ensures ∙ c.unsigned_abs.ensures.value ∙ ap nat_abs x)
    (c.from-sum2.ensures ∙ c.unsigned_abs-in-loop-k.ensures.value ∙ ap nat_abs y)
    (back (shr_z (to_z w16 (of_z w16 c.doubled-x.result)) 2) (search rules) ∙ ap (λ z. shr_z z 2) x)
    (back (shr_z (to_z w16 (of_z w16 c.doubled-y.result)) 2) (search rules) ∙ ap (λ z. shr_z z 2) y)

-- what the loop leaves gives each answer
last : (c : After-loop-k) → let a = c.args in
    (b : Bool) → b ≡ not c.loop-k.odd && (leb c.loop-k.sum 128 && leb c.loop-k.sum2 128)
    → CombinedBoth a.w a.l.now a.at.now a.d.now a.e.now a.g.now a.d2.now a.e2.now a.g2.now c.loop-k.u
    c.loop-k.v (cond b (Some tt) None)
last c =
    let a = c.args in
    combining_last a.w a.l.now a.at.now a.d.now a.e.now a.g.now a.d2.now a.e2.now a.g2.now a.u.now
    a.v.now c.loop-k.u c.loop-k.v c.loop-k.sum c.loop-k.sum2 c.loop-k.odd c.loop-k.k c.loop-k.invariant
    (omega (arith, c.loop-k-test.false)) c.requires.below.2 c.requires.below.3

pub returns-then-odd : goal.returns-then-odd
returns-then-odd c =
    let l = last (goal.at.returns-then-odd c).After-loop-k false in
    elim c.then-odd.branch [
      | then-odd-via-then-odd w ↦ l (rw w.if-odd.true refl)
      | then-odd-via-else-odd+then-sum-gt-DOUBLE w ↦
          l (rw (w.if-odd.false, lt-leb c.loop-k.sum 128 w.if-sum-gt-DOUBLE.true) refl)
      | then-odd-via-else-odd+else-sum-gt-DOUBLE+then-sum2-gt-DOUBLE w ↦
          l (rw (
            w.if-odd.false,
            le-leb c.loop-k.sum 128 (omega (arith, w.if-sum-gt-DOUBLE.false)),
            lt-leb c.loop-k.sum2 128 w.if-sum2-gt-DOUBLE.true,
          ) refl)
    ]

pub returns : goal.returns
returns c =
    last (goal.at.returns c).After-loop-k true
    (rw (
      c.if-odd.false,
      le-leb c.loop-k.sum 128 (omega (arith, c.if-sum-gt-DOUBLE.false)),
      le-leb c.loop-k.sum2 128 (omega (arith, c.if-sum2-gt-DOUBLE.false)),
    ) refl)
