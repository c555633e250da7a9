-- `solver::solve` meets its contract.
use Prim.Native.Nat.{ℕ, ◌≤◌}
use mathlib.Core.Path.{◌≡◌, sym, ap, ◌∙◌}
use mathlib.Core.Bool.{true}
use lib.ListN.{length}
use mathlib.Core.List.{List}
use lib.IntN.{ℤ}
use lib.Seq.{length-take-le}
use Rattle.refusals.specs.Limits.{most_polynomials, most_points}
use Rattle.solutions.specs.Solution.{Posed}
use Rattle.solutions.specs.Posing.{is_list}
use Rattle.solutions.proofs.Posing.{list_true}
use Rattle.std.specs.Prelude.{Result, Err}
use Rattle.refusals.specs.declared.Refusal.TheVariants.{WrongCount}
use Rattle.solver.specs.Solving.{solve_of}
use Rattle.refusals.specs.declared.Refusal.{Refusal}
use Rattle.solver.proofs.Answers.{refused_none, refused-many, refused_list, refused-short, well_posed}
use Rattle.solver.proofs.solve.Goals as goal
use Rattle.solver.proofs.solve.Goals.{Else-out-n}
use Rattle.solver.proofs.solve.Goals.{then-s-eq0-via-then-s-eq0, then-s-eq0-via-else-s-eq0+then-s-gt-MOST_POLYNOMIALS}

-- the answer and the slice at exit, from an equation of the pair
parts : {p q : Result (Unit {0}) Refusal × List ℤ} → p ≡ q → (q.0 ≡ p.0) × (q.1 ≡ p.1)
parts e = (sym (ap (λ p. p.0) e), sym (ap (λ p. p.1) e))

-- s outside 1 .. 8
outside : (c : goal.Joined-then-s-eq0) →
    let a = c.args in
    solve_of a.s a.patterns.now a.numbers.now a.out.now ≡ (Err WrongCount, a.out.now)
outside c =
    let a = c.args in
    elim c.then-s-eq0.branch [
      | then-s-eq0-via-then-s-eq0 w ↦ refused_none a.s a.patterns.now a.numbers.now a.out.now w.if-s-eq0.true
      | then-s-eq0-via-else-s-eq0+then-s-gt-MOST_POLYNOMIALS w ↦
          refused-many a.s a.patterns.now a.numbers.now a.out.now w.if-s-gt-MOST_POLYNOMIALS.true
    ]

pub returns-then-s-eq0 : goal.returns-then-s-eq0
returns-then-s-eq0 c =
    record {
      value = (parts (outside c)).0;
      out_after = (parts (outside c)).1;
    }

pub returns-then-not-posed : goal.returns-then-not-posed
returns-then-not-posed c =
    let a = c.args in
    record {
      value = (parts (refused_list a.s a.patterns.now a.numbers.now a.out.now c.if-s-eq0.false
          c.if-s-gt-MOST_POLYNOMIALS.false (sym c.posed.ensures ∙ c.if-not-posed.true))).0;
      out_after = (parts (refused_list a.s a.patterns.now a.numbers.now a.out.now c.if-s-eq0.false
          c.if-s-gt-MOST_POLYNOMIALS.false (sym c.posed.ensures ∙ c.if-not-posed.true))).1;
    }

pub returns-then-out-n : goal.returns-then-out-n
returns-then-out-n c =
    let a = c.args in
    record {
      value = (parts (refused-short a.s a.patterns.now a.numbers.now a.out.now c.if-s-eq0.false
          c.if-s-gt-MOST_POLYNOMIALS.false
          (sym c.posed.ensures ∙ c.if-not-posed.false) c.if-out-n.true)).0;
      out_after = (parts (refused-short a.s a.patterns.now a.numbers.now a.out.now c.if-s-eq0.false
          c.if-s-gt-MOST_POLYNOMIALS.false
          (sym c.posed.ensures ∙ c.if-not-posed.false) c.if-out-n.true)).1;
    }

-- after the tests
record Tested (s : ℕ) (L : List ℕ) (xs out : List ℤ) : Type 0 where
  some : s ≡ 0 → ⊥
  few : s ≤ most_polynomials
  list : is_list s L xs ≡ true
  room : length L ≤ length out

tested : (c : Else-out-n) →
    let a = c.args in
    Tested a.s a.patterns.now a.numbers.now a.out.now
tested c =
    record {
      some = c.if-s-eq0.false;
      few = c.if-s-gt-MOST_POLYNOMIALS.false;
      list = sym c.posed.ensures ∙ c.if-not-posed.false;
      room = c.if-out-n.false;
    }

posed_list : (c : Else-out-n) →
    let a = c.args in
    (length a.patterns.now ≤ most_points) × Posed a.s a.patterns.now a.numbers.now
posed_list c = list_true _ _ _ (tested c).list

pub slice_bounds-x-end : goal.slice_bounds-x-end
slice_bounds-x-end c = (posed_list c).0

pub slice_bounds-solve_to-end : goal.slice_bounds-solve_to-end
slice_bounds-solve_to-end c = sym (length-take-le _ _ (posed_list (goal.at.slice_bounds-solve_to-end c).Else-out-n).0)

pub slice_bounds-v-end : goal.slice_bounds-v-end
slice_bounds-v-end c = (posed_list (goal.at.slice_bounds-v-end c).Else-out-n).0

pub slice_bounds-solve_to-end-2 : goal.slice_bounds-solve_to-end-2
slice_bounds-solve_to-end-2 c = sym (length-take-le _ _ (posed_list (goal.at.slice_bounds-solve_to-end-2 c).Else-out-n).0)

pub solve_to-requires : goal.solve_to-requires
solve_to-requires c =
    let t = tested (goal.at.solve_to-requires c).Else-out-n in
    let (n, P) = posed_list (goal.at.solve_to-requires c).Else-out-n in
    record {
      s_le_most_polynomials = (t.few, n, t.room);
      x_len = (length-take-le _ _ n, length-take-le _ _ n);
      posed = P;
    }

pub returns : goal.returns
returns c =
    let a = c.args in
    let t = tested (goal.at.returns c).Else-out-n in
    let e = well_posed a.s a.patterns.now a.numbers.now a.out.now t.some t.few t.list t.room in
    record {
      value = c.solve_to.ensures.value ∙ sym (ap (λ p. p.0) e);
      out_after = c.solve_to.ensures.out_after ∙ sym (ap (λ p. p.1) e);
    }
