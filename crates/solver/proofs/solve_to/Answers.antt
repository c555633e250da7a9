-- `solver::solve_to` meets its contract.
use mathlib.Core.Path.{◌≡◌, refl, subst, ap, ◌∙◌}
use Rattle.std.specs.Prelude.{Some, None, Err}
use Rattle.refusals.specs.declared.Refusal.TheVariants.{NoSolution}
use native.Mathlib.Omega.{arith}
use Rattle.std.proofs.lemmas.Result.{err_from_is_err_and}
use mathlib.Core.List.{List}
use lib.IntN.{ℤ}
use Rattle.solutions.specs.Solution.{Solution}
use Rattle.solutions.proofs.Bounds.{solution_small}
use Rattle.solutions.proofs.SolverRight.{solver_found, solver_refused}
use Rattle.solver.proofs.solve_to.Goals as goal

pub returns-in_err-ok_or-clause-value : goal.returns-in_err-ok_or-clause-value
returns-in_err-ok_or-clause-value c =
    let a = c.args in
    let n : c.copy_small.result ≡ None = grind arith in
    let none = rw n at c.copy_small.ensures in
    let e₀ = (solver_refused a.s a.patterns.now a.numbers.now c.requires.posed).1
    (λ ws S. none (solution_small a.s a.patterns.now a.numbers.now ws S)) in
    let f : c.in_err-ok_or.field-0.0 ≡ NoSolution = grind arith in
    let p = err_from_is_err_and c.from_residual.result c.from_residual.ensures.1 in
    rw e₀ (p.1 ∙ ap Err (p.2 ∙ f))

pub returns-in_err-ok_or-clause-out_after : goal.returns-in_err-ok_or-clause-out_after
returns-in_err-ok_or-clause-out_after c =
    let a = c.args in
    let n : c.copy_small.result ≡ None = grind arith in
    let none = rw n at c.copy_small.ensures in
    let e₀ = (solver_refused a.s a.patterns.now a.numbers.now c.requires.posed).1
    (λ ws S. none (solution_small a.s a.patterns.now a.numbers.now ws S)) in
    rw e₀ refl

pub returns-in_err-ok_or-2-clause-value : goal.returns-in_err-ok_or-2-clause-value
returns-in_err-ok_or-2-clause-value c =
    let a = c.args in
    let m : c.copy_small.result ≡ Some tt = grind arith in
    let W = rw m at c.copy_small.ensures in
    let n : c.solve_pair.result ≡ None = grind arith in
    let none = rw n at c.solve_pair.ensures in
    let e₀ = (solver_refused a.s a.patterns.now a.numbers.now c.requires.posed).1
    (subst (λ (x : List ℤ). (ws : List ℤ) → Solution a.s a.patterns.now x ws → ⊥) W.1
    (λ ws S. none ws ws S S)) in
    let f : c.in_err-ok_or-2.field-0.0 ≡ NoSolution = grind arith in
    let p = err_from_is_err_and c.from_residual-in_err-ok_or-2.result c.from_residual-in_err-ok_or-2.ensures.1 in
    rw e₀ (p.1 ∙ ap Err (p.2 ∙ f))

pub returns-in_err-ok_or-2-clause-out_after : goal.returns-in_err-ok_or-2-clause-out_after
returns-in_err-ok_or-2-clause-out_after c =
    let a = c.args in
    let m : c.copy_small.result ≡ Some tt = grind arith in
    let W = rw m at c.copy_small.ensures in
    let n : c.solve_pair.result ≡ None = grind arith in
    let none = rw n at c.solve_pair.ensures in
    let e₀ = (solver_refused a.s a.patterns.now a.numbers.now c.requires.posed).1
    (subst (λ (x : List ℤ). (ws : List ℤ) → Solution a.s a.patterns.now x ws → ⊥) W.1
    (λ ws S. none ws ws S S)) in
    rw e₀ refl

pub returns : goal.returns
returns c =
    let a = c.args in
    let m : c.copy_small.result ≡ Some tt = grind arith in
    let W = rw m at c.copy_small.ensures in
    let n : c.solve_pair.result ≡ Some tt = grind arith in
    let S = rw n at c.solve_pair.ensures in
    let v = c.solve_pair.new.u in
    let e₀ = (solver_found a.s a.patterns.now a.numbers.now c.requires.posed v).1
    (subst (λ (x : List ℤ). Solution a.s a.patterns.now x v) W.1 S.0) in
    record {
      value = rw e₀ refl;
      out_after = rw e₀ c.copy_wide.ensures;
    }
