-- The answers of a call, by its causes in document 01's order.
use mathlib.Core.Path.{◌≡◌, refl}
use mathlib.Core.Bool.{true, false}
use mathlib.Core.List.{List}
use Prim.Native.Nat.{ℕ, ◌<◌, ◌≤◌}
use native.Mathlib.Omega.{arith}
use borrow.Author.Tests.{lt-ltb, le-leb, lt-leb}
use lib.IntN.{ℤ}
use lib.ListN.{length}
use Rattle.refusals.specs.Limits.{most_polynomials}
use Rattle.solutions.specs.Solver.{solver_of}
use Rattle.solutions.specs.Posing.{is_list}
use Rattle.solver.specs.Solving.{answered, solve_of}
use Rattle.std.specs.Prelude.{Err}
use Rattle.refusals.specs.declared.Refusal.TheVariants.{WrongCount, WrongList, TooShort}

pub refused_none : (s : ℕ) (L : List ℕ) (xs out : List ℤ) → s ≡ 0 → solve_of s L xs out ≡ (Err WrongCount, out)
unfolding solve_of
refused_none s L xs out h = rw h refl

pub refused-many : (s : ℕ) (L : List ℕ) (xs out : List ℤ) → most_polynomials < s → solve_of s L xs out ≡ (Err WrongCount, out)
unfolding solve_of
refused-many s L xs out h = rw (lt-ltb 0 s (omega arith), lt-leb s most_polynomials h) refl

pub refused_list : (s : ℕ) (L : List ℕ) (xs out : List ℤ) → (s ≡ 0 → ⊥) → s ≤ most_polynomials → is_list s L xs ≡ false
    → solve_of s L xs out ≡ (Err WrongList, out)
unfolding solve_of
refused_list s L xs out h k e = rw (lt-ltb 0 s (omega arith), le-leb s most_polynomials k, e) refl

pub refused-short : (s : ℕ) (L : List ℕ) (xs out : List ℤ) → (s ≡ 0 → ⊥) → s ≤ most_polynomials → is_list s L xs ≡ true
    → length out < length L → solve_of s L xs out ≡ (Err TooShort, out)
unfolding solve_of
refused-short s L xs out h k e q = rw (lt-ltb 0 s (omega arith), le-leb s most_polynomials k, e, lt-leb (length L) (length out) q) refl

pub well_posed : (s : ℕ) (L : List ℕ) (xs out : List ℤ) → (s ≡ 0 → ⊥) → s ≤ most_polynomials → is_list s L xs ≡ true
    → length L ≤ length out → solve_of s L xs out ≡ answered out (solver_of s L xs)
unfolding solve_of
well_posed s L xs out h k e q = rw (lt-ltb 0 s (omega arith), le-leb s most_polynomials k, e, le-leb (length L) (length out) q) refl
