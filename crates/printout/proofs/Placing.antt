-- A text placed at the front of a slice, or not.
use mathlib.Core.Path.{◌≡◌, refl}
use mathlib.Core.List.{List}
use Prim.Native.Nat.{ℕ, ◌+◌, ◌<◌, ◌≤◌}
use native.Mathlib.Omega.{arith}
use borrow.Author.Tests.{le-leb, lt-leb}
use lib.ListN.{length}
use lib.Seq.{paste, take-length}
use Rattle.refusals.specs.Numbers.{too_short}
use Rattle.std.specs.Prelude.{Result, Ok}
use Rattle.refusals.specs.Refusals.{refusing}
use Rattle.refusals.specs.declared.Refusal.{Refusal}
use Rattle.printout.specs.Written.{placed}

module _ (t out : List ℕ) (n : ℕ) (long : n ≡ length t) where
  pub placed-short : length out < n → ◌≡◌ {A = Result ℕ Refusal × List ℕ} (refusing too_short, out) (placed t out)
  unfolding placed
  placed-short h = rw (lt-leb (length t) (length out) (omega arith)) refl

  pub placed-fits : (out' u : List ℕ) → u ≡ t → out' ≡ paste out 0 u (length u) → n ≤ length out
      → ◌≡◌ {A = Result ℕ Refusal × List ℕ} (Ok n, out') (placed t out)
  unfolding placed
  placed-fits out' u e f h =
      let z : 0 + length t ≡ length t = omega arith in
      rw (le-leb (length t) (length out) (omega arith), long, f, e, take-length t, z) refl
