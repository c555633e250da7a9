-- `layout::coefficients` meets its contract. The loop's invariant: p has the coefficients below i, and 0 from there on.
use mathlib.Core.Path.{◌≡◌, ap, ◌∙◌}
use mathlib.Core.List.{List}
use Prim.Native.Nat.{ℕ, ◌+◌, ◌<◌}
use native.Mathlib.Omega.{arith}
use lib.ListN.{length, get_or, set, length-set}
use lib.IntN.{ℤ, pos}
use borrow.Author.Rules.{sfits_of}
use mir.Syntax.{w64}
use mir.Facts.{to_z-of_z}
use Rattle.layout.specs.Format.{degree, coefficient}
use Rattle.layout.specs.Values.{coefficient_below, coefficients}
use Rattle.layout.proofs.CoefficientLists.{stored, filled}
use Rattle.layout.proofs.coefficients.Goals as goal

-- the coefficient of the degree, i, is stored last
all_stored : (card : List ℕ) (at : ℕ) (p : List ℤ) (i : ℕ) (v : ℤ) → i ≡ degree card at → i < 7 → length p ≡ 7 → v ≡ coefficient card at i
    → ((k : ℕ) → get_or p k (pos 0) ≡ coefficient_below card at i k) → set p i v ≡ coefficients card at
all_stored card at p i v e b l f h =
    filled card at (set p i v) (length-set p i v ∙ l)
    (λ k. stored card at p i v f (omega arith) h k ∙ ap (λ (m : ℕ). coefficient_below card at (m + 1) k) e)

pub returns-2 : goal.returns-2
returns-2 c =
    all_stored _ _ _ c.loop-i.i _ (omega arith) (omega arith) c.loop-i.invariant.0
    (to_z-of_z {w = w64} (sfits_of c.coefficient.type_inv) ∙ c.coefficient.ensures) c.loop-i.invariant.1
