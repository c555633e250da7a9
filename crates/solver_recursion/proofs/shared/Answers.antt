-- `solver_recursion::shared` meets its contract.
use native.Mathlib.Omega.{arith}
use native.Mathlib.Numerals.{add-one}
use Prim.Native.Nat.{ℕ, ◌+◌, ◌<◌}
use borrow.Author.Tests.{le-leb, lt-leb}
use mathlib.Core.Bool.{cond}
use mathlib.Core.List.{List}
use lib.Dec.{leb}
use Rattle.adapted.specs.Split.{count_of}
use mathlib.Core.Path.{◌≡◌, refl, sym, ap, ap₂, ◌∙◌}
use lib.ListN.{length, get_or}
use Rattle.signs.proofs.Positions.{below_at}
use Rattle.solver_moments.specs.Moments.{rank}
use Rattle.solver_moments.proofs.Laws.{rank-zero, rank-suc, rank-few}
use Rattle.solver_recursion.proofs.shared.Goals as goal
use Rattle.solver_recursion.proofs.shared.Goals.{then-count-ge2, else-count-ge2}

pub loop-m-init : goal.loop-m-init
loop-m-init c = sym (rank-zero 2 _)

pub count-requires : goal.count-requires
count-requires c = below_at 8 c.args.mark.now c.requires.0 c.loop-m.m-index (omega arith)

pub overflow_add-n : goal.overflow_add-n
overflow_add-n c = omega (arith, c.loop-m.invariant, rank-few 2 c.args.mark.now c.loop-m.m-index, c.requires.1)

-- one more mark
more : (m : List ℕ) (j n k : ℕ) → j < length m → n ≡ rank 2 m j → k ≡ n + cond (leb 2 (count_of (get_or m j 0))) 1 0 → k ≡ rank 2 m (j + 1)
more m j n k h e f = f ∙ ap₂ ◌+◌ e refl ∙ sym (ap (rank 2 m) (add-one j) ∙ rank-suc 2 m j h)

pub loop-m-preserved : goal.loop-m-preserved
loop-m-preserved c = more c.args.mark.now c.loop-m.m-index c.loop-m.n _ (omega arith) c.loop-m.invariant
    (elim c.if-count-ge2.branch [
      | then-count-ge2 w ↦ w.n-is ∙ rw (le-leb 2 _ (rw c.count.ensures at w.if-count-ge2.true)) refl
      | else-count-ge2 w ↦ w.n-is ∙ rw (lt-leb 2 _ (rw c.count.ensures at w.if-count-ge2.false)) (omega arith)
    ])
