-- `adapted::choose` meets its contract.
use mathlib.Core.Path.{◌≡◌, refl, sym}
use mathlib.Core.Bool.{true, false}
use Prim.Native.Nat.{ℕ, ◌≤◌, ◌<◌}
use native.Mathlib.Nat.{add-zero}
use native.Mathlib.Omega.{arith}
use lib.Dec.{leb}
use borrow.Author.Tests.{le-leb, lt-leb}
use Rattle.adapted.specs.Split.{chosen}
use Rattle.adapted.proofs.choose.Goals as goal

at_least : (k r g : ℕ) → r ≡ g → k ≤ r → leb k g ≡ true
at_least k r g e h = le-leb k g (omega arith)

fewer : (k r g : ℕ) → r ≡ g → r < k → leb k g ≡ false
fewer k r g e h = lt-leb k g (omega arith)

pub returns-then-k-count : goal.returns-then-k-count
unfolding chosen
returns-then-k-count c =
    record {
      value = rw (at_least _ _ _ c.count.ensures c.if-k-count.true) refl;
      out_after = rw (at_least _ _ _ c.count.ensures c.if-k-count.true) refl;
    }

pub returns-else-k-count : goal.returns-else-k-count
unfolding chosen
returns-else-k-count c =
    record {
      value = rw (fewer _ _ _ c.count.ensures c.if-k-count.false) (sym (add-zero _));
      out_after = rw (fewer _ _ _ c.count.ensures c.if-k-count.false) refl;
    }
