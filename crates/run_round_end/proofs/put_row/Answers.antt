-- `run_round_end::put_row` meets its contract.
use mathlib.Core.Path.{refl, sym, ap}
use native.Mathlib.Nat.{add-zero}
use native.Mathlib.Omega.{arith}
use lib.ListN.{length}
use Rattle.rounds.specs.Rows.{patterns, counts}
use Rattle.run_round_end.proofs.StepLaws.{row_if_none, row_if-some}
use Rattle.run_round_end.proofs.put_row.Goals as goal

pub returns-then-count-eq0 : goal.returns-then-count-eq0
unfolding patterns counts
returns-then-count-eq0 c =
    record {
      value = rw (row_if_none _ _ c.if-count-eq0.true) (sym (add-zero _));
      after = rw (row_if_none _ _ c.if-count-eq0.true) refl;
      numbers_after = rw (row_if_none _ _ c.if-count-eq0.true) refl;
    }

pub bounds-new-k : goal.bounds-new-k
bounds-new-k c = omega (arith, c.requires, ap length (row_if-some c.args.pattern c.args.count c.if-count-eq0.false))

pub bounds-numbers-k : goal.bounds-numbers-k
bounds-numbers-k c =
    omega (arith, c.requires, ap length (row_if-some c.args.pattern c.args.count c.if-count-eq0.false))

pub returns : goal.returns
unfolding patterns counts
returns c =
    record {
      value = rw (row_if-some _ _ c.if-count-eq0.false) refl;
      after = rw (row_if-some _ _ c.if-count-eq0.false) refl;
      numbers_after = rw (row_if-some _ _ c.if-count-eq0.false) refl;
    }
