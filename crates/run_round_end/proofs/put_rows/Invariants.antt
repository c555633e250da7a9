-- `run_round_end::put_rows` meets its contract: what is still to be written completes it.
use mathlib.Core.Path.{◌≡◌}
use mathlib.Core.Bool.{true}
use Prim.Native.Nat.{◌+◌}
use lib.ListN.{length}
use lib.Seq.{sets}
use Rattle.rounds.specs.Rows.{patterns as patterns_of, counts as counts_of}
use Rattle.run_round_end.proofs.StepLaws.{fair_left, rows_left}
use Rattle.run_round_end.proofs.put_rows.Given as goal

abbrev pub invariant-loop-j : goal.invariant-loop-j
invariant-loop-j l =
    (fair_left l.patterns l.counts l.es l.gs l.j ≡ true)
    × (length l.new ≡ length l.initial.new)
    × (length l.numbers ≡ length l.initial.numbers)
    × (l.next + length (rows_left l.base l.t l.patterns l.counts l.es l.gs l.j)
    ≡ l.k + length (rows_left l.base l.t l.patterns l.counts l.es l.gs 0))
    × (sets l.new l.next (patterns_of (rows_left l.base l.t l.patterns l.counts l.es l.gs l.j))
    ≡ sets l.initial.new l.k (patterns_of (rows_left l.base l.t l.patterns l.counts l.es l.gs 0)))
    × (sets l.numbers l.next (counts_of (rows_left l.base l.t l.patterns l.counts l.es l.gs l.j))
    ≡ sets l.initial.numbers l.k (counts_of (rows_left l.base l.t l.patterns l.counts l.es l.gs 0)))
