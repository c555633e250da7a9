-- `Run::end_round` meets its contract: the rows that the call left are those of the rules, and fit the next round.
use Prim.Native.Nat.{ℕ, ◌-◌, suc, ◌^◌, ◌≤◌, ◌<◌}
use mathlib.Core.List.{[], List, ◌∷◌, ◌++◌}
use mathlib.Core.Option.{Option}
use mathlib.Core.Path.{◌≡◌, sym, ◌∙◌}
use native.Mathlib.Omega.{arith}
use lib.ListN.{length, take}
use lib.Seq.{length-take-le}
use mir.Syntax.{w64}
use mir.ValLaws.{to_z-of_z}
use Rattle.std.specs.Prelude.{Some}
use Rattle.signs.specs.Lists.{Below}
use Rattle.rounds.specs.RoundEnd.{round_rows}
use Rattle.run_round_end.specs.Outcome.{Left}
use Rattle.rounds.specs.Rows.{Row, patterns, rows_with}
use Rattle.run_record.specs.Record.{running_state}
use Rattle.runs.proofs.Ends.{ends-rising, ends-below, ends_some}
use Rattle.runs.proofs.Held.{with_length}
use Rattle.run_record.proofs.Records.{Later, later_from}
use Rattle.run_record.proofs.Rounds.{HasRows, left_some, some-few, some-counts, some-held, some_copied, ends_with, running_with}
use Rattle.run_record.proofs.Run.end_round.Goals as goal
use Rattle.run_record.proofs.Run.end_round.Goals.{After-copy_front-in-Some, After-find_rows-next, Start}

-- the rows after the round, as the rules have them
abbrev after : (c : Start) → Option (List Row)
after c =
    let r = c.args.self.now in
    round_rows (r.round - 1) (running_state r).rows (take r.answered r.answers ++ (c.args.a ∷ []))

later : (c : Start) → Later c.args.self.now
later c = later_from _ c.requires.0 c.requires.1

-- the rows as the call left them
left : (c : After-find_rows-next)
    → Left (after (goal.at.After-find_rows-next c).Start) c.find_rows-next.result c.find_rows-next.new.new c.find_rows-next.new.numbers
left c =
    rw (to_z-of_z w64 c.args.a c.ranges.a) at c.find_rows-next.ensures

got : (c : After-find_rows-next) (n : ℕ) → c.find_rows-next.result ≡ Some n
    → HasRows (after (goal.at.After-find_rows-next c).Start) n c.find_rows-next.new.new c.find_rows-next.new.numbers
got c n e =
    left_some (after (goal.at.After-find_rows-next c).Start) c.find_rows-next.result n c.find_rows-next.new.new c.find_rows-next.new.numbers
    (left c) e

-- there are as many places for patterns
room : (c : After-find_rows-next) → length c.find_rows-next.new.new ≡ 64
room c = c.find_rows-next.auto.new

few : (c : After-find_rows-next) (n : ℕ) → c.find_rows-next.result ≡ Some n → n ≤ 64
few c n e = some-few (after (goal.at.After-find_rows-next c).Start) _ _ _ (got c n e) (room c)

-- and as they were copied
moved : (c : After-copy_front-in-Some)
    → HasRows (after (goal.at.After-copy_front-in-Some c).Start)
    c.in-Some.n c.copy_front.new.out c.copy_front-in-Some.new.out
moved c =
    some_copied (after (goal.at.After-copy_front-in-Some c).Start)
    _ _ _ (got (goal.at.After-copy_front-in-Some c).After-find_rows-next c.in-Some.n c.in-Some.is) _ _ _ _
    (room (goal.at.After-copy_front-in-Some c).After-find_rows-next)
    (few (goal.at.After-copy_front-in-Some c).After-find_rows-next c.in-Some.n c.in-Some.is)
    c.copy_front.ensures c.copy_front-in-Some.ensures

-- there are rows before the round
rows_before : (c : Start) → 0 < length (running_state c.args.self.now).rows
rows_before c =
    let r = c.args.self.now in
    let k = later c in
    let p = length-take-le r.rows r.patterns (omega arith) in
    let q = length-take-le r.rows r.counts (omega arith) in
    omega (arith, with_length (take r.rows r.patterns) (take r.rows r.counts) (p ∙ sym q))

pub shared_ref_as_front-find_rows : goal.shared_ref_as_front-find_rows
shared_ref_as_front-find_rows c =
    let k = later (goal.at.shared_ref_as_front-find_rows c).Start in
    omega arith

pub find_rows-next-requires-clause-i_lt_most_polynomials : goal.find_rows-next-requires-clause-i_lt_most_polynomials
find_rows-next-requires-clause-i_lt_most_polynomials c =
    let k = later (goal.at.find_rows-next-requires-clause-i_lt_most_polynomials c).Start in
    let r = c.args.self.now in
    let p = length-take-le r.rows r.patterns (omega arith) in
    let q = length-take-le r.rows r.counts (omega arith) in
    let w = length-take-le r.answered r.answers (omega arith) in (
      omega (arith, c.requires.1),
      q ∙ sym p,
      omega (arith, w, p, c.requires.2),
      omega (arith, p),
    )

pub close-requires : goal.close-requires
close-requires c = (later (goal.at.close-requires c).Start).least_asked

pub copy_front-requires : goal.copy_front-requires
copy_front-requires c =
    let l = few (goal.at.copy_front-requires c).After-find_rows-next c.in-Some.n c.in-Some.is in
    (omega (arith, room (goal.at.copy_front-requires c).After-find_rows-next), omega arith)

pub copy_front-requires-in-Some : goal.copy_front-requires-in-Some
copy_front-requires-in-Some c =
    let l = few (goal.at.copy_front-requires-in-Some c).After-find_rows-next c.in-Some.n c.in-Some.is in (
      some-counts (after (goal.at.copy_front-requires-in-Some c).Start) _ _ _
          (got (goal.at.copy_front-requires-in-Some c).After-find_rows-next c.in-Some.n c.in-Some.is),
      omega arith,
    )

pub next_round-requires-clause-going : goal.next_round-requires-clause-going
next_round-requires-clause-going c =
    let s = moved (goal.at.next_round-requires-clause-going c).After-copy_front-in-Some in
    let r = c.args.self.now in
    let i = r.round - 1 in
    let ws = take r.answered r.answers ++ (c.args.a ∷ []) in
    let k = ends_some i (running_state r).rows ws s.rows s.is (rows_before (goal.at.next_round-requires-clause-going c).Start) in (
      sym (running_with r c.copy_front.new.out c.copy_front-in-Some.new.out) ∙ c.requires.0,
      c.requires.1,
      omega (arith, s.number),
      few (goal.at.next_round-requires-clause-going c).After-find_rows-next c.in-Some.n c.in-Some.is,
    )

pub next_round-requires-clause-rising : goal.next_round-requires-clause-rising
next_round-requires-clause-rising c =
    let s = moved (goal.at.next_round-requires-clause-rising c).After-copy_front-in-Some in
    let r = c.args.self.now in
    let i = r.round - 1 in
    let ws = take r.answered r.answers ++ (c.args.a ∷ []) in
    let R₀ = (running_state r).rows in
    let e : suc (r.round - 1) ≡ r.round = omega (arith, c.requires.1) in
    let below : Below (3 ^ r.round) (patterns s.rows) = rw e at (ends-below i R₀ ws s.rows s.is) in
    (rw s.its_patterns (ends-rising i R₀ ws s.rows s.is), rw s.its_patterns below)

pub returns-in-Some : goal.returns-in-Some
returns-in-Some c =
    let r = c.args.self.now in
    let n = c.in-Some.n in
    let P = c.copy_front.new.out in
    let C = c.copy_front-in-Some.new.out in
    let e = some-held (after (goal.at.returns-in-Some c).Start) (n) P C (moved (goal.at.returns-in-Some c).After-copy_front-in-Some) in
    let k = c.next_round.ensures in
    let l = ends_with r P C (r.round - 1) (rows_with (take (n) P) (take (n) C)) in
    (rw e (k.0 ∙ l), k.1)
