-- `run_parts::find_rows` meets its contract: the two halves of the answers are copied, the last one put behind, and passed on.
use mathlib.Core.Path.{◌≡◌, refl}
use native.Mathlib.Omega.{arith}
use lib.ListN.{length}
use mir.Syntax.{w16, w64}
use mir.Val.{to_z, of_z}
use Rattle.integers.proofs.I16.{back, fits-small}
use Rattle.integers.proofs.I64.{back_64}
use Rattle.run_parts.proofs.AnswerLaws.{rest, first-outside, second-outside, Given, given}
use Rattle.run_parts.proofs.find_rows.Goals as goal
use Rattle.run_parts.proofs.find_rows.Goals.{Else-not-copy_answers-2, Start}

-- the last answer, as the code narrows it
last_is : (s : Start) → to_z w16 (of_z w16 (to_z w64 (of_z w64 s.args.last))) ≡ s.args.last
last_is s =
    rw (back_64 s.args.last s.ranges.last) (back s.args.last (fits-small s.args.last (omega (arith, s.requires.last_bound.0))))

pub returns-then-not-copy_answers : goal.returns-then-not-copy_answers
returns-then-not-copy_answers c =
    rw (
    first-outside c.args.i c.args.patterns.now c.args.counts.now c.args.answers.now c.args.last c.requires.i_lt_most_polynomials.1
    c.requires.i_lt_most_polynomials.2
    (rw (c.if-not-copy_answers.true) at c.copy_answers.ensures)
    )
    refl

pub returns-then-not-copy_answers-2 : goal.returns-then-not-copy_answers-2
returns-then-not-copy_answers-2 c =
    rw (
    second-outside c.args.i c.args.patterns.now c.args.counts.now c.args.answers.now c.args.last c.requires.i_lt_most_polynomials.1
    c.requires.i_lt_most_polynomials.2
    (rw (c.if-not-copy_answers-2.true, rest (length c.args.patterns.now) c.args.answers.now) at c.copy_answers-2.ensures)
    )
    refl

-- what the call is given, where both halves are small
given_here : (c : Else-not-copy_answers-2)
    → Given c.args.i c.args.patterns.now c.args.counts.now c.args.answers.now c.args.last c.requires.i_lt_most_polynomials.1
    c.requires.i_lt_most_polynomials.2
    c.copy_answers.new.out c.copy_answers-2.new.out
given_here c =
    given c.args.i c.args.patterns.now c.args.counts.now c.args.answers.now c.args.last c.requires.i_lt_most_polynomials.1
    c.requires.i_lt_most_polynomials.2
    _ _ c.requires.last_bound.0 (omega (arith, c.requires.i_lt_most_polynomials, c.copy_answers-2.auto.out))
    (rw (c.if-not-copy_answers.false) at c.copy_answers.ensures)
    (rw (c.if-not-copy_answers-2.false, rest (length c.args.patterns.now) c.args.answers.now) at c.copy_answers-2.ensures)

pub next_rows-requires : goal.next_rows-requires
next_rows-requires c =
    let g = given_here (goal.at.next_rows-requires c).Else-not-copy_answers-2 in
    let e₀ = last_is (goal.at.next_rows-requires c).Start in
    record {
      i_lt_most_polynomials = rw e₀ (c.requires.i_lt_most_polynomials.0, c.requires.i_lt_most_polynomials.1, g.long₁, g.long₂);
      within = rw e₀ (g.within₁, g.within₂, c.requires.last_bound.1, c.requires.last_bound.2);
    }

pub returns : goal.returns
returns c =
    let g = given_here (goal.at.returns c).Else-not-copy_answers-2 in
    rw (last_is (goal.at.returns c).Start, g.whole) at c.next_rows.ensures
