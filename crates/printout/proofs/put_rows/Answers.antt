-- `printout::put_rows` meets its contract: the rows passed are written.
use mathlib.Core.Path.{◌≡◌, refl, ap, ◌∙◌}
use mathlib.Core.List.{List}
use Prim.Native.Nat.{ℕ, ◌<◌}
use native.Mathlib.Numerals.{add-one}
use native.Mathlib.Omega.{arith}
use lib.ListN.{length, take, get_or}
use lib.Seq.{take-length}
use Rattle.std.proofs.lemmas.List.{length_push}
use Rattle.std.proofs.lemmas.Slice.Zip.{zip_turn, zip_end}
use Rattle.rounds.specs.Rows.{rows_with}
use Rattle.lines.proofs.Putting.{put_none, put_more, put_same}
use Rattle.printout.specs.Printout.{row_lines, together}
use Rattle.printout.proofs.Playing.{together_more, rows_more}
use Rattle.printout.proofs.put_rows.Goals as goal
use Rattle.printout.proofs.put_rows.Goals.{In-Some}

pub loop-pattern-init : goal.loop-pattern-init
unfolding together row_lines rows_with
loop-pattern-init c = (refl, omega arith, put_none c.args.out.now c.args.at)

-- the row of this turn
record Turn (P C : List ℕ) (k pattern count : ℕ) : Type 0 where
  pub inside : k < length P
  pub pattern_is : pattern ≡ get_or P k 0
  pub count_is : count ≡ get_or C k 0

turn : (c : In-Some) → Turn c.args.patterns.now c.args.counts.now (length c.loop-pattern.yielded) c.in-Some.pattern.now c.in-Some.count.now
turn c =
    let t = zip_turn c.args.patterns.now c.args.counts.now c.loop-pattern.yielded c.into_iter-pattern-iterator.result
    c.loop-pattern.pattern-iterator c.next.new.self c.next.result (cc) (cc) c.loop-pattern.yielded_by (c.in-Some.pattern, c.in-Some.count)
    c.in-Some.is c.next.ensures.steps in
    record { inside = t.0; pattern_is = t.2 0; count_is = t.3 0 }

pub put_row-end-requires : goal.put_row-end-requires
put_row-end-requires c =
    let t = turn (goal.at.put_row-end-requires c).In-Some in
    omega (arith, t.inside, c.loop-pattern.invariant.0, c.loop-pattern.invariant.1, c.requires.1)

pub loop-pattern-preserved : goal.loop-pattern-preserved
loop-pattern-preserved c =
    let P = c.args.patterns.now in
    let C = c.args.counts.now in
    let k = length c.loop-pattern.yielded in
    let t = turn (goal.at.loop-pattern-preserved c).In-Some in
    let one_more = length_push c.loop-pattern.yielded (c.in-Some.pattern, c.in-Some.count) in (
      omega (arith, c.put_row-end.auto, c.loop-pattern.invariant.0),
      omega (arith, one_more, c.put_row-end.ensures.fits, c.loop-pattern.invariant.1),
      rw (one_more, add-one k)
          (put_same (together_more (row_lines (rows_with (take k P) (take k C))) _ ∙ ap together (rows_more P C k c.requires.0 t.inside))
          (put_more c.loop-pattern.invariant.2 (rw (t.pattern_is, t.count_is) at c.put_row-end.ensures.put))),
    )

pub returns : goal.returns
returns c =
    let P = c.args.patterns.now in
    let C = c.args.counts.now in
    let k = length c.loop-pattern.yielded in
    let z = zip_end P C c.loop-pattern.yielded c.into_iter-pattern-iterator.result c.loop-pattern.pattern-iterator c.next.new.self
    c.next.result
    (cc) (cc) c.loop-pattern.yielded_by c.in-None.is c.next.ensures.steps in
    let e : k ≡ length P = omega (arith, z, c.requires.0) in
    let f : take k P ≡ P = rw e (take-length P) in
    let g : take k C ≡ C = rw (e, ← c.requires.0) (take-length C) in record {
      put = put_same (together_more (row_lines (rows_with P C)) _)
          (put_more (rw (f, g) at c.loop-pattern.invariant.2) c.put_end.ensures.put);
      upper_bound = omega (arith, e, c.put_end.ensures.fits, c.loop-pattern.invariant.1);
    }
