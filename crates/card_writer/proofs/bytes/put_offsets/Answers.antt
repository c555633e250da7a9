-- `card_writer::bytes::put_offsets` meets its contract: the offsets left, put from the present byte on, give the run.
use mathlib.Core.Path.{◌≡◌, ◌∙◌, refl}
use mathlib.Core.Bool.{false}
use mathlib.Core.List.{[], List}
use Prim.Native.Nat.{ℕ, ◌≤◌, ◌<◌}
use native.Mathlib.Omega.{arith}
use borrow.Author.Tests.{ltb-false}
use lib.Dec.{ltb}
use lib.ListN.{length, get_or, drop}
use lib.Seq.{drop-length}
use Rattle.card_bytes.specs.Bytes.{offsets}
use Rattle.card_bytes.specs.Causes.{some}
use Rattle.card_writer.proofs.Checked.{some_at}
use Rattle.card_writer.proofs.Turns.{offsets_turn}
use Rattle.card_writer.proofs.bytes.put_offsets.Goals as goal

-- the degree that a turn reads
low : (ds : List ℕ) (j : ℕ) → some (ltb 6) ds ≡ false → j < length ds → get_or ds j 0 ≤ 6
low ds j h t = ltb-false 6 _ (some_at (ltb 6) ds j 0 h t)

pub overflow_add-begins : goal.overflow_add-begins
overflow_add-begins c = omega (arith, low c.args.degrees.now c.loop-j.j c.requires.degrees_len_bound.1 c.loop-j-test.true)

pub overflow_mul-begins : goal.overflow_mul-begins
overflow_mul-begins c = omega (arith, low c.args.degrees.now c.loop-j.j c.requires.degrees_len_bound.1 c.loop-j-test.true)

pub overflow_add-begins-in-loop-j : goal.overflow_add-begins-in-loop-j
overflow_add-begins-in-loop-j c = omega (arith, low c.args.degrees.now c.loop-j.j c.requires.degrees_len_bound.1 c.loop-j-test.true)

pub overflow_add-begins-in-loop-j-2 : goal.overflow_add-begins-in-loop-j-2
overflow_add-begins-in-loop-j-2 c = omega (arith, low c.args.degrees.now c.loop-j.j c.requires.degrees_len_bound.1 c.loop-j-test.true)

pub loop-j-preserved : goal.loop-j-preserved
loop-j-preserved c =
    let t = c.loop-j-test.true in (
      c.put_number.auto.out ∙ c.loop-j.invariant.0,
      omega (arith, low c.args.degrees.now c.loop-j.j c.requires.degrees_len_bound.1 c.loop-j-test.true),
      rw c.put_number.ensures (offsets_turn c.args.degrees.now c.loop-j.out c.loop-j.begins c.loop-j.j t ∙ c.loop-j.invariant.2),
    )

pub returns : goal.returns
unfolding offsets
returns c =
    let ds = c.args.degrees.now in
    let e : c.loop-j.j ≡ length ds = omega arith in
    let f : drop c.loop-j.j ds ≡ [] = rw e (drop-length ds) in
    c.put_number-2.ensures ∙ rw (f, e) at c.loop-j.invariant.2 ∙ rw c.bodies_from-begins.ensures refl
