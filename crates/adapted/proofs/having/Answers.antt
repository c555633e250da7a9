-- `adapted::having` meets its contract: what the elements passed leave is written.
use mathlib.Core.Path.{refl}
use native.Mathlib.Omega.{arith}
use native.Mathlib.Nat.{zero-add}
use lib.ListN.{length, take, length-take, length-append}
use lib.Seq.{length-sets}
use Rattle.std.proofs.lemmas.List.{length_push}
use Rattle.std.proofs.lemmas.Slice.Zip.{zip_turn}
use Rattle.signs.proofs.Positions.{below_at}
use Rattle.adapted.specs.Split.{chosen}
use Rattle.adapted.proofs.Merge.{chosen-length, chosen_next}
use Rattle.adapted.proofs.Stores.{sets_append}
use Rattle.adapted.proofs.having.Goals as goal

pub loop-q-init : goal.loop-q-init
unfolding chosen
loop-q-init c = (refl, refl)

pub choose-n-requires : goal.choose-n-requires
choose-n-requires c =
    let a = c.args in
    let j = length c.loop-q.yielded in
    let t = zip_turn a.low.now a.mark.now c.loop-q.yielded c.into_iter-q-iterator.result c.loop-q.q-iterator c.next.new.self c.next.result
    (cc) (cc)
    c.loop-q.yielded_by (c.in-Some.q, c.in-Some.m) c.in-Some.is c.next.ensures.steps in (
      omega (arith, t.3 0, below_at 8 a.mark.now c.requires.1 j (omega (arith, t.1))),
      rw (c.loop-q.invariant.1, length-sets)
          (omega (arith, t.0, chosen-length a.k (take j a.low.now) (take j a.mark.now), length-take j a.low.now)),
    )

pub loop-q-preserved : goal.loop-q-preserved
loop-q-preserved c =
    let a = c.args in
    let t = zip_turn a.low.now a.mark.now c.loop-q.yielded c.into_iter-q-iterator.result c.loop-q.q-iterator c.next.new.self c.next.result
    (cc) (cc)
    c.loop-q.yielded_by (c.in-Some.q, c.in-Some.m) c.in-Some.is c.next.ensures.steps in
    let next = chosen_next a.k (length c.loop-q.yielded) a.low.now a.mark.now t.0 c.requires.0 in
    let one_more = length_push c.loop-q.yielded (c.in-Some.q, c.in-Some.m) in (
      rw (one_more, next, length-append, ← c.loop-q.invariant.0, ← t.2 0, ← t.3 0) c.choose-n.ensures.value,
      rw (one_more, next, sets_append, zero-add, ← c.loop-q.invariant.0, ← c.loop-q.invariant.1, ← t.2 0, ← t.3 0)
          c.choose-n.ensures.out_after,
    )
