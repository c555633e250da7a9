-- `adapted::split` meets its contract: each turn takes the smallest low part that is left.
use Prim.Native.Nat.{suc, ◌≤◌, ◌<◌, ◌*◌}
use mathlib.Core.Path.{◌≡◌, refl, ◌∙◌}
use native.Mathlib.Omega.{arith}
use lib.ListN.{length, length-set}
use borrow.Author.Tests.{eq-eqb}
use Rattle.adapted.proofs.Merging.{Range, zero_range, plus_range, minus_range, next_left, merge_begins, one_left}
use Rattle.adapted.proofs.Merging.{turned, further, merged}
use Rattle.adapted.proofs.split.Goals as goal
use Rattle.adapted.proofs.split.Goals.{At-loop-w, Else-w-q}

-- what is known at the loop's head: where each block begins and ends
ranges : (c : At-loop-w)
    → Range c.args.l.now
    c.args.w 0 0 c.leading_count-mid.result
    × Range c.args.l.now
    c.args.w
    c.args.w c.leading_count-mid.result
    c.leading_count-top.result
    × Range c.args.l.now
    c.args.w
    (2 * c.args.w) c.leading_count-top.result
    (length c.args.l.now)
ranges c =
    let em = c.leading_count-mid.ensures in
    let et = c.leading_count-top.ensures in (
      zero_range c.args.l.now c.args.w _ _ c.requires.w_bound.1 c.requires.w_bound.2 em et,
      plus_range c.args.l.now c.args.w _ _ c.requires.w_bound.1 c.requires.w_bound.2 em et,
      minus_range c.args.l.now c.args.w _ _ c.requires.w_bound.1 c.requires.w_bound.2 em et,
    )

cursors : (c : At-loop-w) → (c.loop-w.a ≤ 64) × (c.loop-w.b ≤ 64) × (c.loop-w.c ≤ 64)
cursors c =
    let g = ranges c in
    let m = c.loop-w.invariant.3.1 in
    let h = c.requires.w_bound.3 in (
      omega (arith, m.zero-block.to_le, g.0.within),
      omega (arith, m.plus_block.to_le, g.1.within),
      omega (arith, m.minus-block.to_le),
    )

abbrev at_loop : (c : Else-w-q) → At-loop-w
at_loop c = (goal.at.Else-w-q c).At-loop-w

-- in a turn there is room for one more
room : (c : Else-w-q)
    → (c.loop-w.n < length
    c.args.l.now)
    × (length c.args.l.now ≤ 64)
    × (length c.args.l.now ≤ length
    c.loop-w.low)
    × (length c.args.l.now ≤ length
    c.loop-w.mark)
    × (length c.args.l.now ≤ length
    c.loop-w.at)
room c = (
  one_left c.args.l.now
      c.args.w
      c.leading_count-mid.result
      c.leading_count-top.result
      c.requires.w_bound.1
      c.requires.w_bound.2
      c.leading_count-mid.ensures
      c.leading_count-top.ensures
      c.loop-w.low c.loop-w.mark
      c.loop-w.at c.loop-w.a
      c.loop-w.b c.loop-w.c
      c.loop-w.n c.loop-w.invariant.3.0
      c.loop-w.invariant.3.1
      c.head-x.result c.head-y.result c.head-z.result
      c.least-q.result c.head-x.ensures c.head-y.ensures
      c.head-z.ensures c.least-q.ensures
      c.if-w-q.false,
  c.requires.w_bound.3,
  omega (
    arith,
    c.requires.l_in_bounds.0,
    c.loop-w.invariant.0,
  ),
  omega (
    arith,
    c.requires.l_in_bounds.1,
    c.loop-w.invariant.1,
  ),
  omega (
    arith,
    c.requires.l_in_bounds.2,
    c.loop-w.invariant.2,
  ),
)

-- a cursor whose low part is taken is in its block
firsts : (c : Else-w-q)
    → (c.head-x.result ≡ c.least-q.result
    → c.loop-w.a < length c.loop-w.at)
    × (c.head-y.result ≡ c.least-q.result
    → c.loop-w.b < length c.loop-w.at)
    × (c.head-z.result ≡ c.least-q.result
    → c.loop-w.c < length c.loop-w.at)
firsts c =
    let m = c.loop-w.invariant.3.1 in
    let g = ranges (at_loop c) in
    let r = c.requires.w_bound.1 in (
      λ e. omega (
        arith,
        next_left g.0 r m.zero-block _ c.head-x.ensures c.least-q.result
            c.if-w-q.false (eq-eqb _ _ e),
        g.0.within,
        room c,
      ),
      λ e. omega (
        arith,
        next_left g.1 r m.plus_block _ c.head-y.ensures c.least-q.result
            c.if-w-q.false (eq-eqb _ _ e),
        g.1.within,
        room c,
      ),
      λ e. omega (
        arith,
        next_left g.2 r m.minus-block _ c.head-z.ensures c.least-q.result c.if-w-q.false
            (eq-eqb _ _ e),
        room c,
      ),
    )

pub loop-w-init : goal.loop-w-init
loop-w-init c = (
  refl,
  refl,
  refl,
  (
    0,
    merge_begins c.args.l.now
        c.args.w _ _ c.requires.w_bound.1
        c.requires.w_bound.2 c.leading_count-mid.ensures
        c.leading_count-top.ensures _ _ _,
  ),
)

pub returns-then-w-q : goal.returns-then-w-q
returns-then-w-q c =
    merged c.args.l.now
    c.args.w
    c.leading_count-mid.result
    c.leading_count-top.result
    c.requires.w_bound.1
    c.requires.w_bound.2
    c.leading_count-mid.ensures
    c.leading_count-top.ensures
    c.loop-w.low c.loop-w.mark
    c.loop-w.at c.loop-w.a
    c.loop-w.b c.loop-w.c
    c.loop-w.n c.loop-w.invariant.3.0
    c.loop-w.invariant.3.1
    c.head-x.result c.head-y.result c.head-z.result
    c.least-q.result c.head-x.ensures c.head-y.ensures
    c.head-z.ensures c.least-q.ensures
    c.if-w-q.true

pub bounds-low-n : goal.bounds-low-n
bounds-low-n c = omega (arith, room c)

pub bounds-mark-n : goal.bounds-mark-n
bounds-mark-n c = omega (arith, room (goal.at.bounds-mark-n c).Else-w-q)

pub advance-a-requires : goal.advance-a-requires
advance-a-requires c = (
  λ e. omega (arith, (firsts (goal.at.advance-a-requires c).Else-w-q).0 e),
  omega (arith, cursors (at_loop (goal.at.advance-a-requires c).Else-w-q)),
  omega (arith, room (goal.at.advance-a-requires c).Else-w-q),
)

pub advance-b-requires : goal.advance-b-requires
advance-b-requires c = (
  λ i.
      let k : length c.advance-a.new.at
      ≡ length c.loop-w.at = c.advance-a.auto.at in
      omega (arith, (firsts (goal.at.advance-b-requires c).Else-w-q).1 i),
  omega (arith, cursors (at_loop (goal.at.advance-b-requires c).Else-w-q)),
  omega (arith, room (goal.at.advance-b-requires c).Else-w-q),
)

pub advance-c-requires : goal.advance-c-requires
advance-c-requires c = (
  λ i.
      let k : length c.advance-a.new.at
      ≡ length c.loop-w.at = c.advance-a.auto.at in
      let k₂ : length c.advance-b.new.at
      ≡ length c.advance-a.new.at = c.advance-b.auto.at in
      omega (arith, (firsts (goal.at.advance-c-requires c).Else-w-q).2 i),
  omega (arith, cursors (at_loop (goal.at.advance-c-requires c).Else-w-q)),
  omega (arith, room (goal.at.advance-c-requires c).Else-w-q),
)

pub loop-w-smaller : goal.loop-w-smaller
loop-w-smaller c =
    let f = further c.args.l.now
    c.args.w
    c.leading_count-mid.result
    c.leading_count-top.result
    c.requires.w_bound.1
    c.requires.w_bound.2
    c.leading_count-mid.ensures
    c.leading_count-top.ensures
    c.loop-w.low
    c.loop-w.mark
    c.loop-w.at
    c.loop-w.a
    c.loop-w.b
    c.loop-w.c
    c.loop-w.n
    c.loop-w.invariant.3.0
    c.loop-w.invariant.3.1
    c.head-x.result
    c.head-y.result c.head-z.result
    c.least-q.result
    c.head-x.ensures
    c.head-y.ensures c.head-z.ensures
    c.least-q.ensures
    c.marks.result
    c.if-w-q.false
    c.marks.ensures
    (room (goal.at.loop-w-smaller c).Else-w-q).2
    (room (goal.at.loop-w-smaller c).Else-w-q).3
    (room (goal.at.loop-w-smaller c).Else-w-q).4 in
    omega (
      arith,
      f,
      c.advance-a.ensures.value,
      c.advance-b.ensures.value,
      c.advance-c.ensures.value,
    )

pub loop-w-preserved : goal.loop-w-preserved
loop-w-preserved c = (
  simp length-set c.loop-w.invariant.0,
  simp length-set c.loop-w.invariant.1,
  c.advance-c.auto.at ∙ c.advance-b.auto.at
      ∙ c.advance-a.auto.at
      ∙ c.loop-w.invariant.2,
  (
    suc c.least-q.result,
    rw (
      c.advance-a.ensures.value,
      c.advance-b.ensures.value,
      c.advance-c.ensures.value,
    )
        (turned c.args.l.now
        c.args.w
        c.leading_count-mid.result
        c.leading_count-top.result
        c.requires.w_bound.1
        c.requires.w_bound.2
        c.leading_count-mid.ensures
        c.leading_count-top.ensures
        c.loop-w.low
        c.loop-w.mark
        c.loop-w.at
        c.loop-w.a
        c.loop-w.b
        c.loop-w.c
        c.loop-w.n
        c.loop-w.invariant.3.0
        c.loop-w.invariant.3.1
        c.head-x.result
        c.head-y.result
        c.head-z.result c.least-q.result
        c.head-x.ensures
        c.head-y.ensures
        c.head-z.ensures c.least-q.ensures
        c.marks.result
        c.if-w-q.false
        c.marks.ensures
        (room (goal.at.loop-w-preserved c).Else-w-q).2
        (room (goal.at.loop-w-preserved c).Else-w-q).3
        (room (goal.at.loop-w-preserved c).Else-w-q).4 _ _ _
        c.advance-a.ensures.at_after
        c.advance-b.ensures.at_after c.advance-c.ensures.at_after),
  ),
)
