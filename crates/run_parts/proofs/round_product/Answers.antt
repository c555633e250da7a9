-- `run_parts::round_product` meets its contract.
use mathlib.Core.Path.{◌≡◌, refl}
use Prim.Native.Nat.{ℕ, ◌-◌, ◌^◌, ◌≤◌, ◌<◌}
use native.Mathlib.Omega.{arith}
use borrow.Author.Tests.{lt-ltb, le-ltb}
use lib.ListN.{length, get_or, take}
use lib.Seq.{length-take-le, get_or-take}
use Rattle.signs.proofs.Positions.{below_at}
use Rattle.rounds.proofs.Restrict.{three_mono}
use Rattle.runs.specs.Run.{round_product}
use Rattle.run_parts.proofs.round_product.Goals as goal
use Rattle.run_parts.proofs.round_product.Goals.{Start}

-- the front of the list is as long as it should be, and each number there is below 3^i
front : (c : Start) → length (take c.args.n c.args.list.now) ≡ c.args.n
front c = length-take-le c.args.n c.args.list.now c.requires.1

bound : (c : Start) (k : ℕ) → k < c.args.n → get_or c.args.list.now k 0 < 3 ^ c.args.i
bound c k h =
    let b = below_at (3 ^ c.args.i) (take c.args.n c.args.list.now) c.requires.2 k (omega (arith, front c)) in
    rw (get_or-take c.args.n c.args.list.now k 0 h) at b

pub overflow_mul-result : goal.overflow_mul-result
overflow_mul-result c =
    let w : 3 ^ c.args.i ≤ 2187 = three_mono c.args.i 7 (omega (arith, c.requires.0)) in
    omega arith

pub overflow_add-result : goal.overflow_add-result
overflow_add-result c =
    let w : 3 ^ c.args.i ≤ 2187 = three_mono c.args.i 7 (omega (arith, c.requires.0)) in
    let b = bound (goal.at.overflow_add-result c).Start c.args.k c.if-k-n.true in
    omega arith

pub returns-then-k-n : goal.returns-then-k-n
unfolding round_product
returns-then-k-n c =
    rw (
      front (goal.at.returns-then-k-n c).Start,
      lt-ltb c.args.k c.args.n c.if-k-n.true,
      get_or-take c.args.n c.args.list.now c.args.k 0 c.if-k-n.true,
      ← c.power-once.ensures,
    ) refl

pub overflow_add-result-else-k-n : goal.overflow_add-result-else-k-n
overflow_add-result-else-k-n c =
    let w : 3 ^ c.args.i ≤ 2187 = three_mono c.args.i 7 (omega (arith, c.requires.0)) in
    let b = bound (goal.at.overflow_add-result-else-k-n c).Start (c.args.k - c.args.n) (omega arith) in
    omega arith

pub returns-else-k-n : goal.returns-else-k-n
unfolding round_product
returns-else-k-n c =
    rw (
      front (goal.at.returns-else-k-n c).Start,
      le-ltb c.args.k c.args.n c.if-k-n.false,
      get_or-take c.args.n c.args.list.now (c.args.k - c.args.n) 0 (omega arith),
      ← c.power-once.ensures,
    ) refl
