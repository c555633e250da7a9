-- `Run::begin` meets its contract.
use mathlib.Core.Path.{◌≡◌, sym, ap, ◌∙◌}
use Prim.Native.Nat.{◌^◌, ◌≤◌}
use native.Mathlib.Omega.{arith}
use lib.ListN.{length, take, length-take}
use lib.Seq.{length-take-le}
use Rattle.signs.specs.Adapted.{adapted}
use Rattle.signs.proofs.Size.{as_many}
use Rattle.adapted.proofs.Stores.{take_sets}
use Rattle.rounds.proofs.Restrict.{three_mono}
use Rattle.runs.proofs.Held.{shift_none}
use Rattle.run_record.proofs.Rounds.{begun, list_below}
use Rattle.run_record.proofs.Run.begin.Goals as goal
use Rattle.run_record.proofs.Run.begin.Goals.{After-adapted, Start}

-- the patterns are as many as the rows, and the products as many as these
front : (c : Start) → length (take c.args.rows c.args.self.now.patterns) ≡ c.args.rows
front c = length-take-le c.args.rows c.args.self.now.patterns (omega (arith, c.requires.rising.1))

as_long : (c : Start) → c.args.rows ≡ length (adapted c.args.i (take c.args.rows c.args.self.now.patterns))
as_long c = sym (as_many c.args.i (take c.args.rows c.args.self.now.patterns) c.requires.rising.2 c.requires.rising.3 ∙ front c)

-- what the call wrote
written : (c : After-adapted) → take c.args.rows c.adapted.new.out ≡ adapted c.args.i (take c.args.rows c.args.self.now.patterns)
written c =
    let A = adapted c.args.i (take c.args.rows c.args.self.now.patterns) in
    rw (c.adapted.ensures.out_after, shift_none A)
    (take_sets A c.args.self.now.products c.args.rows (as_long (goal.at.After-adapted c).Start)
    (omega (arith, c.requires.rising.1)))

pub adapted-requires-clause-i_le_most_polynomials : goal.adapted-requires-clause-i_le_most_polynomials
adapted-requires-clause-i_le_most_polynomials c =
    let w : 3 ^ c.args.i ≤ 6561 = three_mono c.args.i 8 (omega (arith, c.requires.phase_value.1, c.requires.phase_value.2)) in
    (omega (arith, c.requires.phase_value.1, c.requires.phase_value.2), omega arith)

pub round_product-product-requires : goal.round_product-product-requires
round_product-product-requires c =
    let Q = c.adapted.new.out in
    let w = written (goal.at.round_product-product-requires c).After-adapted in (
      omega (arith, c.requires.phase_value.1, c.requires.phase_value.2),
      omega (arith, as_long (goal.at.round_product-product-requires c).Start, ap length w, length-take c.args.rows Q),
      list_below c.args.i (take c.args.rows Q) _ w,
      omega (arith, c.requires.rising.0),
    )

pub returns : goal.returns
returns c =
    let a = c.args in
    begun a.self.now a.i a.n a.rows c.adapted.new.out (omega arith) (omega arith)
    c.requires.phase_value.0 c.requires.phase_value.1 c.requires.phase_value.2 c.requires.phase_value.3 c.requires.phase_value.4
    c.requires.rising.0 c.requires.rising.1 (written (goal.at.returns c).After-adapted)
    c.round_product-product.result.0 c.round_product-product.ensures
