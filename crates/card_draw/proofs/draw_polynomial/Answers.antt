-- `card_draw::draw_polynomial` meets its contract.
use mathlib.Core.Path.{ap, ◌∙◌}
use Prim.Native.Nat.{◌+◌}
use native.Mathlib.Omega.{arith}
use borrow.Author.Rules.{rules, sfits_of}
use lib.IntN.{pos}
use lib.ListN.{get_or}
use mir.Syntax.{w64}
use mir.Val.{SFits}
use mir.Facts.{to_z-of_z}
use Rattle.integers.proofs.I64.{back_64}
use Rattle.card_draw.specs.Drawn.{top}
use Rattle.card_draw.proofs.Storing.{polynomial_stored}
use Rattle.card_draw.proofs.draw_polynomial.Goals as goal

pub returns : goal.returns
returns c =
    let x = get_or c.draw_numbers-next.new.out (c.args.at + c.args.d) (pos 0) in
    let g : SFits w64 x = search rules in
    let f = back_64 x g in (
      c.draw_numbers-next.ensures.0,
      polynomial_stored _ _ c.args.at c.args.d c.args.state _ (omega (arith, c.requires)) c.draw_numbers-next.ensures.1
          (to_z-of_z {w = w64} (sfits_of c.nonzero_top.type_inv) ∙ c.nonzero_top.ensures ∙ ap (top c.args.d) f),
    )
