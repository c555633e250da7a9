-- `signs::sign` meets its contract: the digits say it.
use mathlib.Core.Path.{◌∙◌}
use mir.Syntax.{w64}
use mir.Facts.{to_z-of_z}
use Rattle.signs.proofs.Digitwise.{sign_bits_lem}
use Rattle.signs.proofs.sign.Goals as goal

pub returns : goal.returns
returns c =
    let a = c.digit_sets-2.ensures in
    let b = c.digit_sets.ensures in
    to_z-of_z {w = w64} (record { sfits = c.sign_by.type_inv }) ∙ (rw (b.0, b.1, a.0, a.1) at c.sign_by.ensures)
    ∙ sign_bits_lem c.args.s c.args.a.0 c.args.p.0 c.requires.1 c.requires.2
