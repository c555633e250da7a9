-- `layout::point` meets its contract.
use mathlib.Core.Path.{◌∙◌}
use borrow.Author.Rules.{sfits_of}
use mir.Syntax.{w8, w64}
use mir.Facts.{to_z-of_z}
use Rattle.layout.proofs.Twos.{signed_byte}
use Rattle.layout.proofs.point.Goals as goal

pub returns : goal.returns
returns c =
    to_z-of_z {w = w64} (sfits_of c.from.type_inv) ∙ c.from.ensures ∙ to_z-of_z {w = w8} (sfits_of c.cast_signed.type_inv)
    ∙ c.cast_signed.ensures ∙ signed_byte _ (c.type_inv.card _).fits
