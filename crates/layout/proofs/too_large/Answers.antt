-- `layout::too_large` meets its contract.
use mathlib.Core.Path.{ap, ◌∙◌}
use borrow.Author.Rules.{sfits_of}
use lib.Dec.{ltb}
use lib.IntN.{nat_abs}
use mir.Syntax.{w32}
use mir.Facts.{to_z-of_z}
use Rattle.layout.proofs.Twos.{signed_word}
use Rattle.layout.proofs.too_large.Goals as goal

pub returns : goal.returns
returns c =
    ap (ltb 1000000) (c.unsigned_abs.ensures.value
    ∙ ap nat_abs (to_z-of_z {w = w32} (sfits_of c.cast_signed.type_inv) ∙ c.cast_signed.ensures ∙ signed_word _ c.ranges.word.fits))
