-- `layout::number` meets its contract.
use mathlib.Core.Path.{ap, ◌∙◌}
use Prim.Native.Nat.{◌^◌}
use borrow.Author.Rules.{sfits_of}
use mir.Syntax.{w32, w64}
use mir.Facts.{to_z-of_z}
use Rattle.layout.specs.Format.{two's}
use Rattle.layout.proofs.Twos.{signed_word}
use Rattle.layout.proofs.number.Goals as goal

pub returns : goal.returns
returns c =
    to_z-of_z {w = w64} (sfits_of c.from.type_inv) ∙ c.from.ensures ∙ to_z-of_z {w = w32} (sfits_of c.cast_signed.type_inv)
    ∙ c.cast_signed.ensures ∙ signed_word _ c.word.type_inv ∙ ap (two's (2 ^ 31)) c.word.ensures
