-- The length of a line's array, from what owning the line tells.
use mathlib.Core.Path.{◌≡◌}
use mathlib.Core.List.{[], ◌∷◌}
use lib.ListN.{length}
use denote.Laws.{Is}
use denote.Struct.Declared as SD
use denote.Struct.Laws as SL
use Rattle.lines.specs.declared.Line.{Line}
use Rattle.lines.specs.Text.{line_room}
use Rattle.lines.specs.contracts.Line as line-type
use Rattle.lines.proofs.Line.TheLaws as line-laws

pub bytes-length : (l : Line) → Is (SD.row line-type.the_type) l (SL.val line-type.the_type line-laws.the_laws l ∷ [])
    → length l.bytes ≡ line_room
bytes-length l g = g.1.1.0.1.0.1
