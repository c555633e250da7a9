-- `query::open` meets its contract.
use mathlib.Core.Path.{sym, ap, ◌∙◌}
use Rattle.card.proofs.Sound.{unrefused}
use Rattle.card.proofs.Positions.{Taken, taken}
use Rattle.query.specs.Opened.{opened_refused}
use Rattle.query.proofs.Opening.{opened-sound, opened_read}
use Rattle.query.proofs.open.Goals as goal
use Rattle.query.proofs.open.Goals.{In-Ok}

read_as : (c : In-Ok) → Taken c.args.card.now c.in-Ok.shape.polynomials c.in-Ok.shape.points
read_as c = taken _ c.in-Ok.shape (sym c.in-Ok.ensures)

pub open_sound-requires : goal.open_sound-requires
open_sound-requires c = let t = read_as c in (t.card, t.s_is, t.n_is)

pub returns-in-Ok : goal.returns-in-Ok
returns-in-Ok c = c.open_sound.ensures ∙ sym (opened-sound _ (unrefused _ (read_as (goal.at.returns-in-Ok c).In-Ok).card))

pub returns-in-Err : goal.returns-in-Err
returns-in-Err c = ap opened_refused c.number.ensures ∙ opened_read _ _ (sym c.in-Err.ensures)
