-- `lines::put_long` meets its contract.
use mathlib.Core.Path.{◌≡◌, sym, ap, ◌∙◌}
use lib.ListN.{length, take}
use lib.Seq.{length-take-le}
use Rattle.lines.specs.Text.{decimal}
use Rattle.lines.proofs.Decimals.{digits_decimal}
use Rattle.lines.proofs.Putting.{put_copy}
use Rattle.lines.proofs.put_long.Goals as goal
use Rattle.lines.proofs.put_long.Goals.{After-decimal-k}

-- what `io::decimal` wrote
wrote : (c : After-decimal-k) → take c.decimal-k.result c.decimal-k.new.out ≡ decimal c.args.n
wrote c =
    c.decimal-k.ensures.digits ∙ digits_decimal c.args.n c.decimal-k.result c.decimal-k.ensures.len

-- and how long it is
long : (c : After-decimal-k) → c.decimal-k.result ≡ length (decimal c.args.n)
long c = sym (length-take-le c.decimal-k.result c.decimal-k.new.out c.decimal-k.ensures.in_bounds.0) ∙ ap length (wrote c)

pub copy_at-requires : goal.copy_at-requires
copy_at-requires c = rw (wrote (goal.at.copy_at-requires c).After-decimal-k) c.requires

pub returns : goal.returns
returns c =
    let e = rw (wrote (goal.at.returns c).After-decimal-k) at c.copy_at.ensures in
    put_copy c.args.out.now (decimal c.args.n) _ c.args.at c.decimal-k.result c.requires e (long (goal.at.returns c).After-decimal-k)
