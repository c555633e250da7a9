-- `lines::put_natural` meets its contract.
use mathlib.Core.Path.{◌≡◌, sym, ap, ◌∙◌}
use mathlib.Core.List.{[], ◌∷◌, ◌++◌}
use Prim.Native.Nat.{◌+◌, ◌/◌, ◌%◌}
use native.Mathlib.Omega.{arith}
use lib.ListN.{length, length-append}
use Rattle.lines.specs.Text.{digit, decimal}
use Rattle.lines.proofs.Decimals.{last_digit, tens_less, decimal-ends}
use Rattle.lines.proofs.Putting.{put_more, put_same}
use Rattle.lines.proofs.put_natural.Goals as goal
use Rattle.lines.proofs.put_natural.Goals.{In-100-to-9999}

-- two digits after what comes first
longer : (c : In-100-to-9999) → let n = c.args.n in length (decimal n) ≡ length (decimal (n / 10 / 10)) + 2
longer c =
    let n = c.args.n in
    let t = decimal (n / 10 / 10) ++ (digit (n / 10 % 10) ∷ []) in
    ap length (decimal-ends n (omega arith))
    ∙ omega (arith, length-append t (digit (n % 10) ∷ []), length-append (decimal (n / 10 / 10)) (digit (n / 10 % 10) ∷ []))

pub put_short-j-requires : goal.put_short-j-requires
put_short-j-requires c = (
  omega (arith, longer (goal.at.put_short-j-requires c).In-100-to-9999, c.requires),
  tens_less (c.args.n / 10) 100 (tens_less c.args.n 1000 (omega arith)),
)

pub put_digit-k-requires : goal.put_digit-k-requires
put_digit-k-requires c = (
  omega (arith, longer (goal.at.put_digit-k-requires c).In-100-to-9999, c.requires, c.put_short-j.auto, c.put_short-j.ensures.ends),
  last_digit (c.args.n / 10),
)

pub put_digit-requires : goal.put_digit-requires
put_digit-requires c = (
  omega (
    arith,
    longer (goal.at.put_digit-requires c).In-100-to-9999,
    c.requires,
    c.put_short-j.auto,
    c.put_short-j.ensures.ends,
    c.put_digit-k.auto,
    c.put_digit-k.ensures.ends,
  ),
  last_digit c.args.n,
)

pub returns-in-100-to-9999 : goal.returns-in-100-to-9999
returns-in-100-to-9999 c =
    put_same (sym (decimal-ends c.args.n (omega arith)))
    (put_more (put_more c.put_short-j.ensures
    c.put_digit-k.ensures)
    c.put_digit.ensures)
