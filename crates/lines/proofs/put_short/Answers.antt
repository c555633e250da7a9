-- `lines::put_short` meets its contract.
use mathlib.Core.Path.{◌≡◌, sym, ap}
use mathlib.Core.List.{[], ◌∷◌}
use Prim.Native.Nat.{◌/◌, ◌%◌}
use native.Mathlib.Omega.{arith}
use lib.ListN.{length}
use Rattle.lines.specs.Text.{digit, decimal}
use Rattle.lines.proofs.Decimals.{last_digit, tens_less, decimal-one, decimal_two}
use Rattle.lines.proofs.Putting.{put_more, put_same}
use Rattle.lines.proofs.put_short.Goals as goal
use Rattle.lines.proofs.put_short.Goals.{Else-n-lt10, Then-n-lt10}

-- the two arms
one : (c : Then-n-lt10) → decimal c.args.n ≡ digit c.args.n ∷ []
one c = decimal-one c.args.n c.if-n-lt10.true

two : (c : Else-n-lt10) → let n = c.args.n in decimal n ≡ digit (n / 10) ∷ digit (n % 10) ∷ []
two c = decimal_two c.args.n c.if-n-lt10.false c.requires.1

pub put_digit-requires : goal.put_digit-requires
put_digit-requires c = (omega (arith, ap length (one (goal.at.put_digit-requires c).Then-n-lt10), c.requires.0), c.if-n-lt10.true)

pub returns-then-n-lt10 : goal.returns-then-n-lt10
returns-then-n-lt10 c = put_same (sym (one (goal.at.returns-then-n-lt10 c).Then-n-lt10)) c.put_digit.ensures

pub put_digit-k-requires : goal.put_digit-k-requires
put_digit-k-requires c =
    (omega (arith, ap length (two (goal.at.put_digit-k-requires c).Else-n-lt10), c.requires.0), tens_less c.args.n 10 c.requires.1)

pub put_digit-requires-2 : goal.put_digit-requires-2
put_digit-requires-2 c = (
  omega (
    arith,
    ap length (two (goal.at.put_digit-requires-2 c).Else-n-lt10),
    c.requires.0,
    c.put_digit-k.auto,
    c.put_digit-k.ensures.ends,
  ),
  last_digit c.args.n,
)

pub returns : goal.returns
returns c =
    put_same (sym (two (goal.at.returns c).Else-n-lt10))
    (put_more c.put_digit-k.ensures c.put_digit-2.ensures)
