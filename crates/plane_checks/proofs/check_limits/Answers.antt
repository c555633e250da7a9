-- `plane_checks::check_limits` meets its contract. The loop's invariant: no coefficient below i is outside its limits.
use mathlib.Core.Path.{◌≡◌, sym, ap, ◌∙◌}
use mathlib.Core.Bool.{Bool, true, false}
use Prim.Native.Nat.{ℕ, ◌^◌}
use native.Mathlib.Omega.{arith}
use Rattle.integers.specs.Search.{outside}
use Rattle.integers.proofs.Search.{some_none, some_more}
use Rattle.refusals.specs.Refusals.{checked}
use Rattle.layout.specs.Format.{two's}
use Rattle.plane_checks.proofs.Terms.{cause-some}
use Rattle.plane_checks.proofs.check_limits.Goals as goal

pub loop-i-init : goal.loop-i-init
loop-i-init c = some_none _

-- the test t of the four bytes w, which are v
tested : (v w : ℕ) (t b : Bool) → w ≡ v → t ≡ outside 1000000 (two's (2 ^ 31) w) → t ≡ b → outside 1000000 (two's (2 ^ 31) v) ≡ b
tested v w t b e d h = rw (← e) (sym d ∙ h)

pub returns-then-too_large : goal.returns-then-too_large
returns-then-too_large c =
    ap checked (cause-some 5 _ _ c.loop-i.i (omega arith)
    (tested _ _ _ true c.word.ensures c.too_large.ensures c.if-too_large.true))

pub loop-i-preserved : goal.loop-i-preserved
loop-i-preserved c =
    some_more _ c.loop-i.i c.loop-i.invariant (tested _ _ _ false c.word.ensures c.too_large.ensures c.if-too_large.false)
