-- `signs::bound` meets its contract: 3^s is three times 3^(s − 1).
use mathlib.Core.Path.{◌≡◌, ap}
use Prim.Native.Nat.{ℕ, suc, ◌*◌, ◌-◌, ◌^◌, ◌<◌}
use native.Mathlib.Nat.{pow-succ'}
use native.Mathlib.Omega.{arith}
use Rattle.signs.proofs.Powers.{power-most}
use Rattle.signs.proofs.bound.Goals as goal
use Rattle.signs.proofs.bound.Goals.{After-power}

three_times : (s w : ℕ) → 0 < s → w ≡ 3 ^ (s - 1) → 3 * w ≡ 3 ^ s
three_times s w h e =
    let f : suc (s - 1) ≡ s = omega arith in
    omega (arith, e, pow-succ' 3 (s - 1), ap (λ (k : ℕ). 3 ^ k) f)

is_three_times : (c : After-power) → 3 * c.power.result ≡ 3 ^ c.args.s
is_three_times c = three_times _ _ (omega arith) c.power.ensures

pub overflow_mul-result : goal.overflow_mul-result
overflow_mul-result c = omega (arith, is_three_times c, power-most c.args.s c.requires)

pub returns-else-s-eq0 : goal.returns-else-s-eq0
returns-else-s-eq0 c = is_three_times c
