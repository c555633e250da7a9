-- The front of a list, lent and given back as long as it was, is still within the list.
use mathlib.Core.Path.{◌≡◌}
use mathlib.Core.List.{List, ◌++◌}
use Prim.Native.Nat.{ℕ, ◌≤◌}
use native.Mathlib.Omega.{arith}
use lib.ListN.{length, take, drop}
use lib.Seq.{length_front}

pub front-within : {A : Type 0} (d e : List A) (n : ℕ)
    → length e ≡ length (take n d) → n ≤ length d → n ≤ length (e ++ drop n d)
front-within d e n l h = omega (arith, length_front d e n l)
