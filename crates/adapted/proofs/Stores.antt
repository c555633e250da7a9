-- Lists written one after the other.
use mathlib.Core.Path.{◌≡◌, sym, ◌∙◌}
use mathlib.Core.List.{List, [], ◌∷◌, ◌++◌}
use Prim.Native.Nat.{ℕ, suc, ◌+◌, ◌≤◌}
use native.Mathlib.Omega.{arith}
use native.Mathlib.Nat.{add-zero, add-suc, suc-add, zero-add}
use lib.ListN.{length, set, take}
use lib.Seq.{sets, sets-eq, take_at}

pub sets_append : {A : Type 0} (xs ys l : List A) (i : ℕ) → sets l i (xs ++ ys) ≡ sets (sets l i xs) (i + length xs) ys
sets_append [] ys l i = rw add-zero
sets_append (x ∷ xs) ys l i = sets_append xs ys (set l i x) (suc i) ∙ rw (add-suc, suc-add)

pub take_sets : {A : Type 0} (xs l : List A) (n : ℕ) → n ≡ length xs → n ≤ length l → take n (sets l 0 xs) ≡ xs
take_sets xs l n e h = rw (sets-eq xs l 0 (omega (arith, zero-add (length xs)))) (take_at xs _ n (sym e))
