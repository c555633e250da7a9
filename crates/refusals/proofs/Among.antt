-- Membership of a number in a list, in the words of a slice's `contains`.
use Rattle.std.proofs.Common.{arith, ◌≡◌, ℕ, nat_eq, List, [], ◌∷◌, refl}
use Rattle.std.specs.List.{list_any}
use Rattle.std.proofs.lemmas.Bool.Decides.{nat_tests}
use Rattle.refusals.specs.Numbers.{is_among}

turned : (k m : ℕ) → nat_eq k m ≡ nat_eq m k
turned k m = grind (arith, nat_tests)

pub among_any : (m : ℕ) (l : List ℕ) → list_any (λ y. nat_eq y m) l ≡ is_among m l
unfolding is_among
among_any m [] = refl
among_any m (k ∷ l) = rw (among_any m l, turned k m) refl
