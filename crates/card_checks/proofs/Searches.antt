-- A search of a list, as std's word for it says it and as the definitions do.
use Rattle.std.proofs.Common.{◌≡◌, Bool, ◌||◌, List, [], ◌∷◌, refl, ap}
use Rattle.std.specs.List.{list_any}
use Rattle.card_bytes.specs.Causes.{some}

pub some_any : {A : Type 0} (f : A → Bool) (l : List A) → list_any f l ≡ some f l
unfolding some
some_any f [] = refl
some_any f (x ∷ l) = ap (λ t. f x || t) (some_any f l)
