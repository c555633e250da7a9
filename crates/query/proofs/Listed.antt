-- The numbers by which a query is refused, and their refusals.
use mathlib.Core.Path.{◌≡◌, refl, sym, ap, ◌∙◌}
use mathlib.Core.Bool.{Bool, true, false, ◌||◌}
use mathlib.Core.Logic.{◌⊎◌, ⊎_elim}
use mathlib.Core.List.{List, [], ◌∷◌}
use Prim.Native.Nat.{ℕ, ◌<◌, ◌≤◌}
use native.Mathlib.Omega.{arith}
use borrow.Author.Tests.{eqb-true}
use lib.Dec.{eqb}
use Rattle.std.specs.Prelude.{Result, Err}
use Rattle.refusals.specs.Numbers.{wrong_product, card_numbers, is_among, Among}
use Rattle.refusals.specs.Refusals.{number_of, by_number, refusing}
use Rattle.refusals.specs.declared.Refusal.{Refusal}
use Rattle.refusals.proofs.Refusals.{number_by}

-- a card's number, or 13 for a product
unfoldable pub Listed : ℕ → Type 0
Listed m = Among card_numbers m ⊎ (m ≡ wrong_product)

-- each is the number of a refusal
abbrev Within : List ℕ → Type 0
Within [] = Unit {0}
Within (k ∷ l) = ((0 < k) × (k ≤ 18)) × Within l

among_within : (l : List ℕ) (m : ℕ) → Within l → is_among m l ≡ true → (0 < m) × (m ≤ 18)
unfolding is_among
among_within [] m h e = let n : false ≡ true = e in let z : ◌≡◌ {A = ℕ} 0 1 = cc in absurd (omega arith)
among_within (k ∷ l) m h e = go (eqb m k) refl e (among_within l m h.1)
  where
    go : (t : Bool) → eqb m k ≡ t → (t || is_among m l) ≡ true → (is_among m l ≡ true → (0 < m) × (m ≤ 18)) → (0 < m) × (m ≤ 18)
    go true q f rest = let z = eqb-true m k q in (omega arith, omega arith)
    go false q f rest = rest f

pub card_number : (m : ℕ) → is_among m card_numbers ≡ true → (0 < m) × (m ≤ 18)
unfolding card_numbers
card_number m e =
    among_within card_numbers m (
      (omega arith, omega arith),
      (
        (omega arith, omega arith),
        (
          (omega arith, omega arith),
          (
            (omega arith, omega arith),
            (
              (omega arith, omega arith),
              (
                (omega arith, omega arith),
                ((omega arith, omega arith), ((omega arith, omega arith), ((omega arith, omega arith), tt))),
              ),
            ),
          ),
        ),
      ),
    ) e

pub listed_within : (m : ℕ) → Listed m → (0 < m) × (m ≤ 18)
unfolding Listed
listed_within m h = ⊎_elim (λ a. card_number m a.stands) (λ e. (omega arith, omega arith)) h

pub listed_number : (m : ℕ) → Listed m → number_of (by_number m) ≡ m
listed_number m h = let w = listed_within m h in number_by m w.0 w.1

-- what is refused by a listed number has this number
pub refused_by_listed : {A : Type 0} (m : ℕ) (e : Refusal) → Listed m → ◌≡◌ {A = Result A Refusal} (refusing m) (Err e) → number_of e ≡ m
refused_by_listed m e h q = let n : by_number m ≡ e = cc in ap number_of (sym n) ∙ listed_number m h
