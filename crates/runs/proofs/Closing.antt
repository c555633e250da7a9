-- The numbers that close a run are those of `closing_numbers`: document 01's 8, 9 and 10, and an answer is refused with one of them exactly
-- where the run goes on before it.
use mathlib.Core.Path.{◌≡◌, refl, ap, ◌∙◌}
use mathlib.Core.Logic.{◌⊎◌, inl, inr, ◌↔◌}
use mathlib.Core.Bool.{Bool, true, false, ◌||◌}
use mathlib.Core.Option.{Option}
use mathlib.Core.List.{List}
use Prim.Native.Nat.{ℕ}
use native.Mathlib.Omega.{arith}
use borrow.Author.Tests.{eqb-true, eq-eqb}
use lib.Dec.{eqb}
use lib.IntN.{ℤ}
use Rattle.refusals.specs.Numbers.{is_among, closing_numbers}
use Rattle.rounds.specs.Rows.{Row}
use Rattle.runs.specs.Run.{State, Step, refused, running, answer_of}
use Rattle.runs.proofs.Refusals.{refusals}

abbrev Closes : ℕ → Type 0
Closes k = (k ≡ 8) ⊎ ((k ≡ 9) ⊎ (k ≡ 10))

pub closing_numbers_lem : (k : ℕ) → (is_among k closing_numbers ≡ true) ↔ Closes k
unfolding is_among closing_numbers
closing_numbers_lem k = (go (eqb k 8) refl (eqb k 9) refl (eqb k 10) refl, back)
  where
    go : (a : Bool) → eqb k 8 ≡ a → (b : Bool) → eqb k 9 ≡ b → (c : Bool) → eqb k 10 ≡ c → a || (b || (c || false)) ≡ true → Closes k
    go true u b v c w e = inl (eqb-true k 8 u)
    go false u true v c w e = inr (inl (eqb-true k 9 v))
    go false u false v true w e = inr (inr (eqb-true k 10 w))
    go false u false v false w e = let x : ◌≡◌ {A = ℕ} 0 1 = cc in absurd (omega arith)

    back : Closes k → is_among k closing_numbers ≡ true
    back (inl e) = rw e refl
    back (inr (inl e)) = rw e refl
    back (inr (inr e)) = rw e refl

pub closing : (N : ℕ → List Row → List ℤ → Option (List Row)) (r : State) (z : ℤ) (k : ℕ) → (answer_of N r z).1 ≡ refused k
    → (is_among k closing_numbers ≡ true) ↔ (r.phase ≡ running)
closing N r z k e = (λ t. from ((closing_numbers_lem k).0 t), λ p. (closing_numbers_lem k).1 ((refusals N).closes r z k e (not_late p)).0)
  where
    with_number : (m : ℕ) → k ≡ m → (answer_of N r z).1 ≡ refused m
    with_number m h = e ∙ ap refused h

    from : Closes k → r.phase ≡ running
    from (inl h) = (((refusals N).answer_8 r z).0 (with_number 8 h)).0
    from (inr (inl h)) = (((refusals N).answer_9 r z).0 (with_number 9 h)).0
    from (inr (inr h)) = (((refusals N).answer_10 r z).0 (with_number 10 h)).0

    not_late : r.phase ≡ running → k ≡ 7 → ⊥
    not_late p h = ((refusals N).answer_7 r z).0 (with_number 7 h) p
