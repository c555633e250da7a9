-- Patterns that occur alike, however often: the rows have the same patterns, and the rounds ask the same products.
use mathlib.Core.Path.{◌≡◌, refl, sym, ap, ap₂, ◌∙◌}
use mathlib.Core.Logic.{inl, inr, ⊎_elim}
use mathlib.Core.List.{List, [], ◌∷◌, ◌++◌, map}
use Prim.Native.Nat.{ℕ, zero, suc, ◌%◌, ◌^◌, ◌<◌, min}
use native.Mathlib.Omega.{arith}
use native.Mathlib.Decide.{dec_lt}
use Rattle.integers.proofs.Tests.{eq_cases}
use Rattle.signs.specs.Lists.{times}
use Rattle.signs.proofs.Lists.{times-nil, times-same, times_other, times-cons}
use Rattle.contents.specs.Distinct.{In, Alike}
use Rattle.contents.proofs.Once.{alike-map}
use Rattle.rounds.specs.Rows.{patterns, restrict, row_if, rows_of, realized}
use Rattle.rounds.specs.Rounds.{round_of}
use Rattle.rounds.proofs.RowLaws.{patterns-append}
use Rattle.printout.specs.Printout.{rounds_to, questions}
use Rattle.printout.proofs.Questions.{questions_are}

-- ---- numbers that stand in a list are counted there

in_times : (q : ℕ) (E : List ℕ) → In q E → 0 < times q E
unfolding In
in_times q [] h = absurd h
in_times q (σ ∷ E) (inl e) = rw e (omega (arith, times-same σ E))
in_times q (σ ∷ E) (inr h) = omega (arith, in_times q E h, times-cons q σ E)

times_in : (q : ℕ) (E : List ℕ) → 0 < times q E → In q E
unfolding In
times_in q [] h = omega (arith, times-nil q)
times_in q (σ ∷ E) h =
    ⊎_elim (λ w. inl w.0) (λ w. inr (times_in q E (omega (arith, times_other q σ E w.0)))) (eq_cases q σ)

occurs-alike : (E E' : List ℕ) → Alike E E' → (q : ℕ) → min 1 (times q E) ≡ min 1 (times q E')
occurs-alike E E' a q = go (dec_lt 0 (times q E)) (dec_lt 0 (times q E'))
  where
    go : Dec (0 < times q E) → Dec (0 < times q E') → min 1 (times q E) ≡ min 1 (times q E')
    go (yes h) d = omega (arith, in_times q E' ((a q).0 (times_in q E h)))
    go (no h) (yes k) = absurd (h (in_times q E ((a q).1 (times_in q E' k))))
    go (no h) (no k) = omega arith

-- ---- the rows' patterns

if_alike : (q k k' : ℕ) → min 1 k ≡ min 1 k' → patterns (row_if q k) ≡ patterns (row_if q k')
unfolding row_if patterns
if_alike q zero zero e = refl
if_alike q zero (suc k') e = absurd (omega arith)
if_alike q (suc k) zero e = absurd (omega arith)
if_alike q (suc k) (suc k') e = refl

rows_alike : (c c' : ℕ → ℕ) → ((q : ℕ) → min 1 (c q) ≡ min 1 (c' q)) → (n : ℕ) → patterns (rows_of n c) ≡ patterns (rows_of n c')
unfolding rows_of
rows_alike c c' e zero = refl
rows_alike c c' e (suc n) =
    patterns-append (rows_of n c) (row_if n (c n)) ∙ ap₂ ◌++◌ (rows_alike c c' e n) (if_alike n (c n) (c' n) (e n))
    ∙ sym (patterns-append (rows_of n c') (row_if n (c' n)))

pub alike-rows : (s : ℕ) (E E' : List ℕ) → Alike E E' → patterns (realized s E) ≡ patterns (realized s E')
unfolding realized
alike-rows s E E' a = rows_alike (λ q. times q E) (λ q. times q E') (occurs-alike E E' a) (3 ^ s)

-- ---- the questions

restrict-map : (i : ℕ) (E : List ℕ) → restrict i E ≡ map (λ σ. σ % 3 ^ i) E
unfolding restrict
restrict-map i [] = refl
restrict-map i (σ ∷ E) = ap (λ (l : List ℕ). (σ % 3 ^ i) ∷ l) (restrict-map i E)

restrict-alike : (i : ℕ) (E E' : List ℕ) → Alike E E' → Alike (restrict i E) (restrict i E')
restrict-alike i E E' a = rw (restrict-map i E, restrict-map i E') (alike-map (λ (σ : ℕ). σ % 3 ^ i) E E' a)

rounds_alike : (E E' : List ℕ) → Alike E E' → (i : ℕ) → rounds_to i E ≡ rounds_to i E'
unfolding rounds_to
rounds_alike E E' a zero = refl
rounds_alike E E' a (suc i) =
    ap₂ ◌++◌ (rounds_alike E E' a i) (ap (round_of i) (alike-rows i (restrict i E) (restrict i E') (restrict-alike i E E' a)))

pub alike-questions : (s : ℕ) (E E' : List ℕ) → Alike E E' → questions s E ≡ questions s E'
alike-questions s E E' a =
    sym (questions_are s E) ∙ ap (λ (l : List ℕ). 0 ∷ l) (rounds_alike E E' a s) ∙ questions_are s E'
