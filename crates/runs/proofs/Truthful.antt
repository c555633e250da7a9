-- Theorem: an oracle that answers truthfully throughout always ends done, and the rows are its realized list.
use mathlib.Core.Path.{◌≡◌, refl, sym, ap, subst}
use mathlib.Core.Option.{Option}
use mathlib.Core.List.{List, [], ◌∷◌, ◌++◌, append-nil}
use Prim.Native.Nat.{ℕ, zero, suc, ◌+◌, ◌*◌, ◌<◌, ◌≤◌}
use native.Mathlib.Omega.{arith}
use lib.IntN.{ℤ}
use lib.ListN.{length, length-append}
use Rattle.refusals.specs.Limits.{most_points}
use Rattle.signs.specs.Signs.{query}
use Rattle.rounds.specs.Rows.{Row, Oracle, realized, Fits}
use Rattle.rounds.specs.NextRows.{RightRows}
use Rattle.rounds.specs.RoundEnd.{round_rows}
use Rattle.runs.specs.Run.{Step, ask, done, refused, Phase, running, finished, closed, State, start_of, answer_of}
use Rattle.runs.specs.Demand.{state_after, heard, asks}
use Rattle.runs.specs.Truthful.{truthful, onward, TruthfulRuns}
use Rattle.rounds.proofs.Restrict.{fits-append}
use Rattle.rounds.proofs.Answers.{Facts, facts}
use Rattle.rounds.proofs.Rounds.{realized-rows}
use Rattle.rounds.proofs.RoundEnds.{round_rows_right}
use Rattle.runs.proofs.Invariant.{Closed, At, Inv, start_inv, going_short, After, answer-running}

-- ---- a run that goes on has taken few answers

running-short : (s : ℕ) (r : State) (zs : List ℤ) (ps : List ℕ) → Inv s r zs ps → r.phase ≡ running → length zs ≤ 2 * most_points * s
running-short s r zs ps I e = go r.round (subst (λ (f : Phase). At s r zs ps f r.round) e I.at)
  where
    go : (k : ℕ) → At s r zs ps running k → length zs ≤ 2 * most_points * s
    go zero (a, b, c) = omega (arith, ap length a)
    go (suc i) g = omega (arith, going_short s i r zs ps g, g.in_range)

-- ---- each truthful answer

module _ (N : ℕ → List Row → List ℤ → Option (List Row)) (right : RightRows N) (s : ℕ) (E : List ℕ) (h : 1 ≤ s) (O : Oracle s E) where
  -- what a run ends with
  abbrev Ends : State → Type 0
  Ends r = (r.phase ≡ finished) × (r.rows ≡ realized s E)

  ends : (r : State) (zs : List ℤ) (ps : List ℕ) → Inv s r zs ps → Fits s E ps zs → r.phase ≡ finished → Ends r
  ends r zs ps I f e =
      let F : Facts s zs ps r.rows = facts s zs ps r.rows (subst (λ (p : Phase). At s r zs ps p r.round) e I.at) in
      (e, sym (realized-rows s E r.rows F.rows (F.only E O.below f)))

  not_closed : (r : State) (zs : List ℤ) (ps : List ℕ) → Inv s r zs ps → Fits s E ps zs → r.phase ≡ closed → ⊥
  not_closed r zs ps I f e =
      let C : Closed s zs ps = subst (λ (p : Phase). At s r zs ps p r.round) e I.at in
      C.none_fits (E, O, f)

  -- k more answers, from a record that has asked α last
  abbrev Goes : ℕ → Type 0
  Goes k =
      (r : State) (zs : List ℤ) (qs : List ℕ) (α : ℕ) → Inv s r zs (qs ++ (α ∷ [])) → r.phase ≡ running → length qs ≡ length zs
      → Fits s E qs zs → 2 * most_points * s < length zs + k → Ends (state_after N r (truthful N s E k r α))

  one_answer : (k : ℕ) → Goes k → Goes (suc k)
  unfolding truthful state_after asks heard
  one_answer k more r zs qs α I e l f m = next (answer_of N r z).0 (answer_of N r z).1 A.inv A.phase
    where
      z : ℤ
      z = query s E α

      A : After s zs (qs ++ (α ∷ [])) z (answer_of N r z)
      A = answer-running N right s r zs (qs ++ (α ∷ [])) z h I e

      fit : Fits s E (qs ++ (α ∷ [])) (zs ++ (z ∷ []))
      fit = fits-append s E qs (α ∷ []) zs (z ∷ []) l f (unfold Fits in (refl, tt))

      last : (r' : State) → Inv s r' (zs ++ (z ∷ [])) ((qs ++ (α ∷ [])) ++ []) → Inv s r' (zs ++ (z ∷ [])) (qs ++ (α ∷ []))
      last r' I' = subst (Inv s r' (zs ++ (z ∷ []))) (append-nil (qs ++ (α ∷ []))) I'

      next : (r' : State) (x : Step) → Inv s r' (zs ++ (z ∷ [])) ((qs ++ (α ∷ [])) ++ asks x) → heard running x ≡ r'.phase
          → Ends (state_after N r' (onward x (truthful N s E k r')))
      next r' (ask β) I' e' =
          more r' (zs ++ (z ∷ [])) (qs ++ (α ∷ [])) β I' (sym e')
          (omega (arith, l, length-append qs (α ∷ []), length-append zs (z ∷ []))) fit (omega (arith, m, length-append zs (z ∷ [])))
      next r' done I' e' = ends r' (zs ++ (z ∷ [])) (qs ++ (α ∷ [])) (last r' I') fit (sym e')
      next r' (refused n) I' e' = absurd (not_closed r' (zs ++ (z ∷ [])) (qs ++ (α ∷ [])) (last r' I') fit (sym e'))

  goes : (k : ℕ) → Goes k
  goes zero = λ r zs qs α I e l f m. absurd (omega (arith, running-short s r zs (qs ++ (α ∷ [])) I e))
  goes (suc k) = one_answer k (goes k)

pub truthful_for : (N : ℕ → List Row → List ℤ → Option (List Row)) → RightRows N → TruthfulRuns N
truthful_for N right s E h O k m =
    goes N right s E h O k (start_of s) [] [] 0 (start_inv s) refl refl (unfold Fits in tt) (omega arith)

pub truthful-done : TruthfulRuns round_rows
truthful-done = truthful_for round_rows round_rows_right
