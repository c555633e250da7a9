-- A run answered throughout by contents asks their questions one after the other, whatever the points are counted: so that two runs whose
-- points are the same, however often each stands, take the same steps.
use mathlib.Core.Path.{◌≡◌, refl, sym, ap₂, ◌∙◌}
use mathlib.Core.List.{List, [], ◌∷◌, ◌++◌}
use Prim.Native.Nat.{ℕ, ◌^◌, ◌<◌, ◌≤◌}
use lib.IntN.{ℤ}
use lib.ListN.{length}
use Rattle.refusals.specs.Limits.{most_polynomials, most_points}
use Rattle.contents.specs.Contents.{Contents, query_in, patterns_in}
use Rattle.contents_runs.proofs.Runs.{oracle}
use Rattle.query.specs.Claim.{Shown, number}
use Rattle.rounds.proofs.Answers.{facts}
use Rattle.runs.specs.Run.{State, Step, ask, done, refused, Fetch, Copy}
use Rattle.runs.proofs.Chains.{Keeps}
use Rattle.card_runs.specs.Claim.{Played}
use Rattle.card_runs.proofs.Runs.{stood}
use Rattle.card_runs.proofs.Truthful.{Stands, determined, Ahead, waits_ahead}
use Rattle.printout.specs.Printout.{questions}
use Rattle.printout.proofs.Questions.{asked-questions}
use Rattle.point_sets.specs.Claim.{step_at}

-- ---- the step at a place of a list

step-at : (qs : List ℕ) (α : ℕ) (rest : List ℕ) → step_at (qs ++ (α ∷ rest)) (length qs) ≡ ask α
unfolding step_at
step-at [] α rest = refl
step-at (q ∷ qs) α rest = step-at qs α rest

step_past : (ps : List ℕ) → step_at ps (length ps) ≡ done
unfolding step_at
step_past [] = refl
step_past (p ∷ ps) = step_past ps

module _ {ℓ} {X : Type 0} (K : Contents X) (C : Type 0) (view : C → State) (Starts : ℕ → C → Step → Type ℓ)
    (Answers : C → ℤ → C → Step → Type ℓ) (Fetches : C → ℕ → Fetch → Type ℓ) (Copies : C → List ℕ → List ℕ → Copy → Type ℓ)
    (kept : Keeps C view Starts Answers Fetches Copies) (Asks : ℕ → Shown → Type ℓ)
    (shows : (α : ℕ) (y : Shown) → α < 3 ^ K.s → Asks α y → y ≡ number (query_in K α))
    (least : 1 ≤ K.s) (most : K.s ≤ most_polynomials) (held : length K.points ≤ most_points) where
  -- THE THEOREM: after k answers it asks product k of the questions, or is done with the last one
  pub played_questions : {k : ℕ} {d : C} {x : Step} → Played C Starts Answers Asks K.s k d x
      → x ≡ step_at (questions K.s (patterns_in K)) k
  played_questions {k} {d} {x} p =
      let (zs, qs, n, st) = stood K C view Starts Answers Fetches Copies kept Asks shows least most held p in go zs qs n x st
    where
      go : (zs : List ℤ) (qs : List ℕ) → length zs ≡ k → (x : Step) → Stands K.s (patterns_in K) least (oracle K held) zs qs (view d) x
          → x ≡ step_at (questions K.s (patterns_in K)) k
      go zs qs n (ask α) w =
          let A : Ahead K.s (patterns_in K) least (oracle K held) qs α =
          waits_ahead K.s (patterns_in K) least (oracle K held) zs qs (view d) α w in
          let q = asked-questions K.s (patterns_in K) (oracle K held) A.zs A.ps A.end A.ends A.fits in
          sym (ap₂ step_at (sym q ∙ A.all) (sym n ∙ sym w.as_many) ∙ step-at qs α A.rest)
      go zs qs n done e =
          let D = determined K.s (patterns_in K) least (oracle K held) zs qs (view d) e in
          let q = asked-questions K.s (patterns_in K) (oracle K held) zs qs (view d).rows D e.fits in
          sym (ap₂ step_at (sym q) (sym n ∙ sym (facts K.s zs qs (view d).rows D).lengths) ∙ step_past qs)
      go zs qs n (refused m) e = absurd e
