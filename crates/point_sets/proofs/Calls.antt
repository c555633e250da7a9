-- THEOREM of the code (document 02, wish 7): each distinct point of a card counts once in every query, in one call and on an opened card; a
-- run answered throughout by the card ends done with the points counted so, and takes the steps that it would take with each point counted
-- as often as it stands. Each call is known by its contract alone (`Learnt`; of a run `Plays`), so that a weaker promise of any of them
-- breaks the theorem.
--
--   Standing c k r x == a run by the rules with the s of the card c, answered throughout by its queries with each point counted as often as
--                       it stands: after k answers the record is r and the last step is x
use mathlib.Core.Path.{◌≡◌, sym, ap, ◌∙◌}
use mathlib.Core.List.{List}
use Prim.Native.Nat.{ℕ}
use native.Mathlib.Omega.{arith}
use contract.Lifetimes.{Lfts}
use denote.Ref.{Bor}
use lib.ListN.{length}
use Rattle.signs.specs.declared.Product.{Product}
use Rattle.contents.specs.Contents.{patterns_in}
use Rattle.contents.proofs.Once.{alike-patterns}
use Rattle.layout.specs.Format.{polynomials}
use Rattle.plane.specs.Format.{Point}
use Rattle.plane.specs.Contents.{standing_of, contents_of}
use Rattle.plane.proofs.Contents.{standing_long, points-once, points-few}
use Rattle.card.specs.Sound.{Sound}
use Rattle.card.proofs.Sound.{unrefused}
use Rattle.query.specs.Claim.{number}
use Rattle.query.specs.declared.Opened.{Opened}
use Rattle.std.specs.Prelude.{Result}
use Rattle.refusals.specs.declared.Refusal.{Refusal}
use Rattle.sign_counts.specs.declared.SignCounts.{SignCounts}
use Rattle.query.proofs.Opening.{opened-sound}
use Rattle.query.proofs.Calls.{demand2_query, demand2_opened, counts-query, counts-opened}
use Rattle.query.proofs.query.Reads as query
use Rattle.query.proofs.open.Reads as open-card
use Rattle.query.proofs.ask.Reads as ask
use Rattle.runs.specs.Run.{State, Step, fetch_of, copy_of}
use Rattle.run_record.specs.declared.Run.{Run}
use Rattle.run_record.specs.Record.{state_of}
use Rattle.determination.proofs.Contracts.{Started, Took, Fetches, Copies, kept}
use Rattle.card_runs.specs.Claim.{Played, EndsDone}
use Rattle.card_runs.proofs.Runs.{ends-done, RuleStarts, RuleAnswers, RuleAsks, rules_kept}
use Rattle.card_runs.proofs.Calls.{Asks, Plays, asks-query}
use Rattle.printout.specs.Printout.{questions}
use Rattle.point_sets.specs.Claim.{Named, on, CountsOnce, step_at, Unchanged}
use Rattle.point_sets.proofs.Alike.{alike-rows, alike-questions}
use Rattle.point_sets.proofs.Queries.{query-same, long_same, counts-once}
use Rattle.point_sets.proofs.Runs.{played_questions}

-- ---- queries

module _ (κs : Lfts 1) (card : Bor (List ℕ)) (a : Product) (o : Result SignCounts Refusal) where
  -- WISH 7 of a query in one call
  pub once_in_query : query.Learnt κs (card, (a, tt)) o (card, (a, tt)) → CountsOnce card.now a.0 o
  once_in_query e = counts-once card.now a.0 o (demand2_query κs card a o e) (counts-query κs card a o e)

  -- and of one on a card that was opened
  pub once-on-opened : (k : Opened) → open-card.Learnt κs (card, tt) k (card, tt) → ask.Learnt tt (k, (a, tt)) o (k, (a, tt))
      → CountsOnce card.now a.0 o
  once-on-opened k e f = counts-once card.now a.0 o (demand2_opened κs card a o k e f) (counts-opened κs card a o k e f)

-- an opened card has its distinct points, as many as any list that names each once
pub opened-points : (κs : Lfts 1) (card : Bor (List ℕ)) (k : Opened) → Sound card.now → open-card.Learnt κs (card, tt) k (card, tt)
    → (l : List Point) → Named card.now l → k.n ≡ length l
opened-points κs card k S e l N =
    ap (λ (o : Opened). o.n) (e ∙ opened-sound card.now (unrefused card.now S)) ∙ long_same card.now 0 l N

-- ---- runs

pub unchanged : (c : List ℕ) → Unchanged c
unchanged c =
    let a = alike-patterns (standing_of c) (standing_of c).points (contents_of c).points (points-once c).alike in
    record {
      same_patterns = sym (alike-rows (polynomials c) _ _ a);
      same_questions = sym (alike-questions (polynomials c) _ _ a);
    }

abbrev pub Standing : List ℕ → ℕ → State → Step → Type 0
Standing c k r x =
    Played State (RuleStarts (standing_of c)) (RuleAnswers (standing_of c)) (RuleAsks (standing_of c)) (polynomials c) k r x

module _ (c : List ℕ) (S : Sound c) where
  -- a run answered by the card asks the questions of its patterns, one after the other
  pub card-questions : {k : ℕ} {d : Run} {x : Step} → Plays c k d x → x ≡ step_at (questions (polynomials c) (patterns_in (contents_of c)))
      k
  card-questions =
      played_questions (contents_of c) Run state_of Started Took Fetches Copies kept (Asks c) (asks-query c S) S.s_least S.s_most
      (omega (arith, points-few c, S.n_most))

  standing_questions : {k : ℕ} {r : State} {x : Step} → Standing c k r x
      → x ≡ step_at (questions (polynomials c) (patterns_in (standing_of c))) k
  standing_questions =
      played_questions (standing_of c) State (λ r. r) (RuleStarts (standing_of c)) (RuleAnswers (standing_of c)) (λ r p y. y ≡ fetch_of r p)
      (λ r a b y. y ≡ copy_of r a b) (rules_kept (standing_of c)) (RuleAsks (standing_of c)) (λ α y b e. e) S.s_least S.s_most
      (omega (arith, standing_long c, S.n_most))

  -- THE THEOREM: a run answered by the card ends done, and its rows are the patterns of any list that names each point once, counted
  pub runs_once : {k : ℕ} {d : Run} {x : Step} → Plays c k d x
      → (l : List Point) → Named c l → EndsDone (on c l) (Asks c) (Fetches d) (Copies d) k x
  runs_once p l N =
      ends-done (on c l) Run state_of Started Took Fetches Copies kept (Asks c)
      (λ α y b a. asks-query c S α y b a ∙ ap number (query-same c α l N)) S.s_least S.s_most
      (omega (arith, long_same c 0 l N, points-few c, S.n_most)) p

  -- THE THEOREM: after as many answers it asks the same product as a run that counts each point as often as it stands, or both are done
  pub same_steps : {k : ℕ} {d : Run} {r : State} {x y : Step} → Plays c k d x → Standing c k r y → x ≡ y
  same_steps {k} p q = card-questions p ∙ ap (λ ps. step_at ps k) (unchanged c).same_questions ∙ sym (standing_questions q)
