-- DEMAND 2 of the library for C, and the other calls on cards and lists: each gives what the claims say (specs/Claim, and those of the
-- crates `adapted_list` and `solver`). A call is known by its contract alone, as `Learnt` or, on an opened card that is lent, as an
-- assertion that held where the call ended (`Held`), so that a weaker promise of any of them breaks the theorem.
use mathlib.Core.Path.{◌≡◌, refl, ap, ◌∙◌}
use mathlib.Core.HLevel.{Σ_set}
use mathlib.Core.List.{List}
use Prim.Native.Nat.{ℕ, zero, suc, ◌+◌, ◌^◌, ◌<◌, ◌≤◌}
use native.Mathlib.Nat.{ℕ_set}
use native.Mathlib.Omega.{arith}
use contract.Lifetimes.{Lfts}
use denote.Ref.{Bor, MutBor}
use denote.Triple.Entry.{Args}
use denote.Triple.Clauses.{AtExit}
use ghost.Sets.{retract_set}
use lib.Dec.{leb}
use lib.IntN.{ℤ, ℤ_set}
use Rattle.std.proofs.Common.{Result, Ok}
use Rattle.refusals.specs.Numbers.{wrong_product, ◌when◌, ◌▸◌, unless}
use Rattle.refusals.specs.Refusals.{by_number, refusing}
use Rattle.refusals.specs.declared.Refusal.{Refusal}
use Rattle.refusals.proofs.Refusals.{number_by}
use Rattle.sign_counts.specs.Counts.{in_all}
use Rattle.sign_counts.specs.declared.SignCounts.{SignCounts}
use Rattle.contents.proofs.Counts.{counts_in_all, counts-panel}
use Rattle.layout.specs.Format.{polynomials}
use Rattle.plane.specs.Contents.{contents_of}
use Rattle.card.specs.Card.{refusal}
use Rattle.card.specs.Answers.{reading, value_answer, value_at_answer}
use Rattle.card.proofs.Calls.{gives_all, line-gives-at, place-gives-at}
use Rattle.query.specs.Query.{counts_of, query_answer}
use Rattle.query.specs.Opened.{counts_on, refused_by, opened_answer}
use Rattle.query.specs.declared.Opened.{Opened}
use Rattle.query.proofs.Counting.{counts-summed, counts-points}
use Rattle.query.proofs.Opening.{answer-opened}
use Rattle.query.proofs.Calls.{answer_tells, opened-gives}
use Rattle.adapted_list.specs.Listing.{list_of}
use Rattle.adapted_list.specs.Claim.{Gives}
use Rattle.adapted_list.proofs.Calls.{list_gives}
use Rattle.solver.specs.Solving.{solve_of}
use Rattle.solver.specs.Claim.{SolverClaim}
use Rattle.solver.proofs.Claim.{solve_claims}
use Rattle.determination.proofs.Worlds.{World, Held, fact_held}
use Rattle.tarski.specs.declared.Checked.{Checked}
use Rattle.tarski.specs.declared.Number.{Number}
use Rattle.tarski.specs.declared.FlatCounts.{FlatCounts}
use Rattle.tarski.specs.Flat.{card_of, value_of, flat_counts_of}
use Rattle.tarski.specs.Plain.{answered_from}
use Rattle.tarski.specs.Claim.{no_number, no_counts, CheckGives, ValueGives, ValueAtGives, QueryGives, AskGives}
use Rattle.tarski.proofs.Plain.{number_some, answer_back, card_numbered, line_numbered, place_numbered, opened_numbered}
use Rattle.tarski.proofs.tarski_check.Reads as check
use Rattle.tarski.proofs.tarski_value.Reads as evaluate
use Rattle.tarski.proofs.tarski_value_at.Reads as evaluate-at
use Rattle.tarski.proofs.tarski_query.Reads as query
use Rattle.tarski.proofs.tarski_open.Reads as open-card
use Rattle.tarski.specs.contracts.tarski_ask as ask
use Rattle.tarski.proofs.tarski_adapted.Reads as adapted
use Rattle.tarski.proofs.tarski_solve.Reads as solve

-- ---- cards

-- a refusal in plain numbers shows its own
no-card : ℕ → Checked
no-card k = record { polynomials = 0; points = 0; refusal = k }

card-refused : (m : ℕ) → 0 < m → m ≤ 18 → card_of (refusing m) ≡ no-card m
unfolding card_of no-card
card-refused m l h = ap no-card (number_by m l h)

value-refused : (m : ℕ) → 0 < m → m ≤ 18 → value_of (refusing m) ≡ no_number m
unfolding value_of
value-refused m l h = ap no_number (number_by m l h)

counts-refused : (m : ℕ) → 0 < m → m ≤ 18 → flat_counts_of (refusing m) ≡ no_counts m
unfolding flat_counts_of
counts-refused m l h = ap no_counts (number_by m l h)

-- where a query is not refused it is given with its counts
given : (k : ℕ) (t : SignCounts) → let o = flat_counts_of (unless {A = Result SignCounts Refusal} k refusing (Ok t)) in
    o.refusal ≡ 0 → o.positive + o.negative + o.zero ≡ in_all t
unfolding flat_counts_of
given zero t e = refl
given (suc k) t e = absurd (number_some (by_number (suc k)) e)

query-gives : (c : List ℕ) (α : ℕ) → QueryGives c α (flat_counts_of (query_answer c α))
unfolding flat_counts_of query_answer
query-gives c α = record {
  shown = rw (← counts-panel (contents_of c) α)
      (card_numbered flat_counts_of no_counts counts-refused (λ n. (omega arith, omega arith)) (answer_tells c α).by_values);
  add_up = λ e. given (refusal c ▸ wrong_product when leb (3 ^ polynomials c) α) (counts_of c α) e ∙ counts_in_all (contents_of c) α;
}

pub ask-gives : (k : Opened) (α : ℕ) → AskGives k α (flat_counts_of (opened_answer k α))
unfolding flat_counts_of opened_answer
ask-gives k α = record {
  shown = rw (← counts-summed k α) (opened_numbered flat_counts_of no_counts counts-refused (opened-gives k α));
  add_up = λ e. given (refused_by k α) (counts_on k α) e ∙ counts-points k α;
}

counts-set : IsSet FlatCounts
counts-set =
    retract_set {B = ℤ × (ℕ × (ℕ × (ℕ × ℕ)))} (λ n. (n.number, (n.positive, (n.negative, (n.zero, n.refusal)))))
    (λ (z, (p, (m, (k, r)))). record { number = z; positive = p; negative = m; zero = k; refusal = r }) (λ n. refl)
    (Σ_set ℤ_set (λ _. Σ_set ℕ_set (λ _. Σ_set ℕ_set (λ _. Σ_set ℕ_set (λ _. ℕ_set)))))

-- a call of `tarski_ask` on the opened card k, by its contract
pub record Asked (k : Opened) (α : ℕ) (o : FlatCounts) : Type 2 where
  pub world : World
  pub lifetimes : Lfts 1
  pub args : Args ask.signature lifetimes
  pub ends : AtExit ask.ended lifetimes
  pub kept : Held world
      ((ask.clauses world.𝓛 world.memory world.routines lifetimes args).ensures tt o ends)
  pub was : args.0.now ≡ k
  pub product : args.1.0 ≡ α

pub asked-answer : (k : Opened) (α : ℕ) (o : FlatCounts) → Asked k α o → o ≡ flat_counts_of (opened_answer k α)
asked-answer k α o a =
    rw (← a.was, ← a.product)
    (fact_held a.world (o ≡ flat_counts_of (opened_answer a.args.0.now a.args.1.0)) _ (counts-set _ _) (λ h. h) a.kept)

module _ (κs : Lfts 1) (card : Bor (List ℕ)) where
  pub library_check : (o : Checked) → check.Learnt κs (card, tt) o (card, tt) → CheckGives card.now o
  unfolding card_of reading no-card
  library_check o e = rw e (card_numbered card_of no-card card-refused (λ n. absurd (n tt)) (gives_all card.now refusing _))

  pub library_value : (j : ℕ) (x : ℤ) (o : Number) → evaluate.Learnt κs (card, (j, (x, tt))) o (card, (j, (x, tt)))
      → ValueGives card.now j x o
  unfolding value_of value_answer
  library_value j x o e =
      rw e (line_numbered value_of no_number value-refused (omega arith) (omega arith) (line-gives-at card.now refusing _ j))

  pub library_value-at : (j : ℕ) (x y : ℤ) (o : Number) → evaluate-at.Learnt κs (card, (j, (x, (y, tt)))) o (card, (j, (x, (y, tt))))
      → ValueAtGives card.now j (x, y) o
  unfolding value_of value_at_answer
  library_value-at j x y o e =
      rw e
      (place_numbered value_of no_number value-refused (omega arith) (omega arith) (omega arith) (omega arith)
      (place-gives-at card.now refusing _ j (x, y)))

  -- DEMAND 2, its first sentence: of a query in one call, and of one on a card that was opened
  pub demand2_library_query : (α : ℕ) (o : FlatCounts) → query.Learnt κs (card, (α, tt)) o (card, (α, tt)) → QueryGives card.now α o
  demand2_library_query α o e = rw e (query-gives card.now α)

  pub demand2_library_ask : (k : Opened) (α : ℕ) (o : FlatCounts) → open-card.Learnt κs (card, tt) k (card, tt) → Asked k α o
      → QueryGives card.now α o
  demand2_library_ask k α o e a = rw (asked-answer k α o a, e, answer-opened card.now α) (query-gives card.now α)

-- ---- adapted lists, and the solver

pub library_adapted : (κs : Lfts 2) (s : ℕ) (patterns : Bor (List ℕ)) (out out' : MutBor (List ℕ)) (r : ℕ)
    → adapted.Learnt κs (s, (patterns, (out, tt))) r (s, (patterns, (out', tt)))
    → Gives s patterns.now out.now (answered_from r) out'.now
library_adapted κs s patterns out out' r (e, f) =
    rw (e, f, answer_back (list_of s patterns.now out.now).0) (list_gives s patterns.now out.now)

-- DEMAND 2, its second sentence
pub demand2_library_solve : (κs : Lfts 3) (s : ℕ) (patterns : Bor (List ℕ)) (numbers : Bor (List ℤ)) (out out' : MutBor (List ℤ)) (r : ℕ)
    → solve.Learnt κs (s, (patterns, (numbers, (out, tt)))) r (s, (patterns, (numbers, (out', tt))))
    → SolverClaim s patterns.now numbers.now out.now (answered_from r) out'.now
demand2_library_solve κs s patterns numbers out out' r (e, f) =
    rw (e, f, answer_back (solve_of s patterns.now numbers.now out.now).0) (solve_claims s patterns.now numbers.now out.now)
