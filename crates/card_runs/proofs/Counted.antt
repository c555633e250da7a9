-- The realized list counts as the queries do: each query of a list of patterns is that of its realized list, each pattern as often as its
-- count says.
use mathlib.Core.Path.{◌≡◌, refl, sym, ◌∙◌}
use mathlib.Core.List.{List}
use Prim.Native.Nat.{ℕ, ◌^◌, ◌<◌}
use Rattle.integers.proofs.Diff.{diff_same}
use Rattle.signs.specs.Lists.{Below}
use Rattle.signs.specs.Signs.{query}
use Rattle.signs.proofs.Tallies.{none, Agree}
use Rattle.signs.proofs.Queries.{counts, diff_ext, query-tally}
use Rattle.rounds.specs.Rows.{repeated, realized}
use Rattle.rounds.proofs.RowLaws.{rows_of_in, rows_of-rows, points-below}
use Rattle.contents.specs.Contents.{Contents, query_in, patterns_in}
use Rattle.contents.proofs.Patterns.{patterns-below, query-patterns}
use Rattle.contents_runs.specs.Runs.{rows_in}

realized-counts : (s : ℕ) (E : List ℕ) → Agree s (counts (repeated (realized s E))) (counts E)
unfolding realized
realized-counts s E q h = rows_of_in (3 ^ s) (counts E) q h

realized-below : (s : ℕ) (E : List ℕ) → Below (3 ^ s) (repeated (realized s E))
unfolding realized
realized-below s E = points-below (3 ^ s) (realized s E) (rows_of-rows s (counts E)).below

realized-query : (s : ℕ) (E : List ℕ) → Below (3 ^ s) E → (α : ℕ) → α < 3 ^ s → query s (repeated (realized s E)) α ≡ query s E α
realized-query s E b α a =
    let R = repeated (realized s E) in
    diff_same (query s R α) (query s E α)
    (diff_ext s α (query s R α) (counts R) (counts E) none none (realized-counts s E) (λ q h. refl)
    (query-tally s α R a (realized-below s E)))
    (query-tally s α E a b) refl

pub rows-counted : {X : Type 0} (K : Contents X) (α : ℕ) → α < 3 ^ K.s → query K.s (repeated (rows_in K)) α ≡ query_in K α
rows-counted K α a = realized-query K.s (patterns_in K) (patterns-below K) α a ∙ sym (query-patterns K α)
