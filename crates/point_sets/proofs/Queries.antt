-- What a card answers to a query, by any list that has each of its points once: the definition keeps `CountsOnce`.
use mathlib.Core.Path.{◌≡◌, ap, ◌∙◌}
use mathlib.Core.List.{List}
use Prim.Native.Nat.{ℕ, ◌^◌, ◌<◌}
use lib.IntN.{pos}
use lib.ListN.{length}
use Rattle.contents.specs.Contents.{query_in}
use Rattle.contents.specs.Counts.{counts_in}
use Rattle.contents.specs.Distinct.{NoneTwice}
use Rattle.contents.proofs.Once.{once-counts, once-query, once-long}
use Rattle.contents.proofs.Patterns.{query_none}
use Rattle.layout.specs.Format.{polynomials}
use Rattle.plane.specs.Format.{Point}
use Rattle.plane.specs.Contents.{standing_of, contents_of}
use Rattle.plane.proofs.Contents.{points-once}
use Rattle.card.specs.Claim.{CardGives}
use Rattle.query.specs.Claim.{number, refused, shown_of, QueryGives, QueryTells}
use Rattle.std.specs.Prelude.{Result}
use Rattle.refusals.specs.declared.Refusal.{Refusal}
use Rattle.sign_counts.specs.declared.SignCounts.{SignCounts}
use Rattle.point_sets.specs.Claim.{Named, on, Counted, CountsOnce}

-- ---- the card's own list against any other

module _ (c : List ℕ) (α : ℕ) (l : List Point) (N : Named c l) where
  pub query-same : query_in (contents_of c) α ≡ query_in (on c l) α
  query-same = once-query (standing_of c) α (standing_of c).points (contents_of c).points l (points-once c) N

  counts_same : counts_in (contents_of c) α ≡ counts_in (on c l) α
  counts_same = once-counts (standing_of c) α (standing_of c).points (contents_of c).points l (points-once c) N

  pub long_same : length (contents_of c).points ≡ length l
  long_same = once-long (standing_of c) α (standing_of c).points (contents_of c).points l (points-once c) N

-- a list that has no point twice names its own points once
itself : (c : List ℕ) → NoneTwice (standing_of c).points → Named c (standing_of c).points
itself c h = record { none_twice = h; alike = λ x. (λ i. i, λ i. i) }

module _ (c : List ℕ) (α : ℕ) (o : Result SignCounts Refusal) (G : QueryGives c α o) (T : QueryTells c α o) where
  counted : (l : List Point) → Named c l → Counted c α o l
  counted l N = record {
    shown = rw (query-same c α l N) at G.by_values;
    told = rw (counts_same c α l N) at T.by_values;
  }

  product_0 : (l : List Point) → Named c l → α ≡ 0
      → CardGives c (α < 3 ^ polynomials c) 13 refused (number (pos (length l))) (shown_of o)
  product_0 l N e =
      rw (ap (query_in (contents_of c)) e ∙ query_none (contents_of c) ∙ ap pos (long_same c α l N)) at G.by_values

  pub counts-once : CountsOnce c α o
  counts-once = record {
    counted = counted;
    add_up = λ l N t e. T.add_up t e ∙ long_same c α l N;
    product_0 = product_0;
    as_before = λ h. counted (standing_of c).points (itself c h);
  }
