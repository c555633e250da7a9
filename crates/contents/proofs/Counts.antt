-- The three counts of a query on contents, for points of any type: they add up to the points counted, the first less the second is the
-- query, and they are those of the points' patterns.
use mathlib.Core.Path.{◌≡◌, sym, ap, ◌∙◌}
use mathlib.Core.List.{map, map-map}
use Prim.Native.Nat.{ℕ}
use lib.ListN.{length, length-map}
use Rattle.integers.specs.Sign.{sgn_ℤ}
use Rattle.integers.specs.Sums.{sum_ℤ}
use Rattle.signs.specs.Signs.{sign}
use Rattle.sign_counts.specs.Counts.{sign_counts, panel_number, in_all}
use Rattle.sign_counts.proofs.Laws.{all-counted, panel-sum, signs-counted}
use Rattle.contents.specs.Contents.{Contents, values_at, product_value, query_in, pattern_at, patterns_in}
use Rattle.contents.specs.Counts.{counts_in, pattern_counts}
use Rattle.contents.proofs.Patterns.{sgn_product}

module _ {X : Type 0} (K : Contents X) (α : ℕ) where
  pub counts_in_all : in_all (counts_in K α) ≡ length K.points
  unfolding counts_in
  counts_in_all = all-counted (map (product_value K α) K.points) ∙ length-map K.points (product_value K α)

  pub counts-panel : panel_number (counts_in K α) ≡ query_in K α
  unfolding counts_in query_in
  counts-panel = panel-sum (map (product_value K α) K.points) ∙ ap sum_ℤ (map-map sgn_ℤ (product_value K α) K.points)

  pub counts-patterns : counts_in K α ≡ pattern_counts K.s (patterns_in K) α
  unfolding counts_in pattern_counts patterns_in
  counts-patterns =
      signs-counted (product_value K α) (λ x. sign K.s α (pattern_at K x)) (λ x. sgn_product (values_at K x) K.s α) K.points
      ∙ ap sign_counts (sym (map-map (sign K.s α) (pattern_at K) K.points))
