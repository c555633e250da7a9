-- All three counts of a query (document 02, wish 4): "the number of points with the product positive, negative and zero".
--
--   counts_in K α        == at how many points of the contents K the value of the product α is positive, at how many negative and at how
--                          many 0, a point counted as often as it stands in K
--   pattern_counts s E α == on how many of the patterns E of s polynomials the product α has the sign +, on how many −, on how many 0
use Rattle.std.specs.Prelude.{List, map, ℕ}
use Rattle.signs.specs.Signs.{sign}
use Rattle.sign_counts.specs.Counts.{sign_counts}
use Rattle.sign_counts.specs.declared.SignCounts.{SignCounts}
use Rattle.contents.specs.Contents.{Contents, product_value}

unfoldable pub counts_in : {X : Type 0} → Contents X → ℕ → SignCounts
counts_in K α = sign_counts (map (product_value K α) K.points)

unfoldable pub pattern_counts : ℕ → List ℕ → ℕ → SignCounts
pattern_counts s E α = sign_counts (map (sign s α) E)
