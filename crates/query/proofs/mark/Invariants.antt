-- `query::mark` meets its contract: the words hold the bits of the distinct points from k on.
use mathlib.Core.Path.{◌≡◌}
use mathlib.Core.List.{List}
use Prim.Native.Nat.{ℕ, ◌≤◌}
use lib.ListN.{drop}
use Rattle.plane.specs.Contents.{contents_of}
use Rattle.query.specs.Opened.{word_of, point_bits}
use Rattle.query.proofs.mark.Given as goal

abbrev pub bits : List ℕ → ℕ → ℕ → List ℕ
bits c d j = point_bits (contents_of c) d j

abbrev pub invariant-loop-k : goal.invariant-loop-k
invariant-loop-k l =
    (l.k ≤ l.n) × (l.positive ≡ word_of (drop l.k (bits l.card 1 l.j))) × (l.negative ≡ word_of (drop l.k (bits l.card 2 l.j)))
