-- `card_points::distinct_points` meets its contract: the first m places are those of the first k points.
use mathlib.Core.Path.{◌≡◌}
use mathlib.Core.List.{List}
use Prim.Native.Nat.{ℕ}
use lib.ListN.{length, take}
use Rattle.card_points.specs.Places.{places_to}
use Rattle.card_points.proofs.distinct_points.Given as goal

-- the first m of the list l are the places among the first k points
pub record Found (c : List ℕ) (l : List ℕ) (m k : ℕ) : Type 0 where
  pub long : length l ≡ 64
  pub many : m ≡ length (places_to c k)
  pub front : take m l ≡ places_to c k

abbrev pub invariant-loop-k : goal.invariant-loop-k
invariant-loop-k l = Found l.card l.at l.found l.k
