-- `card_points::distinct_points` meets its contract: the places found are those of the first k points.
use mathlib.Core.Path.{◌≡◌, refl, sym, ap, ◌∙◌}
use mathlib.Core.Bool.{Bool, true, false, not}
use mathlib.Core.List.{[], List, ◌∷◌, ◌++◌, append-nil}
use Prim.Native.Nat.{ℕ, ◌+◌, ◌<◌}
use native.Mathlib.Omega.{arith}
use native.Mathlib.Numerals.{add-one}
use lib.ListN.{length, set, length-append, length-set}
use lib.Seq.{take-suc-set}
use Rattle.card_points.specs.Places.{repeats, places_to}
use Rattle.card_points.proofs.Distinct.{places-few}
use Rattle.card_points.proofs.distinct_points.Invariants.{Found}
use Rattle.card_points.proofs.distinct_points.Goals as goal
use Rattle.card_points.proofs.distinct_points.Goals.{then-fresh, else-fresh}

found_none : (c l : List ℕ) → length l ≡ 64 → Found c l 0 0
unfolding places_to
found_none c l h = record { long = h; many = refl; front = refl }

-- one point more: the place of a new one is put behind the others
module _ (c l : List ℕ) (m k : ℕ) (f : Found c l m k) where
  found_again : repeats c k ≡ true → Found c l m (k + 1)
  unfolding places_to
  found_again t =
      rw (add-one k) (record {
        long = f.long;
        many = rw (t, append-nil (places_to c k)) f.many;
        front = rw (t, append-nil (places_to c k)) f.front;
      })

  found_new : k < 64 → repeats c k ≡ false → Found c (set l m k) (m + 1) (k + 1)
  unfolding places_to
  found_new h t =
      rw (add-one k, add-one m) (record {
        long = simp length-set f.long;
        many = rw (t, length-append (places_to c k) (k ∷ [])) (omega (arith, f.many));
        front = rw t (take-suc-set l m k few ∙ ap (λ (p : List ℕ). p ++ (k ∷ [])) f.front);
      })
    where
      few : m < length l
      few = omega (arith, f.long, f.many, places-few c k)

-- what the test of a new point says
turned : (t b : Bool) → b ≡ not t → b ≡ true → t ≡ false
turned true b e h = sym h ∙ e
turned false b e h = refl

turned_not : (t b : Bool) → b ≡ not t → b ≡ false → t ≡ true
turned_not true b e h = refl
turned_not false b e h = sym h ∙ e

pub loop-k-init : goal.loop-k-init
loop-k-init c = found_none _ _ refl

-- the point is one of the card's, and there is room for its place
pub bounds-at-found : goal.bounds-at-found
bounds-at-found c = omega (arith, c.requires.0.n_most, c.loop-k.invariant.many, places-few c.args.card.now c.loop-k.k)

pub loop-k-preserved : goal.loop-k-preserved
loop-k-preserved c =
    elim c.if-fresh.branch [
      | then-fresh w ↦ rw (w.at-is, w.found-is)
          (found_new _ _ _ c.loop-k.k c.loop-k.invariant (omega (arith, c.requires.0.n_most)) (turned _ _ c.fresh.ensures w.if-fresh.true))
      | else-fresh w ↦ rw (w.at-is, w.found-is) (found_again _ _ _ c.loop-k.k c.loop-k.invariant
          (turned_not _ _ c.fresh.ensures w.if-fresh.false))
    ]
