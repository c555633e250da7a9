-- Lists by places: what stands at a place stands in the list, and the other way round; rising lists and bounds.
use mathlib.Core.Path.{◌≡◌, sym}
use mathlib.Core.List.{List, [], ◌∷◌}
use Prim.Native.Nat.{ℕ, zero, suc, ◌<◌}
use native.Mathlib.Omega.{arith}
use native.Mathlib.Decide.{ℕ_discrete}
use lib.ListN.{length, get_or}
use Rattle.signs.specs.Lists.{times, Below, Rising}
use Rattle.signs.proofs.Lists.{times-nil, times-same, times_other}

pub below_at : (b : ℕ) (l : List ℕ) → Below b l → (k : ℕ) → k < length l → get_or l k 0 < b
unfolding Below
below_at b [] h k i = absurd (omega arith)
below_at b (x ∷ l) h zero i = h.0
below_at b (x ∷ l) h (suc k) i = below_at b l h.1 k (omega arith)

-- an element at a place stands in the list
pub stands_at : (l : List ℕ) (k : ℕ) → k < length l → 0 < times (get_or l k 0) l
stands_at [] k h = absurd (omega arith)
stands_at (x ∷ l) zero h = omega (arith, times-same x l)
stands_at (x ∷ l) (suc k) h = go (ℕ_discrete (get_or l k 0) x) (stands_at l k (omega arith))
  where
    go : Dec (get_or l k 0 ≡ x) → 0 < times (get_or l k 0) l → 0 < times (get_or l k 0) (x ∷ l)
    go (yes e) i = rw e (omega (arith, times-same x l))
    go (no e) i = rw (times_other (get_or l k 0) x l e) i

-- and what stands in it has a place
pub place_of : (q : ℕ) (l : List ℕ) → 0 < times q l → (k : ℕ) × (k < length l) × (get_or l k 0 ≡ q)
place_of q [] h = absurd (omega (arith, times-nil q))
place_of q (x ∷ l) h = go (ℕ_discrete q x) (place_of q l)
  where
    go : Dec (q ≡ x) → (0 < times q l → (k : ℕ) × (k < length l) × (get_or l k 0 ≡ q))
        → (k : ℕ) × (k < length (x ∷ l)) × (get_or (x ∷ l) k 0 ≡ q)
    go (yes e) f = (0, omega arith, sym e)
    go (no e) f = let (k, i, p) = f (omega (arith, times_other q x l e)) in (suc k, omega arith, p)

pub rising-at : (l : List ℕ) → Rising l → (j k : ℕ) → j < k → k < length l → get_or l j 0 < get_or l k 0
unfolding Rising
rising-at [] r j k h i = absurd (omega arith)
rising-at (x ∷ l) r zero zero h i = absurd (omega arith)
rising-at (x ∷ l) r zero (suc k) h i = r.0 (get_or l k 0) (stands_at l k (omega arith))
rising-at (x ∷ l) r (suc j) zero h i = absurd (omega arith)
rising-at (x ∷ l) r (suc j) (suc k) h i = rising-at l r.1 j k (omega arith) (omega arith)
