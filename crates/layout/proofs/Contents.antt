-- The points of a card's contents, by their places.
use mathlib.Core.Path.{◌≡◌, refl, ap, ◌∙◌}
use mathlib.Core.Logic.{⊎_elim}
use mathlib.Core.List.{List, [], ◌∷◌, map}
use Prim.Native.Nat.{ℕ, zero, suc, ◌<◌}
use native.Mathlib.Omega.{arith}
use lib.IntN.{ℤ, pos}
use lib.ListN.{length, get_or, length-append, length-map, get_or-append}
use lib.Seq.{get_or_at}
use Rattle.integers.proofs.Tests.{eq_cases}
use Rattle.signs.specs.Lists.{up_to}
use Rattle.layout.specs.Format.{point_count, point_of}
use Rattle.layout.specs.Contents.{line_contents}

-- ---- 0, 1, .., n − 1

pub up_to-long : (n : ℕ) → length (up_to n) ≡ n
unfolding up_to
up_to-long zero = refl
up_to-long (suc n) = omega (arith, length-append (up_to n) (n ∷ []), up_to-long n)

up_to-at : (n k : ℕ) → k < n → get_or (up_to n) k 0 ≡ k
unfolding up_to
up_to-at zero k h = absurd (omega arith)
up_to-at (suc n) k h =
    ⊎_elim (λ w. rw w.0 (get_or_at (up_to n) n [] 0 n (up_to-long n)))
    (λ w. let g : k < n = omega (arith, w.0) in
    get_or-append (up_to n) (n ∷ []) 0 k (omega (arith, up_to-long n)) ∙ up_to-at n k g) (eq_cases k n)

module _ {A B : Type 0} (f : A → B) where
  pub map_at : (l : List A) (k : ℕ) (a : A) (b : B) → k < length l → get_or (map f l) k b ≡ f (get_or l k a)
  map_at [] k a b h = absurd (omega arith)
  map_at (x ∷ l) zero a b h = refl
  map_at (x ∷ l) (suc k) a b h = map_at l k a b (omega arith)

-- element k of f 0, f 1, .., f (n − 1)
pub map-up_to-at : {B : Type 0} (f : ℕ → B) (n k : ℕ) (b : B) → k < n → get_or (map f (up_to n)) k b ≡ f k
map-up_to-at f n k b h = map_at f (up_to n) k 0 b (omega (arith, up_to-long n)) ∙ ap f (up_to-at n k h)

-- ---- the points

module _ (c : List ℕ) where
  pub points-long : length (line_contents c).points ≡ point_count c
  points-long = length-map (up_to (point_count c)) (point_of c) ∙ up_to-long (point_count c)

  -- what f makes of point k
  pub map-point-at : {B : Type 0} (f : ℤ → B) (k : ℕ) (b : B) → k < point_count c
      → get_or (map f (line_contents c).points) k b ≡ f (point_of c k)
  map-point-at f k b h =
      map_at f (line_contents c).points k (pos 0) b (omega (arith, points-long))
      ∙ ap f (map-up_to-at (point_of c) (point_count c) k (pos 0) h)
