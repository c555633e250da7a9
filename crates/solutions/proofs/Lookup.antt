-- Numbers asked on a list of products: `lookup` and `map`.
use mathlib.Core.Path.{◌≡◌, refl, ap₂, ◌∙◌}
use mathlib.Core.Logic.{◌≢◌}
use mathlib.Core.List.{List, [], ◌∷◌, map}
use Prim.Native.Nat.{ℕ, ◌<◌, ◌≤◌}
use native.Mathlib.Omega.{arith}
use native.Mathlib.Decide.{ℕ_discrete}
use lib.IntN.{ℤ}
use lib.ListN.{length}
use Rattle.integers.proofs.Tests.{eqb_same, eqb_other}
use Rattle.signs.specs.Lists.{times}
use Rattle.signs.proofs.Lists.{times-nil, times-same, times_other, times-append}
use Rattle.solutions.specs.Solver.{lookup}

pub lookup-same : (x : ℕ) (A : List ℕ) (d : ℤ) (ds : List ℤ) → lookup x (x ∷ A) (d ∷ ds) ≡ d
unfolding lookup
lookup-same x A d ds = rw (eqb_same x) refl

pub lookup_other : (α x : ℕ) (A : List ℕ) (d : ℤ) (ds : List ℤ) → α ≢ x → lookup α (x ∷ A) (d ∷ ds) ≡ lookup α A ds
unfolding lookup
lookup_other α x A d ds h = rw (eqb_other α x h) refl

-- the number asked of a product whose numbers f gives
pub lookup-map : (f : ℕ → ℤ) (A : List ℕ) (α : ℕ) → 0 < times α A → lookup α A (map f A) ≡ f α
lookup-map f [] α m = absurd (omega (arith, times-nil α))
lookup-map f (x ∷ A) α m = go (ℕ_discrete α x) (lookup-map f A α)
  where
    go : Dec (α ≡ x) → (0 < times α A → lookup α A (map f A) ≡ f α) → lookup α (x ∷ A) (f x ∷ map f A) ≡ f α
    go (yes e) ih = rw e (lookup-same x A (f x) (map f A))
    go (no e) ih = lookup_other α x A (f x) (map f A) e ∙ ih (omega (arith, times_other α x A e))

-- and f where it gives each number asked
pub map-lookup : (f : ℕ → ℤ) (A : List ℕ) (ds : List ℤ) → length A ≡ length ds → ((α : ℕ) → times α A ≤ 1)
    → ((α : ℕ) → 0 < times α A → f α ≡ lookup α A ds) → map f A ≡ ds
map-lookup f [] [] l o e = refl
map-lookup f [] (d ∷ ds) l o e = absurd (omega arith)
map-lookup f (x ∷ A) [] l o e = absurd (omega arith)
map-lookup f (x ∷ A) (d ∷ ds) l o e =
    ap₂ ◌∷◌ (e x (omega (arith, times-same x A)) ∙ lookup-same x A d ds)
    (map-lookup f A ds (omega arith) (λ α. omega (arith, times-append α (x ∷ []) A, o α))
    (λ α m. e α (omega (arith, times-append α (x ∷ []) A)) ∙ lookup_other α x A d ds (apart α m)))
  where
    apart : (α : ℕ) → 0 < times α A → α ≢ x
    apart α m g = let m' : 0 < times x A = (rw g at m) in omega (arith, o x, times-same x A)
