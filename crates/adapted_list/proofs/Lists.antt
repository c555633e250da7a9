-- The test of a list, and the answers of a call by its causes in document 01's order.
use mathlib.Core.Path.{◌≡◌, refl, ap, ◌∙◌}
use mathlib.Core.Bool.{true, false}
use Rattle.std.specs.Prelude.{Ok}
use mathlib.Core.List.{List, [], ◌∷◌, ◌++◌}
use Prim.Native.Nat.{ℕ, ◌^◌, ◌<◌, ◌≤◌}
use native.Mathlib.Omega.{arith}
use native.Mathlib.Nat.{add-zero, zero-add}
use borrow.Author.Tests.{lt-ltb, le-leb, lt-leb, leb-true}
use lib.Dec.{leb}
use lib.ListN.{length, drop}
use lib.Seq.{sets, sets-eq}
use Rattle.refusals.specs.Limits.{most_polynomials, most_points}
use Rattle.refusals.specs.Numbers.{wrong_count, wrong_list, too_short}
use Rattle.refusals.specs.Refusals.{refusing}
use Rattle.signs.specs.Lists.{Below, Rising, is_below, is_rising, is_patterns, shift}
use Rattle.signs.specs.Adapted.{adapted}
use Rattle.signs.proofs.Orders.{both_left, both_right, below_from, rising_from}
use Rattle.signs.proofs.Size.{as_many}
use Rattle.adapted_list.specs.Listing.{list_of}

-- ---- the test

pub patterns_true : (s : ℕ) (L : List ℕ) → is_patterns s L ≡ true → (length L ≤ most_points) × Rising L × Below (3 ^ s) L
unfolding is_patterns
patterns_true s L e =
    let g = both_right (leb (length L) most_points) _ e in (
      leb-true (length L) most_points (both_left _ _ e),
      rising_from L (both_left (is_rising L) (is_below (3 ^ s) L) g),
      below_from (3 ^ s) L (both_right (is_rising L) (is_below (3 ^ s) L) g),
    )

-- ---- the answers

module _ (s : ℕ) (L out : List ℕ) where
  pub refused_none : s ≡ 0 → list_of s L out ≡ (refusing wrong_count, out)
  unfolding list_of
  refused_none h = rw h refl

  pub refused-many : most_polynomials < s → list_of s L out ≡ (refusing wrong_count, out)
  unfolding list_of
  refused-many h = rw (lt-ltb 0 s (omega arith), lt-leb s most_polynomials h) refl

  pub refused_list : (s ≡ 0 → ⊥) → s ≤ most_polynomials → is_patterns s L ≡ false → list_of s L out ≡ (refusing wrong_list, out)
  unfolding list_of
  refused_list h k e = rw (lt-ltb 0 s (omega arith), le-leb s most_polynomials k, e) refl

  pub refused-short : (s ≡ 0 → ⊥) → s ≤ most_polynomials → is_patterns s L ≡ true → length out < length L
      → list_of s L out ≡ (refusing too_short, out)
  unfolding list_of
  refused-short h k e q = rw (lt-ltb 0 s (omega arith), le-leb s most_polynomials k, e, lt-leb (length L) (length out) q) refl

  pub written : (s ≡ 0 → ⊥) → s ≤ most_polynomials → is_patterns s L ≡ true → length L ≤ length out
      → list_of s L out ≡ (Ok tt, adapted s L ++ drop (length L) out)
  unfolding list_of
  written h k e q = rw (lt-ltb 0 s (omega arith), le-leb s most_polynomials k, e, le-leb (length L) (length out) q) refl

-- ---- what the stores leave

shift_none : (l : List ℕ) → shift 0 l ≡ l
unfolding shift
shift_none [] = refl
shift_none (x ∷ l) = rw (add-zero, shift_none l) refl

pub stored : (s : ℕ) (L out : List ℕ) → Rising L → Below (3 ^ s) L → length L ≤ length out
    → sets out 0 (shift 0 (adapted s L)) ≡ adapted s L ++ drop (length L) out
stored s L out r b h =
    ap (sets out 0) (shift_none (adapted s L))
    ∙ sets-eq (adapted s L) out 0 (omega (arith, zero-add (length (adapted s L)), as_many s L r b))
    ∙ rw (zero-add, as_many s L r b) refl
