-- `query_list::first_bad` meets its contract.
use mathlib.Core.Path.{◌≡◌, refl, sym}
use mathlib.Core.List.{List, [], ◌∷◌}
use Prim.Native.Nat.{ℕ, ◌+◌, ◌≤◌, ◌<◌}
use native.Mathlib.Omega.{arith}
use borrow.Author.Rules.{rules}
use borrow.Author.Tests.{tests, le-leb, lt-leb}
use Rattle.std.specs.List.{HoldsAt, AllWithin}
use Rattle.std.specs.Prelude.{Option, None, Some, MatchOption, unwrap_or}
use Rattle.std.proofs.lemmas.Iterator.{YieldsList-from_slice, IsFirst-from_position, index_from_first}
use Rattle.query_list.specs.Listing.{first_bad}
use Rattle.query_list.proofs.first_bad.Goals as goal

hit : (m x : ℕ) (l : List ℕ) → m ≤ x → first_bad m (x ∷ l) ≡ 0
unfolding first_bad
hit m x l h = rw (le-leb m x h) refl

miss : (m x : ℕ) (l : List ℕ) → x < m → first_bad m (x ∷ l) ≡ first_bad m l + 1
unfolding first_bad
miss m x l h = rw (lt-leb m x h) (omega arith)

none : (m : ℕ) → first_bad m [] ≡ 0
unfolding first_bad
none m = refl

placed : (r : Option ℕ) (n long : ℕ) (A : Type 0) (B C : ℕ → Type 0) → n ≡ unwrap_or r long → MatchOption r A (λ i. (i < long) × B i × C i)
    → MatchOption r (long ≤ n) (λ p. (p ≡ n) × (p < long))
placed None n long A B C e f = omega arith
placed (Some p) n long A B C e f = (sym e, f.0)

pub returns : goal.returns
returns c =
    let l = c.args.l.now in
    let m = c.args.m in
    let f =
    IsFirst-from_position _ _ c.position.result (λ a. m ≤ a) (λ a. a < m) c.position.ensures.ran (YieldsList-from_slice l cc)
    (λ x q k. search (rules, tests)) (λ x q k. search (rules, tests)) in
    placed _ _ _ _ (λ i. HoldsAt (λ a. m ≤ a) l i) (λ i. AllWithin (λ a. a < m) l 0 i)
    (index_from_first (first_bad m) (λ a. m ≤ a) (λ a. a < m) (none m) (hit m) (miss m) l _ f) f
