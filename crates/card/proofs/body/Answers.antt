-- `card::body` meets its contract.
use mathlib.Core.Path.{◌≡◌, refl, sym, ap}
use mathlib.Core.List.{[], List}
use Prim.Native.Nat.{ℕ, ◌+◌, ◌-◌, ◌≤◌}
use native.Mathlib.Omega.{arith}
use lib.ListN.{length, take, drop}
use Rattle.std.proofs.Common.{Ok, Err}
use Rattle.refusals.specs.declared.Refusal.{Refusal}
use Rattle.refusals.proofs.Refusals.{unless_none, unless_some, given_none, given_is, given_some}
use Rattle.layout.specs.Format.{offset}
use Rattle.card.specs.declared.Stretch.{Stretch}
use Rattle.card.specs.Kinds.{body_size}
use Rattle.card.specs.Card.{position_refusal}
use Rattle.card.specs.Answers.{place, stretch, body, start}
use Rattle.card.proofs.Positions.{held}
use Rattle.card.proofs.body.Goals as goal

-- ---- a refused card or position
module _ (c : List ℕ) (j : ℕ) {e : Refusal} (h : Err e ≡ stretch c j) where
  refused : position_refusal c j ≡ 0 → ⊥
  unfolding stretch
  refused = given_some _ _ h

  no_bytes : [] ≡ body c j
  unfolding body
  no_bytes = sym (unless_some _ _ _ refused)

  no_start : (at : ℕ) → at ≡ at + start c j
  unfolding start
  no_start at = let z : start c j ≡ 0 = unless_some _ _ _ refused in omega arith

-- ---- the stretch s
module _ (c : List ℕ) (j : ℕ) {s : Stretch} (h : Ok s ≡ stretch c j) where
  taken : position_refusal c j ≡ 0
  unfolding stretch
  taken = given_none _ _ h

  is_place : s ≡ place c j
  unfolding stretch
  is_place = given_is (position_refusal c j) _ h

  starts : s.start ≡ offset c j
  starts = ap Stretch.start is_place

  spans : s.len ≡ body_size c (offset c j)
  spans = ap Stretch.len is_place

  ends : s.start + s.len ≤ length c
  ends = rw (starts, spans) (held c j taken).place.ends

  bytes : take (s.start + s.len - s.start) (drop s.start c) ≡ body c j
  unfolding body
  bytes = let d : s.start + s.len - s.start ≡ s.len = omega arith in rw (d, starts, spans) (sym (unless_none _ _ _ taken))

  begins : (at : ℕ) → s.start + at ≡ at + start c j
  unfolding start
  begins at = let b : start c j ≡ offset c j = unless_none _ _ _ taken in omega (arith, starts)

pub overflow_add-result : goal.overflow_add-result
overflow_add-result c = let l = ends _ _ c.in-Ok.ensures in omega arith

pub slice_bounds-result-end : goal.slice_bounds-result-end
slice_bounds-result-end c = let l = ends _ _ c.in-Ok.ensures in omega arith

pub returns-in-Ok : goal.returns-in-Ok
returns-in-Ok c = (bytes _ _ c.in-Ok.ensures, refl, begins _ _ c.in-Ok.ensures _)

pub returns-in-Err : goal.returns-in-Err
returns-in-Err c = (no_bytes _ _ c.in-Err.ensures, refl, no_start _ _ c.in-Err.ensures _)
