-- THEOREM of document 02's wishes 1 and 6: `Finer` holds of every card that is not of points in the plane, `PlaneFiner` of those.
use mathlib.Core.Path.{◌≡◌, refl, sym, ap, subst, ◌∙◌}
use mathlib.Core.Bool.{Bool, true, false, not, ◌||◌, ◌&&◌}
use mathlib.Core.Logic.{⊎_elim, ◌↔◌, ◌⊎◌}
use mathlib.Core.List.{List}
use Prim.Native.Nat.{ℕ, zero, suc, ◌+◌, ◌≤◌, ◌<◌}
use native.Mathlib.Omega.{arith}
use borrow.Author.Tests.{lt-ltb, ltb-true, eq-eqb}
use lib.Dec.{ltb, leb, eqb}
use lib.IntN.{nat_abs}
use lib.ListN.{length}
use Rattle.integers.proofs.Abs.{abs_zero}
use Rattle.integers.proofs.Tests.{eq_cases}
use Rattle.refusals.specs.Numbers.{◌when◌, ◌▸◌}
use Rattle.layout.specs.Format.{byte, polynomials, point_count, offset, bodies_at, degree, size, coefficient, point}
use Rattle.layout.specs.Body.{Whole, Small}
use Rattle.plane.specs.Format.{is_plane}
use Rattle.plane.specs.Body.{WholePlane, Terms, PlaneBody}
use Rattle.plane_checks.specs.Checks.{plane_refusal}
use Rattle.plane_checks.specs.Claim.{ManyTerms}
use Rattle.plane_checks.proofs.Refuses.{refuses}
use Rattle.plane_checks.proofs.Listed.{plane_holds}
use Rattle.card.specs.Kinds.{body_size, SoundBody}
use Rattle.layout.proofs.Twos.{below_or}
use Rattle.integers.specs.Search.{any_below, outside}
use Rattle.card.specs.Card.{falling, contents_refusal, header_refusal, coefficients_refusal, polynomial_refusal}
use Rattle.card.specs.Card.{body_refusal, bodies_refusal, points_refusal, refusal}
use Rattle.card.specs.Finer.{Reached, HighDegree, LargeCoefficient, ZeroTop, coarse, polynomials_before, refusal_before, Finer}
use Rattle.card.specs.Finer.{PlaneFiner}
use Rattle.integers.proofs.Search.{or_none, some_which}
use Rattle.refusals.proofs.Causes.{first_some, is_equal}
use Rattle.card.proofs.Header.{headed}
use Rattle.card.proofs.Polynomial.{large_coefficient, zero-top, sound_constant, sound-coefficients, no_degree, large_degree}
use Rattle.card.proofs.Polynomial.{cut_body, whole-body, small_of, none_large}
use Rattle.card.proofs.ByKind.{is_plane_lem, not_plane, plane-body, line-body, sound-body, unrefused_body}
use Rattle.card.proofs.Listed.{header_holds, polynomial_holds, end_holds}

-- ---- as before

-- a cause alone, before others, and at the front of a part of the order
last : (m k : ℕ) (t : Bool) → coarse (suc m) ≡ suc k → coarse (suc m when t) ≡ (suc k when t)
unfolding coarse
last m k true e = e
last m k false e = refl

one : (m k : ℕ) (t : Bool) (r : ℕ) {b : ℕ} → coarse (suc m) ≡ suc k → coarse r ≡ b → coarse (suc m when t ▸ r) ≡ (suc k when t ▸ b)
one m k true r e h = e
one m k false r e h = h

inside : (m k : ℕ) (t : Bool) (y r : ℕ) {b : ℕ} → coarse (suc m) ≡ suc k → coarse (y ▸ r) ≡ b
    → coarse ((suc m when t ▸ y) ▸ r) ≡ (suc k when t ▸ b)
inside m k true y r e h = e
inside m k false y r e h = h

-- the limits and the top coefficient were one cause
both : (a b : Bool) (r : ℕ) {d : ℕ} → coarse r ≡ d → coarse ((5 when a ▸ 17 when b) ▸ r) ≡ (5 when (a || b) ▸ d)
unfolding coarse
both true b r h = refl
both false true r h = refl
both false false r h = h

module _ (c : List ℕ) (line : is_plane c ≡ false) where
  polynomials-before : (k j at : ℕ) → coarse (bodies_refusal c k j at) ≡ polynomials_before c k j at
  unfolding bodies_refusal polynomial_refusal coefficients_refusal points_refusal polynomials_before coarse
  polynomials-before zero j at =
      rw line
      (one 0 0 (not (eqb (length c) (at + point_count c))) _ refl
      (last 5 5 (any_below (λ k. outside 100 (point c at k) || falling c at k) (point_count c)) refl))
  polynomials-before (suc k) j at =
      rw line
      (inside 0 0 (leb (length c) at) _ _ refl
      (inside 15 4 (ltb 6 (degree c at)) _ _ refl
      (inside 0 0 (ltb (length c) (at + size c at)) _ _ refl
      (both (any_below (λ i. outside 1000000 (coefficient c at i)) (degree c at + 1))
      (ltb 0 (degree c at) && eqb (nat_abs (coefficient c at (degree c at))) 0) _
      (one 3 3 (not (eqb (offset c (suc j)) (at + size c at))) _ refl (polynomials-before k (suc j) (at + size c at)))))))

  before : coarse (refusal c) ≡ refusal_before c
  unfolding refusal header_refusal contents_refusal refusal_before coarse
  before =
      rw (line, or_none (eqb (byte c 0) 1))
      (inside 0 0 (ltb (length c) 4) _ _ refl
      (inside 1 1 (not (eqb (byte c 0) 1) || not (eqb (byte c 3) 0)) _ _ refl
      (inside 2 2 (ltb (polynomials c) 1 || ltb 8 (polynomials c)) _ _ refl
      (inside 2 2 (ltb 64 (point_count c)) _ _ refl
      (inside 0 0 (ltb (length c) (bodies_at c)) _ _ refl
      (one 3 3 (not (eqb (offset c 0) (bodies_at c))) _ refl (polynomials-before (polynomials c) 0 (bodies_at c))))))))

-- ---- one polynomial

-- what its number says
record Told (c : List ℕ) (at : ℕ) : Type 0 where
  five : polynomial_refusal c at ≡ 5 → LargeCoefficient c at
  sixteen : polynomial_refusal c at ≡ 16 → HighDegree c at
  seventeen : polynomial_refusal c at ≡ 17 → ZeroTop c at

module _ (c : List ℕ) (at : ℕ) where
  whole_is : Whole c at → polynomial_refusal c at ≡ coefficients_refusal c at
  whole_is w = whole-body c at w.begins w.low w.ends

  -- each cause has its number
  high_refused : HighDegree c at → polynomial_refusal c at ≡ 16
  high_refused (b, h) = large_degree c at b h

  large_refused : LargeCoefficient c at → polynomial_refusal c at ≡ 5
  large_refused (w, i, l, h) = whole_is w ∙ large_coefficient c at i l (lt-ltb 1000000 _ h)

  top-refused : ZeroTop c at → polynomial_refusal c at ≡ 17
  top-refused (m, p, z) = whole_is m.whole ∙ zero-top c at (none_large c at m) p (ap nat_abs z)

  -- and no other
  other : polynomial_refusal c at ≤ 1 → Told c at
  other h =
      record {
        five = λ e. absurd (omega arith);
        sixteen = λ e. absurd (omega arith);
        seventeen = λ e. absurd (omega arith);
      }

  high : HighDegree c at → Told c at
  high w =
      let h = high_refused w in
      record { five = λ e. absurd (omega arith); sixteen = λ e. w; seventeen = λ e. absurd (omega arith) }

  large : LargeCoefficient c at → Told c at
  large w =
      let h = large_refused w in
      record { five = λ e. w; sixteen = λ e. absurd (omega arith); seventeen = λ e. absurd (omega arith) }

  top : ZeroTop c at → Told c at
  top w =
      let h = top-refused w in
      record { five = λ e. absurd (omega arith); sixteen = λ e. absurd (omega arith); seventeen = λ e. w }

  by_top : Small c at → Told c at
  by_top m =
      ⊎_elim
      (λ p. ⊎_elim
      (λ h. other (let e = whole_is m.whole ∙ sound-coefficients c at none p (λ z. absurd (omega arith)) in omega arith))
      (λ h. top (m, p, abs_zero _ (omega arith)))
      (below_or 0 (nat_abs (coefficient c at (degree c at)))))
      (λ h. other (let e = whole_is m.whole ∙ sound_constant c at none h in omega arith))
      (below_or 0 (degree c at))
    where
      none : any_below (λ k. outside 1000000 (coefficient c at k)) (degree c at + 1) ≡ false
      none = none_large c at m

  by_limits : Whole c at → (t : Bool) → any_below (λ k. outside 1000000 (coefficient c at k)) (degree c at + 1) ≡ t → Told c at
  by_limits w true e =
      let (i, l, h) = some_which (λ k. outside 1000000 (coefficient c at k)) (degree c at + 1) e in
      large (w, i, omega arith, ltb-true 1000000 _ h)
  by_limits w false e = by_top (small_of c at w e)

  by_length : at < length c → degree c at ≤ 6 → Told c at
  by_length b l =
      ⊎_elim (λ h. other (let e = cut_body c at b l h in omega arith))
      (λ h. by_limits (record { begins = b; low = l; ends = h }) _ refl)
      (below_or (length c) (at + size c at))

  told : Told c at
  told =
      ⊎_elim (λ b. ⊎_elim (λ h. high (b, h)) (by_length b) (below_or 6 (degree c at)))
      (λ h. other (let e = no_degree c at h in omega arith))
      (below_or at (length c))

-- ---- the whole card, refused by a number that is neither the header's nor the points'

module _ (c : List ℕ) (m : ℕ) (past4 : 4 < m) (not6 : m ≡ 6 → ⊥) where
  abbrev Refused : Type 0
  Refused = (j : ℕ) × Reached c j × (body_refusal c (offset c j) ≡ m)

  -- what holds of j and below it
  up_to : (P : ℕ → Type 0) (j : ℕ) → P j → ((i : ℕ) → i < j → P i) → (i : ℕ) → i < suc j → P i
  up_to P j here f i h = ⊎_elim (λ w. subst P (sym w.0) here) (λ w. f i (omega (arith, w.0))) (eq_cases i j)

  -- the number is that of a polynomial that is reached
  from : header_refusal c ≡ 0 → (k j : ℕ) → j + k ≡ polynomials c → ((i : ℕ) → i < j → SoundBody c (offset c i))
      → ((i : ℕ) → i < j → offset c (suc i) ≡ offset c i + body_size c (offset c i)) → bodies_refusal c k j (offset c j) ≡ m → Refused
  unfolding bodies_refusal
  from H zero j s bodies follows e =
      absurd (end_holds (λ n. n ≡ m → ⊥) (λ z. omega arith) c (offset c j) (λ z. omega arith) (λ z. not6 (sym z)) e)
  from H (suc k) j s bodies follows e =
      by_polynomial (body_refusal c (offset c j)) refl e λ p f r.
      from H k (suc j) (omega arith) (up_to (λ i. SoundBody c (offset c i)) j (sound-body c (offset c j) p) bodies)
      (up_to (λ i. offset c (suc i) ≡ offset c i + body_size c (offset c i)) j f follows) (rw f r)
    where
      end : ℕ
      end = offset c j + body_size c (offset c j)

      Next : Type 0
      Next = body_refusal c (offset c j) ≡ 0 → offset c (suc j) ≡ end → bodies_refusal c k (suc j) end ≡ m → Refused

      by_offset : body_refusal c (offset c j) ≡ 0 → (t : Bool) → not (eqb (offset c (suc j)) end) ≡ t
          → (4 when t ▸ bodies_refusal c k (suc j) end) ≡ m → Next → Refused
      by_offset p true t e next = absurd (omega arith)
      by_offset p false t e next = next p (is_equal (offset c (suc j)) end t) e

      by_polynomial : (p : ℕ) → body_refusal c (offset c j) ≡ p
          → (p ▸ (4 when not (eqb (offset c (suc j)) end) ▸ bodies_refusal c k (suc j) end)) ≡ m → Next → Refused
      by_polynomial zero p e next = by_offset p _ refl e next
      by_polynomial (suc n) p e next = (j, record { header = H; below = omega arith; body = bodies; follows = follows }, p ∙ e)

  refused : refusal c ≡ m → Refused
  unfolding refusal
  refused e = by_header (header_refusal c) refl e
    where
      by_header : (h : ℕ) → header_refusal c ≡ h → (h ▸ bodies_refusal c (polynomials c) 0 (bodies_at c)) ≡ m → Refused
      by_header zero H e =
          from H (polynomials c) 0 (omega arith) (λ i h. absurd (omega arith)) (λ i h. absurd (omega arith)) (rw (headed c H).begins e)
      by_header (suc h) H e =
          absurd (header_holds (λ n. n ≡ m → ⊥) (λ z. omega arith) c (λ z. omega arith) (λ z. omega arith) (λ z. omega arith)
          (λ z. omega arith) (H ∙ e))

  -- and where a polynomial that is reached is refused by the number, the card is
  back : (j : ℕ) → Reached c j → body_refusal c (offset c j) ≡ m → (k i : ℕ) → i + k ≡ polynomials c → i ≤ j
      → bodies_refusal c k i (offset c i) ≡ m
  unfolding bodies_refusal
  back j r p zero i s l = absurd (omega (arith, r.below))
  back j r p (suc k) i s l =
      ⊎_elim (λ w. rw (w.0, p) (sym (first_some m _ (λ z. omega arith))))
      (λ w. let h : i < j = omega (arith, w.0) in let f = r.follows i h in
      rw (unrefused_body c (offset c i) (headed c r.header).byte0 (r.body i h), eq-eqb _ _ f, ← f)
      (back j r p k (suc i) (omega arith) (omega arith)))
      (eq_cases i j)

  number : Refused → refusal c ≡ m
  unfolding refusal
  number (j, r, p) =
      rw (r.header, ← (headed c r.header).begins) (back j r p (polynomials c) 0 (omega arith) (omega arith))

  exactly : (C : ℕ → Type 0) → ((at : ℕ) → body_refusal c at ≡ m → C at) → ((at : ℕ) → C at → body_refusal c at ≡ m)
      → (refusal c ≡ m) ↔ ((j : ℕ) × Reached c j × C (offset c j))
  exactly C told-by refused-by = (
    λ e. let (j, r, p) = refused e in (j, r, told-by (offset c j) p),
    λ w. number (w.0, w.1, refused-by (offset c w.0) w.2),
  )

  -- no polynomial is refused by the number
  never : ((at : ℕ) → body_refusal c at ≡ m → ⊥) → refusal c ≡ m → ⊥
  never f e = let (j, r, p) = refused e in f (offset c j) p

-- ---- on the line
module _ (c : List ℕ) (h : byte c 0 ≡ 2 → ⊥) where
  on_line : (at : ℕ) → body_refusal c at ≡ polynomial_refusal c at
  on_line at = line-body c at (not_plane c h)

  pub finer : Finer c
  finer =
      record {
        five = exactly c 5 (omega arith) (λ z. omega arith) (LargeCoefficient c) (λ at e. (told c at).five (sym (on_line at) ∙ e))
            (λ at w. on_line at ∙ large_refused c at w);
        sixteen = exactly c 16 (omega arith) (λ z. omega arith) (HighDegree c) (λ at e. (told c at).sixteen (sym (on_line at) ∙ e))
            (λ at w. on_line at ∙ high_refused c at w);
        seventeen = exactly c 17 (omega arith) (λ z. omega arith) (ZeroTop c) (λ at e. (told c at).seventeen (sym (on_line at) ∙ e))
            (λ at w. on_line at ∙ top-refused c at w);
        as_before = before c (not_plane c h);
        no_18 = never c 18 (omega arith) (λ z. omega arith)
            (λ at e. polynomial_holds (λ n. n ≡ 18 → ⊥) (λ z. omega arith) c at (λ z. omega arith) (λ z. omega arith) (λ z. omega arith)
            (λ z. omega arith) (sym (on_line at) ∙ e));
      }

-- ---- in the plane
module _ (c : List ℕ) (h : byte c 0 ≡ 2) where
  in_plane : (at : ℕ) → body_refusal c at ≡ plane_refusal c at
  in_plane at = plane-body c at (is_plane_lem c h)

  only : (m : ℕ) → (1 ≡ m → ⊥) → (18 ≡ m → ⊥) → (5 ≡ m → ⊥) → (0 ≡ m → ⊥) → (at : ℕ) → body_refusal c at ≡ m → ⊥
  only m a b d z at e = plane_holds (λ n. n ≡ m → ⊥) z c at a b d (sym (in_plane at) ∙ e)

  pub plane_finer : PlaneFiner c
  plane_finer =
      record {
        eighteen = exactly c 18 (omega arith) (λ z. omega arith)
            (λ at. ManyTerms c at ⊎ (WholePlane c at × (Terms c at → ⊥))) (λ at e. (refuses c at).is_18.0 (sym (in_plane at) ∙ e))
            (λ at w. in_plane at ∙ (refuses c at).is_18.1 w);
        five = exactly c 5 (omega arith) (λ z. omega arith)
            (λ at. Terms c at × (PlaneBody c at → ⊥)) (λ at e. (refuses c at).is_5.0 (sym (in_plane at) ∙ e))
            (λ at w. in_plane at ∙ (refuses c at).is_5.1 w);
        no_16 = never c 16 (omega arith) (λ z. omega arith)
            (only 16 (λ z. omega arith) (λ z. omega arith) (λ z. omega arith) (λ z. omega arith));
        no_17 = never c 17 (omega arith) (λ z. omega arith)
            (only 17 (λ z. omega arith) (λ z. omega arith) (λ z. omega arith) (λ z. omega arith));
      }
