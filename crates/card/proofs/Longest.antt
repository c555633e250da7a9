-- How long a card may be, by its kind, and how many bytes of an input decide: `longest_line_lem`, `longest_plane`, `longest_card_lem`.
--
--   line_longest  == a sound card of 318 bytes: 8 polynomials of degree 6 with all coefficients 1, and 64 points 0
--   plane_longest == a sound card of 590 bytes: 8 polynomials of 9 terms with all coefficients 1, and 64 points (0, 0)
use mathlib.Core.Path.{◌≡◌, refl, sym, ap, ◌∙◌}
use mathlib.Core.Bool.{Bool, true, false, not, ◌||◌}
use mathlib.Core.Logic.{◌⊎◌, ⊎_elim}
use mathlib.Core.List.{List, [], ◌∷◌, ◌++◌}
use Prim.Native.Nat.{ℕ, zero, suc, ◌+◌, ◌*◌, ◌≤◌, ◌<◌}
use native.Mathlib.Omega.{arith}
use borrow.Author.Tests.{le-ltb, lt-leb, ltb-false}
use lib.Dec.{ltb, eqb}
use lib.ListN.{length, take, replicate}
use lib.Seq.{take_all, length-take-le, get_or-take}
use Rattle.refusals.specs.Numbers.{wrong_byte, wrong_count, wrong_offset, wrong_degree, ◌when◌}
use Rattle.refusals.specs.Limits.{most_polynomials, most_points, most_degree, most_coefficient, longest_line, longest_card}
use Rattle.refusals.proofs.Causes.{holds_not, next}
use Rattle.integers.specs.Search.{any_below, outside}
use Rattle.integers.proofs.Search.{right_false, any_same}
use Rattle.integers.proofs.Tests.{eq_cases}
use Rattle.layout.specs.Format.{byte, polynomials, point_count, offset, bodies_at, degree, size, word, two's, coefficient}
use Rattle.layout.proofs.Twos.{below_or}
use Rattle.plane.specs.Format.{is_plane}
use Rattle.plane_checks.specs.Checks.{plane_refusal, plane_points_refusal}
use Rattle.plane_checks.proofs.Refuses.{refuses}
use Rattle.plane_checks.proofs.Points.{plane_not_full}
use Rattle.plane_checks.proofs.Same.{same-plane, same-plane-size}
use Rattle.card.specs.Kinds.{body_size}
use Rattle.card.specs.Card.{contents_refusal, header_refusal, polynomial_refusal, coefficients_refusal, body_refusal, end_refusal}
use Rattle.card.specs.Card.{bodies_refusal, points_refusal, refusal}
use Rattle.card.specs.Sound.{Sound}
use Rattle.card.specs.Longest.{Longest}
use Rattle.card.proofs.ByKind.{other, is_plane_lem, not_plane, is_line, plane-size, plane-body, plane_end}
use Rattle.card.proofs.ByKind.{line-size, line-body, line_end}
use Rattle.card.proofs.Header.{headed}
use Rattle.card.proofs.Polynomial.{whole}
use Rattle.card.proofs.Points.{not_full}
use Rattle.card.proofs.Sound.{sound}

-- ---- no sound card is longer

-- p, and k times w
abbrev past : ℕ → ℕ → ℕ → ℕ
past p w zero = p
past p w (suc k) = w + past p w k

past_least : (p w n : ℕ) → p ≤ past p w n
past_least p w zero = omega arith
past_least p w (suc n) = omega (arith, past_least p w n)

past-le : (p w k n : ℕ) → k ≤ n → past p w k ≤ past p w n
past-le p w zero n h = past_least p w n
past-le p w (suc k) zero h = absurd (omega arith)
past-le p w (suc k) (suc n) h = omega (arith, past-le p w k n (omega arith))

-- body j begins at most w bytes after the one before it
module _ (c : List ℕ) (S : Sound c) (w : ℕ) (near : (j : ℕ) → j < polynomials c → body_size c (offset c j) ≤ w) where
  offset_near : (j : ℕ) → j ≤ polynomials c → offset c j ≤ past (bodies_at c) w j
  offset_near zero h = omega (arith, S.begins)
  offset_near (suc j) h = omega (arith, offset_near j (omega arith), S.follows j (omega arith), near j (omega arith))

module _ (c : List ℕ) (S : Sound c) where
  line-long : byte c 0 ≡ 1 → length c ≤ longest_line
  line-long e =
      let o = offset_near c S 29 (λ j h. let b = ((S.body j h).line e).small.whole.low in
      omega (arith, line-size c (offset c j) (is_line c e))) (polynomials c) (omega arith) in
      omega (arith, past-le (bodies_at c) 29 (polynomials c) 8 S.s_most, (S.points.line e).ends, S.s_most, S.n_most)

  plane-long : byte c 0 ≡ 2 → length c ≤ longest_card
  plane-long e =
      let o = offset_near c S 55 (λ j h. let b = ((S.body j h).plane e).terms.whole.few in
      omega (arith, plane-size c (offset c j) (is_plane_lem c e))) (polynomials c) (omega arith) in
      omega (arith, past-le (bodies_at c) 55 (polynomials c) 8 S.s_most, (S.points.plane e).ends, S.s_most, S.n_most)

  card_long : length c ≤ longest_card
  card_long = ⊎_elim (λ e. omega (arith, line-long e)) plane-long S.kind

-- ---- and one has so many bytes

abbrev line_body : List ℕ
line_body =
    6 ∷ 0 ∷ 0 ∷ 0 ∷ 1 ∷ 0 ∷ 0 ∷ 0 ∷ 1 ∷ 0 ∷ 0 ∷ 0 ∷ 1 ∷ 0 ∷ 0 ∷ 0 ∷ 1 ∷ 0 ∷ 0 ∷ 0 ∷ 1 ∷ 0 ∷ 0 ∷ 0 ∷ 1 ∷ 0 ∷ 0 ∷ 0 ∷ 1 ∷ []

-- term (a, b) with the coefficient 1, before others
abbrev term : ℕ → ℕ → List ℕ → List ℕ
term a b l = a ∷ b ∷ 0 ∷ 0 ∷ 0 ∷ 1 ∷ l

abbrev plane_body : List ℕ
plane_body = 9 ∷ term 0 0 (term 0 1 (term 0 2 (term 1 0 (term 1 1 (term 1 2 (term 2 0 (term 2 1 (term 2 2 []))))))))

abbrev times : ℕ → List ℕ → List ℕ → List ℕ
times zero b l = l
times (suc k) b l = b ++ times k b l

abbrev pub line_longest : List ℕ
line_longest =
    1 ∷ 8 ∷ 64 ∷ 0 ∷ 0 ∷ 22 ∷ 0 ∷ 51 ∷ 0 ∷ 80 ∷ 0 ∷ 109 ∷ 0 ∷ 138 ∷ 0 ∷ 167 ∷ 0 ∷ 196 ∷ 0 ∷ 225 ∷ 0 ∷ 254
    ∷ times 8 line_body (replicate 64 0)

abbrev pub plane_longest : List ℕ
plane_longest =
    2 ∷ 8 ∷ 64 ∷ 0 ∷ 0 ∷ 22 ∷ 0 ∷ 77 ∷ 0 ∷ 132 ∷ 0 ∷ 187 ∷ 0 ∷ 242 ∷ 1 ∷ 41 ∷ 1 ∷ 96 ∷ 1 ∷ 151 ∷ 1 ∷ 206
    ∷ times 8 plane_body (replicate 128 0)

unrefused_line : refusal line_longest ≡ 0
unfolding refusal header_refusal contents_refusal bodies_refusal polynomial_refusal coefficients_refusal points_refusal any_below offset
    two's word
unrefused_line = refl

unrefused_plane : refusal plane_longest ≡ 0
unfolding refusal header_refusal contents_refusal bodies_refusal plane_refusal plane_points_refusal any_below offset two's word
unrefused_plane = refl

-- ---- two inputs longer than m with the same bytes up to there

module _ (c d : List ℕ) (m : ℕ) (room : longest_line ≤ m) (long-c : m < length c) (long-d : m < length d)
    (same : (i : ℕ) → i < m → byte c i ≡ byte d i) where
  same-offset : (j : ℕ) → j ≤ most_polynomials → offset c j ≡ offset d j
  unfolding offset
  same-offset j h = rw (same (4 + 2 * j) (omega arith), same (5 + 2 * j) (omega arith)) refl

  same-contents : polynomials d ≤ most_polynomials → contents_refusal c ≡ contents_refusal d
  unfolding contents_refusal
  same-contents h =
      rw (
        same 1 (omega arith),
        le-ltb (length c) (bodies_at d) (omega arith),
        le-ltb (length d) (bodies_at d) (omega arith),
        same-offset 0 (omega arith),
      )
      refl

  same-header : header_refusal c ≡ header_refusal d
  unfolding header_refusal
  same-header =
      rw (
        le-ltb (length c) 4 (omega arith),
        le-ltb (length d) 4 (omega arith),
        same 0 (omega arith),
        same 3 (omega arith),
        same 1 (omega arith),
        same 2 (omega arith),
      )
      (next two two _ _ refl (λ e0. next few few _ _ refl (λ e1. next small small _ _ refl (λ e2. same-contents (most e1)))))
    where
      two : ℕ
      two = wrong_byte when (other d || not (eqb (byte d 3) 0))

      few : ℕ
      few = wrong_count when (ltb (polynomials d) 1 || ltb most_polynomials (polynomials d))

      small : ℕ
      small = wrong_count when ltb most_points (point_count d)

      most : few ≡ 0 → polynomials d ≤ most_polynomials
      most e =
          ltb-false most_polynomials (polynomials d) (right_false (ltb (polynomials d) 1) (ltb most_polynomials (polynomials d))
          (holds_not 2 (ltb (polynomials d) 1 || ltb most_polynomials (polynomials d)) e))

  -- ---- on the line
  module _ (at : ℕ) (here : at + 29 ≤ m) where
    same-degree : degree c at ≡ degree d at
    same-degree = same at (omega arith)

    same-coefficient : (i : ℕ) → i ≤ most_degree → coefficient c at i ≡ coefficient d at i
    unfolding word
    same-coefficient i h =
        rw (
          same (at + 1 + 4 * i) (omega arith),
          same (at + 1 + 4 * i + 1) (omega arith),
          same (at + 1 + 4 * i + 2) (omega arith),
          same (at + 1 + 4 * i + 3) (omega arith),
        )
        refl

    same-coefficients : degree d at ≤ most_degree → coefficients_refusal c at ≡ coefficients_refusal d at
    unfolding coefficients_refusal
    same-coefficients h =
        rw (
          same-degree,
          any_same (λ i. outside most_coefficient (coefficient c at i)) (λ i. outside most_coefficient (coefficient d at i))
              (degree d at + 1)
              (λ i l. ap (outside most_coefficient) (same-coefficient i (omega arith))),
          same-coefficient (degree d at) h,
        )
        refl

    same_polynomial : polynomial_refusal c at ≡ polynomial_refusal d at
    unfolding polynomial_refusal
    same_polynomial =
        rw (lt-leb (length c) at (omega arith), lt-leb (length d) at (omega arith), same-degree)
        (next high high _ _ refl λ e.
        let l : degree d at ≤ most_degree = ltb-false most_degree (degree d at) (holds_not 15 (ltb most_degree (degree d at)) e) in
        rw (le-ltb (length c) (at + size d at) (omega arith), le-ltb (length d) (at + size d at) (omega arith)) (same-coefficients l))
      where
        high : ℕ
        high = wrong_degree when ltb most_degree (degree d at)

  -- ---- bodies of at most w bytes and points of at most p, both refused alike
  module _ (w p : ℕ) (body : (at : ℕ) → at + w ≤ m → body_refusal c at ≡ body_refusal d at)
      (sized : (at : ℕ) → at + w ≤ m → body_refusal d at ≡ 0 → (body_size c at ≡ body_size d at) × (body_size d at ≤ w))
      (points : point_count d ≤ most_points → (at : ℕ) → at + p ≤ m → end_refusal c at ≡ end_refusal d at) where
    same-bodies : point_count d ≤ most_points → (k j at : ℕ) → j + k ≤ most_polynomials → at + past p w k ≤ m
        → bodies_refusal c k j at ≡ bodies_refusal d k j at
    unfolding bodies_refusal
    same-bodies n zero j at h r = points n at (omega arith)
    same-bodies n (suc k) j at h r =
        next (body_refusal c at) (body_refusal d at) _ _ (body at (omega arith)) λ e.
        let z = sized at (omega arith) e in
        rw (z.0, same-offset (suc j) (omega arith)) (next gap gap _ _ refl λ f.
        same-bodies n k (suc j) (at + body_size d at) (omega arith) (omega (arith, z.1)))
      where
        gap : ℕ
        gap = wrong_offset when not (eqb (offset d (suc j)) (at + body_size d at))

    same_card : 22 + past p w 8 ≤ m → refusal c ≡ refusal d
    unfolding refusal
    same_card r =
        next (header_refusal c) (header_refusal d) _ _ same-header λ e.
        let H = headed d e in
        rw (same 1 (omega arith)) (same-bodies H.n_most (polynomials d) 0 (bodies_at d) (omega (arith, H.s_most))
        (omega (arith, H.s_most, past-le p w (polynomials d) 8 H.s_most)))

  same_kind : (t : Bool) → is_plane d ≡ t → is_plane c ≡ t
  same_kind t e = ap (λ (b : ℕ). eqb b 2) (same 0 (omega arith)) ∙ e

  same_line : is_plane d ≡ false → refusal c ≡ refusal d
  same_line e =
      same_card 29 64 (λ at r. line-body c at f ∙ same_polynomial at r ∙ sym (line-body d at e)) sized points (omega arith)
    where
      f : is_plane c ≡ false
      f = same_kind false e

      sized : (at : ℕ) → at + 29 ≤ m → body_refusal d at ≡ 0 → (body_size c at ≡ body_size d at) × (body_size d at ≤ 29)
      sized at r z =
          let l = (whole d at (sym (line-body d at e) ∙ z)).low in
          let s = line-size d at e in
          (omega (arith, line-size c at f, same-degree at r), omega arith)

      points : point_count d ≤ most_points → (at : ℕ) → at + 64 ≤ m → end_refusal c at ≡ end_refusal d at
      points n at r =
          line_end c at f ∙ not_full c at (λ z. omega (arith, same 2 (omega arith)))
          ∙ sym (line_end d at e ∙ not_full d at (λ z. omega arith))

  same_in_plane : longest_card ≤ m → is_plane d ≡ true → refusal c ≡ refusal d
  same_in_plane l e =
      same_card 55 128 (λ at r. plane-body c at f ∙ same-plane c d m long-c long-d same at r ∙ sym (plane-body d at e)) sized points
      (omega arith)
    where
      f : is_plane c ≡ true
      f = same_kind true e

      sized : (at : ℕ) → at + 55 ≤ m → body_refusal d at ≡ 0 → (body_size c at ≡ body_size d at) × (body_size d at ≤ 55)
      sized at r z =
          let w = ((refuses d at).is_0.0 (sym (plane-body d at e) ∙ z)).terms.whole.few in
          let s = plane-size d at e in
          (omega (arith, plane-size c at f, same-plane-size c d m long-c long-d same at r), omega arith)

      points : point_count d ≤ most_points → (at : ℕ) → at + 128 ≤ m → end_refusal c at ≡ end_refusal d at
      points n at r =
          plane_end c at f ∙ plane_not_full c at (λ z. omega (arith, same 2 (omega arith)))
          ∙ sym (plane_end d at e ∙ plane_not_full d at (λ z. omega arith))

-- ---- any input cut after its first k bytes, k above m

module _ (c : List ℕ) (k m : ℕ) (past-m : m < k) where
  cut : ((long : k ≤ length c) → refusal (take k c) ≡ refusal c) → refusal (take k c) ≡ refusal c
  cut long = ⊎_elim (λ h. ap refusal (take_all k c (omega arith))) long (below_or (length c) k)

  cut_line : longest_line ≤ m → is_plane c ≡ false → refusal (take k c) ≡ refusal c
  cut_line r e =
      cut (λ h. same_line (take k c) c m r (omega (arith, length-take-le k c h)) (omega arith)
      (λ i l. get_or-take k c i 0 (omega arith)) e)

  cut_plane : longest_card ≤ m → is_plane c ≡ true → refusal (take k c) ≡ refusal c
  cut_plane r e =
      cut (λ h. same_in_plane (take k c) c m (omega arith) (omega (arith, length-take-le k c h)) (omega arith)
      (λ i l. get_or-take k c i 0 (omega arith)) r e)

module _ (c : List ℕ) (k : ℕ) where
  pub cut_refusal : longest_card < k → refusal (take k c) ≡ refusal c
  cut_refusal past-m =
      ⊎_elim (λ w. cut_plane c k longest_card past-m (omega arith) (is_plane_lem c w.0))
      (λ w. cut_line c k longest_card past-m (omega arith) (not_plane c w.0)) (eq_cases (byte c 0) 2)

  pub cut_sound : longest_card < k → refusal c ≡ 0 → take k c ≡ c
  cut_sound past-m e = take_all k c (omega (arith, card_long c (sound c e)))

-- THE LENGTH OF A CARD: on the line, in the plane, and of either kind
pub longest_line_lem : Longest (λ c. byte c 0 ≡ 1) 318
longest_line_lem =
    record {
      never_longer = λ c e S. line-long c S e;
      reached = (line_longest, refl, sound line_longest unrefused_line, refl);
      same_refusal = λ c e k h. cut_line c k longest_line h (omega arith) (is_line c e);
      same_card = λ c e k h z. take_all k c (omega (arith, line-long c (sound c z) e));
    }

pub longest_plane : Longest (λ c. byte c 0 ≡ 2) 590
longest_plane =
    record {
      never_longer = λ c e S. plane-long c S e;
      reached = (plane_longest, refl, sound plane_longest unrefused_plane, refl);
      same_refusal = λ c e k h. cut_refusal c k h;
      same_card = λ c e k h z. cut_sound c k h z;
    }

pub longest_card_lem : Longest (λ c. Unit {0}) 590
longest_card_lem =
    record {
      never_longer = λ c t S. card_long c S;
      reached = (plane_longest, tt, sound plane_longest unrefused_plane, refl);
      same_refusal = λ c t k h. cut_refusal c k h;
      same_card = λ c t k h z. cut_sound c k h z;
    }
