-- What holds of the rows that the answers give: they fit all answers so far, and no other counts do.
use mathlib.Core.Path.{◌≡◌, refl, sym, ap, ap₂, ◌∙◌}
use mathlib.Core.Logic.{◌⊎◌, inl, inr}
use mathlib.Core.List.{List, [], ◌∷◌, ◌++◌}
use Prim.Native.Nat.{ℕ, zero, suc, ◌+◌, ◌*◌, ◌^◌, ◌%◌, min, ◌<◌, ◌≤◌}
use native.Mathlib.Omega.{arith}
use native.Mathlib.Nat.{mul-le-mul_right}
use native.Mathlib.Decide.{dec_lt}
use lib.IntN.{ℤ, pos}
use lib.ListN.{length, replicate, length-append, length-replicate}
use Rattle.refusals.specs.Limits.{most_points}
use Rattle.integers.proofs.Diff.{Diff, diff_one}
use Rattle.signs.specs.Adapted.{adapted, restrictions, signs_of, extended}
use Rattle.signs.specs.Lists.{times, Below, Rising, shift}
use Rattle.signs.specs.Signs.{sign, query}
use Rattle.signs.proofs.Blocks.{adapted_cases, adapted_below}
use Rattle.signs.proofs.Digits.{digits}
use Rattle.signs.proofs.Extend.{Over, extended-over, times-extended}
use Rattle.signs.proofs.Lists.{times-nil, times-same, times-one, times-append, times-shift, times-shift-low, shift_holds}
use Rattle.signs.proofs.Lists.{restrictions_holds}
use Rattle.signs.proofs.Monotone.{Within, adapted_mono}
use Rattle.signs.proofs.Queries.{counts, query-tally}
use Rattle.signs.proofs.Size.{Under, below_under, as_many, adapted-rising, rising-shift, rising-once, rising-length, length_shift}
use Rattle.signs.proofs.Size.{total_mono, total_thirds}
use Rattle.signs.proofs.Tallies.{tally, Agree, none, plus, tally_plus}
use Rattle.signs.proofs.Unique.{unique}
use Rattle.rounds.specs.Rounds.{round_of, Counts, Answered, Determined}
use Rattle.rounds.specs.Rows.{Row, patterns, repeated, Positive, IsRows, row_if, Fits}
use Rattle.rounds.specs.Rows.{restrict}
use Rattle.rounds.proofs.Restrict.{three_pos, sign-drop, restrict-below, restrict-count, query-drop, fits-same, fits_move, fits-left}
use Rattle.rounds.proofs.RowLaws.{times_single, no_count, no_pattern, row_if-same, points_in, patterns_in, points-below}
use Rattle.rounds.proofs.RowLaws.{length-patterns}

-- ---- product 0 counts the points

sign_zero : (s σ : ℕ) → sign s 0 σ ≡ pos 1
sign_zero zero σ = unfold sign in refl
sign_zero (suc s) σ = sign-drop s 0 σ (three_pos s) ∙ sign_zero s (σ % 3 ^ s)

pub query-zero : (s : ℕ) (E : List ℕ) → query s E 0 ≡ pos (length E)
unfolding query
query-zero s [] = refl
query-zero s (σ ∷ E) = rw (sign_zero s σ, query-zero s E) (ap pos (omega arith))

-- ---- the products of a round

restrictions-over : (k i : ℕ) (L P : List ℕ) → 1 ≤ k → Over i L P → Within (restrictions k i L) P
restrictions-over k i L P h o q m =
    let (b, e) = restrictions_holds k i L q m in
    o q b (unfold signs_of in omega arith)

-- the adapted list of such an L is asked, in this round or before
pub cover_over : (i : ℕ) (L P ps : List ℕ) → Over i L P → Within (adapted i P) ps → Within (adapted (suc i) L) (ps ++ round_of i P)
unfolding round_of
cover_over i L P ps o w α h = go (adapted_cases i α L h)
  where
    A : List ℕ
    A = adapted i P

    up : (k : ℕ) → 1 ≤ k → (a : ℕ) → 0 < times a (adapted i (restrictions k i L)) → 0 < times a A
    up k h = adapted_mono i (restrictions k i L) P (restrictions-over k i L P h o)

    go : (0 < times α (adapted i (restrictions 1 i L)))
        ⊎ (((a : ℕ) × (α ≡ a + 3 ^ i) × (0 < times a (adapted i (restrictions 2 i L))))
        ⊎ ((a : ℕ) × (α ≡ a + 2 * 3 ^ i) × (0 < times a (adapted i (restrictions 3 i L)))))
        → 0 < times α (ps ++ (shift (3 ^ i) A ++ shift (2 * 3 ^ i) A))
    go (inl a) = omega (arith, times-append α ps (shift (3 ^ i) A ++ shift (2 * 3 ^ i) A), w α (up 1 (omega arith) α a))
    go (inr (inl (a, e, m))) =
        rw e (omega (
          arith,
          times-append (a + 3 ^ i) ps (shift (3 ^ i) A ++ shift (2 * 3 ^ i) A),
          times-append (a + 3 ^ i) (shift (3 ^ i) A) (shift (2 * 3 ^ i) A),
          times-shift (3 ^ i) a A,
          up 2 (omega arith) a m,
        ))
    go (inr (inr (a, e, m))) =
        rw e (omega (
          arith,
          times-append (a + 2 * 3 ^ i) ps (shift (3 ^ i) A ++ shift (2 * 3 ^ i) A),
          times-append (a + 2 * 3 ^ i) (shift (3 ^ i) A) (shift (2 * 3 ^ i) A),
          times-shift (2 * 3 ^ i) a A,
          up 3 (omega arith) a m,
        ))

-- a round's products are new, below 3^(i+1), and none stands twice
pub round-low : (i : ℕ) (P : List ℕ) (α : ℕ) → 0 < times α (round_of i P) → (3 ^ i ≤ α) × (α < 3 ^ suc i)
unfolding round_of
round-low i P α h = go (dec_lt 0 (times α (shift (3 ^ i) A)))
  where
    A : List ℕ
    A = adapted i P

    go : Dec (0 < times α (shift (3 ^ i) A)) → (3 ^ i ≤ α) × (α < 3 ^ suc i)
    go (yes k) = let (a, e, m) = shift_holds (3 ^ i) α A k in omega (arith, adapted_below i a P m)
    go (no k) =
        let k' : 0 < times α (shift (2 * 3 ^ i) A) = omega (arith, times-append α (shift (3 ^ i) A) (shift (2 * 3 ^ i) A)) in
        let (a, e, m) = shift_holds (2 * 3 ^ i) α A k' in omega (arith, adapted_below i a P m)

pub round-once : (i : ℕ) (P : List ℕ) (α : ℕ) → times α (round_of i P) ≤ 1
unfolding round_of
round-once i P α = go (dec_lt α (2 * 3 ^ i)) (dec_lt 0 (times α B))
  where
    A : List ℕ
    A = adapted i P

    B : List ℕ
    B = shift (3 ^ i) A

    C : List ℕ
    C = shift (2 * 3 ^ i) A

    go : Dec (α < 2 * 3 ^ i) → Dec (0 < times α B) → times α (B ++ C) ≤ 1
    go (yes h) d =
        omega (arith, times-append α B C, times-shift-low (2 * 3 ^ i) α A h, rising-once B (rising-shift (3 ^ i) A (adapted-rising i P)) α)
    go (no h) (yes k) = let (a, e, m) = shift_holds (3 ^ i) α A k in absurd (omega (arith, adapted_below i a P m))
    go (no h) (no k) = omega (arith, times-append α B C, rising-once C (rising-shift (2 * 3 ^ i) A (adapted-rising i P)) α)

pub round-length : (i : ℕ) (R : List Row) → IsRows i R → length (round_of i (patterns R)) ≡ 2 * length R
unfolding round_of
round-length i R r =
    omega (
      arith,
      length-append (shift (3 ^ i) (adapted i (patterns R))) (shift (2 * 3 ^ i) (adapted i (patterns R))),
      length_shift (3 ^ i) (adapted i (patterns R)),
      length_shift (2 * 3 ^ i) (adapted i (patterns R)),
      as_many i (patterns R) r.rising r.below,
      length-patterns R,
    )

-- ---- the facts of rows that the answers give

pub record Facts (i : ℕ) (zs : List ℤ) (ps : List ℕ) (R : List Row) : Type 0 where
  pub rows : IsRows i R
  -- the rows fit all answers so far, and whatever fits them has the rows' counts
  pub fits : Fits i (repeated R) ps zs
  pub only : (E : List ℕ) → Below (3 ^ i) E → Fits i E ps zs → Agree i (counts E) (counts (repeated R))
  -- the products asked are those of P1 .. Pi, none twice, and the rows' adapted list is among them
  pub cover : Within (adapted i (patterns R)) ps
  pub under : Under (3 ^ i) ps
  pub once : (α : ℕ) → times α ps ≤ 1
  pub lengths : length ps ≡ length zs
  pub few : length ps ≤ 2 * length R * i + 1
  -- the first answer is the number of points
  pub n : ℕ
  pub small : n ≤ most_points
  pub later_answers : List ℤ
  pub later_products : List ℕ
  pub first-answer : zs ≡ pos n ∷ later_answers
  pub first_product : ps ≡ 0 ∷ later_products

-- round 0
length-points : (n : ℕ) → length (repeated (row_if 0 n)) ≡ n
unfolding repeated row_if
length-points zero = refl
length-points (suc k) = omega (arith, length-append {A = ℕ} (replicate (suc k) 0) [], length-replicate {A = ℕ} (suc k) 0)

row_if-rows : (n : ℕ) → IsRows 0 (row_if 0 n)
unfolding row_if patterns Rising Below Positive
row_if-rows zero = record { rising = tt; below = tt; positive = tt }
row_if-rows (suc k) =
    record { rising = ((λ y h. absurd (omega (arith, times-nil y))), tt); below = (omega arith, tt); positive = (omega arith, tt) }

all-zero : (E : List ℕ) → Below 1 E → times 0 E ≡ length E
unfolding Below
all-zero [] b = times-nil 0
all-zero (x ∷ E) b =
    let e : x ≡ 0 = omega (arith, b.0) in
    rw e (omega (arith, times-same 0 E, all-zero E b.1))

pos_inj : (m n : ℕ) → pos m ≡ pos n → m ≡ n
pos_inj m n e = cc

facts_0 : (n : ℕ) → n ≤ most_points → Facts 0 (pos n ∷ []) (0 ∷ []) (row_if 0 n)
unfolding Fits
facts_0 n h =
    record {
      rows = row_if-rows n;
      fits = (rw (query-zero, length-points n) refl, tt);
      only = λ E b f q k.
          let e : q ≡ 0 = omega arith in
          let m : n ≡ length E = pos_inj n (length E) (f.0 ∙ query-zero 0 E) in
          rw e (omega (arith, all-zero E b, row_if-same 0 n));
      cover = cover n;
      under = λ q k. omega (arith, times-one q 0 k);
      once = λ α. times_single α 0;
      lengths = refl;
      few = omega arith;
      n = n;
      small = h;
      later_answers = [];
      later_products = [];
      first-answer = refl;
      first_product = refl;
    }
  where
    cover : (m : ℕ) → Within (adapted 0 (patterns (row_if 0 m))) (0 ∷ [])
    cover zero q k = absurd (unfold adapted patterns row_if in omega (arith, times-nil q))
    cover (suc m) q k = unfold adapted patterns row_if in k

-- ---- one round more

-- a pattern outside the extended list has its low part outside P
pub extended-out : (i q r d : ℕ) (P : List ℕ) → d < 3 → q ≡ r + d * 3 ^ i → times q (extended i P) ≡ 0 → times r P ≡ 0
extended-out i q r zero P hd e h =
    let f : q ≡ r = omega arith in
    let h' : times r (extended i P) ≡ 0 = (rw f at h) in
    omega (arith, times-extended i r P)
extended-out i q r (suc zero) P hd e h =
    let f : q ≡ r + 3 ^ i = omega arith in
    let h' : times (r + 3 ^ i) (extended i P) ≡ 0 = (rw f at h) in
    omega (arith, times-extended i (r + 3 ^ i) P, times-shift (3 ^ i) r P)
extended-out i q r (suc (suc zero)) P hd e h =
    let h' : times (r + 2 * 3 ^ i) (extended i P) ≡ 0 = (rw e at h) in
    omega (arith, times-extended i (r + 2 * 3 ^ i) P, times-shift (2 * 3 ^ i) r P)
extended-out i q r (suc (suc (suc d))) P hd e h = absurd (omega arith)

-- two lists of patterns that fit the same answers have the same tallies there
pub same-tally : (i α : ℕ) (E E' : List ℕ) → α < 3 ^ i → Below (3 ^ i) E → Below (3 ^ i) E' → query i E α ≡ query i E' α
    → tally i α (counts E) (counts E') ≡ tally i α (counts E') (counts E)
same-tally i α E E' a b b' e =
    let d : Diff (query i E' α) (tally i α (counts E) none) (tally i α none (counts E)) = (rw e at (query-tally i α E a b)) in
    omega (arith, diff_one (query i E' α) d (query-tally i α E' a b'), halves (counts E) (counts E'), halves (counts E') (counts E))
  where
    plus_none : (p : ℕ → ℕ) → plus p none ≡ p
    plus_none p = λ k q. add0 (p q) k
      where
        add0 : (x : ℕ) → x + 0 ≡ x
        add0 x = omega arith

    none_plus : (p : ℕ → ℕ) → plus none p ≡ p
    none_plus p = λ k q. add0 (p q) k
      where
        add0 : (x : ℕ) → 0 + x ≡ x
        add0 x = omega arith

    halves : (p n : ℕ → ℕ) → tally i α p n ≡ tally i α p none + tally i α none n
    halves p n = ap₂ (tally i α) (sym (plus_none p)) (sym (none_plus n)) ∙ tally_plus i α p none none n

pub third : (i : ℕ) (E : List ℕ) (q r d : ℕ) → d < 3 → q ≡ r + d * 3 ^ i → times r E + times (r + 3 ^ i) E + times (r + 2 * 3 ^ i) E ≡ 0
    → times q E ≡ 0
third i E q r zero hd e z = let f : q ≡ r = omega arith in rw f (omega arith)
third i E q r (suc zero) hd e z = let f : q ≡ r + 3 ^ i = omega arith in rw f (omega arith)
third i E q r (suc (suc zero)) hd e z = rw e (omega arith)
third i E q r (suc (suc (suc d))) hd e z = absurd (omega arith)

module _ (i : ℕ) (zs : List ℤ) (ps : List ℕ) (R : List Row) (a : Answered i (Determined i) zs ps) (c : Counts i a.rows ps zs R)
    (F : Facts i a.before a.asked a.rows) where
  abbrev P : List ℕ
  P = patterns a.rows

  -- what fits all answers so far fits those before, with P(i+1) taken off
  fits-before : (E : List ℕ) → Fits (suc i) E ps zs → Fits i (restrict i E) a.asked a.before
  fits-before E f =
      let f' : Fits (suc i) E (a.asked ++ round_of i (patterns a.rows)) (a.before ++ a.now) = rw (← a.products, ← a.answers) f in
      fits_move (suc i) i E (restrict i E) a.asked a.before
      (fits-left (suc i) E a.asked (round_of i (patterns a.rows)) a.before a.now F.lengths f')
      (λ α m. query-drop i α E (F.under α m))

  -- so its counts add up to those of the rows before
  sums : (E : List ℕ) → Below (3 ^ suc i) E → Fits (suc i) E ps zs → (q : ℕ) → q < 3 ^ i
      → times q E + times (q + 3 ^ i) E + times (q + 2 * 3 ^ i) E ≡ times q (repeated a.rows)
  sums E b f q h = sym (restrict-count i q E h b) ∙ F.only (restrict i E) (restrict-below i E) (fits-before E f) q h

  -- and it has no count outside the rows before, each extended
  outside : (E : List ℕ) → Below (3 ^ suc i) E → Fits (suc i) E ps zs → (q : ℕ) → q < 3 ^ suc i → times q (extended i P) ≡ 0 → times q E ≡ 0
  outside E b f q h o = go (digits i q h)
    where
      go : (r d : ℕ) × (r < 3 ^ i) × (d < 3) × (q ≡ r + d * 3 ^ i) → times q E ≡ 0
      go (r, d, hr, hd, e) =
          third i E q r d hd e (omega (arith, sums E b f r hr, no_count a.rows r (extended-out i q r d P hd e o)))

  below-R : Below (3 ^ suc i) (repeated R)
  below-R = points-below (3 ^ suc i) R c.rows.below

  all_lengths : length ps ≡ length zs
  all_lengths =
      rw (a.products, a.answers)
      (omega (arith, length-append a.asked (round_of i P), length-append a.before a.now, F.lengths, a.all))

  P-under : Under (3 ^ i) P
  P-under = below_under (3 ^ i) P F.rows.below

  only_next : (E : List ℕ) → Below (3 ^ suc i) E → Fits (suc i) E ps zs → Agree (suc i) (counts E) (counts (repeated R))
  only_next E b f =
      unique (suc i) (extended i P) (counts E) (counts (repeated R))
      (λ q h o. outside E b f q h o ∙ sym (outside (repeated R) below-R c.give q h o))
      (λ α m.
      let asked : 0 < times α ps = rw a.products (cover_over i (extended i P) P a.asked (extended-over i P P-under) F.cover α m) in
      same-tally (suc i) α E (repeated R) (adapted_below (suc i) α (extended i P) m) b below-R
      (fits-same (suc i) (suc i) E (repeated R) ps zs all_lengths f c.give α asked))

  R-over : Over i (patterns R) P
  R-over q h k = patterns_from (dec_lt 0 (times q (repeated a.rows)))
    where
      three : times q (repeated R) + times (q + 3 ^ i) (repeated R) + times (q + 2 * 3 ^ i) (repeated R) ≡ times q (repeated a.rows)
      three = sums (repeated R) below-R c.give q h

      patterns_from : Dec (0 < times q (repeated a.rows)) → 0 < times q P
      patterns_from (yes m) = points_in q a.rows m
      patterns_from (no m) =
          absurd (omega (
            arith,
            no_pattern R q c.rows.positive (omega (arith, three)),
            no_pattern R (q + 3 ^ i) c.rows.positive (omega (arith, three)),
            no_pattern R (q + 2 * 3 ^ i) c.rows.positive (omega (arith, three)),
          ))

  -- each row before has a row now
  pub more_rows : length a.rows ≤ length R
  more_rows =
      omega (
        arith,
        length-patterns a.rows,
        length-patterns R,
        rising-length (3 ^ i) P F.rows.rising F.rows.below,
        rising-length (3 ^ suc i) (patterns R) c.rows.rising c.rows.below,
        total_thirds i (λ q. min 1 (times q (patterns R))),
        total_mono (λ q. min 1 (times q P))
            (λ q. min 1 (times q (patterns R)) + min 1 (times (q + 3 ^ i) (patterns R)) + min 1 (times (q + 2 * 3 ^ i) (patterns R)))
            (3 ^ i) each,
      )
    where
      each : (q : ℕ) → q < 3 ^ i
          → min 1 (times q P) ≤ min 1 (times q (patterns R)) + min 1 (times (q + 3 ^ i) (patterns R))
          + min 1 (times (q + 2 * 3 ^ i) (patterns R))
      each q h =
          go (dec_lt 0 (times q P)) (dec_lt 0 (times q (repeated R))) (dec_lt 0 (times (q + 3 ^ i) (repeated R)))
          (dec_lt 0 (times (q + 2 * 3 ^ i) (repeated R)))
        where
          go : Dec (0 < times q P) → Dec (0 < times q (repeated R)) → Dec (0 < times (q + 3 ^ i) (repeated R))
              → Dec (0 < times (q + 2 * 3 ^ i) (repeated R))
              → min 1 (times q P) ≤ min 1 (times q (patterns R)) + min 1 (times (q + 3 ^ i) (patterns R))
              + min 1 (times (q + 2 * 3 ^ i) (patterns R))
          go (no k) x y z = omega arith
          go (yes k) (yes x) y z = omega (arith, points_in q R x)
          go (yes k) (no x) (yes y) z = omega (arith, points_in (q + 3 ^ i) R y)
          go (yes k) (no x) (no y) (yes z) = omega (arith, points_in (q + 2 * 3 ^ i) R z)
          go (yes k) (no x) (no y) (no z) =
              absurd (omega (arith, sums (repeated R) below-R c.give q h, patterns_in q a.rows F.rows.positive k))

  facts_next : Facts (suc i) zs ps R
  facts_next =
      record {
        rows = c.rows;
        fits = c.give;
        only = only_next;
        cover = λ α m. rw a.products (cover_over i (patterns R) P a.asked R-over F.cover α m);
        under = λ α m. in_range α (rw (a.products, times-append) at m) (dec_lt 0 (times α a.asked));
        once = λ α. rw (a.products, times-append) (no_twice α (dec_lt 0 (times α a.asked)) (dec_lt 0 (times α (round_of i P))));
        lengths = all_lengths;
        few = rw a.products (omega (arith, length-append a.asked (round_of i P), round-length i a.rows F.rows, F.few, bigger));
        n = F.n;
        small = F.small;
        later_answers = F.later_answers ++ a.now;
        later_products = F.later_products ++ round_of i P;
        first-answer = a.answers ∙ ap (λ (l : List ℤ). l ++ a.now) F.first-answer;
        first_product = a.products ∙ ap (λ (l : List ℕ). l ++ round_of i P) F.first_product;
      }
    where
      in_range : (α : ℕ) → 0 < times α a.asked + times α (round_of i P) → Dec (0 < times α a.asked) → α < 3 ^ suc i
      in_range α m (yes h) = omega (arith, F.under α h)
      in_range α m (no h) = omega (arith, round-low i P α (omega arith))

      no_twice : (α : ℕ) → Dec (0 < times α a.asked) → Dec (0 < times α (round_of i P)) → times α a.asked + times α (round_of i P) ≤ 1
      no_twice α (yes h) (yes k) = absurd (omega (arith, F.under α h, round-low i P α k))
      no_twice α (yes h) (no k) = omega (arith, F.once α)
      no_twice α (no h) k = omega (arith, round-once i P α)

      bigger : length a.rows * suc i ≤ length R * suc i
      bigger = mul-le-mul_right (suc i) more_rows

-- the rows that the answers give fit all answers, and nothing else does
pub facts : (i : ℕ) (zs : List ℤ) (ps : List ℕ) (R : List Row) → Determined i zs ps R → Facts i zs ps R
unfolding Determined
facts zero zs ps R (n, h, e, f, g) = rw (e, f, g) (facts_0 n h)
facts (suc i) zs ps R (a, c) = facts_next i zs ps R a c (facts i a.before a.asked a.rows a.after)
