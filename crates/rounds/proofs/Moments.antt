-- Two questions to the solver on the rows before a round give the rows after it: `by_moments` finds them exactly where there are some.
use mathlib.Core.Path.{◌≡◌, refl, sym, ap, ap₂, ◌∙◌, subst}
use mathlib.Core.Logic.{◌≢◌, ◌⊎◌, inl, inr}
use mathlib.Core.Bool.{Bool, true, false, cond, ◌&&◌}
use mathlib.Core.Option.{Option, some, none}
use mathlib.Core.List.{List, [], ◌∷◌, ◌++◌, map}
use Prim.Native.Nat.{ℕ, zero, suc, ◌+◌, ◌*◌, ◌^◌, ◌%◌, ◌<◌, ◌≤◌}
use native.Mathlib.Omega.{arith}
use native.Mathlib.Decide.{ℕ_discrete, dec_lt}
use lib.Dec.{eqb, eqb→eq}
use lib.IntN.{ℤ, pos, negsuc, nat_abs, sub_ℕ, ◌+ℤ◌, ◌-ℤ◌}
use lib.Signed.{le_z}
use lib.ListN.{length, take, drop, replicate, length-append, length-replicate, length-take, length-drop, take-append-drop}
use Rattle.refusals.specs.Limits.{most_points}
use Rattle.integers.specs.Sums.{sum_abs}
use Rattle.integers.proofs.Parts.{up, dn, sum, dif, true_le_z, int}
use Rattle.integers.proofs.Tests.{T_of}
use Rattle.integers.proofs.Diff.{Diff, diff_sub, diff_same, diff_one}
use Rattle.signs.specs.Lists.{times, Below, Rising, shift}
use Rattle.signs.specs.Signs.{query, weighted}
use Rattle.signs.specs.Adapted.{adapted}
use Rattle.signs.proofs.Lists.{times-nil, times-same, times-append}
use Rattle.signs.proofs.Size.{Under, below_under, rising-append, length_shift, as_many}
use Rattle.signs.proofs.Blocks.{adapted_below}
use Rattle.signs.proofs.Tallies.{fold, tally-at, none as nothing}
use Rattle.signs.proofs.Queries.{counts, query-tally}
use Rattle.solutions.specs.Solution.{Posed, Solution}
use Rattle.solutions.specs.Solver.{Weight, and_then, values, solver_of}
use Rattle.solutions.proofs.Solve.{tally_diff}
use Rattle.solutions.proofs.SolverRight.{values_length, values-weight, some_same, solver_found}
use Rattle.signs.proofs.Weights.{weighted-tally, diff_parts, part, part-first, part_later, part_out}
use Rattle.rounds.specs.Rows.{Row, patterns, repeated, Positive, IsRows, IsAt, row_if, Fits}
use Rattle.rounds.specs.Rounds.{round_of}
use Rattle.rounds.specs.NextRows.{NextRows}
use Rattle.rounds.specs.Moments.{with_zero, with_plus, with_minus, splits, all_split, extended_by, extended_rows, judged, by_moments}
use Rattle.rounds.proofs.RowLaws.{zero-unless, no_points, points-same, points_other, points-append, patterns-append, row_if-same}
use Rattle.rounds.proofs.RowLaws.{row_if_other, row_if-positive, row_if-rising, row_if_in, positive-append, no_count, points-below}
use Rattle.rounds.proofs.RowLaws.{length-patterns}
use Rattle.rounds.proofs.Realized.{at_head, at_tail, at_in, count_of}
use Rattle.rounds.proofs.Restrict.{fits-append, fits-left, fits_right}
use Rattle.rounds.proofs.Answers.{round-length}

-- ---- one row

both : (a b : Bool) → a && b ≡ true → (a ≡ true) × (b ≡ true)
both true b e = (refl, e)
both false b e = let x : ◌≡◌ {A = ℕ} 0 1 = cc in absurd (omega arith)

-- what the test says: the three counts add up to d, + less − is e, + and − is g
pub record Fair (d : ℕ) (e g : ℤ) : Type 0 where
  pub adds : with_zero d e g + with_plus d e g + with_minus d e g ≡ d
  pub less : with_plus d e g + dn e ≡ with_minus d e g + up e
  pub and : with_plus d e g + with_minus d e g + dn g ≡ up g

not_negative : (z : ℤ) → dn z ≤ up z → (nat_abs z ≡ up z) × (dn z ≡ 0)
not_negative (pos n) h = (refl, refl)
not_negative (negsuc n) h = absurd (omega arith)

pub splits_yes : (d : ℕ) (e g : ℤ) → splits d e g ≡ true → Fair d e g
unfolding splits
splits_yes d e g t =
    let (abc, p) = both (le_z g (pos d) && le_z (pos 0) (g +ℤ e) && le_z (pos 0) (g -ℤ e)) (eqb (nat_abs (g +ℤ e) % 2) 0) t in
    let (ab, c) = both (le_z g (pos d) && le_z (pos 0) (g +ℤ e)) (le_z (pos 0) (g -ℤ e)) abc in
    let (a, b) = both (le_z g (pos d)) (le_z (pos 0) (g +ℤ e)) ab in
    let d₀ = not_negative (pos d -ℤ g) (omega (int, dif (pos d) g)) in
    let d₁ = not_negative (g +ℤ e) (omega int) in
    let d₂ = not_negative (g -ℤ e) (omega int) in
    let even : nat_abs (g +ℤ e) % 2 ≡ 0 = eqb→eq (nat_abs (g +ℤ e) % 2) 0 (T_of p) in
    record {
      adds = omega (int, sum g e, dif g e, dif (pos d) g);
      less = omega (int, sum g e, dif g e);
      and = omega (int, sum g e, dif g e);
    }

-- three counts pass it
splits_from : (d n₀ n₁ n₂ : ℕ) (e g : ℤ) → d ≡ n₀ + n₁ + n₂ → up e + n₂ ≡ n₁ + dn e → up g ≡ n₁ + n₂ + dn g → splits d e g ≡ true
unfolding splits
splits_from d n₀ n₁ n₂ e g h k l = rw (a, b, c, even) refl
  where
    a : le_z g (pos d) ≡ true
    a = true_le_z g (pos d) (omega arith)

    b : le_z (pos 0) (g +ℤ e) ≡ true
    b = true_le_z (pos 0) (g +ℤ e) (omega (arith, sum g e))

    c : le_z (pos 0) (g -ℤ e) ≡ true
    c = true_le_z (pos 0) (g -ℤ e) (omega (arith, dif g e))

    even : eqb (nat_abs (g +ℤ e) % 2) 0 ≡ true
    even =
        let (x, y) = not_negative (g +ℤ e) (omega (arith, sum g e)) in
        let z : nat_abs (g +ℤ e) % 2 ≡ 0 = omega (arith, sum g e) in
        rw z refl

-- ---- the rows of one sign

-- the count at the pattern x
at : (ℕ → ℤ → ℤ → ℕ) → List Row → List ℤ → List ℤ → ℕ → ℕ
at f [] es gs x = 0
at f (r ∷ R) [] gs x = 0
at f (r ∷ R) (e ∷ es) [] x = 0
at f (r ∷ R) (e ∷ es) (g ∷ gs) x = times x (repeated (row_if r.pattern (f r.count e g))) + at f R es gs x

at_same : (f : ℕ → ℤ → ℤ → ℕ) (r : Row) (R : List Row) (e g : ℤ) (es gs : List ℤ)
    → at f (r ∷ R) (e ∷ es) (g ∷ gs) r.pattern ≡ f r.count e g + at f R es gs r.pattern
unfolding at
at_same f r R e g es gs = omega (arith, row_if-same r.pattern (f r.count e g))

at_other : (f : ℕ → ℤ → ℤ → ℕ) (r : Row) (R : List Row) (e g : ℤ) (es gs : List ℤ) (x : ℕ) → x ≢ r.pattern
    → at f (r ∷ R) (e ∷ es) (g ∷ gs) x ≡ at f R es gs x
unfolding at
at_other f r R e g es gs x h = omega (arith, row_if_other x r.pattern (f r.count e g) h)

row_if-shift : (c x q k : ℕ) → times (x + c) (repeated (row_if (q + c) k)) ≡ times x (repeated (row_if q k))
row_if-shift c x q k = go (ℕ_discrete x q)
  where
    go : Dec (x ≡ q) → times (x + c) (repeated (row_if (q + c) k)) ≡ times x (repeated (row_if q k))
    go (yes e) = rw e (row_if-same (q + c) k ∙ sym (row_if-same q k))
    go (no e) = row_if_other (x + c) (q + c) k (omega arith) ∙ sym (row_if_other x q k e)

thirds_at : (c : ℕ) (f : ℕ → ℤ → ℤ → ℕ) (R : List Row) (es gs : List ℤ) (x : ℕ)
    → times (x + c) (repeated (extended_by c f R es gs)) ≡ at f R es gs x
unfolding extended_by at
thirds_at c f [] es gs x = no_points (x + c)
thirds_at c f (r ∷ R) [] gs x = no_points (x + c)
thirds_at c f (r ∷ R) (e ∷ es) [] x = no_points (x + c)
thirds_at c f (r ∷ R) (e ∷ es) (g ∷ gs) x =
    omega (
      arith,
      points-append (x + c) (row_if (r.pattern + c) (f r.count e g)) (extended_by c f R es gs),
      row_if-shift c x r.pattern (f r.count e g),
      thirds_at c f R es gs x,
    )

no_pattern_here : (y : ℕ) → times y (patterns []) ≡ 0
unfolding patterns
no_pattern_here y = times-nil y

thirds_in : (c : ℕ) (f : ℕ → ℤ → ℤ → ℕ) (R : List Row) (es gs : List ℤ) (y : ℕ) → 0 < times y (patterns (extended_by c f R es gs))
    → (x : ℕ) × (y ≡ x + c) × (0 < times x (patterns R))
unfolding extended_by
thirds_in c f [] es gs y h = absurd (omega (arith, no_pattern_here y))
thirds_in c f (r ∷ R) [] gs y h = absurd (omega (arith, no_pattern_here y))
thirds_in c f (r ∷ R) (e ∷ es) [] y h = absurd (omega (arith, no_pattern_here y))
thirds_in c f (r ∷ R) (e ∷ es) (g ∷ gs) y h = go (dec_lt 0 (times y (patterns (row_if (r.pattern + c) k)))) (thirds_in c f R es gs y)
  where
    k : ℕ
    k = f r.count e g

    first : 0 < times r.pattern (patterns (r ∷ R))
    first = unfold patterns in omega (arith, times-same r.pattern (patterns R))

    more : (x : ℕ) → 0 < times x (patterns R) → 0 < times x (patterns (r ∷ R))
    more x m = unfold patterns in omega (arith, times-append x (r.pattern ∷ []) (patterns R))

    go : Dec (0 < times y (patterns (row_if (r.pattern + c) k)))
        → (0 < times y (patterns (extended_by c f R es gs)) → (x : ℕ) × (y ≡ x + c) × (0 < times x (patterns R)))
        → (x : ℕ) × (y ≡ x + c) × (0 < times x (patterns (r ∷ R)))
    go (yes m) ih = (r.pattern, row_if_in (r.pattern + c) k y m, first)
    go (no m) ih =
        let (x, a, b) = ih (omega (
          arith,
          ap (times y) (patterns-append (row_if (r.pattern + c) k) (extended_by c f R es gs)),
          times-append y (patterns (row_if (r.pattern + c) k)) (patterns (extended_by c f R es gs)),
        )) in
        (x, a, more x b)

thirds_rising : (c : ℕ) (f : ℕ → ℤ → ℤ → ℕ) (R : List Row) (es gs : List ℤ) → Rising (patterns R)
    → Rising (patterns (extended_by c f R es gs))
unfolding extended_by
thirds_rising c f [] es gs u = u
thirds_rising c f (r ∷ R) [] gs u = unfold patterns Rising in tt
thirds_rising c f (r ∷ R) (e ∷ es) [] u = unfold patterns Rising in tt
thirds_rising c f (r ∷ R) (e ∷ es) (g ∷ gs) u =
    rw patterns-append
    (rising-append (patterns (row_if (r.pattern + c) k)) (patterns (extended_by c f R es gs)) (row_if-rising (r.pattern + c) k)
    (thirds_rising c f R es gs rest.1) (λ x y h m. above x y (row_if_in (r.pattern + c) k x h) (thirds_in c f R es gs y m)))
  where
    k : ℕ
    k = f r.count e g

    rest : ((y : ℕ) → 0 < times y (patterns R) → r.pattern < y) × Rising (patterns R)
    rest = unfold patterns Rising in u

    above : (x y : ℕ) → x ≡ r.pattern + c → (z : ℕ) × (y ≡ z + c) × (0 < times z (patterns R)) → x < y
    above x y a (z, b, m) = omega (arith, rest.0 z m)

thirds_positive : (c : ℕ) (f : ℕ → ℤ → ℤ → ℕ) (R : List Row) (es gs : List ℤ) → Positive (extended_by c f R es gs)
unfolding extended_by
thirds_positive c f [] es gs = unfold Positive in tt
thirds_positive c f (r ∷ R) [] gs = unfold Positive in tt
thirds_positive c f (r ∷ R) (e ∷ es) [] = unfold Positive in tt
thirds_positive c f (r ∷ R) (e ∷ es) (g ∷ gs) =
    positive-append (row_if (r.pattern + c) (f r.count e g)) (extended_by c f R es gs)
    (row_if-positive (r.pattern + c) (f r.count e g)) (thirds_positive c f R es gs)

-- no count outside
thirds_none : (c : ℕ) (f : ℕ → ℤ → ℤ → ℕ) (R : List Row) (es gs : List ℤ) (y : ℕ) → ((x : ℕ) → y ≡ x + c → 0 < times x (patterns R) → ⊥)
    → times y (repeated (extended_by c f R es gs)) ≡ 0
thirds_none c f R es gs y h =
    no_count (extended_by c f R es gs) y
    (zero-unless (times y (patterns (extended_by c f R es gs))) (λ m. let (x, a, b) = thirds_in c f R es gs y m in h x a b))

-- ---- what holds of the three counts at each pattern, where all rows are splits

record ThreeAt (R : List Row) (es gs : List ℤ) (x : ℕ) : Type 0 where
  adds : at with_zero R es gs x + at with_plus R es gs x + at with_minus R es gs x ≡ times x (repeated R)
  less : at with_plus R es gs x + part dn (patterns R) es x ≡ at with_minus R es gs x + part up (patterns R) es x
  and : at with_plus R es gs x + at with_minus R es gs x + part dn (patterns R) gs x ≡ part up (patterns R) gs x

three-at : (R : List Row) (es gs : List ℤ) → all_split R es gs ≡ true → (x : ℕ) → ThreeAt R es gs x
unfolding all_split patterns
three-at [] es gs t x =
    record {
      adds = unfold at in omega (arith, no_points x);
      less = unfold at in omega (arith, part_out up [] es x (times-nil x), part_out dn [] es x (times-nil x));
      and = unfold at in omega (arith, part_out up [] gs x (times-nil x), part_out dn [] gs x (times-nil x));
    }
three-at (r ∷ R) [] gs t x = let y : ◌≡◌ {A = ℕ} 0 1 = cc in absurd (omega arith)
three-at (r ∷ R) (e ∷ es) [] t x = let y : ◌≡◌ {A = ℕ} 0 1 = cc in absurd (omega arith)
three-at (r ∷ R) (e ∷ es) (g ∷ gs) t x =
    let (a, b) = both (splits r.count e g) (all_split R es gs) t in
    go (ℕ_discrete x r.pattern) (splits_yes r.count e g a) (three-at R es gs b)
  where
    q : ℕ
    q = r.pattern

    go : Dec (x ≡ q) → Fair r.count e g → ((y : ℕ) → ThreeAt R es gs y) → ThreeAt (r ∷ R) (e ∷ es) (g ∷ gs) x
    go (yes h) F ih =
        let I = ih q in
        let z = at_same with_zero r R e g es gs in
        let p = at_same with_plus r R e g es gs in
        let m = at_same with_minus r R e g es gs in
        subst (λ (y : ℕ). ThreeAt (r ∷ R) (e ∷ es) (g ∷ gs) y) (sym h)
        (record {
          adds = omega (arith, F.adds, I.adds, z, p, m, points-same r R);
          less = omega (arith, F.less, I.less, p, m, part-first up q (patterns R) e es, part-first dn q (patterns R) e es);
          and = omega (arith, F.and, I.and, p, m, part-first up q (patterns R) g gs, part-first dn q (patterns R) g gs);
        })
    go (no h) F ih =
        let I = ih x in
        let z = at_other with_zero r R e g es gs x h in
        let p = at_other with_plus r R e g es gs x h in
        let m = at_other with_minus r R e g es gs x h in
        record {
          adds = omega (arith, I.adds, z, p, m, points_other x r R h);
          less = omega (arith, I.less, p, m, part_later up q (patterns R) e es x h, part_later dn q (patterns R) e es x h);
          and = omega (arith, I.and, p, m, part_later up q (patterns R) g gs x h, part_later dn q (patterns R) g gs x h);
        }

-- ---- the extended rows

under_below : (n : ℕ) (l : List ℕ) → Under n l → Below n l
unfolding Below
under_below n [] u = tt
under_below n (x ∷ l) u =
    (u x (omega (arith, times-same x l)), under_below n l (λ y h. u y (omega (arith, times-append y (x ∷ []) l))))

module _ (i : ℕ) (R : List Row) (es gs : List ℤ) (rows : IsRows i R) where
  abbrev X : List Row
  X = extended_rows i R es gs

  under : Under (3 ^ i) (patterns R)
  under = below_under (3 ^ i) (patterns R) rows.below

  -- the three blocks
  abbrev B₀ : List Row
  B₀ = extended_by 0 with_zero R es gs

  abbrev B₁ : List Row
  B₁ = extended_by (3 ^ i) with_plus R es gs

  abbrev B₂ : List Row
  B₂ = extended_by (2 * 3 ^ i) with_minus R es gs

  in_0 : (y : ℕ) → 0 < times y (patterns B₀) → y < 3 ^ i
  in_0 y h = let (x, a, m) = thirds_in 0 with_zero R es gs y h in omega (arith, under x m)

  in_1 : (y : ℕ) → 0 < times y (patterns B₁) → (3 ^ i ≤ y) × (y < 2 * 3 ^ i)
  in_1 y h = let (x, a, m) = thirds_in (3 ^ i) with_plus R es gs y h in omega (arith, under x m)

  in_2 : (y : ℕ) → 0 < times y (patterns B₂) → (2 * 3 ^ i ≤ y) × (y < 3 ^ suc i)
  in_2 y h = let (x, a, m) = thirds_in (2 * 3 ^ i) with_minus R es gs y h in omega (arith, under x m)

  blocks : patterns X ≡ patterns B₀ ++ (patterns B₁ ++ patterns B₂)
  unfolding extended_rows
  blocks = patterns-append B₀ (B₁ ++ B₂) ∙ ap (λ (l : List ℕ). patterns B₀ ++ l) (patterns-append B₁ B₂)

  in_12 : (y : ℕ) → 0 < times y (patterns B₁ ++ patterns B₂) → (3 ^ i ≤ y) × (y < 3 ^ suc i)
  in_12 y h = go (dec_lt 0 (times y (patterns B₁)))
    where
      go : Dec (0 < times y (patterns B₁)) → (3 ^ i ≤ y) × (y < 3 ^ suc i)
      go (yes k) = omega (arith, in_1 y k)
      go (no k) = omega (arith, in_2 y (omega (arith, times-append y (patterns B₁) (patterns B₂))))

  X-rows : IsRows (suc i) X
  X-rows =
      record {
        rising = rw blocks
            (rising-append (patterns B₀) (patterns B₁ ++ patterns B₂) (thirds_rising 0 with_zero R es gs rows.rising)
            (rising-append (patterns B₁) (patterns B₂) (thirds_rising (3 ^ i) with_plus R es gs rows.rising)
            (thirds_rising (2 * 3 ^ i) with_minus R es gs rows.rising) (λ x y h k. omega (arith, in_1 x h, in_2 y k)))
            (λ x y h k. omega (arith, in_0 x h, in_12 y k)));
        below =
            rw blocks (under_below (3 ^ suc i) (patterns B₀ ++ (patterns B₁ ++ patterns B₂))
            (λ y h. all y h (dec_lt 0 (times y (patterns B₀)))));
        positive = unfold extended_rows in
            positive-append B₀ (B₁ ++ B₂) (thirds_positive 0 with_zero R es gs)
            (positive-append B₁ B₂ (thirds_positive (3 ^ i) with_plus R es gs) (thirds_positive (2 * 3 ^ i) with_minus R es gs));
      }
    where
      all : (y : ℕ) → 0 < times y (patterns B₀ ++ (patterns B₁ ++ patterns B₂)) → Dec (0 < times y (patterns B₀)) → y < 3 ^ suc i
      all y h (yes k) = omega (arith, in_0 y k)
      all y h (no k) = omega (arith, in_12 y (omega (arith, times-append y (patterns B₀) (patterns B₁ ++ patterns B₂))))

  -- the count at each pattern
  X-times : (y : ℕ) → times y (repeated X) ≡ times y (repeated B₀) + (times y (repeated B₁) + times y (repeated B₂))
  unfolding extended_rows
  X-times y = omega (arith, points-append y B₀ (B₁ ++ B₂), points-append y B₁ B₂)

  none_0 : (y : ℕ) → 3 ^ i ≤ y → times y (repeated B₀) ≡ 0
  none_0 y h = no_count B₀ y (zero-unless (times y (patterns B₀)) (λ k. let l : y < 3 ^ i = in_0 y k in omega arith))

  none_1 : (y : ℕ) → (y < 3 ^ i) ⊎ (2 * 3 ^ i ≤ y) → times y (repeated B₁) ≡ 0
  none_1 y (inl h) = no_count B₁ y (zero-unless (times y (patterns B₁)) (λ k. let (a, b) = in_1 y k in omega arith))
  none_1 y (inr h) = no_count B₁ y (zero-unless (times y (patterns B₁)) (λ k. let (a, b) = in_1 y k in omega arith))

  none_2 : (y : ℕ) → y < 2 * 3 ^ i → times y (repeated B₂) ≡ 0
  none_2 y h = no_count B₂ y (zero-unless (times y (patterns B₂)) (λ k. let (a, b) = in_2 y k in omega arith))

  at-0 : (q : ℕ) → q < 3 ^ i → times q (repeated X) ≡ at with_zero R es gs q
  at-0 q h =
      let e : times (q + 0) (repeated B₀) ≡ at with_zero R es gs q = thirds_at 0 with_zero R es gs q in
      let f : times (q + 0) (repeated B₀) ≡ times q (repeated B₀) = ap (λ (x : ℕ). times x (repeated B₀)) (omega arith) in
      omega (arith, X-times q, none_1 q (inl h), none_2 q (omega arith))

  at_1 : (q : ℕ) → q < 3 ^ i → times (q + 3 ^ i) (repeated X) ≡ at with_plus R es gs q
  at_1 q h =
      omega (
        arith,
        X-times (q + 3 ^ i),
        none_0 (q + 3 ^ i) (omega arith),
        none_2 (q + 3 ^ i) (omega arith),
        thirds_at (3 ^ i) with_plus R es gs q,
      )

  at-2 : (q : ℕ) → q < 3 ^ i → times (q + 2 * 3 ^ i) (repeated X) ≡ at with_minus R es gs q
  at-2 q h =
      omega (
        arith,
        X-times (q + 2 * 3 ^ i),
        none_0 (q + 2 * 3 ^ i) (omega arith),
        none_1 (q + 2 * 3 ^ i) (inr (omega arith)),
        thirds_at (2 * 3 ^ i) with_minus R es gs q,
      )

-- ---- queries of products with power k on the last polynomial

-- where E has, with the last polynomial taken off at power k, the whole numbers c on P
block-query : (i k : ℕ) (E P : List ℕ) (c : List ℤ) (α : ℕ) → k < 3 → α < 3 ^ i → Below (3 ^ suc i) E → Below (3 ^ i) P
    → ((q : ℕ) → q < 3 ^ i → fold i k (counts E) nothing q + part dn P c q ≡ fold i k nothing (counts E) q + part up P c q)
    → query (suc i) E (α + k * 3 ^ i) ≡ weighted i P c α
block-query i k E P c α hk h b b' e =
    diff_same (query (suc i) E (α + k * 3 ^ i)) (weighted i P c α) (query-tally (suc i) (α + k * 3 ^ i) E (small k hk) b)
    (weighted-tally i α P c h b')
    (omega (
      arith,
      tally-at i k α (counts E) nothing h,
      tally-at i k α nothing (counts E) h,
      tally_diff i α (fold i k (counts E) nothing) (fold i k nothing (counts E)) (part up P c) (part dn P c) e,
    ))
  where
    small : (k : ℕ) → k < 3 → α + k * 3 ^ i < 3 ^ suc i
    small zero hk = omega arith
    small (suc zero) hk = omega arith
    small (suc (suc zero)) hk = omega arith
    small (suc (suc (suc k))) hk = absurd (omega arith)

-- the round's products, as answers
map-fits : (s c : ℕ) (E A : List ℕ) (f : ℕ → ℤ) → ((α : ℕ) → 0 < times α A → query s E (α + c) ≡ f α) → Fits s E (shift c A) (map f A)
unfolding Fits shift
map-fits s c E [] f e = tt
map-fits s c E (α ∷ A) f e =
    (sym (e α (omega (arith, times-same α A))), map-fits s c E A f (λ β h. e β (omega (arith, times-append β (α ∷ []) A))))

fits-map : (s c : ℕ) (E A : List ℕ) (f : ℕ → ℤ) (ws : List ℤ) → length ws ≡ length A → Fits s E (shift c A) ws
    → ((α : ℕ) → 0 < times α A → query s E (α + c) ≡ f α) → map f A ≡ ws
unfolding Fits shift
fits-map s c E [] f [] l F e = refl
fits-map s c E [] f (w ∷ ws) l F e = absurd (omega arith)
fits-map s c E (α ∷ A) f [] l F e = absurd (omega arith)
fits-map s c E (α ∷ A) f (w ∷ ws) l F e =
    ap₂ ◌∷◌ (sym (F.0 ∙ e α (omega (arith, times-same α A))))
    (fits-map s c E A f ws (omega arith) F.1 (λ β h. e β (omega (arith, times-append β (α ∷ []) A))))

-- the values of a weight that is at most the count of each row
values-small : (w : Weight) (R : List Row) → ((p : ℕ) (r : Row) → IsAt R p r → w.up r.pattern + w.dn r.pattern ≤ r.count)
    → sum_abs (values w (patterns R)) ≤ length (repeated R)
unfolding sum_abs values patterns repeated
values-small w [] h = omega arith
values-small w (r ∷ R) h =
    let z = sub_ℕ (w.up r.pattern) (w.dn r.pattern) in
    omega (
      arith,
      values-small w R (λ p x i. h (suc p) x (at_tail r R p x i)),
      h 0 r (at_head r R),
      diff_small (w.up r.pattern) (w.dn r.pattern),
      length-append (replicate r.count r.pattern) (repeated R),
      length-replicate r.count r.pattern,
    )
  where
    diff_small : (a b : ℕ) → nat_abs (sub_ℕ a b) ≤ a + b
    diff_small a b = by_sign (sub_ℕ a b) (diff_sub a b)
      where
        by_sign : (z : ℤ) → Diff z a b → nat_abs z ≤ a + b
        by_sign (pos n) d = omega arith
        by_sign (negsuc n) d = omega arith

-- ---- the end of a round

module _ (i : ℕ) (R₀ : List Row) (ws : List ℤ) (rows : IsRows i R₀) (few : length (repeated R₀) ≤ most_points)
    (full : length ws ≡ length (round_of i (patterns R₀))) where
  abbrev P : List ℕ
  P = patterns R₀

  abbrev A : List ℕ
  A = adapted i P

  -- the two halves of the answers
  abbrev us : List ℤ
  us = take (length R₀) ws

  abbrev vs : List ℤ
  vs = drop (length R₀) ws

  halves : us ++ vs ≡ ws
  halves = take-append-drop (length R₀) ws

  us_length : length us ≡ length P
  us_length = omega (arith, length-take (length R₀) ws, full, round-length i R₀ rows, length-patterns R₀)

  vs_length : length vs ≡ length P
  vs_length = omega (arith, length-drop (length R₀) ws, full, round-length i R₀ rows, length-patterns R₀)

  A-length : length A ≡ length P
  A-length = as_many i P rows.rising rows.below

  posed : (ds : List ℤ) → length ds ≡ length P → Posed i P ds
  posed ds l = record { rising = rows.rising; below = rows.below; full = l }

  -- ---- rows from two solutions

  module _ (es gs : List ℤ) (S : Solution i P us es) (S' : Solution i P vs gs) (t : all_split R₀ es gs ≡ true) where
    abbrev Y : List Row
    Y = extended_rows i R₀ es gs

    Y-below : Below (3 ^ suc i) (repeated Y)
    Y-below = points-below (3 ^ suc i) Y (X-rows i R₀ es gs rows).below

    query-1 : (α : ℕ) → 0 < times α A → query (suc i) (repeated Y) (α + 3 ^ i) ≡ weighted i P es α
    query-1 α h =
        ap (query (suc i) (repeated Y)) (omega arith)
        ∙ block-query i 1 (repeated Y) P es α (omega arith) (adapted_below i α P h) Y-below rows.below
        (λ q k. unfold fold in omega (arith, at_1 i R₀ es gs rows q k, at-2 i R₀ es gs rows q k, (three-at R₀ es gs t q).less))

    query-2 : (α : ℕ) → 0 < times α A → query (suc i) (repeated Y) (α + 2 * 3 ^ i) ≡ weighted i P gs α
    query-2 α h =
        block-query i 2 (repeated Y) P gs α (omega arith) (adapted_below i α P h) Y-below rows.below
        (λ q k. unfold fold in omega (arith, at_1 i R₀ es gs rows q k, at-2 i R₀ es gs rows q k, (three-at R₀ es gs t q).and))

    two_solutions : NextRows i R₀ ws Y
    two_solutions =
        record {
          rows = X-rows i R₀ es gs rows;
          sums =
              λ q h. omega (
                arith,
                at-0 i R₀ es gs rows q h,
                at_1 i R₀ es gs rows q h,
                at-2 i R₀ es gs rows q h,
                (three-at R₀ es gs t q).adds,
              );
          give = unfold round_of in
              subst (Fits (suc i) (repeated Y) (shift (3 ^ i) A ++ shift (2 * 3 ^ i) A)) halves
              (fits-append (suc i) (repeated Y) (shift (3 ^ i) A) (shift (2 * 3 ^ i) A) us vs
              (omega (arith, length_shift (3 ^ i) A, A-length, us_length))
              (subst (Fits (suc i) (repeated Y) (shift (3 ^ i) A)) S.give
              (map-fits (suc i) (3 ^ i) (repeated Y) A (weighted i P es) query-1))
              (subst (Fits (suc i) (repeated Y) (shift (2 * 3 ^ i) A)) S'.give
              (map-fits (suc i) (2 * 3 ^ i) (repeated Y) A (weighted i P gs) query-2)));
        }

  -- ---- two solutions from rows

  module _ (R : List Row) (M : NextRows i R₀ ws R) where
    abbrev E : List ℕ
    E = repeated R

    abbrev C : ℕ → ℕ
    C q = times q E

    E-below : Below (3 ^ suc i) E
    E-below = points-below (3 ^ suc i) R M.rows.below

    -- the counts with the last polynomial taken off, at power 1 and 2
    abbrev W : ℕ → Weight
    W k = record { up = fold i k C nothing; dn = fold i k nothing C }

    W-out : (k q : ℕ) → 0 < k → q < 3 ^ i → times q P ≡ 0 → (W k).up q ≡ (W k).dn q
    unfolding fold
    W-out zero q p h e = absurd (omega arith)
    W-out (suc zero) q p h e = omega (arith, M.sums q h, no_count R₀ q e)
    W-out (suc (suc k)) q p h e = omega (arith, M.sums q h, no_count R₀ q e)

    -- each row's count is the sum over the three signs
    row-sum : (p : ℕ) (r : Row) → IsAt R₀ p r → r.count ≡ C r.pattern + C (r.pattern + 3 ^ i) + C (r.pattern + 2 * 3 ^ i)
    row-sum p r a =
        count_of R₀ p r rows.rising a ∙ sym (M.sums r.pattern (below_under (3 ^ i) P rows.below r.pattern (at_in R₀ p r a)))

    W-small : (k : ℕ) → 0 < k → (p : ℕ) (r : Row) → IsAt R₀ p r → (W k).up r.pattern + (W k).dn r.pattern ≤ r.count
    unfolding fold
    W-small zero h p r a = absurd (omega arith)
    W-small (suc zero) h p r a = omega (arith, row-sum p r a)
    W-small (suc (suc k)) h p r a = omega (arith, row-sum p r a)

    solves_half : (k : ℕ) (ds : List ℤ) → 0 < k → k < 3 → length ds ≡ length P → Fits (suc i) E (shift (k * 3 ^ i) A) ds
        → Solution i P ds (values (W k) P)
    solves_half k ds h h' l f =
        record {
          one_each = values_length (W k) P;
          give = fits-map (suc i) (k * 3 ^ i) E A (weighted i P (values (W k) P)) ds (l ∙ sym A-length) f
              (λ α m.
              block-query i k E P (values (W k) P) α h' (adapted_below i α P m) E-below rows.below
              (λ q b. omega (arith, values-weight i (W k) P rows.rising (λ x c o. W-out k x h c o) q b)));
          small = omega (arith, few, values-small (W k) R₀ (W-small k h));
        }

    M-halves : Fits (suc i) E (shift (3 ^ i) A ++ shift (2 * 3 ^ i) A) (us ++ vs)
    M-halves = unfold round_of in subst (Fits (suc i) E (shift (3 ^ i) A ++ shift (2 * 3 ^ i) A)) (sym halves) M.give

    shift-length : length (shift (3 ^ i) A) ≡ length us
    shift-length = omega (arith, length_shift (3 ^ i) A, A-length, us_length)

    first-half : Solution i P us (values (W 1) P)
    first-half =
        solves_half 1 us (omega arith) (omega arith) us_length
        (subst (λ (c : ℕ). Fits (suc i) E (shift c A) us) (omega arith)
        (fits-left (suc i) E (shift (3 ^ i) A) (shift (2 * 3 ^ i) A) us vs shift-length M-halves))

    second-half : Solution i P vs (values (W 2) P)
    second-half =
        solves_half 2 vs (omega arith) (omega arith) vs_length
        (fits_right (suc i) E (shift (3 ^ i) A) (shift (2 * 3 ^ i) A) us vs shift-length M-halves)

    all-splits : (R' : List Row)
        → ((p : ℕ) (r : Row) → IsAt R' p r → r.count ≡ C r.pattern + C (r.pattern + 3 ^ i) + C (r.pattern + 2 * 3 ^ i))
        → all_split R' (values (W 1) (patterns R')) (values (W 2) (patterns R')) ≡ true
    unfolding all_split values patterns
    all-splits [] h = refl
    all-splits (r ∷ R') h = rw (one, all-splits R' (λ p x a. h (suc p) x (at_tail r R' p x a))) refl
      where
        q : ℕ
        q = r.pattern

        diff : (k : ℕ) → up (sub_ℕ ((W k).up q) ((W k).dn q)) + (W k).dn q ≡ (W k).up q + dn (sub_ℕ ((W k).up q) ((W k).dn q))
        diff k =
            let z = sub_ℕ ((W k).up q) ((W k).dn q) in
            omega (arith, diff_one z (diff_parts z) (diff_sub ((W k).up q) ((W k).dn q)))

        one : splits r.count (sub_ℕ ((W 1).up q) ((W 1).dn q)) (sub_ℕ ((W 2).up q) ((W 2).dn q)) ≡ true
        one =
            splits_from r.count (C q) (C (q + 3 ^ i)) (C (q + 2 * 3 ^ i)) _ _ (h 0 r (at_head r R'))
            (unfold fold in omega (arith, diff 1)) (unfold fold in omega (arith, diff 2))

    pub to_some : by_moments i R₀ ws ≡ some (extended_rows i R₀ (values (W 1) P) (values (W 2) P))
    unfolding by_moments judged
    to_some =
        rw (
          (solver_found i P us (posed us us_length) (values (W 1) P)).1 first-half,
          (solver_found i P vs (posed vs vs_length) (values (W 2) P)).1 second-half,
          all-splits R₀ row-sum,
        )
        refl

  -- ---- what is found

  pub from_some : (R : List Row) → by_moments i R₀ ws ≡ some R → NextRows i R₀ ws R
  unfolding by_moments judged
  from_some R e = first (solver_of i P us) refl e
    where
      third : (es gs : List ℤ) → Solution i P us es → Solution i P vs gs → (b : Bool) → all_split R₀ es gs ≡ b
          → cond b (some (extended_rows i R₀ es gs)) none ≡ some R → NextRows i R₀ ws R
      third es gs S S' true t k = subst (NextRows i R₀ ws) (some_same (extended_rows i R₀ es gs) R k) (two_solutions es gs S S' t)
      third es gs S S' false t k = let x : ◌≡◌ {A = ℕ} 0 1 = cc in absurd (omega arith)

      second : (es : List ℤ) → Solution i P us es → (o : Option (List ℤ)) → solver_of i P vs ≡ o
          → and_then o (λ gs. judged i R₀ es gs) ≡ some R → NextRows i R₀ ws R
      second es S none f k = let x : ◌≡◌ {A = ℕ} 0 1 = cc in absurd (omega arith)
      second es S (some gs) f k = third es gs S ((solver_found i P vs (posed vs vs_length) gs).0 f) (all_split R₀ es gs) refl k

      first : (o : Option (List ℤ)) → solver_of i P us ≡ o
          → and_then o (λ es. and_then (solver_of i P vs) (λ gs. judged i R₀ es gs)) ≡ some R → NextRows i R₀ ws R
      first none f k = let x : ◌≡◌ {A = ℕ} 0 1 = cc in absurd (omega arith)
      first (some es) f k = second es ((solver_found i P us (posed us us_length) es).0 f) (solver_of i P vs) refl k
