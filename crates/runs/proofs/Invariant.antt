-- What holds of the record after every call: the invariant of a run, and that an answer keeps it.
use mathlib.Core.Path.{◌≡◌, refl, sym, ap, ◌∙◌, subst}
use mathlib.Core.Logic.{◌≢◌, ◌⊎◌, inl, inr}
use mathlib.Core.Bool.{Bool, true, false, cond}
use mathlib.Core.Option.{Option, some, none}
use mathlib.Core.List.{List, [], ◌∷◌, ◌++◌, append_assoc, append-nil}
use Prim.Native.Nat.{ℕ, zero, suc, ◌+◌, ◌*◌, ◌-◌, ◌^◌, ◌<◌, ◌≤◌}
use native.Mathlib.Omega.{arith}
use native.Mathlib.Decide.{dec_lt}
use native.Mathlib.Nat.{mul-le-mul}
use borrow.Author.Tests.{ltb-true, ltb-false, leb-true, leb-false, eqb-true, eqb-false, lt-ltb, le-ltb}
use lib.Dec.{eqb, leb, ltb, eqb-suc-zero}
use lib.IntN.{ℤ, pos, negsuc, nat_abs}
use lib.Signed.{◌<ℤ◌}
use Rattle.integers.proofs.Parts.{int}
use lib.ListN.{length, take, drop, get_or, length-append, length-take, take-append-drop, get_or-append}
use lib.Seq.{take-suc, take_all, take-append-le, get_or-append-add}
use Rattle.refusals.specs.Limits.{most_points}
use Rattle.signs.specs.Lists.{times, shift}
use Rattle.signs.specs.Adapted.{adapted}
use Rattle.signs.proofs.Lists.{times-append, times-take}
use Rattle.signs.proofs.Queries.{counts}
use Rattle.signs.proofs.Size.{length_shift}
use Rattle.runs.specs.Demand.{heard, asks, Proper, SomeFits, FirstOut, SomeOutside, LaterOut}
use Rattle.rounds.specs.NextRows.{RightRows}
use Rattle.rounds.specs.Rounds.{round_of, Answered, Determined, AtEnd, InOrder}
use Rattle.rounds.specs.Rows.{Row, patterns, repeated, row_if, rows_of, Fits}
use Rattle.runs.specs.Run.{Step, refused, Phase, running, finished, closed, State, start_of, round_product, close, ended, end_round}
use Rattle.runs.specs.Run.{round_step, limit_of, first_answer, later_answer, in_round, in_phase, answer_of}
use Rattle.runs.proofs.Causes.{OutOfLimits, Cause, by_first, by_later, by_counts, one-within, one_outside, later_from, first_in}
use Rattle.runs.proofs.Causes.{limits_in, limits-take, none_in}
use Rattle.rounds.proofs.Answers.{Facts, facts, more_rows, query-zero, round-low, round-once, round-length}
use Rattle.rounds.proofs.RowLaws.{times_single, points-below}
use Rattle.rounds.specs.Rows.{restrict}
use Rattle.rounds.proofs.Questions.{rows-most}
use Rattle.rounds.proofs.Rounds.{rows_oracle, determined_empty, next_counts, next_determined, oracle_next, fits-first, fits_last}
use Rattle.rounds.proofs.Rounds.{query-small, end_nonempty, not_ended, fits_end}

-- ---- the invariant

-- the run is in round i + 1, and waits for the answer to the last of the products ps
pub record Going (s : ℕ) (r : State) (zs : List ℤ) (ps : List ℕ) (i : ℕ) : Type 0 where
  pub before : List ℤ
  pub asked : List ℕ
  pub determined : Determined i before asked r.rows
  pub in_range : i < s
  pub answers : zs ≡ before ++ r.answers
  pub unfinished : length r.answers < length (round_of i (patterns r.rows))
  pub products : ps ≡ asked ++ take (suc (length r.answers)) (round_of i (patterns r.rows))
  pub adapted_list : r.products ≡ adapted i (patterns r.rows)
  pub later_answers : List ℤ
  pub first-answer : before ≡ pos r.n ∷ later_answers
  -- every answer after the first is in its limits
  pub within : SomeOutside r.n (later_answers ++ r.answers) → ⊥

-- the run was closed, and rightly
pub record Closed (s : ℕ) (zs : List ℤ) (ps : List ℕ) : Type 0 where
  pub none_fits : SomeFits s ps zs → ⊥
  pub pairs : length ps ≡ length zs
  pub order : InOrder s zs ps
  pub once : (α : ℕ) → times α ps ≤ 1
  -- and not later than at the first end of a round at which none fits
  pub in_time : (k i : ℕ) (qs : List ℕ) → k < length zs → AtEnd i (take k zs) qs → SomeFits s ps (take k zs)
  -- nor later than at the first answer out of its limits
  pub at_once : (k : ℕ) → k < length zs → OutOfLimits (take k zs) → ⊥

abbrev pub At : ℕ → State → List ℤ → List ℕ → Phase → ℕ → Type 0
At s r zs ps running zero = (zs ≡ []) × (ps ≡ 0 ∷ []) × (r ≡ start_of s)
At s r zs ps running (suc i) = Going s r zs ps i
At s r zs ps finished k = Determined s zs ps r.rows
At s r zs ps closed k = Closed s zs ps

pub record Inv (s : ℕ) (r : State) (zs : List ℤ) (ps : List ℕ) : Type 0 where
  pub polys : r.polynomials ≡ s
  pub count : r.total ≡ length zs
  pub in_range : r.round ≤ s
  pub few : length zs ≤ 1 + 2 * most_points * r.round
  pub at : At s r zs ps r.phase r.round

pub start_inv : (s : ℕ) → Inv s (start_of s) [] (0 ∷ [])
start_inv s = record { polys = refl; count = refl; in_range = omega arith; few = omega arith; at = (refl, refl, refl) }

-- ---- the products of a round, one by one

get_d_shift : (c : ℕ) (l : List ℕ) (k : ℕ) → k < length l → get_or (shift c l) k 0 ≡ get_or l k 0 + c
unfolding shift
get_d_shift c [] k h = absurd (omega arith)
get_d_shift c (x ∷ l) zero h = refl
get_d_shift c (x ∷ l) (suc k) h = get_d_shift c l k (omega arith)

round_twice : (i : ℕ) (L : List ℕ) → length (round_of i L) ≡ 2 * length (adapted i L)
unfolding round_of
round_twice i L =
    omega (
      arith,
      length-append (shift (3 ^ i) (adapted i L)) (shift (2 * 3 ^ i) (adapted i L)),
      length_shift (3 ^ i) (adapted i L),
      length_shift (2 * 3 ^ i) (adapted i L),
    )

-- the k-th product from the adapted list is the k-th of the round
pub product_at : (i : ℕ) (L : List ℕ) (k : ℕ) → k < length (round_of i L) → round_product i (adapted i L) k ≡ get_or (round_of i L) k 0
unfolding round_product round_of
product_at i L k h = go (dec_lt k (length A))
  where
    A : List ℕ
    A = adapted i L

    B : List ℕ
    B = shift (3 ^ i) A

    C : List ℕ
    C = shift (2 * 3 ^ i) A

    go : Dec (k < length A) → cond (ltb k (length A)) (get_or A k 0 + 3 ^ i) (get_or A (k - length A) 0 + 2 * 3 ^ i) ≡ get_or (B ++ C) k 0
    go (yes m) =
        rw (lt-ltb k (length A) m) (sym (get_or-append B C 0 k (omega (arith, length_shift (3 ^ i) A, m)) ∙ get_d_shift (3 ^ i) A k m))
    go (no m) =
        rw (le-ltb k (length A) (omega arith))
        (sym (ap (λ (x : ℕ). get_or (B ++ C) x 0) (omega (arith, length_shift (3 ^ i) A))
        ∙ get_or-append-add B C (k - length A) 0
        ∙ get_d_shift (2 * 3 ^ i) A (k - length A) (omega (arith, round_twice i L))))

-- ---- products asked in a round that goes on

pub asked-once : (i k : ℕ) (zs : List ℤ) (ps : List ℕ) (R : List Row) → Determined i zs ps R → (α : ℕ)
    → times α (ps ++ take k (round_of i (patterns R))) ≤ 1
asked-once i k zs ps R c α = go (dec_lt 0 (times α ps)) (dec_lt 0 (times α Q))
  where
    Q : List ℕ
    Q = round_of i (patterns R)

    F : Facts i zs ps R
    F = facts i zs ps R c

    go : Dec (0 < times α ps) → Dec (0 < times α Q) → times α (ps ++ take k Q) ≤ 1
    go (yes h) (yes m) = absurd (omega (arith, F.under α h, round-low i (patterns R) α m))
    go (yes h) (no m) = omega (arith, times-append α ps (take k Q), times-take α k Q, F.once α)
    go (no h) d = omega (arith, times-append α ps (take k Q), times-take α k Q, round-once i (patterns R) α)

pub going_length : (s : ℕ) (r : State) (zs : List ℤ) (ps : List ℕ) (i : ℕ) → Going s r zs ps i → length ps ≡ length zs + 1
going_length s r zs ps i g =
    rw (g.products, g.answers)
    (omega (
      arith,
      length-append g.asked (take (suc (length r.answers)) Q),
      length-append g.before r.answers,
      length-take (suc (length r.answers)) Q,
      g.unfinished,
      (facts i g.before g.asked r.rows g.determined).lengths,
    ))
  where
    Q : List ℕ
    Q = round_of i (patterns r.rows)

-- a run that goes on has taken few answers
pub going_short : (s i : ℕ) (r : State) (zs : List ℤ) (ps : List ℕ) → Going s r zs ps i → length zs ≤ 2 * most_points * suc i
going_short s i r zs ps g =
    let same : suc i ≤ suc i = omega arith in
    omega (
      arith,
      ap length g.answers,
      length-append g.before r.answers,
      F.lengths,
      F.few,
      g.unfinished,
      round-length i r.rows F.rows,
      mul-le-mul (rows-most i g.before g.asked r.rows g.determined) same,
    )
  where
    F : Facts i g.before g.asked r.rows
    F = facts i g.before g.asked r.rows g.determined

-- at each end of a round that lies behind, an oracle fits
pub going_fits : (s : ℕ) (r : State) (zs : List ℤ) (ps : List ℕ) (c : ℕ) → Going s r zs ps c
    → (j i : ℕ) (qs : List ℕ) → j ≤ length zs → AtEnd i (take j zs) qs → SomeFits s ps (take j zs)
going_fits s r zs ps c g j i qs hj e = go (dec_lt c i)
  where
    go : Dec (c < i) → SomeFits s ps (take j zs)
    go (yes m) =
        absurd (not_ended i c (take j zs) (drop j zs) g.before r.answers qs g.asked r.rows m e g.determined
        (take-append-drop j zs ∙ g.answers) g.unfinished)
    go (no m) =
        fits_end s zs ps i c j g.before r.answers qs g.asked r.rows (omega (arith, g.in_range)) (omega arith) hj
        g.determined g.answers e _ g.products

-- its answers are in their limits
pub going_in : (s : ℕ) (r : State) (zs : List ℤ) (ps : List ℕ) (c : ℕ) → Going s r zs ps c → OutOfLimits zs → ⊥
going_in s r zs ps c g =
    limits_in r.n (g.later_answers ++ r.answers) zs (g.answers ∙ ap (λ (l : List ℤ). l ++ r.answers) g.first-answer)
    (omega (
      arith,
      fits-first c _ g.asked g.before r.n g.later_answers F.later_products g.first-answer F.first_product F.fits,
      (rows_oracle c c g.before g.asked r.rows (omega arith) F).0.held,
    )) g.within
  where
    F : Facts c g.before g.asked r.rows
    F = facts c g.before g.asked r.rows g.determined

-- ---- an answer taken

-- what an answer z leaves, from the answers zs and the products ps before it
pub record After (s : ℕ) (zs : List ℤ) (ps : List ℕ) (z : ℤ) (out : State × Step) : Type 0 where
  pub inv : Inv s out.0 (zs ++ (z ∷ [])) (ps ++ asks out.1)
  pub phase : heard running out.1 ≡ out.0.phase
  pub proper : Proper running out.1
  pub cause : (k : ℕ) → out.1 ≡ refused k → Cause s k (zs ++ (z ∷ [])) ps

one_more : (zs : List ℤ) (z : ℤ) → length (zs ++ (z ∷ [])) ≡ suc (length zs)
one_more zs z = omega (arith, length-append zs (z ∷ []))

cond-after : (s : ℕ) (zs : List ℤ) (ps : List ℕ) (z : ℤ) (x y : State × Step) (b : Bool)
    → (b ≡ true → After s zs ps z x) → (b ≡ false → After s zs ps z y) → After s zs ps z (cond b x y)
cond-after s zs ps z x y true f g = f refl
cond-after s zs ps z x y false f g = g refl

module _ (N : ℕ → List Row → List ℤ → Option (List Row)) (s : ℕ) (r : State) (zs : List ℤ) (ps : List ℕ) (z : ℤ)
    (polys : r.polynomials ≡ s) (count : r.total ≡ length zs) (i : ℕ) (in_range : i ≤ s) (short : length zs ≤ 2 * most_points * i) where
  close-after : (k : ℕ) → r.round ≡ i → (k ≡ 8) ⊎ ((k ≡ 9) ⊎ (k ≡ 10)) → Cause s k (zs ++ (z ∷ [])) ps → Closed s (zs ++ (z ∷ [])) ps
      → After s zs ps z (close N r k)
  unfolding heard asks Proper
  close-after k same c w h =
      record {
        inv = record {
          polys = polys;
          count = omega (arith, one_more zs z);
          in_range = omega (arith, in_range, same);
          few = omega (arith, one_more zs z, short, same);
          at = rw (append-nil ps) h;
        };
        phase = refl;
        proper = c;
        cause = λ m e. let x : k ≡ m = cc in subst (λ (j : ℕ). Cause s j (zs ++ (z ∷ [])) ps) x w;
      }

  -- round i, the last one, has ended
  done-after : (n : ℕ) (R : List Row) → Determined s (zs ++ (z ∷ [])) ps R → After s zs ps z (ended N r i n R true)
  unfolding heard asks Proper
  done-after n R c =
      record {
        inv = record {
          polys = polys;
          count = omega (arith, one_more zs z);
          in_range = in_range;
          few = omega (arith, one_more zs z, short);
          at = rw (append-nil ps) c;
        };
        phase = refl;
        proper = tt;
        cause = λ m e. let x : ◌≡◌ {A = ℕ} 0 1 = cc in absurd (omega arith);
      }

  -- round i has ended and another begins
  begin_after : (n : ℕ) (R : List Row) (later_answers : List ℤ) → Determined i (zs ++ (z ∷ [])) ps R → i < s → 0 < length R
      → zs ++ (z ∷ []) ≡ pos n ∷ later_answers → (SomeOutside n later_answers → ⊥) → After s zs ps z (ended N r i n R false)
  unfolding heard asks Proper
  begin_after n R more c h m e w =
      record {
        inv = record {
          polys = polys;
          count = omega (arith, one_more zs z);
          in_range = h;
          few = omega (arith, one_more zs z, short);
          at = record {
            before = zs ++ (z ∷ []);
            asked = ps;
            determined = c;
            in_range = h;
            answers = sym (append-nil (zs ++ (z ∷ [])));
            unfinished = some_product;
            products =
                ap (λ (α : ℕ). ps ++ (α ∷ [])) (product_at i (patterns R) 0 some_product)
                ∙ ap (λ (l : List ℕ). ps ++ l) (sym (take-suc (round_of i (patterns R)) 0 0 some_product));
            adapted_list = refl;
            later_answers = more;
            first-answer = e;
            within = λ x. w (subst (SomeOutside n) (append-nil more) x);
          };
        };
        phase = refl;
        proper = tt;
        cause = λ m e. let x : ◌≡◌ {A = ℕ} 0 1 = cc in absurd (omega arith);
      }
    where
      some_product : 0 < length (round_of i (patterns R))
      some_product = omega (arith, round-length i R (facts i (zs ++ (z ∷ [])) ps R c).rows)

-- ---- the first answer

-- the first answer counts the patterns held, so a number that is none of 0 .. 64 fits no oracle
closed-first : (s : ℕ) (z : ℤ) → ((E : List ℕ) → length E ≤ most_points → z ≡ pos (length E) → ⊥) → Closed s (z ∷ []) (0 ∷ [])
unfolding Fits InOrder
closed-first s z h =
    record {
      none_fits = λ t. h t.0 t.1.held (t.2.0 ∙ query-zero s t.0);
      pairs = refl;
      order = inl refl;
      once = λ α. times_single α 0;
      in_time = λ k i qs m e. absurd (omega (arith, end_nonempty i (take k (z ∷ [])) qs e, length-take k (z ∷ [])));
      at_once = λ k m o. let e : k ≡ 0 = omega arith in none_in (subst (λ (j : ℕ). OutOfLimits (take j (z ∷ []))) e o);
    }

cause-first : (s : ℕ) (z : ℤ) → (z <ℤ pos 0) ⊎ (pos 64 <ℤ z) → Cause s 8 (z ∷ []) (0 ∷ [])
unfolding SomeOutside
cause-first s z h = by_first refl (z, [], refl, h) (λ (n, l, e, o). let x : l ≡ [] = cc in subst (SomeOutside n) x o)

first-after : (N : ℕ → List Row → List ℤ → Option (List Row)) (s : ℕ) (z : ℤ) → 1 ≤ s → After s [] (0 ∷ []) z
    (first_answer N (start_of s) z)
first-after N s (negsuc n) h =
    close-after N s (start_of s) [] (0 ∷ []) (negsuc n) refl refl 0 (omega arith) (omega arith) 8 refl (inl refl)
    (cause-first s (negsuc n) (inl (omega int)))
    (closed-first s (negsuc n) (λ E k e. let x : ◌≡◌ {A = ℕ} 0 1 = cc in omega arith))
first-after N s (pos zero) h =
    done-after N s (start_of s) [] (0 ∷ []) (pos 0) refl refl 0 (omega arith) (omega arith) 0 (row_if 0 0)
    (unfold row_if in determined_empty s)
first-after N s (pos (suc n)) h =
    cond-after s [] (0 ∷ []) (pos (suc n)) _ _ (leb (suc n) most_points)
    (λ t. rw (eqb-suc-zero n)
    (begin_after N s (start_of s) [] (0 ∷ []) (pos (suc n)) refl refl 0 (omega arith) (omega arith) (suc n) (row_if 0 (suc n)) []
    (unfold Determined in (suc n, leb-true (suc n) most_points t, refl, refl, refl)) (omega arith) (unfold row_if in omega arith) refl
    (λ x. unfold SomeOutside in x)))
    (λ t. close-after N s (start_of s) [] (0 ∷ []) (pos (suc n)) refl refl 0 (omega arith) (omega arith) 8 refl (inl refl)
    (cause-first s (pos (suc n)) (inr (omega (int, leb-false (suc n) most_points t))))
    (closed-first s (pos (suc n)) (λ E k e. let x : suc n ≡ length E = cc in omega (arith, leb-false (suc n) most_points t))))

-- ---- a later answer

module _ (N : ℕ → List Row → List ℤ → Option (List Row)) (right : RightRows N) (s : ℕ) (r : State) (zs : List ℤ) (ps : List ℕ) (z : ℤ)
    (polys : r.polynomials ≡ s) (count : r.total ≡ length zs) (i : ℕ) (at_round : r.round ≡ suc i) (g : Going s r zs ps i) where
  -- the products of the round, and its answers with z
  abbrev Q : List ℕ
  Q = round_of i (patterns r.rows)

  abbrev ws : List ℤ
  ws = r.answers ++ (z ∷ [])

  F : Facts i g.before g.asked r.rows
  F = facts i g.before g.asked r.rows g.determined

  few : length (repeated r.rows) ≤ most_points
  few = (rows_oracle i i g.before g.asked r.rows (omega arith) F).0.held

  short : length zs ≤ 2 * most_points * suc i
  short = going_short s i r zs ps g

  all-answers : zs ++ (z ∷ []) ≡ g.before ++ ws
  all-answers = ap (λ (l : List ℤ). l ++ (z ∷ [])) g.answers ∙ append_assoc g.before r.answers (z ∷ [])

  starts : zs ++ (z ∷ []) ≡ pos r.n ∷ (g.later_answers ++ ws)
  starts = all-answers ∙ ap (λ (l : List ℤ). l ++ ws) g.first-answer

  starts-ps : ps ≡ 0 ∷ (F.later_products ++ take (suc (length r.answers)) Q)
  starts-ps = g.products ∙ ap (λ (l : List ℕ). l ++ take (suc (length r.answers)) Q) F.first_product

  -- an oracle that fits holds n patterns
  holds : (E : List ℕ) → Fits s E ps (zs ++ (z ∷ [])) → r.n ≡ length E
  holds E f = fits-first s E ps (zs ++ (z ∷ [])) r.n (g.later_answers ++ ws) _ starts starts-ps f

  closed_going : (SomeFits s ps (zs ++ (z ∷ [])) → ⊥) → Closed s (zs ++ (z ∷ [])) ps
  unfolding InOrder
  closed_going h =
      record {
        none_fits = h;
        pairs = omega (arith, going_length s r zs ps i g, one_more zs z);
        order = inr (
          i,
          g.in_range,
          record { before = g.before; now = ws; asked = g.asked; rows = r.rows; determined = g.determined; answers = all-answers },
          suc (length r.answers),
          g.products,
        );
        once = λ α. rw g.products (asked-once i (suc (length r.answers)) g.before g.asked r.rows g.determined α);
        in_time = λ k j qs m e.
            let same : take k (zs ++ (z ∷ [])) ≡ take k zs = take-append-le k zs (z ∷ []) (omega (arith, one_more zs z)) in
            rw same (going_fits s r zs ps i g k j qs (omega (arith, one_more zs z)) (rw same at e));
        at_once = λ k m o.
            going_in s r zs ps i g
            (limits-take k zs (subst OutOfLimits (take-append-le k zs (z ∷ []) (omega (arith, one_more zs z))) o));
      }

  -- 9: no query is larger than the number of points
  nine : limit_of r < nat_abs z → Closed s (zs ++ (z ∷ [])) ps
  nine h =
      closed_going λ t.
      let (α, e) = fits_last s t.0 ps zs z t.2 in
      omega (arith, holds t.0 t.2, query-small s α t.0, ap nat_abs e, t.1.held)

  small : r.n ≤ most_points
  small =
      omega (
        arith,
        few,
        fits-first i _ g.asked g.before r.n g.later_answers F.later_products g.first-answer F.first_product F.fits,
      )

  cause_9 : limit_of r < nat_abs z → Cause s 9 (zs ++ (z ∷ [])) ps
  cause_9 h =
      by_later refl (first_in r.n (g.later_answers ++ ws) (zs ++ (z ∷ [])) starts small)
      (r.n, g.later_answers ++ ws, starts, one_outside r.n g.later_answers r.answers z h)

  in_limits : nat_abs z ≤ limit_of r → SomeOutside r.n (g.later_answers ++ ws) → ⊥
  in_limits h = one-within r.n g.later_answers r.answers z g.within h

  -- the next product of the record is that of the round
  next_product : length ws < length Q → round_product i r.products (length ws) ≡ get_or Q (length ws) 0
  next_product h = ap (λ (A : List ℕ). round_product i A (length ws)) g.adapted_list ∙ product_at i (patterns r.rows) (length ws) h

  -- the record's list has half the round's products
  twice : 2 * length r.products ≡ length Q
  twice = ap (λ (A : List ℕ). 2 * length A) g.adapted_list ∙ sym (round_twice i (patterns r.rows))

  -- the round goes on
  on-after : length ws < length Q → nat_abs z ≤ limit_of r → After s zs ps z (round_step N r i ws true)
  unfolding heard asks Proper
  on-after h l =
      record {
        inv = record {
          polys = polys;
          count = omega (arith, one_more zs z);
          in_range = g.in_range;
          few = omega (arith, one_more zs z, short);
          at = record {
            before = g.before;
            asked = g.asked;
            determined = g.determined;
            in_range = g.in_range;
            answers = all-answers;
            unfinished = h;
            products =
                ap (λ (α : ℕ). ps ++ (α ∷ [])) (next_product h)
                ∙ ap (λ (l : List ℕ). l ++ (get_or Q (length ws) 0 ∷ [])) g.products
                ∙ append_assoc g.asked (take (suc (length r.answers)) Q) (get_or Q (length ws) 0 ∷ [])
                ∙ ap (λ (k : ℕ). g.asked ++ (take k Q ++ (get_or Q (length ws) 0 ∷ []))) (sym (one_more r.answers z))
                ∙ ap (λ (l : List ℕ). g.asked ++ l) (sym (take-suc Q (length ws) 0 h));
            adapted_list = g.adapted_list;
            later_answers = g.later_answers;
            first-answer = g.first-answer;
            within = in_limits l;
          };
        };
        phase = refl;
        proper = tt;
        cause = λ m e. let x : ◌≡◌ {A = ℕ} 0 1 = cc in absurd (omega arith);
      }

  -- ---- the round has ended

  module _ (full : length ws ≡ length Q) (l : nat_abs z ≤ limit_of r) where
    whole : ps ≡ g.asked ++ Q
    whole =
        g.products ∙ ap (λ (l : List ℕ). g.asked ++ l)
        (take_all (suc (length r.answers)) Q (omega (arith, full, one_more r.answers z)))

    -- 10: an oracle that fits has counts
    ten : N i r.rows ws ≡ none → Closed s (zs ++ (z ∷ [])) ps
    ten e =
        closed_going λ t.
        right.missing i r.rows ws (rows_of (3 ^ suc i) (counts (restrict (suc i) t.0))) F.rows few full e
        (oracle_next i g.before ws g.asked r.rows F full s t.0 g.in_range t.1.below (rw (whole, all-answers) at t.2))

    -- rows that give every answer so far are an oracle that fits, of i + 1 polynomials
    cause_10 : N i r.rows ws ≡ none → Cause s 10 (zs ++ (z ∷ [])) ps
    cause_10 e =
        by_counts refl (
          i,
          g.in_range,
          record {
            before = g.before;
            now = ws;
            asked = g.asked;
            rows = r.rows;
            after = g.determined;
            answers = all-answers;
            products = whole;
            all = full;
          },
          λ R c.
              right.missing i r.rows ws (rows_of (3 ^ suc i) (counts (restrict (suc i) (repeated R)))) F.rows few full e
              (oracle_next i g.before ws g.asked r.rows F full (suc i) (repeated R) (omega arith)
              (points-below (3 ^ suc i) R c.rows.below) (rw (whole, all-answers) at c.give)),
        )
        (λ o. in_limits l (later_from r.n (g.later_answers ++ ws) (zs ++ (z ∷ [])) starts o))

    next : (R : List Row) → N i r.rows ws ≡ some R → Determined (suc i) (zs ++ (z ∷ [])) ps R
    next R e =
        rw (whole, all-answers)
        (next_determined i g.before ws g.asked r.rows F full R g.determined
        (right.found i r.rows ws R F.rows few full e))

    still_rows : (R : List Row) → N i r.rows ws ≡ some R → 0 < length R
    still_rows R e =
        let a : Answered i (Determined i) (g.before ++ ws) (g.asked ++ Q) =
        record {
          before = g.before;
          now = ws;
          asked = g.asked;
          rows = r.rows;
          after = g.determined;
          answers = refl;
          products = refl;
          all = full;
        } in
        let c = next_counts i g.before ws g.asked r.rows F full R (right.found i r.rows ws R F.rows few full e) in
        omega (arith, more_rows i (g.before ++ ws) (g.asked ++ Q) R a c F, round-length i r.rows F.rows, g.unfinished)

    end_after : (o : Option (List Row)) → N i r.rows ws ≡ o → After s zs ps z (end_round N r i o)
    end_after none e = close-after N s r zs ps z polys count (suc i) g.in_range short 10 at_round (inr (inr refl)) (cause_10 e) (ten e)
    end_after (some R) e = go (eqb (suc i) r.polynomials) refl
      where
        go : (b : Bool) → eqb (suc i) r.polynomials ≡ b → After s zs ps z (ended N r (suc i) r.n R b)
        go true t =
            let same : suc i ≡ s = eqb-true (suc i) r.polynomials t ∙ polys in
            done-after N s r zs ps z polys count (suc i) g.in_range short r.n R
            (subst (λ (x : ℕ). Determined x (zs ++ (z ∷ [])) ps R) same (next R e))
        go false t =
            begin_after N s r zs ps z polys count (suc i) g.in_range short r.n R (g.later_answers ++ ws) (next R e)
            (omega (arith, g.in_range, polys, differ)) (still_rows R e) starts (in_limits l)
          where
            differ : suc i ≢ r.polynomials
            differ = eqb-false (suc i) r.polynomials t

  later_after : After s zs ps z (later_answer N r i z)
  later_after =
      cond-after s zs ps z _ _ (leb (nat_abs z) (limit_of r))
      (λ t. go (leb-true (nat_abs z) (limit_of r) t) (ltb (length ws) (2 * length r.products)) refl)
      (λ t. close-after N s r zs ps z polys count (suc i) g.in_range short 9 at_round (inr (inl refl))
      (cause_9 (leb-false (nat_abs z) (limit_of r) t)) (nine (leb-false (nat_abs z) (limit_of r) t)))
    where
      go : nat_abs z ≤ limit_of r → (b : Bool) → ltb (length ws) (2 * length r.products) ≡ b → After s zs ps z (round_step N r i ws b)
      go l true t = on-after (omega (arith, ltb-true (length ws) (2 * length r.products) t, twice)) l
      go l false t =
          end_after (omega (arith, ltb-false (length ws) (2 * length r.products) t, twice, g.unfinished, one_more r.answers z)) l
          (N i r.rows ws) refl

-- ---- any answer

pub answer-running : (N : ℕ → List Row → List ℤ → Option (List Row)) → RightRows N → (s : ℕ) (r : State) (zs : List ℤ) (ps : List ℕ) (z : ℤ)
    → 1 ≤ s → Inv s r zs ps → r.phase ≡ running → After s zs ps z (answer_of N r z)
unfolding answer_of
answer-running N right s r zs ps z h inv e =
    subst (λ (f : Phase). After s zs ps z (in_phase N r f z)) (sym e)
    (go r.round refl (subst (λ (f : Phase). At s r zs ps f r.round) e inv.at))
  where
    go : (k : ℕ) → r.round ≡ k → At s r zs ps running k → After s zs ps z (in_round N r k z)
    go zero k (a, b, c) = rw (a, b, c) (first-after N s z h)
    go (suc i) k g = later_after N right s r zs ps z inv.polys inv.count i k g
