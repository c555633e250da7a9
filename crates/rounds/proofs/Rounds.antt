-- How rounds follow one another: rows are fixed by the answers, a round's counts make the next rows, and an oracle that fits has such
-- counts.
use mathlib.Core.Path.{◌≡◌, refl, sym, ap, ap₂, ◌∙◌, subst}
use mathlib.Core.List.{List, [], ◌∷◌, ◌++◌, append_assoc, append-nil, head-eq_of_cons-eq, tail-eq_of_cons-eq}
use Prim.Native.Nat.{ℕ, zero, suc, ◌+◌, ◌*◌, ◌-◌, ◌^◌, ◌%◌, ◌<◌, ◌≤◌}
use native.Mathlib.Omega.{arith}
use native.Mathlib.Decide.{ℕ_discrete, dec_lt}
use lib.IntN.{ℤ, pos, negsuc, nat_abs}
use lib.ListN.{length, take, drop, length-append, length-take, take-append-drop}
use lib.Seq.{take-append-le}
use Rattle.refusals.specs.Limits.{most_points}
use Rattle.integers.proofs.Diff.{Diff, diff_add}
use Rattle.signs.specs.Adapted.{adapted}
use Rattle.signs.specs.Lists.{times, Below, Rising, shift}
use Rattle.signs.specs.Signs.{sign, query}
use Rattle.signs.proofs.Digits.{digits, low}
use Rattle.signs.proofs.Lists.{times-nil, times-append}
use Rattle.signs.proofs.Queries.{counts}
use Rattle.signs.proofs.Size.{Under, below_under, as_many}
use Rattle.signs.proofs.Tallies.{Agree}
use Rattle.signs.proofs.Weights.{IsSign, sign-0, sign-+, sign-−, sign-sign}
use Rattle.rounds.specs.NextRows.{NextRows}
use Rattle.rounds.specs.Rounds.{round_of, Counts, Answered, Determined, Past, AtEnd}
use Rattle.rounds.specs.Rows.{Row, patterns, repeated, Positive, IsRows, row_if, rows_of, Oracle, realized, Fits}
use Rattle.rounds.proofs.Answers.{Facts, facts, query-zero, round-low}
use Rattle.rounds.specs.Rows.{restrict}
use Rattle.rounds.proofs.Restrict.{three_mono, restrict-below, restrict-same, restrict-count, query-low, query-drop, query_ext}
use Rattle.rounds.proofs.Restrict.{fits_move, fits-append, fits-left, fits_right}
use Rattle.rounds.proofs.RowLaws.{zero-unless, rows_ext, rows_of-rows, rows_of_in, points_in, patterns_in, points-below}

-- ---- lists

pub append-same {ℓ} : {A : Type ℓ} (l m u v : List A) → length l ≡ length m → l ++ u ≡ m ++ v → (l ≡ m) × (u ≡ v)
append-same [] [] u v h e = (refl, e)
append-same [] (y ∷ m) u v h e = absurd (omega arith)
append-same (x ∷ l) [] u v h e = absurd (omega arith)
append-same (x ∷ l) (y ∷ m) u v h e =
    let (f, g) = append-same l m u v (omega arith) (tail-eq_of_cons-eq e) in
    (ap₂ ◌∷◌ (head-eq_of_cons-eq e) f, g)

-- ---- counts below 3^i decide the rows

out-zero : (n : ℕ) (E : List ℕ) → Below n E → (q : ℕ) → n ≤ q → times q E ≡ 0
out-zero n E b q h = zero-unless (times q E) (λ k. let l : q < n = below_under n E b q k in omega arith)

agree_all : (n : ℕ) (E E' : List ℕ) → Below n E → Below n E' → ((q : ℕ) → q < n → times q E ≡ times q E') → (q : ℕ) → times q E ≡ times q E'
agree_all n E E' b b' e q = go (dec_lt q n)
  where
    go : Dec (q < n) → times q E ≡ times q E'
    go (yes h) = e q h
    go (no h) = omega (arith, out-zero n E b q (omega arith), out-zero n E' b' q (omega arith))

pub rows_same : (i : ℕ) (R R' : List Row) → IsRows i R → IsRows i R' → Agree i (counts (repeated R)) (counts (repeated R')) → R ≡ R'
rows_same i R R' r r' e =
    rows_ext R R' r.rising r.positive r'.rising r'.positive
    (agree_all (3 ^ i) (repeated R) (repeated R') (points-below (3 ^ i) R r.below) (points-below (3 ^ i) R' r'.below) e)

-- the realized list is the rows with the counts
pub realized-rows : (i : ℕ) (E : List ℕ) (R : List Row) → IsRows i R → Agree i (counts E) (counts (repeated R)) → realized i E ≡ R
unfolding realized
realized-rows i E R r e =
    rows_same i (rows_of (3 ^ i) (λ q. times q E)) R (rows_of-rows i (λ q. times q E)) r
    (λ q h. rows_of_in (3 ^ i) (λ q. times q E) q h ∙ e q h)

-- ---- rows are fixed by the answers

pub at_end : (i : ℕ) (zs : List ℤ) (ps : List ℕ) (R : List Row) → Determined i zs ps R → AtEnd i zs ps
unfolding Determined AtEnd
at_end zero zs ps R (n, h, e, f, g) = ((pos n, e), f)
at_end (suc i) zs ps R (a, c) = a

-- what `determined_unique` says of i
abbrev Fixed : ℕ → Type 0
Fixed i =
    (zs zs' us us' : List ℤ) (ps ps' : List ℕ) (R R' : List Row) → Determined i zs ps R → Determined i zs' ps' R'
    → zs ++ us ≡ zs' ++ us' → (zs ≡ zs') × (ps ≡ ps') × (R ≡ R')

answered_fixed : (i : ℕ) (zs zs' us us' : List ℤ) (ps ps' : List ℕ) (a : Answered i (Determined i) zs ps)
    (a' : Answered i (Determined i) zs' ps')
    → Fixed i → zs ++ us ≡ zs' ++ us' → (zs ≡ zs') × (ps ≡ ps') × (a.rows ≡ a'.rows)
answered_fixed i zs zs' us us' ps ps' a a' fixed j =
    next (fixed a.before a'.before (a.now ++ us) (a'.now ++ us') a.asked a'.asked a.rows a'.rows a.after a'.after
    (sym (append_assoc a.before a.now us) ∙ ap (λ (l : List ℤ). l ++ us) (sym a.answers) ∙ j
    ∙ ap (λ (l : List ℤ). l ++ us') a'.answers ∙ append_assoc a'.before a'.now us'))
  where
    next : (a.before ≡ a'.before) × (a.asked ≡ a'.asked) × (a.rows ≡ a'.rows) → (zs ≡ zs') × (ps ≡ ps') × (a.rows ≡ a'.rows)
    next (b, p, r) = (
      (append-same zs zs' us us'
          (omega (
            arith,
            ap length a.answers,
            ap length a'.answers,
            length-append a.before a.now,
            length-append a'.before a'.now,
            ap length b,
            a.all,
            a'.all,
            ap (λ (X : List Row). length (round_of i (patterns X))) r,
          )) j).0,
      a.products ∙ ap₂ (λ (x : List ℕ) (X : List Row). x ++ round_of i (patterns X)) p r ∙ sym a'.products,
      r,
    )

pub determined_unique : (i : ℕ) → Fixed i
unfolding Determined
determined_unique zero zs zs' us us' ps ps' R R' (n, h, e, f, g) (n', h', e', f', g') j =
    let k : pos n ∷ us ≡ pos n' ∷ us' = ap (λ (l : List ℤ). l ++ us) (sym e) ∙ j ∙ ap (λ (l : List ℤ). l ++ us') e' in
    let m : n ≡ n' = cc in
    (e ∙ ap (λ (x : ℕ). pos x ∷ []) m ∙ sym e', f ∙ sym f', g ∙ ap (row_if 0) m ∙ sym g')
determined_unique (suc i) zs zs' us us' ps ps' R R' (a, c) (a', c') j =
    let (z, p, r) = answered_fixed i zs zs' us us' ps ps' a a' (determined_unique i) j in
    let F : Facts (suc i) zs ps R = facts (suc i) zs ps R (a, c) in
    let f : Fits (suc i) (repeated R') ps zs = rw (z, p) c'.give in
    (z, p, sym (rows_same (suc i) R' R c'.rows c.rows (F.only (repeated R') (points-below (3 ^ suc i) R' c'.rows.below) f)))

-- a round ends at one place
pub end_unique : (i : ℕ) (zs zs' us us' : List ℤ) (ps ps' : List ℕ) → AtEnd i zs ps → AtEnd i zs' ps' → zs ++ us ≡ zs' ++ us'
    → length zs ≡ length zs'
unfolding AtEnd
end_unique zero zs zs' us us' ps ps' ((z, e), f) ((z', e'), f') j = ap length e ∙ sym (ap length e')
end_unique (suc i) zs zs' us us' ps ps' a a' j = ap length (answered_fixed i zs zs' us us' ps ps' a a' (determined_unique i) j).0

-- an end of round i has in it the rows of each earlier round j, with all of round j + 1 answered
abbrev pub Inside : ℕ → List ℤ → Type 0
Inside j zs = (b : Past j zs) × (length (round_of j (patterns b.rows)) ≤ length b.now)

-- later answers change nothing that is past
abbrev pub past_more : (j : ℕ) (zs us : List ℤ) → Past j zs → Past j (zs ++ us)
past_more j zs us b =
    record {
      before = b.before;
      now = b.now ++ us;
      asked = b.asked;
      rows = b.rows;
      determined = b.determined;
      answers = ap (λ (l : List ℤ). l ++ us) b.answers ∙ append_assoc b.before b.now us;
    }

abbrev pub answered-past : (i : ℕ) (zs : List ℤ) (ps : List ℕ) → Answered i (Determined i) zs ps → Past i zs
answered-past i zs ps a =
    record { before = a.before; now = a.now; asked = a.asked; rows = a.rows; determined = a.after; answers = a.answers }

pub inside : (i j : ℕ) (zs : List ℤ) (ps : List ℕ) → j < i → AtEnd i zs ps → Inside j zs
unfolding AtEnd
inside zero j zs ps h a = absurd (omega arith)
inside (suc i) j zs ps h a =
    go (ℕ_discrete j i) (λ k. inside i j a.before a.asked k (at_end i a.before a.asked a.rows a.after))
  where
    go : Dec (j ≡ i) → (j < i → Inside j a.before) → Inside j zs
    go (yes e) ih = subst (λ (x : ℕ). Inside x zs) (sym e) (answered-past i zs ps a, omega (arith, a.all))
    go (no e) ih =
        let (b, n) = ih (omega arith) in
        subst (Inside j) (sym a.answers) (past_more j a.before a.now b, omega (arith, n, length-append b.now a.now))

-- while a round's answers are not all there, no later round has ended
pub not_ended : (i j : ℕ) (zs us before now : List ℤ) (qs asked : List ℕ) (R : List Row) → j < i → AtEnd i zs qs
    → Determined j before asked R
    → zs ++ us ≡ before ++ now → length now < length (round_of j (patterns R)) → ⊥
not_ended i j zs us before now qs asked R h e c k m =
    let (b, n) = inside i j zs qs h e in
    let j₁ : b.before ++ (b.now ++ us) ≡ before ++ now = sym (append_assoc b.before b.now us)
    ∙ ap (λ (l : List ℤ). l ++ us) (sym b.answers) ∙ k in
    let (z, p, r) = determined_unique j b.before before (b.now ++ us) now b.asked asked b.rows R b.determined c j₁ in
    let t : b.now ++ us ≡ now = (append-same b.before before (b.now ++ us) now (ap length z) j₁).1 in
    omega (arith, ap length t, length-append b.now us, n, ap (λ (X : List Row). length (round_of j (patterns X))) r)

-- ---- an oracle for more polynomials

pub query_lift : (s i α : ℕ) (E : List ℕ) → i ≤ s → α < 3 ^ i → Below (3 ^ s) E → query s E α ≡ query i (restrict i E) α
query_lift s i α E h a b =
    let e : s ≡ (s - i) + i = omega arith in
    ap (λ (x : ℕ). query x E α) e ∙ query-low (s - i) i α E a (subst (λ (x : ℕ). Below (3 ^ x) E) e b)

-- what fits for s polynomials fits for the first i, the others taken off
pub fits-restrict : (s i : ℕ) (E ps : List ℕ) (zs : List ℤ) → i ≤ s → Under (3 ^ i) ps → Below (3 ^ s) E → Fits s E ps zs
    → Fits i (restrict i E) ps zs
fits-restrict s i E ps zs h u b f = fits_move s i E (restrict i E) ps zs f (λ α m. query_lift s i α E h (u α m) b)

below_up : (n m : ℕ) (E : List ℕ) → n ≤ m → Below n E → Below m E
unfolding Below
below_up n m [] h b = tt
below_up n m (x ∷ E) h b = (omega (arith, b.0), below_up n m E h b.1)

-- the points of rows, with sign 0 for later polynomials, fit for more polynomials too
pub fits-up : (s i : ℕ) (E ps : List ℕ) (zs : List ℤ) → i ≤ s → Under (3 ^ i) ps → Below (3 ^ i) E → Fits i E ps zs → Fits s E ps zs
fits-up s i E ps zs h u b f =
    fits_move i s E E ps zs f
    (λ α m. sym (query_lift s i α E h (u α m) (below_up (3 ^ i) (3 ^ s) E (three_mono i s h) b)
    ∙ ap (λ (l : List ℕ). query i l α) (restrict-same i E b)))

-- the first answer is the number of patterns held
pub fits-first : (s : ℕ) (E ps : List ℕ) (zs : List ℤ) (n : ℕ) (zs' : List ℤ) (ps' : List ℕ) → zs ≡ pos n ∷ zs' → ps ≡ 0 ∷ ps'
    → Fits s E ps zs → n ≡ length E
unfolding Fits
fits-first s E ps zs n zs' ps' e e' f = go (rw (e, e') at f)
  where
    go : Fits s E (0 ∷ ps') (pos n ∷ zs') → n ≡ length E
    go g = let h : pos n ≡ pos (length E) = g.0 ∙ query-zero s E in cc

-- the rows that the answers give are an oracle that fits
pub rows_oracle : (s i : ℕ) (zs : List ℤ) (ps : List ℕ) (R : List Row) → i ≤ s → Facts i zs ps R
    → Oracle s (repeated R) × Fits s (repeated R) ps zs
rows_oracle s i zs ps R h F = (
  record { held = held; below = below_up (3 ^ i) (3 ^ s) (repeated R) (three_mono i s h) b },
  fits-up s i (repeated R) ps zs h F.under b F.fits,
)
  where
    b : Below (3 ^ i) (repeated R)
    b = points-below (3 ^ i) R F.rows.below

    held : length (repeated R) ≤ most_points
    held =
        omega (
          arith,
          fits-first i (repeated R) ps zs F.n F.later_answers F.later_products F.first-answer F.first_product
              F.fits,
          F.small,
        )

-- ---- the end of a round

one-third : (i : ℕ) (E : List ℕ) (q r d : ℕ) → d < 3 → q ≡ r + d * 3 ^ i → 0 < times q E
    → 0 < times r E + times (r + 3 ^ i) E + times (r + 2 * 3 ^ i) E
one-third i E q r zero hd e h = let f : q ≡ r = omega arith in let h' : 0 < times r E = (rw f at h) in omega arith
one-third i E q r (suc zero) hd e h = let f : q ≡ r + 3 ^ i = omega arith in let h' : 0 < times (r + 3 ^ i) E = (rw f at h) in omega arith
one-third i E q r (suc (suc zero)) hd e h = let h' : 0 < times (r + 2 * 3 ^ i) E = (rw e at h) in omega arith
one-third i E q r (suc (suc (suc d))) hd e h = absurd (omega arith)

module _ (i : ℕ) (zs ws : List ℤ) (ps : List ℕ) (R₀ : List Row) (F : Facts i zs ps R₀)
    (all : length ws ≡ length (round_of i (patterns R₀))) where
  abbrev Q : List ℕ
  Q = round_of i (patterns R₀)

  -- counts that split those of the rows before give the answers before
  pub next_counts : (R : List Row) → NextRows i R₀ ws R → Counts i R₀ (ps ++ Q) (zs ++ ws) R
  next_counts R N =
      record { rows = N.rows; extend = extend; give = fits-append (suc i) (repeated R) ps Q zs ws F.lengths early N.give }
    where
      b : Below (3 ^ suc i) (repeated R)
      b = points-below (3 ^ suc i) R N.rows.below

      low-counts : Agree i (counts (restrict i (repeated R))) (counts (repeated R₀))
      low-counts q h = restrict-count i q (repeated R) h b ∙ N.sums q h

      early : Fits (suc i) (repeated R) ps zs
      early =
          fits_move i (suc i) (repeated R₀) (repeated R) ps zs F.fits
          (λ α m. sym (query-drop i α (repeated R) (F.under α m)
          ∙ query_ext i α (restrict i (repeated R)) (repeated R₀) (F.under α m) (restrict-below i (repeated R))
          (points-below (3 ^ i) R₀ F.rows.below) low-counts))

      extend : (q : ℕ) → 0 < times q (patterns R) → 0 < times (q % 3 ^ i) (patterns R₀)
      extend q h = go (digits i q (below_under (3 ^ suc i) (patterns R) N.rows.below q h)) (patterns_in q R N.rows.positive h)
        where
          go : (r d : ℕ) × (r < 3 ^ i) × (d < 3) × (q ≡ r + d * 3 ^ i) → 0 < times q (repeated R) → 0 < times (q % 3 ^ i) (patterns R₀)
          go (r, d, hr, hd, e) k =
              let m : q % 3 ^ i ≡ r = ap (λ (x : ℕ). x % 3 ^ i) e ∙ low i d hr in
              rw m (points_in r R₀ (omega (arith, N.sums r hr, one-third i (repeated R) q r d hd e k)))

  pub next_determined : (R : List Row) → Determined i zs ps R₀ → NextRows i R₀ ws R → Determined (suc i) (zs ++ ws) (ps ++ Q) R
  unfolding Determined
  next_determined R c N =
      (record { before = zs; now = ws; asked = ps; rows = R₀; after = c; answers = refl; products = refl; all = all }, next_counts R N)

  -- an oracle that fits has such counts
  pub oracle_next : (s : ℕ) (E : List ℕ) → suc i ≤ s → Below (3 ^ s) E → Fits s E (ps ++ Q) (zs ++ ws)
      → NextRows i R₀ ws (rows_of (3 ^ suc i) (counts (restrict (suc i) E)))
  oracle_next s E h b f =
      record {
        rows = rows_of-rows (suc i) (counts D);
        sums = λ q k.
            omega (
              arith,
              rows_of_in (3 ^ suc i) (counts D) q (omega arith),
              rows_of_in (3 ^ suc i) (counts D) (q + 3 ^ i) (omega arith),
              rows_of_in (3 ^ suc i) (counts D) (q + 2 * 3 ^ i) (omega arith),
              restrict-count i q D k b_d,
              F.only (restrict i D) (restrict-below i D) early q k,
            );
        give =
            fits_move (suc i) (suc i) D (repeated R) Q ws (fits_right (suc i) D ps Q zs ws F.lengths f_d)
            (λ α m. query_ext (suc i) α D (repeated R) (round-low i (patterns R₀) α m).1 b_d
            (points-below (3 ^ suc i) R (rows_of-rows (suc i) (counts D)).below)
            (λ q k. sym (rows_of_in (3 ^ suc i) (counts D) q k)));
      }
    where
      D : List ℕ
      D = restrict (suc i) E

      R : List Row
      R = rows_of (3 ^ suc i) (counts D)

      b_d : Below (3 ^ suc i) D
      b_d = restrict-below (suc i) E

      under : Under (3 ^ suc i) (ps ++ Q)
      under α m = go (dec_lt 0 (times α ps))
        where
          go : Dec (0 < times α ps) → α < 3 ^ suc i
          go (yes k) = omega (arith, F.under α k)
          go (no k) = (round-low i (patterns R₀) α (omega (arith, times-append α ps Q))).1

      f_d : Fits (suc i) D (ps ++ Q) (zs ++ ws)
      f_d = fits-restrict s (suc i) E (ps ++ Q) (zs ++ ws) h under b f

      early : Fits i (restrict i D) ps zs
      early =
          fits_move (suc i) i D (restrict i D) ps zs (fits-left (suc i) D ps Q zs ws F.lengths f_d)
          (λ α m. query-drop i α D (F.under α m))

-- ---- a query is at most the number of points

sign_diff : {z : ℤ} → IsSign z → (a b : ℕ) × Diff z a b × (a + b ≤ 1)
sign_diff sign-0 = (0, 0, record { by = refl }, omega arith)
sign_diff sign-+ = (1, 0, record { by = refl }, omega arith)
sign_diff sign-− = (0, 1, record { by = refl }, omega arith)

query_diff : (s α : ℕ) (E : List ℕ) → (a b : ℕ) × Diff (query s E α) a b × (a + b ≤ length E)
unfolding query
query_diff s α [] = (0, 0, record { by = refl }, omega arith)
query_diff s α (σ ∷ E) =
    let (a, b, d, h) = sign_diff (sign-sign s α σ) in
    let (a', b', d', h') = query_diff s α E in
    (a + a', b + b', diff_add (sign s α σ) (query s E α) d d', omega arith)

abs_diff : (z : ℤ) (a b n : ℕ) → Diff z a b → a + b ≤ n → nat_abs z ≤ n
abs_diff (pos k) a b n d h = omega arith
abs_diff (negsuc k) a b n d h = omega arith

pub query-small : (s α : ℕ) (E : List ℕ) → nat_abs (query s E α) ≤ length E
query-small s α E = let (a, b, d, h) = query_diff s α E in abs_diff (query s E α) a b (length E) d h

-- the last answer is a query
pub fits_last : (s : ℕ) (E ps : List ℕ) (zs : List ℤ) (z : ℤ) → Fits s E ps (zs ++ (z ∷ [])) → (α : ℕ) × (z ≡ query s E α)
unfolding Fits
fits_last s E [] [] z f = absurd f
fits_last s E (x ∷ ps) [] z f = (x, f.0)
fits_last s E [] (y ∷ zs) z f = absurd f
fits_last s E (x ∷ ps) (y ∷ zs) z f = fits_last s E ps zs z f.1

-- fewer answers, more products
pub fits-take : (s : ℕ) (E ps : List ℕ) (zs : List ℤ) (k : ℕ) → Fits s E ps zs → Fits s E ps (take k zs)
unfolding Fits
fits-take s E ps zs zero f = tt
fits-take s E ps [] (suc k) f = tt
fits-take s E [] (z ∷ zs) (suc k) f = absurd f
fits-take s E (x ∷ ps) (z ∷ zs) (suc k) f = (f.0, fits-take s E ps zs k f.1)

pub fits_more : (s : ℕ) (E ps qs : List ℕ) (zs : List ℤ) → Fits s E ps zs → Fits s E (ps ++ qs) zs
unfolding Fits
fits_more s E ps qs [] f = tt
fits_more s E [] qs (z ∷ zs) f = absurd f
fits_more s E (x ∷ ps) qs (z ∷ zs) f = (f.0, fits_more s E ps qs zs f.1)

-- ---- a run with no points

adapted-nil : (i : ℕ) → adapted i [] ≡ []
adapted-nil i = go (adapted i []) (as_many i [] (unfold Rising in tt) (unfold Below in tt))
  where
    go : (l : List ℕ) → length l ≡ 0 → l ≡ []
    go [] e = refl
    go (x ∷ l) e = absurd (omega arith)

round-nil : (i : ℕ) → round_of i [] ≡ []
unfolding round_of
round-nil i = rw (adapted-nil i) (unfold shift in refl)

pub determined_empty : (i : ℕ) → Determined i (pos 0 ∷ []) (0 ∷ []) []
unfolding Determined
determined_empty zero = (0, omega arith, refl, refl, unfold row_if in refl)
determined_empty (suc i) = (
  record {
    before = pos 0 ∷ [];
    now = [];
    asked = 0 ∷ [];
    rows = [];
    after = determined_empty i;
    answers = refl;
    products = sym (ap (λ (l : List ℕ). 0 ∷ l) (round_empty i));
    all = sym (ap length (round_empty i));
  },
  record {
    rows = record { rising = unfold patterns Rising in tt; below = unfold patterns Below in tt; positive = unfold Positive in tt };
    extend = λ q h. absurd (unfold patterns in omega (arith, times-nil q));
    give = unfold Fits repeated query in (refl, tt);
  },
)
  where
    round_empty : (j : ℕ) → round_of j (patterns []) ≡ []
    round_empty j = unfold patterns in round-nil j

-- ---- ends of rounds

-- no round has ended before the first answer
pub end_nonempty : (i : ℕ) (zs : List ℤ) (qs : List ℕ) → AtEnd i zs qs → 0 < length zs
unfolding AtEnd
end_nonempty zero zs qs ((z, e), f) = omega (arith, ap length e)
end_nonempty (suc i) zs qs a =
    omega (
      arith,
      ap length a.answers,
      length-append a.before a.now,
      ap length (facts i a.before a.asked a.rows a.after).first-answer,
    )

-- the rows after a round in which the end of a round lies fit the answers up to that end
pub fits_end : (s : ℕ) (zs : List ℤ) (ps : List ℕ) (i c j : ℕ) (before now : List ℤ) (qs asked : List ℕ) (R : List Row) → c ≤ s → i ≤ c
    → j ≤ length zs
    → Determined c before asked R → zs ≡ before ++ now → AtEnd i (take j zs) qs → (more : List ℕ) → ps ≡ asked ++ more
    → (E : List ℕ) × Oracle s E × Fits s E ps (take j zs)
fits_end s zs ps i c j before now qs asked R hc hi hj C e a more p =
    (repeated R, F.0, rw (p, same) (fits-take s (repeated R) (asked ++ more) before j (fits_more s (repeated R) asked more before F.1)))
  where
    F : Oracle s (repeated R) × Fits s (repeated R) asked before
    F = rows_oracle s c before asked R hc (facts c before asked R C)

    cut : take j zs ++ drop j zs ≡ before ++ now
    cut = take-append-drop j zs ∙ e

    -- where round i ended
    ends : (b rest : List ℤ) (qs' : List ℕ) → before ≡ b ++ rest → AtEnd i b qs' → length (take j zs) ≤ length before
    ends b rest qs' f a' =
        omega (
          arith,
          end_unique i (take j zs) b (drop j zs) (rest ++ now) qs qs' a a'
              (cut ∙ ap (λ (l : List ℤ). l ++ now) f ∙ append_assoc b rest now),
          ap length f,
          length-append b rest,
        )

    short : Dec (i ≡ c) → length (take j zs) ≤ length before
    short (yes f) =
        ends before [] asked (sym (append-nil before)) (subst (λ (x : ℕ). AtEnd x before asked) (sym f) (at_end c before asked R C))
    short (no f) =
        let (b, n) = inside c i before asked (omega arith) (at_end c before asked R C) in
        ends b.before b.now b.asked b.answers (at_end i b.before b.asked b.rows b.determined)

    same : take j zs ≡ take j before
    same = ap (take j) e ∙ take-append-le j before now (omega (arith, short (ℕ_discrete i c), length-take j zs))
