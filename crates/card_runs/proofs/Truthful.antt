-- A run by the rules that is answered throughout by the queries of a list E of patterns, as far as it has come: what its record stands for,
-- and that it will end. From that end: the product asked is one of the s polynomials, and the answers are few.
--
--   Waits zs qs r α  == the record r has got the answers zs to the products qs, all queries of E, and has asked α
--   Ended zs ps r    == the record r is done with the answers zs to the products ps, all queries of E
--   Stands zs ps r x == the one or the other, by the last step x, which is no refusal
--   Ahead qs α       == the products of such a run that is done begin with qs, then α
use mathlib.Core.Path.{◌≡◌, refl, sym, ap, ◌∙◌, subst}
use mathlib.Core.List.{List, [], ◌∷◌, ◌++◌, append_assoc, append-nil}
use Prim.Native.Nat.{ℕ, zero, suc, ◌+◌, ◌*◌, ◌^◌, ◌<◌, ◌≤◌}
use native.Mathlib.Omega.{arith}
use lib.IntN.{ℤ}
use lib.ListN.{length, length-append}
use Rattle.refusals.specs.Limits.{most_polynomials, most_points}
use Rattle.signs.specs.Lists.{times}
use Rattle.signs.specs.Signs.{query}
use Rattle.signs.proofs.Lists.{times-same, times-append}
use Rattle.rounds.specs.Rows.{Row, Oracle, realized, Fits}
use Rattle.rounds.specs.Rounds.{Determined}
use Rattle.rounds.specs.RoundEnd.{round_rows}
use Rattle.rounds.proofs.Answers.{Facts, facts}
use Rattle.rounds.proofs.Questions.{exact-sum, at-most-593}
use Rattle.rounds.proofs.Restrict.{fits-append}
use Rattle.rounds.proofs.RoundEnds.{round_rows_right}
use Rattle.rounds.proofs.Rounds.{realized-rows}
use Rattle.runs.specs.Run.{State, Step, ask, done, refused, Phase, running, finished, start_of, answer_of}
use Rattle.runs.specs.Demand.{heard, asks}
use Rattle.runs.proofs.Invariant.{Closed, At, Inv, start_inv, After, answer-running}

module _ (s : ℕ) (E : List ℕ) (least : 1 ≤ s) (O : Oracle s E) where
  pub record Waits (zs : List ℤ) (qs : List ℕ) (r : State) (α : ℕ) : Type 0 where
    pub inv : Inv s r zs (qs ++ (α ∷ []))
    pub phase : r.phase ≡ running
    pub as_many : length qs ≡ length zs
    pub fits : Fits s E qs zs

  pub record Ended (zs : List ℤ) (ps : List ℕ) (r : State) : Type 0 where
    pub inv : Inv s r zs ps
    pub phase : r.phase ≡ finished
    pub fits : Fits s E ps zs

  abbrev pub Stands : List ℤ → List ℕ → State → Step → Type 0
  Stands zs ps r (ask α) = Waits zs ps r α
  Stands zs ps r done = Ended zs ps r
  Stands zs ps r (refused m) = ⊥

  pub stands-first : Stands [] [] (start_of s) (ask 0)
  stands-first = record { inv = start_inv s; phase = refl; as_many = refl; fits = unfold Fits in tt }

  -- one truthful answer more
  pub stands_next : (zs : List ℤ) (qs : List ℕ) (r : State) (α : ℕ) → Waits zs qs r α
      → let y = answer_of round_rows r (query s E α) in Stands (zs ++ (query s E α ∷ [])) (qs ++ (α ∷ [])) y.0 y.1
  unfolding asks heard
  stands_next zs qs r α w = next (answer_of round_rows r z).0 (answer_of round_rows r z).1 A.inv A.phase
    where
      z : ℤ
      z = query s E α

      ps : List ℕ
      ps = qs ++ (α ∷ [])

      A : After s zs ps z (answer_of round_rows r z)
      A = answer-running round_rows round_rows_right s r zs ps z least w.inv w.phase

      fit : Fits s E ps (zs ++ (z ∷ []))
      fit = fits-append s E qs (α ∷ []) zs (z ∷ []) w.as_many w.fits (unfold Fits in (refl, tt))

      last : (r' : State) → Inv s r' (zs ++ (z ∷ [])) (ps ++ []) → Inv s r' (zs ++ (z ∷ [])) ps
      last r' I = subst (Inv s r' (zs ++ (z ∷ []))) (append-nil ps) I

      next : (r' : State) (x : Step) → Inv s r' (zs ++ (z ∷ [])) (ps ++ asks x) → heard running x ≡ r'.phase
          → Stands (zs ++ (z ∷ [])) ps r' x
      next r' (ask β) I e =
          record {
            inv = I;
            phase = sym e;
            as_many = omega (arith, w.as_many, length-append qs (α ∷ []), length-append zs (z ∷ []));
            fits = fit;
          }
      next r' done I e = record { inv = last r' I; phase = sym e; fits = fit }
      next r' (refused m) I e =
          let C : Closed s (zs ++ (z ∷ [])) ps = subst (λ (p : Phase). At s r' (zs ++ (z ∷ [])) ps p r'.round) (sym e) (last r' I).at in
          C.none_fits (E, O, fit)

  -- ---- a run that is done

  pub determined : (zs : List ℤ) (ps : List ℕ) (r : State) → Ended zs ps r → Determined s zs ps r.rows
  determined zs ps r e = subst (λ (p : Phase). At s r zs ps p r.round) e.phase e.inv.at

  found : (zs : List ℤ) (ps : List ℕ) (R : List Row) → Determined s zs ps R → Fits s E ps zs → R ≡ realized s E
  found zs ps R d f =
      let F : Facts s zs ps R = facts s zs ps R d in
      sym (realized-rows s E R F.rows (F.only E O.below f))

  few_by_rows : (zs : List ℤ) (ps : List ℕ) (R : List Row) → Determined s zs ps R → Fits s E ps zs
      → length ps ≤ 2 * length (realized s E) * s + 1
  few_by_rows zs ps R d f = subst (λ (L : List Row). length ps ≤ 2 * length L * s + 1) (found zs ps R d f) (facts s zs ps R d).few

  most-asked : (zs : List ℤ) (ps : List ℕ) (R : List Row) → Determined s zs ps R → s ≤ most_polynomials → length ps ≤ 593
  most-asked zs ps R d m = let (c, each, sum) = exact-sum s zs ps R d in at-most-593 s (length ps) zs c m each sum

  module _ (zs : List ℤ) (ps : List ℕ) (r : State) (e : Ended zs ps r) where
    pub ended-rows : r.rows ≡ realized s E
    ended-rows = found zs ps r.rows (determined zs ps r e) e.fits

    pub ended-few : length zs ≤ 2 * length (realized s E) * s + 1
    ended-few =
        let d = determined zs ps r e in
        omega (arith, few_by_rows zs ps r.rows d e.fits, (facts s zs ps r.rows d).lengths)

    pub ended-most : s ≤ most_polynomials → length zs ≤ 593
    ended-most m =
        let d = determined zs ps r e in
        omega (arith, most-asked zs ps r.rows d m, (facts s zs ps r.rows d).lengths)

  -- ---- a run that waits for an answer

  pub record Ahead (qs : List ℕ) (α : ℕ) : Type 0 where
    pub zs : List ℤ
    pub ps : List ℕ
    pub end : List Row
    pub ends : Determined s zs ps end
    pub fits : Fits s E ps zs
    pub rest : List ℕ
    pub all : ps ≡ qs ++ (α ∷ rest)

  -- from any record that waits, m more answers being more than a run takes
  abbrev Goes : ℕ → Type 0
  Goes m = (zs : List ℤ) (qs : List ℕ) (r : State) (α : ℕ) → Waits zs qs r α → 1 + 2 * most_points * s < length zs + m → Ahead qs α

  one_answer : (m : ℕ) → Goes m → Goes (suc m)
  one_answer m more zs qs r α w h = go (answer_of round_rows r z).0 (answer_of round_rows r z).1 (stands_next zs qs r α w)
    where
      z : ℤ
      z = query s E α

      go : (r' : State) (x : Step) → Stands (zs ++ (z ∷ [])) (qs ++ (α ∷ [])) r' x → Ahead qs α
      go r' (ask β) w' =
          let A : Ahead (qs ++ (α ∷ [])) β =
          more (zs ++ (z ∷ [])) (qs ++ (α ∷ [])) r' β w' (omega (arith, h, length-append zs (z ∷ []))) in
          record {
            zs = A.zs;
            ps = A.ps;
            end = A.end;
            ends = A.ends;
            fits = A.fits;
            rest = β ∷ A.rest;
            all = A.all ∙ append_assoc qs (α ∷ []) (β ∷ A.rest);
          }
      go r' done e =
          record {
            zs = zs ++ (z ∷ []);
            ps = qs ++ (α ∷ []);
            end = r'.rows;
            ends = determined (zs ++ (z ∷ [])) (qs ++ (α ∷ [])) r' e;
            fits = e.fits;
            rest = [];
            all = refl;
          }
      go r' (refused n) e = absurd e

  ahead : (m : ℕ) → Goes m
  ahead zero = λ zs qs r α w h. absurd (omega (arith, w.inv.few, w.inv.in_range))
  ahead (suc m) = one_answer m (ahead m)

  module _ (zs : List ℤ) (qs : List ℕ) (r : State) (α : ℕ) (w : Waits zs qs r α) where
    A : Ahead qs α
    A = ahead (2 + 2 * most_points * s) zs qs r α w (omega arith)

    pub waits_ahead : Ahead qs α
    waits_ahead = A

    longer : length zs < length A.ps
    longer = omega (arith, w.as_many, ap length A.all, length-append qs (α ∷ A.rest))

    -- the product is one of the s polynomials
    pub waits_below : α < 3 ^ s
    waits_below =
        (facts s A.zs A.ps A.end A.ends).under α
        (omega (arith, ap (times α) A.all, times-append α qs (α ∷ A.rest), times-same α A.rest))

    pub waits_few : length zs < 2 * length (realized s E) * s + 1
    waits_few =
        omega (arith, longer, few_by_rows A.zs A.ps A.end A.ends A.fits)

    pub waits_most : s ≤ most_polynomials → length zs < 593
    waits_most m = omega (arith, longer, most-asked A.zs A.ps A.end A.ends m)
