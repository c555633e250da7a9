-- The first bad product of a list, what a call answers by its causes, what the stores leave, and that a card opened once or not answers the
-- same.
use mathlib.Core.Path.{◌≡◌, refl, sym, ap, ◌∙◌, fun_ext}
use mathlib.Core.Logic.{◌⊎◌, inl, inr, ⊎_elim}
use mathlib.Core.List.{List, [], ◌∷◌, map}
use Prim.Native.Nat.{ℕ, zero, suc, ◌^◌, ◌<◌, ◌≤◌}
use native.Mathlib.Omega.{arith}
use native.Mathlib.Nat.{one-le-pow}
use borrow.Author.Tests.{lt-ltb, le-ltb, lt-leb, le-leb}
use lib.IntN.{ℤ, pos}
use lib.ListN.{length, get_or, take, drop, set, length-map, length-append, length-drop}
use lib.Seq.{drop_at}
use Rattle.integers.proofs.Tests.{eq_cases}
use Rattle.signs.specs.Lists.{Below}
use Rattle.sign_counts.specs.Counts.{panel_number}
use Rattle.contents.proofs.Counts.{counts-panel}
use Rattle.layout.specs.Format.{polynomials}
use Rattle.plane.specs.Contents.{contents_of}
use Rattle.layout.proofs.Twos.{below_or}
use Rattle.card.specs.Card.{refusal}
use Rattle.card.proofs.Sound.{sound}
use Rattle.query.specs.Opened.{opened_sound, opened, summed, own_refusal}
use Rattle.query.specs.declared.Opened.{Opened}
use Rattle.query.proofs.Answers.{query-sound, query-refused}
use Rattle.query.proofs.Counting.{counts-summed}
use Rattle.query.proofs.Own.{own_none, own-refused}
use Rattle.refusals.specs.Refusals.{by_number}
use Rattle.refusals.specs.declared.Refusal.TheVariants.{TooShort, WrongProduct}
use Rattle.query.proofs.Opening.{refusal_number, opened-sound, counts_are, answer-opened}
use Rattle.query_list.specs.Listing.{written, refused, refused_at, first_bad, numbers_put, listing, card_listing, opened_listing}
use Rattle.query_list.specs.Claim.{FirstPast}

-- ---- the first bad product

module _ (b : ℕ) where
  first_here : (a : ℕ) (l : List ℕ) → b ≤ a → FirstPast b (a ∷ l) 0
  first_here a l h = record { stands = omega arith; past = h; first = λ k g. absurd (omega arith) }

  first_later : (a : ℕ) (l : List ℕ) (p : ℕ) → a < b → FirstPast b l p → FirstPast b (a ∷ l) (suc p)
  first_later a l p h f = record { stands = omega (arith, f.stands); past = f.past; first = before }
    where
      before : (k : ℕ) → k < suc p → get_or (a ∷ l) k 0 < b
      before zero g = h
      before (suc k) g = f.first k (omega arith)

  -- it is found, or there is none
  pub bad_cases : (l : List ℕ) → FirstPast b l (first_bad b l) ⊎ ((first_bad b l ≡ length l) × Below b l)
  unfolding first_bad Below
  bad_cases [] = inr (refl, tt)
  bad_cases (a ∷ l) = ⊎_elim
      (λ h. rw (lt-leb b a h) (⊎_elim (λ f. inl (first_later a l (first_bad b l) h f)) (λ n. inr (ap suc n.0, (h, n.1))) (bad_cases l)))
      (λ h. rw (le-leb b a h) (inl (first_here a l h))) (below_or a b)

  pub none_bad : (l : List ℕ) → length l ≤ first_bad b l → Below b l
  none_bad l h = ⊎_elim (λ f. absurd (omega (arith, f.stands))) (λ n. n.1) (bad_cases l)

-- ---- the answers

module _ (m s : ℕ) (number : ℕ → ℤ) (l : List ℕ) (out : List ℤ) where
  pub refused-card : (m ≡ 0 → ⊥) → listing m s number l out ≡ (refused (by_number m), out)
  unfolding listing
  refused-card h = go m refl
    where
      go : (k : ℕ) → m ≡ k → listing m s number l out ≡ (refused (by_number m), out)
      go zero e = absurd (h e)
      go (suc k) e = unfold listing in rw e refl

  pub refused-short : m ≡ 0 → length out < length l → listing m s number l out ≡ (refused TooShort, out)
  unfolding listing
  refused-short e h = rw (e, lt-ltb (length out) (length l) h) refl

  pub refused_bad : m ≡ 0 → length l ≤ length out → first_bad (3 ^ s) l < length l
      → listing m s number l out ≡ (refused_at WrongProduct (first_bad (3 ^ s) l), out)
  unfolding listing
  refused_bad e h q = rw (e, le-ltb (length out) (length l) h, lt-ltb (first_bad (3 ^ s) l) (length l) q) refl

  pub all-written : m ≡ 0 → length l ≤ length out → length l ≤ first_bad (3 ^ s) l
      → listing m s number l out ≡ (written, numbers_put number l out)
  unfolding listing
  all-written e h q = rw (e, le-ltb (length out) (length l) h, le-ltb (first_bad (3 ^ s) l) (length l) q) refl

-- ---- what the stores leave

module _ (number : ℕ → ℤ) where
  pub put-long : (l : List ℕ) (out : List ℤ) → length l ≤ length out → length (numbers_put number l out) ≡ length out
  put-long l out h =
      rw (length-append (map number l) (drop (length l) out), length-map l number, length-drop (length l) out) (omega arith)

  pub put_next : (k : ℕ) (l : List ℕ) (out : List ℤ) → k < length l → length l ≤ length out
      → set (numbers_put number (take k l) out) k (number (get_or l k 0)) ≡ numbers_put number (take (suc k) l) out
  put_next k [] out h g = absurd (omega arith)
  put_next k (a ∷ l) [] h g = absurd (omega arith)
  put_next zero (a ∷ l) (z ∷ out) h g = refl
  put_next (suc k) (a ∷ l) (z ∷ out) h g = ap (λ (r : List ℤ). number a ∷ r) (put_next k l out (omega arith) (omega arith))

  pub put-at : (l : List ℕ) (out : List ℤ) (k : ℕ) → length l ≤ length out → k < length l
      → get_or (numbers_put number l out) k (pos 0) ≡ number (get_or l k 0)
  put-at [] out k g h = absurd (omega arith)
  put-at (a ∷ l) [] k g h = absurd (omega arith)
  put-at (a ∷ l) (z ∷ out) zero g h = refl
  put-at (a ∷ l) (z ∷ out) (suc k) g h = put-at l out k (omega arith) (omega arith)

  pub put_rest : (l : List ℕ) (out : List ℤ) → drop (length l) (numbers_put number l out) ≡ drop (length l) out
  put_rest l out = drop_at (map number l) (drop (length l) out) (length l) (length-map l number)

-- ---- the law: opened once or not, the list is the same

module _ (c l : List ℕ) (out : List ℤ) where
  pub listing-opened : opened_listing (opened c) l out ≡ card_listing c l out
  listing-opened = ⊎_elim (λ w. on-sound w.0) (λ w. on-refused w.0) (eq_cases (refusal c) 0)
    where
      on-refused : (refusal c ≡ 0 → ⊥) → opened_listing (opened c) l out ≡ card_listing c l out
      on-refused h =
          let e = (own-refused (opened c) (by_number (refusal c)) (answer-opened c 0 ∙ query-refused c 0 h)).0 ∙ refusal_number c h in
          refused-card (own_refusal (opened c)) _ _ l out (λ z. h (sym e ∙ z)) ∙ ap (λ (k : ℕ). (refused (by_number k), out)) e
          ∙ sym (refused-card (refusal c) _ _ l out h)

      on-sound : refusal c ≡ 0 → opened_listing (opened c) l out ≡ card_listing c l out
      on-sound z =
          let K = contents_of c in
          let S = sound c z in
          let e = own_none (opened c) _ (answer-opened c 0 ∙ query-sound c 0 S (one-le-pow _ 3 (omega arith))) in
          let o = opened-sound c z in
          ap (λ (k : ℕ). listing k (opened c).s (summed (opened c)) l out) (e ∙ sym z)
          ∙ ap (λ (k : Opened). listing (refusal c) k.s (summed k) l out) o
          ∙ ap (λ (f : ℕ → ℤ). listing (refusal c) (polynomials c) f l out)
          (fun_ext (λ α. sym (counts-summed (opened_sound K) α) ∙ ap panel_number (counts_are K S.s_most α) ∙ counts-panel K α))
