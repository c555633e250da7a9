-- The polynomials from place j on: how many coefficients they want, and what refuses them.
use Rattle.std.proofs.Common.{◌≡◌, sym, ◌∙◌, ap, List, ℕ, ◌+◌, ◌<◌, ◌≤◌, ℤ, Ok, Err, length, get_or, take, drop, add-one}
use lib.ListN.{drop_of_length-le}
use lib.Seq.{drop-cons}
use Rattle.refusals.specs.Refusals.{checked}
use Rattle.refusals.specs.declared.Refusal.{Refusal}
use Rattle.refusals.specs.Numbers.{◌▸◌}
use Rattle.refusals.proofs.Refusals.{passed_none, passed_on_first}
use Rattle.card_bytes.specs.Bytes.{wanted}
use Rattle.card_bytes.specs.Causes.{polynomial_cause, polynomials_cause}

-- ---- how many coefficients

pub wanted_here : (ds : List ℕ) (j : ℕ) → j < length ds → wanted (drop j ds) ≡ get_or ds j 0 + 1 + wanted (drop (j + 1) ds)
unfolding wanted
wanted_here ds j h = rw (add-one j, drop-cons ds j 0 h)

pub wanted-ended : (ds : List ℕ) (j : ℕ) → length ds ≤ j → wanted (drop j ds) ≡ 0
unfolding wanted
wanted-ended ds j h = rw (drop_of_length-le ds h)

-- ---- what refuses them

module _ (ds : List ℕ) (left : List ℤ) (j : ℕ) where
  -- what refuses polynomial j, whose coefficients come first of those that are left
  abbrev cause_at : ℕ
  cause_at = polynomial_cause (get_or ds j 0) (take (get_or ds j 0 + 1) left)

  cause_here : j < length ds
      → polynomials_cause (drop j ds) left ≡ (cause_at ▸ polynomials_cause (drop (j + 1) ds) (drop (get_or ds j 0 + 1) left))
  unfolding polynomials_cause
  cause_here h = rw (add-one j, drop-cons ds j 0 h)

  pub cause-found : {m : ℕ} {e : Refusal} → j < length ds → Err e ≡ checked cause_at → polynomials_cause (drop j ds) left ≡ m
      → Err e ≡ checked m
  cause-found h e k = passed_on_first cause_at _ e (Ok tt) ∙ ap checked (sym (cause_here h) ∙ k)

  pub cause_passed : {m : ℕ} → j < length ds → Ok tt ≡ checked cause_at → polynomials_cause (drop j ds) left ≡ m
      → polynomials_cause (drop (j + 1) ds) (drop (get_or ds j 0 + 1) left) ≡ m
  cause_passed h e k = rw (passed_none cause_at e) at (sym (cause_here h)) ∙ k

  pub cause-ended : {m : ℕ} → length ds ≤ j → polynomials_cause (drop j ds) left ≡ m → Ok tt ≡ checked m
  unfolding polynomials_cause
  cause-ended h k = ap checked (rw (drop_of_length-le ds h) at k)
