-- THEOREM of the code: a call of `adapted_list` gives what `Gives` says. The call is known by its contract alone (`Learnt`), so that a
-- weaker promise breaks the theorem.
use mathlib.Core.Path.{◌≡◌, refl, sym, ◌∙◌}
use mathlib.Core.Bool.{Bool, true, false}
use mathlib.Core.Logic.{inl, inr}
use mathlib.Core.List.{List, ◌++◌}
use Prim.Native.Nat.{ℕ, ◌^◌, ◌<◌, ◌≤◌}
use native.Mathlib.Omega.{arith}
use native.Mathlib.Decide.{dec_lt}
use contract.Lifetimes.{Lfts}
use denote.Ref.{Bor, MutBor}
use lib.ListN.{length, drop}
use lib.Seq.{take_at, drop_at}
use borrow.Author.Tests.{le-leb}
use Rattle.std.specs.Prelude.{Result, Ok, Err}
use Rattle.refusals.specs.declared.Refusal.{Refusal}
use Rattle.refusals.specs.declared.Refusal.TheVariants.{WrongCount, WrongList, TooShort}
use Rattle.signs.specs.Lists.{is_below, is_rising, is_patterns}
use Rattle.signs.specs.Adapted.{adapted}
use Rattle.signs.proofs.Orders.{both, below_test, rising_test}
use Rattle.signs.proofs.Size.{as_many}
use Rattle.adapted_list.specs.Listing.{list_of}
use Rattle.adapted_list.specs.Claim.{Counted, Patterns, Gives}
use Rattle.adapted_list.proofs.Lists.{patterns_true, refused_none, refused-many, refused_list, refused-short, written}
use Rattle.adapted_list.proofs.adapted_list.Reads as call

patterns_test : (s : ℕ) (L : List ℕ) → Patterns s L → is_patterns s L ≡ true
unfolding is_patterns
patterns_test s L p =
    rw (le-leb (length L) 64 p.few) (both (is_rising L) (is_below (3 ^ s) L) (rising_test L p.rising) (below_test (3 ^ s) L p.below))

patterns_from : (s : ℕ) (L : List ℕ) → is_patterns s L ≡ true → Patterns s L
patterns_from s L e = let (n, r, b) = patterns_true s L e in record { few = n; rising = r; below = b }

clash : (s : ℕ) (L : List ℕ) → is_patterns s L ≡ false → Patterns s L → ⊥
clash s L e p = let x = sym (patterns_test s L p) ∙ e in let y : ◌≡◌ {A = ℕ} 0 1 = cc in omega arith

module _ (s : ℕ) (L out : List ℕ) where
  -- the four ways, each with its cause
  by_3 : (Counted s → ⊥) → Gives s L out (Err WrongCount) out
  by_3 h = record {
    is_3 = (λ _. h, λ _. refl);
    is_11 = (λ e. absurd (cc), λ c. absurd (h c.0));
    is_15 = (λ e. absurd (cc), λ c. absurd (h c.0));
    is_written = (λ e. absurd (cc), λ c. absurd (h c.0));
    no_other = λ r e. inl (cc);
    kept = λ r e. refl;
    front = λ e. absurd (cc);
    rest = λ e. absurd (cc);
  }

  by_11 : Counted s → (Patterns s L → ⊥) → Gives s L out (Err WrongList) out
  by_11 h p = record {
    is_3 = (λ e. absurd (cc), λ c. absurd (c h));
    is_11 = (λ _. (h, p), λ _. refl);
    is_15 = (λ e. absurd (cc), λ c. absurd (p c.1));
    is_written = (λ e. absurd (cc), λ c. absurd (p c.1));
    no_other = λ r e. inr (inl (cc));
    kept = λ r e. refl;
    front = λ e. absurd (cc);
    rest = λ e. absurd (cc);
  }

  by_15 : Counted s → Patterns s L → length out < length L → Gives s L out (Err TooShort) out
  by_15 h p q = record {
    is_3 = (λ e. absurd (cc), λ c. absurd (c h));
    is_11 = (λ e. absurd (cc), λ c. absurd (c.1 p));
    is_15 = (λ _. (h, p, q), λ _. refl);
    is_written = (λ e. absurd (cc), λ c. absurd (let x = c.2 in omega arith));
    no_other = λ r e. inr (inr (cc));
    kept = λ r e. refl;
    front = λ e. absurd (cc);
    rest = λ e. absurd (cc);
  }

  by_list : Counted s → Patterns s L → length L ≤ length out → Gives s L out (Ok tt) (adapted s L ++ drop (length L) out)
  by_list h p q =
      let n : length (adapted s L) ≡ length L = as_many s L p.rising p.below in record {
        is_3 = (λ e. absurd (cc), λ c. absurd (c h));
        is_11 = (λ e. absurd (cc), λ c. absurd (c.1 p));
        is_15 = (λ e. absurd (cc), λ c. absurd (let x = c.2 in omega arith));
        is_written = (λ _. (h, p, q), λ _. refl);
        no_other = λ r e. absurd (cc);
        kept = λ r e. absurd (cc);
        front = λ e. take_at (adapted s L) (drop (length L) out) (length L) n;
        rest = λ e. drop_at (adapted s L) (drop (length L) out) (length L) n;
      }

  shown : (g : Result (Unit {0}) Refusal × List ℕ) → list_of s L out ≡ g → Gives s L out g.0 g.1
      → Gives s L out (list_of s L out).0 (list_of s L out).1
  shown g e d = rw e d

  -- the definition
  pub list_gives : Gives s L out (list_of s L out).0 (list_of s L out).1
  list_gives = counts (dec_lt 0 s) (dec_lt 8 s)
    where
      rooms : Counted s → is_patterns s L ≡ true → Dec (length out < length L) → Gives s L out (list_of s L out).0 (list_of s L out).1
      rooms h t (yes q) = shown _ (refused-short s L out (λ z. let x = h.0 in omega arith) h.1 t q) (by_15 h (patterns_from s L t) q)
      rooms h t (no q) =
          shown _ (written s L out (λ z. let x = h.0 in omega arith) h.1 t (omega arith))
          (by_list h (patterns_from s L t) (omega arith))

      lists : Counted s → (b : Bool) → is_patterns s L ≡ b → Gives s L out (list_of s L out).0 (list_of s L out).1
      lists h true t = rooms h t (dec_lt (length out) (length L))
      lists h false t = shown _ (refused_list s L out (λ z. let x = h.0 in omega arith) h.1 t) (by_11 h (clash s L t))

      counts : Dec (0 < s) → Dec (8 < s) → Gives s L out (list_of s L out).0 (list_of s L out).1
      counts (no n) d = shown _ (refused_none s L out (omega arith)) (by_3 (λ h. let x = h.0 in omega arith))
      counts (yes p) (yes q) = shown _ (refused-many s L out q) (by_3 (λ h. let x = h.1 in omega arith))
      counts (yes p) (no q) = lists (omega arith, omega arith) (is_patterns s L) refl

pub call_gives : (κs : Lfts 2) (s : ℕ) (patterns : Bor (List ℕ)) (out out' : MutBor (List ℕ)) (o : Result (Unit {0}) Refusal)
    → call.Learnt κs (s, (patterns, (out, tt))) o (s, (patterns, (out', tt))) → Gives s patterns.now out.now o out'.now
call_gives κs s patterns out out' o (e, f) = rw (e, f) (list_gives s patterns.now out.now)
