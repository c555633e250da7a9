-- The blocks of a rising list, and the elements chosen by their marks.
use Rattle.std.specs.Prelude.{Option, Some, None, unwrap_or}
use Rattle.std.specs.List.{position_or_len}
use Rattle.std.proofs.lemmas.List.Recursion.{is_position_or_len}
use mathlib.Core.Path.{◌≡◌, refl, sym, ap}
use mathlib.Core.Bool.{Bool, true, false, cond}
use mathlib.Core.List.{List, [], ◌∷◌, ◌++◌}
use Prim.Native.Nat.{ℕ, suc, ◌+◌, ◌<◌, ◌≤◌}
use native.Mathlib.Omega.{arith}
use native.Mathlib.Numerals.{add-one}
use native.Mathlib.Decide.{dec_lt}
use borrow.Author.Tests.{lt-ltb, le-ltb}
use lib.Dec.{leb, ltb}
use lib.ListN.{length, get_or, take, length-take}
use lib.Seq.{take-suc}
use Rattle.adapted.specs.Split.{leading, chosen, count_of}

-- ---- the blocks

leading-le : (b : ℕ) (l : List ℕ) → leading b l ≤ length l
unfolding leading
leading-le b [] = omega arith
leading-le b (x ∷ l) = go (leb b x) (leading-le b l)
  where
    go : (t : Bool) → leading b l ≤ length l → cond t 0 (suc (leading b l)) ≤ suc (length l)
    go true h = omega arith
    go false h = omega arith

-- the place where the rest begins is the first that `position` finds, or the length
pub leading_found : (b : ℕ) (l : List ℕ) (r : Option ℕ)
    → r ≡ cond (ltb (position_or_len (leb b) l) (length l)) (Some (position_or_len (leb b) l)) None → unwrap_or r (length l) ≡ leading b l
unfolding leading
leading_found b l r e =
    let k : position_or_len (leb b) l ≡ leading b l =
    sym (is_position_or_len (leading b) (leb b) refl (λ x xs. ap (cond (leb b x) 0) (one_more (leading b xs))) l) in
    rw (e, k) (go (dec_lt (leading b l) (length l)))
  where
    one_more : (n : ℕ) → suc n ≡ 1 + n
    one_more n = omega arith

    go : Dec (leading b l < length l) → unwrap_or (cond (ltb (leading b l) (length l)) (Some (leading b l)) None) (length l) ≡ leading b l
    go (yes h) = rw (lt-ltb _ _ h) refl
    go (no h) = rw (le-ltb (leading b l) (length l) (omega arith)) (omega (arith, leading-le b l))

-- ---- marks

pub chosen-length : (k : ℕ) (l m : List ℕ) → length (chosen k l m) ≤ length l
unfolding chosen
chosen-length k [] m = omega arith
chosen-length k (q ∷ l) [] = omega arith
chosen-length k (q ∷ l) (m ∷ ms) = go (leb k (count_of m)) (chosen-length k l ms)
  where
    go : (b : Bool) → length (chosen k l ms) ≤ length l → length (cond b (q ∷ chosen k l ms) (chosen k l ms)) ≤ suc (length l)
    go true h = omega arith
    go false h = omega arith

pub chosen-append : (k : ℕ) (l m l' m' : List ℕ) → length m ≡ length l → chosen k (l ++ l') (m ++ m') ≡ chosen k l m ++ chosen k l' m'
unfolding chosen
chosen-append k [] [] l' m' e = refl
chosen-append k [] (m ∷ ms) l' m' e = absurd (omega arith)
chosen-append k (q ∷ l) [] l' m' e = absurd (omega arith)
chosen-append k (q ∷ l) (m ∷ ms) l' m' e = go (leb k (count_of m)) (chosen-append k l ms l' m' (omega arith))
  where
    go : (b : Bool) → chosen k (l ++ l') (ms ++ m') ≡ chosen k l ms ++ chosen k l' m'
        → cond b (q ∷ chosen k (l ++ l') (ms ++ m')) (chosen k (l ++ l') (ms ++ m'))
        ≡ cond b (q ∷ chosen k l ms) (chosen k l ms) ++ chosen k l' m'
    go true h = ap (λ (x : List ℕ). q ∷ x) h
    go false h = h

pub chosen_next : (k j : ℕ) (l m : List ℕ) → j < length l → length m ≡ length l
    → chosen k (take (j + 1) l) (take (j + 1) m) ≡ chosen k (take j l) (take j m) ++ chosen k (get_or l j 0 ∷ []) (get_or m j 0 ∷ [])
chosen_next k j l m h e =
    rw (add-one, take-suc l j 0 h, take-suc m j 0 (omega arith))
    (chosen-append k (take j l) (take j m) (get_or l j 0 ∷ []) (get_or m j 0 ∷ []) (omega (arith, length-take j l, length-take j m)))
