-- Numbers in decimal, byte by byte: what one byte does to the number that a text goes on from, and texts at the edges.
use mathlib.Core.Path.{◌≡◌, refl}
use mathlib.Core.List.{List, [], ◌∷◌}
use Prim.Native.Nat.{ℕ, ◌+◌, ◌*◌, ◌-◌, ◌≤◌, ◌<◌}
use native.Mathlib.Numerals.{add-one}
use native.Mathlib.Omega.{arith}
use borrow.Author.Tests.{le-leb, lt-leb}
use lib.ListN.{length, drop, get_or}
use lib.Seq.{drop-cons, drop-length}
use Rattle.std.proofs.Common.{Some, None, inl, inr}
use Rattle.std.specs.Char.{IsNotAsciiDigit}
use Rattle.drawcard.specs.Numeral.{largest, numeral_from, numeral_of}

-- ---- one byte

module _ (n b : ℕ) (l : List ℕ) where
  pub from_digit : 48 ≤ b → b ≤ 57 → n * 10 + (b - 48) ≤ largest → numeral_from n (b ∷ l) ≡ numeral_from (n * 10 + (b - 48)) l
  unfolding numeral_from
  from_digit h k m = rw (le-leb 48 b h, le-leb b 57 k, le-leb (n * 10 + (b - 48)) largest m)

  pub from_other : IsNotAsciiDigit b → numeral_from n (b ∷ l) ≡ None
  unfolding numeral_from
  from_other (inl h) = rw (lt-leb 48 b h)
  from_other (inr k) = rw (le-leb 48 b (omega arith), lt-leb b 57 k)

  pub from_large : 48 ≤ b → b ≤ 57 → largest < n * 10 + (b - 48) → numeral_from n (b ∷ l) ≡ None
  unfolding numeral_from
  from_large h k m = rw (le-leb 48 b h, le-leb b 57 k, lt-leb (n * 10 + (b - 48)) largest m)

-- ---- where a loop stands

-- nothing is read: an empty text is no number, any other goes on from 0
pub of_empty : (l : List ℕ) → length l ≡ 0 → None ≡ numeral_of l
unfolding numeral_of
of_empty [] e = refl
of_empty (b ∷ l) e = absurd (omega arith)

pub of_start : (l : List ℕ) → (length l ≡ 0 → ⊥) → numeral_from 0 l ≡ numeral_of l
unfolding numeral_of
of_start [] h = absurd (h refl)
of_start (b ∷ l) h = refl

-- the next byte is the one at i
pub from_place : (n : ℕ) (l : List ℕ) (i : ℕ) → i < length l → numeral_from n (drop i l) ≡ numeral_from n (get_or l i 0 ∷ drop (i + 1) l)
from_place n l i h = rw (add-one, drop-cons l i 0)

-- all is read
pub from_end : (n : ℕ) (l : List ℕ) (i : ℕ) → i ≡ length l → numeral_from n (drop i l) ≡ Some n
unfolding numeral_from
from_end n l i e = rw (e, drop-length l)

-- ---- texts at the edges

-- "7", "4294967295", "0" and "007" are numbers; "", "4294967296", "-7", "7x", "/" and ":" are none
pub edges :
    (numeral_of (55 ∷ []) ≡ Some 7)
    × (numeral_of (52 ∷ 50 ∷ 57 ∷ 52 ∷ 57 ∷ 54 ∷ 55 ∷ 50 ∷ 57 ∷ 53 ∷ []) ≡ Some 4294967295)
    × (numeral_of (48 ∷ []) ≡ Some 0)
    × (numeral_of (48 ∷ 48 ∷ 55 ∷ []) ≡ Some 7)
    × (numeral_of [] ≡ None)
    × (numeral_of (52 ∷ 50 ∷ 57 ∷ 52 ∷ 57 ∷ 54 ∷ 55 ∷ 50 ∷ 57 ∷ 54 ∷ []) ≡ None)
    × (numeral_of (45 ∷ 55 ∷ []) ≡ None)
    × (numeral_of (55 ∷ 120 ∷ []) ≡ None)
    × (numeral_of (47 ∷ []) ≡ None)
    × (numeral_of (58 ∷ []) ≡ None)
unfolding numeral_of numeral_from
edges = (refl, refl, refl, refl, refl, refl, refl, refl, refl, refl)
