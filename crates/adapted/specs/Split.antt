-- The last polynomial taken off a rising list of patterns, as the code does it: by merging the three blocks of the list. Definitions of
-- inner functions; the laws that tie them to `restrictions` and `adapted` are in proofs/Adapting.antt.
--
--   leading b l             == how many elements of l stand before the first that is not below b
--   head_of l k e b w        == the element of l at k less b, where k is before e, else w
--   marks_of w L q           == the signs with which q stands in L, where the last digit weighs w: 1 for 0, 2 for +, 4 for −, added up
--   count_of m               == how many signs the mark m has
--   chosen k l m            == those of l whose mark has at least k signs
--   parts_of i l m           == the three parts of an adapted list, from the patterns l of i polynomials that are left, with their marks m
--   Split w L n low mark at == what the merge of L leaves: the n patterns left, their marks, and for each element of L the place of its low
--                              part
use Rattle.std.specs.Prelude.{cond, ◌≡◌, List, [], ◌∷◌, ◌++◌, ℕ, suc, ◌+◌, ◌*◌, ◌-◌, ◌/◌, ◌%◌, ◌^◌, ◌<◌, ◌≤◌, min, leb, ltb, length}
use Rattle.std.specs.Prelude.{get_or, take}
use Rattle.signs.specs.Lists.{times, Rising, shift}
use Rattle.signs.specs.Adapted.{adapted}

unfoldable pub leading : ℕ → List ℕ → ℕ
leading b [] = 0
leading b (x ∷ l) = cond (leb b x) 0 (suc (leading b l))

unfoldable pub head_of : List ℕ → ℕ → ℕ → ℕ → ℕ → ℕ
head_of l k e b w = cond (ltb k e) (get_or l k 0 - b) w

unfoldable pub marks_of : ℕ → List ℕ → ℕ → ℕ
marks_of w L q = min 1 (times q L) + 2 * min 1 (times (q + w) L) + 4 * min 1 (times (q + 2 * w) L)

unfoldable pub count_of : ℕ → ℕ
count_of m = m % 2 + m / 2 % 2 + m / 4 % 2

unfoldable pub chosen : ℕ → List ℕ → List ℕ → List ℕ
chosen k [] m = []
chosen k (q ∷ l) [] = []
chosen k (q ∷ l) (m ∷ ms) = cond (leb k (count_of m)) (q ∷ chosen k l ms) (chosen k l ms)

unfoldable pub parts_of : ℕ → List ℕ → List ℕ → List ℕ
parts_of i l m = adapted i l ++ (shift (3 ^ i) (adapted i (chosen 2 l m)) ++ shift (2 * 3 ^ i) (adapted i (chosen 3 l m)))

pub record Split (w : ℕ) (L : List ℕ) (n : ℕ) (low mark at : List ℕ) : Type 0 where
  pub few : n ≤ length L
  pub rising : Rising (take n low)
  pub below : (j : ℕ) → j < n → get_or low j 0 < w
  pub marks : (j : ℕ) → j < n → get_or mark j 0 ≡ marks_of w L (get_or low j 0)
  pub stands : (j : ℕ) → j < n → 0 < get_or mark j 0
  pub noted : (k : ℕ) → k < length L → get_or at k 0 < n
  pub places : (k : ℕ) → k < length L → get_or low (get_or at k 0) 0 ≡ get_or L k 0 % w
