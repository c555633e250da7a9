-- What a call for the adapted list answers and leaves in the slice lent to it (document 01, "Cause, and what the caller gets": 3, 11, 15,
-- in the order of its last paragraph).
--
--   cause_of s L out == the number of the first cause that refuses a call on s, L and the slice out; 0 where none does
--   list_of s L out  == the answer of a call on s, L and the slice out, and what the slice holds then: the adapted list of L at its front
use Rattle.std.specs.Prelude.{not, ◌&&◌, List, ◌++◌, ℕ, leb, ltb, length, drop, Result, Ok}
use Rattle.refusals.specs.Limits.{most_polynomials}
use Rattle.refusals.specs.Numbers.{wrong_count, wrong_list, too_short, ◌when◌, ◌▸◌, unless}
use Rattle.refusals.specs.Refusals.{refusing}
use Rattle.refusals.specs.declared.Refusal.{Refusal}
use Rattle.signs.specs.Lists.{is_patterns}
use Rattle.signs.specs.Adapted.{adapted}

abbrev pub cause_of : ℕ → List ℕ → List ℕ → ℕ
cause_of s L out =
    wrong_count when not (ltb 0 s && leb s most_polynomials)
    ▸ wrong_list when not (is_patterns s L)
    ▸ too_short when not (leb (length L) (length out))

unfoldable pub list_of : ℕ → List ℕ → List ℕ → Result (Unit {0}) Refusal × List ℕ
list_of s L out = unless (cause_of s L out) (λ m. (refusing m, out)) (Ok tt, adapted s L ++ drop (length L) out)
