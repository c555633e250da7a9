-- The refusals, and their numbers (document 01, "Cause, and what the caller gets"; from 16 on, document 02).
--
--   number_of e   == the number of the refusal e
--   by_number m   == the refusal whose number is m; of any other number `WrongTerms`
--   Decodes m r   == r is the refusal whose number is m, or says that m is the number of none
--   refusing m    == what a call gives that is refused by the number m
--   checked m     == what a check gives that finds the cause with the number m, or 0 where it finds none
use Rattle.std.specs.Prelude.{◌≡◌, ◌⊎◌, List, [], ◌∷◌, get_or, ℕ, ◌-◌, ◌<◌, Result, Ok, Err, MatchResult}
use Rattle.refusals.specs.Numbers.{wrong_length, wrong_byte, wrong_count, wrong_offset, wrong_coefficient, wrong_point, late, bad_first}
use Rattle.refusals.specs.Numbers.{bad_later, no_counts, wrong_list, no_solution, wrong_product, past_last, too_short, wrong_degree}
use Rattle.refusals.specs.Numbers.{zero_top, wrong_terms, unless}
use Rattle.refusals.specs.declared.Refusal.{Refusal}
use Rattle.refusals.specs.declared.Refusal.TheVariants.{WrongLength, WrongByte, WrongCount, WrongOffset, WrongCoefficient, WrongPoint, Late}
use Rattle.refusals.specs.declared.Refusal.TheVariants.{BadFirst, BadLater, NoCounts, WrongList, NoSolution, WrongProduct, PastLast}
use Rattle.refusals.specs.declared.Refusal.TheVariants.{TooShort, WrongDegree, ZeroTop, WrongTerms}
use Rattle.refusals.specs.declared.UnknownNumber.{UnknownNumber}

abbrev pub number_of : Refusal → ℕ
number_of WrongLength = wrong_length
number_of WrongByte = wrong_byte
number_of WrongCount = wrong_count
number_of WrongOffset = wrong_offset
number_of WrongCoefficient = wrong_coefficient
number_of WrongPoint = wrong_point
number_of Late = late
number_of BadFirst = bad_first
number_of BadLater = bad_later
number_of NoCounts = no_counts
number_of WrongList = wrong_list
number_of NoSolution = no_solution
number_of WrongProduct = wrong_product
number_of PastLast = past_last
number_of TooShort = too_short
number_of WrongDegree = wrong_degree
number_of ZeroTop = zero_top
number_of WrongTerms = wrong_terms

-- the refusals in the order of their numbers, from 1
abbrev pub refusals : List Refusal
refusals =
    WrongLength ∷ WrongByte ∷ WrongCount ∷ WrongOffset ∷ WrongCoefficient ∷ WrongPoint ∷ Late ∷ BadFirst ∷ BadLater
    ∷ NoCounts ∷ WrongList ∷ NoSolution ∷ WrongProduct ∷ PastLast ∷ TooShort ∷ WrongDegree ∷ ZeroTop ∷ WrongTerms ∷ []

abbrev pub by_number : ℕ → Refusal
by_number m = get_or refusals (m - 1) WrongTerms

abbrev pub Decodes : ℕ → Result Refusal UnknownNumber → Type 0
Decodes m r = MatchResult r (λ e. number_of e ≡ m) (λ u. (u.0 ≡ m) × ((m ≡ 0) ⊎ (18 < m)))

abbrev pub refusing : {A : Type 0} → ℕ → Result A Refusal
refusing m = Err (by_number m)

abbrev pub checked : ℕ → Result (Unit {0}) Refusal
checked m = unless m refusing (Ok tt)
