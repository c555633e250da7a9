-- What a call for the adapted list gives, in the words of document 01 and apart from the definition that its contract cites.
--
--   Counted s               == there are 1 to 8 polynomials
--   Patterns s L            == L is a rising list of at most 64 patterns of s polynomials
--   Gives s L out o out'    == a call on s, L and the slice out that answers o and leaves out': 3 (`WrongCount`), 11 (`WrongList`) and 15
--                              (`TooShort`) exactly for their causes in this order, each leaving the slice as it was; else the adapted
--                              list of L at the front, and the rest as it was
use Rattle.std.specs.Prelude.{◌≡◌, ◌↔◌, ◌⊎◌, List, ℕ, ◌^◌, ◌<◌, ◌≤◌, length, take, drop, Result, Ok, Err}
use Rattle.refusals.specs.Refusals.{by_number, refusing}
use Rattle.refusals.specs.declared.Refusal.{Refusal}
use Rattle.signs.specs.Lists.{Below, Rising}
use Rattle.signs.specs.Adapted.{adapted}

abbrev pub Counted : ℕ → Type 0
Counted s = (1 ≤ s) × (s ≤ 8)

pub record Patterns (s : ℕ) (L : List ℕ) : Type 0 where
  pub few : length L ≤ 64
  pub rising : Rising L
  pub below : Below (3 ^ s) L

pub record Gives (s : ℕ) (L out : List ℕ) (o : Result (Unit {0}) Refusal) (out' : List ℕ) : Type 0 where
  pub is_3 : (o ≡ refusing 3) ↔ (Counted s → ⊥)
  pub is_11 : (o ≡ refusing 11) ↔ (Counted s × (Patterns s L → ⊥))
  pub is_15 : (o ≡ refusing 15) ↔ (Counted s × Patterns s L × (length out < length L))
  pub is_written : (o ≡ Ok tt) ↔ (Counted s × Patterns s L × (length L ≤ length out))
  pub no_other : (e : Refusal) → o ≡ Err e → (e ≡ by_number 3) ⊎ (e ≡ by_number 11) ⊎ (e ≡ by_number 15)
  pub kept : (e : Refusal) → o ≡ Err e → out' ≡ out
  pub front : o ≡ Ok tt → take (length L) out' ≡ adapted s L
  pub rest : o ≡ Ok tt → drop (length L) out' ≡ drop (length L) out
