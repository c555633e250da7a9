-- What a call that writes a card gives, in the words of document 02, wish 2, and apart from the definition that its contract cites. That
-- the call keeps it, known by its contract alone, is proofs/Calls.antt.
--
--   Placed c out o out' == the card c is written: the answer o is its length, it stands at the front of the buffer, and what lies past it
--                          is as it was
--   Kept m out o out'   == the number m refuses: the answer o is its refusal, and the buffer is as it was
--   WriteGives ds cs ps out o out'
--                       == a call on the degrees ds, the coefficients cs, the points ps and the buffer out answers o and leaves out':
--                          refused by the number of the first cause; then by 15, where the buffer is too short; else the card is written
use Rattle.std.specs.Prelude.{◌≡◌, List, ℕ, ◌<◌, ◌≤◌, ℤ, Result, Ok, length, take, drop}
use Rattle.refusals.specs.Refusals.{refusing}
use Rattle.refusals.specs.declared.Refusal.{Refusal}
use Rattle.card_bytes.specs.Bytes.{card_bytes}
use Rattle.card_bytes.specs.Claim.{Refuses, Writable}

pub record Placed (c out : List ℕ) (o : Result ℕ Refusal) (out' : List ℕ) : Type 0 where
  pub answer : o ≡ Ok (length c)
  pub front : take (length c) out' ≡ c
  pub rest : drop (length c) out' ≡ drop (length c) out

pub record Kept (m : ℕ) (out : List ℕ) (o : Result ℕ Refusal) (out' : List ℕ) : Type 0 where
  pub answer : o ≡ refusing m
  pub kept : out' ≡ out

pub record WriteGives (ds : List ℕ) (cs ps : List ℤ) (out : List ℕ) (o : Result ℕ Refusal) (out' : List ℕ) : Type 0 where
  pub number : ℕ  -- of the first cause, or 0
  pub cause : Refuses ds cs ps number
  pub refused : 0 < number → Kept number out o out'
  pub short : Writable ds cs ps → length out < length (card_bytes ds cs ps) → Kept 15 out o out'
  pub written : Writable ds cs ps → length (card_bytes ds cs ps) ≤ length out → Placed (card_bytes ds cs ps) out o out'
