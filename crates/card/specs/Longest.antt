-- How long a card may be (document 01, "The card": "The longest card has 318 bytes"; document 02, wish 6: "the longest such card has 590
-- bytes"), and how many bytes of an input decide.
--
--   Longest Of m == of the cards that Of holds of the longest sound one has m bytes, and of any input that Of holds of the first k bytes, k
--                   above m, decide: the whole input is refused by the same number, and is no longer where none refuses it
use Rattle.std.specs.Prelude.{◌≡◌, List, ℕ, ◌≤◌, ◌<◌, length, take}
use Rattle.card.specs.Card.{refusal}
use Rattle.card.specs.Sound.{Sound}

pub record Longest (Of : List ℕ → Type 0) (m : ℕ) : Type 0 where
  pub never_longer : (c : List ℕ) → Of c → Sound c → length c ≤ m
  pub reached : (c : List ℕ) × Of c × Sound c × (length c ≡ m)
  pub same_refusal : (c : List ℕ) → Of c → (k : ℕ) → m < k → refusal (take k c) ≡ refusal c
  pub same_card : (c : List ℕ) → Of c → (k : ℕ) → m < k → refusal c ≡ 0 → take k c ≡ c
