-- What a call on a card answers, in the words of document 01 ("A card is checked before a product or position"; "Each number is given for
-- its cause and no other"). Causes and their order are said anew, by `Sound` and not by `Answers`; which number refuses a card is
-- `refusal`, and where a body stands and what a value is are `Format` and `Values`, as there. That the calls keep it, known by their
-- contracts alone, is proofs/Calls.antt.
--
--   CardGives c In m refused shown o == a call on the card c answers o: on a sound card `shown` where In holds, and the number m where it
--                                       does not; on any other card the number that refuses it, which is one of a card's
--   LineGives c In m refused shown o == the same for a call that wants a card of points on the line: any other card of 4 bytes or more, by
--                                       its byte 0, is refused by 2
--   PlaceGives c In m In' m' refused shown o == the same as `CardGives` for a call with two causes of its own, the number m and then m'
--   ReadGives c o                    == `read`: s and n
--   LocateGives c j o                == `locate`: where the body of polynomial j begins and how many bytes it has, or 14
--   ValueGives c j x o               == `value`: the value at x of polynomial j of a card of points on the line, or 14
--   ValueAtGives c j p o             == `value_at`: the value of polynomial j at the point p; or 14; or 6 where p is not `Near`
--   Near p                           == X and Y of the point p are from −100 to 100
--   BodyGives c j base l at          == `body`: the bytes l from the place `at` in memory, where the card begins at the place base: those
--                                       of the body, where they stand on the card; none where the card or j is refused
use Rattle.std.specs.Prelude.{◌≡◌, ◌≢◌, ◌⊎◌, List, [], ℕ, ◌+◌, ◌≤◌, ◌<◌, ℤ, Result, Ok, nat_abs, length, take, drop}
use Rattle.refusals.specs.Numbers.{card_numbers, Among}
use Rattle.layout.specs.Format.{byte, polynomials, point_count, offset}
use Rattle.layout.specs.Values.{value}
use Rattle.plane.specs.Format.{Point}
use Rattle.plane.specs.Contents.{value_at}
use Rattle.card.specs.Kinds.{body_size}
use Rattle.card.specs.Card.{refusal}
use Rattle.card.specs.Sound.{Sound}
use Rattle.card.specs.declared.Shape.{Shape}
use Rattle.card.specs.declared.Stretch.{Stretch}
use Rattle.refusals.specs.declared.Refusal.{Refusal}
use Rattle.refusals.specs.Refusals.{refusing}

pub record CardGives {A : Type 0} (c : List ℕ) (In : Type 0) (m : ℕ) (refused : ℕ → A) (shown o : A) : Type 0 where
  pub inside : Sound c → In → o ≡ shown
  pub outside : Sound c → (In → ⊥) → o ≡ refused m
  pub unsound : (Sound c → ⊥) → Among card_numbers (refusal c) × (o ≡ refused (refusal c))

pub record LineGives {A : Type 0} (c : List ℕ) (In : Type 0) (m : ℕ) (refused : ℕ → A) (shown o : A) : Type 0 where
  pub inside : Sound c → byte c 0 ≡ 1 → In → o ≡ shown
  pub outside : Sound c → byte c 0 ≡ 1 → (In → ⊥) → o ≡ refused m
  pub other_kind : 4 ≤ length c → byte c 0 ≢ 1 → o ≡ refused 2
  pub unsound : (Sound c → ⊥) → (length c < 4) ⊎ (byte c 0 ≡ 1) → Among card_numbers (refusal c) × (o ≡ refused (refusal c))

pub record PlaceGives {A : Type 0} (c : List ℕ) (In : Type 0) (m : ℕ) (In' : Type 0) (m' : ℕ) (refused : ℕ → A) (shown o : A) : Type 0 where
  pub inside : Sound c → In → In' → o ≡ shown
  pub outside : Sound c → (In → ⊥) → o ≡ refused m
  pub outside' : Sound c → In → (In' → ⊥) → o ≡ refused m'
  pub unsound : (Sound c → ⊥) → Among card_numbers (refusal c) × (o ≡ refused (refusal c))

abbrev pub ReadGives : List ℕ → Result Shape Refusal → Type 0
ReadGives c o = CardGives c (Unit {0}) 0 refusing (Ok (record { polynomials = polynomials c; points = point_count c })) o

abbrev pub LocateGives : List ℕ → ℕ → Result Stretch Refusal → Type 0
LocateGives c j o =
    CardGives c (j < polynomials c) 14 refusing (Ok (record { start = offset c j; len = body_size c (offset c j) })) o

abbrev pub ValueGives : List ℕ → ℕ → ℤ → Result ℤ Refusal → Type 0
ValueGives c j x o = LineGives c (j < polynomials c) 14 refusing (Ok (value c (offset c j) x)) o

abbrev pub Near : Point → Type 0
Near p = (nat_abs p.0 ≤ 100) × (nat_abs p.1 ≤ 100)

abbrev pub ValueAtGives : List ℕ → ℕ → Point → Result ℤ Refusal → Type 0
ValueAtGives c j p o = PlaceGives c (j < polynomials c) 14 (Near p) 6 refusing (Ok (value_at c (offset c j) p)) o

abbrev pub BodyGives : List ℕ → ℕ → ℕ → List ℕ → ℕ → Type 0
BodyGives c j base l at =
    CardGives {A = List ℕ × ℕ} c (j < polynomials c) 14 (λ m. ([], base))
    (take (body_size c (offset c j)) (drop (offset c j) c), base + offset c j) (l, at)
