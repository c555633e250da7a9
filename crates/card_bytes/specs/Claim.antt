-- What must hold of the bytes of a card and of the causes why none is written (document 02, wish 2), in words of its own. That it holds is
-- proofs/Written.antt, proofs/Again.antt and proofs/Refused.antt.
--
--   Counted ds ps       == there are 1 to 8 degrees and at most 64 points
--   Low ds              == each degree is at most 6
--   Fitting ds cs ps    == both, and there are as many coefficients as the degrees say
--   Small l             == each coefficient of l is from −1,000,000 to 1,000,000
--   Topped d l          == the top one, at place d, is not 0 unless d is
--   GoodTo ds cs j      == each polynomial before polynomial j is `Small` and `Topped`
--   Rising ps           == each point is from −100 to 100, and none is below the one before it
--   Writable ds cs ps   == nothing refuses them
--   Refuses ds cs ps m  == the number m, or 0, is given exactly for its cause, in the order of the wish
--   IsRead ds cs ps c   == the card c is a sound card of points on the line, and read to the degrees ds, the coefficients cs and the points
--                          ps: the same contents
--   IsWritten c         == the card c is, byte for byte, what is written of the degrees, coefficients and points read from it
use Rattle.std.specs.Prelude.{◌≡◌, ◌↔◌, List, [], ◌∷◌, ℕ, suc, ◌≤◌, ◌<◌, ℤ, pos, nat_abs, length, get_or, ◌≤ℤ◌}
use Rattle.refusals.specs.Numbers.{Among}
use Rattle.layout.specs.Format.{byte}
use Rattle.layout.specs.Contents.{line_contents}
use Rattle.card.specs.Sound.{Sound}
use Rattle.card_bytes.specs.Bytes.{wanted, card_bytes}
use Rattle.card_bytes.specs.Causes.{write_cause}
use Rattle.card_bytes.specs.Lists.{degrees_of, coefficients_of, points_of, part, contents_by, Same}

-- ---- the causes

pub record Counted (ds : List ℕ) (ps : List ℤ) : Type 0 where
  pub s_least : 1 ≤ length ds
  pub s_most : length ds ≤ 8
  pub n_most : length ps ≤ 64

abbrev pub Low : List ℕ → Type 0
Low ds = (j : ℕ) → j < length ds → get_or ds j 0 ≤ 6

pub record Fitting (ds : List ℕ) (cs ps : List ℤ) : Type 0 where
  pub counted : Counted ds ps
  pub low : Low ds
  pub long : length cs ≡ wanted ds

abbrev pub Small : List ℤ → Type 0
Small l = (i : ℕ) → i < length l → nat_abs (get_or l i (pos 0)) ≤ 1000000

abbrev pub Topped : ℕ → List ℤ → Type 0
Topped d l = get_or l d (pos 0) ≡ pos 0 → d ≡ 0

abbrev pub GoodTo : List ℕ → List ℤ → ℕ → Type 0
GoodTo ds cs j = (i : ℕ) → i < j → Small (part ds cs i) × Topped (get_or ds i 0) (part ds cs i)

pub record Rising (ps : List ℤ) : Type 0 where
  pub limits : (k : ℕ) → k < length ps → nat_abs (get_or ps k (pos 0)) ≤ 100
  pub rising : (k : ℕ) → suc k < length ps → get_or ps k (pos 0) ≤ℤ get_or ps (suc k) (pos 0)

pub record Writable (ds : List ℕ) (cs ps : List ℤ) : Type 0 where
  pub fitting : Fitting ds cs ps
  pub good : GoodTo ds cs (length ds)
  pub points : Rising ps

pub record Refuses (ds : List ℕ) (cs ps : List ℤ) (m : ℕ) : Type 0 where
  -- "s and n (how many degrees and how many points) by 3"
  pub is_3 : (m ≡ 3) ↔ (Counted ds ps → ⊥)
  -- "then degrees by 16"
  pub is_16 : (m ≡ 16) ↔ (Counted ds ps × (Low ds → ⊥))
  -- "then a coefficient list not as long as they say by 1"
  pub is_1 : (m ≡ 1) ↔ (Counted ds ps × Low ds × (length cs ≡ wanted ds → ⊥))
  -- "then 5 and 17 for each polynomial"
  pub is_5 : (m ≡ 5) ↔ (Fitting ds cs ps × (j : ℕ) × (j < length ds) × GoodTo ds cs j × (Small (part ds cs j) → ⊥))
  pub is_17 : (m ≡ 17)
      ↔ (Fitting ds cs ps × (j : ℕ) × (j < length ds) × GoodTo ds cs j × Small (part ds cs j) × (Topped (get_or ds j 0) (part ds cs j) → ⊥))
  -- "then points by 6"
  pub is_6 : (m ≡ 6) ↔ (Fitting ds cs ps × GoodTo ds cs (length ds) × (Rising ps → ⊥))
  pub is_0 : (m ≡ 0) ↔ Writable ds cs ps
  pub no_other : Among (0 ∷ 1 ∷ 3 ∷ 5 ∷ 6 ∷ 16 ∷ 17 ∷ []) m

-- ---- the round trip

-- "Each written card is read to the same polynomials and points"
pub record IsRead (ds : List ℕ) (cs ps : List ℤ) (c : List ℕ) : Type 0 where
  pub sound : Sound c
  pub line : byte c 0 ≡ 1
  pub degrees : degrees_of c ≡ ds
  pub coefficients : coefficients_of c ≡ cs
  pub contents : Same (line_contents c) (contents_by ds cs ps)

-- "and each accepted card is what the writer makes of them"
pub record IsWritten (c : List ℕ) : Type 0 where
  pub accepted : write_cause (degrees_of c) (coefficients_of c) (points_of c) ≡ 0
  pub again : card_bytes (degrees_of c) (coefficients_of c) (points_of c) ≡ c
