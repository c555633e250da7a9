-- What the library's calls on cards must give, as plain numbers: the claims of the crates `card` and `query`, with a refusal number beside
-- the result, 0 where nothing is refused, and 0 for the result where something is; and what a start in a lent record must. That the calls
-- keep them, known by their contracts alone, is proofs/DemandTwo.antt, with the claims on adapted lists and on the solver, and
-- proofs/DemandOne.antt.
--
--   no_number k          == a value that is refused by the number k
--   a_number z           == the value z
--   no_counts k          == a query that is refused by the number k
--   some_counts z t      == the query z with the three counts t
--   CheckGives c o      == `tarski_check` on the card c: s and n
--   ValueGives c j x o  == `tarski_value`: the value at x of polynomial j of a card of points on the line, or 14
--   ValueAtGives c j p o == `tarski_value_at`: the value of polynomial j at the point p, or 14, or 6
--   QueryGives c α o    == `tarski_query`, and `tarski_ask` on the card opened: the sum over the points of the sign of the product's
--                          value, and at how many of them that value is positive, negative and 0, or 13; the three add up to the points
--   AskGives k α o      == `tarski_ask` on the opened card k, whatever it holds: the same by its bits
--   StartClaim s c c' x == `tarski_start` for s polynomials in the lent record c leaves c' and gives the step x: product 0 to ask; or 3,
--                          "all lent memory; no run begins"
use Rattle.std.specs.Prelude.{◌≡◌, List, ℕ, ◌+◌, ◌^◌, ◌<◌, ◌≤◌, ℤ, pos, length}
use Rattle.sign_counts.specs.declared.SignCounts.{SignCounts}
use Rattle.layout.specs.Format.{polynomials, point_count, offset}
use Rattle.layout.specs.Values.{value}
use Rattle.plane.specs.Format.{Point}
use Rattle.plane.specs.Contents.{value_at, contents_of}
use Rattle.card.specs.Claim.{CardGives, LineGives, PlaceGives, Near}
use Rattle.query.specs.Query.{query_of, counts_of}
use Rattle.query.specs.Opened.{counts_on, summed}
use Rattle.query.specs.Claim.{OpenedGives}
use Rattle.query.specs.declared.Opened.{Opened}
use Rattle.runs.specs.Run.{Step, ask, refused}
use Rattle.run_record.specs.declared.Run.{Run}
use Rattle.tarski.specs.declared.Checked.{Checked}
use Rattle.tarski.specs.declared.Number.{Number}
use Rattle.tarski.specs.declared.FlatCounts.{FlatCounts}

abbrev pub no_number : ℕ → Number
no_number k = record { number = pos 0; refusal = k }

abbrev pub a_number : ℤ → Number
a_number z = record { number = z; refusal = 0 }

abbrev pub CheckGives : List ℕ → Checked → Type 0
CheckGives c o =
    CardGives {A = Checked} c (Unit {0}) 0 (λ k. record { polynomials = 0; points = 0; refusal = k })
    (record { polynomials = polynomials c; points = point_count c; refusal = 0 }) o

abbrev pub ValueGives : List ℕ → ℕ → ℤ → Number → Type 0
ValueGives c j x o = LineGives c (j < polynomials c) 14 no_number (a_number (value c (offset c j) x)) o

abbrev pub ValueAtGives : List ℕ → ℕ → Point → Number → Type 0
ValueAtGives c j p o = PlaceGives c (j < polynomials c) 14 (Near p) 6 no_number (a_number (value_at c (offset c j) p)) o

abbrev pub no_counts : ℕ → FlatCounts
no_counts k = record { number = pos 0; positive = 0; negative = 0; zero = 0; refusal = k }

abbrev pub some_counts : ℤ → SignCounts → FlatCounts
some_counts z t = record { number = z; positive = t.positive; negative = t.negative; zero = t.zero; refusal = 0 }

pub record QueryGives (c : List ℕ) (α : ℕ) (o : FlatCounts) : Type 0 where
  pub shown : CardGives c (α < 3 ^ polynomials c) 13 no_counts (some_counts (query_of c α) (counts_of c α)) o
  pub add_up : o.refusal ≡ 0 → o.positive + o.negative + o.zero ≡ length (contents_of c).points

pub record AskGives (k : Opened) (α : ℕ) (o : FlatCounts) : Type 0 where
  pub shown : OpenedGives k α no_counts (some_counts (summed k α) (counts_on k α)) o
  pub add_up : o.refusal ≡ 0 → o.positive + o.negative + o.zero ≡ k.n

pub record StartClaim (s : ℕ) (c c' : Run) (x : Step) : Type 0 where
  pub begins : 1 ≤ s → s ≤ 8 → x ≡ ask 0
  pub refuses : ((1 ≤ s) × (s ≤ 8) → ⊥) → (x ≡ refused 3) × (c' ≡ c)
