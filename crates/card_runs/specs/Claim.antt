-- A run answered throughout by a card (document 02, wish 6: "A run doesn't know which kind of card is behind the answers"). It is said of
-- contents, with points of any type, and of any calls; of a call only what is known of it is a parameter. That the calls of a run and those
-- on a card keep it, known by their contracts alone, is proofs/Calls.antt.
--
--   Starts s d x      == a start for s polynomials gives the record d and the step x
--   Answers d z d' x  == the answer z to the record d leaves the record d' and gives the step x
--   Asks α y          == what is behind the answers is asked for the product α, and the panel shows y, a number or a refusal
--   Fetches p y       == a row fetch at position p, on the record that the run has, gives y
--   Copies a b y      == a copy of all its rows to slices that hold a and b gives y
--   Played .. s k d x == from a start for s polynomials, after k answers, each the number shown of the product that the step before asked,
--                        the record is d and the last step is x
--   EndsDone K .. k x == of such a run for the contents K, x being its last step after k answers: it asks a product or is done, and is
--                        done after 593 answers at the latest; each product asked is answered, by its query; once the run is done the
--                        rows are the patterns of the points, each once, rising, with its number of points, counted as the queries
--                        count points
use Rattle.std.specs.Prelude.{◌≡◌, ◌⊎◌, List, ℕ, suc, ◌+◌, ◌*◌, ◌^◌, ◌<◌, ◌≤◌, ℤ, length}
use Rattle.signs.specs.Signs.{query}
use Rattle.rounds.specs.Rows.{repeated, IsRealized}
use Rattle.runs.specs.Run.{Step, ask, done, Fetch, no_row, Copy}
use Rattle.runs.specs.Demand.{asks, FetchedFrom, CopiedFrom, Refused}
use Rattle.contents.specs.Contents.{Contents, query_in, patterns_in}
use Rattle.contents_runs.specs.Runs.{rows_in}
use Rattle.query.specs.Claim.{Shown, number}

module _ {ℓ} (C : Type 0) (Starts : ℕ → C → Step → Type ℓ) (Answers : C → ℤ → C → Step → Type ℓ) (Asks : ℕ → Shown → Type ℓ) where
  pub data Played (s : ℕ) : ℕ → C → Step → Type ℓ where
    begun : {d : C} {x : Step} → Starts s d x → Played s 0 d x
    one_more : {k : ℕ} {d d' : C} {α : ℕ} {z : ℤ} {x : Step} → Played s k d (ask α) → Asks α (number z) → Answers d z d' x
        → Played s (suc k) d' x

module _ {ℓ} {X : Type 0} (K : Contents X) (Asks : ℕ → Shown → Type ℓ) (Fetches : ℕ → Fetch → Type ℓ)
    (Copies : List ℕ → List ℕ → Copy → Type ℓ) where
  pub record EndsDone (k : ℕ) (x : Step) : Type ℓ where
    -- no step is refused: it asks a product of the s polynomials, or the run is done
    pub asks_or_done : ((α : ℕ) × (α < 3 ^ K.s) × (x ≡ ask α)) ⊎ (x ≡ done)
    -- whatever is shown of a product asked is no refusal but the number of its query, so that the run goes on
    pub answered : (α : ℕ) → x ≡ ask α → (y : Shown) → Asks α y → y ≡ number (query_in K α)
    -- the answers, with the one still to come where the step asks: "at most 2rs+1" with r rows, and "at most 593"
    pub few : k + length (asks x) ≤ 2 * length (rows_in K) * K.s + 1
    pub most : k + length (asks x) ≤ 593
    -- once the run is done, position p fetches row p, and 14 past the last; all are copied, and 15 is given for a slice that is too short
    pub fetched : x ≡ done → (p : ℕ) (y : Fetch) → Fetches p y → FetchedFrom (rows_in K) p y
    pub copied : x ≡ done → (a b : List ℕ) (y : Copy) → Copies a b y → CopiedFrom (rows_in K) a b y
    -- and none before
    pub no_row_yet : (α : ℕ) → x ≡ ask α → (p : ℕ) (y : Fetch) → Fetches p y → y ≡ no_row 7
    pub no_rows : (α : ℕ) → x ≡ ask α → (a b : List ℕ) (y : Copy) → Copies a b y → Refused 7 a b y
    -- these rows are each pattern of a point, once, rising, with how many of the points have it
    pub rows : IsRealized (patterns_in K) (rows_in K)
    -- counted as the queries count points: each query is that of the rows, each pattern as often as its count says
    pub counted : (α : ℕ) → α < 3 ^ K.s → query K.s (repeated (rows_in K)) α ≡ query_in K α
