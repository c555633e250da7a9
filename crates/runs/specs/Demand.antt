-- Demand 3, "Key", as one statement over every list of calls on one run (document 01, "The words of demand 3").
--
--   Call, Event        == an answer, a row fetch or a copy of all rows; the call with what it gave
--   state_after, events == the record and the events after a list of calls: "each call gets the record as the start or the call before left
--                         it"
--   phase_of f t        == "the run is done, or closed, once an answer taken has given that"
--   taken f t          == the answers taken: "an answer is taken unless the run was done or closed before it came"
--   given f t          == the products that answers taken gave to ask
--   Orderly f t        == "7 refuses no other": an answer gets 7 after done or closed, and only then; the numbers that close are 8, 9 and
--                         10
--   Served f K t       == once the run is done, what is fetched and copied is K's: "position p below r fetches row p, and a copy into
--                         slices of at least r writes them all in order"; before that and on a closed run no row is fetched or copied
--   NoRows t           == no row is fetched or copied
--   SomeFits s ps zs   == some oracle for s polynomials fits the answers zs to the products ps
--   closed_by f t       == the refusal number that an answer taken gave, alone in a list; empty where no answer taken was refused
--   Outside n z        == z is outside −n .. n
--   FirstOut zs        == the first of the answers zs is below 0 or above 64
--   LaterOut zs        == one of the answers zs after the first is outside −n .. n, n being the first
--   NoCounts s zs ps   == a round has just ended, and "the whole numbers, 0 or more, on those rows each extended by the three signs of Pi,
--                         that give every answer so far": there are none
--   IsKey              == what demand 3 says of the key of a done run
--   Claim              == what demand 3 says of the start's step, the products asked, the answers taken, the phase, the question total
--                         and the events
use Rattle.std.specs.Prelude.{◌≡◌, ◌≢◌, ◌⊎◌, ◌↔◌, List, [], ◌∷◌, ◌++◌, ℕ, ◌+◌, ◌*◌, ◌<◌, ◌≤◌, ℤ, pos, neg_ℤ, ◌<ℤ◌, length, get_or, take}
use Rattle.std.proofs.Math.Option.{Option}
use Rattle.refusals.specs.Limits.{most_polynomials}
use Rattle.signs.specs.Lists.{times}
use Rattle.signs.specs.Lists.{total as sum_below}
use Rattle.rounds.specs.Rows.{Row, IsAt, Oracle, realized, IsRealized, Fits}
use Rattle.rounds.specs.Rounds.{Counts, Answered, Determined, AtEnd, LastEnded, InOrder, RowsAfter}
use Rattle.rounds.specs.RoundEnd.{round_rows}
use Rattle.runs.specs.Run.{Step, ask, done, refused, Fetch, row, no_row, Copied, copied, not_copied, Copy, Phase, running, finished}
use Rattle.runs.specs.Run.{closed, State, start_of, answer_of, fetch_of, copy_of}

-- ---- calls, and what an observer sees of them

pub data Call : Type 0 where
  answer : ℤ → Call
  fetch : ℕ → Call
  copy : List ℕ → List ℕ → Call

pub data Event : Type 0 where
  answered : ℤ → Step → Event
  fetched : ℕ → Fetch → Event
  copied_to : List ℕ → List ℕ → Copy → Event

module _ (N : ℕ → List Row → List ℤ → Option (List Row)) where
  unfoldable pub state_after : State → List Call → State
  state_after r [] = r
  state_after r (answer z ∷ cs) = state_after (answer_of N r z).0 cs
  state_after r (fetch p ∷ cs) = state_after r cs
  state_after r (copy a b ∷ cs) = state_after r cs

  unfoldable pub events : State → List Call → List Event
  events r [] = []
  events r (answer z ∷ cs) = answered z (answer_of N r z).1 ∷ events (answer_of N r z).0 cs
  events r (fetch p ∷ cs) = fetched p (fetch_of r p) ∷ events r cs
  events r (copy a b ∷ cs) = copied_to a b (copy_of r a b) ∷ events r cs

-- a step heard in the phase f
unfoldable pub heard : Phase → Step → Phase
heard running (ask α) = running
heard running done = finished
heard running (refused k) = closed
heard finished x = finished
heard closed x = closed

unfoldable pub phase_of : Phase → List Event → Phase
phase_of f [] = f
phase_of f (answered z x ∷ t) = phase_of (heard f x) t
phase_of f (fetched p x ∷ t) = phase_of f t
phase_of f (copied_to a b x ∷ t) = phase_of f t

unfoldable pub takes : {A : Type 0} → Phase → List A → List A → List A
takes running a l = a ++ l
takes finished a l = l
takes closed a l = l

unfoldable pub taken : Phase → List Event → List ℤ
taken f [] = []
taken f (answered z x ∷ t) = takes f (z ∷ []) (taken (heard f x) t)
taken f (fetched p x ∷ t) = taken f t
taken f (copied_to a b x ∷ t) = taken f t

unfoldable pub asks : Step → List ℕ
asks (ask α) = α ∷ []
asks done = []
asks (refused k) = []

unfoldable pub given : Phase → List Event → List ℕ
given f [] = []
given f (answered z x ∷ t) = takes f (asks x) (given (heard f x) t)
given f (fetched p x ∷ t) = given f t
given f (copied_to a b x ∷ t) = given f t

unfoldable pub numbers : Step → List ℕ
numbers (ask α) = []
numbers done = []
numbers (refused k) = k ∷ []

unfoldable pub closed_by : Phase → List Event → List ℕ
closed_by f [] = []
closed_by f (answered z x ∷ t) = takes f (numbers x) (closed_by (heard f x) t)
closed_by f (fetched p x ∷ t) = closed_by f t
closed_by f (copied_to a b x ∷ t) = closed_by f t

-- ---- 7 after done or closed, and only then

unfoldable pub Proper : Phase → Step → Type 0
Proper running (ask α) = Unit {0}
Proper running done = Unit {0}
Proper running (refused k) = (k ≡ 8) ⊎ ((k ≡ 9) ⊎ (k ≡ 10))
Proper finished x = x ≡ refused 7
Proper closed x = x ≡ refused 7

unfoldable pub Orderly : Phase → List Event → Type 0
Orderly f [] = Unit {0}
Orderly f (answered z x ∷ t) = Proper f x × Orderly (heard f x) t
Orderly f (fetched p x ∷ t) = Orderly f t
Orderly f (copied_to a b x ∷ t) = Orderly f t

-- ---- rows fetched and copied

-- position p of a key K fetches row p, and past the last 14
pub record FetchedFrom (K : List Row) (p : ℕ) (x : Fetch) : Type 0 where
  pub below : p < length K → (r : Row) × IsAt K p r × (x ≡ row r)
  pub past : length K ≤ p → x ≡ no_row 14

-- the slice a, with f of each row of K written to it in order; what lies past them is kept
pub record Written (f : Row → ℕ) (K : List Row) (a a' : List ℕ) : Type 0 where
  pub as_long : length a' ≡ length a
  pub rows : (p : ℕ) (r : Row) → IsAt K p r → get_or a' p 0 ≡ f r
  pub past : (p : ℕ) → length K ≤ p → get_or a' p 0 ≡ get_or a p 0

-- a copy that writes nothing
abbrev pub Refused : ℕ → List ℕ → List ℕ → Copy → Type 0
Refused k a b x = (x.result ≡ not_copied k) × (x.patterns_left ≡ a) × (x.counts_left ≡ b)

-- slices of at least r get all rows, and the call says how many; a shorter one, and nothing is written, 15
pub record CopiedFrom (K : List Row) (a b : List ℕ) (x : Copy) : Type 0 where
  pub fits : length K ≤ length a → length K ≤ length b
      → (x.result ≡ copied (length K)) × Written (λ r. r.pattern) K a x.patterns_left × Written (λ r. r.count) K b x.counts_left
  pub short : (length a < length K) ⊎ (length b < length K) → Refused 15 a b x

unfoldable pub Served : Phase → List Row → List Event → Type 0
Served f K [] = Unit {0}
Served f K (answered z x ∷ t) = Served (heard f x) K t
Served running K (fetched p x ∷ t) = (x ≡ no_row 7) × Served running K t
Served finished K (fetched p x ∷ t) = FetchedFrom K p x × Served finished K t
Served closed K (fetched p x ∷ t) = (x ≡ no_row 7) × Served closed K t
Served running K (copied_to a b x ∷ t) = Refused 7 a b x × Served running K t
Served finished K (copied_to a b x ∷ t) = CopiedFrom K a b x × Served finished K t
Served closed K (copied_to a b x ∷ t) = Refused 7 a b x × Served closed K t

unfoldable pub NoRows : List Event → Type 0
NoRows [] = Unit {0}
NoRows (answered z x ∷ t) = NoRows t
NoRows (fetched p x ∷ t) = (x ≡ no_row 7) × NoRows t
NoRows (copied_to a b x ∷ t) = Refused 7 a b x × NoRows t

-- ---- which number closes, from the answers taken

-- "first answer below 0 or above 64"
abbrev pub FirstOut : List ℤ → Type 0
FirstOut zs = (z : ℤ) × (later : List ℤ) × (zs ≡ z ∷ later) × ((z <ℤ pos 0) ⊎ (pos 64 <ℤ z))

abbrev pub Outside : ℕ → ℤ → Type 0
Outside n z = (z <ℤ neg_ℤ (pos n)) ⊎ (pos n <ℤ z)

unfoldable pub SomeOutside : ℕ → List ℤ → Type 0
SomeOutside n [] = ⊥
SomeOutside n (z ∷ zs) = Outside n z ⊎ SomeOutside n zs

-- "a later answer outside −n .. n"
abbrev pub LaterOut : List ℤ → Type 0
LaterOut zs = (n : ℕ) × (later : List ℤ) × (zs ≡ pos n ∷ later) × SomeOutside n later

-- "a round's answers fit no counts"
abbrev pub NoCounts : ℕ → List ℤ → List ℕ → Type 0
NoCounts s zs ps = (i : ℕ) × (i < s) × (a : Answered i (Determined i) zs ps) × ((R : List Row) → Counts i a.rows ps zs R → ⊥)

-- ---- the claim

abbrev pub SomeFits : ℕ → List ℕ → List ℤ → Type 0
SomeFits s ps zs = (E : List ℕ) × Oracle s E × Fits s E ps zs

-- one product more than answers is asked while the run goes on
unfoldable pub waiting : Phase → ℕ
waiting running = 1
waiting finished = 0
waiting closed = 0

-- K is the key of a done run, from the products ps asked, the answers zs taken, the question total and the events t
pub record IsKey (s : ℕ) (ps : List ℕ) (zs : List ℤ) (total : ℕ) (t : List Event) (K : List Row) : Type 0 where
  -- "All examiners that fit a done run have the same list, which is the key"
  pub same_list : (E : List ℕ) → Oracle s E → Fits s E ps zs → realized s E ≡ K
  -- "each pattern that occurs, once, in rising order, with its true count"
  pub true_list : (E : List ℕ) → Oracle s E → Fits s E ps zs → IsRealized E K
  -- "The rows fetched or copied are exactly the key's"
  pub served : Served running K t
  -- "With s polynomials and r patterns in the key, the question total of a done run is at most 2rs+1"
  pub few : total ≤ 2 * length K * s + 1

-- of the step x of the start, and of the products ps asked, the answers zs taken, the phase f and the question total at the end of the
-- events t
pub record Claim (s : ℕ) (x : Step) (ps : List ℕ) (zs : List ℤ) (f : Phase) (total : ℕ) (t : List Event) : Type 0 where
  -- "Round 0 asks product 0"
  pub starts : x ≡ ask 0
  -- 7 is given after done or closed, and only there
  pub orderly : Orderly running t
  -- "The first one taken answers product 0, each later one the product that the one before gave to ask"
  pub answer_each : length ps ≡ length zs + waiting f
  -- "No product was asked twice"
  pub once : (α : ℕ) → times α ps ≤ 1
  -- "and the question total is the number of answers taken"
  pub counted : total ≡ length zs
  -- "always the next of the rounds' products in the order given for them"
  pub in_order : InOrder s zs ps
  -- "While an examiner fits these answers the run isn't closed"
  pub open_while : SomeFits s ps zs → f ≢ closed
  -- "once none fits it is closed, at the latest at the end of that round": where none fits the first k answers and a round ends with the
  -- first m of them, k ≤ m, the run is closed, and no answer was taken after the m-th
  pub closed_by_number : (k m i : ℕ) (qs : List ℕ) → k ≤ m → m ≤ length zs → i ≤ s → (SomeFits s ps (take k zs) → ⊥)
      → AtEnd i (take m zs) qs
      → (f ≡ closed) × (length zs ≡ m)
  -- "first answer below 0 or above 64": 8, and for nothing else
  pub closed_by_8 : (closed_by running t ≡ 8 ∷ []) ↔ FirstOut zs
  -- "a later answer outside −n .. n": 9, and for nothing else
  pub closed_by_9 : (closed_by running t ≡ 9 ∷ []) ↔ LaterOut zs
  -- "10 at a round's last answer", which is in limits, where the answers "fit no counts", and for nothing else
  pub closed_by_10 : (closed_by running t ≡ 10 ∷ []) ↔ (NoCounts s zs ps × (LaterOut zs → ⊥))
  -- 8 and 9 close at once: no answer was taken after one that is out of its limits
  pub at_once : (k : ℕ) → k < length zs → FirstOut (take k zs) ⊎ LaterOut (take k zs) → ⊥
  -- "it is done exactly when its last round has ended and an examiner fits"
  pub done_when : (f ≡ finished) ↔ (LastEnded s zs × SomeFits s ps zs)
  -- the key of a done run, and the rows that it served; "before that, and on a closed run, no row is fetched or copied"
  pub key : f ≡ finished → (K : List Row) × IsKey s ps zs total t K
  pub no_rows : f ≢ finished → NoRows t
  -- "With r(i) the number of rows after round i, and r(0) = 1, a done run with n > 0 has asked exactly 1 + 2 × (r(0) + .. + r(s−1))
  -- products"
  pub exact : f ≡ finished → zs ≢ pos 0 ∷ [] → (r : ℕ → ℕ) × ((i : ℕ) → i < s → RowsAfter i zs (r i)) × (r 0 ≡ 1)
      × (total ≡ 1 + 2 * sum_below r s)
  -- "at most 593"
  pub most : f ≡ finished → s ≤ most_polynomials → total ≤ 593

-- the claim after a list of calls, for a run that ends its rounds by N
abbrev pub ClaimFor : (ℕ → List Row → List ℤ → Option (List Row)) → ℕ → List Call → Type 0
ClaimFor N s calls =
    Claim s (ask 0) (0 ∷ given running (events N (start_of s) calls)) (taken running (events N (start_of s) calls))
    (phase_of running (events N (start_of s) calls)) (state_after N (start_of s) calls).total (events N (start_of s) calls)

-- DEMAND 3
abbrev pub Demand3 : Type 0
Demand3 = (s : ℕ) → 1 ≤ s → s ≤ most_polynomials → (calls : List Call) → ClaimFor round_rows s calls
