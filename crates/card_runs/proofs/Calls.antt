-- THEOREM of the code (document 02, wish 6): a run started with the s of a sound card and answered throughout by the panel number that the
-- calls on the card tell ends done, and its rows are the patterns of the card's points, counted. Each call is known by its contract alone:
-- `start`, `answer` through any of its entries, `fetch_row` and `copy_rows` (`Started`, `Took`, `Fetches`, `Copies`), and those on a card
-- below. Of the card it rests on its contents, with points of any type, and on the limits of s and n.
--
--   InOneCall c α o == `query` told o of the product α on the card c
--   OnOpened c α o  == `open` opened the card c, and `ask` told o of the product α on it
--   Tells c α o     == the one or the other
--   Shows o y       == the panel shows y of what was told: its `panel_number`, or the number that refuses
--   Asks c α y      == the card c is asked for the product α, and y is shown
--   Plays c k d x   == a run with the s of the card c, answered by it throughout: after k answers the record is d and the last step is x
use mathlib.Core.Path.{◌≡◌, refl, ap, ◌∙◌}
use mathlib.Core.List.{List}
use Prim.Native.Nat.{ℕ, ◌^◌, ◌<◌, ◌≤◌}
use native.Mathlib.Omega.{arith}
use contract.Lifetimes.{Lfts}
use denote.Ref.{Bor}
use lib.IntN.{ℤ}
use lib.ListN.{length}
use Rattle.refusals.specs.Limits.{most_points}
use Rattle.signs.specs.declared.Product.{Product}
use Rattle.sign_counts.specs.declared.SignCounts.{SignCounts}
use Rattle.sign_counts.proofs.panel_number.Reads as panel-number
use Rattle.layout.specs.Format.{polynomials}
use Rattle.plane.specs.Contents.{contents_of}
use Rattle.plane.proofs.Contents.{points-few}
use Rattle.card.specs.Sound.{Sound}
use Rattle.card.proofs.Sound.{unrefused}
use Rattle.query.specs.Query.{query_of}
use Rattle.query.specs.Claim.{Shown, number, shown_of, QueryGives}
use Rattle.query.specs.Claim as claim
use Rattle.std.specs.Prelude.{Result, Ok, Err}
use Rattle.refusals.specs.Refusals.{number_of}
use Rattle.refusals.specs.declared.Refusal.{Refusal}
use Rattle.query.specs.declared.Opened.{Opened}
use Rattle.query.proofs.Calls.{demand2_query, demand2_opened}
use Rattle.query.proofs.Opening.{opened-sound}
use Rattle.query.proofs.query.Reads as query
use Rattle.query.proofs.open.Reads as open-card
use Rattle.query.proofs.ask.Reads as ask-opened
use Rattle.runs.specs.Run.{Step, ask, done}
use Rattle.run_record.specs.declared.Run.{Run}
use Rattle.run_record.specs.Record.{state_of}
use Rattle.determination.proofs.Contracts.{Started, Took, Fetches, Copies, kept}
use Rattle.card_runs.specs.Claim.{Played, EndsDone}
use Rattle.card_runs.proofs.Runs.{ends-done, played_done}

-- ---- the calls on a card

pub record InOneCall (c : List ℕ) (α : ℕ) (o : Result SignCounts Refusal) : Type 2 where
  pub lifetimes : Lfts 1
  pub card : Bor (List ℕ)
  pub product : Product
  pub kept : query.Learnt lifetimes (card, (product, tt)) o (card, (product, tt))
  pub lent : card.now ≡ c
  pub of : product.0 ≡ α

pub record OnOpened (c : List ℕ) (α : ℕ) (o : Result SignCounts Refusal) : Type 2 where
  pub lifetimes : Lfts 1
  pub card : Bor (List ℕ)
  pub opened : Opened
  pub product : Product
  pub kept_open : open-card.Learnt lifetimes (card, tt) opened (card, tt)
  pub kept-ask : ask-opened.Learnt tt (opened, (product, tt)) o (opened, (product, tt))
  pub lent : card.now ≡ c
  pub of : product.0 ≡ α

pub data Tells (c : List ℕ) (α : ℕ) (o : Result SignCounts Refusal) : Type 2 where
  in_one_call : InOneCall c α o → Tells c α o
  on-opened : OnOpened c α o → Tells c α o

pub data Shows : Result SignCounts Refusal → Shown → Type 2 where
  counts : {t : SignCounts} {z : ℤ} → panel-number.Learnt tt (t, tt) z (t, tt) → Shows (Ok t) (claim.number z)
  refusal : {e : Refusal} → Shows (Err e) (claim.refused (number_of e))

pub record Asks (c : List ℕ) (α : ℕ) (y : Shown) : Type 2 where
  pub told : Result SignCounts Refusal
  pub tells : Tells c α told
  pub shows : Shows told y

abbrev pub Plays : List ℕ → ℕ → Run → Step → Type 2
Plays c k d x = Played Run Started Took (Asks c) (polynomials c) k d x

-- ---- what they show

tells_gives : (c : List ℕ) (α : ℕ) (o : Result SignCounts Refusal) → Tells c α o → QueryGives c α o
tells_gives c α o (in_one_call u) =
    rw (← u.lent, ← u.of) (demand2_query u.lifetimes u.card u.product o u.kept)
tells_gives c α o (on-opened u) =
    rw (← u.lent, ← u.of) (demand2_opened u.lifetimes u.card u.product o u.opened u.kept_open u.kept-ask)

shows_is : {o : Result SignCounts Refusal} {y : Shown} → Shows o y → y ≡ shown_of o
shows_is (counts e) = ap number e
shows_is refusal = refl

module _ (c : List ℕ) (S : Sound c) where
  -- the number shown of a product of a sound card is its query
  pub asks-query : (α : ℕ) (y : Shown) → α < 3 ^ polynomials c → Asks c α y → y ≡ number (query_of c α)
  asks-query α y b a = shows_is a.shows ∙ (tells_gives c α a.told a.tells).by_values.inside S b

  held : length (contents_of c).points ≤ most_points
  held = omega (arith, points-few c, S.n_most)

  -- THE THEOREM
  pub card_runs : {k : ℕ} {d : Run} {x : Step} → Plays c k d x → EndsDone (contents_of c) (Asks c) (Fetches d) (Copies d) k x
  card_runs =
      ends-done (contents_of c) Run state_of Started Took Fetches Copies kept (Asks c) asks-query S.s_least S.s_most held

  -- so it ends: where each call of such a run has a result, the run is played until it is done
  pub card-ends : ((d : Run) × (x : Step) × Started (polynomials c) d x)
      → ((k : ℕ) (d : Run) (α : ℕ) → Plays c k d (ask α) → (y : Shown) × Asks c α y)
      → ((k : ℕ) (d : Run) (α : ℕ) → Plays c k d (ask α) → (z : ℤ) → Asks c α (number z) → (d' : Run) × (x : Step) × Took d z d' x)
      → (k : ℕ) × (d : Run) × Plays c k d done
  card-ends =
      played_done (contents_of c) Run state_of Started Took Fetches Copies kept (Asks c) asks-query S.s_least S.s_most held

-- and s is what the opened card has
pub opened-s : (κs : Lfts 1) (card : Bor (List ℕ)) (o : Opened) → Sound card.now → open-card.Learnt κs (card, tt) o (card, tt)
    → o.s ≡ polynomials card.now
opened-s κs card o S e = ap (λ (k : Opened). k.s) (e ∙ opened-sound card.now (unrefused card.now S))
