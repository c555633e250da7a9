-- THEOREM of the code: the round trip (document 02, wish 2: "Each written card is read to the same polynomials and points, and each
-- accepted card is what the writer makes of them"), over the contracts of `write` and of the calls that read a card. The second half is of
-- line cards: byte 0 is 1.
use mathlib.Core.Path.{◌≡◌, refl, ap, ◌∙◌}
use mathlib.Core.List.{List, ◌++◌}
use Prim.Native.Nat.{ℕ, zero, suc, ◌<◌, ◌≤◌}
use contract.Lifetimes.{Lfts}
use denote.Ref.{Bor, MutBor}
use lib.IntN.{ℤ}
use lib.ListN.{length, take, drop}
use lib.Seq.{take-append_seam}
use borrow.Author.Tests.{le-ltb}
use Rattle.signs.specs.Lists.{Below}
use Rattle.polynomials.specs.Values.{evaluate}
use Rattle.layout.specs.Format.{byte, polynomials}
use Rattle.card.specs.Card.{refusal}
use Rattle.card.specs.Answers.{reading}
use Rattle.card.specs.declared.Shape.{Shape}
use Rattle.card.proofs.Calls.{read_gives, value-gives}
use Rattle.refusals.proofs.Causes.{first_none}
use Rattle.card.proofs.read.Reads as read
use Rattle.card.proofs.value.Reads as evaluated
use Rattle.card_bytes.specs.Bytes.{card_bytes}
use Rattle.card_bytes.specs.Causes.{write_cause}
use Rattle.card_bytes.specs.Lists.{degrees_of, coefficients_of, points_of, part}
use Rattle.card_bytes.specs.Claim.{IsRead}
use Rattle.card_bytes.proofs.Written.{written_read, written-counts}
use Rattle.card_bytes.proofs.Again.{read_written}
use Rattle.card_writer.specs.Writing.{writing}
use Rattle.std.proofs.Common.{Result, Ok}
use Rattle.refusals.specs.declared.Refusal.{Refusal}
use Rattle.card_writer.proofs.Calls.{placed-length}
use Rattle.card_writer.proofs.write.Reads as write

-- ---- written, then read

module _ (κs : Lfts 4) (ds : Bor (List ℕ)) (cs ps : Bor (List ℤ)) (out out' : MutBor (List ℕ)) (n : ℕ)
    (wrote : write.Learnt κs (ds, (cs, (ps, (out, tt)))) (Ok n) (ds, (cs, (ps, (out', tt)))))
    (κ : Lfts 1) (card : Bor (List ℕ)) (lent : card.now ≡ take n out'.now) where
  -- the card that is lent to the reader is the one that was written
  written-card : (write_cause ds.now cs.now ps.now ≡ 0) × (card.now ≡ card_bytes ds.now cs.now ps.now)
  unfolding writing
  written-card =
      let (m, l, p) = placed-length (card_bytes ds.now cs.now ps.now) out.now _ n wrote.0 in
      (first_none _ _ m, lent ∙ rw (wrote.1, p, l) (take-append_seam (card_bytes ds.now cs.now ps.now) _))

  same_lists : IsRead ds.now cs.now ps.now card.now
  same_lists = let (w, e) = written-card in rw e (written_read ds.now cs.now ps.now w)

  -- "Each written card is read to the same polynomials and points"
  pub write_read : (o : Result Shape Refusal) → read.Learnt κ (card, tt) o (card, tt)
      → (o ≡ Ok (record { polynomials = length ds.now; points = length ps.now })) × IsRead ds.now cs.now ps.now card.now
  write_read o l =
      let (w, e) = written-card in
      let (s, k) = written-counts ds.now cs.now ps.now w in
      ((read_gives κ card o l).inside same_lists.sound tt ∙ rw (e, s, k) refl, same_lists)

  -- and its polynomials have the values that the coefficients given say
  pub write_value : (j : ℕ) → j < length ds.now → (x : ℤ) (o : Result ℤ Refusal)
      → evaluated.Learnt κ (card, (j, (x, tt))) o (card, (j, (x, tt)))
      → o ≡ Ok (evaluate (part ds.now cs.now j) x)
  write_value j h x o l =
      let (w, e) = written-card in
      let (s, k) = written-counts ds.now cs.now ps.now w in
      let b : j < polynomials card.now = rw (e, s) h in
      (value-gives κ card j x o l).inside same_lists.sound same_lists.line b ∙ ap Ok (same_lists.contents.values j b x)

-- ---- read, then written

module _ (κ : Lfts 1) (card : Bor (List ℕ)) (shape : Shape) (read-it : read.Learnt κ (card, tt) (Ok shape) (card, tt))
    (bytes : Below 256 card.now) (line : byte card.now 0 ≡ 1)
    (κs : Lfts 4) (ds : Bor (List ℕ)) (cs ps : Bor (List ℤ)) (out out' : MutBor (List ℕ))
    (degrees : ds.now ≡ degrees_of card.now) (coefficients : cs.now ≡ coefficients_of card.now)
    (points : ps.now ≡ points_of card.now) where
  -- "each accepted card is what the writer makes of them", where the buffer has room for it
  pub read_write : length card.now ≤ length out.now → (o : Result ℕ Refusal)
      → write.Learnt κs (ds, (cs, (ps, (out, tt)))) o (ds, (cs, (ps, (out', tt))))
      → (o ≡ Ok (length card.now)) × (out'.now ≡ card.now ++ drop (length card.now) out.now)
  unfolding writing reading
  read_write room o (e, f) =
      let r = read_written card.now bytes line (accepted (refusal card.now) refl read-it) in
      let a = r.accepted in
      let b = r.again in
      rw (e, f, degrees, coefficients, points, a, b, le-ltb (length out.now) (length card.now) room) (refl, refl)
    where
      accepted : (m : ℕ) → refusal card.now ≡ m → Ok shape ≡ reading card.now → refusal card.now ≡ 0
      accepted zero e l = e
      accepted (suc m) e l = let x = rw e at l in cc
