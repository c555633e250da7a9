-- The bodies: what is left to put after some of them, and what a turn of the loop that puts them keeps.
use mathlib.Core.Path.{◌≡◌, ap}
use mathlib.Core.Bool.{false}
use mathlib.Core.List.{List}
use Prim.Native.Nat.{ℕ, suc, ◌+◌, ◌*◌, ◌-◌, ◌≤◌, ◌<◌}
use native.Mathlib.Numerals.{add-one}
use native.Mathlib.Omega.{arith}
use borrow.Author.Tests.{ltb-false}
use lib.Dec.{ltb}
use lib.IntN.{ℤ}
use lib.ListN.{length, get_or, take, drop, length-drop}
use lib.Seq.{sets, length-take-le, drop-cons}
use Rattle.sequences.proofs.Stores.{sets_append}
use Rattle.integers.specs.Search.{outside}
use Rattle.card_bytes.specs.Bytes.{wanted, body_size, body, bodies}
use Rattle.card_bytes.specs.Causes.{some, polynomials_cause}
use Rattle.card_bytes.proofs.Lengths.{length-body}
use Rattle.card_writer.proofs.Checked.{some_at, first-sound, rest-sound, coefficients-small}

-- what holds of the polynomials from j on, whose coefficients are cs, and whose bodies are to begin at byte `place`
pub record Left (ds : List ℕ) (cs : List ℤ) (place j room : ℕ) : Type 0 where
  pub space : place + (length ds - j + 4 * wanted (drop j ds)) ≤ room
  pub long : length cs ≡ wanted (drop j ds)
  pub sound : polynomials_cause (drop j ds) cs ≡ 0

-- polynomial j among them, of degree d
pub record Next (ds : List ℕ) (cs : List ℤ) (place j room d : ℕ) : Type 0 where
  pub low : d ≤ 6
  pub ends : d + 1 ≤ length cs
  pub space : place + body_size d ≤ room
  pub long : length (take (d + 1) cs) ≡ d + 1
  pub small : some (outside 1000000) (take (d + 1) cs) ≡ false
  pub left : Left ds (drop (d + 1) cs) (place + body_size d) (j + 1) room

module _ (ds : List ℕ) (cs : List ℤ) (place j room : ℕ) (m : some (ltb 6) ds ≡ false) (h : j < length ds) where
  pub next : Left ds cs place j room → Next ds cs place j room (get_or ds j 0)
  unfolding wanted
  next l =
      let d = get_or ds j 0 in
      let e = drop-cons ds j 0 h in
      let w : wanted (drop j ds) ≡ (d + 1) + wanted (drop (suc j) ds) = ap wanted e in
      let p = rw e at l.sound in
      record {
        low = ltb-false 6 d (some_at (ltb 6) ds j 0 m h);
        ends = omega (arith, l);
        space = omega (arith, l);
        long = length-take-le (d + 1) cs (omega (arith, l));
        small = coefficients-small d _ (first-sound d (drop (suc j) ds) cs p);
        left = record {
          space = rw (add-one j) (omega (arith, l));
          long = rw (add-one j) (omega (arith, l, length-drop (d + 1) cs));
          sound = rw (add-one j) (rest-sound d (drop (suc j) ds) cs p);
        };
      }

-- putting its body, and then the rest, puts them all
pub bodies_turn : (ds out : List ℕ) (cs : List ℤ) (place j : ℕ) → j < length ds
    → length (take (get_or ds j 0 + 1) cs) ≡ get_or ds j 0 + 1
    → sets (sets out place (body (get_or ds j 0) (take (get_or ds j 0 + 1) cs))) (place + body_size (get_or ds j 0))
    (bodies (drop (j + 1) ds) (drop (get_or ds j 0 + 1) cs))
    ≡ sets out place (bodies (drop j ds) cs)
unfolding bodies
bodies_turn ds out cs place j h t =
    let d = get_or ds j 0 in
    let b = body d (take (d + 1) cs) in
    let e : place + body_size d ≡ place + length b = omega (arith, length-body d (take (d + 1) cs)) in
    rw (e, add-one j, drop-cons ds j 0) (sets_append b (bodies (drop (suc j) ds) (drop (d + 1) cs)) out place)
