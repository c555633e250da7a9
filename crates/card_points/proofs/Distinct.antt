-- The points at the places of `places_of` are the points of the card's contents, each once: points never fall, so that equal ones stand
-- together.
use mathlib.Core.Path.{◌≡◌, refl, sym, ap, ap₂, ◌∙◌, subst}
use mathlib.Core.Logic.{◌⊎◌, inl, inr, ⊎_elim}
use mathlib.Core.Bool.{Bool, true, false, cond, false≢true}
use mathlib.Core.List.{List, [], ◌∷◌, ◌++◌, map, map-append, map-map, append-nil}
use Prim.Native.Nat.{ℕ, zero, suc, ◌<◌, ◌≤◌}
use native.Mathlib.Omega.{arith}
use native.Mathlib.Decide.{dec_le}
use lib.IntN.{ℤ, pos}
use lib.ListN.{length, get_or, length-append, length-map}
use lib.Seq.{get_or-take}
use lib.Signed.{◌≤ℤ◌, lt_z}
use Rattle.refusals.specs.Limits.{most_points}
use Rattle.integers.proofs.Parts.{int}
use Rattle.integers.proofs.Tests.{bool_cases}
use Rattle.signs.specs.Lists.{up_to}
use Rattle.contents.specs.Distinct.{distinct, In}
use Rattle.contents.proofs.Distinct.{append_in, in_left, in_right, distinct-again, distinct_new}
use Rattle.contents.proofs.Once.{in_map, map_in}
use Rattle.layout.specs.Format.{byte, point_count, point_of}
use Rattle.layout.proofs.Contents.{map_at}
use Rattle.plane.specs.Format.{Point}
use Rattle.plane.specs.Contents.{card_point, same_point, contents_of}
use Rattle.plane.proofs.Contents.{line-point, plane-point, point_equality}
use Rattle.plane_checks.specs.Claim.{InOrder}
use Rattle.card.specs.Sound.{Sound}
use Rattle.card_points.specs.Places.{repeats, places_to, places_of, Placed}

-- ---- the order of points

order_self : (p : Point) → InOrder p p
order_self p = inr (refl, omega int)

order_trans : (p q r : Point) → InOrder p q → InOrder q r → InOrder p r
order_trans p q r (inl a) (inl b) = inl (omega int)
order_trans p q r (inl a) (inr (b, d)) = inl (rw (← b) a)
order_trans p q r (inr (a, d)) (inl b) = inl (rw a b)
order_trans p q r (inr (a, d)) (inr (b, e)) = inr (a ∙ b, omega int)

order_both : (p q : Point) → InOrder p q → InOrder q p → p ≡ q
order_both p q (inl a) (inl b) = absurd (omega int)
order_both p q (inl a) (inr (b, d)) = absurd (omega int)
order_both p q (inr (a, d)) (inl b) = absurd (omega int)
order_both p q (inr (a, d)) (inr (b, e)) = let y : p.1 ≡ q.1 = omega int in ap₂ (λ (u v : ℤ). (u, v)) a y

-- ---- the numbers below n

in_up_to : (i n : ℕ) → In i (up_to n) → i < n
unfolding up_to In
in_up_to i zero h = absurd h
in_up_to i (suc n) h =
    ⊎_elim (λ j. let g = in_up_to i n j in omega arith) (λ j. ⊎_elim (λ e. omega arith) absurd j) (append_in i (up_to n) (n ∷ []) h)

up_to_in : (i n : ℕ) → i < n → In i (up_to n)
unfolding up_to In
up_to_in i zero h = absurd (omega arith)
up_to_in i (suc n) h = go (dec_le (suc i) n) (up_to_in i n)
  where
    go : Dec (i < n) → (i < n → In i (up_to n)) → In i (up_to n ++ (n ∷ []))
    go (yes l) ih = in_left i (up_to n) (n ∷ []) (ih l)
    go (no l) ih = in_right i (up_to n) (n ∷ []) (inl (omega arith))

module _ (c : List ℕ) (S : Sound c) where
  -- a point of a sound card is not above the next
  next : (k : ℕ) → suc k < point_count c → InOrder (card_point c k) (card_point c (suc k))
  next k h = ⊎_elim on_line in_plane S.kind
    where
      level : (x y : ℤ) → x ≤ℤ y → InOrder (x, pos 0) (y, pos 0)
      level x y g = ⊎_elim (λ t. inl (omega int)) (λ t. inr (omega int, omega int)) (bool_cases (lt_z x y))

      on_line : byte c 0 ≡ 1 → InOrder (card_point c k) (card_point c (suc k))
      on_line e = rw (line-point c e k, line-point c e (suc k)) (level (point_of c k) (point_of c (suc k)) ((S.points.line e).rising k h))

      in_plane : byte c 0 ≡ 2 → InOrder (card_point c k) (card_point c (suc k))
      in_plane e = rw (plane-point c e k, plane-point c e (suc k)) ((S.points.plane e).rising k h)

  -- nor above any later one
  later : (i j : ℕ) → i ≤ j → j < point_count c → InOrder (card_point c i) (card_point c j)
  later i zero h g = subst (λ (k : ℕ). InOrder (card_point c i) (card_point c k)) (omega arith) (order_self (card_point c i))
  later i (suc j) h g = go (dec_le i j) (later i j)
    where
      go : Dec (i ≤ j) → (i ≤ j → j < point_count c → InOrder (card_point c i) (card_point c j))
          → InOrder (card_point c i) (card_point c (suc j))
      go (yes l) ih = order_trans (card_point c i) (card_point c j) (card_point c (suc j)) (ih l (omega arith)) (next j g)
      go (no l) ih = subst (λ (k : ℕ). InOrder (card_point c i) (card_point c k)) (omega arith) (order_self (card_point c i))

  -- ---- a point stands among those before it exactly where it is the one before it

  abbrev before : ℕ → List Point
  before k = map (card_point c) (up_to k)

  stands : (k : ℕ) → repeats c k ≡ true → In (card_point c k) (before k)
  unfolding repeats
  stands zero t = absurd (false≢true t)
  stands (suc k) t =
      subst (λ (p : Point). In p (before (suc k))) (point_equality.equal (card_point c k) (card_point c (suc k)) t)
      (in_map (card_point c) k (up_to (suc k)) (up_to_in k (suc k) (omega arith)))

  stood : (k : ℕ) → k < point_count c → In (card_point c k) (before k) → repeats c k ≡ true
  unfolding repeats
  stood zero h i = unfold up_to In in absurd i
  stood (suc k) h i =
      let (j, w, e) = map_in (card_point c) (card_point c (suc k)) (up_to (suc k)) i in
      let l = in_up_to j (suc k) w in
      let f : card_point c k ≡ card_point c (suc k) =
      order_both (card_point c k) (card_point c (suc k)) (next k h)
      (subst (λ (p : Point). InOrder p (card_point c k)) (sym e) (later j k (omega arith) (omega arith))) in
      rw f (point_equality.self (card_point c (suc k)))

  -- THE LAW
  places_to_lem : (n : ℕ) → n ≤ point_count c → map (card_point c) (places_to c n) ≡ distinct same_point (before n)
  unfolding places_to up_to
  places_to_lem zero h = unfold distinct in refl
  places_to_lem (suc k) h = go (bool_cases (repeats c k)) (places_to_lem k (omega arith))
    where
      go : (repeats c k ≡ true) ⊎ (repeats c k ≡ false) → map (card_point c) (places_to c k) ≡ distinct same_point (before k)
          → map (card_point c) (places_to c k ++ cond (repeats c k) [] (k ∷ [])) ≡ distinct same_point
          (map (card_point c) (up_to k ++ (k ∷ [])))
      go (inl t) ih =
          rw (t, append-nil, map-append (card_point c) (up_to k) (k ∷ []))
          (ih ∙ sym (distinct-again same_point point_equality (card_point c k) (before k) (stands k t)))
      go (inr t) ih =
          rw (t, map-append (card_point c) (places_to c k) (k ∷ []), map-append (card_point c) (up_to k) (k ∷ []), ih)
          (sym (distinct_new same_point point_equality (card_point c k) (before k) (λ i. false≢true (sym t ∙ stood k (omega arith) i))))

  pub places-points : map (card_point c) (places_of c) ≡ (contents_of c).points
  places-points = places_to_lem (point_count c) (omega arith)

-- ---- each is a place on the card, and they are few

at_in : (l : List ℕ) (k : ℕ) → k < length l → In (get_or l k 0) l
unfolding In
at_in [] k h = absurd (omega arith)
at_in (x ∷ l) zero h = inl refl
at_in (x ∷ l) (suc k) h = inr (at_in l k (omega arith))

module _ (c : List ℕ) where
  places-below : (n k : ℕ) → In k (places_to c n) → k < n
  unfolding places_to In
  places-below zero k i = absurd i
  places-below (suc n) k i = ⊎_elim (λ j. let g = places-below n k j in omega arith) (last (repeats c n)) (append_in k (places_to c n) _ i)
    where
      last : (t : Bool) → In k (cond t [] (n ∷ [])) → k < suc n
      last true j = absurd j
      last false j = ⊎_elim (λ e. omega arith) absurd j

  pub places-few : (n : ℕ) → length (places_to c n) ≤ n
  unfolding places_to
  places-few zero = omega arith
  places-few (suc n) = go (repeats c n) (places-few n)
    where
      go : (t : Bool) → length (places_to c n) ≤ n → length (places_to c n ++ cond t [] (n ∷ [])) ≤ suc n
      go true h = simp length-append (omega arith)
      go false h = simp length-append (omega arith)

-- ---- a list that begins with the places

module _ (c : List ℕ) (S : Sound c) (l : List ℕ) (n : ℕ) (P : Placed c l n) where
  -- there is one for each point of the contents
  pub placed-many : n ≡ length (contents_of c).points
  placed-many = P.many ∙ sym (ap length (sym (places-points c S)) ∙ length-map (places_of c) (card_point c))

  pub placed-few : n ≤ most_points
  placed-few = omega (arith, P.many, places-few c (point_count c), S.n_most)

  -- place k is one on the card
  pub placed_there : (k : ℕ) → k < n → get_or l k 0 < point_count c
  placed_there k h =
      subst (λ (i : ℕ). i < point_count c) (ap (λ (m : List ℕ). get_or m k 0) (sym P.front) ∙ get_or-take n l k 0 h)
      (places-below c (point_count c) (get_or (places_of c) k 0) (at_in (places_of c) k (omega (arith, P.many))))

  -- and what f makes of point k of the contents is what it makes of the point there
  pub placed_at : {B : Type 0} (f : Point → B) (k : ℕ) (b : B) → k < n
      → get_or (map f (contents_of c).points) k b ≡ f (card_point c (get_or l k 0))
  placed_at f k b h =
      ap (λ (m : List Point). get_or (map f m) k b) (sym (places-points c S))
      ∙ ap (λ m. get_or m k b) (map-map f (card_point c) (places_of c))
      ∙ map_at (λ i. f (card_point c i)) (places_of c) k 0 b (omega (arith, P.many))
      ∙ ap (λ (i : ℕ). f (card_point c i)) (ap (λ (m : List ℕ). get_or m k 0) (sym P.front) ∙ get_or-take n l k 0 h)
