-- Lists f 0, .., f (n − 1), one after the other, and a list by its pieces.
use mathlib.Core.Path.{◌≡◌, refl, sym, ap, ◌∙◌}
use mathlib.Core.List.{List, [], ◌∷◌, ◌++◌, map, flat_map, append-nil, append_assoc, map-append, map-map}
use Prim.Native.Nat.{ℕ, zero, suc, ◌<◌}
use native.Mathlib.Omega.{arith}
use lib.ListN.{length, get_or, drop, length-map}
use lib.Seq.{ext_get_or}
use Rattle.signs.specs.Lists.{up_to}
use Rattle.layout.proofs.Contents.{up_to-long, map-up_to-at}

-- ---- 0, 1, .., n − 1, by its first number and by its last one

pub up_to-first : (n : ℕ) → up_to (suc n) ≡ 0 ∷ map suc (up_to n)
unfolding up_to
up_to-first zero = refl
up_to-first (suc n) =
    ap (λ (l : List ℕ). l ++ (suc n ∷ [])) (up_to-first n) ∙ ap (λ (l : List ℕ). 0 ∷ l) (sym (map-append suc (up_to n) (n ∷ [])))

module _ {B : Type 0} where
  pub map_first : (f : ℕ → B) (n : ℕ) → map f (up_to (suc n)) ≡ f 0 ∷ map (λ i. f (suc i)) (up_to n)
  map_first f n = rw up_to-first (ap (λ (l : List B). f 0 ∷ l) (map-map f suc (up_to n)))

  pub flat_map_map : {A : Type 0} (f : A → List B) (g : ℕ → A) (l : List ℕ) → flat_map f (map g l) ≡ flat_map (λ i. f (g i)) l
  unfolding flat_map
  flat_map_map f g [] = refl
  flat_map_map f g (x ∷ l) = ap (λ (k : List B). f (g x) ++ k) (flat_map_map f g l)

  pub flat_map_first : (f : ℕ → List B) (n : ℕ) → flat_map f (up_to (suc n)) ≡ f 0 ++ flat_map (λ i. f (suc i)) (up_to n)
  unfolding flat_map
  flat_map_first f n = rw up_to-first (ap (λ (l : List B). f 0 ++ l) (flat_map_map f suc (up_to n)))

  pub flat_map_last : (f : ℕ → List B) (l : List ℕ) (i : ℕ) → flat_map f (l ++ (i ∷ [])) ≡ flat_map f l ++ f i
  unfolding flat_map
  flat_map_last f [] i = append-nil (f i)
  flat_map_last f (x ∷ l) i = rw (flat_map_last f l i) (sym (append_assoc (f x) (flat_map f l) (f i)))

  pub flat_map_ext : (f g : ℕ → List B) (n : ℕ) → ((k : ℕ) → k < n → f k ≡ g k) → flat_map f (up_to n) ≡ flat_map g (up_to n)
  unfolding up_to flat_map
  flat_map_ext f g zero e = refl
  flat_map_ext f g (suc n) e =
      rw (flat_map_last f (up_to n) n, flat_map_last g (up_to n) n, flat_map_ext f g n (λ k h. e k (omega arith)), e n (omega arith))

-- f 0, .., f (n − 1) is the list of n elements that has f k at each place k
pub map-up_to_is : {B : Type 0} (f : ℕ → B) (n : ℕ) (l : List B) (b : B) → n ≡ length l → ((k : ℕ) → k < length l → f k ≡ get_or l k b)
    → map f (up_to n) ≡ l
map-up_to_is f n l b e at =
    let m = length-map (up_to n) f ∙ up_to-long n in
    ext_get_or b (map f (up_to n)) l (m ∙ e) (λ k h. map-up_to-at f n k b (omega arith) ∙ at k (omega arith))

-- a list from place p 0 on, where each piece f i stands from place p i up to place p (i + 1)
pub pieces : {A : Type 0} (c : List A) (p : ℕ → ℕ) (f : ℕ → List A) (n : ℕ)
    → ((i : ℕ) → i < n → drop (p i) c ≡ f i ++ drop (p (suc i)) c) → drop (p 0) c ≡ flat_map f (up_to n) ++ drop (p n) c
unfolding up_to flat_map
pieces c p f zero h = refl
pieces c p f (suc n) h =
    pieces c p f n (λ i l. h i (omega arith))
    ∙ rw (h n (omega arith), flat_map_last f (up_to n) n) (sym (append_assoc (flat_map f (up_to n)) (f n) (drop (p (suc n)) c)))
