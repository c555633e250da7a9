-- The header of a card, case by case.
--
--   Headed c == what a sound header says: the header's causes are none of them there
use mathlib.Core.Path.{◌≡◌, ◌∙◌}
use mathlib.Core.Bool.{true, false, not, ◌||◌}
use mathlib.Core.Logic.{◌⊎◌}
use mathlib.Core.List.{List}
use Prim.Native.Nat.{ℕ, ◌≤◌, ◌<◌}
use borrow.Author.Tests.{lt-ltb, le-ltb, ltb-false, eq-eqb, ne_eqb}
use lib.Dec.{ltb, eqb}
use lib.ListN.{length}
use Rattle.refusals.specs.Numbers.{wrong_length, wrong_byte, wrong_count, ◌when◌, ◌▸◌}
use Rattle.layout.specs.Format.{byte, polynomials, point_count, offset, bodies_at}
use Rattle.card.specs.Card.{contents_refusal, header_refusal}
use Rattle.card.proofs.ByKind.{other, kind_of}
use Rattle.refusals.proofs.Causes.{first_none, then_none, holds_not, is_equal}
use Rattle.integers.proofs.Search.{left_false, right_false}

pub record Headed (c : List ℕ) : Type 0 where
  pub long : 4 ≤ length c
  pub byte0 : (byte c 0 ≡ 1) ⊎ (byte c 0 ≡ 2)
  pub byte3 : byte c 3 ≡ 0
  pub s_least : 1 ≤ polynomials c
  pub s_most : polynomials c ≤ 8
  pub n_most : point_count c ≤ 64
  pub contents : bodies_at c ≤ length c
  pub begins : offset c 0 ≡ bodies_at c

module _ (c : List ℕ) where
  pub headed : header_refusal c ≡ 0 → Headed c
  unfolding header_refusal contents_refusal
  headed e =
      let e1 = then_none (wrong_length when ltb (length c) 4) _ e in
      let e2 = then_none (wrong_byte when (other c || not (eqb (byte c 3) 0))) _ e1 in
      let e3 = then_none (wrong_count when (ltb (polynomials c) 1 || ltb 8 (polynomials c))) _ e2 in
      let e4 = then_none (wrong_count when ltb 64 (point_count c)) _ e3 in
      let e5 = then_none (wrong_length when ltb (length c) (bodies_at c)) _ e4 in
      let t2 = holds_not 1 (other c || not (eqb (byte c 3) 0)) (first_none _ _ e1) in
      let t3 = holds_not 2 (ltb (polynomials c) 1 || ltb 8 (polynomials c)) (first_none _ _ e2) in
      record {
        long = ltb-false (length c) 4 (holds_not 0 (ltb (length c) 4) (first_none _ _ e));
        byte0 = kind_of (byte c 0) (left_false (other c) (not (eqb (byte c 3) 0)) t2);
        byte3 = is_equal (byte c 3) 0 (right_false (other c) (not (eqb (byte c 3) 0)) t2);
        s_least = ltb-false (polynomials c) 1 (left_false (ltb (polynomials c) 1) (ltb 8 (polynomials c)) t3);
        s_most = ltb-false 8 (polynomials c) (right_false (ltb (polynomials c) 1) (ltb 8 (polynomials c)) t3);
        n_most = ltb-false 64 (point_count c) (holds_not 2 (ltb 64 (point_count c)) (first_none _ _ e3));
        contents = ltb-false (length c) (bodies_at c) (holds_not 0 (ltb (length c) (bodies_at c)) (first_none _ _ e4));
        begins = is_equal (offset c 0) (bodies_at c) (holds_not 3 (not (eqb (offset c 0) (bodies_at c))) e5);
      }

  module _ (long : 4 ≤ length c) where
    pub bad_byte0 : other c ≡ true → header_refusal c ≡ 2
    unfolding header_refusal
    bad_byte0 h = simp (le-ltb (length c) 4 long, h)

    module _ (byte0 : other c ≡ false) where
      pub bad_byte3 : (byte c 3 ≡ 0 → ⊥) → header_refusal c ≡ 2
      unfolding header_refusal
      bad_byte3 h = simp (le-ltb (length c) 4 long, byte0, ne_eqb (byte c 3) 0 h)

      module _ (byte3 : byte c 3 ≡ 0) where
        -- the causes after byte 0 and byte 3
        rest : header_refusal c ≡ (3 when (ltb (polynomials c) 1 || ltb 8 (polynomials c))
            ▸ 3 when ltb 64 (point_count c)
            ▸ contents_refusal c)
        unfolding header_refusal
        rest = simp (le-ltb (length c) 4 long, byte0, eq-eqb (byte c 3) 0 byte3)

        pub no_polynomial : polynomials c < 1 → header_refusal c ≡ 3
        no_polynomial h = rest ∙ simp (lt-ltb (polynomials c) 1 h)

        module _ (s_least : 1 ≤ polynomials c) where
          pub many-polynomials : 8 < polynomials c → header_refusal c ≡ 3
          many-polynomials h = rest ∙ simp (le-ltb (polynomials c) 1 s_least, lt-ltb 8 (polynomials c) h)

          module _ (s_most : polynomials c ≤ 8) where
            pub many-points : 64 < point_count c → header_refusal c ≡ 3
            many-points h =
                rest ∙ simp (le-ltb (polynomials c) 1 s_least, le-ltb 8 (polynomials c) s_most, lt-ltb 64 (point_count c) h)

            pub sound-counts : point_count c ≤ 64 → header_refusal c ≡ contents_refusal c
            sound-counts n_most =
                rest ∙ simp (le-ltb (polynomials c) 1 s_least, le-ltb 8 (polynomials c) s_most, le-ltb 64 (point_count c) n_most)

  pub too_short : length c < 4 → header_refusal c ≡ 1
  unfolding header_refusal
  too_short h = simp (lt-ltb (length c) 4 h)

  -- ---- the contents
  pub cut_contents : length c < bodies_at c → contents_refusal c ≡ 1
  unfolding contents_refusal
  cut_contents h = simp (lt-ltb (length c) (bodies_at c) h)

  module _ (whole : bodies_at c ≤ length c) where
    pub bad_first : (offset c 0 ≡ bodies_at c → ⊥) → contents_refusal c ≡ 4
    unfolding contents_refusal
    bad_first h = simp (le-ltb (length c) (bodies_at c) whole, ne_eqb (offset c 0) (bodies_at c) h)

    pub sound-contents : offset c 0 ≡ bodies_at c → contents_refusal c ≡ 0
    unfolding contents_refusal
    sound-contents h = simp (le-ltb (length c) (bodies_at c) whole, eq-eqb (offset c 0) (bodies_at c) h)
