-- The answer of a call on a list of products as plain numbers, and back.
--
--   flat_numbered_of a == 0 where the numbers are written, else the number that refuses; with the position of a bad product, and 0 for it
--                       where there is none
--   flat_listing g    == the same, with the slice as it is left
--   numbered_from t   == written where the refusal is 0, refused with the position where it is 13, else refused by the number
--   ListPlain P t    == what P says of the answer that t stands for; the position is 0 but for a bad product, and the number is 0 or that
--                       of a refusal
use Rattle.std.specs.Prelude.{◌≡◌, ◌≢◌, ◌≤◌, cond, List, eqb, ℤ, Ok, Err, unwrap_or}
use Rattle.refusals.specs.Numbers.{wrong_product}
use Rattle.refusals.specs.Refusals.{number_of, by_number}
use Rattle.query_list.specs.Listing.{Listed, written, refused, refused_at}
use Rattle.tarski.specs.declared.FlatNumbered.{FlatNumbered}

unfoldable pub flat_numbered_of : Listed → FlatNumbered
flat_numbered_of (Ok u) = record { position = 0; refusal = 0 }
flat_numbered_of (Err e) = record { position = unwrap_or e.position 0; refusal = number_of e.refusal }

abbrev pub flat_listing : Listed × List ℤ → FlatNumbered × List ℤ
flat_listing g = (flat_numbered_of g.0, g.1)

unfoldable pub numbered_from : FlatNumbered → Listed
numbered_from t =
    cond (eqb t.refusal 0) written
    (cond (eqb t.refusal wrong_product) (refused_at (by_number wrong_product) t.position) (refused (by_number t.refusal)))

pub record ListPlain (Gives : Listed → Type 0) (t : FlatNumbered) : Type 0 where
  pub gives : Gives (numbered_from t)
  pub no_position : t.refusal ≢ 13 → t.position ≡ 0
  pub known : t.refusal ≤ 18
