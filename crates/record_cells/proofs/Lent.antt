-- The types of the thin functions over a lent record, as walks compute with them: a record and a step.
use Rattle.lent_walks.proofs.Pieces.{Piece, struct_piece, enum_piece}
use Rattle.run_record.specs.contracts.Run as R
use Rattle.run_record.proofs.Run.TheLaws as R'
use Rattle.run_record.specs.contracts.Step as S
use Rattle.run_record.proofs.Step.TheLaws as S'

abbrev pub run : Piece
run = struct_piece R.the_type R'.the_laws R'.the_plain R'.the_copy

abbrev pub step : Piece
step = enum_piece S.the_type S'.the_laws tt S'.the_plain S'.the_copy
