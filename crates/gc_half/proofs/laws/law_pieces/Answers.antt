use Rattle.gc_half.proofs.PiecesLaw.{garbled_pieces, evaluated_pieces, input_labels-kept}
use Rattle.gc_half.proofs.laws.law_pieces.Goals as goal

pub returns : goal.returns
returns c = record {
  garbled = garbled_pieces;
  inputs = input_labels-kept;
  evaluated = evaluated_pieces;
}
