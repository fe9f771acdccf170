-- The rule holds of the first pass.
use Rattle.dsql_hall_bonds.proofs.Moves.{begins}
use Rattle.dsql_hall_bonds.proofs.unnamed.Unnamed.new.Goals as goal

pub of_words-requires : goal.of_words-requires
of_words-requires c = begins
