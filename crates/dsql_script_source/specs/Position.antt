-- Defines the position of a reader in a script.
use Rattle.dsql_driver_stream.specs.Buffered.{Buffered}
use Rattle.dsql_script_reader.specs.ScriptHead.{Progress}

-- The bytes that were read beyond the lines taken out, and how far these lines have been read.
pub record Position : Type 0 where
  pub lines : Buffered
  pub reader : Progress

abbrev pub position : Buffered → Progress → Position
position lines reader = record { lines = lines; reader = reader }
