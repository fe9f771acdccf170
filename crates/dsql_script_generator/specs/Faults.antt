-- Why not all of a script was written.
use Rattle.std.specs.Prelude.{Bool, true, false, Result, Err}
use Rattle.dsql_script_generator.specs.declared.pieces.GenerateFault.{GenerateFault}
use Rattle.dsql_script_generator.specs.declared.pieces.GenerateFault.TheVariants.{Failed}

-- Is true if the sink failed.
abbrev pub is_sink_fault : Result Unit GenerateFault → Bool
is_sink_fault (Err Failed) = true
is_sink_fault _ = false
