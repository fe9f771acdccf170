use Rattle.dsql_script_generator.proofs.ScriptLemmas.{piece_grows}
use Rattle.dsql_script_generator.proofs.pieces.spell.Goals as goal

pub loop-line-preserved : goal.loop-line-preserved
loop-line-preserved c = piece_grows c.args.first c.loop-line.line c.loop-line.lines.items c.append_line.new.lines.items c.loop-line.invariant c.in_ok-append_line.ensures
