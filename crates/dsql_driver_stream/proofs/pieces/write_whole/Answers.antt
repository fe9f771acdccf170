use Rattle.std.proofs.Common.{◌∙◌, arith}
use Rattle.std.proofs.lemmas.Grind.{common_steps}
use Rattle.dsql_driver_stream.proofs.Fronts.{written_on}
use Rattle.dsql_driver_stream.proofs.pieces.write_whole.Goals as goal

pub loop-written-preserved : goal.loop-written-preserved
loop-written-preserved g c = record {
  within = omega (arith, c.in-Ok.ensures.within);
  front = written_on c.loop-written.written c.in-Ok.n c.args.piece.now _ _ _ c.loop-written.invariant.within c.loop-written.invariant.front c.in-Ok.ensures.appended;
  faultless = c.in-Ok.ensures.faultless ∙ c.loop-written.invariant.faultless;
  untouched = grind (arith, common_steps);
}
