use Rattle.std.proofs.Common.{◌≡◌, ◌≤◌, ◌-◌, ◌++◌, [], length, take, option_map}
use Rattle.dsql_driver_stream.proofs.pieces.write_whole.Given as goal

abbrev pub decreases-loop-written : goal.decreases-loop-written
decreases-loop-written g l = length l.piece - l.written

abbrev pub invariant-loop-written : goal.invariant-loop-written
invariant-loop-written g l = record {
  within : l.written ≤ length l.piece;
  front : g.K.Sink.written l.sink ≡ option_map (λ w. w ++ take l.written l.piece) (g.K.Sink.written l.initial.sink);
  faultless : g.K.Sink.faults l.sink ≡ g.K.Sink.faults l.initial.sink;
  untouched : l.piece ≡ [] → l.sink ≡ l.initial.sink;
}
