use Rattle.std.proofs.Common.{◌≡◌, ◌≢◌, ◌≤◌, ◌+◌, ◌-◌, true, All, vec_len, vec_capacity}
use Rattle.dsql_driver_stream.specs.declared.lines.TheConstants.{LONGEST}
use Rattle.dsql_driver_stream.specs.Lines.{ahead, SawTheEnd, TakesOff}
use Rattle.dsql_driver_stream.proofs.lines.LineReader.next_line.Given as goal

abbrev pub decreases-loop-self : goal.decreases-loop-self
decreases-loop-self g l = LONGEST + 1 - vec_len l.line

abbrev pub invariant-loop-self : goal.invariant-loop-self
invariant-loop-self g l = record {
  taken : TakesOff l.line.items (ahead l.initial.self (g.S.Source.left l.initial.source)) (ahead l.self (g.S.Source.left l.source));
  feedless : All (λ byte. byte ≢ 10) l.line.items;
  short : vec_len l.line ≤ LONGEST + 1;
  roomy : LONGEST + 1 ≤ vec_capacity l.line;
  faultless : g.S.Source.faults l.source ≡ g.S.Source.faults l.initial.source;
  after_end : l.initial.self.ended ≡ true → (l.source ≡ l.initial.source) × (l.self.ended ≡ true);
  sees : SawTheEnd l.initial.self (g.S.Source.left l.initial.source) → SawTheEnd l.self (g.S.Source.left l.source);
}
