use Rattle.std.proofs.Common.{◌≡◌, ap, sym, ◌∙◌, drop, take}
use Rattle.dsql_driver_stream.specs.Buffered.{Buffered}
use Rattle.dsql_driver_stream.proofs.Windows.{window_run}
use Rattle.dsql_driver_stream.proofs.lines.LineReader.take_run.Goals as goal

pub returns-clause-run : goal.returns-clause-run
returns-clause-run c =
    let pending : drop c.self.inside.start (take c.self.inside.end c.self.inside.buffer.items) ≡ c.args.self.now.pending = ap (λ (r : Buffered). r.pending) c.self.view_is in (
      _,
      c.in-Ok.ensures.items,
      sym pending ∙ rw c.deref.ensures.value (window_run c.run_length-count.result c.min.result c.self.inside.start c.self.inside.end _ c.self.invariant.0 (rw (← c.deref.ensures.value) c.run_length-count.ensures.within)),
      c.run_length-count.ensures.feedless,
    )
