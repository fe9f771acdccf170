use Rattle.std.proofs.Common.{◌≡◌, ap, sym, ◌∙◌, drop, take, eq-eqb, eqb-true}
use Rattle.dsql_driver_stream.specs.Buffered.{Buffered}
use Rattle.dsql_driver_stream.proofs.Windows.{window_nil, window_ends}
use Rattle.dsql_driver_stream.proofs.lines.LineReader.is_empty.Goals as goal

pub returns : goal.returns
returns c =
    let pending : drop c.self.inside.start (take c.self.inside.end c.self.inside.buffer.items) ≡ c.args.self.now.pending = ap (λ (r : Buffered). r.pending) c.self.view_is in
    let within = c.self.invariant in
    (λ same. sym pending ∙ window_nil _ _ _ (eqb-true _ _ same) within.1, λ none. eq-eqb _ _ (window_ends _ _ _ within.0 within.1 (pending ∙ none)))
