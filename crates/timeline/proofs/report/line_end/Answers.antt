-- The first line feed is the first byte that passes, and without one the line has all bytes.
use Rattle.std.proofs.Common.{◌≡◌, ℕ, Option, length, ap, ◌∙◌, position, rules, tests, unwrap_or}
use Rattle.std.proofs.lemmas.Iterator.{YieldsList-from_slice}
use Rattle.std.proofs.lemmas.Iterator.Search.{position_from_yields_List}
use Rattle.dsql_driver_stream.specs.Lines.{is_line_feed}
use Rattle.timeline.proofs.Lines.{unwrapped_position}
use Rattle.timeline.proofs.report.line_end.Goals as goal

pub returns-clause-end : goal.returns-clause-end
returns-clause-end c =
    let bytes = c.args.bytes.now in
    let first : c.position.result ≡ position is_line_feed bytes
    = position_from_yields_List is_line_feed _ _ c.position.result c.position.ensures.ran (YieldsList-from_slice bytes cc) (λ x b q k. search (rules, tests)) in
    c.unwrap_or.ensures ∙ (ap (λ (place : Option ℕ). unwrap_or place (length bytes)) first ∙ unwrapped_position is_line_feed bytes)
