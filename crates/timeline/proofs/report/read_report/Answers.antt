-- The lines so far are those of the events, and the lines that are left follow.
use Rattle.std.proofs.Common.{◌≡◌, false, length, nat_eq, arith}
use Rattle.std.proofs.lemmas.List.{length_push}
use Rattle.dsql_driver_stream.specs.Lines.{all_lines}
use Rattle.timeline.proofs.Lines.{not_empty, read_more, is_refused, stops_full, stops_refused}
use Rattle.timeline.proofs.report.read_report.Goals as goal

pub returns-then-number-gt-MOST_EVENTS-clause-read : goal.returns-then-number-gt-MOST_EVENTS-clause-read
returns-then-number-gt-MOST_EVENTS-clause-read c =
    let empty : false ≡ nat_eq (length c.loop-rest.rest.now) 0 = cc in
    let some = not_empty (length c.loop-rest.rest.now) empty in
    stops_full (all_lines c.args.report.now) c.loop-rest.events.items c.loop-rest.rest.now _ c.refusal-refused.result some c.loop-rest.invariant.read
    (omega (arith, c.len-number.ensures, c.loop-rest.events.ok.0))
    (omega (arith, c.len-number.ensures, c.loop-rest.events.ok.0, c.loop-rest.invariant.few, c.if-number-gt-MOST_EVENTS.true))
    c.refusal-refused.ensures

pub loop-rest-preserved : goal.loop-rest-preserved
loop-rest-preserved c =
    let empty : false ≡ nat_eq (length c.loop-rest.rest.now) 0 = cc in
    let some = not_empty (length c.loop-rest.rest.now) empty in
    record {
      read = rw c.in_ok-push-in-Ok.ensures.items
          (read_more _ c.loop-rest.events.items c.in-Ok.event c.loop-rest.rest.now c.split_line.result.0.now c.split_line.result.1.now some c.split_line.ensures.line c.split_line.ensures.rest c.in-Ok.ensures.reading c.loop-rest.invariant.read);
      few = rw c.in_ok-push-in-Ok.ensures.items
          (omega (arith, length_push c.loop-rest.events.items c.in-Ok.event, c.len-number.ensures, c.loop-rest.events.ok.0, c.if-number-gt-MOST_EVENTS.false));
    }

pub returns-in-Err-clause-read : goal.returns-in-Err-clause-read
returns-in-Err-clause-read c =
    let empty : false ≡ nat_eq (length c.loop-rest.rest.now) 0 = cc in
    let some = not_empty (length c.loop-rest.rest.now) empty in
    stops_refused (all_lines c.args.report.now) c.loop-rest.events.items c.loop-rest.rest.now c.split_line.result.0.now _ c.in-Err.fault _ some c.loop-rest.invariant.read
    (omega (arith, c.len-number.ensures, c.loop-rest.events.ok.0))
    c.split_line.ensures.line
    (is_refused c.in-Err.fault c.is_memory.result _ c.is_memory.ensures c.if-is_memory.false c.in-Err.ensures.reading)
    c.refusal-refused-in-Err.ensures
