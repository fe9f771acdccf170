use Rattle.dsql_player.proofs.Lines.{begun_client, begun_done, begun_control, begun_fault, begun_skip, begun_stops, stops_at_once}
use Rattle.dsql_player.proofs.carrying.a_line_is_carried_out.Goals as goal

pub returns-clause-skipped : goal.returns-clause-skipped
returns-clause-skipped c = begun_skip

pub returns-clause-planned : goal.returns-clause-planned
returns-clause-planned c = λ m p conn nth what at. begun_fault m conn nth what p at

pub returns-clause-control : goal.returns-clause-control
returns-clause-control c = begun_control

pub returns-clause-admitted : goal.returns-clause-admitted
returns-clause-admitted c = begun_client

pub returns-clause-done : goal.returns-clause-done
returns-clause-done c = begun_done

pub returns-clause-stops : goal.returns-clause-stops
returns-clause-stops c = begun_stops

pub returns-clause-stops_at_once : goal.returns-clause-stops_at_once
returns-clause-stops_at_once c = stops_at_once
