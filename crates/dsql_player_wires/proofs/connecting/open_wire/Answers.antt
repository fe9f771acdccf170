use Rattle.std.proofs.Common.{ap, Err}
use Rattle.dsql_wire.proofs.Opens.{only_connects}
use Rattle.dsql_player_wires.proofs.Permits.{memory_of, stray_of}
use Rattle.dsql_player_wires.proofs.connecting.open_wire.Goals as goal

pub unreachable-requires : goal.unreachable-requires
unreachable-requires g c =
    let p = c.args.permit in
    let stray = stray_of c.in-Err-Stray.field-0 c.in-Err-Stray.field-0-0 p c.in-Err-Stray.field-0-is c.in-Err-Stray.ensures.handed_back in
    c.in-Err-Stray.ensures.stray (ap Err stray) ((only_connects p).1 c.requires)

pub returns-in-Err-Memory-clause-wants : goal.returns-in-Err-Memory-clause-wants
returns-in-Err-Memory-clause-wants g c =
    let memory = memory_of c.in-Err-Memory.field-0 c.in-Err-Memory.field-0-0 c.args.permit c.in-Err-Memory.field-0-is c.in-Err-Memory.ensures.handed_back in
    c.in-Err-Memory.ensures.wants (ap Err memory)
