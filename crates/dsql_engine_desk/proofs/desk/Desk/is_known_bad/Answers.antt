use Rattle.std.proofs.Common.{◌∙◌, refl}
use Rattle.dsql_laws_calls.specs.history.Readers.Pool.{place}
use Rattle.dsql_engine_desk.specs.Desk.{past, Stands}
use Rattle.dsql_engine_desk.proofs.EndingLent.{known_bad}
use Rattle.dsql_engine_desk.proofs.desk.Desk.is_known_bad.Goals as goal

pub returns : goal.returns
unfolding Stands
returns c =
    let H = past c.args.self.now in
    c.is_bad.ensures ∙ known_bad H c.args.conn (place H c.args.conn) c.requires.stands.tables.lawful refl c.requires.lent
