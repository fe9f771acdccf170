-- The chain keeps what each event gives.
use Rattle.std.proofs.Common.{rules, tests}
use Rattle.std.proofs.lemmas.Iterator.{items_from_collect, YieldsList-from_slice}
use Rattle.std.proofs.lemmas.Iterator.Consumers.{YieldsList-from_filter_map}
use Rattle.dsql_timeline_picture.specs.Lanes.{opened}
use Rattle.dsql_timeline_picture.proofs.lanes.conns_of.Goals as goal

pub returns-clause-items : goal.returns-clause-items
returns-clause-items c =
    items_from_collect _ c.collect.ensures.ran
    (YieldsList-from_filter_map _ opened (YieldsList-from_slice c.args.events.now cc) c.filter_map.ensures.closure (λ x r q k. search (rules, tests)))
