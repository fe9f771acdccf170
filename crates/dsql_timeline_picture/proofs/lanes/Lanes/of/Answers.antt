-- Each list is the one that its function returned.
use Rattle.std.proofs.Common.{refl}
use Rattle.dsql_timeline_picture.proofs.lanes.Lanes.of.Goals as goal

pub returns : goal.returns
returns c = rw (c.in_ok-conns.ensures.items, c.in_ok-clients.ensures.items, c.deref.ensures.value, c.in_ok-callers.ensures) refl
