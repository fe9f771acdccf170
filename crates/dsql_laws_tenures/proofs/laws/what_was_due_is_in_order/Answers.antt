use Rattle.dsql_laws_tenures.proofs.OrderSent.{sent_in_order, sent_opens_once, sent_prepares_once}
use Rattle.dsql_laws_tenures.proofs.laws.what_was_due_is_in_order.Goals as goal

pub returns : goal.returns
returns c = record { order = sent_in_order; once = sent_opens_once; prepares = sent_prepares_once }
