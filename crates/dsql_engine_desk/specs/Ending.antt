-- What ends transactions.
use Rattle.std.specs.Prelude.{ℕ, cond, List, Option, None}
use Rattle.dsql_laws_calls.specs.driver.declared.call.DriverCall.{DriverCall}
use Rattle.dsql_laws_calls.specs.history.declared.event.Event.{Event}
use Rattle.dsql_laws_calls.specs.history.Readers.Works.{hands_out_in, work}
use Rattle.dsql_laws_calls.specs.history.Rules.Sent.{close_due}

-- Returns the driver call that closes the rows of call n, if it handed them out in transaction k.
abbrev pub closing_in : List Event → ℕ → ℕ → Option DriverCall
closing_in past k n = cond (hands_out_in k (work past n)) (close_due past n) None
