-- Defines the events in which a call enters.
use Rattle.std.specs.Prelude.{Bool, true, false}
use Rattle.dsql_laws_calls.specs.history.declared.event.Event.{Event}
use Rattle.dsql_laws_calls.specs.history.declared.event.Event.TheVariants.{Entered}

abbrev pub is_entry : Event → Bool
is_entry (Entered client n op) = true
is_entry _ = false
