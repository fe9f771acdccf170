-- Defines the rules for the course of a history.
use Rattle.std.specs.Prelude.{◌==◌, Bool, true, false, not, ◌&&◌, nat_le, List, [], ◌∷◌}
use Rattle.dsql_history.specs.declared.event.Event.{Event}
use Rattle.dsql_history.specs.declared.event.Event.TheVariants.{Run, Entered, Heard, Ticked, SetLimit, Ended}
use Rattle.dsql_history.specs.Readers.Course.{has_ended}
use Rattle.dsql_history.specs.Readers.Pool.{pool}
use Rattle.dsql_history.specs.Rules.House.{is_quiet}

abbrev pub is_run : Event → Bool
is_run (Run version caps) = true
is_run _ = false

-- Is true if the event begins a run with version 1, the version of a report.
abbrev pub is_first_version : Event → Bool
is_first_version (Run version caps) = version == 1
is_first_version _ = false

-- Is true if the event is a Run exactly if it is the first event of the history.
abbrev pub begins_with_run : List Event → Event → Bool
begins_with_run [] e = is_first_version e
begins_with_run (_ ∷ before) e = not (is_run e)

-- Is true unless the event ends the run out of turn. The run ends at most once, and only if each call has its
-- reply or waits, and the layer has no chore.
abbrev pub ends_once : List Event → Event → Bool
ends_once before Ended = not (has_ended before) && is_quiet before
ends_once before _ = true

-- Is true unless the event sets time back.
abbrev pub goes_forward : List Event → Event → Bool
goes_forward before (Ticked now) = nat_le (pool before).moment now
goes_forward before _ = true

abbrev pub keeps_course : List Event → Event → Bool
keeps_course before e = begins_with_run before e && (goes_forward before e && ends_once before e)

-- Is true if the event comes from outside. A free moment is the end of a history, or the point right before
-- such an event.
abbrev pub is_from_outside : Event → Bool
is_from_outside (Entered client n op) = true
is_from_outside (Heard entry) = true
is_from_outside (Ticked now) = true
is_from_outside (SetLimit setting n) = true
is_from_outside Ended = true
is_from_outside _ = false
