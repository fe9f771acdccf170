-- Who may go on, as the threads that wait ask.
use Rattle.std.specs.Prelude.{ℕ, Bool, true, false, not, ◌&&◌, ◌||◌, drop, length, nat_le, reverse, is_none, is_some}
use Rattle.std.specs.List.{list_any}
use Rattle.dsql_engine_laws.specs.journal.Readers.{is_empty}
use Rattle.dsql_engine_laws.specs.history.declared.event.Event.{Event}
use Rattle.dsql_engine_laws.specs.history.declared.event.Event.TheVariants.{Entered, Heard}
use Rattle.dsql_engine_laws.specs.history.Readers.Calls.{is_busy}
use Rattle.dsql_engine_laws.specs.history.Readers.Clients.{call_of}
use Rattle.dsql_engine_laws.specs.history.Rules.House.{chore_due}
use Rattle.dsql_engine_laws.specs.laws_ends.Over.{may_move}
use Rattle.dsql_engine_laws.specs.laws_steps.Groups.{most_events}
use Rattle.dsql_player_wires.specs.Seats.{seat}
use Rattle.dsql_hall_steps.specs.Halls.{InHall}

-- Is true if a client may go on. The run has stopped, only the end is left, or the client has no call. Or its call has
-- leave for a driver call, whose wire may be out, or may move.
abbrev pub client_may_go_on : {W : Type 0} → ℕ → InHall W → Bool
client_may_go_on me h =
    is_some h.stopped
    || h.resting
    || not (is_busy me h.player.past)
    || is_some (seat h.player.seats me).permit
    || may_move h.player.past h.player.flights (call_of h.player.past me)

-- Is true if the house may go on. The run has stopped, or only the end is left. Or none of the layer's own driver calls
-- is out, and it has a step to take. The run has no room for events, a limit is to be set, or a driver call is due.
abbrev pub house_may_go_on : {W : Type 0} → InHall W → Bool
house_may_go_on h =
    is_some h.stopped
    || h.resting
    || (is_none h.chore
    && (nat_le most_events (length h.player.past) || not (is_empty h.settings) || is_some (chore_due h.player.past)))

-- Is true if others may be able to go on after this event that weren't before: it is neither an entry nor an answer.
abbrev pub frees_others : Event → Bool
frees_others (Entered client n op) = false
frees_others (Heard e) = false
frees_others _ = true

-- Is true if one of the events after the first `seen` ones frees others.
abbrev pub has_moved : {W : Type 0} → ℕ → InHall W → Bool
has_moved seen h = list_any frees_others (drop seen (reverse h.player.past))
