-- As the end of the script is carried out after a race, every line has entered in its order and each call has its reply.
-- The argument is that what is left depends on the events and the lines alone.
use Rattle.std.proofs.Common.{◌≡◌, ◌&&◌, List, ◌++◌, drop, reverse, refl, ap, sym, ◌∙◌, Bool}
use Rattle.std.specs.List.{list_all}
use Rattle.dsql_engine_laws.specs.journal.Readers.{is_empty}
use Rattle.dsql_engine_laws.specs.history.declared.event.Event.{Event}
use Rattle.dsql_engine_laws.specs.history.Readers.Clients.{is_free, made_by}
use Rattle.dsql_engine_laws.specs.follows.declared.line.Line.{Line}
use Rattle.dsql_engine_laws.specs.follows.Moments.{Moment, after_events, lines_of, walk}
use Rattle.dsql_engine_laws.specs.follows.Turns.{clients}
use Rattle.dsql_engine_laws.specs.follows.Follows.{is_done}
use Rattle.dsql_player.specs.Carried.{CarriesEnd, StopsInEnd}
use Rattle.dsql_player.specs.Playing.{Playing}
use Rattle.dsql_hall_steps.specs.Racing.{Races, RacesAll, raced, resting}
use Rattle.dsql_hall_steps.proofs.Ordered.{lines_after, past_after}
use Rattle.dsql_hall_steps.proofs.Entering.{races_on}

-- Is true if after these events every one of these lines was entered and each call has its reply.
abbrev left_nothing : List Line → List Event → Bool
left_nothing lines past = list_all (λ client. is_free past client && is_empty (drop (made_by past client) (lines_of lines client))) (clients lines)

done_then : (m : Moment) (events : List Event) → is_done (after_events m events) ≡ left_nothing m.lines (events ++ m.past)
done_then m events = ap (left_nothing (walk m events).now.lines) (past_after m events) ∙ ap (λ lines. left_nothing lines (events ++ m.past)) (lines_after m events)

pub end_races : (run : Event) (lines : List Line) (p : Playing) (after : List Event) → Races run lines p.past → CarriesEnd (resting lines p) p.past after → RacesAll run lines after
end_races run lines p after r c =
    let races : Races run lines after = races_on run lines p.past after (resting lines p) c.events refl refl c.grows c.follows.steps.ordered r in
    record {
      races = races;
      done =
          done_then (raced run lines) races.events
          ∙ (ap (left_nothing (reverse lines)) (sym races.is ∙ c.grows) ∙ (sym (done_then (resting lines p) c.events) ∙ c.follows.done));
    }

-- The same of the entries if the end of the script couldn't be carried out.
pub stop_races : (run : Event) (lines : List Line) (p : Playing) (after : List Event) → Races run lines p.past → StopsInEnd (resting lines p) p.past after → Races run lines after
stop_races run lines p after r s = races_on run lines p.past after (resting lines p) s.events refl refl s.grows s.steps.ordered r
