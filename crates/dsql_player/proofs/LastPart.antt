-- The script's end is carried out. The argument follows it from the release of the held calls to the moment
-- after which nothing is left.
use Rattle.std.proofs.Common.{◌≡◌, ℕ, ◌==◌, true, false, not, ◌&&◌, cond, List, [], ◌++◌, None, sym, ap, ◌∙◌}
use Rattle.std.specs.Prelude.{find}
use Rattle.std.specs.List.{list_any}
use Rattle.std.proofs.lemmas.Bool.{not-false}
use Rattle.dsql_engine_laws.specs.journal.Readers.{is_empty}
use Rattle.dsql_engine_laws.specs.history.declared.event.Event.{Event}
use Rattle.dsql_engine_laws.specs.history.Readers.Calls.{call_record, is_busy}
use Rattle.dsql_engine_laws.specs.history.Readers.Clients.{call_of, client_of, is_free}
use Rattle.dsql_engine_laws.specs.history.Readers.Course.{has_ended}
use Rattle.dsql_engine_laws.specs.history.Readers.Pool.{or_none}
use Rattle.dsql_engine_laws.specs.history.Readers.Unfinished.{unfinished}
use Rattle.dsql_engine_laws.specs.laws_ends.Over.{may_move, IsOver}
use Rattle.dsql_engine_laws.specs.history.Rules.House.{chore_due}
use Rattle.dsql_engine_laws.proofs.laws_ends.Ended.{over_where_run_out}
use Rattle.dsql_engine_laws.specs.follows.Moments.{Moment, at_end}
use Rattle.dsql_laws_lines.proofs.InTurn.{end_comes}
use Rattle.dsql_laws_lines.proofs.OnTheRun.{ends_done, ends_ending, ends_from_nothing, ends_further, ends_so_far}
use Rattle.dsql_laws_lines.proofs.WhoseTurn.{all_done}
use Rattle.dsql_player_wires.specs.Seats.{seat}
use Rattle.dsql_engine_laws.specs.laws_steps.Steps.{stepped}
use Rattle.dsql_player.specs.Carried.{CarriesEnd, StopsInEnd}
use Rattle.dsql_player.specs.Playing.{Playing, IsAt, IsReady}
use Rattle.dsql_player.specs.Stepping.{IsEnd, RunsOut, RunsSoFar, TakesStep, goes}
use Rattle.dsql_player.proofs.Ending.{still}
use Rattle.dsql_player.proofs.Lines.{joined}
use Rattle.dsql_player.proofs.Turning.{kept_alike, out_at}
use Rattle.dsql_player.specs.Acts.{ComesToEnd}

pub end_begun : (m : Moment) (old mid : Playing) → IsAt m old → mid.past ≡ old.past → IsAt (at_end m) mid → ComesToEnd m old mid
end_begun m old mid at same now = record { events = []; now = at_end m; runs = ends_from_nothing m at.rest at.whole; grows = same; at = now }

pub end_on : (m : Moment) (old mid new : Playing) → ComesToEnd m old mid → ((now : Moment) → IsAt now mid → RunsOut now mid new) → ComesToEnd m old new
end_on m old mid new b runs =
    let o = runs b.now b.at in
    record {
      events = o.runs.events ++ b.events;
      now = o.now;
      runs = ends_further m b.events o.runs.events b.now o.now b.runs o.runs.steps o.runs.in_turn;
      grows = joined o.runs.events b.events old.past mid.past new.past b.grows o.runs.grows;
      at = o.at;
    }

-- The run ends after it is nobody's turn.
pub end_ended : (m : Moment) (old mid new : Playing) → IsReady mid → mid.released ≡ true → has_ended mid.past ≡ false → chore_due mid.past ≡ None → ((client : ℕ) → goes mid client ≡ false)
    → ComesToEnd m old mid → ((now : Moment) → IsAt now mid → TakesStep now mid new IsEnd) → ComesToEnd m old new
end_ended m old mid new ready released runs none nobody b step =
    let t = step b.now b.at in
    let turn = end_comes b.now t.first t.kind_is.ended (b.at.released ∙ released) (ap has_ended b.at.past ∙ runs) (out_at b.now mid ready.legal.lawful b.at none nobody) in
    record {
      events = t.events ++ b.events;
      now = stepped b.now t.first t.call t.events;
      runs = ends_ending m b.events b.now t.first t.call t.events b.runs t.kind_is.ended turn t.step t.at.whole;
      grows = joined t.events b.events old.past mid.past new.past b.grows t.grows;
      at = t.at;
    }

-- The script's end may have to stop.

pub end_stops : (m : Moment) (old mid : Playing) (new : List Event) → ComesToEnd m old mid → ((now : Moment) → IsAt now mid → RunsSoFar now mid.past new) → StopsInEnd m old.past new
end_stops m old mid new b stops =
    let s = stops b.now b.at in
    let far = ends_so_far m (s.runs.events ++ b.events) s.now (ends_further m b.events s.runs.events b.now s.now b.runs s.runs.steps s.runs.in_turn) in
    record {
      events = s.runs.events ++ b.events;
      grows = joined s.runs.events b.events old.past mid.past new b.grows s.runs.grows;
      steps = far.0;
      in_turn = far.1;
    }

pub end_stays : (m : Moment) (old mid : Playing) (new : List Event) → new ≡ mid.past → ComesToEnd m old mid → StopsInEnd m old.past new
end_stays m old mid new same b =
    let far = ends_so_far m b.events b.now b.runs in
    record { events = b.events; grows = same ∙ b.grows; steps = far.0; in_turn = far.1 }

-- After the run's end nothing is left.

pub all_over : (p : Playing) → IsReady p → p.released ≡ true → has_ended p.past ≡ true → chore_due p.past ≡ None → ((client : ℕ) → goes p client ≡ false) → IsOver p.past
all_over p ready released ended none nobody =
    over_where_run_out p.past p.flights ready.legal ended (record { known = ready.flying.known; idle = none; still = λ n. still p n ready (ready.lines.held released) nobody })

none_busy : (past : List Event) (client : ℕ) → unfinished past ≡ [] → is_busy client past ≡ false
none_busy past client none = ap (λ (ns : List ℕ). list_any (λ n. (call_record past n).client == client) ns) none

all_free : (past : List Event) (client : ℕ) → unfinished past ≡ [] → is_free past client ≡ true
all_free past client none = ap (λ (ns : List ℕ). or_none (find (λ n. client_of past n == client) ns) == 0) none

none_kept : (p : Playing) (client : ℕ) → unfinished p.past ≡ [] → goes p client ≡ false → is_empty (seat p.seats client).kept ≡ true
none_kept p client none stays =
    not-false (is_empty (seat p.seats client).kept)
    (sym (ap (λ b. cond b (not (seat p.seats client).held && may_move p.past p.flights (call_of p.past client)) (not (is_empty (seat p.seats client).kept))) (none_busy p.past client none)) ∙ stays)

pub end_done : (m : Moment) (old new : Playing) → IsReady new → new.released ≡ true → has_ended new.past ≡ true → chore_due new.past ≡ None → ((client : ℕ) → goes new client ≡ false) → ComesToEnd m old new
    → CarriesEnd m old.past new.past
end_done m old new ready released ended none nobody b =
    let over = all_over new ready released ended none nobody in
    let done =
    all_done b.now
    (λ client. ap (λ (h : List Event). is_free h client) b.at.past ∙ all_free new.past client over.replied)
    (λ client. ap is_empty (b.at.kept client) ∙ (kept_alike client (seat new.seats client).kept ∙ none_kept new client over.replied (nobody client))) in
    record {
      events = b.events;
      grows = b.grows;
      follows = ends_done m b.events b.now b.runs (out_at b.now new ready.legal.lawful b.at none nobody) (ap has_ended b.at.past ∙ ended) done;
    }
