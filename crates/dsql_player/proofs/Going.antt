-- Steps in their turns, one after another. The argument appends one step at a time.
use Rattle.std.proofs.Common.{◌≡◌, true, List, [], ◌++◌, refl, sym, ap, ◌∙◌, append_assoc}
use Rattle.dsql_engine_laws.specs.history.declared.event.Event.{Event}
use Rattle.dsql_engine_laws.specs.follows.Moments.{Moment}
use Rattle.dsql_engine_laws.specs.follows.Turns.{has_run_out}
use Rattle.dsql_engine_laws.specs.laws_steps.Steps.{stepped}
use Rattle.dsql_engine_laws.proofs.laws_steps.AddedUp.{no_steps, one_more}
use Rattle.dsql_engine_laws.proofs.laws_steps.Turns.{more_in_turn}
use Rattle.dsql_player.specs.Playing.{Playing, IsAt}
use Rattle.dsql_player.specs.Stepping.{InTurn, RunsOut, RunsSoFar, TakesStep}
use Rattle.dsql_player.specs.Acts.{RunsTo}

pub runs_none : (m : Moment) (p : Playing) → IsAt m p → RunsTo m p p
runs_none m p at = record {
  now = m;
  runs = record { events = []; grows = refl; steps = no_steps m at.rest at.whole; in_turn = refl };
  at = at;
}

-- A run of steps in their turns may be followed by one more.
pub runs_more : (m : Moment) (old mid new : Playing) → RunsTo m old mid → ((now : Moment) → IsAt now mid → TakesStep now mid new (InTurn now)) → RunsTo m old new
runs_more m old mid new r step =
    let t = step r.now r.at in
    record {
      now = stepped r.now t.first t.call t.events;
      runs = record {
        events = t.events ++ r.runs.events;
        grows = t.grows ∙ (ap (λ (h : List Event). t.events ++ h) r.runs.grows ∙ sym (append_assoc t.events r.runs.events old.past));
        steps = one_more m r.now r.runs.events t.first t.call t.events r.runs.steps t.step t.may t.at.whole;
        in_turn = more_in_turn m r.now r.runs.events t.first t.call t.events r.runs.steps r.runs.in_turn t.step t.kind_is;
      };
      at = t.at;
    }

pub so_far : (m : Moment) (old new : Playing) → RunsTo m old new → RunsSoFar m old.past new.past
so_far m old new r = record { now = r.now; runs = r.runs }

pub ran_out : (m : Moment) (old new : Playing) → RunsTo m old new → ((now : Moment) → IsAt now new → has_run_out now ≡ true) → RunsOut m old new
ran_out m old new r out = record { now = r.now; runs = r.runs; at = r.at; out = out r.now r.at }
