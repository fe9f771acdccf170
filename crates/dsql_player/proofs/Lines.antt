-- Lines that run on are carried out. The argument takes the line's own step first, and then the steps in their
-- turns.
use Rattle.std.proofs.Common.{◌≡◌, ℕ, Bool, true, false, List, [], ◌++◌, inl, inr, refl, sym, ap, subst, ◌∙◌, append_assoc}
use Rattle.dsql_engine_laws.specs.driver.declared.wire.Planned.{Planned}
use Rattle.dsql_engine_laws.specs.history.declared.event.Event.{Event}
use Rattle.dsql_engine_laws.specs.history.declared.event.Op.{Op}
use Rattle.dsql_engine_laws.specs.history.declared.event.Control.{Control}
use Rattle.dsql_engine_laws.specs.history.Readers.Controls.{told_after}
use Rattle.dsql_engine_laws.specs.follows.declared.line.Line.{Line}
use Rattle.dsql_engine_laws.specs.follows.declared.line.Line.TheVariants as lines
use Rattle.dsql_engine_laws.specs.follows.declared.line.Line.TheVariants.{Client, Fault, Skip}
use Rattle.dsql_engine_laws.specs.follows.Moments.{Moment, met}
use Rattle.dsql_engine_laws.specs.follows.Sentences.{has_own_step, runs_on}
use Rattle.dsql_laws_lines.proofs.OnTheRun.{nothing_so_far, runs_done, runs_from_entry, runs_from_control, runs_from_nothing, runs_further, runs_so_far}
use Rattle.dsql_engine_laws.specs.laws_steps.Steps.{stepped}
use Rattle.dsql_player.specs.Carried.{Carries, StopsInLine}
use Rattle.dsql_player.specs.Playing.{Playing, IsAt}
use Rattle.dsql_player.specs.Stepping.{Admits, IsTold, RunsOut, RunsSoFar, TakesStep}
use Rattle.dsql_player.proofs.Meeting.{met_at}
use Rattle.dsql_player.specs.Acts.{Begun}

pub joined : (newer older old mid new : List Event) → mid ≡ older ++ old → new ≡ newer ++ mid → new ≡ (newer ++ older) ++ old
joined newer older old mid new a b = b ∙ (ap (λ (h : List Event). newer ++ h) a ∙ sym (append_assoc newer older old))

begun_bare : (m : Moment) (line : Line) (old mid : Playing) → IsAt m old → runs_on line ≡ true → has_own_step m line ≡ false → mid.past ≡ old.past → IsAt (met line m) mid → Begun m line old mid
begun_bare m line old mid at runs none same now =
    record { events = []; now = met line m; runs = runs_from_nothing m line at.rest at.whole runs none; grows = same; at = now }

pub begun_skip : (m : Moment) (p : Playing) → IsAt m p → Begun m Skip p p
begun_skip m p at = begun_bare m Skip p p at refl refl refl (met_at m p Skip (λ client. refl) at)

pub begun_fault : (m : Moment) (conn nth : ℕ) (what : Planned) (p : Playing) → IsAt m p → Begun m (Fault conn nth what) p p
begun_fault m conn nth what p at = begun_bare m (Fault conn nth what) p p at refl refl refl (met_at m p (Fault conn nth what) (λ client. refl) at)

pub begun_control : (m : Moment) (control : Control) (old mid : Playing) → IsAt m old
    → ((now : Moment) → IsAt now old → TakesStep now old mid (IsTold old.past control)) → Begun m (lines.Control control) old mid
begun_control m control old mid at step =
    let line : Line = lines.Control control in
    let t = step (met line m) (met_at m old line (λ client. refl) at) in
    record {
      events = t.events;
      now = stepped (met line m) t.first t.call t.events;
      runs = runs_from_control m control t.first t.call t.events at.rest at.whole (t.kind_is.told ∙ ap (λ H. told_after H control) (sym at.past)) t.step t.at.whole;
      grows = t.grows;
      at = t.at;
    }

-- A client's line begins by being entered or kept.
pub begun_client : (m : Moment) (client : ℕ) (op : Op) (old mid : Playing) (entered : Bool) → IsAt m old → Admits entered m client (record { op = op; held = false }) old mid → Begun m (Client client op) old mid
begun_client m client op old mid true at a =
    let t = a.0 in
    record {
      events = t.events;
      now = stepped (met (Client client op) m) t.first t.call t.events;
      runs = runs_from_entry m client op t.first t.call t.call t.kind_is.op t.events at.rest at.whole a.1 t.kind_is.entered t.step t.may t.at.whole;
      grows = t.grows;
      at = t.at;
    }
begun_client m client op old mid false at a = begun_bare m (Client client op) old mid at refl a.2 a.1 a.0

-- After a line has begun it runs on, to its end or until it has to stop.

pub begun_done : (m : Moment) (line : Line) (old mid new : Playing) → Begun m line old mid → runs_on line ≡ true → ((now : Moment) → IsAt now mid → RunsOut now mid new) → Carries m line old new
begun_done m line old mid new b runs out =
    let o = out b.now b.at in
    let on = runs_further m line b.events o.runs.events b.now o.now b.runs o.runs.steps o.runs.in_turn in
    let done = runs_done m line (o.runs.events ++ b.events) o.now on runs o.out in
    record {
      events = o.runs.events ++ b.events;
      grows = joined o.runs.events b.events old.past mid.past new.past b.grows o.runs.grows;
      follows = done.0;
      at = subst (λ (now : Moment). IsAt now new) (sym done.1) o.at;
    }

pub begun_stops : (m : Moment) (line : Line) (old mid : Playing) (new : List Event) → Begun m line old mid → runs_on line ≡ true → ((now : Moment) → IsAt now mid → RunsSoFar now mid.past new)
    → StopsInLine m line old.past new
begun_stops m line old mid new b runs stops =
    let s = stops b.now b.at in
    let on = runs_further m line b.events s.runs.events b.now s.now b.runs s.runs.steps s.runs.in_turn in
    let far = runs_so_far m line (s.runs.events ++ b.events) s.now on in
    record {
      events = s.runs.events ++ b.events;
      grows = joined s.runs.events b.events old.past mid.past new b.grows s.runs.grows;
      begins = inr (inl (record { runs = runs; entered = on.begins.entered; set = on.begins.set }));
      steps = far.0;
      in_turn = far.1;
    }

-- A line may have to stop at once.
pub stops_at_once : (m : Moment) (line : Line) (p : Playing) (new : List Event) → new ≡ p.past → IsAt m p → StopsInLine m line p.past new
stops_at_once m line p new same at =
    let none = nothing_so_far m line at.rest at.whole in
    record { events = []; grows = same; begins = inl refl; steps = none.0; in_turn = none.1 }
