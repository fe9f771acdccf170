use Rattle.std.proofs.Common.{◌≡◌, ◌∷◌, [], reverse, sym, subst, ap, ◌∙◌}
use Rattle.dsql_run_outcome.specs.driver.declared.caps.Caps.{Caps}
use Rattle.dsql_run_outcome.specs.history.declared.event.Event.TheVariants.{Run}
use Rattle.dsql_run_outcome.specs.follows.Moments.{just_begun}
use Rattle.dsql_run_outcome.specs.hall.Raced.{plans_first}
use Rattle.dsql_run_outcome.specs.hall.hall_steps.Limits.{settings_first, settings_of}
use Rattle.dsql_run_outcome.specs.player.declared.halt.Halt.TheVariants as halts
use Rattle.dsql_run_outcome.specs.player_wires.Told.{with_told}
use Rattle.dsql_run_outcome.specs.Racing.{LinesRaced, met_all}
use Rattle.dsql_run_outcome.specs.Runs.{stop_of}
use Rattle.dsql_run_outcome.proofs.player.Keeping.{able_same, able_then}
use Rattle.dsql_run.proofs.Raced.{all_read, halted_race, none_raced, rests_at_first}
use Rattle.dsql_run.proofs.racing_lines.race_lines.Goals as goal

-- There was no memory for the limits.

pub returns-in_default-clause-raced : goal.returns-in_default-clause-raced
returns-in_default-clause-raced g c =
    let caps = g.F.Fleet.ability c.args.fleet.now in
    let told = g.F.Fleet.told c.args.fleet.now in
    halted_race halts.Memory (Run 1 caps) c.args.lines.items c.args.player.past told told (none_raced caps c.args.lines.items c.args.player.past c.requires.begun) c.requires.ready.legal (λ is. absurd (cc is))

pub returns-in_default-clause-able : goal.returns-in_default-clause-able
returns-in_default-clause-able g c = able_same g.F.Fleet c.args.fleet.now

-- There was none for the lines.

pub returns-in-Err-clause-raced : goal.returns-in-Err-clause-raced
returns-in-Err-clause-raced g c =
    let caps = g.F.Fleet.ability c.args.fleet.now in
    let begun = c.take_up.ensures.past ∙ c.requires.begun in
    halted_race c.in-Err.halt (Run 1 caps) c.args.lines.items c.take_up.new.player.past (g.F.Fleet.told c.args.fleet.now) (g.F.Fleet.told c.take_up.new.fleet)
    (none_raced caps c.args.lines.items c.take_up.new.player.past begun) (rw c.take_up.ensures.past c.requires.ready.legal) (λ is. absurd (cc (is, c.in-Err.ensures.memory)))

-- The lines were taken up.

pub race_kept-requires-clause-begun : goal.race_kept-requires-clause-begun
race_kept-requires-clause-begun g c κs within =
    c.release.ensures.past ∙ (c.take_up.ensures.past ∙ (c.requires.begun ∙ ap (λ (caps : Caps). Run 1 caps ∷ []) (sym c.take_up.ensures.able.ability)))

pub race_kept-requires-clause-at : goal.race_kept-requires-clause-at
race_kept-requires-clause-at g c κs within =
    let caps = g.F.Fleet.ability c.args.fleet.now in
    let script = c.args.lines.items in
    let read : reverse c.then_all-script.result.items ≡ script = all_read script c.deref-2.result.now c.new.result.items c.then_all-script.result.items c.then_all-script.ensures c.deref-2.ensures.value c.new.ensures in
    rw read (rests_at_first caps script c.release.new.self (c.release.ensures.at (met_all script (just_begun (Run 1 caps))) (c.in-Ok-take_up.ensures.at (just_begun (Run 1 caps)) c.requires.at)))

pub race_kept-requires-clause-limits : goal.race_kept-requires-clause-limits
race_kept-requires-clause-limits g c κs within =
    let script = c.args.lines.items in
    let read : reverse c.then_all-script.result.items ≡ script = all_read script c.deref-2.result.now c.new.result.items c.then_all-script.result.items c.then_all-script.ensures c.deref-2.ensures.value c.new.ensures in
    c.in-Ok.ensures.all ∙ (ap settings_of c.deref.ensures.value ∙ ap settings_of (sym read))

pub race_kept-requires-clause-first : goal.race_kept-requires-clause-first
race_kept-requires-clause-first g c κs within =
    let script = c.args.lines.items in
    let read : reverse c.then_all-script.result.items ≡ script = all_read script c.deref-2.result.now c.new.result.items c.then_all-script.result.items c.then_all-script.ensures c.deref-2.ensures.value c.new.ensures in
    c.in-Ok.ensures.first ∙ (ap settings_first c.deref.ensures.value ∙ ap settings_first (sym read))

pub returns-in-Ok-take_up-clause-raced : goal.returns-in-Ok-take_up-clause-raced
returns-in-Ok-take_up-clause-raced g c =
    let caps = g.F.Fleet.ability c.take_up.new.fleet in
    let script = c.args.lines.items in
    let first = g.F.Fleet.told c.args.fleet.now in
    let now = g.F.Fleet.told c.race_kept.new.fleet in
    let read : reverse c.then_all-script.result.items ≡ script = all_read script c.deref-2.result.now c.new.result.items c.then_all-script.result.items c.then_all-script.ensures c.deref-2.ensures.value c.new.ensures in
    let raced : LinesRaced (stop_of c.race_kept.result.stopped) (Run 1 caps) script c.race_kept.result.player.past first now =
    subst (λ lines. g.F.Fleet.told c.take_up.new.fleet ≡ with_told (plans_first lines) first (Run 1 caps ∷ []) → LinesRaced (stop_of c.race_kept.result.stopped) (Run 1 caps) lines c.race_kept.result.player.past first now) read (c.race_kept.ensures.raced first)
    (c.in-Ok-take_up.ensures.told caps) in
    rw (sym c.take_up.ensures.able.ability) raced

pub returns-in-Ok-take_up-clause-able : goal.returns-in-Ok-take_up-clause-able
returns-in-Ok-take_up-clause-able g c = able_then g.F.Fleet c.args.fleet.now c.take_up.new.fleet c.race_kept.new.fleet c.take_up.ensures.able c.race_kept.ensures.able
