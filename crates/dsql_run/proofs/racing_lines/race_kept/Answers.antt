use Rattle.std.proofs.Common.{reverse, ◌++◌, ◌∙◌, ap, List}
use Rattle.std.proofs.lemmas.Result.{on_ok_weaker}
use Rattle.dsql_run_outcome.specs.history.declared.event.Event.{Event}
use Rattle.dsql_run_outcome.specs.history.declared.event.Event.TheVariants.{Run}
use Rattle.dsql_run_outcome.specs.history.Readers.Course.{has_ended}
use Rattle.dsql_run_outcome.specs.history.Readers.Journals.{journal}
use Rattle.dsql_run_outcome.specs.hall.Raced.{plans_first}
use Rattle.dsql_run_outcome.specs.hall.hall_steps.Limits.{set_in}
use Rattle.dsql_run_outcome.proofs.hall.Setting.{front_limit}
use Rattle.dsql_run.proofs.Raced.{early_part, first_past, first_set, halted_race, race_over, told_still}
use Rattle.dsql_run.proofs.racing_lines.race_kept.Goals as goal

pub set_limits-requires-clause-limits : goal.set_limits-requires-clause-limits
set_limits-requires-clause-limits g c = front_limit (reverse c.args.lines.items) c.args.limits.first.items c.args.limits.later.items c.requires.limits

pub race-requires-clause-running : goal.race-requires-clause-running
race-requires-clause-running g c κs within = c.set_limits.ensures.sets.ended ∙ ap has_ended c.requires.begun

pub race-requires-clause-unopened : goal.race-requires-clause-unopened
race-requires-clause-unopened g c κs within = λ conn. c.set_limits.ensures.sets.unheard.journals conn ∙ ap (λ past. journal past conn) c.requires.begun

pub race-requires-clause-whole : goal.race-requires-clause-whole
race-requires-clause-whole g c κs within = c.set_limits.ensures.sets.trimmed ∙ c.requires.whole

pub race-requires-clause-races : goal.race-requires-clause-races
race-requires-clause-races g c κs within =
    let caps = g.F.Fleet.ability c.args.fleet.now in
    c.set_limits.ensures.sets.races (Run 1 caps) (first_past caps (reverse c.args.lines.items) c.args.player.past c.requires.begun)

pub race-requires-clause-limits : goal.race-requires-clause-limits
race-requires-clause-limits g c κs within =
    ap (λ done. done ++ c.args.limits.later.items) (c.in-Ok.ensures.set ∙ ap (λ (past : List Event). set_in past ++ c.args.limits.first.items) c.requires.begun) ∙ c.requires.limits

pub race-requires-clause-first : goal.race-requires-clause-first
race-requires-clause-first g c κs within =
    let caps = g.F.Fleet.ability c.args.fleet.now in
    first_set caps (reverse c.args.lines.items) c.args.player.past c.set_limits.new.player.past c.args.limits.first.items c.requires.begun c.requires.first c.in-Ok.ensures.set c.set_limits.ensures.sets.first

pub returns-in-Ok-clause-raced : goal.returns-in-Ok-clause-raced
returns-in-Ok-clause-raced g c = λ first was.
    let caps = g.F.Fleet.ability c.args.fleet.now in
    let script = reverse c.args.lines.items in
    let still = told_still (plans_first script) caps first (g.F.Fleet.told c.args.fleet.now) c.args.player.past c.set_limits.new.player.past c.requires.begun c.set_limits.ensures.sets.unheard was in
    race_over c.race.result.stopped (Run 1 caps) script c.race.result.player.past first (g.F.Fleet.told c.race.new.fleet) c.race.ensures.through c.race.ensures.in_part c.race.ensures.over c.race.ensures.ended c.race.ensures.quiet
    (on_ok_weaker c.race.result.stopped (λ told. told first still) c.race.ensures.told)
    c.race.ensures.legal c.race.ensures.full

pub returns-in-Err-clause-raced : goal.returns-in-Err-clause-raced
returns-in-Err-clause-raced g c = λ first was.
    let caps = g.F.Fleet.ability c.args.fleet.now in
    let script = reverse c.args.lines.items in
    halted_race c.in-Err.halt (Run 1 caps) script c.set_limits.new.player.past first (g.F.Fleet.told c.args.fleet.now)
    (early_part caps script c.args.player.past c.set_limits.new.player.past c.args.limits.first.items c.args.limits.later.items c.requires.begun c.requires.limits c.set_limits.ensures.sets.races
    c.set_limits.ensures.sets.settings c.set_limits.ensures.sets.first c.set_limits.ensures.sets.ended)
    c.set_limits.ensures.sets.legal
    (λ is. c.in-Err.ensures.full cc)
