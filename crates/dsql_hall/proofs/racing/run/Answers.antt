use Rattle.std.proofs.Common.{rules, sym, ◌∙◌}
use Rattle.dsql_hall.proofs.Along.{able_then, told_through}
use Rattle.dsql_hall.proofs.Plans.{none_fit}
use Rattle.dsql_hall.proofs.Setting.{left_limit}
use Rattle.dsql_hall_steps.specs.Limits.{set_in}
use Rattle.dsql_hall.proofs.racing.run.Goals as goal

pub open-hall-requires-clause-keeps : goal.open-hall-requires-clause-keeps
open-hall-requires-clause-keeps g c = λ κs h. record {
  legal = c.requires.ready.legal;
  running = c.requires.running;
  ordered = c.requires.races;
  whole = c.requires.whole;
  settings = c.requires.limits;
  first = c.requires.first;
  limits = left_limit g.K.Race.terms.lines (set_in c.args.player.past) c.args.settings.items c.requires.limits;
}

pub open-hall-requires-clause-plans : goal.open-hall-requires-clause-plans
open-hall-requires-clause-plans g c = λ κs h.
    rw c.requires.made (none_fit g.F.Wire.Wire.told g.K.Race.terms.lines c.args.player.past c.new.result c.new.ensures.empty)

pub end_race-requires-clause-telling : goal.end_race-requires-clause-telling
end_race-requires-clause-telling g c = λ κs h uncut. (c.run_threads-own.ensures.keeps.goes uncut).telling ∙ sym c.requires.telling

pub returns-clause-told : goal.returns-clause-told
returns-clause-told g c =
    told_through g.F.Fleet g.K.Race.terms.made c.end_race.result.stopped c.args.fleet.now c.run_threads-own.result.fleet.now c.end_race.new.fleet _ c.args.player.past c.open-hall.result.1.past c.run_threads-own.result.own.past
    c.end_race.result.player.past c.run_threads-own.result.cut c.run_threads-own.ensures.keeps.goes c.end_race.ensures.uncut c.end_race.ensures.told c.open-hall.ensures.past (search rules)

pub returns-clause-able : goal.returns-clause-able
returns-clause-able g c =
    able_then g.F.Fleet c.args.fleet.now c.run_threads-own.result.fleet.now c.end_race.new.fleet _ c.run_threads-own.ensures.keeps.able c.end_race.ensures.able (search rules)
