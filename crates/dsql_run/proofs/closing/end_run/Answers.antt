use Rattle.std.proofs.Common.{◌∙◌, Option, is_some, sym, subst}
use Rattle.dsql_run_outcome.specs.driver.Wires.{FleetTold}
use Rattle.dsql_run_outcome.specs.player_wires.Stopped.{GivesAllBack}
use Rattle.dsql_run_outcome.proofs.player_wires.GivenBack.{none_wired}
use Rattle.dsql_run_outcome.proofs.player_wires.Stopped.{gives_all_back}
use Rattle.dsql_run_outcome.proofs.player.Keeping.{able_then}
use Rattle.dsql_run.proofs.Going.{end_extends, end_stop_extends}
use Rattle.dsql_run.proofs.closing.end_run.Goals as goal

pub returns-in-Ok-clause-over : goal.returns-in-Ok-clause-over
returns-in-Ok-clause-over g c = record {
  quiet = c.in-Ok.ensures.quiet;
  replied = c.in-Ok.ensures.over.replied;
  ended = c.in-Ok.ensures.ended;
  empty = c.in-Ok.ensures.over.none_open;
}

pub returns-in-Ok-clause-on : goal.returns-in-Ok-clause-on
returns-in-Ok-clause-on g c = record {
  extends = end_extends c.requires.between.moment c.args.player.now.past c.carry_end-carried.new.player.past (c.in-Ok.ensures.carries c.requires.between.moment c.requires.between.at);
  able = able_then g.F.Fleet c.args.fleet.now c.carry_end-carried.new.fleet c.retire_all.new.fleet c.carry_end-carried.ensures.run.able c.retire_all.ensures.able;
  legal = c.carry_end-carried.ensures.run.legal;
}

pub returns-in-Ok-clause-told : goal.returns-in-Ok-clause-told
returns-in-Ok-clause-told g c = λ made told just. c.retire_all.ensures.unasked c.in-Ok.ensures.empty ∙ (c.in-Ok.ensures.run.told.told made told just).fleet

pub returns-in-Ok-clause-unwired : goal.returns-in-Ok-clause-unwired
returns-in-Ok-clause-unwired g c =
    none_wired g.F.Wire.Wire.told (is_some (g.F.Fleet.told c.carry_end-carried.new.fleet)) c.carry_end-carried.new.player.past c.carry_end-carried.new.wires c.in-Ok.ensures.run.wires c.in-Ok.ensures.empty

pub returns-in-Err-clause-back : goal.returns-in-Err-clause-back
returns-in-Err-clause-back g c =
    subst (λ (told : Option FleetTold). GivesAllBack g.F.Wire.Wire.told (g.F.Fleet.told c.args.fleet.now) told c.args.player.now.past c.carry_end-carried.new.player.past c.args.wires) (sym c.retire_all.ensures.retired)
    (gives_all_back g.F.Wire.Wire.told (g.F.Fleet.told c.args.fleet.now) (g.F.Fleet.told c.carry_end-carried.new.fleet) c.args.player.now.past c.carry_end-carried.new.player.past c.args.wires c.carry_end-carried.new.wires c.in-Err.ensures.run.asked
    c.retire_all.ensures.exact)

pub returns-in-Err-clause-on : goal.returns-in-Err-clause-on
returns-in-Err-clause-on g c = record {
  extends = end_stop_extends c.requires.between.moment c.args.player.now.past c.carry_end-carried.new.player.past (c.in-Err.ensures.stops c.requires.between.moment c.requires.between.at);
  able = able_then g.F.Fleet c.args.fleet.now c.carry_end-carried.new.fleet c.retire_all.new.fleet c.carry_end-carried.ensures.run.able c.retire_all.ensures.able;
  legal = c.carry_end-carried.ensures.run.legal;
}
