use Rattle.std.proofs.Common.{◌∙◌, List, is_some, sym, ap, subst, arith}
use Rattle.std.proofs.lemmas.Result.{err_from_is_err_and}
use Rattle.dsql_engine_laws.specs.history.declared.event.Event.{Event}
use Rattle.dsql_engine_laws.specs.history.Readers.Course.{has_ended}
use Rattle.dsql_player_wires.specs.WiresFit.{WiresFit}
use Rattle.dsql_engine_laws.specs.follows.Labels.{times_made}
use Rattle.dsql_player.specs.Naming.{times_at_hand}
use Rattle.dsql_player.proofs.Entered.{fails_at}
use Rattle.dsql_player.proofs.Taken.{at_err, first_course, first_makes, first_run, first_stops, none_run}
use Rattle.dsql_player.proofs.chores.make_first_chore.Goals as goal

pub make_chore-requires-clause-to_make : goal.make_chore-requires-clause-to_make
make_chore-requires-clause-to_make g c = λ κs h. c.in-Some.ensures.finds

pub make_chore-requires-clause-wires : goal.make_chore-requires-clause-wires
make_chore-requires-clause-wires g c = λ κs h.
    subst (λ (H : List Event). WiresFit g.F.Wire.Wire.told (is_some (g.F.Fleet.told c.args.fleet.now)) H c.args.wires.now) (sym c.first_chore.ensures.same.past) c.requires.wires

pub returns-in_ok-make_chore-in-Some-clause-makes : goal.returns-in_ok-make_chore-in-Some-clause-makes
returns-in_ok-make_chore-in-Some-clause-makes g c =
    first_makes c.args.player.now c.first_chore.new.self c.in-Some.permit c.requires.ready c.first_chore.ensures.same c.make_chore.new.player c.in-Some.ensures.finds c.in_ok-make_chore-in-Some.ensures.taken

pub returns-in_ok-make_chore-in-Some-clause-course : goal.returns-in_ok-make_chore-in-Some-clause-course
returns-in_ok-make_chore-in-Some-clause-course g c =
    first_course c.args.player.now c.first_chore.new.self c.in-Some.permit c.requires.ready c.first_chore.ensures.same c.make_chore.new.player c.in-Some.ensures.finds c.in_ok-make_chore-in-Some.ensures.taken

pub returns-in_ok-make_chore-in-Some-clause-run : goal.returns-in_ok-make_chore-in-Some-clause-run
returns-in_ok-make_chore-in-Some-clause-run g c =
    first_run g.F.Fleet g.F.Wire.Wire.told _ _ c.args.fleet.now c.make_chore.new.fleet c.args.player.now c.first_chore.new.self c.make_chore.new.player c.args.wires.now c.make_chore.new.wires c.first_chore.ensures.same.past
    c.in_ok-make_chore-in-Some.ensures.run

pub returns-in-None-clause-makes : goal.returns-in-None-clause-makes
returns-in-None-clause-makes g c = c.in-None.ensures.finds

pub returns-in-None-clause-course : goal.returns-in-None-clause-course
returns-in-None-clause-course g c =
    let same = c.first_chore.ensures.same in
    record {
      ended = ap has_ended same.past;
      released = same.released;
      named = λ label.
          let past = ap (times_made label) same.past in
          let hand = ap (times_at_hand label) same.seats in
          omega (arith, past, hand);
    }

pub returns-in-None-clause-run : goal.returns-in-None-clause-run
returns-in-None-clause-run g c =
    none_run g.F.Fleet g.F.Wire.Wire.told _ c.args.fleet.now c.args.player.now c.first_chore.new.self c.args.wires.now c.requires.ready c.in-None.ensures.finds c.requires.wires

pub returns-in_err-make_chore-in-Some-clause-run : goal.returns-in_err-make_chore-in-Some-clause-run
returns-in_err-make_chore-in-Some-clause-run g c =
    let p = err_from_is_err_and c.from_residual.result c.from_residual.ensures.1 in
    let r = c.in_err-make_chore-in-Some.ensures.run in
    first_stops g.F.Fleet g.F.Wire.Wire.told c.from_residual.result c.args.fleet.now c.make_chore.new.fleet c.args.player.now c.first_chore.new.self c.make_chore.new.player c.args.wires.now c.make_chore.new.wires
    (at_err c.from_residual.result p.0 p.1) c.first_chore.ensures.same.past r.asked r.able r.legal

pub returns-in_err-make_chore-in-Some-clause-fails : goal.returns-in_err-make_chore-in-Some-clause-fails
returns-in_err-make_chore-in-Some-clause-fails g c =
    let p = err_from_is_err_and c.from_residual.result c.from_residual.ensures.1 in
    let fails = c.in_err-make_chore-in-Some.ensures.fails in
    fails_at c.from_residual.result p.0 c.args.player.now.past c.make_chore.new.player.past p.1 (p.2 ∙ fails.memory) (fails.same ∙ c.first_chore.ensures.same.past)
