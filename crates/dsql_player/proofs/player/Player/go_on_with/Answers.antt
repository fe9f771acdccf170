use Rattle.std.proofs.Common.{◌≡◌, ◌∙◌, false, true, is_some, sym}
use Rattle.dsql_engine_laws.specs.history.Readers.Calls.{is_busy}
use Rattle.dsql_player_wires.specs.Seats.{seat}
use Rattle.dsql_player.proofs.Singles.{parked_ready}
use Rattle.dsql_player.proofs.Ran.{answer_next, entry_next, keeps_unheard, kept_to_go}
use Rattle.dsql_player.proofs.player.Player.go_on_with.Goals as goal

pub enter_kept-requires : goal.enter_kept-requires
enter_kept-requires g c =
    let free : is_busy c.args.client c.args.self.now.past ≡ false = sym c.has_call.ensures ∙ c.if-not-has_call.true in
    record { ready = c.requires.ready; room = c.requires.room; free = free; kept = kept_to_go c.args.self.now c.args.client c.requires.first free }

pub make_call-requires : goal.make_call-requires
make_call-requires g c = record { ready = c.requires.ready; room = c.requires.room; leave = sym c.has_leave.ensures ∙ c.if-has_leave.true; wires = c.requires.wires }

pub go_on_parked-requires : goal.go_on_parked-requires
go_on_parked-requires g c =
    let old = c.args.self.now in
    let leave : is_some (seat old.seats c.args.client).permit ≡ false = sym c.has_leave.ensures ∙ c.if-has_leave.false in
    record {
      ready = c.requires.ready;
      room = c.requires.room;
      no_chore = c.requires.no_chore;
      first = c.requires.first;
      busy = sym c.has_call.ensures ∙ c.if-not-has_call.false;
      parked = parked_ready old c.args.client c.requires.ready leave;
      wires = c.requires.wires;
    }

pub returns-then-not-has_call : goal.returns-then-not-has_call
returns-then-not-has_call g c =
    let old = c.args.self.now in
    let new = c.enter_kept.new.self in
    let done = c.enter_kept.ensures in
    let free : is_busy c.args.client old.past ≡ false = sym c.has_call.ensures ∙ c.if-not-has_call.true in
    record {
      steps = entry_next c.enter_kept.result old new c.args.client c.requires.ready c.requires.no_chore c.requires.first free done.enters;
      grows = done.grows;
      course = done.course;
      run = keeps_unheard g.W.Wire.told c.enter_kept.result old new c.args.wires.now done.act;
      fails = done.act.fails;
      trimmed = done.trimmed;
    }

pub returns-then-has_leave : goal.returns-then-has_leave
returns-then-has_leave g c =
    let old = c.args.self.now in
    let new = c.make_call.new.self in
    let made = c.make_call.ensures in
    let busy : is_busy c.args.client old.past ≡ true = sym c.has_call.ensures ∙ c.if-not-has_call.false in
    record {
      steps = answer_next c.make_call.result old new c.args.client c.requires.ready c.requires.no_chore c.requires.first busy made.run.legal made.hears;
      grows = made.grows;
      course = made.course;
      run = made.run;
      fails = made.fails;
      trimmed = made.trimmed;
    }

pub returns-else-has_leave : goal.returns-else-has_leave
returns-else-has_leave g c = c.go_on_parked.ensures
