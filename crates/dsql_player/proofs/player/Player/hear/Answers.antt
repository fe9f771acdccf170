use Rattle.std.proofs.Common.{◌<◌, ◌∙◌, ◌==◌, cond, length, Option, None, ap, sym, subst}
use Rattle.std.proofs.lemmas.Result.{err_from_is_err_and}
use Rattle.dsql_engine_laws.specs.journal.declared.entry.Permit.{Permit}
use Rattle.dsql_engine_laws.specs.history.Rules.Flights.{without_flight}
use Rattle.dsql_engine_laws.specs.going.Stepping.{GoesOnOrRests}
use Rattle.dsql_engine_laws.specs.laws_steps.Groups.{after_heard, most_events}
use Rattle.dsql_engine.specs.Core.{Core}
use Rattle.dsql_player.specs.Playing.{Playing}
use Rattle.dsql_player.specs.Stepping.{leave_of}
use Rattle.dsql_player.proofs.Answering.{Answered, HasLeave, answered_course, answered_grows, answered_hears, answered_ready, leave_at, leave_heard}
use Rattle.dsql_player.proofs.Asked.{Given, given_hands, given_lines, hands_but}
use Rattle.dsql_player.proofs.Entered.{seen}
use Rattle.dsql_player.proofs.player.Player.hear.Goals as goal

pub heard-requires-clause-may : goal.heard-requires-clause-may
heard-requires-clause-may c =
    leave_heard c.self.inside.engine c.args.self.now c.args.client c.args.heard (ap (λ (p : Playing). p.past) c.self.view_is) (ap (λ (p : Playing). p.flights) c.self.view_is) c.requires.ready c.requires.answers

pub heard-requires-clause-room : goal.heard-requires-clause-room
heard-requires-clause-room c = subst (λ (p : Playing). length p.past < most_events) (sym c.self.view_is) c.requires.room

pub returns-in_err-next : goal.returns-in_err-next
returns-in_err-next c =
    let same = ap (λ (core : Core). seen core c.self.inside.seats c.self.inside.released) c.in_err-next.ensures.err ∙ c.self.view_is in
    let p = err_from_is_err_and c.from_residual.result c.from_residual.ensures.1 in
    record {
      past = rw p.1 tt;
      hears = rw p.1 tt;
      handed = rw p.1 tt;
      ready = rw p.1 tt;
      grows = rw p.1 tt;
      course = rw p.1 tt;
      kept = rw p.1 same;
      fails = record { same = rw p.1 (ap (λ (p : Playing). p.past) same); memory = rw p.1 p.2 };
      legal = c.heard.ensures.legal;
      trimmed = ap (λ (p : Playing). p.trimmed) same;
    }

pub hand-requires : goal.hand-requires
hand-requires c =
    let has = leave_at c.args.self.now c.args.client c.requires.answers.permit c.requires.ready c.requires.answers.leave in
    subst (λ (p : Playing). c.args.client < length p.seats) (sym c.self.view_is) has.room

pub returns : goal.returns
returns c =
    let old = c.args.self.now in
    let me = c.args.client in
    let e = c.args.heard in
    let permit = c.requires.answers.permit in
    let next = c.in_ok-next.next in
    let new : Playing = seen c.heard.new.self c.hand.new.self c.self.inside.released in
    let has : HasLeave old me permit = leave_at old me permit c.requires.ready c.requires.answers.leave in
    let handed : Given me c.leave_of.result c.self.inside.seats c.hand.new.self = record { here = c.hand.ensures.permit; others = c.hand.ensures.others; many = c.hand.ensures.count } in
    let given : Given me (leave_of next) old.seats c.hand.new.self =
    subst (λ (p : Playing). Given me (leave_of next) p.seats c.hand.new.self) c.self.view_is (subst (λ (o : Option Permit). Given me o c.self.inside.seats c.hand.new.self) c.leave_of.ensures handed) in
    let a : Answered permit e next me old new =
    record {
      has = has;
      ready = c.requires.ready;
      entry = c.requires.answers.answer;
      past = c.in_ok-next.ensures.group ∙ ap (λ (p : Playing). after_heard p.past e) c.self.view_is;
      went = subst (λ (p : Playing). GoesOnOrRests c.heard.new.self.past (without_flight e.call_no p.flights) c.heard.new.self.flights e.call_no next) c.self.view_is c.in_ok-next.ensures.next;
      chore = c.in_ok-next.ensures.chore ∙ ap (λ (p : Playing). cond (e.call_no == 0) None p.chore) c.self.view_is;
      legal = c.heard.ensures.legal;
      hands = given_hands me next old.seats new.seats has.room given;
      lines = given_lines me (leave_of next) old new (ap (λ (p : Playing). p.released) c.self.view_is) given;
    } in
    record {
      past = a.past;
      hears = answered_hears permit e next me old new a;
      handed = hands_but me next old.seats new.seats a.hands;
      ready = answered_ready permit e next me old new a;
      grows = answered_grows permit e next me old new a;
      course = answered_course permit e next me old new a;
      kept = tt;
      fails = record { same = tt; memory = tt };
      legal = c.heard.ensures.legal;
      trimmed = c.heard.ensures.trimmed ∙ ap (λ (p : Playing). p.trimmed) c.self.view_is;
    }
