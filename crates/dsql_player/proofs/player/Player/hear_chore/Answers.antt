use Rattle.std.proofs.Common.{◌<◌, ◌∙◌, List, Some, length, refl, ap, subst, sym}
use Rattle.dsql_engine_laws.specs.journal.declared.entry.Entry.{Entry}
use Rattle.dsql_engine_laws.specs.history.declared.event.Event.{Event}
use Rattle.dsql_engine_laws.specs.history.Legal.{Legal}
use Rattle.dsql_engine_laws.specs.laws_steps.Groups.{most_events}
use Rattle.dsql_engine.specs.Core.{Core}
use Rattle.dsql_player.specs.Acts.{TakesAnswer}
use Rattle.dsql_player.specs.Chores.{SameButChore}
use Rattle.dsql_player.specs.Playing.{Playing}
use Rattle.dsql_player.proofs.PutOff.{chore_heard, chore_took, put_off}
use Rattle.dsql_player.proofs.Housekeeping.{chore_ended, chore_longer, chore_names, chore_ready, chore_steps}
use Rattle.dsql_player.proofs.Taken.{player_of}
use Rattle.dsql_player.proofs.player.Player.hear_chore.Goals as goal

pub take_up_chore-requires : goal.take_up_chore-requires
take_up_chore-requires c = record { free = ap (λ (p : Playing). p.chore) c.self.view_is ∙ c.requires.ready.free }

pub heard-requires-clause-may : goal.heard-requires-clause-may
heard-requires-clause-may c =
    chore_heard c.take_up_chore.new.self c.args.self.now c.args.heard (c.take_up_chore.ensures.past ∙ ap (λ (p : Playing). p.past) c.self.view_is)
    (c.take_up_chore.ensures.chore ∙ ap (λ (e : Entry). Some e.conn) c.entry.ensures) c.requires.ready c.requires.answers

pub heard-requires-clause-room : goal.heard-requires-clause-room
heard-requires-clause-room c =
    subst (λ (past : List Event). length past < most_events) (sym (c.take_up_chore.ensures.past ∙ ap (λ (p : Playing). p.past) c.self.view_is)) c.requires.room

pub returns-in-Ok : goal.returns-in-Ok
returns-in-Ok c =
    let old = c.args.self.now in
    let e = c.args.heard in
    let permit = c.requires.answers.permit in
    let new : Playing = player_of c.heard.new.self c.self.inside.seats c.self.inside.released in
    let took : TakesAnswer permit e old new =
    chore_took c.self.inside.engine c.take_up_chore.new.self c.heard.new.self c.self.inside.seats c.self.inside.released old e c.in-Ok.field-0 c.self.view_is c.requires.ready c.requires.answers c.take_up_chore.ensures.past
    c.take_up_chore.ensures.flights c.in-Ok.ensures.group c.in-Ok.ensures.next c.in-Ok.ensures.chore c.heard.ensures.legal in
    record {
      past = took.past;
      step = chore_steps permit e old new c.requires.ready c.requires.answers.leave took (Some e.conn) refl;
      flights = took.flights;
      seats = took.seats;
      released = took.released;
      ready = chore_ready permit e old new c.requires.ready c.requires.answers.leave took;
      grows = chore_longer permit e old new c.requires.ready c.requires.answers.leave took;
      course = record {
        ended = chore_ended permit e old new c.requires.ready c.requires.answers.leave took;
        released = took.released;
        named = chore_names permit e old new c.requires.ready c.requires.answers.leave took;
      };
      kept = tt;
      fails = record { same = tt; memory = tt };
      legal = c.heard.ensures.legal;
      trimmed = c.heard.ensures.trimmed ∙ (c.take_up_chore.ensures.trimmed ∙ ap (λ (p : Playing). p.trimmed) c.self.view_is);
    }

pub returns-in-Err : goal.returns-in-Err
returns-in-Err c =
    let old = c.args.self.now in
    let up = c.take_up_chore.ensures in
    let off = c.put_off_chore.ensures in
    let back = c.in-Err.ensures.err in
    let alike : SameButChore old old = record { past = refl; trimmed = refl; flights = refl; seats = refl; released = refl } in
    let same =
    put_off c.self.inside.engine c.put_off_chore.new.self c.self.inside.seats c.self.inside.released old old c.self.view_is c.requires.ready alike
    (off.past ∙ (ap (λ (core : Core). core.past) back ∙ up.past)) (off.trimmed ∙ (ap (λ (core : Core). core.trimmed) back ∙ up.trimmed))
    (off.flights ∙ (ap (λ (core : Core). core.flights) back ∙ up.flights)) off.chore in
    record {
      past = tt;
      step = tt;
      flights = tt;
      seats = tt;
      released = tt;
      ready = tt;
      grows = tt;
      course = tt;
      kept = same;
      fails = record { same = ap (λ (p : Playing). p.past) same; memory = c.from.ensures };
      legal = subst (λ (past : List Event). Legal past) (sym (ap (λ (p : Playing). p.past) same)) c.requires.ready.legal;
      trimmed = ap (λ (p : Playing). p.trimmed) same;
    }
