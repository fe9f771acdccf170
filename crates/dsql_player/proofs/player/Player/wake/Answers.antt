use Rattle.std.proofs.Common.{◌≡◌, ◌<◌, ◌∙◌, true, false, length, Option, nat_lt, Bool, ap, sym, subst}
use Rattle.std.proofs.lemmas.Result.{err_from_is_err_and}
use Rattle.dsql_engine_laws.specs.journal.declared.entry.Permit.{Permit}
use Rattle.dsql_engine_laws.specs.history.Readers.Calls.{is_busy}
use Rattle.dsql_engine_laws.specs.history.Readers.Clients.{call_of}
use Rattle.dsql_engine_laws.specs.history.Rules.Flights.{is_in_flight}
use Rattle.dsql_engine.specs.Core.{Core}
use Rattle.dsql_engine_laws.specs.going.Reaching.{HasGoneOn}
use Rattle.dsql_engine_laws.specs.laws_steps.Groups.{gone_on, most_events}
use Rattle.dsql_player.specs.Playing.{Playing}
use Rattle.dsql_player.specs.Stepping.{leave_of}
use Rattle.dsql_player.proofs.Hearing.{hears_none}
use Rattle.dsql_player.proofs.Asked.{Given, hands_but}
use Rattle.dsql_engine_laws.specs.history.Trimmed.{IsLeftOf}
use Rattle.dsql_player.proofs.Woke.{WakesUp, history_longer, history_no_longer, woke_course, woke_hands, woke_leave, woke_quiet, woke_ready, woke_same, woke_wakes}
use Rattle.dsql_player.proofs.player.Player.wake.Goals as goal

pub wake-requires-clause-unfinished : goal.wake-requires-clause-unfinished
wake-requires-clause-unfinished c = subst (λ (p : Playing). is_busy c.args.client p.past ≡ true) (sym c.self.view_is) c.requires.busy

pub wake-requires-clause-parked : goal.wake-requires-clause-parked
wake-requires-clause-parked c = subst (λ (p : Playing). is_in_flight (call_of p.past c.args.client) p.flights ≡ false) (sym c.self.view_is) c.requires.parked

pub wake-requires-clause-room : goal.wake-requires-clause-room
wake-requires-clause-room c = subst (λ (p : Playing). length p.past < most_events) (sym c.self.view_is) c.requires.room

pub returns-in_err-next : goal.returns-in_err-next
returns-in_err-next c =
    let old = c.args.self.now in
    let as_before : c.wake.new.self.past ≡ old.past = ap (λ (x : Core). x.past) c.in_err-next.ensures.err ∙ ap (λ (p : Playing). p.past) c.self.view_is in
    let p = err_from_is_err_and c.from_residual.result c.from_residual.ensures.1 in
    record {
      wakes = rw p.1 tt;
      group = rw p.1 tt;
      leave = rw p.1 tt;
      same = rw p.1 tt;
      grows = rw p.1 tt;
      handed = rw p.1 tt;
      course = rw p.1 tt;
      act = record {
        ready = rw p.1 tt;
        unheard = hears_none old.past c.wake.new.self.past as_before;
        fails = record { same = rw p.1 as_before; memory = rw p.1 p.2 };
        legal = c.wake.ensures.legal;
      };
      trimmed = c.wake.ensures.trimmed ∙ ap (λ (q : Playing). q.trimmed) c.self.view_is;
    }

pub hand-requires : goal.hand-requires
hand-requires c = subst (λ (p : Playing). c.args.client < length p.seats) (sym c.self.view_is) ((c.requires.ready.seats c.args.client).room c.requires.busy)

pub returns : goal.returns
returns c =
    let old = c.args.self.now in
    let me = c.args.client in
    let next = c.in_ok-next.next in
    let new : Playing = record { past = c.wake.new.self.past; trimmed = c.wake.new.self.trimmed; flights = c.wake.new.self.flights; chore = c.wake.new.self.chore; seats = c.hand.new.self; released = c.self.inside.released } in
    let handed : Given me c.leave_of.result c.self.inside.seats c.hand.new.self = record { here = c.hand.ensures.permit; others = c.hand.ensures.others; many = c.hand.ensures.count } in
    let leave_is : Given me (leave_of next) c.self.inside.seats c.hand.new.self = subst (λ (o : Option Permit). Given me o c.self.inside.seats c.hand.new.self) c.leave_of.ensures handed in
    let w : WakesUp next me old new =
    record {
      ready = c.requires.ready;
      busy = c.requires.busy;
      parked = c.requires.parked;
      moves = c.requires.moves;
      past = c.in_ok-next.ensures.group ∙ ap (λ (p : Playing). gone_on (call_of p.past me) p.past) c.self.view_is;
      went = subst (λ (p : Playing). HasGoneOn c.wake.new.self.past p.flights c.wake.new.self.flights (call_of p.past me) next) c.self.view_is c.in_ok-next.ensures.next;
      chore = c.wake.ensures.chore ∙ ap (λ (p : Playing). p.chore) c.self.view_is;
      legal = c.wake.ensures.legal;
      released = ap (λ (p : Playing). p.released) c.self.view_is;
      given = subst (λ (p : Playing). Given me (leave_of next) p.seats c.hand.new.self) c.self.view_is leave_is;
    } in
    let before : IsLeftOf old.past old.trimmed c.history-before.result.now =
    subst (λ (p : Playing). IsLeftOf p.past p.trimmed c.history-before.result.now) c.self.view_is c.history-before.ensures.left in
    let after : IsLeftOf new.past new.trimmed c.history.result.now = c.history.ensures.left in
    let trimmed : new.trimmed ≡ old.trimmed = c.wake.ensures.trimmed ∙ ap (λ (p : Playing). p.trimmed) c.self.view_is in
    let shown : Bool = nat_lt (length c.history-before.result.now) (length c.history.result.now) in
    let grew : shown ≡ true → length old.past < length new.past = history_longer c.history-before.result.now c.history.result.now old.trimmed new.trimmed old.past new.past before after trimmed in
    let as_before : shown ≡ false → new.past ≡ old.past =
    λ h. woke_same next me old new w (history_no_longer c.history-before.result.now c.history.result.now old.trimmed new.trimmed old.past new.past before after trimmed h) in
    record {
      wakes = λ m at. woke_wakes next me old new w shown grew as_before m at;
      group = w.past;
      leave = λ h. woke_leave next me old new w (as_before h);
      same = as_before;
      grows = grew;
      handed = hands_but me next old.seats new.seats (woke_hands next me old new w);
      course = woke_course next me old new w;
      act = record {
        ready = woke_ready next me old new w;
        unheard = woke_quiet next me old new w;
        fails = record { same = tt; memory = tt };
        legal = c.wake.ensures.legal;
      };
      trimmed = trimmed;
    }
