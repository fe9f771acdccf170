use Rattle.std.proofs.Common.{◌≡◌, ◌<◌, ◌∙◌, arith, Bool, true, false, not, ◌&&◌, length, Option, sym, subst, ap, rules}
use Rattle.std.proofs.lemmas.Result.{err_from_is_err_and}
use Rattle.dsql_engine_laws.specs.journal.declared.entry.Permit.{Permit}
use Rattle.dsql_engine_laws.specs.history.Readers.Calls.{is_busy}
use Rattle.dsql_engine_laws.specs.history.Readers.Labels.{names_fit}
use Rattle.dsql_engine.specs.Core.{Core}
use Rattle.dsql_engine_laws.specs.laws_steps.Groups.{most_events}
use Rattle.dsql_player.specs.Playing.{Playing}
use Rattle.dsql_player.specs.Stepping.{leave_of}
use Rattle.dsql_player.proofs.Asked.{hands_but}
use Rattle.dsql_player.proofs.Entered.{HasEntered, SeatsCall, entry_acts, entry_course, entry_hands, entry_is_step, entry_longer, enters_by, failed, held_nowhere, held_where, seats_call, seen}
use Rattle.dsql_player.proofs.Named.{fits_once}
use Rattle.dsql_player.proofs.player.Player.enter.Goals as goal
use Rattle.dsql_player.proofs.player.Player.enter.Goals.{then-not-self, else-not-self}

pub enter-requires-clause-free : goal.enter-requires-clause-free
enter-requires-clause-free c = subst (λ (p : Playing). is_busy c.args.client p.past ≡ false) (sym c.self.view_is) c.requires.free

pub enter-requires-clause-names : goal.enter-requires-clause-names
enter-requires-clause-names c =
    let fits : names_fit c.args.self.now.past c.args.line.op ≡ true =
    fits_once c.args.line.op c.args.self.now.past (λ label. let once = c.requires.names label in omega (arith, once)) in
    subst (λ (p : Playing). names_fit p.past c.args.line.op ≡ true) (sym c.self.view_is) fits

pub enter-requires-clause-room : goal.enter-requires-clause-room
enter-requires-clause-room c = subst (λ (p : Playing). length p.past < most_events) (sym c.self.view_is) c.requires.room

pub returns-in_err-seat_client-clause-act : goal.returns-in_err-seat_client-clause-act
returns-in_err-seat_client-clause-act c =
    let p = err_from_is_err_and c.from_residual.result c.from_residual.ensures.1 in
    failed c.from_residual.result p.0 c.args.self.now (seen c.self.inside.engine c.seat_client.new.self c.self.inside.released) p.1 p.2
    (ap (λ (p : Playing). p.past) c.self.view_is) c.requires.ready

pub returns-in_err-next-clause-act : goal.returns-in_err-next-clause-act
returns-in_err-next-clause-act c =
    let p = err_from_is_err_and c.from_residual-in_err-next.result c.from_residual-in_err-next.ensures.1 in
    failed c.from_residual-in_err-next.result p.0 c.args.self.now (seen c.enter.new.self c.seat_client.new.self c.self.inside.released) p.1 p.2
    (subst (λ (old : Playing). c.enter.new.self.past ≡ old.past) c.self.view_is (ap (λ (core : Core). core.past) c.in_err-next.ensures.err)) c.requires.ready

pub returns : goal.returns
returns c =
    let client = c.args.client in
    let line = c.args.line in
    let next = c.in_ok-next.next in
    let released = c.self.inside.released in
    let holds : c.if-not-self.hold ≡ (not released && line.held) =
    elim c.if-not-self.branch [
      | then-not-self w ↦ search (rules, held_where)
      | else-not-self w ↦ search (rules, held_nowhere)
    ] in
    let made : SeatsCall client c.leave_of.result c.if-not-self.hold c.self.inside.seats c.hold.new.self =
    seats_call client c.leave_of.result c.if-not-self.hold c.self.inside.seats c.seat_client.new.self c.hand.new.self c.hold.new.self c.seat_client.ensures.same c.in_ok-seat_client.ensures.room
    c.seat_client.ensures.count c.hand.ensures.permit c.hand.ensures.others c.hand.ensures.count c.hold.ensures.held c.hold.ensures.others c.hold.ensures.count in
    let seated : SeatsCall client (leave_of next) (not released && line.held) c.self.inside.seats c.hold.new.self =
    subst (λ (held : Bool). SeatsCall client (leave_of next) held c.self.inside.seats c.hold.new.self) holds
    (subst (λ (leave : Option Permit). SeatsCall client leave c.if-not-self.hold c.self.inside.seats c.hold.new.self) c.leave_of.ensures made) in
    let old = c.args.self.now in
    let new = seen c.enter.new.self c.hold.new.self released in
    let h : HasEntered client line next old new =
    enters_by client line next c.self.inside.engine c.enter.new.self c.self.inside.seats c.hold.new.self released old c.self.view_is c.requires.ready c.requires.free c.requires.names c.in_ok-next.ensures.group
    c.in_ok-next.ensures.next c.enter.ensures.chore c.enter.ensures.legal seated in
    record {
      enters = entry_is_step client line next old new h;
      grows = entry_longer client line next old new h;
      handed = hands_but client next old.seats new.seats (entry_hands client line next old new h);
      course = entry_course client line next old new h;
      act = entry_acts client line next old new h;
      trimmed = c.enter.ensures.trimmed ∙ ap (λ (q : Playing). q.trimmed) c.self.view_is;
    }
