use Rattle.std.proofs.Common.{ap, ◌∙◌, is_some}
use Rattle.dsql_engine_laws.specs.history.Readers.Clients.{call_of}
use Rattle.dsql_engine_laws.specs.laws_ends.Over.{may_move}
use Rattle.dsql_player_wires.specs.Seats.{seat}
use Rattle.dsql_hall_steps.proofs.Moving.{woke_on}
use Rattle.dsql_hall_steps.proofs.Stepped.{wakes_alone, woken}
use Rattle.dsql_hall_steps.proofs.hall.Hall.wake.Goals as goal

pub wake-requires-clause-moves : goal.wake-requires-clause-moves
wake-requires-clause-moves g c = ap (λ h. may_move h.player.past h.player.flights (call_of h.player.past c.args.client)) c.self.view_is ∙ c.requires.moves

pub invariant_of-self-in-Ok : goal.invariant_of-self-in-Ok
invariant_of-self-in-Ok g c =
    let was = c.self.view_is in
    woke_on _ _ _ c.args.client _ c.self.invariant (ap (λ h. h.stopped) was ∙ c.requires.runs)
    (record {
      ready = c.in-Ok.ensures.act.ready;
      handed = c.in-Ok.ensures.handed;
      course = c.in-Ok.ensures.course;
      unheard = c.in-Ok.ensures.act.unheard;
      legal = c.in-Ok.ensures.act.legal;
      trimmed = c.in-Ok.ensures.trimmed;
    })
    _
    _
    (ap (λ h. is_some (seat h.player.seats c.args.client).permit) was ∙ c.requires.parked)
    c.in-Ok.ensures.wakes

pub returns-in-Ok : goal.returns-in-Ok
returns-in-Ok g c =
    let on = c.self.invariant.well (ap (λ h. h.stopped) c.self.view_is ∙ c.requires.runs) in
    let alone = wakes_alone _ c.args.client _ _ _ _ on.at c.in-Ok.ensures.wakes c.in-Ok.ensures.act.legal.lawful in
    record { next = woken _ _ _ _ _ c.self.view_is c.requires.runs alone c.in-Ok.ensures.wakes c.in-Ok.ensures.grows c.in-Ok.ensures.leave }
