-- The run can end after nobody may go on. The argument is that then no call may move.
use Rattle.std.proofs.Common.{◌≡◌, ℕ, Bool, true, false, not, ◌&&◌, ◌||◌, None, refl, ap, sym, subst, ◌∙◌}
use Rattle.dsql_engine_laws.specs.history.declared.event.Event.TheVariants.{Ended}
use Rattle.dsql_engine_laws.specs.history.Readers.Calls.{is_busy}
use Rattle.dsql_engine_laws.specs.history.Readers.Clients.{call_of, client_of}
use Rattle.dsql_engine_laws.specs.history.Readers.Course.{has_ended}
use Rattle.dsql_engine_laws.specs.history.Readers.Unfinished.{is_unfinished, unfinished}
use Rattle.dsql_engine_laws.specs.history.Rules.Flights.{is_blocked, is_in_flight}
use Rattle.dsql_engine_laws.specs.laws_ends.Over.{may_move}
use Rattle.dsql_engine_laws.specs.history.Rules.House.{chore_due, is_quiet}
use Rattle.dsql_engine_laws.specs.history.Rules.Stands.{stand}
use Rattle.dsql_engine_laws.specs.history.Legal.{Lawful}
use Rattle.dsql_engine_laws.proofs.laws_ends.Finds.{any_of}
use Rattle.dsql_engine_laws.proofs.laws_ends.RunOut.{quiet_where_run_out}
use Rattle.dsql_engine_laws.proofs.laws_ends.Steps.{step_ended}
use Rattle.dsql_engine_laws.proofs.laws_ends.Whose.{call_of_its_client, is_of, of_itself}
use Rattle.dsql_player_wires.specs.Seats.{seat}
use Rattle.dsql_engine_laws.specs.laws_steps.Groups.{after_end}
use Rattle.dsql_player.specs.Playing.{IsReady, Playing}
use Rattle.dsql_player.specs.Stepping.{goes}
use Rattle.dsql_player.proofs.Grouped.{Grouped, ends_grouped}
use Rattle.dsql_player.proofs.MayGo.{goes_busy}
use Rattle.dsql_player.proofs.Whose.{end_step}

-- If no client may go on and no call is held, no call may move.
pub still : (p : Playing) (n : ℕ) → IsReady p → ((client : ℕ) → (seat p.seats client).held ≡ false) → ((client : ℕ) → goes p client ≡ false) → may_move p.past p.flights n ≡ false
still p n ready held nobody = by (is_unfinished p.past n) refl
  where
    client : ℕ
    client = client_of p.past n

    stays : is_unfinished p.past n ≡ true → may_move p.past p.flights n ≡ false
    stays u =
        let busy : is_busy client p.past ≡ true = any_of (is_of p.past client) (unfinished p.past) n u (of_itself p.past client n refl) in
        let its : may_move p.past p.flights (call_of p.past client) ≡ false =
        ap (λ b. not b && may_move p.past p.flights (call_of p.past client)) (sym (held client)) ∙ (sym (goes_busy p client busy) ∙ nobody client) in
        subst (λ k. may_move p.past p.flights k ≡ false) (call_of_its_client p.past n ready.legal.lawful u) its

    by : (b : Bool) → is_unfinished p.past n ≡ b → may_move p.past p.flights n ≡ false
    by true is = stays is
    by false is = ap (λ b. b && (is_in_flight n p.flights || not (is_blocked p.flights n (stand p.past n)))) is

pub is_quiet_then : (p : Playing) → IsReady p → ((client : ℕ) → (seat p.seats client).held ≡ false) → chore_due p.past ≡ None → ((client : ℕ) → goes p client ≡ false) → is_quiet p.past ≡ true
is_quiet_then p ready held idle nobody =
    quiet_where_run_out p.past p.flights ready.legal.lawful ready.legal.settled (record { known = ready.flying.known; idle = idle; still = λ n. still p n ready held nobody })

pub has_ended_then : (before after : Playing) → after.past ≡ after_end before.past → Lawful after.past → has_ended after.past ≡ true
has_ended_then before after is l =
    let g : Grouped before.past after.past Ended 0 = subst (λ H. Grouped before.past H Ended 0) (sym is) (ends_grouped before.past) in
    ap has_ended g.grown ∙ step_ended before.past g.events Ended 0 (end_step before.past after.past Ended 0 g l)
