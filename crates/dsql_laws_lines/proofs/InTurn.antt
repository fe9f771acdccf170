-- Which steps come in their turn: each lemma evaluates `comes_in_turn` for one kind of first event.
use Rattle.std.proofs.Common.{◌≡◌, ◌≢◌, ℕ, ◌==◌, true, false, not, ◌&&◌, cond, List, Some, refl, ap, ◌∙◌}
use Rattle.dsql_laws_calls.specs.journal.declared.entry.Entry.{Entry}
use Rattle.dsql_laws_calls.specs.history.declared.event.Event.{Event}
use Rattle.dsql_laws_calls.specs.history.declared.event.Event.TheVariants.{Entered, Heard, Pool, Waits, Replied, Ended}
use Rattle.dsql_laws_calls.specs.history.declared.event.Op.{Op}
use Rattle.dsql_laws_calls.specs.history.Readers.Clients.{call_of, client_of, is_free}
use Rattle.dsql_laws_calls.specs.history.Readers.Course.{has_ended}
use Rattle.dsql_laws_calls.specs.history.Readers.Unfinished.{is_unfinished}
use Rattle.dsql_laws_calls.specs.history.Rules.Flights.{is_in_flight}
use Rattle.dsql_laws_calls.proofs.laws.Tests.{other_number, same_itself, together}
use Rattle.dsql_follows.specs.Moments.{Moment, stepping}
use Rattle.dsql_follows.specs.Turns.{comes_in_turn, first_chore, goes_in_turn, has_run_out, is_chore, is_turn_of, is_it}
use Rattle.dsql_laws_steps.specs.Steps.{IsStep, goes_by_itself}
use Rattle.dsql_laws_steps.proofs.Later.{step_is_its}
use Rattle.dsql_laws_lines.proofs.Made.{its_call}

pub chore_comes : (m : Moment) (first : Event) (e : Entry) → first ≡ Heard e → e.call_no ≡ 0 → first_chore m ≡ Some e.conn → comes_in_turn m first ≡ true
chore_comes m first e heard layer on =
    let zero : (e.call_no == 0) ≡ true = ap (λ k. k == 0) layer in
    ap (comes_in_turn m) heard
    ∙ (ap (λ b. cond b (is_chore m e) (is_turn_of m (client_of m.past e.call_no) && is_unfinished m.past e.call_no)) zero
    ∙ together (e.call_no == 0) (is_it (first_chore m) e.conn) zero (ap (λ o. is_it o e.conn) on ∙ same_itself e.conn))

pub answer_comes : (m : Moment) (first : Event) (e : Entry) → first ≡ Heard e → e.call_no ≢ 0 → is_turn_of m (client_of m.past e.call_no) ≡ true → is_unfinished m.past e.call_no ≡ true
    → comes_in_turn m first ≡ true
answer_comes m first e heard some turn unfinished =
    ap (comes_in_turn m) heard
    ∙ (ap (λ b. cond b (is_chore m e) (is_turn_of m (client_of m.past e.call_no) && is_unfinished m.past e.call_no)) (other_number e.call_no 0 some)
    ∙ together (is_turn_of m (client_of m.past e.call_no)) (is_unfinished m.past e.call_no) turn unfinished)

pub entry_comes : (m : Moment) (first : Event) (client n : ℕ) (op : Op) → first ≡ Entered client n op → is_turn_of m client ≡ true → is_free m.past client ≡ true → comes_in_turn m first ≡ true
entry_comes m first client n op entered turn free = ap (comes_in_turn m) entered ∙ together (is_turn_of m client) (is_free m.past client) turn free

pub end_comes : (m : Moment) (first : Event) → first ≡ Ended → m.released ≡ true → has_ended m.past ≡ false → has_run_out m ≡ true → comes_in_turn m first ≡ true
end_comes m first ended released runs out =
    ap (comes_in_turn m) ended ∙ together m.released _ released (together (not (has_ended m.past)) (has_run_out m) (ap not runs) out)

-- A call that goes on by itself comes in its turn.

itself_turns : (m : Moment) (n : ℕ) (e : Event) → goes_by_itself n e ≡ true → comes_in_turn m e ≡ goes_in_turn m (stepping m e)
itself_turns m n (Replied k reply) h = refl
itself_turns m n (Waits k) h = refl
itself_turns m n (Pool move) h = refl
itself_turns m n e h = absurd cc

goes_turning : (m : Moment) (n : ℕ) (e : Event) → goes_by_itself n e ≡ true → stepping m e ≡ n → is_turn_of m (client_of m.past n) ≡ true → is_in_flight n m.flights ≡ false → comes_in_turn m e ≡ true
goes_turning m n e h steps turn parked =
    itself_turns m n e h
    ∙ (ap (goes_in_turn m) steps ∙ together (is_turn_of m (client_of m.past n)) (not (is_in_flight n m.flights)) turn (ap not parked))

pub itself_comes : (m : Moment) (first : Event) (n : ℕ) → goes_by_itself n first ≡ true → stepping m first ≡ n → is_turn_of m (client_of m.past n) ≡ true → is_in_flight n m.flights ≡ false
    → comes_in_turn m first ≡ true
itself_comes m first n h steps turn parked = goes_turning m n first h steps turn parked

-- A client's call comes in its client's turn.

pub its_answer_comes : (m : Moment) (first : Event) (client : ℕ) (e : Entry) → is_turn_of m client ≡ true → is_free m.past client ≡ false → first ≡ Heard e → e.call_no ≡ call_of m.past client
    → comes_in_turn m first ≡ true
its_answer_comes m first client e turn busy heard number =
    let its = its_call m.past client busy in
    let whose : client_of m.past e.call_no ≡ client = ap (client_of m.past) number ∙ its.1 in
    let unfinished : is_unfinished m.past e.call_no ≡ true = ap (is_unfinished m.past) number ∙ its.0 in
    let some : (e.call_no == 0) ≡ false = ap (λ k. k == 0) number ∙ busy in
    ap (comes_in_turn m) heard
    ∙ (ap (λ b. cond b (is_chore m e) (is_turn_of m (client_of m.past e.call_no) && is_unfinished m.past e.call_no)) some
    ∙ together (is_turn_of m (client_of m.past e.call_no)) (is_unfinished m.past e.call_no) (ap (is_turn_of m) whose ∙ turn) unfinished)

pub its_step_comes : (m : Moment) (first : Event) (client n : ℕ) (events : List Event) → is_turn_of m client ≡ true → is_free m.past client ≡ false → n ≡ call_of m.past client → is_in_flight n m.flights ≡ false
    → goes_by_itself n first ≡ true → IsStep m first n events → comes_in_turn m first ≡ true
its_step_comes m first client n events turn busy its parked h step =
    let whose : client_of m.past n ≡ client = ap (client_of m.past) its ∙ (its_call m.past client busy).1 in
    goes_turning m n first h (step_is_its m first n events step) (ap (is_turn_of m) whose ∙ turn) parked
