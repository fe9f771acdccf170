-- Which clients may go on, and whose turn it is, at a moment at which the player is. The argument compares the
-- player's view with the moment's.
use Rattle.std.proofs.Common.{◌≡◌, ℕ, ◌==◌, Bool, true, false, not, ◌&&◌, cond, List, [], ◌∷◌, None, refl, sym, ap, subst, ◌∙◌}
use Rattle.dsql_engine_laws.specs.journal.Readers.{is_empty}
use Rattle.dsql_engine_laws.specs.history.declared.event.Event.{Event}
use Rattle.dsql_engine_laws.specs.history.Legal.{Lawful}
use Rattle.dsql_engine_laws.specs.history.Readers.Calls.{is_busy}
use Rattle.dsql_engine_laws.specs.history.Readers.Clients.{call_of, is_free}
use Rattle.dsql_engine_laws.specs.history.Rules.Flights.{is_in_flight}
use Rattle.dsql_engine_laws.specs.laws_ends.Over.{may_move}
use Rattle.dsql_engine_laws.specs.history.Rules.House.{chore_due}
use Rattle.dsql_engine_laws.proofs.laws_ends.Whose.{busy_with, free_idle, idle_none}
use Rattle.dsql_engine_laws.specs.follows.Moments.{Moment, is_held, kept}
use Rattle.dsql_engine_laws.specs.follows.Turns.{can_move, comes_in_turn, has_run_out, is_turn_of, may_go}
use Rattle.dsql_laws_lines.proofs.InTurn.{chore_comes, entry_comes, its_answer_comes, its_step_comes}
use Rattle.dsql_laws_lines.proofs.WhoseTurn.{run_out, turn_of}
use Rattle.dsql_player_wires.specs.declared.seats.KeptLine.{KeptLine}
use Rattle.dsql_player_wires.specs.Seats.{seat}
use Rattle.dsql_engine_laws.specs.laws_steps.Steps.{IsStep}
use Rattle.dsql_player.specs.Playing.{Playing, IsAt, lines_kept}
use Rattle.dsql_player.specs.Stepping.{InTurn, IsAnswerTo, IsChoreOn, IsEntryOf, IsFirstToGo, IsOfItself, TakesStep, goes}
use Rattle.dsql_player.proofs.MayGo.{swapped}

pub kept_alike : (client : ℕ) (lines : List KeptLine) → is_empty (lines_kept client lines) ≡ is_empty lines
kept_alike client [] = refl
kept_alike client (line ∷ lines) = refl

-- Which clients are busy and which are free.

pub free_at : (m : Moment) (p : Playing) (client : ℕ) (b : Bool) → Lawful p.past → m.past ≡ p.past → is_busy client p.past ≡ b → is_free m.past client ≡ not b
free_at m p client b lawful past busy = ap (λ (h : List Event). is_free h client) past ∙ (free_idle p.past client lawful ∙ ap not busy)

-- A client may go on as the player sees it exactly if it may go on at the moment.
pub goes_alike : (m : Moment) (p : Playing) (client : ℕ) → Lawful p.past → IsAt m p → may_go m client ≡ goes p client
goes_alike m p client lawful at = by (is_busy client p.past) refl
  where
    call : call_of m.past client ≡ call_of p.past client
    call = ap (λ (h : List Event). call_of h client) at.past

    moves : can_move m (call_of m.past client) ≡ may_move p.past p.flights (call_of p.past client)
    moves = ap (λ (h : List Event). may_move h m.flights (call_of h client)) at.past ∙ ap (λ flights. may_move p.past flights (call_of p.past client)) at.flights

    by : (b : Bool) → is_busy client p.past ≡ b
        → may_go m client ≡ cond b (not (seat p.seats client).held && may_move p.past p.flights (call_of p.past client)) (not (is_empty (seat p.seats client).kept))
    by true busy =
        let some : (call_of m.past client == 0) ≡ false = ap (λ n. n == 0) call ∙ (busy_with p.past client lawful).0 busy in
        ap (λ none. cond none (not (is_empty (kept m client))) (can_move m (call_of m.past client) && not (is_held m client))) some
        ∙ (ap (λ b. b && not (is_held m client)) moves
        ∙ (ap (λ b. may_move p.past p.flights (call_of p.past client) && not b) (at.held client busy)
        ∙ swapped (may_move p.past p.flights (call_of p.past client)) (not (seat p.seats client).held)))
    by false idle =
        let none : (call_of m.past client == 0) ≡ true = ap (λ n. n == 0) (call ∙ idle_none p.past client idle) in
        ap (λ b. cond b (not (is_empty (kept m client))) (can_move m (call_of m.past client) && not (is_held m client))) none
        ∙ ap not (ap is_empty (at.kept client) ∙ kept_alike client (seat p.seats client).kept)

-- It is the turn of the first client that may go on, and nobody's if none may.

pub turn_at : (m : Moment) (p : Playing) (client : ℕ) → Lawful p.past → IsAt m p → chore_due p.past ≡ None → IsFirstToGo p client → is_turn_of m client ≡ true
turn_at m p client lawful at none first =
    turn_of m client at.made (subst (λ (h : List Event). Lawful h) (sym at.past) lawful) (ap chore_due at.past ∙ none)
    (goes_alike m p client lawful at ∙ first.may)
    (λ smaller h. goes_alike m p smaller lawful at ∙ first.first smaller h)

pub out_at : (m : Moment) (p : Playing) → Lawful p.past → IsAt m p → chore_due p.past ≡ None → ((client : ℕ) → goes p client ≡ false) → has_run_out m ≡ true
out_at m p lawful at none nobody = run_out m (ap chore_due at.past ∙ none) (λ client. goes_alike m p client lawful at ∙ nobody client)

-- Steps that come in their turns.

in_turn : (m : Moment) (p after : Playing) (kind : Event → ℕ → Type 0) → ((first : Event) (call : ℕ) (events : List Event) → kind first call → IsStep m first call events → comes_in_turn m first ≡ true)
    → TakesStep m p after kind → TakesStep m p after (InTurn m)
in_turn m p after kind comes t =
    record { first = t.first; call = t.call; events = t.events; kind_is = comes t.first t.call t.events t.kind_is t.step; step = t.step; grows = t.grows; may = t.may; at = t.at }

pub chore_in_turn : (m : Moment) (p after : Playing) → IsAt m p → TakesStep m p after (IsChoreOn (chore_due p.past)) → TakesStep m p after (InTurn m)
chore_in_turn m p after at t =
    in_turn m p after (IsChoreOn (chore_due p.past)) (λ first call events k s. chore_comes m first k.entry k.heard k.of_the_layer (ap chore_due at.past ∙ k.on)) t

pub entry_in_turn : (m : Moment) (p after : Playing) (client : ℕ) → Lawful p.past → IsAt m p → is_turn_of m client ≡ true → is_busy client p.past ≡ false → TakesStep m p after (IsEntryOf client)
    → TakesStep m p after (InTurn m)
entry_in_turn m p after client lawful at turn idle t =
    in_turn m p after (IsEntryOf client) (λ first call events k s. entry_comes m first client call k.op k.entered turn (free_at m p client false lawful at.past idle)) t

pub answer_in_turn : (m : Moment) (p mid after : Playing) (client : ℕ) → Lawful p.past → IsAt m p → is_turn_of m client ≡ true → is_busy client p.past ≡ true
    → TakesStep m mid after (IsAnswerTo (call_of p.past client)) → TakesStep m mid after (InTurn m)
answer_in_turn m p mid after client lawful at turn busy t =
    in_turn m mid after (IsAnswerTo (call_of p.past client))
    (λ first call events k s. its_answer_comes m first client k.entry turn (free_at m p client true lawful at.past busy) k.heard (k.number ∙ sym (ap (λ (h : List Event). call_of h client) at.past)))
    t

pub itself_in_turn : (m : Moment) (p after : Playing) (client : ℕ) → Lawful p.past → IsAt m p → is_turn_of m client ≡ true → is_busy client p.past ≡ true
    → is_in_flight (call_of p.past client) p.flights ≡ false → TakesStep m p after (IsOfItself (call_of p.past client)) → TakesStep m p after (InTurn m)
itself_in_turn m p after client lawful at turn busy parked t =
    let call : call_of m.past client ≡ call_of p.past client = ap (λ (h : List Event). call_of h client) at.past in
    let n : ℕ = call_of p.past client in
    in_turn m p after (IsOfItself n)
    (λ first call_no events k s. its_step_comes m first client n events turn (free_at m p client true lawful at.past busy) (sym call)
    (ap (λ flights. is_in_flight n flights) at.flights ∙ parked) k.by_itself (subst (λ (i : ℕ). IsStep m first i events) k.of_it s))
    t
