-- Single steps are carried out. The argument takes the steps of a free client, of a call, and of the layer in
-- turn.
use Rattle.std.proofs.Common.{◌≡◌, ℕ, ◌<◌, Bool, true, false, not, ◌&&◌, cond, List, [], ◌++◌, Option, Some, None, is_some, length, refl, sym, ap, subst, ◌∙◌, arith}
use Rattle.dsql_engine_laws.specs.course.Made.{or_else}
use Rattle.dsql_engine_laws.specs.journal.declared.entry.Permit.{Permit}
use Rattle.dsql_engine_laws.specs.journal.Readers.{is_empty}
use Rattle.dsql_engine_laws.specs.history.declared.event.Event.{Event}
use Rattle.dsql_engine_laws.specs.history.declared.event.Op.{Op}
use Rattle.dsql_engine_laws.specs.history.declared.record.Flight.{Flight}
use Rattle.dsql_engine_laws.specs.history.declared.record.Stand.{Stand}
use Rattle.dsql_engine_laws.specs.history.declared.record.Stand.TheVariants.{Waits, Sends, Replies, Asks}
use Rattle.dsql_engine_laws.specs.history.Legal.{Lawful}
use Rattle.dsql_engine_laws.specs.history.Readers.Calls.{is_busy, reply_due, site}
use Rattle.dsql_engine_laws.specs.history.Readers.Clients.{call_of}
use Rattle.dsql_engine_laws.specs.history.Readers.Pool.{pool, smallest}
use Rattle.dsql_engine_laws.specs.history.Readers.Tries.{asks_again, tries}
use Rattle.dsql_engine_laws.specs.history.Readers.Unfinished.{is_unfinished}
use Rattle.dsql_engine_laws.specs.history.Rules.Flights.{is_in_flight, permitted}
use Rattle.dsql_engine_laws.specs.laws_ends.Over.{may_move}
use Rattle.dsql_engine_laws.specs.history.Rules.House.{chore_due}
use Rattle.dsql_engine_laws.specs.history.Rules.Line.{due_for}
use Rattle.dsql_engine_laws.specs.history.Rules.Stands.{has_to_reply, stand, opens, stands}
use Rattle.dsql_engine_laws.specs.follows.declared.line.Line.{Line}
use Rattle.dsql_engine_laws.specs.follows.declared.line.Line.TheVariants.{Start, Step, StepHouse}
use Rattle.dsql_engine_laws.specs.follows.Moments.{Moment, met, takes_permit}
use Rattle.dsql_engine_laws.specs.follows.Splits.{is_sending}
use Rattle.dsql_engine_laws.specs.follows.Turns.{can_move}
use Rattle.dsql_engine_laws.specs.pool.Places.{is_for}
use Rattle.dsql_laws_lines.specs.Running.{FollowsTo}
use Rattle.dsql_laws_lines.proofs.Singly.{call_answered, call_goes, call_sends, call_stays, free_enters, free_stays, house_stays, house_tidies, nobody_moves, start_enters, start_kept}
use Rattle.dsql_player_wires.specs.Seats.{seat}
use Rattle.dsql_engine_laws.specs.laws_steps.Steps.{IsStep, stepped}
use Rattle.dsql_engine_laws.specs.laws_steps.Groups.{after_settling, gone_on}
use Rattle.dsql_engine_laws.proofs.Flights.{flies_call}
use Rattle.dsql_engine_laws.specs.wait.Requests.{waits}
use Rattle.dsql_player.specs.Carried.{Carries}
use Rattle.dsql_player.specs.Playing.{Playing, FitsCall, IsAt, IsReady}
use Rattle.dsql_player.specs.Stepping.{Admits, IsAnswerTo, IsChoreOn, IsEntryOf, IsOfItself, TakesStep, Wakes}
use Rattle.dsql_player.proofs.Meeting.{met_at}
use Rattle.dsql_player.proofs.Turning.{free_at, kept_alike}

carried : (m : Moment) (line : Line) (old new : Playing) (events : List Event) (now : Moment) → FollowsTo m line events now → new.past ≡ events ++ old.past → IsAt now new → Carries m line old new
carried m line old new events now f grows at = record { events = events; grows = grows; follows = f.0; at = subst (λ (it : Moment). IsAt it new) (sym f.1) at }

-- A line that holds its call is carried out by being entered or kept.
pub started : (m : Moment) (client : ℕ) (op : Op) (old new : Playing) (entered : Bool) → IsAt m old → Admits entered m client (record { op = op; held = true }) old new → Carries m (Start client op) old new
started m client op old new true at a =
    let t = a.0 in
    let line : Line = Start client op in
    carried m line old new t.events (stepped (met line m) t.first t.call t.events)
    (start_enters m client op t.first t.call t.call t.kind_is.op t.events at.rest at.whole a.1 t.kind_is.entered t.step t.may t.at.whole)
    t.grows
    t.at
started m client op old new false at a =
    carried m (Start client op) old new [] (met (Start client op) m) (start_kept m client op at.rest at.whole a.2) a.1 a.0

-- Steps of a free client.

still_none : (m : Moment) (p : Playing) → Lawful p.past → m.past ≡ p.past → can_move m 0 ≡ false
still_none m p lawful past = nobody_moves m (subst (λ (h : List Event). Lawful h) (sym past) lawful)

pub idle_steps : (m : Moment) (p : Playing) (client : ℕ) → Lawful p.past → IsAt m p → is_busy client p.past ≡ false → is_empty (seat p.seats client).kept ≡ true → Carries m (Step client) p p
idle_steps m p client lawful at idle none =
    carried m (Step client) p p [] (met (Step client) m)
    (free_stays m client at.rest at.whole (free_at m p client false lawful at.past idle) (still_none m p lawful at.past)
    (ap is_empty (at.kept client) ∙ (kept_alike client (seat p.seats client).kept ∙ none)))
    refl
    (met_at m p (Step client) (λ k. refl) at)

pub entry_steps : (m : Moment) (old new : Playing) (client : ℕ) → Lawful old.past → IsAt m old → is_busy client old.past ≡ false
    → ((now : Moment) → IsAt now old → TakesStep now old new (IsEntryOf client)) → Carries m (Step client) old new
entry_steps m old new client lawful at idle step =
    let line : Line = Step client in
    let t = step (met line m) (met_at m old line (λ k. refl) at) in
    carried m line old new t.events (stepped (met line m) t.first t.call t.events)
    (free_enters m client t.first t.call t.call t.kind_is.op t.events at.rest at.whole (free_at m old client false lawful at.past idle) (still_none m old lawful at.past)
    t.kind_is.entered t.step t.may t.at.whole)
    t.grows
    t.at

-- Steps of a call.

called : (m : Moment) (p : Playing) (client : ℕ) → m.past ≡ p.past → call_of m.past client ≡ call_of p.past client
called m p client past = ap (λ (h : List Event). call_of h client) past

-- A step, with the number of the call whose step it is.
record StepsSo (m : Moment) (n : ℕ) (first : Event) (events : List Event) (new : Playing) : Type 0 where
  step : IsStep m first n events
  at : IsAt (stepped m first n events) new

numbered : (m : Moment) (n call : ℕ) (first : Event) (events : List Event) (new : Playing) → call ≡ n → IsStep m first call events → IsAt (stepped m first call events) new → StepsSo m n first events new
numbered m n call first events new same step at = subst (λ (k : ℕ). StepsSo m k first events new) same (record { step = step; at = at })

pub answer_steps : (m : Moment) (old new : Playing) (client : ℕ) → Lawful old.past → IsAt m old → is_busy client old.past ≡ true → is_in_flight (call_of old.past client) old.flights ≡ true
    → ((now : Moment) → IsAt now old → TakesStep now old new (IsAnswerTo (call_of old.past client))) → Carries m (Step client) old new
answer_steps m old new client lawful at busy flies step =
    let line : Line = Step client in
    let n : ℕ = call_of old.past client in
    let t = step (met line m) (met_at m old line (λ k. refl) at) in
    let so = numbered (met line m) n t.call t.first t.events new t.kind_is.of_it t.step t.at in
    carried m line old new t.events (stepped (met line m) t.first n t.events)
    (call_answered m client n t.first t.kind_is.entry t.events at.rest at.whole (free_at m old client true lawful at.past busy) (sym (called m old client at.past))
    (ap (λ (flights : List Flight). is_in_flight n flights) at.flights ∙ flies)
    t.kind_is.heard t.kind_is.number so.step so.at.whole)
    t.grows
    so.at

-- If a call got a permit by going on, its driver call was due.
pub sends_there : (n : ℕ) (at : Option Stand) (flights : List Flight) → is_in_flight n flights ≡ false → is_in_flight n (permitted n at flights) ≡ true → (c : ℕ) × (at ≡ Some (Sends c))
sends_there n (Some (Sends c)) flights none some = (c, refl)
sends_there n _ flights none some = absurd cc

flies_with_leave : (past : List Event) (flights : List Flight) (n : ℕ) (permit : Option Permit) → is_some permit ≡ true → FitsCall past flights n permit → is_in_flight n flights ≡ true
flies_with_leave past flights n None some fits = absurd cc
flies_with_leave past flights n (Some permit) some fits = flies_call n permit.conn flights fits.2

parked_without : (past : List Event) (flights : List Flight) (n : ℕ) (permit : Option Permit) → is_some permit ≡ false → FitsCall past flights n permit → is_in_flight n flights ≡ false
parked_without past flights n None none fits = fits
parked_without past flights n (Some permit) none fits = absurd cc

-- A client has a permit only for what is under way.
pub flies_ready : (p : Playing) (client : ℕ) → IsReady p → is_some (seat p.seats client).permit ≡ true → is_in_flight (call_of p.past client) p.flights ≡ true
flies_ready p client ready some = flies_with_leave p.past p.flights (call_of p.past client) (seat p.seats client).permit some (ready.seats client).leave

pub parked_ready : (p : Playing) (client : ℕ) → IsReady p → is_some (seat p.seats client).permit ≡ false → is_in_flight (call_of p.past client) p.flights ≡ false
parked_ready p client ready none = parked_without p.past p.flights (call_of p.past client) (seat p.seats client).permit none (ready.seats client).leave

-- If a driver call is due, going on by itself shows nothing.

standing_due : (w d r a : Bool) (o : Option ℕ) (s c : ℕ) → or_else (stands w Waits) (or_else (opens o) (or_else (stands d (Sends s)) (or_else (stands r Replies) (stands a Asks)))) ≡ Some (Sends c) → d ≡ true
standing_due true d r a o s c h = absurd cc
standing_due false d r a (Some k) s c h = absurd cc
standing_due false true r a None s c h = refl
standing_due false false true a None s c h = absurd cc
standing_due false false false true None s c h = absurd cc
standing_due false false false false None s c h = absurd cc

sends_due : (past : List Event) (n c : ℕ) → stand past n ≡ Some (Sends c) → is_some (due_for past n) ≡ true
sends_due past n c h =
    standing_due (waits n (pool past).waiting) (is_some (due_for past n)) (has_to_reply past n) (asks_again (tries past n)) (smallest (is_for n) (pool past)) (site past n) c h

unless : {A : Type 0} (u due : Bool) (gone past : A) → due ≡ true → cond (u && not due) gone past ≡ past
unless true true gone past h = refl
unless false true gone past h = refl
unless u false gone past h = absurd cc

gone_nowhere : (past : List Event) (n : ℕ) → is_some (due_for past n) ≡ true → gone_on n past ≡ past
gone_nowhere past n due = unless (is_unfinished past n) (is_some (due_for past n)) (after_settling n (reply_due past n) past) past due

sending_at : (past : List Event) (n : ℕ) (at : Option Stand) → stand past n ≡ at → is_sending at ≡ true → is_some (due_for past n) ≡ true
sending_at past n (Some (Sends c)) is h = sends_due past n c is
sending_at past n _ is h = absurd cc

-- If a call that goes on by itself shows it, its driver call wasn't due.
shows_elsewhere : (past new : List Event) (n : ℕ) → new ≡ gone_on n past → length past < length new → is_sending (stand past n) ≡ false
shows_elsewhere past new n group grows = by (is_sending (stand past n)) refl
  where
    by : (b : Bool) → is_sending (stand past n) ≡ b → b ≡ false
    by true sends =
        let same : new ≡ past = group ∙ gone_nowhere past n (sending_at past n (stand past n) refl sends) in
        let long : length new ≡ length past = ap length same in
        absurd (omega arith)
    by false stays = refl

moves_at : (m : Moment) (p : Playing) (n : ℕ) (b : Bool) → IsAt m p → may_move p.past p.flights n ≡ b → can_move m n ≡ b
moves_at m p n b at moves = ap (λ (h : List Event). may_move h m.flights n) at.past ∙ (ap (λ (flights : List Flight). may_move p.past flights n) at.flights ∙ moves)

pub itself_steps : (m : Moment) (old new : Playing) (client : ℕ) → Lawful old.past → IsAt m old → is_busy client old.past ≡ true → is_in_flight (call_of old.past client) old.flights ≡ false
    → may_move old.past old.flights (call_of old.past client) ≡ true → new.past ≡ gone_on (call_of old.past client) old.past → length old.past < length new.past
    → ((now : Moment) → IsAt now old → TakesStep now old new (IsOfItself (call_of old.past client))) → Carries m (Step client) old new
itself_steps m old new client lawful at busy parked moves group grows step =
    let line : Line = Step client in
    let n : ℕ = call_of old.past client in
    let t = step (met line m) (met_at m old line (λ k. refl) at) in
    let so = numbered (met line m) n t.call t.first t.events new t.kind_is.of_it t.step t.at in
    carried m line old new t.events (stepped (met line m) t.first n t.events)
    (call_goes m client n t.first t.events at.rest at.whole (free_at m old client true lawful at.past busy) (sym (called m old client at.past))
    (ap (λ (flights : List Flight). is_in_flight n flights) at.flights ∙ parked)
    (moves_at m old n true at moves)
    (ap (λ (past : List Event). is_sending (stand past n)) at.past ∙ shows_elsewhere old.past new.past n group grows)
    t.kind_is.by_itself so.step so.at.whole)
    t.grows
    so.at

pub leave_steps : (m : Moment) (old new : Playing) (client : ℕ) → Lawful old.past → IsAt m old → is_busy client old.past ≡ true → is_in_flight (call_of old.past client) old.flights ≡ false
    → may_move old.past old.flights (call_of old.past client) ≡ true → IsReady new → is_some (seat new.seats client).permit ≡ true
    → ((now : Moment) → IsAt now old → Wakes false now (call_of old.past client) old new) → Carries m (Step client) old new
leave_steps m old new client lawful at busy parked moves ready some wakes =
    let line : Line = Step client in
    let n : ℕ = call_of old.past client in
    let w = wakes (met line m) (met_at m old line (λ k. refl) at) in
    let call : call_of new.past client ≡ n = ap (λ (h : List Event). call_of h client) w.0 in
    let flies : is_in_flight n new.flights ≡ true = ap (λ (k : ℕ). is_in_flight k new.flights) (sym call) ∙ flies_ready new client ready some in
    let none : is_in_flight n m.flights ≡ false = ap (λ (flights : List Flight). is_in_flight n flights) at.flights ∙ parked in
    let there = sends_there n (stand m.past n) m.flights none (ap (λ (flights : List Flight). is_in_flight n flights) w.1.flights ∙ flies) in
    carried m line old new [] (takes_permit n (met line m))
    (call_sends m client n there.0 at.rest at.whole (free_at m old client true lawful at.past busy) (sym (called m old client at.past)) none (moves_at m old n true at moves) there.1)
    w.0
    w.1

pub blocked_steps : (m : Moment) (p : Playing) (client : ℕ) → Lawful p.past → IsAt m p → is_busy client p.past ≡ true → is_in_flight (call_of p.past client) p.flights ≡ false
    → may_move p.past p.flights (call_of p.past client) ≡ false → Carries m (Step client) p p
blocked_steps m p client lawful at busy parked still =
    let n : ℕ = call_of p.past client in
    carried m (Step client) p p [] (met (Step client) m)
    (call_stays m client n at.rest at.whole (free_at m p client true lawful at.past busy) (sym (called m p client at.past))
    (ap (λ (flights : List Flight). is_in_flight n flights) at.flights ∙ parked)
    (moves_at m p n false at still))
    refl
    (met_at m p (Step client) (λ k. refl) at)

-- Steps of the layer.

pub idle_house_steps : (m : Moment) (p : Playing) → IsAt m p → chore_due p.past ≡ None → Carries m StepHouse p p
idle_house_steps m p at none =
    carried m StepHouse p p [] (met StepHouse m) (house_stays m at.rest at.whole (ap chore_due at.past ∙ none)) refl (met_at m p StepHouse (λ k. refl) at)

pub chore_steps : (m : Moment) (old new : Playing) → IsAt m old → ((now : Moment) → IsAt now old → TakesStep now old new (IsChoreOn (chore_due old.past))) → Carries m StepHouse old new
chore_steps m old new at step =
    let t = step (met StepHouse m) (met_at m old StepHouse (λ k. refl) at) in
    carried m StepHouse old new t.events (stepped (met StepHouse m) t.first t.call t.events)
    (house_tidies m t.first t.call t.kind_is.entry t.events at.rest at.whole t.kind_is.heard t.kind_is.of_the_layer (ap chore_due at.past ∙ t.kind_is.on) t.step t.at.whole)
    t.grows
    t.at
