-- What a call does if it may move and has no driver call in flight: the proof distinguishes where the call
-- stands.
use Rattle.std.proofs.Common.{◌≡◌, ℕ, ◌≤◌, ◌+◌, ◌==◌, ◌⊎◌, inl, inr, Bool, true, false, not, ◌&&◌, ◌||◌, cond, List, [], ◌∷◌, length, Option, Some, None, Ok, Err, is_none, is_some, refl, sym, ap, ◌∙◌, arith}
use Rattle.std.specs.Prelude.{find}
use Rattle.dsql_laws_calls.specs.driver.declared.caps.Caps.{Caps}
use Rattle.dsql_laws_calls.specs.course.Made.{or_else}
use Rattle.dsql_laws_calls.specs.wait.Requests.{waits}
use Rattle.dsql_laws_calls.specs.pool.Decisions.{are_too_many, last, may_open, takes_idle}
use Rattle.dsql_laws_calls.specs.pool.Places.{is_for}
use Rattle.dsql_laws_calls.specs.pool.Calls.{wants}
use Rattle.dsql_laws_calls.specs.pool.declared.conn.Conn.{Conn}
use Rattle.dsql_laws_calls.specs.pool.Pooled.{Pooled, next_number, next_tenure}
use Rattle.dsql_laws_calls.specs.pool.declared.moves.Move.{Move}
use Rattle.dsql_laws_calls.specs.pool.declared.moves.Move.TheVariants.{OpenStart, Lend}
use Rattle.dsql_laws_calls.specs.pool.declared.request.AskFault.TheVariants.{TooMany}
use Rattle.dsql_laws_calls.specs.pool.declared.request.Asked.TheVariants as asked
use Rattle.dsql_laws_calls.specs.history.declared.event.Event.{Event}
use Rattle.dsql_laws_calls.specs.history.declared.event.Event.TheVariants.{Pool, Replied, Waits}
use Rattle.dsql_laws_calls.specs.history.declared.record.Flight.{Flight}
use Rattle.dsql_laws_calls.specs.history.declared.record.Try.{Try}
use Rattle.dsql_laws_calls.specs.history.declared.record.Try.TheVariants.{Served}
use Rattle.dsql_laws_calls.specs.history.declared.record.Stand.{Stand}
use Rattle.dsql_laws_calls.specs.history.declared.record.Stand.TheVariants as stands_at
use Rattle.dsql_laws_calls.specs.history.declared.reply.Reply.{Reply}
use Rattle.dsql_laws_calls.specs.history.declared.reply.Reply.TheVariants as replies
use Rattle.dsql_laws_calls.specs.history.Legal.{Lawful}
use Rattle.dsql_laws_calls.specs.history.declared.work.Work.{Work}
use Rattle.dsql_laws_calls.specs.history.declared.work.Work.TheVariants.{Ping}
use Rattle.dsql_laws_calls.specs.history.Readers.Calls.{asks_nothing, decided, reply_due, rests, rests_with, site, told_as_lent, told_at_lending, told_by_others}
use Rattle.dsql_laws_calls.specs.history.Readers.Course.{caps}
use Rattle.dsql_laws_calls.specs.history.Readers.Owed.{given_back, owed}
use Rattle.dsql_laws_calls.specs.history.Readers.Pool.{pool, request, is_home, smallest}
use Rattle.dsql_laws_calls.specs.history.Readers.Tries.{tries, asks_again}
use Rattle.dsql_laws_calls.specs.history.Readers.Works.{owner_of, work}
use Rattle.dsql_laws_calls.specs.history.Readers.Unfinished.{is_unfinished, unfinished}
use Rattle.dsql_laws_calls.specs.history.Rules.Asking.{ask_outcome, may_ask}
use Rattle.dsql_laws_calls.specs.history.Rules.Flights.{is_blocked, is_in_flight}
use Rattle.dsql_laws_calls.specs.history.Rules.Line.{due_for}
use Rattle.dsql_laws_calls.specs.history.Rules.Settled.{Settled}
use Rattle.dsql_laws_calls.specs.history.Rules.Stands.{has_to_reply, is_own_step, is_settled_for, stand, opens, stands}
use Rattle.dsql_laws_calls.specs.laws.OwedMade.{with_moves}
use Rattle.dsql_laws_calls.proofs.laws.Counts.{uncounted, unmapped, waits_none}
use Rattle.dsql_laws_calls.proofs.AtEnd.{all_has}
use Rattle.dsql_laws_calls.proofs.laws.Numbered.{unfinished_from_one}
use Rattle.dsql_laws_calls.proofs.laws.Tests.{both, other_number, same_number, second, together}
use Rattle.dsql_laws_calls.proofs.laws.Wanted.{is_opening_for, none_wanted}
use Rattle.dsql_laws_others.proofs.Asked.{asks_an_open_one}
use Rattle.dsql_follows.specs.Moments.{Moment}
use Rattle.dsql_follows.specs.Splits.{is_sending}
use Rattle.dsql_follows.specs.Turns.{can_move}
use Rattle.dsql_follows.specs.Sentences.{is_whole}
use Rattle.dsql_laws_steps.specs.Groups.{after_reply, after_settling, asked_so, given_up, gone_on, sends_nothing, unless_resting}
use Rattle.dsql_laws_steps.specs.Steps.{GoesByItself, IsAtRest}
use Rattle.dsql_laws_calls.proofs.Nowhere.{others_settled}
use Rattle.dsql_laws_steps.proofs.Groups.{goes_on_by_one}
use Rattle.dsql_laws_lines.specs.Waking.{GoesOn, OnlySends}
use Rattle.dsql_laws_lines.proofs.KeptLines.{none_of}
use Rattle.dsql_laws_lines.proofs.Refused.{may_ask_again}

-- Such a call didn't step last.
pub stepped_earlier : (m : Moment) (n : ℕ) → is_whole m ≡ true → can_move m n ≡ true → is_in_flight n m.flights ≡ false → (n == m.stepper) ≡ false
stepped_earlier m n whole moves parked = by (n == m.stepper) refl
  where
    by : (b : Bool) → (n == m.stepper) ≡ b → b ≡ false
    by true is =
        let same = same_number n m.stepper is in
        let rests : is_in_flight m.stepper m.flights ≡ false = ap (λ k. is_in_flight k m.flights) (sym same) ∙ parked in
        let stays : not (can_move m m.stepper) ≡ true = second (is_in_flight m.stepper m.flights) _ rests whole in
        let clash : true ≡ false = sym stays ∙ ap not (ap (can_move m) (sym same) ∙ moves) in
        absurd cc
    by false is = refl

-- Where such a call stands: a driver call is due, or none is due and the call wants no connection.

abbrev standing : Bool → Option ℕ → Bool → ℕ → Bool → Bool → Option Stand
standing w o d c r a = or_else (stands w stands_at.Waits) (or_else (opens o) (or_else (stands d (stands_at.Sends c)) (or_else (stands r stands_at.Replies) (stands a stands_at.Asks))))

-- Holds if a call without a due driver call has to reply or to ask again.
abbrev HasToDo : Bool → Bool → Type 0
HasToDo r a = (r ≡ true) ⊎ (a ≡ true)

unblocked : (flights : List Flight) (n : ℕ) (w : Bool) (o : Option ℕ) (d : Bool) (c : ℕ) (r a : Bool) → is_blocked flights n (standing w o d c r a) ≡ false → is_some (standing w o d c r a) ≡ true
    → ((d ≡ true) × (standing w o d c r a ≡ Some (stands_at.Sends c))) ⊎ ((w ≡ false) × (o ≡ None) × (d ≡ false) × (is_sending (standing w o d c r a) ≡ false) × HasToDo r a)
unblocked flights n true o d c r a free some = absurd cc
unblocked flights n false (Some k) d c r a free some = absurd cc
unblocked flights n false None true c r a free some = inl (refl, refl)
unblocked flights n false None false c true a free some = inr (refl, refl, refl, refl, inl refl)
unblocked flights n false None false c false true free some = inr (refl, refl, refl, refl, inr refl)
unblocked flights n false None false c false false free some = absurd cc

unwanting : (n : ℕ) (p : Pooled) → waits n p.waiting ≡ false → smallest (is_for n) p ≡ None → wants n p ≡ false
unwanting n p unwaiting unopened =
    let waiting = waits_none n p.waiting unwaiting in
    let opening = uncounted (is_opening_for n) p.conns (unmapped (λ (x : Conn). x.number) (find (is_opening_for n) p.conns) unopened) in
    none_wanted n p (omega (arith, waiting, opening))

-- An unfinished call stands somewhere.
is_somewhere : (H : List Event) (n : ℕ) → Lawful H → Settled H → is_unfinished H n ≡ true → is_some (stand H n) ≡ true
is_somewhere H n lawful settled u =
    second (n == 0) (is_some (stand H n)) (other_number n 0 (unfinished_from_one H n lawful u)) (all_has (λ k. (k == 0) || is_some (stand H k)) (unfinished H) n settled.somewhere u)

goes_silent : (H : List Event) (n : ℕ) → is_unfinished H n ≡ true → is_some (due_for H n) ≡ true → gone_on n H ≡ H
goes_silent H n u due =
    let sends : sends_nothing H n ≡ false = ap (λ b. b && not (is_some (due_for H n))) u ∙ ap not due in
    ap (λ b. cond b (after_settling n (reply_due H n) H) H) sends

goes_settled : (H : List Event) (n : ℕ) (due : Option Reply) → is_unfinished H n ≡ true → is_some (due_for H n) ≡ false → reply_due H n ≡ due → gone_on n H ≡ after_settling n due H
goes_settled H n due u silent is =
    let sends : sends_nothing H n ≡ true = together (is_unfinished H n) (not (is_some (due_for H n))) u (ap not silent) in
    ap (λ b. cond b (after_settling n (reply_due H n) H) H) sends ∙ ap (λ o. after_settling n o H) is

-- One event more makes another history.
longer : (e : Event) (H : List Event) → e ∷ H ≡ H → ⊥
longer e H same = let k : length (e ∷ H) ≡ length H = ap (λ (es : List Event). length es) same in absurd (omega (arith, k))

moves_grow : (ms : List Move) (H : List Event) → length H ≤ length (with_moves ms H)
moves_grow [] H = omega arith
moves_grow (m ∷ ms) H = let rest = moves_grow ms (Pool m ∷ H) in let one : length (Pool m ∷ H) ≡ length H + 1 = omega arith in omega (arith, rest, one)

giving_grows : (o : Option ℕ) (H : List Event) → length H ≤ length (given_up o H)
giving_grows None H = omega arith
giving_grows (Some c) H = moves_grow (given_back H c) H

replying_grows : (n : ℕ) (due : Option Reply) (H : List Event) → length H ≤ length (after_reply n due H)
replying_grows n None H = omega arith
replying_grows n (Some reply) H = let before = giving_grows (rests_with H n) H in omega (arith, before)

resting_grows : (n : ℕ) (H : List Event) (b : Bool) → length H ≤ length (cond b (after_reply n (reply_due H n) H) H)
resting_grows n H true = replying_grows n (reply_due H n) H
resting_grows n H false = omega arith

-- A settled reply makes the history longer.
replies_more : (n : ℕ) (reply : Reply) (H : List Event) → after_reply n (Some reply) H ≡ H → ⊥
replies_more n reply H same =
    let before = giving_grows (rests_with H n) H in
    let k : length (after_reply n (Some reply) H) ≡ length H = ap (λ (es : List Event). length es) same in
    absurd (omega (arith, before, k))

-- One event more makes another history, even if the call goes on at once.
longer_still : (n : ℕ) (e : Event) (H : List Event) → unless_resting n (e ∷ H) ≡ H → ⊥
longer_still n e H same =
    let more : length (e ∷ H) ≤ length (unless_resting n (e ∷ H)) = resting_grows n (e ∷ H) (sends_nothing (e ∷ H) n && rests (e ∷ H) n) in
    let k : length (unless_resting n (e ∷ H)) ≡ length H = ap (λ (es : List Event). length es) same in
    absurd (omega (arith, more, k))

-- The answer of an open database makes the history longer.
answer_comes : (n : ℕ) (H : List Event) (closed takes many may : Bool) (c t k : ℕ) → closed ≡ false
    → asked_so n (cond closed (Ok asked.Closed) (cond takes (Ok (asked.Lent c t)) (cond many (Err TooMany) (cond may (Ok (asked.Opening k)) (Ok asked.Queued))))) H ≡ H → ⊥
answer_comes n H true takes many may c t k unclosed same = absurd cc
answer_comes n H false true many may c t k unclosed same = longer_still n (Pool (Lend c t (owner_of H n) n)) H same
answer_comes n H false false true may c t k unclosed same = longer (Replied n replies.TooMany) H same
answer_comes n H false false false true c t k unclosed same = longer_still n (Pool (OpenStart k n)) H same
answer_comes n H false false false false c t k unclosed same = longer_still n (Waits n) H same

-- A call that has to reply has its reply settled.

third_settled : (o p q : Option Reply) → is_some q ≡ true → is_some (or_else (or_else o p) q) ≡ true
third_settled None None q h = h
third_settled None (Some other) q h = refl
third_settled (Some own) p q h = refl

told_resting : (can : Caps) (it : Work) (tried : List Try) → asks_nothing can it tried ≡ true → is_some (told_as_lent can it tried) ≡ true
told_resting can Ping (Served ∷ earlier) h = by can.pinger can.validator h
  where
    by : (pinger validator : Bool) → not (pinger || validator) ≡ true → is_some (cond pinger None (Some replies.Ok)) ≡ true
    by true validator k = absurd cc
    by false validator k = refl
told_resting can it tried h = absurd cc

rests_somewhere : (b : Bool) (o : Option ℕ) → is_some (cond b o None) ≡ true → b ≡ true
rests_somewhere true o h = refl
rests_somewhere false o h = absurd cc

settled_so : (H : List Event) (n : ℕ) → is_settled_for H n ≡ true → is_some (reply_due H n) ≡ true
settled_so H n h = by (is_some (rests_with H n)) refl h
  where
    by : (b : Bool) → is_some (rests_with H n) ≡ b → (b || (is_none (decided H n) && is_some (told_by_others H n))) ≡ true → is_some (reply_due H n) ≡ true
    by true rest k =
        let it = rests_somewhere (rests H n) (smallest (is_home n) (pool H)) rest in
        let b = both (is_unfinished H n) (asks_nothing (caps H) (work H n) (tries H n)) it in
        third_settled (decided H n) (told_by_others H n) (told_at_lending H n) (told_resting (caps H) (work H n) (tries H n) b.1)
    by false rest k =
        let b = both (is_none (decided H n)) (is_some (told_by_others H n)) k in
        others_settled (decided H n) (told_by_others H n) (told_at_lending H n) b.1

-- A call that has to reply or asks again, and wants no connection, makes the history longer. It replies what is
-- settled, or asks and is answered.
moves_more : (H : List Event) (n : ℕ) → Lawful H → is_unfinished H n ≡ true → is_some (due_for H n) ≡ false → wants n (pool H) ≡ false → HasToDo (has_to_reply H n) (asks_again (tries H n)) → gone_on n H ≡ H → ⊥
moves_more H n l u silent free todo same = by (reply_due H n) refl
  where
    p : Pooled
    p = pool H

    is_open : (b : Bool) → (b ≡ true → ⊥) → b ≡ false
    is_open true never = absurd (never refl)
    is_open false never = refl

    asks : reply_due H n ≡ None → may_ask H n ≡ true → ⊥
    asks none may =
        let went : gone_on n H ≡ asked_so n (ask_outcome H n) H = goes_settled H n None u silent none ∙ ap (λ b. cond b (asked_so n (ask_outcome H n) H) H) may in
        answer_comes n H p.closed (takes_idle (request H n) p) (are_too_many p) (may_open p) (last p.idle) (next_tenure p (last p.idle)) (next_number p)
        (is_open p.closed (asks_an_open_one H n may)) (sym went ∙ same)

    unsettled : reply_due H n ≡ None → HasToDo (has_to_reply H n) (asks_again (tries H n)) → ⊥
    unsettled none (inl replies) =
        let b = both (not (is_own_step H n)) (is_settled_for H n) replies in
        let clash : true ≡ false = sym (settled_so H n b.1) ∙ ap (λ o. is_some o) none in
        cc
    unsettled none (inr again) = asks none (may_ask_again H n l (unfinished_from_one H n l u) u again free none)

    by : (o : Option Reply) → reply_due H n ≡ o → ⊥
    by (Some reply) is = replies_more n reply H (sym (goes_settled H n (Some reply) u silent is) ∙ same)
    by None is = unsettled is todo

pub sends_or_goes : (m : Moment) (n : ℕ) → IsAtRest m → is_whole m ≡ true → Lawful m.past → Settled m.past → can_move m n ≡ true → is_in_flight n m.flights ≡ false → OnlySends m.past n ⊎ GoesOn m n
sends_or_goes m n rest whole lawful settled moves parked =
    by
    (unblocked m.flights n (waits n (pool H).waiting) (smallest (is_for n) (pool H)) (is_some (due_for H n)) (site H n) (has_to_reply H n) (asks_again (tries H n)) free
    (is_somewhere H n lawful settled unfinished_it))
  where
    H : List Event
    H = m.past

    able : (is_unfinished H n ≡ true) × ((is_in_flight n m.flights || not (is_blocked m.flights n (stand H n))) ≡ true)
    able = both (is_unfinished H n) (is_in_flight n m.flights || not (is_blocked m.flights n (stand H n))) moves

    unfinished_it : is_unfinished H n ≡ true
    unfinished_it = able.0

    turned : (b : Bool) → not b ≡ true → b ≡ false
    turned true h = absurd cc
    turned false h = refl

    free : is_blocked m.flights n (stand H n) ≡ false
    free = turned (is_blocked m.flights n (stand H n)) (second (is_in_flight n m.flights) (not (is_blocked m.flights n (stand H n))) parked able.1)

    goes_on : is_sending (stand H n) ≡ false → (gone_on n H ≡ H → ⊥) → (gone_on n H ≡ H) ⊎ GoesByItself m n (gone_on n H) → OnlySends H n ⊎ GoesOn m n
    goes_on stands more (inl same) = absurd (more same)
    goes_on stands more (inr goes) = inr (record { stands = stands; goes = goes })

    by : ((is_some (due_for H n) ≡ true) × (stand H n ≡ Some (stands_at.Sends (site H n))))
        ⊎ ((waits n (pool H).waiting ≡ false) × (smallest (is_for n) (pool H) ≡ None) × (is_some (due_for H n) ≡ false) × (is_sending (stand H n) ≡ false) × HasToDo (has_to_reply H n) (asks_again (tries H n))) → OnlySends H n ⊎ GoesOn m n
    by (inl sends) = inl (record { conn = site H n; stands = sends.1; silent = goes_silent H n unfinished_it sends.0 })
    by (inr goes) =
        goes_on goes.3 (moves_more H n lawful unfinished_it goes.2 (unwanting n (pool H) goes.0 goes.1) goes.4)
        (goes_on_by_one m n rest (none_of (owed H) settled.nothing_owed) (stepped_earlier m n whole moves parked))
