-- Proves that each move which a lawful history owes can be made in its turn. The argument goes through what
-- each event makes due.
use Rattle.std.proofs.Common.{◌≡◌, true, false, not, refl, ℕ, ◌==◌, Bool, ◌&&◌, ◌||◌, cond, List, [], ◌∷◌, sym, ap, subst, ◌∙◌, Option, Some}
use Rattle.dsql_history.specs.driver.declared.call.DriverCall.{DriverCall}
use Rattle.dsql_history.specs.driver.declared.call.DriverCall.TheVariants as calls
use Rattle.dsql_history.specs.driver.declared.answer.DriverAnswer.{DriverAnswer}
use Rattle.dsql_history.specs.driver.declared.answer.DriverAnswer.TheVariants as answers
use Rattle.dsql_history.specs.driver.Fits.{is_done, is_failure, is_memory, fits_of}
use Rattle.dsql_history.specs.driver.Kinds.{is_connect, is_shut}
use Rattle.std.specs.Prelude.{drop}
use Rattle.std.specs.List.{list_all}
use Rattle.std.proofs.lemmas.List.Folds.{list_all-append}
use Rattle.dsql_history.specs.journal.declared.entry.Entry.{Entry}
use Rattle.dsql_history.specs.journal.declared.entry.Owner.{Owner}
use Rattle.dsql_history.specs.journal.Kinds.{number_of}
use Rattle.dsql_history.specs.journal.Journal.{may_follow, is_whole, is_finished, is_journal_prefix}
use Rattle.dsql_history.specs.journal.Facts.{MayFollow}
use Rattle.dsql_history.proofs.journal.Sentences.{MayFollow-of}
use Rattle.dsql_history.specs.wait.declared.request.Request.{Request}
use Rattle.dsql_history.specs.wait.Requests.{without_call}
use Rattle.dsql_history.specs.pool.declared.conn.Place.{Place}
use Rattle.dsql_history.specs.pool.declared.conn.Place.TheVariants.{Opening, Closing}
use Rattle.dsql_history.specs.pool.declared.moves.Move.{Move}
use Rattle.dsql_history.specs.pool.declared.moves.Move.TheVariants.{Lend, Back, CloseStart, Fell}
use Rattle.dsql_history.specs.pool.declared.moves.Outcome.{Outcome}
use Rattle.dsql_history.specs.pool.Places.{is_lent, is_opening, is_closing}
use Rattle.dsql_history.specs.pool.Pooled.{Pooled, place_at, next_tenure}
use Rattle.dsql_history.specs.pool.Moved.{moved, ticked}
use Rattle.dsql_history.specs.pool.Decisions.{moves_back, when_given_back}
use Rattle.dsql_history.specs.pool.Calls.{moves_opened, moves_failed, lifetime_set, idle_time_set}
use Rattle.dsql_history.specs.pool.Rest.{AtRest}
use Rattle.dsql_history.proofs.pool.Rows.{all_filter}
use Rattle.dsql_history.specs.declared.event.Control.{Control}
use Rattle.dsql_history.specs.declared.event.Setting.TheVariants.{MaxOpen, MaxIdle, MaxLife, MaxIdleTime}
use Rattle.dsql_history.specs.declared.event.Control.TheVariants.{Tick, Set}
use Rattle.dsql_history.specs.Same.{is_first}
use Rattle.dsql_history.specs.Readers.Pool.{with_control, pool, place, request, with_move}
use Rattle.dsql_history.specs.Readers.Owed.{answered, controlled, fate, given_back, leaving, left_of, owed}
use Rattle.dsql_history.specs.declared.event.Event.{Event}
use Rattle.dsql_history.specs.declared.event.Event.TheVariants.{Entered, Heard, Pool, Waits, Ticked, SetLimit, Ended}
use Rattle.dsql_history.specs.declared.event.Op.TheVariants.{DbClose}
use Rattle.dsql_history.specs.Readers.Journals.{journal}
use Rattle.dsql_history.specs.Readers.Works.{owner_of}
use Rattle.dsql_history.specs.Rules.Order.{follows}
use Rattle.dsql_history.specs.Rules.Causes.{is_owed, is_given_back}
use Rattle.dsql_history.specs.Rules.Moves.{hears_in, is_house_entry}
use Rattle.dsql_history.specs.Legal.{Allowed, Lawful}
use Rattle.dsql_laws.proofs.Tests.{both, second, together, same_itself, move_is}
use Rattle.dsql_laws.proofs.OwedMoves.{is_own, are_own, own_moved, owed_own}
use Rattle.dsql_laws.proofs.Truths.{or_second}
use Rattle.dsql_laws.proofs.Able.{is_able, are_able, is_own_request, open_set_able, idle_set_able, outdated_able, closed_able, opened_able, failed_able, gone_able, back_able}
use Rattle.dsql_laws.proofs.AtRest.{Keeps, keeps_of, owes, rested, before_event, given_so}
use Rattle.dsql_laws.proofs.Owners.{owner_number}
use Rattle.dsql_laws.proofs.Journals.{keeps_journals_of}

-- An answer to a Connect that is neither Done nor a lack of memory is a failure.

pub connect_fails : (call : DriverCall) (answer : DriverAnswer) → is_connect call ≡ true → fits_of call answer ≡ true → not (is_memory answer) ≡ true → is_done answer ≡ false → is_failure answer ≡ true
connect_fails calls.Connect answers.Bad is fits heard not_done = refl
connect_fails calls.Connect (answers.Fail text) is fits heard not_done = refl
connect_fails _ _ is fits heard not_done = absurd cc

-- Each request that waits belongs to its owner.

same_waiting : (control : Control) (p : Pooled) → list_all is_own_request p.waiting ≡ true → list_all is_own_request (with_control control p).waiting ≡ true
same_waiting (Set MaxOpen n) p h = h
same_waiting _ p h = h

left_requests : (n : ℕ) (rs : List Request) → list_all is_own_request rs ≡ true → list_all is_own_request (without_call n rs) ≡ true
left_requests n rs h = all_filter is_own_request (λ r. not (r.call == n)) rs h

pub own_requests : (H : List Event) → list_all is_own_request (pool H).waiting ≡ true
own_requests [] = refl
own_requests (Entered client n DbClose ∷ H) = refl
own_requests (Pool (Lend c t o n) ∷ H) = left_requests n (pool H).waiting (own_requests H)
own_requests (Pool (Fell c n) ∷ H) = left_requests n (pool H).waiting (own_requests H)
own_requests (Waits n ∷ H) =
    let own : (n == number_of (owner_of H n)) ≡ true = subst (λ m. (n == m) ≡ true) (sym (owner_number H n)) (same_itself n) in
    let last : list_all is_own_request (request H n ∷ []) ≡ true = together (n == number_of (owner_of H n)) true own refl in
    list_all-append is_own_request (pool H).waiting (request H n ∷ [])
    ∙ together (list_all is_own_request (pool H).waiting) (list_all is_own_request (request H n ∷ [])) (own_requests H) last
own_requests (Ticked now ∷ H) = same_waiting (Tick now) (pool H) (own_requests H)
own_requests (SetLimit s n ∷ H) = same_waiting (Set s n) (pool H) (own_requests H)
own_requests (Ended ∷ H) = refl
own_requests (_ ∷ H) = own_requests H

-- An answer that leaves a whole journal.

-- What is known of an entry that may be heard.
pub record MayHear (H : List Event) (e : Entry) : Type 0 where
  pub sets : hears_in (pool H) (place H e.conn) e ≡ true
  pub follows : may_follow (journal H e.conn) e ≡ true

may_hear : (H : List Event) (e : Entry) → Allowed H (Heard e) → MayHear H e
unfolding Allowed
may_hear H e a = record { sets = a.sets; follows = a.journals }

heard_last : (H : List Event) (e : Entry) → e ∷ journal H e.conn ≡ journal (Heard e ∷ H) e.conn
heard_last H e = ap (λ (b : Bool). cond b (e ∷ journal H e.conn) (journal H e.conn)) (sym (same_itself e.conn))

whole_with : (H : List Event) (e : Entry) → Lawful (Heard e ∷ H) → (is_shut e.call || (is_connect e.call && is_failure e.answer)) ≡ true → is_whole (journal (Heard e ∷ H) e.conn) ≡ true
whole_with H e l last =
    let kept = keeps_journals_of (Heard e ∷ H) l in
    let begins : is_journal_prefix (e ∷ journal H e.conn) ≡ true = subst (λ J. is_journal_prefix J ≡ true) (sym (heard_last H e)) (kept.beginnings e.conn) in
    subst (λ J. is_whole J ≡ true) (heard_last H e) (together (is_journal_prefix (e ∷ journal H e.conn)) (is_finished (e ∷ journal H e.conn)) begins last)

refused_whole : (H : List Event) (e : Entry) (wanted : Option Owner) → Lawful (Heard e ∷ H) → place H e.conn ≡ Some (Opening wanted) → is_done e.answer ≡ false → is_whole (journal (Heard e ∷ H) e.conn) ≡ true
refused_whole H e wanted l is not_done =
    let may = may_hear H e l.1 in
    let hears : hears_in (pool H) (Some (Opening wanted)) e ≡ true = subst (λ at. hears_in (pool H) at e ≡ true) is may.sets in
    let connects = both (is_connect e.call) ((e.tenure == 1) && is_house_entry e) hears in
    let m : MayFollow (journal H e.conn) e = MayFollow-of (journal H e.conn) e may.follows in
    let fails = connect_fails e.call e.answer connects.0 m.answer.fitting m.answer.heard not_done in
    whole_with H e l (or_second (is_shut e.call) (is_connect e.call && is_failure e.answer) (together (is_connect e.call) (is_failure e.answer) connects.0 fails))

shut_whole : (H : List Event) (e : Entry) → Lawful (Heard e ∷ H) → place H e.conn ≡ Some Closing → is_whole (journal (Heard e ∷ H) e.conn) ≡ true
shut_whole H e l is =
    let may = may_hear H e l.1 in
    let hears : hears_in (pool H) (Some Closing) e ≡ true = subst (λ at. hears_in (pool H) at e ≡ true) is may.sets in
    let shuts = both (is_shut e.call) ((e.tenure == next_tenure (pool H) e.conn) && is_house_entry e) hears in
    whole_with H e l (ap (λ b. b || (is_connect e.call && is_failure e.answer)) shuts.0)

-- What each event makes due.

heard_able : (H : List Event) (e : Entry) (at : Option Place) → Lawful (Heard e ∷ H) → place H e.conn ≡ at → are_able (journal (Heard e ∷ H)) (answered e.answer e.conn (pool H) at) (pool H) ≡ true
heard_able H e (Some (Opening wanted)) l is =
    let J = journal (Heard e ∷ H) in
    let p = pool H in
    let c = e.conn in
    elim (is_done e.answer) as (λ b. is_done e.answer ≡ b → are_able J (cond b (moves_opened c p) (moves_failed c p)) p ≡ true) [
      | true ↦ λ done. opened_able J c p (place_at p c) refl (own_requests H)
      | false ↦ λ not_done. failed_able J c p (ap is_opening is) (refused_whole H e wanted l is not_done)
    ] refl
heard_able H e (Some Closing) l is = gone_able (journal (Heard e ∷ H)) e.conn (pool H) (ap is_closing is) (shut_whole H e l is)
heard_able H e _ l is = refl

control_able : (J : ℕ → List Entry) (control : Control) (p : Pooled) → AtRest p → are_able J (controlled control p) (with_control control p) ≡ true
control_able J (Tick n) p h = outdated_able J (ticked n p) h.placed
control_able J (Set MaxOpen n) p h = open_set_able J n p h.placed
control_able J (Set MaxIdle n) p h = idle_set_able J n p h.placed
control_able J (Set MaxLife n) p h = outdated_able J (lifetime_set n p) h.placed
control_able J (Set MaxIdleTime n) p h = outdated_able J (idle_time_set n p) h.placed

rest_able : (J : ℕ → List Entry) (c : ℕ) (p : Pooled) (o : Outcome) (ms : List Move) (m : Move) → moves_back c p o ≡ ms → is_first ms m ≡ true → list_all is_own_request p.waiting ≡ true → is_lent (place_at p c) ≡ true → are_able J (drop 1 ms) (moved m p) ≡ true
rest_able J c p o [] m is first own h = absurd cc
rest_able J c p o (k ∷ ms) m is first own h = subst (λ j. are_able J ms (moved j p) ≡ true) (move_is k m first) (back_able J c p o k ms is own h)

leaving_able : (H : List Event) (c : ℕ) (m : Move) → is_given_back H c m ≡ true → are_able (journal H) (drop 1 (given_back H c)) (moved m (pool H)) ≡ true
leaving_able H c m is =
    let a = given_so H c m is in
    rest_able (journal H) c (pool H) (when_given_back (fate H c) c (pool H)) (given_back H c) m refl a.1 (own_requests H) a.0

unowed_able : (H : List Event) (m : Move) → Keeps H (Pool m) → owed H ≡ [] → are_able (journal H) (drop 1 (leaving H m)) (with_move H m (pool H)) ≡ true
unowed_able H (Back c) k none = leaving_able H c (Back c) (second (is_owed H) (is_given_back H c (Back c)) (owes H none) k.causes)
unowed_able H (CloseStart c why) k none = leaving_able H c (CloseStart c why) (second (is_owed H) (is_given_back H c (CloseStart c why)) (owes H none) k.causes)
unowed_able H _ k none = refl

move_able : (H : List Event) (m : Move) (ms : List Move) → Keeps H (Pool m) → owed H ≡ ms → are_own ms ≡ true → are_able (journal H) ms (pool H) ≡ true → are_able (journal H) (left_of H m ms) (with_move H m (pool H)) ≡ true
move_able H m [] k is own h = unowed_able H m k is
move_able H m (due ∷ later) k is own h =
    let made_it : follows (due ∷ later) (Pool m) ≡ true = subst (λ ns. follows ns (Pool m) ≡ true) is k.order in
    let same : due ≡ m = move_is due m made_it in
    let a = both (is_own due) (are_own later) own in
    let b = both (is_able (journal H) (pool H) due) (are_able (journal H) later (moved due (pool H))) h in
    let begun_so : with_move H due (pool H) ≡ moved due (pool H) = own_moved H due (pool H) a.0 in
    subst (λ j. are_able (journal H) later (with_move H j (pool H)) ≡ true) same (subst (λ q. are_able (journal H) later q ≡ true) (sym begun_so) b.1)

pub able : (H : List Event) → Lawful H → are_able (journal H) (owed H) (pool H) ≡ true
able (Entered client n DbClose ∷ H) l = let rest = before_event H (Entered client n DbClose) refl l.1 (rested H l.0) in closed_able (journal H) (pool H) rest.placed
able (Heard e ∷ H) l = heard_able H e (place H e.conn) l refl
able (Pool m ∷ H) l = move_able H m (owed H) (keeps_of H (Pool m) l.1) refl (owed_own H) (able H l.0)
able (Ticked now ∷ H) l = control_able (journal H) (Tick now) (pool H) (before_event H (Ticked now) refl l.1 (rested H l.0))
able (SetLimit s n ∷ H) l = control_able (journal H) (Set s n) (pool H) (before_event H (SetLimit s n) refl l.1 (rested H l.0))
able (Ended ∷ H) l = let rest = before_event H Ended refl l.1 (rested H l.0) in closed_able (journal H) (pool H) rest.placed
able _ l = refl
