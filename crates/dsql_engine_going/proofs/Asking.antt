-- What follows when a call asks for a connection, for each outcome of the pool.
use Rattle.std.proofs.Common.{◌≡◌, ℕ, ◌==◌, Bool, true, false, ◌&&◌, ◌||◌, cond, List, [], ◌∷◌, ◌++◌, Some, None, is_some, refl, sym, ap, subst, ◌≤◌, ◌∙◌, arith}
use Rattle.std.specs.Prelude.{Result, Ok, Err}
use Rattle.std.specs.List.{list_any}
use Rattle.std.proofs.lemmas.List.Folds.{list_any-append}
use Rattle.std.proofs.lemmas.Bool.{or_right}
use Rattle.dsql_laws_calls.specs.course.declared.course.Wish.TheVariants as wishes
use Rattle.dsql_laws_calls.specs.journal.Readers.{is_empty}
use Rattle.dsql_laws_calls.specs.journal.declared.entry.Owner.{Owner}
use Rattle.dsql_laws_calls.specs.wait.declared.request.Request.{Request}
use Rattle.dsql_laws_calls.specs.wait.Requests.{waits}
use Rattle.dsql_laws_calls.specs.pool.declared.conn.Conn.{Conn}
use Rattle.dsql_laws_calls.specs.pool.declared.conn.Place.TheVariants.{Opening}
use Rattle.dsql_laws_calls.specs.pool.declared.moves.Move.TheVariants.{OpenStart, Lend}
use Rattle.dsql_laws_calls.specs.pool.declared.request.Asked.{Asked}
use Rattle.dsql_laws_calls.specs.pool.declared.request.Asked.TheVariants as asked
use Rattle.dsql_laws_calls.specs.pool.declared.request.AskFault.{AskFault}
use Rattle.dsql_laws_calls.specs.pool.declared.request.AskFault.TheVariants as faults
use Rattle.dsql_laws_calls.specs.pool.Changes.{opening}
use Rattle.dsql_laws_calls.specs.pool.Decisions.{are_too_many, last, may_open, takes_idle}
use Rattle.dsql_laws_calls.specs.pool.Places.{is_for}
use Rattle.dsql_laws_calls.specs.pool.Pooled.{next_number, next_tenure}
use Rattle.dsql_laws_calls.specs.history.declared.event.Event.{Event}
use Rattle.dsql_laws_calls.specs.history.declared.event.Event.TheVariants.{Pool, Waits}
use Rattle.dsql_laws_calls.specs.history.declared.record.Stand.TheVariants as stands_at
use Rattle.dsql_laws_calls.specs.history.Readers.Owed.{left_of, owed}
use Rattle.dsql_laws_calls.specs.history.Readers.Pool.{smallest, place, pool, request, wanted_by}
use Rattle.dsql_laws_calls.specs.history.Readers.Calls.{rests, site}
use Rattle.dsql_laws_calls.specs.history.Readers.Unfinished.{unfinished}
use Rattle.dsql_laws_calls.specs.history.Readers.Works.{owner_of, work}
use Rattle.dsql_laws_calls.specs.history.Rules.Asking.{may_ask, ask_outcome, is_too_many}
use Rattle.dsql_laws_calls.specs.history.Rules.Line.{due_for, due_in}
use Rattle.dsql_laws_calls.specs.history.Rules.Sent.{line_of}
use Rattle.dsql_laws_calls.specs.history.Rules.Settled.{Settled, calls_stand_but, is_settled_but, owes_nothing, uses_what_is_lent}
use Rattle.dsql_laws_calls.specs.history.Rules.Stands.{stand}
use Rattle.dsql_laws_calls.specs.history.Legal.{Lawful}
use Rattle.dsql_laws_calls.specs.laws.Asked.{with_asked}
use Rattle.dsql_laws_calls.proofs.laws.Tried.{lent_count}
use Rattle.dsql_laws_calls.proofs.Own.{asks_own, due_line}
use Rattle.dsql_laws_calls.proofs.laws.Asker.{Asker, asker}
use Rattle.dsql_laws_calls.proofs.laws.Holdings.{nothing_held}
use Rattle.dsql_laws_calls.proofs.laws.Owners.{owner_number}
use Rattle.dsql_laws_calls.proofs.laws.Numbered.{unfinished_from_one}
use Rattle.dsql_laws_calls.proofs.laws.Standing.{stands_waiting}
use Rattle.dsql_laws_calls.proofs.laws.Tests.{both, other_number, same_itself, together}
use Rattle.dsql_laws_calls.proofs.laws.Wanted.{homes_apart}
use Rattle.dsql_laws_calls.proofs.laws.Wanting.{sends_where_lent}
use Rattle.dsql_laws_others.proofs.LentStands.{stand_other}
use Rattle.dsql_laws_others.proofs.Asked.{asks_an_open_one, closed_only, no_memory, asked_goes_on, asked_used}
use Rattle.dsql_laws_others.proofs.Settling.{each_stands}
use Rattle.dsql_engine_going.proofs.Replying.{settled_owes}
use Rattle.dsql_engine_going.proofs.Standing.{number_in, opens_somewhere}

unwaiting : (a b : Bool) → (a || b) ≡ false → a ≡ false
unwaiting true b h = absurd cc
unwaiting false b h = refl

-- A call that may ask has nothing to send, because it has no connection.
pub asking_silent : (H : List Event) (n : ℕ) → Lawful H → may_ask H n ≡ true → is_some (due_for H n) ≡ false
asking_silent H n l may = by (is_some (due_for H n)) refl
  where
    a : Asker H n
    a = asker H n may

    mine : due_for H n ≡ line_of H n wishes.Nothing
    mine = ap (λ (b : Bool). cond b (due_in H n (work H n)) None) a.unfinished ∙ due_line H n (work H n) a.own

    by : (b : Bool) → is_some (due_for H n) ≡ b → is_some (due_for H n) ≡ false
    by false is = is
    by true is =
        let there = sends_where_lent H n wishes.Nothing (site H n) (place H (site H n)) refl (sym (ap (λ d. is_some d) mine) ∙ is) in
        let lent : 1 ≤ lent_count n (pool H) = subst (λ m. 1 ≤ lent_count m (pool H)) (asks_own H n a.own) there in
        let none = nothing_held H n l may in
        let apart = homes_apart n (pool H).conns in
        absurd (omega (arith, lent, none, apart))

-- The pool doesn't answer that the database is closed, nor that there is no memory.

pub never_closed : (H : List Event) (n : ℕ) → may_ask H n ≡ true → ask_outcome H n ≡ Ok asked.Closed → ⊥
never_closed H n may is =
    let p = pool H in
    let lent = asked.Lent (last p.idle) (next_tenure p (last p.idle)) in
    asks_an_open_one H n may (closed_only p.closed (takes_idle (request H n) p) (are_too_many p) (may_open p) lent (next_number p) (λ same. cc) is)

pub never_memory : (H : List Event) (n : ℕ) → ask_outcome H n ≡ Err faults.Memory → ⊥
never_memory H n is =
    let p = pool H in
    let lent = asked.Lent (last p.idle) (next_tenure p (last p.idle)) in
    no_memory p.closed (takes_idle (request H n) p) (are_too_many p) (may_open p) lent (next_number p) is

-- All is settled afterwards, unless too many connections are open.

none_owed : (H : List Event) (n : ℕ) (a : Result Asked AskFault) → owed H ≡ [] → owes_nothing (with_asked n a H) ≡ true
none_owed H n (Ok (asked.Lent c t)) none = ap (λ ms. is_empty (left_of H (Lend c t (owner_of H n) n) ms)) none
none_owed H n (Ok (asked.Opening c)) none = ap (λ ms. is_empty (left_of H (OpenStart c n) ms)) none
none_owed H n (Ok asked.Queued) none = refl
none_owed H n (Ok asked.Closed) none = ap is_empty none
none_owed H n (Err why) none = ap is_empty none

pub settled_asked : (H : List Event) (n : ℕ) → Lawful H → is_settled_but n H ≡ true → may_ask H n ≡ true → is_too_many (ask_outcome H n) ≡ false → rests (with_asked n (ask_outcome H n) H) n ≡ false
    → Settled (with_asked n (ask_outcome H n) H)
settled_asked H n l h may few restless =
    let none = settled_owes H n h in
    record { nothing_owed = none_owed H n (ask_outcome H n) none; used = asked_used H n l none may h; somewhere = asked_goes_on H n l none may h few restless }

-- Each other call stays where it stood as the call is lent a connection.
others_lent : (H : List Event) (c t : ℕ) (own : Owner) (n : ℕ) → Lawful (Pool (Lend c t own n) ∷ H) → calls_stand_but n H ≡ true → calls_stand_but n (Pool (Lend c t own n) ∷ H) ≡ true
others_lent H c t own n l h = each_stands n n (unfinished H) H (Pool (Lend c t own n) ∷ H) (λ m u apart was. stand_other H c t own n m l apart (was apart)) h

-- After a lending, all is settled except for the call itself, which may rest with its connection.

pub settled_lent : (H : List Event) (c t n : ℕ) → Lawful (Pool (Lend c t (owner_of H n) n) ∷ H) → is_settled_but n H ≡ true → may_ask H n ≡ true → ask_outcome H n ≡ Ok (asked.Lent c t)
    → is_settled_but n (Pool (Lend c t (owner_of H n) n) ∷ H) ≡ true
settled_lent H c t n l h may is =
    let a = both (owes_nothing H) (uses_what_is_lent H && calls_stand_but n H) h in
    let b = both (uses_what_is_lent H) (calls_stand_but n H) a.1 in
    let K = Pool (Lend c t (owner_of H n) n) ∷ H in
    let none = settled_owes H n h in
    let used : uses_what_is_lent K ≡ true = sym (ap (λ o. uses_what_is_lent (with_asked n o H)) is) ∙ asked_used H n l.0 none may h in
    together (owes_nothing K) (uses_what_is_lent K && calls_stand_but n K) (none_owed H n (Ok (asked.Lent c t)) none)
    (together (uses_what_is_lent K) (calls_stand_but n K) used (others_lent H c t (owner_of H n) n l b.1))

-- A connection begins to be opened for the call.

pub stands_opened : (H : List Event) (n c : ℕ) → Lawful (Pool (OpenStart c n) ∷ H) → may_ask H n ≡ true
    → stand (Pool (OpenStart c n) ∷ H) n ≡ Some (stands_at.Opens (number_in (smallest (is_for n) (pool (Pool (OpenStart c n) ∷ H)))))
stands_opened H n c l may =
    let a = asker H n may in
    let p = pool H in
    let x = opening (next_number p) (wanted_by H n) in
    let some = unfinished_from_one H n l.0 a.unfinished in
    let for_it : is_for n (Opening (wanted_by H n)) ≡ true = ap (λ b. is_for n (Opening (cond b None (Some (owner_of H n))))) (other_number n 0 some) ∙ (ap (λ k. k == n) (owner_number H n) ∙ same_itself n) in
    let last_one : list_any (λ (conn : Conn). is_for n conn.place) (x ∷ []) ≡ true = ap (λ b. b || false) for_it in
    let any : list_any (λ (conn : Conn). is_for n conn.place) (p.conns ++ x ∷ []) ≡ true =
    list_any-append (λ (conn : Conn). is_for n conn.place) p.conns (x ∷ []) ∙ or_right (list_any (λ (conn : Conn). is_for n conn.place) p.conns) (list_any (λ (conn : Conn). is_for n conn.place) (x ∷ [])) last_one in
    opens_somewhere (Pool (OpenStart c n) ∷ H) n l a.unfinished
    (unwaiting (waits n p.waiting) (list_any (λ conn. is_for n conn.place) p.conns) a.unwanting)
    (or_right (waits n p.waiting) (list_any (λ (conn : Conn). is_for n conn.place) (p.conns ++ x ∷ [])) any)

-- The call waits.

pub stands_queued : (H : List Event) (n : ℕ) → stand (Waits n ∷ H) n ≡ Some stands_at.Waits
stands_queued H n =
    let r = request H n in
    let rs = (pool H).waiting in
    stands_waiting (Waits n ∷ H) n
    (list_any-append (λ (q : Request). q.call == n) rs (r ∷ []) ∙ or_right (waits n rs) (waits n (r ∷ [])) (ap (λ b. b || false) (same_itself n)))
