-- A call that asks stands somewhere afterwards, unless too many connections are open. The argument takes the
-- outcomes of asking apart.
use Rattle.std.proofs.Common.{◌≡◌, ℕ, Bool, true, false, cond, List, [], ◌∷◌, Option, Some, None, is_some, refl, sym, ap, ◌∙◌, ◌&&◌}
use Rattle.std.specs.Prelude.{Result, Ok, Err}
use Rattle.std.specs.Option.{option_map}
use Rattle.dsql_laws_calls.specs.pool.declared.moves.Move.TheVariants.{OpenStart}
use Rattle.dsql_laws_calls.specs.pool.declared.request.Asked.{Asked}
use Rattle.dsql_laws_calls.specs.pool.declared.request.Asked.TheVariants as asked
use Rattle.dsql_laws_calls.specs.pool.declared.request.AskFault.{AskFault}
use Rattle.dsql_laws_calls.specs.pool.declared.request.AskFault.TheVariants.{TooMany, Memory}
use Rattle.dsql_laws_calls.specs.pool.Decisions.{takes_idle, are_too_many, may_open, last}
use Rattle.dsql_laws_calls.specs.pool.Pooled.{Pooled, next_number, next_tenure}
use Rattle.dsql_laws_calls.specs.history.declared.event.Control.{Control}
use Rattle.dsql_laws_calls.specs.history.declared.event.Setting.TheVariants.{MaxOpen}
use Rattle.dsql_laws_calls.specs.history.declared.event.Control.TheVariants.{Tick, Set}
use Rattle.dsql_laws_calls.specs.history.declared.record.Try.{Try}
use Rattle.dsql_laws_calls.specs.history.declared.reply.DbEnd.{DbEnd}
use Rattle.dsql_laws_calls.specs.history.declared.reply.DbEnd.TheVariants as ends
use Rattle.dsql_laws_calls.specs.history.Readers.Pool.{with_control, pool, request}
use Rattle.dsql_laws_calls.specs.history.Readers.Tries.{has_a_try, try_number, tries, tries_again}
use Rattle.dsql_laws_calls.specs.history.declared.work.Work.{Work}
use Rattle.dsql_laws_calls.specs.history.Readers.Works.{work, owner_of}
use Rattle.dsql_laws_calls.specs.history.declared.event.Event.{Event}
use Rattle.dsql_laws_calls.specs.history.declared.event.Event.TheVariants.{Entered, Pool, Ticked, SetLimit, Ended}
use Rattle.dsql_laws_calls.specs.history.declared.event.Op.TheVariants.{DbClose}
use Rattle.dsql_laws_calls.specs.history.declared.reply.Reply.TheVariants.{DbClosed}
use Rattle.dsql_laws_calls.specs.history.Readers.Calls.{decided, told_at_lending, told_by_others, told_by_tries, reply_due, last_told, rests}
use Rattle.dsql_laws_calls.specs.history.Readers.Course.{db_end, or_end}
use Rattle.dsql_laws_calls.specs.history.Readers.Owed.{owed}
use Rattle.dsql_laws_calls.specs.history.Rules.Asking.{may_ask, ask_outcome, is_too_many}
use Rattle.dsql_laws_calls.specs.history.Rules.Settled.{uses_what_is_lent, calls_stand, calls_stand_but, is_settled_but, owes_nothing}
use Rattle.dsql_laws_calls.specs.history.Legal.{Lawful}
use Rattle.dsql_laws_calls.specs.laws.Asked.{with_asked}
use Rattle.dsql_laws_calls.proofs.laws.Asker.{asker}
use Rattle.dsql_laws_calls.proofs.laws.AskedAllowed.{asked_lawful}
use Rattle.dsql_laws_calls.proofs.Nowhere.{others_settled, told_own}
use Rattle.dsql_laws_others.proofs.Openings.{silent, used_opens, goes_on_opens}
use Rattle.dsql_laws_others.proofs.Untouched.{used_waits, goes_on_waits}
use Rattle.dsql_laws_others.proofs.LentBeside.{all_used}
use Rattle.dsql_laws_others.proofs.LentStands.{itself_lent}
use Rattle.dsql_laws_calls.proofs.laws.Tests.{both}

-- If the database is closed, something has closed it.

pub ended_by_now : (o : Option DbEnd) (end : DbEnd) → is_some (or_end o end) ≡ true
ended_by_now None end = refl
ended_by_now (Some earlier) end = refl

control_closed : (control : Control) (p : Pooled) → (with_control control p).closed ≡ p.closed
control_closed (Set MaxOpen k) p = refl
control_closed _ p = refl

closed_end : (H : List Event) → (pool H).closed ≡ true → is_some (db_end H) ≡ true
closed_end [] h = absurd cc
closed_end (Entered client m DbClose ∷ H) h = ended_by_now (db_end H) ends.Close
closed_end (Pool (OpenStart c k) ∷ H) h = closed_end H h
closed_end (Ticked now ∷ H) h = closed_end H (sym (control_closed (Tick now) (pool H)) ∙ h)
closed_end (SetLimit s k ∷ H) h = closed_end H (sym (control_closed (Set s k) (pool H)) ∙ h)
closed_end (Ended ∷ H) h = ended_by_now (db_end H) ends.EndOfRun
closed_end (_ ∷ H) h = closed_end H h

-- A call that would ask a closed database has its reply settled, so it doesn't ask.

some_told : (H : List Event) (w : Work) (ts : List Try) → has_a_try ts ≡ true → is_some (db_end H) ≡ true → is_some (told_by_tries H w ts) ≡ true
some_told H w ts left some = ap (λ b. is_some (cond b (option_map DbClosed (db_end H)) (last_told (tries_again w (try_number ts)) (try_number ts) ts))) left ∙ by (db_end H) some
  where
    by : (o : Option DbEnd) → is_some o ≡ true → is_some (option_map DbClosed o) ≡ true
    by None h = absurd cc
    by (Some end) h = refl

pub asks_an_open_one : (H : List Event) (n : ℕ) → may_ask H n ≡ true → (pool H).closed ≡ true → ⊥
asks_an_open_one H n may closed =
    let it = asker H n may in
    let told : is_some (told_by_others H n) ≡ true = ap (λ o. is_some o) (told_own H n (work H n) it.own) ∙ some_told H (work H n) (tries H n) it.try_left (closed_end H closed) in
    let settled = others_settled (decided H n) (told_by_others H n) (told_at_lending H n) told in
    let none : is_some (reply_due H n) ≡ false = ap (λ o. is_some o) it.unsettled in
    never (is_some (reply_due H n)) settled none
  where
    never : (b : Bool) → b ≡ true → b ≡ false → ⊥
    never b x y = cc

pub closed_only : (closed takes many may : Bool) (it : Asked) (c : ℕ) → (it ≡ asked.Closed → ⊥) → cond closed (Ok asked.Closed) (cond takes (Ok it) (cond many (Err TooMany) (cond may (Ok (asked.Opening c)) (Ok asked.Queued)))) ≡ Ok asked.Closed → closed ≡ true
closed_only true takes many may it c other is = refl
closed_only false true many may it c other is = let same : it ≡ asked.Closed = cc in absurd (other same)
closed_only false false true may it c other is = absurd cc
closed_only false false false true it c other is = absurd cc
closed_only false false false false it c other is = absurd cc

pub no_memory : (closed takes many may : Bool) (it : Asked) (c : ℕ) → cond closed (Ok asked.Closed) (cond takes (Ok it) (cond many (Err TooMany) (cond may (Ok (asked.Opening c)) (Ok asked.Queued)))) ≡ Err Memory → ⊥
no_memory true takes many may it c is = cc
no_memory false true many may it c is = cc
no_memory false false true may it c is = cc
no_memory false false false true it c is = cc
no_memory false false false false it c is = cc

pub asked_goes_on : (H : List Event) (n : ℕ) → Lawful H → owed H ≡ [] → may_ask H n ≡ true → is_settled_but n H ≡ true → is_too_many (ask_outcome H n) ≡ false → rests (with_asked n (ask_outcome H n) H) n ≡ false → calls_stand (with_asked n (ask_outcome H n) H) ≡ true
asked_goes_on H n l none may settled few restless = by (ask_outcome H n) refl few restless (asked_lawful H n l none may settled)
  where
    p : Pooled
    p = pool H

    h : calls_stand_but n H ≡ true
    h = let a = both (owes_nothing H) (uses_what_is_lent H && calls_stand_but n H) settled in let b = both (uses_what_is_lent H) (calls_stand_but n H) a.1 in b.1

    lent : Asked
    lent = asked.Lent (last p.idle) (next_tenure p (last p.idle))

    never : true ≡ false → ⊥
    never x = cc

    by : (a : Result Asked AskFault) → ask_outcome H n ≡ a → is_too_many a ≡ false → rests (with_asked n a H) n ≡ false → Lawful (with_asked n a H) → calls_stand (with_asked n a H) ≡ true
    by (Ok (asked.Lent c t)) is k r law = itself_lent H c t (owner_of H n) n law (λ x. absurd (never (sym x ∙ r))) h
    by (Ok (asked.Opening c)) is k r law = goes_on_opens H c n (silent H l) h
    by (Ok asked.Queued) is k r law = goes_on_waits H n h
    by (Ok asked.Closed) is k r law = absurd (asks_an_open_one H n may (closed_only p.closed (takes_idle (request H n) p) (are_too_many p) (may_open p) lent (next_number p) (λ same. cc) is))
    by (Err TooMany) is k r law = absurd cc
    by (Err Memory) is k r law = absurd (no_memory p.closed (takes_idle (request H n) p) (are_too_many p) (may_open p) lent (next_number p) is)

pub asked_used : (H : List Event) (n : ℕ) → Lawful H → owed H ≡ [] → may_ask H n ≡ true → is_settled_but n H ≡ true → uses_what_is_lent (with_asked n (ask_outcome H n) H) ≡ true
asked_used H n l none may settled = by (ask_outcome H n) (asked_lawful H n l none may settled)
  where
    h : uses_what_is_lent H ≡ true
    h = let a = both (owes_nothing H) (uses_what_is_lent H && calls_stand_but n H) settled in let b = both (uses_what_is_lent H) (calls_stand_but n H) a.1 in b.0

    by : (a : Result Asked AskFault) → Lawful (with_asked n a H) → uses_what_is_lent (with_asked n a H) ≡ true
    by (Ok (asked.Lent c t)) law = all_used H c t (owner_of H n) n law h
    by (Ok (asked.Opening c)) law = used_opens H c n ∙ h
    by (Ok asked.Queued) law = used_waits H n ∙ h
    by (Ok asked.Closed) law = h
    by (Err why) law = h
