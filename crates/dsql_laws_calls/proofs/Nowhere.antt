-- A call that can't ask, wants no connection and was lent none has a settled reply.
use Rattle.std.proofs.Common.{◌≡◌, ℕ, Bool, true, false, not, ◌&&◌, cond, List, [], ◌∷◌, option_map, Option, Some, None, is_some, is_none, refl, ap, ◌∙◌}
use Rattle.dsql_laws.specs.course.Made.{or_else}
use Rattle.dsql_laws.specs.pool.Calls.{wants}
use Rattle.dsql_laws.specs.history.declared.record.Try.{Try}
use Rattle.dsql_laws.specs.history.declared.record.Try.TheVariants.{Served, Lost, Refused}
use Rattle.dsql_laws.specs.history.Readers.Pool.{smallest, is_home, pool}
use Rattle.dsql_laws.specs.history.Readers.Tries.{try_number, has_a_try, was_served, tries, tries_again}
use Rattle.dsql_laws.proofs.Tests.{together}
use Rattle.dsql_laws_calls.specs.Nothing.{HasNothing, is_elsewhere}
use Rattle.dsql_laws.specs.history.declared.work.Work.{Work}
use Rattle.dsql_laws.specs.history.declared.work.Work.TheVariants.{Statement, Begin, Ping, Close, Look}
use Rattle.dsql_laws.specs.history.Readers.Works.{asks, work}
use Rattle.dsql_laws.specs.history.declared.event.Event.{Event}
use Rattle.dsql_laws.specs.history.declared.reply.Reply.{Reply}
use Rattle.dsql_laws.specs.history.declared.reply.Reply.TheVariants.{DbClosed}
use Rattle.dsql_laws.specs.history.Readers.Calls.{decided, last_told, told_at_lending, told_by_tries, told_of_work, reply_due}
use Rattle.dsql_laws.specs.history.Readers.Course.{db_end}
use Rattle.dsql_laws.specs.history.Readers.HandedOut.{rows_by}
use Rattle.dsql_laws.specs.history.Readers.Unfinished.{is_unfinished}
use Rattle.dsql_laws.specs.history.Rules.Asking.{may_try, may_ask}
use Rattle.dsql_laws.specs.history.Legal.{Lawful}
use Rattle.dsql_laws_calls.proofs.Works.{is_look}
use Rattle.dsql_laws_calls.proofs.Looked.{looked}
use Rattle.dsql_laws_calls.proofs.Refusals.{refusal_told, loss_told}
use Rattle.dsql_laws.specs.history.declared.work.Scope.TheVariants.{Db}

pub own_settled : (o p q : Option Reply) → is_some o ≡ true → is_some (or_else (or_else o p) q) ≡ true
own_settled None p q h = absurd cc
own_settled (Some own) p q h = refl

pub others_settled : (o p q : Option Reply) → is_some p ≡ true → is_some (or_else (or_else o p) q) ≡ true
others_settled None None q h = absurd cc
others_settled None (Some other) q h = refl
others_settled (Some own) p q h = refl

last_fails : (a b c d : Bool) (o : Option Reply) → (a && (b && (c && (d && is_none o)))) ≡ false → a ≡ true → b ≡ true → c ≡ true → d ≡ true → is_some o ≡ true
last_fails true true true true (Some reply) h ha hb hc hd = refl
last_fails true true true true None h ha hb hc hd = absurd cc
last_fails false b c d o h ha hb hc hd = absurd cc
last_fails true false c d o h ha hb hc hd = absurd cc
last_fails true true false d o h ha hb hc hd = absurd cc
last_fails true true true false o h ha hb hc hd = absurd cc

-- The call asks for a connection.

pub told_own : (H : List Event) (n : ℕ) (w : Work) → asks w ≡ true → told_of_work H n w ≡ told_by_tries H w (tries H n)
told_own H n (Statement Db task) own = refl
told_own H n (Begin label level read_only) own = refl
told_own H n Ping own = refl
told_own H n w own = absurd cc

may_try_with : (H : List Event) (n : ℕ) → HasNothing H n → has_a_try (tries H n) ≡ true → may_try H n ≡ true
may_try_with H n none left =
    together (has_a_try (tries H n)) (is_none (smallest (is_home n) (pool H)) && is_none (rows_by H n)) left
    (together (is_none (smallest (is_home n) (pool H))) (is_none (rows_by H n)) (ap (λ o. is_none o) none.homeless) (ap (λ o. is_none o) none.rowless))

told_last : (H : List Event) (w : Work) (n : ℕ) (ts : List Try) → Lawful H → tries H n ≡ ts → has_a_try ts ≡ false → was_served ts ≡ false → is_some (last_told (tries_again w (try_number ts)) (try_number ts) ts) ≡ true
told_last H w n [] l is last none = absurd cc
told_last H w n (Served ∷ earlier) l is last none = absurd cc
told_last H w n (Lost ∷ earlier) l is last none = loss_told w earlier last
told_last H w n (Refused answer ∷ earlier) l is last none = refusal_told H w n answer earlier l is last

unserved : (H : List Event) (n : ℕ) → Lawful H → asks (work H n) ≡ true → is_unfinished H n ≡ true → HasNothing H n → may_ask H n ≡ false → was_served (tries H n) ≡ false
    → is_some (reply_due H n) ≡ true
unserved H n l own u nothing may none = by (has_a_try (tries H n)) refl
  where
    by : (b : Bool) → has_a_try (tries H n) ≡ b → is_some (reply_due H n) ≡ true
    by true left =
        last_fails (is_unfinished H n) (asks (work H n)) (may_try H n) (not (wants n (pool H))) (reply_due H n) may u own (may_try_with H n nothing left) (ap not nothing.unwanting)
    by false last =
        let told : told_of_work H n (work H n) ≡ last_told (tries_again (work H n) (try_number (tries H n))) (try_number (tries H n)) (tries H n) =
        told_own H n (work H n) own ∙ ap (λ b. cond b (option_map DbClosed (db_end H)) (last_told (tries_again (work H n) (try_number (tries H n))) (try_number (tries H n)) (tries H n))) last
        in
        others_settled (decided H n) (told_of_work H n (work H n)) (told_at_lending H n) (ap (λ o. is_some o) told ∙ told_last H (work H n) n (tries H n) l refl last none)

pub settled_unserved : (H : List Event) (n : ℕ) → Lawful H → is_unfinished H n ≡ true → (asks (work H n) ≡ true → HasNothing H n) → may_ask H n ≡ false → was_served (tries H n) ≡ false → is_elsewhere (work H n) ≡ false
    → is_some (reply_due H n) ≡ true
settled_unserved H n l u nothing may none here = by (work H n) refl here
  where
    own : (w : Work) → work H n ≡ w → asks w ≡ true → is_some (reply_due H n) ≡ true
    own w is asking = let its = ap asks is ∙ asking in unserved H n l its u (nothing its) may none

    by : (w : Work) → work H n ≡ w → is_elsewhere w ≡ false → is_some (reply_due H n) ≡ true
    by (Statement Db task) is at = own (Statement Db task) is refl
    by (Begin label level read_only) is at = own (Begin label level read_only) is refl
    by Ping is at = own Ping is refl
    by (Close k) is at = others_settled (decided H n) (told_of_work H n (work H n)) (told_at_lending H n) (ap (λ w. is_some (told_of_work H n w)) is)
    by Look is at = own_settled (decided H n) (told_of_work H n (work H n)) (told_at_lending H n) (looked H n l u (ap is_look is))
    by w is at = absurd cc
