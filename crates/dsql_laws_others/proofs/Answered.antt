-- A call to which a refusal falls stands where it replies or asks again. A call that still waits when the
-- database closes stands where it replies.
use Rattle.std.proofs.Common.{◌≡◌, ℕ, Bool, true, false, Option, Some, None, refl, ◌≢◌, ◌≤◌, ◌&&◌, cond, List, ◌∷◌, is_some, is_none, sym, ap, ◌∙◌, arith}
use Rattle.std.proofs.lemmas.Bool.{or_right}
use Rattle.dsql_laws_calls.specs.course.Made.{or_else}
use Rattle.dsql_laws_calls.specs.history.declared.record.Stand.{Stand}
use Rattle.dsql_laws_calls.specs.history.declared.record.Stand.TheVariants as stands_at
use Rattle.dsql_laws_calls.specs.history.Rules.Stands.{stands, opens, is_own_step, is_settled_for, has_to_reply, stand}
use Rattle.std.specs.List.{list_any}
use Rattle.std.specs.Option.{option_map}
use Rattle.dsql_laws_calls.specs.wait.Requests.{waits}
use Rattle.dsql_laws_calls.specs.pool.declared.moves.Move.TheVariants.{Fell}
use Rattle.dsql_laws_calls.specs.pool.Calls.{wants}
use Rattle.dsql_laws_calls.specs.pool.Places.{is_for}
use Rattle.dsql_laws_calls.specs.history.declared.record.Try.TheVariants.{Refused}
use Rattle.dsql_laws_calls.specs.history.declared.reply.DbEnd.{DbEnd}
use Rattle.dsql_laws_calls.specs.history.declared.reply.DbEnd.TheVariants as ends
use Rattle.dsql_laws_calls.specs.history.Readers.Pool.{smallest, pool}
use Rattle.dsql_laws_calls.specs.history.Readers.Tries.{with_try, try_number, has_a_try, asks_again, tries, tries_again, newest_answer}
use Rattle.dsql_laws_calls.proofs.laws.Tests.{same_itself, other_number}
use Rattle.dsql_laws_calls.proofs.laws.Counts.{gone_fewer}
use Rattle.dsql_laws_calls.proofs.laws.Tried.{is_lent_out, lent_count, shut_fewer}
use Rattle.dsql_laws_calls.proofs.laws.Places.{neither, none_opens}
use Rattle.dsql_laws_calls.proofs.laws.Wanted.{wanted, wants_counts, homes_apart, none_wanted}
use Rattle.dsql_laws_calls.specs.history.Readers.Works.{asks, work}
use Rattle.dsql_laws_calls.specs.history.declared.event.Event.{Event}
use Rattle.dsql_laws_calls.specs.history.declared.event.Event.TheVariants.{Entered, Pool, Ended}
use Rattle.dsql_laws_calls.specs.history.declared.event.Op.TheVariants.{DbClose}
use Rattle.dsql_laws_calls.specs.history.declared.reply.Reply.{Reply}
use Rattle.dsql_laws_calls.specs.history.declared.reply.Reply.TheVariants.{DbClosed}
use Rattle.dsql_laws_calls.specs.history.Readers.Course.{or_end, db_end}
use Rattle.dsql_laws_calls.specs.history.Readers.Calls.{site, decided, db_refused, told_by_tries, told_by_others, last_told, rests_with}
use Rattle.dsql_laws_calls.specs.history.Readers.Unfinished.{is_unfinished}
use Rattle.dsql_laws_calls.specs.history.Rules.Line.{due_in, due_for}
use Rattle.dsql_laws_calls.specs.history.Legal.{Lawful}
use Rattle.dsql_laws_calls.proofs.laws.Holdings.{one_at_most}
use Rattle.dsql_laws_calls.proofs.laws.Wanting.{wants_its_own, wanting_works}
use Rattle.dsql_laws_calls.proofs.Works.{enters_next, old_work}
use Rattle.dsql_laws_calls.proofs.Untried.{wants_has_try, fallen_wanted, fallen_unwanting}
use Rattle.dsql_laws_calls.proofs.Refusals.{refusal_told}
use Rattle.dsql_laws_calls.proofs.Closed.{opens_for_none}
use Rattle.dsql_laws_calls.proofs.Idle.{due_lent}
use Rattle.dsql_laws_calls.proofs.Nowhere.{told_own}
use Rattle.dsql_laws_calls.proofs.Told.{not_entering, entered_undecided, wanting_undecided, wants_undecided}
use Rattle.dsql_laws_others.specs.Told.{where_told}
use Rattle.dsql_laws_others.proofs.OwnSteps.{replies_apart, fallen_own}

-- If a call neither waits nor sends and no connection is being opened for it, the remaining cases decide where
-- it stands.
pub rests_there : (w d : Bool) (o : Option ℕ) (c : ℕ) (there : Option Stand) → w ≡ false → o ≡ None → d ≡ false
    → or_else (stands w stands_at.Waits) (or_else (opens o) (or_else (stands d (stands_at.Sends c)) there)) ≡ there
rests_there false false None c there hw ho hd = refl
rests_there true d o c there hw ho hd = absurd cc
rests_there false true o c there hw ho hd = absurd cc
rests_there false false (Some k) c there hw ho hd = absurd cc

pub replies_first : (r a : Bool) → r ≡ true → or_else (stands r stands_at.Replies) (stands a stands_at.Asks) ≡ Some stands_at.Replies
replies_first true a h = refl
replies_first false a h = absurd cc

told_only : (own others : Option Reply) → own ≡ None → is_some others ≡ true → (is_none own && is_some others) ≡ true
told_only None others hown told = told
told_only (Some reply) others hown told = absurd cc

asks_last : (r a : Bool) → a ≡ true → is_some (or_else (stands r stands_at.Replies) (stands a stands_at.Asks)) ≡ true
asks_last true a h = refl
asks_last false true h = refl
asks_last false false h = absurd cc

told_replies : (H : List Event) (n : ℕ) → is_own_step H n ≡ false → decided H n ≡ None → is_some (told_by_others H n) ≡ true → where_told H n ≡ Some stands_at.Replies
told_replies H n apart undecided told =
    replies_first (has_to_reply H n) (asks_again (tries H n))
    (replies_apart (is_own_step H n) (is_settled_for H n) apart (or_right (is_some (rests_with H n)) (is_none (decided H n) && is_some (told_by_others H n)) (told_only (decided H n) (told_by_others H n) undecided told)))

-- A call that has no connection sends nothing.
silent : (H : List Event) (n : ℕ) → asks (work H n) ≡ true → lent_count n (pool H) ≡ 0 → is_some (due_for H n) ≡ false
silent H n own none = by (is_unfinished H n)
  where
    inside : (b : Bool) → is_some (due_in H n (work H n)) ≡ b → b ≡ false
    inside false is = refl
    inside true is = let lent = due_lent H n own is in absurd (omega (arith, lent, none))

    by : (b : Bool) → is_some (cond b (due_in H n (work H n)) None) ≡ false
    by true = inside (is_some (due_in H n (work H n))) refl
    by false = refl

wanting_unlent : (H : List Event) (n : ℕ) → Lawful H → n ≢ 0 → 1 ≤ wanted n (pool H) → lent_count n (pool H) ≡ 0
wanting_unlent H n l some now =
    let one = one_at_most H n l some in
    let apart = homes_apart n (pool H).conns in
    omega (arith, one, apart, now)

-- A refusal.

fallen_newest : (H : List Event) (c n : ℕ) → tries (Pool (Fell c n) ∷ H) n ≡ Refused (newest_answer H) ∷ tries H n
fallen_newest H c n = ap (λ b. with_try b (Refused (newest_answer H)) (tries H n)) (same_itself n)

pub fallen_there : (H : List Event) (c n : ℕ) → Lawful (Pool (Fell c n) ∷ H) → n ≢ 0 → stand (Pool (Fell c n) ∷ H) n ≡ where_told (Pool (Fell c n) ∷ H) n
fallen_there H c n l some =
    let K = Pool (Fell c n) ∷ H in
    let now = fallen_wanted H c n l.1 some in
    let own = wanting_works H n l.0 some now in
    let unwanting = neither (waits n (pool K).waiting) (list_any (λ conn. is_for n conn.place) (pool K).conns) (none_wanted n (pool K) (fallen_unwanting H c n l some)) in
    let few = gone_fewer (is_lent_out n) c (pool H).conns in
    let none = wanting_unlent H n l.0 some now in
    let unlent : lent_count n (pool K) ≡ 0 = omega (arith, few, none) in
    rests_there (waits n (pool K).waiting) (is_some (due_for K n)) (smallest (is_for n) (pool K)) (site K n) (where_told K n) unwanting.0 (none_opens n (pool K) unwanting.1) (silent K n own unlent)

pub fallen_somewhere : (H : List Event) (c n : ℕ) → Lawful (Pool (Fell c n) ∷ H) → n ≢ 0 → is_some (stand (Pool (Fell c n) ∷ H) n) ≡ true
fallen_somewhere H c n l some = ap (λ s. is_some s) (fallen_there H c n l some) ∙ by (has_a_try (Refused (newest_answer H) ∷ tries H n)) refl
  where
    K : List Event
    K = Pool (Fell c n) ∷ H

    newest : tries K n ≡ Refused (newest_answer H) ∷ tries H n
    newest = fallen_newest H c n

    by : (b : Bool) → has_a_try (Refused (newest_answer H) ∷ tries H n) ≡ b → is_some (where_told K n) ≡ true
    by true left = asks_last (has_to_reply K n) (asks_again (tries K n)) (ap asks_again newest ∙ left)
    by false last =
        let now = fallen_wanted H c n l.1 some in
        let own = wanting_works H n l.0 some now in
        let told : told_by_others K n ≡ last_told (tries_again (work K n) (try_number (Refused (newest_answer H) ∷ tries H n))) (try_number (Refused (newest_answer H) ∷ tries H n)) (Refused (newest_answer H) ∷ tries H n) =
        told_own K n (work K n) own ∙ ap (told_by_tries K (work K n)) newest
        ∙ ap (λ b. cond b (db_refused K) (last_told (tries_again (work K n) (try_number (Refused (newest_answer H) ∷ tries H n))) (try_number (Refused (newest_answer H) ∷ tries H n)) (Refused (newest_answer H) ∷ tries H n))) last
        in
        ap (λ s. is_some s) (told_replies K n (fallen_own H c n l some) (wanting_undecided H n l.0 some now) (ap (λ o. is_some o) told ∙ refusal_told K (work K n) n (newest_answer H) (tries H n) l newest last))

-- The close of the database.

some_end : (o : Option DbEnd) (end : DbEnd) → is_some (option_map DbClosed (or_end o end)) ≡ true
some_end None end = refl
some_end (Some earlier) end = refl

pub shut_out_replies : (H : List Event) (client k n : ℕ) → Lawful (Entered client k DbClose ∷ H) → n ≢ 0 → wants n (pool H) ≡ true → stand (Entered client k DbClose ∷ H) n ≡ Some stands_at.Replies
shut_out_replies H client k n l some h =
    let K = Entered client k DbClose ∷ H in
    let now = wants_counts n (pool H) h in
    let apart = not_entering H client k DbClose n l some now in
    let own : asks (work K n) ≡ true = ap asks (old_work H client k DbClose n (enters_next H client k DbClose l.1) apart) ∙ wants_its_own H n l.0 some h in
    let few = shut_fewer n (pool H) in
    let none = wanting_unlent H n l.0 some now in
    let unlent : lent_count n (pool K) ≡ 0 = omega (arith, few, none) in
    let told : told_by_others K n ≡ option_map DbClosed (db_end K) = told_own K n (work K n) own ∙ ap (λ b. cond b (db_refused K) (last_told (tries_again (work K n) (try_number (tries K n))) (try_number (tries K n)) (tries K n))) (wants_has_try H n l.0 some h) in
    rests_there (waits n (pool K).waiting) (is_some (due_for K n)) (smallest (is_for n) (pool K)) (site K n) (where_told K n) refl (opens_for_none K n l refl) (silent K n own unlent)
    ∙ told_replies K n (other_number k n (λ same. apart (sym same))) (entered_undecided H client k DbClose n l some now (wants_undecided H n l.0 some h)) (ap (λ o. is_some o) told ∙ some_end (db_end H) ends.Close)

pub left_waiting_replies : (H : List Event) (n : ℕ) → Lawful (Ended ∷ H) → n ≢ 0 → wants n (pool H) ≡ true → stand (Ended ∷ H) n ≡ Some stands_at.Replies
left_waiting_replies H n l some h =
    let K = Ended ∷ H in
    let now = wants_counts n (pool H) h in
    let own : asks (work K n) ≡ true = wants_its_own H n l.0 some h in
    let few = shut_fewer n (pool H) in
    let none = wanting_unlent H n l.0 some now in
    let unlent : lent_count n (pool K) ≡ 0 = omega (arith, few, none) in
    let told : told_by_others K n ≡ option_map DbClosed (db_end K) = told_own K n (work K n) own ∙ ap (λ b. cond b (db_refused K) (last_told (tries_again (work K n) (try_number (tries K n))) (try_number (tries K n)) (tries K n))) (wants_has_try H n l.0 some h) in
    rests_there (waits n (pool K).waiting) (is_some (due_for K n)) (smallest (is_for n) (pool K)) (site K n) (where_told K n) refl (opens_for_none K n l refl) (silent K n own unlent)
    ∙ told_replies K n refl (wants_undecided H n l.0 some h) (ap (λ o. is_some o) told ∙ some_end (db_end H) ends.EndOfRun)
