-- A call that enters and doesn't close the database leaves each other call standing somewhere. Something stays
-- due for that call, or its reply is settled.
use Rattle.std.proofs.Common.{◌≡◌, ◌≢◌, ℕ, ◌⊎◌, inl, inr, Bool, true, false, not, ◌&&◌, ◌||◌, cond, List, Option, Some, None, is_some, is_none, refl, sym, ap, ◌∙◌}
use Rattle.std.specs.Option.{option_map}
use Rattle.dsql_laws_calls.specs.wait.Requests.{waits}
use Rattle.dsql_laws_calls.specs.pool.Places.{is_for}
use Rattle.dsql_laws_calls.specs.pool.Pooled.{Pooled}
use Rattle.dsql_laws_calls.specs.tx.declared.end.TxEnd.{TxEnd}
use Rattle.dsql_laws_calls.specs.history.Readers.Pool.{is_home, smallest, pool}
use Rattle.dsql_laws_calls.specs.history.Readers.Tries.{try_number, has_a_try, asks_again, tries, tries_again}
use Rattle.dsql_laws_calls.proofs.laws.Truths.{or_first, or_second}
use Rattle.dsql_laws_calls.proofs.laws.Tests.{both, together, other_number}
use Rattle.dsql_laws_calls.specs.history.declared.event.Event.{Event}
use Rattle.dsql_laws_calls.specs.history.declared.event.Event.TheVariants.{Entered}
use Rattle.dsql_laws_calls.specs.history.declared.event.Op.{Op}
use Rattle.dsql_laws_calls.specs.history.declared.reply.Reply.TheVariants.{DbClosed}
use Rattle.dsql_laws_calls.specs.history.declared.work.Scope.TheVariants.{Held}
use Rattle.dsql_laws_calls.specs.history.declared.work.Work.{Work}
use Rattle.dsql_laws_calls.specs.history.Readers.Calls.{decided, done_with, has_begun_to_send, last_told, rests, rests_with, site, told_by_others, told_by_tries, told_by_scope, told_of_work}
use Rattle.dsql_laws_calls.specs.history.Readers.Transactions.{tx_end}
use Rattle.dsql_laws_calls.specs.history.Readers.Unfinished.{is_unfinished}
use Rattle.dsql_laws_calls.specs.history.Readers.Works.{work}
use Rattle.dsql_laws_calls.specs.history.Rules.Line.{due_for}
use Rattle.dsql_laws_calls.specs.history.Rules.Settled.{calls_stand, calls_stand_but}
use Rattle.dsql_laws_calls.specs.history.Rules.Stands.{is_own_step, is_settled_for, has_to_reply, stand}
use Rattle.dsql_laws_calls.proofs.Begun.{stays_over}
use Rattle.dsql_laws_calls.proofs.EndedRows.{rows_kept}
use Rattle.dsql_laws_others.proofs.Entries.{rests_entered}
use Rattle.dsql_laws_others.proofs.Untouched.{goes_or_told}
use Rattle.dsql_laws_others.proofs.Each.{told_each, each_entered}
use Rattle.dsql_laws_others.proofs.Entered.{Enters, enters, Told, kept_work, kept_decided, kept_sent, due_on}

-- What others have settled stays settled.

told_on : (H : List Event) (client n : ℕ) (op : Op) (m : ℕ) (it : Work) → Enters H client n op → m ≢ n → is_some (told_of_work H m it) ≡ true → is_some (told_of_work (enters H client n op) m it) ≡ true
told_on H client n op m it x apart h = told_each H (enters H client n op) m it tried inner (λ j. let kept = rows_kept H (Entered client n op) j in kept.ended) h
  where
    K : List Event
    K = enters H client n op

    tried : (v : Work) → is_some (told_by_tries H v (tries H m)) ≡ true → is_some (told_by_tries (enters H client n op) v (tries H m)) ≡ true
    tried v k = ap (λ end. is_some (cond (has_a_try (tries H m)) (option_map DbClosed end) (last_told (tries_again v (try_number (tries H m))) (try_number (tries H m)) (tries H m)))) x.end ∙ k

    inner : (v : Work) (k : ℕ) → is_some (told_by_scope H m v (Held k)) ≡ true → is_some (told_by_scope (enters H client n op) m v (Held k)) ≡ true
    inner v k i = ap (λ b. is_some (cond b None (done_with (tx_end K k)))) (kept_sent H client n op m x apart) ∙ of (has_begun_to_send H m) i
      where
        ended : (o p : Option TxEnd) → (is_some o ≡ true → is_some p ≡ true) → is_some (done_with o) ≡ true → is_some (done_with p) ≡ true
        ended None p so a = absurd cc
        ended (Some end) (Some other) so a = refl
        ended (Some end) None so a = let clash : false ≡ true = so refl in absurd cc

        of : (b : Bool) → is_some (cond b None (done_with (tx_end H k))) ≡ true → is_some (cond b None (done_with (tx_end K k))) ≡ true
        of true a = absurd cc
        of false a = ended (tx_end H k) (tx_end K k) (λ gone. stays_over H (Entered client n op) k gone) a

tells : (H : List Event) (client n : ℕ) (op : Op) (m : ℕ) → Enters H client n op → m ≢ n → Told H (enters H client n op) m → is_settled_for (enters H client n op) m ≡ true
tells H client n op m x apart t =
    let K = enters H client n op in
    or_second (is_some (rests_with K m)) (is_none (decided K m) && is_some (told_by_others K m))
    (together (is_none (decided K m)) (is_some (told_by_others K m)) (ap (λ d. is_none d) (kept_decided H client n op m x apart) ∙ t.undecided) (ap (λ w. is_some (told_of_work K m w)) (kept_work H client n op m x apart) ∙ t.told))

settled_on : (H : List Event) (client n : ℕ) (op : Op) (m : ℕ) → Enters H client n op → m ≢ n → is_settled_for H m ≡ true → is_settled_for (enters H client n op) m ≡ true
settled_on H client n op m x apart h = by (is_some (rests_with H m)) refl h
  where
    K : List Event
    K = enters H client n op

    rested : rests_with K m ≡ rests_with H m
    rested = ap (λ p. cond (rests K m) (smallest (is_home m) p) None) x.pool ∙ ap (λ b. cond b (smallest (is_home m) (pool H)) None) (rests_entered H client n op m x.lawful apart)

    by : (b : Bool) → is_some (rests_with H m) ≡ b → (b || (is_none (decided H m) && is_some (told_by_others H m))) ≡ true → is_settled_for K m ≡ true
    by true is k = or_first (is_some (rests_with K m)) (is_none (decided K m) && is_some (told_by_others K m)) (ap (λ o. is_some o) rested ∙ is)
    by false is k =
        let b = both (is_none (decided H m)) (is_some (told_by_others H m)) k in
        tells H client n op m x apart (record { undecided = b.0; told = told_on H client n op m (work H m) x apart b.1 })

-- So each other call stands somewhere.

stand_on : (H : List Event) (client n : ℕ) (op : Op) (m : ℕ) → Enters H client n op → m ≢ n → is_unfinished H m ≡ true → is_some (stand H m) ≡ true → is_some (stand (enters H client n op) m) ≡ true
stand_on H client n op m x apart u h =
    goes_or_told (waits m (pool H).waiting) (waits m (pool K).waiting) (smallest (is_for m) (pool H)) (smallest (is_for m) (pool K)) (due_for H m) (due_for K m) (site H m) (site K m) (has_to_reply H m) (has_to_reply K m) (asks_again (tries H m))
    (λ k. ap (λ (p : Pooled). waits m p.waiting) x.pool ∙ k) (λ k. ap (λ p. is_some (smallest (is_for m) p)) x.pool ∙ k)
    (λ k. goes (due_on H client n op m x apart u k)) (λ k. let b = both (not (is_own_step H m)) (is_settled_for H m) k in replies (settled_on H client n op m x apart b.1)) h
  where
    K : List Event
    K = enters H client n op

    replies : is_settled_for (enters H client n op) m ≡ true → has_to_reply (enters H client n op) m ≡ true
    replies k = together (not (is_own_step K m)) (is_settled_for K m) (ap not (other_number n m (λ same. apart (sym same)))) k

    goes : (is_some (due_for (enters H client n op) m) ≡ true) ⊎ Told H (enters H client n op) m → (is_some (due_for (enters H client n op) m) ≡ true) ⊎ (has_to_reply (enters H client n op) m ≡ true)
    goes (inl k) = inl k
    goes (inr t) = inr (replies (tells H client n op m x apart t))

pub each_on : (H : List Event) (client n : ℕ) (op : Op) → Enters H client n op → calls_stand H ≡ true → calls_stand_but n (enters H client n op) ≡ true
each_on H client n op x h = each_entered H client n op (λ m u some apart. stand_on H client n op m x apart u) (let l = x.lawful in l.0) h
