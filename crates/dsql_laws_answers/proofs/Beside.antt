-- What is settled for a call stays settled after an answer to another call. The answer ends no transaction and
-- changes no try of that call.
use Rattle.dsql_laws_calls.specs.tx.declared.end.TxEnd.{TxEnd}
use Rattle.std.proofs.Common.{◌≡◌, ◌≢◌, ℕ, ◌==◌, ◌⊎◌, inl, inr, Bool, true, false, ◌&&◌, ◌||◌, cond, List, ◌∷◌, Option, Some, None, is_some, is_none, refl, sym, ap, ◌∙◌}
use Rattle.dsql_laws_calls.specs.journal.declared.entry.Entry.{Entry}
use Rattle.dsql_laws_calls.specs.history.Readers.Pool.{smallest, is_home, pool}
use Rattle.dsql_laws_calls.specs.history.Readers.Tries.{lost, tries, loses}
use Rattle.dsql_laws_calls.proofs.laws.Truths.{or_second}
use Rattle.dsql_laws_calls.proofs.laws.Tests.{other_number}
use Rattle.dsql_laws_calls.specs.history.declared.event.Event.{Event}
use Rattle.dsql_laws_calls.specs.history.declared.event.Event.TheVariants.{Heard}
use Rattle.dsql_laws_calls.specs.history.declared.reply.Reply.{Reply}
use Rattle.dsql_laws_calls.specs.history.declared.reply.Reply.TheVariants.{Truth}
use Rattle.dsql_laws_calls.specs.history.declared.work.Scope.{Scope}
use Rattle.dsql_laws_calls.specs.history.declared.work.Scope.TheVariants.{Db, Held}
use Rattle.dsql_laws_calls.specs.history.declared.work.Work.{Work}
use Rattle.dsql_laws_calls.specs.history.declared.work.Work.TheVariants.{Statement, Begin, End, Ping, Fetch, Close, Look}
use Rattle.dsql_laws_calls.specs.history.Readers.Calls.{site, decided, done_with, has_begun_to_send, told_by_tries, told_by_scope, told_of_work, told_by_others, asks_nothing, rests, rests_with}
use Rattle.dsql_laws_calls.specs.history.Readers.Course.{caps}
use Rattle.dsql_laws_calls.specs.history.Readers.HandedOut.{is_late, are_over}
use Rattle.dsql_laws_calls.specs.history.Readers.Journals.{journal}
use Rattle.dsql_laws_calls.specs.history.Readers.Lines.{has_sent}
use Rattle.dsql_laws_calls.specs.history.Readers.Transactions.{tx_by, end_of, tx_end, is_over}
use Rattle.dsql_laws_calls.specs.history.Readers.Unfinished.{is_unfinished}
use Rattle.dsql_laws_calls.specs.history.Readers.Works.{work}
use Rattle.dsql_laws_calls.specs.history.Rules.Stands.{is_settled_for}
use Rattle.dsql_laws_calls.proofs.Begun.{heard_tx, BeginsIt}
use Rattle.dsql_laws_calls.proofs.EndedRows.{rows_kept}
use Rattle.dsql_laws_calls.proofs.Works.{other_heard}
use Rattle.dsql_laws_others.proofs.LentBeside.{either_still}

-- Another unfinished call than the call of the answer.
pub record Beside (H : List Event) (e : Entry) (m : ℕ) : Type 0 where
  pub other : e.call_no ≢ m
  pub number : m ≢ 0
  pub unfinished : is_unfinished H m ≡ true

other_call : (H : List Event) (e : Entry) (m : ℕ) → Beside H e m → (e.call_no == m) ≡ false
other_call H e m b = other_number e.call_no m b.other

pub tried_same : (H : List Event) (e : Entry) (m : ℕ) → Beside H e m → tries (Heard e ∷ H) m ≡ tries H m
tried_same H e m b = ap (λ x. cond (x && loses (work H m) e) (lost (tries H m)) (tries H m)) (other_call H e m b)

pub decided_same : (H : List Event) (e : Entry) (m : ℕ) → Beside H e m → decided (Heard e ∷ H) m ≡ decided H m
decided_same H e m b = ap (λ r. r.decided) (other_heard H e m (λ same. b.other (sym same)))

pub sent_same : (H : List Event) (e : Entry) (m c : ℕ) → e.call_no ≢ m → has_sent m (journal (Heard e ∷ H) c) ≡ has_sent m (journal H c)
sent_same H e m c other = by (e.conn == c)
  where
    by : (b : Bool) → has_sent m (cond b (e ∷ journal H c) (journal H c)) ≡ has_sent m (journal H c)
    by true = ap (λ x. x || has_sent m (journal H c)) (other_number e.call_no m other)
    by false = refl

-- An answer ends no transaction.
over_same : (H : List Event) (e : Entry) (k : ℕ) → is_over (Heard e ∷ H) k ≡ is_over H k
over_same H e k = by (heard_tx H e k)
  where
    by : (tx_by (Heard e ∷ H) k ≡ tx_by H k) ⊎ BeginsIt H e k (tx_by (Heard e ∷ H) k) → is_over (Heard e ∷ H) k ≡ is_over H k
    by (inl same) = ap (λ o. is_some (end_of o)) same
    by (inr b) = ap (λ o. is_some (end_of o)) b.so ∙ sym (ap (λ o. is_some (end_of o)) b.new)

pub late_same : (H : List Event) (e : Entry) (s : Scope) → is_late (Heard e ∷ H) s ≡ is_late H s
late_same H e Db = refl
late_same H e (Held k) = over_same H e k

-- What others have settled for the other call stays settled.

told_inside : (H : List Event) (e : Entry) (m : ℕ) (w : Work) (s : Scope) → Beside H e m → is_some (told_by_scope H m w s) ≡ true → is_some (told_by_scope (Heard e ∷ H) m w s) ≡ true
told_inside H e m w Db b h = ap (λ ts. is_some (told_by_tries (Heard e ∷ H) w ts)) (tried_same H e m b) ∙ h
told_inside H e m w (Held k) b h =
    ap (λ x. is_some (cond x None (done_with (tx_end (Heard e ∷ H) k)))) (sent_same H e m (site H m) b.other) ∙ by (has_begun_to_send H m) h
  where
    done : (o : Option TxEnd) → is_some (done_with o) ≡ is_some o
    done None = refl
    done (Some end) = refl

    by : (x : Bool) → is_some (cond x None (done_with (tx_end H k))) ≡ true → is_some (cond x None (done_with (tx_end (Heard e ∷ H) k))) ≡ true
    by true y = absurd cc
    by false y = done (tx_end (Heard e ∷ H) k) ∙ (over_same H e k ∙ (sym (done (tx_end H k)) ∙ y))

told_still : (H : List Event) (e : Entry) (m : ℕ) → Beside H e m → is_some (told_by_others H m) ≡ true → is_some (told_by_others (Heard e ∷ H) m) ≡ true
told_still H e m b h = by (work H m) h
  where
    ended : (x y : Bool) → (x ≡ true → y ≡ true) → is_some (cond {A = Option Reply} x (Some (Truth false)) None) ≡ true → is_some (cond {A = Option Reply} y (Some (Truth false)) None) ≡ true
    ended true true so z = refl
    ended true false so z = let clash : false ≡ true = so refl in absurd cc
    ended false y so z = absurd cc

    by : (w : Work) → is_some (told_of_work H m w) ≡ true → is_some (told_of_work (Heard e ∷ H) m w) ≡ true
    by (Fetch k) x = let kept = rows_kept H (Heard e) k in ended (are_over H k) (are_over (Heard e ∷ H) k) kept.ended x
    by (Close k) x = x
    by (End k) x = absurd cc
    by Look x = absurd cc
    by (Statement s task) x = told_inside H e m (Statement s task) s b x
    by (Begin label level read_only) x = told_inside H e m (Begin label level read_only) Db b x
    by Ping x = told_inside H e m Ping Db b x

resting_same : (H : List Event) (e : Entry) (m : ℕ) → Beside H e m → rests (Heard e ∷ H) m ≡ rests H m
resting_same H e m b = ap (λ ts. is_unfinished H m && asks_nothing (caps H) (work H m) ts) (tried_same H e m b)

pub both_still : (a b c : Bool) → (b ≡ true → c ≡ true) → (a && b) ≡ true → (a && c) ≡ true
both_still true b c f h = f h
both_still false b c f h = absurd cc

pub settled_still : (H : List Event) (e : Entry) (m : ℕ) → Beside H e m → is_settled_for H m ≡ true → is_settled_for (Heard e ∷ H) m ≡ true
settled_still H e m b h =
    ap (λ o. is_some (rests_with (Heard e ∷ H) m) || (is_none o && is_some (told_by_others (Heard e ∷ H) m))) (decided_same H e m b)
    ∙ either_still (is_some (rests_with H m)) (is_none (decided H m) && is_some (told_by_others H m)) (is_some (rests_with (Heard e ∷ H) m)) (is_none (decided H m) && is_some (told_by_others (Heard e ∷ H) m))
    (λ x. ap (λ r. is_some (cond r (smallest (is_home m) (pool H)) None)) (resting_same H e m b) ∙ x)
    (both_still (is_none (decided H m)) (is_some (told_by_others H m)) (is_some (told_by_others (Heard e ∷ H) m)) (told_still H e m b)) h

pub told_settles : (H : List Event) (e : Entry) (m : ℕ) → Beside H e m → decided H m ≡ None → is_some (told_by_others (Heard e ∷ H) m) ≡ true → is_settled_for (Heard e ∷ H) m ≡ true
told_settles H e m b none told =
    or_second (is_some (rests_with (Heard e ∷ H) m)) (is_none (decided (Heard e ∷ H) m) && is_some (told_by_others (Heard e ∷ H) m))
    (ap (λ o. is_none o && is_some (told_by_others (Heard e ∷ H) m)) (decided_same H e m b ∙ none) ∙ told)
