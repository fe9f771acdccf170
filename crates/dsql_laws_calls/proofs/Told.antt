-- A call that wants a connection has settled nothing itself. So if a refusal falls to it, or the database is
-- closed, that gives its reply.
use Rattle.std.proofs.Common.{◌≡◌, ◌≢◌, ℕ, ◌≤◌, ◌<◌, ◌==◌, ◌⊎◌, inl, inr, Bool, true, false, cond, List, [], ◌∷◌, length, Option, Some, None, is_none, refl, sym, ap, subst, ◌∙◌, arith}
use Rattle.dsql_laws.specs.course.Made.{or_else}
use Rattle.dsql_laws.specs.journal.declared.entry.Entry.{Entry}
use Rattle.dsql_laws.specs.pool.declared.moves.Move.TheVariants.{OpenStart, Lend, Back, CloseStart, Gone, Fell}
use Rattle.dsql_laws.specs.pool.Calls.{wants}
use Rattle.dsql_laws.specs.pool.Changes.{lent, back, closing}
use Rattle.dsql_laws.specs.pool.Moved.{begun, joined, moved}
use Rattle.dsql_laws.specs.history.Readers.Works.{asks, work}
use Rattle.dsql_laws.specs.history.declared.event.Control.TheVariants.{Tick, Set}
use Rattle.dsql_laws.specs.history.Readers.Pool.{pool, place, request, wanted_by}
use Rattle.dsql_laws.proofs.Tests.{other_number}
use Rattle.dsql_laws.proofs.Counts.{request-more, left_fewer, changed_fewer, gone_fewer}
use Rattle.dsql_laws.proofs.ByCall.{by_call}
use Rattle.dsql_laws.proofs.Wanted.{is_opening_for, wanted, wants_counts, shut_wants, begun_wants, same_control}
use Rattle.dsql_laws_calls.proofs.Own.{sender_wants_none}
use Rattle.dsql_laws_work.proofs.Rows.{read_set}
use Rattle.dsql_laws.specs.history.declared.event.Event.{Event}
use Rattle.dsql_laws.specs.history.declared.event.Event.TheVariants.{Run, Entered, Heard, Pool, Waits, Ticked, SetLimit, Replied, Ended}
use Rattle.dsql_laws.specs.history.declared.event.Op.{Op}
use Rattle.dsql_laws.specs.history.declared.event.Op.TheVariants.{DbClose}
use Rattle.dsql_laws.specs.history.declared.reply.Reply.{Reply}
use Rattle.dsql_laws.specs.history.Readers.Calls.{calls, call_record, nobody, decided, told_at_lending, told_by_others}
use Rattle.dsql_laws.specs.history.Readers.Owed.{owed}
use Rattle.dsql_laws.specs.history.Rules.Asking.{may_ask}
use Rattle.dsql_laws.specs.history.Legal.{Allowed, Lawful}
use Rattle.dsql_laws.proofs.Asker.{asker}
use Rattle.dsql_laws.proofs.OwedMoves.{owed_own}
use Rattle.dsql_laws.proofs.AtRest.{keeps_of, asked_so, queued_so}
use Rattle.dsql_laws.proofs.Holdings.{opening_asked}
use Rattle.dsql_laws.proofs.Wanting.{wanting_works, wanted_opening}
use Rattle.dsql_laws_calls.proofs.Works.{enters_next, old_record, other_heard}
use Rattle.dsql_laws_calls.proofs.Looks.{heard_there, comes}
use Rattle.dsql_laws_calls.proofs.AtEnd.{no_work_yet}
use Rattle.dsql_laws_calls.proofs.Untried.{lends_unwanting}

never : true ≡ false → ⊥
never h = cc

none_settled : (o p q : Option Reply) → is_none (or_else (or_else o p) q) ≡ true → o ≡ None
none_settled None p q h = refl
none_settled (Some r) p q h = absurd cc

pub asks_undecided : (H : List Event) (n : ℕ) → may_ask H n ≡ true → decided H n ≡ None
asks_undecided H n may =
    none_settled (decided H n) (told_by_others H n) (told_at_lending H n) (ap (λ o. is_none o) (asker H n may).unsettled)

asked_undecided : (H : List Event) (k n : ℕ) → (k ≡ n) → may_ask H k ≡ true → decided H n ≡ None
asked_undecided H k n same may = subst (λ m. decided H m ≡ None) same (asks_undecided H k may)

opens_undecided : (H : List Event) (c k n : ℕ) → Allowed H (Pool (OpenStart c k)) → n ≢ 0 → (1 ≤ wanted n (pool H) → decided H n ≡ None) → 1 ≤ wanted n (begun (wanted_by H k) (pool H)) → decided H n ≡ None
opens_undecided H c k n a some had now =
    let more = begun_wants n (wanted_by H k) (pool H) in
    let opens = wanted_opening H k n some in
    by_call k n (decided H n ≡ None)
    (λ is.
    let asked = opening_asked H c k (owed H) (keeps_of H (Pool (OpenStart c k)) a) refl (owed_own H) (λ none. some (sym is ∙ none)) in
    let b = asked_so H k (OpenStart c k) asked in
    asked_undecided H k n is b.0)
    (λ not.
    let none : cond {A = ℕ} (k == n) 1 0 ≡ 0 = ap (λ (b : Bool). cond {A = ℕ} b 1 0) not in
    had (omega (arith, more, opens, none, now)))

joins_undecided : (H : List Event) (k n : ℕ) → may_ask H k ≡ true → (1 ≤ wanted n (pool H) → decided H n ≡ None) → 1 ≤ wanted n (joined (request H k) (pool H)) → decided H n ≡ None
joins_undecided H k n may had now =
    let more = request-more n (request H k) (pool H).waiting in
    by_call k n (decided H n ≡ None)
    (λ is. asked_undecided H k n is may)
    (λ not.
    let none : cond {A = ℕ} (k == n) 1 0 ≡ 0 = ap (λ (b : Bool). cond {A = ℕ} b 1 0) not in
    had (omega (arith, more, none, now)))

-- No answer is heard for such a call, and it isn't the one that enters.

not_heard : (H : List Event) (e : Entry) (n : ℕ) → Lawful (Heard e ∷ H) → n ≢ 0 → 1 ≤ wanted n (pool H) → n ≢ e.call_no
not_heard H e n l some now same =
    let there = heard_there H e l.1 in
    let number : (e.call_no == 0) ≡ false = other_number e.call_no 0 (λ none. some (same ∙ none)) in
    let own : asks (work H e.call_no) ≡ true = ap (λ k. asks (work H k)) (sym same) ∙ wanting_works H n l.0 some now in
    let none = sender_wants_none H e l.0 (comes H e (place H e.conn) there.sets there.line number) number own in
    absurd (omega (arith, ap (λ k. wanted k (pool H)) same, none, now))

pub not_entering : (H : List Event) (client m : ℕ) (op : Op) (n : ℕ) → Lawful (Entered client m op ∷ H) → n ≢ 0 → 1 ≤ wanted n (pool H) → n ≢ m
not_entering H client m op n l some now same =
    let new = enters_next H client m op l.1 in
    never (sym (wanting_works H n l.0 some now) ∙ ap asks (no_work_yet H n (omega (arith, new, same))))

pub entered_undecided : (H : List Event) (client m : ℕ) (op : Op) (n : ℕ) → Lawful (Entered client m op ∷ H) → n ≢ 0 → 1 ≤ wanted n (pool H) → decided H n ≡ None → decided (Entered client m op ∷ H) n ≡ None
entered_undecided H client m op n l some now had = ap (λ r. r.decided) (old_record H client m op n (enters_next H client m op l.1) (not_entering H client m op n l some now)) ∙ had

replied_undecided : (H : List Event) (m : ℕ) (reply : Reply) (n : ℕ) → decided H n ≡ None → decided (Replied m reply ∷ H) n ≡ None
replied_undecided H m reply n had = by (read_set (calls H) m (record (call_record H m) { decided = None }) n nobody)
  where
    by : ((n ≡ m) × (m < length (calls H)) × (call_record (Replied m reply ∷ H) n ≡ record (call_record H m) { decided = None }))
        ⊎ ((n ≡ m → length (calls H) ≤ m) × (call_record (Replied m reply ∷ H) n ≡ call_record H n))
        → decided (Replied m reply ∷ H) n ≡ None
    by (inl w) = ap (λ r. r.decided) w.2
    by (inr w) = ap (λ r. r.decided) w.1 ∙ had

pub wanting_undecided : (H : List Event) (n : ℕ) → Lawful H → n ≢ 0 → 1 ≤ wanted n (pool H) → decided H n ≡ None
wanting_undecided [] n l some now = absurd (omega (arith, now))
wanting_undecided (Run version can ∷ H) n l some now = wanting_undecided H n l.0 some now
wanting_undecided (Entered client m DbClose ∷ H) n l some now =
    let few = shut_wants n (pool H) in
    let had : 1 ≤ wanted n (pool H) = omega (arith, few, now) in
    entered_undecided H client m DbClose n l some had (wanting_undecided H n l.0 some had)
wanting_undecided (Entered client m op ∷ H) n l some now = entered_undecided H client m op n l some now (wanting_undecided H n l.0 some now)
wanting_undecided (Heard e ∷ H) n l some now = ap (λ r. r.decided) (other_heard H e n (not_heard H e n l some now)) ∙ wanting_undecided H n l.0 some now
wanting_undecided (Pool (OpenStart c k) ∷ H) n l some now = opens_undecided H c k n l.1 some (wanting_undecided H n l.0 some) now
wanting_undecided (Pool (Lend c t o k) ∷ H) n l some now =
    by_call k n (decided H n ≡ None)
    (λ is.
    let own : k ≢ 0 = λ none. some (sym is ∙ none) in
    let none : wanted n (moved (Lend c t o k) (pool H)) ≡ 0 = subst (λ m. wanted m (moved (Lend c t o k) (pool H)) ≡ 0) is (lends_unwanting H c t o k l own) in
    absurd (omega (arith, none, now)))
    (λ not.
    let waiting = left_fewer n k (pool H).waiting in
    let few = changed_fewer (is_opening_for n) c (lent t o (pool H).moment) (pool H).conns (λ x. refl) in
    wanting_undecided H n l.0 some (omega (arith, waiting, few, now)))
wanting_undecided (Pool (Back c) ∷ H) n l some now =
    let few = changed_fewer (is_opening_for n) c (back (pool H).moment) (pool H).conns (λ x. refl) in
    wanting_undecided H n l.0 some (omega (arith, few, now))
wanting_undecided (Pool (CloseStart c why) ∷ H) n l some now =
    let few = changed_fewer (is_opening_for n) c closing (pool H).conns (λ x. refl) in
    wanting_undecided H n l.0 some (omega (arith, few, now))
wanting_undecided (Pool (Gone c) ∷ H) n l some now = let few = gone_fewer (is_opening_for n) c (pool H).conns in wanting_undecided H n l.0 some (omega (arith, few, now))
wanting_undecided (Pool (Fell c k) ∷ H) n l some now =
    let waiting = left_fewer n k (pool H).waiting in
    let few = gone_fewer (is_opening_for n) c (pool H).conns in
    wanting_undecided H n l.0 some (omega (arith, waiting, few, now))
wanting_undecided (Waits k ∷ H) n l some now =
    let keeps = keeps_of H (Waits k) l.1 in
    let a = queued_so H k keeps.asking in
    joins_undecided H k n a.0 (wanting_undecided H n l.0 some) now
wanting_undecided (Ticked moment ∷ H) n l some now = let same = same_control (Tick moment) n (pool H) in wanting_undecided H n l.0 some (omega (arith, same, now))
wanting_undecided (SetLimit s k ∷ H) n l some now = let same = same_control (Set s k) n (pool H) in wanting_undecided H n l.0 some (omega (arith, same, now))
wanting_undecided (Replied m reply ∷ H) n l some now = replied_undecided H m reply n (wanting_undecided H n l.0 some now)
wanting_undecided (Ended ∷ H) n l some now = let few = shut_wants n (pool H) in wanting_undecided H n l.0 some (omega (arith, few, now))

pub wants_undecided : (H : List Event) (n : ℕ) → Lawful H → n ≢ 0 → wants n (pool H) ≡ true → decided H n ≡ None
wants_undecided H n l some h = wanting_undecided H n l some (wants_counts n (pool H) h)
