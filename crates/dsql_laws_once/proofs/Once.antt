-- What a server may have carried out, in each lawful history, for a call on the database that doesn't read one
-- row. After such a statement the call is spent.
use Rattle.std.proofs.Common.{◌≡◌, ◌≢◌, ℕ, zero, suc, ◌+◌, ◌≤◌, ◌⊎◌, inl, inr, Bool, true, false, ◌&&◌, cond, List, [], ◌∷◌, refl, sym, ap, subst, ◌∙◌, arith}
use Rattle.dsql_laws_calls.specs.journal.declared.entry.Entry.{Entry}
use Rattle.dsql_laws_calls.specs.course.declared.course.Wish.TheVariants as wishes
use Rattle.dsql_laws_calls.specs.works.Exchanges.{exchanges}
use Rattle.dsql_laws_calls.proofs.laws_work.CallLines.{step, is_before_end}
use Rattle.dsql_laws_calls.proofs.laws_work.Rows.{same_or_not}
use Rattle.dsql_laws_calls.proofs.laws.Tests.{same_itself, other_number}
use Rattle.dsql_laws_calls.specs.history.declared.event.Event.{Event}
use Rattle.dsql_laws_calls.specs.history.declared.event.Event.TheVariants.{Heard}
use Rattle.dsql_laws_calls.specs.history.declared.work.Scope.TheVariants.{Db}
use Rattle.dsql_laws_calls.specs.history.declared.work.Work.{Work}
use Rattle.dsql_laws_calls.specs.history.declared.work.Task.TheVariants.{Execute, HandOut}
use Rattle.dsql_laws_calls.specs.history.declared.work.Work.TheVariants.{Statement, Ping}
use Rattle.dsql_laws_calls.specs.history.Readers.Calls.{decided}
use Rattle.dsql_laws_calls.specs.history.Readers.Course.{caps}
use Rattle.dsql_laws_calls.specs.history.Readers.Journals.{heard_in}
use Rattle.dsql_laws_calls.specs.history.Readers.Works.{asks, work}
use Rattle.dsql_laws_calls.specs.history.Rules.Sent.{asked_by}
use Rattle.dsql_laws_calls.specs.history.Legal.{Lawful}
use Rattle.dsql_laws_calls.proofs.BeginningsAt.{is_answer}
use Rattle.dsql_laws_calls.proofs.Plain.{begins}
use Rattle.dsql_laws_calls.proofs.Stays.{work_stays}
use Rattle.dsql_laws_replies.proofs.Records.{trying_of}
use Rattle.dsql_laws_once.specs.Once.{is_statement, may_be_carried_out, carried_out, reads_one}
use Rattle.dsql_laws_once.proofs.Stated.{states_busy, statement_of, carried_states}
use Rattle.dsql_laws_once.proofs.Steps.{sends_before_end, ends_it, stays_ended, carried_decides, untried_next}
use Rattle.dsql_laws_once.proofs.Spent.{Spent, OwnSent, by_step, never, own_sent, spent_beside, spent_now, spent_own, spent_on, steps_past}

pub nat_case : (k : ℕ) → (k ≡ 0) ⊎ (1 ≤ k)
nat_case zero = inl refl
nat_case (suc k) = inr (omega arith)

-- Is true if the work is on the database and doesn't read one row.
abbrev pub works_alone : Work → Bool
works_alone (Statement Db Execute) = true
works_alone (Statement Db (HandOut label)) = true
works_alone Ping = true
works_alone _ = false

alone_asks : (w : Work) → works_alone w ≡ true → asks w ≡ true
alone_asks (Statement Db Execute) h = refl
alone_asks (Statement Db (HandOut label)) h = refl
alone_asks Ping h = refl
alone_asks w h = absurd cc

alone_unbegun : (w : Work) → works_alone w ≡ true → begins w ≡ false
alone_unbegun (Statement Db Execute) h = refl
alone_unbegun (Statement Db (HandOut label)) h = refl
alone_unbegun Ping h = refl
alone_unbegun w h = absurd cc

alone_reads : (w : Work) → works_alone w ≡ true → reads_one w ≡ false
alone_reads (Statement Db Execute) h = refl
alone_reads (Statement Db (HandOut label)) h = refl
alone_reads Ping h = refl
alone_reads w h = absurd cc

-- A call is spent after a server may have carried out what it sent.
pub record Once (H : List Event) (n : ℕ) : Type 0 where
  pub few : carried_out H n ≤ 1
  pub spent : 1 ≤ carried_out H n → Spent (by_step is_before_end) H n

pub zero_or : (k : ℕ) → k ≤ 1 → (1 ≤ k → ⊥) → k ≡ 0
zero_or k most none = elim (nat_case k) [ inl nothing ↦ nothing | inr more ↦ absurd (none more) ]

-- A statement is sent only while no server may have carried one out.
none_before : (H : List Event) (e : Entry) → Lawful (Heard e ∷ H) → e.call_no ≢ 0 → works_alone (work H e.call_no) ≡ true → Once H e.call_no → is_statement e.call ≡ true → carried_out H e.call_no ≡ 0
none_before H e l some alone o statement = zero_or (carried_out H e.call_no) o.few (λ more.
    let u = own_sent H e l some (alone_asks (work H e.call_no) alone) (alone_unbegun (work H e.call_no) alone) in
    let x = u.sent in
    let s = o.spent more in
    never (is_before_end (step (heard_in H e.conn e.tenure))) (sends_before_end (step (heard_in H e.conn e.tenure)) e.call x.next statement) (s.past_it e.conn e.tenure u.owner u.lent u.number))

-- Answers.

pub count_other : (H : List Event) (e : Entry) (n : ℕ) → n ≢ e.call_no → carried_out (Heard e ∷ H) n ≡ carried_out H n
count_other H e n apart = ap (λ b. cond (b && may_be_carried_out e) (carried_out H n + 1) (carried_out H n)) (other_number e.call_no n (λ same. apart (sym same)))

pub count_same : (H : List Event) (e : Entry) → carried_out (Heard e ∷ H) e.call_no ≡ cond (may_be_carried_out e) (carried_out H e.call_no + 1) (carried_out H e.call_no)
count_same H e = ap (λ b. cond (b && may_be_carried_out e) (carried_out H e.call_no + 1) (carried_out H e.call_no)) (same_itself e.call_no)

heard_other : (H : List Event) (e : Entry) (n : ℕ) → Lawful (Heard e ∷ H) → n ≢ e.call_no → works_alone (work H n) ≡ true → Once H n → Once (Heard e ∷ H) n
heard_other H e n l apart alone o =
    let same = count_other H e n apart in
    record {
      few = let had = o.few in omega (arith, same, had);
      spent = λ out.
          spent_beside (by_step is_before_end) H e n l (steps_past is_before_end stays_ended H e n l (alone_unbegun (work H n) alone)) apart (o.spent (omega (arith, same, out)));
    }

heard_own : (H : List Event) (e : Entry) → Lawful (Heard e ∷ H) → e.call_no ≢ 0 → works_alone (work H e.call_no) ≡ true → Once H e.call_no → Once (Heard e ∷ H) e.call_no
heard_own H e l some alone o = by (may_be_carried_out e) refl
  where
    n : ℕ
    n = e.call_no

    asking : asks (work H e.call_no) ≡ true
    asking = alone_asks (work H e.call_no) alone

    unbegun : begins (work H e.call_no) ≡ false
    unbegun = alone_unbegun (work H e.call_no) alone

    one : reads_one (work H e.call_no) ≡ false
    one = alone_reads (work H e.call_no) alone

    u : OwnSent H e
    u = own_sent H e l some (alone_asks (work H e.call_no) alone) (alone_unbegun (work H e.call_no) alone)

    by : (b : Bool) → may_be_carried_out e ≡ b → Once (Heard e ∷ H) e.call_no
    by true carried =
        let counted : carried_out (Heard e ∷ H) n ≡ carried_out H n + 1 = count_same H e ∙ ap (λ b. cond b (carried_out H n + 1) (carried_out H n)) carried in
        record {
          few = let none = none_before H e l some alone o (statement_of e carried) in omega (arith, counted, none);
          spent = λ out.
              spent_now (by_step is_before_end) H e u.owner l some u.lent u.number asking (ends_it (step (heard_in H e.conn e.tenure)) e.call e.answer carried)
              (carried_decides (trying_of H n) (caps H) (asked_by H n).text (asked_by H n).params (work H n) wishes.Nothing (step (heard_in H e.conn e.tenure))
              (exchanges (heard_in H e.conn e.tenure)) e.call e.answer (decided H n) asking (λ opens. one) u.sent carried);
        }
    by false idle =
        let counted : carried_out (Heard e ∷ H) n ≡ carried_out H n = count_same H e ∙ ap (λ b. cond b (carried_out H n + 1) (carried_out H n)) idle in
        record {
          few = let had = o.few in omega (arith, counted, had);
          spent = λ out.
              let more : 1 ≤ carried_out H n = omega (arith, counted, out) in
              spent_own is_before_end stays_ended (λ s past. past) H e l some asking unbegun u (λ rows past is. untried_next (work H n) rows e.answer asking one) (o.spent more);
        }

once_heard : (H : List Event) (e : Entry) (n : ℕ) → Lawful (Heard e ∷ H) → n ≢ 0 → works_alone (work H n) ≡ true → Once H n → Once (Heard e ∷ H) n
once_heard H e n l some alone o = by (same_or_not n e.call_no)
  where
    by : (n ≡ e.call_no) ⊎ (n ≢ e.call_no) → Once (Heard e ∷ H) n
    by (inl same) =
        subst (λ k. Once (Heard e ∷ H) k) (sym same) (heard_own H e l (λ none. some (same ∙ none)) (subst (λ k. works_alone (work H k) ≡ true) same alone) (subst (λ k. Once H k) same o))
    by (inr apart) = heard_other H e n l apart alone o

-- Other events.

once_on : (H : List Event) (e : Event) (n : ℕ) → Lawful (e ∷ H) → is_answer e ≡ false → n ≢ 0 → carried_out (e ∷ H) n ≡ carried_out H n → (works_alone (work H n) ≡ true → Once H n) → works_alone (work (e ∷ H) n) ≡ true → Once (e ∷ H) n
once_on H e n l quiet some counted earlier alone = by (nat_case (carried_out H n))
  where
    by : (carried_out H n ≡ 0) ⊎ (1 ≤ carried_out H n) → Once (e ∷ H) n
    by (inl none) = record { few = omega (arith, counted, none); spent = λ out. absurd (omega (arith, counted, none, out)) }
    by (inr more) =
        let busy = states_busy (work H n) (carried_states H n l.0 some more) in
        let o = earlier (ap works_alone (sym (work_stays H e n busy)) ∙ alone) in
        record {
          few = let had = o.few in omega (arith, counted, had);
          spent = λ out. spent_on (by_step is_before_end) H e n l quiet some busy (o.spent more);
        }

once : (H : List Event) (n : ℕ) → Lawful H → n ≢ 0 → works_alone (work H n) ≡ true → Once H n
once [] n l some alone = record { few = omega arith; spent = λ out. absurd (omega (arith, out)) }
once (Heard e ∷ H) n l some alone = once_heard H e n l some alone (once H n l.0 some alone)
once (e ∷ H) n l some alone = once_on H e n l refl some refl (once H n l.0 some) alone

pub carried_alone : (H : List Event) (n : ℕ) → Lawful H → n ≢ 0 → works_alone (work H n) ≡ true → carried_out H n ≤ 1
carried_alone H n l some alone = let o = once H n l some alone in o.few

pub sent_alone : (H : List Event) (e : Entry) → Lawful (Heard e ∷ H) → e.call_no ≢ 0 → is_statement e.call ≡ true → works_alone (work H e.call_no) ≡ true → carried_out H e.call_no ≡ 0
sent_alone H e l some statement alone = none_before H e l some alone (once H e.call_no l.0 some alone) statement
