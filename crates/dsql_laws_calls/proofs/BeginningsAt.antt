-- Each event keeps what holds of the calls that begin transactions.
use Rattle.std.proofs.Common.{◌≡◌, ◌≢◌, ℕ, ◌≤◌, ◌<◌, ◌==◌, ◌⊎◌, inl, inr, Bool, true, false, not, ◌&&◌, ◌||◌, cond, List, [], ◌∷◌, Option, Some, is_some, length, refl, sym, ap, subst, ◌∙◌, arith}
use Rattle.dsql_laws.specs.driver.declared.call.DriverCall.{DriverCall}
use Rattle.dsql_laws.specs.driver.declared.call.DriverCall.TheVariants as calls_of
use Rattle.dsql_laws.specs.driver.declared.answer.DriverAnswer.{DriverAnswer}
use Rattle.dsql_laws.specs.driver.declared.answer.DriverAnswer.TheVariants.{Done}
use Rattle.dsql_laws.specs.driver.Kinds.{is_begin, is_connect, is_shut}
use Rattle.dsql_laws.specs.driver.Fits.{is_done}
use Rattle.dsql_laws.specs.journal.declared.entry.Entry.{Entry}
use Rattle.dsql_laws.specs.journal.declared.entry.Owner.{Owner}
use Rattle.dsql_laws.specs.journal.Kinds.{number_of, same_owner}
use Rattle.dsql_laws.specs.journal.Readers.{of_tenure}
use Rattle.dsql_laws.specs.pool.declared.conn.Place.TheVariants.{Lent}
use Rattle.dsql_laws.specs.pool.declared.moves.Move.TheVariants.{Lend}
use Rattle.dsql_laws.specs.tx.Transactions.{ended_by}
use Rattle.dsql_laws.specs.tx.declared.end.TxEnd.TheVariants as tx_ends
use Rattle.dsql_laws.specs.works.Exchanges.{with_exchange, exchanges}
use Rattle.dsql_laws.specs.history.Readers.Tries.{try_number, tries}
use Rattle.dsql_laws.proofs.Tests.{both, same_number, same_itself, other_number}
use Rattle.dsql_laws.proofs.Wanted.{wanted}
use Rattle.dsql_laws_work.proofs.Rows.{same_or_not, read_set}
use Rattle.dsql_laws.specs.history.declared.event.Event.{Event}
use Rattle.dsql_laws.specs.history.declared.event.Event.TheVariants.{Entered, Heard, Pool, Replied, Ended}
use Rattle.dsql_laws.specs.history.declared.event.Op.{Op}
use Rattle.dsql_laws.specs.history.declared.reply.Reply.{Reply}
use Rattle.dsql_laws.specs.history.declared.work.Work.TheVariants.{Look}
use Rattle.dsql_laws.specs.history.Readers.Unfinished.{is_unfinished}
use Rattle.dsql_laws.specs.history.Readers.Works.{work}
use Rattle.dsql_laws.specs.history.Readers.Journals.{journal, heard_in}
use Rattle.dsql_laws.specs.history.Readers.Lines.{is_about, line_among}
use Rattle.dsql_laws.specs.history.Readers.Pool.{pool, place, home}
use Rattle.dsql_laws.specs.history.Readers.Transactions.{tx_by, is_begun}
use Rattle.dsql_laws.specs.history.Readers.Calls.{calls, call_record, nobody, decided, trying, decided_by}
use Rattle.dsql_laws.specs.history.Readers.Decisions.{Trying, decision}
use Rattle.dsql_laws.specs.history.Rules.Moves.{hears_in}
use Rattle.dsql_laws.specs.history.Rules.Line.{is_due}
use Rattle.dsql_laws.specs.history.Legal.{Allowed, Lawful}
use Rattle.dsql_laws_calls.proofs.Owners.{at_home, lent_asks}
use Rattle.dsql_laws_calls.proofs.Lent.{lent_before}
use Rattle.dsql_laws_calls.proofs.Stays.{work_stays, not_looking}
use Rattle.dsql_laws_calls.proofs.Tenures.{fresh_lending}
use Rattle.dsql_laws_calls.proofs.Wanted.{lent_wants_none, wants_no_more}
use Rattle.dsql_laws_calls.proofs.Works.{enters_next, old_record, other_heard, other_replied, old_unfinished, still_unfinished}
use Rattle.dsql_laws_calls.proofs.Looks.{heard_there, comes}
use Rattle.dsql_laws_calls.proofs.Plain.{begins}
use Rattle.dsql_laws_calls.proofs.Begun.{BeginsIt, as_begun, entered_tx, heard_tx, ended_tx, begun_begins, begin_heard}
use Rattle.dsql_laws_calls.proofs.AtEnd.{no_work_yet}
use Rattle.dsql_laws_calls.proofs.Own.{OwnWay, own_way}
use Rattle.dsql_laws_calls.proofs.Beginnings.{Beginnings, begins_busy, asking, numbered, begin_owner, begin_there, begin_stepless, due_steps, last_began, silent, lent_once_begun, still}
use Rattle.dsql_laws_calls.proofs.Born.{heard_at}
use Rattle.dsql_laws_calls.proofs.LineParts.{about_none}
use Rattle.dsql_laws.specs.history.Readers.Course.{caps}
use Rattle.dsql_laws.specs.history.Rules.Sent.{is_reset_due, begin_line}

-- Is true if the event is an answer.
abbrev pub is_answer : Event → Bool
is_answer (Heard e) = true
is_answer e = false

pub heard_same : (H : List Event) (e : Event) (c : ℕ) → is_answer e ≡ false → journal (e ∷ H) c ≡ journal H c
heard_same H (Heard e) c h = absurd cc
heard_same H e c h = refl

pub was_begun : (H : List Event) (e : Event) (n : ℕ) → is_answer e ≡ false → is_begun (e ∷ H) n ≡ true → is_begun H n ≡ true
was_begun H (Entered client m op) n h b =
    elim (entered_tx H client m op n) [
      | inl same ↦ ap (λ o. is_some o) (sym same) ∙ b
      | inr it ↦ sym (as_begun (ended_by it.by) (tx_by H n)) ∙ ap (λ o. is_some o) (sym it.so) ∙ b
    ]
was_begun H (Heard e) n h b = absurd cc
was_begun H Ended n h b = sym (as_begun (ended_by tx_ends.EndOfRun) (tx_by H n)) ∙ ap (λ o. is_some o) (sym (ended_tx H n)) ∙ b
was_begun H e n h b = b

-- A call that has something to do isn't the one that enters.
pub not_new : (H : List Event) (client m : ℕ) (op : Op) (n : ℕ) → Allowed H (Entered client m op) → (work H n ≡ Look → ⊥) → n ≢ m
not_new H client m op n a busy same = let new = enters_next H client m op a in busy (no_work_yet H n (omega (arith, new, same)))

-- A call that has something to do and no reply had no reply before the event.
pub was_unfinished : (H : List Event) (e : Event) (n : ℕ) → Allowed H e → (work H n ≡ Look → ⊥) → is_unfinished (e ∷ H) n ≡ true → is_unfinished H n ≡ true
was_unfinished H (Entered client m op) n a busy u = sym (old_unfinished H client m op n (not_new H client m op n a busy)) ∙ u
was_unfinished H (Replied m reply) n a busy u = let b = still_unfinished H m reply n u in b.1
was_unfinished H e n a busy u = u

told_on : (H : List Event) (e : Event) (n : ℕ) → Allowed H e → is_answer e ≡ false → (work H n ≡ Look → ⊥) → is_unfinished (e ∷ H) n ≡ true → decided (e ∷ H) n ≡ decided H n
told_on H (Entered client m op) n a h busy u = ap (λ r. r.decided) (old_record H client m op n (enters_next H client m op a) (not_new H client m op n a busy))
told_on H (Replied m reply) n a h busy u = let b = still_unfinished H m reply n u in ap (λ r. r.decided) (other_replied H m reply n b.0)
told_on H (Heard e) n a h busy u = absurd cc
told_on H e n a h busy u = refl

numbered_so : (H : List Event) (n : ℕ) → begins (work H n) ≡ true → n ≢ 0
numbered_so H n h none = clash (n == 0) (ap (λ j. j == 0) none) (numbered H n h)
  where
    clash : (b : Bool) → b ≡ true → b ≡ false → ⊥
    clash b x y = cc

quiet : (H : List Event) (e : Event) → Lawful (e ∷ H) → is_answer e ≡ false → Beginnings H → Beginnings (e ∷ H)
quiet H e l none b = record {
  steps = λ c t own is begin.
      elim (lent_before H e c t own l.0 is) [
        | inl before ↦
            (let same = work_stays H e (number_of own) (not_looking (work H (number_of own)) (lent_asks H c t own l.0 before)) in
            ap (λ J. exchanges (line_among (number_of own) (of_tenure t J))) (heard_same H e c none) ∙ b.steps c t own before (sym (ap begins same) ∙ begin))
        | inr lends_it ↦
            (let a : Allowed H (Pool (Lend c t own lends_it.0)) = subst (λ x. Allowed H x) lends_it.1 l.1 in
            ap (λ L. exchanges (line_among (number_of own) L)) (ap (of_tenure t) (heard_same H e c none) ∙ fresh_lending H c t own lends_it.0 l.0 a))
      ];
  began = λ c t own is begun.
      elim (lent_before H e c t own l.0 is) [
        | inl before ↦ ap (λ J. last_began (line_among (number_of own) (of_tenure t J))) (heard_same H e c none) ∙ b.began c t own before (was_begun H e (number_of own) none begun)
        | inr lends_it ↦
            (let a : Allowed H (Pool (Lend c t own lends_it.0)) = subst (λ x. Allowed H x) lends_it.1 l.1 in
            absurd (lent_once_begun H c t own lends_it.0 l.0 a b (was_begun H e (number_of own) none begun)))
      ];
  wants = λ n begun.
      let were = was_begun H e n none begun in
      wants_no_more H e n l.1 (numbered_so H n (begun_begins H n l.0 were)) (silent H b n were) (b.wants n were);
  told = λ n begun u.
      let were = was_begun H e n none begun in
      let busy = begins_busy (work H n) (begun_begins H n l.0 were) in
      ap (λ o. is_some o) (told_on H e n l.1 none busy u) ∙ b.told n were (was_unfinished H e n l.1 busy u);
}

-- The event is an answer.

pub heard_tenure : (H : List Event) (e : Entry) (t : ℕ) (own : Owner) → Allowed H (Heard e) → place H e.conn ≡ Some (Lent t own) → e.tenure ≡ t
heard_tenure H e t own a is =
    let hears : hears_in (pool H) (Some (Lent t own)) e ≡ true = subst (λ at. hears_in (pool H) at e ≡ true) is (heard_at H e a) in
    let x = both (not (is_connect e.call || is_shut e.call)) ((e.tenure == t) && same_owner e.owner own) hears in
    let y = both (e.tenure == t) (same_owner e.owner own) x.1 in
    same_number e.tenure t y.0

-- An answer on a lent connection adds one entry to what was heard in its tenure.
pub heard_more : (H : List Event) (e : Entry) (c t : ℕ) (own : Owner) → Allowed H (Heard e) → place H c ≡ Some (Lent t own) → e.conn ≡ c → heard_in (Heard e ∷ H) c t ≡ e ∷ heard_in H c t
heard_more H e c t own a is same =
    let there : place H e.conn ≡ Some (Lent t own) = ap (place H) same ∙ is in
    let tenure = heard_tenure H e t own a there in
    ap (λ b. of_tenure t (cond b (e ∷ journal H c) (journal H c))) (ap (λ j. j == c) same ∙ same_itself c)
    ∙ ap (λ b. cond b (e ∷ of_tenure t (journal H c)) (of_tenure t (journal H c))) (ap (λ j. j == t) tenure ∙ same_itself t)

pub heard_other : (H : List Event) (e : Entry) (c : ℕ) → e.conn ≢ c → journal (Heard e ∷ H) c ≡ journal H c
heard_other H e c apart = ap (λ b. cond b (e ∷ journal H c) (journal H c)) (other_number e.conn c apart)

-- The line of a begin grows only by entries of its own call.
own_line : (H : List Event) (e : Entry) (n : ℕ) (L : List Entry) → exchanges (line_among n L) ≡ [] → line_among n (e ∷ L) ≡ cond (e.call_no == n) (e ∷ line_among n L) (line_among n L)
own_line H e n L none = ap (λ b. cond b (e ∷ line_among n L) (line_among n L)) (ap (λ made. (e.call_no == n) || is_about made e.call) none ∙ ap (λ b. (e.call_no == n) || b) (about_none e.call) ∙ or_false (e.call_no == n))
  where
    or_false : (b : Bool) → (b || false) ≡ b
    or_false true = refl
    or_false false = refl

pub way_of : (H : List Event) (e : Entry) → Lawful H → Allowed H (Heard e) → begins (work H e.call_no) ≡ true → OwnWay H e
way_of H e l a begin =
    let there = heard_there H e a in
    let some = numbered H e.call_no begin in
    own_way H e l (comes H e (place H e.conn) there.sets there.line some) some (asking (work H e.call_no) begin)

steps_heard : (H : List Event) (e : Entry) → Lawful (Heard e ∷ H) → Beginnings H → (c t : ℕ) (own : Owner) → place H c ≡ Some (Lent t own) → begins (work H (number_of own)) ≡ true
    → exchanges (line_among (number_of own) (heard_in (Heard e ∷ H) c t)) ≡ []
steps_heard H e l b c t own is begin = by (same_or_not e.conn c)
  where
    n : ℕ
    n = number_of own

    before : exchanges (line_among (number_of own) (heard_in H c t)) ≡ []
    before = b.steps c t own is begin

    its : (x : Bool) → (e.call_no == number_of own) ≡ x → exchanges (cond x (e ∷ line_among (number_of own) (heard_in H c t)) (line_among (number_of own) (heard_in H c t))) ≡ []
    its true same =
        let number = same_number e.call_no (number_of own) same in
        let u = way_of H e l.0 l.1 (ap (λ j. begins (work H j)) number ∙ begin) in
        let begin_own : begins (work H (number_of u.owner)) ≡ true = ap (λ j. begins (work H j)) (u.own ∙ number) ∙ begin in
        let at = begin_there H e.conn e.tenure u.owner begin_own (begin_owner H e.conn e.tenure u.owner l.0 u.lent begin_own) in
        let line = begin_line (caps H) (is_reset_due H e.conn) (calls_of.Begin at.0 at.1) (line_among (number_of u.owner) (heard_in H e.conn e.tenure)) in
        let none = due_steps line e.call (begin_stepless (caps H) (is_reset_due H e.conn) at.0 at.1 (line_among (number_of u.owner) (heard_in H e.conn e.tenure))) (ap (λ d. is_due d e.call) (sym at.2) ∙ u.due) in
        ap (λ o. with_exchange o e.answer (exchanges (line_among (number_of own) (heard_in H c t)))) none ∙ before
    its false other = before

    by : (e.conn ≡ c) ⊎ (e.conn ≢ c) → exchanges (line_among (number_of own) (heard_in (Heard e ∷ H) c t)) ≡ []
    by (inl here) =
        ap (λ L. exchanges (line_among (number_of own) L)) (heard_more H e c t own l.1 is here)
        ∙ ap exchanges (own_line H e (number_of own) (heard_in H c t) before)
        ∙ its (e.call_no == number_of own) refl
    by (inr apart) = ap (λ J. exchanges (line_among (number_of own) (of_tenure t J))) (heard_other H e c apart) ∙ before

began_heard : (H : List Event) (e : Entry) → Lawful (Heard e ∷ H) → Beginnings H → (c t : ℕ) (own : Owner) → place H c ≡ Some (Lent t own) → is_begun (Heard e ∷ H) (number_of own) ≡ true
    → last_began (line_among (number_of own) (heard_in (Heard e ∷ H) c t)) ≡ true
began_heard H e l b c t own is begun = by (heard_tx H e (number_of own))
  where
    grown : (x : Bool) → (e.call_no == number_of own) ≡ x → e.conn ≡ c → begins (work H (number_of own)) ≡ true → last_began (cond x (e ∷ line_among (number_of own) (heard_in H c t)) (line_among (number_of own) (heard_in H c t))) ≡ true
        → last_began (line_among (number_of own) (heard_in (Heard e ∷ H) c t)) ≡ true
    grown x its here begin h =
        ap (λ L. last_began (line_among (number_of own) L)) (heard_more H e c t own l.1 is here)
        ∙ ap last_began (own_line H e (number_of own) (heard_in H c t) (b.steps c t own is begin))
        ∙ ap (λ y. last_began (cond y (e ∷ line_among (number_of own) (heard_in H c t)) (line_among (number_of own) (heard_in H c t)))) its ∙ h

    by : (tx_by (Heard e ∷ H) (number_of own) ≡ tx_by H (number_of own)) ⊎ BeginsIt H e (number_of own) (tx_by (Heard e ∷ H) (number_of own)) → last_began (line_among (number_of own) (heard_in (Heard e ∷ H) c t)) ≡ true
    by (inl same) = at (same_or_not e.conn c)
      where
        were : is_begun H (number_of own) ≡ true
        were = ap (λ o. is_some o) (sym same) ∙ begun

        at : (e.conn ≡ c) ⊎ (e.conn ≢ c) → last_began (line_among (number_of own) (heard_in (Heard e ∷ H) c t)) ≡ true
        at (inl here) =
            grown false (other_number e.call_no (number_of own) (λ number. still H e l.0 l.1 b (ap (is_begun H) number ∙ were))) here (begun_begins H (number_of own) l.0 were) (b.began c t own is were)
        at (inr apart) = ap (λ J. last_began (line_among (number_of own) (of_tenure t J))) (heard_other H e c apart) ∙ b.began c t own is were
    by (inr it) =
        let there = heard_there H e l.1 in
        let begin = begin_heard H e (place H e.conn) there.sets there.line it.begin in
        let u = way_of H e l.0 l.1 begin in
        let own_number : number_of u.owner ≡ number_of own = u.own ∙ sym it.own in
        let here : e.conn ≡ c = sym (at_home H e.conn e.tenure u.owner l.0 u.lent) ∙ ap (home H) own_number ∙ at_home H c t own l.0 is in
        grown true (ap (λ j. j == number_of own) (sym it.own) ∙ same_itself (number_of own)) here (ap (λ j. begins (work H j)) it.own ∙ begin) (ap (λ x. x && is_done e.answer) it.begin ∙ it.done)

begin_decides : (t : Trying) (q : DriverCall) (a : DriverAnswer) (earlier : Option Reply) → is_begin q ≡ true → is_done a ≡ true → is_some (decision t q a earlier) ≡ true
begin_decides t (calls_of.Begin level read_only) Done earlier x y = refl
begin_decides t (calls_of.Begin level read_only) a earlier x y = absurd cc
begin_decides t q a earlier x y = absurd cc

told_heard : (H : List Event) (e : Entry) → Lawful H → begins (work H e.call_no) ≡ true → is_begin e.call ≡ true → is_done e.answer ≡ true → is_some (decided (Heard e ∷ H) e.call_no) ≡ true
told_heard H e l begin x y = by (read_set (calls H) e.call_no (decided_by number (work H e.call_no) e (call_record H e.call_no)) e.call_no nobody)
  where
    number : ℕ
    number = try_number (tries H e.call_no)

    settled : is_some (decided_by (try_number (tries H e.call_no)) (work H e.call_no) e (call_record H e.call_no)).decided ≡ true
    settled =
        let r = call_record H e.call_no in
        let t = trying (try_number (tries H e.call_no)) (work H e.call_no) r in
        ap (λ b. is_some (cond b r (record r { decided = decision t e.call e.answer r.decided })).decided) (numbered H e.call_no begin)
        ∙ begin_decides t e.call e.answer r.decided x y

    by : ((e.call_no ≡ e.call_no) × (e.call_no < length (calls H)) × (call_record (Heard e ∷ H) e.call_no ≡ decided_by (try_number (tries H e.call_no)) (work H e.call_no) e (call_record H e.call_no)))
        ⊎ ((e.call_no ≡ e.call_no → length (calls H) ≤ e.call_no) × (call_record (Heard e ∷ H) e.call_no ≡ call_record H e.call_no)) → is_some (decided (Heard e ∷ H) e.call_no) ≡ true
    by (inl w) = ap (λ r. is_some r.decided) w.2 ∙ settled
    by (inr w) = absurd (begins_busy (work H e.call_no) begin (no_work_yet H e.call_no (w.0 refl)))

heard : (H : List Event) (e : Entry) → Lawful (Heard e ∷ H) → Beginnings H → Beginnings (Heard e ∷ H)
heard H e l b = record {
  steps = steps_heard H e l b;
  began = began_heard H e l b;
  wants = λ n begun.
      elim (heard_tx H e n) [
        | inl same ↦ b.wants n (ap (λ o. is_some o) (sym same) ∙ begun)
        | inr it ↦
            (let there = heard_there H e l.1 in
            let u = way_of H e l.0 l.1 (begin_heard H e (place H e.conn) there.sets there.line it.begin) in
            ap (λ k. wanted k (pool H)) (it.own ∙ sym u.own) ∙ lent_wants_none H e.conn e.tenure u.owner l.0 u.lent)
      ];
  told = λ n begun u.
      elim (heard_tx H e n) [
        | inl same ↦
            (let were : is_begun H n ≡ true = ap (λ o. is_some o) (sym same) ∙ begun in
            ap (λ r. is_some r.decided) (other_heard H e n (λ number. still H e l.0 l.1 b (ap (is_begun H) (sym number) ∙ were))) ∙ b.told n were u)
        | inr it ↦
            (let there = heard_there H e l.1 in
            ap (λ k. is_some (decided (Heard e ∷ H) k)) it.own ∙ told_heard H e l.0 (begin_heard H e (place H e.conn) there.sets there.line it.begin) it.begin it.done)
      ];
}

pub beginnings : (H : List Event) → Lawful H → Beginnings H
beginnings [] l = record { steps = λ c t own is h. absurd cc; began = λ c t own is h. absurd cc; wants = λ n h. absurd cc; told = λ n h u. absurd cc }
beginnings (Heard e ∷ H) l = heard H e l (beginnings H l.0)
beginnings (e ∷ H) l = quiet H e l refl (beginnings H l.0)
