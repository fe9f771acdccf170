-- A query on the database makes its rows once.
use Rattle.std.proofs.Common.{◌≡◌, ◌≢◌, ℕ, zero, suc, ◌==◌, ◌⊎◌, inl, inr, Bool, true, false, List, [], ◌∷◌, Option, Some, None, is_some, refl, sym, ap, subst, ◌∙◌, arith}
use Rattle.dsql_laws.specs.value.declared.value.Param.{Param}
use Rattle.dsql_laws.specs.driver.declared.call.DriverCall.{DriverCall}
use Rattle.dsql_laws.specs.driver.declared.call.DriverCall.TheVariants.{Query, Next}
use Rattle.dsql_laws.specs.driver.declared.call.Input.{Input}
use Rattle.dsql_laws.specs.driver.declared.call.Input.TheVariants.{Text, Handle}
use Rattle.dsql_laws.specs.driver.declared.answer.DriverAnswer.{DriverAnswer}
use Rattle.dsql_laws.specs.driver.declared.answer.DriverAnswer.TheVariants.{Cursor}
use Rattle.dsql_laws.specs.course.declared.call.Due.{Due}
use Rattle.dsql_laws.specs.course.Made.{own_cursor, given_cursor, or_else}
use Rattle.dsql_laws.specs.journal.declared.entry.Entry.{Entry}
use Rattle.dsql_laws.specs.journal.declared.entry.Owner.{Owner}
use Rattle.dsql_laws.specs.journal.Kinds.{is_call, number_of}
use Rattle.dsql_laws.specs.journal.Readers.{of_tenure}
use Rattle.dsql_laws.specs.pool.declared.conn.Place.TheVariants.{Lent}
use Rattle.dsql_laws.specs.pool.declared.moves.Move.TheVariants.{Lend}
use Rattle.dsql_laws.specs.rows.declared.rows.Rows.{Rows}
use Rattle.dsql_laws.specs.rows.OpenRows.{ended_by, rows_of}
use Rattle.dsql_laws.specs.works.Exchanges.{step_of, got_of, with_exchange, exchanges}
use Rattle.dsql_laws.specs.works.HandedOut.{Made}
use Rattle.dsql_laws.specs.works.Line.{handed, is_due_in_line}
use Rattle.dsql_laws.specs.works.declared.work.Aim.TheVariants as aims
use Rattle.dsql_laws_calls.proofs.Ends.{zero_work}
use Rattle.dsql_laws_work.proofs.Rows.{same_or_not}
use Rattle.dsql_laws_work.proofs.HandedLines.{due_over}
use Rattle.dsql_laws.specs.history.Readers.HandedOut.{fetched, last_end, handed_out, rows_by, rows_heard}
use Rattle.dsql_laws.proofs.Tests.{same_number, same_itself}
use Rattle.dsql_laws.proofs.Wanted.{wanted}
use Rattle.dsql_laws.specs.history.declared.event.Event.{Event}
use Rattle.dsql_laws.specs.history.declared.event.Event.TheVariants.{Run, Entered, Heard, Pool, Waits, Ticked, SetLimit, Replied, Ended}
use Rattle.dsql_laws.specs.history.declared.work.Scope.TheVariants.{Db, Held}
use Rattle.dsql_laws.specs.history.declared.work.Work.{Work}
use Rattle.dsql_laws.specs.history.declared.work.Task.TheVariants.{HandOut}
use Rattle.dsql_laws.specs.history.declared.work.Work.TheVariants.{Statement, Fetch}
use Rattle.dsql_laws.specs.history.Readers.Course.{caps}
use Rattle.dsql_laws.specs.history.Readers.Works.{work, scope, asks, borrower, hands_out_in, aim_of}
use Rattle.dsql_laws.specs.history.Readers.Journals.{heard_in}
use Rattle.dsql_laws.specs.history.Readers.Pool.{pool, place, home}
use Rattle.dsql_laws.specs.history.Readers.Transactions.{is_begun}
use Rattle.dsql_laws.specs.history.Rules.Sent.{asked_by, is_reset_due}
use Rattle.dsql_laws.specs.history.Rules.Line.{may_come}
use Rattle.dsql_laws.specs.history.Legal.{Allowed, Lawful}
use Rattle.dsql_laws.proofs.Tried.{lends_to}
use Rattle.dsql_laws.proofs.Wanting.{wanting_works}
use Rattle.dsql_laws_calls.proofs.Owners.{at_home, lent_asks, lent_number}
use Rattle.dsql_laws_calls.proofs.Lent.{lent_before}
use Rattle.dsql_laws_calls.proofs.Looks.{heard_there, comes}
use Rattle.dsql_laws_calls.proofs.Wanted.{rows_may_not_ask, lent_wants_none, wants_no_more, lent_nothing}
use Rattle.dsql_laws_calls.proofs.Makers.{hands_out, rows_hand_out, some_entered, some_mapped, some_heard, some_changed}
use Rattle.dsql_laws_calls.proofs.Plain.{line_plain}
use Rattle.dsql_laws_calls.proofs.Begun.{begun_begins}
use Rattle.dsql_laws_calls.proofs.Beginnings.{begin_owner}
use Rattle.dsql_laws_calls.proofs.BeginningsAt.{is_answer, heard_more, heard_other}
use Rattle.dsql_laws_calls.proofs.Own.{asks_own}
use Rattle.dsql_laws_calls.proofs.HandedRows.{rows_begun}
use Rattle.dsql_laws_calls.proofs.CallTenures.{call_line, plain_due}
use Rattle.dsql_laws_calls.proofs.UnderWay.{UnderWay}
use Rattle.dsql_laws_calls.proofs.Coming.{sound}

-- An event other than an answer makes no rows.
pub were_made : (H : List Event) (e : Event) (n : ℕ) → is_answer e ≡ false → is_some (rows_by (e ∷ H) n) ≡ true → is_some (rows_by H n) ≡ true
were_made H (Entered client m op) n none h = sym (some_entered H op n (handed_out H)) ∙ h
were_made H (Heard e) n none h = absurd cc
were_made H Ended n none h = sym (some_mapped (λ j. ended_by (last_end (scope (work H j)))) n (handed_out H)) ∙ h
were_made H e n none h = h

-- An answer to a call that asks for a connection is heard on the connection that is lent to that call.
heard_by : (H : List Event) (e : Entry) → Lawful H → Allowed H (Heard e) → asks (work H e.call_no) ≡ true → (e.call_no == 0) ≡ false → (own : Owner) × (place H e.conn ≡ Some (Lent e.tenure own)) × (number_of own ≡ e.call_no)
heard_by H e l a asking some =
    let there = heard_there H e a in
    let s = sound H l in
    let u = s.coming e (comes H e (place H e.conn) there.sets there.line some) in
    (u.owner, u.lent, sym (u.borrowed (λ none. absurd (never (e.call_no == 0) (ap (λ j. j == 0) none) some))) ∙ asks_own H e.call_no asking)
  where
    never : (b : Bool) → b ≡ true → b ≡ false → ⊥
    never b x y = cc

-- A call that has made rows wants no connection.

numbered : (n : ℕ) → n ≢ 0 → (n == 0) ≡ false
numbered n some = by (n == 0) refl
  where
    by : (b : Bool) → (n == 0) ≡ b → b ≡ false
    by true is = absurd (some (same_number n 0 is))
    by false is = refl

new_unwanting : (H : List Event) (e : Entry) → Lawful H → Allowed H (Heard e) → e.call_no ≢ 0 → wanted e.call_no (pool H) ≡ 0
new_unwanting H e l a some = by (wanted e.call_no (pool H)) refl
  where
    by : (k : ℕ) → wanted e.call_no (pool H) ≡ k → wanted e.call_no (pool H) ≡ 0
    by zero is = is
    by (suc k) is =
        let w = heard_by H e l a (wanting_works H e.call_no l some (omega (arith, is))) (numbered e.call_no some) in
        ap (λ j. wanted j (pool H)) (sym w.2) ∙ lent_wants_none H e.conn e.tenure w.0 l w.1

quiet : (H : List Event) (e : Event) (n : ℕ) → Lawful (e ∷ H) → n ≢ 0 → is_answer e ≡ false → is_some (rows_by (e ∷ H) n) ≡ true → (is_some (rows_by H n) ≡ true → wanted n (pool H) ≡ 0) → wanted n (pool (e ∷ H)) ≡ 0
quiet H e n l some none h rest = let were = were_made H e n none h in wants_no_more H e n l.1 some (rows_may_not_ask H n were) (rest were)

pub content : (H : List Event) (n : ℕ) → Lawful H → n ≢ 0 → is_some (rows_by H n) ≡ true → wanted n (pool H) ≡ 0
content [] n l some h = absurd cc
content (Heard e ∷ H) n l some h = by (content H n l.0 some) (some_heard H (work H e.call_no) e.call_no e.call e.answer n (handed_out H) h)
  where
    by : (is_some (rows_by H n) ≡ true → wanted n (pool H) ≡ 0) → (is_some (rows_by H n) ≡ true) ⊎ ((n ≡ e.call_no) × (hands_out (work H e.call_no) ≡ true)) → wanted n (pool H) ≡ 0
    by rest (inl were) = rest were
    by rest (inr w) = ap (λ j. wanted j (pool H)) w.0 ∙ new_unwanting H e l.0 l.1 (λ none. some (w.0 ∙ none))
content (e ∷ H) n l some h = quiet H e n l some refl h (content H n l.0 some)

-- If a connection is lent to a call that has made rows, the cursor of the rows is in that tenure.

abbrev holds : List Entry → Bool
holds L = is_some (own_cursor (exchanges L))

heard_gives : (H : List Event) (it : Work) (m : ℕ) (q : DriverCall) (a : DriverAnswer) (n : ℕ) (R : Made) → is_some (rows_of n (rows_heard H it m q a R)) ≡ true
    → (is_some (rows_of n R) ≡ true) ⊎ ((is_some (given_cursor (got_of a)) ≡ true) × (is_some (step_of q) ≡ true))
heard_gives H (Statement s (HandOut label)) m (Query (Text text) params) (Cursor cursor columns) n R h = inr (refl, refl)
heard_gives H (Statement s (HandOut label)) m (Query (Handle handle) params) (Cursor cursor columns) n R h = inr (refl, refl)
heard_gives H (Fetch k) m (Next cursor) a n R h = inl (sym (some_changed (fetched a) k n R) ∙ h)
heard_gives H _ m q a n R h = inl h

holds_more : (e : Entry) (L : List Entry) → holds L ≡ true → holds (e ∷ L) ≡ true
holds_more e L h = by (step_of e.call)
  where
    or_own : (g o : Option ℕ) → is_some o ≡ true → is_some (or_else g o) ≡ true
    or_own None o k = k
    or_own (Some r) o k = refl

    by : (o : Option Due) → is_some (own_cursor (with_exchange o e.answer (exchanges L))) ≡ true
    by None = h
    by (Some d) = or_own (given_cursor (got_of e.answer)) (own_cursor (exchanges L)) h

holds_new : (e : Entry) (L : List Entry) → is_some (given_cursor (got_of e.answer)) ≡ true → is_some (step_of e.call) ≡ true → holds (e ∷ L) ≡ true
holds_new e L given step = by (step_of e.call) step
  where
    or_given : (g o : Option ℕ) → is_some g ≡ true → is_some (or_else g o) ≡ true
    or_given None o k = absurd cc
    or_given (Some r) o k = refl

    by : (o : Option Due) → is_some o ≡ true → is_some (own_cursor (with_exchange o e.answer (exchanges L))) ≡ true
    by None k = absurd cc
    by (Some d) k = or_given (given_cursor (got_of e.answer)) (own_cursor (exchanges L)) given

answer_held : (H : List Event) (e : Entry) (c t : ℕ) (own : Owner) → Lawful (Heard e ∷ H) → place H c ≡ Some (Lent t own) → is_some (rows_by (Heard e ∷ H) (number_of own)) ≡ true → (is_some (rows_by H (number_of own)) ≡ true → holds (heard_in H c t) ≡ true) → holds (heard_in (Heard e ∷ H) c t) ≡ true
answer_held H e c t own l is some rest = by (same_or_not e.conn c)
  where
    here : e.conn ≡ c → holds (heard_in (Heard e ∷ H) c t) ≡ true
    here same =
        let more = heard_more H e c t own l.1 is same in
        elim (heard_gives H (work H e.call_no) e.call_no e.call e.answer (number_of own) (handed_out H) some) [
          | inl were ↦ ap holds more ∙ holds_more e (heard_in H c t) (rest were)
          | inr g ↦ ap holds more ∙ holds_new e (heard_in H c t) g.0 g.1
        ]

    there : e.conn ≢ c → (is_some (rows_by H (number_of own)) ≡ true) ⊎ ((number_of own ≡ e.call_no) × (hands_out (work H e.call_no) ≡ true)) → holds (heard_in (Heard e ∷ H) c t) ≡ true
    there apart (inl were) = ap (λ J. holds (of_tenure t J)) (heard_other H e c apart) ∙ rest were
    there apart (inr w) =
        let asking : asks (work H e.call_no) ≡ true = ap (λ j. asks (work H j)) (sym w.0) ∙ lent_asks H c t own l.0 is in
        let at = heard_by H e l.0 l.1 asking (numbered e.call_no (λ none. lent_number H c t own l.0 is (w.0 ∙ none))) in
        absurd (apart (sym (at_home H e.conn e.tenure at.0 l.0 at.1) ∙ ap (home H) (at.2 ∙ sym w.0) ∙ at_home H c t own l.0 is))

    by : (e.conn ≡ c) ⊎ (e.conn ≢ c) → holds (heard_in (Heard e ∷ H) c t) ≡ true
    by (inl same) = here same
    by (inr apart) = there apart (some_heard H (work H e.call_no) e.call_no e.call e.answer (number_of own) (handed_out H) some)

pub held : (H : List Event) (c t : ℕ) (own : Owner) → Lawful H → place H c ≡ Some (Lent t own) → is_some (rows_by H (number_of own)) ≡ true → holds (heard_in H c t) ≡ true
held [] c t own l is some = absurd cc
held (e ∷ H) c t own l is some = by (held H c t own l.0) (lent_before H e c t own l.0 is)
  where
    event : (x : Event) → Lawful (x ∷ H) → place H c ≡ Some (Lent t own) → is_some (rows_by (x ∷ H) (number_of own)) ≡ true → (is_some (rows_by H (number_of own)) ≡ true → holds (heard_in H c t) ≡ true) → holds (heard_in (x ∷ H) c t) ≡ true
    event (Heard y) m before h rest = answer_held H y c t own m before h rest
    event (Run version can) m before h rest = rest (were_made H (Run version can) (number_of own) refl h)
    event (Entered client k op) m before h rest = rest (were_made H (Entered client k op) (number_of own) refl h)
    event (Pool move) m before h rest = rest (were_made H (Pool move) (number_of own) refl h)
    event (Waits k) m before h rest = rest (were_made H (Waits k) (number_of own) refl h)
    event (Ticked now) m before h rest = rest (were_made H (Ticked now) (number_of own) refl h)
    event (SetLimit s k) m before h rest = rest (were_made H (SetLimit s k) (number_of own) refl h)
    event (Replied k reply) m before h rest = rest (were_made H (Replied k reply) (number_of own) refl h)
    event Ended m before h rest = rest (were_made H Ended (number_of own) refl h)

    lends_none : (k : ℕ) → e ≡ Pool (Lend c t own k) → ⊥
    lends_none k its =
        let a : Allowed H (Pool (Lend c t own k)) = subst (λ x. Allowed H x) its l.1 in
        let same : k ≡ number_of own = lends_to H c t own k a in
        let were : is_some (rows_by H k) ≡ true = ap (λ j. is_some (rows_by H j)) same ∙ subst (λ x. is_some (rows_by (x ∷ H) (number_of own)) ≡ true) its some in
        let numbered_so : k ≢ 0 = λ none. lent_number (e ∷ H) c t own l is (sym same ∙ none) in
        lent_nothing H c t own k l.0 a (rows_may_not_ask H k were) (content H k l.0 numbered_so were)

    by : (place H c ≡ Some (Lent t own) → is_some (rows_by H (number_of own)) ≡ true → holds (heard_in H c t) ≡ true) → (place H c ≡ Some (Lent t own)) ⊎ ((k : ℕ) × (e ≡ Pool (Lend c t own k))) → holds (heard_in (e ∷ H) c t) ≡ true
    by rest (inl before) = event e l before some (rest before)
    by rest (inr w) = absurd (lends_none w.0 w.1)

-- A query on the database makes its rows once.
pub rows_new : (H : List Event) (e : Entry) (own : Owner) (input : Input) (params : List Param) → Lawful H → may_come H e ≡ true → place H e.conn ≡ Some (Lent e.tenure own) → is_call own ≡ true → e.call ≡ Query input params → rows_by H e.call_no ≡ None
rows_new H e own input params l h is call query = by (rows_by H e.call_no) refl
  where
    same_lent : (t v : ℕ) (o p : Owner) → Some (Lent t o) ≡ Some (Lent v p) → o ≡ p
    same_lent t v o p k = cc

    wrong : true ≡ false → ⊥
    wrong k = cc

    some_cursor : (o : Option ℕ) → is_some o ≡ true → (r : ℕ) × (o ≡ Some r)
    some_cursor None k = absurd cc
    some_cursor (Some r) k = (r, refl)

    contradiction : (v : UnderWay H e) → v.owner ≡ own → e.call_no ≢ 0 → (w : Work) → work H e.call_no ≡ w → hands_out w ≡ true → is_some (rows_by H e.call_no) ≡ true → ⊥
    contradiction v same numbered_so (Statement (Held k) (HandOut label)) its x some =
        let begun = rows_begun H e.call_no k l some (ap (hands_out_in k) its ∙ same_itself k) in
        let uses : borrower H e.call_no ≡ k = rw its refl in
        let number : number_of own ≡ k = ap number_of (sym same) ∙ (sym (v.borrowed numbered_so) ∙ uses) in
        let mine : is_begun H (number_of own) ≡ true = ap (is_begun H) number ∙ begun in
        wrong (sym call ∙ begin_owner H e.conn e.tenure own l is (begun_begins H (number_of own) l mine))
    contradiction v same numbered_so (Statement Db (HandOut label)) its x some =
        let uses : borrower H e.call_no ≡ e.call_no = rw its refl in
        let number : number_of v.owner ≡ e.call_no = sym (v.borrowed numbered_so) ∙ uses in
        let line = v.line (ap is_call same ∙ call) in
        let L = heard_in H e.conn e.tenure in
        let asked = asked_by H (number_of v.owner) in
        let rows : is_some (rows_by H (number_of v.owner)) ≡ true = ap (λ j. is_some (rows_by H j)) number ∙ some in
        let cursor = some_cursor (own_cursor (exchanges L)) (held H e.conn e.tenure v.owner l v.lent rows) in
        let aim : asked.aim ≡ aims.HandOut = ap aim_of (ap (work H) number ∙ its) in
        let s = sound H l in
        let f = s.facts in
        let sent = plain_due (call_line H e.conn e.tenure v.owner line.0) e.call (line_plain (caps H) (is_reset_due H e.conn) asked line.0 L) line.1 in
        due_over (caps H) (is_reset_due H e.conn) asked line.0 L (Query input params) cursor.0 (ap (λ a. handed a (exchanges L)) aim ∙ cursor.1) (f.made e.conn e.tenure v.owner v.lent (ap is_call same ∙ call))
        (ap (λ q. is_due_in_line (call_line H e.conn e.tenure v.owner line.0) q) (sym query) ∙ sent)
    contradiction v same numbered_so w its x some = absurd cc

    by : (o : Option Rows) → rows_by H e.call_no ≡ o → rows_by H e.call_no ≡ None
    by None its = its
    by (Some r) its =
        let some : is_some (rows_by H e.call_no) ≡ true = ap (λ o. is_some o) its in
        let hands = rows_hand_out H e.call_no some in
        let numbered_so : e.call_no ≢ 0 = λ none. wrong (sym hands ∙ (ap (λ j. hands_out (work H j)) none ∙ ap hands_out (zero_work H))) in
        let s = sound H l in
        let u = s.coming e h in
        absurd (contradiction u (same_lent e.tenure e.tenure u.owner own (sym u.lent ∙ is)) numbered_so (work H e.call_no) refl hands some)
