-- What an answer makes of what holds of its connection, if that is lent to a transaction.
use Rattle.std.proofs.Common.{◌≡◌, ℕ, ◌==◌, ◌⊎◌, inl, inr, Bool, true, false, ◌||◌, cond, List, ◌∷◌, Option, Some, None, is_some, refl, sym, ap, subst, ◌∙◌}
use Rattle.std.proofs.lemmas.Bool.{or_right}
use Rattle.std.specs.List.{list_all, list_any}
use Rattle.dsql_laws_calls.specs.driver.declared.call.DriverCall.{DriverCall}
use Rattle.dsql_laws_calls.specs.driver.declared.call.DriverCall.TheVariants as calls
use Rattle.dsql_laws_calls.specs.driver.declared.call.Input.TheVariants.{Text, Handle}
use Rattle.dsql_laws_calls.specs.driver.declared.answer.DriverAnswer.{DriverAnswer}
use Rattle.dsql_laws_calls.specs.driver.declared.answer.DriverAnswer.TheVariants as answers
use Rattle.dsql_laws_calls.specs.driver.declared.caps.Caps.{Caps}
use Rattle.dsql_laws_calls.specs.driver.Kinds.{is_bad, is_begin, is_ending, is_valid}
use Rattle.dsql_laws_calls.specs.course.declared.call.Due.{Due}
use Rattle.dsql_laws_calls.specs.course.declared.course.Wish.TheVariants as wishes
use Rattle.dsql_laws_calls.specs.course.Made.{Exchange, given_cursor, or_else, own_cursor}
use Rattle.dsql_laws_calls.specs.journal.declared.entry.Entry.{Entry}
use Rattle.dsql_laws_calls.specs.journal.declared.entry.Owner.{Owner}
use Rattle.dsql_laws_calls.specs.journal.Facts.{MayFollow}
use Rattle.dsql_laws_calls.specs.journal.Kinds.{is_call, number_of}
use Rattle.dsql_laws_calls.specs.journal.Readers.{went_bad}
use Rattle.dsql_laws_calls.proofs.journal.Sentences.{MayFollow-of}
use Rattle.dsql_laws_calls.specs.pool.declared.conn.Place.TheVariants.{Lent}
use Rattle.dsql_laws_calls.specs.works.Exchanges.{exchanges, got_of, step_of, with_exchange}
use Rattle.dsql_laws_calls.specs.works.HandedOut.{Made}
use Rattle.dsql_laws_calls.specs.works.Line.{Asked, handed}
use Rattle.dsql_laws_calls.specs.rows.OpenRows.{rows_of}
use Rattle.dsql_laws_calls.proofs.laws.Tests.{same_itself, same_number, together}
use Rattle.dsql_laws_calls.proofs.laws_work.Rows.{not_true}
use Rattle.dsql_laws_calls.specs.history.declared.event.Event.{Event}
use Rattle.dsql_laws_calls.specs.history.declared.event.Event.TheVariants.{Heard}
use Rattle.dsql_laws_calls.specs.history.declared.work.Scope.TheVariants.{Held}
use Rattle.dsql_laws_calls.specs.history.declared.work.Work.{Work}
use Rattle.dsql_laws_calls.specs.history.declared.work.Task.TheVariants.{HandOut}
use Rattle.dsql_laws_calls.specs.history.declared.work.Work.TheVariants.{Statement, Begin}
use Rattle.dsql_laws_calls.specs.history.Readers.Course.{caps}
use Rattle.dsql_laws_calls.specs.history.Readers.HandedOut.{handed_out, rows_by, rows_heard}
use Rattle.dsql_laws_calls.specs.history.Readers.Journals.{journal, heard_in}
use Rattle.dsql_laws_calls.specs.history.Readers.Lines.{has_sent, is_about, line_among, line_in}
use Rattle.dsql_laws_calls.specs.history.Readers.Pool.{place}
use Rattle.dsql_laws_calls.specs.history.Readers.Transactions.{is_begun, is_over, tx_by}
use Rattle.dsql_laws_calls.specs.history.Readers.Unfinished.{is_unfinished}
use Rattle.dsql_laws_calls.specs.history.Readers.Works.{aim_of, hands_out_in, is_in, scope, work}
use Rattle.dsql_laws_calls.specs.history.Rules.Line.{is_due, may_come, sends_from}
use Rattle.dsql_laws_calls.specs.history.Rules.Sent.{asked_by, begin_line, is_reset_due, sender}
use Rattle.dsql_laws_calls.specs.history.Legal.{Lawful}
use Rattle.dsql_laws_tenures.specs.Begins.{is_begin_line}
use Rattle.dsql_laws_tenures.specs.Sent.{KeepsLines}
use Rattle.dsql_laws_tenures.specs.Tenures.{IsOfTransaction, made_by}
use Rattle.dsql_laws_tenures.proofs.BeginKeeps.{whole_line}
use Rattle.dsql_laws_tenures.proofs.LinesKept.{lines_more, lines_sent, lines_stepless}
use Rattle.dsql_laws_calls.proofs.Beginnings.{begin_owner, begin_stepless, due_steps}
use Rattle.dsql_laws_calls.proofs.BeginningsAt.{heard_more}
use Rattle.dsql_laws_calls.proofs.Begun.{BeginsIt, begun_begins, heard_tx, over_begun, stays_begun}
use Rattle.dsql_laws_calls.proofs.Inside.{inside_busy, number_not}
use Rattle.dsql_laws_calls.proofs.LineParts.{grows, grows_own, fits_heard, heard_follows}
use Rattle.dsql_laws_calls.proofs.Lines.{line_there}
use Rattle.dsql_laws_calls.proofs.Looks.{heard_there}
use Rattle.dsql_laws_calls.proofs.Makers.{hands_out, some_heard}
use Rattle.dsql_laws_calls.proofs.Plain.{begins, no_ending_due, with_ends}
use Rattle.dsql_laws_calls.proofs.Quiet.{Quiet, quiet_bad, quiet_more}
use Rattle.dsql_laws_calls.proofs.Sound.{Sound}
use Rattle.dsql_laws_calls.proofs.Stays.{asked_stays}
use Rattle.dsql_laws_calls.proofs.UnderWay.{clash, handed_there, line_made}
use Rattle.dsql_laws_calls.proofs.Why.{ended_there, scoped}
use Rattle.dsql_laws_due.proofs.Came.{BeginsWay, Came, came, InnerWay}
use Rattle.dsql_laws_due.proofs.Holds.{AllShut, asked_in, begin_of, EndsWay, Holds, Kept, Opening, RowsWay, TestsWay}
use Rattle.dsql_laws_due.proofs.KeptStays.{asked_grows}
use Rattle.dsql_laws_due.proofs.LineEnds.{IsShut}
use Rattle.dsql_laws_due.proofs.LineFacts.{body_due, handed_grows, line_about, line_steps, shut_about, stepless_shut}
use Rattle.dsql_laws_due.proofs.Ways.{owner_begins}

-- The line of a begin is everything in its tenure, as long as its Begin isn't done.
pub begin_due : (H : List Event) (c t : ℕ) (own : Owner) → is_call own ≡ false → begins (work H (number_of own)) ≡ true → Opening H c t own
    → line_there H c t own (number_of own) wishes.Nothing ≡ begin_line (caps H) (is_reset_due H c) (begin_of (work H (number_of own))) (heard_in H c t)
begin_due H c t own other begin o =
    by (work H (number_of own)) refl begin
    ∙ ap (begin_line (caps H) (is_reset_due H c) (begin_of (work H (number_of own)))) (whole_line (number_of own) (heard_in H c t) o.alone)
  where
    by : (w : Work) → work H (number_of own) ≡ w → begins w ≡ true
        → line_there H c t own (number_of own) wishes.Nothing ≡ begin_line (caps H) (is_reset_due H c) (begin_of (work H (number_of own))) (line_among (number_of own) (heard_in H c t))
    by (Begin label level read_only) is x = rw (is, other) refl
    by w is x = absurd cc

begin_steps : (can : Caps) (reset : Bool) (w : Work) (L : List Entry) (q : DriverCall) → begins w ≡ true → is_due (begin_line can reset (begin_of w) L) q ≡ true → step_of q ≡ None
begin_steps can reset (Begin label level read_only) L q h due = due_steps (begin_line can reset (calls.Begin level read_only) L) q (begin_stepless can reset level read_only L) due
begin_steps can reset w L q h due = absurd cc

pub no_step : (q : DriverCall) → step_of q ≡ None → is_some (step_of q) ≡ true → ⊥
no_step q none some = let wrong : false ≡ true = sym (ap (λ o. is_some o) none) ∙ some in cc

pub ending_stepless : (q : DriverCall) → is_ending q ≡ true → step_of q ≡ None
ending_stepless calls.Commit h = refl
ending_stepless calls.Rollback h = refl
ending_stepless q h = absurd cc

valid_stepless : (q : DriverCall) → is_valid q ≡ true → step_of q ≡ None
valid_stepless calls.Valid h = refl
valid_stepless q h = absurd cc

ending_not_valid : (q : DriverCall) → is_ending q ≡ true → is_valid q ≡ true → ⊥
ending_not_valid calls.Commit h k = cc
ending_not_valid calls.Rollback h k = cc
ending_not_valid q h k = cc

-- Rows that are there after an answer were there before it, or the answer gave their call a cursor.
pub new_rows : (H : List Event) (it : Work) (m : ℕ) (q : DriverCall) (a : DriverAnswer) (n : ℕ) (R : Made) → is_some (rows_of n (rows_heard H it m q a R)) ≡ true
    → (is_some (rows_of n R) ≡ true) ⊎ ((n ≡ m) × (is_some (given_cursor (got_of a)) ≡ true) × (is_some (step_of q) ≡ true))
new_rows H (Statement s (HandOut label)) m (calls.Query (Text text) params) (answers.Cursor cursor columns) n R h =
    elim (some_heard H (Statement s (HandOut label)) m (calls.Query (Text text) params) (answers.Cursor cursor columns) n R h) [ inl were ↦ inl were | inr new ↦ inr (new.0, refl, refl) ]
new_rows H (Statement s (HandOut label)) m (calls.Query (Handle handle) params) (answers.Cursor cursor columns) n R h =
    elim (some_heard H (Statement s (HandOut label)) m (calls.Query (Handle handle) params) (answers.Cursor cursor columns) n R h) [ inl were ↦ inl were | inr new ↦ inr (new.0, refl, refl) ]
new_rows H (Statement s (HandOut label)) m q a n R h = inl h
new_rows H it m q a n R h = plain (some_heard H it m q a n R h)
  where
    plain : (is_some (rows_of n R) ≡ true) ⊎ ((n ≡ m) × (hands_out it ≡ true)) → (is_some (rows_of n R) ≡ true) ⊎ ((n ≡ m) × (is_some (given_cursor (got_of a)) ≡ true) × (is_some (step_of q) ≡ true))
    plain (inl were) = inl were
    plain (inr new) = absurd cc

module _ (H : List Event) (e : Entry) (l : Lawful (Heard e ∷ H)) (s : Sound H) (h : Holds H) (own : Owner) (lent : place H e.conn ≡ Some (Lent e.tenure own)) where
  abbrev J : List Entry
  J = journal H e.conn

  abbrev L : List Entry
  L = heard_in H e.conn e.tenure

  kept : Kept H
  kept = h.kept

  may : may_come H e ≡ true
  may = let there = heard_there H e l.1 in subst (λ at. sends_from H at e ≡ true) lent there.line

  follows : MayFollow (journal H e.conn) e
  follows = MayFollow-of (journal H e.conn) e (heard_follows H e l.1)

  pub journal_now : journal (Heard e ∷ H) e.conn ≡ e ∷ journal H e.conn
  journal_now = ap (λ b. cond b (e ∷ journal H e.conn) (journal H e.conn)) (same_itself e.conn)

  pub heard_now : heard_in (Heard e ∷ H) e.conn e.tenure ≡ e ∷ heard_in H e.conn e.tenure
  heard_now = heard_more H e e.conn e.tenure own l.1 lent refl

  way : is_call own ≡ false → Came H e.conn e.tenure own e.call_no e.call
  way other = came H e own l.0 s h may lent other

  -- The call that the answer is for has no reply.
  not_done : (m : ℕ) → (m == 0) ≡ false → e.call_no ≡ m → is_unfinished H m ≡ true
  not_done m some its =
      let u = s.coming e may in
      ap (is_unfinished H) (sym its) ∙ u.unfinished (λ none. never (m == 0) (ap (λ j. j == 0) (sym its ∙ none)) some)
    where
      never : (b : Bool) → b ≡ true → b ≡ false → ⊥
      never b x y = cc

  -- What a begin sends is no step of a course.
  pub begin_step : BeginsWay H e.conn e.tenure own e.call_no e.call → is_call own ≡ false → step_of e.call ≡ None
  begin_step w other =
      let begin = owner_begins H e.conn e.tenure own l.0 lent other in
      let o = kept.opening e.conn e.tenure own lent other w.unbegun in
      begin_steps (caps H) (is_reset_due H e.conn) (work H (number_of own)) (heard_in H e.conn e.tenure) e.call begin (ap (λ d. is_due d e.call) (sym (begin_due H e.conn e.tenure own other begin o)) ∙ w.due)

  inner_step : InnerWay H e.conn e.tenure own e.call_no e.call → is_call own ≡ false → is_some (step_of e.call) ≡ true
  inner_step w other = let i = w.way in line_steps H e.conn e.tenure e.call_no own wishes.Nothing e.call kept lent other w.inner i.due

  rows_step : (w : RowsWay H e.conn e.tenure own e.call_no e.call) → is_call own ≡ false → is_some (step_of e.call) ≡ true
  rows_step w other = line_steps H e.conn e.tenure w.n own w.wish e.call kept lent other (scoped (work H w.n) (number_of own) w.hands) w.due

  begun_other : is_begun H (number_of own) ≡ true → is_call own ≡ false
  begun_other begun = begin_owner H e.conn e.tenure own l.0 lent (begun_begins H (number_of own) l.0 begun)

  -- The lines of calls.

  asked_now : (n : ℕ) → scope (work H n) ≡ Held (number_of own) → asked_in (Heard e ∷ H) (number_of own) n ≡ Some (asked_by H n)
  asked_now n inner =
      ap (λ sc. cond (is_in (number_of own) sc) (Some (asked_by (Heard e ∷ H) n)) None) inner ∙ (ap (λ b. cond b (Some (asked_by (Heard e ∷ H) n)) None) (same_itself (number_of own))
      ∙ ap Some (asked_stays H (Heard e) n (inside_busy (work H n) (number_of own) inner)))

  lines_now : is_call own ≡ false → KeepsLines (caps H) (asked_in (Heard e ∷ H) (number_of own)) e.tenure (journal H e.conn)
  lines_now other =
      lines_more (caps H) (asked_in H (number_of own)) (asked_in (Heard e ∷ H) (number_of own)) e.tenure (journal H e.conn) (kept.lines e.conn e.tenure own lent other)
      (asked_grows H (Heard e) e.conn e.tenure (number_of own) l)

  lines_with : is_call own ≡ false → IsOfTransaction (number_of own) e.tenure (e ∷ journal H e.conn) → Came H e.conn e.tenure own e.call_no e.call
      → KeepsLines (caps H) (asked_in (Heard e ∷ H) (number_of own)) e.tenure (e ∷ journal H e.conn)
  lines_with other tenure (inl w) = lines_stepless (caps H) (asked_in (Heard e ∷ H) (number_of own)) e.tenure e (journal H e.conn) (lines_now other) (begin_step w other)
  lines_with other tenure (inr (inl w)) =
      let i = w.way in
      lines_sent (caps H) (asked_in (Heard e ∷ H) (number_of own)) (number_of own) e.tenure e.call_no (asked_by H e.call_no) e (journal H e.conn) tenure (lines_now other)
      (record {
        asks = asked_now e.call_no w.inner;
        due = record { bad = went_bad (journal H e.conn); wish = wishes.Nothing; due = body_due H e.conn e.tenure e.call_no own wishes.Nothing e.call other w.inner i.due };
        by = inl refl;
      })
  lines_with other tenure (inr (inr w)) = let x = w.way in by x.way
    where
      none : asked_in (Heard e ∷ H) (number_of own) e.call_no ≡ None
      none = let o = w.other in ap (λ sc. cond (is_in (number_of own) sc) (Some (asked_by (Heard e ∷ H) e.call_no)) None) o.outside

      stepless : step_of e.call ≡ None → KeepsLines (caps H) (asked_in (Heard e ∷ H) (number_of own)) e.tenure (e ∷ journal H e.conn)
      stepless step = lines_stepless (caps H) (asked_in (Heard e ∷ H) (number_of own)) e.tenure e (journal H e.conn) (lines_now other) step

      by : RowsWay H e.conn e.tenure own e.call_no e.call ⊎ (EndsWay H e.conn e.tenure e.call ⊎ TestsWay H e.conn e.tenure e.call) → KeepsLines (caps H) (asked_in (Heard e ∷ H) (number_of own)) e.tenure (e ∷ journal H e.conn)
      by (inl r) =
          let inner = scoped (work H r.n) (number_of own) r.hands in
          let hands = kept.handed e.conn e.tenure own lent r.n r.hands r.rows in
          lines_sent (caps H) (asked_in (Heard e ∷ H) (number_of own)) (number_of own) e.tenure r.n (asked_by H r.n) e (journal H e.conn) tenure (lines_now other)
          (record {
            asks = asked_now r.n inner;
            due = record { bad = went_bad (journal H e.conn); wish = r.wish; due = body_due H e.conn e.tenure r.n own r.wish e.call other inner r.due };
            by = inr (none, line_about H e.conn e.tenure r.n own r.wish e.call kept lent other inner hands r.due);
          })
      by (inr (inl x)) = stepless (ending_stepless e.call x.ends)
      by (inr (inr x)) = stepless (ap step_of x.tests)

  pub lines_heard : is_call own ≡ false → IsOfTransaction (number_of own) e.tenure (e ∷ journal H e.conn) → KeepsLines (caps (Heard e ∷ H)) (asked_in (Heard e ∷ H) (number_of own)) e.tenure (journal (Heard e ∷ H) e.conn)
  lines_heard other tenure = subst (λ M. KeepsLines (caps H) (asked_in (Heard e ∷ H) (number_of own)) e.tenure M) (sym journal_now) (lines_with other tenure (way other))

  -- Rows that were handed out.

  pub handed_heard : (n : ℕ) → hands_out_in (number_of own) (work H n) ≡ true → is_some (rows_by (Heard e ∷ H) n) ≡ true → handed_there (Heard e ∷ H) e.conn e.tenure n ≡ true
  handed_heard n hands some = ap (λ M. is_some (handed (aim_of (work H n)) (exchanges (line_among n M)))) heard_now ∙ by (new_rows H (work H e.call_no) e.call_no e.call e.answer n (handed_out H) some)
    where
      or_given : (g o : Option ℕ) → is_some g ≡ true → is_some (or_else g o) ≡ true
      or_given None o k = absurd cc
      or_given (Some r) o k = refl

      new : (o : Option Due) (xs : List Exchange) → is_some o ≡ true → is_some (given_cursor (got_of e.answer)) ≡ true → is_some (own_cursor (with_exchange o e.answer xs)) ≡ true
      new None xs k g = absurd cc
      new (Some d) xs k g = or_given (given_cursor (got_of e.answer)) (own_cursor xs) g

      hands_out_of : (w : Work) (xs : List Exchange) → hands_out_in (number_of own) w ≡ true → is_some (own_cursor xs) ≡ true → is_some (handed (aim_of w) xs) ≡ true
      hands_out_of (Statement sc (HandOut label)) xs x y = y
      hands_out_of w xs x y = absurd cc

      by : (is_some (rows_by H n) ≡ true) ⊎ ((n ≡ e.call_no) × (is_some (given_cursor (got_of e.answer)) ≡ true) × (is_some (step_of e.call) ≡ true))
          → is_some (handed (aim_of (work H n)) (exchanges (line_among n (e ∷ heard_in H e.conn e.tenure)))) ≡ true
      by (inl were) = handed_grows (aim_of (work H n)) n e (heard_in H e.conn e.tenure) (kept.handed e.conn e.tenure own lent n hands were)
      by (inr g) =
          hands_out_of (work H n) (exchanges (line_among n (e ∷ heard_in H e.conn e.tenure))) hands
          (ap (λ line. is_some (own_cursor (exchanges line))) (grows_own n e (heard_in H e.conn e.tenure) (ap (λ j. j == n) (sym g.0) ∙ same_itself n))
          ∙ new (step_of e.call) (exchanges (line_among n (heard_in H e.conn e.tenure))) g.2 g.1)

  -- A call that has its reply.

  pub rested_heard : (m : ℕ) → scope (work H m) ≡ Held (number_of own) → is_unfinished H m ≡ false → has_sent m (journal (Heard e ∷ H) e.conn) ≡ true
      → (handed_there (Heard e ∷ H) e.conn e.tenure m ≡ true) ⊎ Quiet (caps H) (went_bad (journal (Heard e ∷ H) e.conn)) (asked_by (Heard e ∷ H) m) (line_made (Heard e ∷ H) e.conn e.tenure m)
  rested_heard m inner done sent = by (e.call_no == m) refl (sym (ap (has_sent m) journal_now) ∙ sent)
    where
      worse : went_bad (journal H e.conn) ≡ true → went_bad (e ∷ journal H e.conn) ≡ true
      worse bad = or_right (is_bad e.answer) (went_bad (journal H e.conn)) bad

      quiet_lists : (x y : Asked) (N M : List Entry) (K P : List Entry) → y ≡ x → N ≡ M → P ≡ K → Quiet (caps H) (went_bad M) x (exchanges (line_among m K)) → Quiet (caps H) (went_bad N) y (exchanges (line_among m P))
      quiet_lists x y N M K P a b c q = rw (a, b, c) q

      grown : (line_among m (e ∷ heard_in H e.conn e.tenure) ≡ line_among m (heard_in H e.conn e.tenure))
          ⊎ ((line_among m (e ∷ heard_in H e.conn e.tenure) ≡ e ∷ line_among m (heard_in H e.conn e.tenure)) × (((e.call_no == m) ≡ true) ⊎ (is_about (exchanges (line_among m (heard_in H e.conn e.tenure))) e.call ≡ true)))
          → (e.call_no == m) ≡ false → Quiet (caps H) (went_bad (journal H e.conn)) (asked_by H m) (line_made H e.conn e.tenure m)
          → Quiet (caps H) (went_bad (e ∷ journal H e.conn)) (asked_by H m) (exchanges (line_among m (e ∷ heard_in H e.conn e.tenure)))
      grown (inl same) apart q =
          subst (λ line. Quiet (caps H) (went_bad (e ∷ journal H e.conn)) (asked_by H m) (exchanges line)) (sym same)
          (quiet_bad (caps H) (went_bad (journal H e.conn)) (went_bad (e ∷ journal H e.conn)) (asked_by H m) (line_made H e.conn e.tenure m) worse q)
      grown (inr (same, inl its)) apart q = clash (sym its ∙ apart)
      grown (inr (same, inr about)) apart q =
          subst (λ line. Quiet (caps H) (went_bad (e ∷ journal H e.conn)) (asked_by H m) (exchanges line)) (sym same)
          (quiet_bad (caps H) (went_bad (journal H e.conn)) (went_bad (e ∷ journal H e.conn)) (asked_by H m) (exchanges (e ∷ line_among m (heard_in H e.conn e.tenure))) worse
          (quiet_more (caps H) (went_bad (journal H e.conn)) (asked_by H m) e (line_among m (heard_in H e.conn e.tenure)) about (fits_heard H e l.1) q))

      before : (e.call_no == m) ≡ false → (handed_there H e.conn e.tenure m ≡ true) ⊎ Quiet (caps H) (went_bad (journal H e.conn)) (asked_by H m) (line_made H e.conn e.tenure m)
          → (handed_there (Heard e ∷ H) e.conn e.tenure m ≡ true) ⊎ Quiet (caps H) (went_bad (journal (Heard e ∷ H) e.conn)) (asked_by (Heard e ∷ H) m) (line_made (Heard e ∷ H) e.conn e.tenure m)
      before apart (inl hands) = inl (ap (λ M. is_some (handed (aim_of (work H m)) (exchanges (line_among m M)))) heard_now ∙ handed_grows (aim_of (work H m)) m e (heard_in H e.conn e.tenure) hands)
      before apart (inr q) =
          inr
          (quiet_lists (asked_by H m) (asked_by (Heard e ∷ H) m) (journal (Heard e ∷ H) e.conn) (e ∷ journal H e.conn) (e ∷ heard_in H e.conn e.tenure) (heard_in (Heard e ∷ H) e.conn e.tenure)
          (asked_stays H (Heard e) m (inside_busy (work H m) (number_of own) inner)) journal_now heard_now (grown (grows m e (heard_in H e.conn e.tenure)) apart q))

      by : (b : Bool) → (e.call_no == m) ≡ b → (b || has_sent m (journal H e.conn)) ≡ true
          → (handed_there (Heard e ∷ H) e.conn e.tenure m ≡ true) ⊎ Quiet (caps H) (went_bad (journal (Heard e ∷ H) e.conn)) (asked_by (Heard e ∷ H) m) (line_made (Heard e ∷ H) e.conn e.tenure m)
      by true its x = clash (sym (not_done m (number_not H m (number_of own) inner) (same_number e.call_no m its)) ∙ done)
      by false its x = before its (kept.rested e.conn e.tenure own lent m inner done x)

  -- A begin.

  unbegun_before : is_begun (Heard e ∷ H) (number_of own) ≡ false → is_begun H (number_of own) ≡ true → ⊥
  unbegun_before unbegun begun = let wrong : true ≡ false = sym (stays_begun H (Heard e) (number_of own) begun) ∙ unbegun in cc

  pub opening_heard : is_call own ≡ false → is_begun (Heard e ∷ H) (number_of own) ≡ false → Opening (Heard e ∷ H) e.conn e.tenure own
  opening_heard other unbegun = by (way other)
    where
      by : Came H e.conn e.tenure own e.call_no e.call → Opening (Heard e ∷ H) e.conn e.tenure own
      by (inl w) =
          let begin = owner_begins H e.conn e.tenure own l.0 lent other in
          let o = kept.opening e.conn e.tenure own lent other w.unbegun in
          let due = ap (λ d. is_due d e.call) (sym (begin_due H e.conn e.tenure own other begin o)) ∙ w.due in
          record {
            line =
                ap (is_begin_line (caps H) (is_reset_due H e.conn) (begin_of (work H (number_of own)))) heard_now
                ∙ together (is_begin_line (caps H) (is_reset_due H e.conn) (begin_of (work H (number_of own))) (heard_in H e.conn e.tenure)) (is_due (begin_line (caps H) (is_reset_due H e.conn) (begin_of (work H (number_of own))) (heard_in H e.conn e.tenure)) e.call)
                o.line due;
            alone =
                ap (λ M. list_all (λ x. x.call_no == number_of own) M) heard_now
                ∙ together (e.call_no == number_of own) (list_all (λ x. x.call_no == number_of own) (heard_in H e.conn e.tenure)) (ap (λ j. j == number_of own) (sym w.itself) ∙ same_itself (number_of own)) o.alone;
          }
      by (inr (inl w)) = absurd (unbegun_before unbegun w.begun)
      by (inr (inr w)) = let x = w.way in absurd (unbegun_before unbegun x.begun)

  -- The end of the transaction.

  unended : is_begun H (number_of own) ≡ false → ended_there (heard_in H e.conn e.tenure) ≡ false
  unended unbegun = let f = s.facts in f.ends e.conn e.tenure own lent (by (is_over H (number_of own)) refl)
    where
      by : (b : Bool) → is_over H (number_of own) ≡ b → b ≡ false
      by true over = clash (sym (over_begun H (number_of own) over) ∙ unbegun)
      by false over = refl

  now_begun : is_begun (Heard e ∷ H) (number_of own) ≡ true → is_call own ≡ false
  now_begun begun = begin_owner (Heard e ∷ H) e.conn e.tenure own l lent (begun_begins (Heard e ∷ H) (number_of own) l begun)

  pub untested_heard : is_begun (Heard e ∷ H) (number_of own) ≡ true → ended_there (heard_in (Heard e ∷ H) e.conn e.tenure) ≡ false → list_any (λ x. is_valid x.call) (heard_in (Heard e ∷ H) e.conn e.tenure) ≡ false
  untested_heard begun none =
      ap (λ M. list_any (λ x. is_valid x.call) M) heard_now ∙ neither (is_valid e.call) (list_any (λ x. is_valid x.call) (heard_in H e.conn e.tenure)) (not_valid (is_valid e.call) refl) (earlier follows)
    where
      neither : (a b : Bool) → a ≡ false → b ≡ false → (a || b) ≡ false
      neither true b x y = absurd cc
      neither false b x y = y

      earlier : MayFollow (journal H e.conn) e → list_any (λ x. is_valid x.call) (heard_in H e.conn e.tenure) ≡ false
      earlier m = let k = m.tenure in not_true (list_any (λ x. is_valid x.call) (heard_in H e.conn e.tenure)) k.not_after_valid

      ended_now : ended_there (heard_in H e.conn e.tenure) ≡ true → ⊥
      ended_now x = let wrong : true ≡ false = sym (ap ended_there heard_now ∙ or_right (is_ending e.call) (ended_there (heard_in H e.conn e.tenure)) x) ∙ none in cc

      -- A test begins nothing.
      began : BeginsWay H e.conn e.tenure own e.call_no e.call → is_valid e.call ≡ true → ⊥
      began w valid = by (heard_tx H e (number_of own))
        where
          valid_begins : (q : DriverCall) → is_valid q ≡ true → is_begin q ≡ true → ⊥
          valid_begins calls.Valid x y = cc
          valid_begins q x y = cc

          by : (tx_by (Heard e ∷ H) (number_of own) ≡ tx_by H (number_of own)) ⊎ BeginsIt H e (number_of own) (tx_by (Heard e ∷ H) (number_of own)) → ⊥
          by (inl same) = let wrong : true ≡ false = sym begun ∙ (ap (λ o. is_some o) same ∙ w.unbegun) in cc
          by (inr it) = valid_begins e.call valid it.begin

      tested : RowsWay H e.conn e.tenure own e.call_no e.call ⊎ (EndsWay H e.conn e.tenure e.call ⊎ TestsWay H e.conn e.tenure e.call) → is_valid e.call ≡ true → ⊥
      tested (inl r) valid = no_step e.call (valid_stepless e.call valid) (rows_step r (now_begun begun))
      tested (inr (inl x)) valid = ending_not_valid e.call x.ends valid
      tested (inr (inr x)) valid = ended_now x.ended

      by_way : Came H e.conn e.tenure own e.call_no e.call → is_valid e.call ≡ true → ⊥
      by_way (inl w) valid = began w valid
      by_way (inr (inl w)) valid = no_step e.call (valid_stepless e.call valid) (inner_step w (now_begun begun))
      by_way (inr (inr w)) valid = let x = w.way in tested x.way valid

      not_valid : (b : Bool) → is_valid e.call ≡ b → b ≡ false
      not_valid true valid = absurd (by_way (way (now_begun begun)) valid)
      not_valid false valid = refl

  pub ended_heard : is_begun (Heard e ∷ H) (number_of own) ≡ true → ended_there (heard_in (Heard e ∷ H) e.conn e.tenure) ≡ true → AllShut e.tenure (journal (Heard e ∷ H) e.conn)
  ended_heard begun ends = subst (λ M. AllShut e.tenure M) (sym journal_now) (by (way other))
    where
      other : is_call own ≡ false
      other = now_begun begun

      ended_so : (is_ending e.call || ended_there (heard_in H e.conn e.tenure)) ≡ true
      ended_so = sym (ap ended_there heard_now) ∙ ends

      second : (a b : Bool) → a ≡ false → (a || b) ≡ true → b ≡ true
      second true b x y = absurd cc
      second false b x y = y

      not_ending : is_some (step_of e.call) ≡ true → is_ending e.call ≡ false
      not_ending step = at (is_ending e.call) refl
        where
          at : (b : Bool) → is_ending e.call ≡ b → b ≡ false
          at true x = absurd (no_step e.call (ending_stepless e.call x) step)
          at false x = refl

      was_ended : is_some (step_of e.call) ≡ true → ended_there (heard_in H e.conn e.tenure) ≡ true
      was_ended step = second (is_ending e.call) (ended_there (heard_in H e.conn e.tenure)) (not_ending step) ended_so

      bad_on : AllShut e.tenure (journal H e.conn) → ((n : ℕ) → IsShut (made_by n e.tenure (journal H e.conn)) → ⊥) → (n : ℕ) → AllShut e.tenure (e ∷ journal H e.conn)
      bad_on (inl bad) none n = inl (or_right (is_bad e.answer) (went_bad (journal H e.conn)) bad)
      bad_on (inr shut) none n = absurd (none n (shut n))

      -- If the entry is over rows or in the line of a query, nothing stays open, or the connection is known to
      -- be bad.
      about_shut : (n : ℕ) → is_some (step_of e.call) ≡ true → is_begun H (number_of own) ≡ true → is_about (made_by n e.tenure (journal H e.conn)) e.call ≡ true → AllShut e.tenure (e ∷ journal H e.conn)
      about_shut n step begun_so about = at (kept.ended e.conn e.tenure own lent begun_so (was_ended step))
        where
          at : AllShut e.tenure (journal H e.conn) → AllShut e.tenure (e ∷ journal H e.conn)
          at (inl bad) = inl (or_right (is_bad e.answer) (went_bad (journal H e.conn)) bad)
          at (inr shut) = shut_about (made_by n e.tenure (journal H e.conn)) e.call (shut n) about

      inner_left : (w : InnerWay H e.conn e.tenure own e.call_no e.call) → (ended_there (heard_in H e.conn e.tenure) ≡ false) ⊎ (handed_there H e.conn e.tenure e.call_no ≡ true) → AllShut e.tenure (e ∷ journal H e.conn)
      inner_left w (inl none) = clash (sym (was_ended (inner_step w other)) ∙ none)
      inner_left w (inr hands) =
          let i = w.way in
          about_shut e.call_no (inner_step w other) w.begun (line_about H e.conn e.tenure e.call_no own wishes.Nothing e.call kept lent other w.inner hands i.due)

      by_tx : is_begun H (number_of own) ≡ true → RowsWay H e.conn e.tenure own e.call_no e.call ⊎ (EndsWay H e.conn e.tenure e.call ⊎ TestsWay H e.conn e.tenure e.call) → AllShut e.tenure (e ∷ journal H e.conn)
      by_tx begun_so (inl r) =
          let inner = scoped (work H r.n) (number_of own) r.hands in
          about_shut r.n (rows_step r other) begun_so (line_about H e.conn e.tenure r.n own r.wish e.call kept lent other inner (kept.handed e.conn e.tenure own lent r.n r.hands r.rows) r.due)
      by_tx begun_so (inr (inl x)) = stepless_shut e.tenure e (journal H e.conn) (ending_stepless e.call x.ends) x.shut
      by_tx begun_so (inr (inr x)) = stepless_shut e.tenure e (journal H e.conn) (ap step_of x.tests) (kept.ended e.conn e.tenure own lent begun_so x.ended)

      begin_ending : (w : BeginsWay H e.conn e.tenure own e.call_no e.call) → is_ending e.call ≡ false
      begin_ending w =
          no_ending_due (line_there H e.conn e.tenure own (number_of own) wishes.Nothing) e.call
          (with_ends (sender H (number_of own) e.conn wishes.Nothing) (line_in own (number_of own) (heard_in H e.conn e.tenure))) w.due

      by : Came H e.conn e.tenure own e.call_no e.call → AllShut e.tenure (e ∷ journal H e.conn)
      by (inl w) = clash (sym (second (is_ending e.call) (ended_there (heard_in H e.conn e.tenure)) (begin_ending w) ended_so) ∙ unended w.unbegun)
      by (inr (inl w)) = let i = w.way in inner_left w i.left
      by (inr (inr w)) = let x = w.way in by_tx x.begun x.way
