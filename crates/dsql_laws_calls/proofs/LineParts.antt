-- The lines of calls among what was heard in a transaction, and the rows whose cursors they hold.
use Rattle.std.proofs.Common.{◌≡◌, ℕ, ◌==◌, ◌⊎◌, inl, inr, Bool, true, false, ◌||◌, cond, List, [], ◌∷◌, ◌++◌, Option, Some, None, is_some, refl, sym, ap, ◌∙◌}
use Rattle.dsql_laws.specs.driver.declared.call.DriverCall.{DriverCall}
use Rattle.dsql_laws.specs.driver.declared.call.DriverCall.TheVariants as calls
use Rattle.dsql_laws.specs.driver.declared.call.Input.TheVariants.{Text, Handle}
use Rattle.dsql_laws.specs.driver.declared.answer.DriverAnswer.{DriverAnswer}
use Rattle.dsql_laws.specs.driver.declared.answer.DriverAnswer.TheVariants as answers
use Rattle.dsql_laws.specs.driver.Fits.{fits_of}
use Rattle.dsql_laws.specs.driver.Kinds.{is_bad}
use Rattle.dsql_laws.specs.course.declared.call.Due.{Due}
use Rattle.dsql_laws.specs.course.Made as made_of
use Rattle.dsql_laws.specs.course.Made.{Exchange, own_cursor, given_cursor, or_else}
use Rattle.dsql_laws.specs.journal.declared.entry.Entry.{Entry}
use Rattle.dsql_laws.specs.journal.Journal.{may_follow}
use Rattle.dsql_laws.specs.journal.Facts.{MayFollow}
use Rattle.dsql_laws.specs.journal.Readers.{of_tenure, went_bad}
use Rattle.dsql_laws.proofs.journal.Sentences.{MayFollow-of}
use Rattle.dsql_laws.proofs.journal.PlainJournals.{went_bad-in}
use Rattle.dsql_laws.specs.rows.OpenRows.{fresh, rows_of}
use Rattle.dsql_laws.specs.works.Exchanges.{step_of, got_of, with_exchange, exchanges}
use Rattle.dsql_laws.specs.works.HandedOut.{Made}
use Rattle.dsql_laws.specs.works.Line.{handed}
use Rattle.dsql_laws.proofs.Tests.{same_itself}
use Rattle.dsql_laws.specs.history.declared.event.Event.{Event}
use Rattle.dsql_laws.specs.history.declared.event.Event.TheVariants.{Heard}
use Rattle.dsql_laws.specs.history.declared.work.Work.{Work}
use Rattle.dsql_laws.specs.history.declared.work.Task.TheVariants.{HandOut}
use Rattle.dsql_laws.specs.history.declared.work.Work.TheVariants.{Statement}
use Rattle.dsql_laws.specs.history.Readers.Works.{aim_of}
use Rattle.dsql_laws.specs.history.Readers.Journals.{journal}
use Rattle.dsql_laws.specs.history.Readers.Lines.{is_about, line_among, has_sent}
use Rattle.dsql_laws.specs.history.Readers.HandedOut.{born, is_late, rows_heard}
use Rattle.dsql_laws.specs.history.Legal.{Allowed}
use Rattle.dsql_laws_calls.proofs.Makers.{hands_out}
use Rattle.dsql_laws_calls.proofs.Quiet.{next_gives, rows_give, stmt_gives}

-- An answer fits its driver call.
pub heard_follows : (H : List Event) (e : Entry) → Allowed H (Heard e) → may_follow (journal H e.conn) e ≡ true
unfolding Allowed
heard_follows H e a = a.journals

pub fits_heard : (H : List Event) (e : Entry) → Allowed H (Heard e) → fits_of e.call e.answer ≡ true
fits_heard H e a = let m : MayFollow (journal H e.conn) e = MayFollow-of (journal H e.conn) e (heard_follows H e a) in m.answer.fitting

-- An entry that joins a line is of the line's call, or is about the cursor or the handle that the line was
-- given.
pub grows : (m : ℕ) (e : Entry) (L : List Entry) → (line_among m (e ∷ L) ≡ line_among m L) ⊎ ((line_among m (e ∷ L) ≡ e ∷ line_among m L) × (((e.call_no == m) ≡ true) ⊎ (is_about (exchanges (line_among m L)) e.call ≡ true)))
grows m e L = by (e.call_no == m) (is_about (exchanges (line_among m L)) e.call) refl refl
  where
    line : List Entry
    line = line_among m L

    by : (a b : Bool) → (e.call_no == m) ≡ a → is_about (exchanges (line_among m L)) e.call ≡ b
        → (line_among m (e ∷ L) ≡ line_among m L) ⊎ ((line_among m (e ∷ L) ≡ e ∷ line_among m L) × (((e.call_no == m) ≡ true) ⊎ (is_about (exchanges (line_among m L)) e.call ≡ true)))
    by true b own about = inr (ap (λ x. cond (x || is_about (exchanges (line_among m L)) e.call) (e ∷ line_among m L) (line_among m L)) own, inl own)
    by false true own about = inr (ap (λ x. cond (x || is_about (exchanges (line_among m L)) e.call) (e ∷ line_among m L) (line_among m L)) own ∙ ap (λ x. cond x (e ∷ line_among m L) (line_among m L)) about, inr about)
    by false false own about = inl (ap (λ x. cond (x || is_about (exchanges (line_among m L)) e.call) (e ∷ line_among m L) (line_among m L)) own ∙ ap (λ x. cond x (e ∷ line_among m L) (line_among m L)) about)

pub grows_own : (m : ℕ) (e : Entry) (L : List Entry) → (e.call_no == m) ≡ true → line_among m (e ∷ L) ≡ e ∷ line_among m L
grows_own m e L own = ap (λ x. cond (x || is_about (exchanges (line_among m L)) e.call) (e ∷ line_among m L) (line_among m L)) own

-- A call that has sent nothing has an empty line.
pub about_none : (q : DriverCall) → is_about [] q ≡ false
about_none (calls.Next rows) = refl
about_none _ = refl

pub unsent_line : (m : ℕ) (L : List Entry) → has_sent m L ≡ false → line_among m L ≡ []
unsent_line m [] h = refl
unsent_line m (e ∷ L) h = by (unsent_line m L) (e.call_no == m) refl h
  where
    by : (has_sent m L ≡ false → line_among m L ≡ []) → (b : Bool) → (e.call_no == m) ≡ b → (b || has_sent m L) ≡ false → line_among m (e ∷ L) ≡ []
    by rest true is k = absurd cc
    by rest false is k =
        ap (λ x. cond (x || is_about (exchanges (line_among m L)) e.call) (e ∷ line_among m L) (line_among m L)) is
        ∙ ap (λ line. cond (is_about (exchanges line) e.call) (e ∷ line) line) (rest k)
        ∙ ap (λ x. cond x (e ∷ []) []) (about_none e.call)

pub unsent_in : (m t : ℕ) (J : List Entry) → has_sent m J ≡ false → has_sent m (of_tenure t J) ≡ false
unsent_in m t [] h = refl
unsent_in m t (e ∷ J) h = by (unsent_in m t J) (e.tenure == t) (e.call_no == m) refl h
  where
    by : (has_sent m J ≡ false → has_sent m (of_tenure t J) ≡ false) → (b c : Bool) → (e.call_no == m) ≡ c → (c || has_sent m J) ≡ false → has_sent m (cond b (e ∷ of_tenure t J) (of_tenure t J)) ≡ false
    by rest b true is k = absurd cc
    by rest true false is k = ap (λ x. x || has_sent m (of_tenure t J)) is ∙ rest k
    by rest false false is k = rest k

-- If an answer in a line was bad, its connection went bad.

got_bad : (a : DriverAnswer) → made_of.is_bad (got_of a) ≡ true → is_bad a ≡ true
got_bad answers.Bad h = refl
got_bad a h = absurd cc

line_bad : (m : ℕ) (L : List Entry) → made_of.went_bad (exchanges (line_among m L)) ≡ true → went_bad L ≡ true
line_bad m [] h = absurd cc
line_bad m (e ∷ L) h = by (line_bad m L) (grows m e L)
  where
    later : (b : Bool) → went_bad L ≡ true → (b || went_bad L) ≡ true
    later true k = refl
    later false k = k

    more : (o : Option Due) → (made_of.went_bad (exchanges (line_among m L)) ≡ true → went_bad L ≡ true) → made_of.went_bad (with_exchange o e.answer (exchanges (line_among m L))) ≡ true → (is_bad e.answer || went_bad L) ≡ true
    more None rest k = later (is_bad e.answer) (rest k)
    more (Some d) rest k = at (made_of.is_bad (got_of e.answer)) refl k
      where
        at : (b : Bool) → made_of.is_bad (got_of e.answer) ≡ b → (b || made_of.went_bad (exchanges (line_among m L))) ≡ true → (is_bad e.answer || went_bad L) ≡ true
        at true is x = ap (λ b. b || went_bad L) (got_bad e.answer is)
        at false is x = later (is_bad e.answer) (rest x)

    by : (made_of.went_bad (exchanges (line_among m L)) ≡ true → went_bad L ≡ true)
        → (line_among m (e ∷ L) ≡ line_among m L) ⊎ ((line_among m (e ∷ L) ≡ e ∷ line_among m L) × (((e.call_no == m) ≡ true) ⊎ (is_about (exchanges (line_among m L)) e.call ≡ true)))
        → (is_bad e.answer || went_bad L) ≡ true
    by rest (inl same) = later (is_bad e.answer) (rest (sym (ap (λ line. made_of.went_bad (exchanges line)) same) ∙ h))
    by rest (inr w) = more (step_of e.call) rest (sym (ap (λ line. made_of.went_bad (exchanges line)) w.0) ∙ h)

pub known_bad : (m t : ℕ) (J : List Entry) → made_of.went_bad (exchanges (line_among m (of_tenure t J))) ≡ true → went_bad J ≡ true
known_bad m t J h = by (went_bad J) refl
  where
    by : (b : Bool) → went_bad J ≡ b → b ≡ true
    by true is = refl
    by false is = let clash : true ≡ false = sym (line_bad m (of_tenure t J) h) ∙ went_bad-in t J is in absurd cc

-- Rows whose cursor stands in a line were made.

pub hands_of : (w : Work) (made : List Exchange) → is_some (handed (aim_of w) made) ≡ true → hands_out w ≡ true
hands_of (Statement s (HandOut label)) made h = refl
hands_of w made h = absurd cc

-- A driver call that gives a cursor to a line is a query of the line's call.
pub query_makes : (H : List Event) (w : Work) (m : ℕ) (q : DriverCall) (a : DriverAnswer) (R : Made) → hands_out w ≡ true → fits_of q a ≡ true → is_some (given_cursor (got_of a)) ≡ true → is_some (step_of q) ≡ true → is_some (rows_of m (rows_heard H w m q a R)) ≡ true
query_makes H (Statement s (HandOut label)) m (calls.Query input params) (answers.Cursor cursor columns) R h f g t = more R
  where
    more : (S : Made) → is_some (rows_of m (S ++ (m, born (is_late H s) (fresh cursor columns)) ∷ [])) ≡ true
    more [] = ap (λ b. is_some (cond b (Some (born (is_late H s) (fresh cursor columns))) None)) (same_itself m)
    more (x ∷ S) = at (more S) (m == x.0)
      where
        at : is_some (rows_of m (S ++ (m, born (is_late H s) (fresh cursor columns)) ∷ [])) ≡ true → (b : Bool) → is_some (cond b (Some x.1) (rows_of m (S ++ (m, born (is_late H s) (fresh cursor columns)) ∷ []))) ≡ true
        at rest true = refl
        at rest false = rest
query_makes H (Statement s (HandOut label)) m (calls.Exec (Text text) params) (answers.Cursor cursor columns) R h f g t = absurd cc
query_makes H (Statement s (HandOut label)) m (calls.Exec (Handle handle) params) (answers.Cursor cursor columns) R h f g t = absurd cc
query_makes H (Statement s (HandOut label)) m q (answers.Cursor cursor columns) R h f g t = absurd cc
query_makes H (Statement s (HandOut label)) m q a R h f g t = absurd cc
query_makes H w m q a R h f g t = absurd cc

pub about_gives : (made : List Exchange) (q : DriverCall) (a : DriverAnswer) → is_about made q ≡ true → fits_of q a ≡ true → is_some (given_cursor (got_of a)) ≡ true → ⊥
about_gives made (calls.Next rows) a t f g = none (given_cursor (got_of a)) (next_gives rows a f) g
  where
    none : (o : Option ℕ) → o ≡ None → is_some o ≡ true → ⊥
    none None is k = cc
    none (Some x) is k = cc
about_gives made (calls.CloseRows rows) a t f g = none (given_cursor (got_of a)) (rows_give rows a f) g
  where
    none : (o : Option ℕ) → o ≡ None → is_some o ≡ true → ⊥
    none None is k = cc
    none (Some x) is k = cc
about_gives made (calls.CloseStmt rows) a t f g = none (given_cursor (got_of a)) (stmt_gives rows a f) g
  where
    none : (o : Option ℕ) → o ≡ None → is_some o ≡ true → ⊥
    none None is k = cc
    none (Some x) is k = cc
about_gives made q a t f g = cc

pub given_or : (o : Option Due) (a : DriverAnswer) (made : List Exchange) → is_some (own_cursor (with_exchange o a made)) ≡ true → (is_some (own_cursor made) ≡ true) ⊎ ((is_some (given_cursor (got_of a)) ≡ true) × (is_some o ≡ true))
given_or None a made h = inl h
given_or (Some d) a made h = by (given_cursor (got_of a)) h
  where
    by : (g : Option ℕ) → is_some (or_else g (own_cursor made)) ≡ true → (is_some (own_cursor made) ≡ true) ⊎ ((is_some g ≡ true) × (is_some (Some d) ≡ true))
    by None k = inl k
    by (Some r) k = inr (refl, refl)
