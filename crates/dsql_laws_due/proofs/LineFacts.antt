-- What is known of the line of a call in a transaction, and what an answer makes of lines.
use Rattle.std.proofs.Common.{◌≡◌, ℕ, ◌==◌, ◌⊎◌, inl, inr, Bool, true, false, cond, List, ◌∷◌, Option, Some, None, is_some, refl, sym, ap, subst, ◌∙◌}
use Rattle.std.proofs.lemmas.Bool.{or_right}
use Rattle.dsql_laws_calls.specs.driver.declared.call.DriverCall.{DriverCall}
use Rattle.dsql_laws_calls.specs.driver.declared.call.DriverCall.TheVariants as calls
use Rattle.dsql_laws_calls.specs.driver.declared.call.Input.TheVariants.{Text, Handle}
use Rattle.dsql_laws_calls.specs.driver.declared.answer.DriverAnswer.{DriverAnswer}
use Rattle.dsql_laws_calls.specs.course.declared.call.Due.{Due}
use Rattle.dsql_laws_calls.specs.course.declared.course.Wish.{Wish}
use Rattle.dsql_laws_calls.specs.course.Made.{Exchange, given_cursor, or_else, own_cursor}
use Rattle.dsql_laws_calls.specs.journal.declared.entry.Entry.{Entry}
use Rattle.dsql_laws_calls.specs.journal.declared.entry.Owner.{Owner}
use Rattle.dsql_laws_calls.specs.journal.Kinds.{is_call, number_of}
use Rattle.dsql_laws_calls.specs.journal.Readers.{of_tenure, went_bad}
use Rattle.dsql_laws_calls.specs.driver.Kinds.{is_bad}
use Rattle.dsql_laws_calls.specs.pool.declared.conn.Place.TheVariants.{Lent}
use Rattle.dsql_laws_calls.specs.works.Exchanges.{exchanges, got_of, step_of, with_exchange}
use Rattle.dsql_laws_calls.specs.works.Line.{handed, body_after}
use Rattle.dsql_laws_calls.specs.works.declared.work.Aim.{Aim}
use Rattle.dsql_laws_calls.specs.works.declared.work.Aim.TheVariants as aims
use Rattle.dsql_laws_calls.proofs.laws.Tests.{same_itself}
use Rattle.dsql_laws_calls.specs.history.declared.event.Event.{Event}
use Rattle.dsql_laws_calls.specs.history.declared.work.Scope.TheVariants.{Held}
use Rattle.dsql_laws_calls.specs.history.Readers.Course.{caps}
use Rattle.dsql_laws_calls.specs.history.Readers.Journals.{journal}
use Rattle.dsql_laws_calls.specs.history.Readers.Lines.{is_about, line_among}
use Rattle.dsql_laws_calls.specs.history.Readers.Pool.{place}
use Rattle.dsql_laws_calls.specs.history.Readers.Works.{aim_of, is_in, scope, work}
use Rattle.dsql_laws_calls.specs.history.Rules.Line.{is_due}
use Rattle.dsql_laws_calls.specs.history.Rules.Sent.{asked_by, untested}
use Rattle.dsql_laws_tenures.specs.Orderly.{asks_text, is_in_order}
use Rattle.dsql_laws_tenures.specs.Sent.{WasSent}
use Rattle.dsql_laws_tenures.specs.Tenures.{made_by}
use Rattle.dsql_laws_tenures.proofs.About.{handed_about}
use Rattle.dsql_laws_tenures.proofs.OrderSent.{sent_in_order}
use Rattle.dsql_laws_tenures.proofs.Sends.{Sends, body_sends}
use Rattle.dsql_laws_calls.proofs.Lines.{line_there}
use Rattle.dsql_laws_calls.proofs.LineParts.{grows}
use Rattle.dsql_laws_calls.proofs.DueWay.{inner_is}
use Rattle.dsql_laws_calls.proofs.UnderWay.{handed_there}
use Rattle.dsql_laws_due.proofs.Holds.{asked_in, AllShut, Kept}
use Rattle.dsql_laws_due.proofs.LineEnds.{IsShut}

-- What is known of the line of call n in the transaction.
pub record LineOf (H : List Event) (c t n : ℕ) (own : Owner) : Type 0 where
  pub asked : asked_in H (number_of own) n ≡ Some (asked_by H n)
  pub text : asks_text (asked_by H n).aim ≡ true
  pub sent : WasSent (caps H) (asked_by H n) (made_by n t (journal H c))
  pub order : is_in_order (made_by n t (journal H c)) ≡ true

pub line_facts : (H : List Event) (c t n : ℕ) (own : Owner) → Kept H → place H c ≡ Some (Lent t own) → is_call own ≡ false → scope (work H n) ≡ Held (number_of own) → LineOf H c t n own
line_facts H c t n own kept is other inner =
    let keeps = kept.lines c t own is other in
    let asked : asked_in H (number_of own) n ≡ Some (asked_by H n) =
    ap (λ s. cond (is_in (number_of own) s) (Some (asked_by H n)) None) inner ∙ ap (λ b. cond b (Some (asked_by H n)) None) (same_itself (number_of own))
    in
    let text = keeps.text n (asked_by H n) asked in
    let sent = keeps.own n (asked_by H n) asked in
    record { asked = asked; text = text; sent = sent; order = sent_in_order (caps H) (asked_by H n) (made_by n t (journal H c)) text sent }

-- What is due in the line is due after its exchanges.
pub body_due : (H : List Event) (c t n : ℕ) (own : Owner) (w : Wish) (q : DriverCall) → is_call own ≡ false → scope (work H n) ≡ Held (number_of own) → is_due (line_there H c t own n w) q ≡ true
    → is_due (body_after (untested (caps H)) (went_bad (journal H c)) (asked_by H n) w (made_by n t (journal H c))) q ≡ true
body_due H c t n own w q other inner due = ap (λ d. is_due d q) (sym (inner_is H c t own n w (number_of own) other inner)) ∙ due

wrong : (b : Bool) → b ≡ true → b ≡ false → ⊥
wrong b h k = cc

-- A driver call that a line sends is an exchange of a course.
step_sent : (made : List Exchange) (bad : Bool) (q : DriverCall) → Sends made bad q → is_some (step_of q) ≡ true
step_sent made bad (calls.Exec (Text text) params) s = refl
step_sent made bad (calls.Exec (Handle handle) params) s = refl
step_sent made bad (calls.Query (Text text) params) s = refl
step_sent made bad (calls.Query (Handle handle) params) s = refl
step_sent made bad (calls.Prepare text) s = refl
step_sent made bad (calls.Next rows) s = refl
step_sent made bad (calls.CloseRows rows) s = refl
step_sent made bad (calls.CloseStmt handle) s = refl
step_sent made bad q s = absurd s

pub line_steps : (H : List Event) (c t n : ℕ) (own : Owner) (w : Wish) (q : DriverCall) → Kept H → place H c ≡ Some (Lent t own) → is_call own ≡ false → scope (work H n) ≡ Held (number_of own)
    → is_due (line_there H c t own n w) q ≡ true → is_some (step_of q) ≡ true
line_steps H c t n own w q kept is other inner due =
    let line = line_facts H c t n own kept is other inner in
    step_sent (made_by n t (journal H c)) (went_bad (journal H c)) q
    (body_sends (caps H) (asked_by H n) (went_bad (journal H c)) w (made_by n t (journal H c)) q line.text line.order (body_due H c t n own w q other inner due))

-- A driver call that is due over rows that the call handed out is about these rows.
pub line_about : (H : List Event) (c t n : ℕ) (own : Owner) (w : Wish) (q : DriverCall) → Kept H → place H c ≡ Some (Lent t own) → is_call own ≡ false → scope (work H n) ≡ Held (number_of own)
    → handed_there H c t n ≡ true → is_due (line_there H c t own n w) q ≡ true → is_about (made_by n t (journal H c)) q ≡ true
line_about H c t n own w q kept is other inner hands due = by (handed (aim_of (work H n)) (made_by n t (journal H c))) refl hands
  where
    by : (o : Option ℕ) → handed (aim_of (work H n)) (made_by n t (journal H c)) ≡ o → is_some o ≡ true → is_about (made_by n t (journal H c)) q ≡ true
    by None its h = absurd cc
    by (Some rows) its h =
        let line = line_facts H c t n own kept is other inner in
        handed_about (caps H) (asked_by H n) (went_bad (journal H c)) w (made_by n t (journal H c)) rows q its line.order (body_due H c t n own w q other inner due)

pub shut_about : {A : Type 0} (made : List Exchange) (q : DriverCall) → IsShut made → is_about made q ≡ true → A
shut_about made (calls.Next rows) s h = absurd (wrong (is_about made (calls.Next rows)) h (s.cursor rows))
shut_about made (calls.CloseRows rows) s h = absurd (wrong (is_about made (calls.CloseRows rows)) h (s.cursor rows))
shut_about made (calls.CloseStmt handle) s h = absurd (wrong (is_about made (calls.CloseStmt handle)) h (s.handle handle))
shut_about made q s h = absurd cc

-- What an answer makes of lines.

stepless_line : (n : ℕ) (e : Entry) (L : List Entry) → step_of e.call ≡ None → exchanges (line_among n (e ∷ L)) ≡ exchanges (line_among n L)
stepless_line n e L none = by (grows n e L)
  where
    by : (line_among n (e ∷ L) ≡ line_among n L) ⊎ ((line_among n (e ∷ L) ≡ e ∷ line_among n L) × (((e.call_no == n) ≡ true) ⊎ (is_about (exchanges (line_among n L)) e.call ≡ true))) → exchanges (line_among n (e ∷ L)) ≡ exchanges (line_among n L)
    by (inl same) = ap exchanges same
    by (inr x) = ap exchanges x.0 ∙ ap (λ o. with_exchange o e.answer (exchanges (line_among n L))) none

pub stepless_made : (n t : ℕ) (e : Entry) (J : List Entry) → step_of e.call ≡ None → made_by n t (e ∷ J) ≡ made_by n t J
stepless_made n t e J none = by (e.tenure == t)
  where
    by : (b : Bool) → exchanges (line_among n (cond b (e ∷ of_tenure t J) (of_tenure t J))) ≡ exchanges (line_among n (of_tenure t J))
    by true = stepless_line n e (of_tenure t J) none
    by false = refl

pub stepless_shut : (t : ℕ) (e : Entry) (J : List Entry) → step_of e.call ≡ None → AllShut t J → AllShut t (e ∷ J)
stepless_shut t e J none (inl bad) = inl (or_right (is_bad e.answer) (went_bad J) bad)
stepless_shut t e J none (inr shut) = inr (λ n. subst IsShut (sym (stepless_made n t e J none)) (shut n))

-- A cursor that the driver gave to a line stays the line's own.
pub handed_grows : (aim : Aim) (n : ℕ) (e : Entry) (L : List Entry) → is_some (handed aim (exchanges (line_among n L))) ≡ true → is_some (handed aim (exchanges (line_among n (e ∷ L)))) ≡ true
handed_grows aim n e L h = by (grows n e L)
  where
    or_own : (g o : Option ℕ) → is_some o ≡ true → is_some (or_else g o) ≡ true
    or_own None o k = k
    or_own (Some r) o k = refl

    more : (a : Aim) (o : Option Due) (x : DriverAnswer) (made : List Exchange) → is_some (handed a made) ≡ true → is_some (handed a (with_exchange o x made)) ≡ true
    more a None x made k = k
    more aims.HandOut (Some d) x made k = or_own (given_cursor (got_of x)) (own_cursor made) k
    more _ (Some d) x made k = absurd cc

    by : (line_among n (e ∷ L) ≡ line_among n L) ⊎ ((line_among n (e ∷ L) ≡ e ∷ line_among n L) × (((e.call_no == n) ≡ true) ⊎ (is_about (exchanges (line_among n L)) e.call ≡ true))) → is_some (handed aim (exchanges (line_among n (e ∷ L)))) ≡ true
    by (inl same) = ap (λ line. is_some (handed aim (exchanges line))) same ∙ h
    by (inr x) = ap (λ line. is_some (handed aim (exchanges line))) x.0 ∙ more aim (step_of e.call) e.answer (exchanges (line_among n L)) h
