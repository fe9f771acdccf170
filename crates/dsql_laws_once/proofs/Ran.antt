-- What a call in a transaction sends, by the exchanges of its line. After a server may have carried out the
-- call's text, the call only fetches and closes.
use Rattle.std.proofs.Common.{◌≡◌, ℕ, ◌⊎◌, inl, inr, Bool, true, false, not, ◌&&◌, ◌||◌, List, [], ◌∷◌, length, Option, Some, None, refl, sym, ap, ◌∙◌}
use Rattle.dsql_laws_calls.specs.value.declared.value.Param.{Param}
use Rattle.dsql_laws_calls.specs.driver.declared.answer.DriverAnswer.{DriverAnswer}
use Rattle.dsql_laws_calls.specs.driver.declared.answer.DriverAnswer.TheVariants as answers
use Rattle.dsql_laws_calls.specs.driver.declared.call.DriverCall.{DriverCall}
use Rattle.dsql_laws_calls.specs.driver.declared.call.DriverCall.TheVariants as calls
use Rattle.dsql_laws_calls.specs.driver.declared.call.Input.TheVariants.{Text, Handle}
use Rattle.dsql_laws_calls.specs.driver.declared.caps.Caps.{Caps}
use Rattle.dsql_laws_calls.specs.driver.Fits.{fits_of, is_memory}
use Rattle.dsql_laws_calls.specs.driver.Kinds.{is_bad}
use Rattle.dsql_laws_calls.specs.course.declared.call.Due.{Due}
use Rattle.dsql_laws_calls.specs.course.declared.call.Due.TheVariants as due
use Rattle.dsql_laws_calls.specs.course.declared.call.Got.{Got}
use Rattle.dsql_laws_calls.specs.course.declared.call.Got.TheVariants as got
use Rattle.dsql_laws_calls.specs.course.declared.course.Course.TheVariants as courses
use Rattle.dsql_laws_calls.specs.course.declared.course.Wish.TheVariants as wishes
use Rattle.dsql_laws_calls.specs.course.Made.{Exchange, rows_are_over}
use Rattle.dsql_laws_calls.specs.course.Rows.{closing_of, rows_next_if}
use Rattle.dsql_laws_calls.specs.works.declared.work.Aim.{Aim}
use Rattle.dsql_laws_calls.specs.works.declared.work.Aim.TheVariants as aims
use Rattle.dsql_laws_calls.specs.works.Exchanges.{got_of, step_of, with_exchange}
use Rattle.dsql_laws_calls.specs.works.Line.{Asked, handed, sent_as, sent_over, body_after, body_with}
use Rattle.dsql_laws_calls.proofs.laws_work.MadeLines.{asking, has_text}
use Rattle.dsql_laws_calls.specs.history.declared.work.Scope.TheVariants.{Held}
use Rattle.dsql_laws_calls.specs.history.declared.work.Work.{Work}
use Rattle.dsql_laws_calls.specs.history.Readers.Works.{aim_of, scope}
use Rattle.dsql_laws_calls.specs.history.Rules.Line.{is_due}
use Rattle.dsql_laws_calls.specs.history.Rules.Sent.{untested}
use Rattle.dsql_laws_calls.proofs.Quiet.{next_inside}
use Rattle.dsql_laws_replies.proofs.InnerAwaits.{Awaiting, ByHandle, ByText, fourth_handle, fourth_text, text_of}
use Rattle.dsql_laws_replies.proofs.InnerDecides.{Outcome}
use Rattle.dsql_laws_replies.proofs.InnerHeard.{closing_tidy, own_outcome}
use Rattle.dsql_laws_replies.proofs.InnerOver.{Over, is_tidy, over_next}
use Rattle.dsql_laws_once.specs.Once.{is_statement, is_skip}

-- Holds if the call's text is still to come, or is over.
abbrev pub InLine : Caps → Aim → ℕ → List Exchange → Type 0
InLine can aim count made = Awaiting can aim count made ⊎ Over can aim count made

-- Holds if the call's text is over, except for a row that is still to be fetched.
abbrev pub Ran : Caps → Aim → ℕ → List Exchange → Type 0
Ran can aim count made = Over can aim count made ⊎ ((aim ≡ aims.ReadOne) × (ByText can made ⊎ ByHandle made))

-- Is true if the driver call fetches or closes.
abbrev pub tidies : DriverCall → Bool
tidies (calls.Next rows) = true
tidies (calls.CloseRows rows) = true
tidies (calls.CloseStmt handle) = true
tidies call = false

pub tidy_states : (q : DriverCall) → tidies q ≡ true → is_statement q ≡ false
tidy_states (calls.Next rows) h = refl
tidy_states (calls.CloseRows rows) h = refl
tidy_states (calls.CloseStmt handle) h = refl
tidy_states q h = absurd cc

-- After such a driver call the text is over.
pub tidy_over : (can : Caps) (aim : Aim) (count : ℕ) (made : List Exchange) (q : DriverCall) (a : DriverAnswer) → tidies q ≡ true → Over can aim count (with_exchange (step_of q) a made)
tidy_over can aim count made (calls.Next rows) a h = inl (record { call = due.Next rows; answer = got_of a; rest = made; is = refl; late = refl })
tidy_over can aim count made (calls.CloseRows rows) a h = inl (record { call = due.CloseRows rows; answer = got_of a; rest = made; is = refl; late = refl })
tidy_over can aim count made (calls.CloseStmt handle) a h = inl (record { call = due.CloseStmt handle; answer = got_of a; rest = made; is = refl; late = refl })
tidy_over can aim count made q a h = absurd cc

-- What is sent after the text is over.

abbrev ends : Due → Bool
ends (due.Next rows) = true
ends (due.CloseRows rows) = true
ends (due.CloseStmt handle) = true
ends due.Over = true
ends d = false

tidy_ends : (aim : Aim) (d : Due) → is_tidy aim d ≡ true → ends d ≡ true
tidy_ends aim (due.Next rows) t = refl
tidy_ends aim (due.CloseRows rows) t = refl
tidy_ends aim (due.CloseStmt handle) t = refl
tidy_ends aim due.Over t = refl
tidy_ends aims.Execute d t = absurd cc
tidy_ends _ d t = absurd cc

next_sent : (rows : ℕ) (q : DriverCall) → is_due (Some (calls.Next rows)) q ≡ true → tidies q ≡ true
next_sent rows (calls.Next other) h = refl
next_sent rows q h = absurd cc

rows_sent : (rows : ℕ) (q : DriverCall) → is_due (Some (calls.CloseRows rows)) q ≡ true → tidies q ≡ true
rows_sent rows (calls.CloseRows other) h = refl
rows_sent rows q h = absurd cc

stmt_sent : (handle : ℕ) (q : DriverCall) → is_due (Some (calls.CloseStmt handle)) q ≡ true → tidies q ≡ true
stmt_sent handle (calls.CloseStmt other) h = refl
stmt_sent handle q h = absurd cc

ends_sent : (can : Caps) (asked : Asked) (d : Due) (q : DriverCall) → ends d ≡ true → is_due (sent_as (untested can) asked d) q ≡ true → tidies q ≡ true
ends_sent can asked (due.Next rows) q e h = next_sent rows q h
ends_sent can asked (due.CloseRows rows) q e h = rows_sent rows q h
ends_sent can asked (due.CloseStmt handle) q e h = stmt_sent handle q h
ends_sent can asked due.Over q e h = absurd cc
ends_sent can asked d q e h = absurd cc

ran_next : (can : Caps) (bad : Bool) (text : List ℕ) (params : List Param) (aim : Aim) (made : List Exchange) → has_text aim ≡ true → Ran can aim (length params) made → is_tidy aim (next_inside can bad (asking text params aim) made) ≡ true
ran_next can bad text params aim made x (inl o) = over_next can bad text params aim made x o
ran_next can bad text params aim made x (inr (one, inl y)) = rw (one, y.is, fourth_text can bad text params y.rows y.fast) refl
ran_next can bad text params aim made x (inr (one, inr y)) = rw (one, y.is, fourth_handle can bad text params y.rows y.run y.handle y.inputs y.rest y.before) refl

pub ran_sends : (can : Caps) (bad : Bool) (text : List ℕ) (params : List Param) (it : Work) (k : ℕ) (made : List Exchange) (q : DriverCall) → scope it ≡ Held k → Ran can (aim_of it) (length params) made
    → is_due (body_after (untested can) bad (asking text params (aim_of it)) wishes.Nothing made) q ≡ true → tidies q ≡ true
ran_sends can bad text params it k made q s r h = by (handed (aim_of it) made) h
  where
    asked : Asked
    asked = asking text params (aim_of it)

    over : (b : Bool) (rows : ℕ) → is_due (sent_over (untested can) (asking text params (aim_of it)) (rows_next_if b wishes.Nothing (closing_of courses.Query bad (untested can) (length params) made) rows)) q ≡ true → tidies q ≡ true
    over true rows x =
        let close = closing_of courses.Query bad (untested can) (length params) made in
        ends_sent can asked close q (tidy_ends aims.HandOut close (closing_tidy (untested can) bad (length params) made)) x
    over false rows x = absurd cc

    by : (o : Option ℕ) → is_due (body_with (untested can) bad (asking text params (aim_of it)) wishes.Nothing made o) q ≡ true → tidies q ≡ true
    by None x = ends_sent can asked (next_inside can bad asked made) q (tidy_ends (aim_of it) (next_inside can bad asked made) (ran_next can bad text params (aim_of it) made (text_of it k s) r)) x
    by (Some rows) x = over (rows_are_over made) rows x

-- Answers to the call itself.

pub line_on : (can : Caps) (bad : Bool) (text : List ℕ) (params : List Param) (it : Work) (k : ℕ) (made : List Exchange) (q : DriverCall) (a : DriverAnswer) → scope it ≡ Held k → InLine can (aim_of it) (length params) made
    → is_due (body_after (untested can) bad (asking text params (aim_of it)) wishes.Nothing made) q ≡ true → fits_of q a ≡ true → is_memory a ≡ false → InLine can (aim_of it) (length params) (with_exchange (step_of q) a made)
line_on can bad text params it k made q a s (inr o) h fit heard = inr (tidy_over can (aim_of it) (length params) made q a (ran_sends can bad text params it k made q s (inl o) h))
line_on can bad text params it k made q a s (inl w) h fit heard = by (own_outcome 0 can bad text params it k made q a None s (inl w) h fit heard)
  where
    by : Outcome 0 can (length params) it q a None made → InLine can (aim_of it) (length params) (with_exchange (step_of q) a made)
    by (inl x) = inr x.1
    by (inr x) = inl x

-- If a server may have carried out the text, the text is over.

record Runs (q : DriverCall) : Type 0 where
  call : Due
  is : step_of q ≡ Some call
  unprepared : call ≡ due.Prepare → ⊥

runs : (q : DriverCall) → is_statement q ≡ true → Runs q
runs (calls.Exec (Text text) params) h = record { call = due.Text; is = refl; unprepared = λ wrong. cc }
runs (calls.Exec (Handle handle) params) h = record { call = due.Handle handle; is = refl; unprepared = λ wrong. cc }
runs (calls.Query (Text text) params) h = record { call = due.Text; is = refl; unprepared = λ wrong. cc }
runs (calls.Query (Handle handle) params) h = record { call = due.Handle handle; is = refl; unprepared = λ wrong. cc }
runs calls.Ping h = record { call = due.Ping; is = refl; unprepared = λ wrong. cc }
runs q h = absurd cc

skips : (a : DriverAnswer) → got_of a ≡ got.Skip → is_skip a ≡ true
skips answers.Skip h = refl
skips a h = absurd cc

abbrev newest_call : List Exchange → Due
newest_call [] = due.Over
newest_call (x ∷ made) = x.0

abbrev newest_answer : List Exchange → Got
newest_answer [] = got.Done
newest_answer (x ∷ made) = x.1

heard_out : (b c d : Bool) → (b && not (c || d)) ≡ true → d ≡ true → ⊥
heard_out true true d h k = cc
heard_out true false true h k = cc
heard_out true false false h k = cc
heard_out false c d h k = cc

statement_so : (b c : Bool) → (b && c) ≡ true → b ≡ true
statement_so true c h = refl
statement_so false c h = absurd cc

pub carried_ran : (can : Caps) (aim : Aim) (count : ℕ) (made : List Exchange) (q : DriverCall) (a : DriverAnswer) → (is_statement q && not (is_bad a || is_skip a)) ≡ true → InLine can aim count (with_exchange (step_of q) a made)
    → Ran can aim count (with_exchange (step_of q) a made)
carried_ran can aim count made q a h (inr o) = inl o
carried_ran can aim count made q a h (inl (inr (inr x))) = inr x
carried_ran can aim count made q a h (inl (inl fresh)) = absurd (by fresh)
  where
    r : Runs q
    r = runs q (statement_so (is_statement q) (not (is_bad a || is_skip a)) h)

    more : with_exchange (step_of q) a made ≡ (r.call, got_of a) ∷ made
    more = ap (λ o. with_exchange o a made) r.is

    by : (with_exchange (step_of q) a made ≡ []) ⊎ (with_exchange (step_of q) a made ≡ (due.Text, got.Skip) ∷ []) → ⊥
    by (inl none) = let wrong : (r.call, got_of a) ∷ made ≡ [] = sym more ∙ none in cc
    by (inr skipped) = heard_out (is_statement q) (is_bad a) (is_skip a) h (skips a (sym (ap newest_answer more) ∙ ap newest_answer skipped))
carried_ran can aim count made q a h (inl (inr (inl p))) = absurd (r.unprepared (sym (ap newest_call more) ∙ ap newest_call p.is))
  where
    r : Runs q
    r = runs q (statement_so (is_statement q) (not (is_bad a || is_skip a)) h)

    more : with_exchange (step_of q) a made ≡ (r.call, got_of a) ∷ made
    more = ap (λ o. with_exchange o a made) r.is
