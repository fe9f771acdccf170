-- What an answer makes of a call in a transaction.
use Rattle.std.proofs.Common.{◌≡◌, ℕ, ℤ, ◌⊎◌, inl, inr, Bool, true, false, not, ◌&&◌, ◌||◌, List, [], ◌∷◌, length, Option, Some, None, is_some, refl, sym, ap, ◌∙◌, if◌then◌else◌}
use Rattle.std.specs.List.{list_all}
use Rattle.std.specs.Option.{option_map}
use Rattle.dsql_laws_calls.specs.value.declared.value.Param.{Param}
use Rattle.dsql_laws_calls.specs.driver.declared.answer.DriverAnswer.{DriverAnswer}
use Rattle.dsql_laws_calls.specs.driver.declared.call.DriverCall.{DriverCall}
use Rattle.dsql_laws_calls.specs.driver.declared.call.DriverCall.TheVariants as calls_of
use Rattle.dsql_laws_calls.specs.driver.declared.caps.Caps.{Caps}
use Rattle.dsql_laws_calls.specs.driver.Fits.{fits_of, is_memory}
use Rattle.dsql_laws_calls.specs.course.declared.call.Due.{Due}
use Rattle.dsql_laws_calls.specs.course.declared.call.Due.TheVariants as due
use Rattle.dsql_laws_calls.specs.course.declared.course.Course.TheVariants as courses
use Rattle.dsql_laws_calls.specs.course.declared.course.Wish.TheVariants as wishes
use Rattle.dsql_laws_calls.specs.course.Line.{when, wanted, or_then, first_wanted, steps_left}
use Rattle.dsql_laws_calls.specs.course.Made.{Exchange, went_bad, own_cursor, own_handle, was_skipped, rows_are_over}
use Rattle.dsql_laws_calls.specs.course.Rows.{no_more_wanted, closing_of, rows_next_if}
use Rattle.dsql_laws_calls.specs.course.Steps.{Step, RunText, PrepareText, RunHandle, FetchRow, CloseCursor, CloseHandle}
use Rattle.dsql_laws_calls.specs.works.declared.work.Aim.{Aim}
use Rattle.dsql_laws_calls.specs.works.declared.work.Aim.TheVariants as aims
use Rattle.dsql_laws_calls.specs.works.Exchanges.{step_of, got_of, with_exchange}
use Rattle.dsql_laws_calls.specs.works.Line.{sent_over, handed, body_with, body_after}
use Rattle.dsql_laws_calls.proofs.laws_work.MadeLines.{asking}
use Rattle.dsql_laws_calls.proofs.laws.Tests.{both}
use Rattle.dsql_laws_calls.specs.history.declared.reply.Reply.{Reply}
use Rattle.dsql_laws_calls.specs.history.declared.work.Scope.TheVariants.{Held}
use Rattle.dsql_laws_calls.specs.history.declared.work.Work.{Work}
use Rattle.dsql_laws_calls.specs.history.Readers.Lines.{is_about}
use Rattle.dsql_laws_calls.specs.history.Readers.Works.{scope, aim_of}
use Rattle.dsql_laws_calls.specs.history.Rules.Line.{is_due}
use Rattle.dsql_laws_calls.specs.history.Rules.Sent.{untested}
use Rattle.dsql_laws_replies.proofs.InnerAwaits.{Awaiting}
use Rattle.dsql_laws_replies.proofs.InnerOver.{Late, Over, is_tidy}
use Rattle.dsql_laws_replies.proofs.InnerDecides.{Outcome, inner_settles, inner_stays, on_tidy}
use Rattle.dsql_laws_replies.proofs.Inner.{unhanded}

-- A driver call that is about a cursor or a handle is followed by no run.
pub about_late : (made : List Exchange) (q : DriverCall) (a : DriverAnswer) → is_about made q ≡ true → Late (with_exchange (step_of q) a made)
about_late made (calls_of.Next r) a h = record { call = due.Next r; answer = got_of a; rest = made; is = refl; late = refl }
about_late made (calls_of.CloseRows r) a h = record { call = due.CloseRows r; answer = got_of a; rest = made; is = refl; late = refl }
about_late made (calls_of.CloseStmt r) a h = record { call = due.CloseStmt r; answer = got_of a; rest = made; is = refl; late = refl }
about_late made q a h = absurd cc

-- What closes rows that were handed out.

abbrev of_text : Step → Bool
of_text RunText = true
of_text PrepareText = true
of_text RunHandle = true
of_text FetchRow = true
of_text CloseCursor = true
of_text CloseHandle = true
of_text _ = false

close_rows : (b : Bool) (o : Option ℕ) (e : Due) → (if b then option_map (λ rows. due.CloseRows rows) o else None) ≡ Some e → is_tidy aims.HandOut e ≡ true
close_rows true (Some r) e h = let x : e ≡ due.CloseRows r = cc in rw x refl
close_rows b o e h = absurd cc

close_stmt : (b : Bool) (o : Option (ℕ × ℤ)) (e : Due) → (if b then option_map (λ (handle : ℕ × ℤ). due.CloseStmt handle.0) o else None) ≡ Some e → is_tidy aims.HandOut e ≡ true
close_stmt true (Some r) e h = let x : e ≡ due.CloseStmt r.0 = cc in rw x refl
close_stmt b o e h = absurd cc

closing_step : (can : Caps) (bad : Bool) (count : ℕ) (made : List Exchange) (s : Step) → of_text s ≡ true → (e : Due) → wanted courses.One can count (no_more_wanted bad) made s ≡ Some e → is_tidy aims.HandOut e ≡ true
closing_step can bad count made RunText h e k = by can.fast_query k
  where
    by : (b : Bool) → when (b && false) due.Text ≡ Some e → is_tidy aims.HandOut e ≡ true
    by true x = absurd cc
    by false x = absurd cc
closing_step can bad count made PrepareText h e k = by (not can.fast_query || was_skipped made) k
  where
    by : (b : Bool) → when (b && false) due.Prepare ≡ Some e → is_tidy aims.HandOut e ≡ true
    by true x = absurd cc
    by false x = absurd cc
closing_step can bad count made CloseCursor h e k = close_rows (not bad) (own_cursor made) e k
closing_step can bad count made CloseHandle h e k = close_stmt (not bad) (own_handle made) e k
closing_step can bad count made _ h e k = absurd cc

either_tidy : (o : Option Due) (d : Due) → ((e : Due) → o ≡ Some e → is_tidy aims.HandOut e ≡ true) → is_tidy aims.HandOut d ≡ true → is_tidy aims.HandOut (or_then o d) ≡ true
either_tidy None d first later = later
either_tidy (Some e) d first later = first e refl

closings : (can : Caps) (bad : Bool) (count : ℕ) (made : List Exchange) (ss : List Step) → list_all of_text ss ≡ true → is_tidy aims.HandOut (first_wanted courses.One can count (no_more_wanted bad) made ss) ≡ true
closings can bad count made [] h = refl
closings can bad count made (s ∷ ss) h =
    let b = both (of_text s) (list_all of_text ss) h in
    either_tidy (wanted courses.One can count (no_more_wanted bad) made s) (first_wanted courses.One can count (no_more_wanted bad) made ss) (closing_step can bad count made s b.0) (closings can bad count made ss b.1)

steps_of_text : (made : List Exchange) → list_all of_text (steps_left courses.One made) ≡ true
steps_of_text [] = refl
steps_of_text ((due.Text, g) ∷ rest) = refl
steps_of_text (_ ∷ rest) = refl

pub closing_tidy : (can : Caps) (bad : Bool) (count : ℕ) (made : List Exchange) → is_tidy aims.HandOut (closing_of courses.Query bad can count made) ≡ true
closing_tidy can bad count made = by (went_bad made)
  where
    by : (b : Bool) → is_tidy aims.HandOut (if b then due.Over else first_wanted courses.One can count (no_more_wanted bad) made (steps_left courses.One made)) ≡ true
    by true = refl
    by false = closings can bad count made (steps_left courses.One made) (steps_of_text made)

handing : (aim : Aim) (made : List Exchange) (rows : ℕ) → handed aim made ≡ Some rows → aim ≡ aims.HandOut
handing aims.HandOut made rows h = refl
handing _ made rows h = absurd cc

-- What the call's own answer makes of it, by the exchanges in its line.
pub own_outcome : (number : ℕ) (can : Caps) (bad : Bool) (text : List ℕ) (params : List Param) (it : Work) (k : ℕ) (made : List Exchange) (q : DriverCall) (a : DriverAnswer) (d : Option Reply) → scope it ≡ Held k
    → Awaiting can (aim_of it) (length params) made ⊎ ((is_some d ≡ true) × Over can (aim_of it) (length params) made)
    → is_due (body_after (untested can) bad (asking text params (aim_of it)) wishes.Nothing made) q ≡ true → fits_of q a ≡ true → is_memory a ≡ false → Outcome number can (length params) it q a d made
own_outcome number can bad text params it k made q a d s (inl w) h fit heard =
    inner_settles number can bad text params it k made q a d s w
    (ap (λ o. is_due (body_with (untested can) bad (asking text params (aim_of it)) wishes.Nothing made o) q) (sym (unhanded can (aim_of it) (length params) made w)) ∙ h) fit heard
own_outcome number can bad text params it k made q a d s (inr w) h fit heard = by (handed (aim_of it) made) refl h
  where
    close : Due
    close = closing_of courses.Query bad (untested can) (length params) made

    over : (rows : ℕ) (b : Bool) → aim_of it ≡ aims.HandOut → is_due (sent_over (untested can) (asking text params (aim_of it)) (rows_next_if b wishes.Nothing (closing_of courses.Query bad (untested can) (length params) made) rows)) q ≡ true
        → Outcome number can (length params) it q a d made
    over rows true aim x =
        on_tidy number can (length params) k text params it q a d made (closing_of courses.Query bad (untested can) (length params) made) s w.0 (ap (λ y. is_tidy y (closing_of courses.Query bad (untested can) (length params) made)) aim ∙ closing_tidy (untested can) bad (length params) made) x fit heard
    over rows false aim x = absurd cc

    by : (o : Option ℕ) → handed (aim_of it) made ≡ o → is_due (body_with (untested can) bad (asking text params (aim_of it)) wishes.Nothing made o) q ≡ true → Outcome number can (length params) it q a d made
    by None none x = inner_stays number can bad text params it k made q a d s w.0 w.1 x fit heard
    by (Some rows) some x = over rows (rows_are_over made) (handing (aim_of it) made rows some) x
