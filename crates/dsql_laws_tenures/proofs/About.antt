-- A driver call that is due over rows that were handed out is about them. It is a fetch from their cursor, its close,
-- or the close of their handle.
use Rattle.std.proofs.Common.{◌≡◌, ℕ, ℤ, Bool, true, false, not, ◌&&◌, ◌||◌, if◌then◌else◌, List, [], ◌∷◌, length, Option, None, Some, refl, nat_lt}
use Rattle.std.specs.Prelude.{option_map}
use Rattle.std.specs.List.{list_all}
use Rattle.dsql_history.specs.driver.declared.caps.Caps.{Caps}
use Rattle.dsql_history.specs.driver.declared.call.DriverCall.{DriverCall}
use Rattle.dsql_history.specs.driver.declared.call.DriverCall.TheVariants.{Next, CloseRows, CloseStmt}
use Rattle.dsql_history.specs.course.declared.course.Course.TheVariants as courses
use Rattle.dsql_history.specs.course.declared.course.Wish.{Wish}
use Rattle.dsql_history.specs.course.declared.course.Wish.TheVariants as wishes
use Rattle.dsql_history.specs.course.declared.call.Due.{Due}
use Rattle.dsql_history.specs.course.declared.call.Due.TheVariants as due
use Rattle.dsql_history.specs.course.Steps.{Step, RunText, PrepareText, RunHandle, FetchRow, CloseCursor, CloseHandle, steps, step_of}
use Rattle.dsql_history.specs.course.Made.{Exchange, went_bad, own_handle, own_cursor, has_fast_way, was_skipped, rows_are_over}
use Rattle.dsql_history.specs.course.Line.{wanted, when, or_then, lets_handle_go, first_wanted, behind_call, steps_left, comes_next}
use Rattle.dsql_history.specs.course.Rows.{no_more_wanted, closing_of, rows_next_if, rows_next_of}
use Rattle.dsql_history.proofs.journal.Conjunctions.{parts2}
use Rattle.dsql_history.specs.works.declared.work.Aim.{Aim}
use Rattle.dsql_history.specs.works.declared.work.Aim.TheVariants as aims
use Rattle.dsql_history.specs.works.Line.{Asked, sent_as, sent_over, handed, body_after}
use Rattle.dsql_history.specs.Readers.Lines.{is_about}
use Rattle.dsql_history.specs.Rules.Line.{is_due}
use Rattle.dsql_history.specs.Rules.Sent.{untested}
use Rattle.dsql_laws_tenures.specs.Orderly.{is_in_order, place}
use Rattle.dsql_laws_tenures.proofs.Numbers.{impossible}
use Rattle.dsql_laws_tenures.proofs.Steps.{step_place, nothing_below, plain_when, all_left, left_behind}
use Rattle.dsql_laws_tenures.proofs.CallAnswers.{asking}
use Rattle.dsql_laws_tenures.proofs.Sends.{Sends, body_sends}

-- Is true of a close, and of nothing to send.
abbrev closes : Due → Bool
closes (due.CloseRows rows) = true
closes (due.CloseStmt handle) = true
closes due.Over = true
closes _ = false

no_when : (b : Bool) (call d : Due) → when (b && false) call ≡ Some d → closes d ≡ true
no_when true call d h = absurd cc
no_when false call d h = absurd cc

-- A course that is stopped only closes.
step_closes : (can : Caps) (args p : ℕ) (bad : Bool) (made : List Exchange) (s : Step) (d : Due) → nat_lt p (step_place s) ≡ true → wanted courses.One can args (no_more_wanted bad) made s ≡ Some d → closes d ≡ true
step_closes can args p bad made RunText d k is = no_when (has_fast_way courses.One can) due.Text d is
step_closes can args p bad made PrepareText d k is = no_when (true && (not (has_fast_way courses.One can) || was_skipped made)) due.Prepare d is
step_closes can args p bad made RunHandle d k is = absurd cc
step_closes can args p bad made FetchRow d k is = absurd cc
step_closes can args p bad made CloseCursor d k is = by_wants (true && not bad) is
  where
    by_own : (o : Option ℕ) → option_map (λ rows. due.CloseRows rows) o ≡ Some d → closes d ≡ true
    by_own None h = absurd cc
    by_own (Some r) h = plain_when (λ (x : Due). closes x ≡ true) true (due.CloseRows r) d refl h

    by_wants : (b : Bool) → (if b then option_map (λ rows. due.CloseRows rows) (own_cursor made) else None) ≡ Some d → closes d ≡ true
    by_wants true h = by_own (own_cursor made) h
    by_wants false h = absurd cc
step_closes can args p bad made CloseHandle d k is = by_wants (lets_handle_go courses.One (no_more_wanted bad) made && not bad) is
  where
    by_own : (o : Option (ℕ × ℤ)) → option_map (λ handle. due.CloseStmt handle.0) o ≡ Some d → closes d ≡ true
    by_own None h = absurd cc
    by_own (Some it) h = plain_when (λ (x : Due). closes x ≡ true) true (due.CloseStmt it.0) d refl h

    by_wants : (b : Bool) → (if b then option_map (λ handle. due.CloseStmt handle.0) (own_handle made) else None) ≡ Some d → closes d ≡ true
    by_wants true h = by_own (own_handle made) h
    by_wants false h = absurd cc
step_closes can args p bad made _ d k is = absurd (nothing_below p k)

first_closes : (can : Caps) (args p : ℕ) (bad : Bool) (made : List Exchange) (left : List Step) → list_all (λ s. nat_lt p (step_place s)) left ≡ true → closes (first_wanted courses.One can args (no_more_wanted bad) made left) ≡ true
first_closes can args p bad made [] k = refl
first_closes can args p bad made (s ∷ left) k =
    let q = parts2 (nat_lt p (step_place s)) (list_all (λ x. nat_lt p (step_place x)) left) k in
    by_wanted (wanted courses.One can args (no_more_wanted bad) made s) refl q.0 (first_closes can args p bad made left q.1)
  where
    by_wanted : (o : Option Due) → wanted courses.One can args (no_more_wanted bad) made s ≡ o → nat_lt p (step_place s) ≡ true → closes (first_wanted courses.One can args (no_more_wanted bad) made left) ≡ true
        → closes (or_then o (first_wanted courses.One can args (no_more_wanted bad) made left)) ≡ true
    by_wanted None is here rest = rest
    by_wanted (Some d) is here rest = step_closes can args p bad made s d here is

next_closes : (can : Caps) (args : ℕ) (bad : Bool) (made : List Exchange) → closes (comes_next courses.One can args (no_more_wanted bad) made) ≡ true
next_closes can args bad made = by_bad (went_bad made) (by_last made)
  where
    by_last : (xs : List Exchange) → closes (first_wanted courses.One can args (no_more_wanted bad) xs (steps_left courses.One xs)) ≡ true
    by_last [] = first_closes can args 0 bad [] (steps courses.One) (all_left courses.One tt)
    by_last (x ∷ xs) = first_closes can args (place x.0) bad (x ∷ xs) (behind_call (step_of x.0) (steps courses.One)) (left_behind courses.One x.0 tt)

    by_bad : (b : Bool) → closes (first_wanted courses.One can args (no_more_wanted bad) made (steps_left courses.One made)) ≡ true
        → closes (if b then due.Over else first_wanted courses.One can args (no_more_wanted bad) made (steps_left courses.One made)) ≡ true
    by_bad true h = refl
    by_bad false h = h

-- So the driver call that is sent for it is a close.
about_close : (can : Caps) (asked : Asked) (bad : Bool) (made : List Exchange) (d : Due) (q : DriverCall) → closes d ≡ true → is_due (sent_as (untested can) asked d) q ≡ true → Sends made bad q → is_about made q ≡ true
about_close can asked bad made (due.CloseRows rows) (CloseRows other) c h had = had.0
about_close can asked bad made (due.CloseRows rows) _ c h had = absurd (impossible h)
about_close can asked bad made (due.CloseStmt handle) (CloseStmt other) c h had = had.0
about_close can asked bad made (due.CloseStmt handle) _ c h had = absurd (impossible h)
about_close can asked bad made due.Over q c h had = absurd (impossible h)
about_close can asked bad made _ q c h had = absurd (impossible c)

about_next : (rows : ℕ) (bad : Bool) (made : List Exchange) (q : DriverCall) → is_due (Some (Next rows)) q ≡ true → Sends made bad q → is_about made q ≡ true
about_next rows bad made (Next other) h had = had.0
about_next rows bad made _ h had = absurd (impossible h)

about_due : (can : Caps) (asked : Asked) (args rows : ℕ) (bad : Bool) (wish : Wish) (made : List Exchange) (q : DriverCall)
    → is_due (sent_over (untested can) asked (rows_next_of courses.Query bad wish (untested can) args made rows)) q ≡ true → Sends made bad q → is_about made q ≡ true
about_due can asked args rows bad wish made q h had = by_over (rows_are_over made) wish h
  where
    by_over : (b : Bool) (w : Wish) → is_due (sent_over (untested can) asked (rows_next_if b w (closing_of courses.Query bad (untested can) args made) rows)) q ≡ true → is_about made q ≡ true
    by_over true w k = about_close can asked bad made (closing_of courses.Query bad (untested can) args made) q (next_closes (untested can) args bad made) k had
    by_over false wishes.Close k = about_close can asked bad made (closing_of courses.Query bad (untested can) args made) q (next_closes (untested can) args bad made) k had
    by_over false wishes.Fetch k = about_next rows bad made q k had
    by_over false wishes.Nothing k = absurd (impossible k)

pub handed_about : (can : Caps) (asked : Asked) (bad : Bool) (wish : Wish) (made : List Exchange) (rows : ℕ) (q : DriverCall) → handed asked.aim made ≡ Some rows → is_in_order made ≡ true
    → is_due (body_after (untested can) bad asked wish made) q ≡ true → is_about made q ≡ true
handed_about can asked bad wish made rows q own order h = by_aim asked.aim own h
  where
    by_aim : (x : Aim) → handed x made ≡ Some rows → is_due (body_after (untested can) bad (asking asked.text asked.params x) wish made) q ≡ true → is_about made q ≡ true
    by_aim aims.HandOut own k =
        about_due can (asking asked.text asked.params aims.HandOut) (length asked.params) rows bad wish made q (rw own at k) (body_sends can (asking asked.text asked.params aims.HandOut) bad wish made q refl order k)
    by_aim _ own k = absurd cc
