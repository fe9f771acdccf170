-- Proves that what a call on the database sends next may follow in its connection's journal, with each answer
-- that fits there. A Reset, a test and the driver calls of the body are separate cases.
use Rattle.std.proofs.Common.{◌≡◌, ℕ, true, List, [], refl, ◌∙◌}
use native.Mathlib.Omega.{arith}
use Rattle.dsql_history_work.specs.driver.declared.call.DriverCall.{DriverCall}
use Rattle.dsql_history_work.specs.driver.declared.call.DriverCall.TheVariants.{Reset, Valid, Ping, Prepare, Exec, Query, Next, CloseRows, CloseStmt}
use Rattle.dsql_history_work.specs.driver.declared.call.Input.TheVariants.{Text, Handle}
use Rattle.dsql_history_work.specs.driver.declared.answer.DriverAnswer.{DriverAnswer}
use Rattle.dsql_history_work.specs.journal.declared.entry.Entry.{Entry}
use Rattle.dsql_history_work.specs.journal.Readers.{of_tenure, cursors}
use Rattle.dsql_history_work.specs.journal.HandlesAndCursors.{fits_at_its_place}
use Rattle.dsql_history_work.specs.journal.Journal.{may_follow}
use Rattle.dsql_history_work.proofs.journal.PlainJournals.{is_whole_tenure-plain}
use Rattle.dsql_laws_work.proofs.CallLines.{Step, Start, WasReset, WasDone, step, goes, is_sent, Open, sent_entry}
use Rattle.dsql_laws_work.proofs.ServedCalls.{plain_of}
use Rattle.dsql_laws_work.proofs.CallSends.{Sends, follows, names_none}
use Rattle.dsql_laws_work.proofs.CallBodies.{follows-ping, follows-text, follows-query, follows-prepare, follows-run, follows-handle, follows-close, follows-next, follows-free}

-- If a Reset may come, the tenure is at its start.
first_reset : (s : Step) → goes s Reset ≡ true → s ≡ Start
first_reset Start h = refl
first_reset _ h = absurd cc

may_follow-reset : (c t n m : ℕ) (a : DriverAnswer) (J : List Entry) → Sends c t n Reset J → fits_at_its_place J (sent_entry c t n m Reset a) ≡ true
    → may_follow J (sent_entry c t n m Reset a) ≡ true
may_follow-reset c t n m a J s fits =
    let so = s.so_far in
    let new : of_tenure t J ≡ [] = so.first (first_reset (step (of_tenure t J)) s.next) in
    follows c t n m Reset a J s refl (rw new refl) refl (λ is. absurd (grind (arith, is))) (names_none c t n m Reset a J refl refl) fits

-- If the test may come, no cursor is live.
closed_at_valid : (t : ℕ) (s : Step) (J L : List Entry) → goes s Valid ≡ true → Open t s (cursors L) → cursors J ≡ cursors L → cursors J ≡ []
closed_at_valid t Start J L h is same = same ∙ is
closed_at_valid t WasReset J L h is same = same ∙ is
closed_at_valid t WasDone J L h is same = same ∙ is
closed_at_valid t _ J L h is same = absurd cc

may_follow-valid : (c t n m : ℕ) (a : DriverAnswer) (J : List Entry) → Sends c t n Valid J → fits_at_its_place J (sent_entry c t n m Valid a) ≡ true
    → may_follow J (sent_entry c t n m Valid a) ≡ true
may_follow-valid c t n m a J s fits =
    let so = s.so_far in
    let none : cursors J ≡ [] = closed_at_valid t (step (of_tenure t J)) J (of_tenure t J) s.next so.open_rows s.open_rows in
    follows c t n m Valid a J s refl refl (is_whole_tenure-plain c t J (plain_of c J s.served none)) (λ is. absurd (grind (arith, is)))
    (names_none c t n m Valid a J refl refl) fits

-- What such a call sends next may follow, with each answer that fits there.
pub may_follow-sent : (c t n m : ℕ) (q : DriverCall) (a : DriverAnswer) (J : List Entry) → Sends c t n q J → is_sent q ≡ true
    → fits_at_its_place J (sent_entry c t n m q a) ≡ true → may_follow J (sent_entry c t n m q a) ≡ true
may_follow-sent c t n m Reset a J s sent fits = may_follow-reset c t n m a J s fits
may_follow-sent c t n m Valid a J s sent fits = may_follow-valid c t n m a J s fits
may_follow-sent c t n m Ping a J s sent fits = follows-ping c t n m a J s fits
may_follow-sent c t n m (Exec (Text text) params) a J s sent fits = follows-text c t n m text params a J s fits
may_follow-sent c t n m (Exec (Handle handle) params) a J s sent fits = follows-run c t n m handle params a J s fits
may_follow-sent c t n m (Query (Text text) params) a J s sent fits = follows-query c t n m text params a J s fits
may_follow-sent c t n m (Query (Handle handle) params) a J s sent fits = follows-handle c t n m handle params a J s fits
may_follow-sent c t n m (Prepare text) a J s sent fits = follows-prepare c t n m text a J s fits
may_follow-sent c t n m (Next rows) a J s sent fits = follows-next c t n m rows a J s fits
may_follow-sent c t n m (CloseRows rows) a J s sent fits = follows-free c t n m rows a J s fits
may_follow-sent c t n m (CloseStmt handle) a J s sent fits = follows-close c t n m handle a J s fits
may_follow-sent c t n m _ a J s sent fits = absurd cc
