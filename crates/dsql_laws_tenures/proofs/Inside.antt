-- In a transaction that goes on, a driver call that is due may follow, and so may the end if nothing is left
-- open.
use Rattle.std.proofs.Common.{◌≡◌, ℕ, Bool, true, false, not, ◌==◌, ◌||◌, List, refl}
use Rattle.std.specs.List.{list_all}
use Rattle.dsql_history.specs.driver.declared.caps.Caps.{Caps}
use Rattle.dsql_history.specs.driver.declared.call.DriverCall.{DriverCall}
use Rattle.dsql_history.specs.driver.declared.call.DriverCall.TheVariants.{Prepare, Exec, Query, Next, CloseRows, CloseStmt, Commit, Rollback}
use Rattle.dsql_history.specs.driver.declared.call.Input.TheVariants.{Text, Handle}
use Rattle.dsql_history.specs.driver.Kinds.{is_ending}
use Rattle.dsql_history.specs.course.declared.course.Wish.{Wish}
use Rattle.dsql_history.specs.journal.declared.entry.Entry.{Entry}
use Rattle.dsql_history.specs.journal.Kinds.{◌⇒◌}
use Rattle.dsql_history.specs.journal.Readers.{of_tenure, cursors, went_bad}
use Rattle.dsql_history.specs.journal.HandlesAndCursors.{fits_at_its_place}
use Rattle.dsql_history.specs.journal.Journal.{may_follow}
use Rattle.dsql_history.specs.works.Line.{Asked}
use Rattle.dsql_history.specs.Readers.Lines.{line_among, has_cursor}
use Rattle.dsql_history.specs.Rules.Line.{is_due}
use Rattle.dsql_history.specs.Rules.Sent.{inner_after}
use Rattle.dsql_laws_tenures.specs.Tenures.{made_by, IsOfTransaction, GoesOn, IsIn}
use Rattle.dsql_laws_tenures.specs.Orderly.{asks_text, is_in_order, OpensOnce}
use Rattle.dsql_laws_tenures.proofs.Numbers.{impossible, or_later}
use Rattle.dsql_laws_tenures.proofs.CursorLines.{cursor_is_live}
use Rattle.dsql_laws_tenures.proofs.HandleLines.{handle_is_live}
use Rattle.dsql_laws_tenures.proofs.OwnLines.{none_is_live}
use Rattle.dsql_laws_tenures.proofs.Sends.{Sends, body_sends}
use Rattle.dsql_laws_tenures.proofs.Follows.{Owes, follows}
use Rattle.dsql_laws_tenures.proofs.Uses.{uses_none, uses_handle, uses_cursor}

either : (b : Bool) → b ⇒ true ≡ true
either true = refl
either false = refl

module _ (c k t m : ℕ) (J : List Entry) (e : Entry) (of : IsOfTransaction k t J) (s : IsIn c k t e) (fits : fits_at_its_place J e ≡ true) where
  -- What the call sends satisfies `Owes`.
  owes : (q : DriverCall) → e.call ≡ q → Sends (made_by m t J) (went_bad J) q → Owes J e
  owes (Exec (Text text) params) is had = record { kind = rw is refl; tidies = rw is (either (went_bad J)); ends = rw is refl; uses = uses_none J e (rw is refl) (rw is refl); fits = fits }
  owes (Query (Text text) params) is had = record { kind = rw is refl; tidies = rw is (either (went_bad J)); ends = rw is refl; uses = uses_none J e (rw is refl) (rw is refl); fits = fits }
  owes (Prepare text) is had = record { kind = rw is refl; tidies = rw is (either (went_bad J)); ends = rw is refl; uses = uses_none J e (rw is refl) (rw is refl); fits = fits }
  owes (Exec (Handle handle) params) is had =
      record { kind = rw is refl; tidies = rw is (either (went_bad J)); ends = rw is refl; uses = uses_handle c k t handle J e s (handle_is_live k t m handle J of had) (rw is refl) (rw is refl); fits = fits }
  owes (Query (Handle handle) params) is had =
      record { kind = rw is refl; tidies = rw is (either (went_bad J)); ends = rw is refl; uses = uses_handle c k t handle J e s (handle_is_live k t m handle J of had) (rw is refl) (rw is refl); fits = fits }
  owes (CloseStmt handle) is had =
      record { kind = rw is refl; tidies = rw had.1 refl; ends = rw is refl; uses = uses_handle c k t handle J e s (handle_is_live k t m handle J of had.0) (rw is refl) (rw is refl); fits = fits }
  owes (Next rows) is had =
      let one = cursor_is_live k t m rows J of had.0 in
      record { kind = rw is refl; tidies = rw is (either (went_bad J)); ends = rw is refl; uses = uses_cursor c k t rows (made_by m t J) J e s one (rw is refl) (rw is refl) (λ _. one.not_over had.1); fits = fits }
  owes (CloseRows rows) is had =
      let one = cursor_is_live k t m rows J of had.0 in
      record { kind = rw is refl; tidies = rw had.1 refl; ends = rw is refl; uses = uses_cursor c k t rows (made_by m t J) J e s one (rw is refl) (rw is refl) (λ fetched. absurd (impossible (rw is at fetched))); fits = fits }
  owes _ is had = absurd had

pub due_follows : (can : Caps) (asked : Asked) (wish : Wish) (c k t m : ℕ) (J : List Entry) (e : Entry) → GoesOn c k t J → IsIn c k t e → asks_text asked.aim ≡ true
    → is_in_order (made_by m t J) ≡ true → is_due (inner_after can (went_bad J) asked wish (line_among m (of_tenure t J))) e.call ≡ true → fits_at_its_place J e ≡ true → may_follow J e ≡ true
due_follows can asked wish c k t m J e g s text order due fits =
    let b = g.begun in
    follows c k t J e g s (owes c k t m J e b.tenure s fits e.call refl (body_sends can asked (went_bad J) wish (made_by m t J) e.call text order due))

-- The end of a transaction satisfies `Owes`, since it names nothing.
ending_owes : (J : List Entry) (e : Entry) (q : DriverCall) → e.call ≡ q → is_ending q ≡ true → went_bad J || list_all (λ x. not (x.tx == e.tx)) (cursors J) ≡ true → fits_at_its_place J e ≡ true → Owes J e
ending_owes J e Commit is h closed fits = record { kind = rw is refl; tidies = rw is (either (went_bad J)); ends = rw is closed; uses = uses_none J e (rw is refl) (rw is refl); fits = fits }
ending_owes J e Rollback is h closed fits = record { kind = rw is refl; tidies = rw is (either (went_bad J)); ends = rw is closed; uses = uses_none J e (rw is refl) (rw is refl); fits = fits }
ending_owes J e _ is h closed fits = absurd cc

pub ending_follows : (c k t : ℕ) (J : List Entry) (e : Entry) → GoesOn c k t J → IsIn c k t e → is_ending e.call ≡ true → OpensOnce t J → ((n rows : ℕ) → has_cursor (made_by n t J) rows ≡ false)
    → fits_at_its_place J e ≡ true → may_follow J e ≡ true
ending_follows c k t J e g s ending once none fits =
    let closed : list_all (λ x. not (x.tx == k)) (cursors J) ≡ true = none_is_live k t J g.begun once none in
    follows c k t J e g s (ending_owes J e e.call refl ending (or_later (went_bad J) (list_all (λ x. not (x.tx == e.tx)) (cursors J)) (rw s.tx closed)) fits)

pub ending_follows-bad : (c k t : ℕ) (J : List Entry) (e : Entry) → GoesOn c k t J → IsIn c k t e → is_ending e.call ≡ true → went_bad J ≡ true → fits_at_its_place J e ≡ true → may_follow J e ≡ true
ending_follows-bad c k t J e g s ending bad fits = follows c k t J e g s (ending_owes J e e.call refl ending (rw bad refl) fits)
