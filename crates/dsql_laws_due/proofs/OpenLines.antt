-- What is due over rows that were handed out and aren't over, and when a line has no rows that are over.
use Rattle.std.proofs.Common.{◌≡◌, ℕ, ◌⊎◌, inl, inr, Bool, true, false, ◌||◌, List, [], ◌∷◌, Option, Some, None, is_some, nat_lt, length, refl, sym, ap, ◌∙◌}
use Rattle.std.specs.List.{list_all}
use Rattle.dsql_laws_calls.specs.driver.declared.caps.Caps.{Caps}
use Rattle.dsql_laws_calls.specs.driver.declared.call.DriverCall.{DriverCall}
use Rattle.dsql_laws_calls.specs.driver.declared.call.DriverCall.TheVariants as calls
use Rattle.dsql_laws_calls.specs.driver.declared.call.Input.TheVariants.{Text, Handle}
use Rattle.dsql_laws_calls.specs.driver.declared.answer.DriverAnswer.{DriverAnswer}
use Rattle.dsql_laws_calls.specs.driver.declared.answer.DriverAnswer.TheVariants as answers
use Rattle.dsql_laws_calls.specs.driver.Fits.{fits_of}
use Rattle.dsql_laws_calls.specs.course.declared.course.Course.TheVariants as courses
use Rattle.dsql_laws_calls.specs.course.declared.course.Wish.{Wish}
use Rattle.dsql_laws_calls.specs.course.declared.course.Wish.TheVariants as wishes
use Rattle.dsql_laws_calls.specs.course.declared.call.Due.{Due}
use Rattle.dsql_laws_calls.specs.course.declared.call.Due.TheVariants as due
use Rattle.dsql_laws_calls.specs.course.declared.call.Got.{Got}
use Rattle.dsql_laws_calls.specs.course.Made.{Exchange, ends_rows, given_cursor, rows_are_over}
use Rattle.dsql_laws_calls.specs.course.Rows.{closing_of, rows_next_if}
use Rattle.dsql_laws_calls.specs.works.declared.work.Aim.{Aim}
use Rattle.dsql_laws_calls.specs.works.declared.work.Aim.TheVariants as aims
use Rattle.dsql_laws_calls.specs.works.Exchanges.{got_of, step_of}
use Rattle.dsql_laws_calls.specs.works.Line.{Asked, handed, sent_over, body_after, body_with}
use Rattle.dsql_laws_calls.proofs.laws.Tests.{both}
use Rattle.dsql_laws_tenures.specs.Orderly.{is_in_order, place}
use Rattle.dsql_laws_tenures.proofs.CallAnswers.{asking}

-- Returns what is due over rows that aren't over, given what is wanted of them.
abbrev pub over_rows : Wish → ℕ → Option DriverCall → Option DriverCall
over_rows wishes.Nothing rows close = None
over_rows wishes.Fetch rows close = Some (calls.Next rows)
over_rows wishes.Close rows close = close

sent_if : (can : Caps) (asked : Asked) (w : Wish) (close : Due) (rows : ℕ) (b : Bool) → b ≡ false → sent_over can asked (rows_next_if b w close rows) ≡ over_rows w rows (sent_over can asked (Some close))
sent_if can asked wishes.Nothing close rows b h = ap (λ x. sent_over can asked (rows_next_if x wishes.Nothing close rows)) h
sent_if can asked wishes.Fetch close rows b h = ap (λ x. sent_over can asked (rows_next_if x wishes.Fetch close rows)) h
sent_if can asked wishes.Close close rows b h = ap (λ x. sent_over can asked (rows_next_if x wishes.Close close rows)) h

-- After rows were handed out that aren't over, what is due is what `over_rows` gives.
pub open_inner : (can : Caps) (bad : Bool) (asked : Asked) (w : Wish) (made : List Exchange) (rows : ℕ) → handed asked.aim made ≡ Some rows → rows_are_over made ≡ false
    → body_after can bad asked w made ≡ over_rows w rows (sent_over can asked (Some (closing_of courses.Query bad can (length asked.params) made)))
open_inner can bad asked w made rows own on = by asked.aim own
  where
    by : (x : Aim) → handed x made ≡ Some rows → body_after can bad (asking asked.text asked.params x) w made ≡ over_rows w rows (sent_over can (asking asked.text asked.params x) (Some (closing_of courses.Query bad can (length asked.params) made)))
    by aims.HandOut is =
        ap (λ o. body_with can bad (asking asked.text asked.params aims.HandOut) w made o) is
        ∙ sent_if can (asking asked.text asked.params aims.HandOut) w (closing_of courses.Query bad can (length asked.params) made) rows (rows_are_over made) on
    by _ is = absurd cc

pub open_plain : (can : Caps) (asked : Asked) (w : Wish) (made : List Exchange) (rows : ℕ) → handed asked.aim made ≡ Some rows → rows_are_over made ≡ false
    → body_after can false asked w made ≡ over_rows w rows (sent_over can asked (Some (closing_of courses.Query false can (length asked.params) made)))
open_plain can asked w made rows own on = by asked.aim own
  where
    by : (x : Aim) → handed x made ≡ Some rows → body_after can false (asking asked.text asked.params x) w made ≡ over_rows w rows (sent_over can (asking asked.text asked.params x) (Some (closing_of courses.Query false can (length asked.params) made)))
    by aims.HandOut is =
        ap (λ o. body_with can false (asking asked.text asked.params aims.HandOut) w made o) is
        ∙ sent_if can (asking asked.text asked.params aims.HandOut) w (closing_of courses.Query false can (length asked.params) made) rows (rows_are_over made) on
    by _ is = absurd cc

-- Is true of a run of a text or of a handle.
abbrev pub is_run : Due → Bool
is_run due.Text = true
is_run (due.Handle handle) = true
is_run _ = false

-- Only the answer to such a run gives a cursor.
pub cursor_run : (q : DriverCall) (a : DriverAnswer) (d : Due) → fits_of q a ≡ true → is_some (given_cursor (got_of a)) ≡ true → step_of q ≡ Some d → is_run d ≡ true
cursor_run q a d fits given step = run q a fits given step
  where
    same : (x y : Due) → Some x ≡ Some y → is_run x ≡ true → is_run y ≡ true
    same x y h k = let it : x ≡ y = cc in ap is_run (sym it) ∙ k

    run : (p : DriverCall) (b : DriverAnswer) → fits_of p b ≡ true → is_some (given_cursor (got_of b)) ≡ true → step_of p ≡ Some d → is_run d ≡ true
    run (calls.Query (Text text) params) b f g s = same due.Text d s refl
    run (calls.Query (Handle handle) params) b f g s = same (due.Handle handle) d s refl
    run (calls.Exec (Text text) params) b f g s = same due.Text d s refl
    run (calls.Exec (Handle handle) params) b f g s = same (due.Handle handle) d s refl
    run (calls.Prepare text) (answers.Cursor rows columns) f g s = absurd cc
    run (calls.Prepare text) b f g s = absurd cc
    run (calls.Next rows) (answers.Cursor cursor columns) f g s = absurd cc
    run (calls.Next rows) b f g s = absurd cc
    run (calls.CloseRows rows) (answers.Cursor cursor columns) f g s = absurd cc
    run (calls.CloseRows rows) b f g s = absurd cc
    run (calls.CloseStmt handle) (answers.Cursor cursor columns) f g s = absurd cc
    run (calls.CloseStmt handle) b f g s = absurd cc
    run calls.Ping (answers.Cursor cursor columns) f g s = absurd cc
    run calls.Ping b f g s = absurd cc
    run p b f g s = absurd cc

low_open : (d : Due) (g : Got) (p : ℕ) → (p ≡ 1) ⊎ (p ≡ 3) → (nat_lt (place d) p || false) ≡ true → ends_rows (d, g) ≡ false
low_open (due.Next rows) g p (inl is) h = absurd (let k : (nat_lt 4 1 || false) ≡ true = ap (λ n. nat_lt 4 n || false) (sym is) ∙ h in cc)
low_open (due.Next rows) g p (inr is) h = absurd (let k : (nat_lt 4 3 || false) ≡ true = ap (λ n. nat_lt 4 n || false) (sym is) ∙ h in cc)
low_open (due.CloseRows rows) g p (inl is) h = absurd (let k : (nat_lt 5 1 || false) ≡ true = ap (λ n. nat_lt 5 n || false) (sym is) ∙ h in cc)
low_open (due.CloseRows rows) g p (inr is) h = absurd (let k : (nat_lt 5 3 || false) ≡ true = ap (λ n. nat_lt 5 n || false) (sym is) ∙ h in cc)
low_open _ g p which h = refl

lows_open : (p : ℕ) (made : List Exchange) → (p ≡ 1) ⊎ (p ≡ 3) → list_all (λ y. nat_lt (place y.0) p || false) made ≡ true → rows_are_over made ≡ false
lows_open p [] which h = refl
lows_open p (y ∷ made) which h =
    let b = both (nat_lt (place y.0) p || false) (list_all (λ x. nat_lt (place x.0) p || false) made) h in
    ap (λ x. x || rows_are_over made) (low_open y.0 y.1 p which b.0) ∙ lows_open p made which b.1

-- If a line in order has a run as its newest exchange, no rows are over in it.
pub run_open : (d : Due) (g : Got) (made : List Exchange) → is_run d ≡ true → is_in_order ((d, g) ∷ made) ≡ true → rows_are_over ((d, g) ∷ made) ≡ false
run_open due.Text g made r h = let b = both (is_in_order made) (list_all (λ y. nat_lt (place y.0) 1 || false) made) h in lows_open 1 made (inl refl) b.1
run_open (due.Handle handle) g made r h = let b = both (is_in_order made) (list_all (λ y. nat_lt (place y.0) 3 || false) made) h in lows_open 3 made (inr refl) b.1
run_open d g made r h = absurd cc
