-- The recorded cursor and handle of a line are those that are open.
use Rattle.std.proofs.Common.{◌≡◌, ℕ, ℤ, ◌==◌, Bool, true, false, not, ◌&&◌, ◌||◌, cond, List, [], ◌∷◌, refl, sym, ap, subst, ◌∙◌, Option, None, Some, arith}
use Rattle.std.proofs.lemmas.Bool.Decides.{nat_tests}
use Rattle.std.specs.List.{list_any}
use Rattle.dsql_history.specs.driver.declared.answer.DriverAnswer.{DriverAnswer}
use Rattle.dsql_history.specs.driver.declared.answer.DriverAnswer.TheVariants as answers
use Rattle.dsql_history.specs.driver.declared.call.DriverCall.{DriverCall}
use Rattle.dsql_history.specs.driver.declared.call.DriverCall.TheVariants as calls
use Rattle.dsql_history.specs.driver.Kinds.{given_cursor, given_handle}
use Rattle.dsql_history.specs.course.declared.call.Due.{Due}
use Rattle.dsql_history.specs.course.Made.{Exchange, or_else, own_cursor, own_handle, given_cursor as cursor_given, given_handle as handle_given}
use Rattle.dsql_history.specs.journal.declared.entry.Entry.{Entry}
use Rattle.dsql_history.specs.journal.Kinds.{is_number}
use Rattle.dsql_history.specs.works.Exchanges.{exchanges, got_of, step_of, with_exchange}
use Rattle.dsql_engine_exchanged.specs.Exchanged.{exchanged_in, then_heard as then_exchanged}
use Rattle.dsql_history.specs.Readers.Lines.{closes_cursor, closes_handle, has_cursor, has_handle, is_about, is_of, is_of_line, line_among}
use Rattle.dsql_engine_exchanged.specs.declared.heard.HeardLine.{HeardLine}
use Rattle.dsql_engine_exchanged.specs.Heard.{heard_line, then_heard, heard_if, is_about_open, unless_closed, cursor_after, handle_after, is_cursor_unclosed, is_handle_unclosed, none_given_again}

same_number : (n m : ℕ) → (n == m) ≡ true → n ≡ m
same_number n m h = grind (arith, nat_tests)

same_itself : (n : ℕ) → (n == n) ≡ true
same_itself n = grind (arith, nat_tests)

both : (a b : Bool) → (a && b) ≡ true → (a ≡ true) × (b ≡ true)
both true b h = (refl, h)
both false b h = absurd cc

-- A number that isn't open stays so if more is closed.
fewer : (more own closed : Bool) → own && not closed ≡ false → own && not (more || closed) ≡ false
fewer true true closed h = refl
fewer true false closed h = refl
fewer false own closed h = h

-- The number that an answer gives is open, unless the driver call closes it.
given_kept : (given n : ℕ) (closes closed : ℕ → Bool) → not (closed given) ≡ true
    → is_number (cond (closes given) None (Some given)) n ≡ (given == n) && not (closes n || closed n)
given_kept given n closes closed unclosed = by (given == n) refl
  where
    at_itself : (c d : Bool) → not d ≡ true → is_number (cond c None (Some given)) given ≡ not (c || d)
    at_itself true d u = refl
    at_itself false d u = same_itself given ∙ sym u

    at_other : (c : Bool) → (given == n) ≡ false → is_number (cond c None (Some given)) n ≡ false
    at_other true other = refl
    at_other false other = other

    by : (same : Bool) → (given == n) ≡ same → is_number (cond (closes given) None (Some given)) n ≡ same && not (closes n || closed n)
    by true is =
        subst (λ m. is_number (cond (closes given) None (Some given)) m ≡ not (closes m || closed m)) (same_number given n is) (at_itself (closes given) (closed given) unclosed)
    by false is = at_other (closes given) is

-- A number that was open stays open, unless the driver call closes it.
open_kept : (kept n : ℕ) (closes : ℕ → Bool) (own closed : Bool) → (kept == n) ≡ own && not closed
    → is_number (cond (closes kept) None (Some kept)) n ≡ own && not (closes n || closed)
open_kept kept n closes own closed so = by (kept == n) refl
  where
    at_itself : (c o d : Bool) → o && not d ≡ true → is_number (cond c None (Some kept)) kept ≡ o && not (c || d)
    at_itself true true d h = refl
    at_itself true false d h = refl
    at_itself false o d h = same_itself kept ∙ sym h

    at_other : (c : Bool) → (kept == n) ≡ false → is_number (cond c None (Some kept)) n ≡ false
    at_other true other = refl
    at_other false other = other

    by : (same : Bool) → (kept == n) ≡ same → is_number (cond (closes kept) None (Some kept)) n ≡ own && not (closes n || closed)
    by true is =
        subst (λ m. is_number (cond (closes kept) None (Some kept)) m ≡ own && not (closes m || closed)) (same_number kept n is) (at_itself (closes kept) own closed (sym so ∙ is))
    by false is = at_other (closes kept) is ∙ sym (fewer (closes n) own closed (sym so ∙ is))

-- Is true if there is no number, or it isn't closed.
is_unclosed : Option ℕ → (ℕ → Bool) → Bool
is_unclosed None closed = true
is_unclosed (Some number) closed = not (closed number)

-- What is recorded after a driver call and its answer is what is open then.
kept : (given own live : Option ℕ) (closes closed : ℕ → Bool) → is_unclosed given closed ≡ true
    → ((n : ℕ) → is_number live n ≡ is_number own n && not (closed n))
    → (n : ℕ) → is_number (unless_closed closes (or_else given live)) n ≡ is_number (or_else given own) n && not (closes n || closed n)
unfolding is_unclosed
kept (Some given) own live closes closed unclosed so n = given_kept given n closes closed unclosed
kept None own None closes closed unclosed so n = sym (fewer (closes n) (is_number own n) (closed n) (sym (so n)))
kept None own (Some number) closes closed unclosed so n = open_kept number n closes (is_number own n) (closed n) (so n)

same_cursor : (answer : DriverAnswer) → given_cursor answer ≡ cursor_given (got_of answer)
same_cursor answers.Done = refl
same_cursor _ = refl

cursor_closed : List Exchange → ℕ → Bool
cursor_closed made rows = list_any (λ x. closes_cursor rows x.0) made

cursor_unclosed : (given : Option ℕ) (made : List Exchange) → is_cursor_unclosed given made ≡ is_unclosed given (cursor_closed made)
unfolding is_unclosed cursor_closed
cursor_unclosed None made = refl
cursor_unclosed (Some rows) made = refl

cursor_step : (step : Option Due) (answer : DriverAnswer) (made : List Exchange) (live : Option ℕ)
    → (none_given_again made ≡ true → (rows : ℕ) → is_number live rows ≡ has_cursor made rows)
    → none_given_again (with_exchange step answer made) ≡ true
    → (rows : ℕ) → is_number (cursor_after step answer live) rows ≡ has_cursor (with_exchange step answer made) rows
unfolding cursor_closed
cursor_step None answer made live so fresh rows = so fresh rows
cursor_step (Some call) answer made live so fresh rows =
    let given : Option ℕ = cursor_given (got_of answer) in
    let now = both (is_cursor_unclosed given made) (is_handle_unclosed (handle_given (got_of answer)) made && none_given_again made) fresh in
    let before = both (is_handle_unclosed (handle_given (got_of answer)) made) (none_given_again made) now.1 in
    ap (λ it. is_number (unless_closed (λ r. closes_cursor r call) (or_else it live)) rows) (same_cursor answer)
    ∙ kept given (own_cursor made) live (λ r. closes_cursor r call) (cursor_closed made) (sym (cursor_unclosed given made) ∙ now.0) (so before.1) rows

-- The recorded cursor is the one that is open.
pub open_cursor : (line : List Entry) → none_given_again (exchanges line) ≡ true → (rows : ℕ) → is_number (heard_line line).cursor rows ≡ has_cursor (exchanges line) rows
open_cursor [] fresh rows = refl
open_cursor (e ∷ earlier) fresh rows = cursor_step (step_of e.call) e.answer (exchanges earlier) (heard_line earlier).cursor (open_cursor earlier) fresh rows

-- Returns a handle without its number of inputs.
number : Option (ℕ × ℤ) → Option ℕ
number None = None
number (Some handle) = Some handle.0

same_handle : (answer : DriverAnswer) → given_handle answer ≡ number (handle_given (got_of answer))
unfolding number
same_handle answers.Done = refl
same_handle _ = refl

handle_closed : List Exchange → ℕ → Bool
handle_closed made handle = list_any (λ x. closes_handle handle x.0) made

handle_unclosed : (given : Option (ℕ × ℤ)) (made : List Exchange) → is_handle_unclosed given made ≡ is_unclosed (number given) (handle_closed made)
unfolding is_unclosed handle_closed number
handle_unclosed None made = refl
handle_unclosed (Some handle) made = refl

is_of_number : (own : Option (ℕ × ℤ)) (handle : ℕ) → is_of own handle ≡ is_number (number own) handle
unfolding number
is_of_number None handle = refl
is_of_number (Some own) handle = refl

either_number : (given own : Option (ℕ × ℤ)) (handle : ℕ) → is_number (or_else (number given) (number own)) handle ≡ is_of (or_else given own) handle
unfolding number
either_number None own handle = sym (is_of_number own handle)
either_number (Some given) own handle = refl

handle_step : (step : Option Due) (answer : DriverAnswer) (made : List Exchange) (live : Option ℕ)
    → (none_given_again made ≡ true → (handle : ℕ) → is_number live handle ≡ has_handle made handle)
    → none_given_again (with_exchange step answer made) ≡ true
    → (handle : ℕ) → is_number (handle_after step answer live) handle ≡ has_handle (with_exchange step answer made) handle
unfolding handle_closed
handle_step None answer made live so fresh handle = so fresh handle
handle_step (Some call) answer made live so fresh handle =
    let given : Option (ℕ × ℤ) = handle_given (got_of answer) in
    let now = both (is_cursor_unclosed (cursor_given (got_of answer)) made) (is_handle_unclosed given made && none_given_again made) fresh in
    let before = both (is_handle_unclosed given made) (none_given_again made) now.1 in
    let closes : ℕ → Bool = λ h. closes_handle h call in
    let was_so : (h : ℕ) → is_number live h ≡ is_number (number (own_handle made)) h && not (handle_closed made h) =
    λ h. so before.1 h ∙ ap (λ b. b && not (handle_closed made h)) (is_of_number (own_handle made) h) in
    ap (λ it. is_number (unless_closed closes (or_else it live)) handle) (same_handle answer)
    ∙ (kept (number given) (number (own_handle made)) live closes (handle_closed made) (sym (handle_unclosed given made) ∙ before.0) was_so handle
    ∙ ap (λ b. b && not (closes handle || handle_closed made handle)) (either_number given (own_handle made) handle))

-- The recorded handle is the one that is open.
pub open_handle : (line : List Entry) → none_given_again (exchanges line) ≡ true → (handle : ℕ) → is_number (heard_line line).handle handle ≡ has_handle (exchanges line) handle
open_handle [] fresh handle = refl
open_handle (e ∷ earlier) fresh handle = handle_step (step_of e.call) e.answer (exchanges earlier) (heard_line earlier).handle (open_handle earlier) fresh handle

about_open : (line : List Entry) → none_given_again (exchanges line) ≡ true → (call : DriverCall) → is_about_open (heard_line line) call ≡ is_about (exchanges line) call
about_open line fresh (calls.Next rows) = open_cursor line fresh rows
about_open line fresh (calls.CloseRows rows) = open_cursor line fresh rows
about_open line fresh (calls.CloseStmt handle) = open_handle line fresh handle
about_open line fresh _ = refl

-- An entry is recorded exactly if it belongs to the line.
pub line_heard : (n : ℕ) (e : Entry) (heard : List Entry) (old new : HeardLine) → new ≡ heard_if n e old
    → none_given_again (exchanges (line_among n heard)) ≡ true → old ≡ heard_line (line_among n heard) → new ≡ heard_line (line_among n (e ∷ heard))
line_heard n e heard old new step fresh is =
    step ∙ (ap (heard_if n e) is ∙ (ap (λ b. cond ((e.call_no == n) || b) (then_heard e (heard_line line)) (heard_line line)) (about_open line fresh e.call) ∙ by (is_of_line n e line)))
  where
    line : List Entry
    line = line_among n heard

    by : (b : Bool) → cond b (then_heard e (heard_line line)) (heard_line line) ≡ heard_line (cond b (e ∷ line) line)
    by true = refl
    by false = refl

-- What was heard in a line is what was exchanged there.
pub heard_exchanged : (line : List Entry) → (heard_line line).heard ≡ exchanged_in line
heard_exchanged [] = refl
heard_exchanged (e ∷ earlier) = ap (then_exchanged e) (heard_exchanged earlier)
