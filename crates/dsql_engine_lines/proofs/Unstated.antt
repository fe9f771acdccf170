-- What is sent over rows that were handed out carries no statement, whatever is wanted from them.
use Rattle.std.proofs.Common.{◌≡◌, ℕ, ℤ, Bool, true, false, not, ◌&&◌, ◌||◌, cond, List, [], ◌∷◌, length, Option, Some, None, is_some, refl, ap}
use Rattle.std.proofs.Math.Bool.{and-false}
use Rattle.std.specs.Prelude.{if◌then◌else◌, option_map}
use Rattle.dsql_laws_calls.specs.driver.declared.call.DriverCall.{DriverCall}
use Rattle.dsql_laws_calls.specs.driver.declared.caps.Caps.{Caps}
use Rattle.dsql_laws_calls.specs.driver.Kinds.{is_bad, is_valid}
use Rattle.dsql_laws_calls.specs.course.declared.call.Due.{Due}
use Rattle.dsql_laws_calls.specs.course.declared.call.Due.TheVariants as due
use Rattle.dsql_laws_calls.specs.course.declared.course.Course.TheVariants as courses
use Rattle.dsql_laws_calls.specs.course.declared.course.Wish.{Wish}
use Rattle.dsql_laws_calls.specs.course.declared.course.Wish.TheVariants as wishes
use Rattle.dsql_laws_calls.specs.course.Line.{first_wanted, or_then, steps_left, wanted, when}
use Rattle.dsql_laws_calls.specs.course.Made.{Exchange, own_cursor, own_handle, rows_are_over, was_skipped, went_bad}
use Rattle.dsql_laws_calls.specs.course.Rows.{no_more_wanted, closing_of, rows_next_if, rows_next_of}
use Rattle.dsql_laws_calls.specs.course.Steps.{Step, RunText, PrepareText, CloseCursor, CloseHandle, PingIt, UndoIt}
use Rattle.dsql_laws_calls.specs.journal.declared.entry.Entry.{Entry}
use Rattle.dsql_laws_calls.specs.works.declared.work.Aim.{Aim}
use Rattle.dsql_laws_calls.specs.works.declared.work.Aim.TheVariants.{Execute}
use Rattle.dsql_laws_calls.specs.works.Exchanges.{exchanges}
use Rattle.dsql_laws_calls.specs.works.Line.{Asked, handed, line_after, sent_as, sent_over, test_of, body_with, body_after}
use Rattle.dsql_engine_exchanged.specs.Filled.{carries_statement}

-- Steps of a course that carry no statement.

abbrev is_bare : Due → Bool
is_bare due.Text = false
is_bare due.Prepare = false
is_bare (due.Handle handle) = false
is_bare call = true

abbrev is_bare_if_any : Option Due → Bool
is_bare_if_any None = true
is_bare_if_any (Some call) = is_bare call

-- A course that only tidies up runs nothing.

when_bare : (b : Bool) (call : Due) → is_bare call ≡ true → is_bare_if_any (when b call) ≡ true
when_bare true call h = h
when_bare false call h = refl

cursor_bare : (b : Bool) (own : Option ℕ) → is_bare_if_any (if b then option_map (λ rows. due.CloseRows rows) own else None) ≡ true
cursor_bare true None = refl
cursor_bare true (Some rows) = refl
cursor_bare false own = refl

handle_bare : (b : Bool) (own : Option (ℕ × ℤ)) → is_bare_if_any (if b then option_map (λ handle. due.CloseStmt handle.0) own else None) ≡ true
handle_bare true None = refl
handle_bare true (Some handle) = refl
handle_bare false own = refl

wanted_bare : (can : Caps) (args : ℕ) (bad : Bool) (made : List Exchange) (step : Step) → is_bare_if_any (wanted courses.One can args (no_more_wanted bad) made step) ≡ true
wanted_bare can args bad made RunText = ap (λ b. is_bare_if_any (when b due.Text)) (and-false can.fast_query)
wanted_bare can args bad made PrepareText = ap (λ b. is_bare_if_any (when b due.Prepare)) (and-false (not can.fast_query || was_skipped made))
wanted_bare can args bad made CloseCursor = cursor_bare (not bad) (own_cursor made)
wanted_bare can args bad made CloseHandle = handle_bare (not bad) (own_handle made)
wanted_bare can args bad made PingIt = when_bare (can.pinger && false) due.Ping refl
wanted_bare can args bad made UndoIt = when_bare _ due.Rollback refl
wanted_bare can args bad made _ = refl

either_bare : (one : Option Due) (other : Due) → is_bare_if_any one ≡ true → is_bare other ≡ true → is_bare (or_then one other) ≡ true
either_bare None other h k = k
either_bare (Some call) other h k = h

first_bare : (can : Caps) (args : ℕ) (bad : Bool) (made : List Exchange) (steps : List Step) → is_bare (first_wanted courses.One can args (no_more_wanted bad) made steps) ≡ true
first_bare can args bad made [] = refl
first_bare can args bad made (step ∷ later) =
    either_bare (wanted courses.One can args (no_more_wanted bad) made step) (first_wanted courses.One can args (no_more_wanted bad) made later) (wanted_bare can args bad made step) (first_bare can args bad made later)

closing_bare : (can : Caps) (args : ℕ) (bad : Bool) (made : List Exchange) → is_bare (closing_of courses.Query bad can args made) ≡ true
closing_bare can args bad made = by (went_bad made) (first_bare can args bad made (steps_left courses.One made))
  where
    by : (b : Bool) → is_bare (first_wanted courses.One can args (no_more_wanted bad) made (steps_left courses.One made)) ≡ true
        → is_bare (if b then due.Over else first_wanted courses.One can args (no_more_wanted bad) made (steps_left courses.One made)) ≡ true
    by true h = refl
    by false h = h

rows_bare : (over : Bool) (wish : Wish) (close : Due) (rows : ℕ) → is_bare close ≡ true → is_bare_if_any (rows_next_if over wish close rows) ≡ true
rows_bare true wish close rows h = h
rows_bare false wishes.Close close rows h = h
rows_bare false wishes.Fetch close rows h = refl
rows_bare false wishes.Nothing close rows h = refl

-- A driver call, if there is one, that carries no statement.

abbrev pub is_unstated : Option DriverCall → Bool
is_unstated None = true
is_unstated (Some call) = not (carries_statement call)

pub unstated_either : (b : Bool) (c d : Option DriverCall) → is_unstated c ≡ true → is_unstated d ≡ true → is_unstated (cond b c d) ≡ true
unstated_either true c d h k = h
unstated_either false c d h k = k

pub test_unstated : (can : Caps) → is_unstated (test_of can) ≡ true
test_unstated can = elim can.validator as (λ b. is_unstated (test_of (record can { validator = b })) ≡ true) [ true ↦ refl | false ↦ refl ]

sent_unstated : (can : Caps) (asked : Asked) (call : Due) → is_bare call ≡ true → is_unstated (sent_as can asked call) ≡ true
sent_unstated can asked due.Text h = absurd cc
sent_unstated can asked due.Prepare h = absurd cc
sent_unstated can asked (due.Handle handle) h = absurd cc
sent_unstated can asked due.Begin h = test_unstated can
sent_unstated can asked due.Rollback h = test_unstated can
sent_unstated can asked due.Over h = test_unstated can
sent_unstated can asked _ h = refl

over_unstated : (can : Caps) (asked : Asked) (call : Option Due) → is_bare_if_any call ≡ true → is_unstated (sent_over can asked call) ≡ true
over_unstated can asked None h = refl
over_unstated can asked (Some call) h = sent_unstated can asked call h

next_unstated : (can : Caps) (bad : Bool) (asked : Asked) (wish : Wish) (made : List Exchange) (rows : ℕ) → is_unstated (sent_over can asked (rows_next_of courses.Query bad wish can (length asked.params) made rows)) ≡ true
next_unstated can bad asked wish made rows =
    over_unstated can asked (rows_next_of courses.Query bad wish can (length asked.params) made rows)
    (rows_bare (rows_are_over made) wish (closing_of courses.Query bad can (length asked.params) made) rows (closing_bare can (length asked.params) bad made))

-- In a transaction, what is sent over rows carries no statement.
pub inner_unstated : (can : Caps) (bad : Bool) (asked : Asked) (wish : Wish) (made : List Exchange) (rows : Option ℕ) → is_some rows ≡ true → is_unstated (body_with can bad asked wish made rows) ≡ true
inner_unstated can bad asked wish made (Some rows) h = next_unstated can bad asked wish made rows
inner_unstated can bad asked wish made None h = absurd cc

-- On the database, what is sent over rows carries no statement.
body_unstated : (can : Caps) (asked : Asked) (wish : Wish) (made : List Exchange) (rows : Option ℕ) → is_some rows ≡ true → is_unstated (body_with can false asked wish made rows) ≡ true
body_unstated can asked wish made (Some rows) h = next_unstated can false asked wish made rows
body_unstated can asked wish made None h = absurd cc

nothing_handed : (asked : Asked) → is_some (handed asked.aim []) ≡ true → ⊥
nothing_handed asked h = by asked.aim h
  where
    by : (aim : Aim) → is_some (handed aim []) ≡ true → ⊥
    by Execute k = cc
    by _ k = cc

pub line_unstated : (can : Caps) (reset_due : Bool) (asked : Asked) (wish : Wish) (line : List Entry) → is_some (handed asked.aim (exchanges line)) ≡ true → is_unstated (line_after can reset_due asked wish line) ≡ true
line_unstated can reset_due asked wish [] h = absurd (nothing_handed asked h)
line_unstated can reset_due asked wish (e ∷ earlier) h =
    let made = exchanges (e ∷ earlier) in
    unstated_either (is_bad e.answer || is_valid e.call) None (body_after can false asked wish made) refl (body_unstated can asked wish made (handed asked.aim made) h)
