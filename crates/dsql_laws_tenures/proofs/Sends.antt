-- What a call in a transaction sends next. Its line has what the driver call names.
use Rattle.std.proofs.Common.{◌≡◌, ℕ, Bool, true, false, ◌==◌, ◌&&◌, List, [], ◌∷◌, length, Option, None, Some, refl, subst}
use Rattle.std.specs.List.{list_any}
use Rattle.dsql_history.specs.value.declared.value.Param.{Param}
use Rattle.dsql_history.specs.driver.declared.caps.Caps.{Caps}
use Rattle.dsql_history.specs.driver.declared.call.DriverCall.{DriverCall}
use Rattle.dsql_history.specs.driver.declared.call.DriverCall.TheVariants.{Prepare, Exec, Query, Next, CloseRows, CloseStmt}
use Rattle.dsql_history.specs.driver.declared.call.Input.TheVariants.{Text, Handle}
use Rattle.dsql_history.specs.course.declared.course.Course.TheVariants as courses
use Rattle.dsql_history.specs.course.declared.course.Wish.{Wish}
use Rattle.dsql_history.specs.course.declared.course.Wish.TheVariants as wishes
use Rattle.dsql_history.specs.course.declared.call.Due.{Due}
use Rattle.dsql_history.specs.course.declared.call.Due.TheVariants as due
use Rattle.dsql_history.specs.course.declared.call.Got.{Got}
use Rattle.dsql_history.specs.course.Made.{Exchange, own_cursor, ends_rows, rows_are_over}
use Rattle.dsql_history.specs.course.Line.{comes_next}
use Rattle.dsql_history.specs.course.Rows.{no_more_wanted, closing_of, rows_next_if, rows_next_of}
use Rattle.dsql_history.specs.works.declared.work.Aim.{Aim}
use Rattle.dsql_history.specs.works.declared.work.Aim.TheVariants as aims
use Rattle.dsql_history.specs.works.Line.{Asked, sent_as, sent_over, found, body_with, body_after}
use Rattle.dsql_history.specs.works.Same.{same_params}
use Rattle.dsql_history.specs.Readers.Lines.{closes_cursor, has_cursor, has_handle}
use Rattle.dsql_history.specs.Rules.Line.{is_due}
use Rattle.dsql_history.specs.Rules.Sent.{untested}
use Rattle.dsql_laws_tenures.specs.Orderly.{is_in_order, asks_text}
use Rattle.dsql_laws_tenures.proofs.Numbers.{same_number, is_itself, impossible, neither}
use Rattle.dsql_laws_tenures.proofs.Steps.{Names, next_names}

-- If rows aren't over, their cursor isn't closed.
still_open : (r : ℕ) (made : List Exchange) → rows_are_over made ≡ false → list_any (λ x. closes_cursor r x.0) made ≡ false
still_open r [] h = refl
still_open r (x ∷ made) h =
    let both = neither (ends_rows x) (rows_are_over made) h in
    rw (not_closed x.0 x.1 both.0) (still_open r made both.1)
  where
    not_closed : (d : Due) (g : Got) → ends_rows (d, g) ≡ false → closes_cursor r d ≡ false
    not_closed (due.CloseRows rows) g k = absurd cc
    not_closed _ g k = refl

some_is : (P : Due → Type 0) (a d : Due) → P a → Some a ≡ Some d → P d
some_is P a d it is = let same : a ≡ d = cc in subst P same it

-- What is sent next over rows that were handed out names what the line has.
rows_names : (bad : Bool) (wish : Wish) (can : Caps) (args r : ℕ) (made : List Exchange) (d : Due) → own_cursor made ≡ Some r → is_in_order made ≡ true
    → rows_next_of courses.Query bad wish can args made r ≡ Some d → Names made bad d
rows_names bad wish can args r made d own order is = by_over (rows_are_over made) wish refl is
  where
    close : Names made bad (closing_of courses.Query bad can args made)
    close = next_names courses.One can args (no_more_wanted bad) made tt order

    by_over : (b : Bool) (w : Wish) → rows_are_over made ≡ b → rows_next_if b w (closing_of courses.Query bad can args made) r ≡ Some d → Names made bad d
    by_over true w over h = some_is (Names made bad) (closing_of courses.Query bad can args made) d close h
    by_over false wishes.Close over h = some_is (Names made bad) (closing_of courses.Query bad can args made) d close h
    by_over false wishes.Fetch over h = some_is (Names made bad) (due.Next r) d (rw (own, is_itself r, still_open r made over) refl, over) h
    by_over false wishes.Nothing over h = absurd cc

-- Holds if these exchanges have what the driver call names. On a connection that is known to be bad, the driver
-- call closes nothing.
abbrev pub Sends : List Exchange → Bool → DriverCall → Type 0
Sends made bad (Exec (Text text) params) = Unit {0}
Sends made bad (Exec (Handle handle) params) = has_handle made handle ≡ true
Sends made bad (Query (Text text) params) = Unit {0}
Sends made bad (Query (Handle handle) params) = has_handle made handle ≡ true
Sends made bad (Prepare text) = Unit {0}
Sends made bad (Next rows) = (has_cursor made rows ≡ true) × (rows_are_over made ≡ false)
Sends made bad (CloseRows rows) = (has_cursor made rows ≡ true) × (bad ≡ false)
Sends made bad (CloseStmt handle) = (has_handle made handle ≡ true) × (bad ≡ false)
Sends made bad _ = ⊥

first_of : (a b : Bool) → a && b ≡ true → a ≡ true
first_of true b h = refl
first_of false b h = absurd cc

abbrev asking : List ℕ → List Param → Aim → Asked
asking text params aim = record { text = text; params = params; aim = aim }

text_sends : (can : Caps) (text : List ℕ) (params : List Param) (aim : Aim) (made : List Exchange) (bad : Bool) (q : DriverCall) → is_due (sent_as (untested can) (asking text params aim) due.Text) q ≡ true → Sends made bad q
text_sends can text params aims.Execute made bad (Exec (Text other) others) h = tt
text_sends can text params aims.ReadOne made bad (Query (Text other) others) h = tt
text_sends can text params aims.HandOut made bad (Query (Text other) others) h = tt
text_sends can text params aims.Ping made bad (Query (Text other) others) h = tt
text_sends can text params _ made bad _ h = absurd cc

handle_is : (made : List Exchange) (handle other : ℕ) (b : Bool) → (handle == other) && b ≡ true → has_handle made handle ≡ true → has_handle made other ≡ true
handle_is made handle other b h had = let same : handle ≡ other = same_number handle other (first_of (handle == other) b h) in rw same at had

handle_sends : (can : Caps) (text : List ℕ) (params : List Param) (aim : Aim) (handle : ℕ) (made : List Exchange) (bad : Bool) (q : DriverCall)
    → is_due (sent_as (untested can) (asking text params aim) (due.Handle handle)) q ≡ true → has_handle made handle ≡ true → Sends made bad q
handle_sends can text params aims.Execute handle made bad (Exec (Handle other) others) h had = handle_is made handle other (same_params params others) h had
handle_sends can text params aims.ReadOne handle made bad (Query (Handle other) others) h had = handle_is made handle other (same_params params others) h had
handle_sends can text params aims.HandOut handle made bad (Query (Handle other) others) h had = handle_is made handle other (same_params params others) h had
handle_sends can text params aims.Ping handle made bad (Query (Handle other) others) h had = handle_is made handle other (same_params params others) h had
handle_sends can text params _ handle made bad _ h had = absurd cc

prepare_sends : (text : List ℕ) (made : List Exchange) (bad : Bool) (q : DriverCall) → is_due (Some (Prepare text)) q ≡ true → Sends made bad q
prepare_sends text made bad (Prepare other) h = tt
prepare_sends text made bad _ h = absurd cc

next_sends : (rows : ℕ) (made : List Exchange) (bad : Bool) (q : DriverCall) → is_due (Some (Next rows)) q ≡ true → Names made bad (due.Next rows) → Sends made bad q
next_sends rows made bad (Next other) h had = let same : rows ≡ other = same_number rows other h in rw same at had
next_sends rows made bad _ h had = absurd cc

close_sends : (rows : ℕ) (made : List Exchange) (bad : Bool) (q : DriverCall) → is_due (Some (CloseRows rows)) q ≡ true → Names made bad (due.CloseRows rows) → Sends made bad q
close_sends rows made bad (CloseRows other) h had = let same : rows ≡ other = same_number rows other h in rw same at had
close_sends rows made bad _ h had = absurd cc

free_sends : (handle : ℕ) (made : List Exchange) (bad : Bool) (q : DriverCall) → is_due (Some (CloseStmt handle)) q ≡ true → Names made bad (due.CloseStmt handle) → Sends made bad q
free_sends handle made bad (CloseStmt other) h had = let same : handle ≡ other = same_number handle other h in rw same at had
free_sends handle made bad _ h had = absurd cc

none_sends : (made : List Exchange) (bad : Bool) (q : DriverCall) → is_due None q ≡ true → Sends made bad q
none_sends made bad q h = absurd (impossible h)

call_sends : (can : Caps) (text : List ℕ) (params : List Param) (aim : Aim) (made : List Exchange) (bad : Bool) (d : Due) (q : DriverCall)
    → is_due (sent_as (untested can) (asking text params aim) d) q ≡ true → Names made bad d → Sends made bad q
call_sends can text params aim made bad due.Text q h had = text_sends can text params aim made bad q h
call_sends can text params aim made bad due.Prepare q h had = prepare_sends text made bad q h
call_sends can text params aim made bad (due.Handle handle) q h had = handle_sends can text params aim handle made bad q h had
call_sends can text params aim made bad (due.Next rows) q h had = next_sends rows made bad q h had
call_sends can text params aim made bad (due.CloseRows rows) q h had = close_sends rows made bad q h had
call_sends can text params aim made bad (due.CloseStmt handle) q h had = free_sends handle made bad q h had
call_sends can text params aim made bad due.Ping q h had = absurd had
call_sends can text params aim made bad _ q h had = none_sends made bad q h

handed_sends : (can : Caps) (text : List ℕ) (params : List Param) (bad : Bool) (wish : Wish) (made : List Exchange) (q : DriverCall) (o : Option ℕ) → own_cursor made ≡ o → is_in_order made ≡ true
    → is_due (body_with (untested can) bad (asking text params aims.HandOut) wish made o) q ≡ true → Sends made bad q
handed_sends can text params bad wish made q None own order h =
    call_sends can text params aims.HandOut made bad (comes_next courses.Query (untested can) (length params) (found bad) made) q h
    (next_names courses.Query (untested can) (length params) (found bad) made tt order)
handed_sends can text params bad wish made q (Some rows) own order h =
    by_due (rows_next_of courses.Query bad wish (untested can) (length params) made rows) refl h
  where
    by_due : (d : Option Due) → rows_next_of courses.Query bad wish (untested can) (length params) made rows ≡ d → is_due (sent_over (untested can) (asking text params aims.HandOut) d) q ≡ true → Sends made bad q
    by_due None is k = none_sends made bad q k
    by_due (Some d) is k = call_sends can text params aims.HandOut made bad d q k (rows_names bad wish (untested can) (length params) rows made d own order is)

pub body_sends : (can : Caps) (asked : Asked) (bad : Bool) (wish : Wish) (made : List Exchange) (q : DriverCall) → asks_text asked.aim ≡ true → is_in_order made ≡ true
    → is_due (body_after (untested can) bad asked wish made) q ≡ true → Sends made bad q
body_sends can asked bad wish made q it order h = by_aim asked.aim it h
  where
    by_aim : (x : Aim) → asks_text x ≡ true → is_due (body_after (untested can) bad (asking asked.text asked.params x) wish made) q ≡ true → Sends made bad q
    by_aim aims.Execute t k =
        call_sends can asked.text asked.params aims.Execute made bad (comes_next courses.Exec (untested can) (length asked.params) (found bad) made) q k
        (next_names courses.Exec (untested can) (length asked.params) (found bad) made tt order)
    by_aim aims.ReadOne t k =
        call_sends can asked.text asked.params aims.ReadOne made bad (comes_next courses.One (untested can) (length asked.params) (found bad) made) q k
        (next_names courses.One (untested can) (length asked.params) (found bad) made tt order)
    by_aim aims.HandOut t k = handed_sends can asked.text asked.params bad wish made q (own_cursor made) refl order k
    by_aim aims.Ping t k = absurd (impossible t)
