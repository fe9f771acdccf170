-- If a call in a transaction has nothing more to send and hands no rows out, this stays so, whatever is heard
-- for other calls.
use Rattle.std.proofs.Common.{◌≡◌, ℕ, ◌==◌, Bool, true, false, not, ◌&&◌, ◌||◌, List, ◌∷◌, Some, None, is_some, length, refl, sym, ap, subst, ◌∙◌, if◌then◌else◌}
use Rattle.std.specs.List.{list_any}
use Rattle.dsql_laws.specs.value.declared.value.Param.{Param}
use Rattle.dsql_laws.specs.driver.declared.caps.Caps.{Caps}
use Rattle.dsql_laws.specs.driver.declared.call.DriverCall.{DriverCall}
use Rattle.dsql_laws.specs.driver.declared.call.DriverCall.TheVariants as calls
use Rattle.dsql_laws.specs.driver.declared.call.Input.{Input}
use Rattle.dsql_laws.specs.driver.declared.call.Input.TheVariants.{Text, Handle}
use Rattle.dsql_laws.specs.driver.declared.answer.DriverAnswer.{DriverAnswer}
use Rattle.dsql_laws.specs.driver.declared.answer.DriverAnswer.TheVariants as answers
use Rattle.dsql_laws.specs.driver.Fits.{fits_of}
use Rattle.dsql_laws.specs.course.declared.course.Course.TheVariants as courses
use Rattle.dsql_laws.specs.course.declared.call.Due.{Due}
use Rattle.dsql_laws.specs.course.declared.call.Got.{Got}
use Rattle.dsql_laws.specs.course.declared.call.Due.TheVariants as due
use Rattle.dsql_laws.specs.course.declared.course.Wish.{Wish}
use Rattle.dsql_laws.specs.course.Made.{Exchange, went_bad, own_cursor, given_cursor, or_else}
use Rattle.dsql_laws.specs.course.Line.{first_wanted, comes_next, steps_left}
use Rattle.dsql_laws.specs.journal.declared.entry.Entry.{Entry}
use Rattle.dsql_laws.specs.journal.Kinds.{is_number}
use Rattle.dsql_laws.specs.works.declared.work.Aim.{Aim}
use Rattle.dsql_laws.specs.works.declared.work.Aim.TheVariants as aims
use Rattle.dsql_laws.specs.works.Exchanges.{step_of, got_of, with_exchange, exchanges}
use Rattle.dsql_laws.specs.works.Line.{Asked, course_of, run_for, sent_as, handed, found, body_with}
use Rattle.dsql_laws.proofs.Tests.{same_number, same_itself}
use Rattle.dsql_laws.specs.history.Readers.Lines.{closes_cursor, has_cursor, is_about}
use Rattle.dsql_laws.specs.history.Rules.Sent.{untested, inner_after}
use Rattle.dsql_laws.specs.history.Rules.Line.{is_due}
use Rattle.dsql_laws_calls.proofs.InnerLines.{sends, bad_sends, NoCursor, Ordered, OneDue, one_due, ended_cursor, clash}

-- Returns the step that comes next in the call's course.
abbrev pub next_inside : Caps → Bool → Asked → List Exchange → Due
next_inside can bad asked made = comes_next (course_of asked.aim) (untested can) (length asked.params) (found bad) made

-- A call that handed out no rows sends the next step of its course.
pub inner_is : (can : Caps) (bad : Bool) (asked : Asked) (w : Wish) (L : List Entry) → handed asked.aim (exchanges L) ≡ None → inner_after can bad asked w L ≡ sent_as (untested can) asked (next_inside can bad asked (exchanges L))
inner_is can bad asked w L none = ap (λ o. body_with (untested can) bad asked w (exchanges L) o) none

-- Holds if the call has nothing more to send, for good.
pub record Quiet (can : Caps) (bad : Bool) (asked : Asked) (made : List Exchange) : Type 0 where
  pub unhanded : handed asked.aim made ≡ None
  pub none : sends can asked (next_inside can bad asked made) ≡ false
  pub closed : asked.aim ≡ aims.ReadOne → bad ≡ false → NoCursor made

pub quiet_sends_none : (can : Caps) (bad : Bool) (asked : Asked) (w : Wish) (L : List Entry) → Quiet can bad asked (exchanges L) → is_some (inner_after can bad asked w L) ≡ false
quiet_sends_none can bad asked w L q = ap (λ d. is_some d) (inner_is can bad asked w L q.unhanded) ∙ q.none

-- This stays so if the call's connection turns out to be bad.

pub quiet_bad : (can : Caps) (bad worse : Bool) (asked : Asked) (made : List Exchange) → (bad ≡ true → worse ≡ true) → Quiet can bad asked made → Quiet can worse asked made
quiet_bad can true true asked made more q = q
quiet_bad can true false asked made more q = let k = more refl in absurd cc
quiet_bad can false false asked made more q = q
quiet_bad can false true asked made more q = record {
  unhanded = q.unhanded;
  none = by (went_bad made) q.none;
  closed = λ aim good. absurd cc;
}
  where
    worse_none : (b : Bool) → sends can asked (first_wanted (course_of asked.aim) (untested can) (length asked.params) (found true) made (steps_left (course_of asked.aim) made)) ≡ b
        → sends can asked (first_wanted (course_of asked.aim) (untested can) (length asked.params) (found false) made (steps_left (course_of asked.aim) made)) ≡ false → b ≡ false
    worse_none true is h = clash (sym (bad_sends can (untested can) asked (course_of asked.aim) (length asked.params) made (steps_left (course_of asked.aim) made) is) ∙ h)
    worse_none false is h = refl

    by : (b : Bool) → sends can asked (if b then due.Over else first_wanted (course_of asked.aim) (untested can) (length asked.params) (found false) made (steps_left (course_of asked.aim) made)) ≡ false
        → sends can asked (if b then due.Over else first_wanted (course_of asked.aim) (untested can) (length asked.params) (found true) made (steps_left (course_of asked.aim) made)) ≡ false
    by true h = refl
    by false h = worse_none (sends can asked (first_wanted (course_of asked.aim) (untested can) (length asked.params) (found true) made (steps_left (course_of asked.aim) made))) refl h

-- This stays so if other calls fetch its rows, close them, or close its handle.

pub next_gives : (r : ℕ) (a : DriverAnswer) → fits_of (calls.Next r) a ≡ true → given_cursor (got_of a) ≡ None
next_gives r (answers.Cursor rows columns) h = absurd cc
next_gives r a h = refl

pub rows_give : (r : ℕ) (a : DriverAnswer) → fits_of (calls.CloseRows r) a ≡ true → given_cursor (got_of a) ≡ None
rows_give r (answers.Cursor rows columns) h = absurd cc
rows_give r a h = refl

pub stmt_gives : (r : ℕ) (a : DriverAnswer) → fits_of (calls.CloseStmt r) a ≡ true → given_cursor (got_of a) ≡ None
stmt_gives r (answers.Cursor rows columns) h = absurd cc
stmt_gives r a h = refl

still_unhanded : (aim : Aim) (x : Exchange) (made : List Exchange) → given_cursor x.1 ≡ None → handed aim made ≡ None → handed aim (x ∷ made) ≡ None
still_unhanded aims.HandOut x made none h = ap (λ o. or_else o (own_cursor made)) none ∙ h
still_unhanded _ x made none h = refl

-- If no later step of the course is sent, nothing comes next after such a driver call.
behind_none : (can : Caps) (bad : Bool) (asked : Asked) (x : Exchange) (made : List Exchange)
    → sends can asked (first_wanted (course_of asked.aim) (untested can) (length asked.params) (found bad) (x ∷ made) (steps_left (course_of asked.aim) (x ∷ made))) ≡ false
    → sends can asked (next_inside can bad asked (x ∷ made)) ≡ false
behind_none can bad asked x made h = by (went_bad (x ∷ made))
  where
    by : (b : Bool) → sends can asked (if b then due.Over else first_wanted (course_of asked.aim) (untested can) (length asked.params) (found bad) (x ∷ made) (steps_left (course_of asked.aim) (x ∷ made))) ≡ false
    by true = refl
    by false = h

-- Holds if the driver call is about the cursor or the handle of the line.
abbrev Touches : List Exchange → Due → Type 0
Touches made (due.Next rows) = has_cursor made rows ≡ true
Touches made (due.CloseRows rows) = has_cursor made rows ≡ true
Touches made (due.CloseStmt handle) = Unit {0}
Touches made d = ⊥

touched_none : (can : Caps) (bad : Bool) (text : List ℕ) (params : List Param) (aim : Aim) (d : Due) (a : Got) (made : List Exchange)
    → Touches made d → (aim ≡ aims.ReadOne → bad ≡ false → NoCursor made)
    → sends can (record { text = text; params = params; aim = aim }) (first_wanted (course_of aim) (untested can) (length params) (found bad) ((d, a) ∷ made) (steps_left (course_of aim) ((d, a) ∷ made))) ≡ false
touched_none can bad text params aims.Execute (due.Next rows) a made t closed = refl
touched_none can bad text params aims.Execute (due.CloseRows rows) a made t closed = refl
touched_none can bad text params aims.Execute (due.CloseStmt handle) a made t closed = refl
touched_none can bad text params aims.HandOut (due.Next rows) a made t closed = refl
touched_none can bad text params aims.HandOut (due.CloseRows rows) a made t closed = refl
touched_none can bad text params aims.HandOut (due.CloseStmt handle) a made t closed = refl
touched_none can bad text params aims.Ping (due.Next rows) a made t closed = refl
touched_none can bad text params aims.Ping (due.CloseRows rows) a made t closed = refl
touched_none can bad text params aims.Ping (due.CloseStmt handle) a made t closed = refl
touched_none can true text params aims.ReadOne (due.Next rows) a made t closed = refl
touched_none can true text params aims.ReadOne (due.CloseRows rows) a made t closed = refl
touched_none can false text params aims.ReadOne (due.Next rows) a made t closed = clash (sym t ∙ closed refl refl rows)
touched_none can false text params aims.ReadOne (due.CloseRows rows) a made t closed = clash (sym t ∙ closed refl refl rows)
touched_none can bad text params aims.ReadOne (due.CloseStmt handle) a made t closed = refl
touched_none can bad text params aim d a made t closed = absurd t

still_closed : (bad : Bool) (aim : Aim) (d : Due) (a : Got) (made : List Exchange) → Touches made d → given_cursor a ≡ None → (aim ≡ aims.ReadOne → bad ≡ false → NoCursor made)
    → aim ≡ aims.ReadOne → bad ≡ false → NoCursor ((d, a) ∷ made)
still_closed bad aim (due.Next rows) a made t none closed reads good r = clash (sym t ∙ closed reads good rows)
still_closed bad aim (due.CloseRows rows) a made t none closed reads good r = clash (sym t ∙ closed reads good rows)
still_closed bad aim (due.CloseStmt handle) a made t none closed reads good r =
    ap (λ o. is_number (or_else o (own_cursor made)) r && not (list_any (λ x. closes_cursor r x.0) made)) none ∙ closed reads good r
still_closed bad aim d a made t none closed reads good r = absurd t

quiet_with : (can : Caps) (bad : Bool) (asked : Asked) (d : Due) (e : Entry) (L : List Entry) → step_of e.call ≡ Some d → Touches (exchanges L) d → given_cursor (got_of e.answer) ≡ None → Quiet can bad asked (exchanges L) → Quiet can bad asked (exchanges (e ∷ L))
quiet_with can bad asked d e L is t none q =
    subst (λ made. Quiet can bad asked made) (sym (ap (λ o. with_exchange o e.answer (exchanges L)) is))
    (record {
      unhanded = still_unhanded asked.aim (d, got_of e.answer) (exchanges L) none q.unhanded;
      none = behind_none can bad asked (d, got_of e.answer) (exchanges L) (touched_none can bad asked.text asked.params asked.aim d (got_of e.answer) (exchanges L) t q.closed);
      closed = still_closed bad asked.aim d (got_of e.answer) (exchanges L) t none q.closed;
    })

pub quiet_more : (can : Caps) (bad : Bool) (asked : Asked) (e : Entry) (L : List Entry) → is_about (exchanges L) e.call ≡ true → fits_of e.call e.answer ≡ true → Quiet can bad asked (exchanges L) → Quiet can bad asked (exchanges (e ∷ L))
quiet_more can bad asked e L about fits q = by e.call refl about fits
  where
    by : (c : DriverCall) → e.call ≡ c → is_about (exchanges L) c ≡ true → fits_of c e.answer ≡ true → Quiet can bad asked (exchanges (e ∷ L))
    by (calls.Next rows) is t f = quiet_with can bad asked (due.Next rows) e L (ap step_of is) t (next_gives rows e.answer f) q
    by (calls.CloseRows rows) is t f = quiet_with can bad asked (due.CloseRows rows) e L (ap step_of is) t (rows_give rows e.answer f) q
    by (calls.CloseStmt handle) is t f = quiet_with can bad asked (due.CloseStmt handle) e L (ap step_of is) tt (stmt_gives handle e.answer f) q
    by c is t f = absurd cc

-- This holds once the call has reached the end of its course.

pub quiet_now : (can : Caps) (bad : Bool) (asked : Asked) (made : List Exchange) → handed asked.aim made ≡ None → sends can asked (next_inside can bad asked made) ≡ false → (went_bad made ≡ true → bad ≡ true)
    → (asked.aim ≡ aims.ReadOne → bad ≡ false → Ordered made) → Quiet can bad asked made
quiet_now can bad asked made unhanded none known ordered = record { unhanded = unhanded; none = none; closed = λ reads good. by (went_bad made) refl reads good none }
  where
    by : (b : Bool) → went_bad made ≡ b → asked.aim ≡ aims.ReadOne → bad ≡ false → sends can asked (if b then due.Over else first_wanted (course_of asked.aim) (untested can) (length asked.params) (found bad) made (steps_left (course_of asked.aim) made)) ≡ false → NoCursor made
    by true is reads good h = clash (sym (known is) ∙ good)
    by false is reads good h =
        ended_cursor can (untested can) asked (length asked.params) made (ordered reads good)
        (sym (ap (λ b. sends can asked (first_wanted (course_of asked.aim) (untested can) (length asked.params) (found b) made (steps_left (course_of asked.aim) made))) good
        ∙ ap (λ c. sends can asked (first_wanted (course_of c) (untested can) (length asked.params) (found false) made (steps_left (course_of c) made))) reads)
        ∙ h)

-- The call's own driver calls come in their order.

run_else : (aim : Aim) (input : Input) (params : List Param) (q : DriverCall) → (is_due (Some (calls.Exec input params)) q ≡ true → ⊥) → (is_due (Some (calls.Query input params)) q ≡ true → ⊥) → is_due (Some (run_for aim input params)) q ≡ true → ⊥
run_else aims.Execute input params q a b h = a h
run_else _ input params q a b h = b h

ordered_due : (can : Caps) (asked : Asked) (made : List Exchange) (d : Due) (q : DriverCall) (a : DriverAnswer) → OneDue made d → is_due (sent_as (untested can) asked d) q ≡ true → fits_of q a ≡ true → Ordered made → Ordered (with_exchange (step_of q) a made)
ordered_due can asked made d (calls.Exec (Text text) params) a o h f k = tt
ordered_due can asked made d (calls.Exec (Handle handle) params) a o h f k = tt
ordered_due can asked made d (calls.Query (Text text) params) a o h f k = tt
ordered_due can asked made d (calls.Query (Handle handle) params) a o h f k = tt
ordered_due can asked made d (calls.Prepare text) a o h f k = tt
ordered_due can asked made d (calls.Next rows) a o h f k = tt
ordered_due can asked made d (calls.CloseRows rows) a o h f k = by d o h
  where
    none : given_cursor (got_of a) ≡ None
    none = rows_give rows a f

    closed : (own : ℕ) → own_cursor made ≡ Some own → own ≡ rows → NoCursor ((due.CloseRows rows, got_of a) ∷ made)
    closed own is same r = at (own == r) refl
      where
        cursor : own_cursor ((due.CloseRows rows, got_of a) ∷ made) ≡ Some own
        cursor = ap (λ o. or_else o (own_cursor made)) none ∙ is

        at : (b : Bool) → (own == r) ≡ b → has_cursor ((due.CloseRows rows, got_of a) ∷ made) r ≡ false
        at true its =
            let number : rows ≡ r = sym same ∙ same_number own r its in
            let here : (rows == r) ≡ true = ap (λ j. rows == j) (sym number) ∙ same_itself rows in
            ap (λ b. is_number (own_cursor ((due.CloseRows rows, got_of a) ∷ made)) r && not (b || list_any (λ x. closes_cursor r x.0) made)) here ∙ nothing (is_number (own_cursor ((due.CloseRows rows, got_of a) ∷ made)) r)
          where
            nothing : (b : Bool) → (b && false) ≡ false
            nothing true = refl
            nothing false = refl
        at false its = ap (λ o. is_number o r && not (list_any (λ x. closes_cursor r x.0) ((due.CloseRows rows, got_of a) ∷ made))) cursor ∙ ap (λ b. b && not (list_any (λ x. closes_cursor r x.0) ((due.CloseRows rows, got_of a) ∷ made))) its

    by : (e : Due) → OneDue made e → is_due (sent_as (untested can) asked e) (calls.CloseRows rows) ≡ true → NoCursor ((due.CloseRows rows, got_of a) ∷ made)
    by (due.CloseRows own) x y = closed own x (same_number own rows y)
    by due.Text x y = absurd (run_else asked.aim (Text asked.text) asked.params (calls.CloseRows rows) (λ z. absurd cc) (λ z. absurd cc) y)
    by (due.Handle handle) x y = absurd (run_else asked.aim (Handle handle) asked.params (calls.CloseRows rows) (λ z. absurd cc) (λ z. absurd cc) y)
    by due.Ping x y = absurd x
    by due.Begin x y = absurd x
    by due.Rollback x y = absurd x
    by e x y = absurd cc
ordered_due can asked made d (calls.CloseStmt handle) a o h f k = by d o h
  where
    none : given_cursor (got_of a) ≡ None
    none = stmt_gives handle a f

    closed : NoCursor made → NoCursor ((due.CloseStmt handle, got_of a) ∷ made)
    closed c r = ap (λ o. is_number (or_else o (own_cursor made)) r && not (list_any (λ x. closes_cursor r x.0) made)) none ∙ c r

    by : (e : Due) → OneDue made e → is_due (sent_as (untested can) asked e) (calls.CloseStmt handle) ≡ true → NoCursor ((due.CloseStmt handle, got_of a) ∷ made)
    by (due.CloseStmt own) x y = closed x
    by due.Text x y = absurd (run_else asked.aim (Text asked.text) asked.params (calls.CloseStmt handle) (λ z. absurd cc) (λ z. absurd cc) y)
    by (due.Handle own) x y = absurd (run_else asked.aim (Handle own) asked.params (calls.CloseStmt handle) (λ z. absurd cc) (λ z. absurd cc) y)
    by due.Ping x y = absurd x
    by due.Begin x y = absurd x
    by due.Rollback x y = absurd x
    by e x y = absurd cc
ordered_due can asked made d calls.Ping a o h f k = by d o h
  where
    by : (e : Due) → OneDue made e → is_due (sent_as (untested can) asked e) calls.Ping ≡ true → Ordered ((due.Ping, got_of a) ∷ made)
    by due.Text x y = absurd (run_else asked.aim (Text asked.text) asked.params calls.Ping (λ z. absurd cc) (λ z. absurd cc) y)
    by (due.Handle own) x y = absurd (run_else asked.aim (Handle own) asked.params calls.Ping (λ z. absurd cc) (λ z. absurd cc) y)
    by due.Ping x y = absurd x
    by due.Begin x y = absurd x
    by due.Rollback x y = absurd x
    by e x y = absurd cc
ordered_due can asked made d q a o h f k = k

pub ordered_more : (can : Caps) (asked : Asked) (made : List Exchange) (q : DriverCall) (a : DriverAnswer) → asked.aim ≡ aims.ReadOne → went_bad made ≡ false → Ordered made
    → is_due (sent_as (untested can) asked (next_inside can false asked made)) q ≡ true → fits_of q a ≡ true → Ordered (with_exchange (step_of q) a made)
ordered_more can asked made q a reads good o h f =
    let d = first_wanted courses.One (untested can) (length asked.params) (found false) made (steps_left courses.One made) in
    let is : next_inside can false asked made ≡ d =
    ap (λ c. comes_next (course_of c) (untested can) (length asked.params) (found false) made) reads ∙ ap (λ b. if b then due.Over else d) good
    in
    ordered_due can asked made d q a (one_due (untested can) (length asked.params) made o) (ap (λ x. is_due (sent_as (untested can) asked x) q) (sym is) ∙ h) f o
