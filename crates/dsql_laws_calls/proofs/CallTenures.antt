-- In a tenure that is lent to a call on the database, everything that is heard belongs to one line.
use Rattle.std.proofs.Common.{◌≡◌, ℕ, Bool, true, false, ◌||◌, cond, List, [], ◌∷◌, Option, Some, None, is_some, length, refl, sym, ap, ◌∙◌}
use Rattle.dsql_laws.specs.value.declared.value.Param.{Param}
use Rattle.dsql_laws.specs.driver.declared.caps.Caps.{Caps}
use Rattle.dsql_laws.specs.driver.declared.call.DriverCall.{DriverCall}
use Rattle.dsql_laws.specs.driver.declared.call.DriverCall.TheVariants.{Reset, Begin, Commit, Rollback}
use Rattle.dsql_laws.specs.driver.Kinds.{is_bad, is_valid}
use Rattle.dsql_laws.specs.course.declared.call.Due.{Due}
use Rattle.dsql_laws.specs.course.declared.call.Due.TheVariants as due
use Rattle.dsql_laws.specs.course.declared.course.Wish.{Wish}
use Rattle.dsql_laws.specs.course.declared.course.Wish.TheVariants as wishes
use Rattle.dsql_laws.specs.course.Made.{Exchange, own_cursor, rows_are_over}
use Rattle.dsql_laws.specs.course.Rows.{closing_next, rows_next_if}
use Rattle.dsql_laws.specs.journal.declared.entry.Entry.{Entry}
use Rattle.dsql_laws.specs.journal.declared.entry.Owner.{Owner}
use Rattle.dsql_laws.specs.journal.Kinds.{is_call, number_of}
use Rattle.dsql_laws.specs.pool.declared.conn.Place.TheVariants.{Lent}
use Rattle.dsql_laws.specs.works.declared.work.Aim.{Aim}
use Rattle.dsql_laws.specs.works.declared.work.Aim.TheVariants as aims
use Rattle.dsql_laws.specs.works.Exchanges.{exchanges}
use Rattle.dsql_laws.specs.works.Line.{Asked, body_with, body_after, line_after, sent_as, sent_over, is_due_in_line}
use Rattle.dsql_laws_work.proofs.CallLines.{Step, WasSkipped, WasPrepared, HasRows, HasRead, WasRun, WasDone, WasTested, WasDropped, IsOther, step}
use Rattle.dsql_laws_work.proofs.MadeLines.{MadeRows, MadeAt, is_ended, ended_by, asking, body_before}
use Rattle.dsql_laws.specs.history.declared.event.Event.{Event}
use Rattle.dsql_laws.specs.history.declared.work.Scope.TheVariants.{Db}
use Rattle.dsql_laws.specs.history.declared.work.Work.{Work}
use Rattle.dsql_laws.specs.history.declared.work.Task.TheVariants as tasks
use Rattle.dsql_laws.specs.history.declared.work.Work.TheVariants as works_of
use Rattle.dsql_laws.specs.history.Readers.Course.{caps}
use Rattle.dsql_laws.specs.history.Readers.Works.{work, scope, asks}
use Rattle.dsql_laws.specs.history.Readers.Journals.{heard_in}
use Rattle.dsql_laws.specs.history.Readers.Pool.{place}
use Rattle.dsql_laws.specs.history.Rules.Sent.{is_reset_due, asked_by, sender, line_for}
use Rattle.dsql_laws.specs.history.Rules.Line.{is_due}
use Rattle.dsql_laws.specs.history.Legal.{Lawful}
use Rattle.dsql_laws_calls.proofs.Owners.{lent_asks}
use Rattle.dsql_laws_calls.proofs.Plain.{is_plain, begins}
use Rattle.dsql_laws_calls.proofs.Beginnings.{begin_owner}
use Rattle.dsql_laws.specs.history.Readers.Lines.{line_among, line_in}
use Rattle.dsql_laws_calls.proofs.Lines.{line_there}

-- Returns what is sent next on connection c in tenure t, given what is wanted of the rows of its call.
abbrev pub call_line : List Event → ℕ → ℕ → Owner → Wish → Option DriverCall
call_line H c t own w = line_after (caps H) (is_reset_due H c) (asked_by H (number_of own)) w (heard_in H c t)

pub line_of_call : (H : List Event) (c t : ℕ) (own : Owner) (w : Wish) → Lawful H → place H c ≡ Some (Lent t own) → is_call own ≡ true → line_there H c t own (number_of own) w ≡ call_line H c t own w
line_of_call H c t own w l is call =
    by (work H (number_of own)) (lent_asks H c t own l is) not_begin
    ∙ ap (λ b. line_after (caps H) (is_reset_due H c) (asked_by H (number_of own)) w (cond b (heard_in H c t) (line_among (number_of own) (heard_in H c t)))) call
  where
    not_begin : begins (work H (number_of own)) ≡ false
    not_begin = at (begins (work H (number_of own))) refl
      where
        at : (b : Bool) → begins (work H (number_of own)) ≡ b → b ≡ false
        at true its = let wrong : true ≡ false = sym call ∙ begin_owner H c t own l is its in absurd cc
        at false its = refl

    by : (v : Work) → asks v ≡ true → begins v ≡ false → line_for v (scope v) (sender H (number_of own) c w) (line_in own (number_of own) (heard_in H c t)) ≡ line_after (caps H) (is_reset_due H c) (asked_by H (number_of own)) w (line_in own (number_of own) (heard_in H c t))
    by (works_of.Statement Db tasks.Execute) h k = refl
    by (works_of.Statement Db (tasks.ReadOne dests)) h k = refl
    by (works_of.Statement Db (tasks.HandOut label)) h k = refl
    by works_of.Ping h k = refl
    by v h k = absurd cc

-- Both tests of what is due agree on a plain driver call.
pub plain_due : (d : Option DriverCall) (q : DriverCall) → is_plain d ≡ true → is_due d q ≡ true → is_due_in_line d q ≡ true
plain_due (Some (Begin level read_only)) q h k = absurd cc
plain_due (Some Commit) q h k = absurd cc
plain_due (Some Rollback) q h k = absurd cc
plain_due d q h k = k

-- If a row may be fetched, its rows may be closed as well.

same_wish : (can : Caps) (asked : Asked) (made : List Exchange) → own_cursor made ≡ None → is_some (body_after can false asked wishes.Fetch made) ≡ true → is_some (body_after can false asked wishes.Close made) ≡ true
same_wish can asked made none h = ap (λ d. is_some d) (body_before can asked wishes.Close made none ∙ sym (body_before can asked wishes.Fetch made none)) ∙ h

rows_close : (can : Caps) (text : List ℕ) (params : List Param) (aim : Aim) (own : Option ℕ) (rows : ℕ) (over : Bool) (following : Due) (made : List Exchange) → MadeRows can (asking text params aim) own rows over following made
    → is_some (body_after can false (asking text params aim) wishes.Fetch made) ≡ true → is_some (body_after can false (asking text params aim) wishes.Close made) ≡ true
rows_close can text params aims.Execute own rows over following made m h = let k = m.reads in absurd cc
rows_close can text params aims.Ping own rows over following made m h = let k = m.reads in absurd cc
rows_close can text params aims.ReadOne own rows over following made m h = h
rows_close can text params aims.HandOut own rows over following made m h =
    ap (λ o. is_some (body_with can false (asking text params aims.HandOut) wishes.Close made o)) m.cursor
    ∙ either (rows_are_over made)
  where
    closed : is_some (sent_as can (asking text params aims.HandOut) (closing_next can (length params) made)) ≡ true
    closed = ap (λ d. is_some (sent_as can (asking text params aims.HandOut) d)) m.next_close

    either : (b : Bool) → is_some (sent_over can (asking text params aims.HandOut) (rows_next_if b wishes.Close (closing_next can (length params) made) rows)) ≡ true
    either true = closed
    either false = closed

body_close : (can : Caps) (text : List ℕ) (params : List Param) (aim : Aim) (s : Step) (made : List Exchange) → is_ended s ≡ false → MadeAt can (asking text params aim) s made
    → is_some (body_after can false (asking text params aim) wishes.Fetch made) ≡ true → is_some (body_after can false (asking text params aim) wishes.Close made) ≡ true
body_close can text params aim WasSkipped made e m h = same_wish can (asking text params aim) made (ap own_cursor m.0) h
body_close can text params aim (WasPrepared handle) made e m h = same_wish can (asking text params aim) made m.none h
body_close can text params aim (HasRows own rows) made e m h = rows_close can text params aim own rows false (due.Next rows) made m h
body_close can text params aim (HasRead own rows over) made e m h = rows_close can text params aim own rows over (due.CloseRows rows) made m h
body_close can text params aim (WasRun handle) made e m h = ap (λ d. is_some d) (m.sends wishes.Close)
body_close can text params aim WasDone made e m h = ap (λ d. is_some d) (m wishes.Close) ∙ (sym (ap (λ d. is_some d) (m wishes.Fetch)) ∙ h)
body_close can text params aim WasTested made e m h = absurd cc
body_close can text params aim WasDropped made e m h = absurd cc
body_close can text params aim IsOther made e m h = absurd m
body_close can text params aim _ made e m h = same_wish can (asking text params aim) made (ap own_cursor m) h

pub fetch_closes : (can : Caps) (reset : Bool) (asked : Asked) (L : List Entry) → MadeAt can asked (step L) (exchanges L) → is_some (line_after can reset asked wishes.Fetch L) ≡ true → is_some (line_after can reset asked wishes.Close L) ≡ true
fetch_closes can reset asked [] m h = by reset h
  where
    by : (b : Bool) → is_some (cond b (Some Reset) (body_after can false asked wishes.Fetch [])) ≡ true → is_some (cond b (Some Reset) (body_after can false asked wishes.Close [])) ≡ true
    by true k = refl
    by false k = same_wish can asked [] refl k
fetch_closes can reset asked (e ∷ earlier) m h = by (is_bad e.answer || is_valid e.call) refl h
  where
    by : (b : Bool) → (is_bad e.answer || is_valid e.call) ≡ b → is_some (cond b None (body_after can false asked wishes.Fetch (exchanges (e ∷ earlier)))) ≡ true → is_some (cond b None (body_after can false asked wishes.Close (exchanges (e ∷ earlier)))) ≡ true
    by true is k = absurd cc
    by false is k = body_close can asked.text asked.params asked.aim (step (e ∷ earlier)) (exchanges (e ∷ earlier)) (ended_by (step earlier) e.call e.answer is) m k
