-- Live rows of a call on the database keep its line open: what is wanted of them is sent. The argument goes
-- from event to event after the query that made the rows.
use Rattle.std.proofs.Common.{◌≡◌, ◌≢◌, ℕ, ◌⊎◌, inl, inr, Bool, true, false, not, ◌&&◌, cond, List, [], ◌∷◌, Option, Some, None, is_some, refl, sym, ap, subst, ◌∙◌}
use Rattle.std.specs.Option.{option_map}
use Rattle.dsql_laws_calls.specs.value.declared.value.Value.{Value}
use Rattle.dsql_laws_calls.specs.driver.declared.caps.Caps.{Caps}
use Rattle.dsql_laws_calls.specs.driver.declared.answer.DriverAnswer.{DriverAnswer}
use Rattle.dsql_laws_calls.specs.driver.declared.answer.DriverAnswer.TheVariants.{Cursor, Row, End, Fail, Bad, Memory}
use Rattle.dsql_laws_calls.specs.driver.declared.call.DriverCall.{DriverCall}
use Rattle.dsql_laws_calls.specs.driver.declared.call.DriverCall.TheVariants.{Query, Next, CloseRows, CloseStmt, Valid}
use Rattle.dsql_laws_calls.specs.driver.declared.call.Input.TheVariants.{Text, Handle}
use Rattle.dsql_laws_calls.specs.driver.Fits.{fits_of, is_memory}
use Rattle.dsql_laws_calls.specs.course.declared.course.Wish.{Wish}
use Rattle.dsql_laws_calls.specs.course.declared.course.Wish.TheVariants as wishes
use Rattle.dsql_laws_calls.specs.course.Made.{Exchange, rows_are_over}
use Rattle.dsql_laws_calls.specs.journal.declared.entry.Entry.{Entry}
use Rattle.dsql_laws_calls.specs.journal.declared.entry.Owner.{Owner}
use Rattle.dsql_laws_calls.specs.journal.Kinds.{is_call, number_of}
use Rattle.dsql_laws_calls.specs.journal.Readers.{of_tenure}
use Rattle.dsql_laws_calls.specs.rows.declared.rows.Rows.{Rows}
use Rattle.dsql_laws_calls.specs.rows.declared.end.RowsEnd.{RowsEnd}
use Rattle.dsql_laws_calls.specs.rows.declared.end.RowsEnd.TheVariants.{EndOfRows, Failed, BadConn}
use Rattle.dsql_laws_calls.specs.rows.OpenRows.{is_live, ended_by, rows_of}
use Rattle.dsql_laws_calls.proofs.rows.Numbers.{changes_one_number}
use Rattle.dsql_laws_calls.specs.pool.declared.conn.Place.TheVariants.{Lent}
use Rattle.dsql_laws_calls.specs.pool.declared.moves.Move.TheVariants.{Lend}
use Rattle.dsql_laws_calls.specs.works.HandedOut.{Made}
use Rattle.dsql_laws_calls.specs.works.Exchanges.{exchanges}
use Rattle.dsql_laws_calls.specs.works.Line.{Asked, handed, line_after}
use Rattle.dsql_laws_calls.specs.works.declared.work.Aim.TheVariants as aims
use Rattle.dsql_laws_calls.proofs.laws_work.CallLines.{Step, HasRows, HasRead, step, step_after}
use Rattle.dsql_laws_calls.proofs.laws_work.HandedLines.{SentOver, due_over, is_holding, held_due, ended_live}
use Rattle.dsql_laws_calls.proofs.laws_work.MadeLines.{MadeAt}
use Rattle.dsql_laws_calls.specs.history.Readers.HandedOut.{live, over, fetched, handed_out, rows_heard, rows_by, are_live}
use Rattle.dsql_laws_calls.proofs.laws.Tests.{both}
use Rattle.dsql_laws_calls.proofs.laws_work.Rows.{same_or_not}
use Rattle.dsql_laws_calls.specs.history.declared.event.Event.{Event}
use Rattle.dsql_laws_calls.specs.history.declared.event.Event.TheVariants.{Run, Entered, Heard, Pool, Waits, Ticked, SetLimit, Replied, Ended}
use Rattle.dsql_laws_calls.specs.history.declared.work.Work.{Work}
use Rattle.dsql_laws_calls.specs.history.declared.work.Task.TheVariants.{HandOut}
use Rattle.dsql_laws_calls.specs.history.declared.work.Work.TheVariants.{Statement, Fetch}
use Rattle.dsql_laws_calls.specs.history.Readers.Course.{caps}
use Rattle.dsql_laws_calls.specs.history.Readers.Journals.{heard_in}
use Rattle.dsql_laws_calls.specs.history.Readers.Pool.{place}
use Rattle.dsql_laws_calls.specs.history.Readers.Works.{work, aim_of, asks, hands_out_in, borrower, owner_as}
use Rattle.dsql_laws_calls.specs.history.Readers.Transactions.{is_over}
use Rattle.dsql_laws_calls.specs.history.Readers.Calls.{site}
use Rattle.dsql_laws_calls.specs.history.Rules.Line.{is_due}
use Rattle.dsql_laws_calls.specs.history.Rules.Sent.{is_reset_due, asked_by, line_of}
use Rattle.dsql_laws_calls.specs.history.Legal.{Lawful}
use Rattle.dsql_laws_calls.proofs.laws.Tried.{lends_to}
use Rattle.dsql_laws_calls.specs.Kept.{KeepsItsConnection}
use Rattle.dsql_laws_calls.proofs.BeginningsAt.{is_answer, heard_same, heard_tenure, heard_more, heard_other}
use Rattle.dsql_laws_calls.proofs.CallTenures.{line_of_call, plain_due}
use Rattle.dsql_laws_calls.proofs.Plain.{line_plain}
use Rattle.dsql_laws_calls.proofs.EndedRows.{rows_kept}
use Rattle.dsql_laws_calls.proofs.Coming.{sound}
use Rattle.dsql_laws_calls.proofs.Inside.{was_live, heard_live}
use Rattle.dsql_laws_calls.proofs.Lent.{Lends, lent_before}
use Rattle.dsql_laws_calls.proofs.Sound.{fitting}
use Rattle.dsql_laws_calls.proofs.Lines.{line_here}
use Rattle.dsql_laws_calls.proofs.LiveRows.{dead_over, live_some}
use Rattle.dsql_laws_calls.proofs.Makers.{hands_out, rows_hand_out, some_changed}
use Rattle.dsql_laws_calls.proofs.Own.{asks_own}
use Rattle.dsql_laws_calls.proofs.Owners.{lent_asks, lent_number, owner_is_of}
use Rattle.dsql_laws_calls.proofs.Rows.{none_at_end}
use Rattle.dsql_laws_calls.proofs.RowsKept.{rows_keep}
use Rattle.dsql_laws_calls.proofs.UnderWay.{clash}
use Rattle.dsql_laws_others.proofs.LentBeside.{rows_elsewhere}
use Rattle.dsql_laws_answers.proofs.Elsewhere.{comes_there}
use Rattle.dsql_laws_answers.proofs.OwnSent.{OwnSent, own_sent}
use Rattle.dsql_laws_answers.proofs.Turns.{heard_at}

not_over : (o : Option Rows) → live o ≡ true → over o ≡ true → ⊥
not_over None h k = cc
not_over (Some r) h k = by (is_live r) h k
  where
    by : (b : Bool) → b ≡ true → not b ≡ true → ⊥
    by true p q = cc
    by false p q = cc

not_so : (b : Bool) → not b ≡ true → b ≡ false
not_so true h = absurd cc
not_so false h = refl

-- What is known if the rows are open.
record OpenAt (asked : Asked) (made : List Exchange) : Type 0 where
  cursor : ℕ
  handed_it : handed asked.aim made ≡ Some cursor
  open_still : rows_are_over made ≡ false

open_at : (can : Caps) (asked : Asked) (s : Step) (made : List Exchange) → asked.aim ≡ aims.HandOut → is_holding s ≡ true → MadeAt can asked s made → OpenAt asked made
open_at can asked (HasRows own rows) made aim h m = record { cursor = rows; handed_it = ap (λ a. handed a made) aim ∙ m.cursor; open_still = m.are_over }
open_at can asked (HasRead own rows false) made aim h m = record { cursor = rows; handed_it = ap (λ a. handed a made) aim ∙ m.cursor; open_still = m.are_over }
open_at can asked s made aim h m = absurd cc

-- A fetch that leaves rows live has read a row, so the line stays open.

read_row : (s : Step) (r : ℕ) (values : List Value) → is_holding s ≡ true → is_holding (step_after s (Next r) (Row values)) ≡ true
read_row (HasRows own cursor) r values x = refl
read_row (HasRead own cursor false) r values x = refl
read_row s r values x = absurd cc

no_longer : {A : Type 0} → (end : RowsEnd) (rows : Rows) → is_live (cond (is_live rows) (ended_by end rows) rows) ≡ true → A
no_longer end rows x = by (is_live rows) refl x
  where
    by : {A : Type 0} → (b : Bool) → is_live rows ≡ b → is_live (cond b (ended_by end rows) rows) ≡ true → A
    by true is y = clash (sym y ∙ ended_live end rows)
    by false is y = clash (sym y ∙ is)

read_still : (s : Step) (r : ℕ) (a : DriverAnswer) (o : Option Rows) → is_holding s ≡ true → fits_of (Next r) a ≡ true → is_memory a ≡ false → live (option_map (fetched a) o) ≡ true → is_holding (step_after s (Next r) a) ≡ true
read_still s r a None h fit heard lives = absurd cc
read_still s r (Row values) (Some rows) h fit heard lives = read_row s r values h
read_still s r End (Some rows) h fit heard lives = no_longer EndOfRows rows lives
read_still s r (Fail text) (Some rows) h fit heard lives = no_longer (Failed text) rows lives
read_still s r Bad (Some rows) h fit heard lives = no_longer BadConn rows lives
read_still s r Memory (Some rows) h fit heard lives = absurd cc
read_still s r a (Some rows) h fit heard lives = absurd cc

-- A query that makes the rows opens the line.

opened : (H : List Event) (w : Work) (m : ℕ) (q : DriverCall) (a : DriverAnswer) (n : ℕ) (s : Step) (R : Made) → is_some (rows_of n (rows_heard H w m q a R)) ≡ true → (is_some (rows_of n R) ≡ true) ⊎ (is_holding (step_after s q a) ≡ true)
opened H (Statement x (HandOut label)) m (Query (Text text) params) (Cursor cursor columns) n s R h = inr refl
opened H (Statement x (HandOut label)) m (Query (Handle handle) params) (Cursor cursor columns) n s R h = inr refl
opened H (Fetch k) m (Next cursor) a n s R h = inl (sym (some_changed (fetched a) k n R) ∙ h)
opened H _ m q a n s R h = inl h

-- A connection that is lent to a call.
record OnCall (H : List Event) (c t : ℕ) (own : Owner) : Type 0 where
  lent : place H c ≡ Some (Lent t own)
  call : is_call own ≡ true

-- An answer there leaves the line open.
heard_open : (H : List Event) (e : Entry) (c t : ℕ) (own : Owner) → Lawful (Heard e ∷ H) → OnCall H c t own → e.conn ≡ c → are_live H (number_of own) ≡ true → is_holding (step (heard_in H c t)) ≡ true → are_live (Heard e ∷ H) (number_of own) ≡ true
    → is_holding (step_after (step (heard_in H c t)) e.call e.answer) ≡ true
heard_open H e c t own l o here was holds lives = by e.call refl over_it
  where
    n : ℕ
    n = number_of own

    there : place H e.conn ≡ Some (Lent t own)
    there = ap (place H) here ∙ o.lent

    tenure : e.tenure ≡ t
    tenure = heard_tenure H e t own l.1 there

    hands : hands_out (work H n) ≡ true
    hands = rows_hand_out H n (live_some (rows_by H n) was)

    aim : (asked_by H n).aim ≡ aims.HandOut
    aim = of (work H n) hands
      where
        of : (w : Work) → hands_out w ≡ true → aim_of w ≡ aims.HandOut
        of (Statement s (HandOut label)) x = refl
        of w x = absurd cc

    sent : OwnSent H e own
    sent = own_sent H e own l.0 (comes_there H e t own (record { lawful = l; lent = there })) (there ∙ ap (λ v. Some (Lent v own)) (sym tenure)) o.call

    m : MadeAt (caps H) (asked_by H n) (step (heard_in H c t)) (exchanges (heard_in H c t))
    m = let s = sound H l.0 in let f = s.facts in f.made c t own o.lent o.call

    opens : OpenAt (asked_by H n) (exchanges (heard_in H c t))
    opens = open_at (caps H) (asked_by H n) (step (heard_in H c t)) (exchanges (heard_in H c t)) aim holds m

    due : is_due (line_after (caps H) (is_reset_due H c) (asked_by H n) sent.wanted (heard_in H c t)) e.call ≡ true
    due = subst (λ d. is_due (line_after (caps H) (is_reset_due H d) (asked_by H n) sent.wanted (heard_in H d t)) e.call ≡ true) here (subst (λ v. is_due (line_after (caps H) (is_reset_due H e.conn) (asked_by H n) sent.wanted (heard_in H e.conn v)) e.call ≡ true) tenure sent.due)

    over_it : SentOver e.call sent.wanted (rows_are_over (exchanges (heard_in H c t)))
    over_it =
        due_over (caps H) (is_reset_due H c) (asked_by H n) sent.wanted (heard_in H c t) e.call opens.cursor opens.handed_it m
        (plain_due (line_after (caps H) (is_reset_due H c) (asked_by H n) sent.wanted (heard_in H c t)) e.call (line_plain (caps H) (is_reset_due H c) (asked_by H n) sent.wanted (heard_in H c t)) due)

    never_over : rows_are_over (exchanges (heard_in H c t)) ≡ true → is_holding (step_after (step (heard_in H c t)) e.call e.answer) ≡ true
    never_over x = clash (sym x ∙ opens.open_still)

    fits : (fits_of e.call e.answer && not (is_memory e.answer)) ≡ true
    fits = fitting H e l.1

    by : (q : DriverCall) → e.call ≡ q → SentOver q sent.wanted (rows_are_over (exchanges (heard_in H c t))) → is_holding (step_after (step (heard_in H c t)) e.call e.answer) ≡ true
    by (Next r) is x =
        let f = both (fits_of e.call e.answer) (not (is_memory e.answer)) fits in
        let l2 = changes_one_number in
        let fetching = sent.fetches x.0 in
        let rows : rows_by (Heard e ∷ H) n ≡ option_map (fetched e.answer) (rows_by H n) =
        ap (λ w. rows_of n (rows_heard H w e.call_no e.call e.answer (handed_out H))) fetching ∙ (ap (λ q. rows_of n (rows_heard H (Fetch n) e.call_no q e.answer (handed_out H))) is ∙ l2.changes (fetched e.answer) n (handed_out H))
        in
        ap (λ q. is_holding (step_after (step (heard_in H c t)) q e.answer)) is
        ∙ read_still (step (heard_in H c t)) r e.answer (rows_by H n) holds (sym (ap (λ q. fits_of q e.answer) is) ∙ f.0) (not_so (is_memory e.answer) f.1) (sym (ap live rows) ∙ lives)
    by (CloseRows r) is (inl x) = never_over x
    by (CloseRows r) is (inr x) = absurd (not_over (rows_by H n) was (sent.closes x))
    by (CloseStmt handle) is x = never_over x
    by Valid is x = never_over x
    by q is x = absurd x

open_next : (H : List Event) (last : Event) (c t : ℕ) (own : Owner) → Lawful (last ∷ H) → place (last ∷ H) c ≡ Some (Lent t own) → is_call own ≡ true → are_live (last ∷ H) (number_of own) ≡ true
    → (place H c ≡ Some (Lent t own) → are_live H (number_of own) ≡ true → is_holding (step (heard_in H c t)) ≡ true) → is_holding (step (heard_in (last ∷ H) c t)) ≡ true
open_next H last c t own l is call lives earlier = from (lent_before H last c t own l.0 is)
  where
    n : ℕ
    n = number_of own

    itself : place H c ≡ Some (Lent t own) → borrower H n ≡ n
    itself at = asks_own H n (lent_asks H c t own l.0 at)

    quiet : (x : Event) → is_answer x ≡ false → place H c ≡ Some (Lent t own) → are_live H n ≡ true → is_holding (step (heard_in (x ∷ H) c t)) ≡ true
    quiet x none at was = ap (λ J. is_holding (step (of_tenure t J))) (heard_same H x c none) ∙ earlier at was

    answer : (e : Entry) → Lawful (Heard e ∷ H) → place H c ≡ Some (Lent t own) → are_live (Heard e ∷ H) n ≡ true → is_holding (step (heard_in (Heard e ∷ H) c t)) ≡ true
    answer e le at now = at_conn (same_or_not e.conn c) (heard_live H (work H e.call_no) e.call_no e.call e.answer n (handed_out H) now)
      where
        opens_now : e.conn ≡ c → is_holding (step_after (step (heard_in H c t)) e.call e.answer) ≡ true
        opens_now here = by_rows (are_live H n) refl (opened H (work H e.call_no) e.call_no e.call e.answer n (step (heard_in H c t)) (handed_out H) (live_some (rows_by (Heard e ∷ H) n) now))
          where
            by_rows : (b : Bool) → are_live H n ≡ b → (is_some (rows_by H n) ≡ true) ⊎ (is_holding (step_after (step (heard_in H c t)) e.call e.answer) ≡ true) → is_holding (step_after (step (heard_in H c t)) e.call e.answer) ≡ true
            by_rows true was any = heard_open H e c t own le (record { lent = at; call = call }) here was (earlier at was) now
            by_rows false dead (inr holds) = holds
            by_rows false dead (inl made) =
                let kept = rows_kept H (Heard e) n in
                absurd (not_over (rows_by (Heard e ∷ H) n) now (kept.ended (dead_over (rows_by H n) made dead)))

        at_conn : (e.conn ≡ c) ⊎ (e.conn ≢ c) → (are_live H n ≡ true) ⊎ ((n ≡ e.call_no) × ((k : ℕ) → hands_out_in k (work H e.call_no) ≡ true → is_over H k ≡ false)) → is_holding (step (heard_in (Heard e ∷ H) c t)) ≡ true
        at_conn (inl here) any = ap (λ L. is_holding (step L)) (heard_more H e c t own le.1 at here) ∙ opens_now here
        at_conn (inr away) (inl was) = ap (λ J. is_holding (step (of_tenure t J))) (heard_other H e c away) ∙ earlier at was
        at_conn (inr away) (inr w) = absurd (away (heard_at H e n c t own le at (itself at) (lent_number H c t own le.0 at) (sym w.0)))

    by : (x : Event) → Lawful (x ∷ H) → place H c ≡ Some (Lent t own) → are_live (x ∷ H) n ≡ true → is_holding (step (heard_in (x ∷ H) c t)) ≡ true
    by (Heard e) lx at now = answer e lx at now
    by (Entered client k op) lx at now = quiet (Entered client k op) refl at (was_live H client k op n now)
    by Ended lx at now = clash (sym now ∙ none_at_end H n)
    by (Run version can) lx at now = quiet (Run version can) refl at now
    by (Pool move) lx at now = quiet (Pool move) refl at now
    by (Waits k) lx at now = quiet (Waits k) refl at now
    by (Ticked k) lx at now = quiet (Ticked k) refl at now
    by (SetLimit setting k) lx at now = quiet (SetLimit setting k) refl at now
    by (Replied k reply) lx at now = quiet (Replied k reply) refl at now

    from : (place H c ≡ Some (Lent t own)) ⊎ Lends last c t own → is_holding (step (heard_in (last ∷ H) c t)) ≡ true
    from (inl at) = by last l at lives
    from (inr w) = new w.0 (subst (λ x. Lawful (x ∷ H)) w.1 l) (subst (λ x. are_live (x ∷ H) n ≡ true) w.1 lives)
      where
        new : {A : Type 0} → (k : ℕ) → Lawful (Pool (Lend c t own k) ∷ H) → are_live (Pool (Lend c t own k) ∷ H) n ≡ true → A
        new k lk now =
            let asking : asks (work H n) ≡ true = lent_asks (Pool (Lend c t own k) ∷ H) c t own lk (ap (λ x. place (x ∷ H) c) (sym w.1) ∙ is) in
            absurd (rows_elsewhere H c t own k n lk (live_some (rows_by H n) now) (asks_own H n asking ∙ sym (lends_to H c t own k lk.1)))

open_rows : (H : List Event) (c t : ℕ) (own : Owner) → Lawful H → place H c ≡ Some (Lent t own) → is_call own ≡ true → are_live H (number_of own) ≡ true → is_holding (step (heard_in H c t)) ≡ true
open_rows [] c t own l is call lives = absurd cc
open_rows (last ∷ H) c t own l is call lives = open_next H last c t own l is call lives (λ at was. open_rows H c t own l.0 at call was)

-- What is wanted of the rows is sent.
pub own_live_line : (H : List Event) (n : ℕ) (w : Wish) → Lawful H → are_live H n ≡ true → asks (work H n) ≡ true → (w ≡ wishes.Nothing → ⊥) → is_some (line_of H n w) ≡ true
own_live_line H n w l lives asking wanted = from (one (rows_by H n) lives)
  where
    one : (o : Option Rows) → live o ≡ true → (r : Rows) × (o ≡ Some r) × (is_live r ≡ true)
    one None h = absurd cc
    one (Some r) h = (r, refl, h)

    from : (r : Rows) × (rows_by H n ≡ Some r) × (is_live r ≡ true) → is_some (line_of H n w) ≡ true
    from x = at (rows_keep H n x.0 l x.1 x.2)
      where
        at : KeepsItsConnection H n → is_some (line_of H n w) ≡ true
        at k =
            let its : number_of k.owner ≡ n = k.borrowed ∙ asks_own H n asking in
            let whose = owner_is_of H (site H n) k.tenure k.owner l k.lent in
            let call : is_call k.owner ≡ true = ap is_call whose.1 ∙ call_of (work H (number_of k.owner)) (number_of k.owner) (ap (λ i. hands_out (work H i)) its ∙ rows_hand_out H n (live_some (rows_by H n) lives)) in
            let L = heard_in H (site H n) k.tenure in
            let s = sound H l in
            let f = s.facts in
            let m = f.made (site H n) k.tenure k.owner k.lent call in
            let holds = open_rows H (site H n) k.tenure k.owner l k.lent call (ap (are_live H) its ∙ lives) in
            let opens = open_at (caps H) (asked_by H (number_of k.owner)) (step L) (exchanges L) (ap (λ i. aim_of (work H i)) its ∙ aim_is (work H n) (rows_hand_out H n (live_some (rows_by H n) lives))) holds m in
            ap (λ d. is_some d)
            (ap (λ i. line_of H i w) (sym its)
            ∙ (line_here H (site H n) k.tenure k.owner (number_of k.owner) w l k.lent (asks_own H (number_of k.owner) (ap (λ i. asks (work H i)) its ∙ asking)) ∙ line_of_call H (site H n) k.tenure k.owner w l k.lent call))
            ∙ held_due (caps H) (is_reset_due H (site H n)) (asked_by H (number_of k.owner)) w L opens.cursor opens.handed_it m holds wanted
          where
            call_of : (v : Work) (i : ℕ) → hands_out v ≡ true → is_call (owner_as v i) ≡ true
            call_of (Statement x (HandOut label)) i h = refl
            call_of v i h = absurd cc

            aim_is : (v : Work) → hands_out v ≡ true → aim_of v ≡ aims.HandOut
            aim_is (Statement x (HandOut label)) h = refl
            aim_is v h = absurd cc
