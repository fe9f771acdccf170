-- A welcome answer may come next after a settled history that has begun. The argument takes the rules one by
-- one.
use Rattle.std.proofs.Common.{◌≡◌, ◌≢◌, ℕ, ◌==◌, inl, inr, Bool, true, false, not, ◌&&◌, ◌||◌, List, [], ◌∷◌, Option, Some, None, is_some, refl, sym, ap, subst, ◌∙◌}
use Rattle.dsql_engine_going.specs.value.declared.value.Param.{Param}
use Rattle.dsql_engine_going.specs.driver.declared.call.DriverCall.{DriverCall}
use Rattle.dsql_engine_going.specs.driver.declared.call.DriverCall.TheVariants.{Begin, Connect, Next, Query, Shut}
use Rattle.dsql_engine_going.specs.driver.declared.call.Input.{Input}
use Rattle.dsql_engine_going.specs.driver.Fits.{fits_of, is_memory}
use Rattle.dsql_engine_going.specs.driver.Kinds.{is_connect, is_shut}
use Rattle.dsql_engine_going.specs.course.declared.course.Wish.TheVariants as wishes
use Rattle.dsql_engine_going.specs.journal.declared.entry.Entry.{Entry}
use Rattle.dsql_engine_going.specs.journal.declared.entry.Owner.{Owner}
use Rattle.dsql_engine_going.specs.journal.declared.entry.Owner.TheVariants.{House}
use Rattle.dsql_engine_going.specs.journal.Entries.{house_entry}
use Rattle.dsql_engine_going.specs.journal.HandlesAndCursors.{fits_at_its_place, gives_new_cursor, gives_new_handle, has_width_of_cursor, is_fitting, is_heard}
use Rattle.dsql_engine_going.specs.journal.Journal.{may_follow}
use Rattle.dsql_engine_going.specs.journal.Kinds.{is_call, is_house, number_of, same_owner}
use Rattle.dsql_engine_going.specs.journal.Readers.{is_empty}
use Rattle.dsql_engine_going.proofs.journal.Conjunctions.{parts5}
use Rattle.dsql_engine_going.specs.pool.declared.conn.Place.{Place}
use Rattle.dsql_engine_going.specs.pool.declared.conn.Place.TheVariants.{Idle, Lent, Opening, Closing}
use Rattle.dsql_engine_going.specs.pool.Places.{is_lent}
use Rattle.dsql_engine_going.specs.pool.Pooled.{next_tenure}
use Rattle.dsql_engine_going.proofs.laws_work.Lines.{entry_with, same_parts}
use Rattle.dsql_engine_going.proofs.laws_work.Rows.{not_true}
use Rattle.dsql_engine_going.proofs.laws.Tests.{both, same_itself, same_number}
use Rattle.dsql_engine_going.specs.history.declared.event.Event.{Event}
use Rattle.dsql_engine_going.specs.history.declared.event.Event.TheVariants.{Heard}
use Rattle.dsql_engine_going.specs.history.declared.work.Scope.{Scope}
use Rattle.dsql_engine_going.specs.history.declared.work.Scope.TheVariants as scopes
use Rattle.dsql_engine_going.specs.history.declared.work.Work.{Work}
use Rattle.dsql_engine_going.specs.history.declared.work.Work.TheVariants as works
use Rattle.dsql_engine_going.specs.history.declared.work.Task.TheVariants.{HandOut}
use Rattle.dsql_engine_going.specs.history.declared.work.Work.TheVariants.{Statement, Fetch}
use Rattle.dsql_engine_going.specs.history.Readers.HandedOut.{handed_out, rows_by}
use Rattle.dsql_engine_going.specs.history.Readers.Journals.{journal}
use Rattle.dsql_engine_going.specs.history.Readers.Lines.{is_about}
use Rattle.dsql_engine_going.specs.history.Readers.Owed.{owed}
use Rattle.dsql_engine_going.specs.history.Readers.Pool.{place, pool}
use Rattle.dsql_engine_going.specs.history.Readers.Transactions.{is_begun, transactions}
use Rattle.dsql_engine_going.specs.history.Readers.Works.{asks, hands_out_in, is_in, scope, work}
use Rattle.dsql_engine_going.specs.history.Rules.Course.{keeps_course}
use Rattle.dsql_engine_going.specs.history.Rules.Line.{may_come, sends_from}
use Rattle.dsql_engine_going.specs.history.Rules.Moves.{hears_in, is_house_entry, keeps_sets}
use Rattle.dsql_engine_going.specs.history.Rules.Order.{follows}
use Rattle.dsql_engine_going.specs.history.Rules.Settled.{Settled}
use Rattle.dsql_engine_going.specs.history.Legal.{Allowed, Lawful}
use Rattle.dsql_laws_tenures.specs.Tenures.{made_by}
use Rattle.dsql_engine_going.specs.laws_calls.UnderWay.{StaysWithItsCall}
use Rattle.dsql_engine_going.proofs.laws_calls.Beginnings.{asking}
use Rattle.dsql_engine_going.proofs.laws_calls.Begun.{begun_begins}
use Rattle.dsql_engine_going.proofs.laws_calls.Coming.{sound, stays_with_its_call}
use Rattle.dsql_engine_going.proofs.laws_calls.Ends.{zero_work}
use Rattle.dsql_engine_going.proofs.laws_calls.FirstAnswers.{follows_connect}
use Rattle.dsql_engine_going.proofs.laws_calls.Own.{asks_own}
use Rattle.dsql_engine_going.proofs.laws_calls.Owners.{same_owner_is}
use Rattle.dsql_engine_going.proofs.laws_calls.Plain.{begins}
use Rattle.dsql_engine_going.proofs.laws_calls.RowsKept.{rows_fetched}
use Rattle.dsql_engine_going.proofs.laws_calls.RowsNew.{rows_new}
use Rattle.dsql_engine_going.proofs.laws_calls.UnderWay.{clash}
use Rattle.dsql_engine_going.specs.laws_due.Carried.{carried}
use Rattle.dsql_engine_going.proofs.laws_due.Came.{Came, came, InnerWay}
use Rattle.dsql_engine_going.proofs.laws_due.CallWays.{call_unbegun}
use Rattle.dsql_engine_going.proofs.laws_due.Following.{follows_due, follows_shut}
use Rattle.dsql_engine_going.proofs.laws_due.Kept.{holds}
use Rattle.dsql_engine_going.proofs.laws_due.LineFacts.{line_about}
use Rattle.dsql_engine_going.proofs.laws_due.Ways.{owner_begins}
use Rattle.dsql_engine_going.specs.effects.Heard.{HearsBegin, HearsRows}
use Rattle.dsql_engine_going.proofs.Replying.{settled_owes}
use Rattle.dsql_engine_going.proofs.Settling.{settled_but_none}
use Rattle.dsql_engine_hearing.specs.declared.hear.Hearing.{Hearing}
use Rattle.dsql_engine_going.specs.desk.Appending.{DecidesNow}
use Rattle.dsql_engine_hearing.specs.Hearing.{IsWelcome, MayHear}

-- The answer fits its driver call and doesn't report a lack of memory.

fitting : (J : List Entry) (e : Entry) → fits_at_its_place J e ≡ true → (fits_of e.call e.answer ≡ true) × (is_memory e.answer ≡ false)
fitting J e h =
    let p = parts5 (is_heard e) (is_fitting e) (gives_new_handle J e) (gives_new_cursor J e) (has_width_of_cursor J e) h in
    (p.1, not_true (is_memory e.answer) p.0)

-- The layer's own entries.

connect_only : (q : DriverCall) → is_connect q ≡ true → q ≡ Connect
connect_only Connect h = refl
connect_only q h = absurd cc

shut_only : (q : DriverCall) → is_shut q ≡ true → q ≡ Shut
shut_only Shut h = refl
shut_only q h = absurd cc

house_only : (o : Owner) → is_house o ≡ true → o ≡ House
house_only House h = refl
house_only _ h = absurd cc

-- Holds if the entry is of the layer's own driver call, on a connection that isn't lent.
record IsOfHouse (e : Entry) (t : ℕ) (q : DriverCall) : Type 0 where
  pub number : e.call_no ≡ 0
  pub call : e.call ≡ q
  pub entry : e ≡ house_entry e.conn t q e.answer

house_of : (e : Entry) (t : ℕ) (q : DriverCall) → e.tx ≡ carried e.owner e.call e.answer → e.call ≡ q → ((e.tenure == t) && is_house_entry e) ≡ true → IsOfHouse e t q
house_of e t q carries call h =
    let a = both (e.tenure == t) (is_house_entry e) h in
    let b = both (is_house e.owner) (e.call_no == 0) a.1 in
    let number = same_number e.call_no 0 b.1 in
    let house = house_only e.owner b.0 in
    let none : e.tx ≡ 0 = carries ∙ ap (λ o. carried o e.call e.answer) house in
    let parts : e ≡ entry_with e.conn t House 0 0 e.call e.answer
    = same_parts e.conn e.conn e.tenure t e.call_no 0 e.tx 0 e.owner House e.call e.answer refl (same_number e.tenure t a.0) house number none in
    record { number = number; call = call; entry = parts ∙ ap (λ r. entry_with e.conn t House 0 0 r e.answer) call }

opened_by : (H : List Event) (e : Entry) (wanted : Option Owner) → e.tx ≡ carried e.owner e.call e.answer → hears_in (pool H) (Some (Opening wanted)) e ≡ true → IsOfHouse e 1 Connect
opened_by H e wanted carries h =
    let a = both (is_connect e.call) ((e.tenure == 1) && is_house_entry e) h in
    house_of e 1 Connect carries (connect_only e.call a.0) a.1

shut_by : (H : List Event) (e : Entry) → e.tx ≡ carried e.owner e.call e.answer → hears_in (pool H) (Some Closing) e ≡ true → IsOfHouse e (next_tenure (pool H) e.conn) Shut
shut_by H e carries h =
    let a = both (is_shut e.call) ((e.tenure == next_tenure (pool H) e.conn) && is_house_entry e) h in
    house_of e (next_tenure (pool H) e.conn) Shut carries (shut_only e.call a.0) a.1

-- The owner of the connection owns the entry.
owner_there : (H : List Event) (e : Entry) (it : StaysWithItsCall H e) → keeps_sets H (Heard e) ≡ true → e.owner ≡ it.owner
owner_there H e it sets =
    let hears : hears_in (pool H) (Some (Lent e.tenure it.owner)) e ≡ true = subst (λ at. hears_in (pool H) at e ≡ true) it.lent sets in
    let a = both (not (is_connect e.call || is_shut e.call)) ((e.tenure == e.tenure) && same_owner e.owner it.owner) hears in
    let b = both (e.tenure == e.tenure) (same_owner e.owner it.owner) a.1 in
    same_owner_is e.owner it.owner b.1

-- The entry may follow in the journal.

follows_lent : (H : List Event) (e : Entry) → Lawful H → IsWelcome H e → may_come H e ≡ true → may_follow (journal H e.conn) e ≡ true
follows_lent H e l w may =
    let it = stays_with_its_call H e l may in
    let there : place H e.conn ≡ Some (Lent e.tenure e.owner) = it.lent ∙ ap (λ o. Some (Lent e.tenure o)) (sym (owner_there H e it w.sets)) in
    follows_due H e l may there w.carries w.fits

follows_house : (H : List Event) (e : Entry) (t : ℕ) (q : DriverCall) → IsOfHouse e t q → fits_at_its_place (journal H e.conn) e ≡ true
    → (fits_of q e.answer ≡ true → is_memory e.answer ≡ false → may_follow (journal H e.conn) (house_entry e.conn t q e.answer) ≡ true) → may_follow (journal H e.conn) e ≡ true
follows_house H e t q it fits follows =
    let a = fitting (journal H e.conn) e fits in
    ap (may_follow (journal H e.conn)) it.entry ∙ follows (ap (λ r. fits_of r e.answer) (sym it.call) ∙ a.0) a.1

follows_at : (H : List Event) (e : Entry) (at : Option Place) → Lawful H → owed H ≡ [] → IsWelcome H e → place H e.conn ≡ at → hears_in (pool H) at e ≡ true → sends_from H at e ≡ true
    → may_follow (journal H e.conn) e ≡ true
follows_at H e (Some (Lent t o)) l owing w is hears sends = follows_lent H e l w sends
follows_at H e (Some (Opening wanted)) l owing w is hears sends =
    follows_house H e 1 Connect (opened_by H e wanted w.carries hears) w.fits (λ fits heard. follows_connect H e.conn wanted e.answer l owing is fits heard)
follows_at H e (Some Closing) l owing w is hears sends =
    follows_house H e (next_tenure (pool H) e.conn) Shut (shut_by H e w.carries hears) w.fits (λ fits heard. follows_shut H e.conn e.answer l owing is fits heard)
follows_at H e (Some Idle) l owing w is hears sends = absurd cc
follows_at H e None l owing w is hears sends = absurd cc

course_heard : (H : List Event) (e : Entry) → is_empty H ≡ false → keeps_course H (Heard e) ≡ true
course_heard [] e begun = absurd cc
course_heard (x ∷ H) e begun = refl

allowed_heard : (H : List Event) (e : Entry) → Lawful H → Settled H → is_empty H ≡ false → IsWelcome H e → Allowed H (Heard e)
unfolding Allowed
allowed_heard H e l s begun w =
    let owing = settled_owes H 0 (settled_but_none H s) in
    record {
      course = course_heard H e begun;
      numbers = refl;
      sets = w.sets;
      limit = refl;
      asking = refl;
      order = ap (λ ms. follows ms (Heard e)) owing;
      causes = refl;
      line = w.line;
      journals = follows_at H e (place H e.conn) l owing w refl w.sets w.line;
      replies = refl;
    }

-- A query makes its rows once.

-- A call hands out rows in the transaction in which it works.
hands_inside : (it : Scope) (k : ℕ) → it ≡ scopes.Held k → is_in k it ≡ true
hands_inside scopes.Db k h = absurd cc
hands_inside (scopes.Held j) k h = let same : j ≡ k = cc in ap (λ i. i == k) same ∙ same_itself k

-- A call that hands out rows asks for a connection of its own or works in a transaction.
asks_or_inside : (it : Scope) (label : List ℕ) → asks (Statement it (HandOut label)) ≡ false → scope (Statement it (HandOut label)) ≡ scopes.Db → true ≡ false
asks_or_inside scopes.Db label h k = h
asks_or_inside (scopes.Held j) label h k = absurd cc

-- In a transaction, a Query is of rows that weren't made yet, because what is sent over made rows is about
-- their cursor.
rows_new_inside : (H : List Event) (e : Entry) (own : Owner) (it : Scope) (label : List ℕ) (input : Input) (params : List Param) → Lawful H → may_come H e ≡ true → place H e.conn ≡ Some (Lent e.tenure own) → is_call own ≡ false
    → work H e.call_no ≡ Statement it (HandOut label) → e.call ≡ Query input params → is_some (rows_by H e.call_no) ≡ false
rows_new_inside H e own it label input params l may is other its query = by (came H e own l (sound H l) (holds H l) may is other)
  where
    within : InnerWay H e.conn e.tenure own e.call_no e.call → (b : Bool) → is_some (rows_by H e.call_no) ≡ b → b ≡ false
    within w false made = refl
    within w true made =
        let way = w.way in
        let h = holds H l in
        let kept = h.kept in
        let hands : hands_out_in (number_of own) (work H e.call_no) ≡ true = ap (hands_out_in (number_of own)) its ∙ hands_inside it (number_of own) (sym (ap scope its) ∙ w.inner) in
        let given = kept.handed e.conn e.tenure own is e.call_no hands made in
        let about = line_about H e.conn e.tenure e.call_no own wishes.Nothing e.call kept is other w.inner given way.due in
        clash (sym about ∙ ap (is_about (made_by e.call_no e.tenure (journal H e.conn))) query)

    by : Came H e.conn e.tenure own e.call_no e.call → is_some (rows_by H e.call_no) ≡ false
    by (inl w) = clash (sym (owner_begins H e.conn e.tenure own l is other) ∙ (ap (λ i. begins (work H i)) w.itself ∙ ap begins its))
    by (inr (inl w)) = within w (is_some (rows_by H e.call_no)) refl
    by (inr (inr w)) = let o = w.other in clash (asks_or_inside it label (sym (ap asks its) ∙ o.asks_none) (sym (ap scope its) ∙ o.outside))

rows_new_lent : (H : List Event) (e : Entry) (it : Scope) (label : List ℕ) (input : Input) (params : List Param) → Lawful H → may_come H e ≡ true → work H e.call_no ≡ Statement it (HandOut label) → e.call ≡ Query input params
    → is_some (rows_by H e.call_no) ≡ false
rows_new_lent H e it label input params l may its query = let u = stays_with_its_call H e l may in by u.owner u.lent (is_call u.owner) refl
  where
    by : (own : Owner) → place H e.conn ≡ Some (Lent e.tenure own) → (b : Bool) → is_call own ≡ b → is_some (rows_by H e.call_no) ≡ false
    by own is true call = ap (λ o. is_some o) (rows_new H e own input params l may is call query)
    by own is false other = rows_new_inside H e own it label input params l may is other its query

-- A fetch is of rows that were made.
rows_lent : (H : List Event) (e : Entry) (it : Work) (q : DriverCall) → Lawful H → may_come H e ≡ true → work H e.call_no ≡ it → e.call ≡ q → HearsRows it e.call_no q (handed_out H)
rows_lent H e (Statement sc (HandOut label)) (Query input params) l may its call = rows_new_lent H e sc label input params l may its call
rows_lent H e (Fetch k) (Next cursor) l may its call = rows_fetched H e k l may its
rows_lent H e _ q l may its call = tt

rows_opened : (H : List Event) (it : Work) (n : ℕ) → HearsRows it n Connect (handed_out H)
rows_opened H (Statement sc (HandOut label)) n = tt
rows_opened H (Fetch k) n = tt
rows_opened H it n = tt

rows_shut : (H : List Event) (it : Work) (n : ℕ) → HearsRows it n Shut (handed_out H)
rows_shut H (Statement sc (HandOut label)) n = tt
rows_shut H (Fetch k) n = tt
rows_shut H it n = tt

rows_at : (H : List Event) (e : Entry) (at : Option Place) → Lawful H → e.tx ≡ carried e.owner e.call e.answer → hears_in (pool H) at e ≡ true → sends_from H at e ≡ true
    → HearsRows (work H e.call_no) e.call_no e.call (handed_out H)
rows_at H e (Some (Lent t o)) l carries hears sends = rows_lent H e (work H e.call_no) e.call l sends refl refl
rows_at H e (Some (Opening wanted)) l carries hears sends =
    let it = opened_by H e wanted carries hears in
    subst (λ q. HearsRows (work H e.call_no) e.call_no q (handed_out H)) (sym it.call) (rows_opened H (work H e.call_no) e.call_no)
rows_at H e (Some Closing) l carries hears sends =
    let it = shut_by H e carries hears in
    subst (λ q. HearsRows (work H e.call_no) e.call_no q (handed_out H)) (sym it.call) (rows_shut H (work H e.call_no) e.call_no)
rows_at H e (Some Idle) l carries hears sends = absurd cc
rows_at H e None l carries hears sends = absurd cc

-- A call begins its transaction once, and sends nothing more.

unbegun_there : (H : List Event) (e : Entry) (own : Owner) → Lawful H → may_come H e ≡ true → place H e.conn ≡ Some (Lent e.tenure own) → number_of own ≡ e.call_no → begins (work H e.call_no) ≡ true → is_begun H e.call_no ≡ false
unbegun_there H e own l may is number begin = by (is_call own) refl
  where
    of_call : is_call own ≡ true → (b : Bool) → is_begun H e.call_no ≡ b → b ≡ false
    of_call call true begun = call_unbegun H e.conn e.tenure own l is call (ap (is_begun H) number ∙ begun)
    of_call call false begun = refl

    begins_outside : (w : Work) → begins w ≡ true → (k : ℕ) → scope w ≡ scopes.Held k → true ≡ false
    begins_outside (works.Begin label level read_only) h k inner = absurd cc
    begins_outside w h k inner = absurd cc

    of_tx : Came H e.conn e.tenure own e.call_no e.call → is_begun H e.call_no ≡ false
    of_tx (inl w) = ap (is_begun H) (sym w.itself) ∙ w.unbegun
    of_tx (inr (inl w)) = clash (begins_outside (work H e.call_no) begin (number_of own) w.inner)
    of_tx (inr (inr w)) = let o = w.other in clash (sym (asking (work H e.call_no) begin) ∙ o.asks_none)

    by : (b : Bool) → is_call own ≡ b → is_begun H e.call_no ≡ false
    by true call = of_call call (is_begun H e.call_no) refl
    by false other = of_tx (came H e own l (sound H l) (holds H l) may is other)

unbegun : (H : List Event) (e : Entry) → Lawful H → may_come H e ≡ true → is_begun H e.call_no ≡ false
unbegun H e l may = by (is_begun H e.call_no) refl
  where
    there : is_begun H e.call_no ≡ true → is_begun H e.call_no ≡ false
    there begun =
        let begin = begun_begins H e.call_no l begun in
        let some : e.call_no ≢ 0 = λ none. clash (sym begin ∙ (ap (λ i. begins (work H i)) none ∙ ap begins (zero_work H))) in
        let u = stays_with_its_call H e l may in
        let number : number_of u.owner ≡ e.call_no = sym (u.used some) ∙ asks_own H e.call_no (asking (work H e.call_no) begin) in
        unbegun_there H e u.owner l may u.lent number begin

    by : (b : Bool) → is_begun H e.call_no ≡ b → is_begun H e.call_no ≡ false
    by true begun = there begun
    by false begun = begun

begin_lent : (H : List Event) (e : Entry) (q : DriverCall) → Lawful H → may_come H e ≡ true → HearsBegin e.call_no q (transactions H)
begin_lent H e (Begin level read_only) l may = unbegun H e l may
begin_lent H e q l may = tt

begin_at : (H : List Event) (e : Entry) (at : Option Place) → Lawful H → e.tx ≡ carried e.owner e.call e.answer → hears_in (pool H) at e ≡ true → sends_from H at e ≡ true → HearsBegin e.call_no e.call (transactions H)
begin_at H e (Some (Lent t o)) l carries hears sends = begin_lent H e e.call l sends
begin_at H e (Some (Opening wanted)) l carries hears sends = let it = opened_by H e wanted carries hears in subst (λ q. HearsBegin e.call_no q (transactions H)) (sym it.call) tt
begin_at H e (Some Closing) l carries hears sends = let it = shut_by H e carries hears in subst (λ q. HearsBegin e.call_no q (transactions H)) (sym it.call) tt
begin_at H e (Some Idle) l carries hears sends = absurd cc
begin_at H e None l carries hears sends = absurd cc

pub may_hear : (H : List Event) (e : Entry) (ready : Hearing) → Lawful H → Settled H → is_empty H ≡ false → IsWelcome H e → DecidesNow H e ready.copy ready.reply → MayHear H e ready
may_hear H e ready l s begun w r = record {
  settled = s;
  allowed = allowed_heard H e l s begun w;
  rows = rows_at H e (place H e.conn) l w.carries w.sets w.line;
  begin = begin_at H e (place H e.conn) l w.carries w.sets w.line;
  decides = r;
}

pub house_number : (H : List Event) (e : Entry) (at : Option Place) → e.tx ≡ carried e.owner e.call e.answer → is_lent at ≡ false → hears_in (pool H) at e ≡ true → e.call_no ≡ 0
house_number H e (Some (Opening wanted)) carries off hears = let it = opened_by H e wanted carries hears in it.number
house_number H e (Some Closing) carries off hears = let it = shut_by H e carries hears in it.number
house_number H e _ carries off hears = absurd cc
