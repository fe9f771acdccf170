-- What a connection that leaves its call or its transaction leaves of the other connections, and of what is due
-- for each call. Nothing is due for the calls that used it, before or after, and the other calls have their
-- connections as before.
use Rattle.std.proofs.Common.{◌≡◌, ◌≢◌, ℕ, ◌==◌, ◌⊎◌, inl, inr, Bool, true, false, ◌&&◌, cond, List, [], ◌∷◌, Option, Some, None, is_some, nat_le, refl, sym, ap, ◌∙◌}
use Rattle.std.specs.Prelude.{find}
use Rattle.std.specs.List.{list_any}
use Rattle.std.specs.Option.{option_map}
use Rattle.dsql_laws_calls.specs.course.declared.course.Wish.{Wish}
use Rattle.dsql_laws_calls.specs.course.declared.course.Wish.TheVariants as wishes
use Rattle.dsql_laws_calls.specs.driver.declared.call.DriverCall.{DriverCall}
use Rattle.dsql_laws_calls.specs.journal.declared.entry.Owner.{Owner}
use Rattle.dsql_laws_calls.specs.journal.Kinds.{number_of}
use Rattle.dsql_laws_calls.specs.wait.Requests.{waits}
use Rattle.dsql_laws_calls.specs.pool.declared.conn.Conn.{Conn}
use Rattle.dsql_laws_calls.specs.pool.declared.conn.Place.{Place}
use Rattle.dsql_laws_calls.specs.pool.declared.conn.Place.TheVariants.{Lent, Opening}
use Rattle.dsql_laws_calls.specs.pool.declared.moves.Move.{Move}
use Rattle.dsql_laws_calls.specs.pool.Changes.{conn_changed}
use Rattle.dsql_laws_calls.specs.pool.Places.{conn_of, is_for, is_lent}
use Rattle.dsql_laws_calls.proofs.pool.Found.{found_changed}
use Rattle.dsql_laws_calls.specs.history.Readers.Pool.{is_home, or_none, smallest, pool, place, home}
use Rattle.dsql_laws_calls.proofs.laws.Places.{neither, none_opens}
use Rattle.dsql_laws_calls.proofs.laws.Tests.{other_number, same_number}
use Rattle.dsql_laws_calls.proofs.laws.Wanted.{none_wanted}
use Rattle.dsql_laws_calls.proofs.Cases.{true_false}
use Rattle.dsql_laws_calls.proofs.Found.{place_in, uses_in, changed_off}
use Rattle.dsql_laws_calls.proofs.laws_work.Rows.{same_or_not}
use Rattle.dsql_laws_others.proofs.Once.{found_number, found_some}
use Rattle.dsql_laws_calls.specs.history.declared.event.Event.{Event}
use Rattle.dsql_laws_calls.specs.history.declared.event.Event.TheVariants.{Heard, Pool}
use Rattle.dsql_laws_calls.specs.history.declared.work.Work.{Work}
use Rattle.dsql_laws_calls.specs.history.declared.work.Work.TheVariants.{Fetch, Close}
use Rattle.dsql_laws_calls.specs.history.Readers.Calls.{has_begun_to_send}
use Rattle.dsql_laws_calls.specs.history.Readers.Course.{caps}
use Rattle.dsql_laws_calls.specs.history.Readers.HandedOut.{rows_by, are_over}
use Rattle.dsql_laws_calls.specs.history.Readers.Journals.{journal}
use Rattle.dsql_laws_calls.specs.history.Readers.Lines.{has_sent}
use Rattle.dsql_laws_calls.specs.history.Readers.Transactions.{tx_end}
use Rattle.dsql_laws_calls.specs.history.Readers.Tries.{tries}
use Rattle.dsql_laws_calls.specs.history.Readers.Unfinished.{is_unfinished}
use Rattle.dsql_laws_calls.specs.history.Readers.Works.{works, work, borrower}
use Rattle.dsql_laws_calls.specs.history.Rules.Ending.{ending}
use Rattle.dsql_laws_calls.specs.history.Rules.Line.{due_in, due_for, is_used}
use Rattle.dsql_laws_calls.specs.history.Rules.Sent.{line_at, line_of, wish, sent_for, close_due}
use Rattle.dsql_laws_calls.specs.history.Rules.Stands.{is_own_step}
use Rattle.dsql_laws_calls.specs.history.Legal.{Lawful}
use Rattle.dsql_laws_callers.proofs.Homes.{home_owner}
use Rattle.dsql_laws_calls.proofs.BeginningsAt.{heard_same}
use Rattle.dsql_laws_calls.proofs.Begun.{over_begun}
use Rattle.dsql_laws_calls.proofs.Born.{heard_open}
use Rattle.dsql_laws_calls.proofs.DueLent.{none_due_unlent}
use Rattle.dsql_laws_calls.proofs.DueWay.{borrow_same}
use Rattle.dsql_laws_calls.proofs.LiveRows.{over_some}
use Rattle.dsql_laws_calls.proofs.Makers.{rows_hand_out}
use Rattle.dsql_laws_calls.proofs.Owners.{at_home}
use Rattle.dsql_laws_calls.proofs.UnderWay.{ending_over, left_of}
use Rattle.dsql_laws_calls.proofs.Wanted.{lent_wants_none}
use Rattle.dsql_laws_calls.proofs.Why.{tx_used}
use Rattle.dsql_laws_others.proofs.Alike.{Concerns, Alike, due_alike, first_alike, closing_alike, ends_alike}
use Rattle.dsql_laws_others.proofs.Homes.{HomeStays, no_line, no_ending, line_by_home, move_alike}
use Rattle.dsql_laws_others.proofs.LentOthers.{unmade, is_rows, rows_in}
use Rattle.dsql_laws_others.proofs.LentStands.{found_same}
use Rattle.dsql_laws_others.proofs.Numbers.{none_zero}
use Rattle.dsql_laws_others.proofs.Due.{due_keeps, over_keeps}
use Rattle.dsql_laws_others.proofs.OnceLeft.{once}

-- A move of a lent connection that isn't in use. After the move the connection is lent to nobody and opened for
-- nobody.
pub record Leaving (H : List Event) (m : Move) : Type 0 where
  pub conn : ℕ
  pub tenure : ℕ
  pub owner : Owner
  pub lawful : Lawful (Pool m ∷ H)
  pub lent : place H conn ≡ Some (Lent tenure owner)
  pub unused : is_used H (number_of owner) ≡ false
  pub change : Conn → Conn
  pub number : (x : Conn) → (change x).number ≡ x.number
  pub conns : (pool (Pool m ∷ H)).conns ≡ conn_changed conn change (pool H).conns
  pub homeless : (n : ℕ) (x : Conn) → is_home n (change x).place ≡ false
  pub unopened : (n : ℕ) (x : Conn) → is_for n (change x).place ≡ false
  pub unlent : (x : Conn) → is_lent (Some (change x).place) ≡ false
  pub waiting : (pool (Pool m ∷ H)).waiting ≡ (pool H).waiting
  pub tried : (n : ℕ) → tries (Pool m ∷ H) n ≡ tries H n
  pub own : (n : ℕ) → is_own_step (Pool m ∷ H) n ≡ is_own_step H n

none_by : (d : Option DriverCall) → (is_some d ≡ true → ⊥) → d ≡ None
none_by None h = refl
none_by (Some q) h = absurd (h refl)

-- Where the connections are.

pub conn_beside : (H : List Event) (m : Move) (x : Leaving H m) (d : ℕ) → d ≢ x.conn → conn_of d (pool (Pool m ∷ H)).conns ≡ conn_of d (pool H).conns
conn_beside H m x d apart = ap (conn_of d) x.conns ∙ changed_off x.conn d x.change (pool H).conns x.number apart

pub conn_after : (H : List Event) (m : Move) (x : Leaving H m) → conn_of x.conn (pool (Pool m ∷ H)).conns ≡ option_map x.change (conn_of x.conn (pool H).conns)
conn_after H m x = ap (conn_of x.conn) x.conns ∙ found_changed x.conn x.change x.number (pool H).conns

-- The connection was lent before.
lent_conn : (H : List Event) (m : Move) (x : Leaving H m) (y : Conn) → conn_of x.conn (pool H).conns ≡ Some y → y.place ≡ Lent x.tenure x.owner
lent_conn H m x y is = one (sym (ap place_in is) ∙ x.lent)
  where
    one : Some y.place ≡ Some (Lent x.tenure x.owner) → y.place ≡ Lent x.tenure x.owner
    one k = cc

pub same_opening : (H : List Event) (m : Move) (x : Leaving H m) (n : ℕ) → smallest (is_for n) (pool (Pool m ∷ H)) ≡ smallest (is_for n) (pool H)
same_opening H m x n =
    ap (option_map (λ (y : Conn). y.number))
    (ap (find (λ y. is_for n y.place)) x.conns ∙ found_same (λ y. is_for n y.place) x.conn x.change (pool H).conns (λ y is. ap (is_for n) (lent_conn H m x y is)) (x.unopened n))

pub same_home : (H : List Event) (m : Move) (x : Leaving H m) (n : ℕ) → n ≢ number_of x.owner → smallest (is_home n) (pool (Pool m ∷ H)) ≡ smallest (is_home n) (pool H)
same_home H m x n apart =
    ap (option_map (λ (y : Conn). y.number))
    (ap (find (λ y. is_home n y.place)) x.conns
    ∙ found_same (λ y. is_home n y.place) x.conn x.change (pool H).conns (λ y is. ap (is_home n) (lent_conn H m x y is) ∙ other_number (number_of x.owner) n (λ same. apart (sym same))) (x.homeless n))

pub home_stays : (H : List Event) (m : Move) (x : Leaving H m) (n : ℕ) → n ≢ number_of x.owner → HomeStays H (Pool m ∷ H) n
home_stays H m x n apart =
    let away : home H n ≢ x.conn = λ same. apart (sym (home_owner H n x.conn x.tenure x.owner same x.lent)) in
    let beside = conn_beside H m x (home H n) away in
    record { homes = ap or_none (same_home H m x n apart); places = ap place_in beside; resets = ap (λ o. (caps H).resetter && nat_le 2 (uses_in o)) beside }

-- Its owner has no connection after the move.

pub left_homeless : (H : List Event) (m : Move) (x : Leaving H m) → smallest (is_home (number_of x.owner)) (pool (Pool m ∷ H)) ≡ None
left_homeless H m x = by (find test (pool (Pool m ∷ H)).conns) refl
  where
    i : ℕ
    i = number_of x.owner

    test : Conn → Bool
    test y = is_home (number_of x.owner) y.place

    wants_none : smallest (is_for (number_of x.owner)) (pool H) ≡ None
    wants_none =
        let l = x.lawful in
        let none = neither (waits (number_of x.owner) (pool H).waiting) (list_any (λ conn. is_for (number_of x.owner) conn.place) (pool H).conns) (none_wanted (number_of x.owner) (pool H) (lent_wants_none H x.conn x.tenure x.owner l.0 x.lent)) in
        none_opens (number_of x.owner) (pool H) none.1

    -- No other connection is the owner's.
    other : (y : Conn) → conn_of y.number (pool H).conns ≡ Some y → y.number ≢ x.conn → (p : Place) → y.place ≡ p → is_home (number_of x.owner) p ≡ true → ⊥
    other y found apart (Lent u o) at h =
        let l = x.lawful in
        let there : place H y.number ≡ Some (Lent u o) = ap place_in found ∙ ap Some at in
        let same : number_of o ≡ number_of x.owner = same_number (number_of o) (number_of x.owner) h in
        apart (sym (at_home H y.number u o l.0 there) ∙ (ap (home H) same ∙ at_home H x.conn x.tenure x.owner l.0 x.lent))
    other y found apart (Opening (Some o)) at h =
        let some : is_some (find (λ (z : Conn). is_for (number_of x.owner) z.place) (pool H).conns) ≡ true = found_some (λ z. is_for (number_of x.owner) z.place) y.number (pool H).conns y found (ap (is_for (number_of x.owner)) at ∙ h) in
        none_there (find (λ z. is_for (number_of x.owner) z.place) (pool H).conns) wants_none some
      where
        none_there : (o : Option Conn) → option_map (λ (z : Conn). z.number) o ≡ None → is_some o ≡ true → ⊥
        none_there None a b = cc
        none_there (Some z) a b = cc
    other y found apart _ at h = cc

    after : (y : Conn) (o : Option Conn) → conn_of x.conn (pool H).conns ≡ o → option_map x.change o ≡ Some y → test y ≡ true → ⊥
    after y None was now h = cc
    after y (Some z) was now h =
        let same : x.change z ≡ y = one now in
        true_false (test y) h (sym (ap test same) ∙ x.homeless (number_of x.owner) z)
      where
        one : Some (x.change z) ≡ Some y → x.change z ≡ y
        one k = cc

    at_all : (y : Conn) → conn_of y.number (pool (Pool m ∷ H)).conns ≡ Some y → test y ≡ true → (y.number ≡ x.conn) ⊎ (y.number ≢ x.conn) → ⊥
    at_all y found h (inl same) = after y (conn_of x.conn (pool H).conns) refl (sym (conn_after H m x) ∙ (ap (λ d. conn_of d (pool (Pool m ∷ H)).conns) (sym same) ∙ found)) h
    at_all y found h (inr apart) = other y (sym (conn_beside H m x y.number apart) ∙ found) apart y.place refl h

    by : (o : Option Conn) → find test (pool (Pool m ∷ H)).conns ≡ o → smallest (is_home (number_of x.owner)) (pool (Pool m ∷ H)) ≡ None
    by None is = ap (option_map (λ (y : Conn). y.number)) is
    by (Some y) is =
        let f = found_number test (pool (Pool m ∷ H)).conns y (once (Pool m ∷ H)) is in
        absurd (at_all y f.0 f.1 (same_or_not y.number x.conn))

left_home : (H : List Event) (m : Move) (x : Leaving H m) → home (Pool m ∷ H) (number_of x.owner) ≡ 0
left_home H m x = ap or_none (left_homeless H m x)

unlent_home : (H : List Event) (m : Move) (x : Leaving H m) → is_lent (place (Pool m ∷ H) (home (Pool m ∷ H) (number_of x.owner))) ≡ false
unlent_home H m x = ap (λ d. is_lent (place (Pool m ∷ H) d)) (left_home H m x) ∙ ap (λ o. is_lent (place_in o)) (none_zero (Pool m ∷ H))

-- Nothing was heard on connection 0.
pub silent_zero : (H : List Event) → Lawful H → journal H 0 ≡ []
silent_zero [] l = refl
silent_zero (Heard e ∷ H) l = by (e.conn == 0) refl (silent_zero H l.0)
  where
    by : (b : Bool) → (e.conn == 0) ≡ b → journal H 0 ≡ [] → cond b (e ∷ journal H 0) (journal H 0) ≡ []
    by true is rest =
        let same : e.conn ≡ 0 = same_number e.conn 0 is in
        absurd (heard_open H e l.1 (ap (place H) same ∙ ap place_in (none_zero H)))
    by false is rest = rest
silent_zero (e ∷ H) l = heard_same H e 0 refl ∙ silent_zero H l.0

-- The lines of other calls stay the same.

pub lines_off : (H : List Event) (m : Move) (x : Leaving H m) (n : ℕ) (w : Wish) → borrower H n ≢ number_of x.owner → line_of (Pool m ∷ H) n w ≡ line_of H n w
lines_off H m x n w apart = line_by_home H m n w (inl (home_stays H m x (borrower H n) apart))

lines_gone : (H : List Event) (m : Move) (x : Leaving H m) (n : ℕ) (w : Wish) → borrower H n ≡ number_of x.owner → line_of (Pool m ∷ H) n w ≡ None
lines_gone H m x n w uses =
    let K = Pool m ∷ H in
    ap (λ b. line_at K n w (home K b) (place K (home K b))) uses ∙ no_line K n w (home K (number_of x.owner)) (place K (home K (number_of x.owner))) (unlent_home H m x)

-- What ends transactions stays the same.

ended_before : (H : List Event) (m : Move) (x : Leaving H m) → ending H (number_of x.owner) ≡ None
ended_before H m x =
    let l = x.lawful in
    none_by (ending H (number_of x.owner))
    (λ some. true_false (is_used H (number_of x.owner))
    (tx_used H x.conn x.tenure x.owner l.0 x.lent (record { begun = over_begun H (number_of x.owner) (ending_over H (number_of x.owner) some); left = left_of H x.conn x.tenure x.owner l.0 x.lent some })) x.unused)

ended_after : (H : List Event) (m : Move) (x : Leaving H m) → ending (Pool m ∷ H) (number_of x.owner) ≡ None
ended_after H m x = no_ending (Pool m ∷ H) (number_of x.owner) (home (Pool m ∷ H) (number_of x.owner)) (tx_end H (number_of x.owner)) refl (unlent_home H m x)

closing_left : (H : List Event) (m : Move) (x : Leaving H m) (j : ℕ) → close_due (Pool m ∷ H) j ≡ close_due H j
closing_left H m x j = closing_alike H (Pool m ∷ H) j refl (λ over. by over (same_or_not (borrower H j) (number_of x.owner)))
  where
    by : are_over H j ≡ true → (borrower H j ≡ number_of x.owner) ⊎ (borrower H j ≢ number_of x.owner) → line_of (Pool m ∷ H) j wishes.Close ≡ line_of H j wishes.Close
    by over (inl uses) =
        let l = x.lawful in
        lines_gone H m x j wishes.Close uses
        ∙ sym (none_by (line_of H j wishes.Close) (λ line. true_false (is_used H (number_of x.owner)) (over_keeps H j x.conn x.tenure x.owner l.0 x.lent uses (over_some (rows_by H j) over) over line) x.unused))
    by over (inr apart) = lines_off H m x j wishes.Close apart

pub ending_left : (H : List Event) (m : Move) (x : Leaving H m) (k : ℕ) → ending (Pool m ∷ H) k ≡ ending H k
ending_left H m x k = by (same_or_not k (number_of x.owner))
  where
    by : (k ≡ number_of x.owner) ⊎ (k ≢ number_of x.owner) → ending (Pool m ∷ H) k ≡ ending H k
    by (inl same) = ap (ending (Pool m ∷ H)) same ∙ (ended_after H m x ∙ sym (ap (ending H) same ∙ ended_before H m x))
    by (inr apart) =
        let s = home_stays H m x k apart in
        ends_alike H (Pool m ∷ H) k refl s.homes s.places (record { first = first_alike H (Pool m ∷ H) k 0 (works H) (closing_left H m x); can = refl; heard = refl })

-- Nothing is due for calls that used the connection, before or after.

due_before : (H : List Event) (m : Move) (x : Leaving H m) (n : ℕ) → n ≢ 0 → borrower H n ≡ number_of x.owner → due_for H n ≡ None
due_before H m x n some uses =
    let l = x.lawful in
    none_by (due_for H n) (λ due. true_false (is_used H (number_of x.owner)) (due_keeps H n x.conn x.tenure x.owner l.0 (other_number n 0 some) x.lent uses due) x.unused)

due_gone : (H : List Event) (m : Move) (x : Leaving H m) (n : ℕ) → n ≢ 0 → borrower H n ≡ number_of x.owner → due_for (Pool m ∷ H) n ≡ None
due_gone H m x n some uses = none_due_unlent (Pool m ∷ H) n some (ap (λ j. is_lent (place (Pool m ∷ H) (home (Pool m ∷ H) j))) uses ∙ unlent_home H m x)

-- What is due for the other calls stays the same.

off_alike : (H : List Event) (m : Move) (x : Leaving H m) (n : ℕ) → borrower H n ≢ number_of x.owner → ((j : ℕ) → (work H n ≡ Fetch j) ⊎ (work H n ≡ Close j) → borrower H j ≢ number_of x.owner) → Alike H (Pool m ∷ H) n
off_alike H m x n apart rows = move_alike H m n (ending_left H m x) lines (inl (let s = home_stays H m x (borrower H n) apart in ap (λ d. has_sent n (journal H d)) s.homes))
  where
    lines : (j : ℕ) (w : Wish) → Concerns H n j → line_of (Pool m ∷ H) j w ≡ line_of H j w
    lines j w (inl same) = lines_off H m x j w (λ uses. apart (sym (ap (borrower H) same) ∙ uses))
    lines j w (inr its) = lines_off H m x j w (rows j its)

pub due_left : (H : List Event) (m : Move) (x : Leaving H m) (n : ℕ) → n ≢ 0 → due_for (Pool m ∷ H) n ≡ due_for H n
due_left H m x n some = by (same_or_not (borrower H n) (number_of x.owner))
  where
    K : List Event
    K = Pool m ∷ H

    other : borrower H n ≢ number_of x.owner → (it : Work) → work H n ≡ it → is_rows it ≡ false → due_for (Pool m ∷ H) n ≡ due_for H n
    other apart it is none = due_alike H (Pool m ∷ H) n (off_alike H m x n apart (λ j its. absurd (never j its)))
      where
        never : (j : ℕ) → (work H n ≡ Fetch j) ⊎ (work H n ≡ Close j) → ⊥
        never j (inl its) = true_false (is_rows it) (ap is_rows (sym is ∙ its)) none
        never j (inr its) = true_false (is_rows it) (ap is_rows (sym is ∙ its)) none

    rows : borrower H n ≢ number_of x.owner → (j : ℕ) → (work H n ≡ Fetch j) ⊎ (work H n ≡ Close j) → ((L : List Event) → due_in L n (work H n) ≡ sent_for L j (wish L n j)) → rows_in (work H n) ≡ j → (b : Bool) → is_some (rows_by H j) ≡ b
        → due_for (Pool m ∷ H) n ≡ due_for H n
    rows apart j its due its_rows false none =
        ap (λ d. cond (is_unfinished H n) d None) ((due (Pool m ∷ H) ∙ unmade (Pool m ∷ H) n j some none) ∙ sym (due H ∙ unmade H n j some none))
    rows apart j its due its_rows true made = due_alike H (Pool m ∷ H) n (off_alike H m x n apart (λ i which uses. apart (borrow_same H n j its (rows_hand_out H j made) ∙ (ap (borrower H) (one i which) ∙ uses))))
      where
        one : (i : ℕ) → (work H n ≡ Fetch i) ⊎ (work H n ≡ Close i) → j ≡ i
        one i (inl w) = sym its_rows ∙ ap rows_in w
        one i (inr w) = sym its_rows ∙ ap rows_in w

    off : borrower H n ≢ number_of x.owner → (it : Work) → work H n ≡ it → due_for (Pool m ∷ H) n ≡ due_for H n
    off apart (Fetch j) is = rows apart j (inl is) (λ L. ap (due_in L n) is) (ap rows_in is) (is_some (rows_by H j)) refl
    off apart (Close j) is = rows apart j (inr is) (λ L. ap (due_in L n) is) (ap rows_in is) (is_some (rows_by H j)) refl
    off apart it is = other apart it is refl

    by : (borrower H n ≡ number_of x.owner) ⊎ (borrower H n ≢ number_of x.owner) → due_for (Pool m ∷ H) n ≡ due_for H n
    by (inl uses) = due_gone H m x n some uses ∙ sym (due_before H m x n some uses)
    by (inr apart) = off apart (work H n) refl

-- A call that has begun to send after the move had begun before.

pub fewer_sent : (H : List Event) (m : Move) (x : Leaving H m) (n : ℕ) → has_begun_to_send (Pool m ∷ H) n ≡ true → has_begun_to_send H n ≡ true
fewer_sent H m x n h = by (same_or_not (borrower H n) (number_of x.owner))
  where
    by : (borrower H n ≡ number_of x.owner) ⊎ (borrower H n ≢ number_of x.owner) → has_begun_to_send H n ≡ true
    by (inl uses) =
        let l = x.lawful in
        let none : journal H (home (Pool m ∷ H) (borrower H n)) ≡ [] = ap (λ b. journal H (home (Pool m ∷ H) b)) uses ∙ (ap (journal H) (left_home H m x) ∙ silent_zero H l.0) in
        let clash : false ≡ true = sym (ap (has_sent n) none) ∙ h in
        absurd cc
    by (inr apart) = let s = home_stays H m x (borrower H n) apart in sym (ap (λ d. has_sent n (journal H d)) s.homes) ∙ h
