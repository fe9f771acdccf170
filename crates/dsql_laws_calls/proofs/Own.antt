-- A call that asks for a connection of its own has that connection while an answer to it is under way. It wants no
-- other.
use Rattle.std.proofs.Common.{◌≡◌, ℕ, ◌==◌, ◌⊎◌, inl, inr, Bool, true, false, not, ◌&&◌, ◌||◌, cond, List, [], ◌∷◌, Option, Some, None, is_some, refl, sym, ap, subst, ◌∙◌, arith}
use Rattle.std.proofs.lemmas.Bool.{or_cases}
use Rattle.dsql_laws.specs.driver.declared.call.DriverCall.{DriverCall}
use Rattle.dsql_laws.specs.course.declared.course.Wish.TheVariants as wishes
use Rattle.dsql_laws.specs.journal.declared.entry.Entry.{Entry}
use Rattle.dsql_laws.specs.journal.declared.entry.Owner.{Owner}
use Rattle.dsql_laws.specs.journal.Kinds.{number_of}
use Rattle.dsql_laws.specs.pool.declared.conn.Place.{Place}
use Rattle.dsql_laws.specs.pool.declared.conn.Place.TheVariants.{Lent}
use Rattle.dsql_laws.specs.rows.declared.rows.Rows.{Rows}
use Rattle.dsql_laws.specs.rows.OpenRows.{is_live}
use Rattle.dsql_laws_work.proofs.Rows.{not_true}
use Rattle.dsql_laws.specs.history.Readers.HandedOut.{live, rows_by, are_live}
use Rattle.dsql_laws.proofs.Tests.{both, same_number}
use Rattle.dsql_laws.proofs.Wanted.{wanted}
use Rattle.dsql_laws.specs.history.declared.event.Event.{Event}
use Rattle.dsql_laws.specs.history.declared.work.Scope.TheVariants.{Db}
use Rattle.dsql_laws.specs.history.declared.work.Work.{Work}
use Rattle.dsql_laws.specs.history.declared.work.Work.TheVariants.{Statement, Begin, Ping}
use Rattle.dsql_laws.specs.history.Readers.Unfinished.{is_unfinished}
use Rattle.dsql_laws.specs.history.Readers.Works.{work, asks, borrower}
use Rattle.dsql_laws.specs.history.Readers.Pool.{pool, place}
use Rattle.dsql_laws.specs.history.Readers.Transactions.{is_begun, is_over, goes_on}
use Rattle.dsql_laws.specs.history.Readers.Calls.{site}
use Rattle.dsql_laws.specs.history.Rules.Sent.{line_at, line_of}
use Rattle.dsql_laws.specs.history.Rules.Ending.{ending}
use Rattle.dsql_laws.specs.history.Rules.Line.{tidying, due_in, due_for, due_from, rest_with, rest, is_used, is_at, has_turn, is_due, is_due_at, parts, may_come}
use Rattle.dsql_laws.specs.history.Legal.{Lawful}
use Rattle.dsql_laws_calls.proofs.Owners.{lent_asks}
use Rattle.dsql_laws_calls.proofs.Lent.{stays_lent}
use Rattle.dsql_laws_calls.proofs.Stays.{not_looking, unfinished_stays}
use Rattle.dsql_laws_calls.proofs.Wanted.{lent_once, lent_wants_none}
use Rattle.dsql_laws_calls.proofs.Looks.{sent_no_look}
use Rattle.dsql_laws_calls.proofs.Works as of_works
use Rattle.dsql_laws_calls.proofs.AtEnd.{over_unlent}
use Rattle.dsql_laws_calls.proofs.Lines.{line_there, line_here, line_stays, unheard, closes_too}

pub some_due : (d : Option DriverCall) (q : DriverCall) → is_due d q ≡ true → is_some d ≡ true
some_due None q h = absurd cc
some_due (Some p) q h = refl

-- A call that asks for a connection uses its own.
pub asks_own : (H : List Event) (n : ℕ) → asks (work H n) ≡ true → borrower H n ≡ n
asks_own H n own = by (work H n) refl own
  where
    by : (w : Work) → work H n ≡ w → asks w ≡ true → borrower H n ≡ n
    by (Statement Db task) is h = rw is refl
    by (Begin label level read_only) is h = rw is refl
    by Ping is h = rw is refl
    by w is h = absurd cc

pub used_by : (H : List Event) (n : ℕ) (o : Option Rows) → rows_by H n ≡ o → is_begun H n ≡ false → (live o || is_some (rest_with H n o)) ≡ true → is_used H n ≡ true
used_by H n o rows unbegun h = with_begun (is_begun H n) unbegun (ap (λ p. live p || is_some (rest_with H n p)) rows ∙ h)
  where
    with_begun : (b : Bool) → b ≡ false → (are_live H n || is_some (rest_with H n (rows_by H n))) ≡ true → ((b && not (is_over H n)) || (are_live H n || is_some (cond b (ending H n) (rest_with H n (rows_by H n))))) ≡ true
    with_begun true wrong k = absurd cc
    with_begun false is k = k

pub going_used : (H : List Event) (n : ℕ) → goes_on H n ≡ true → is_used H n ≡ true
going_used H n h = ap (λ b. b || (are_live H n || is_some (rest H n))) h

-- A call that sends on its own connection keeps it in use.
pub own_used : (H : List Event) (c t : ℕ) (own : Owner) → Lawful H → place H c ≡ Some (Lent t own) → is_unfinished H (number_of own) ≡ true
    → is_some (line_there H c t own (number_of own) wishes.Nothing) ≡ true → is_used H (number_of own) ≡ true
own_used H c t own l is unfinished sends = by_begun (is_begun H n) (is_over H n) refl refl
  where
    n : ℕ
    n = number_of own

    at : borrower H (number_of own) ≡ number_of own
    at = asks_own H (number_of own) (lent_asks H c t own l is)

    over_rows : (r : Rows) (b : Bool) → is_live r ≡ b → (b || is_some (cond b None (line_of H (number_of own) wishes.Close))) ≡ true
    over_rows r true lives = refl
    over_rows r false lives = ap (λ d. is_some d) (line_here H c t own (number_of own) wishes.Close l is at) ∙ closes_too H c t own (number_of own) sends

    unbegun : (o : Option Rows) → rows_by H (number_of own) ≡ o → is_begun H (number_of own) ≡ false → is_used H (number_of own) ≡ true
    unbegun None rows not_begun = used_by H (number_of own) None rows not_begun (ap (λ d. is_some d) (line_here H c t own (number_of own) wishes.Nothing l is at) ∙ sends)
    unbegun (Some r) rows not_begun = used_by H (number_of own) (Some r) rows not_begun (over_rows r (is_live r) refl)

    by_begun : (b o : Bool) → is_begun H (number_of own) ≡ b → is_over H (number_of own) ≡ o → is_used H (number_of own) ≡ true
    by_begun false o not_begun over = unbegun (rows_by H (number_of own)) refl not_begun
    by_begun true false begun going = going_used H (number_of own) (ap (λ x. x && not (is_over H (number_of own))) begun ∙ ap (λ x. not x) going)
    by_begun true true begun over =
        let once = lent_once H c t own is in
        let none = over_unlent H (number_of own) l over unfinished in
        absurd (omega (arith, once, none))

-- Holds if the entry's driver call is under way on its call's own connection.
pub record OwnWay (H : List Event) (e : Entry) : Type 0 where
  pub owner : Owner
  pub lent : place H e.conn ≡ Some (Lent e.tenure owner)
  pub own : number_of owner ≡ e.call_no
  pub unfinished : is_unfinished H e.call_no ≡ true
  pub due : is_due (line_there H e.conn e.tenure owner (number_of owner) wishes.Nothing) e.call ≡ true

pub own_sends : (H : List Event) (e : Entry) → (u : OwnWay H e) → is_some (line_there H e.conn e.tenure u.owner (number_of u.owner) wishes.Nothing) ≡ true
own_sends H e u = some_due (line_there H e.conn e.tenure u.owner (number_of u.owner) wishes.Nothing) e.call u.due

pub due_line : (H : List Event) (m : ℕ) (w : Work) → asks w ≡ true → due_in H m w ≡ line_of H m wishes.Nothing
due_line H m (Statement Db task) own = refl
due_line H m (Begin label level read_only) own = refl
due_line H m Ping own = refl
due_line H m w own = absurd cc

pub due_own : (H : List Event) (m : ℕ) (w : Work) → asks w ≡ true → is_some (due_in H m w) ≡ true → is_some (line_of H m wishes.Nothing) ≡ true
due_own H m w own h = sym (ap (λ d. is_some d) (due_line H m w own)) ∙ h

-- What a call sends at a place goes out on the connection that the call uses.
pub at_its_own : (H : List Event) (m c t : ℕ) (o : Owner) → site H m ≡ c → place H c ≡ Some (Lent t o) → is_some (line_of H m wishes.Nothing) ≡ true → number_of o ≡ borrower H m
at_its_own H m c t o at is h = by (number_of o == borrower H m) refl (ap (λ d. is_some d) (sym here) ∙ h)
  where
    here : line_of H m wishes.Nothing ≡ cond (number_of o == borrower H m) (line_there H c t o m wishes.Nothing) None
    here = ap (λ d. line_at H m wishes.Nothing d (place H d)) at ∙ ap (λ p. line_at H m wishes.Nothing c p) is

    by : (b : Bool) → (number_of o == borrower H m) ≡ b → is_some (cond b (line_there H c t o m wishes.Nothing) None) ≡ true → number_of o ≡ borrower H m
    by true same k = same_number (number_of o) (borrower H m) same
    by false same k = absurd cc

second_true : (b : Bool) → (false || b) ≡ true → b ≡ true
second_true b h = h

-- What is known of an entry that is due.
pub record DueNow (H : List Event) (e : Entry) : Type 0 where
  pub owner : Owner
  pub lent : place H e.conn ≡ Some (Lent e.tenure owner)
  pub turn : has_turn H e.conn e.call_no ≡ true
  pub due : is_due (due_from H e.call_no (number_of owner)) e.call ≡ true
  pub site : (e.call_no == 0) ≡ false → site H e.call_no ≡ e.conn

pub due_now : (H : List Event) (e : Entry) → is_due_at H (place H e.conn) e ≡ true → DueNow H e
due_now H e h = by (place H e.conn) refl h
  where
    by : (p : Option Place) → place H e.conn ≡ p → is_due_at H p e ≡ true → DueNow H e
    by (Some (Lent t o)) is k =
        let a = both (e.tenure == t) (is_at H e.call_no e.conn && (has_turn H e.conn e.call_no && is_due (due_from H e.call_no (number_of o)) e.call)) k in
        let b = both (is_at H e.call_no e.conn) (has_turn H e.conn e.call_no && is_due (due_from H e.call_no (number_of o)) e.call) a.1 in
        let c = both (has_turn H e.conn e.call_no) (is_due (due_from H e.call_no (number_of o)) e.call) b.1 in
        record {
          owner = o;
          lent = is ∙ ap (λ u. Some (Lent u o)) (sym (same_number e.tenure t a.0));
          turn = c.0;
          due = c.1;
          site = λ some. same_number (site H e.call_no) e.conn (second_true (site H e.call_no == e.conn) (ap (λ x. x || (site H e.call_no == e.conn)) (sym some) ∙ b.0));
        }
    by _ is k = absurd cc

-- Holds if this driver call is due for call m, which has no reply yet.
pub record DueOf (H : List Event) (m : ℕ) (q : DriverCall) : Type 0 where
  pub unfinished : is_unfinished H m ≡ true
  pub due : is_due (due_in H m (work H m)) q ≡ true

pub due_of : (H : List Event) (m : ℕ) (q : DriverCall) → is_due (due_for H m) q ≡ true → DueOf H m q
due_of H m q h = by (is_unfinished H m) refl h
  where
    by : (b : Bool) → is_unfinished H m ≡ b → is_due (cond b (due_in H m (work H m)) None) q ≡ true → DueOf H m q
    by true is k = record { unfinished = is; due = k }
    by false is k = absurd cc

pub own_now : (H : List Event) (e : Entry) → Lawful H → (e.call_no == 0) ≡ false → asks (work H e.call_no) ≡ true → is_due_at H (place H e.conn) e ≡ true → OwnWay H e
own_now H e l some asking h =
    let d = due_now H e h in
    let m = e.call_no in
    let its : is_due (due_for H m) e.call ≡ true = ap (λ b. is_due (cond b (tidying H (number_of d.owner)) (due_for H m)) e.call) (sym some) ∙ d.due in
    let k = due_of H m e.call its in
    let sends : is_due (line_of H m wishes.Nothing) e.call ≡ true = sym (ap (λ x. is_due x e.call) (due_line H m (work H m) asking)) ∙ k.due in
    let at = at_its_own H m e.conn e.tenure d.owner (d.site some) d.lent (some_due (line_of H m wishes.Nothing) e.call sends) in
    let own : number_of d.owner ≡ m = at ∙ asks_own H m asking in
    record {
      owner = d.owner;
      lent = d.lent;
      own = own;
      unfinished = k.unfinished;
      due =
          subst (λ j. is_due (line_there H e.conn e.tenure d.owner j wishes.Nothing) e.call ≡ true) (sym own)
          (ap (λ x. is_due x e.call) (sym (line_here H e.conn e.tenure d.owner m wishes.Nothing l d.lent (sym at))) ∙ sends);
    }

pub own_stays : (H : List Event) (last : Event) (e : Entry) → Lawful (last ∷ H) → parts last e ≡ false → OwnWay H e → OwnWay (last ∷ H) e
own_stays H last e l on u =
    let n = number_of u.owner in
    let unfinished : is_unfinished H n ≡ true = ap (is_unfinished H) u.own ∙ u.unfinished in
    let used = own_used H e.conn e.tenure u.owner l.0 u.lent unfinished (own_sends H e u) in
    record {
      owner = u.owner;
      lent = stays_lent H last e.conn e.tenure u.owner l.0 l.1 u.lent used;
      own = u.own;
      unfinished = unfinished_stays H last e on u.unfinished;
      due =
          ap (λ x. is_due x e.call) (line_stays H last e.conn e.tenure u.owner n wishes.Nothing l.0 l.1 u.lent used (unheard H last e on) (not_looking (work H n) (lent_asks H e.conn e.tenure u.owner l.0 u.lent)))
          ∙ u.due;
    }

pub own_way : (H : List Event) (e : Entry) → Lawful H → may_come H e ≡ true → (e.call_no == 0) ≡ false → asks (work H e.call_no) ≡ true → OwnWay H e
own_way [] e l h some asking = absurd cc
own_way (last ∷ H) e l h some asking = by (λ may. own_way H e l.0 may some) (or_cases (is_due_at (last ∷ H) (place (last ∷ H) e.conn) e) (not (parts last e) && may_come H e) h)
  where
    by : (may_come H e ≡ true → asks (work H e.call_no) ≡ true → OwnWay H e) → (is_due_at (last ∷ H) (place (last ∷ H) e.conn) e ≡ true) ⊎ ((not (parts last e) && may_come H e) ≡ true) → OwnWay (last ∷ H) e
    by earlier (inl now) = own_now (last ∷ H) e l some asking now
    by earlier (inr could) =
        let b = both (not (parts last e)) (may_come H e) could in
        let same = of_works.work_stays H last e.call_no (sent_no_look H e b.1 some) in
        own_stays H last e l (not_true (parts last e) b.0) (earlier b.1 (sym (ap asks same) ∙ asking))

-- A call for which an answer is under way on its own connection wants no other.
pub sender_wants_none : (H : List Event) (e : Entry) → Lawful H → may_come H e ≡ true → (e.call_no == 0) ≡ false → asks (work H e.call_no) ≡ true → wanted e.call_no (pool H) ≡ 0
sender_wants_none H e l h some asking =
    let u = own_way H e l h some asking in
    ap (λ k. wanted k (pool H)) (sym u.own) ∙ lent_wants_none H e.conn e.tenure u.owner l u.lent
