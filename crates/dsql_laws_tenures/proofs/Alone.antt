-- If a tenure has its connection alone, what follows in it leaves it so.
use Rattle.std.proofs.Common.{◌≡◌, ◌≢◌, ℕ, ◌<◌, ◌≤◌, Bool, true, false, cond, not, ◌==◌, ◌&&◌, ◌||◌, List, [], ◌∷◌, refl}
use Rattle.std.specs.List.{list_all, list_any}
use native.Mathlib.Omega.{arith}
use Rattle.std.proofs.lemmas.Bool.Decides.{nat_tests}
use Rattle.dsql_history.specs.driver.declared.call.DriverCall.{DriverCall}
use Rattle.dsql_history.specs.driver.declared.call.DriverCall.TheVariants.{Shut}
use Rattle.dsql_history.specs.driver.Fits.{is_failure, is_invalid}
use Rattle.dsql_history.specs.driver.Kinds.{is_bad, is_connect, is_shut}
use Rattle.dsql_history.specs.journal.declared.entry.Entry.{Entry}
use Rattle.dsql_history.specs.journal.declared.entry.Owner.{Owner}
use Rattle.dsql_history.specs.journal.declared.entry.Owner.TheVariants.{Call, Tx, Pin, House}
use Rattle.dsql_history.specs.journal.Kinds.{◌⇒◌, is_house}
use Rattle.dsql_history.specs.journal.Readers.{is_empty, last_tenure, handles, cursors, of_tenure, of_transaction, was_refused, was_shut}
use Rattle.dsql_history.specs.journal.Tenure.{body as body_of, earlier, is_refused_begin, is_whole_tenure}
use Rattle.dsql_history.specs.journal.Journal.{may_follow, is_last_tenure_whole}
use Rattle.dsql_history.specs.journal.Facts.{KeepsBody, KeepsTransaction, MayFollow}
use Rattle.dsql_history.proofs.journal.Conjunctions.{join2, parts2, parts3}
use Rattle.dsql_history.proofs.journal.PlainJournals.{IsJournalPrefix-with}
use Rattle.dsql_history.proofs.journal.Sentences.{MayFollow-of}
use Rattle.dsql_history.proofs.journal.Tenures.{of_tenure-new}
use Rattle.dsql_history.proofs.journal.Wholes.{is_whole_tenure-later}
use Rattle.dsql_laws_tenures.proofs.Numbers.{impossible, is_itself, neither_of, same_number, true_false}
use Rattle.dsql_laws_tenures.specs.Connections.{IsOpen, IsAlone}
use Rattle.dsql_laws_tenures.proofs.Live.{cursors_there, handles_there}

-- The entry is on the connection of the other entries.
same_conn : (c : ℕ) (J : List Entry) (e : Entry) → list_all (λ x. x.conn == e.conn) J ≡ true → list_all (λ x. x.conn == c) J ≡ true → is_empty J ≡ false → (e.conn == c) ≡ true
same_conn c [] e same all some = absurd cc
same_conn c (x ∷ J) e same all some =
    let p = parts2 (x.conn == e.conn) (list_all (λ y. y.conn == e.conn) J) same in
    let q = parts2 (x.conn == c) (list_all (λ y. y.conn == c) J) all in
    grind (arith, nat_tests, p.0, q.0)

-- A Shut is in no transaction.
unshut : (J : List Entry) (e : Entry) → e.call ≡ Shut → KeepsTransaction J e → ⊥
unshut J e is keeps = by_first (is_empty (of_transaction e.tx J)) (rw is at keeps.begin_first) (rw is at keeps.kind)
  where
    by_first : (b : Bool) → b ⇒ false ≡ true → b || false || false || false ≡ true → ⊥
    by_first true first kind = impossible first
    by_first false first kind = impossible kind

is_zero : (n : ℕ) → (n == 0) ≡ false → n ≢ 0
is_zero n h is = absurd (true_false (n == 0) (rw is refl) h)

in_some : (alone : Bool) (n x : ℕ) (rest : Bool) → alone && false || not (n == 0) && (x == n) && rest ≡ true → (x == 0) ≡ false
in_some true n x rest h = let p = parts3 (not (n == 0)) (x == n) rest h in grind (arith, nat_tests, p.0, p.1)
in_some false n x rest h = let p = parts3 (not (n == 0)) (x == n) rest h in grind (arith, nat_tests, p.0, p.1)

-- A Shut is only in a tenure of the layer.
shut_alone : (o : Owner) (J : List Entry) (e : Entry) → e.call ≡ Shut → is_house o ≡ false → (e.tx ≢ 0 → KeepsTransaction J e) → KeepsBody o J e → ⊥
shut_alone (Call n) J e is house tx body = impossible (rw is at body.kind)
shut_alone (Tx n) J e is house tx body =
    unshut J e is (tx (is_zero e.tx (in_some (is_empty (body_of J e)) n e.tx (not (list_any is_refused_begin (earlier J e))) (rw is at body))))
shut_alone (Pin n) J e is house tx body = by_tx (e.tx == 0) refl
  where
    by_tx : (b : Bool) → (e.tx == 0) ≡ b → ⊥
    by_tx true zero = impossible (rw (zero, is) at body)
    by_tx false some = unshut J e is (tx (is_zero e.tx some))
shut_alone House J e is house tx body = absurd cc

shut_only : (q : DriverCall) → is_shut q ≡ true → q ≡ Shut
shut_only Shut h = refl
shut_only _ h = absurd cc

is_false : (b : Bool) → (b ≡ true → ⊥) → b ≡ false
is_false true h = absurd (h refl)
is_false false h = refl

connects : (b c : Bool) → b ≡ false → cond b c (not c) ≡ true → c ≡ false
connects true c off h = absurd cc
connects false true off h = absurd cc
connects false false off h = refl

not_connect : (c failed : Bool) → c ≡ false → c && failed ≡ false
not_connect true failed h = absurd cc
not_connect false failed h = refl

-- An entry that may follow on an open connection, and isn't the layer's, leaves it open.
pub open_on : (c : ℕ) (J : List Entry) (e : Entry) → IsOpen c J → may_follow J e ≡ true → is_house e.owner ≡ false → IsOpen c (e ∷ J)
open_on c J e o may house =
    let m : MayFollow J e = MayFollow-of J e may in
    let connect : is_connect e.call ≡ false = connects (is_empty J) (is_connect e.call) o.opened m.whole_journal.connect_first in
    let shut : is_shut e.call ≡ false = is_false (is_shut e.call) (λ is. let now = shut_only e.call is in shut_alone e.owner J e now house m.transaction (m.tenure.in_body (rw now refl))) in
    record {
      beginning = IsJournalPrefix-with e J o.beginning may;
      one_connection = join2 (e.conn == c) (list_all (λ x. x.conn == c) J) (same_conn c J e m.whole_journal.one_connection o.one_connection o.opened) o.one_connection;
      opened = refl;
      not_refused = neither_of (is_connect e.call && is_failure e.answer) (was_refused J) (not_connect (is_connect e.call) (is_failure e.answer) connect) o.not_refused;
      not_shut = neither_of (is_shut e.call) (was_shut J) shut o.not_shut;
    }

other_tenure : (t n : ℕ) → (n == t) ≡ false → not (t == n) ≡ true
other_tenure t n h = grind (arith, nat_tests, h)

either_way : (b c : Bool) → c ≡ true → b ⇒ c ≡ true
either_way true c h = h
either_way false c h = refl

-- A tenure that has its connection alone keeps it alone.
pub alone_on : (c t : ℕ) (J : List Entry) (e : Entry) → IsAlone c t J → may_follow J e ≡ true → e.tenure ≡ t → is_house e.owner ≡ false → IsAlone c t (e ∷ J)
alone_on c t J e s may at house =
    let here : (e.tenure == t) ≡ true = rw at (is_itself t) in
    record {
      is_open = open_on c J e s.is_open may house;
      rising = omega (arith, at);
      whole_elsewhere = λ n off. is_whole_tenure-later n e J (rw at (other_tenure t n off)) (s.whole_elsewhere n off);
      handles_here = handles_there t e e.call e.answer (handles J) here s.handles_here;
      cursors_here = cursors_there t e e.call e.answer (cursors J) here s.cursors_here;
      bad_here = join2 (is_bad e.answer ⇒ (e.tenure == t)) (list_all (λ x. is_bad x.answer ⇒ (x.tenure == t)) J) (either_way (is_bad e.answer) (e.tenure == t) here) s.bad_here;
      invalid_here = join2 (is_invalid e.answer ⇒ (e.tenure == t)) (list_all (λ x. is_invalid x.answer ⇒ (x.tenure == t)) J) (either_way (is_invalid e.answer) (e.tenure == t) here) s.invalid_here;
    }

-- If that tenure is whole, every tenure is whole.
pub each_whole : (c t n : ℕ) (J : List Entry) → IsAlone c t J → is_whole_tenure t J ≡ true → is_whole_tenure n J ≡ true
each_whole c t n J s whole = by_tenure (n == t) refl
  where
    by_tenure : (b : Bool) → (n == t) ≡ b → is_whole_tenure n J ≡ true
    by_tenure true is = rw (same_number n t is) whole
    by_tenure false is = s.whole_elsewhere n is

pub last_whole : (c t : ℕ) (J : List Entry) → IsAlone c t J → is_whole_tenure t J ≡ true → is_last_tenure_whole J ≡ true
last_whole c t J s whole = each_whole c t (last_tenure J) J s whole

equal : (n t : ℕ) → n ≤ t → (n < t → ⊥) → n ≡ t
equal n t below not_less = grind (arith, below, not_less)

-- Once something was heard in that tenure, it is the last one.
pub last_is : (c t : ℕ) (J : List Entry) → IsAlone c t J → is_empty (of_tenure t J) ≡ false → last_tenure J ≡ t
last_is c t J s some =
    let o = s.is_open in
    equal (last_tenure J) t s.rising (λ less. not_empty (of_tenure t J) (of_tenure-new t J o.beginning less) some)
  where
    not_empty : (L : List Entry) → L ≡ [] → is_empty L ≡ false → ⊥
    not_empty L none some = let k = rw none at some in cc

-- A lower tenure is another tenure.
pub apart_below : (n t : ℕ) → n < t → (n == t) ≡ false
apart_below n t h = grind (arith, nat_tests, h)
