-- What a begin sends keeps its tenure until the transaction goes on. The transaction has ended once its ending
-- was heard.
use Rattle.std.proofs.Common.{◌≡◌, ◌<◌, ◌≤◌, ℕ, Bool, true, false, ◌==◌, List, [], ◌∷◌, refl}
use Rattle.std.specs.List.{list_all, list_any}
use native.Mathlib.Omega.{arith}
use Rattle.std.proofs.lemmas.Bool.Decides.{nat_tests}
use Rattle.dsql_history.specs.driver.declared.call.DriverCall.{DriverCall}
use Rattle.dsql_history.specs.driver.declared.call.DriverCall.TheVariants.{Begin, Commit, Rollback}
use Rattle.dsql_history.specs.driver.declared.caps.Caps.{Caps}
use Rattle.dsql_history.specs.driver.Fits.{is_done, is_invalid}
use Rattle.dsql_history.specs.driver.Kinds.{is_bad, is_begin, is_connect, is_ending, is_shut, is_valid}
use Rattle.dsql_history.specs.journal.declared.entry.Entry.{Entry}
use Rattle.dsql_history.specs.journal.Kinds.{◌⇒◌, is_tx_number}
use Rattle.dsql_history.specs.journal.Readers.{begins, of_tenure, was_shut, went_bad}
use Rattle.dsql_history.specs.journal.HandlesAndCursors.{fits_at_its_place}
use Rattle.dsql_history.specs.journal.Journal.{may_follow, is_journal_prefix}
use Rattle.dsql_history.proofs.journal.Conjunctions.{join2, parts2, so_if}
use Rattle.dsql_history.specs.Readers.Lines.{line_among}
use Rattle.dsql_history.specs.Rules.Line.{is_due}
use Rattle.dsql_history.specs.Rules.Sent.{begin_line}
use Rattle.dsql_laws_tenures.specs.Begins.{is_begin_line, HasEnded, IsLentTo, IsOfBegin}
use Rattle.dsql_laws_tenures.specs.Tenures.{GoesOn, IsIn, IsOfTransaction}
use Rattle.dsql_laws_tenures.proofs.Numbers.{impossible, is_itself, neither_of}
use Rattle.dsql_laws_tenures.proofs.BeginFollows.{begin_follows}
use Rattle.dsql_laws_tenures.proofs.BeginLines.{turn_of}
use Rattle.dsql_laws_tenures.proofs.Quiet.{kind_of}

-- The tenure stays the transaction's with one more entry of the tenure.
grown : (k t : ℕ) (J : List Entry) (e : Entry) → IsOfTransaction k t J → may_follow J e ≡ true → (e.tenure == t) ≡ true → is_tx_number k e.owner ≡ true → IsOfTransaction k t (e ∷ J)
grown k t J e s may here own = record {
  beginning = join2 (may_follow J e) (is_journal_prefix J) may s.beginning;
  owner = rw here (join2 (is_tx_number k e.owner) (list_all (λ x. is_tx_number k x.owner) (of_tenure t J)) own s.owner);
}

-- Nothing in the line of a begin ends a transaction.
none_ending : (can : Caps) (reset_due : Bool) (begin : DriverCall) (L : List Entry) → is_begin begin ≡ true → is_begin_line can reset_due begin L ≡ true → list_any (λ x. is_ending x.call) L ≡ false
none_ending can reset_due begin [] b line = refl
none_ending can reset_due begin (x ∷ L) b line =
    let p = parts2 (is_begin_line can reset_due begin L) (is_due (begin_line can reset_due begin L) x.call) line in
    let turn = turn_of can reset_due begin L x.call b p.0 p.1 in
    let kind = kind_of x.call turn.kind in
    neither_of (is_ending x.call) (list_any (λ y. is_ending y.call) L) kind.ending (none_ending can reset_due begin L b p.0)

swapped : (k : ℕ) → (k == 0) ≡ false → (0 == k) ≡ false
swapped k h = grind (arith, nat_tests)

not_below : (n t : ℕ) → n ≡ t → n < t → ⊥
not_below n t same less = omega (arith, same, less)

at_most : (n t : ℕ) → n ≡ t → n ≤ t
at_most n t same = omega (arith, same)

begin_untested : (q : DriverCall) → is_begin q ≡ true → is_valid q ≡ false
begin_untested (Begin level read_only) h = refl
begin_untested _ h = absurd (impossible h)

module _ (can : Caps) (reset_due : Bool) (begin : DriverCall) (c k t : ℕ) (J : List Entry) (e : Entry) (g : IsLentTo can reset_due begin c k t J) (s : IsOfBegin c k t e)
    (due : is_due (begin_line can reset_due begin (of_tenure t J)) e.call ≡ true) (fits : fits_at_its_place J e ≡ true) where
  here : (e.tenure == t) ≡ true
  here = rw s.tenure (is_itself t)

  tenure : IsOfTransaction k t (e ∷ J)
  tenure = grown k t J e g.tenure (begin_follows can reset_due begin c k t J e g s due fits) here (rw s.owner (is_itself k))

  one_connection : list_all (λ x. x.conn == c) (e ∷ J) ≡ true
  one_connection = join2 (e.conn == c) (list_all (λ x. x.conn == c) J) (rw s.conn (is_itself c)) g.one_connection

  kept : begins e ≡ false → IsLentTo can reset_due begin c k t (e ∷ J)
  kept off =
      let turn = turn_of can reset_due begin (of_tenure t J) e.call g.begins g.line due in
      let kind = kind_of e.call turn.kind in
      record {
        begins = g.begins;
        tenure = tenure;
        line = rw here (join2 (is_begin_line can reset_due begin (of_tenure t J)) (is_due (begin_line can reset_due begin (of_tenure t J)) e.call) g.line due);
        numbered = g.numbered;
        no_entries = rw (s.tx, off, swapped k g.numbered) g.no_entries;
        opened = refl;
        one_connection = one_connection;
        rising = at_most e.tenure t s.tenure;
        whole_before = λ less. absurd (not_below e.tenure t s.tenure less);
        bad_here = join2 (is_bad e.answer ⇒ (e.tenure == t)) (list_all (λ x. is_bad x.answer ⇒ (x.tenure == t)) J) (so_if (is_bad e.answer) (e.tenure == t) (λ _. here)) g.bad_here;
        invalid_here = join2 (is_invalid e.answer ⇒ (e.tenure == t)) (list_all (λ x. is_invalid x.answer ⇒ (x.tenure == t)) J) (so_if (is_invalid e.answer) (e.tenure == t) (λ _. here)) g.invalid_here;
        not_refused = rw kind.connect g.not_refused;
        not_shut = neither_of (is_shut e.call) (was_shut J) kind.shut g.not_shut;
      }

  goes_on : begins e ≡ true → GoesOn c k t (e ∷ J)
  goes_on done =
      let turn = turn_of can reset_due begin (of_tenure t J) e.call g.begins g.line due in
      let kind = kind_of e.call turn.kind in
      let p = parts2 (is_begin e.call) (is_done e.answer) done in
      record {
        begun = record { tenure = tenure; begun = rw here (rw done refl) };
        one_connection = one_connection;
        under_way = s.tenure;
        not_ended = rw here (neither_of (is_ending e.call) (list_any (λ x. is_ending x.call) (of_tenure t J)) kind.ending (none_ending can reset_due begin (of_tenure t J) g.begins g.line));
        not_tested = rw here (neither_of (is_valid e.call) (list_any (λ x. is_valid x.call) (of_tenure t J)) (begin_untested e.call p.0) turn.not_tested);
        not_refused = rw kind.connect g.not_refused;
        not_shut = neither_of (is_shut e.call) (was_shut J) kind.shut g.not_shut;
      }

pub begin_keeps : (can : Caps) (reset_due : Bool) (begin : DriverCall) (c k t : ℕ) (J : List Entry) (e : Entry) → IsLentTo can reset_due begin c k t J → IsOfBegin c k t e
    → is_due (begin_line can reset_due begin (of_tenure t J)) e.call ≡ true → fits_at_its_place J e ≡ true → begins e ≡ false → IsLentTo can reset_due begin c k t (e ∷ J)
begin_keeps can reset_due begin c k t J e g s due fits off = kept can reset_due begin c k t J e g s due fits off

pub begin_begins : (can : Caps) (reset_due : Bool) (begin : DriverCall) (c k t : ℕ) (J : List Entry) (e : Entry) → IsLentTo can reset_due begin c k t J → IsOfBegin c k t e
    → is_due (begin_line can reset_due begin (of_tenure t J)) e.call ≡ true → fits_at_its_place J e ≡ true → begins e ≡ true → GoesOn c k t (e ∷ J)
begin_begins can reset_due begin c k t J e g s due fits done = goes_on can reset_due begin c k t J e g s due fits done

-- If all that was heard has the number of one call, it is that call's line.
pub whole_line : (n : ℕ) (heard : List Entry) → list_all (λ x. x.call_no == n) heard ≡ true → line_among n heard ≡ heard
whole_line n [] h = refl
whole_line n (x ∷ heard) h =
    let p = parts2 (x.call_no == n) (list_all (λ y. y.call_no == n) heard) h in
    rw (whole_line n heard p.1, p.0) refl

record Ends (q : DriverCall) : Type 0 where
  connect : is_connect q ≡ false
  shut : is_shut q ≡ false
  valid : is_valid q ≡ false

ends_of : (q : DriverCall) → is_ending q ≡ true → Ends q
ends_of Commit h = record { connect = refl; shut = refl; valid = refl }
ends_of Rollback h = record { connect = refl; shut = refl; valid = refl }
ends_of _ h = absurd (impossible h)

pub has_ended : (c k t : ℕ) (J : List Entry) (e : Entry) → GoesOn c k t J → IsIn c k t e → is_ending e.call ≡ true → may_follow J e ≡ true → went_bad (e ∷ J) ≡ false → HasEnded c k t (e ∷ J)
has_ended c k t J e g s ending may calm =
    let b = g.begun in
    let at : (e.tenure == t) ≡ true = rw s.tenure (is_itself t) in
    let kind = ends_of e.call ending in
    record {
      tenure = grown k t J e b.tenure may at (rw s.owner (is_itself k));
      ended = rw at (rw ending refl);
      one_connection = join2 (e.conn == c) (list_all (λ x. x.conn == c) J) (rw s.conn (is_itself c)) g.one_connection;
      under_way = s.tenure;
      not_tested = rw at (neither_of (is_valid e.call) (list_any (λ x. is_valid x.call) (of_tenure t J)) kind.valid g.not_tested);
      not_bad = calm;
      not_refused = rw kind.connect g.not_refused;
      not_shut = neither_of (is_shut e.call) (was_shut J) kind.shut g.not_shut;
    }
