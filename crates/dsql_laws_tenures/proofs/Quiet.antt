-- What may follow in a transaction's tenure but outside of the transaction: the rules that its Reset, its Begin
-- and its test share.
use Rattle.std.proofs.Common.{◌≡◌, ◌≢◌, ℕ, true, false, ◌==◌, ◌&&◌, ◌||◌, List, None, refl, nat_lt, nat_le}
use Rattle.std.specs.List.{list_all, list_any}
use Rattle.dsql_history.specs.driver.declared.call.DriverCall.{DriverCall}
use Rattle.dsql_history.specs.driver.declared.call.DriverCall.TheVariants.{Reset, Valid, Begin}
use Rattle.dsql_history.specs.driver.Kinds.{is_bad, is_begin, is_connect, is_ending, is_reset, is_shut, is_valid, handle_of, cursor_of}
use Rattle.dsql_history.specs.journal.declared.entry.Entry.{Entry}
use Rattle.dsql_history.specs.journal.declared.entry.Owner.TheVariants.{Tx}
use Rattle.dsql_history.specs.journal.Kinds.{◌⇒◌, is_tx_number}
use Rattle.dsql_history.specs.journal.Readers.{is_empty, last_tenure, of_tenure, bad_tenure, was_refused, was_shut, went_bad, went_invalid}
use Rattle.dsql_history.specs.journal.Tenure.{earlier, is_body, is_tx_body, is_whole_tenure}
use Rattle.dsql_history.specs.journal.HandlesAndCursors.{fits_at_its_place}
use Rattle.dsql_history.specs.journal.Journal.{may_follow}
use Rattle.dsql_history.specs.journal.Facts.{KeepsWholeJournal, KeepsTenure, KeepsTransaction}
use Rattle.dsql_history.proofs.journal.Conjunctions.{so_if}
use Rattle.dsql_history.proofs.journal.Sentences.{of-MayFollow}
use Rattle.dsql_laws_tenures.proofs.Follows.{all_own, fits_of_place}
use Rattle.dsql_laws_tenures.proofs.Uses.{uses_none}

-- What the kinds of these driver calls exclude.
pub record Kind (q : DriverCall) : Type 0 where
  pub connect : is_connect q ≡ false
  pub shut : is_shut q ≡ false
  pub ending : is_ending q ≡ false
  pub handle : handle_of q ≡ None
  pub cursor : cursor_of q ≡ None

pub kind_of : (q : DriverCall) → is_reset q || is_begin q || is_valid q ≡ true → Kind q
kind_of Reset h = record { connect = refl; shut = refl; ending = refl; handle = refl; cursor = refl }
kind_of Valid h = record { connect = refl; shut = refl; ending = refl; handle = refl; cursor = refl }
kind_of (Begin level read_only) h = record { connect = refl; shut = refl; ending = refl; handle = refl; cursor = refl }
kind_of _ h = absurd cc

-- Holds if tenure t of connection c is transaction k's and may have more entries. Nothing there or before was
-- bad, refused or shut, or failed its test.
pub record Quiet (c k t : ℕ) (J : List Entry) : Type 0 where
  pub owner : list_all (λ x. is_tx_number k x.owner) (of_tenure t J) ≡ true
  pub opened : is_empty J ≡ false
  pub one_connection : list_all (λ x. x.conn == c) J ≡ true
  pub rising : nat_le (last_tenure J) t ≡ true
  pub whole_before : nat_lt (last_tenure J) t ⇒ is_whole_tenure (last_tenure J) J ≡ true
  pub not_bad : went_bad J ≡ false
  pub no_bad_tenure : bad_tenure J ≡ None
  pub not_invalid : went_invalid J ≡ false
  pub not_tested : list_any (λ x. is_valid x.call) (of_tenure t J) ≡ false
  pub no_bad_reset : list_any (λ x. is_reset x.call && is_bad x.answer) (of_tenure t J) ≡ false
  pub not_refused : was_refused J ≡ false
  pub not_shut : was_shut J ≡ false

-- What else one of these driver calls must satisfy to follow.
pub record Owes (c k t : ℕ) (J : List Entry) (e : Entry) : Type 0 where
  pub conn : e.conn ≡ c
  pub tenure : e.tenure ≡ t
  pub owner : e.owner ≡ Tx k
  pub kind : is_reset e.call || is_begin e.call || is_valid e.call ≡ true
  pub reset : is_reset e.call ≡ true → is_empty (of_tenure t J) ≡ true
  pub whole : is_valid e.call ≡ true → is_whole_tenure t J ≡ true
  pub outside : is_reset e.call || is_valid e.call ≡ true → (e.tx == 0) ≡ true
  pub in_body : is_body e ≡ true → is_tx_body k J e ≡ true
  pub transaction : e.tx ≢ 0 → KeepsTransaction J e
  pub fits : fits_at_its_place J e ≡ true

keeps_order : (c k t : ℕ) (J : List Entry) (e : Entry) → Quiet c k t J → Owes c k t J e → KeepsWholeJournal J e
keeps_order c k t J e g s =
    let kind = kind_of e.call s.kind in
    record {
      one_connection = rw s.conn g.one_connection;
      not_after_refusal = rw g.not_refused refl;
      after_whole_tenure = rw s.tenure g.whole_before;
      connect_first = rw g.opened (rw kind.connect refl);
      not_after_shut = rw g.not_shut refl;
      rising = rw s.tenure g.rising;
      from_one = rw g.opened refl;
      not_tidied_when_bad = rw g.not_bad refl;
      in_bad_tenure = rw g.no_bad_tenure refl;
      shut_when_invalid = rw g.not_invalid refl;
    }

keeps_tenure : (c k t : ℕ) (J : List Entry) (e : Entry) → Quiet c k t J → Owes c k t J e → KeepsTenure J e
keeps_tenure c k t J e g s = record {
  one_owner = rw (s.owner, s.tenure) (all_own k (of_tenure t J) g.owner);
  house_alone = rw s.owner refl;
  house_call = rw s.owner refl;
  house_numbers = rw s.owner refl;
  reset_first = so_if (is_reset e.call) (is_empty (earlier J e)) (λ is. rw s.tenure (s.reset is));
  not_after_valid = rw s.tenure (rw g.not_tested refl);
  whole_at_valid = so_if (is_valid e.call) (is_whole_tenure e.tenure J) (λ is. rw s.tenure (s.whole is));
  tests = so_if (is_reset e.call || is_valid e.call) (e.tx == 0) s.outside;
  not_after_bad_reset = rw s.tenure (rw g.no_bad_reset refl);
  in_body = λ here. rw s.owner (s.in_body here);
}

pub follows : (c k t : ℕ) (J : List Entry) (e : Entry) → Quiet c k t J → Owes c k t J e → may_follow J e ≡ true
follows c k t J e g s =
    let kind = kind_of e.call s.kind in
    of-MayFollow J e (record {
      whole_journal = keeps_order c k t J e g s;
      tenure = keeps_tenure c k t J e g s;
      transaction = s.transaction;
      handles = uses_none J e kind.handle kind.cursor;
      answer = fits_of_place J e s.fits;
    })
