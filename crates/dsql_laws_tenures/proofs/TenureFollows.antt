-- If a tenure has its connection alone, an entry may follow in it if it could follow with the tenure as the
-- first one.
use Rattle.std.proofs.Common.{◌≡◌, ℕ, ◌≤◌, true, false, ◌==◌, List, refl, nat_le, nat_lt}
use native.Mathlib.Omega.{arith}
use Rattle.std.proofs.lemmas.Bool.Decides.{nat_tests}
use Rattle.dsql_history.specs.driver.declared.answer.DriverAnswer.{DriverAnswer}
use Rattle.dsql_history.specs.driver.declared.call.DriverCall.{DriverCall}
use Rattle.dsql_history.specs.driver.Kinds.{is_connect, is_valid}
use Rattle.dsql_history.specs.journal.declared.entry.Entry.{Entry}
use Rattle.dsql_history.specs.journal.Readers.{cursors, handles, last_tenure, of_tenure, went_bad, went_invalid}
use Rattle.dsql_history.specs.journal.Tenure.{is_whole_tenure}
use Rattle.dsql_history.specs.journal.HandlesAndCursors.{fits_at_its_place}
use Rattle.dsql_history.specs.journal.Journal.{may_follow}
use Rattle.dsql_history.specs.journal.Facts.{KeepsCallBody, KeepsHandlesAndCursors, KeepsTenure, KeepsWholeJournal, MayFollow}
use Rattle.dsql_history.proofs.journal.Conjunctions.{if_so, so_if}
use Rattle.dsql_history.proofs.journal.Sentences.{of-MayFollow}
use Rattle.dsql_laws_work.proofs.CallLines.{sent_entry}
use Rattle.dsql_laws_tenures.proofs.EndTests.{no_bad_tenure}
use Rattle.dsql_laws_tenures.proofs.Follows.{fits_of_place}
use Rattle.dsql_laws_tenures.specs.Connections.{IsAlone}

-- Holds if both journals have the same tenure t, and the same is live in them.
pub record IsLike (t : ℕ) (F J : List Entry) : Type 0 where
  pub tenure : of_tenure t F ≡ of_tenure t J
  pub live : handles J ≡ handles F
  pub open_rows : cursors J ≡ cursors F
  pub whole : is_whole_tenure t F ≡ true → is_whole_tenure t J ≡ true

apart : (n t : ℕ) → nat_lt n t ≡ true → (n == t) ≡ false
apart n t h = grind (arith, nat_tests, h)

rises : (n t : ℕ) → n ≤ t → nat_le n t ≡ true
rises n t h = grind (arith, nat_tests, h)

keeps_order : (c t n m : ℕ) (q : DriverCall) (a : DriverAnswer) (J : List Entry) → IsAlone c t J → went_bad J ≡ false → went_invalid J ≡ false → is_connect q ≡ false → KeepsWholeJournal J (sent_entry c t n m q a)
keeps_order c t n m q a J s not_bad not_invalid not_connect =
    let o = s.is_open in
    record {
      one_connection = o.one_connection;
      not_after_refusal = rw o.not_refused refl;
      after_whole_tenure = so_if (nat_lt (last_tenure J) t) (is_whole_tenure (last_tenure J) J) (λ less. s.whole_elsewhere (last_tenure J) (apart (last_tenure J) t less));
      connect_first = rw o.opened (rw not_connect refl);
      not_after_shut = rw o.not_shut refl;
      rising = rises (last_tenure J) t s.rising;
      from_one = rw o.opened refl;
      not_tidied_when_bad = rw not_bad refl;
      in_bad_tenure = rw (no_bad_tenure J not_bad) refl;
      shut_when_invalid = rw not_invalid refl;
    }

body_there : (c t n m : ℕ) (q : DriverCall) (a : DriverAnswer) (F J : List Entry) → IsLike t F J → KeepsCallBody F (sent_entry c t n m q a) → KeepsCallBody J (sent_entry c t n m q a)
body_there c t n m q a F J like b = record {
  kind = b.kind;
  ping_alone = rw like.tenure at b.ping_alone;
  order = rw like.tenure at b.order;
  own_cursor = rw like.tenure at b.own_cursor;
  own_close = rw like.tenure at b.own_close;
  skip = rw like.tenure at b.skip;
  own_run = rw like.tenure at b.own_run;
  not_after_bad = rw like.tenure at b.not_after_bad;
  rows_first = rw like.open_rows b.rows_first;
  no_transaction = b.no_transaction;
}

tenure_there : (c t n m : ℕ) (q : DriverCall) (a : DriverAnswer) (F J : List Entry) → IsLike t F J → KeepsTenure F (sent_entry c t n m q a) → KeepsTenure J (sent_entry c t n m q a)
tenure_there c t n m q a F J like k = record {
  one_owner = rw like.tenure at k.one_owner;
  house_alone = refl;
  house_call = refl;
  house_numbers = refl;
  reset_first = rw like.tenure at k.reset_first;
  not_after_valid = rw like.tenure at k.not_after_valid;
  whole_at_valid = so_if (is_valid q) (is_whole_tenure t J) (λ v. like.whole (if_so (is_valid q) (is_whole_tenure t F) k.whole_at_valid v));
  tests = k.tests;
  not_after_bad_reset = rw like.tenure at k.not_after_bad_reset;
  in_body = λ is. body_there c t n m q a F J like (k.in_body is);
}

uses_there : (c t n m : ℕ) (q : DriverCall) (a : DriverAnswer) (F J : List Entry) → IsLike t F J → KeepsHandlesAndCursors F (sent_entry c t n m q a) → KeepsHandlesAndCursors J (sent_entry c t n m q a)
uses_there c t n m q a F J like u = record {
  live_handle = rw like.live u.live_handle;
  live_cursor = rw like.open_rows u.live_cursor;
  not_over = rw like.open_rows u.not_over;
  transaction_of_handle = rw like.live u.transaction_of_handle;
  transaction_of_cursor = rw like.open_rows u.transaction_of_cursor;
  cursor_tenure = rw like.open_rows u.cursor_tenure;
  handle_tenure = rw like.live u.handle_tenure;
  call_handle = rw like.live u.call_handle;
}

pub follows_there : (c t n m : ℕ) (q : DriverCall) (a : DriverAnswer) (F J : List Entry) → IsAlone c t J → went_bad J ≡ false → went_invalid J ≡ false → IsLike t F J → is_connect q ≡ false
    → MayFollow F (sent_entry c t n m q a) → fits_at_its_place J (sent_entry c t n m q a) ≡ true → may_follow J (sent_entry c t n m q a) ≡ true
follows_there c t n m q a F J s not_bad not_invalid like not_connect may fits =
    of-MayFollow J (sent_entry c t n m q a) (record {
      whole_journal = keeps_order c t n m q a J s not_bad not_invalid not_connect;
      tenure = tenure_there c t n m q a F J like may.tenure;
      transaction = λ some. absurd (some refl);
      handles = uses_there c t n m q a F J like may.handles;
      answer = fits_of_place J (sent_entry c t n m q a) fits;
    })
