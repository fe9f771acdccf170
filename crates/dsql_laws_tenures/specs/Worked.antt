-- Worked tenures of a transaction: what their lines have, and what may follow. For each premise of the laws
-- there is a tenure that breaks it.
use Rattle.std.specs.Prelude.{◌≡◌, ℕ, true, false, List, [], ◌∷◌, pos, codes}
use Rattle.dsql_history.specs.driver.declared.caps.Caps.{Caps}
use Rattle.dsql_history.specs.driver.declared.call.DriverCall.TheVariants.{CloseRows, CloseStmt, Commit, Next, Ping}
use Rattle.dsql_history.specs.driver.declared.answer.DriverAnswer.TheVariants.{Done, Prepared}
use Rattle.dsql_history.specs.course.declared.course.Wish.TheVariants as wishes
use Rattle.dsql_history.specs.journal.declared.entry.Entry.{Entry}
use Rattle.dsql_history.specs.journal.Readers.{is_empty, of_tenure, cursors_named}
use Rattle.dsql_history.specs.journal.Journal.{may_follow, is_journal_prefix}
use Rattle.dsql_history.specs.journal.Samples.{after, begin, exec_handle, exec_text, fails, gives_cursor, in_tx, prepare, query_text, result, row_of_two}
use Rattle.dsql_history.specs.works.declared.work.Aim.{Aim}
use Rattle.dsql_history.specs.works.declared.work.Aim.TheVariants as aims
use Rattle.dsql_history.specs.works.Line.{Asked}
use Rattle.dsql_history.specs.Readers.Lines.{has_cursor, line_among}
use Rattle.dsql_history.specs.Rules.Line.{is_due}
use Rattle.dsql_history.specs.Rules.Sent.{inner_after}
use Rattle.dsql_laws_tenures.specs.Orderly.{is_in_order, opens_once}
use Rattle.dsql_laws_tenures.specs.Tenures.{made_by, GoesOn}

abbrev pub able : Caps
able =
    record {
      fast_exec = true;
      fast_query = true;
      begin_options = true;
      named = true;
      pinger = true;
      resetter = true;
      validator = true;
    }

abbrev pub asking : List ℕ → Aim → Asked
asking text aim = record { text = text; params = []; aim = aim }

-- A journal in which two queries have their rows, and another call has fetched from the first.
abbrev pub two_readers : List Entry
two_readers =
    after (in_tx 1 begin Done ∷ in_tx 2 query_text (gives_cursor 1) ∷ in_tx 3 query_text (gives_cursor 2) ∷ in_tx 4
    (Next 1) row_of_two ∷ [])

pub record TwoReaders : Type 0 where
  pub goes_on : GoesOn 1 1 2 two_readers
  pub first : has_cursor (made_by 2 2 two_readers) 1 ≡ true
  pub second : has_cursor (made_by 3 2 two_readers) 2 ≡ true
  pub in_order : is_in_order (made_by 2 2 two_readers) ≡ true
  pub fetched : is_due (inner_after able false (asking (codes "LIST a") aims.HandOut) wishes.Fetch
      (line_among 2 (of_tenure 2 two_readers))) (Next 1) ≡ true
  pub closed : is_due (inner_after able false (asking (codes "LIST a") aims.HandOut) wishes.Close
      (line_among 3 (of_tenure 2 two_readers))) (CloseRows 2) ≡ true
  pub fetch_follows : may_follow two_readers (in_tx 5 (Next 1) row_of_two) ≡ true
  pub close_follows : may_follow two_readers (in_tx 5 (CloseRows 2) Done) ≡ true
  pub no_end : may_follow two_readers (in_tx 5 Commit Done) ≡ false

-- A journal in which the driver gives the number of a closed cursor again. Only the line of the later query has
-- it.
abbrev pub given_again : List Entry
given_again =
    after (in_tx 1 begin Done ∷ in_tx 2 query_text (gives_cursor 1) ∷ in_tx 3
    (CloseRows 1) Done ∷ in_tx 4 query_text (gives_cursor 1) ∷ [])

pub record GivenAgain : Type 0 where
  pub beginning : is_journal_prefix given_again ≡ true
  pub old : has_cursor (made_by 2 2 given_again) 1 ≡ false
  pub closing : has_cursor (made_by 3 2 given_again) 1 ≡ false
  pub new : has_cursor (made_by 4 2 given_again) 1 ≡ true

-- A journal in which one call opens rows twice. No line has the first cursor, which is live and so keeps the
-- transaction from its end.
abbrev pub opened_twice : List Entry
opened_twice =
    after (in_tx 1 begin Done ∷ in_tx 2 query_text (gives_cursor 1) ∷ in_tx 2 query_text (gives_cursor 2) ∷ in_tx 2
    (CloseRows 2) Done ∷ [])

pub record OpenedTwice : Type 0 where
  pub beginning : is_journal_prefix opened_twice ≡ true
  pub twice : opens_once (made_by 2 2 opened_twice) ≡ false
  pub live : is_empty (cursors_named 1 opened_twice) ≡ false
  pub not_had : has_cursor (made_by 2 2 opened_twice) 1 ≡ false
  pub no_end : may_follow opened_twice (in_tx 5 Commit Done) ≡ false

-- A journal in which a line goes back in its order. The next step of its course runs a handle that the line has
-- closed.
abbrev pub out_of_order : List Entry
out_of_order =
    after (in_tx 1 begin Done ∷ in_tx 2 prepare (Prepared 1 (pos 0)) ∷ in_tx 2
    (CloseStmt 1) Done ∷ in_tx 2 exec_text fails ∷ [])

pub record OutOfOrder : Type 0 where
  pub beginning : is_journal_prefix out_of_order ≡ true
  pub order : is_in_order (made_by 2 2 out_of_order) ≡ false
  pub run : is_due (inner_after able false (asking (codes "SET a 1") aims.Execute) wishes.Nothing
      (line_among 2 (of_tenure 2 out_of_order))) (exec_handle 1) ≡ true
  pub refused : may_follow out_of_order (in_tx 2 (exec_handle 1) result) ≡ false

-- A journal in which the transaction was begun and nothing else was heard in it. A ping, which has no text, may
-- not come there.
abbrev pub begun_only : List Entry
begun_only = after (in_tx 1 begin Done ∷ [])

pub record NoPing : Type 0 where
  pub beginning : is_journal_prefix begun_only ≡ true
  pub ping : is_due (inner_after able false (asking [] aims.Ping) wishes.Nothing
      (line_among 2 (of_tenure 2 begun_only))) Ping ≡ true
  pub refused : may_follow begun_only (in_tx 2 Ping Done) ≡ false
