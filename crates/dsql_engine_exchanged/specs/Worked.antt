-- Worked lines: what is sent next, answer by answer.
use Rattle.std.specs.Prelude.{◌≡◌, ℕ, pos, Bool, true, false, List, [], ◌∷◌, Option, Some, None}
use Rattle.dsql_history.specs.driver.declared.answer.DriverAnswer.{DriverAnswer}
use Rattle.dsql_history.specs.driver.declared.answer.DriverAnswer.TheVariants as answers
use Rattle.dsql_history.specs.driver.declared.call.DriverCall.{DriverCall}
use Rattle.dsql_history.specs.driver.declared.call.DriverCall.TheVariants as calls
use Rattle.dsql_history.specs.driver.declared.call.Input.TheVariants as inputs
use Rattle.dsql_history.specs.driver.declared.call.Level.TheVariants as levels
use Rattle.dsql_history.specs.driver.declared.caps.Caps.{Caps}
use Rattle.dsql_history.specs.course.declared.course.Wish.{Wish}
use Rattle.dsql_history.specs.course.declared.course.Wish.TheVariants as wishes
use Rattle.dsql_history.specs.journal.declared.entry.Entry.{Entry}
use Rattle.dsql_history.specs.journal.declared.entry.Owner.TheVariants.{Tx}
use Rattle.dsql_history.specs.tx.declared.end.TxEnd.TheVariants as ends
use Rattle.dsql_history.specs.works.declared.work.Aim.TheVariants as aims
use Rattle.dsql_engine_exchanged.specs.Exchanged.{exchanged_in}
use Rattle.dsql_history.specs.works.Line.{Asked}
use Rattle.dsql_engine_exchanged.specs.Turns.{ComesInTurn, BeginsInTurn}
use Rattle.dsql_history.specs.Readers.Lines.{line_among}
use Rattle.dsql_engine_exchanged.specs.declared.bare.BareCall.{BareCall}
use Rattle.dsql_engine_exchanged.specs.declared.bare.BareCall.TheVariants as bare
use Rattle.dsql_engine_exchanged.specs.declared.heard.HeardLine.{HeardLine}
use Rattle.dsql_engine_exchanged.specs.Beginning.{beginning_in, bare_begin}
use Rattle.dsql_engine_exchanged.specs.Ending.{ending_in, bare_ending}
use Rattle.dsql_engine_exchanged.specs.Heard.{heard_line}
use Rattle.dsql_engine_exchanged.specs.Inside.{bare_inside}

-- A driver that runs no text at once and can test a connection.
abbrev pub can : Caps
can =
    record {
      fast_exec = false;
      fast_query = false;
      begin_options = false;
      named = false;
      pinger = false;
      resetter = true;
      validator = true;
    }

-- Returns the entry of a driver call that call n has sent in the tenure of transaction 1. The transaction's
-- number doesn't matter here.
abbrev pub sent_by : ℕ → DriverCall → DriverAnswer → Entry
sent_by n call answer = record { conn = 1; tenure = 2; owner = Tx 1; call_no = n; tx = 1; call = call; answer = answer }

-- Returns what a begin sends next after this line.
abbrev pub begins_with : List Entry → Option BareCall
begins_with line = bare_begin can true levels.Default false (beginning_in line)

abbrev pub begin_bare : BareCall
begin_bare = bare.Begin levels.Default false

abbrev pub reset : List Entry
reset = sent_by 1 calls.Reset answers.Done ∷ []

abbrev pub begun_as : DriverAnswer → List Entry
begun_as answer = sent_by 1 (calls.Begin levels.Default false) answer ∷ reset

pub record WorkedBegin : Type 0 where
  pub first : begins_with [] ≡ Some bare.Reset
  pub second : begins_with reset ≡ Some begin_bare
  pub done : begins_with (begun_as answers.Done) ≡ None
  pub failed : begins_with (begun_as (answers.Fail [])) ≡ Some bare.Valid
  pub tested : begins_with (sent_by 1 calls.Valid answers.Done ∷ begun_as (answers.Fail [])) ≡ None
  pub bad : begins_with (begun_as answers.Bad) ≡ None

-- Returns what call 2, which hands out rows in the transaction, sends next after its line among these entries.
abbrev pub sends : Bool → Wish → List Entry → Option BareCall
sends bad wish heard = bare_inside can bad aims.HandOut 0 wish (exchanged_in (line_among 2 heard)).made

abbrev pub prepared : List Entry
prepared = sent_by 2 (calls.Prepare []) (answers.Prepared 4 (pos 0)) ∷ begun_as answers.Done

abbrev pub queried : List Entry
queried = sent_by 2 (calls.Query (inputs.Handle 4) []) (answers.Cursor 5 []) ∷ prepared

-- The entries after call 3 has fetched a row of call 2.
abbrev pub fetched : List Entry
fetched = sent_by 3 (calls.Next 5) (answers.Row []) ∷ queried

abbrev pub closed : List Entry
closed = sent_by 3 (calls.CloseRows 5) answers.Done ∷ fetched

-- The entries after call 6 got a number again that was closed.
abbrev pub given_anew : List Entry
given_anew =
    sent_by 6 (calls.Next 5) (answers.Row []) ∷ sent_by 6 (calls.Query (inputs.Text []) [])
    (answers.Cursor 5 []) ∷ closed

pub record WorkedInside : Type 0 where
  pub first : sends false wishes.Nothing (begun_as answers.Done) ≡ Some bare.Prepare
  pub second : sends false wishes.Nothing prepared ≡ Some (bare.Handle 4)
  pub rows_stay : sends false wishes.Nothing queried ≡ None
  pub fetch : sends false wishes.Fetch queried ≡ Some (bare.Next 5)
  pub close : sends false wishes.Close fetched ≡ Some (bare.CloseRows 5)
  pub handle : sends false wishes.Close closed ≡ Some (bare.CloseStmt 4)
  pub over : sends false wishes.Close (sent_by 3 (calls.CloseStmt 4) answers.Done ∷ closed) ≡ None
  pub bad : sends true wishes.Close fetched ≡ None
  pub anew : sends false wishes.Close given_anew ≡ Some (bare.CloseStmt 4)

-- Returns what is open of call 2 after its line among these entries.
abbrev pub heard_of : List Entry → HeardLine
heard_of heard = heard_line (line_among 2 heard)

pub record WorkedHeard : Type 0 where
  pub none : (heard_of prepared).cursor ≡ None
  pub cursor : (heard_of fetched).cursor ≡ Some 5
  pub closed_cursor : (heard_of given_anew).cursor ≡ None
  pub handle : (heard_of given_anew).handle ≡ Some 4

pub record WorkedEnd : Type 0 where
  pub commit : bare_ending can ends.Commit (ending_in closed) ≡ Some bare.Commit
  pub rollback : bare_ending can ends.EndOfRun (ending_in closed) ≡ Some bare.Rollback
  pub test : bare_ending can ends.Commit (ending_in (sent_by 7 calls.Commit (answers.Fail []) ∷ closed))
      ≡ Some bare.Valid
  pub bad : bare_ending can ends.Commit (ending_in (sent_by 7 calls.Commit answers.Bad ∷ closed)) ≡ None
  pub over : bare_ending can ends.Commit
      (ending_in (sent_by 7 calls.Valid answers.Done ∷ sent_by 7 calls.Commit answers.Done ∷ closed)) ≡ None

-- The statement that call 2 asks for.
abbrev pub asked : Asked
asked = record { text = []; params = []; aim = aims.HandOut }

-- Holds if these lines came about as the laws of lines require.
pub record WorkedTurns : Type 0 where
  pub inside : ComesInTurn can asked (line_among 2 closed)
  pub begin : BeginsInTurn can (calls.Begin levels.Default false) (begun_as answers.Done)
