-- Worked lines that a cancellation cuts at each place at which a call looks at its token, and worked rows that
-- were handed out.
use Rattle.std.specs.Prelude.{◌≡◌, pos, negsuc, true, false, List, [], ◌∷◌, Option, Some, None}
use Rattle.dsql_course.specs.declared.course.Course.{Course}
use Rattle.dsql_course.specs.declared.course.Course.TheVariants as course
use Rattle.dsql_course.specs.declared.course.Wish.{Wish}
use Rattle.dsql_course.specs.declared.course.Wish.TheVariants as wish
use Rattle.dsql_course.specs.declared.call.Due.{Due}
use Rattle.dsql_course.specs.declared.call.Due.TheVariants as call
use Rattle.dsql_course.specs.declared.call.Got.TheVariants as got
use Rattle.dsql_course.specs.Made.{Exchange}
use Rattle.dsql_course.specs.Line.{Found}
use Rattle.dsql_course.specs.Rows.{rows_next_of}
use Rattle.dsql_course.specs.Worked.{fast, slow, going_on, stopped, bad, next, cursor_of_handle}

abbrev pub stopped_on_bad : Found
stopped_on_bad = record { stopped = true; bad = true }

-- Returns the exchange in which the text was prepared, as handle 1 without inputs.
abbrev pub prepared : List Exchange
prepared = (call.Prepare, got.Prepared 1 (pos 0)) ∷ []

-- Returns the exchange in which the text was prepared, as handle 1 with one input too many.
abbrev pub prepared_for_one : List Exchange
prepared_for_one = (call.Prepare, got.Prepared 1 (pos 1)) ∷ []

abbrev pub skipped : List Exchange
skipped = (call.Text, got.Skip) ∷ []

abbrev pub cursor_of_text : List Exchange
cursor_of_text = (call.Text, got.Cursor 2) ∷ []

-- Cuts of a text that is executed, or queried for rows that are handed out.
pub record CutTexts : Type 0 where
  pub before_text : next course.Exec fast stopped [] ≡ call.Over
  pub before_prepare : next course.Exec slow stopped [] ≡ call.Over
  pub after_skip : next course.Exec fast stopped skipped ≡ call.Over
  pub after_prepare : next course.Exec slow stopped prepared ≡ call.CloseStmt 1
  pub after_skip_and_prepare : next course.Exec fast stopped ((call.Prepare, got.Prepared 1 (pos 0)) ∷ skipped)
      ≡ call.CloseStmt 1
  pub after_close : next course.Exec slow stopped ((call.CloseStmt 1, got.Done) ∷ prepared) ≡ call.Over
  pub after_text : next course.Exec fast stopped ((call.Text, got.Result) ∷ []) ≡ call.Over
  pub after_run : next course.Exec slow stopped ((call.Handle 1, got.Result) ∷ prepared) ≡ call.CloseStmt 1
  pub after_failed_prepare : next course.Exec slow stopped ((call.Prepare, got.Fail) ∷ []) ≡ call.Over
  pub after_bad_run : next course.Exec slow stopped ((call.Handle 1, got.Bad) ∷ prepared) ≡ call.Over
  pub on_bad : next course.Exec slow stopped_on_bad prepared ≡ call.Over
  pub query_before_text : next course.Query fast stopped [] ≡ call.Over
  pub query_after_prepare : next course.Query slow stopped prepared ≡ call.CloseStmt 1
  pub query_hands_out : next course.Query fast stopped cursor_of_text ≡ call.Over
  pub query_keeps_handle : next course.Query slow stopped cursor_of_handle ≡ call.Over
  pub query_after_failed_run : next course.Query slow stopped ((call.Handle 1, got.Fail) ∷ prepared) ≡ call.CloseStmt 1

-- Cuts of a text from whose rows one is read.
pub record CutOnes : Type 0 where
  pub before_text : next course.One fast stopped [] ≡ call.Over
  pub after_prepare : next course.One slow stopped prepared ≡ call.CloseStmt 1
  pub after_text : next course.One fast stopped cursor_of_text ≡ call.CloseRows 2
  pub then_nothing : next course.One fast stopped ((call.CloseRows 2, got.Done) ∷ cursor_of_text) ≡ call.Over
  pub after_row : next course.One slow stopped ((call.Next 2, got.Row) ∷ cursor_of_handle) ≡ call.CloseRows 2
  pub after_end : next course.One slow going_on ((call.Next 2, got.End) ∷ cursor_of_handle) ≡ call.CloseRows 2
  pub after_failed_next : next course.One slow going_on ((call.Next 2, got.Fail) ∷ cursor_of_handle) ≡ call.CloseRows 2
  pub after_bad_next : next course.One slow going_on ((call.Next 2, got.Bad) ∷ cursor_of_handle) ≡ call.Over
  pub after_failed_close : next course.One slow going_on
      ((call.CloseRows 2, got.Fail) ∷ (call.Next 2, got.Row) ∷ cursor_of_handle) ≡ call.CloseStmt 1
  pub after_bad_close : next course.One slow going_on
      ((call.CloseRows 2, got.Bad) ∷ (call.Next 2, got.Row) ∷ cursor_of_handle) ≡ call.Over
  pub fetches_on_bad : next course.One slow bad cursor_of_handle ≡ call.Next 2

-- Runs of a statement: with its live handle 7 first, then without one.
abbrev pub runs_live : Course
runs_live = course.Run false false (Some (7, pos 0))

abbrev pub runs : Course
runs = course.Run false false None

abbrev pub reads_one_row : Course
reads_one_row = course.Run true true None

-- Cuts of a statement's run. If the run is stopped before its answer it closes the handle that it prepared.
-- Otherwise that handle is the statement's.
pub record CutStatements : Type 0 where
  pub before_run : next runs_live fast stopped [] ≡ call.Over
  pub live_for_another_number : next (course.Run false false (Some (7, pos 1))) fast going_on [] ≡ call.Over
  pub live_for_any_number : next (course.Run false false (Some (7, negsuc 0))) fast going_on [] ≡ call.Handle 7
  pub before_prepare : next runs fast stopped [] ≡ call.Over
  pub prepares : next runs fast going_on [] ≡ call.Prepare
  pub after_prepare : next runs fast stopped prepared ≡ call.CloseStmt 1
  pub another_number : next runs fast going_on prepared_for_one ≡ call.Over
  pub another_number_stopped : next runs fast stopped prepared_for_one ≡ call.CloseStmt 1
  pub after_run : next runs fast stopped ((call.Handle 1, got.Result) ∷ prepared) ≡ call.Over
  pub after_failed_run : next runs fast going_on ((call.Handle 1, got.Fail) ∷ prepared) ≡ call.Over
  pub after_failed_run_stopped : next runs fast stopped ((call.Handle 1, got.Fail) ∷ prepared) ≡ call.Over
  pub hands_out : next (course.Run true false None) fast stopped cursor_of_handle ≡ call.Over
  pub one_fetches : next reads_one_row fast going_on cursor_of_handle ≡ call.Next 2
  pub one_before_next : next reads_one_row fast stopped cursor_of_handle ≡ call.CloseRows 2
  pub one_then_handle : next reads_one_row fast stopped ((call.CloseRows 2, got.Done) ∷ cursor_of_handle)
      ≡ call.CloseStmt 1
  pub one_after_row : next reads_one_row fast stopped
      ((call.CloseRows 2, got.Done) ∷ (call.Next 2, got.Row) ∷ cursor_of_handle) ≡ call.Over
  pub one_live : next (course.Run true true (Some (7, pos 0))) fast stopped
      ((call.CloseRows 2, got.Done) ∷ (call.Handle 7, got.Cursor 2) ∷ []) ≡ call.Over

-- Cuts of a text that is prepared, of a ping, and of a begin.
pub record CutOthers : Type 0 where
  pub prepares : next course.Prepare fast going_on [] ≡ call.Prepare
  pub before_prepare : next course.Prepare fast stopped [] ≡ call.Over
  pub keeps_handle : next course.Prepare fast going_on prepared ≡ call.Over
  pub after_prepare : next course.Prepare fast stopped prepared ≡ call.CloseStmt 1
  pub after_failed_prepare : next course.Prepare fast stopped ((call.Prepare, got.Fail) ∷ []) ≡ call.Over
  pub pings : next course.Ping fast going_on [] ≡ call.Ping
  pub no_pinger : next course.Ping slow going_on [] ≡ call.Over
  pub before_ping : next course.Ping fast stopped [] ≡ call.Over
  pub after_ping : next course.Ping fast stopped ((call.Ping, got.Done) ∷ []) ≡ call.Over
  pub begins : next course.Begin slow going_on [] ≡ call.Begin
  pub before_begin : next course.Begin fast stopped [] ≡ call.Over
  pub after_failed_begin : next course.Begin fast stopped ((call.Begin, got.Fail) ∷ []) ≡ call.Over
  pub undone_on_bad : next course.Begin fast stopped_on_bad ((call.Begin, got.Done) ∷ []) ≡ call.Rollback
  pub after_rollback : next course.Begin fast stopped ((call.Rollback, got.Fail) ∷ (call.Begin, got.Done) ∷ [])
      ≡ call.Over

-- Returns what comes next for rows of a handle that a query prepared for itself.
abbrev pub of_query : Wish → List Exchange → Option Due
of_query it made = rows_next_of course.Query false it slow 0 made 2

-- Returns what comes next for rows of a handle that a statement's run prepared.
abbrev pub of_statement : Wish → List Exchange → Option Due
of_statement it made = rows_next_of (course.Run true false None) false it slow 0 made 2

-- Returns what comes next for rows of a query on a connection that is known to be bad.
abbrev pub of_query_on_bad : Wish → List Exchange → Option Due
of_query_on_bad it made = rows_next_of course.Query true it slow 0 made 2

pub record WorkedRows : Type 0 where
  pub left : of_query wish.Nothing cursor_of_handle ≡ None
  pub fetched : of_query wish.Fetch cursor_of_handle ≡ Some (call.Next 2)
  pub closed : of_query wish.Close cursor_of_handle ≡ Some (call.CloseRows 2)
  pub then_handle : of_query wish.Close ((call.CloseRows 2, got.Done) ∷ cursor_of_handle) ≡ Some (call.CloseStmt 1)
  pub at_the_end : of_query wish.Fetch ((call.Next 2, got.End) ∷ cursor_of_handle) ≡ Some (call.CloseRows 2)
  pub after_bad : of_query wish.Close ((call.Next 2, got.Bad) ∷ cursor_of_handle) ≡ Some call.Over
  pub statement_closed : of_statement wish.Close cursor_of_handle ≡ Some (call.CloseRows 2)
  pub statement_keeps_handle : of_statement wish.Close ((call.CloseRows 2, got.Done) ∷ cursor_of_handle)
      ≡ Some call.Over
  pub fetched_on_bad : of_query_on_bad wish.Fetch cursor_of_handle ≡ Some (call.Next 2)
  pub not_closed_on_bad : of_query_on_bad wish.Close cursor_of_handle ≡ Some call.Over
