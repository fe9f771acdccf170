-- Worked lines: what comes next, call after call.
use Rattle.std.specs.Prelude.{◌≡◌, pos, negsuc, true, false, List, [], ◌∷◌, Some, None}
use Rattle.dsql_driver.specs.declared.caps.Caps.{Caps}
use Rattle.dsql_course.specs.declared.course.Course.{Course}
use Rattle.dsql_course.specs.declared.course.Course.TheVariants as course
use Rattle.dsql_course.specs.declared.call.Due.{Due}
use Rattle.dsql_course.specs.declared.call.Due.TheVariants as call
use Rattle.dsql_course.specs.declared.call.Got.TheVariants as got
use Rattle.dsql_course.specs.Made.{Exchange}
use Rattle.dsql_course.specs.Line.{Found, comes_next}

abbrev pub fast : Caps
fast =
    record {
      fast_exec = true;
      fast_query = true;
      begin_options = true;
      named = false;
      pinger = true;
      resetter = true;
      validator = true;
    }

abbrev pub slow : Caps
slow =
    record {
      fast_exec = false;
      fast_query = false;
      begin_options = false;
      named = false;
      pinger = false;
      resetter = false;
      validator = false;
    }

abbrev pub going_on : Found
going_on = record { stopped = false; bad = false }

abbrev pub stopped : Found
stopped = record { stopped = true; bad = false }

abbrev pub bad : Found
bad = record { stopped = false; bad = true }

-- Returns what comes next after these exchanges, newest first, for a call without arguments.
abbrev pub next : Course → Caps → Found → List Exchange → Due
next c can found made = comes_next c can 0 found made

abbrev pub cursor_of_handle : List Exchange
cursor_of_handle = (call.Handle 1, got.Cursor 2) ∷ (call.Prepare, got.Prepared 1 (pos 0)) ∷ []

pub record WorkedLines : Type 0 where
  pub text : next course.Exec fast going_on [] ≡ call.Text
  pub text_alone : next course.Exec fast going_on ((call.Text, got.Result) ∷ []) ≡ call.Over
  pub no_fast_way : next course.Exec slow going_on [] ≡ call.Prepare
  pub skipped : next course.Exec fast going_on ((call.Text, got.Skip) ∷ []) ≡ call.Prepare
  pub handle : next course.Exec slow going_on ((call.Prepare, got.Prepared 1 (negsuc 0)) ∷ []) ≡ call.Handle 1
  pub other_number : next course.Exec slow going_on ((call.Prepare, got.Prepared 1 (pos 1)) ∷ []) ≡ call.CloseStmt 1
  pub failed_run : next course.Exec slow going_on
      ((call.Handle 1, got.Fail) ∷ (call.Prepare, got.Prepared 1 (pos 0)) ∷ []) ≡ call.CloseStmt 1
  pub after_bad : next course.Exec slow going_on
      ((call.Handle 1, got.Bad) ∷ (call.Prepare, got.Prepared 1 (pos 0)) ∷ []) ≡ call.Over
  pub rows_keep : next course.Query slow going_on cursor_of_handle ≡ call.Over
  pub one_row : next course.One slow going_on cursor_of_handle ≡ call.Next 2
  pub stopped_rows : next course.One slow stopped cursor_of_handle ≡ call.CloseRows 2
  pub then_handle : next course.One slow stopped ((call.CloseRows 2, got.Done) ∷ cursor_of_handle) ≡ call.CloseStmt 1
  pub bad_rows : next course.One slow bad ((call.Next 2, got.End) ∷ cursor_of_handle) ≡ call.Over
  pub statement_stays : next (course.Run true false None) fast going_on cursor_of_handle ≡ call.Over
  pub live_run : next (course.Run false false (Some (7, pos 0))) fast going_on [] ≡ call.Handle 7
  pub begun : next course.Begin fast going_on ((call.Begin, got.Done) ∷ []) ≡ call.Over
  pub undone : next course.Begin fast stopped ((call.Begin, got.Done) ∷ []) ≡ call.Rollback
