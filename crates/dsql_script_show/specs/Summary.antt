-- Defines the counts that sum up a run. A history is read newest first.
use Rattle.std.specs.Prelude.{ℕ, List, [], ◌∷◌, ◌++◌, codes, decimal, ◌+◌, Bool, true, false, not, ◌&&◌, count_by}
use Rattle.dsql_script_show.specs.declared.summary.Summary.{Summary}
use Rattle.dsql_history.specs.driver.Fits.{is_done}
use Rattle.dsql_history.specs.driver.Kinds.{is_connect}
use Rattle.dsql_script_show.specs.Counting.{one_if}
use Rattle.dsql_history.specs.declared.event.Event.{Event}
use Rattle.dsql_history.specs.declared.event.Event.TheVariants.{Entered, Heard, Replied}
use Rattle.dsql_history.specs.declared.reply.Reply.{Reply}
use Rattle.dsql_history.specs.declared.reply.Reply.TheVariants as reply

-- Returns a number with a comma before it.
abbrev pub further : ℕ → List ℕ
further n = codes "," ++ decimal n

-- Returns the beginning of the summary's line: its first three numbers.
abbrev pub front_of : Summary → List ℕ
front_of it = codes "[\"summary\"," ++ (decimal it.lines ++ (further it.calls ++ further it.connections))

-- Returns the summary's line, with its line feed.
abbrev pub line_of : Summary → List ℕ
line_of it = front_of it ++ (further it.entries ++ (further it.oks ++ (further it.errors ++ (codes "]" ++ 10 ∷ []))))

-- Is true if a call enters.
abbrev pub enters : Event → Bool
enters (Entered client n op) = true
enters _ = false

-- Is true if a driver answers.
abbrev pub hears : Event → Bool
hears (Heard e) = true
hears _ = false

-- Is true if a `Connect` is answered with `Done`.
abbrev pub opens : Event → Bool
opens (Heard e) = is_connect e.call && is_done e.answer
opens _ = false

-- Is true if the reply is no error.
abbrev pub is_ok : Reply → Bool
is_ok reply.Ok = true
is_ok (reply.Result last affected) = true
is_ok (reply.Rows columns) = true
is_ok (reply.Truth truth) = true
is_ok (reply.Cells cells) = true
is_ok (reply.Stats stats) = true
is_ok _ = false

-- Is true if a call replies without an error.
abbrev pub replies_ok : Event → Bool
replies_ok (Replied n reply) = is_ok reply
replies_ok _ = false

-- Is true if a call replies with an error.
abbrev pub replies_err : Event → Bool
replies_err (Replied n reply) = not (is_ok reply)
replies_err _ = false

-- Returns the summary of this history, of a script with this many lines.
abbrev pub summary_of : ℕ → List Event → Summary
summary_of lines past = record {
  lines = lines;
  calls = count_by enters past;
  connections = count_by opens past;
  entries = count_by hears past;
  oks = count_by replies_ok past;
  errors = count_by replies_err past;
}

-- Returns the summary with one more event counted.
abbrev pub with_event : Event → Summary → Summary
with_event event it = record {
  lines = it.lines;
  calls = it.calls + one_if (enters event);
  connections = it.connections + one_if (opens event);
  entries = it.entries + one_if (hears event);
  oks = it.oks + one_if (replies_ok event);
  errors = it.errors + one_if (replies_err event);
}
