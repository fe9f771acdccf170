-- Reports of refused begins, and lines of calls and replies.
use Rattle.std.specs.Prelude.{ℕ, true, false, List, [], ◌∷◌, ◌++◌, codes}
use Rattle.dsql_history.specs.driver.declared.call.Level.{Level}
use Rattle.dsql_history.specs.declared.event.Op.{Op}
use Rattle.dsql_history.specs.declared.event.Op.TheVariants.{Begin}
use Rattle.dsql_history.specs.declared.event.Event.{Event}
use Rattle.dsql_history.specs.declared.event.Event.TheVariants.{Run, Entered, Replied, Ended}
use Rattle.dsql_history.specs.declared.reply.Reply.{Reply}
use Rattle.dsql_cases_histories.specs.Words.{x}
use Rattle.dsql_script_report.specs.Lines.{line_of}

-- Returns the line of client 1's call 4.
abbrev pub entered_line : Op → List ℕ
entered_line op = line_of (Entered 1 4 op)

-- Returns the line of client 1's call 4, a begin at this level of a transaction that may write.
abbrev pub level_line : Level → List ℕ
level_line level = entered_line (Begin x level false)

-- Returns the line of a reply to call 3.
abbrev pub reply_line : Reply → List ℕ
reply_line reply = line_of (Replied 3 reply)

-- Returns a run, oldest first, in which a read-only transaction at this level gets this reply. The driver
-- executes texts at once and can do nothing else.
abbrev pub refused_begin : Level → Reply → List Event
refused_begin level reply =
    Run 1 (record {
      fast_exec = true;
      fast_query = false;
      begin_options = false;
      named = false;
      pinger = false;
      resetter = false;
      validator = false;
    })
    ∷ Entered 1 1 (Begin x level true)
    ∷ Replied 1 reply
    ∷ Ended
    ∷ []

-- The bytes of the reports of two such runs are below.

abbrev pub isolation_report : List ℕ
isolation_report =
    codes "[\"run\",1,[\"fast_exec\"]]\n"
    ++ codes "[\"enter\",1,1,\"begin x db level=snapshot ro\"]\n"
    ++ codes "[\"reply\",1,[\"err\",\"isolation\",\"snapshot\",\"sql: driver does not support non-default isolation level\"]]\n"
    ++ codes "[\"ended\"]\n"

abbrev pub read_only_report : List ℕ
read_only_report =
    codes "[\"run\",1,[\"fast_exec\"]]\n"
    ++ codes "[\"enter\",1,1,\"begin x db ro\"]\n"
    ++ codes "[\"reply\",1,[\"err\",\"read_only\",\"sql: driver does not support read-only transactions\"]]\n"
    ++ codes "[\"ended\"]\n"
