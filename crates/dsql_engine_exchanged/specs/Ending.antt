-- What was heard of a transaction's end in its tenure, as far as the next driver call depends on it.
use Rattle.std.specs.Prelude.{false, ◌||◌, cond, List, [], ◌∷◌, Option, Some, None}
use Rattle.dsql_history.specs.driver.declared.caps.Caps.{Caps}
use Rattle.dsql_history.specs.driver.Kinds.{is_bad, is_ending, is_valid}
use Rattle.dsql_history.specs.journal.declared.entry.Entry.{Entry}
use Rattle.dsql_history.specs.tx.declared.end.TxEnd.{TxEnd}
use Rattle.dsql_history.specs.tx.declared.end.TxEnd.TheVariants as ends
use Rattle.dsql_engine_exchanged.specs.declared.bare.BareCall.{BareCall}
use Rattle.dsql_engine_exchanged.specs.declared.bare.BareCall.TheVariants as bare
use Rattle.dsql_engine_exchanged.specs.declared.ending.Ending.{Ending}

abbrev pub unended : Ending
unended = record { ended = false; tested = false; bad = false }

-- Returns the record with one more answer.
abbrev pub then_ended : Entry → Ending → Ending
then_ended e it =
    record {
      ended = is_ending e.call || it.ended;
      tested = is_valid e.call || it.tested;
      bad = is_bad e.answer
          || it.bad;
    }

-- Returns the record of what was heard in the tenure, newest first.
abbrev pub ending_in : List Entry → Ending
ending_in [] = unended
ending_in (e ∷ earlier) = then_ended e (ending_in earlier)

-- Returns the driver call that ends a transaction in this way.
abbrev pub bare_end : TxEnd → BareCall
bare_end ends.Commit = bare.Commit
bare_end _ = bare.Rollback

-- Returns what is sent next to end a transaction in this way.
abbrev pub bare_ending : Caps → TxEnd → Ending → Option BareCall
bare_ending can end it =
    cond it.ended (cond (it.bad || it.tested) None (cond can.validator (Some bare.Valid) None)) (Some (bare_end end))
