-- Whether a permit may be sent, by one answer that stands for all. A failure gives nothing, and a Valid has no
-- failure.
use Rattle.std.specs.Prelude.{ℕ, Bool, ◌&&◌, ◌==◌, List, [], if◌then◌else◌}
use Rattle.dsql_driver.specs.declared.answer.DriverAnswer.TheVariants.{Done, Fail}
use Rattle.dsql_tenure_journal.specs.declared.entry.Entry.{Entry}
use Rattle.dsql_tenure_journal.specs.declared.entry.Permit.{Permit}
use Rattle.dsql_driver.specs.Kinds.{is_begin, is_valid}
use Rattle.dsql_tenure_journal.specs.Permits.{entry_of}
use Rattle.dsql_tenure.specs.MayBeAsked.{may_be_asked}

abbrev pub may_send : ℕ → List Entry → Permit → Bool
may_send conn journal permit =
    (permit.conn == conn)
    && (if is_valid permit.call then may_be_asked journal (entry_of permit Done)
    else if is_begin permit.call then (may_be_asked journal (entry_of permit Done)
    && may_be_asked journal (record (entry_of permit (Fail [])) { tx = 0 }))
    else may_be_asked journal (entry_of permit (Fail [])))
