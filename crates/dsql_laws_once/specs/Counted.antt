-- What counts among the entries that a server may have carried out for a call. Queries for one row whose fetch found
-- the connection bad don't count; all others do.
use Rattle.std.specs.Prelude.{ℕ, ◌==◌, Bool, true, false, not, ◌&&◌, cond, List, [], ◌∷◌, filter, Option}
use Rattle.dsql_laws_calls.specs.driver.Kinds.{is_bad, given_cursor}
use Rattle.dsql_laws_calls.specs.driver.declared.call.DriverCall.{DriverCall}
use Rattle.dsql_laws_calls.specs.driver.declared.call.DriverCall.TheVariants.{Query, Next}
use Rattle.dsql_laws_calls.specs.journal.declared.entry.Entry.{Entry}
use Rattle.dsql_laws_calls.specs.journal.Kinds.{is_number}
use Rattle.dsql_laws_calls.specs.history.declared.work.Work.{Work}
use Rattle.dsql_laws_calls.specs.history.declared.event.Event.{Event}
use Rattle.dsql_laws_calls.specs.history.declared.event.Event.TheVariants.{Heard}
use Rattle.dsql_laws_calls.specs.history.Readers.Works.{work}
use Rattle.dsql_laws_once.specs.Once.{may_be_carried_out, reads_one}

-- Is true if the driver call is a query.
abbrev pub is_query : DriverCall → Bool
is_query (Query input params) = true
is_query call = false

-- Is true if the driver call fetches from this cursor, if there is one.
abbrev pub fetches_from : Option ℕ → DriverCall → Bool
fetches_from cursor (Next rows) = is_number cursor rows
fetches_from cursor call = false

-- Is true if both entries were heard in one tenure of one connection.
abbrev pub same_tenure : Entry → Entry → Bool
same_tenure e other = (e.conn == other.conn) && (e.tenure == other.tenure)

-- Is true if the query's row was lost. The work reads one row itself, on the database, and the answer says that
-- the connection is bad. It answers a fetch from the query's cursor, in the query's tenure.
abbrev pub loses_row : Work → Entry → Entry → Bool
loses_row work e query =
    reads_one work && (is_bad e.answer
    && (same_tenure e query && (is_query query.call && fetches_from (given_cursor query.answer) e.call)))

-- Returns what counts after one more answer to a call with this work.
abbrev pub counted_with : Work → Entry → List Entry → List Entry
counted_with work e earlier =
    cond (may_be_carried_out e) (e ∷ earlier) (filter (λ query. not (loses_row work e query)) earlier)

-- Returns the statements and pings of call n that a server may have carried out, newest first, without the
-- queries whose row was lost since.
abbrev pub counted : List Event → ℕ → List Entry
counted [] n = []
counted (Heard e ∷ before) n =
    cond (e.call_no == n) (counted_with (work before n) e (counted before n)) (counted before n)
counted (_ ∷ before) n = counted before n
