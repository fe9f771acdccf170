-- Defines the driver calls on a connection that is lent to a call or a transaction. It says which one a call would send
-- next, whose turn it is, and which answers may come.
use Rattle.std.specs.Prelude.{ℕ, ◌==◌, Bool, true, false, not, ◌&&◌, ◌||◌, cond, List, [], ◌∷◌, Option, Some, None, is_none, is_some}
use Rattle.dsql_history_work.specs.driver.declared.call.DriverCall.{DriverCall}
use Rattle.dsql_history_work.specs.driver.declared.call.DriverCall.TheVariants.{Begin, Commit, Rollback}
use Rattle.dsql_history_work.specs.course.declared.course.Wish.TheVariants as wishes
use Rattle.dsql_history_work.specs.journal.declared.entry.Entry.{Entry}
use Rattle.dsql_history_work.specs.journal.Kinds.{is_house, number_of}
use Rattle.dsql_pool.specs.declared.conn.Place.{Place}
use Rattle.dsql_pool.specs.declared.conn.Place.TheVariants.{Lent}
use Rattle.dsql_pool.specs.declared.moves.Move.TheVariants.{Back, CloseStart}
use Rattle.dsql_history_work.specs.rows.declared.rows.Rows.{Rows}
use Rattle.dsql_history_work.specs.rows.OpenRows.{is_live}
use Rattle.dsql_history_work.specs.Line.{is_due_in_line}
use Rattle.dsql_history_work.specs.Same.{same_truth}
use Rattle.dsql_history.specs.Rules.Wishes.{newest_sender}
use Rattle.dsql_history.specs.declared.event.Event.{Event}
use Rattle.dsql_history.specs.declared.event.Event.TheVariants.{Heard, Pool, Replied}
use Rattle.dsql_history.specs.declared.work.Scope.{Scope}
use Rattle.dsql_history.specs.declared.work.Scope.TheVariants.{Db, Held}
use Rattle.dsql_history.specs.declared.work.Work.{Work}
use Rattle.dsql_history.specs.declared.work.Work.TheVariants.{Fetch, Close, End, Look}
use Rattle.dsql_history.specs.Same.{same_level}
use Rattle.dsql_history.specs.Readers.Unfinished.{is_unfinished}
use Rattle.dsql_history.specs.Readers.Works.{work, scope}
use Rattle.dsql_history.specs.Readers.Journals.{heard_in}
use Rattle.dsql_history.specs.Readers.Pool.{place}
use Rattle.dsql_history.specs.Readers.Transactions.{is_begun, goes_on, tx_ender}
use Rattle.dsql_history.specs.Readers.HandedOut.{rows_by, are_live, ender}
use Rattle.dsql_history.specs.Readers.Calls.{decided, site, has_begun_to_send}
use Rattle.dsql_history.specs.Rules.Sent.{line_of, wish, sent_for, close_due}
use Rattle.dsql_history.specs.Rules.Ending.{ending}

-- Is true if call m may send in transaction k. It begins to send while the transaction goes on, unless it was
-- refused as it entered, and then continues to send.
abbrev pub sends_in : List Event → ℕ → ℕ → Bool
sends_in before m k = has_begun_to_send before m || (goes_on before k && is_none (decided before m))

abbrev pub due_inside : List Event → ℕ → Scope → Option DriverCall
due_inside before m Db = line_of before m wishes.Nothing
due_inside before m (Held k) = cond (sends_in before m k) (line_of before m wishes.Nothing) None

abbrev pub due_in : List Event → ℕ → Work → Option DriverCall
due_in before m (Fetch k) = sent_for before k (wish before m k)
due_in before m (Close k) = sent_for before k (wish before m k)
due_in before m (End k) = cond (tx_ender before k == m) (ending before k) None
due_in before m Look = None
due_in before m it = due_inside before m (scope it)

-- Returns the driver call that call m would send next on the connection that it uses, if any.
abbrev pub due_for : List Event → ℕ → Option DriverCall
due_for before m = cond (is_unfinished before m) (due_in before m (work before m)) None

-- Returns the driver call that the layer itself would send next for what call n made, if any. It closes the
-- rows of call n, or ends its transaction, if no call has ended them.
abbrev pub tidying : List Event → ℕ → Option DriverCall
tidying before n =
    cond (is_begun before n)
    (cond (tx_ender before n == 0) (ending before n) None)
    (cond (ender before n == 0) (close_due before n) None)

-- Returns the driver call that call m, or the layer if m is 0, would send next on the connection of call n.
abbrev pub due_from : List Event → ℕ → ℕ → Option DriverCall
due_from before m n = cond (m == 0) (tidying before n) (due_for before m)

-- Returns the driver call that is still to be sent on the connection that is lent to call n, whoever sends it.
-- If call n has rows, it closes them after they are over. Otherwise it is the next one of call n's own line.
abbrev pub rest_with : List Event → ℕ → Option Rows → Option DriverCall
rest_with before n None = line_of before n wishes.Nothing
rest_with before n (Some rows) = cond (is_live rows) None (line_of before n wishes.Close)

-- Returns the driver call that is still to be sent there, which for a transaction is one that ends it.
abbrev pub rest : List Event → ℕ → Option DriverCall
rest before n = cond (is_begun before n) (ending before n) (rest_with before n (rows_by before n))

-- Is true if the connection that is lent to call n is in use. Its transaction goes on, its rows are live, or something
-- is still to be sent there.
abbrev pub is_used : List Event → ℕ → Bool
is_used before n = goes_on before n || (are_live before n || is_some (rest before n))

-- Returns the call if it has more to send, otherwise 0.
abbrev pub if_sending : List Event → ℕ → ℕ
if_sending before m = cond (is_some (due_for before m)) m 0

abbrev pub holder_at : List Event → ℕ → Option Place → ℕ
holder_at before c (Some (Lent tenure owner)) = if_sending before (newest_sender (heard_in before c tenure))
holder_at before c _ = 0

-- Returns the call that has the turn on connection c, 0 if none has. It sent the newest driver call of the
-- tenure and has more to send. Each driver call of the layer's own is an operation by itself.
abbrev pub holder : List Event → ℕ → ℕ
holder before c = holder_at before c (place before c)

-- Is true if the turn on connection c is free, or is call m's.
abbrev pub has_turn : List Event → ℕ → ℕ → Bool
has_turn before c m = (holder before c == 0) || (holder before c == m)

-- Is true if m is the layer, or if call m uses that connection.
abbrev pub is_at : List Event → ℕ → ℕ → Bool
is_at before m c = (m == 0) || (site before m == c)

-- Is true if the driver call is the one that is due.
abbrev pub is_due : Option DriverCall → DriverCall → Bool
is_due (Some (Begin level read_only)) (Begin other only) = same_level level other && same_truth read_only only
is_due (Some Commit) Commit = true
is_due (Some Rollback) Rollback = true
is_due due call = is_due_in_line due call

-- Is true if the entry, on a connection in this place, is what its call has to send now, and the call has the turn.
abbrev pub is_due_at : List Event → Option Place → Entry → Bool
is_due_at before (Some (Lent tenure owner)) e =
    (e.tenure == tenure)
    && (is_at before e.call_no e.conn
    && (has_turn before e.conn e.call_no && is_due (due_from before e.call_no (number_of owner)) e.call))
is_due_at before _ e = false

-- Is true if what was under way before the event isn't under way after it. The driver answered on that connection, or
-- its call has its reply.
abbrev pub parts : Event → Entry → Bool
parts (Heard last) e = last.conn == e.conn
parts (Replied n reply) e = n == e.call_no
parts _ e = false

-- Is true if the entry is due, or was due at an earlier moment and the driver hasn't answered on its connection
-- since. The answer to a driver call that is under way stays welcome, whatever happens meanwhile.
abbrev pub may_come : List Event → Entry → Bool
may_come [] e = false
may_come (last ∷ earlier) e =
    is_due_at (last ∷ earlier) (place (last ∷ earlier) e.conn) e || (not (parts last e) && may_come earlier e)

abbrev pub sends_from : List Event → Option Place → Entry → Bool
sends_from before (Some (Lent tenure owner)) e = may_come before e
sends_from before _ e = true

-- Is true if a connection in this place may leave its call or its transaction. It does so only after it is no longer in
-- use.
abbrev pub leaves_from : List Event → Option Place → Bool
leaves_from before (Some (Lent tenure owner)) = not (is_house owner) && not (is_used before (number_of owner))
leaves_from before _ = true

abbrev pub keeps_line : List Event → Event → Bool
keeps_line before (Heard e) = sends_from before (place before e.conn) e
keeps_line before (Pool (Back c)) = leaves_from before (place before c)
keeps_line before (Pool (CloseStart c cause)) = leaves_from before (place before c)
keeps_line before _ = true
