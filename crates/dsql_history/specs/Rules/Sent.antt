-- Defines which driver call a call sends next on the connection that it uses, in its own line and over rows from a
-- query.
use Rattle.std.specs.Prelude.{ℕ, ◌==◌, nat_le, Bool, false, not, ◌&&◌, ◌||◌, cond, List, [], ◌∷◌, Option, Some, None, is_none}
use Rattle.dsql_history_work.specs.driver.declared.caps.Caps.{Caps}
use Rattle.dsql_history_work.specs.driver.declared.call.DriverCall.{DriverCall}
use Rattle.dsql_history_work.specs.driver.declared.call.DriverCall.TheVariants.{Reset, Begin}
use Rattle.dsql_history_work.specs.driver.Kinds.{is_bad, is_valid, is_begin}
use Rattle.dsql_history_work.specs.driver.Fits.{is_done}
use Rattle.dsql_history_work.specs.course.declared.course.Wish.{Wish}
use Rattle.dsql_history_work.specs.course.declared.course.Wish.TheVariants as wishes
use Rattle.dsql_history_work.specs.journal.declared.entry.Entry.{Entry}
use Rattle.dsql_history_work.specs.journal.Kinds.{number_of}
use Rattle.dsql_history_work.specs.journal.Readers.{went_bad}
use Rattle.dsql_pool.specs.declared.conn.Place.{Place}
use Rattle.dsql_pool.specs.declared.conn.Place.TheVariants.{Lent}
use Rattle.dsql_history_work.specs.Exchanges.{exchanges}
use Rattle.dsql_history_work.specs.Line.{test_of, Asked, body_after, line_after}
use Rattle.dsql_history.specs.Rules.Wishes.{wish_as}
use Rattle.dsql_history.specs.declared.event.Event.{Event}
use Rattle.dsql_history.specs.declared.work.Scope.{Scope}
use Rattle.dsql_history.specs.declared.work.Scope.TheVariants.{Db, Held}
use Rattle.dsql_history.specs.declared.work.Work.{Work}
use Rattle.dsql_history.specs.declared.work.Work.TheVariants as works_of
use Rattle.dsql_history.specs.Readers.Course.{caps}
use Rattle.dsql_history.specs.Readers.Works.{work, aim_of, scope, is_fetch, borrower}
use Rattle.dsql_history.specs.Readers.Journals.{journal, heard_in}
use Rattle.dsql_history.specs.Readers.Pool.{place, uses}
use Rattle.dsql_history.specs.Readers.HandedOut.{is_late, are_live, are_over, ender}
use Rattle.dsql_history.specs.Readers.Lines.{line_in}
use Rattle.dsql_history.specs.Readers.Calls.{call_record, decided, site, has_begun_to_send}

-- Is true if the driver can reset, and an earlier tenure of the connection had an owner other than the House.
abbrev pub is_reset_due : List Event → ℕ → Bool
is_reset_due before c = (caps before).resetter && nat_le 2 (uses before c)

-- Returns what call n asks of the driver.
abbrev pub asked_by : List Event → ℕ → Asked
asked_by before n =
    record { text = (call_record before n).text; params = (call_record before n).params; aim = aim_of (work before n) }

-- Returns the same abilities without the test. A connection is tested as it is given back, so a call in a
-- transaction doesn't test it.
abbrev pub untested : Caps → Caps
untested can = record can { validator = false }

-- Returns the driver call that a call in a transaction sends next after its line. The entries of other calls
-- have no part in that.
abbrev pub inner_after : Caps → Bool → Asked → Wish → List Entry → Option DriverCall
inner_after can bad asked wish line = body_after (untested can) bad asked wish (exchanges line)

-- Returns the driver call that the begin of a transaction sends next after this entry. After its Reset it sends
-- the Begin, and the test if the Begin failed. A transaction that was begun keeps its connection.
abbrev pub begin_after : Caps → DriverCall → Entry → Option DriverCall
begin_after can begin e = cond (is_begin e.call) (cond (is_done e.answer) None (test_of can)) (Some begin)

-- Returns the next driver call, or none after a Bad or a test.
abbrev pub unless_last : Entry → Option DriverCall → Option DriverCall
unless_last e next = cond (is_bad e.answer || is_valid e.call) None next

abbrev pub begin_line : Caps → Bool → DriverCall → List Entry → Option DriverCall
begin_line can reset_due begin [] = cond reset_due (Some Reset) (Some begin)
begin_line can reset_due begin (e ∷ earlier) = unless_last e (begin_after can begin e)

-- What the line of a call on its connection depends on.
pub record Sender : Type 0 where
  -- What the driver is able to do.
  pub can : Caps
  -- Whether a Reset is due on the connection.
  pub reset_due : Bool
  -- Whether the connection is known to be bad.
  pub bad : Bool
  -- What the call asks of the driver.
  pub asked : Asked
  -- What the call does.
  pub work : Work
  -- What is wanted of the rows that the call handed out.
  pub wish : Wish

-- Returns call n as a sender on connection c, with this wish.
abbrev pub sender : List Event → ℕ → ℕ → Wish → Sender
sender before n c wish =
    record {
      can = caps before;
      reset_due = is_reset_due before c;
      bad = went_bad (journal before c);
      asked = asked_by before n;
      work = work before n;
      wish = wish;
    }

-- Returns the driver call that a call on the database sends next after its line.
abbrev pub db_line : Sender → List Entry → Option DriverCall
db_line it line = line_after it.can it.reset_due it.asked it.wish line

-- Returns the driver call that a call in a transaction sends next after its line.
abbrev pub tx_line : Sender → List Entry → Option DriverCall
tx_line it line = inner_after it.can it.bad it.asked it.wish line

-- Returns the driver call that a sender with this work in this scope sends next after its line.
abbrev pub line_for : Work → Scope → Sender → List Entry → Option DriverCall
line_for (works_of.Begin label level read_only) scope it line =
    begin_line it.can it.reset_due (Begin level read_only) line
line_for work Db it line = db_line it line
line_for work (Held k) it line = tx_line it line

abbrev pub line_with : Sender → List Entry → Option DriverCall
line_with it line = line_for it.work (scope it.work) it line

abbrev pub line_at : List Event → ℕ → Wish → ℕ → Option Place → Option DriverCall
line_at before n wish c (Some (Lent tenure owner)) =
    cond (number_of owner == borrower before n)
    (line_with (sender before n c wish) (line_in owner n (heard_in before c tenure))) None
line_at before n wish c _ = None

-- Returns the driver call that comes next in the line of call n. The wish says what is wanted of the rows that
-- call n handed out.
abbrev pub line_of : List Event → ℕ → Wish → Option DriverCall
line_of before n wish = line_at before n wish (site before n) (place before (site before n))

-- Is true if call m closes the rows of call k. The call that ended rows closes them. After their transaction
-- has ended, it does so only if it has begun to send.
abbrev pub closes : List Event → ℕ → ℕ → Bool
closes before m k =
    (ender before k == m) && (not (is_late before (scope (work before k))) || has_begun_to_send before m)

-- Returns what call m wants of the rows of call k, from which calls fetch as long as they are live.
abbrev pub wish : List Event → ℕ → ℕ → Wish
wish before m k =
    wish_as (closes before m k) (is_fetch (work before m) && (are_live before k && is_none (decided before m)))

-- Returns the driver call that is sent over the rows of call k, if anything is wanted of them.
abbrev pub sent_for : List Event → ℕ → Wish → Option DriverCall
sent_for before k wishes.Nothing = None
sent_for before k wish = line_of before k wish

-- Returns the driver call that is still to be sent to close the rows that call n handed out.
abbrev pub close_due : List Event → ℕ → Option DriverCall
close_due before n = cond (are_over before n) (line_of before n wishes.Close) None
