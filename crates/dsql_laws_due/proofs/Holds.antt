-- What holds of connections that are lent to transactions, and of what is under way there. The driver calls of
-- a begin and of calls in a transaction are left out.
use Rattle.std.proofs.Common.{◌≡◌, ℕ, ◌==◌, ◌⊎◌, true, false, cond, List, Option, Some, None, is_some}
use Rattle.std.specs.List.{list_all, list_any}
use Rattle.dsql_laws_calls.specs.driver.declared.call.DriverCall.{DriverCall}
use Rattle.dsql_laws_calls.specs.driver.declared.call.DriverCall.TheVariants as calls
use Rattle.dsql_laws_calls.specs.driver.Kinds.{is_ending, is_valid}
use Rattle.dsql_laws_calls.specs.course.declared.course.Wish.{Wish}
use Rattle.dsql_laws_calls.specs.course.declared.course.Wish.TheVariants as wishes
use Rattle.dsql_laws_calls.specs.journal.declared.entry.Entry.{Entry}
use Rattle.dsql_laws_calls.specs.journal.declared.entry.Owner.{Owner}
use Rattle.dsql_laws_calls.specs.journal.Kinds.{is_call, number_of}
use Rattle.dsql_laws_calls.specs.journal.Readers.{went_bad}
use Rattle.dsql_laws_calls.specs.pool.declared.conn.Place.TheVariants.{Lent}
use Rattle.dsql_laws_calls.specs.works.Line.{Asked}
use Rattle.dsql_laws_calls.specs.history.declared.event.Event.{Event}
use Rattle.dsql_laws_calls.specs.history.declared.work.Scope.TheVariants.{Db, Held}
use Rattle.dsql_laws_calls.specs.history.declared.work.Work.{Work}
use Rattle.dsql_laws_calls.specs.history.declared.work.Work.TheVariants.{Begin, Fetch}
use Rattle.dsql_laws_calls.specs.history.Readers.Course.{caps}
use Rattle.dsql_laws_calls.specs.history.Readers.Journals.{journal, heard_in}
use Rattle.dsql_laws_calls.specs.history.Readers.Lines.{has_sent}
use Rattle.dsql_laws_calls.specs.history.Readers.Pool.{place}
use Rattle.dsql_laws_calls.specs.history.Readers.HandedOut.{are_over, rows_by}
use Rattle.dsql_laws_calls.specs.history.Readers.Transactions.{is_begun}
use Rattle.dsql_laws_calls.specs.history.Readers.Unfinished.{is_unfinished}
use Rattle.dsql_laws_calls.specs.history.Readers.Works.{work, scope, asks, is_in, hands_out_in}
use Rattle.dsql_laws_calls.specs.history.Rules.Line.{is_due, may_come}
use Rattle.dsql_laws_calls.specs.history.Rules.Sent.{asked_by, is_reset_due}
use Rattle.dsql_laws_tenures.specs.Begins.{is_begin_line}
use Rattle.dsql_laws_tenures.specs.Sent.{KeepsLines}
use Rattle.dsql_laws_tenures.specs.Tenures.{made_by}
use Rattle.dsql_laws_calls.proofs.Lines.{line_there}
use Rattle.dsql_laws_calls.proofs.Quiet.{Quiet}
use Rattle.dsql_laws_calls.proofs.UnderWay.{handed_there, line_made}
use Rattle.dsql_laws_calls.proofs.Why.{ended_there}
use Rattle.dsql_laws_due.proofs.LineEnds.{IsShut}

-- Returns what call n in transaction k asks.
abbrev pub asked_in : List Event → ℕ → ℕ → Option Asked
asked_in H k n = cond (is_in k (scope (work H n))) (Some (asked_by H n)) None

-- Returns the Begin of a begin.
abbrev pub begin_of : Work → DriverCall
begin_of (Begin label level read_only) = calls.Begin level read_only
begin_of w = calls.Reset

-- Holds if nothing is open in any line of the tenure, or the connection is known to be bad.
abbrev pub AllShut : ℕ → List Entry → Type 0
AllShut t J = (went_bad J ≡ true) ⊎ ((n : ℕ) → IsShut (made_by n t J))

-- What was heard of a begin there, as long as it hasn't begun its transaction.
pub record Opening (H : List Event) (c t : ℕ) (own : Owner) : Type 0 where
  pub line : is_begin_line (caps H) (is_reset_due H c) (begin_of (work H (number_of own))) (heard_in H c t) ≡ true
  pub alone : list_all (λ x. x.call_no == number_of own) (heard_in H c t) ≡ true

-- What holds of each connection that is lent to a transaction.
pub record Kept (H : List Event) : Type 0 where
  -- The driver calls in the lines were each due when they were sent.
  pub lines : (c t : ℕ) (own : Owner) → place H c ≡ Some (Lent t own) → is_call own ≡ false → KeepsLines (caps H) (asked_in H (number_of own)) t (journal H c)
  -- A call that has its reply handed rows out, or has nothing more to send for good.
  pub rested : (c t : ℕ) (own : Owner) → place H c ≡ Some (Lent t own) → (m : ℕ) → scope (work H m) ≡ Held (number_of own) → is_unfinished H m ≡ false → has_sent m (journal H c) ≡ true
      → (handed_there H c t m ≡ true) ⊎ Quiet (caps H) (went_bad (journal H c)) (asked_by H m) (line_made H c t m)
  -- Rows that were made have their cursor in the line of their query.
  pub handed : (c t : ℕ) (own : Owner) → place H c ≡ Some (Lent t own) → (n : ℕ) → hands_out_in (number_of own) (work H n) ≡ true → is_some (rows_by H n) ≡ true → handed_there H c t n ≡ true
  pub opening : (c t : ℕ) (own : Owner) → place H c ≡ Some (Lent t own) → is_call own ≡ false → is_begun H (number_of own) ≡ false → Opening H c t own
  pub untested : (c t : ℕ) (own : Owner) → place H c ≡ Some (Lent t own) → is_begun H (number_of own) ≡ true → ended_there (heard_in H c t) ≡ false → list_any (λ x. is_valid x.call) (heard_in H c t) ≡ false
  pub ended : (c t : ℕ) (own : Owner) → place H c ≡ Some (Lent t own) → is_begun H (number_of own) ≡ true → ended_there (heard_in H c t) ≡ true → AllShut t (journal H c)

-- Holds if the driver call is over rows of call n, or closes them.
pub record RowsWay (H : List Event) (c t : ℕ) (own : Owner) (m : ℕ) (q : DriverCall) : Type 0 where
  pub n : ℕ
  pub hands : hands_out_in (number_of own) (work H n) ≡ true
  pub rows : is_some (rows_by H n) ≡ true
  pub wish : Wish
  pub due : is_due (line_there H c t own n wish) q ≡ true
  pub left : (ended_there (heard_in H c t) ≡ false) ⊎ (wish ≡ wishes.Close)
  -- The rows are over, or the call fetches from them.
  pub kind : ((wish ≡ wishes.Close) × (are_over H n ≡ true)) ⊎ ((wish ≡ wishes.Fetch) × (work H m ≡ Fetch n))

-- Holds if the driver call ends the transaction.
pub record EndsWay (H : List Event) (c t : ℕ) (q : DriverCall) : Type 0 where
  pub ends : is_ending q ≡ true
  pub none : ended_there (heard_in H c t) ≡ false
  pub shut : AllShut t (journal H c)

-- Holds if the driver call tests the connection once the transaction has ended.
pub record TestsWay (H : List Event) (c t : ℕ) (q : DriverCall) : Type 0 where
  pub tests : q ≡ calls.Valid
  pub ended : ended_there (heard_in H c t) ≡ true
  pub good : went_bad (journal H c) ≡ false
  pub untested : list_any (λ x. is_valid x.call) (heard_in H c t) ≡ false

pub record TxWay (H : List Event) (c t : ℕ) (own : Owner) (m : ℕ) (q : DriverCall) : Type 0 where
  pub begun : is_begun H (number_of own) ≡ true
  pub way : RowsWay H c t own m q ⊎ (EndsWay H c t q ⊎ TestsWay H c t q)

-- Holds if call m has no statement of its own: it works on rows, ends a transaction, or is the layer.
pub record IsOther (H : List Event) (m : ℕ) : Type 0 where
  pub asks_none : asks (work H m) ≡ false
  pub outside : scope (work H m) ≡ Db

pub record Holds (H : List Event) : Type 0 where
  pub kept : Kept H
  pub coming : (e : Entry) (own : Owner) → may_come H e ≡ true → place H e.conn ≡ Some (Lent e.tenure own) → is_call own ≡ false → IsOther H e.call_no → TxWay H e.conn e.tenure own e.call_no e.call
