-- The checks of a call that enters, and the rows on which it works.
use Rattle.std.specs.Prelude.{◌≡◌, ℕ, cond, true, false, List, string_bytes, Option, Some, None, option_map}
use Rattle.dsql_laws_calls.specs.value.declared.arg.Named.{Named}
use Rattle.dsql_laws_calls.specs.value.Arguments.{first_fault}
use Rattle.dsql_laws_calls.specs.course.Made.{or_else}
use Rattle.dsql_laws_calls.specs.tx.declared.end.TxEnd.{TxEnd}
use Rattle.dsql_laws_calls.specs.rows.OpenRows.{was_made}
use Rattle.dsql_laws_calls.specs.works.Calls.{accepted}
use Rattle.dsql_laws_calls.specs.history.declared.event.Event.{Event}
use Rattle.dsql_laws_calls.specs.history.declared.event.Target.{Target}
use Rattle.dsql_laws_calls.specs.history.declared.work.Work.{Work}
use Rattle.dsql_laws_calls.specs.history.declared.work.Work.TheVariants.{End}
use Rattle.dsql_laws_calls.specs.history.Readers.Calls.{is_there, target_refused, tx_refused}
use Rattle.dsql_laws_calls.specs.history.Readers.Course.{caps}
use Rattle.dsql_laws_calls.specs.history.Readers.Decisions.{told_of}
use Rattle.dsql_laws_calls.specs.history.Readers.HandedOut.{handed_out, rows_by}
use Rattle.dsql_laws_calls.specs.history.Readers.Unfinished.{is_unfinished}
use Rattle.dsql_laws_calls.specs.history.Readers.Works.{rows_maker, tx_maker, works}
use Rattle.dsql_engine_calls.specs.declared.call.CallStart.{CallStart}
use Rattle.dsql_engine_effects.specs.Starts.{ending_of, label_made}
use Rattle.dsql_engine_effects.specs.Starting.{StartsOver}

-- Holds if `it` is what the desk records of a call that runs a text on this target.
pub record StartsText (past : List Event) (target : Target) (text : List ℕ) (args : List Named) (work : Work)
    (it : CallStart) : Type 0 where
  pub work_is : it.work ≡ work
  pub same : it.text ≡ text
  pub params : it.params ≡ accepted (first_fault (caps past).named args) args
  pub decided : it.decided ≡ or_else (target_refused past target) (told_of (first_fault (caps past).named args))
  pub label : option_map string_bytes it.label ≡ label_made work
  pub tx_label : it.tx_label ≡ None
  pub closes : it.closes ≡ None
  pub ends : it.ends ≡ None

-- Holds if `it` is what the desk records of a call that is to end the transaction of this label in this way.
pub record StartsEnd (past : List Event) (label : List ℕ) (by : TxEnd) (it : CallStart) : Type 0 where
  pub over : StartsOver (End (tx_maker (works past) label)) None (ending_of past label by) (tx_refused past label) it

-- Returns the call whose transaction has the label, if the transaction was begun and the call has replied.
abbrev pub tx_named : List Event → List ℕ → Option ℕ
tx_named past label = cond (is_there past (tx_maker (works past) label)) (Some (tx_maker (works past) label)) None

-- Holds if the rows of call k have the label, and the call has replied.
pub record IsNamed (past : List Event) (label : List ℕ) (k : ℕ) : Type 0 where
  pub number : k ≡ rows_maker (works past) label
  pub replied : is_unfinished past k ≡ false
  pub made : was_made k (handed_out past) ≡ true

-- Holds if no rows have the label whose query has replied.
abbrev pub NoneNamed : List Event → List ℕ → Type 0
NoneNamed past label =
    cond (is_unfinished past (rows_maker (works past) label)) None (rows_by past (rows_maker (works past) label)) ≡ None
