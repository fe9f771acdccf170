-- What becomes of the text and the arguments of a call that enters. What its transaction decides for it, and what is
-- kept of a call that runs no text.
use Rattle.std.specs.Prelude.{◌≡◌, ℕ, Bool, true, List, [], string_bytes, Option, Some, None, option_map}
use Rattle.dsql_history.specs.value.declared.arg.Named.{Named}
use Rattle.dsql_history.specs.value.Arguments.{first_fault}
use Rattle.dsql_history.specs.driver.declared.call.Level.{Level}
use Rattle.dsql_history.specs.numbered.Numbered.{Numbered, thing_of, was_made}
use Rattle.dsql_history.specs.tx.declared.tx.Tx.{Tx}
use Rattle.dsql_history.specs.works.Calls.{accepted}
use Rattle.dsql_history.specs.declared.reply.Reply.{Reply}
use Rattle.dsql_history.specs.declared.reply.Reply.TheVariants.{Absent}
use Rattle.dsql_history.specs.declared.work.Work.{Work}
use Rattle.dsql_history.specs.declared.work.Work.TheVariants.{Begin}
use Rattle.dsql_history.specs.Readers.Calls.{done_with}
use Rattle.dsql_history.specs.Readers.Decisions.{told_of}
use Rattle.dsql_history.specs.Readers.Transactions.{end_of}
use Rattle.dsql_engine_calls.specs.declared.call.CallStart.{CallStart}
use Rattle.dsql_engine_calls.specs.declared.call.Ending.{Ending}
use Rattle.dsql_engine_effects.specs.declared.starting.Checked.{Checked}

-- Holds if this is the text with its arguments, and the reply if one of them is refused.
pub record IsChecked (named_ok : Bool) (text : List ℕ) (args : List Named) (it : Checked) : Type 0 where
  pub same : it.text ≡ text
  pub params : it.params ≡ accepted (first_fault named_ok args) args
  pub refused : it.refused ≡ told_of (first_fault named_ok args)

-- Holds if this is kept of a call that runs no text and begins no transaction.
pub record StartsOver (work : Work) (closes : Option ℕ) (ends : Option Ending) (decided : Option Reply)
    (it : CallStart) : Type 0 where
  pub work_is : it.work ≡ work
  pub text : it.text ≡ []
  pub params : it.params ≡ []
  pub decided_so : it.decided ≡ decided
  pub label : it.label ≡ None
  pub tx_label : it.tx_label ≡ None
  pub closes_so : it.closes ≡ closes
  pub ends_so : it.ends ≡ ends

-- Holds if this is kept of a call that begins a transaction under this label.
pub record StartsBegin (own : List ℕ) (level : Level) (read_only : Bool) (decided : Option Reply)
    (it : CallStart) : Type 0 where
  pub work_is : it.work ≡ Begin own level read_only
  pub text : it.text ≡ []
  pub params : it.params ≡ []
  pub decided_so : it.decided ≡ decided
  pub label : it.label ≡ None
  pub tx_label : option_map string_bytes it.tx_label ≡ Some own
  pub closes : it.closes ≡ None
  pub ends : it.ends ≡ None

-- Holds if the transaction was begun, if one is named.
abbrev pub IsBegun : Option ℕ → Numbered Tx → Type 0
IsBegun None txs = Unit {0}
IsBegun (Some k) txs = was_made k txs ≡ true

-- Returns the reply that a call on the label's transaction gets at once, given these transactions: there is none, or it
-- has ended.
abbrev pub told_on : List ℕ → Option ℕ → Numbered Tx → Option Reply
told_on label None txs = Some (Absent label)
told_on label (Some k) txs = done_with (end_of (thing_of k txs))
