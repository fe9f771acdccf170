-- What the laws say of a transaction's tenure before its Begin is done, and of the test once the transaction
-- has ended.
use Rattle.std.specs.Prelude.{◌≡◌, ◌==◌, ◌<◌, ◌≤◌, ℕ, Bool, true, false, ◌&&◌, cond, List, [], ◌∷◌}
use Rattle.std.specs.List.{list_all, list_any}
use Rattle.dsql_history.specs.driver.declared.call.DriverCall.{DriverCall}
use Rattle.dsql_history.specs.driver.declared.call.DriverCall.TheVariants.{Valid}
use Rattle.dsql_history.specs.driver.declared.caps.Caps.{Caps}
use Rattle.dsql_history.specs.driver.Fits.{is_invalid}
use Rattle.dsql_history.specs.driver.Kinds.{is_bad, is_begin, is_ending, is_valid}
use Rattle.dsql_history.specs.journal.declared.entry.Entry.{Entry}
use Rattle.dsql_history.specs.journal.declared.entry.Owner.TheVariants.{Tx}
use Rattle.dsql_history.specs.journal.Kinds.{◌⇒◌}
use Rattle.dsql_history.specs.journal.Readers.{begins, is_empty, last_tenure, of_tenure, of_transaction, was_refused, was_shut, went_bad}
use Rattle.dsql_history.specs.journal.Tenure.{is_whole_tenure}
use Rattle.dsql_history.specs.Rules.Line.{is_due}
use Rattle.dsql_history.specs.Rules.Sent.{begin_line}
use Rattle.dsql_laws_tenures.specs.Tenures.{IsOfTransaction}

-- Is true if these entries are driver calls of a begin, each due when it was sent.
abbrev pub is_begin_line : Caps → Bool → DriverCall → List Entry → Bool
is_begin_line can reset_due begin [] = true
is_begin_line can reset_due begin (e ∷ earlier) =
    is_begin_line can reset_due begin earlier && is_due (begin_line can reset_due begin earlier) e.call

-- Holds if tenure t of connection c is lent to transaction k, which has no entry yet. What was heard in the
-- tenure is what its begin sent. It is the last tenure, or comes after a last tenure that is whole. No tenure
-- before it went bad or failed its test. The connection was opened, and is neither refused nor shut.
pub record IsLentTo (can : Caps) (reset_due : Bool) (begin : DriverCall) (c k t : ℕ) (J : List Entry) : Type 0 where
  pub begins : is_begin begin ≡ true
  pub tenure : IsOfTransaction k t J
  pub line : is_begin_line can reset_due begin (of_tenure t J) ≡ true
  pub numbered : (k == 0) ≡ false
  pub no_entries : of_transaction k J ≡ []
  pub opened : is_empty J ≡ false
  pub one_connection : list_all (λ x. x.conn == c) J ≡ true
  pub rising : last_tenure J ≤ t
  pub whole_before : last_tenure J < t → is_whole_tenure (last_tenure J) J ≡ true
  pub bad_here : list_all (λ x. is_bad x.answer ⇒ (x.tenure == t)) J ≡ true
  pub invalid_here : list_all (λ x. is_invalid x.answer ⇒ (x.tenure == t)) J ≡ true
  pub not_refused : was_refused J ≡ false
  pub not_shut : was_shut J ≡ false

-- Holds if the entry is of the begin of that transaction. It has the transaction's number if it begins the
-- transaction.
pub record IsOfBegin (c k t : ℕ) (e : Entry) : Type 0 where
  pub conn : e.conn ≡ c
  pub tenure : e.tenure ≡ t
  pub owner : e.owner ≡ Tx k
  pub call_no : e.call_no ≡ k
  pub tx : e.tx ≡ cond (begins e) k 0

-- Holds if the transaction has its Commit or Rollback in that tenure of connection c, which is the tenure under
-- way. The connection wasn't tested there, and is neither bad, refused nor shut.
pub record HasEnded (c k t : ℕ) (J : List Entry) : Type 0 where
  pub tenure : IsOfTransaction k t J
  pub ended : list_any (λ x. is_ending x.call) (of_tenure t J) ≡ true
  pub one_connection : list_all (λ x. x.conn == c) J ≡ true
  pub under_way : last_tenure J ≡ t
  pub not_tested : list_any (λ x. is_valid x.call) (of_tenure t J) ≡ false
  pub not_bad : went_bad J ≡ false
  pub not_refused : was_refused J ≡ false
  pub not_shut : was_shut J ≡ false

-- Holds if the entry tests the connection in that tenure.
pub record IsTestOf (c k t : ℕ) (e : Entry) : Type 0 where
  pub conn : e.conn ≡ c
  pub tenure : e.tenure ≡ t
  pub owner : e.owner ≡ Tx k
  pub tx : e.tx ≡ 0
  pub call : e.call ≡ Valid
