-- Proves that what calls on the database send leaves their connection open. It can be shut if its last tenure is whole.
use Rattle.std.proofs.Common.{◌≡◌, ℕ, true, false, not, ◌==◌, ◌&&◌, List, [], ◌∷◌, refl, ◌∙◌}
use Rattle.std.specs.List.{list_all, filter}
use native.Mathlib.Omega.{arith}
use Rattle.dsql_history_work.specs.driver.declared.call.DriverCall.{DriverCall}
use Rattle.dsql_history_work.specs.driver.declared.call.DriverCall.TheVariants.{Reset, Valid, Ping, Prepare, Exec, Query, Next, CloseRows, CloseStmt}
use Rattle.dsql_history_work.specs.driver.declared.answer.DriverAnswer.{DriverAnswer}
use Rattle.dsql_history_work.specs.driver.declared.answer.DriverAnswer.TheVariants.{Prepared}
use Rattle.dsql_history_work.specs.journal.declared.entry.Entry.{Entry}
use Rattle.dsql_history_work.specs.journal.Kinds.{is_call}
use Rattle.dsql_history_work.specs.journal.Readers.{LiveHandle, is_empty, handles, handles_after, cursors, begun, was_refused, was_shut}
use Rattle.dsql_history_work.proofs.journal.PlainJournals.{Plain, still_one}
use Rattle.dsql_laws_work.proofs.CallLines.{is_sent, sent_entry}

-- Holds if connection c is open and not shut. Its live handles belong to calls, and no transaction was begun on
-- it.
pub record Served (c : ℕ) (J : List Entry) : Type 0 where
  pub one : list_all (λ x. x.conn == c) J ≡ true
  pub opened : is_empty J ≡ false
  pub not_refused : was_refused J ≡ false
  pub not_shut : was_shut J ≡ false
  pub call_handles : list_all (λ h. is_call h.owner) (handles J) ≡ true
  pub none_begun : begun J ≡ []

pub plain_of : (c : ℕ) (J : List Entry) → Served c J → cursors J ≡ [] → Plain c J
plain_of c J s none =
    record { one = s.one; opened = s.opened; not_refused = s.not_refused; not_shut = s.not_shut; call_handles = s.call_handles; no_cursors = none; none_begun = s.none_begun }

pub served_of : (c : ℕ) (J : List Entry) → Plain c J → Served c J
served_of c J p =
    record { one = p.one; opened = p.opened; not_refused = p.not_refused; not_shut = p.not_shut; call_handles = p.call_handles; none_begun = p.none_begun }

own_more : (live : List LiveHandle) (handle : ℕ) → list_all (λ h. is_call h.owner) live ≡ true → list_all (λ h. is_call h.owner) (filter (λ h. not (h.number == handle)) live) ≡ true
own_more [] handle all = refl
own_more (x ∷ live) handle all = grind (arith, all, own_more live handle)

handles_own : (c t n m : ℕ) (call : DriverCall) (answer : DriverAnswer) (live : List LiveHandle) → list_all (λ h. is_call h.owner) live ≡ true
    → list_all (λ h. is_call h.owner) (handles_after (sent_entry c t n m call answer) call answer live) ≡ true
handles_own c t n m (Prepare text) (Prepared handle inputs) live all = all
handles_own c t n m (CloseStmt handle) answer live all = own_more live handle all
handles_own c t n m _ answer live all = all

-- What such a call sends neither opens nor shuts the connection, and begins no transaction.
served_with : (c t n m : ℕ) (q : DriverCall) (a : DriverAnswer) (J : List Entry) → Served c J → was_refused (sent_entry c t n m q a ∷ J) ≡ was_refused J → was_shut (sent_entry c t n m q a ∷ J) ≡ was_shut J
    → begun (sent_entry c t n m q a ∷ J) ≡ begun J → Served c (sent_entry c t n m q a ∷ J)
served_with c t n m q a J s refused shut begin = record {
  one = still_one c J s.one;
  opened = refl;
  not_refused = refused ∙ s.not_refused;
  not_shut = shut ∙ s.not_shut;
  call_handles = handles_own c t n m q a (handles J) s.call_handles;
  none_begun = begin ∙ s.none_begun;
}

pub served_sent : (c t n m : ℕ) (q : DriverCall) (a : DriverAnswer) (J : List Entry) → Served c J → is_sent q ≡ true → Served c (sent_entry c t n m q a ∷ J)
served_sent c t n m Reset a J s sent = served_with c t n m Reset a J s refl refl refl
served_sent c t n m Valid a J s sent = served_with c t n m Valid a J s refl refl refl
served_sent c t n m Ping a J s sent = served_with c t n m Ping a J s refl refl refl
served_sent c t n m (Exec input params) a J s sent = served_with c t n m (Exec input params) a J s refl refl refl
served_sent c t n m (Query input params) a J s sent = served_with c t n m (Query input params) a J s refl refl refl
served_sent c t n m (Prepare text) a J s sent = served_with c t n m (Prepare text) a J s refl refl refl
served_sent c t n m (Next rows) a J s sent = served_with c t n m (Next rows) a J s refl refl refl
served_sent c t n m (CloseRows rows) a J s sent = served_with c t n m (CloseRows rows) a J s refl refl refl
served_sent c t n m (CloseStmt handle) a J s sent = served_with c t n m (CloseStmt handle) a J s refl refl refl
served_sent c t n m q a J s sent = absurd cc
