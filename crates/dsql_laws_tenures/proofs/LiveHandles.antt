-- A handle that a line has is live.
use Rattle.std.proofs.Common.{◌≡◌, ℕ, ℤ, true, false, not, ◌==◌, ◌&&◌, ◌⊎◌, inl, inr, List, [], ◌∷◌, None, refl}
use Rattle.std.specs.List.{list_all, list_any}
use native.Mathlib.Omega.{arith}
use Rattle.std.proofs.lemmas.Bool.Decides.{nat_tests}
use Rattle.dsql_history.specs.driver.declared.call.DriverCall.{DriverCall}
use Rattle.dsql_history.specs.driver.declared.call.DriverCall.TheVariants.{Ping, Prepare, Exec, Query, Next, CloseRows, CloseStmt}
use Rattle.dsql_history.specs.driver.declared.call.Input.TheVariants.{Text, Handle}
use Rattle.dsql_history.specs.driver.declared.answer.DriverAnswer.{DriverAnswer}
use Rattle.dsql_history.specs.driver.declared.answer.DriverAnswer.TheVariants.{Prepared}
use Rattle.dsql_history.specs.driver.Fits.{fits_of}
use Rattle.dsql_history.specs.driver.Kinds.{handle_of, is_work, given_handle}
use Rattle.dsql_history.specs.course.declared.call.Due.{Due}
use Rattle.dsql_history.specs.course.declared.call.Due.TheVariants as due
use Rattle.dsql_history.specs.course.declared.call.Got.{Got}
use Rattle.dsql_history.specs.course.Made.{Exchange, own_handle, given_handle as handle_in}
use Rattle.dsql_history.specs.journal.declared.entry.Entry.{Entry}
use Rattle.dsql_history.specs.journal.declared.entry.Owner.TheVariants.{Tx}
use Rattle.dsql_history.specs.journal.Kinds.{◌⇒◌, if_any, is_call}
use Rattle.dsql_history.specs.journal.Readers.{LiveHandle, is_empty, handles_after}
use Rattle.dsql_history.specs.works.Exchanges.{got_of, step_of, with_exchange}
use Rattle.dsql_history.specs.Readers.Lines.{is_of, closes_handle, has_handle, is_about}
use Rattle.dsql_laws_tenures.proofs.Numbers.{same_number, is_itself, impossible, true_false, one_less, not_first, none_of, not_none}
use Rattle.dsql_laws_tenures.proofs.Touched.{touches_handle, prepared}

-- If a line has a handle after an exchange that gave none, it had the handle before, and the exchange didn't
-- close it.
fewer : (d : Due) (g : Got) (made : List Exchange) (n : ℕ) → handle_in g ≡ None → has_handle ((d, g) ∷ made) n ≡ true → (has_handle made n ≡ true) × (closes_handle n d ≡ false)
fewer d g made n none h = one_less (is_of (own_handle made) n) (closes_handle n d) (list_any (λ x. closes_handle n x.0) made) (rw none at h)

pub had_handle : (n : ℕ) (q : DriverCall) (a : DriverAnswer) (made : List Exchange) → fits_of q a ≡ true → touches_handle n q a ≡ false → has_handle (with_exchange (step_of q) a made) n ≡ true
    → has_handle made n ≡ true
had_handle n (Prepare text) (Prepared handle inputs) made fit off h = absurd (not_first (handle == n) (not (list_any (λ x. closes_handle n x.0) made)) off h)
had_handle n (Exec (Text text) params) (Prepared handle inputs) made fit off h = absurd (impossible fit)
had_handle n (Exec (Handle handle) params) (Prepared given inputs) made fit off h = absurd (impossible fit)
had_handle n (Query (Text text) params) (Prepared handle inputs) made fit off h = absurd (impossible fit)
had_handle n (Query (Handle handle) params) (Prepared given inputs) made fit off h = absurd (impossible fit)
had_handle n q (Prepared handle inputs) made fit off h = absurd (impossible fit)
had_handle n (Query (Text text) params) a made fit off h = (fewer due.Text (got_of a) made n refl h).0
had_handle n (Query (Handle handle) params) a made fit off h = (fewer (due.Handle handle) (got_of a) made n refl h).0
had_handle n (Exec (Text text) params) a made fit off h = (fewer due.Text (got_of a) made n refl h).0
had_handle n (Exec (Handle handle) params) a made fit off h = (fewer (due.Handle handle) (got_of a) made n refl h).0
had_handle n (Prepare text) a made fit off h = (fewer due.Prepare (got_of a) made n refl h).0
had_handle n (Next rows) a made fit off h = (fewer (due.Next rows) (got_of a) made n refl h).0
had_handle n (CloseRows rows) a made fit off h = (fewer (due.CloseRows rows) (got_of a) made n refl h).0
had_handle n (CloseStmt handle) a made fit off h = (fewer (due.CloseStmt handle) (got_of a) made n refl h).0
had_handle n Ping a made fit off h = (fewer due.Ping (got_of a) made n refl h).0
had_handle n _ a made fit off h = h

-- Holds if exactly one of these handles has this number, and transaction k prepared it in tenure t.
pub record OneLive (k t n : ℕ) (live : List LiveHandle) : Type 0 where
  pub handle : LiveHandle
  pub only : prepared n live ≡ handle ∷ []
  pub tenure : handle.tenure ≡ t
  pub owner : handle.owner ≡ Tx k
  pub tx : handle.tx ≡ k

-- What is known of an entry that comes next. Either the entry is of the line, or the line stays as it was. In
-- the second case the entry isn't about the line if it is of that tenure.
pub record Comes (k t : ℕ) (e : Entry) (q : DriverCall) (a : DriverAnswer) (live : List LiveHandle) (before after : List Exchange) : Type 0 where
  pub fit : fits_of q a ≡ true
  pub new : if_any (given_handle a) (λ n. is_empty (prepared n live)) ≡ true
  pub in_tenure : if_any (handle_of q) (λ n. list_all (λ h. not (is_call h.owner) ⇒ h.tenure == e.tenure) (prepared n live)) ≡ true
  pub line : ((after ≡ before) × ((e.tenure == t) ≡ true → is_about before q ≡ false)) ⊎ ((after ≡ with_exchange (step_of q) a before) × ((e.tenure == t) ≡ true))
  pub tx : (e.tenure == t) ≡ true → is_work q ≡ true → e.tx ≡ k
  pub owner : (e.tenure == t) ≡ true → e.owner ≡ Tx k

-- An entry that touches the one live handle of tenure t is of that tenure.
stays_in : (k t n : ℕ) (e : Entry) (live : List LiveHandle) → OneLive k t n live → list_all (λ h. not (is_call h.owner) ⇒ h.tenure == e.tenure) (prepared n live) ≡ true → (e.tenure == t) ≡ true
stays_in k t n e live one all =
    let here : (not (is_call one.handle.owner) ⇒ one.handle.tenure == e.tenure) && true ≡ true = rw one.only at all in
    by_tenure one.handle.tenure one.tenure (rw one.owner at here)
  where
    by_tenure : (u : ℕ) → u ≡ t → (u == e.tenure) && true ≡ true → (e.tenure == t) ≡ true
    by_tenure u is here = grind (arith, nat_tests)

given : (k t n handle : ℕ) (inputs : ℤ) (e : Entry) (live : List LiveHandle) → handle ≡ n → is_empty (prepared handle live) ≡ true → (e.tenure == t) ≡ true → e.tx ≡ k → e.owner ≡ Tx k
    → OneLive k t n (record { number = handle; tenure = e.tenure; owner = e.owner; tx = e.tx; inputs = inputs } ∷ live)
given k t n handle inputs e live same new tenure tx owner =
    let none : prepared n live ≡ [] = none_of (prepared n live) (rw same at new) in
    let is : (handle == n) ≡ true = rw same (is_itself n) in
    record {
      handle = record { number = handle; tenure = e.tenure; owner = e.owner; tx = e.tx; inputs = inputs };
      only = rw is (rw none refl);
      tenure = same_number e.tenure t tenure;
      owner = owner;
      tx = tx;
    }

no_close : (handle : ℕ) (a : DriverAnswer) → fits_of (CloseStmt handle) a ≡ true → handle_in (got_of a) ≡ None
no_close handle (Prepared n inputs) fit = absurd (impossible fit)
no_close handle a fit = refl

-- A close gives no handle.
pub had_closed : (n handle : ℕ) (a : DriverAnswer) (made : List Exchange) → fits_of (CloseStmt handle) a ≡ true → has_handle ((due.CloseStmt handle, got_of a) ∷ made) n ≡ true → has_handle made n ≡ true
had_closed n handle a made fit h = (fewer (due.CloseStmt handle) (got_of a) made n (no_close handle a fit) h).0

-- An entry that touches a handle that the line then has leaves it the one live handle of its number.
pub touching : (k t n : ℕ) (e : Entry) (q : DriverCall) (a : DriverAnswer) (live : List LiveHandle) (before after : List Exchange) → Comes k t e q a live before after
    → (has_handle before n ≡ true → OneLive k t n live) → touches_handle n q a ≡ true → has_handle after n ≡ true → OneLive k t n (handles_after e q a live)
touching k t n e (Prepare text) (Prepared handle inputs) live before after c one touch has =
    let same : handle ≡ n = same_number handle n touch in
    elim c.line [
      | inl w ↦
          let had = one (rw w.0 at has) in
          absurd (not_none (prepared n live) had.handle had.only (rw same at c.new))
      | inr w ↦ given k t n handle inputs e live same c.new w.1 (c.tx w.1 refl) (c.owner w.1)
    ]
touching k t n e (CloseStmt handle) a live before after c one touch has =
    let same : handle ≡ n = same_number handle n touch in
    elim c.line [
      | inl w ↦
          let had : has_handle before n ≡ true = rw w.0 at has in
          absurd (true_false (has_handle before n) had (rw same at (w.1 (stays_in k t n e live (one had) (rw same at c.in_tenure)))))
      | inr w ↦
          let now : has_handle ((due.CloseStmt handle, got_of a) ∷ before) n ≡ true = rw w.0 at has in
          absurd (true_false (handle == n) touch (fewer (due.CloseStmt handle) (got_of a) before n (no_close handle a c.fit) now).1)
    ]
touching k t n e _ _ live before after c one touch has = absurd (impossible touch)
