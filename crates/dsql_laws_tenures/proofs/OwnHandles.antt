-- The line of some call has each live handle of a transaction's tenure.
use Rattle.std.proofs.Common.{◌≡◌, ℕ, ℤ, Bool, true, false, cond, not, ◌==◌, ◌||◌, inl, inr, List, [], ◌∷◌, Option, None, Some, refl, subst}
use Rattle.std.specs.Prelude.{All, is_some}
use Rattle.std.specs.List.{AllByRecursion, list_all, list_any, filter}
use native.Mathlib.Omega.{arith}
use Rattle.std.proofs.lemmas.Bool.Decides.{nat_tests}
use Rattle.std.proofs.lemmas.List.Elements.{All-from_recursion}
use Rattle.dsql_history.specs.driver.declared.call.DriverCall.{DriverCall}
use Rattle.dsql_history.specs.driver.declared.call.DriverCall.TheVariants.{Ping, Prepare, Exec, Query, Next, CloseRows, CloseStmt}
use Rattle.dsql_history.specs.driver.declared.call.Input.TheVariants.{Text, Handle}
use Rattle.dsql_history.specs.driver.declared.answer.DriverAnswer.{DriverAnswer}
use Rattle.dsql_history.specs.driver.declared.answer.DriverAnswer.TheVariants.{Prepared}
use Rattle.dsql_history.specs.driver.Fits.{fits_of}
use Rattle.dsql_history.specs.driver.Kinds.{given_handle}
use Rattle.dsql_history.specs.course.declared.call.Due.{Due}
use Rattle.dsql_history.specs.course.declared.call.Due.TheVariants as due
use Rattle.dsql_history.specs.course.declared.call.Got.{Got}
use Rattle.dsql_history.specs.course.Made.{Exchange, own_handle, given_handle as handle_in, or_else}
use Rattle.dsql_history.specs.journal.declared.entry.Entry.{Entry}
use Rattle.dsql_history.specs.journal.Kinds.{◌⇒◌, is_call}
use Rattle.dsql_history.specs.journal.Readers.{LiveHandle, handles, handles_after}
use Rattle.dsql_history.specs.journal.Tenure.{has_closed_handles}
use Rattle.dsql_history.proofs.journal.Conjunctions.{parts2, join2}
use Rattle.dsql_history.specs.works.Exchanges.{got_of, step_of, with_exchange}
use Rattle.dsql_history.specs.Readers.Lines.{closes_handle, has_handle}
use Rattle.dsql_laws_tenures.specs.Tenures.{made_by, IsOfTransaction}
use Rattle.dsql_laws_tenures.specs.Orderly.{gives_handle, closes_stmt, prepares_once, PreparesOnce}
use Rattle.dsql_laws_tenures.proofs.Numbers.{impossible, is_itself, neither, not_true, same_number, true_false}
use Rattle.dsql_laws_tenures.proofs.LineSteps.{line_step}
use Rattle.dsql_laws_tenures.proofs.Entries.{newest}

-- Is true if the driver call closes this handle.
abbrev closes_it : ℕ → DriverCall → Bool
closes_it n (CloseStmt handle) = handle == n
closes_it n _ = false

got_none : (a : DriverAnswer) → given_handle a ≡ None → handle_in (got_of a) ≡ None
got_none (Prepared handle inputs) h = absurd cc
got_none _ h = refl

one_on : (d : Due) (g : Got) (made : List Exchange) (n : ℕ) → handle_in g ≡ None → closes_handle n d ≡ false → has_handle made n ≡ true → has_handle ((d, g) ∷ made) n ≡ true
one_on d g made n none off h = rw (none, off) h

keeps_handle : (n : ℕ) (q : DriverCall) (a : DriverAnswer) (made : List Exchange) → given_handle a ≡ None → closes_it n q ≡ false → has_handle made n ≡ true → has_handle (with_exchange (step_of q) a made) n ≡ true
keeps_handle n (Query (Text text) params) a made none off h = one_on due.Text (got_of a) made n (got_none a none) refl h
keeps_handle n (Query (Handle handle) params) a made none off h = one_on (due.Handle handle) (got_of a) made n (got_none a none) refl h
keeps_handle n (Exec (Text text) params) a made none off h = one_on due.Text (got_of a) made n (got_none a none) refl h
keeps_handle n (Exec (Handle handle) params) a made none off h = one_on (due.Handle handle) (got_of a) made n (got_none a none) refl h
keeps_handle n (Prepare text) a made none off h = one_on due.Prepare (got_of a) made n (got_none a none) refl h
keeps_handle n (Next rows) a made none off h = one_on (due.Next rows) (got_of a) made n (got_none a none) refl h
keeps_handle n (CloseRows rows) a made none off h = one_on (due.CloseRows rows) (got_of a) made n (got_none a none) refl h
keeps_handle n (CloseStmt handle) a made none off h = one_on (due.CloseStmt handle) (got_of a) made n (got_none a none) off h
keeps_handle n Ping a made none off h = one_on due.Ping (got_of a) made n (got_none a none) refl h
keeps_handle n _ a made none off h = h

-- If no handle was given or closed, the line has no handle.
none_given : (made : List Exchange) → list_any (λ y. gives_handle y || closes_stmt y.0) made ≡ false → own_handle made ≡ None
none_given [] h = refl
none_given (x ∷ made) h =
    let both = neither (gives_handle x || closes_stmt x.0) (list_any (λ y. gives_handle y || closes_stmt y.0) made) h in
    let here = neither (gives_handle x) (closes_stmt x.0) both.0 in
    by_given (handle_in x.1) here.0 (none_given made both.1)
  where
    by_given : (o : Option (ℕ × ℤ)) → is_some o ≡ false → own_handle made ≡ None → or_else o (own_handle made) ≡ None
    by_given None h none = none
    by_given (Some it) h none = absurd cc

closes_none : (n : ℕ) (d : Due) → closes_stmt d ≡ false → closes_handle n d ≡ false
closes_none n (due.CloseStmt handle) h = absurd cc
closes_none n _ h = refl

none_closed : (n : ℕ) (made : List Exchange) → list_any (λ y. gives_handle y || closes_stmt y.0) made ≡ false → list_any (λ x. closes_handle n x.0) made ≡ false
none_closed n [] h = refl
none_closed n (x ∷ made) h =
    let both = neither (gives_handle x || closes_stmt x.0) (list_any (λ y. gives_handle y || closes_stmt y.0) made) h in
    let here = neither (gives_handle x) (closes_stmt x.0) both.0 in
    rw (closes_none n x.0 here.1) (none_closed n made both.1)

none_had : (made : List Exchange) (n : ℕ) → own_handle made ≡ None → has_handle made n ≡ true → ⊥
none_had made n none h = impossible (rw none at h)

-- What an answer that gives a handle makes: the line has the handle then, and had none before.
record Gives (q : DriverCall) (a : DriverAnswer) (handle : ℕ) (made : List Exchange) : Type 0 where
  had : has_handle (with_exchange (step_of q) a made) handle ≡ true
  none : (n : ℕ) → has_handle made n ≡ true → ⊥

given_now : (q : DriverCall) (a : DriverAnswer) (handle : ℕ) (made : List Exchange) → fits_of q a ≡ true → given_handle a ≡ Some handle → prepares_once (with_exchange (step_of q) a made) ≡ true → Gives q a handle made
given_now (Prepare text) (Prepared given inputs) handle made fit is once =
    let p = parts2 (prepares_once made) (not (list_any (λ y. gives_handle y || closes_stmt y.0) made)) once in
    let first = not_true (list_any (λ y. gives_handle y || closes_stmt y.0) made) p.1 in
    let same : given ≡ handle = cc in
    let now : has_handle (with_exchange (step_of (Prepare text)) (Prepared given inputs) made) given ≡ true = rw (is_itself given, none_closed given made first) refl in
    record { had = subst (λ (x : ℕ). has_handle (with_exchange (step_of (Prepare text)) (Prepared given inputs) made) x ≡ true) same now; none = λ n. none_had made n (none_given made first) }
given_now (Exec (Text text) params) (Prepared given inputs) handle made fit is once = absurd (impossible fit)
given_now (Exec (Handle h) params) (Prepared given inputs) handle made fit is once = absurd (impossible fit)
given_now (Query (Text text) params) (Prepared given inputs) handle made fit is once = absurd (impossible fit)
given_now (Query (Handle h) params) (Prepared given inputs) handle made fit is once = absurd (impossible fit)
given_now q (Prepared given inputs) handle made fit is once = absurd (impossible fit)
given_now q _ handle made fit is once = absurd cc

-- If a line prepares once, it did so before the newest entry.
once_before : (d : Option Due) (a : DriverAnswer) (made : List Exchange) → prepares_once (with_exchange d a made) ≡ true → prepares_once made ≡ true
once_before None a made h = h
once_before (Some call) a made h = (parts2 (prepares_once made) (gives_handle (call, got_of a) ⇒ not (list_any (λ y. gives_handle y || closes_stmt y.0) made)) h).0

PreparesOnce-before : (t : ℕ) (e : Entry) (J : List Entry) → PreparesOnce t (e ∷ J) → PreparesOnce t J
PreparesOnce-before t e J s = record {
  line = λ n. elim (line_step n t e J) [ inl w ↦ rw w.same at (s.line n) | inr w ↦ once_before (step_of e.call) e.answer (made_by n t J) (rw w.more at (s.line n)) ];
}

-- Holds if, for a handle that was prepared in tenure t, the line of a call has it.
abbrev pub Had : ℕ → List Entry → LiveHandle → Type 0
Had t J h = h.tenure ≡ t → (n : ℕ) × (has_handle (made_by n t J) h.number ≡ true)

each_on : (P Q : LiveHandle → Type 0) (live : List LiveHandle) → ((h : LiveHandle) → P h → Q h) → AllByRecursion P live → AllByRecursion Q live
each_on P Q [] carry all = tt
each_on P Q (h ∷ hs) carry all = (carry h all.0, each_on P Q hs carry all.1)

each_kept : (P Q : LiveHandle → Type 0) (keep : LiveHandle → Bool) (live : List LiveHandle) → ((h : LiveHandle) → keep h ≡ true → P h → Q h) → AllByRecursion P live → AllByRecursion Q (filter keep live)
each_kept P Q keep [] carry all = tt
each_kept P Q keep (h ∷ hs) carry all = by_it (keep h) refl (each_kept P Q keep hs carry all.1)
  where
    by_it : (b : Bool) → keep h ≡ b → AllByRecursion Q (filter keep hs) → AllByRecursion Q (cond b (h ∷ filter keep hs) (filter keep hs))
    by_it true is rest = (carry h is all.0, rest)
    by_it false is rest = rest

swapped : (n m : ℕ) → (n == m) ≡ false → (m == n) ≡ false
swapped n m h = grind (arith, nat_tests)

had_after : (P Q : LiveHandle → Type 0) (e : Entry) (q : DriverCall) (a : DriverAnswer) (live : List LiveHandle) → ((h : LiveHandle) → closes_it h.number q ≡ false → P h → Q h)
    → ((handle : ℕ) (inputs : ℤ) → given_handle a ≡ Some handle → Q (record { number = handle; tenure = e.tenure; owner = e.owner; tx = e.tx; inputs = inputs }))
    → AllByRecursion P live → AllByRecursion Q (handles_after e q a live)
had_after P Q e (Prepare text) (Prepared handle inputs) live carry new all = (new handle inputs refl, each_on P Q live (λ h. carry h refl) all)
had_after P Q e (CloseStmt handle) a live carry new all = each_kept P Q (λ h. not (h.number == handle)) live (λ h kept. carry h (swapped h.number handle (not_true (h.number == handle) kept))) all
had_after P Q e _ _ live carry new all = each_on P Q live (λ h. carry h refl) all

-- A line that has a handle keeps it, unless the entry closes it.
had_on : (t : ℕ) (e : Entry) (J : List Entry) → fits_of e.call e.answer ≡ true → PreparesOnce t (e ∷ J) → (h : LiveHandle) → closes_it h.number e.call ≡ false → Had t J h → Had t (e ∷ J) h
had_on t e J fit once h off had = λ own.
    let w = had own in
    let here : has_handle (made_by w.0 t (e ∷ J)) h.number ≡ true =
    elim (line_step w.0 t e J) [ inl s ↦ rw s.same w.1 | inr s ↦ rw s.more (by_given w.0 (given_handle e.answer) refl w.1 (rw s.more at (once.line w.0))) ] in
    (w.0, here)
  where
    by_given : (n : ℕ) (o : Option ℕ) → given_handle e.answer ≡ o → has_handle (made_by n t J) h.number ≡ true → prepares_once (with_exchange (step_of e.call) e.answer (made_by n t J)) ≡ true
        → has_handle (with_exchange (step_of e.call) e.answer (made_by n t J)) h.number ≡ true
    by_given n None is k o = keeps_handle h.number e.call e.answer (made_by n t J) is off k
    by_given n (Some handle) is k o = let g = given_now e.call e.answer handle (made_by n t J) fit is o in absurd (g.none h.number k)

-- The line of the entry's call has the handle that the entry prepares.
had_new : (t : ℕ) (e : Entry) (J : List Entry) → fits_of e.call e.answer ≡ true → PreparesOnce t (e ∷ J) → (handle : ℕ) (inputs : ℤ) → given_handle e.answer ≡ Some handle
    → Had t (e ∷ J) (record { number = handle; tenure = e.tenure; owner = e.owner; tx = e.tx; inputs = inputs })
had_new t e J fit once handle inputs is = λ own. (e.call_no, here own)
  where
    here : e.tenure ≡ t → has_handle (made_by e.call_no t (e ∷ J)) handle ≡ true
    here own =
        elim (line_step e.call_no t e J) [
          | inl s ↦ absurd (true_false (e.call_no == e.call_no) (is_itself e.call_no) (s.other (rw own (is_itself t))))
          | inr s ↦
              let g = given_now e.call e.answer handle (made_by e.call_no t J) fit is (rw s.more at (once.line e.call_no)) in
              rw s.more g.had
        ]

each_had : (k t : ℕ) (J : List Entry) → IsOfTransaction k t J → PreparesOnce t J → AllByRecursion (Had t J) (handles J)
each_had k t [] s once = tt
each_had k t (e ∷ J) s once =
    let w = newest k t e J s in
    let m = w.may in
    had_after (Had t J) (Had t (e ∷ J)) e e.call e.answer (handles J) (had_on t e J m.answer.fitting once) (had_new t e J m.answer.fitting once)
    (each_had k t J w.before (PreparesOnce-before t e J once))

pub live_is_had : (k t : ℕ) (J : List Entry) → IsOfTransaction k t J → PreparesOnce t J → All (Had t J) (handles J)
live_is_had k t J s once = All-from_recursion (Had t J) (handles J) (each_had k t J s once)

none_live : (t : ℕ) (J : List Entry) → ((n handle : ℕ) → has_handle (made_by n t J) handle ≡ false) → (live : List LiveHandle) → AllByRecursion (Had t J) live → list_all (λ h. (h.tenure == t) ⇒ is_call h.owner) live ≡ true
none_live t J none [] all = refl
none_live t J none (h ∷ hs) all = join2 ((h.tenure == t) ⇒ is_call h.owner) (list_all (λ x. (x.tenure == t) ⇒ is_call x.owner) hs) (by_test (h.tenure == t) refl) (none_live t J none hs all.1)
  where
    by_test : (b : Bool) → (h.tenure == t) ≡ b → b ⇒ is_call h.owner ≡ true
    by_test true is = let w = all.0 (same_number h.tenure t is) in absurd (true_false (has_handle (made_by w.0 t J) h.number) w.1 (none w.0 h.number))
    by_test false is = refl

-- If no line has a handle, no handle that was prepared in the tenure is live.
pub none_is_prepared : (k t : ℕ) (J : List Entry) → IsOfTransaction k t J → PreparesOnce t J → ((n handle : ℕ) → has_handle (made_by n t J) handle ≡ false) → has_closed_handles t J ≡ true
none_is_prepared k t J s once none = none_live t J none (handles J) (each_had k t J s once)
