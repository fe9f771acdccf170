-- The line of some call has each live cursor of a transaction.
use Rattle.std.proofs.Common.{◌≡◌, ℕ, Bool, true, false, cond, not, ◌==◌, inl, inr, List, [], ◌∷◌, Option, None, Some, length, refl}
use Rattle.std.specs.Prelude.{All}
use Rattle.std.specs.List.{list_all, filter, AllByRecursion}
use native.Mathlib.Omega.{arith}
use Rattle.std.proofs.lemmas.Bool.Decides.{nat_tests}
use Rattle.std.proofs.lemmas.List.Elements.{All-from_recursion}
use Rattle.dsql_history.specs.driver.declared.call.DriverCall.{DriverCall}
use Rattle.dsql_history.specs.driver.declared.call.DriverCall.TheVariants.{Exec, Query, Next, CloseRows}
use Rattle.dsql_history.specs.driver.declared.call.Input.TheVariants.{Text, Handle}
use Rattle.dsql_history.specs.driver.declared.answer.DriverAnswer.{DriverAnswer}
use Rattle.dsql_history.specs.driver.declared.answer.DriverAnswer.TheVariants.{Cursor}
use Rattle.dsql_history.specs.driver.Fits.{fits_of}
use Rattle.dsql_history.specs.driver.Kinds.{given_cursor}
use Rattle.dsql_history.specs.course.Made.{Exchange}
use Rattle.dsql_history.specs.journal.declared.entry.Entry.{Entry}
use Rattle.dsql_history.specs.journal.Kinds.{◌⇒◌}
use Rattle.dsql_history.specs.journal.Readers.{LiveCursor, cursors, cursors_after, cursor_changed, after_next}
use Rattle.dsql_history.specs.journal.Tenure.{has_closed_cursors}
use Rattle.dsql_history.proofs.journal.Conjunctions.{if_so, parts2, join2}
use Rattle.dsql_history.specs.works.Exchanges.{step_of, with_exchange}
use Rattle.dsql_history.specs.Readers.Lines.{has_cursor}
use Rattle.dsql_laws_tenures.specs.Tenures.{made_by, IsOfTransaction, IsBegun}
use Rattle.dsql_laws_tenures.specs.Orderly.{opens_once, OpensOnce}
use Rattle.dsql_laws_tenures.proofs.Numbers.{is_itself, same_number, impossible, true_false, not_true}
use Rattle.dsql_laws_tenures.proofs.LineSteps.{line_step}
use Rattle.dsql_laws_tenures.proofs.Entries.{newest}
use Rattle.dsql_laws_tenures.proofs.OneTenure.{all_stand}
use Rattle.dsql_laws_tenures.proofs.Once.{closes_it, keeps_cursor, gives_now, OpensOnce-before}

-- Holds if, for a cursor that was opened in tenure t, the line of a call has it.
abbrev pub Had : ℕ → List Entry → LiveCursor → Type 0
Had t J c = c.tenure ≡ t → (n : ℕ) × (has_cursor (made_by n t J) c.number ≡ true)

each_on : (P Q : LiveCursor → Type 0) (live : List LiveCursor) → ((c : LiveCursor) → P c → Q c) → AllByRecursion P live → AllByRecursion Q live
each_on P Q [] carry all = tt
each_on P Q (c ∷ cs) carry all = (carry c all.0, each_on P Q cs carry all.1)

each_changed : (P Q : LiveCursor → Type 0) (rows : ℕ) (f : LiveCursor → LiveCursor) (live : List LiveCursor) → ((c : LiveCursor) → P c → Q c) → ((c : LiveCursor) → Q c → Q (f c))
    → AllByRecursion P live → AllByRecursion Q (cursor_changed rows f live)
each_changed P Q rows f [] carry on all = tt
each_changed P Q rows f (c ∷ cs) carry on all = (by_it (c.number == rows) (carry c all.0), each_changed P Q rows f cs carry on all.1)
  where
    by_it : (b : Bool) → Q c → Q (cond b (f c) c)
    by_it true q = on c q
    by_it false q = q

each_kept : (P Q : LiveCursor → Type 0) (keep : LiveCursor → Bool) (live : List LiveCursor) → ((c : LiveCursor) → keep c ≡ true → P c → Q c) → AllByRecursion P live
    → AllByRecursion Q (filter keep live)
each_kept P Q keep [] carry all = tt
each_kept P Q keep (c ∷ cs) carry all = by_it (keep c) refl (each_kept P Q keep cs carry all.1)
  where
    by_it : (b : Bool) → keep c ≡ b → AllByRecursion Q (filter keep cs) → AllByRecursion Q (cond b (c ∷ filter keep cs) (filter keep cs))
    by_it true is rest = (carry c is all.0, rest)
    by_it false is rest = rest

swapped : (n m : ℕ) → (n == m) ≡ false → (m == n) ≡ false
swapped n m h = grind (arith, nat_tests)

-- Each cursor that is live after the entry is had. Each one that the entry leaves live has to stay had, and each that
-- it opens has to be had.
had_after : (P Q : LiveCursor → Type 0) (e : Entry) (q : DriverCall) (a : DriverAnswer) (live : List LiveCursor) → ((c : LiveCursor) → closes_it c.number q ≡ false → P c → Q c)
    → ((c : LiveCursor) (b : DriverAnswer) → Q c → Q (after_next b c))
    → ((rows columns : ℕ) → given_cursor a ≡ Some rows → Q (record { number = rows; tenure = e.tenure; tx = e.tx; columns = columns; over = false }))
    → AllByRecursion P live → AllByRecursion Q (cursors_after e q a live)
had_after P Q e (Query input params) (Cursor rows columns) live carry on new all = (new rows (length columns) refl, each_on P Q live (λ c. carry c refl) all)
had_after P Q e (Next rows) a live carry on new all = each_changed P Q rows (after_next a) live (λ c. carry c refl) (λ c. on c a) all
had_after P Q e (CloseRows rows) a live carry on new all = each_kept P Q (λ c. not (c.number == rows)) live (λ c kept. carry c (swapped c.number rows (not_true (c.number == rows) kept))) all
had_after P Q e _ _ live carry on new all = each_on P Q live (λ c. carry c refl) all

-- What an answer that gives a cursor to a Query makes: the line has the cursor then, and had none before.
record Gives (q : DriverCall) (a : DriverAnswer) (rows : ℕ) (made : List Exchange) : Type 0 where
  had : has_cursor (with_exchange (step_of q) a made) rows ≡ true
  none : (r : ℕ) → has_cursor made r ≡ true → ⊥

given_now : (q : DriverCall) (a : DriverAnswer) (rows : ℕ) (made : List Exchange) → fits_of q a ≡ true → given_cursor a ≡ Some rows → opens_once (with_exchange (step_of q) a made) ≡ true → Gives q a rows made
given_now (Query input params) (Cursor given columns) rows made fit is once =
    let w = gives_now input params given columns made once in
    let same : given ≡ rows = cc in
    record { had = rw (← same) w.0; none = w.1 }
given_now (Exec (Text text) params) (Cursor given columns) rows made fit is once = absurd (impossible fit)
given_now (Exec (Handle handle) params) (Cursor given columns) rows made fit is once = absurd (impossible fit)
given_now q (Cursor given columns) rows made fit is once = absurd (impossible fit)
given_now q _ rows made fit is once = absurd cc

-- A line that has a cursor keeps it, unless the entry closes it.
had_on : (t : ℕ) (e : Entry) (J : List Entry) → fits_of e.call e.answer ≡ true → OpensOnce t (e ∷ J) → (c : LiveCursor) → closes_it c.number e.call ≡ false → Had t J c → Had t (e ∷ J) c
had_on t e J fit once c off had = λ own.
    let w = had own in
    let here : has_cursor (made_by w.0 t (e ∷ J)) c.number ≡ true =
    elim (line_step w.0 t e J) [ inl s ↦ rw s.same w.1 | inr s ↦ rw s.more (by_given w.0 (given_cursor e.answer) refl w.1 (rw s.more at (once.line w.0))) ] in
    (w.0, here)
  where
    by_given : (n : ℕ) (o : Option ℕ) → given_cursor e.answer ≡ o → has_cursor (made_by n t J) c.number ≡ true → opens_once (with_exchange (step_of e.call) e.answer (made_by n t J)) ≡ true
        → has_cursor (with_exchange (step_of e.call) e.answer (made_by n t J)) c.number ≡ true
    by_given n None is h o = keeps_cursor c.number e.call e.answer (made_by n t J) is off h
    by_given n (Some rows) is h o = let g = given_now e.call e.answer rows (made_by n t J) fit is o in absurd (g.none c.number h)

-- The line of the entry's call has the cursor that the entry opens.
had_new : (t : ℕ) (e : Entry) (J : List Entry) → fits_of e.call e.answer ≡ true → OpensOnce t (e ∷ J) → (rows columns : ℕ) → given_cursor e.answer ≡ Some rows
    → Had t (e ∷ J) (record { number = rows; tenure = e.tenure; tx = e.tx; columns = columns; over = false })
had_new t e J fit once rows columns is = λ own. (e.call_no, here own)
  where
    here : e.tenure ≡ t → has_cursor (made_by e.call_no t (e ∷ J)) rows ≡ true
    here own =
        elim (line_step e.call_no t e J) [
          | inl s ↦ absurd (true_false (e.call_no == e.call_no) (is_itself e.call_no) (s.other (rw own (is_itself t))))
          | inr s ↦
              let g = given_now e.call e.answer rows (made_by e.call_no t J) fit is (rw s.more at (once.line e.call_no)) in
              rw s.more g.had
        ]

each_had : (k t : ℕ) (J : List Entry) → IsOfTransaction k t J → OpensOnce t J → AllByRecursion (Had t J) (cursors J)
each_had k t [] s once = tt
each_had k t (e ∷ J) s once =
    let w = newest k t e J s in
    let m = w.may in
    had_after (Had t J) (Had t (e ∷ J)) e e.call e.answer (cursors J) (had_on t e J m.answer.fitting once) (λ c b h. h) (had_new t e J m.answer.fitting once)
    (each_had k t J w.before (OpensOnce-before t e J once))

-- Holds if a cursor that transaction k opened was opened in tenure t.
abbrev Within : ℕ → ℕ → LiveCursor → Type 0
Within k t c = c.tx ≡ k → c.tenure ≡ t

each_within : (k t : ℕ) (J : List Entry) → list_all (λ x. (x.tx == k) ⇒ (x.tenure == t)) J ≡ true → AllByRecursion (Within k t) (cursors J)
each_within k t [] all = tt
each_within k t (e ∷ J) all =
    let p = parts2 ((e.tx == k) ⇒ (e.tenure == t)) (list_all (λ x. (x.tx == k) ⇒ (x.tenure == t)) J) all in
    had_after (Within k t) (Within k t) e e.call e.answer (cursors J) (λ c off h. h) (λ c b h. h)
    (λ rows columns is own. same_number e.tenure t (if_so (e.tx == k) (e.tenure == t) p.0 (rw own (is_itself k)))) (each_within k t J p.1)

both_of : (P Q R : LiveCursor → Type 0) (live : List LiveCursor) → ((c : LiveCursor) → P c → Q c → R c) → AllByRecursion P live → AllByRecursion Q live → AllByRecursion R live
both_of P Q R [] join ps qs = tt
both_of P Q R (c ∷ cs) join ps qs = (join c ps.0 qs.0, both_of P Q R cs join ps.1 qs.1)

-- Holds if, for a cursor that transaction k opened, the line of a call has it.
abbrev Owned : ℕ → ℕ → List Entry → LiveCursor → Type 0
Owned k t J c = c.tx ≡ k → (n : ℕ) × (has_cursor (made_by n t J) c.number ≡ true)

each_owned : (k t : ℕ) (J : List Entry) → IsBegun k t J → OpensOnce t J → AllByRecursion (Owned k t J) (cursors J)
each_owned k t J s once =
    both_of (Within k t) (Had t J) (Owned k t J) (cursors J) (λ c at had own. had (at own)) (each_within k t J (all_stand k t J s)) (each_had k t J s.tenure once)

pub live_is_owned : (k t : ℕ) (J : List Entry) → IsBegun k t J → OpensOnce t J → All (Owned k t J) (cursors J)
live_is_owned k t J s once = All-from_recursion (Owned k t J) (cursors J) (each_owned k t J s once)

pub live_is_had : (k t : ℕ) (J : List Entry) → IsOfTransaction k t J → OpensOnce t J → All (Had t J) (cursors J)
live_is_had k t J s once = All-from_recursion (Had t J) (cursors J) (each_had k t J s once)

none_live : (t : ℕ) (J : List Entry) (P : LiveCursor → Type 0) (test : LiveCursor → Bool) → ((n rows : ℕ) → has_cursor (made_by n t J) rows ≡ false) → ((c : LiveCursor) → test c ≡ true → P c) → (live : List LiveCursor)
    → AllByRecursion (λ c. P c → (n : ℕ) × (has_cursor (made_by n t J) c.number ≡ true)) live → list_all (λ c. not (test c)) live ≡ true
none_live t J P test none so [] all = refl
none_live t J P test none so (c ∷ cs) all = join2 (not (test c)) (list_all (λ x. not (test x)) cs) (by_test (test c) refl) (none_live t J P test none so cs all.1)
  where
    by_test : (b : Bool) → test c ≡ b → not b ≡ true
    by_test true is = let w = all.0 (so c is) in absurd (true_false (has_cursor (made_by w.0 t J) c.number) w.1 (none w.0 c.number))
    by_test false is = refl

pub none_is_live : (k t : ℕ) (J : List Entry) → IsBegun k t J → OpensOnce t J → ((n rows : ℕ) → has_cursor (made_by n t J) rows ≡ false) → list_all (λ c. not (c.tx == k)) (cursors J) ≡ true
none_is_live k t J s once none = none_live t J (λ c. c.tx ≡ k) (λ c. c.tx == k) none (λ c is. same_number c.tx k is) (cursors J) (each_owned k t J s once)

-- If no line has a cursor, no cursor that was opened in the tenure is live.
pub none_is_open : (k t : ℕ) (J : List Entry) → IsOfTransaction k t J → OpensOnce t J → ((n rows : ℕ) → has_cursor (made_by n t J) rows ≡ false) → has_closed_cursors t J ≡ true
none_is_open k t J s once none = none_live t J (λ c. c.tenure ≡ t) (λ c. c.tenure == t) none (λ c is. same_number c.tenure t is) (cursors J) (each_had k t J s once)
