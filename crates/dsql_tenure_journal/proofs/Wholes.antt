-- The argument that in a beginning of a whole journal each tenure before the last one is whole, and stays so.
use Rattle.std.proofs.Common.{◌≡◌, ℕ, ◌<◌, Bool, true, false, cond, not, ◌==◌, ◌||◌, ◌&&◌, nat_lt, List, [], ◌∷◌, refl}
use Rattle.std.specs.List.{list_all, filter}
use native.Mathlib.Omega.{arith}
use Rattle.std.proofs.lemmas.Bool.Decides.{nat_tests}
use Rattle.dsql_tenure_journal.specs.declared.entry.Entry.{Entry}
use Rattle.dsql_driver.specs.declared.call.DriverCall.{DriverCall}
use Rattle.dsql_driver.specs.declared.call.DriverCall.TheVariants.{Prepare, CloseStmt, Query, Next, CloseRows}
use Rattle.dsql_driver.specs.declared.answer.DriverAnswer.{DriverAnswer}
use Rattle.dsql_driver.specs.declared.answer.DriverAnswer.TheVariants.{Prepared, Cursor}
use Rattle.dsql_tenure_journal.specs.Kinds.{◌⇒◌, is_call}
use Rattle.dsql_driver.specs.Kinds.{is_bad, is_ending}
use Rattle.dsql_tenure_journal.specs.Readers.{is_empty, has, of_tenure, last_tenure, LiveHandle, LiveCursor, handles, handles_after, cursors, cursors_after, cursor_changed, after_next, begun, ended, went_bad}
use Rattle.dsql_tenure_journal.specs.Tenure.{has_ended_transactions, has_closed_cursors, has_closed_handles, is_whole_tenure}
use Rattle.dsql_tenure_journal.specs.Journal.{may_follow, is_journal_prefix, IsJournalPrefix}
use Rattle.dsql_tenure_journal.specs.Facts.{MayFollow}
use Rattle.dsql_tenure_journal.proofs.Conjunctions.{parts2, join2, if_so}
use Rattle.dsql_tenure_journal.proofs.Sentences.{MayFollow-of}
use Rattle.dsql_tenure_journal.proofs.Tenures.{of_tenure-new}

all-if : {X : Type 0} (f : X → Bool) (b : Bool) (x : X) (xs ys : List X) → f x && list_all f xs ≡ true → list_all f ys ≡ true → list_all f (cond b (x ∷ ys) ys) ≡ true
all-if f true x xs ys h k = join2 (f x) (list_all f ys) (parts2 (f x) (list_all f xs) h).0 k
all-if f false x xs ys h k = k

all-filter : {X : Type 0} (f g : X → Bool) (xs : List X) → list_all f xs ≡ true → list_all f (filter g xs) ≡ true
all-filter f g [] h = refl
all-filter f g (x ∷ xs) h = all-if f (g x) x xs (filter g xs) h (all-filter f g xs (parts2 (f x) (list_all f xs) h).1)

pick : (f : LiveCursor → Bool) (change : LiveCursor → LiveCursor) (b : Bool) (c : LiveCursor) → f c ≡ true → f (change c) ≡ true → f (cond b (change c) c) ≡ true
pick f change true c h k = k
pick f change false c h k = h

all-changed : (f : LiveCursor → Bool) (rows : ℕ) (change : LiveCursor → LiveCursor) → ((c : LiveCursor) → f c ≡ true → f (change c) ≡ true)
    → (cs : List LiveCursor) → list_all f cs ≡ true → list_all f (cursor_changed rows change cs) ≡ true
all-changed f rows change keep [] h = refl
all-changed f rows change keep (c ∷ cs) h =
    let p = parts2 (f c) (list_all f cs) h in
    join2 (f (cond (c.number == rows) (change c) c)) (list_all f (cursor_changed rows change cs))
    (pick f change (c.number == rows) c p.0 (keep c p.0)) (all-changed f rows change keep cs p.1)

abbrev elsewhere : ℕ → LiveCursor → Bool
elsewhere n c = not (c.tenure == n)

abbrev of_call_or_elsewhere : ℕ → LiveHandle → Bool
of_call_or_elsewhere n h = (h.tenure == n) ⇒ is_call h.owner

after_next-elsewhere : (n : ℕ) (a : DriverAnswer) (c : LiveCursor) → elsewhere n c ≡ true → elsewhere n (after_next a c) ≡ true
after_next-elsewhere n a c h = h

-- An entry of another tenure opens no cursor of tenure n.
cursors_after-elsewhere : (n : ℕ) (e : Entry) (q : DriverCall) (a : DriverAnswer) (live : List LiveCursor) → not (e.tenure == n) ≡ true
    → list_all (elsewhere n) live ≡ true → list_all (elsewhere n) (cursors_after e q a live) ≡ true
cursors_after-elsewhere n e (Query input params) (Cursor rows columns) live off h = join2 (not (e.tenure == n)) (list_all (elsewhere n) live) off h
cursors_after-elsewhere n e (Next rows) a live off h = all-changed (elsewhere n) rows (after_next a) (after_next-elsewhere n a) live h
cursors_after-elsewhere n e (CloseRows rows) a live off h = all-filter (elsewhere n) (λ c. not (c.number == rows)) live h
cursors_after-elsewhere n e _ _ live off h = h

off_means : (b c : Bool) → not b ≡ true → b ⇒ c ≡ true
off_means true c h = grind (arith, h)
off_means false c h = refl

-- An entry of another tenure leaves no handle of tenure n that must be closed.
handles_after-elsewhere : (n : ℕ) (e : Entry) (q : DriverCall) (a : DriverAnswer) (live : List LiveHandle) → not (e.tenure == n) ≡ true
    → list_all (of_call_or_elsewhere n) live ≡ true → list_all (of_call_or_elsewhere n) (handles_after e q a live) ≡ true
handles_after-elsewhere n e (Prepare text) (Prepared handle inputs) live off h =
    join2 ((e.tenure == n) ⇒ is_call e.owner) (list_all (of_call_or_elsewhere n) live) (off_means (e.tenure == n) (is_call e.owner) off) h
handles_after-elsewhere n e (CloseStmt handle) a live off h = all-filter (of_call_or_elsewhere n) (λ x. not (x.number == handle)) live h
handles_after-elsewhere n e _ _ live off h = h

or_later : (a b : Bool) → b ≡ true → a || b ≡ true
or_later true b h = refl
or_later false b h = h

has-more : (m t : ℕ) (b : Bool) (ns : List ℕ) → has m ns ≡ true → has m (cond b (t ∷ ns) ns) ≡ true
has-more m t true ns h = or_later (t == m) (has m ns) h
has-more m t false ns h = h

ended-more : (e : Entry) (before : List Entry) (ms : List ℕ) → list_all (λ m. has m (ended before)) ms ≡ true → list_all (λ m. has m (ended (e ∷ before))) ms ≡ true
ended-more e before [] h = refl
ended-more e before (m ∷ ms) h =
    let p = parts2 (has m (ended before)) (list_all (λ x. has x (ended before)) ms) h in
    join2 (has m (ended (e ∷ before))) (list_all (λ x. has x (ended (e ∷ before))) ms) (has-more m e.tx (is_ending e.call) (ended before) p.0) (ended-more e before ms p.1)

of_tenure-off : (n : ℕ) (e : Entry) (before : List Entry) → not (e.tenure == n) ≡ true → of_tenure n (e ∷ before) ≡ of_tenure n before
of_tenure-off n e before off = go (e.tenure == n) off
  where
    go : (b : Bool) → not b ≡ true → cond b (e ∷ of_tenure n before) (of_tenure n before) ≡ of_tenure n before
    go true h = grind (arith, h)
    go false h = refl

unless-more : (bad worse closed closed' : Bool) → (closed ≡ true → closed' ≡ true) → bad || closed ≡ true → (worse || bad) || closed' ≡ true
unless-more true true c d k h = refl
unless-more true false c d k h = refl
unless-more false true c d k h = refl
unless-more false false c d k h = k h

-- A whole tenure stays whole under the entries of others.
pub is_whole_tenure-later : (n : ℕ) (e : Entry) (before : List Entry) → not (e.tenure == n) ≡ true → is_whole_tenure n before ≡ true → is_whole_tenure n (e ∷ before) ≡ true
is_whole_tenure-later n e before off h =
    let p = parts2 (has_ended_transactions n before) (went_bad before || has_closed_cursors n before && has_closed_handles n before) h in
    join2 (has_ended_transactions n (e ∷ before)) (went_bad (e ∷ before) || has_closed_cursors n (e ∷ before) && has_closed_handles n (e ∷ before))
    (rw (of_tenure-off n e before off) (ended-more e before (begun (of_tenure n before)) p.0))
    (unless-more (went_bad before) (is_bad e.answer) (has_closed_cursors n before && has_closed_handles n before) (has_closed_cursors n (e ∷ before) && has_closed_handles n (e ∷ before))
    (λ closed.
    let q = parts2 (has_closed_cursors n before) (has_closed_handles n before) closed in
    join2 (has_closed_cursors n (e ∷ before)) (has_closed_handles n (e ∷ before))
    (cursors_after-elsewhere n e e.call e.answer (cursors before) off q.0)
    (handles_after-elsewhere n e e.call e.answer (handles before) off q.1))
    p.1)

by_tests : (P : Type 0) (a b : Bool) → (a ≡ true → P) → (b ≡ true → P) → (a ≡ false → b ≡ false → P) → P
by_tests P true b f g h = f refl
by_tests P false true f g h = g refl
by_tests P false false f g h = h refl refl

-- Each tenure before the last one, if it has an entry, is whole.
pub is_whole_tenure-before : (journal : List Entry) (n : ℕ) → IsJournalPrefix journal → is_empty (of_tenure n journal) ≡ false → n < last_tenure journal
    → is_whole_tenure n journal ≡ true
is_whole_tenure-before [] n h some less = grind (arith, some)
is_whole_tenure-before (e ∷ before) n h some less =
    let p = parts2 (may_follow before e) (is_journal_prefix before) h in
    let m : MayFollow before e = MayFollow-of before e p.0 in
    let off : not (e.tenure == n) ≡ true = grind (arith, nat_tests, less) in
    let some_before : is_empty (of_tenure n before) ≡ false = rw (of_tenure-off n e before off) at some in
    is_whole_tenure-later n e before off
    (by_tests (is_whole_tenure n before ≡ true) (nat_lt n (last_tenure before)) (last_tenure before == n)
    (λ lt. is_whole_tenure-before before n p.1 some_before (grind (arith, nat_tests, lt)))
    (λ same.
    let last_is : last_tenure before ≡ n = grind (arith, nat_tests, same) in
    rw (← last_is) (if_so (nat_lt (last_tenure before) e.tenure) (is_whole_tenure (last_tenure before) before) m.whole_journal.after_whole_tenure (grind (arith, nat_tests, less, last_is))))
    (λ ge ne.
    let none : of_tenure n before ≡ [] = of_tenure-new n before p.1 (grind (arith, nat_tests, ge, ne)) in
    grind (arith, some_before, none)))
