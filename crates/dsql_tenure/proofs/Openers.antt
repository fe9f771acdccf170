-- Which entries open cursors. The argument that a call on the database has at most one open.
use Rattle.std.proofs.Common.{◌≡◌, ℕ, Bool, true, false, cond, not, ◌&&◌, ◌||◌, ◌==◌, nat_lt, Option, None, Some, List, [], ◌∷◌, refl, sym, ◌∙◌, eqb→eq, is_some}
use Rattle.std.specs.List.{filter, list_all, list_any}
use native.Mathlib.Omega.{arith}
use Rattle.std.proofs.lemmas.Bool.Decides.{nat_tests}
use Rattle.dsql_driver.specs.declared.call.DriverCall.{DriverCall}
use Rattle.dsql_driver.specs.declared.call.DriverCall.TheVariants.{Exec, Query, Next, CloseRows}
use Rattle.dsql_driver.specs.declared.call.Input.TheVariants.{Text, Handle}
use Rattle.dsql_driver.specs.declared.answer.DriverAnswer.{DriverAnswer}
use Rattle.dsql_driver.specs.declared.answer.DriverAnswer.TheVariants.{Cursor}
use Rattle.dsql_driver.specs.Fits.{fits_of, is_memory, is_skip}
use Rattle.dsql_tenure_journal.specs.declared.entry.Entry.{Entry}
use Rattle.dsql_tenure_journal.specs.declared.entry.Owner.{Owner}
use Rattle.dsql_tenure_journal.specs.declared.entry.Owner.TheVariants.{Call}
use Rattle.dsql_tenure_journal.specs.Kinds.{◌⇒◌, is_number, is_call}
use Rattle.dsql_driver.specs.Kinds.{is_reset, is_valid, is_prepare, runs_text, runs_handle, is_next, given_cursor}
use Rattle.dsql_tenure_journal.specs.Readers.{LiveCursor, of_tenure, cursors, cursors_after, cursor_changed, after_next}
use Rattle.dsql_tenure_journal.specs.Tenure.{is_body, place}
use Rattle.dsql_tenure_journal.specs.Journal.{may_follow, is_journal_prefix, IsJournalPrefix}
use Rattle.dsql_tenure_journal.specs.Facts.{KeepsBody, KeepsCallBody}
use Rattle.dsql_tenure_journal.proofs.Conjunctions.{parts2, join2}
use Rattle.dsql_tenure_journal.proofs.Beginnings.{answers_fit}
use Rattle.dsql_tenure.proofs.Lists.{list_all-and, list_any-both, list_any-so}
use Rattle.dsql_tenure.proofs.Given.{gave_cursor, cursors-given, list_all-kept, list_any-filter}
use Rattle.dsql_tenure.proofs.Members.{clash, none-kept}
use Rattle.dsql_tenure.proofs.Owned.{found}
use Rattle.dsql_tenure.proofs.WholeAtOnce.{mayfollow}

-- Is true if a text or a handle is run, and not skipped.
abbrev pub runs : DriverCall → DriverAnswer → Bool
runs call answer = runs_text call && not (is_skip answer) || runs_handle call

pub cursor-runs : (q : DriverCall) (a : DriverAnswer) → fits_of q a ≡ true → is_some (given_cursor a) ≡ true → runs q a ≡ true
cursor-runs q (Cursor rows columns) f g = of_cursor q f
  where
    of_cursor : (q : DriverCall) → fits_of q (Cursor rows columns) ≡ true → runs q (Cursor rows columns) ≡ true
    of_cursor (Query (Text t) p) f = refl
    of_cursor (Query (Handle n) p) f = refl
    of_cursor (Exec (Text t) p) f = refl
    of_cursor (Exec (Handle n) p) f = refl
    of_cursor _ f = grind (arith, f)
cursor-runs q _ f g = grind (arith, g)

pub number-some : (o : Option ℕ) (n : ℕ) → is_number o n ≡ true → is_some o ≡ true
number-some None n h = h
number-some (Some m) n h = refl

-- If a cursor of a tenure is live, something was run in the tenure.
pub opened : (t : ℕ) (journal : List Entry) → IsJournalPrefix journal → list_any (λ c. c.tenure == t) (cursors journal) ≡ true → list_any (λ x. runs x.call x.answer) (of_tenure t journal) ≡ true
opened t journal h live =
    list_any-filter (λ x. runs x.call x.answer) (λ x. x.tenure == t) journal
    ∙ list_any-so (λ x. ((x.tenure == t) && is_some (given_cursor x.answer)) && (fits_of x.call x.answer && not (is_memory x.answer))) (λ x. (x.tenure == t) && runs x.call x.answer)
    (λ x k.
    let p = parts2 ((x.tenure == t) && is_some (given_cursor x.answer)) (fits_of x.call x.answer && not (is_memory x.answer)) k in
    let q = parts2 (x.tenure == t) (is_some (given_cursor x.answer)) p.0 in
    join2 (x.tenure == t) (runs x.call x.answer) q.0 (cursor-runs x.call x.answer (parts2 (fits_of x.call x.answer) (not (is_memory x.answer)) p.1).0 q.1))
    journal
    (list_any-both (λ x. (x.tenure == t) && is_some (given_cursor x.answer)) (λ x. fits_of x.call x.answer && not (is_memory x.answer)) journal given (answers_fit journal h))
  where
    given : list_any (λ x. (x.tenure == t) && is_some (given_cursor x.answer)) journal ≡ true
    given =
        found (λ c. c.tenure == t) gave_cursor (λ x. (x.tenure == t) && is_some (given_cursor x.answer)) journal
        (λ c x at g.
        let q = parts2 (is_number (given_cursor x.answer) c.number) ((x.tenure == c.tenure) && (x.tx == c.tx)) g in
        let is : c.tenure ≡ t = eqb→eq c.tenure t (grind (arith, nat_tests, at)) in
        join2 (x.tenure == t) (is_some (given_cursor x.answer)) (rw (← is) (parts2 (x.tenure == c.tenure) (x.tx == c.tx) q.1).0) (number-some (given_cursor x.answer) c.number q.0))
        (cursors journal) (cursors-given journal) live

pub runs-body : (q : DriverCall) (a : DriverAnswer) → runs q a ≡ true → not (is_reset q || is_valid q) ≡ true
runs-body (Exec i p) a h = refl
runs-body (Query i p) a h = refl
runs-body _ a h = grind (arith, h)

pub in_body : (xs : List Entry) → list_any (λ x. runs x.call x.answer) xs ≡ true → list_any (λ x. runs x.call x.answer) (filter is_body xs) ≡ true
in_body xs h =
    list_any-filter (λ x. runs x.call x.answer) is_body xs
    ∙ list_any-so (λ x. runs x.call x.answer) (λ x. is_body x && runs x.call x.answer) (λ x k. join2 (is_body x) (runs x.call x.answer) (runs-body x.call x.answer k) k) xs h

pub call_body : (o : Owner) (before : List Entry) (e : Entry) → is_call o ≡ true → KeepsBody o before e → KeepsCallBody before e
call_body (Call n) before e is k = k
call_body _ before e is k = grind (arith, is)

-- Nothing ran before a text, and only what was skipped ran before a handle.
text_first : (q : DriverCall) (a : DriverAnswer) → runs q a ≡ true → (nat_lt (place q) 1 || is_next q && false) ≡ true → ⊥
text_first (Exec (Text t) p) a h k = grind (arith, k)
text_first (Exec (Handle n) p) a h k = grind (arith, k)
text_first (Query (Text t) p) a h k = grind (arith, k)
text_first (Query (Handle n) p) a h k = grind (arith, k)
text_first _ a h k = grind (arith, h)

skipped_first : (q : DriverCall) (a : DriverAnswer) → runs q a ≡ true → ((nat_lt (place q) 3 || is_next q && false) && (runs_text q ⇒ is_skip a)) ≡ true → ⊥
skipped_first (Exec (Text t) p) a h k = go (is_skip a) h k
  where
    go : (b : Bool) → (true && not b || false) ≡ true → (true && b) ≡ true → ⊥
    go true h k = grind (arith, h)
    go false h k = grind (arith, k)
skipped_first (Query (Text t) p) a h k = go (is_skip a) h k
  where
    go : (b : Bool) → (true && not b || false) ≡ true → (true && b) ≡ true → ⊥
    go true h k = grind (arith, h)
    go false h k = grind (arith, k)
skipped_first (Exec (Handle n) p) a h k = grind (arith, k)
skipped_first (Query (Handle n) p) a h k = grind (arith, k)
skipped_first _ a h k = grind (arith, h)

first_run : (q : DriverCall) (a : DriverAnswer) (xs : List Entry) → runs q a ≡ true
    → list_all (λ x. nat_lt (place x.call) (place q) || is_next x.call && is_next q) (filter is_body xs) ≡ true
    → (is_prepare q || runs_handle q ⇒ list_all (λ x. runs_text x.call ⇒ is_skip x.answer) xs) ≡ true
    → list_any (λ x. runs x.call x.answer) xs ≡ true → ⊥
first_run q a xs is order skip some = go q is order skip
  where
    skipped : list_all (λ x. nat_lt (place x.call) 3 || is_next x.call && false) (filter is_body xs) ≡ true → list_all (λ x. runs_text x.call ⇒ is_skip x.answer) xs ≡ true → ⊥
    skipped order skip =
        clash (λ x. runs x.call x.answer) (λ x. (nat_lt (place x.call) 3 || is_next x.call && false) && (runs_text x.call ⇒ is_skip x.answer)) (filter is_body xs)
        (λ x. skipped_first x.call x.answer) (in_body xs some)
        (list_all-and (λ x. nat_lt (place x.call) 3 || is_next x.call && false) (λ x. runs_text x.call ⇒ is_skip x.answer) (filter is_body xs)
        ∙ join2 _ _ order (list_all-kept (λ x. runs_text x.call ⇒ is_skip x.answer) is_body xs skip))

    unrun : list_all (λ x. nat_lt (place x.call) 1 || is_next x.call && false) (filter is_body xs) ≡ true → ⊥
    unrun order = clash (λ x. runs x.call x.answer) (λ x. nat_lt (place x.call) 1 || is_next x.call && false) (filter is_body xs) (λ x. text_first x.call x.answer) (in_body xs some) order

    go : (q : DriverCall) → runs q a ≡ true → list_all (λ x. nat_lt (place x.call) (place q) || is_next x.call && is_next q) (filter is_body xs) ≡ true
        → (is_prepare q || runs_handle q ⇒ list_all (λ x. runs_text x.call ⇒ is_skip x.answer) xs) ≡ true → ⊥
    go (Exec (Text t) p) is order skip = unrun order
    go (Query (Text t) p) is order skip = unrun order
    go (Exec (Handle n) p) is order skip = skipped order skip
    go (Query (Handle n) p) is order skip = skipped order skip
    go _ is order skip = grind (arith, is)

-- No cursor of a call's tenure is live when the call opens one.
unopened : (before : List Entry) (e : Entry) → IsJournalPrefix (e ∷ before) → is_call e.owner ≡ true → runs e.call e.answer ≡ true → list_any (λ c. c.tenure == e.tenure) (cursors before) ≡ false
unopened before e h is run = go (list_any (λ c. c.tenure == e.tenure) (cursors before)) refl
  where
    go : (b : Bool) → list_any (λ c. c.tenure == e.tenure) (cursors before) ≡ b → b ≡ false
    go true live =
        let k = call_body e.owner before e is ((mayfollow before e h).tenure.in_body (runs-body e.call e.answer run)) in
        absurd (first_run e.call e.answer (of_tenure e.tenure before) run k.order k.skip (opened e.tenure before (parts2 (may_follow before e) (is_journal_prefix before) h).1 live))
    go false live = refl

-- Is true if at most one cursor is of the tenure.
abbrev pub one_of : ℕ → List LiveCursor → Bool
one_of tenure [] = true
one_of tenure (cursor ∷ cursors) = cond (cursor.tenure == tenure) (not (list_any (λ x. x.tenure == tenure) cursors)) (one_of tenure cursors)

none-one : (t : ℕ) (cs : List LiveCursor) → list_any (λ c. c.tenure == t) cs ≡ false → one_of t cs ≡ true
none-one t [] h = refl
none-one t (c ∷ cs) h = go (c.tenure == t) h (none-one t cs)
  where
    go : (b : Bool) → (b || list_any (λ x. x.tenure == t) cs) ≡ false → (list_any (λ x. x.tenure == t) cs ≡ false → one_of t cs ≡ true) → cond b (not (list_any (λ x. x.tenure == t) cs)) (one_of t cs) ≡ true
    go true h more = grind (arith, h)
    go false h more = more h

one-kept : (t : ℕ) (keep : LiveCursor → Bool) (cs : List LiveCursor) → one_of t cs ≡ true → one_of t (filter keep cs) ≡ true
one-kept t keep [] h = refl
one-kept t keep (c ∷ cs) h = go (keep c) (c.tenure == t) refl h (one-kept t keep cs)
  where
    none : (b : Bool) → not b ≡ true → b ≡ false
    none true h = sym h
    none false h = refl

    go : (a b : Bool) → (c.tenure == t) ≡ b → cond b (not (list_any (λ x. x.tenure == t) cs)) (one_of t cs) ≡ true → (one_of t cs ≡ true → one_of t (filter keep cs) ≡ true)
        → one_of t (cond a (c ∷ filter keep cs) (filter keep cs)) ≡ true
    go true true is h more = rw (is, none-kept (λ x. x.tenure == t) keep cs (none (list_any (λ x. x.tenure == t) cs) h)) refl
    go true false is h more = rw is (more h)
    go false true is h more = none-one t (filter keep cs) (none-kept (λ x. x.tenure == t) keep cs (none (list_any (λ x. x.tenure == t) cs) h))
    go false false is h more = more h

tenure_same : (b : Bool) (a : DriverAnswer) (c : LiveCursor) → (cond b (after_next a c) c).tenure ≡ c.tenure
tenure_same true a c = refl
tenure_same false a c = refl

any-changed : (t rows : ℕ) (a : DriverAnswer) (cs : List LiveCursor) → list_any (λ c. c.tenure == t) (cursor_changed rows (after_next a) cs) ≡ list_any (λ c. c.tenure == t) cs
any-changed t rows a [] = refl
any-changed t rows a (c ∷ cs) = rw (tenure_same (c.number == rows) a c, any-changed t rows a cs) refl

one-changed : (t rows : ℕ) (a : DriverAnswer) (cs : List LiveCursor) → one_of t (cursor_changed rows (after_next a) cs) ≡ one_of t cs
one-changed t rows a [] = refl
one-changed t rows a (c ∷ cs) = rw (tenure_same (c.number == rows) a c, any-changed t rows a cs, one-changed t rows a cs) refl

one-after : (t : ℕ) (e : Entry) (q : DriverCall) (a : DriverAnswer) (live : List LiveCursor) → ((e.tenure == t) ≡ true → runs q a ≡ true → list_any (λ c. c.tenure == t) live ≡ false)
    → fits_of q a ≡ true → one_of t live ≡ true → one_of t (cursors_after e q a live) ≡ true
one-after t e (Query input params) (Cursor rows columns) live none f h = go (e.tenure == t) refl
  where
    go : (b : Bool) → (e.tenure == t) ≡ b → cond b (not (list_any (λ x. x.tenure == t) live)) (one_of t live) ≡ true
    go true is = rw (none is (cursor-runs (Query input params) (Cursor rows columns) f refl)) refl
    go false is = h
one-after t e (Next rows) a live none f h = one-changed t rows a live ∙ h
one-after t e (CloseRows rows) a live none f h = one-kept t (λ c. not (c.number == rows)) live h
one-after t e _ _ live none f h = h

-- At most one cursor of the tenure of a call on the database is live.
pub one_cursor : (t : ℕ) (journal : List Entry) → IsJournalPrefix journal → list_all (λ x. is_call x.owner) (of_tenure t journal) ≡ true → one_of t (cursors journal) ≡ true
one_cursor t [] h own = refl
one_cursor t (e ∷ before) h own =
    let p = parts2 (may_follow before e) (is_journal_prefix before) h in
    go (e.tenure == t) refl own (one_cursor t before p.1)
  where
    go : (b : Bool) → (e.tenure == t) ≡ b → list_all (λ x. is_call x.owner) (cond b (e ∷ of_tenure t before) (of_tenure t before)) ≡ true
        → (list_all (λ x. is_call x.owner) (of_tenure t before) ≡ true → one_of t (cursors before) ≡ true) → one_of t (cursors_after e e.call e.answer (cursors before)) ≡ true
    go true at own more =
        let o = parts2 (is_call e.owner) (list_all (λ x. is_call x.owner) (of_tenure t before)) own in
        let same : e.tenure ≡ t = eqb→eq e.tenure t (grind (arith, nat_tests, at)) in
        one-after t e e.call e.answer (cursors before) (λ k run. rw (← same) (unopened before e h o.0 run)) (mayfollow before e h).answer.fitting (more o.1)
    go false at own more =
        one-after t e e.call e.answer (cursors before) (λ k run. grind (arith, at, k)) (mayfollow before e h).answer.fitting (more own)

-- If that cursor is closed, none of the tenure is left.
pub closed-one : (t rows : ℕ) (cs : List LiveCursor) → one_of t cs ≡ true → list_any (λ c. (c.number == rows) && (c.tenure == t)) cs ≡ true
    → list_any (λ c. c.tenure == t) (filter (λ c. not (c.number == rows)) cs) ≡ false
closed-one t rows [] one has = grind (arith, has)
closed-one t rows (c ∷ cs) one has = go (c.number == rows) (c.tenure == t) refl one has (closed-one t rows cs)
  where
    none : (b : Bool) → not b ≡ true → b ≡ false
    none true h = sym h
    none false h = refl

    never : list_any (λ x. x.tenure == t) cs ≡ false → list_any (λ x. (x.number == rows) && (x.tenure == t)) cs ≡ true → ⊥
    never nay yea =
        let some : list_any (λ x. x.tenure == t) cs ≡ true = list_any-so (λ x. (x.number == rows) && (x.tenure == t)) (λ x. x.tenure == t) (λ x k. (parts2 (x.number == rows) (x.tenure == t) k).1) cs yea in
        grind (arith, nay, some)

    go : (a b : Bool) → (c.tenure == t) ≡ b → cond b (not (list_any (λ x. x.tenure == t) cs)) (one_of t cs) ≡ true
        → ((a && b) || list_any (λ x. (x.number == rows) && (x.tenure == t)) cs) ≡ true
        → (one_of t cs ≡ true → list_any (λ x. (x.number == rows) && (x.tenure == t)) cs ≡ true → list_any (λ x. x.tenure == t) (filter (λ x. not (x.number == rows)) cs) ≡ false)
        → list_any (λ x. x.tenure == t) (cond (not a) (c ∷ filter (λ x. not (x.number == rows)) cs) (filter (λ x. not (x.number == rows)) cs)) ≡ false
    go true true is one has more = none-kept (λ x. x.tenure == t) (λ x. not (x.number == rows)) cs (none (list_any (λ x. x.tenure == t) cs) one)
    go false true is one has more = absurd (never (none (list_any (λ x. x.tenure == t) cs) one) has)
    go true false is one has more = more one has
    go false false is one has more = rw is (more one has)
