-- In a beginning of a whole journal: the owners of tenures, and the tenure that gave what is live.
use Rattle.std.proofs.Common.{◌≡◌, ℕ, ◌<◌, ◌≤◌, Bool, true, false, not, ◌&&◌, ◌||◌, ◌==◌, nat_lt, Option, None, Some, List, [], ◌∷◌, refl, sym, ◌∙◌, ap, subst, eqb→eq}
use Rattle.std.specs.List.{filter, list_all, list_any}
use native.Mathlib.Omega.{arith}
use Rattle.std.proofs.lemmas.Bool.Decides.{nat_tests}
use Rattle.dsql_driver.specs.declared.call.DriverCall.{DriverCall}
use Rattle.dsql_driver.specs.declared.call.DriverCall.TheVariants.{Prepare, CloseStmt}
use Rattle.dsql_driver.specs.declared.answer.DriverAnswer.{DriverAnswer}
use Rattle.dsql_driver.specs.declared.answer.DriverAnswer.TheVariants.{Prepared}
use Rattle.dsql_tenure_journal.specs.declared.entry.Entry.{Entry}
use Rattle.dsql_tenure_journal.specs.declared.entry.Owner.{Owner}
use Rattle.dsql_tenure_journal.specs.Kinds.{◌⇒◌, if_any, is_number, is_call, same_owner}
use Rattle.dsql_driver.specs.Kinds.{given_handle, given_cursor, handle_of, cursor_of}
use Rattle.dsql_tenure_journal.specs.Readers.{LiveHandle, LiveCursor, is_empty, of_tenure, last_tenure, handles, handles_after, cursors}
use Rattle.dsql_tenure_journal.specs.HandlesAndCursors.{keeps_handles_and_cursors}
use Rattle.dsql_tenure_journal.specs.Tenure as tenure
use Rattle.dsql_tenure_journal.specs.Journal.{may_follow, is_journal_prefix, IsJournalPrefix}
use Rattle.dsql_tenure_journal.specs.Facts.{MayFollow}
use Rattle.dsql_tenure_journal.proofs.Conjunctions.{parts2, parts8, join2}
use Rattle.dsql_tenure_journal.proofs.Sentences.{MayFollow-of}
use Rattle.dsql_tenure_journal.proofs.Tenures.{of_tenure-new}
use Rattle.dsql_tenure.proofs.Lists.{is_empty-filter, list_all-none, list_all-so, list_all-filter, list_any-both}
use Rattle.dsql_tenure.proofs.Given.{gave_handle, gave_cursor, handles-given, cursors-given, list_all-kept, list_any-filter, same_owner-refl, eqb-refl}
use Rattle.dsql_tenure.proofs.Places.{later_or_last}
use Rattle.dsql_tenure.proofs.SoFarRules.{OneOwner}

-- All entries of the last tenure, or of a later one, have one owner.
pub of_one_owner : (n : ℕ) (journal : List Entry) → IsJournalPrefix journal → last_tenure journal ≤ n → OneOwner (of_tenure n journal)
of_one_owner n [] h last = record { all = λ w is. refl }
of_one_owner n (e ∷ before) h last =
    let p = parts2 (may_follow before e) (is_journal_prefix before) h in
    let m : MayFollow before e = MayFollow-of before e p.0 in
    go (nat_lt e.tenure n) refl m
  where
    owner_of : (w : Owner) → Some e.owner ≡ Some w → list_all (λ x. same_owner x.owner e.owner) (of_tenure e.tenure before) ≡ true
        → list_all (λ x. same_owner x.owner w) (e ∷ of_tenure e.tenure before) ≡ true
    owner_of w is h =
        let same : e.owner ≡ w = cc in
        ap (λ (o : Owner). list_all (λ x. same_owner x.owner o) (e ∷ of_tenure e.tenure before)) (sym same)
        ∙ join2 (same_owner e.owner e.owner) (list_all (λ x. same_owner x.owner e.owner) (of_tenure e.tenure before)) (same_owner-refl e.owner) h

    go : (b : Bool) → nat_lt e.tenure n ≡ b → MayFollow before e → OneOwner (of_tenure n (e ∷ before))
    go true above m =
        let later : e.tenure < n = grind (arith, nat_tests, above) in
        rw (of_tenure-new n (e ∷ before) h later) (record { all = λ w is. refl })
    go false above m =
        let same : n ≡ e.tenure = grind (arith, nat_tests, above, last) in
        subst (λ (k : ℕ). OneOwner (of_tenure k (e ∷ before))) (sym same) (rw (eqb-refl e.tenure) (record { all = λ w is. owner_of w is m.tenure.one_owner }))

-- If an element passes a test and what gave it passes another, some entry of the journal passes the other.
pub found : {X : Type 0} (p : X → Bool) (gave : X → Entry → Bool) (q : Entry → Bool) (journal : List Entry)
    → ((x : X) (e : Entry) → p x ≡ true → gave x e ≡ true → q e ≡ true)
    → (xs : List X) → list_all (λ x. list_any (gave x) journal) xs ≡ true → list_any p xs ≡ true → list_any q journal ≡ true
found p gave q journal so [] given is = grind (arith, is)
found p gave q journal so (x ∷ xs) given is =
    go (p x) refl is (parts2 (list_any (gave x) journal) (list_all (λ y. list_any (gave y) journal) xs) given).0
    (found p gave q journal so xs (parts2 (list_any (gave x) journal) (list_all (λ y. list_any (gave y) journal) xs) given).1)
  where
    one : (es : List Entry) → p x ≡ true → list_any (gave x) es ≡ true → list_any q es ≡ true
    one [] here h = h
    one (e ∷ es) here h = pick (gave x e) refl h (one es here)
      where
        either : (a b : Bool) → b ≡ true → (a || b) ≡ true
        either true b h = refl
        either false b h = h

        first : (a b : Bool) → a ≡ true → (a || b) ≡ true
        first true b h = refl
        first false b h = grind (arith, h)

        pick : (b : Bool) → gave x e ≡ b → (b || list_any (gave x) es) ≡ true → (list_any (gave x) es ≡ true → list_any q es ≡ true) → (q e || list_any q es) ≡ true
        pick true is h more = first (q e) (list_any q es) (so x e here is)
        pick false is h more = either (q e) (list_any q es) (more h)

    go : (b : Bool) → p x ≡ b → (b || list_any p xs) ≡ true → list_any (gave x) journal ≡ true → (list_any p xs ≡ true → list_any q journal ≡ true) → list_any q journal ≡ true
    go true here h gives more = one journal here gives
    go false here h gives more = more h

-- Is true if the handle has another number or is of this tenure.
abbrev of_here : ℕ → ℕ → LiveHandle → Bool
of_here number tenure handle = not (handle.number == number) || (handle.tenure == tenure)

handles_after-here : (n : ℕ) (e : Entry) (q : DriverCall) (a : DriverAnswer) (live : List LiveHandle)
    → list_all (of_here n e.tenure) live ≡ true → list_all (of_here n e.tenure) (handles_after e q a live) ≡ true
handles_after-here n e (Prepare text) (Prepared handle inputs) live h =
    join2 (not (handle == n) || (e.tenure == e.tenure)) (list_all (of_here n e.tenure) live) (rw (eqb-refl e.tenure) (either (not (handle == n)))) h
  where
    either : (b : Bool) → (b || true) ≡ true
    either true = refl
    either false = refl
handles_after-here n e (CloseStmt handle) a live h = list_all-kept (of_here n e.tenure) (λ x. not (x.number == handle)) live h
handles_after-here n e _ _ live h = h

new_number : (n : ℕ) (t : ℕ) (a : DriverAnswer) (live : List LiveHandle) → is_number (given_handle a) n ≡ true
    → if_any (given_handle a) (λ h. is_empty (filter (λ x. x.number == h) live)) ≡ true → list_all (of_here n t) live ≡ true
new_number n t a live gave new = go (given_handle a) gave new
  where
    either : (a b : Bool) → a ≡ true → (a || b) ≡ true
    either true b h = refl
    either false b h = grind (arith, h)

    go : (o : Option ℕ) → is_number o n ≡ true → if_any o (λ h. is_empty (filter (λ x. x.number == h) live)) ≡ true → list_all (of_here n t) live ≡ true
    go None gave new = grind (arith, gave)
    go (Some m) gave new =
        let same : m ≡ n = eqb→eq m n (grind (arith, nat_tests, gave)) in
        let none : is_empty (filter (λ x. x.number == n) live) ≡ true = rw (← same) new in
        list_all-so (λ h. not (h.number == n)) (of_here n t) (λ h k. either (not (h.number == n)) (h.tenure == t) k) live
        (list_all-none (λ h. h.number == n) live ∙ sym (is_empty-filter (λ h. h.number == n) live) ∙ none)

pub given-here : (n : ℕ) (journal : List Entry) → IsJournalPrefix journal → list_any (λ x. is_number (given_handle x.answer) n) (of_tenure (last_tenure journal) journal) ≡ true
    → list_all (of_here n (last_tenure journal)) (handles journal) ≡ true
given-here n [] h gave = refl
given-here n (e ∷ before) h gave =
    let p = parts2 (may_follow before e) (is_journal_prefix before) h in
    let m : MayFollow before e = MayFollow-of before e p.0 in
    let rising : nat_lt e.tenure (last_tenure before) ≡ false = grind (arith, nat_tests, m.whole_journal.rising) in
    let here : (is_number (given_handle e.answer) n || list_any (λ x. is_number (given_handle x.answer) n) (of_tenure e.tenure before)) ≡ true = rw (eqb-refl e.tenure) at gave in
    handles_after-here n e e.call e.answer (handles before)
    (by_entry (is_number (given_handle e.answer) n) refl here m
    (λ others. later_or_last (list_all (of_here n e.tenure) (handles before) ≡ true) (last_tenure before) e.tenure
    (λ above.
    let none : of_tenure e.tenure before ≡ [] = of_tenure-new e.tenure before p.1 (grind (arith, nat_tests, above)) in
    never (rw none at others))
    (λ same. rw same (given-here n before p.1 (rw (← same) others)))
    rising))
  where
    never : false ≡ true → list_all (of_here n e.tenure) (handles before) ≡ true
    never h = grind (arith, h)

    by_entry : (b : Bool) → is_number (given_handle e.answer) n ≡ b → (b || list_any (λ x. is_number (given_handle x.answer) n) (of_tenure e.tenure before)) ≡ true → MayFollow before e
        → (list_any (λ x. is_number (given_handle x.answer) n) (of_tenure e.tenure before) ≡ true → list_all (of_here n e.tenure) (handles before) ≡ true)
        → list_all (of_here n e.tenure) (handles before) ≡ true
    by_entry true is k m more = new_number n e.tenure e.answer (handles before) is m.answer.new_handle
    by_entry false is k m more = more k

same_test : (a b : Bool) → (a ≡ true → b ≡ true) → (b ≡ true → a ≡ true) → a ≡ b
same_test true b h k = sym (h refl)
same_test false true h k = k refl
same_test false false h k = refl

-- Holds if the entry keeps the rules for handles and cursors that say what is live, and where.
pub record Served (before : List Entry) (entry : Entry) : Type 0 where
  pub handle : if_any (handle_of entry.call) (λ n. list_any (λ h. h.number == n) (handles before)) ≡ true
  pub handle_tx : if_any (handle_of entry.call) (λ n. list_all (λ h. not (h.number == n) || (h.tx == entry.tx)) (handles before)) ≡ true
  pub handle_tenure : if_any (handle_of entry.call) (λ n. list_all (λ h. not (h.number == n) || (not (is_call h.owner) ⇒ h.tenure == entry.tenure)) (handles before)) ≡ true
  pub cursor : if_any (cursor_of entry.call) (λ n. list_any (λ c. c.number == n) (cursors before)) ≡ true
  pub cursor_tenure : if_any (cursor_of entry.call) (λ n. list_all (λ c. not (c.number == n) || (c.tenure == entry.tenure)) (cursors before)) ≡ true

not_not : (b : Bool) → not (not b) ≡ b
not_not true = refl
not_not false = refl

any_of : (o : Option ℕ) (f g : ℕ → Bool) → ((n : ℕ) → f n ≡ g n) → if_any o f ≡ true → if_any o g ≡ true
any_of None f g same h = refl
any_of (Some n) f g same h = sym (same n) ∙ h

pub served : (before : List Entry) (e : Entry) → keeps_handles_and_cursors before e ≡ true → Served before e
served before e h =
    let p = parts8 _ _ _ _ _ _ _ _ h in
    record {
      handle = any_of (handle_of e.call) _ _ (λ n. ap not (is_empty-filter (λ x. x.number == n) (handles before)) ∙ not_not (list_any (λ x. x.number == n) (handles before))) p.0;
      handle_tx = any_of (handle_of e.call) _ _ (λ n. list_all-filter (λ x. x.tx == e.tx) (λ x. x.number == n) (handles before)) p.3;
      handle_tenure = any_of (handle_of e.call) _ _ (λ n. list_all-filter (λ x. not (is_call x.owner) ⇒ x.tenure == e.tenure) (λ x. x.number == n) (handles before)) p.6;
      cursor = any_of (cursor_of e.call) _ _ (λ n. ap not (is_empty-filter (λ x. x.number == n) (cursors before)) ∙ not_not (list_any (λ x. x.number == n) (cursors before))) p.1;
      cursor_tenure = any_of (cursor_of e.call) _ _ (λ n. list_all-filter (λ x. x.tenure == e.tenure) (λ x. x.number == n) (cursors before)) p.5;
    }

both_of : (n t : ℕ) (h : LiveHandle) → ((h.number == n) && of_here n t h) ≡ true → (h.number ≡ n) × (h.tenure ≡ t)
both_of n t h k = go (h.number == n) (h.tenure == t) refl refl k
  where
    go : (a b : Bool) → (h.number == n) ≡ a → (h.tenure == t) ≡ b → (a && (not a || b)) ≡ true → (h.number ≡ n) × (h.tenure ≡ t)
    go true true x y k = (eqb→eq h.number n (grind (arith, nat_tests, x)), eqb→eq h.tenure t (grind (arith, nat_tests, y)))
    go true false x y k = grind (arith, k)
    go false b x y k = grind (arith, k)

-- A live handle is closed in the tenure that prepared it exactly if it is of that tenure.
pub closes_own-is : (n t : ℕ) (journal : List Entry) → IsJournalPrefix journal → last_tenure journal ≤ t → list_any (λ h. h.number == n) (handles journal) ≡ true
    → list_any (λ x. is_number (given_handle x.answer) n) (of_tenure t journal) ≡ list_all (of_here n t) (handles journal)
closes_own-is n t journal h last live =
    same_test (list_any (λ x. is_number (given_handle x.answer) n) (of_tenure t journal)) (list_all (of_here n t) (handles journal))
    (λ gave. to_here (nat_lt (last_tenure journal) t) refl gave)
    (λ here.
    list_any-filter (λ x. is_number (given_handle x.answer) n) (λ x. x.tenure == t) journal
    ∙ found (λ x. (x.number == n) && of_here n t x) gave_handle (λ x. (x.tenure == t) && is_number (given_handle x.answer) n) journal
    (λ x e p g.
    let is = both_of n t x p in
    let q = parts2 (is_number (given_handle e.answer) x.number) ((e.tenure == x.tenure) && ((e.tx == x.tx) && same_owner e.owner x.owner)) g in
    let r = parts2 (e.tenure == x.tenure) ((e.tx == x.tx) && same_owner e.owner x.owner) q.1 in
    join2 (e.tenure == t) (is_number (given_handle e.answer) n) (rw (← is.1) r.0) (rw (← is.0) q.0))
    (handles journal) (handles-given journal) (list_any-both (λ x. x.number == n) (of_here n t) (handles journal) live here))
  where
    to_here : (b : Bool) → nat_lt (last_tenure journal) t ≡ b → list_any (λ x. is_number (given_handle x.answer) n) (of_tenure t journal) ≡ true → list_all (of_here n t) (handles journal) ≡ true
    to_here true above gave =
        let none : of_tenure t journal ≡ [] = of_tenure-new t journal h (grind (arith, nat_tests, above)) in
        let no_one : false ≡ true = rw none at gave in
        grind (arith, no_one)
    to_here false above gave =
        let same : last_tenure journal ≡ t = grind (arith, nat_tests, above, last) in
        rw (← same) (given-here n journal h (rw same gave))

-- A live cursor of a tenure was given in it.
pub own_cursor : (before : List Entry) (e : Entry) → Served before e → tenure.uses_own_cursor before e ≡ true
own_cursor before e s = go (cursor_of e.call) s.cursor s.cursor_tenure
  where
    both : (n : ℕ) (c : LiveCursor) → ((c.number == n) && (not (c.number == n) || (c.tenure == e.tenure))) ≡ true → (c.number ≡ n) × (c.tenure ≡ e.tenure)
    both n c k = pick (c.number == n) (c.tenure == e.tenure) refl refl k
      where
        pick : (a b : Bool) → (c.number == n) ≡ a → (c.tenure == e.tenure) ≡ b → (a && (not a || b)) ≡ true → (c.number ≡ n) × (c.tenure ≡ e.tenure)
        pick true true x y k = (eqb→eq c.number n (grind (arith, nat_tests, x)), eqb→eq c.tenure e.tenure (grind (arith, nat_tests, y)))
        pick true false x y k = grind (arith, k)
        pick false b x y k = grind (arith, k)

    go : (o : Option ℕ) → if_any o (λ n. list_any (λ c. c.number == n) (cursors before)) ≡ true → if_any o (λ n. list_all (λ c. not (c.number == n) || (c.tenure == e.tenure)) (cursors before)) ≡ true
        → if_any o (λ r. list_any (λ x. is_number (given_cursor x.answer) r) (of_tenure e.tenure before)) ≡ true
    go None live here = refl
    go (Some n) live here =
        list_any-filter (λ x. is_number (given_cursor x.answer) n) (λ x. x.tenure == e.tenure) before
        ∙ found (λ c. (c.number == n) && (not (c.number == n) || (c.tenure == e.tenure))) gave_cursor (λ x. (x.tenure == e.tenure) && is_number (given_cursor x.answer) n) before
        (λ c x p g.
        let is = both n c p in
        let q = parts2 (is_number (given_cursor x.answer) c.number) ((x.tenure == c.tenure) && (x.tx == c.tx)) g in
        let r = parts2 (x.tenure == c.tenure) (x.tx == c.tx) q.1 in
        join2 (x.tenure == e.tenure) (is_number (given_cursor x.answer) n) (rw (← is.1) r.0) (rw (← is.0) q.0))
        (cursors before) (cursors-given before) (list_any-both (λ c. c.number == n) (λ c. not (c.number == n) || (c.tenure == e.tenure)) (cursors before) live here)
