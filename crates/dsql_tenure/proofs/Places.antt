-- Where a transaction's entries stand, in a beginning of a whole journal.
use Rattle.std.proofs.Common.{◌≡◌, ◌≢◌, ℕ, Bool, true, false, cond, not, ◌&&◌, ◌||◌, ◌==◌, nat_lt, List, [], ◌∷◌, refl, sym, ◌∙◌, ap, eqb→eq}
use Rattle.std.specs.List.{filter, list_any, list_all}
use native.Mathlib.Omega.{arith}
use Rattle.std.proofs.lemmas.Bool.Decides.{nat_tests}
use Rattle.dsql_tenure_journal.specs.declared.entry.Entry.{Entry}
use Rattle.dsql_driver.specs.Kinds.{is_ending}
use Rattle.dsql_tenure_journal.specs.Readers.{is_empty, has, of_tenure, of_transaction, last_tenure, begins, begun, ended, went_bad}
use Rattle.dsql_tenure_journal.specs.Tenure.{has_ended_transactions, has_closed_cursors, has_closed_handles, is_whole_tenure}
use Rattle.dsql_tenure_journal.specs.Journal.{may_follow, is_journal_prefix, IsJournalPrefix}
use Rattle.dsql_tenure_journal.specs.Facts.{MayFollow}
use Rattle.dsql_tenure_journal.proofs.Conjunctions.{parts2, join2, if_so}
use Rattle.dsql_tenure_journal.proofs.Sentences.{MayFollow-of}
use Rattle.dsql_tenure.specs.Open.{open_in, open_after}
use Rattle.dsql_tenure.proofs.Lists.{list_all-so}
use Rattle.dsql_tenure.proofs.Given.{list_all-kept, eqb-refl}
use Rattle.dsql_tenure.proofs.Transactions.{has-open}

pub has-all : (f : ℕ → Bool) (n : ℕ) (ns : List ℕ) → list_all f ns ≡ true → has n ns ≡ true → f n ≡ true
has-all f n [] h k = grind (arith, k)
has-all f n (m ∷ ns) h k =
    go (m == n) refl k (parts2 (f m) (list_all f ns) h).0 (has-all f n ns (parts2 (f m) (list_all f ns) h).1)
  where
    go : (b : Bool) → (m == n) ≡ b → (b || has n ns) ≡ true → f m ≡ true → (has n ns ≡ true → f n ≡ true) → f n ≡ true
    go true same k here more = let is : m ≡ n = eqb→eq m n (grind (arith, nat_tests, same)) in rw (← is) here
    go false same k here more = more k

has-later : (n m : ℕ) (b : Bool) (ns : List ℕ) → has n ns ≡ true → has n (cond b (m ∷ ns) ns) ≡ true
has-later n m true ns h = go (m == n) h
  where
    go : (a : Bool) → has n ns ≡ true → (a || has n ns) ≡ true
    go true h = refl
    go false h = h
has-later n m false ns h = h

-- A transaction that was begun in a tenure was begun.
pub begun-of_tenure : (t : ℕ) (journal : List Entry) → list_all (λ m. has m (begun journal)) (begun (of_tenure t journal)) ≡ true
begun-of_tenure t [] = refl
begun-of_tenure t (e ∷ before) = go (e.tenure == t) (begins e) refl (list_all-so (λ m. has m (begun before)) (λ m. has m (begun (e ∷ before))) (λ m h. has-later m e.tx (begins e) (begun before) h) (begun (of_tenure t before)) (begun-of_tenure t before))
  where
    head : (b : Bool) → (b || has e.tx (begun before)) ≡ true → has e.tx (e.tx ∷ begun before) ≡ true
    head b h = rw (eqb-refl e.tx) refl

    here : list_all (λ m. has m (begun (e ∷ before))) (begun (of_tenure t before)) ≡ true → (c : Bool) → begins e ≡ c
        → list_all (λ m. has m (cond c (e.tx ∷ begun before) (begun before))) (begun (of_tenure t before)) ≡ true
        → list_all (λ m. has m (cond c (e.tx ∷ begun before) (begun before))) (cond c (e.tx ∷ begun (of_tenure t before)) (begun (of_tenure t before))) ≡ true
    here k true is h = join2 (has e.tx (e.tx ∷ begun before)) _ (head true refl) h
    here k false is h = h

    go : (b c : Bool) → begins e ≡ c → list_all (λ m. has m (begun (e ∷ before))) (begun (of_tenure t before)) ≡ true
        → list_all (λ m. has m (begun (e ∷ before))) (begun (cond b (e ∷ of_tenure t before) (of_tenure t before))) ≡ true
    go true c is h = here h (begins e) refl h
    go false c is h = h

-- A transaction that was begun in a tenure has an entry in it.
pub begun-in : (n t : ℕ) (journal : List Entry) → has n (begun (of_tenure t journal)) ≡ true → list_any (λ x. x.tenure == t) (of_transaction n journal) ≡ true
begun-in n t [] h = h
begun-in n t (e ∷ before) h = go (e.tenure == t) (begins e) (e.tx == n) refl refl refl h (begun-in n t before)
  where
    later : (b : Bool) → list_any (λ x. x.tenure == t) (of_transaction n before) ≡ true → list_any (λ x. x.tenure == t) (cond b (e ∷ of_transaction n before) (of_transaction n before)) ≡ true
    later true h = or_then (e.tenure == t) h
      where
        or_then : (a : Bool) → list_any (λ x. x.tenure == t) (of_transaction n before) ≡ true → (a || list_any (λ x. x.tenure == t) (of_transaction n before)) ≡ true
        or_then true h = refl
        or_then false h = h
    later false h = h

    go : (a b c : Bool) → (e.tenure == t) ≡ a → begins e ≡ b → (e.tx == n) ≡ c → has n (begun (cond a (e ∷ of_tenure t before) (of_tenure t before))) ≡ true
        → (has n (begun (of_tenure t before)) ≡ true → list_any (λ x. x.tenure == t) (of_transaction n before) ≡ true)
        → list_any (λ x. x.tenure == t) (cond c (e ∷ of_transaction n before) (of_transaction n before)) ≡ true
    go true true true at is same h more = rw at refl
    go true true false at is same h more = more (first_is (begins e) is h)
      where
        first_is : (b : Bool) → b ≡ true → has n (cond b (e.tx ∷ begun (of_tenure t before)) (begun (of_tenure t before))) ≡ true → has n (begun (of_tenure t before)) ≡ true
        first_is true is h = rw same at h
        first_is false is h = h
    go true false c at is same h more = later c (more (none_first (begins e) is h))
      where
        none_first : (b : Bool) → b ≡ false → has n (cond b (e.tx ∷ begun (of_tenure t before)) (begun (of_tenure t before))) ≡ true → has n (begun (of_tenure t before)) ≡ true
        none_first true is h = grind (arith, is)
        none_first false is h = h
    go false b c at is same h more = later c (more h)

-- The last tenure has ended its transactions exactly if no transaction is open.
module _ (journal : List Entry) (h : IsJournalPrefix journal) where
  pub none_open : list_all (λ m. has m (begun (of_tenure (last_tenure journal) journal))) (open_in journal) ≡ true
      → has_ended_transactions (last_tenure journal) journal ≡ is_empty (open_in journal)
  none_open all = go (open_in journal) refl all
    where
      ends : (ns : List ℕ) → open_in journal ≡ ns → is_empty ns ≡ true → (m : ℕ) → has m (begun journal) ≡ true → has m (ended journal) ≡ true
      ends [] is none m so =
          let open_one : has m (open_in journal) ≡ false = rw is refl in
          let known : has m (open_in journal) ≡ (has m (begun journal) && not (has m (ended journal))) = has-open m journal h in
          either (has m (ended journal)) (sym open_one ∙ known ∙ ap (λ b. b && not (has m (ended journal))) so)
        where
          either : (b : Bool) → false ≡ (true && not b) → b ≡ true
          either true k = refl
          either false k = k
      ends (n ∷ ns) is none m so = grind (arith, none)

      go : (ns : List ℕ) → open_in journal ≡ ns → list_all (λ m. has m (begun (of_tenure (last_tenure journal) journal))) ns ≡ true
          → has_ended_transactions (last_tenure journal) journal ≡ is_empty ns
      go [] is all = list_all-so (λ m. has m (begun journal)) (λ m. has m (ended journal)) (ends [] is refl) (begun (of_tenure (last_tenure journal) journal)) (begun-of_tenure (last_tenure journal) journal)
      go (n ∷ ns) is all =
          let here : has n (begun (of_tenure (last_tenure journal) journal)) ≡ true = (parts2 (has n (begun (of_tenure (last_tenure journal) journal))) _ all).0 in
          let open_one : has n (open_in journal) ≡ true = rw is (rw (eqb-refl n) refl) in
          let parts = parts2 (has n (begun journal)) (not (has n (ended journal))) (sym (has-open n journal h) ∙ open_one) in
          neither (has_ended_transactions (last_tenure journal) journal) (λ all_ended. has-all (λ m. has m (ended journal)) n (begun (of_tenure (last_tenure journal) journal)) all_ended here) parts.1
        where
          neither : (b : Bool) → (b ≡ true → has n (ended journal) ≡ true) → not (has n (ended journal)) ≡ true → b ≡ false
          neither true so nay = grind (arith, so refl, nay)
          neither false so nay = refl

-- A number that isn't below the last tenure's is the last tenure's or a later one.
pub later_or_last : (P : Type 0) (last n : ℕ) → (nat_lt last n ≡ true → P) → (n ≡ last → P) → nat_lt n last ≡ false → P
later_or_last P last n above same ge = go (nat_lt last n) refl
  where
    go : (b : Bool) → nat_lt last n ≡ b → P
    go true is = above is
    go false is = same (grind (arith, nat_tests, is, ge))

pub whole_ended : (n : ℕ) (journal : List Entry) → is_whole_tenure n journal ≡ true → has_ended_transactions n journal ≡ true
whole_ended n journal h = (parts2 (has_ended_transactions n journal) (went_bad journal || has_closed_cursors n journal && has_closed_handles n journal) h).0

empty_is : (ns : List ℕ) → is_empty ns ≡ true → ns ≡ []
empty_is [] h = refl
empty_is (n ∷ ns) h = grind (arith, h)

-- The open transactions were begun in the last tenure.
pub open-in_last : (journal : List Entry) → IsJournalPrefix journal → list_all (λ m. has m (begun (of_tenure (last_tenure journal) journal))) (open_in journal) ≡ true
open-in_last [] h = refl
open-in_last (e ∷ before) h =
    let p = parts2 (may_follow before e) (is_journal_prefix before) h in
    let m : MayFollow before e = MayFollow-of before e p.0 in
    let rising : nat_lt e.tenure (last_tenure before) ≡ false = grind (arith, nat_tests, m.whole_journal.rising) in
    later_or_last (list_all (λ n. has n (begun (of_tenure e.tenure (e ∷ before)))) (open_after e (open_in before)) ≡ true) (last_tenure before) e.tenure
    (λ above.
    let whole : is_whole_tenure (last_tenure before) before ≡ true = if_so (nat_lt (last_tenure before) e.tenure) (is_whole_tenure (last_tenure before) before) m.whole_journal.after_whole_tenure above in
    let none : open_in before ≡ [] = empty_is (open_in before) (sym (none_open before p.1 (open-in_last before p.1)) ∙ whole_ended (last_tenure before) before whole) in
    rw (eqb-refl e.tenure, none) (first (begins e) (is_ending e.call)))
    (λ same. rw (eqb-refl e.tenure) (more (begins e) (is_ending e.call) (rw same (open-in_last before p.1))))
    rising
  where
    first : (b c : Bool) → list_all (λ n. has n (cond b (e.tx ∷ begun (of_tenure e.tenure before)) (begun (of_tenure e.tenure before)))) (cond b (e.tx ∷ []) (cond c [] [])) ≡ true
    first true c = rw (eqb-refl e.tx) refl
    first false true = refl
    first false false = refl

    more : (b c : Bool) → list_all (λ n. has n (begun (of_tenure e.tenure before))) (open_in before) ≡ true
        → list_all (λ n. has n (cond b (e.tx ∷ begun (of_tenure e.tenure before)) (begun (of_tenure e.tenure before)))) (cond b (e.tx ∷ open_in before) (cond c (filter (λ k. not (k == e.tx)) (open_in before)) (open_in before))) ≡ true
    more true c h =
        join2 (has e.tx (e.tx ∷ begun (of_tenure e.tenure before))) _ (rw (eqb-refl e.tx) refl)
        (list_all-so (λ n. has n (begun (of_tenure e.tenure before))) (λ n. has n (e.tx ∷ begun (of_tenure e.tenure before))) (λ n k. has-later n e.tx true (begun (of_tenure e.tenure before)) k) (open_in before) h)
    more false true h = list_all-kept (λ n. has n (begun (of_tenure e.tenure before))) (λ k. not (k == e.tx)) (open_in before) h
    more false false h = h

-- The last tenure's transactions have ended exactly if none is open.
pub has_ended-last : (journal : List Entry) → IsJournalPrefix journal → has_ended_transactions (last_tenure journal) journal ≡ is_empty (open_in journal)
has_ended-last journal h = none_open journal h (open-in_last journal h)

-- The entries of a transaction stand in one tenure.
pub one_tenure : (n t : ℕ) (journal : List Entry) → IsJournalPrefix journal → n ≢ 0
    → list_any (λ x. x.tenure == t) (of_transaction n journal) ≡ true → list_all (λ x. x.tenure == t) (of_transaction n journal) ≡ true
one_tenure n t [] h some k = refl
one_tenure n t (e ∷ before) h some k =
    let p = parts2 (may_follow before e) (is_journal_prefix before) h in
    let m : MayFollow before e = MayFollow-of before e p.0 in
    go (e.tx == n) refl m k (one_tenure n t before p.1 some)
  where
    both : (a b : ℕ) (xs : List Entry) → list_all (λ x. x.tenure == a) xs ≡ true → list_any (λ x. x.tenure == b) xs ≡ true → a ≡ b
    both a b [] h k = grind (arith, k)
    both a b (x ∷ xs) h k =
        let q = parts2 (x.tenure == a) (list_all (λ y. y.tenure == a) xs) h in
        pick (x.tenure == b) refl q.0 k (both a b xs q.1)
      where
        pick : (c : Bool) → (x.tenure == b) ≡ c → (x.tenure == a) ≡ true → (c || list_any (λ y. y.tenure == b) xs) ≡ true
            → (list_any (λ y. y.tenure == b) xs ≡ true → a ≡ b) → a ≡ b
        pick true is same k more = grind (arith, nat_tests, is, same)
        pick false is same k more = more k

    go : (b : Bool) → (e.tx == n) ≡ b → MayFollow before e → list_any (λ x. x.tenure == t) (cond b (e ∷ of_transaction n before) (of_transaction n before)) ≡ true
        → (list_any (λ x. x.tenure == t) (of_transaction n before) ≡ true → list_all (λ x. x.tenure == t) (of_transaction n before) ≡ true)
        → list_all (λ x. x.tenure == t) (cond b (e ∷ of_transaction n before) (of_transaction n before)) ≡ true
    go true same m k more =
        let is_n : e.tx ≡ n = eqb→eq e.tx n (grind (arith, nat_tests, same)) in
        let here : list_all (λ x. x.tenure == e.tenure) (of_transaction n before) ≡ true = rw is_n at ((m.transaction (λ z. some (sym is_n ∙ z))).one_tenure) in
        pick (e.tenure == t) refl here k more
      where
        pick : (c : Bool) → (e.tenure == t) ≡ c → list_all (λ x. x.tenure == e.tenure) (of_transaction n before) ≡ true
            → (c || list_any (λ x. x.tenure == t) (of_transaction n before)) ≡ true
            → (list_any (λ x. x.tenure == t) (of_transaction n before) ≡ true → list_all (λ x. x.tenure == t) (of_transaction n before) ≡ true)
            → (c && list_all (λ x. x.tenure == t) (of_transaction n before)) ≡ true
        pick true is here k more = let at_t : e.tenure ≡ t = eqb→eq e.tenure t (grind (arith, nat_tests, is)) in rw (← at_t) here
        pick false is here k more = let same_t : e.tenure ≡ t = both e.tenure t (of_transaction n before) here k in grind (arith, nat_tests, is, same_t)
    go false same m k more = more k

-- An open transaction's entries stand in the last tenure.
pub open-last : (n : ℕ) (journal : List Entry) → IsJournalPrefix journal → n ≢ 0 → has n (open_in journal) ≡ true → list_all (λ x. x.tenure == last_tenure journal) (of_transaction n journal) ≡ true
open-last n journal h some is =
    one_tenure n (last_tenure journal) journal h some
    (begun-in n (last_tenure journal) journal (has-all (λ m. has m (begun (of_tenure (last_tenure journal) journal))) n (open_in journal) (open-in_last journal h) is))
