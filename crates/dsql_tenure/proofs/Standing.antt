-- Where a journal stands, by the tables.
use Rattle.std.proofs.Common.{◌≡◌, ℕ, Bool, true, false, not, ◌&&◌, ◌||◌, ◌==◌, Some, None, List, [], ◌∷◌, refl, sym, ◌∙◌, ap}
use Rattle.std.specs.Prelude.{if◌then◌else◌}
use Rattle.std.specs.List.{list_all, list_any}
use native.Mathlib.Omega.{arith}
use Rattle.dsql_driver.specs.Fits.{is_failure}
use Rattle.dsql_tenure_journal.specs.declared.entry.Entry.{Entry}
use Rattle.dsql_tenure_journal.specs.declared.entry.Owner.{Owner}
use Rattle.dsql_tenure_journal.specs.declared.entry.Owner.TheVariants.{Tx}
use Rattle.dsql_driver.specs.Kinds.{is_valid, is_reset, is_bad, is_shut, is_connect}
use Rattle.dsql_tenure_journal.specs.Readers.{has, of_tenure, last_tenure, last_owner, went_bad, was_shut, was_refused}
use Rattle.dsql_tenure_journal.specs.Journal.{may_follow, is_journal_prefix, is_whole, IsJournalPrefix}
use Rattle.dsql_tenure_journal.specs.Facts.{MayFollow}
use Rattle.dsql_tenure_journal.proofs.Conjunctions.{parts2, join2}
use Rattle.dsql_tenure_journal.proofs.Sentences.{MayFollow-of}
use Rattle.dsql_tenure.specs.declared.fault.Phase.TheVariants.{Before, Between, Inside, After}
use Rattle.dsql_tenure.specs.declared.tables.Tables.{Tables}
use Rattle.dsql_tenure.specs.Beginnings.{is_beginning_of, IsBeginningOf, can_grow, phase}
use Rattle.dsql_tenure.specs.Open.{open_in}
use Rattle.dsql_tenure.specs.Tables.{past, Stands}
use Rattle.dsql_tenure.proofs.Given.{eqb-refl}
use Rattle.dsql_tenure.proofs.Keeping.{keeps_of}
use Rattle.dsql_tenure.proofs.Transactions.{has-open}

not_true : (b : Bool) → not b ≡ true → b ≡ false
not_true true h = sym h
not_true false h = refl

-- Shut, if it was heard, is the last entry.
pub shut-last : (before : List Entry) (e : Entry) → IsJournalPrefix (e ∷ before) → was_shut (e ∷ before) ≡ is_shut e.call
shut-last before e h =
    let m : MayFollow before e = MayFollow-of before e (parts2 (may_follow before e) (is_journal_prefix before) h).0 in
    go (is_shut e.call) (not_true (was_shut before) m.whole_journal.not_after_shut)
  where
    go : (b : Bool) → was_shut before ≡ false → (b || was_shut before) ≡ b
    go true none = refl
    go false none = none

-- A refused Connect is the last entry.
pub refused-last : (before : List Entry) (e : Entry) → IsJournalPrefix (e ∷ before) → was_refused (e ∷ before) ≡ (is_connect e.call && is_failure e.answer)
refused-last before e h =
    let m : MayFollow before e = MayFollow-of before e (parts2 (may_follow before e) (is_journal_prefix before) h).0 in
    go (is_connect e.call && is_failure e.answer) (not_true (was_refused before) m.whole_journal.not_after_refusal)
  where
    go : (b : Bool) → was_refused before ≡ false → (b || was_refused before) ≡ b
    go true none = refl
    go false none = none

-- A beginning is whole exactly if its Connect was refused or Shut was heard.
pub whole-is : (journal : List Entry) → IsJournalPrefix journal → is_whole journal ≡ (was_refused journal || was_shut journal)
whole-is [] h = refl
whole-is (e ∷ before) h =
    rw (h, shut-last before e h, refused-last before e h) (swap (is_shut e.call) (is_connect e.call && is_failure e.answer))
  where
    swap : (a b : Bool) → (true && (a || b)) ≡ (b || a)
    swap true true = refl
    swap true false = refl
    swap false true = refl
    swap false false = refl

-- A beginning stays one with an entry of its connection that may follow.
pub beginning-more : (c : ℕ) (before : List Entry) (e : Entry) → IsJournalPrefix before → list_all (λ x. x.conn == c) before ≡ true
    → is_beginning_of c (e ∷ before) ≡ ((e.conn == c) && may_follow before e)
beginning-more c before e h one = rw (h, one) (go (may_follow before e) (e.conn == c))
  where
    go : (a b : Bool) → ((a && true) && (b && true)) ≡ (b && a)
    go true true = refl
    go true false = refl
    go false true = refl
    go false false = refl

-- After a Bad answer, a transaction's own tenure can grow exactly if the transaction is open.
pub grows-open : (n : ℕ) (journal : List Entry) → IsJournalPrefix journal → last_owner journal ≡ Some (Tx n)
    → list_any (λ x. is_valid x.call) (of_tenure (last_tenure journal) journal) ≡ false
    → list_any (λ x. is_reset x.call && is_bad x.answer) (of_tenure (last_tenure journal) journal) ≡ false
    → went_bad journal ≡ true → has n (open_in journal) ≡ can_grow journal
grows-open n [] h owner tested fell bad = grind (arith, owner)
grows-open n (e ∷ before) h owner tested fell bad =
    let own : e.owner ≡ Tx n = cc in
    has-open n (e ∷ before) h ∙ rw (tested, fell, bad, own) refl

-- The owner of the last tenure is the owner of the last entry.
owner-last : (journal : List Entry) → last_owner (of_tenure (last_tenure journal) journal) ≡ last_owner journal
owner-last [] = refl
owner-last (e ∷ before) = rw (eqb-refl e.tenure) refl

-- A journal that no one owns hasn't begun.
nothing-owned : (journal : List Entry) → last_owner journal ≡ None → Before ≡ phase journal
nothing-owned [] none = refl
nothing-owned (e ∷ before) none = cc

-- A journal that wasn't shut stands inside a tenure if it can grow, and otherwise between two.
phase-open : (journal : List Entry) (owner : Owner) → IsJournalPrefix journal → last_owner journal ≡ Some owner → was_shut journal ≡ false
    → phase journal ≡ (if can_grow journal then Inside else Between)
phase-open [] owner h own open_still = cc
phase-open (e ∷ before) owner h own open_still = rw (sym (shut-last before e h) ∙ open_still) refl

module _ (t : Tables) (s : Stands t) where
  pub stands-beginning : IsBeginningOf t.conn (past t)
  stands-beginning = join2 (is_journal_prefix (past t)) (list_all (λ x. x.conn == t.conn) (past t)) (keeps_of t s).prefix (keeps_of t s).one

  pub stands-whole : (t.refused || t.shut) ≡ is_whole (past t)
  stands-whole = rw ((keeps_of t s).refused, (keeps_of t s).shut) (sym (whole-is (past t) (keeps_of t s).prefix))

  pub stands-shut : t.shut ≡ true → After ≡ phase (past t)
  stands-shut is = go (past t) (keeps_of t s).prefix (sym (keeps_of t s).shut ∙ is)
    where
      go : (j : List Entry) → IsJournalPrefix j → was_shut j ≡ true → After ≡ phase j
      go [] h is = grind (arith, is)
      go (e ∷ before) h is = rw (sym (shut-last before e h) ∙ is) refl

  pub stands-owner : t.so_far.owner ≡ last_owner (past t)
  stands-owner = ap (λ x. x.owner) (keeps_of t s).so_far ∙ owner-last (past t)

  pub stands-before : t.so_far.owner ≡ None → Before ≡ phase (past t)
  stands-before none = nothing-owned (past t) (sym stands-owner ∙ none)

  -- By the tables, a journal that goes on stands inside a tenure that can grow, and otherwise between two.
  pub stands-open : (owner : Owner) (grows : Bool) → t.so_far.owner ≡ Some owner → t.shut ≡ false → can_grow (past t) ≡ grows → (if grows then Inside else Between) ≡ phase (past t)
  stands-open owner grows own open_still is =
      sym (phase-open (past t) owner (keeps_of t s).prefix (sym stands-owner ∙ own) (sym (keeps_of t s).shut ∙ open_still) ∙ ap (λ b. if b then Inside else Between) is)

  pub stands-grows : (n : ℕ) → last_owner (past t) ≡ Some (Tx n) → t.so_far.tested ≡ false → t.so_far.fell ≡ false → went_bad (past t) ≡ true → has n (open_in (past t)) ≡ can_grow (past t)
  stands-grows n owner tested fell bad =
      grows-open n (past t) (keeps_of t s).prefix owner (sym (ap (λ x. x.tested) (keeps_of t s).so_far) ∙ tested) (sym (ap (λ x. x.fell) (keeps_of t s).so_far) ∙ fell) bad

  pub stands-more : (e : Entry) → is_beginning_of t.conn (e ∷ past t) ≡ ((e.conn == t.conn) && may_follow (past t) e)
  stands-more e = beginning-more t.conn (past t) e (keeps_of t s).prefix (keeps_of t s).one

  -- An entry that makes a longer beginning is of the connection and may follow.
  pub stands-follows : (e : Entry) → is_beginning_of t.conn (e ∷ past t) ≡ true → ((e.conn == t.conn) ≡ true) × (may_follow (past t) e ≡ true)
  stands-follows e h = parts2 (e.conn == t.conn) (may_follow (past t) e) (sym (stands-more e) ∙ h)
