-- Beginnings of whole journals. A journal is newest first, so `later ++ before` goes on from `before`.
use Rattle.std.proofs.Common.{◌≡◌, Bool, true, false, ◌&&◌, List, [], ◌∷◌, ◌++◌, IsTrue, refl, not, ◌||◌, ◌↔◌}
use native.Mathlib.Omega.{arith}
use Rattle.dsql_tenure_journal.specs.declared.entry.Entry.{Entry}
use Rattle.dsql_driver.specs.Fits.{fits_of, is_memory, is_failure}
use Rattle.std.specs.List.{list_all}
use Rattle.dsql_driver.specs.Kinds.{is_shut, is_connect}
use Rattle.dsql_tenure_journal.specs.Readers.{was_shut, was_refused}
use Rattle.dsql_tenure_journal.specs.Journal.{may_follow, is_journal_prefix, is_finished, IsJournalPrefix, IsWhole}
use Rattle.dsql_tenure_journal.specs.Facts.{MayFollow}
use Rattle.dsql_tenure_journal.proofs.Conjunctions.{parts2, join2}
use Rattle.dsql_tenure_journal.proofs.Sentences.{MayFollow-of, of-MayFollow}

pub IsJournalPrefix-end : (later before : List Entry) → IsJournalPrefix (later ++ before) → IsJournalPrefix before
IsJournalPrefix-end [] before h = h
IsJournalPrefix-end (e ∷ later) before h = IsJournalPrefix-end later before (parts2 (may_follow (later ++ before) e) (is_journal_prefix (later ++ before)) h).1

pub IsJournalPrefix-longer : (before : List Entry) (e : Entry) → IsJournalPrefix before → MayFollow before e → IsJournalPrefix (e ∷ before)
IsJournalPrefix-longer before e h may = join2 (may_follow before e) (is_journal_prefix before) (of-MayFollow before e may) h

pub IsJournalPrefix-at : (later : List Entry) (e : Entry) (before : List Entry) → IsJournalPrefix (later ++ e ∷ before) → MayFollow before e
IsJournalPrefix-at later e before h =
    MayFollow-of before e (parts2 (may_follow before e) (is_journal_prefix before) (IsJournalPrefix-end later (e ∷ before) h)).0

-- A list is a beginning if at each place the entry may follow those before it.
pub IsJournalPrefix-from_each : (journal : List Entry) → ((later before : List Entry) (e : Entry) → later ++ e ∷ before ≡ journal → MayFollow before e) → IsJournalPrefix journal
IsJournalPrefix-from_each [] h = refl
IsJournalPrefix-from_each (e ∷ before) h =
    IsJournalPrefix-longer before e (IsJournalPrefix-from_each before (λ later b x is. h (e ∷ later) b x (cc is))) (h [] before e refl)

false_if : (b : Bool) → (b ≡ true → ⊥) → b ≡ false
false_if true h = absurd (h refl)
false_if false h = refl

never_both : (shut others refused : Bool) → not (shut || others) ≡ true → not refused ≡ true → shut || refused ≡ true → ⊥
never_both true others refused h k is = grind (arith)
never_both false others refused h k is = grind (arith)

first_refused : (first others : Bool) → not (first || others) ≡ true → not first ≡ true
first_refused true others h = h
first_refused false others h = refl

-- Nothing may follow a whole journal.
pub may_follow-whole : (journal : List Entry) (e : Entry) → IsWhole journal → may_follow journal e ≡ false
may_follow-whole [] e h = grind (arith)
may_follow-whole (x ∷ before) e h =
    false_if (may_follow (x ∷ before) e) (λ may.
    let m : MayFollow (x ∷ before) e = MayFollow-of (x ∷ before) e may in
    never_both (is_shut x.call) (was_shut before) (is_connect x.call && is_failure x.answer)
    m.whole_journal.not_after_shut
    (first_refused (is_connect x.call && is_failure x.answer) (was_refused before) m.whole_journal.not_after_refusal)
    (parts2 (is_journal_prefix (x ∷ before)) (is_finished (x ∷ before)) h).1)

-- In a beginning each answer fits its call, and Memory never stands.
pub answers_fit : (journal : List Entry) → IsJournalPrefix journal → list_all (λ e. fits_of e.call e.answer && not (is_memory e.answer)) journal ≡ true
answers_fit [] h = refl
answers_fit (e ∷ before) h =
    let p = parts2 (may_follow before e) (is_journal_prefix before) h in
    let m : MayFollow before e = MayFollow-of before e p.0 in
    join2 (fits_of e.call e.answer && not (is_memory e.answer)) (list_all (λ x. fits_of x.call x.answer && not (is_memory x.answer)) before)
    (join2 (fits_of e.call e.answer) (not (is_memory e.answer)) m.answer.fitting m.answer.heard)
    (answers_fit before p.1)

-- A list with one entry more is a beginning exactly if the rest is and the entry may follow it.
pub IsJournalPrefix-cons : (before : List Entry) (e : Entry) → IsJournalPrefix (e ∷ before) ↔ (IsJournalPrefix before × MayFollow before e)
IsJournalPrefix-cons before e = (
  (λ h. let p = parts2 (may_follow before e) (is_journal_prefix before) h in (p.1, MayFollow-of before e p.0)),
  (λ h. IsJournalPrefix-longer before e h.0 h.1),
)

pub IsWhole-cons : (before : List Entry) (e : Entry) → IsWhole (e ∷ before) ↔ (IsJournalPrefix before × MayFollow before e × IsTrue (is_finished (e ∷ before)))
IsWhole-cons before e = (
  (λ h.
      let p = parts2 (is_journal_prefix (e ∷ before)) (is_finished (e ∷ before)) h in
      let q = parts2 (may_follow before e) (is_journal_prefix before) p.0 in
      (q.1, MayFollow-of before e q.0, p.1)),
  (λ h. join2 (is_journal_prefix (e ∷ before)) (is_finished (e ∷ before)) (IsJournalPrefix-longer before e h.0 h.1) h.2),
)
