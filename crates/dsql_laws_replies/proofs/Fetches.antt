-- A fetch that has no reply yet has settled it, or is for rows that were made. If those rows aren't live, its
-- reply is settled.
use Rattle.std.proofs.Common.{◌≡◌, ◌≢◌, ℕ, ◌⊎◌, inl, inr, Bool, true, false, not, cond, List, [], ◌∷◌, length, Option, Some, None, is_some, refl, sym, ap, subst, ◌∙◌}
use Rattle.dsql_laws_calls.specs.journal.declared.entry.Entry.{Entry}
use Rattle.dsql_laws_calls.specs.rows.declared.rows.Rows.{Rows}
use Rattle.dsql_laws_calls.proofs.laws_work.Rows.{same_or_not}
use Rattle.dsql_laws_calls.specs.history.Readers.HandedOut.{live, over, are_live, rows_by}
use Rattle.dsql_laws_calls.proofs.laws.Tests.{other_number}
use Rattle.dsql_laws_calls.specs.history.declared.event.Event.{Event}
use Rattle.dsql_laws_calls.specs.history.declared.event.Event.TheVariants.{Entered, Heard, Replied}
use Rattle.dsql_laws_calls.specs.history.declared.event.Op.{Op}
use Rattle.dsql_laws_calls.specs.history.declared.event.Op.TheVariants as ops
use Rattle.dsql_laws_calls.specs.history.declared.reply.Reply.TheVariants.{Truth}
use Rattle.dsql_laws_calls.specs.history.declared.work.Work.TheVariants.{Fetch}
use Rattle.dsql_laws_calls.specs.history.Readers.Calls.{call_record, calls, decided, reply_due, rows_for, told_at_entry, told_at_lending, told_by_others, told_of_work}
use Rattle.dsql_laws_calls.specs.history.Readers.Decisions.{rows_reply}
use Rattle.dsql_laws_calls.specs.history.Readers.Pool.{place}
use Rattle.dsql_laws_calls.specs.history.Readers.Unfinished.{is_unfinished}
use Rattle.dsql_laws_calls.specs.history.Readers.Works.{rows_maker, work, work_of, works}
use Rattle.dsql_laws_calls.specs.history.Legal.{Lawful}
use Rattle.dsql_laws_calls.proofs.laws.Numbered.{unfinished_from_one}
use Rattle.dsql_laws_calls.proofs.EndedRows.{rows_kept}
use Rattle.dsql_laws_calls.proofs.Looks.{comes, heard_there}
use Rattle.dsql_laws_calls.proofs.Nowhere.{others_settled, own_settled}
use Rattle.dsql_laws_calls.proofs.RowsKept.{rows_fetched}
use Rattle.dsql_laws_calls.proofs.Works.{enters_next, new_record, new_work, old_record, old_unfinished, old_work, other_heard, other_replied, still_unfinished}

-- Holds if call n, a fetch of the rows of call k, has settled its reply, or the rows were made.
abbrev pub Finds : List Event → ℕ → ℕ → Type 0
Finds H n k = (is_some (decided H n) ≡ true) ⊎ (is_some (rows_by H k) ≡ true)

-- An event that leaves the call's record as it is keeps this.
finds_still : (H : List Event) (e : Event) (n k : ℕ) → call_record (e ∷ H) n ≡ call_record H n → Finds H n k → Finds (e ∷ H) n k
finds_still H e n k same (inl d) = inl (ap (λ r. is_some r.decided) same ∙ d)
finds_still H e n k same (inr made) = let kept = rows_kept H e k in inr (kept.some made)

-- If there are no rows, a fetch replies that.

found_by : (H : List Event) (label : List ℕ) (b : Bool) (r : Rows) → cond b None (rows_by H (rows_maker (works H) label)) ≡ Some r → is_some (rows_by H (rows_maker (works H) label)) ≡ true
found_by H label true r is = absurd cc
found_by H label false r is = ap is_some is

next_told : (H : List Event) (label : List ℕ) → (is_some (told_at_entry H (ops.Next label)) ≡ true) ⊎ (is_some (rows_by H (rows_maker (works H) label)) ≡ true)
next_told H label = by (rows_for H (ops.Next label)) refl
  where
    by : (o : Option Rows) → rows_for H (ops.Next label) ≡ o → (is_some (rows_reply (rows_for H (ops.Next label)) (ops.Next label)) ≡ true) ⊎ (is_some (rows_by H (rows_maker (works H) label)) ≡ true)
    by None is = inl (ap (λ o. is_some (rows_reply o (ops.Next label))) is)
    by (Some r) is = inr (found_by H label (is_unfinished H (rows_maker (works H) label)) r is)

entering_finds : (H : List Event) (op : Op) (k : ℕ) → work_of (works H) op ≡ Fetch k → (is_some (told_at_entry H op) ≡ true) ⊎ (is_some (rows_by H k) ≡ true)
entering_finds H (ops.Next label) k it =
    let same : rows_maker (works H) label ≡ k = cc in
    subst (λ j. (is_some (told_at_entry H (ops.Next label)) ≡ true) ⊎ (is_some (rows_by H j) ≡ true)) same (next_told H label)
entering_finds H op k it = absurd cc

finds_entered : (H : List Event) (client m : ℕ) (op : Op) (k : ℕ) → m ≡ length (calls H) → work (Entered client m op ∷ H) m ≡ Fetch k → Finds (Entered client m op ∷ H) m k
finds_entered H client m op k new it = by (entering_finds H op k (sym (new_work H client m op new) ∙ it))
  where
    by : (is_some (told_at_entry H op) ≡ true) ⊎ (is_some (rows_by H k) ≡ true) → Finds (Entered client m op ∷ H) m k
    by (inl told) = inl (ap (λ r. is_some r.decided) (new_record H client m op new) ∙ told)
    by (inr made) = let kept = rows_kept H (Entered client m op) k in inr (kept.some made)

-- An answer to a fetch is for rows that were made.
finds_heard : (H : List Event) (e : Entry) (k : ℕ) → Lawful (Heard e ∷ H) → e.call_no ≢ 0 → work H e.call_no ≡ Fetch k → is_some (rows_by (Heard e ∷ H) k) ≡ true
finds_heard H e k l some it =
    let there = heard_there H e l.1 in
    let may = comes H e (place H e.conn) there.sets there.line (other_number e.call_no 0 some) in
    let kept = rows_kept H (Heard e) k in
    kept.some (rows_fetched H e k l.0 may it)

pub finds : (H : List Event) (n k : ℕ) → Lawful H → is_unfinished H n ≡ true → work H n ≡ Fetch k → Finds H n k
finds [] n k l u it = absurd cc
finds (Entered client m op ∷ H) n k l u it = by (finds H n k l.0) (same_or_not n m)
  where
    new : m ≡ length (calls H)
    new = enters_next H client m op l.1

    by : (is_unfinished H n ≡ true → work H n ≡ Fetch k → Finds H n k) → (n ≡ m) ⊎ (n ≢ m) → Finds (Entered client m op ∷ H) n k
    by earlier (inl same) = subst (λ j. Finds (Entered client m op ∷ H) j k) (sym same) (finds_entered H client m op k new (ap (work (Entered client m op ∷ H)) (sym same) ∙ it))
    by earlier (inr apart) =
        finds_still H (Entered client m op) n k (old_record H client m op n new apart)
        (earlier (sym (old_unfinished H client m op n apart) ∙ u) (sym (old_work H client m op n new apart) ∙ it))
finds (Heard e ∷ H) n k l u it = by (finds H n k l.0 u it) (same_or_not n e.call_no)
  where
    by : Finds H n k → (n ≡ e.call_no) ⊎ (n ≢ e.call_no) → Finds (Heard e ∷ H) n k
    by earlier (inl same) = inr (finds_heard H e k l (λ none. unfinished_from_one H n l.0 u (same ∙ none)) (ap (work H) (sym same) ∙ it))
    by earlier (inr apart) = finds_still H (Heard e) n k (other_heard H e n apart) earlier
finds (Replied m reply ∷ H) n k l u it =
    let b = still_unfinished H m reply n u in
    finds_still H (Replied m reply) n k (other_replied H m reply n b.0) (finds H n k l.0 b.1 it)
finds (e ∷ H) n k l u it = finds_still H e n k refl (finds H n k l.0 u it)

-- Rows that were made and aren't live are over, and the fetch replies that.

dead_over : (o : Option Rows) → live o ≡ false → is_some o ≡ true → over o ≡ true
dead_over None dead some = absurd cc
dead_over (Some r) dead some = ap not dead

pub fetch_replies : (H : List Event) (n k : ℕ) → Lawful H → is_unfinished H n ≡ true → work H n ≡ Fetch k → are_live H k ≡ false → is_some (reply_due H n) ≡ true
fetch_replies H n k l u it dead = by (finds H n k l u it)
  where
    by : Finds H n k → is_some (reply_due H n) ≡ true
    by (inl d) = own_settled (decided H n) (told_by_others H n) (told_at_lending H n) d
    by (inr made) =
        others_settled (decided H n) (told_of_work H n (work H n)) (told_at_lending H n)
        (ap (λ w. is_some (told_of_work H n w)) it ∙ ap (λ b. is_some (cond b (Some (Truth false)) None)) (dead_over (rows_by H k) dead made))
