-- Proves that each journal of a lawful history is a prefix of a whole one, and is whole if the connection has
-- left.
use Rattle.std.proofs.Common.{◌≡◌, ℕ, ◌==◌, Bool, true, false, ◌||◌, cond, List, [], ◌∷◌, refl, sym, ◌∙◌, subst}
use Rattle.dsql_history.specs.journal.declared.entry.Entry.{Entry}
use Rattle.dsql_history.specs.journal.Journal.{may_follow, is_whole, IsJournalPrefix}
use Rattle.dsql_history.proofs.journal.Beginnings.{may_follow-whole}
use Rattle.dsql_history.proofs.journal.PlainJournals.{IsJournalPrefix-with}
use Rattle.dsql_history.specs.pool.declared.moves.Move.TheVariants.{Gone, Fell}
use Rattle.dsql_history.specs.declared.event.Event.{Event}
use Rattle.dsql_history.specs.declared.event.Event.TheVariants.{Heard, Pool}
use Rattle.dsql_history.specs.Readers.Journals.{journal}
use Rattle.dsql_history.specs.Rules.Journals.{keeps_journals}
use Rattle.dsql_history.specs.Legal.{Allowed, Lawful, has_left, KeepsJournals}
use Rattle.dsql_laws.proofs.Tests.{same_number}

kept : (H : List Event) (e : Event) → Allowed H e → keeps_journals H e ≡ true
unfolding Allowed
kept H e a = a.journals

begins_with : (J : List Entry) (e : Entry) (here : Bool) → IsJournalPrefix J → (here ≡ true → may_follow J e ≡ true) → IsJournalPrefix (cond here (e ∷ J) J)
begins_with J e true h may = IsJournalPrefix-with e J h (may refl)
begins_with J e false h may = h

beginnings : (H : List Event) (c : ℕ) → Lawful H → IsJournalPrefix (journal H c)
beginnings [] c l = refl
beginnings (Heard e ∷ H) c l =
    begins_with (journal H c) e (e.conn == c) (beginnings H c l.0)
    (λ here. let same : e.conn ≡ c = same_number e.conn c here in subst (λ d. may_follow (journal H d) e ≡ true) same (kept H (Heard e) l.1))
beginnings (_ ∷ H) c l = beginnings H c l.0

left_now : (H : List Event) (c d : ℕ) (earlier : Bool) → is_whole (journal H d) ≡ true → (earlier ≡ true → is_whole (journal H c) ≡ true) → (d == c) || earlier ≡ true → is_whole (journal H c) ≡ true
left_now H c d true whole before h = before refl
left_now H c d false whole before h =
    let same : d ≡ c = same_number d c (alone (d == c) h) in subst (λ b. is_whole (journal H b) ≡ true) same whole
  where
    alone : (b : Bool) → b || false ≡ true → b ≡ true
    alone true k = refl
    alone false k = k

stays_whole : (J : List Entry) (e : Entry) (here : Bool) → is_whole J ≡ true → (here ≡ true → may_follow J e ≡ true) → is_whole (cond here (e ∷ J) J) ≡ true
stays_whole J e false whole may = whole
stays_whole J e true whole may = let clash : true ≡ false = sym (may refl) ∙ may_follow-whole J e whole in absurd cc

wholes : (H : List Event) (c : ℕ) → Lawful H → has_left H c ≡ true → is_whole (journal H c) ≡ true
wholes [] c l h = absurd cc
wholes (Heard e ∷ H) c l h =
    stays_whole (journal H c) e (e.conn == c) (wholes H c l.0 h)
    (λ here. let same : e.conn ≡ c = same_number e.conn c here in subst (λ d. may_follow (journal H d) e ≡ true) same (kept H (Heard e) l.1))
wholes (Pool (Gone d) ∷ H) c l h = left_now H c d (has_left H c) (kept H (Pool (Gone d)) l.1) (wholes H c l.0) h
wholes (Pool (Fell d n) ∷ H) c l h = left_now H c d (has_left H c) (kept H (Pool (Fell d n)) l.1) (wholes H c l.0) h
wholes (_ ∷ H) c l h = wholes H c l.0 h

pub keeps_journals_of : (H : List Event) → Lawful H → KeepsJournals H
keeps_journals_of H l = record { beginnings = λ c. beginnings H c l; wholes = λ c left. wholes H c l left }
