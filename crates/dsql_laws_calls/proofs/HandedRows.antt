-- If the cursor of rows stands in the line of their call, the rows were made. For rows of a transaction, that
-- transaction was begun.
use Rattle.std.proofs.Common.{◌≡◌, ◌≢◌, ℕ, ◌==◌, ◌⊎◌, inl, inr, Bool, true, false, cond, List, [], ◌∷◌, is_some, refl, sym, ap, ◌∙◌, arith}
use Rattle.dsql_laws.specs.course.Made.{own_cursor, given_cursor}
use Rattle.dsql_laws.specs.journal.declared.entry.Entry.{Entry}
use Rattle.dsql_laws.specs.journal.Readers.{of_tenure}
use Rattle.dsql_laws.specs.rows.OpenRows.{ended_by}
use Rattle.dsql_laws.specs.works.Exchanges.{step_of, got_of, exchanges}
use Rattle.dsql_laws.proofs.Tests.{same_number}
use Rattle.dsql_laws.specs.history.declared.event.Event.{Event}
use Rattle.dsql_laws.specs.history.declared.event.Event.TheVariants.{Entered, Heard, Ended}
use Rattle.dsql_laws.specs.history.declared.event.Op.{Op}
use Rattle.dsql_laws.specs.history.Readers.Works.{work, scope, hands_out_in}
use Rattle.dsql_laws.specs.history.Readers.Journals.{journal, heard_in}
use Rattle.dsql_laws.specs.history.Readers.Lines.{is_about, line_among, has_sent}
use Rattle.dsql_laws.specs.history.Readers.Pool.{place}
use Rattle.dsql_laws.specs.history.Readers.Transactions.{is_begun}
use Rattle.dsql_laws.specs.history.Readers.HandedOut.{last_end, handed_out, rows_by}
use Rattle.dsql_laws.specs.history.Legal.{Allowed, Lawful}
use Rattle.dsql_laws_calls.proofs.EndedRows.{rows_kept}
use Rattle.dsql_laws_calls.proofs.Works.{enters_next, old_work}
use Rattle.dsql_laws_calls.proofs.Looks.{heard_there, comes}
use Rattle.dsql_laws_calls.proofs.Makers.{hands_out, some_entered, some_mapped, some_heard}
use Rattle.dsql_laws_calls.proofs.Begun.{stays_begun}
use Rattle.dsql_laws_calls.proofs.TxEnders.{sent_entered}
use Rattle.dsql_laws_calls.proofs.Ends.{zero_work}
use Rattle.dsql_laws_calls.proofs.Inside.{inside, number_not, hands_same}
use Rattle.dsql_laws_calls.proofs.LineParts.{fits_heard, grows, unsent_line, unsent_in, query_makes, about_gives, given_or}
use Rattle.dsql_laws_calls.proofs.Why.{scoped}

-- Is true if a cursor stands in the line of call m.
abbrev pub holds_cursor : ℕ → List Entry → Bool
holds_cursor m L = is_some (own_cursor (exchanges (line_among m L)))

-- A call whose line holds a cursor has sent something.
sent_line : (m t : ℕ) (J : List Entry) → holds_cursor m (of_tenure t J) ≡ true → has_sent m J ≡ true
sent_line m t J h = by (has_sent m J) refl
  where
    by : (b : Bool) → has_sent m J ≡ b → b ≡ true
    by true is = refl
    by false is = let wrong : true ≡ false = sym h ∙ ap (λ L. is_some (own_cursor (exchanges L))) (unsent_line m (of_tenure t J) (unsent_in m t J is)) in absurd cc

handed_heard : (H : List Event) (e : Entry) (m : ℕ) (L : List Entry) → Allowed H (Heard e) → hands_out (work H m) ≡ true → (holds_cursor m L ≡ true → is_some (rows_by H m) ≡ true) → holds_cursor m (e ∷ L) ≡ true → is_some (rows_by (Heard e ∷ H) m) ≡ true
handed_heard H e m L a hands before h = by (grows m e L)
  where
    kept : is_some (rows_by H m) ≡ true → is_some (rows_by (Heard e ∷ H) m) ≡ true
    kept some = let k = rows_kept H (Heard e) m in k.some some

    whose : ((e.call_no == m) ≡ true) ⊎ (is_about (exchanges (line_among m L)) e.call ≡ true) → (is_some (given_cursor (got_of e.answer)) ≡ true) × (is_some (step_of e.call) ≡ true) → is_some (rows_by (Heard e ∷ H) m) ≡ true
    whose (inl own) g =
        let same = same_number e.call_no m own in
        ap (λ j. is_some (rows_by (Heard e ∷ H) j)) (sym same) ∙ query_makes H (work H e.call_no) e.call_no e.call e.answer (handed_out H) (ap (λ j. hands_out (work H j)) same ∙ hands) (fits_heard H e a) g.0 g.1
    whose (inr about) g = absurd (about_gives (exchanges (line_among m L)) e.call e.answer about (fits_heard H e a) g.0)

    by : (line_among m (e ∷ L) ≡ line_among m L) ⊎ ((line_among m (e ∷ L) ≡ e ∷ line_among m L) × (((e.call_no == m) ≡ true) ⊎ (is_about (exchanges (line_among m L)) e.call ≡ true))) → is_some (rows_by (Heard e ∷ H) m) ≡ true
    by (inl same) = kept (before (sym (ap (λ line. is_some (own_cursor (exchanges line))) same) ∙ h))
    by (inr w) =
        elim (given_or (step_of e.call) e.answer (exchanges (line_among m L)) (sym (ap (λ line. is_some (own_cursor (exchanges line))) w.0) ∙ h)) [
          | inl had ↦ kept (before had)
          | inr given ↦ whose w.1 given
        ]

was_handing : (H : List Event) (client n : ℕ) (op : Op) (c t m : ℕ) → Lawful (Entered client n op ∷ H) → hands_out (work (Entered client n op ∷ H) m) ≡ true → holds_cursor m (heard_in H c t) ≡ true → hands_out (work H m) ≡ true
was_handing H client n op c t m l hands h =
    let sent = sent_line m t (journal H c) h in
    let less = sent_entered H c m l.0 numbered sent in
    let new = enters_next H client n op l.1 in
    sym (ap hands_out (old_work H client n op m new (λ same. absurd (omega (arith, less, new, same))))) ∙ hands
  where
    numbered : m ≢ 0
    numbered none = let wrong : false ≡ true = sym (ap (λ j. hands_out (work (Entered client n op ∷ H) j)) none ∙ ap hands_out (zero_work (Entered client n op ∷ H))) ∙ hands in cc

pub handed_made : (H : List Event) (c t m : ℕ) → Lawful H → hands_out (work H m) ≡ true → holds_cursor m (heard_in H c t) ≡ true → is_some (rows_by H m) ≡ true
handed_made [] c t m l hands h = absurd cc
handed_made (Heard e ∷ H) c t m l hands h = by (handed_made H c t m l.0 hands) (e.conn == c) h
  where
    kept : is_some (rows_by H m) ≡ true → is_some (rows_by (Heard e ∷ H) m) ≡ true
    kept some = let k = rows_kept H (Heard e) m in k.some some

    inner : (holds_cursor m (heard_in H c t) ≡ true → is_some (rows_by H m) ≡ true) → (b : Bool) → holds_cursor m (cond b (e ∷ of_tenure t (journal H c)) (of_tenure t (journal H c))) ≡ true → is_some (rows_by (Heard e ∷ H) m) ≡ true
    inner rest true k = handed_heard H e m (heard_in H c t) l.1 hands rest k
    inner rest false k = kept (rest k)

    by : (holds_cursor m (heard_in H c t) ≡ true → is_some (rows_by H m) ≡ true) → (a : Bool) → holds_cursor m (of_tenure t (cond a (e ∷ journal H c) (journal H c))) ≡ true → is_some (rows_by (Heard e ∷ H) m) ≡ true
    by rest true k = inner rest (e.tenure == t) k
    by rest false k = kept (rest k)
handed_made (Entered client n op ∷ H) c t m l hands h = let k = rows_kept H (Entered client n op) m in k.some (handed_made H c t m l.0 (was_handing H client n op c t m l hands h) h)
handed_made (Ended ∷ H) c t m l hands h = let k = rows_kept H Ended m in k.some (handed_made H c t m l.0 hands h)
handed_made (_ ∷ H) c t m l hands h = handed_made H c t m l.0 hands h

pub rows_begun : (H : List Event) (n k : ℕ) → Lawful H → is_some (rows_by H n) ≡ true → hands_out_in k (work H n) ≡ true → is_begun H k ≡ true
rows_begun [] n k l some hands = absurd cc
rows_begun (Entered client m op ∷ H) n k l some hands =
    let were = sym (some_entered H op n (handed_out H)) ∙ some in
    stays_begun H (Entered client m op) k (rows_begun H n k l.0 were (hands_same H (Entered client m op) n k were hands))
rows_begun (Heard e ∷ H) n k l some hands = stays_begun H (Heard e) k (by (rows_begun H n k l.0) (some_heard H (work H e.call_no) e.call_no e.call e.answer n (handed_out H) some))
  where
    by : (is_some (rows_by H n) ≡ true → hands_out_in k (work H n) ≡ true → is_begun H k ≡ true) → (is_some (rows_by H n) ≡ true) ⊎ ((n ≡ e.call_no) × (hands_out (work H e.call_no) ≡ true)) → is_begun H k ≡ true
    by rest (inl were) = rest were hands
    by rest (inr new) =
        let in_it = scoped (work H e.call_no) k (ap (λ j. hands_out_in k (work H j)) (sym new.0) ∙ hands) in
        let i = inside H l.0 in
        let there = heard_there H e l.1 in
        i.coming e k (comes H e (place H e.conn) there.sets there.line (number_not H e.call_no k in_it)) in_it
rows_begun (Ended ∷ H) n k l some hands = stays_begun H Ended k (rows_begun H n k l.0 (sym (some_mapped (λ j. ended_by (last_end (scope (work H j)))) n (handed_out H)) ∙ some) hands)
rows_begun (_ ∷ H) n k l some hands = rows_begun H n k l.0 some hands
