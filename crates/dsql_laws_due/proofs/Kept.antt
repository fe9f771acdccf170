-- What holds, in each lawful history, of connections that are lent to transactions.
use Rattle.std.proofs.Common.{◌≡◌, ◌≢◌, ℕ, ◌==◌, ◌⊎◌, inl, inr, Bool, true, false, not, ◌&&◌, List, [], ◌∷◌, Some, is_some, refl, sym, ap, subst, ◌∙◌}
use Rattle.std.proofs.lemmas.Bool.{or_cases}
use Rattle.std.specs.List.{list_any}
use Rattle.dsql_laws_calls.specs.driver.Kinds.{is_valid}
use Rattle.dsql_laws_calls.specs.course.declared.course.Wish.TheVariants as wishes
use Rattle.dsql_laws_calls.specs.journal.declared.entry.Entry.{Entry}
use Rattle.dsql_laws_calls.specs.journal.declared.entry.Owner.{Owner}
use Rattle.dsql_laws_calls.specs.journal.Kinds.{is_call, number_of}
use Rattle.dsql_laws_calls.specs.journal.Readers.{of_tenure, went_bad}
use Rattle.dsql_laws_calls.specs.pool.declared.conn.Place.TheVariants.{Lent}
use Rattle.dsql_laws_calls.proofs.laws_work.Rows.{not_true, same_or_not}
use Rattle.dsql_laws_calls.proofs.laws.Tests.{both}
use Rattle.dsql_laws_calls.specs.history.declared.event.Event.{Event}
use Rattle.dsql_laws_calls.specs.history.declared.event.Event.TheVariants.{Heard}
use Rattle.dsql_laws_calls.specs.history.declared.work.Scope.TheVariants.{Held}
use Rattle.dsql_laws_calls.specs.history.declared.work.Work.{Work}
use Rattle.dsql_laws_calls.specs.history.declared.work.Work.TheVariants.{Fetch, Look}
use Rattle.dsql_laws_calls.specs.history.Readers.Course.{caps}
use Rattle.dsql_laws_calls.specs.history.Readers.HandedOut.{are_over, handed_out, rows_by}
use Rattle.dsql_laws_calls.specs.history.Readers.Journals.{heard_in, journal}
use Rattle.dsql_laws_calls.specs.history.Readers.Lines.{has_sent}
use Rattle.dsql_laws_calls.specs.history.Readers.Pool.{home, place}
use Rattle.dsql_laws_calls.specs.history.Readers.Transactions.{is_begun, tx_by}
use Rattle.dsql_laws_calls.specs.history.Readers.Works.{asks, hands_out_in, scope, work}
use Rattle.dsql_laws_calls.specs.history.Rules.Line.{is_due, is_due_at, is_used, may_come, parts}
use Rattle.dsql_laws_calls.specs.history.Rules.Sent.{asked_by}
use Rattle.dsql_laws_calls.specs.history.Legal.{Lawful}
use Rattle.dsql_laws_tenures.specs.Sent.{KeepsLines}
use Rattle.dsql_laws_calls.proofs.BeginningsAt.{heard_other, heard_tenure, is_answer, way_of}
use Rattle.dsql_laws_calls.proofs.Begun.{BeginsIt, begun_begins, heard_tx, stays_begun}
use Rattle.dsql_laws_calls.proofs.Coming.{sound}
use Rattle.dsql_laws_calls.proofs.EndedRows.{rows_kept}
use Rattle.dsql_laws_calls.proofs.Inside.{inside_uses, number_not}
use Rattle.dsql_laws_calls.proofs.Lent.{stays_lent}
use Rattle.dsql_laws_calls.proofs.Lines.{line_stays, unheard}
use Rattle.dsql_laws_calls.proofs.Looks.{comes, heard_there}
use Rattle.dsql_laws_calls.proofs.Makers.{hands_out, some_heard}
use Rattle.dsql_laws_calls.proofs.Owners.{at_home}
use Rattle.dsql_laws_calls.proofs.Quiet.{Quiet}
use Rattle.dsql_laws_calls.proofs.Sound.{Sound}
use Rattle.dsql_laws_calls.proofs.Stays.{work_stays}
use Rattle.dsql_laws_calls.proofs.UnderWay.{handed_there, line_made, UnderWay}
use Rattle.dsql_laws_calls.proofs.Why.{ended_there, scoped, why_used}
use Rattle.dsql_laws_due.proofs.Holds.{AllShut, asked_in, EndsWay, Holds, IsOther, Kept, Opening, RowsWay, TestsWay, TxWay}
use Rattle.dsql_laws_due.proofs.KeptHeard.{ended_heard, handed_heard, journal_now, lines_heard, opening_heard, rested_heard, untested_heard}
use Rattle.dsql_laws_due.proofs.KeptQuiet.{kept_quiet}
use Rattle.dsql_laws_due.proofs.KeptStays.{ended_same, handed_same, lines_same, opening_same, rested_same, untested_same}
use Rattle.dsql_laws_due.proofs.Owned.{of_transaction}
use Rattle.dsql_laws_tenures.specs.Tenures.{IsOfTransaction}
use Rattle.dsql_laws_calls.proofs.Plain as of_plain
use Rattle.dsql_laws_calls.proofs.StaysUnderWay.{coming_work}
use Rattle.dsql_laws_due.proofs.Ways.{due_tx_way}

-- An answer on another connection isn't to a call in the transaction.

inner_here : (H : List Event) (e : Entry) (c t : ℕ) (own : Owner) → Lawful (Heard e ∷ H) → place H c ≡ Some (Lent t own) → scope (work H e.call_no) ≡ Held (number_of own) → e.conn ≡ c
inner_here H e c t own l is inner =
    let some = number_not H e.call_no (number_of own) inner in
    let there = heard_there H e l.1 in
    let s = sound H l.0 in
    let u = s.coming e (comes H e (place H e.conn) there.sets there.line some) in
    let number : number_of u.owner ≡ number_of own = sym (u.borrowed (λ none. never (e.call_no == 0) (ap (λ j. j == 0) none) some)) ∙ inside_uses H e.call_no (number_of own) inner in
    sym (at_home H e.conn e.tenure u.owner l.0 u.lent) ∙ (ap (home H) number ∙ at_home H c t own l.0 is)
  where
    never : (b : Bool) → b ≡ true → b ≡ false → ⊥
    never b x y = cc

pub rows_else : (H : List Event) (e : Entry) (c t : ℕ) (own : Owner) (n : ℕ) → Lawful (Heard e ∷ H) → place H c ≡ Some (Lent t own) → e.conn ≢ c → hands_out_in (number_of own) (work H n) ≡ true → is_some (rows_by (Heard e ∷ H) n) ≡ true
    → is_some (rows_by H n) ≡ true
rows_else H e c t own n l is apart hands some = by (some_heard H (work H e.call_no) e.call_no e.call e.answer n (handed_out H) some)
  where
    by : (is_some (rows_by H n) ≡ true) ⊎ ((n ≡ e.call_no) × (hands_out (work H e.call_no) ≡ true)) → is_some (rows_by H n) ≡ true
    by (inl were) = were
    by (inr new) = absurd (apart (inner_here H e c t own l is (ap (λ j. scope (work H j)) (sym new.0) ∙ scoped (work H n) (number_of own) hands)))

begun_else : (H : List Event) (e : Entry) (c t : ℕ) (own : Owner) → Lawful (Heard e ∷ H) → place H c ≡ Some (Lent t own) → e.conn ≢ c → is_begun (Heard e ∷ H) (number_of own) ≡ true → is_begun H (number_of own) ≡ true
begun_else H e c t own l is apart begun = by (heard_tx H e (number_of own))
  where
    by : (tx_by (Heard e ∷ H) (number_of own) ≡ tx_by H (number_of own)) ⊎ BeginsIt H e (number_of own) (tx_by (Heard e ∷ H) (number_of own)) → is_begun H (number_of own) ≡ true
    by (inl same) = sym (ap (λ o. is_some o) same) ∙ begun
    by (inr it) =
        let begins_it = begun_begins (Heard e ∷ H) (number_of own) l begun in
        let u = way_of H e l.0 l.1 (ap (λ j. of_plain.begins (work H j)) (sym it.own) ∙ begins_it) in
        absurd (apart (sym (at_home H e.conn e.tenure u.owner l.0 u.lent) ∙ (ap (home H) (u.own ∙ sym it.own) ∙ at_home H c t own l.0 is)))

-- The event is an answer.

moved : (P : ℕ → ℕ → Type 0) (c d t u : ℕ) → d ≡ c → u ≡ t → P d u → P c t
moved P c d t u a b p = subst (λ x. P x t) a (subst (λ y. P d y) b p)

kept_heard : (H : List Event) (e : Entry) → Lawful (Heard e ∷ H) → Sound H → Holds H → Kept (Heard e ∷ H)
kept_heard H e l s h = record {
  lines = λ c t own is other.
      elim (same_or_not e.conn c) [
        | inl here ↦
            (let lent = there c t own is here in
            let tenure = tenure_of c t own is here in
            moved (λ d u. KeepsLines (caps H) (asked_in (Heard e ∷ H) (number_of own)) u (journal (Heard e ∷ H) d)) c e.conn t e.tenure here tenure
            (lines_heard H e l s h own lent other (now_of own lent other)))
        | inr apart ↦ lines_same H (Heard e) l s.facts h.kept c t own is (heard_other H e c apart) other
      ];
  rested = λ c t own is m inner done sent.
      elim (same_or_not e.conn c) [
        | inl here ↦
            (let lent = there c t own is here in
            let tenure = tenure_of c t own is here in
            moved (λ d u. (handed_there (Heard e ∷ H) d u m ≡ true) ⊎ Quiet (caps H) (went_bad (journal (Heard e ∷ H) d)) (asked_by (Heard e ∷ H) m) (line_made (Heard e ∷ H) d u m)) c e.conn t e.tenure here tenure
            (rested_heard H e l s h own lent m inner done (subst (λ d. has_sent m (journal (Heard e ∷ H) d) ≡ true) (sym here) sent)))
        | inr apart ↦ rested_same H (Heard e) l s.facts h.kept c t own is (heard_other H e c apart) m inner done sent
      ];
  handed = λ c t own is n hands some.
      elim (same_or_not e.conn c) [
        | inl here ↦
            (let lent = there c t own is here in
            let tenure = tenure_of c t own is here in
            moved (λ d u. handed_there (Heard e ∷ H) d u n ≡ true) c e.conn t e.tenure here tenure (handed_heard H e l s h own lent n hands some))
        | inr apart ↦ handed_same H (Heard e) l s.facts h.kept c t own is (heard_other H e c apart) n hands (rows_else H e c t own n l is apart hands some)
      ];
  opening = λ c t own is other unbegun.
      elim (same_or_not e.conn c) [
        | inl here ↦
            (let lent = there c t own is here in
            let tenure = tenure_of c t own is here in
            moved (λ d u. Opening (Heard e ∷ H) d u own) c e.conn t e.tenure here tenure (opening_heard H e l s h own lent other unbegun))
        | inr apart ↦ opening_same H (Heard e) l s.facts h.kept c t own is (heard_other H e c apart) other refl unbegun
      ];
  untested = λ c t own is begun none.
      elim (same_or_not e.conn c) [
        | inl here ↦
            (let lent = there c t own is here in
            let tenure = tenure_of c t own is here in
            moved (λ d u. list_any (λ x. is_valid x.call) (heard_in (Heard e ∷ H) d u) ≡ false) c e.conn t e.tenure here tenure
            (untested_heard H e l s h own lent begun (moved (λ d u. ended_there (heard_in (Heard e ∷ H) d u) ≡ false) e.conn c e.tenure t (sym here) (sym tenure) none)))
        | inr apart ↦ untested_same H (Heard e) l s.facts h.kept c t own is (heard_other H e c apart) (begun_else H e c t own l is apart begun) none
      ];
  ended = λ c t own is begun ends.
      elim (same_or_not e.conn c) [
        | inl here ↦
            (let lent = there c t own is here in
            let tenure = tenure_of c t own is here in
            moved (λ d u. AllShut u (journal (Heard e ∷ H) d)) c e.conn t e.tenure here tenure
            (ended_heard H e l s h own lent begun (moved (λ d u. ended_there (heard_in (Heard e ∷ H) d u) ≡ true) e.conn c e.tenure t (sym here) (sym tenure) ends)))
        | inr apart ↦ ended_same H (Heard e) l s.facts h.kept c t own is (heard_other H e c apart) (begun_else H e c t own l is apart begun) ends
      ];
}
  where
    tenure_of : (c t : ℕ) (own : Owner) → place H c ≡ Some (Lent t own) → e.conn ≡ c → e.tenure ≡ t
    tenure_of c t own is here = heard_tenure H e t own l.1 (ap (place H) here ∙ is)

    there : (c t : ℕ) (own : Owner) → place H c ≡ Some (Lent t own) → e.conn ≡ c → place H e.conn ≡ Some (Lent e.tenure own)
    there c t own is here = ap (place H) here ∙ (is ∙ ap (λ u. Some (Lent u own)) (sym (tenure_of c t own is here)))

    now_of : (own : Owner) → place H e.conn ≡ Some (Lent e.tenure own) → is_call own ≡ false → IsOfTransaction (number_of own) e.tenure (e ∷ journal H e.conn)
    now_of own lent other = subst (λ J. IsOfTransaction (number_of own) e.tenure J) (journal_now H e l s h own lent) (of_transaction (Heard e ∷ H) e.conn e.tenure own l lent other)

-- What is under way.

-- What is under way stays so as long as nothing is heard there.
tx_way_stays : (H : List Event) (last : Event) (e : Entry) (own : Owner) → Lawful (last ∷ H) → parts last e ≡ false → (u : UnderWay H e) → u.owner ≡ own → work (last ∷ H) e.call_no ≡ work H e.call_no
    → TxWay H e.conn e.tenure own e.call_no e.call → TxWay (last ∷ H) e.conn e.tenure own e.call_no e.call
tx_way_stays H last e own l on u same works w = record { begun = stays_begun H last (number_of own) w.begun; way = by w.way }
  where
    quiet : journal (last ∷ H) e.conn ≡ journal H e.conn
    quiet = unheard H last e on

    lent : place H e.conn ≡ Some (Lent e.tenure own)
    lent = subst (λ o. place H e.conn ≡ Some (Lent e.tenure o)) same u.lent

    ended_as : (b : Bool) → ended_there (heard_in H e.conn e.tenure) ≡ b → ended_there (heard_in (last ∷ H) e.conn e.tenure) ≡ b
    ended_as b h = ap (λ J. ended_there (of_tenure e.tenure J)) quiet ∙ h

    busy : (v : Work) → hands_out_in (number_of own) v ≡ true → v ≡ Look → ⊥
    busy v h look = let wrong : false ≡ true = sym (ap (hands_out_in (number_of own)) look) ∙ h in cc

    left : (r : RowsWay H e.conn e.tenure own e.call_no e.call) → (ended_there (heard_in H e.conn e.tenure) ≡ false) ⊎ (r.wish ≡ wishes.Close) → (ended_there (heard_in (last ∷ H) e.conn e.tenure) ≡ false) ⊎ (r.wish ≡ wishes.Close)
    left r (inl none) = inl (ended_as false none)
    left r (inr close) = inr close

    kind : (r : RowsWay H e.conn e.tenure own e.call_no e.call) → ((r.wish ≡ wishes.Close) × (are_over H r.n ≡ true)) ⊎ ((r.wish ≡ wishes.Fetch) × (work H e.call_no ≡ Fetch r.n))
        → ((r.wish ≡ wishes.Close) × (are_over (last ∷ H) r.n ≡ true)) ⊎ ((r.wish ≡ wishes.Fetch) × (work (last ∷ H) e.call_no ≡ Fetch r.n))
    kind r (inl x) = let kept_rows = rows_kept H last r.n in inl (x.0, kept_rows.ended x.1)
    kind r (inr x) = inr (x.0, works ∙ x.1)

    by : RowsWay H e.conn e.tenure own e.call_no e.call ⊎ (EndsWay H e.conn e.tenure e.call ⊎ TestsWay H e.conn e.tenure e.call)
        → RowsWay (last ∷ H) e.conn e.tenure own e.call_no e.call ⊎ (EndsWay (last ∷ H) e.conn e.tenure e.call ⊎ TestsWay (last ∷ H) e.conn e.tenure e.call)
    by (inl r) =
        let used = subst (λ o. is_used H (number_of o) ≡ true) same (why_used H e.conn e.tenure u.owner e.call_no l.0 u.lent u.why) in
        let kept_rows = rows_kept H last r.n in
        inl (record {
          n = r.n;
          hands = ap (hands_out_in (number_of own)) (work_stays H last r.n (busy (work H r.n) r.hands)) ∙ r.hands;
          rows = kept_rows.some r.rows;
          wish = r.wish;
          due = ap (λ d. is_due d e.call) (line_stays H last e.conn e.tenure own r.n r.wish l.0 l.1 lent used quiet (busy (work H r.n) r.hands)) ∙ r.due;
          left = left r r.left;
          kind = kind r r.kind;
        })
    by (inr (inl x)) = inr (inl (record { ends = x.ends; none = ended_as false x.none; shut = subst (λ J. AllShut e.tenure J) (sym quiet) x.shut }))
    by (inr (inr x)) =
        inr
        (inr (record {
          tests = x.tests;
          ended = ended_as true x.ended;
          good = ap went_bad quiet ∙ x.good;
          untested = ap (λ J. list_any (λ y. is_valid y.call) (of_tenure e.tenure J)) quiet ∙ x.untested;
        }))

comes_on : (H : List Event) (last : Event) → Lawful (last ∷ H) → Holds H → Kept (last ∷ H) → (e : Entry) (own : Owner) → may_come (last ∷ H) e ≡ true → place (last ∷ H) e.conn ≡ Some (Lent e.tenure own) → is_call own ≡ false
    → IsOther (last ∷ H) e.call_no → TxWay (last ∷ H) e.conn e.tenure own e.call_no e.call
comes_on H last l h kept e own may is other its =
    by (or_cases (is_due_at (last ∷ H) (place (last ∷ H) e.conn) e) (not (parts last e) && may_come H e) may)
  where
    same_lent : (o p : Owner) → Some (Lent e.tenure o) ≡ Some (Lent e.tenure p) → o ≡ p
    same_lent o p k = cc

    before : parts last e ≡ false → may_come H e ≡ true → TxWay (last ∷ H) e.conn e.tenure own e.call_no e.call
    before on could =
        let s = sound H l.0 in
        let u = s.coming e could in
        let stays = stays_lent H last e.conn e.tenure u.owner l.0 l.1 u.lent (why_used H e.conn e.tenure u.owner e.call_no l.0 u.lent u.why) in
        let same = same_lent u.owner own (sym stays ∙ is) in
        let lent : place H e.conn ≡ Some (Lent e.tenure own) = subst (λ o. place H e.conn ≡ Some (Lent e.tenure o)) same u.lent in
        let works = coming_work H last e could in
        tx_way_stays H last e own l on u same works
        (h.coming e own could lent other (record { asks_none = sym (ap asks works) ∙ its.asks_none; outside = sym (ap scope works) ∙ its.outside }))

    by : (is_due_at (last ∷ H) (place (last ∷ H) e.conn) e ≡ true) ⊎ ((not (parts last e) && may_come H e) ≡ true) → TxWay (last ∷ H) e.conn e.tenure own e.call_no e.call
    by (inl now) = let s = sound (last ∷ H) l in due_tx_way (last ∷ H) e own l s.facts kept now is other its
    by (inr could) = let b = both (not (parts last e)) (may_come H e) could in before (not_true (parts last e) b.0) b.1

quiet : (H : List Event) (e : Event) → Lawful (e ∷ H) → is_answer e ≡ false → Holds H → Holds (e ∷ H)
quiet H e l none h = let s = sound H l.0 in let kept = kept_quiet H e l none s.facts h.kept in record { kept = kept; coming = comes_on H e l h kept }

start : Kept []
start = record {
  lines = λ c t own is other. absurd cc;
  rested = λ c t own is m inner done sent. absurd cc;
  handed = λ c t own is n hands some. absurd cc;
  opening = λ c t own is other unbegun. absurd cc;
  untested = λ c t own is begun none. absurd cc;
  ended = λ c t own is begun ends. absurd cc;
}

pub holds : (H : List Event) → Lawful H → Holds H
holds [] l = record { kept = start; coming = λ e own may is other its. absurd cc }
holds (Heard e ∷ H) l = let h = holds H l.0 in let kept = kept_heard H e l (sound H l.0) h in record { kept = kept; coming = comes_on H (Heard e) l h kept }
holds (e ∷ H) l = quiet H e l refl (holds H l.0)
