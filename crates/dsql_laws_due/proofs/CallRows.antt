-- A connection that is lent to a call on the database and isn't in use. Nothing more is sent there, and no rows
-- keep the connection.
use Rattle.std.proofs.Common.{◌≡◌, ◌≢◌, ℕ, ◌⊎◌, inl, inr, Bool, true, false, not, ◌&&◌, ◌||◌, cond, List, [], ◌∷◌, Option, Some, None, is_some, is_none, refl, sym, ap, subst, ◌∙◌}
use Rattle.dsql_laws_calls.specs.course.declared.course.Wish.{Wish}
use Rattle.dsql_laws_calls.specs.course.declared.course.Wish.TheVariants as wishes
use Rattle.dsql_laws_calls.specs.course.Made.{Exchange, given_cursor, own_cursor, rows_are_over}
use Rattle.dsql_laws_calls.specs.journal.declared.entry.Entry.{Entry}
use Rattle.dsql_laws_calls.specs.journal.declared.entry.Owner.{Owner}
use Rattle.dsql_laws_calls.specs.journal.Kinds.{is_call, number_of}
use Rattle.dsql_laws_calls.specs.journal.Readers.{of_tenure}
use Rattle.dsql_laws_calls.specs.pool.declared.conn.Place.TheVariants.{Lent}
use Rattle.dsql_laws_calls.specs.pool.declared.moves.Move.TheVariants.{Lend}
use Rattle.dsql_laws_calls.specs.rows.declared.rows.Rows.{Rows}
use Rattle.dsql_laws_calls.specs.rows.OpenRows.{is_live}
use Rattle.dsql_laws_calls.specs.works.Exchanges.{exchanges, got_of, step_of}
use Rattle.dsql_laws_calls.specs.works.Line.{handed}
use Rattle.dsql_laws_calls.proofs.laws_work.KeptRows.{keeps_rows, keeps_with}
use Rattle.dsql_laws_calls.proofs.laws_work.Rows.{same_or_not}
use Rattle.dsql_laws_calls.specs.history.Readers.HandedOut.{live, are_live, handed_out, rows_by}
use Rattle.dsql_laws_calls.proofs.laws.Places.{neither}
use Rattle.dsql_laws_calls.specs.history.declared.event.Event.{Event}
use Rattle.dsql_laws_calls.specs.history.declared.event.Event.TheVariants.{Heard, Pool}
use Rattle.dsql_laws_calls.specs.history.declared.work.Work.{Work}
use Rattle.dsql_laws_calls.specs.history.declared.work.Task.TheVariants.{HandOut}
use Rattle.dsql_laws_calls.specs.history.declared.work.Work.TheVariants.{Statement}
use Rattle.dsql_laws_calls.specs.history.Readers.Journals.{heard_in, journal}
use Rattle.dsql_laws_calls.specs.history.Readers.Pool.{place}
use Rattle.dsql_laws_calls.specs.history.Readers.Transactions.{goes_on, is_begun}
use Rattle.dsql_laws_calls.specs.history.Readers.Works.{aim_of, work}
use Rattle.dsql_laws_calls.specs.history.Rules.Ending.{ending}
use Rattle.dsql_laws_calls.specs.history.Rules.Line.{is_used, rest, rest_with}
use Rattle.dsql_laws_calls.specs.history.Rules.Sent.{asked_by, line_of}
use Rattle.dsql_laws_calls.specs.history.Legal.{Allowed, Lawful}
use Rattle.dsql_laws_calls.proofs.Beginnings.{begin_owner}
use Rattle.dsql_laws_calls.proofs.BeginningsAt.{heard_more, heard_other, heard_same, is_answer}
use Rattle.dsql_laws_calls.proofs.Begun.{begun_begins}
use Rattle.dsql_laws_calls.proofs.CallTenures.{call_line, line_of_call}
use Rattle.dsql_laws_calls.proofs.Coming.{sound}
use Rattle.dsql_laws_calls.proofs.EndedRows.{rows_kept}
use Rattle.dsql_laws_calls.proofs.Lent.{lent_before}
use Rattle.dsql_laws_calls.proofs.LineParts.{fits_heard, given_or, query_makes}
use Rattle.dsql_laws_calls.proofs.Lines.{line_here}
use Rattle.dsql_laws_calls.proofs.Makers.{hands_out}
use Rattle.dsql_laws_calls.proofs.Own.{asks_own}
use Rattle.dsql_laws_calls.proofs.Owners.{lent_asks}
use Rattle.dsql_laws_calls.proofs.Sound.{was_under_way}
use Rattle.dsql_laws_calls.proofs.Stays.{not_looking, work_stays}
use Rattle.dsql_laws_calls.proofs.Tenures.{fresh_lending}
use Rattle.dsql_laws_calls.proofs.UnderWay.{clash, UnderWay}
use Rattle.dsql_laws_calls.proofs.Why.{Why}

-- A query to which the driver gave a cursor there has made its rows.

answer_rows : (H : List Event) (e : Entry) (c t : ℕ) (own : Owner) → Lawful (Heard e ∷ H) → place H c ≡ Some (Lent t own) → e.conn ≡ c → is_call own ≡ true → hands_out (work H (number_of own)) ≡ true
    → (is_some (own_cursor (exchanges (heard_in H c t))) ≡ true → is_some (rows_by H (number_of own)) ≡ true) → is_some (own_cursor (exchanges (heard_in (Heard e ∷ H) c t))) ≡ true
    → is_some (rows_by (Heard e ∷ H) (number_of own)) ≡ true
answer_rows H e c t own l is here call hands rest some = by (given_or (step_of e.call) e.answer (exchanges (heard_in H c t)) (sym (ap (λ L. is_some (own_cursor (exchanges L))) (heard_more H e c t own l.1 is here)) ∙ some))
  where
    kept : is_some (rows_by H (number_of own)) ≡ true → is_some (rows_by (Heard e ∷ H) (number_of own)) ≡ true
    kept were = let k = rows_kept H (Heard e) (number_of own) in k.some were

    from : (u : UnderWay H e) → u.owner ≡ own → is_some (given_cursor (got_of e.answer)) ≡ true → is_some (step_of e.call) ≡ true → Why H e.conn e.tenure u.owner e.call_no → is_some (rows_by (Heard e ∷ H) (number_of own)) ≡ true
    from u same given step (inl why) =
        let number : number_of own ≡ e.call_no = ap number_of (sym same) ∙ why.itself in
        ap (λ j. is_some (rows_by (Heard e ∷ H) j)) number
        ∙ query_makes H (work H e.call_no) e.call_no e.call e.answer (handed_out H) (ap (λ j. hands_out (work H j)) (sym number) ∙ hands) (fits_heard H e l.1) given step
    from u same given step (inr (inl why)) = kept (ap (λ o. is_some (rows_by H (number_of o))) (sym same) ∙ why.some)
    from u same given step (inr (inr why)) =
        let begun : is_begun H (number_of own) ≡ true = ap (λ o. is_begun H (number_of o)) (sym same) ∙ why.begun in
        clash (sym call ∙ begin_owner H c t own l.0 is (begun_begins H (number_of own) l.0 begun))

    by : (is_some (own_cursor (exchanges (heard_in H c t))) ≡ true) ⊎ ((is_some (given_cursor (got_of e.answer)) ≡ true) × (is_some (step_of e.call) ≡ true)) → is_some (rows_by (Heard e ∷ H) (number_of own)) ≡ true
    by (inl had) = kept (rest had)
    by (inr g) = let w = was_under_way H e t own l.1 (sound H l.0) (ap (place H) here ∙ is) in let u = w.way in from u w.owner g.0 g.1 u.why

call_rows : (H : List Event) (c t : ℕ) (own : Owner) → Lawful H → place H c ≡ Some (Lent t own) → is_call own ≡ true → hands_out (work H (number_of own)) ≡ true → is_some (own_cursor (exchanges (heard_in H c t))) ≡ true
    → is_some (rows_by H (number_of own)) ≡ true
call_rows [] c t own l is call hands some = absurd cc
call_rows (e ∷ H) c t own l is call hands some = by (call_rows H c t own l.0) (lent_before H e c t own l.0 is)
  where
    quiet : place H c ≡ Some (Lent t own) → journal (e ∷ H) c ≡ journal H c → hands_out (work H (number_of own)) ≡ true
        → (is_some (own_cursor (exchanges (heard_in H c t))) ≡ true → is_some (rows_by H (number_of own)) ≡ true) → is_some (rows_by (e ∷ H) (number_of own)) ≡ true
    quiet before same were rest = let k = rows_kept H e (number_of own) in k.some (rest (sym (ap (λ J. is_some (own_cursor (exchanges (of_tenure t J)))) same) ∙ some))

    answered : (x : Entry) → e ≡ Heard x → place H c ≡ Some (Lent t own) → hands_out (work H (number_of own)) ≡ true
        → (is_some (own_cursor (exchanges (heard_in H c t))) ≡ true → is_some (rows_by H (number_of own)) ≡ true) → (x.conn ≡ c) ⊎ (x.conn ≢ c) → is_some (rows_by (e ∷ H) (number_of own)) ≡ true
    answered x its before were rest (inl here) =
        ap (λ y. is_some (rows_by (y ∷ H) (number_of own))) its
        ∙ answer_rows H x c t own (subst (λ y. Lawful (y ∷ H)) its l) before here call were rest (subst (λ y. is_some (own_cursor (exchanges (heard_in (y ∷ H) c t))) ≡ true) its some)
    answered x its before were rest (inr apart) = quiet before (ap (λ y. journal (y ∷ H) c) its ∙ heard_other H x c apart) were rest

    event : (y : Event) → e ≡ y → place H c ≡ Some (Lent t own) → hands_out (work H (number_of own)) ≡ true → (is_some (own_cursor (exchanges (heard_in H c t))) ≡ true → is_some (rows_by H (number_of own)) ≡ true)
        → is_some (rows_by (e ∷ H) (number_of own)) ≡ true
    event (Heard x) its before were rest = answered x its before were rest (same_or_not x.conn c)
    event y its before were rest = quiet before (heard_same H e c (ap is_answer its)) were rest

    was : place H c ≡ Some (Lent t own) → hands_out (work H (number_of own)) ≡ true
    was before = sym (ap hands_out (work_stays H e (number_of own) (not_looking (work H (number_of own)) (lent_asks H c t own l.0 before)))) ∙ hands

    by : (place H c ≡ Some (Lent t own) → is_call own ≡ true → hands_out (work H (number_of own)) ≡ true → is_some (own_cursor (exchanges (heard_in H c t))) ≡ true → is_some (rows_by H (number_of own)) ≡ true)
        → (place H c ≡ Some (Lent t own)) ⊎ ((k : ℕ) × (e ≡ Pool (Lend c t own k))) → is_some (rows_by (e ∷ H) (number_of own)) ≡ true
    by rest (inl before) = event e refl before (was before) (rest before call (was before))
    by rest (inr w) =
        let fresh : heard_in (e ∷ H) c t ≡ [] =
        ap (of_tenure t) (heard_same H e c (ap is_answer w.1)) ∙ fresh_lending H c t own w.0 l.0 (subst (λ x. Allowed H x) w.1 l.1)
        in
        let wrong : true ≡ false = sym some ∙ ap (λ L. is_some (own_cursor (exchanges L))) fresh in
        clash wrong

-- Holds if nothing more is sent there, and no rows keep the connection.
pub record Finished (H : List Event) (c t : ℕ) (own : Owner) : Type 0 where
  pub wish : Wish
  pub none : is_none (call_line H c t own wish) ≡ true
  pub free : keeps_rows (asked_by H (number_of own)).aim wish (exchanges (heard_in H c t)) ≡ false

not_some : {A : Type 0} (o : Option A) → is_some o ≡ false → is_none o ≡ true
not_some None h = refl
not_some (Some x) h = absurd cc

closed_free : (made : List Exchange) (o : Option ℕ) → keeps_with wishes.Close made o ≡ false
closed_free made None = refl
closed_free made (Some rows) = by (rows_are_over made)
  where
    by : (b : Bool) → (not b && false) ≡ false
    by true = refl
    by false = refl

pub finished : (H : List Event) (c t : ℕ) (own : Owner) → Lawful H → place H c ≡ Some (Lent t own) → is_call own ≡ true → is_used H (number_of own) ≡ false → Finished H c t own
finished H c t own l is call unused =
    let a = neither (goes_on H (number_of own)) (are_live H (number_of own) || is_some (rest H (number_of own))) unused in
    let b = neither (are_live H (number_of own)) (is_some (rest H (number_of own))) a.1 in
    by (rows_by H (number_of own)) refl b.0 (sym (ap (λ x. is_some (cond x (ending H (number_of own)) (rest_with H (number_of own) (rows_by H (number_of own))))) unbegun) ∙ b.1)
  where
    made : List Exchange
    made = exchanges (heard_in H c t)

    unbegun : is_begun H (number_of own) ≡ false
    unbegun = at (is_begun H (number_of own)) refl
      where
        at : (b : Bool) → is_begun H (number_of own) ≡ b → b ≡ false
        at true begun = clash (sym call ∙ begin_owner H c t own l is (begun_begins H (number_of own) l begun))
        at false begun = refl

    none_of : (w : Wish) → is_some (line_of H (number_of own) w) ≡ false → is_none (call_line H c t own w) ≡ true
    none_of w h =
        not_some (call_line H c t own w)
        (ap (λ d. is_some d) (sym (line_of_call H c t own w l is call) ∙ sym (line_here H c t own (number_of own) w l is (asks_own H (number_of own) (lent_asks H c t own l is)))) ∙ h)

    unhanded : rows_by H (number_of own) ≡ None → (o : Option ℕ) → handed (aim_of (work H (number_of own))) (exchanges (heard_in H c t)) ≡ o → keeps_with wishes.Nothing (exchanges (heard_in H c t)) o ≡ false
    unhanded rows None its = refl
    unhanded rows (Some r) its = absurd (query (work H (number_of own)) refl (ap (λ o. is_some o) its))
      where
        query : (w : Work) → work H (number_of own) ≡ w → is_some (handed (aim_of w) (exchanges (heard_in H c t))) ≡ true → ⊥
        query (Statement s (HandOut label)) its_work x =
            let some = call_rows H c t own l is call (ap hands_out its_work) x in
            let wrong : true ≡ false = sym some ∙ ap (λ o. is_some o) rows in
            cc
        query w its_work x = cc

    over_rows : (r : Rows) (b : Bool) → is_live r ≡ b → b ≡ false → is_some (cond b None (line_of H (number_of own) wishes.Close)) ≡ false → Finished H c t own
    over_rows r true lives x h = absurd cc
    over_rows r false lives x h = record { wish = wishes.Close; none = none_of wishes.Close h; free = closed_free (exchanges (heard_in H c t)) (handed (aim_of (work H (number_of own))) (exchanges (heard_in H c t))) }

    by : (o : Option Rows) → rows_by H (number_of own) ≡ o → are_live H (number_of own) ≡ false → is_some (rest_with H (number_of own) (rows_by H (number_of own))) ≡ false → Finished H c t own
    by None rows dead h = record {
      wish = wishes.Nothing;
      none = none_of wishes.Nothing (sym (ap (λ o. is_some (rest_with H (number_of own) o)) rows) ∙ h);
      free = unhanded rows (handed (aim_of (work H (number_of own))) (exchanges (heard_in H c t))) refl;
    }
    by (Some r) rows dead h = over_rows r (is_live r) refl (sym (ap live rows) ∙ dead) (sym (ap (λ o. is_some (rest_with H (number_of own) o)) rows) ∙ h)
