-- A commit or a rollback closes the rows of its transaction, ends the transaction, and tests the connection.
use Rattle.std.proofs.Common.{◌≡◌, ◌≢◌, ℕ, ◌==◌, ◌⊎◌, inl, inr, Bool, true, false, List, [], ◌∷◌, Option, Some, None, is_some, refl, sym, ap, subst, ◌∙◌}
use Rattle.dsql_laws_calls.specs.driver.declared.answer.DriverAnswer.{DriverAnswer}
use Rattle.dsql_laws_calls.specs.driver.declared.answer.DriverAnswer.TheVariants.{Cursor}
use Rattle.dsql_laws_calls.specs.driver.declared.call.DriverCall.{DriverCall}
use Rattle.dsql_laws_calls.specs.driver.declared.call.DriverCall.TheVariants.{Query, Next, CloseRows, CloseStmt, Commit, Rollback, Valid}
use Rattle.dsql_laws_calls.specs.driver.declared.call.Input.TheVariants.{Text, Handle}
use Rattle.dsql_laws_calls.specs.course.declared.call.Due.{Due}
use Rattle.dsql_laws_calls.specs.course.Made.{Exchange, given_cursor, or_else, own_cursor}
use Rattle.dsql_laws_calls.specs.journal.declared.entry.Entry.{Entry}
use Rattle.dsql_laws_calls.specs.journal.declared.entry.Owner.{Owner}
use Rattle.dsql_laws_calls.specs.journal.Kinds.{number_of}
use Rattle.dsql_laws_calls.specs.journal.Readers.{of_tenure}
use Rattle.dsql_laws_calls.specs.pool.declared.conn.Place.TheVariants.{Lent}
use Rattle.dsql_laws_calls.specs.pool.declared.moves.Move.TheVariants.{Lend}
use Rattle.dsql_laws_calls.specs.works.Exchanges.{step_of, got_of, with_exchange, exchanges}
use Rattle.dsql_laws_calls.specs.works.HandedOut.{Made}
use Rattle.dsql_laws_calls.specs.rows.OpenRows as of_rows
use Rattle.dsql_laws_calls.specs.rows.OpenRows.{rows_of}
use Rattle.dsql_laws_calls.specs.history.Readers.HandedOut.{fetched, last_end, handed_out, rows_by, rows_heard}
use Rattle.dsql_laws_calls.proofs.laws_work.Rows.{same_or_not}
use Rattle.dsql_laws_calls.proofs.laws.Tests.{same_itself}
use Rattle.dsql_laws_calls.specs.history.declared.event.Event.{Event}
use Rattle.dsql_laws_calls.specs.history.declared.event.Event.TheVariants.{Entered, Heard, Pool, Ended}
use Rattle.dsql_laws_calls.specs.history.declared.work.Scope.TheVariants.{Held}
use Rattle.dsql_laws_calls.specs.history.declared.work.Work.{Work}
use Rattle.dsql_laws_calls.specs.history.declared.work.Task.TheVariants.{HandOut}
use Rattle.dsql_laws_calls.specs.history.declared.work.Work.TheVariants.{Statement, Fetch}
use Rattle.dsql_laws_calls.specs.history.Readers.Journals.{heard_in}
use Rattle.dsql_laws_calls.specs.history.Readers.Lines.{is_about, line_among}
use Rattle.dsql_laws_calls.specs.history.Readers.Pool.{place, home}
use Rattle.dsql_laws_calls.specs.history.Readers.Works.{work, scope, hands_out_in}
use Rattle.dsql_laws_calls.specs.history.Rules.Line.{is_due}
use Rattle.dsql_laws_calls.specs.history.Legal.{Allowed, Lawful}
use Rattle.dsql_laws_calls.proofs.Owners.{at_home}
use Rattle.dsql_laws_calls.proofs.Lent.{lent_before}
use Rattle.dsql_laws_calls.proofs.Looks.{heard_there, comes}
use Rattle.dsql_laws_calls.proofs.Makers.{hands_out, some_entered, some_mapped, some_heard, some_changed}
use Rattle.dsql_laws_calls.proofs.Beginnings.{lent_once_begun}
use Rattle.dsql_laws_calls.proofs.BeginningsAt.{heard_more, heard_other, beginnings}
use Rattle.dsql_laws_calls.proofs.Inside.{inside_uses, number_not, hands_same}
use Rattle.dsql_laws_calls.proofs.HandedRows.{rows_begun}
use Rattle.dsql_laws_calls.proofs.LineParts.{grows, grows_own}
use Rattle.dsql_laws_calls.proofs.Coming.{sound}
use Rattle.dsql_laws_calls.proofs.Why.{scoped}

never : (b : Bool) → b ≡ true → b ≡ false → ⊥
never b x y = cc

-- Rows of a transaction were opened in the line of their query.

abbrev holds : List Entry → ℕ → Bool
holds L n = is_some (own_cursor (exchanges (line_among n L)))

holds_with : (o : Option Due) (a : DriverAnswer) (made : List Exchange) → is_some (own_cursor made) ≡ true → is_some (own_cursor (with_exchange o a made)) ≡ true
holds_with None a made h = h
holds_with (Some d) a made h = or_own (given_cursor (got_of a)) (own_cursor made) h
  where
    or_own : (g o : Option ℕ) → is_some o ≡ true → is_some (or_else g o) ≡ true
    or_own None o k = k
    or_own (Some r) o k = refl

holds_more : (n : ℕ) (e : Entry) (L : List Entry) → holds L n ≡ true → holds (e ∷ L) n ≡ true
holds_more n e L h = by (grows n e L)
  where
    by : (line_among n (e ∷ L) ≡ line_among n L) ⊎ ((line_among n (e ∷ L) ≡ e ∷ line_among n L) × (((e.call_no == n) ≡ true) ⊎ (is_about (exchanges (line_among n L)) e.call ≡ true))) → holds (e ∷ L) n ≡ true
    by (inl same) = ap (λ M. is_some (own_cursor (exchanges M))) same ∙ h
    by (inr (more, any)) = ap (λ M. is_some (own_cursor (exchanges M))) more ∙ holds_with (step_of e.call) e.answer (exchanges (line_among n L)) h

heard_gives : (H : List Event) (it : Work) (m : ℕ) (q : DriverCall) (a : DriverAnswer) (n : ℕ) (R : Made) (made : List Exchange) → is_some (rows_of n (rows_heard H it m q a R)) ≡ true → (is_some (rows_of n R) ≡ true) ⊎ (is_some (own_cursor (with_exchange (step_of q) a made)) ≡ true)
heard_gives H (Statement s (HandOut label)) m (Query (Text text) params) (Cursor cursor columns) n R made h = inr refl
heard_gives H (Statement s (HandOut label)) m (Query (Handle handle) params) (Cursor cursor columns) n R made h = inr refl
heard_gives H (Fetch k) m (Next cursor) a n R made h = inl (sym (some_changed (fetched a) k n R) ∙ h)
heard_gives H _ m q a n R made h = inl h

answer_holds : (H : List Event) (e : Entry) (c t : ℕ) (own : Owner) (n : ℕ) → Lawful (Heard e ∷ H) → place H c ≡ Some (Lent t own) → hands_out_in (number_of own) (work H n) ≡ true → is_some (rows_by (Heard e ∷ H) n) ≡ true
    → (is_some (rows_by H n) ≡ true → holds (heard_in H c t) n ≡ true) → holds (heard_in (Heard e ∷ H) c t) n ≡ true
answer_holds H e c t own n l is hands some rest = by (some_heard H (work H e.call_no) e.call_no e.call e.answer n (handed_out H) some)
  where
    kept : (e.conn ≡ c) ⊎ (e.conn ≢ c) → is_some (rows_by H n) ≡ true → holds (heard_in (Heard e ∷ H) c t) n ≡ true
    kept (inl here) were = ap (λ L. holds L n) (heard_more H e c t own l.1 is here) ∙ holds_more n e (heard_in H c t) (rest were)
    kept (inr off) were = ap (λ J. holds (of_tenure t J) n) (heard_other H e c off) ∙ rest were

    in_it : scope (work H n) ≡ Held (number_of own)
    in_it = scoped (work H n) (number_of own) hands

    here_so : n ≡ e.call_no → e.conn ≡ c
    here_so mine =
        let there = heard_there H e l.1 in
        let mine_in : scope (work H e.call_no) ≡ Held (number_of own) = ap (λ j. scope (work H j)) (sym mine) ∙ in_it in
        let numbered = number_not H e.call_no (number_of own) mine_in in
        let s = sound H l.0 in
        let w = s.coming e (comes H e (place H e.conn) there.sets there.line numbered) in
        let number : number_of w.owner ≡ number_of own = sym (w.borrowed (λ none. never (e.call_no == 0) (ap (λ j. j == 0) none) numbered)) ∙ inside_uses H e.call_no (number_of own) mine_in in
        sym (at_home H e.conn e.tenure w.owner l.0 w.lent) ∙ ap (home H) number ∙ at_home H c t own l.0 is

    by : (is_some (rows_by H n) ≡ true) ⊎ ((n ≡ e.call_no) × (hands_out (work H e.call_no) ≡ true)) → holds (heard_in (Heard e ∷ H) c t) n ≡ true
    by (inl were) = kept (same_or_not e.conn c) were
    by (inr (mine, any)) =
        let here = here_so mine in
        elim (heard_gives H (work H e.call_no) e.call_no e.call e.answer n (handed_out H) (exchanges (line_among n (heard_in H c t))) some) [
          | inl were ↦ kept (inl here) were
          | inr given ↦
              ap (λ L. holds L n) (heard_more H e c t own l.1 is here)
              ∙ (ap (λ M. is_some (own_cursor (exchanges M))) (grows_own n e (heard_in H c t) (ap (λ j. j == n) (sym mine) ∙ same_itself n)) ∙ given)
        ]

pub held_in : (H : List Event) (c t : ℕ) (own : Owner) (n : ℕ) → Lawful H → place H c ≡ Some (Lent t own) → hands_out_in (number_of own) (work H n) ≡ true → is_some (rows_by H n) ≡ true → holds (heard_in H c t) n ≡ true
held_in [] c t own n l is hands some = absurd cc
held_in (e ∷ H) c t own n l is hands some = by (held_in H c t own n l.0) (lent_before H e c t own l.0 is)
  where
    step : (x : Event) → Lawful (x ∷ H) → place H c ≡ Some (Lent t own) → hands_out_in (number_of own) (work (x ∷ H) n) ≡ true → is_some (rows_by (x ∷ H) n) ≡ true
        → (hands_out_in (number_of own) (work H n) ≡ true → is_some (rows_by H n) ≡ true → holds (heard_in H c t) n ≡ true) → holds (heard_in (x ∷ H) c t) n ≡ true
    step (Heard y) m before h s rest = answer_holds H y c t own n m before h s (rest h)
    step (Entered client k op) m before h s rest = let were = sym (some_entered H op n (handed_out H)) ∙ s in rest (hands_same H (Entered client k op) n (number_of own) were h) were
    step Ended m before h s rest = rest h (sym (some_mapped (λ j. of_rows.ended_by (last_end (scope (work H j)))) n (handed_out H)) ∙ s)
    step _ m before h s rest = rest h s

    lends_none : (k : ℕ) → e ≡ Pool (Lend c t own k) → ⊥
    lends_none k its =
        let begun = rows_begun H n (number_of own) l.0 (subst (λ x. is_some (rows_by (x ∷ H) n) ≡ true) its some) (subst (λ x. hands_out_in (number_of own) (work (x ∷ H) n) ≡ true) its hands) in
        lent_once_begun H c t own k l.0 (subst (λ x. Allowed H x) its l.1) (beginnings H l.0) begun

    by : (place H c ≡ Some (Lent t own) → hands_out_in (number_of own) (work H n) ≡ true → is_some (rows_by H n) ≡ true → holds (heard_in H c t) n ≡ true) → (place H c ≡ Some (Lent t own)) ⊎ ((k : ℕ) × (e ≡ Pool (Lend c t own k))) → holds (heard_in (e ∷ H) c t) n ≡ true
    by rest (inl before) = step e l before hands some (rest before)
    by rest (inr w) = absurd (lends_none w.0 w.1)

-- So what closes them only tidies up.

abbrev pub end_kind : DriverCall → Bool
end_kind (CloseRows rows) = true
end_kind (CloseStmt handle) = true
end_kind Commit = true
end_kind Rollback = true
end_kind Valid = true
end_kind _ = false

pub tidy_kind : (d : Option DriverCall) (q : DriverCall) → ((p : DriverCall) → d ≡ Some p → end_kind p ≡ true) → is_due d q ≡ true → end_kind q ≡ true
tidy_kind None q k h = absurd cc
tidy_kind (Some p) q k h = by p q (k p refl) h
  where
    by : (p q : DriverCall) → end_kind p ≡ true → is_due (Some p) q ≡ true → end_kind q ≡ true
    by (CloseRows r) (CloseRows s) x y = refl
    by (CloseStmt r) (CloseStmt s) x y = refl
    by Commit Commit x y = refl
    by Rollback Rollback x y = refl
    by Valid Valid x y = refl
    by p q x y = absurd cc
