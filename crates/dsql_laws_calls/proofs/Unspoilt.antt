-- An idle connection went well, and it had gone well before the pool lent it to a call on the database.
use Rattle.std.proofs.Common.{◌≡◌, ◌≢◌, ℕ, ◌==◌, ◌⊎◌, inl, inr, Bool, true, false, not, ◌&&◌, ◌||◌, cond, List, [], ◌∷◌, Option, Some, None, is_some, refl, sym, ap, subst, ◌∙◌, arith}
use Rattle.std.specs.Option.{option_map}
use Rattle.dsql_laws.specs.driver.Fits.{is_done, is_invalid, is_memory, fits_of}
use Rattle.dsql_laws.specs.driver.Kinds.{is_bad, is_valid}
use Rattle.dsql_laws.specs.driver.declared.answer.DriverAnswer.{DriverAnswer}
use Rattle.dsql_laws.specs.driver.declared.answer.DriverAnswer.TheVariants.{Done, Invalid}
use Rattle.dsql_laws.specs.driver.declared.call.DriverCall.{DriverCall}
use Rattle.dsql_laws.specs.driver.declared.call.DriverCall.TheVariants.{Exec, Query}
use Rattle.dsql_laws.specs.driver.declared.call.Input.TheVariants.{Text, Handle}
use Rattle.dsql_laws.specs.journal.declared.entry.Entry.{Entry}
use Rattle.dsql_laws.specs.journal.declared.entry.Owner.{Owner}
use Rattle.dsql_laws.specs.journal.Kinds.{is_call, number_of}
use Rattle.dsql_laws.specs.journal.Readers.{of_tenure, went_bad}
use Rattle.dsql_laws.specs.pool.declared.conn.Conn.{Conn}
use Rattle.dsql_laws.specs.pool.declared.conn.Place.{Place}
use Rattle.dsql_laws.specs.pool.declared.conn.Place.TheVariants.{Idle, Lent, Opening, Closing}
use Rattle.dsql_laws.specs.pool.declared.moves.Move.{Move}
use Rattle.dsql_laws.specs.pool.declared.moves.Move.TheVariants.{OpenStart, Lend, Back, CloseStart, Gone, Fell}
use Rattle.dsql_laws.specs.pool.Changes.{lent, back, closing, conn_changed, gone}
use Rattle.dsql_laws.specs.pool.Decisions.{moves_back, when_given_back}
use Rattle.dsql_laws.specs.pool.Moved.{shut, moved}
use Rattle.dsql_laws.specs.pool.Places.{conn_of, is_idle, is_lent, is_opening, is_closing}
use Rattle.dsql_laws.specs.pool.Pooled.{Pooled, next_number}
use Rattle.dsql_laws.specs.works.Journals.{ends_invalid}
use Rattle.dsql_laws_work.proofs.Lines.{sends_no_more, due_while}
use Rattle.dsql_laws_work.proofs.Rows.{by_number, same_or_not}
use Rattle.dsql_laws.specs.history.declared.event.Control.TheVariants.{Tick, Set}
use Rattle.dsql_laws.specs.history.Same.{is_first}
use Rattle.dsql_laws.specs.history.Readers.Owed.{fate_when, owed}
use Rattle.dsql_laws.proofs.Able.{is_able, are_able}
use Rattle.dsql_laws.proofs.Tests.{both, second, same_itself, other_number, move_is}
use Rattle.dsql_laws_calls.proofs.Cases.{control_conns}
use Rattle.dsql_laws_calls.proofs.Found.{place_in, changed_place, changed_off, gone_at, gone_off, begun_off, shut_found, unwanted_in, unwanted_place}
use Rattle.dsql_laws.specs.history.declared.event.Event.{Event}
use Rattle.dsql_laws.specs.history.declared.event.Event.TheVariants.{Entered, Heard, Pool, Ticked, SetLimit, Ended}
use Rattle.dsql_laws.specs.history.declared.event.Op.TheVariants.{DbClose}
use Rattle.dsql_laws.specs.history.Readers.Course.{caps}
use Rattle.dsql_laws.specs.history.Readers.Journals.{journal, heard_in}
use Rattle.dsql_laws.specs.history.Readers.Pool.{pool, place, wanted_by}
use Rattle.dsql_laws.specs.history.Rules.Causes.{is_owed, is_given_back}
use Rattle.dsql_laws.specs.history.Rules.Line.{may_come}
use Rattle.dsql_laws.specs.history.Rules.Moves.{hears_in}
use Rattle.dsql_laws.specs.history.Rules.Order.{follows}
use Rattle.dsql_laws.specs.history.Rules.Sent.{asked_by, is_reset_due}
use Rattle.dsql_laws.specs.history.Legal.{Allowed, Lawful}
use Rattle.dsql_laws.proofs.AbleMoves.{able}
use Rattle.dsql_laws.proofs.AtRest.{Keeps, keeps_of, owes, given_so}
use Rattle.dsql_laws_calls.proofs.BeginningsAt.{heard_more}
use Rattle.dsql_laws_calls.proofs.Born.{born, heard_at}
use Rattle.dsql_laws_calls.proofs.CallTenures.{call_line}
use Rattle.dsql_laws_calls.proofs.Coming.{sound}
use Rattle.dsql_laws_calls.proofs.Lent.{move_facts}
use Rattle.dsql_laws_calls.proofs.Own.{some_due}
use Rattle.dsql_laws_calls.proofs.Sound.{was_under_way, fitting}
use Rattle.dsql_laws_calls.proofs.Spared.{was_heard, was_opened, opened_when, moves, unpressed, lent_or_opening}
use Rattle.dsql_laws_calls.proofs.Tenures.{there_any, there_from}
use Rattle.dsql_laws_calls.proofs.UnderWay.{UnderWay}

-- Is true if an answer was Bad, or the newest answer is Invalid.
abbrev pub is_spoilt : List Entry → Bool
is_spoilt J = went_bad J || ends_invalid J

-- Holds if a connection with this journal, in this place, went as well as the place asks. Here `heard` says
-- whether the last event is an answer on it, and `opened` whether that event answered its Connect with Done.
abbrev pub Fine : Bool → Bool → List Entry → Option Place → Type 0
Fine heard opened J (Some (Opening wanted)) = (heard ≡ false → J ≡ []) × (opened ≡ true → is_spoilt J ≡ false)
Fine heard opened J (Some Idle) = is_spoilt J ≡ false
Fine heard opened J (Some (Lent t own)) = is_call own ≡ true → is_spoilt J ≡ true → sends_no_more (of_tenure t J) ≡ true
Fine heard opened J (Some Closing) = Unit {0}
Fine heard opened J None = Unit {0}

abbrev pub FineIn : List Event → ℕ → Type 0
FineIn H c = Fine (was_heard c H) (was_opened c H) (journal H c) (place H c)

fine_on : (heard opened : Bool) (J : List Entry) (p : Option Place) → Fine heard opened J p → ((is_opening p || is_closing p) ≡ true → heard ≡ false) → Fine false false J p
fine_on heard opened J (Some (Opening wanted)) s k = (λ q. s.0 (k refl), λ q. absurd cc)
fine_on heard opened J (Some Idle) s k = s
fine_on heard opened J (Some (Lent t own)) s k = s
fine_on heard opened J (Some Closing) s k = tt
fine_on heard opened J None s k = tt

fine_unwanted : (J : List Entry) (p : Option Place) → Fine false false J p → Fine false false J (option_map unwanted_place p)
fine_unwanted J (Some Closing) s = tt
fine_unwanted J None s = tt
fine_unwanted J (Some _) s = s

-- A connection on which nothing was heard is fine.
fine_empty : (p : Option Place) → Fine false false [] p
fine_empty (Some (Opening wanted)) = (λ q. refl, λ q. absurd cc)
fine_empty (Some Idle) = refl
fine_empty (Some (Lent t own)) = λ call bad. absurd cc
fine_empty (Some Closing) = tt
fine_empty None = tt

clash : (b : Bool) → b ≡ true → b ≡ false → ⊥
clash true h k = cc
clash false h k = cc

follows_of : (H : List Event) (e : Event) → Allowed H e → follows (owed H) e ≡ true
follows_of H e a = let k = keeps_of H e a in k.order

untouched : (H : List Event) (e : Event) (d : ℕ) (found : Option Conn) → FineIn H d → Allowed H e → moves d e ≡ false → found ≡ conn_of d (pool H).conns → Fine false false (journal H d) (place_in found)
untouched H e d found s a still is =
    subst (λ p. Fine false false (journal H d) p) (sym (ap place_in is))
    (fine_on (was_heard d H) (was_opened d H) (journal H d) (place H d) s (unpressed H e d (follows_of H e a) still))

fine_shut : (H : List Event) (e : Event) (d : ℕ) → FineIn H d → Allowed H e → moves d e ≡ false → Fine false false (journal H d) (place_in (conn_of d (shut (pool H)).conns))
fine_shut H e d s a still =
    subst (λ p. Fine false false (journal H d) p) (sym (ap place_in (shut_found d (pool H)) ∙ unwanted_in (conn_of d (pool H).conns)))
    (fine_unwanted (journal H d) (place H d) (untouched H e d (conn_of d (pool H).conns) s a still refl))

-- Moves.

turned : (c d : ℕ) → d ≢ c → (c == d) ≡ false
turned c d apart = other_number c d (λ same. apart (sym same))

fine_open : (H : List Event) (c n : ℕ) → Lawful H → Allowed H (Pool (OpenStart c n)) → (d : ℕ) → FineIn H d → FineIn (Pool (OpenStart c n) ∷ H) d
fine_open H c n l a d s = by (same_or_not d (next_number (pool H)))
  where
    by : (d ≡ next_number (pool H)) ⊎ (d ≢ next_number (pool H)) → FineIn (Pool (OpenStart c n) ∷ H) d
    by (inl new) =
        let b = born H l in
        subst (λ J. Fine false false J (place (Pool (OpenStart c n) ∷ H) d)) (sym (b.silent d (omega (arith, new)))) (fine_empty (place (Pool (OpenStart c n) ∷ H) d))
    by (inr apart) = untouched H (Pool (OpenStart c n)) d (conn_of d (pool (Pool (OpenStart c n) ∷ H)).conns) s a refl (begun_off d (wanted_by H n) (pool H) apart)

-- A connection that is to be lent went well.
pub fine_from : (heard opened : Bool) (J : List Entry) (at : Option Place) → Fine heard opened J at → (is_idle at || is_opening at) ≡ true → (is_opening at ≡ true → opened ≡ true) → is_spoilt J ≡ false
fine_from heard opened J (Some Idle) s from h = s
fine_from heard opened J (Some (Opening wanted)) s from h = s.1 (h refl)
fine_from heard opened J _ s from h = absurd cc

-- A connection that is given back, or kept once it was opened, went well.
fine_back : (heard opened : Bool) (J : List Entry) (at : Option Place) → Fine heard opened J at → (is_lent at || is_opening at) ≡ true → (is_opening at ≡ true → opened ≡ true) → (is_lent at ≡ true → is_spoilt J ≡ false) → is_spoilt J ≡ false
fine_back heard opened J (Some (Lent t own)) s from h k = k refl
fine_back heard opened J (Some (Opening wanted)) s from h k = s.1 (h refl)
fine_back heard opened J _ s from h k = absurd cc

pub there_lent : (at : Option Place) → (is_lent at || is_opening at) ≡ true → is_some at ≡ true
there_lent None h = absurd cc
there_lent (Some p) h = refl

fine_lend : (H : List Event) (c t : ℕ) (own : Owner) (n : ℕ) → Lawful H → Allowed H (Pool (Lend c t own n)) → ((d : ℕ) → FineIn H d) → (d : ℕ) → FineIn (Pool (Lend c t own n) ∷ H) d
fine_lend H c t own n l a s d =
    by_number c d (FineIn (Pool (Lend c t own n) ∷ H))
    (let f = move_facts H (Lend c t own n) a in
    let fine = fine_from (was_heard c H) (was_opened c H) (journal H c) (place H c) (s c) f.moves (opened_when H c (Lend c t own n) l (keeps_of H (Pool (Lend c t own n)) a) (same_itself c)) in
    let placed = changed_place c (lent t own (pool H).moment) (Lent t own) (pool H).conns (λ x. refl) (λ x. refl) (there_from (place H c) f.moves) in
    let now : Fine false false (journal H c) (Some (Lent t own)) = λ call bad. absurd (clash (is_spoilt (journal H c)) bad fine) in
    subst (λ p. Fine false false (journal H c) p) (sym placed) now)
    (λ apart. untouched H (Pool (Lend c t own n)) d (conn_of d (conn_changed c (lent t own (pool H).moment) (pool H).conns)) (s d) a (turned c d apart) (changed_off c d (lent t own (pool H).moment) (pool H).conns (λ x. refl) apart))

good_fate : (bad invalid : Bool) (c : ℕ) (p : Pooled) → is_first (moves_back c p (when_given_back (fate_when bad invalid) c p)) (Back c) ≡ true → (bad || invalid) ≡ false
good_fate true invalid c p h = absurd cc
good_fate false true c p h = absurd cc
good_fate false false c p h = refl

-- The return of a lent connection isn't an owed move.
lent_not_owed : (H : List Event) (c : ℕ) → Lawful H → is_lent (place H c) ≡ true → Keeps H (Pool (Back c)) → owed H ≡ []
lent_not_owed H c l is k = by (owed H) refl (able H l)
  where
    by : (ms : List Move) → owed H ≡ ms → are_able (journal H) ms (pool H) ≡ true → owed H ≡ []
    by [] none h = none
    by (due ∷ later) owing h =
        let made_it : follows (due ∷ later) (Pool (Back c)) ≡ true = subst (λ ns. follows ns (Pool (Back c)) ≡ true) owing k.order in
        let a = both (is_able (journal H) (pool H) due) (are_able (journal H) later (moved due (pool H))) h in
        let opens : is_opening (place H c) ≡ true = subst (λ m. is_able (journal H) (pool H) m ≡ true) (move_is due (Back c) made_it) a.0 in
        absurd (lent_or_opening (place H c) is opens)

-- A lent connection that comes back to be kept went well.
good_back : (H : List Event) (c : ℕ) → Lawful H → Keeps H (Pool (Back c)) → is_lent (place H c) ≡ true → is_spoilt (journal H c) ≡ false
good_back H c l k is =
    let given = second (is_owed H) (is_given_back H c (Back c)) (owes H (lent_not_owed H c l is k)) k.causes in
    let a = given_so H c (Back c) given in
    good_fate (went_bad (journal H c)) (ends_invalid (journal H c)) c (pool H) a.1

fine_returned : (H : List Event) (c : ℕ) → Lawful H → Allowed H (Pool (Back c)) → ((d : ℕ) → FineIn H d) → (d : ℕ) → FineIn (Pool (Back c) ∷ H) d
fine_returned H c l a s d =
    by_number c d (FineIn (Pool (Back c) ∷ H))
    (let f = move_facts H (Back c) a in
    let k = keeps_of H (Pool (Back c)) a in
    let fine = fine_back (was_heard c H) (was_opened c H) (journal H c) (place H c) (s c) f.moves (opened_when H c (Back c) l k (same_itself c)) (good_back H c l k) in
    let placed = changed_place c (back (pool H).moment) Idle (pool H).conns (λ x. refl) (λ x. refl) (there_lent (place H c) f.moves) in
    subst (λ p. Fine false false (journal H c) p) (sym placed) fine)
    (λ apart. untouched H (Pool (Back c)) d (conn_of d (conn_changed c (back (pool H).moment) (pool H).conns)) (s d) a (turned c d apart) (changed_off c d (back (pool H).moment) (pool H).conns (λ x. refl) apart))

fine_move : (H : List Event) (m : Move) → Lawful H → Allowed H (Pool m) → ((d : ℕ) → FineIn H d) → (d : ℕ) → FineIn (Pool m ∷ H) d
fine_move H (OpenStart c n) l a s d = fine_open H c n l a d (s d)
fine_move H (Lend c t own n) l a s d = fine_lend H c t own n l a s d
fine_move H (Back c) l a s d = fine_returned H c l a s d
fine_move H (CloseStart c why) l a s d =
    by_number c d (FineIn (Pool (CloseStart c why) ∷ H))
    (let f = move_facts H (CloseStart c why) a in
    let placed = changed_place c closing Closing (pool H).conns (λ x. refl) (λ x. refl) (there_any (place H c) f.moves) in
    subst (λ p. Fine false false (journal H c) p) (sym placed) tt)
    (λ apart. untouched H (Pool (CloseStart c why)) d (conn_of d (conn_changed c closing (pool H).conns)) (s d) a (turned c d apart) (changed_off c d closing (pool H).conns (λ x. refl) apart))
fine_move H (Gone c) l a s d =
    by_number c d (FineIn (Pool (Gone c) ∷ H))
    (subst (λ found. Fine false false (journal H c) (place_in found)) (sym (gone_at c (pool H).conns)) tt)
    (λ apart. untouched H (Pool (Gone c)) d (conn_of d (gone c (pool H).conns)) (s d) a (turned c d apart) (gone_off c d (pool H).conns apart))
fine_move H (Fell c n) l a s d =
    by_number c d (FineIn (Pool (Fell c n) ∷ H))
    (subst (λ found. Fine false false (journal H c) (place_in found)) (sym (gone_at c (pool H).conns)) tt)
    (λ apart. untouched H (Pool (Fell c n)) d (conn_of d (gone c (pool H).conns)) (s d) a (turned c d apart) (gone_off c d (pool H).conns apart))

-- Answers.

-- Only a Valid is answered Invalid.
invalid_only : (q : DriverCall) (a : DriverAnswer) → fits_of q a ≡ true → is_bad a || is_valid q ≡ false → is_invalid a ≡ false
invalid_only (Exec (Text text) params) Invalid fit h = absurd cc
invalid_only (Exec (Handle handle) params) Invalid fit h = absurd cc
invalid_only (Query (Text text) params) Invalid fit h = absurd cc
invalid_only (Query (Handle handle) params) Invalid fit h = absurd cc
invalid_only q Invalid fit h = absurd cc
invalid_only q _ fit h = refl

done_fine : (a : DriverAnswer) → is_done a ≡ true → ((is_bad a || false) || is_invalid a) ≡ false
done_fine Done h = refl
done_fine _ h = absurd cc

-- If something is due for a call on the database, all went well on its connection.
pub due_fine : (H : List Event) (e : Entry) → (u : UnderWay H e) → is_call u.owner ≡ true → FineIn H e.conn → is_spoilt (journal H e.conn) ≡ false
due_fine H e u call s = by (is_spoilt (journal H e.conn)) refl
  where
    there : Fine (was_heard e.conn H) (was_opened e.conn H) (journal H e.conn) (Some (Lent e.tenure u.owner))
    there = subst (λ p. Fine (was_heard e.conn H) (was_opened e.conn H) (journal H e.conn) p) u.lent s

    so_far : sends_no_more (heard_in H e.conn e.tenure) ≡ false
    so_far = let x = u.line call in due_while (caps H) (is_reset_due H e.conn) (asked_by H (number_of u.owner)) x.0 (heard_in H e.conn e.tenure) (some_due (call_line H e.conn e.tenure u.owner x.0) e.call x.1)

    by : (b : Bool) → is_spoilt (journal H e.conn) ≡ b → is_spoilt (journal H e.conn) ≡ false
    by false is = is
    by true is = absurd (clash (sends_no_more (heard_in H e.conn e.tenure)) (there call is) so_far)

newest_over : (e : Entry) (J L : List Entry) → (fits_of e.call e.answer && not (is_memory e.answer)) ≡ true → is_spoilt J ≡ false → is_spoilt (e ∷ J) ≡ true → sends_no_more (e ∷ L) ≡ true
newest_over e J L fit good bad = by (is_bad e.answer || is_valid e.call) refl
  where
    first : went_bad J ≡ false
    first = at (went_bad J) (ends_invalid J) good
      where
        at : (x y : Bool) → (x || y) ≡ false → x ≡ false
        at true y k = absurd cc
        at false y k = refl

    neither : (x y z w : Bool) → ((x || y) || z) ≡ true → y ≡ false → z ≡ false → (x || w) ≡ false → ⊥
    neither true y z w h k j i = cc
    neither false true z w h k j i = cc
    neither false false true w h k j i = cc
    neither false false false w h k j i = cc

    by : (b : Bool) → (is_bad e.answer || is_valid e.call) ≡ b → b ≡ true
    by true is = refl
    by false is =
        let f = both (fits_of e.call e.answer) (not (is_memory e.answer)) fit in
        absurd (neither (is_bad e.answer) (went_bad J) (is_invalid e.answer) (is_valid e.call) bad first (invalid_only e.call e.answer f.0 is) is)

heard_there : (H : List Event) (e : Entry) → Lawful H → Allowed H (Heard e) → FineIn H e.conn → (p : Option Place) → place H e.conn ≡ p → Fine true (is_done e.answer) (e ∷ journal H e.conn) p
heard_there H e l a s (Some (Opening wanted)) is =
    let still : was_heard e.conn H ≡ false = unpressed H (Heard e) e.conn (follows_of H (Heard e) a) refl (ap (λ at. is_opening at || is_closing at) is) in
    let had : Fine (was_heard e.conn H) (was_opened e.conn H) (journal H e.conn) (Some (Opening wanted)) = subst (λ p. Fine (was_heard e.conn H) (was_opened e.conn H) (journal H e.conn) p) is s in
    (λ q. absurd cc, λ done. ap (λ J. is_spoilt (e ∷ J)) (had.0 still) ∙ done_fine e.answer done)
heard_there H e l a s (Some Idle) is = let hears : hears_in (pool H) (Some Idle) e ≡ true = subst (λ at. hears_in (pool H) at e ≡ true) is (heard_at H e a) in absurd cc
heard_there H e l a s (Some (Lent t own)) is = λ call bad.
    let w = was_under_way H e t own a (sound H l) is in
    let good = due_fine H e w.way (ap is_call w.owner ∙ call) s in
    ap sends_no_more (sym (ap (λ b. of_tenure t (cond b (e ∷ journal H e.conn) (journal H e.conn))) (same_itself e.conn)) ∙ heard_more H e e.conn t own a is refl)
    ∙ newest_over e (journal H e.conn) (heard_in H e.conn t) (fitting H e a) good bad
heard_there H e l a s (Some Closing) is = tt
heard_there H e l a s None is = tt

fine_heard : (H : List Event) (e : Entry) → Lawful H → Allowed H (Heard e) → ((d : ℕ) → FineIn H d) → (d : ℕ) → FineIn (Heard e ∷ H) d
fine_heard H e l a s d =
    by_number e.conn d (FineIn (Heard e ∷ H))
    (subst (λ b. Fine b (b && is_done e.answer) (cond b (e ∷ journal H e.conn) (journal H e.conn)) (place H e.conn)) (sym (same_itself e.conn)) (heard_there H e l a (s e.conn) (place H e.conn) refl))
    (λ apart.
    subst (λ b. Fine b (b && is_done e.answer) (cond b (e ∷ journal H d) (journal H d)) (place H d)) (sym (turned e.conn d apart))
    (untouched H (Heard e) d (conn_of d (pool H).conns) (s d) a refl refl))

fine_control : (H : List Event) (e : Event) (d : ℕ) → FineIn H d → Allowed H e → moves d e ≡ false → (pool (e ∷ H)).conns ≡ (pool H).conns → Fine false false (journal H d) (place (e ∷ H) d)
fine_control H e d s a still same = untouched H e d (conn_of d (pool (e ∷ H)).conns) s a still (ap (conn_of d) same)

pub fine : (H : List Event) → Lawful H → (d : ℕ) → FineIn H d
fine [] l d = tt
fine (Pool m ∷ H) l d = fine_move H m l.0 l.1 (fine H l.0) d
fine (Heard e ∷ H) l d = fine_heard H e l.0 l.1 (fine H l.0) d
fine (Entered client n DbClose ∷ H) l d = fine_shut H (Entered client n DbClose) d (fine H l.0 d) l.1 refl
fine (Entered client n op ∷ H) l d = untouched H (Entered client n op) d (conn_of d (pool (Entered client n op ∷ H)).conns) (fine H l.0 d) l.1 refl refl
fine (Ended ∷ H) l d = fine_shut H Ended d (fine H l.0 d) l.1 refl
fine (Ticked now ∷ H) l d = fine_control H (Ticked now) d (fine H l.0 d) l.1 refl (control_conns (Tick now) (pool H))
fine (SetLimit x k ∷ H) l d = fine_control H (SetLimit x k) d (fine H l.0 d) l.1 refl (control_conns (Set x k) (pool H))
fine (e ∷ H) l d = untouched H e d (conn_of d (pool H).conns) (fine H l.0 d) l.1 refl refl

-- If an answer to a call on the database may come, nothing on its connection was answered Bad, and the newest
-- answer isn't Invalid.

all_well : (H : List Event) (e : Entry) (own : Owner) → Lawful H → may_come H e ≡ true → place H e.conn ≡ Some (Lent e.tenure own) → is_call own ≡ true → is_spoilt (journal H e.conn) ≡ false
all_well H e own l h is call =
    let s = sound H l in
    let u = s.coming e h in
    due_fine H e u (ap is_call (owner_in (sym u.lent ∙ is)) ∙ call) (fine H l e.conn)
  where
    owner_in : {a b : Owner} → Some (Lent e.tenure a) ≡ Some (Lent e.tenure b) → a ≡ b
    owner_in k = cc

pub none_bad : (H : List Event) (e : Entry) (own : Owner) → Lawful H → may_come H e ≡ true → place H e.conn ≡ Some (Lent e.tenure own) → is_call own ≡ true → went_bad (journal H e.conn) ≡ false
none_bad H e own l h is call = at (went_bad (journal H e.conn)) (ends_invalid (journal H e.conn)) (all_well H e own l h is call)
  where
    at : (x y : Bool) → (x || y) ≡ false → x ≡ false
    at true y k = absurd cc
    at false y k = refl

pub none_invalid : (H : List Event) (e : Entry) (own : Owner) → Lawful H → may_come H e ≡ true → place H e.conn ≡ Some (Lent e.tenure own) → is_call own ≡ true → ends_invalid (journal H e.conn) ≡ false
none_invalid H e own l h is call = at (went_bad (journal H e.conn)) (ends_invalid (journal H e.conn)) (all_well H e own l h is call)
  where
    at : (x y : Bool) → (x || y) ≡ false → y ≡ false
    at true y k = absurd cc
    at false true k = absurd cc
    at false false k = refl
