-- The argument that one answer stands for all that fit a permit's call at its place.
use Rattle.std.proofs.Common.{◌≡◌, ◌≢◌, ℕ, Bool, true, false, cond, not, ◌&&◌, ◌||◌, ◌==◌, Option, None, Some, List, [], ◌∷◌, refl, sym, ◌∙◌}
use Rattle.std.specs.List.{filter, list_all}
use native.Mathlib.Omega.{arith}
use Rattle.dsql_driver.specs.declared.call.DriverCall.{DriverCall}
use Rattle.dsql_driver.specs.declared.call.DriverCall.TheVariants.{Valid, Begin}
use Rattle.dsql_driver.specs.declared.answer.DriverAnswer.{DriverAnswer}
use Rattle.dsql_driver.specs.declared.answer.DriverAnswer.TheVariants.{Done, Prepared, Result, Cursor, Row, End, Invalid, Skip, Bad, Fail, Memory}
use Rattle.dsql_driver.specs.Fits.{fits_of, is_done, is_failure, is_memory, may_fail}
use Rattle.dsql_tenure_journal.specs.declared.entry.Entry.{Entry}
use Rattle.dsql_tenure_journal.specs.declared.entry.Owner.{Owner}
use Rattle.dsql_tenure_journal.specs.declared.entry.Owner.TheVariants.{Call, Tx, Pin, House}
use Rattle.dsql_tenure_journal.specs.declared.entry.Permit.{Permit}
use Rattle.dsql_tenure_journal.specs.Kinds.{◌⇒◌, if_any}
use Rattle.dsql_driver.specs.Kinds.{is_bad, is_begin, is_valid, is_close_stmt, cursor_of}
use Rattle.dsql_tenure_journal.specs.Readers.{LiveCursor, cursors}
use Rattle.dsql_tenure_journal.specs.Tenure as tenure
use Rattle.dsql_tenure_journal.specs.HandlesAndCursors.{fits_at_its_place, is_heard, is_fitting, gives_new_handle, gives_new_cursor, is_as_wide, has_width_of_cursor}
use Rattle.dsql_tenure_journal.specs.Journal.{may_follow, IsJournalPrefix}
use Rattle.dsql_tenure_journal.specs.Facts.{KeepsBody, FitsAtItsPlace, MayFollow}
use Rattle.dsql_tenure_journal.specs.Permits.{entry_of}
use Rattle.dsql_tenure_journal.proofs.Conjunctions.{parts2, parts5, join2}
use Rattle.dsql_tenure_journal.proofs.Sentences.{MayFollow-of, of-MayFollow}
use Rattle.dsql_tenure.specs.Beginnings.{is_beginning_of}
use Rattle.dsql_tenure.specs.Judged.{answered}
use Rattle.dsql_tenure.specs.MayBeAsked.{may_be_asked}
use Rattle.dsql_tenure.specs.Sent.{may_send}
use Rattle.dsql_tenure.proofs.Standing.{beginning-more}

abbrev with_answer : Entry → DriverAnswer → Entry
with_answer entry answer = record entry { answer = answer }

-- Holds if one answer leaves the rules as another does.
record Alike (entry : Entry) (first second : DriverAnswer) : Type 0 where
  refused : (is_begin entry.call && is_failure first) ≡ (is_begin entry.call && is_failure second)
  begins : entry.tx ≢ 0 → (is_begin entry.call && is_done first) ≡ (is_begin entry.call && is_done second)
  closes : is_close_stmt entry.call ≡ true → is_bad first ≡ false

rows_first : (c a b x : Bool) → (c ≡ true → a ≡ false) → (c ⇒ a || x) ≡ true → (c ⇒ b || x) ≡ true
rows_first true a b x none h = last b x (drop_first a x (none refl) h)
  where
    drop_first : (a x : Bool) → a ≡ false → (a || x) ≡ true → x ≡ true
    drop_first true x none h = grind (arith, none)
    drop_first false x none h = h

    last : (b x : Bool) → x ≡ true → (b || x) ≡ true
    last true x h = refl
    last false x h = h
rows_first false a b x none h = refl

body_alike : (o : Owner) (before : List Entry) (e : Entry) (a b : DriverAnswer) → Alike e a b → KeepsBody o before (with_answer e a) → KeepsBody o before (with_answer e b)
body_alike (Call n) before e a b s k =
    record {
      kind = k.kind;
      ping_alone = k.ping_alone;
      order = k.order;
      own_cursor = k.own_cursor;
      own_close = k.own_close;
      skip = k.skip;
      own_run = k.own_run;
      not_after_bad = k.not_after_bad;
      rows_first = rows_first (is_close_stmt e.call) (is_bad a) (is_bad b) (tenure.has_closed_cursors e.tenure before) s.closes k.rows_first;
      no_transaction = k.no_transaction;
    }
body_alike (Tx n) before e a b s k = rw (sym s.refused) k
body_alike (Pin n) before e a b s k = rw (sym s.refused) k
body_alike House before e a b s k = tt

follows_alike : (before : List Entry) (e : Entry) (a b : DriverAnswer) → Alike e a b → MayFollow before (with_answer e a) → FitsAtItsPlace before (with_answer e b) → MayFollow before (with_answer e b)
follows_alike before e a b s m fits =
    record {
      whole_journal = record {
        one_connection = m.whole_journal.one_connection;
        not_after_refusal = m.whole_journal.not_after_refusal;
        after_whole_tenure = m.whole_journal.after_whole_tenure;
        connect_first = m.whole_journal.connect_first;
        not_after_shut = m.whole_journal.not_after_shut;
        rising = m.whole_journal.rising;
        from_one = m.whole_journal.from_one;
        not_tidied_when_bad = m.whole_journal.not_tidied_when_bad;
        in_bad_tenure = m.whole_journal.in_bad_tenure;
        shut_when_invalid = m.whole_journal.shut_when_invalid;
      };
      tenure = record {
        one_owner = m.tenure.one_owner;
        house_alone = m.tenure.house_alone;
        house_call = m.tenure.house_call;
        house_numbers = m.tenure.house_numbers;
        reset_first = m.tenure.reset_first;
        not_after_valid = m.tenure.not_after_valid;
        whole_at_valid = m.tenure.whole_at_valid;
        tests = m.tenure.tests;
        not_after_bad_reset = m.tenure.not_after_bad_reset;
        in_body = λ is. body_alike e.owner before e a b s (m.tenure.in_body is);
      };
      transaction = λ some.
          let t = m.transaction some in
          record {
            one_tenure = t.one_tenure;
            owner = t.owner;
            begin_first = rw (sym (s.begins some)) t.begin_first;
            begin_once = t.begin_once;
            kind = t.kind;
            end_once = t.end_once;
            close_after_end = t.close_after_end;
            own_close = t.own_close;
            no_cursors = t.no_cursors;
          };
      handles = record {
        live_handle = m.handles.live_handle;
        live_cursor = m.handles.live_cursor;
        not_over = m.handles.not_over;
        transaction_of_handle = m.handles.transaction_of_handle;
        transaction_of_cursor = m.handles.transaction_of_cursor;
        cursor_tenure = m.handles.cursor_tenure;
        handle_tenure = m.handles.handle_tenure;
        call_handle = m.handles.call_handle;
      };
      answer = fits;
    }

fits_facts : (before : List Entry) (e : Entry) → fits_at_its_place before e ≡ true → FitsAtItsPlace before e
fits_facts before e h =
    let p = parts5 (is_heard e) (is_fitting e) (gives_new_handle before e) (gives_new_cursor before e) (has_width_of_cursor before e) h in
    record { heard = p.0; fitting = p.1; new_handle = p.2; new_cursor = p.3; width = p.4 }

-- An answer that gives nothing has no width to fit.
wide : (a : DriverAnswer) (o : Option ℕ) (f : ℕ → List LiveCursor) → ((c : LiveCursor) → is_as_wide a c ≡ true) → if_any o (λ r. list_all (is_as_wide a) (f r)) ≡ true
wide a None f all = refl
wide a (Some r) f all = each (f r)
  where
    each : (cs : List LiveCursor) → list_all (is_as_wide a) cs ≡ true
    each [] = refl
    each (c ∷ cs) = join2 (is_as_wide a c) (list_all (is_as_wide a) cs) (all c) (each cs)

fail_fits : (before : List Entry) (e : Entry) → may_fail e.call ≡ true → fits_at_its_place before (with_answer e (Fail [])) ≡ true
fail_fits before e may = rw (may, wide (Fail []) (cursor_of e.call) (λ r. filter (λ c. c.number == r) (cursors before)) (λ c. refl)) refl

done_fits : (before : List Entry) (e : Entry) → fits_of e.call Done ≡ true → fits_at_its_place before (with_answer e Done) ≡ true
done_fits before e fits = rw (fits, wide Done (cursor_of e.call) (λ r. filter (λ c. c.number == r) (cursors before)) (λ c. refl)) refl

valid-never_fails : (q : DriverCall) → is_valid q ≡ false → may_fail q ≡ true
valid-never_fails Valid h = sym h
valid-never_fails _ h = refl

begin-fits : (q : DriverCall) → is_begin q ≡ true → (may_fail q ≡ true) × (fits_of q Done ≡ true) × (is_close_stmt q ≡ false) × (is_valid q ≡ false)
begin-fits (Begin level read_only) h = (refl, refl, refl, refl)
begin-fits _ h = grind (arith, h)

valid-fits : (q : DriverCall) → is_valid q ≡ true → (fits_of q Done ≡ true) × (is_close_stmt q ≡ false) × (is_begin q ≡ false)
valid-fits Valid h = (refl, refl, refl)
valid-fits _ h = grind (arith, h)

begin-answers : (q : DriverCall) (a : DriverAnswer) → is_begin q ≡ true → fits_of q a ≡ true → not (is_memory a) ≡ true → is_done a ≡ false → is_failure a ≡ true
begin-answers (Begin level read_only) Done h fits heard other = sym other
begin-answers (Begin level read_only) (Prepared x y) h fits heard other = fits
begin-answers (Begin level read_only) (Result x y) h fits heard other = fits
begin-answers (Begin level read_only) (Cursor x y) h fits heard other = fits
begin-answers (Begin level read_only) (Row x) h fits heard other = fits
begin-answers (Begin level read_only) End h fits heard other = fits
begin-answers (Begin level read_only) Invalid h fits heard other = fits
begin-answers (Begin level read_only) Skip h fits heard other = fits
begin-answers (Begin level read_only) Bad h fits heard other = refl
begin-answers (Begin level read_only) (Fail t) h fits heard other = refl
begin-answers (Begin level read_only) Memory h fits heard other = heard
begin-answers _ a h fits heard other = grind (arith, h)

done-is : (a : DriverAnswer) → is_done a ≡ true → a ≡ Done
done-is Done h = refl
done-is _ h = grind (arith, h)

module _ (c : ℕ) (before : List Entry) (h : IsJournalPrefix before) (one : list_all (λ x. x.conn == c) before ≡ true) where
  -- If an answer may be given, so may one that is alike.
  to_alike : (e : Entry) (a b : DriverAnswer) → (e.conn == c) ≡ true → Alike e a b → may_be_asked before (with_answer e a) ≡ true → fits_at_its_place before (with_answer e a) ≡ true
      → fits_at_its_place before (with_answer e b) ≡ true → is_beginning_of c (with_answer e b ∷ before) ≡ true
  to_alike e a b same s asked fits_a fits_b =
      let first : may_follow before (with_answer e a) ≡ true = join2 (may_be_asked before (with_answer e a)) (fits_at_its_place before (with_answer e a)) asked fits_a in
      let next : may_follow before (with_answer e b) ≡ true = of-MayFollow before (with_answer e b) (follows_alike before e a b s (MayFollow-of before (with_answer e a) first) (fits_facts before (with_answer e b) fits_b)) in
      beginning-more c before (with_answer e b) h one ∙ join2 (e.conn == c) (may_follow before (with_answer e b)) same next

  from_one : (e : Entry) (a : DriverAnswer) → is_beginning_of c (with_answer e a ∷ before) ≡ true → ((e.conn == c) ≡ true) × (may_be_asked before (with_answer e a) ≡ true)
  from_one e a k =
      let p = parts2 (e.conn == c) (may_follow before (with_answer e a)) (sym (beginning-more c before (with_answer e a) h one) ∙ k) in
      (p.0, (parts2 (may_be_asked before (with_answer e a)) (fits_at_its_place before (with_answer e a)) p.1).0)

  module _ (p : Permit) where
    sent : DriverAnswer → Entry
    sent a = entry_of p a

    -- If the permit may be sent, every answer may come.
    pub all_may : may_send c before p ≡ true → (a : DriverAnswer) → fits_at_its_place before (answered p a) ≡ true → is_beginning_of c (answered p a ∷ before) ≡ true
    all_may is a = go (is_valid p.call) (is_begin p.call) (is_done a) refl refl refl (parts2 (p.conn == c) (cond (is_valid p.call) (may_be_asked before (entry_of p Done)) (cond (is_begin p.call) (may_be_asked before (entry_of p Done) && may_be_asked before (record (entry_of p (Fail [])) { tx = 0 })) (may_be_asked before (entry_of p (Fail []))))) is).0
        (parts2 (p.conn == c) (cond (is_valid p.call) (may_be_asked before (entry_of p Done)) (cond (is_begin p.call) (may_be_asked before (entry_of p Done) && may_be_asked before (record (entry_of p (Fail [])) { tx = 0 })) (may_be_asked before (entry_of p (Fail []))))) is).1
      where
        go : (v b d : Bool) → is_valid p.call ≡ v → is_begin p.call ≡ b → is_done a ≡ d → (p.conn == c) ≡ true
            → cond v (may_be_asked before (entry_of p Done)) (cond b (may_be_asked before (entry_of p Done) && may_be_asked before (record (entry_of p (Fail [])) { tx = 0 })) (may_be_asked before (entry_of p (Fail [])))) ≡ true
            → fits_at_its_place before (cond b (cond d (entry_of p a) (record (entry_of p a) { tx = 0 })) (entry_of p a)) ≡ true
            → is_beginning_of c (cond b (cond d (entry_of p a) (record (entry_of p a) { tx = 0 })) (entry_of p a) ∷ before) ≡ true
        go true true d valid begins done same asked fits = let v = valid-fits p.call valid in grind (arith, v.2, begins)
        go true false d valid begins done same asked fits =
            let v = valid-fits p.call valid in
            to_alike (entry_of p a) Done a same (record { refused = rw begins refl; begins = λ some. rw begins refl; closes = λ k. refl }) asked (done_fits before (entry_of p a) v.0) fits
        go false true true valid begins done same asked fits =
            let q = parts2 (may_be_asked before (entry_of p Done)) (may_be_asked before (record (entry_of p (Fail [])) { tx = 0 })) asked in
            let v = begin-fits p.call begins in
            let is_d : a ≡ Done = done-is a done in
            to_alike (entry_of p a) Done a same (record { refused = rw is_d refl; begins = λ some. rw is_d refl; closes = λ k. refl }) q.0 (done_fits before (entry_of p a) v.1) fits
        go false true false valid begins done same asked fits =
            let q = parts2 (may_be_asked before (entry_of p Done)) (may_be_asked before (record (entry_of p (Fail [])) { tx = 0 })) asked in
            let v = begin-fits p.call begins in
            let f = fits_facts before (record (entry_of p a) { tx = 0 }) fits in
            let fails : is_failure a ≡ true = begin-answers p.call a begins f.fitting f.heard done in
            to_alike (record (entry_of p a) { tx = 0 }) (Fail []) a same (record { refused = rw fails refl; begins = λ some. absurd (some refl); closes = λ k. refl }) q.1 (fail_fits before (record (entry_of p a) { tx = 0 }) v.0) fits
        go false false d valid begins done same asked fits =
            to_alike (entry_of p a) (Fail []) a same (record { refused = rw begins refl; begins = λ some. rw begins refl; closes = λ k. refl }) asked (fail_fits before (entry_of p a) (valid-never_fails p.call valid)) fits

    -- If every answer may come, those that stand for all of them may.
    pub may_all : ((a : DriverAnswer) → fits_at_its_place before (answered p a) ≡ true → is_beginning_of c (answered p a ∷ before) ≡ true) → may_send c before p ≡ true
    may_all every = go (is_valid p.call) (is_begin p.call) refl refl every
      where
        go : (v b : Bool) → is_valid p.call ≡ v → is_begin p.call ≡ b
            → ((a : DriverAnswer) → fits_at_its_place before (cond b (cond (is_done a) (entry_of p a) (record (entry_of p a) { tx = 0 })) (entry_of p a)) ≡ true
            → is_beginning_of c (cond b (cond (is_done a) (entry_of p a) (record (entry_of p a) { tx = 0 })) (entry_of p a) ∷ before) ≡ true)
            → ((p.conn == c) && cond v (may_be_asked before (entry_of p Done)) (cond b (may_be_asked before (entry_of p Done) && may_be_asked before (record (entry_of p (Fail [])) { tx = 0 })) (may_be_asked before (entry_of p (Fail []))))) ≡ true
        go true true valid begins every = let v = valid-fits p.call valid in grind (arith, v.2, begins)
        go true false valid begins every =
            let v = valid-fits p.call valid in
            let k = from_one (entry_of p Done) Done (every Done (done_fits before (entry_of p Done) v.0)) in
            join2 (p.conn == c) (may_be_asked before (entry_of p Done)) k.0 k.1
        go false true valid begins every =
            let v = begin-fits p.call begins in
            let k = from_one (entry_of p Done) Done (every Done (done_fits before (entry_of p Done) v.1)) in
            let m = from_one (record (entry_of p (Fail [])) { tx = 0 }) (Fail []) (every (Fail []) (fail_fits before (record (entry_of p (Fail [])) { tx = 0 }) v.0)) in
            join2 (p.conn == c) (may_be_asked before (entry_of p Done) && may_be_asked before (record (entry_of p (Fail [])) { tx = 0 })) k.0
            (join2 (may_be_asked before (entry_of p Done)) (may_be_asked before (record (entry_of p (Fail [])) { tx = 0 })) k.1 m.1)
        go false false valid begins every =
            let k = from_one (entry_of p (Fail [])) (Fail []) (every (Fail []) (fail_fits before (entry_of p (Fail [])) (valid-never_fails p.call valid))) in
            join2 (p.conn == c) (may_be_asked before (entry_of p (Fail []))) k.0 k.1
