-- Proves that a connection which serves a call serves on after each driver call that is due. The argument is
-- that what is due may be sent at the step of the tenure.
use Rattle.std.proofs.Common.{◌≡◌, ℕ, ◌<◌, ◌≤◌, Bool, true, false, cond, not, ◌&&◌, ◌||◌, List, [], ◌∷◌, Option, Some, None, is_none, refl, ap, is_some}
use Rattle.std.specs.List.{list_all}
use native.Mathlib.Omega.{arith}
use Rattle.std.proofs.lemmas.Bool.Decides.{nat_tests}
use Rattle.dsql_history_work.specs.driver.Fits.{fits_of, is_memory, is_invalid}
use Rattle.dsql_history_work.specs.driver.declared.caps.Caps.{Caps}
use Rattle.dsql_history_work.specs.driver.declared.call.DriverCall.{DriverCall}
use Rattle.dsql_history_work.specs.driver.declared.call.DriverCall.TheVariants.{Reset, Valid, Ping, Prepare, Exec, Query, Next, CloseRows, CloseStmt}
use Rattle.dsql_history_work.specs.driver.declared.call.Input.TheVariants.{Text, Handle}
use Rattle.dsql_history_work.specs.driver.declared.answer.DriverAnswer.{DriverAnswer}
use Rattle.dsql_history_work.specs.driver.declared.answer.DriverAnswer.TheVariants.{Invalid, Bad}
use Rattle.dsql_history_work.specs.course.declared.course.Wish.{Wish}
use Rattle.dsql_history_work.specs.journal.declared.entry.Entry.{Entry}
use Rattle.dsql_history_work.specs.journal.declared.entry.Owner.{Owner}
use Rattle.dsql_history_work.specs.journal.declared.entry.Owner.TheVariants.{Call}
use Rattle.dsql_history_work.specs.journal.Kinds.{same_owner}
use Rattle.dsql_history_work.specs.driver.Kinds.{is_valid, is_bad}
use Rattle.dsql_history_work.specs.journal.Readers.{is_empty, of_tenure, last_tenure, handles, handles_after, cursors, cursors_after, went_invalid}
use Rattle.dsql_history_work.specs.journal.HandlesAndCursors.{fits_at_its_place}
use Rattle.dsql_history_work.specs.journal.Journal.{may_follow, IsJournalPrefix}
use Rattle.dsql_history_work.proofs.journal.Tenures.{of_tenure-new}
use Rattle.dsql_history_work.proofs.journal.PlainJournals.{Plain, Good, Good-with, of_tenure-with}
use Rattle.dsql_history_work.specs.Journals.{ends_invalid}
use Rattle.dsql_history_work.specs.Exchanges.{exchanges, step_of, with_exchange}
use Rattle.dsql_history_work.specs.Line.{Asked, line_after, body_after, is_due_in_line}
use Rattle.dsql_laws_work.proofs.KeptRows.{keeps_rows}
use Rattle.dsql_laws_work.proofs.CallLines.{Step, Start, WasPrepared, HasRows, HasRead, WasRun, WasDropped, IsOther, step, step_after, goes, SoFar, sent_entry, so_far-start, is_sent}
use Rattle.dsql_laws_work.proofs.CallSteps.{so_far-next}
use Rattle.dsql_laws_work.proofs.ServedCalls.{Served, served_of, served_sent}
use Rattle.dsql_laws_work.proofs.CallSends.{Sends}
use Rattle.dsql_laws_work.proofs.CallJournals.{may_follow-sent}
use Rattle.dsql_laws_work.proofs.MadeLines.{MadeAt, is_ended, ended_by, is_clean, clean_when_done, goes_body}
use Rattle.dsql_laws_work.proofs.MadeNext.{made_next, made_reset}

-- Is true if the tenure sends nothing more.
abbrev pub sends_no_more : List Entry → Bool
sends_no_more [] = false
sends_no_more (e ∷ earlier) = is_bad e.answer || is_valid e.call

pub sent_of : (d : Option DriverCall) (call : DriverCall) → is_due_in_line d call ≡ true → is_sent call ≡ true
sent_of (Some Reset) Reset h = refl
sent_of (Some Valid) Valid h = refl
sent_of (Some Ping) Ping h = refl
sent_of (Some (Prepare text)) (Prepare other) h = refl
sent_of (Some (Exec (Text text) params)) (Exec (Text other) others) h = refl
sent_of (Some (Exec (Handle handle) params)) (Exec (Handle other) others) h = refl
sent_of (Some (Query (Text text) params)) (Query (Text other) others) h = refl
sent_of (Some (Query (Handle handle) params)) (Query (Handle other) others) h = refl
sent_of (Some (Next rows)) (Next other) h = refl
sent_of (Some (CloseRows rows)) (CloseRows other) h = refl
sent_of (Some (CloseStmt handle)) (CloseStmt other) h = refl
sent_of _ _ h = absurd cc

pub some_of : (d : Option DriverCall) (call : DriverCall) → is_due_in_line d call ≡ true → is_some d ≡ true
some_of None call h = absurd cc
some_of (Some q) call h = refl

-- If a driver call is due, the tenure isn't over.
pub due_while : (can : Caps) (reset : Bool) (asked : Asked) (w : Wish) (L : List Entry) → is_some (line_after can reset asked w L) ≡ true → sends_no_more L ≡ false
due_while can reset asked w [] h = refl
due_while can reset asked w (e ∷ earlier) h = by_end (is_bad e.answer || is_valid e.call) h
  where
    by_end : (b : Bool) → is_some (cond b None (body_after can false asked w (exchanges (e ∷ earlier)))) ≡ true → b ≡ false
    by_end true k = absurd cc
    by_end false k = refl

-- A driver call that is due after an entry is what the course sends.
pub body_due : (can : Caps) (reset : Bool) (asked : Asked) (w : Wish) (e : Entry) (earlier : List Entry) (call : DriverCall) → is_due_in_line (line_after can reset asked w (e ∷ earlier)) call ≡ true
    → (is_bad e.answer || is_valid e.call ≡ false) × (is_due_in_line (body_after can false asked w (exchanges (e ∷ earlier))) call ≡ true)
body_due can reset asked w e earlier call h = by_end (is_bad e.answer || is_valid e.call) h
  where
    by_end : (b : Bool) → is_due_in_line (cond b None (body_after can false asked w (exchanges (e ∷ earlier)))) call ≡ true
        → (b ≡ false) × (is_due_in_line (body_after can false asked w (exchanges (e ∷ earlier))) call ≡ true)
    by_end true k = absurd cc
    by_end false k = (refl, k)

first_due : (can : Caps) (reset : Bool) (asked : Asked) (w : Wish) (call : DriverCall) → is_due_in_line (cond reset (Some Reset) (body_after can false asked w [])) call ≡ true → goes Start call ≡ true
first_due can true asked w Reset h = refl
first_due can true asked w _ h = absurd cc
first_due can false asked w call h = goes_body can asked w Start [] call refl refl h

-- A driver call that is due may be sent.
pub goes_due : (can : Caps) (reset : Bool) (asked : Asked) (w : Wish) (L : List Entry) (call : DriverCall) → MadeAt can asked (step L) (exchanges L) → is_due_in_line (line_after can reset asked w L) call ≡ true
    → goes (step L) call ≡ true
goes_due can reset asked w [] call made h = first_due can reset asked w call h
goes_due can reset asked w (e ∷ earlier) call made h =
    let k = body_due can reset asked w e earlier call h in
    goes_body can asked w (step (e ∷ earlier)) (exchanges (e ∷ earlier)) call (ended_by (step earlier) e.call e.answer k.0) made k.1

first_made : (can : Caps) (reset : Bool) (asked : Asked) (w : Wish) (q : DriverCall) (a : DriverAnswer) → is_due_in_line (cond reset (Some Reset) (body_after can false asked w [])) q ≡ true
    → (fits_of q a && not (is_memory a)) ≡ true → MadeAt can asked (step_after Start q a) (with_exchange (step_of q) a [])
first_made can true asked w Reset a h fit = made_reset can asked a
first_made can true asked w _ a h fit = absurd cc
first_made can false asked w q a h fit = made_next can asked w Start q a [] refl refl h fit

-- The exchanges after the answer to a driver call that was due are those of the next step.
pub made_on : (can : Caps) (reset : Bool) (asked : Asked) (w : Wish) (L : List Entry) (q : DriverCall) (a : DriverAnswer) → MadeAt can asked (step L) (exchanges L)
    → is_due_in_line (line_after can reset asked w L) q ≡ true → (fits_of q a && not (is_memory a)) ≡ true → MadeAt can asked (step_after (step L) q a) (with_exchange (step_of q) a (exchanges L))
made_on can reset asked w [] q a made h fit = first_made can reset asked w q a h fit
made_on can reset asked w (e ∷ earlier) q a made h fit =
    let k = body_due can reset asked w e earlier q h in
    made_next can asked w (step (e ∷ earlier)) q a (exchanges (e ∷ earlier)) (ended_by (step earlier) e.call e.answer k.0) made k.1 fit

-- Is true if the newest answer is Bad. If it isn't, nothing is due and no rows keep the connection, neither a
-- handle nor a cursor is left.
abbrev pub ends_bad : List Entry → Bool
ends_bad [] = false
ends_bad (e ∷ earlier) = is_bad e.answer

pub record NoneLeft (L : List Entry) : Type 0 where
  pub handles : handles L ≡ []
  pub cursors : cursors L ≡ []

clean_left : (t n : ℕ) (s : Step) (L : List Entry) → is_clean s ≡ true → (s ≡ WasDropped → ⊥) → SoFar t n s L → NoneLeft L
clean_left t n WasDropped L c d so = absurd (d refl)
clean_left t n IsOther L c d so = absurd so.live
clean_left t n (WasPrepared handle) L c d so = absurd cc
clean_left t n (HasRows own rows) L c d so = absurd cc
clean_left t n (HasRead own rows over) L c d so = absurd cc
clean_left t n (WasRun handle) L c d so = absurd cc
clean_left t n _ L c d so = record { handles = so.live; cursors = so.open_rows }

ended_not : (s : Step) → is_ended s ≡ false → s ≡ WasDropped → ⊥
ended_not s h is = let k = rw is at h in cc

valid_clean : (t n : ℕ) (s : Step) (q : DriverCall) (a : DriverAnswer) (L : List Entry) → is_valid q ≡ true → is_bad a ≡ false → SoFar t n (step_after s q a) L → NoneLeft L
valid_clean t n s Valid Bad L v b so = absurd cc
valid_clean t n s Valid a L v b so = record { handles = so.live; cursors = so.open_rows }
valid_clean t n s q a L v b so = absurd cc

pub none_left : (t n : ℕ) (can : Caps) (reset : Bool) (asked : Asked) (w : Wish) (L : List Entry) → SoFar t n (step L) L → MadeAt can asked (step L) (exchanges L)
    → is_none (line_after can reset asked w L) ≡ true → keeps_rows asked.aim w (exchanges L) ≡ false → ends_bad L ≡ false → NoneLeft L
none_left t n can reset asked w [] so made none free not_bad = record { handles = refl; cursors = refl }
none_left t n can reset asked w (e ∷ earlier) so made none free not_bad = by_valid (is_valid e.call) refl
  where
    both_not : (a b : Bool) → a ≡ false → b ≡ false → a || b ≡ false
    both_not a b h k = grind (arith, h, k)

    by_valid : (b : Bool) → is_valid e.call ≡ b → NoneLeft (e ∷ earlier)
    by_valid true is = valid_clean t n (step earlier) e.call e.answer (e ∷ earlier) is not_bad so
    by_valid false is =
        let going : is_bad e.answer || is_valid e.call ≡ false = both_not (is_bad e.answer) (is_valid e.call) not_bad is in
        let over : is_none (body_after can false asked w (exchanges (e ∷ earlier))) ≡ true = rw going at none in
        clean_left t n (step (e ∷ earlier)) (e ∷ earlier) (clean_when_done can asked w (step (e ∷ earlier)) (exchanges (e ∷ earlier)) made over free)
        (ended_not (step (e ∷ earlier)) (ended_by (step earlier) e.call e.answer going)) so

-- Holds if connection c serves call n in tenure t.
pub record Serves (c t n : ℕ) (J : List Entry) : Type 0 where
  pub served : Served c J
  pub rising : last_tenure J ≤ t
  pub tested : ends_invalid J ≡ false → went_invalid J ≡ false
  pub good : sends_no_more (of_tenure t J) ≡ false → Good J
  pub own : list_all (λ x. same_owner x.owner (Call n)) (of_tenure t J) ≡ true
  pub so_far : SoFar t n (step (of_tenure t J)) (of_tenure t J)
  pub live : handles J ≡ handles (of_tenure t J)
  pub open_rows : cursors J ≡ cursors (of_tenure t J)
  pub first : of_tenure t J ≡ [] → last_tenure J < t
  pub going : is_empty (of_tenure t J) ≡ false → last_tenure J ≡ t

-- A lending begins a tenure that has no entry yet.
pub serves_first : (c t n : ℕ) (J : List Entry) → IsJournalPrefix J → Plain c J → Good J → handles J ≡ [] → last_tenure J < t → Serves c t n J
serves_first c t n J beginning plain good none above =
    let new : of_tenure t J ≡ [] = of_tenure-new t J beginning above in
    record {
      served = served_of c J plain;
      rising = omega arith;
      tested = λ h. good.not_invalid;
      good = λ h. good;
      own = rw new refl;
      so_far = rw new (so_far-start t n);
      live = rw new none;
      open_rows = rw new plain.no_cursors;
      first = λ h. above;
      going = rw new (λ h. absurd cc);
    }

same_call : (n : ℕ) → same_owner (Call n) (Call n) ≡ true
same_call n = grind (arith, nat_tests)

all_more : (a b : Bool) → a ≡ true → b ≡ true → a && b ≡ true
all_more a b h k = grind (arith)

-- Of a driver call that is due, all is known that a sent driver call needs.
sends : (c t n : ℕ) (J : List Entry) (can : Caps) (reset : Bool) (asked : Asked) (w : Wish) (q : DriverCall) → Serves c t n J → MadeAt can asked (step (of_tenure t J)) (exchanges (of_tenure t J))
    → is_due_in_line (line_after can reset asked w (of_tenure t J)) q ≡ true → Sends c t n q J
sends c t n J can reset asked w q s made due =
    let going = due_while can reset asked w (of_tenure t J) (some_of (line_after can reset asked w (of_tenure t J)) q due) in
    record {
      served = s.served;
      good = s.good going;
      rising = s.rising;
      own = s.own;
      so_far = s.so_far;
      live = s.live;
      open_rows = s.open_rows;
      going = s.going;
      next = goes_due can reset asked w (of_tenure t J) q made due;
    }

-- A driver call that is due may follow, with each answer that fits there.
pub may_follow-due : (c t n m : ℕ) (J : List Entry) (can : Caps) (reset : Bool) (asked : Asked) (w : Wish) (q : DriverCall) (a : DriverAnswer)
    → Serves c t n J → MadeAt can asked (step (of_tenure t J)) (exchanges (of_tenure t J)) → is_due_in_line (line_after can reset asked w (of_tenure t J)) q ≡ true
    → fits_at_its_place J (sent_entry c t n m q a) ≡ true → may_follow J (sent_entry c t n m q a) ≡ true
may_follow-due c t n m J can reset asked w q a s made due fits =
    may_follow-sent c t n m q a J (sends c t n J can reset asked w q s made due) (sent_of (line_after can reset asked w (of_tenure t J)) q due) fits

-- Only a Valid is answered Invalid.
invalid_only : (q : DriverCall) (a : DriverAnswer) → is_sent q ≡ true → fits_of q a ≡ true → is_bad a || is_valid q ≡ false → is_invalid a ≡ false
invalid_only (Exec (Text text) params) Invalid sent fit h = absurd cc
invalid_only (Exec (Handle handle) params) Invalid sent fit h = absurd cc
invalid_only (Query (Text text) params) Invalid sent fit h = absurd cc
invalid_only (Query (Handle handle) params) Invalid sent fit h = absurd cc
invalid_only q Invalid sent fit h = absurd cc
invalid_only q _ sent fit h = refl

-- A connection that sent what was due serves on.
pub serves_on : (c t n m : ℕ) (J : List Entry) (can : Caps) (reset : Bool) (asked : Asked) (w : Wish) (q : DriverCall) (a : DriverAnswer)
    → Serves c t n J → MadeAt can asked (step (of_tenure t J)) (exchanges (of_tenure t J)) → is_due_in_line (line_after can reset asked w (of_tenure t J)) q ≡ true → fits_of q a ≡ true
    → Serves c t n (sent_entry c t n m q a ∷ J)
serves_on c t n m J can reset asked w q a s made due fit =
    let sent : is_sent q ≡ true = sent_of (line_after can reset asked w (of_tenure t J)) q due in
    let over : sends_no_more (of_tenure t J) ≡ false = due_while can reset asked w (of_tenure t J) (some_of (line_after can reset asked w (of_tenure t J)) q due) in
    let good : Good J = s.good over in
    let more : of_tenure t (sent_entry c t n m q a ∷ J) ≡ sent_entry c t n m q a ∷ of_tenure t J = of_tenure-with t (sent_entry c t n m q a) J refl in
    record {
      served = served_sent c t n m q a J s.served sent;
      rising = omega arith;
      tested = λ h. grind (arith, h, good.not_invalid);
      good = rw more (λ h. Good-with (sent_entry c t n m q a) J good (grind (arith, h)) (invalid_only q a sent fit h));
      own = rw more (all_more (same_owner (Call n) (Call n)) (list_all (λ x. same_owner x.owner (Call n)) (of_tenure t J)) (same_call n) s.own);
      so_far = rw more (so_far-next c t n m (step (of_tenure t J)) q a (of_tenure t J) s.so_far (goes_due can reset asked w (of_tenure t J) q made due));
      live = rw more (ap (handles_after (sent_entry c t n m q a) q a) s.live);
      open_rows = rw more (ap (cursors_after (sent_entry c t n m q a) q a) s.open_rows);
      first = rw more (λ h. absurd cc);
      going = λ h. refl;
    }

abbrev pub entry_with : ℕ → ℕ → Owner → ℕ → ℕ → DriverCall → DriverAnswer → Entry
entry_with c t o k x q a = record { conn = c; tenure = t; owner = o; call_no = k; tx = x; call = q; answer = a }

pub same_parts : (c d t u k m x y : ℕ) (o p : Owner) (q : DriverCall) (a : DriverAnswer) → c ≡ d → t ≡ u → o ≡ p → k ≡ m → x ≡ y → entry_with c t o k x q a ≡ entry_with d u p m y q a
same_parts c d t u k m x y o p q a conn tenure owner number tx = cc

-- An entry is known by its parts.
pub sent_entry_of : (c t n m : ℕ) (e : Entry) → e.conn ≡ c → e.tenure ≡ t → e.owner ≡ Call n → e.call_no ≡ m → e.tx ≡ 0 → e ≡ sent_entry c t n m e.call e.answer
sent_entry_of c t n m e conn tenure owner number tx =
    same_parts e.conn c e.tenure t e.call_no m e.tx 0 e.owner (Call n) e.call e.answer conn tenure owner number tx
