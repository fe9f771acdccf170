-- Let an answer decide for a call that was lent a connection. The call has settled its reply, or still awaits an answer
-- on that connection.
use Rattle.std.proofs.Common.{◌≡◌, ◌≢◌, ℕ, ◌==◌, ◌⊎◌, inl, inr, Bool, true, false, ◌&&◌, ◌||◌, not, cond, List, [], ◌∷◌, length, Option, Some, None, is_some, refl, sym, ap, subst, ◌∙◌}
use Rattle.std.proofs.lemmas.Bool.{or_cases}
use Rattle.dsql_laws_calls.specs.driver.declared.caps.Caps.{Caps}
use Rattle.dsql_laws_calls.specs.driver.Fits.{fits_of, is_memory}
use Rattle.dsql_laws_calls.specs.course.Made.{or_else}
use Rattle.dsql_laws_calls.specs.course.declared.course.Wish.TheVariants as wishes
use Rattle.dsql_laws_calls.specs.journal.declared.entry.Entry.{Entry}
use Rattle.dsql_laws_calls.specs.journal.declared.entry.Owner.{Owner}
use Rattle.dsql_laws_calls.specs.journal.Kinds.{number_of}
use Rattle.dsql_laws_calls.specs.journal.Readers.{of_tenure}
use Rattle.dsql_laws_calls.specs.pool.declared.conn.Place.TheVariants.{Lent}
use Rattle.dsql_laws_calls.specs.pool.declared.moves.Move.TheVariants.{OpenStart, Lend, Back, CloseStart, Gone, Fell}
use Rattle.dsql_laws_calls.specs.works.Exchanges.{exchanges}
use Rattle.dsql_laws_calls.specs.works.Line.{Asked, is_due_in_line}
use Rattle.dsql_laws_calls.proofs.laws_work.CallLines.{step}
use Rattle.dsql_laws_calls.proofs.laws_work.HandedLines.{SentAt, due_over}
use Rattle.dsql_laws_calls.proofs.laws_work.Lines.{made_on, goes_due, sent_of}
use Rattle.dsql_laws_calls.specs.history.declared.record.Try.{Try}
use Rattle.dsql_laws_calls.specs.history.declared.record.Try.TheVariants.{Served, Refused}
use Rattle.dsql_laws_calls.specs.history.Readers.Tries.{with_try, lost, was_served, tries, newest_answer, loses}
use Rattle.dsql_laws_calls.proofs.laws.Tests.{both, same_number, same_itself, other_number, together}
use Rattle.dsql_laws_replies.proofs.Awaited.{is_one, needs_answer, awaits}
use Rattle.dsql_laws_calls.specs.history.declared.event.Event.{Event}
use Rattle.dsql_laws_calls.specs.history.declared.event.Event.TheVariants.{Run, Entered, Heard, Pool, Replied}
use Rattle.dsql_laws_calls.specs.history.declared.reply.Reply.{Reply}
use Rattle.dsql_laws_calls.specs.history.declared.reply.Reply.TheVariants as reply
use Rattle.dsql_laws_calls.specs.history.declared.work.Work.{Work}
use Rattle.dsql_laws_calls.specs.history.declared.work.Task.TheVariants as tasks
use Rattle.dsql_laws_calls.specs.history.declared.work.Work.TheVariants as works_of
use Rattle.dsql_laws_calls.specs.history.Readers.Course.{caps}
use Rattle.dsql_laws_calls.specs.history.Readers.Calls.{decided, told_by_others, told_as_lent, told_at_lending, reply_due}
use Rattle.dsql_laws_calls.specs.history.Readers.Decisions.{decision}
use Rattle.dsql_laws_calls.specs.history.Readers.Journals.{heard_in}
use Rattle.dsql_laws_calls.specs.history.Readers.Lines.{line_among}
use Rattle.dsql_laws_calls.specs.history.Readers.Pool.{place, home}
use Rattle.dsql_laws_calls.specs.history.Readers.Unfinished.{is_unfinished}
use Rattle.dsql_laws_calls.specs.history.Readers.Works.{work, asks, aim_of}
use Rattle.dsql_laws_calls.specs.history.Rules.Course.{begins_with_run, goes_forward, ends_once}
use Rattle.dsql_laws_calls.specs.history.Rules.Line.{is_due, due_in, due_for}
use Rattle.dsql_laws_calls.specs.history.Rules.Sent.{asked_by, is_reset_due}
use Rattle.dsql_laws_calls.specs.history.Legal.{Allowed, Lawful}
use Rattle.dsql_laws_calls.proofs.laws.Numbered.{unfinished_from_one}
use Rattle.dsql_laws_calls.proofs.Owners.{at_home}
use Rattle.dsql_laws_calls.proofs.Looks.{heard_there, comes}
use Rattle.dsql_laws_calls.proofs.Stays.{not_looking, work_stays, asked_stays}
use Rattle.dsql_laws_calls.proofs.Works.{other_heard, old_unfinished, still_unfinished}
use Rattle.dsql_laws_calls.proofs.Plain.{begins, line_plain}
use Rattle.dsql_laws_calls.proofs.Beginnings.{begin_owner, begin_there}
use Rattle.dsql_laws_calls.proofs.BeginningsAt.{is_answer, heard_same, heard_more, was_unfinished, not_new}
use Rattle.dsql_laws_calls.proofs.CallTenures.{call_line, line_of_call, plain_due}
use Rattle.dsql_laws_calls.proofs.LineParts.{grows_own}
use Rattle.dsql_laws_calls.proofs.Idle.{lends_asker}
use Rattle.dsql_laws_calls.proofs.Lines.{line_there, line_here, course_of}
use Rattle.dsql_laws_calls.proofs.Own.{asks_own, OwnWay, own_way, due_line}
use Rattle.dsql_laws_calls.proofs.Coming.{sound}
use Rattle.dsql_laws_calls.proofs.Nowhere.{own_settled}
use Rattle.dsql_laws_calls.proofs.Sound.{same_lent}
use Rattle.dsql_laws_replies.proofs.Awaiting.{awaited_by, begin_awaited, plain_awaited, awaited_as, Needs, Awaits, plain_call, awaiting_sends, still_awaits, awaits_lent, other_awaits}
use Rattle.dsql_laws_replies.proofs.Begins.{begin_awaits, BeginSettles, begin_settles}
use Rattle.dsql_laws_replies.proofs.Decides.{settled_on}
use Rattle.dsql_laws_replies.proofs.Records.{own_record, record_stays, fitting, trying_of}

never : (b : Bool) → b ≡ true → b ≡ false → ⊥
never b x y = cc

-- A call that is served after an answer was served before it, and the answer didn't lose the try.
still_served : (b : Bool) (ts : List Try) → was_served (cond b (lost ts) ts) ≡ true → (b ≡ false) × (was_served ts ≡ true)
still_served true (Served ∷ ts) h = absurd cc
still_served false ts h = (refl, h)
still_served true _ h = absurd cc

not_both : (a b : Bool) → a ≡ true → (a && b) ≡ false → b ≡ false
not_both true b h k = k
not_both false b h k = absurd cc

some_or : (a b : Bool) → (a ≡ true) ⊎ (b ≡ true) → (a || b) ≡ true
some_or true b h = refl
some_or false b (inl h) = absurd cc
some_or false b (inr h) = h

abbrev Settles : List Event → ℕ → Type 0
Settles H n = (is_some (decided H n) ≡ true) ⊎ Awaits H n

-- The event isn't an answer.
settles_quiet : (H : List Event) (e : Event) (n : ℕ) → Lawful (e ∷ H) → is_answer e ≡ false → asks (work H n) ≡ true → is_unfinished (e ∷ H) n ≡ true → Needs H n → Settles H n → Settles (e ∷ H) n
settles_quiet H e n l none own u needs (inl d) = inl (ap (λ r. is_some r.decided) (record_stays H e n l.1 none (not_looking (work H n) own) u) ∙ d)
settles_quiet H e n l none own u needs (inr a) =
    inr (still_awaits H e n l (was_unfinished H e n l.1 (not_looking (work H n) own) u) own needs a (ap (λ J. of_tenure a.tenure J) (heard_same H e a.conn none)))

-- Returns what an answer to the call decides.
abbrev after_it : List Event → Entry → ℕ → Option Reply
after_it H e n = decision (trying_of H n) e.call e.answer (decided H n)

-- The event is the call's own answer, on the connection that is lent to it.
own_step : (H : List Event) (e : Entry) (own : Owner) → Lawful (Heard e ∷ H) → place H e.conn ≡ Some (Lent e.tenure own) → (e.call_no == number_of own) ≡ true → asks (work H (number_of own)) ≡ true
    → is_due (line_there H e.conn e.tenure own (number_of own) wishes.Nothing) e.call ≡ true → Needs H (number_of own) → loses (work H (number_of own)) e ≡ false
    → (is_some (decided H (number_of own)) ≡ true) ⊎ (awaited_by (work H (number_of own)) (asked_by H (number_of own)) (number_of own) (heard_in H e.conn e.tenure) ≡ true)
    → (is_some (after_it H e (number_of own)) ≡ true) ⊎ (awaited_by (work H (number_of own)) (asked_by H (number_of own)) (number_of own) (e ∷ heard_in H e.conn e.tenure) ≡ true)
own_step H e own l is mine asking due needs good before = by (begins (work H (number_of own))) refl before
  where
    fits : (fits_of e.call e.answer ≡ true) × (is_memory e.answer ≡ false)
    fits = fitting H e l.1

    asked : Asked
    asked = asked_by H (number_of own)

    L : List Entry
    L = heard_in H e.conn e.tenure

    begin_case : begins (work H (number_of own)) ≡ true → (is_some (decided H (number_of own)) ≡ true) ⊎ (begin_awaits (line_among (number_of own) (heard_in H e.conn e.tenure)) ≡ true)
        → (is_some (after_it H e (number_of own)) ≡ true) ⊎ (begin_awaits (line_among (number_of own) (e ∷ heard_in H e.conn e.tenure)) ≡ true)
    begin_case begin b =
        let at = begin_there H e.conn e.tenure own begin (begin_owner H e.conn e.tenure own l.0 is begin) in
        let s : BeginSettles (after_it H e (number_of own)) (e ∷ line_among (number_of own) (heard_in H e.conn e.tenure)) =
        begin_settles (trying_of H (number_of own)) (caps H) (is_reset_due H e.conn) at.0 at.1 (line_among (number_of own) (heard_in H e.conn e.tenure)) e (decided H (number_of own)) b (ap (λ d. is_due d e.call) (sym at.2) ∙ due) fits.0 fits.1 good
        in
        subst (λ M. BeginSettles (after_it H e (number_of own)) M) (sym (grows_own (number_of own) e (heard_in H e.conn e.tenure) mine)) s

    plain_case : begins (work H (number_of own)) ≡ false → (is_some (decided H (number_of own)) ≡ true) ⊎ (awaits (is_one asked.aim) (heard_in H e.conn e.tenure) (length asked.params) ≡ true)
        → (is_some (after_it H e (number_of own)) ≡ true) ⊎ (awaits (is_one asked.aim) (e ∷ heard_in H e.conn e.tenure) (length asked.params) ≡ true)
    plain_case nobegin b =
        let call = plain_call H e.conn e.tenure own l.0 is nobegin in
        let s = sound H l.0 in
        let f = s.facts in
        let made = f.made e.conn e.tenure own is call in
        let reset = is_reset_due H e.conn in
        let here = line_of_call H e.conn e.tenure own wishes.Nothing l.0 is call in
        let sent : is_due_in_line (call_line H e.conn e.tenure own wishes.Nothing) e.call ≡ true =
        plain_due (call_line H e.conn e.tenure own wishes.Nothing) e.call (line_plain (caps H) reset asked wishes.Nothing (heard_in H e.conn e.tenure)) (ap (λ d. is_due d e.call) (sym here) ∙ due)
        in
        let x : SentAt (caps H) asked wishes.Nothing (step (heard_in H e.conn e.tenure)) (exchanges (heard_in H e.conn e.tenure)) e.call e.answer =
        record {
          before = made;
          after = made_on (caps H) reset asked wishes.Nothing (heard_in H e.conn e.tenure) e.call e.answer made sent (together (fits_of e.call e.answer) (not (is_memory e.answer)) fits.0 (ap not fits.1));
          next = goes_due (caps H) reset asked wishes.Nothing (heard_in H e.conn e.tenure) e.call made sent;
          over = λ rows handed. due_over (caps H) reset asked wishes.Nothing (heard_in H e.conn e.tenure) e.call rows handed made sent;
          sent = sent_of (call_line H e.conn e.tenure own wishes.Nothing) e.call sent;
          fit = fits.0;
          heard = fits.1;
        } in
        or_cases (is_some (after_it H e (number_of own))) (awaits (is_one asked.aim) (e ∷ heard_in H e.conn e.tenure) (length asked.params))
        (settled_on (trying_of H (number_of own)) (caps H) reset asked.text asked.params (work H (number_of own)) wishes.Nothing (heard_in H e.conn e.tenure) e.call
        e.answer (decided H (number_of own)) asking nobegin needs (λ fetch. unlike fetch) x sent (some_or (is_some (decided H (number_of own))) (awaits (is_one asked.aim) (heard_in H e.conn e.tenure) (length asked.params)) b) good)
      where
        unlike : wishes.Nothing ≡ wishes.Fetch → ⊥
        unlike h = cc

    by : (b : Bool) → begins (work H (number_of own)) ≡ b
        → (is_some (decided H (number_of own)) ≡ true) ⊎ (awaited_by (work H (number_of own)) (asked_by H (number_of own)) (number_of own) (heard_in H e.conn e.tenure) ≡ true)
        → (is_some (after_it H e (number_of own)) ≡ true) ⊎ (awaited_by (work H (number_of own)) (asked_by H (number_of own)) (number_of own) (e ∷ heard_in H e.conn e.tenure) ≡ true)
    by true begin b =
        subst (λ x. (is_some (after_it H e (number_of own)) ≡ true) ⊎ (x ≡ true)) (sym (begin_awaited (work H (number_of own)) (asked_by H (number_of own)) (number_of own) (e ∷ heard_in H e.conn e.tenure) begin))
        (begin_case begin (subst (λ x. (is_some (decided H (number_of own)) ≡ true) ⊎ (x ≡ true)) (begin_awaited (work H (number_of own)) (asked_by H (number_of own)) (number_of own) (heard_in H e.conn e.tenure) begin) b))
    by false nobegin b =
        subst (λ x. (is_some (after_it H e (number_of own)) ≡ true) ⊎ (x ≡ true)) (sym (plain_awaited (work H (number_of own)) (asked_by H (number_of own)) (number_of own) (e ∷ heard_in H e.conn e.tenure) nobegin))
        (plain_case nobegin (subst (λ x. (is_some (decided H (number_of own)) ≡ true) ⊎ (x ≡ true)) (plain_awaited (work H (number_of own)) (asked_by H (number_of own)) (number_of own) (heard_in H e.conn e.tenure) nobegin) b))

settles_own : (H : List Event) (e : Entry) (n : ℕ) → Lawful (Heard e ∷ H) → (e.call_no == n) ≡ true → n ≢ 0 → asks (work H n) ≡ true → is_unfinished H n ≡ true → Needs H n → loses (work H n) e ≡ false → Settles H n → Settles (Heard e ∷ H) n
settles_own H e n l mine some asking u needs good before = by way
  where
    number : e.call_no ≡ n
    number = same_number e.call_no n mine

    way : OwnWay H e
    way =
        let there = heard_there H e l.1 in
        let numbered : (e.call_no == 0) ≡ false = other_number e.call_no 0 (λ none. some (sym number ∙ none)) in
        own_way H e l.0 (comes H e (place H e.conn) there.sets there.line numbered) numbered (ap (λ k. asks (work H k)) number ∙ asking)

    by : OwnWay H e → Settles (Heard e ∷ H) n
    by w = result (own_step H e w.owner l w.lent (ap (λ k. e.call_no == k) its ∙ mine) (ap (λ k. asks (work H k)) its ∙ asking) w.due (ap (λ k. needs_answer (caps H) (aim_of (work H k))) its ∙ needs) (ap (λ k. loses (work H k) e) its ∙ good) (still before))
      where
        its : number_of w.owner ≡ n
        its = w.own ∙ number

        still : Settles H n → (is_some (decided H (number_of w.owner)) ≡ true) ⊎ (awaited_by (work H (number_of w.owner)) (asked_by H (number_of w.owner)) (number_of w.owner) (heard_in H e.conn e.tenure) ≡ true)
        still (inl d) = inl (ap (λ k. is_some (decided H k)) its ∙ d)
        still (inr a) =
            let same : a.conn ≡ e.conn = sym (at_home H a.conn a.tenure a.owner l.0 a.lent) ∙ ap (home H) (a.number ∙ sym its) ∙ at_home H e.conn e.tenure w.owner l.0 w.lent in
            let here = same_lent a.tenure e.tenure a.owner w.owner (sym (ap (place H) (sym same) ∙ a.lent) ∙ w.lent) in
            inr (subst (λ k. awaited_by (work H k) (asked_by H k) k (heard_in H e.conn e.tenure) ≡ true) (sym its)
            (subst (λ t. awaited_by (work H n) (asked_by H n) n (heard_in H e.conn t) ≡ true) here.0 (subst (λ c. awaited_by (work H n) (asked_by H n) n (heard_in H c a.tenure) ≡ true) same a.awaited)))

        result : (is_some (after_it H e (number_of w.owner)) ≡ true) ⊎ (awaited_by (work H (number_of w.owner)) (asked_by H (number_of w.owner)) (number_of w.owner) (e ∷ heard_in H e.conn e.tenure) ≡ true) → Settles (Heard e ∷ H) n
        result (inl d) =
            inl (subst (λ k. is_some (decided (Heard e ∷ H) k) ≡ true) number
            (ap (λ o. is_some o) (own_record H e (not_looking (work H e.call_no) (ap (λ k. asks (work H k)) number ∙ asking)) (λ none. some (sym number ∙ none))) ∙ subst (λ k. is_some (after_it H e k) ≡ true) w.own d))
        result (inr k) = inr (record {
          conn = e.conn;
          tenure = e.tenure;
          owner = w.owner;
          number = its;
          lent = w.lent;
          awaited =
              awaited_as (work H n) (work H n) (asked_by H n) (asked_by (Heard e ∷ H) n) n (e ∷ heard_in H e.conn e.tenure) (heard_in (Heard e ∷ H) e.conn e.tenure) refl (asked_stays H (Heard e) n (not_looking (work H n) asking))
              (heard_more H e e.conn e.tenure w.owner l.1 w.lent refl) (subst (λ j. awaited_by (work H j) (asked_by H j) j (e ∷ heard_in H e.conn e.tenure) ≡ true) its k);
        })

settles_heard : (H : List Event) (e : Entry) (n : ℕ) → Lawful (Heard e ∷ H) → is_unfinished H n ≡ true → asks (work H n) ≡ true → Needs H n → ((e.call_no == n) && loses (work H n) e) ≡ false → Settles H n → Settles (Heard e ∷ H) n
settles_heard H e n l u asking needs good before = by (e.call_no == n) refl before
  where
    apart : (e.call_no == n) ≡ false → n ≢ e.call_no
    apart other same = never (e.call_no == n) (ap (λ k. e.call_no == k) same ∙ same_itself e.call_no) other

    by : (b : Bool) → (e.call_no == n) ≡ b → Settles H n → Settles (Heard e ∷ H) n
    by true mine s = settles_own H e n l mine (unfinished_from_one H n l.0 u) asking u needs (not_both (e.call_no == n) (loses (work H n) e) mine good) s
    by false other (inl d) = inl (ap (λ r. is_some r.decided) (other_heard H e n (apart other)) ∙ d)
    by false other (inr a) = inr (other_awaits H e n l u asking needs other (apart other) a)

-- The events, one by one.

-- A call that was served asks for a connection of its own.
pub served_asks : (H : List Event) (n : ℕ) → Lawful H → was_served (tries H n) ≡ true → n ≢ 0 → asks (work H n) ≡ true
served_asks [] n l h some = absurd cc
served_asks (Entered client m op ∷ H) n l h some =
    let own = served_asks H n l.0 h some in
    ap asks (work_stays H (Entered client m op) n (not_looking (work H n) own)) ∙ own
served_asks (Heard e ∷ H) n l h some = let kept = still_served ((e.call_no == n) && loses (work H n) e) (tries H n) h in served_asks H n l.0 kept.1 some
served_asks (Pool (Lend c t o m) ∷ H) n l h some = by (λ k. served_asks H n l.0 k some) (m == n) refl h
  where
    by : (was_served (tries H n) ≡ true → asks (work H n) ≡ true) → (b : Bool) → (m == n) ≡ b → was_served (with_try b Served (tries H n)) ≡ true → asks (work H n) ≡ true
    by rest true is k = let same = same_number m n is in subst (λ j. asks (work H j) ≡ true) same (lends_asker H c t o m l.0 l.1 (λ none. some (sym same ∙ none)))
    by rest false is k = rest k
served_asks (Pool (Fell c m) ∷ H) n l h some = by (λ k. served_asks H n l.0 k some) (m == n) h
  where
    by : (was_served (tries H n) ≡ true → asks (work H n) ≡ true) → (b : Bool) → was_served (with_try b (Refused (newest_answer H)) (tries H n)) ≡ true → asks (work H n) ≡ true
    by rest true k = absurd cc
    by rest false k = rest k
served_asks (_ ∷ H) n l h some = served_asks H n l.0 h some

run_serves_none : (H : List Event) (version : ℕ) (can : Caps) (n : ℕ) → Allowed H (Run version can) → was_served (tries H n) ≡ true → ⊥
run_serves_none [] version can n a h = cc
run_serves_none (e ∷ H) version can n a h = let k = both (begins_with_run (e ∷ H) (Run version can)) (goes_forward (e ∷ H) (Run version can) && ends_once (e ∷ H) (Run version can)) (course_of (e ∷ H) (Run version can) a) in not_first k.0
  where
    not_first : false ≡ true → ⊥
    not_first k = cc

settles : (H : List Event) (n : ℕ) → Lawful H → n ≢ 0 → is_unfinished H n ≡ true → was_served (tries H n) ≡ true → Needs H n → Settles H n
settles [] n l some u h needs = absurd cc
settles (Run version can ∷ H) n l some u h needs = absurd (run_serves_none H version can n l.1 h)
settles (Entered client m op ∷ H) n l some u h needs =
    let own = served_asks H n l.0 h some in
    let busy = not_looking (work H n) own in
    let apart = not_new H client m op n l.1 busy in
    let needed : Needs H n = ap (λ it. needs_answer (caps H) (aim_of it)) (sym (work_stays H (Entered client m op) n busy)) ∙ needs in
    settles_quiet H (Entered client m op) n l refl own u needed (settles H n l.0 some (sym (old_unfinished H client m op n apart) ∙ u) h needed)
settles (Heard e ∷ H) n l some u h needs =
    let kept = still_served ((e.call_no == n) && loses (work H n) e) (tries H n) h in
    settles_heard H e n l u (served_asks H n l.0 kept.1 some) needs kept.0 (settles H n l.0 some u kept.1 needs)
settles (Pool (OpenStart c m) ∷ H) n l some u h needs = settles_quiet H (Pool (OpenStart c m)) n l refl (served_asks H n l.0 h some) u needs (settles H n l.0 some u h needs)
settles (Pool (Lend c t o m) ∷ H) n l some u h needs = by (settles H n l.0 some u) (m == n) refl h
  where
    by : (was_served (tries H n) ≡ true → Needs H n → Settles H n) → (b : Bool) → (m == n) ≡ b → was_served (with_try b Served (tries H n)) ≡ true → Settles (Pool (Lend c t o m) ∷ H) n
    by earlier true is k = subst (λ j. Settles (Pool (Lend c t o m) ∷ H) j) (same_number m n is) (inr (awaits_lent H c t o m l))
    by earlier false is k = settles_quiet H (Pool (Lend c t o m)) n l refl (served_asks H n l.0 k some) u needs (earlier k needs)
settles (Pool (Back c) ∷ H) n l some u h needs = settles_quiet H (Pool (Back c)) n l refl (served_asks H n l.0 h some) u needs (settles H n l.0 some u h needs)
settles (Pool (CloseStart c why) ∷ H) n l some u h needs = settles_quiet H (Pool (CloseStart c why)) n l refl (served_asks H n l.0 h some) u needs (settles H n l.0 some u h needs)
settles (Pool (Gone c) ∷ H) n l some u h needs = settles_quiet H (Pool (Gone c)) n l refl (served_asks H n l.0 h some) u needs (settles H n l.0 some u h needs)
settles (Pool (Fell c m) ∷ H) n l some u h needs = by (settles H n l.0 some u) (m == n) h
  where
    by : (was_served (tries H n) ≡ true → Needs H n → Settles H n) → (b : Bool) → was_served (with_try b (Refused (newest_answer H)) (tries H n)) ≡ true → Settles (Pool (Fell c m) ∷ H) n
    by earlier true k = absurd cc
    by earlier false k = settles_quiet H (Pool (Fell c m)) n l refl (served_asks H n l.0 k some) u needs (earlier k needs)
settles (Replied m reply ∷ H) n l some u h needs =
    let b = still_unfinished H m reply n u in
    settles_quiet H (Replied m reply) n l refl (served_asks H n l.0 h some) u needs (settles H n l.0 some b.1 h needs)
settles (e ∷ H) n l some u h needs = settles_quiet H e n l refl (served_asks H n l.0 h some) u needs (settles H n l.0 some u h needs)

-- If the call has nothing more to send, it has settled its reply.

served_decides : (H : List Event) (n : ℕ) → Lawful H → is_unfinished H n ≡ true → was_served (tries H n) ≡ true → Needs H n → is_some (due_for H n) ≡ false → is_some (decided H n) ≡ true
served_decides H n l u h needs none = by (settles H n l (unfinished_from_one H n l u) u h needs)
  where
    by : Settles H n → is_some (decided H n) ≡ true
    by (inl d) = d
    by (inr a) =
        let own = served_asks H n l h (unfinished_from_one H n l u) in
        let its : due_for H n ≡ line_there H a.conn a.tenure a.owner n wishes.Nothing =
        ap (λ (b : Bool). cond b (due_in H n (work H n)) None) u ∙ due_line H n (work H n) own ∙ line_here H a.conn a.tenure a.owner n wishes.Nothing l a.lent (asks_own H n own ∙ sym a.number)
        in
        absurd (never (is_some (due_for H n)) (ap (λ d. is_some d) its ∙ awaiting_sends H n l needs a) none)

-- A ping that needs no answer has its reply as it gets its connection.
told_lent : (can : Caps) (it : Work) (ts : List Try) → needs_answer can (aim_of it) ≡ false → was_served ts ≡ true → is_some (told_as_lent can it ts) ≡ true
told_lent can works_of.Ping (Served ∷ earlier) needless h = ap (λ (b : Bool). is_some (cond b None (Some reply.Ok))) needless
told_lent can (works_of.Statement s tasks.Execute) ts needless h = absurd cc
told_lent can (works_of.Statement s (tasks.ReadOne dests)) ts needless h = absurd cc
told_lent can (works_of.Statement s (tasks.HandOut label)) ts needless h = absurd cc
told_lent can _ _ needless h = absurd cc

lent_settled : (o p q : Option Reply) → is_some q ≡ true → is_some (or_else (or_else o p) q) ≡ true
lent_settled None None q h = h
lent_settled None (Some other) q h = refl
lent_settled (Some own) p q h = refl

pub served_replies : (H : List Event) (n : ℕ) → Lawful H → is_unfinished H n ≡ true → was_served (tries H n) ≡ true → is_some (due_for H n) ≡ false → is_some (reply_due H n) ≡ true
served_replies H n l u h none = by (needs_answer (caps H) (aim_of (work H n))) refl
  where
    by : (b : Bool) → needs_answer (caps H) (aim_of (work H n)) ≡ b → is_some (reply_due H n) ≡ true
    by true needs = own_settled (decided H n) (told_by_others H n) (told_at_lending H n) (served_decides H n l u h needs none)
    by false needless = lent_settled (decided H n) (told_by_others H n) (told_at_lending H n) (told_lent (caps H) (work H n) (tries H n) needless h)
