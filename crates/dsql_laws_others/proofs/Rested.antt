-- A call that rests with its connection has heard nothing there except that the connection was reset. So the
-- connection is good. The argument goes from event to event of the tenure.
use Rattle.std.proofs.Common.{◌≡◌, ◌≢◌, ℕ, ◌==◌, ◌⊎◌, inl, inr, Bool, true, false, not, ◌&&◌, ◌||◌, cond, List, [], ◌∷◌, length, Option, Some, None, refl, sym, ap, subst, ◌∙◌, arith, if◌then◌else◌}
use Rattle.std.specs.List.{list_all}
use Rattle.dsql_laws_calls.specs.driver.declared.caps.Caps.{Caps}
use Rattle.dsql_laws_calls.specs.driver.declared.answer.DriverAnswer.{DriverAnswer}
use Rattle.dsql_laws_calls.specs.driver.declared.call.DriverCall.{DriverCall}
use Rattle.dsql_laws_calls.specs.driver.declared.call.DriverCall.TheVariants.{Reset, Valid}
use Rattle.dsql_laws_calls.specs.driver.Kinds.{is_bad, is_reset, is_valid}
use Rattle.dsql_laws_calls.specs.course.declared.call.Due.{Due}
use Rattle.dsql_laws_calls.specs.course.declared.call.Due.TheVariants as due
use Rattle.dsql_laws_calls.specs.course.declared.course.Course.TheVariants as courses
use Rattle.dsql_laws_calls.specs.course.declared.course.Wish.{Wish}
use Rattle.dsql_laws_calls.specs.course.Made.{Exchange, went_bad}
use Rattle.dsql_laws_calls.specs.course.Steps.{Step, PingIt, step_of}
use Rattle.dsql_laws_calls.specs.course.Line.{behind_call, comes_next, first_wanted, or_then, steps_left, when}
use Rattle.dsql_laws_calls.specs.journal.declared.entry.Entry.{Entry}
use Rattle.dsql_laws_calls.specs.journal.declared.entry.Owner.{Owner}
use Rattle.dsql_laws_calls.specs.journal.Kinds.{is_call, number_of}
use Rattle.dsql_laws_calls.specs.journal.Readers.{of_tenure}
use Rattle.dsql_laws_calls.specs.journal.Readers as journals
use Rattle.dsql_laws_calls.specs.pool.declared.conn.Place.TheVariants.{Lent}
use Rattle.dsql_laws_calls.specs.pool.declared.moves.Fate.TheVariants.{Good}
use Rattle.dsql_laws_calls.specs.pool.declared.moves.Move.TheVariants.{Lend, Fell}
use Rattle.dsql_laws_calls.specs.works.declared.work.Aim.TheVariants as aims
use Rattle.dsql_laws_calls.specs.works.Journals.{ends_invalid}
use Rattle.dsql_laws_calls.specs.works.Exchanges.{exchanges}
use Rattle.dsql_laws_calls.specs.works.Line.{Asked, body_after, found, line_after, sent_as}
use Rattle.dsql_laws_calls.proofs.laws_work.Lines.{sends_no_more}
use Rattle.dsql_laws_calls.specs.history.declared.record.Try.{Try}
use Rattle.dsql_laws_calls.specs.history.declared.record.Try.TheVariants.{Served, Refused}
use Rattle.dsql_laws_calls.specs.history.Readers.Owed.{fate_when, fate}
use Rattle.dsql_laws_calls.specs.history.Readers.Tries.{lost, with_try, is_tried, loses, newest_answer, tries}
use Rattle.dsql_laws_calls.proofs.laws.Tests.{both, together, same_itself, other_number}
use Rattle.dsql_laws_calls.proofs.laws_work.Rows.{same_or_not}
use Rattle.dsql_laws_calls.specs.history.declared.event.Event.{Event}
use Rattle.dsql_laws_calls.specs.history.declared.event.Event.TheVariants.{Run, Entered, Heard, Pool, Replied}
use Rattle.dsql_laws_calls.specs.history.declared.event.Op.{Op}
use Rattle.dsql_laws_calls.specs.history.declared.work.Work.{Work}
use Rattle.dsql_laws_calls.specs.history.declared.work.Work.TheVariants.{Ping}
use Rattle.dsql_laws_calls.specs.history.Readers.Calls.{asks_nothing, rests}
use Rattle.dsql_laws_calls.specs.history.Readers.Course.{caps}
use Rattle.dsql_laws_calls.specs.history.Readers.Journals.{heard_in, journal}
use Rattle.dsql_laws_calls.specs.history.Readers.Pool.{place}
use Rattle.dsql_laws_calls.specs.history.Readers.Unfinished.{is_unfinished}
use Rattle.dsql_laws_calls.specs.history.Readers.Works.{asks, aim_of, owner_as, work}
use Rattle.dsql_laws_calls.specs.history.Rules.Line.{is_due}
use Rattle.dsql_laws_calls.specs.history.Rules.Sent.{asked_by, is_reset_due}
use Rattle.dsql_laws_calls.specs.history.Legal.{Allowed, Lawful}
use Rattle.dsql_laws_calls.proofs.AtEnd.{no_work_yet}
use Rattle.dsql_laws_calls.proofs.BeginningsAt.{heard_more, heard_other}
use Rattle.dsql_laws_calls.proofs.Begun.{begun_begins}
use Rattle.dsql_laws_calls.proofs.Coming.{sound}
use Rattle.dsql_laws_calls.proofs.Lent.{Lends, lent_before}
use Rattle.dsql_laws_calls.proofs.Makers.{hands_out, rows_hand_out}
use Rattle.dsql_laws_calls.proofs.Owners.{lent_asks, owner_is_of}
use Rattle.dsql_laws_calls.proofs.Plain.{begins}
use Rattle.dsql_laws_calls.proofs.Sound.{was_under_way}
use Rattle.dsql_laws_calls.proofs.Tenures.{fresh_lending}
use Rattle.dsql_laws_calls.proofs.Unspoilt.{is_spoilt, Fine, fine}
use Rattle.dsql_laws_calls.proofs.Why.{Why}
use Rattle.dsql_laws_calls.proofs.Works.{enters_next, still_unfinished}
use Rattle.dsql_laws_calls.proofs.Spared.{was_heard, was_opened}
use Rattle.dsql_laws_others.proofs.Entries.{rests_entered}
use Rattle.dsql_laws_others.proofs.LentBeside.{unlent_before}

-- What is known of a call that rests.
pub record Resting (can : Caps) (it : Work) (ts : List Try) : Type 0 where
  pub pings : it ≡ Ping
  pub pingless : can.pinger ≡ false
  pub testless : can.validator ≡ false

pub resting : (can : Caps) (it : Work) (ts : List Try) → asks_nothing can it ts ≡ true → Resting can it ts
resting can Ping (Served ∷ ts) h = let b = neither (can.pinger) (can.validator) h in record { pings = refl; pingless = b.0; testless = b.1 }
  where
    neither : (p v : Bool) → not (p || v) ≡ true → (p ≡ false) × (v ≡ false)
    neither true v k = absurd cc
    neither false true k = absurd cc
    neither false false k = (refl, refl)
resting can _ _ h = absurd cc

-- A call that rests pings.
pub rests_pinging : (H : List Event) (n : ℕ) → rests H n ≡ true → Resting (caps H) (work H n) (tries H n)
rests_pinging H n h = let b = both (is_unfinished H n) (asks_nothing (caps H) (work H n) (tries H n)) h in resting (caps H) (work H n) (tries H n) b.1

-- Nothing except a `Reset` is sent for it.

abbrev AtMostPing : List Step → Type 0
AtMostPing ss = (ss ≡ []) ⊎ (ss ≡ PingIt ∷ [])

left_ping : (made : List Exchange) → AtMostPing (steps_left courses.Ping made)
left_ping [] = inr refl
left_ping (x ∷ earlier) = by x.0
  where
    by : (call : Due) → AtMostPing (behind_call (step_of call) (PingIt ∷ []))
    by due.Text = inl refl
    by _ = inl refl

first_over : (can : Caps) (args : ℕ) (made : List Exchange) (ss : List Step) → can.pinger ≡ false → AtMostPing ss → first_wanted courses.Ping can args (found false) made ss ≡ due.Over
first_over can args made ss none (inl is) = ap (first_wanted courses.Ping can args (found false) made) is
first_over can args made ss none (inr is) = ap (first_wanted courses.Ping can args (found false) made) is ∙ ap (λ (b : Bool). or_then (when (b && true) due.Ping) due.Over) none

comes_over : (can : Caps) (args : ℕ) (made : List Exchange) → can.pinger ≡ false → comes_next courses.Ping can args (found false) made ≡ due.Over
comes_over can args made none = by (went_bad made)
  where
    by : (b : Bool) → (if b then due.Over else first_wanted courses.Ping can args (found false) made (steps_left courses.Ping made)) ≡ due.Over
    by true = refl
    by false = first_over can args made (steps_left courses.Ping made) none (left_ping made)

unsent : (can : Caps) (asked : Asked) (w : Wish) (made : List Exchange) → asked.aim ≡ aims.Ping → can.pinger ≡ false → can.validator ≡ false → body_after can false asked w made ≡ None
unsent can asked w made aim pingless testless =
    let of : Asked = record { text = asked.text; params = asked.params; aim = aims.Ping } in
    ap (λ a. body_after can false (record { text = asked.text; params = asked.params; aim = a }) w made) aim
    ∙ (ap (sent_as can of) (comes_over can (length asked.params) made pingless) ∙ ap (λ (b : Bool). cond b (Some Valid) None) testless)

reset_only : (q : DriverCall) → is_due (Some Reset) q ≡ true → q ≡ Reset
reset_only Reset h = refl
reset_only q h = absurd cc

none_due : (d : Option DriverCall) (q : DriverCall) → d ≡ None → is_due d q ≡ true → q ≡ Reset
none_due d q none h = let clash : is_due None q ≡ true = ap (λ o. is_due o q) (sym none) ∙ h in absurd cc

only_reset : (can : Caps) (reset : Bool) (asked : Asked) (w : Wish) (L : List Entry) (q : DriverCall) → ((made : List Exchange) → body_after can false asked w made ≡ None) → is_due (line_after can reset asked w L) q ≡ true
    → q ≡ Reset
only_reset can true asked w [] q none h = reset_only q h
only_reset can false asked w [] q none h = none_due (body_after can false asked w []) q (none []) h
only_reset can reset asked w (e ∷ L) q none h = by (is_bad e.answer || is_valid e.call) h
  where
    by : (b : Bool) → is_due (cond b None (body_after can false asked w (exchanges (e ∷ L)))) q ≡ true → q ≡ Reset
    by true k = none_due None q refl k
    by false k = none_due (body_after can false asked w (exchanges (e ∷ L))) q (none (exchanges (e ∷ L))) k

-- A call that rests after an event rested before it, if the event leaves its connection.

never_lost : (can : Caps) (it : Work) (ts : List Try) → asks_nothing can it (lost ts) ≡ true → false ≡ true
never_lost can it ts h = let r = resting can it (lost ts) h in by ts (ap (λ w. asks_nothing can w (lost ts)) (sym r.pings) ∙ h)
  where
    by : (us : List Try) → asks_nothing can Ping (lost us) ≡ true → false ≡ true
    by (Served ∷ us) k = k
    by _ k = k

not_lost : (b : Bool) (can : Caps) (it : Work) (ts : List Try) → asks_nothing can it (cond b (lost ts) ts) ≡ true → (b ≡ false) × (asks_nothing can it ts ≡ true)
not_lost true can it ts h = let clash : false ≡ true = never_lost can it ts h in absurd cc
not_lost false can it ts h = (refl, h)

not_refused : (b : Bool) (can : Caps) (it : Work) (answer : DriverAnswer) (ts : List Try) → asks_nothing can it (with_try b (Refused answer) ts) ≡ true → asks_nothing can it ts ≡ true
not_refused true can it answer ts h = let r = resting can it (Refused answer ∷ ts) h in let clash : asks_nothing can Ping (Refused answer ∷ ts) ≡ true = ap (λ w. asks_nothing can w (Refused answer ∷ ts)) (sym r.pings) ∙ h in absurd cc
not_refused false can it answer ts h = h

together_again : (u a b : Bool) → (u && a) ≡ true → (a ≡ true → b ≡ true) → (u && b) ≡ true
together_again true a b h so = so h
together_again false a b h so = h

run_first : (e : Event) (H : List Event) (version : ℕ) (can : Caps) → Allowed (e ∷ H) (Run version can) → false ≡ true
unfolding Allowed
run_first e H version can a = a.course

pub not_new : (H : List Event) (client m : ℕ) (op : Op) (c t : ℕ) (own : Owner) → Lawful (Entered client m op ∷ H) → place H c ≡ Some (Lent t own) → number_of own ≢ m
not_new H client m op c t own l before same =
    let new = enters_next H client m op l.1 in
    let clash : false ≡ true = sym (ap asks (no_work_yet H (number_of own) (omega (arith, new, same)))) ∙ lent_asks H c t own l.0 before in
    cc

-- An answer on its connection is to a `Reset`, and isn't `Bad`.

was_good : (it : Work) (e : Entry) (own : Bool) → own ≡ true → e.call ≡ Reset → (own && loses it e) ≡ false → (is_bad e.answer || is_valid e.call) ≡ false
was_good it e own its is kept =
    ap (λ q. is_bad e.answer || is_valid q) is
    ∙ by (is_bad e.answer) (sym (ap (λ b. b && (is_tried it e.call && is_bad e.answer)) its ∙ ap (λ q. is_tried it q && is_bad e.answer) is) ∙ kept)
  where
    by : (b : Bool) → b ≡ false → (b || false) ≡ false
    by true h = h
    by false h = refl

-- A ping is lent its connection as a call on the database.
pub pings_as_call : (H : List Event) (c t : ℕ) (own : Owner) → Lawful H → place H c ≡ Some (Lent t own) → work H (number_of own) ≡ Ping → is_call own ≡ true
pings_as_call H c t own l at pings = let o = owner_is_of H c t own l at in ap is_call (o.1 ∙ ap (λ w. owner_as w (number_of own)) pings)

-- Only the ping sends there.
sends_itself : (H : List Event) (c t : ℕ) (own : Owner) (m : ℕ) → Lawful H → work H (number_of own) ≡ Ping → Why H c t own m → m ≡ number_of own
sends_itself H c t own m l pings (inl why) = sym why.itself
sends_itself H c t own m l pings (inr (inl why)) = let clash : false ≡ true = sym (ap hands_out pings) ∙ rows_hand_out H (number_of own) why.some in absurd cc
sends_itself H c t own m l pings (inr (inr why)) = let clash : false ≡ true = sym (ap begins pings) ∙ begun_begins H (number_of own) l why.begun in absurd cc

-- A tenure with nothing but resets, none of which ends it.
pub record OnlyReset (L : List Entry) : Type 0 where
  pub on : sends_no_more L ≡ false
  pub resets : list_all (λ x. is_reset x.call) L ≡ true

more_reset : (L M : List Entry) (e : Entry) → M ≡ e ∷ L → e.call ≡ Reset → (is_bad e.answer || is_valid e.call) ≡ false → OnlyReset L → OnlyReset M
more_reset L M e is reset on s = record {
  on = ap sends_no_more is ∙ on;
  resets = ap (list_all (λ x. is_reset x.call)) is ∙ (ap (λ q. is_reset q && list_all (λ x. is_reset x.call) L) reset ∙ s.resets);
}

answered : (H : List Event) (e : Entry) (c t : ℕ) (own : Owner) → Lawful (Heard e ∷ H) → place H c ≡ Some (Lent t own) → rests (Heard e ∷ H) (number_of own) ≡ true → e.conn ≡ c → (rests H (number_of own) ≡ true → OnlyReset (heard_in H c t))
    → OnlyReset (heard_in (Heard e ∷ H) c t)
answered H e c t own l at h same had =
    let n = number_of own in
    let is : place H e.conn ≡ Some (Lent t own) = ap (place H) same ∙ at in
    let w = was_under_way H e t own l.1 (sound H l.0) is in
    let u = w.way in
    let b = both (is_unfinished H n) (asks_nothing (caps H) (work H n) (tries (Heard e ∷ H) n)) h in
    let kept = not_lost ((e.call_no == n) && loses (work H n) e) (caps H) (work H n) (tries H n) b.1 in
    let r = resting (caps H) (work H n) (tries H n) kept.1 in
    let its : number_of u.owner ≡ n = ap number_of w.owner in
    let pings : work H (number_of u.owner) ≡ Ping = ap (work H) its ∙ r.pings in
    let whose : e.call_no ≡ n = sends_itself H e.conn e.tenure u.owner e.call_no l.0 pings u.why ∙ its in
    let mine : (e.call_no == n) ≡ true = ap (λ i. i == n) whose ∙ same_itself n in
    let due = u.line (pings_as_call H e.conn e.tenure u.owner l.0 u.lent pings) in
    let reset = only_reset (caps H) (is_reset_due H e.conn) (asked_by H (number_of u.owner)) due.0 (heard_in H e.conn e.tenure) e.call
    (λ made. unsent (caps H) (asked_by H (number_of u.owner)) due.0 made (ap aim_of pings) r.pingless r.testless) due.1
    in
    more_reset (heard_in H c t) (heard_in (Heard e ∷ H) c t) e (heard_more H e c t own l.1 at same) reset (was_good (work H n) e (e.call_no == n) mine reset kept.0)
    (had (together (is_unfinished H n) (asks_nothing (caps H) (work H n) (tries H n)) b.0 kept.1))

-- So nothing was heard there except a `Reset` that went well.

step : (H : List Event) (e : Event) (c t : ℕ) (own : Owner) → Lawful (e ∷ H) → place H c ≡ Some (Lent t own) → rests (e ∷ H) (number_of own) ≡ true
    → (rests H (number_of own) ≡ true → OnlyReset (heard_in H c t)) → OnlyReset (heard_in (e ∷ H) c t)
step H (Heard e) c t own l before h had = by (same_or_not e.conn c)
  where
    n : ℕ
    n = number_of own

    by : (e.conn ≡ c) ⊎ (e.conn ≢ c) → OnlyReset (heard_in (Heard e ∷ H) c t)
    by (inl same) = answered H e c t own l before h same had
    by (inr apart) =
        subst (λ J. OnlyReset (of_tenure t J)) (sym (heard_other H e c apart))
        (had (together_again (is_unfinished H n) (asks_nothing (caps H) (work H n) (tries (Heard e ∷ H) n)) (asks_nothing (caps H) (work H n) (tries H n)) h
        (λ k. (not_lost ((e.call_no == n) && loses (work H n) e) (caps H) (work H n) (tries H n) k).1)))
step H (Entered client m op) c t own l before h had = had (sym (rests_entered H client m op (number_of own) l (not_new H client m op c t own l before)) ∙ h)
step H (Pool (Lend d u o k)) c t own l before h had =
    had (sym (ap (λ b. is_unfinished H (number_of own) && asks_nothing (caps H) (work H (number_of own)) (with_try b Served (tries H (number_of own))))
    (other_number k (number_of own) (λ same. unlent_before H d u o k c t own l before (sym same)))) ∙ h)
step H (Pool (Fell d k)) c t own l before h had =
    let n = number_of own in
    had (together_again (is_unfinished H n) (asks_nothing (caps H) (work H n) (with_try (k == n) (Refused (newest_answer H)) (tries H n))) (asks_nothing (caps H) (work H n) (tries H n)) h
    (not_refused (k == n) (caps H) (work H n) (newest_answer H) (tries H n)))
step H (Replied k reply) c t own l before h had =
    let n = number_of own in
    let b = both (is_unfinished (Replied k reply ∷ H) n) (asks_nothing (caps H) (work H n) (tries H n)) h in
    let u = still_unfinished H k reply n b.0 in
    had (together (is_unfinished H n) (asks_nothing (caps H) (work H n) (tries H n)) u.1 b.1)
step [] (Run version can) c t own l before h had = absurd cc
step (e ∷ H) (Run version can) c t own l before h had = let clash : false ≡ true = run_first e H version can l.1 in absurd cc
step H _ c t own l before h had = had h

pub only_resets : (H : List Event) (c t : ℕ) (own : Owner) → Lawful H → place H c ≡ Some (Lent t own) → rests H (number_of own) ≡ true → OnlyReset (heard_in H c t)
only_resets [] c t own l at h = absurd cc
only_resets (e ∷ H) c t own l at h = by (λ before was. only_resets H c t own l.0 before was) (lent_before H e c t own l.0 at)
  where
    none : (L : List Entry) → L ≡ [] → OnlyReset L
    none L is = record { on = ap sends_no_more is; resets = ap (list_all (λ x. is_reset x.call)) is }

    by : (place H c ≡ Some (Lent t own) → rests H (number_of own) ≡ true → OnlyReset (heard_in H c t)) → (place H c ≡ Some (Lent t own)) ⊎ Lends e c t own → OnlyReset (heard_in (e ∷ H) c t)
    by earlier (inl before) = step H e c t own l before h (earlier before)
    by earlier (inr (k, is)) =
        let a : Allowed H (Pool (Lend c t own k)) = subst (λ it. Allowed H it) is l.1 in
        none (heard_in (e ∷ H) c t) (ap (λ it. heard_in (it ∷ H) c t) is ∙ fresh_lending H c t own k l.0 a)

good : (bad invalid : Bool) → (bad || invalid) ≡ false → fate_when bad invalid ≡ Good
good true invalid h = absurd cc
good false true h = absurd cc
good false false h = refl

pub rests_well : (H : List Event) (c t : ℕ) (own : Owner) → Lawful H → place H c ≡ Some (Lent t own) → rests H (number_of own) ≡ true → fate H c ≡ Good
rests_well H c t own l at h = good (journals.went_bad (journal H c)) (ends_invalid (journal H c)) (by (is_spoilt (journal H c)) refl)
  where
    there : Fine (was_heard c H) (was_opened c H) (journal H c) (Some (Lent t own))
    there = subst (λ p. Fine (was_heard c H) (was_opened c H) (journal H c) p) at (fine H l c)

    clash : (b : Bool) → b ≡ true → b ≡ false → ⊥
    clash b x y = cc

    by : (b : Bool) → is_spoilt (journal H c) ≡ b → b ≡ false
    by false is = refl
    by true is = let r = rests_pinging H (number_of own) h in absurd (clash (sends_no_more (heard_in H c t)) (there (pings_as_call H c t own l at r.pings) is) (let o = only_resets H c t own l at h in o.on))
