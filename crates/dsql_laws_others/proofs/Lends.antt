-- A call that is lent a connection sends there at once, because its line begins with a driver call.
use Rattle.std.proofs.Common.{◌≡◌, ◌≢◌, ℕ, ◌==◌, Bool, true, false, not, ◌||◌, cond, List, [], ◌∷◌, Option, Some, None, is_some, refl, sym, ap, ◌∙◌, ◌&&◌, is_none}
use Rattle.std.proofs.lemmas.Bool.{or_right}
use Rattle.dsql_laws_calls.specs.wait.declared.request.Request.{Request}
use Rattle.dsql_laws_calls.specs.wait.Requests.{waits, without_call}
use Rattle.dsql_laws_calls.specs.pool.Places.{is_for}
use Rattle.dsql_laws_calls.proofs.laws.Tests.{same_number, same_itself}
use Rattle.std.specs.List.{list_any}
use Rattle.std.specs.Option.{option_map}
use Rattle.dsql_laws_calls.specs.driver.declared.caps.Caps.{Caps}
use Rattle.dsql_laws_calls.specs.driver.declared.call.DriverCall.TheVariants.{Valid, Reset}
use Rattle.dsql_laws_calls.specs.driver.declared.call.DriverCall.TheVariants as calls
use Rattle.dsql_laws_calls.specs.course.declared.call.Due.TheVariants as due
use Rattle.dsql_laws_calls.specs.course.declared.course.Course.TheVariants as courses
use Rattle.dsql_laws_calls.specs.course.declared.course.Wish.{Wish}
use Rattle.dsql_laws_calls.specs.course.declared.course.Wish.TheVariants as wishes
use Rattle.dsql_laws_calls.specs.course.Made.{has_fast_way}
use Rattle.dsql_laws_calls.specs.journal.declared.entry.Entry.{Entry}
use Rattle.dsql_laws_calls.specs.journal.declared.entry.Owner.{Owner}
use Rattle.dsql_laws_calls.specs.journal.Kinds.{is_call}
use Rattle.dsql_laws_calls.specs.rows.declared.rows.Rows.{Rows}
use Rattle.dsql_laws_calls.specs.rows.OpenRows.{is_live}
use Rattle.dsql_laws_calls.specs.pool.declared.conn.Place.TheVariants.{Lent}
use Rattle.dsql_laws_calls.specs.pool.declared.moves.Move.TheVariants.{Lend}
use Rattle.dsql_laws_calls.specs.pool.Changes.{lent}
use Rattle.dsql_laws_calls.specs.works.declared.work.Aim.{Aim}
use Rattle.dsql_laws_calls.specs.works.declared.work.Aim.TheVariants as aims
use Rattle.dsql_laws_calls.specs.works.Line.{Asked, body_after, line_after, sent_as}
use Rattle.dsql_laws_calls.proofs.laws_work.MadeLines.{body_before, first_call, first_of}
use Rattle.dsql_laws_calls.specs.history.declared.record.Stand.TheVariants as stands_at
use Rattle.dsql_laws_calls.specs.history.declared.record.Try.{Try}
use Rattle.dsql_laws_calls.specs.history.declared.record.Try.TheVariants.{Served}
use Rattle.dsql_laws_calls.specs.history.Readers.HandedOut.{live, rows_by, are_live}
use Rattle.dsql_laws_calls.specs.history.Readers.Pool.{is_home, or_none, smallest, pool, place, home}
use Rattle.dsql_laws_calls.specs.history.Readers.Tries.{asks_again, with_try, tries}
use Rattle.dsql_laws_calls.proofs.laws.Truths.{or_first}
use Rattle.dsql_laws_calls.proofs.laws.Places.{neither, none_opens}
use Rattle.dsql_laws_calls.proofs.laws.Wanted.{none_wanted}
use Rattle.dsql_laws_calls.proofs.Cases.{true_false}
use Rattle.dsql_laws_calls.proofs.Found.{changed_place}
use Rattle.dsql_laws_others.proofs.Answered.{rests_there, replies_first}
use Rattle.dsql_laws_calls.specs.history.declared.event.Event.{Event}
use Rattle.dsql_laws_calls.specs.history.declared.event.Event.TheVariants.{Pool}
use Rattle.dsql_laws_calls.specs.history.declared.work.Scope.TheVariants.{Db}
use Rattle.dsql_laws_calls.specs.history.declared.work.Work.{Work}
use Rattle.dsql_laws_calls.specs.history.declared.work.Task.TheVariants.{Execute, ReadOne, HandOut}
use Rattle.dsql_laws_calls.specs.history.declared.work.Work.TheVariants.{Statement, Begin, Ping}
use Rattle.dsql_laws_calls.specs.history.Readers.Calls.{site, decided, told_by_others, asks_nothing, rests, rests_with}
use Rattle.dsql_laws_calls.specs.history.Readers.Course.{caps}
use Rattle.dsql_laws_calls.specs.history.Readers.Journals.{heard_in}
use Rattle.dsql_laws_calls.specs.history.Readers.Lines.{line_in}
use Rattle.dsql_laws_calls.specs.history.Readers.Transactions.{is_begun, goes_on}
use Rattle.dsql_laws_calls.specs.history.Readers.Unfinished.{is_unfinished}
use Rattle.dsql_laws_calls.specs.history.Readers.Works.{work, aim_of, scope, asks}
use Rattle.dsql_laws_calls.specs.history.Rules.Ending.{ending}
use Rattle.dsql_laws_calls.specs.history.Rules.Line.{due_in, due_for, rest_with, rest, is_used}
use Rattle.dsql_laws_calls.specs.history.Rules.Sent.{Sender, sender, line_for, line_with, line_of}
use Rattle.dsql_laws_calls.specs.history.Rules.Settled.{is_kept}
use Rattle.dsql_laws_calls.specs.history.Rules.Stands.{is_own_step, is_settled_for, has_to_reply, stand}
use Rattle.dsql_laws_calls.specs.history.Legal.{Lawful}
use Rattle.dsql_laws_calls.proofs.laws.Standing.{stands_sending, stands_waiting}
use Rattle.dsql_laws_calls.proofs.laws.Tried.{lends_to}
use Rattle.dsql_laws_calls.proofs.BeginningsAt.{beginnings}
use Rattle.dsql_laws_calls.proofs.Beginnings.{lent_once_begun}
use Rattle.dsql_laws_calls.proofs.Lines.{line_here}
use Rattle.dsql_laws_calls.proofs.Own.{asks_own, due_line}
use Rattle.dsql_laws_calls.proofs.Owners.{at_home, lent_asks, lent_number}
use Rattle.dsql_laws_calls.proofs.Tenures.{fresh_lending, there_from}
use Rattle.dsql_laws_calls.proofs.Untried.{moves_of, lends_unwanting}
use Rattle.dsql_laws_others.specs.Told.{where_told}
use Rattle.dsql_laws_others.proofs.Numbers.{none_zero}
use Rattle.dsql_laws_others.proofs.OwnSteps.{replies_apart}
use Rattle.dsql_laws_calls.proofs.Wanters.{lends_unfinished}

-- Where the other calls stand.

pub still_waits : (j n : ℕ) (rs : List Request) → j ≢ n → waits j rs ≡ true → waits j (without_call n rs) ≡ true
still_waits j n [] apart h = absurd cc
still_waits j n (r ∷ rs) apart h = by (r.call == n) (r.call == j) refl refl (still_waits j n rs apart) h
  where
    by : (a b : Bool) → (r.call == n) ≡ a → (r.call == j) ≡ b → (waits j rs ≡ true → waits j (without_call n rs) ≡ true) → (b || waits j rs) ≡ true
        → waits j (cond (not a) (r ∷ without_call n rs) (without_call n rs)) ≡ true
    by true true of_n of_j rest k = absurd (apart (sym (same_number r.call j of_j) ∙ same_number r.call n of_n))
    by true false of_n of_j rest k = rest k
    by false true of_n of_j rest k = ap (λ b. b || waits j (without_call n rs)) of_j
    by false false of_n of_j rest k = or_right (r.call == j) (waits j (without_call n rs)) (rest k)

abbrev pub lends : List Event → ℕ → ℕ → Owner → ℕ → List Event
lends H c t own n = Pool (Lend c t own n) ∷ H

pub lent_there : (H : List Event) (c t : ℕ) (own : Owner) (n : ℕ) → Lawful (lends H c t own n) → place (lends H c t own n) c ≡ Some (Lent t own)
lent_there H c t own n l = changed_place c (lent t own (pool H).moment) (Lent t own) (pool H).conns (λ x. refl) (λ x. refl) (there_from (place H c) (moves_of H c t own n l.1))

-- A call that is lent a connection asks for one of its own, and uses it.

pub lent_some : (H : List Event) (c t : ℕ) (own : Owner) (n : ℕ) → Lawful (lends H c t own n) → n ≢ 0
lent_some H c t own n l none = lent_number (lends H c t own n) c t own l (lent_there H c t own n l) (sym (lends_to H c t own n l.1) ∙ none)

pub lent_asker : (H : List Event) (c t : ℕ) (own : Owner) (n : ℕ) → Lawful (lends H c t own n) → asks (work H n) ≡ true
lent_asker H c t own n l = ap (λ k. asks (work H k)) (lends_to H c t own n l.1) ∙ lent_asks (lends H c t own n) c t own l (lent_there H c t own n l)

lent_home : (H : List Event) (c t : ℕ) (own : Owner) (n : ℕ) → Lawful (lends H c t own n) → home (lends H c t own n) n ≡ c
lent_home H c t own n l = ap (home (lends H c t own n)) (lends_to H c t own n l.1) ∙ at_home (lends H c t own n) c t own l (lent_there H c t own n l)

lent_site : (H : List Event) (c t : ℕ) (own : Owner) (n : ℕ) → Lawful (lends H c t own n) → site (lends H c t own n) n ≡ c
lent_site H c t own n l = ap (home (lends H c t own n)) (asks_own (lends H c t own n) n (lent_asker H c t own n l)) ∙ lent_home H c t own n l

-- Is true if something is sent to the driver for the call.
abbrev is_answered : Caps → Aim → Bool
is_answered can aims.Ping = can.pinger || can.validator
is_answered can _ = true

first_due : (can : Caps) (asked : Asked) (w : Wish) → is_answered can asked.aim ≡ true → is_some (body_after can false asked w []) ≡ true
first_due can asked w answered = rw (body_before can asked w [] refl, first_of can asked.text asked.params asked.aim) (by_aim asked.aim answered)
  where
    by_fast : (b : Bool) → is_some (sent_as can asked (cond b due.Text due.Prepare)) ≡ true
    by_fast true = refl
    by_fast false = refl

    by_ping : (p v : Bool) → can.validator ≡ v → (p || v) ≡ true → is_some (sent_as can asked (cond p due.Ping due.Over)) ≡ true
    by_ping true v is h = refl
    by_ping false true is h = ap (λ b. is_some (cond b (Some Valid) None)) is
    by_ping false false is h = absurd cc

    by_aim : (x : Aim) → is_answered can x ≡ true → is_some (sent_as can asked (first_call x can)) ≡ true
    by_aim aims.Execute h = by_fast (has_fast_way courses.Exec can)
    by_aim aims.ReadOne h = by_fast (has_fast_way courses.One can)
    by_aim aims.HandOut h = by_fast (has_fast_way courses.Query can)
    by_aim aims.Ping h = by_ping can.pinger can.validator refl h

-- If a call doesn't rest with what it was lent, something is sent to the driver for it.

answered_unless : (can : Caps) (it : Work) (ts : List Try) → asks_nothing can it (Served ∷ ts) ≡ false → is_answered can (aim_of it) ≡ true
answered_unless can Ping ts h = by (can.pinger || can.validator) h
  where
    by : (b : Bool) → not b ≡ false → b ≡ true
    by true k = refl
    by false k = absurd cc
answered_unless can (Statement s Execute) ts h = refl
answered_unless can (Statement s (ReadOne dests)) ts h = refl
answered_unless can (Statement s (HandOut label)) ts h = refl
answered_unless can it ts h = refl

newest_lent : (H : List Event) (c t : ℕ) (own : Owner) (n : ℕ) → tries (lends H c t own n) n ≡ Served ∷ tries H n
newest_lent H c t own n = ap (λ b. with_try b Served (tries H n)) (same_itself n)

lent_answered : (H : List Event) (c t : ℕ) (own : Owner) (n : ℕ) → is_unfinished H n ≡ true → rests (lends H c t own n) n ≡ false → is_answered (caps H) (aim_of (work H n)) ≡ true
lent_answered H c t own n u h =
    answered_unless (caps H) (work H n) (tries H n)
    (sym (ap (λ (b : Bool). b && asks_nothing (caps H) (work H n) (tries (lends H c t own n) n)) u ∙ ap (asks_nothing (caps H) (work H n)) (newest_lent H c t own n)) ∙ h)

-- The first driver call of the line.
sends_with : (S : Sender) → asks S.work ≡ true → is_answered S.can S.asked.aim ≡ true → is_some (line_with S []) ≡ true
sends_with S own answered = by S.work own
  where
    plainly : (b : Bool) → is_some (line_after S.can b S.asked S.wish []) ≡ true
    plainly true = refl
    plainly false = first_due S.can S.asked S.wish answered

    by : (v : Work) → asks v ≡ true → is_some (line_for v (scope v) S []) ≡ true
    by (Begin label level read_only) h = either S.reset_due
      where
        either : (b : Bool) → is_some (cond b (Some Reset) (Some (calls.Begin level read_only))) ≡ true
        either true = refl
        either false = refl
    by (Statement Db task) h = plainly S.reset_due
    by Ping h = plainly S.reset_due
    by v h = absurd cc

empty_line : (own : Owner) (n : ℕ) (L : List Entry) → L ≡ [] → line_in own n L ≡ []
empty_line own n L none = ap (line_in own n) none ∙ by (is_call own)
  where
    by : (b : Bool) → cond {A = List Entry} b [] [] ≡ []
    by true = refl
    by false = refl

sends_first : (H : List Event) (c t : ℕ) (own : Owner) (n : ℕ) (w : Wish) → Lawful (lends H c t own n) → is_answered (caps H) (aim_of (work H n)) ≡ true → is_some (line_of (lends H c t own n) n w) ≡ true
sends_first H c t own n w l answered =
    let K = lends H c t own n in
    let asker = lent_asker H c t own n l in
    ap (λ d. is_some d) (line_here K c t own n w l (lent_there H c t own n l) (asks_own K n asker ∙ lends_to H c t own n l.1))
    ∙ (ap (λ L. is_some (line_with (sender K n c w) L)) (empty_line own n (heard_in H c t) (fresh_lending H c t own n l.0 l.1))
    ∙ sends_with (sender K n c w) asker answered)

pub due_lent : (H : List Event) (c t : ℕ) (own : Owner) (n : ℕ) → Lawful (lends H c t own n) → is_unfinished H n ≡ true → rests (lends H c t own n) n ≡ false → is_some (due_for (lends H c t own n) n) ≡ true
due_lent H c t own n l u restless =
    let K = lends H c t own n in
    ap (λ (b : Bool). is_some (cond b (due_in K n (work H n)) None)) u
    ∙ (ap (λ d. is_some d) (due_line K n (work H n) (lent_asker H c t own n l)) ∙ sends_first H c t own n wishes.Nothing l (lent_answered H c t own n u restless))

-- The call has begun no transaction yet.
pub lent_unbegun : (H : List Event) (c t : ℕ) (own : Owner) (n : ℕ) → Lawful (lends H c t own n) → is_begun H n ≡ false
lent_unbegun H c t own n l = by (is_begun H n) refl
  where
    by : (b : Bool) → is_begun H n ≡ b → b ≡ false
    by false is = refl
    by true is = absurd (lent_once_begun H c t own n l.0 l.1 (beginnings H l.0) (ap (is_begun H) (sym (lends_to H c t own n l.1)) ∙ is))

used_lent : (H : List Event) (c t : ℕ) (own : Owner) (n : ℕ) → Lawful (lends H c t own n) → is_unfinished H n ≡ true → rests (lends H c t own n) n ≡ false → is_used (lends H c t own n) n ≡ true
used_lent H c t own n l u restless = or_right (goes_on K n) (are_live K n || is_some (rest K n)) (by (rows_by H n))
  where
    K : List Event
    K = lends H c t own n

    sends : (w : Wish) → is_some (line_of K n w) ≡ true
    sends w = sends_first H c t own n w l (lent_answered H c t own n u restless)

    rested : (o : Option Rows) → is_some (rest_with K n o) ≡ true → is_some (cond (is_begun K n) (ending K n) (rest_with K n o)) ≡ true
    rested o h = ap (λ b. is_some (cond b (ending K n) (rest_with K n o))) (lent_unbegun H c t own n l) ∙ h

    still : (r : Rows) (b : Bool) → is_live r ≡ b → (is_live r || is_some (cond (is_begun K n) (ending K n) (rest_with K n (Some r)))) ≡ true
    still r true is = or_first (is_live r) (is_some (cond (is_begun K n) (ending K n) (rest_with K n (Some r)))) is
    still r false is = or_right (is_live r) (is_some (cond (is_begun K n) (ending K n) (rest_with K n (Some r)))) (rested (Some r) (ap (λ b. is_some (cond b None (line_of K n wishes.Close))) is ∙ sends wishes.Close))

    by : (o : Option Rows) → (live o || is_some (cond (is_begun K n) (ending K n) (rest_with K n o))) ≡ true
    by None = rested None (sends wishes.Nothing)
    by (Some r) = still r (is_live r) refl

pub unfinished_lent : (H : List Event) (c t : ℕ) (own : Owner) (n : ℕ) → Lawful (lends H c t own n) → is_unfinished H n ≡ true
unfinished_lent H c t own n l = lends_unfinished H c t own n l.0 l.1 (lent_some H c t own n l)

pub kept_lent : (H : List Event) (c t : ℕ) (own : Owner) (n : ℕ) → Lawful (lends H c t own n) → is_kept (lends H c t own n) n ≡ true
kept_lent H c t own n l = by (rests (lends H c t own n) n) refl
  where
    by : (b : Bool) → rests (lends H c t own n) n ≡ b → is_kept (lends H c t own n) n ≡ true
    by true is = or_right (is_used (lends H c t own n) n) (rests (lends H c t own n) n) is
    by false is = or_first (is_used (lends H c t own n) n) (rests (lends H c t own n) n) (used_lent H c t own n l (unfinished_lent H c t own n l) is)

-- The call has the connection.
has_home : (H : List Event) (c t : ℕ) (own : Owner) (n : ℕ) → Lawful (lends H c t own n) → is_some (smallest (is_home n) (pool (lends H c t own n))) ≡ true
has_home H c t own n l = by (smallest (is_home n) (pool (lends H c t own n))) (lent_home H c t own n l)
  where
    by : (o : Option ℕ) → or_none o ≡ c → is_some o ≡ true
    by (Some d) is = refl
    by None is =
        let none : place (lends H c t own n) 0 ≡ None = ap (option_map (λ y. y.place)) (none_zero (lends H c t own n)) in
        let clash : None ≡ Some (Lent t own) = sym none ∙ (ap (place (lends H c t own n)) is ∙ lent_there H c t own n l) in
        absurd cc

-- The call sends what is due, or it replies if it rests outside of a step of its own.
pub stands_lent : (H : List Event) (c t : ℕ) (own : Owner) (n : ℕ) → Lawful (lends H c t own n) → (rests (lends H c t own n) n ≡ true → is_own_step (lends H c t own n) n ≡ false)
    → stand (lends H c t own n) n ≡ Some (cond (is_some (due_for (lends H c t own n) n)) (stands_at.Sends c) stands_at.Replies)
stands_lent H c t own n l apart = by (is_some (due_for (lends H c t own n) n)) refl
  where
    K : List Event
    K = lends H c t own n

    some : n ≢ 0
    some = lent_some H c t own n l

    settled : rests K n ≡ true → is_settled_for K n ≡ true
    settled is =
        or_first (is_some (rests_with K n)) (is_none (decided K n) && is_some (told_by_others K n)) (ap (λ b. is_some (cond b (smallest (is_home n) (pool K)) None)) is ∙ has_home H c t own n l)

    rested : (b : Bool) → rests K n ≡ b → is_some (due_for K n) ≡ false → stand K n ≡ Some stands_at.Replies
    rested true is none =
        let unwanting = neither (waits n (pool K).waiting) (list_any (λ conn. is_for n conn.place) (pool K).conns) (none_wanted n (pool K) (lends_unwanting H c t own n l some)) in
        rests_there (waits n (pool K).waiting) (is_some (due_for K n)) (smallest (is_for n) (pool K)) (site K n) (where_told K n) unwanting.0 (none_opens n (pool K) unwanting.1) none
        ∙ replies_first (has_to_reply K n) (asks_again (tries K n)) (replies_apart (is_own_step K n) (is_settled_for K n) (apart is) (settled is))
    rested false is none = absurd (true_false (is_some (due_for K n)) (due_lent H c t own n l (unfinished_lent H c t own n l) is) none)

    by : (b : Bool) → is_some (due_for K n) ≡ b → stand K n ≡ Some (cond b (stands_at.Sends c) stands_at.Replies)
    by true due = stands_sending K n l some due ∙ ap (λ d. Some (stands_at.Sends d)) (lent_site H c t own n l)
    by false none = rested (rests K n) refl none

pub waits_lent : (H : List Event) (c t : ℕ) (own : Owner) (n j : ℕ) → j ≢ n → waits j (pool H).waiting ≡ true → stand (lends H c t own n) j ≡ Some stands_at.Waits
waits_lent H c t own n j apart h = stands_waiting (lends H c t own n) j (still_waits j n (pool H).waiting apart h)
