-- A call that closes the database leaves each other call standing somewhere and each lent connection in use.
-- The entry changes neither what is due for another call nor what is lent, and the closings that it makes due
-- concern idle connections only.
use Rattle.std.proofs.Common.{◌≡◌, ◌≢◌, ℕ, ◌+◌, ◌==◌, ◌⊎◌, inl, inr, Bool, true, false, ◌&&◌, ◌||◌, cond, List, ◌∷◌, length, Option, Some, None, is_some, is_none, refl, sym, ap, ◌∙◌, arith}
use Rattle.std.specs.Prelude.{find}
use Rattle.std.specs.List.{list_any}
use Rattle.std.specs.Option.{option_map}
use Rattle.dsql_laws_calls.specs.course.declared.course.Wish.{Wish}
use Rattle.dsql_laws_calls.specs.course.declared.course.Wish.TheVariants as wishes
use Rattle.dsql_laws_calls.specs.journal.declared.entry.Owner.{Owner}
use Rattle.dsql_laws_calls.specs.journal.Kinds.{number_of}
use Rattle.dsql_laws_calls.specs.wait.Requests.{waits}
use Rattle.dsql_laws_calls.specs.pool.declared.conn.Conn.{Conn}
use Rattle.dsql_laws_calls.specs.pool.declared.conn.Place.{Place}
use Rattle.dsql_laws_calls.specs.pool.declared.conn.Place.TheVariants.{Lent, Opening}
use Rattle.dsql_laws_calls.specs.pool.Calls.{wants}
use Rattle.dsql_laws_calls.specs.pool.Places.{conn_of, is_for, is_lent}
use Rattle.dsql_laws_calls.specs.history.declared.reply.DbEnd.{DbEnd}
use Rattle.dsql_laws_calls.specs.history.declared.reply.DbEnd.TheVariants as ends
use Rattle.dsql_laws_calls.specs.history.Readers.Pool.{is_home, smallest, pool, place, home}
use Rattle.dsql_laws_calls.specs.history.Readers.Tries.{try_number, has_a_try, tries, tries_again}
use Rattle.dsql_laws_calls.proofs.laws.Truths.{or_first, or_second}
use Rattle.dsql_laws_calls.proofs.laws.Places.{neither, none_opens}
use Rattle.dsql_laws_calls.proofs.laws.Tests.{both, together, other_number}
use Rattle.dsql_laws_calls.proofs.Cases.{true_false}
use Rattle.dsql_laws_others.proofs.Once.{found_number}
use Rattle.dsql_laws_calls.specs.history.declared.event.Event.{Event}
use Rattle.dsql_laws_calls.specs.history.declared.event.Event.TheVariants.{Entered}
use Rattle.dsql_laws_calls.specs.history.declared.event.Op.TheVariants.{DbClose}
use Rattle.dsql_laws_calls.specs.history.declared.reply.Reply.TheVariants.{DbClosed}
use Rattle.dsql_laws_calls.specs.history.declared.work.Scope.TheVariants.{Held}
use Rattle.dsql_laws_calls.specs.history.declared.work.Work.{Work}
use Rattle.dsql_laws_calls.specs.history.Readers.Calls.{call_record, decided, done_with, has_begun_to_send, last_told, rests, rests_with, told_by_others, told_by_tries, told_by_scope, told_of_work}
use Rattle.dsql_laws_calls.specs.history.Readers.Course.{db_end, or_end}
use Rattle.dsql_laws_calls.specs.history.Readers.HandedOut.{is_late}
use Rattle.dsql_laws_calls.specs.history.Readers.Journals.{journal}
use Rattle.dsql_laws_calls.specs.history.Readers.Lines.{has_sent}
use Rattle.dsql_laws_calls.specs.history.Readers.Owed.{owed}
use Rattle.dsql_laws_calls.specs.history.Readers.Transactions.{tx_end}
use Rattle.dsql_laws_calls.specs.history.Readers.Works.{works, work, work_of, scope, borrower}
use Rattle.dsql_laws_calls.specs.history.Rules.Ending.{ending}
use Rattle.dsql_laws_calls.specs.history.Rules.Line.{due_for, is_used}
use Rattle.dsql_laws_calls.specs.history.Rules.Sent.{line_at, line_of, close_due}
use Rattle.dsql_laws_calls.specs.history.Rules.Settled.{is_kept, uses_what_is_lent, calls_stand, calls_stand_but}
use Rattle.dsql_laws_calls.specs.history.Rules.Stands.{is_settled_for, stand}
use Rattle.dsql_laws_calls.specs.history.Legal.{Lawful}
use Rattle.dsql_laws_calls.specs.laws.OwedMade.{with_moves}
use Rattle.dsql_laws_calls.proofs.laws.AtRest.{before_event, rested}
use Rattle.dsql_laws_calls.proofs.Enders.{same_ender}
use Rattle.dsql_laws_calls.proofs.Idle.{found_any}
use Rattle.dsql_laws_calls.proofs.Works.{enters_next, old_record, old_work, old_unfinished}
use Rattle.dsql_laws_others.proofs.Alike.{due_alike, used_alike, ends_alike, first_alike, closing_alike, same_tx_ender}
use Rattle.dsql_laws_others.proofs.Answered.{shut_out_replies}
use Rattle.dsql_laws_others.proofs.Asked.{ended_by_now}
use Rattle.dsql_laws_others.proofs.ControlMoves.{all_quiet}
use Rattle.dsql_laws_others.proofs.Ending.{closed_quiet}
use Rattle.dsql_laws_others.proofs.Entries.{next_work, same_borrower, concerned_old, over_old, first_push, rests_entered, asked_same}
use Rattle.dsql_laws_others.proofs.Homes.{HomeStays, HomeUnlent, no_line, no_ending}
use Rattle.dsql_laws_others.proofs.Openings.{silent}
use Rattle.dsql_laws_others.proofs.Untouched.{still_stands}
use Rattle.dsql_laws_others.proofs.Each.{told_each, each_entered}
use Rattle.dsql_laws_others.proofs.Entered.{closing_new}
use Rattle.dsql_laws_others.proofs.Leaves.{lent_used}
use Rattle.dsql_laws_others.proofs.OnceLeft.{once}
use Rattle.dsql_laws_others.proofs.Rested.{not_new}
use Rattle.dsql_laws_others.proofs.Shut.{Shuts, CallStays, lent_first, home_shut, shut_line, shut_sent, still_home}
use Rattle.dsql_laws_others.proofs.StillUsed.{all_kept}

abbrev closes_it : List Event → ℕ → ℕ → List Event
closes_it H client n = Entered client n DbClose ∷ H

shuts : (H : List Event) (client n : ℕ) → Lawful (closes_it H client n) → Shuts H (Entered client n DbClose)
shuts H client n l = record { lawful = l; closed = refl; can = refl; heard = λ c. refl }

other_stays : (H : List Event) (client n j : ℕ) → Lawful (closes_it H client n) → j ≢ n → CallStays H (Entered client n DbClose) j
other_stays H client n j l apart =
    let new = enters_next H client n DbClose l.1 in
    record {
      asked = asked_same (call_record (closes_it H client n) j) (call_record H j) (work (closes_it H client n) j) (work H j) (old_record H client n DbClose j new apart) (old_work H client n DbClose j new apart);
      its_work = old_work H client n DbClose j new apart;
      uses = same_borrower H client n DbClose j l apart;
    }

other_line : (H : List Event) (client n j : ℕ) (w : Wish) → Lawful (closes_it H client n) → j ≢ n → line_of (closes_it H client n) j w ≡ line_of H j w
other_line H client n j w l apart = shut_line H (Entered client n DbClose) j w (shuts H client n l) (other_stays H client n j l apart)

-- What ends transactions stays the same.

closing_shut : (H : List Event) (client n j : ℕ) → Lawful (closes_it H client n) → close_due (closes_it H client n) j ≡ close_due H j
closing_shut H client n j l = closing_alike H (closes_it H client n) j refl (λ over. other_line H client n j wishes.Close l (over_old H client n DbClose j l over))

ending_shut : (H : List Event) (client n k : ℕ) → Lawful (closes_it H client n) → ending (closes_it H client n) k ≡ ending H k
ending_shut H client n k l = by (home_shut H (Entered client n DbClose) k (shuts H client n l))
  where
    K : List Event
    K = closes_it H client n

    last : close_due (closes_it H client n) (0 + length (works H)) ≡ None
    last = let number : 0 + length (works H) ≡ n = let new = next_work H client n DbClose l in omega (arith, new) in ap (close_due K) number ∙ closing_new H client n DbClose l

    by : HomeStays H (closes_it H client n) k ⊎ HomeUnlent H (closes_it H client n) k → ending (closes_it H client n) k ≡ ending H k
    by (inl s) =
        ends_alike H K k refl s.homes s.places
        (record { first = first_push K k 0 (works H) (work_of (works H) DbClose) last ∙ first_alike H K k 0 (works H) (λ j. closing_shut H client n j l); can = refl; heard = refl })
    by (inr u) = no_ending K k (home K k) (tx_end H k) refl u.after ∙ sym (no_ending H k (home H k) (tx_end H k) refl u.before)

-- What is due for the other calls stays the same.

other_due : (H : List Event) (client n m : ℕ) → Lawful (closes_it H client n) → m ≢ n → due_for (closes_it H client n) m ≡ due_for H m
other_due H client n m l apart =
    let new = enters_next H client n DbClose l.1 in
    let place = next_work H client n DbClose l in
    due_alike H (closes_it H client n) m
    (record {
      unfinished = old_unfinished H client n DbClose m apart;
      its_work = old_work H client n DbClose m new apart;
      live = λ j. refl;
      enders = λ j. same_ender H (Entered client n DbClose) j refl;
      late = λ j its. ap (λ it. is_late H (scope it)) (old_work H client n DbClose j new (concerned_old H m n j place apart its));
      going = λ j. refl;
      tx_enders = λ j. same_tx_ender H (Entered client n DbClose) j refl;
      endings = λ j. ending_shut H client n j l;
      lines = λ j w its. other_line H client n j w l (concerned_old H m n j place apart its);
      sent = sent (home_shut H (Entered client n DbClose) (borrower H m) (shuts H client n l));
      decided = ap (λ r. r.decided) (old_record H client n DbClose m new apart);
    })
  where
    K : List Event
    K = closes_it H client n

    sent : HomeStays H (closes_it H client n) (borrower H m) ⊎ HomeUnlent H (closes_it H client n) (borrower H m)
        → (has_begun_to_send (closes_it H client n) m ≡ has_begun_to_send H m) ⊎ ((i : ℕ) (w : Wish) → borrower H i ≡ borrower H m → line_of H i w ≡ None)
    sent (inl s) = inl (ap (λ i. has_sent m (journal H (home K i))) (same_borrower H client n DbClose m l apart) ∙ ap (λ d. has_sent m (journal H d)) s.homes)
    sent (inr u) = inr (λ i w same. ap (λ b. line_at H i w (home H b) (place H (home H b))) same ∙ no_line H i w (home H (borrower H m)) (place H (home H (borrower H m))) u.before)

-- What is lent stays in use.

used_shut : (H : List Event) (client n : ℕ) → Lawful (closes_it H client n) → uses_what_is_lent H ≡ true → uses_what_is_lent (closes_it H client n) ≡ true
used_shut H client n l h = all_kept (closes_it H client n) each
  where
    K : List Event
    K = closes_it H client n

    each : (d u : ℕ) (o : Owner) → place (closes_it H client n) d ≡ Some (Lent u o) → is_kept (closes_it H client n) (number_of o) ≡ true
    each d u o at =
        let was = lent_first H (Entered client n DbClose) d u o (shuts H client n l) at in
        let old = not_new H client n DbClose d u o l was in
        let j = number_of o in
        ap (λ b. b || rests K j) (used_alike H K j refl refl (ending_shut H client n j l) (λ w. other_line H client n j w l old))
        ∙ (ap (λ b. is_used H j || b) (rests_entered H client n DbClose j l old) ∙ lent_used H d u o h was)

-- Where the calls stand.

some_close : (o : Option DbEnd) → is_some o ≡ true → is_some (option_map DbClosed o) ≡ true
some_close None h = absurd cc
some_close (Some end) h = refl

told_shut : (H : List Event) (client n m : ℕ) (it : Work) → Lawful (closes_it H client n) → m ≢ n → is_some (told_of_work H m it) ≡ true → is_some (told_of_work (closes_it H client n) m it) ≡ true
told_shut H client n m it l apart h = told_each H (closes_it H client n) m it tried inner (λ j over. over) h
  where
    K : List Event
    K = closes_it H client n

    tried : (v : Work) → is_some (told_by_tries H v (tries H m)) ≡ true → is_some (told_by_tries (closes_it H client n) v (tries H m)) ≡ true
    tried v k = of (has_a_try (tries H m)) k
      where
        of : (b : Bool) → is_some (cond b (option_map DbClosed (db_end H)) (last_told (tries_again v (try_number (tries H m))) (try_number (tries H m)) (tries H m))) ≡ true
            → is_some (cond b (option_map DbClosed (or_end (db_end H) ends.Close)) (last_told (tries_again v (try_number (tries H m))) (try_number (tries H m)) (tries H m))) ≡ true
        of true i = some_close (or_end (db_end H) ends.Close) (ended_by_now (db_end H) ends.Close)
        of false i = i

    inner : (v : Work) (k : ℕ) → is_some (told_by_scope H m v (Held k)) ≡ true → is_some (told_by_scope (closes_it H client n) m v (Held k)) ≡ true
    inner v k i = of (has_begun_to_send K m) (has_begun_to_send H m) (shut_sent H (Entered client n DbClose) m (shuts H client n l) (other_stays H client n m l apart)) i
      where
        of : (now was : Bool) → (now ≡ true → was ≡ true) → is_some (cond was None (done_with (tx_end H k))) ≡ true → is_some (cond now None (done_with (tx_end H k))) ≡ true
        of now true f x = absurd cc
        of true false f x = let clash : false ≡ true = f refl in absurd cc
        of false false f x = x

rests_shut : (H : List Event) (client n m : ℕ) → Lawful (closes_it H client n) → m ≢ n → wants m (pool H) ≡ false → is_some (rests_with H m) ≡ true → is_some (rests_with (closes_it H client n) m) ≡ true
rests_shut H client n m l apart unwanting h = by (rests H m) refl h
  where
    K : List Event
    K = closes_it H client n

    placed : (x : Conn) → conn_of x.number (pool H).conns ≡ Some x → (p : Place) → x.place ≡ p → is_home m p ≡ true → is_some (smallest (is_home m) (pool (closes_it H client n))) ≡ true
    placed x found (Lent u o) at k = still_home H (Entered client n DbClose) m x.number x (shuts H client n l) found (ap (λ q. is_lent (Some q)) at) (ap (is_home m) at ∙ k)
    placed x found (Opening (Some o)) at k =
        let any = found_any (λ conn. is_for m conn.place) x.number (pool H).conns x found (ap (is_for m) at ∙ k) in
        absurd (true_false (wants m (pool H)) (or_second (waits m (pool H).waiting) (list_any (λ conn. is_for m conn.place) (pool H).conns) any) unwanting)
    placed x found _ at k = absurd cc

    there : (o : Option Conn) → find (λ x. is_home m x.place) (pool H).conns ≡ o → is_some (option_map (λ (x : Conn). x.number) o) ≡ true → is_some (smallest (is_home m) (pool (closes_it H client n))) ≡ true
    there None is k = absurd cc
    there (Some x) is k = let f = found_number (λ y. is_home m y.place) (pool H).conns x (once H) is in placed x f.0 x.place refl f.1

    by : (b : Bool) → rests H m ≡ b → is_some (cond b (smallest (is_home m) (pool H)) None) ≡ true → is_some (rests_with (closes_it H client n) m) ≡ true
    by true is k = ap (λ b. is_some (cond b (smallest (is_home m) (pool K)) None)) (rests_entered H client n DbClose m l apart ∙ is) ∙ there (find (λ x. is_home m x.place) (pool H).conns) refl k
    by false is k = absurd cc

settled_shut : (H : List Event) (client n m : ℕ) → Lawful (closes_it H client n) → m ≢ n → wants m (pool H) ≡ false → is_settled_for H m ≡ true → is_settled_for (closes_it H client n) m ≡ true
settled_shut H client n m l apart unwanting h = by (is_some (rests_with H m)) refl h
  where
    K : List Event
    K = closes_it H client n

    by : (b : Bool) → is_some (rests_with H m) ≡ b → (b || (is_none (decided H m) && is_some (told_by_others H m))) ≡ true → is_settled_for (closes_it H client n) m ≡ true
    by true is k = or_first (is_some (rests_with K m)) (is_none (decided K m) && is_some (told_by_others K m)) (rests_shut H client n m l apart unwanting is)
    by false is k =
        let b = both (is_none (decided H m)) (is_some (told_by_others H m)) k in
        let new = enters_next H client n DbClose l.1 in
        or_second (is_some (rests_with K m)) (is_none (decided K m) && is_some (told_by_others K m))
        (together (is_none (decided K m)) (is_some (told_by_others K m)) (ap (λ r. is_none r.decided) (old_record H client n DbClose m new apart) ∙ b.0)
        (ap (λ w. is_some (told_of_work K m w)) (old_work H client n DbClose m new apart) ∙ told_shut H client n m (work H m) l apart b.1))

stand_shut : (H : List Event) (client n m : ℕ) → Lawful (closes_it H client n) → m ≢ 0 → m ≢ n → is_some (stand H m) ≡ true → is_some (stand (closes_it H client n) m) ≡ true
stand_shut H client n m l some apart h = by (wants m (pool H)) refl
  where
    K : List Event
    K = closes_it H client n

    by : (b : Bool) → wants m (pool H) ≡ b → is_some (stand (closes_it H client n) m) ≡ true
    by true is = ap (λ s. is_some s) (shut_out_replies H client n m l some is)
    by false is =
        let none = neither (waits m (pool H).waiting) (list_any (λ conn. is_for m conn.place) (pool H).conns) is in
        still_stands H K m refl (λ k. absurd (true_false (waits m (pool H).waiting) k none.0)) (λ k. absurd (true_false (is_some (smallest (is_for m) (pool H))) k (ap (λ o. is_some o) (none_opens m (pool H) none.1))))
        (λ k. ap (λ d. is_some d) (other_due H client n m l apart) ∙ k)
        (λ k. absurd (true_false (n == m) k (other_number n m (λ same. apart (sym same))))) (settled_shut H client n m l apart is) h

each_shut : (H : List Event) (client n : ℕ) → Lawful (closes_it H client n) → calls_stand H ≡ true → calls_stand_but n (closes_it H client n) ≡ true
each_shut H client n l h = each_entered H client n DbClose (λ m u some apart. stand_shut H client n m l some apart) l.0 h

-- The same after the closings that the entry makes due.

pub closed_goes_on : (H : List Event) (client n : ℕ) → Lawful (closes_it H client n) → calls_stand H ≡ true → calls_stand_but n (with_moves (owed (closes_it H client n)) (closes_it H client n)) ≡ true
closed_goes_on H client n l h =
    let K = closes_it H client n in
    let rest = before_event H (Entered client n DbClose) refl l.1 (rested H l.0) in
    let u = all_quiet K (owed K) n (silent K l) (closed_quiet (pool H) rest.placed) in
    u.others (each_shut H client n l h)

pub closed_used : (H : List Event) (client n : ℕ) → Lawful (closes_it H client n) → uses_what_is_lent H ≡ true → uses_what_is_lent (with_moves (owed (closes_it H client n)) (closes_it H client n)) ≡ true
closed_used H client n l h =
    let K = closes_it H client n in
    let rest = before_event H (Entered client n DbClose) refl l.1 (rested H l.0) in
    let u = all_quiet K (owed K) n (silent K l) (closed_quiet (pool H) rest.placed) in
    u.used ∙ used_shut H client n l h
