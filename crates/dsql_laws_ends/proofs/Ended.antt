-- After a run has ended and run out, no call is left and no connection is open. Each journal is whole, and each
-- transaction was ended. If one of these failed, a call might move or a chore would be due.
use Rattle.std.proofs.Common.{◌≡◌, ◌≢◌, ℕ, ◌==◌, ◌⊎◌, inl, inr, Bool, true, false, not, ◌&&◌, ◌||◌, cond, List, [], ◌∷◌, length, Option, Some, None, is_some, refl, sym, ap, ◌∙◌}
use Rattle.std.specs.List.{list_all, list_any}
use Rattle.std.specs.Option.{option_map}
use Rattle.dsql_laws_calls.specs.course.declared.course.Wish.TheVariants as wishes
use Rattle.dsql_laws_calls.specs.journal.Journal.{IsWhole}
use Rattle.dsql_laws_calls.specs.journal.Readers.{has, is_empty}
use Rattle.dsql_laws_calls.specs.journal.declared.entry.Owner.{Owner}
use Rattle.dsql_laws_calls.specs.journal.Kinds.{is_house, number_of}
use Rattle.dsql_laws_calls.specs.rows.declared.rows.Rows.{Rows}
use Rattle.dsql_laws_calls.specs.tx.declared.tx.Tx.{Tx}
use Rattle.dsql_laws_calls.specs.wait.Requests.{waits}
use Rattle.dsql_laws_calls.specs.pool.declared.conn.Conn.{Conn}
use Rattle.dsql_laws_calls.specs.pool.declared.conn.Place.{Place}
use Rattle.dsql_laws_calls.specs.pool.declared.conn.Place.TheVariants.{Idle, Lent, Opening, Closing}
use Rattle.dsql_laws_calls.specs.pool.Places.{conn_of, is_closing, is_for, is_idle, is_opening}
use Rattle.dsql_laws_calls.specs.pool.Rest.{times}
use Rattle.dsql_laws_calls.specs.history.declared.event.Event.{Event}
use Rattle.dsql_laws_calls.specs.history.declared.record.Flight.{Flight}
use Rattle.dsql_laws_calls.specs.history.Readers.Calls.{rests, site}
use Rattle.dsql_laws_calls.specs.history.Readers.Course.{has_ended}
use Rattle.dsql_laws_calls.specs.history.Readers.HandedOut.{are_live, ender, rows_by, live, over}
use Rattle.dsql_laws_calls.specs.history.Readers.Journals.{heard_in, journal}
use Rattle.dsql_laws_calls.specs.history.Readers.Pool.{place, pool, smallest}
use Rattle.dsql_laws_calls.specs.history.Readers.Transactions.{end_of, goes_on, is_begun, tx_by, tx_ender}
use Rattle.dsql_laws_calls.specs.history.Readers.Tries.{tries, asks_again}
use Rattle.dsql_laws_calls.specs.history.Readers.Unfinished.{is_unfinished, unfinished}
use Rattle.dsql_laws_calls.specs.history.Rules.House.{has_no_chore, is_untidy}
use Rattle.dsql_laws_calls.specs.history.Rules.Line.{due_for, is_used, tidying}
use Rattle.dsql_laws_calls.specs.history.Rules.Ending.{ending}
use Rattle.dsql_laws_calls.specs.history.Rules.Sent.{close_due, line_of}
use Rattle.dsql_laws_calls.specs.history.Rules.Stands.{has_to_reply, stand, is_waiting}
use Rattle.dsql_laws_calls.specs.history.Legal.{Lawful, Legal}
use Rattle.dsql_laws_calls.proofs.laws.AtRest.{rests_owing_nothing}
use Rattle.dsql_laws_calls.proofs.laws.Tests.{both, same_itself, together}
use Rattle.dsql_laws_ends.proofs.Resting.{kept_so, found_there, resting_unfinished}
use Rattle.dsql_laws_calls.proofs.Closed.{closed_shut, ended_closed}
use Rattle.dsql_laws_calls.proofs.Ends.{over_once_ended}
use Rattle.dsql_laws_calls.proofs.AtEnd.{waits_only}
use Rattle.dsql_laws_calls.proofs.Owners.{owner_is_of}
use Rattle.dsql_laws_calls.proofs.laws_work.Rows.{same_or_not}
use Rattle.dsql_laws_ends.specs.Over.{HasRunOut, IsOver, ends_so, was_ended}
use Rattle.dsql_laws_ends.proofs.Left.{IsKnown, known}
use Rattle.dsql_laws_ends.proofs.EndsHeard.{ended_or_lent}
use Rattle.dsql_laws_ends.proofs.RunOut.{no_chore, NoChore, quiet_where_run_out}
use Rattle.dsql_laws_ends.proofs.Senders.{attended, needed_end, needed_over}
use Rattle.dsql_laws_others.proofs.Leaves.{lent_used}

-- Each call has its reply. An unfinished call would wait, but no call waits for a closed database.

none_waits : (H : List Event) (n : ℕ) → (pool H).waiting ≡ [] → is_waiting (stand H n) ≡ true → ⊥
none_waits H n none h =
    let waiting = waits_only (waits n (pool H).waiting) (is_some (due_for H n)) (has_to_reply H n) (asks_again (tries H n)) (smallest (is_for n) (pool H)) (site H n) h in
    let clash : false ≡ true = sym (ap (waits n) none) ∙ waiting in
    cc

none_left : (q : ℕ → Bool) (ns : List ℕ) → list_all q ns ≡ true → ((n : ℕ) → q n ≡ true → ⊥) → ns ≡ []
none_left q [] h none = refl
none_left q (n ∷ ns) h none = let a = both (q n) (list_all q ns) h in absurd (none n a.0)

all_replied : (H : List Event) (flights : List Flight) → Legal H → has_ended H ≡ true → HasRunOut H flights → unfinished H ≡ []
all_replied H flights legal ended out =
    let b = both (list_all (λ n. is_waiting (stand H n)) (unfinished H)) (has_no_chore H) (quiet_where_run_out H flights legal.lawful legal.settled out) in
    let shut = closed_shut H legal.lawful (ended_closed H ended) in
    none_left (λ n. is_waiting (stand H n)) (unfinished H) b.0 (λ n waiting. none_waits H n shut.waiting waiting)

-- Holds if the history has what is known of a run that has ended and run out.
record Ends (H : List Event) : Type 0 where
  lawful : Lawful H
  legal : Legal H
  ended : has_ended H ≡ true
  replied : unfinished H ≡ []
  chores : NoChore H

-- A closed pool at rest has no idle connection.

none_idle : (H : List Event) (c : ℕ) → Ends H → place H c ≡ Some Idle → ⊥
none_idle H c ends is =
    let settled = ends.legal.settled in
    let rest = rests_owing_nothing H ends.lawful settled.nothing_owed in
    let counted : times c (pool H).idle ≡ 1 = rest.placed c ∙ ap (λ (at : Option Place). cond {A = ℕ} (is_idle at) 1 0) is in
    let b = both (is_empty (pool H).idle) (is_empty (pool H).waiting) (closed (pool H).closed (ended_closed H ends.ended) rest.none) in
    none_of (pool H).idle b.0 counted
  where
    closed : (b : Bool) → b ≡ true → (not b || (is_empty (pool H).idle && is_empty (pool H).waiting)) ≡ true → (is_empty (pool H).idle && is_empty (pool H).waiting) ≡ true
    closed true is_so h = h
    closed false is_so h = absurd cc

    none_of : (ns : List ℕ) → is_empty ns ≡ true → times c ns ≡ 1 → ⊥
    none_of [] h k = cc
    none_of (n ∷ ns) h k = cc

-- A lent connection is in use, but each call that could use it has gone.

not_unfinished : (H : List Event) (n : ℕ) → unfinished H ≡ [] → is_unfinished H n ≡ true → ⊥
not_unfinished H n none u = let clash : false ≡ true = sym (ap (λ (ns : List ℕ). has n ns) none) ∙ u in cc

-- If its call has gone, the layer has to tidy up a lent connection.

untidy : (H : List Event) (c t : ℕ) (owner : Owner) → Lawful H → place H c ≡ Some (Lent t owner) → is_some (tidying H (number_of owner)) ≡ true → is_untidy H (Lent t owner) ≡ true
untidy H c t owner l is some = together (not (is_house owner)) (is_some (tidying H (number_of owner))) (ap not (owner_is_of H c t owner l is).0) some

closes_rows : (H : List Event) (n : ℕ) → is_begun H n ≡ false → over (rows_by H n) ≡ true → ender H n ≡ 0 → is_some (line_of H n wishes.Close) ≡ true → is_some (tidying H n) ≡ true
closes_rows H n unbegun gone none line =
    ap (λ (b : Bool). is_some (cond b (cond (tx_ender H n == 0) (ending H n) None) (cond (ender H n == 0) (close_due H n) None))) unbegun
    ∙ (ap (λ (b : Bool). is_some (cond b (close_due H n) None)) (ap (λ k. k == 0) none) ∙ (ap (λ (b : Bool). is_some (cond b (line_of H n wishes.Close) None)) gone ∙ line))

ends_it : (H : List Event) (n : ℕ) → is_begun H n ≡ true → tx_ender H n ≡ 0 → is_some (ending H n) ≡ true → is_some (tidying H n) ≡ true
ends_it H n begun none some =
    ap (λ (b : Bool). is_some (cond b (cond (tx_ender H n == 0) (ending H n) None) (cond (ender H n == 0) (close_due H n) None))) begun
    ∙ (ap (λ (b : Bool). is_some (cond b (ending H n) None)) (ap (λ k. k == 0) none) ∙ some)

none_lent : (H : List Event) (c t : ℕ) (owner : Owner) → Ends H → place H c ≡ Some (Lent t owner) → ⊥
none_lent H c t owner ends is = by (is_begun H n) refl
  where
    n : ℕ
    n = number_of owner

    used : is_used H n ≡ true
    used =
        let settled = ends.legal.settled in
        kept_so (is_used H n) (rests H n) (lent_used H c t owner settled.used is) (λ it. not_unfinished H n ends.replied (resting_unfinished H n it))

    dead : are_live H n ≡ false
    dead = let o = over_once_ended H ends.lawful ends.ended in o.live n

    stays : goes_on H n ≡ false
    stays = let o = over_once_ended H ends.lawful ends.ended in o.going n

    is_tidy : is_some (tidying H n) ≡ true → ⊥
    is_tidy some = let chores = ends.chores in found_there H (is_untidy H) c (Lent t owner) is (untidy H c t owner ends.lawful is some) chores.tidy

    closes : is_begun H n ≡ false → over (rows_by H n) ≡ true → (ender H n ≡ 0) ⊎ (ender H n ≢ 0) → ⊥
    closes unbegun gone (inl none) = is_tidy (closes_rows H n unbegun gone none (needed_over H n unbegun gone used))
    closes unbegun gone (inr some) = let a = attended H ends.lawful in not_unfinished H (ender H n) ends.replied (a.closed c t owner is unbegun some)

    over_of : (o : Option Rows) → live o ≡ false → is_some o ≡ true → over o ≡ true
    over_of None d s = absurd cc
    over_of (Some q) d s = ap not d

    rows : is_begun H n ≡ false → (o : Option Rows) → rows_by H n ≡ o → ⊥
    rows unbegun None none = let a = attended H ends.lawful in not_unfinished H n ends.replied (a.unmade c t owner is unbegun none)
    rows unbegun (Some r) some = closes unbegun (over_of (rows_by H n) dead (ap (λ (o : Option Rows). is_some o) some)) (same_or_not (ender H n) 0)

    transaction : is_begun H n ≡ true → (tx_ender H n ≡ 0) ⊎ (tx_ender H n ≢ 0) → ⊥
    transaction begun (inl none) = is_tidy (ends_it H n begun none (needed_end H n begun stays dead used))
    transaction begun (inr some) = let a = attended H ends.lawful in not_unfinished H (tx_ender H n) ends.replied (a.ended c t owner is some)

    by : (b : Bool) → is_begun H n ≡ b → ⊥
    by true begun = transaction begun (same_or_not (tx_ender H n) 0)
    by false unbegun = rows unbegun (rows_by H n) refl

nowhere : (H : List Event) (c : ℕ) → Ends H → place H c ≡ None
nowhere H c ends = by (place H c) refl
  where
    chores : NoChore H
    chores = ends.chores

    by : (o : Option Place) → place H c ≡ o → o ≡ None
    by None is = refl
    by (Some Idle) is = absurd (none_idle H c ends is)
    by (Some (Lent t owner)) is = absurd (none_lent H c t owner ends is)
    by (Some (Opening wanted)) is = absurd (found_there H (λ at. is_opening (Some at)) c (Opening wanted) is refl chores.connect)
    by (Some Closing) is = absurd (found_there H (λ at. is_closing (Some at)) c Closing is refl chores.shut)

none_open : (conns : List Conn) → ((c : ℕ) → option_map (λ (x : Conn). x.place) (conn_of c conns) ≡ None) → length conns ≡ 0
none_open [] none = refl
none_open (x ∷ xs) none =
    let here : option_map (λ (y : Conn). y.place) (conn_of x.number (x ∷ xs)) ≡ Some x.place =
    ap (λ (b : Bool). option_map (λ (y : Conn). y.place) (cond b (Some x) (conn_of x.number xs))) (same_itself x.number)
    in
    let clash : Some x.place ≡ None = sym here ∙ none x.number in
    absurd cc

whole_or_silent : (H : List Event) (c : ℕ) → Ends H → (journal H c ≡ []) ⊎ IsWhole (journal H c)
whole_or_silent H c ends = by (known H c ends.lawful)
  where
    by : IsKnown H c → (journal H c ≡ []) ⊎ IsWhole (journal H c)
    by (inl silent) = inl silent
    by (inr (inl there)) = let clash : false ≡ true = sym (ap (λ (o : Option Place). is_some o) (nowhere H c ends)) ∙ there in absurd cc
    by (inr (inr left)) = let keeps = ends.legal.journals in inr (keeps.wholes c left)

-- No connection is lent to a transaction at the end, so each transaction was ended.
all_ended : (H : List Event) (k : ℕ) → Ends H → was_ended H (tx_ender H k) (tx_by H k) ≡ true
all_ended H k ends = by (tx_by H k) refl
  where
    by : (o : Option Tx) → tx_by H k ≡ o → was_ended H (tx_ender H k) o ≡ true
    by None is = refl
    by (Some tx) is =
        elim (ended_or_lent H k tx ends.lawful is) [
          | inl lent ↦ absurd (none_lent H tx.conn tx.tenure lent.owner ends lent.place)
          | inr so ↦ ap (λ o. list_any (ends_so (tx_ender H k) (end_of o)) (heard_in H tx.conn tx.tenure)) (sym is) ∙ so
        ]

pub over_where_run_out : (H : List Event) (flights : List Flight) → Legal H → has_ended H ≡ true → HasRunOut H flights → IsOver H
over_where_run_out H flights legal ended out =
    let ends : Ends H = record { lawful = legal.lawful; legal = legal; ended = ended; replied = all_replied H flights legal ended out; chores = no_chore H out.idle } in
    record {
      replied = ends.replied;
      none_open = none_open (pool H).conns (λ c. nowhere H c ends);
      nowhere = λ c. nowhere H c ends;
      whole = λ c. whole_or_silent H c ends;
      none_goes_on = λ k. let o = over_once_ended H legal.lawful ended in o.going k;
      ended = λ k. all_ended H k ends;
    }
