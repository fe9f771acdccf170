-- An answer leaves each other call standing somewhere, if the history is settled at each event from outside. A
-- call that has settled nothing goes on. A call that has settled its reply and has more to send holds the turn
-- on its own connection.
use Rattle.dsql_laws_calls.specs.course.Made.{or_else}
use Rattle.dsql_laws_calls.specs.history.Readers.Transactions.{is_begun}
use Rattle.dsql_laws_calls.specs.history.Readers.Works.{owner_as, work, scope, asks, borrower, is_fetch}
use Rattle.std.proofs.Common.{◌≡◌, ◌≢◌, ℕ, ◌==◌, ◌⊎◌, inl, inr, Bool, true, false, not, ◌&&◌, ◌||◌, cond, List, ◌∷◌, Option, Some, None, is_some, is_none, refl, sym, ap, subst, ◌∙◌}
use Rattle.std.specs.Option.{option_map}
use Rattle.std.specs.Prelude.{find}
use Rattle.dsql_laws_calls.specs.driver.declared.caps.Caps.{Caps}
use Rattle.dsql_laws_calls.specs.course.declared.course.Wish.TheVariants as wishes
use Rattle.dsql_laws_calls.specs.journal.declared.entry.Entry.{Entry}
use Rattle.dsql_laws_calls.specs.journal.declared.entry.Owner.{Owner}
use Rattle.dsql_laws_calls.specs.journal.Kinds.{is_call, number_of}
use Rattle.dsql_laws_calls.specs.wait.Requests.{waits}
use Rattle.dsql_laws_calls.specs.pool.declared.conn.Conn.{Conn}
use Rattle.dsql_laws_calls.specs.pool.declared.conn.Place.TheVariants.{Lent}
use Rattle.dsql_laws_calls.specs.pool.Places.{is_for, conn_of}
use Rattle.dsql_laws_calls.specs.history.declared.record.Try.{Try}
use Rattle.dsql_laws_calls.specs.history.Readers.Pool.{smallest, is_home, pool, place}
use Rattle.dsql_laws_calls.specs.history.Readers.Tries.{asks_again, was_served, tries}
use Rattle.dsql_laws_calls.proofs.laws.Truths.{or_first, or_second}
use Rattle.dsql_laws_calls.proofs.laws.Tests.{both, other_number, same_itself}
use Rattle.dsql_laws_calls.proofs.laws_work.Rows.{same_or_not}
use Rattle.dsql_laws_others.proofs.Once.{found_some}
use Rattle.dsql_laws_others.proofs.Settling.{somewhere, each_stands}
use Rattle.dsql_laws_calls.specs.history.declared.event.Event.{Event}
use Rattle.dsql_laws_calls.specs.history.declared.event.Event.TheVariants.{Heard}
use Rattle.dsql_laws_calls.specs.history.declared.reply.Reply.{Reply}
use Rattle.dsql_laws_calls.specs.history.declared.work.Scope.TheVariants.{Db, Held}
use Rattle.dsql_laws_calls.specs.history.declared.work.Work.{Work}
use Rattle.dsql_laws_calls.specs.history.declared.work.Task.TheVariants.{HandOut}
use Rattle.dsql_laws_calls.specs.history.declared.work.Work.TheVariants.{Statement, Begin, End, Ping, Fetch, Close, Look}
use Rattle.dsql_laws_calls.specs.history.Readers.Calls.{site, decided, told_of_work, told_by_others, told_as_lent, told_at_lending, asks_nothing, rests, rests_with, reply_due, has_begun_to_send}
use Rattle.dsql_laws_calls.specs.history.Readers.Course.{caps}
use Rattle.dsql_laws_calls.specs.history.Readers.HandedOut.{rows_by, is_late, are_live}
use Rattle.dsql_laws_calls.specs.history.Readers.Unfinished.{is_unfinished, unfinished}
use Rattle.dsql_laws_calls.specs.history.Rules.Line.{due_in, due_for}
use Rattle.dsql_laws_calls.specs.history.Rules.Settled.{calls_stand, calls_stand_but}
use Rattle.dsql_laws_calls.specs.history.Rules.Stands.{is_own_step, is_settled_for, has_to_reply, stand}
use Rattle.dsql_laws_calls.specs.history.Legal.{Lawful, Calm}
use Rattle.dsql_laws_calls.proofs.laws.Numbered.{unfinished_from_one}
use Rattle.dsql_laws_calls.proofs.BeginningsAt.{heard_tenure, beginnings}
use Rattle.dsql_laws_calls.proofs.Coming.{sound}
use Rattle.dsql_laws_calls.proofs.Makers.{hands_out, rows_hand_out, sent_made}
use Rattle.dsql_laws_calls.proofs.Owners.{owner_is_of}
use Rattle.dsql_laws_calls.proofs.Stays.{not_looking}
use Rattle.dsql_laws_calls.proofs.UnderWay.{UnderWay, clash}
use Rattle.dsql_laws_calls.proofs.Unspoilt.{none_bad}
use Rattle.dsql_laws_calls.proofs.Why.{Why}
use Rattle.dsql_laws_replies.proofs.EndReplies.{end_replies}
use Rattle.dsql_laws_replies.proofs.InsideReplies.{inside_replies}
use Rattle.dsql_laws_replies.proofs.Served.{served_replies}
use Rattle.dsql_laws_others.proofs.LentBeside.{owner_at}
use Rattle.dsql_laws_due.proofs.FetchReplies.{fetch_replies}
use Rattle.dsql_laws_answers.proofs.Beside.{tried_same, decided_same, settled_still, told_settles}
use Rattle.dsql_laws_answers.proofs.Elsewhere.{HeardLent, comes_there, line_off}
use Rattle.dsql_laws_answers.proofs.Deciding.{due_busy}
use Rattle.dsql_laws_answers.proofs.Due.{DueThere, due_there}
use Rattle.dsql_laws_answers.proofs.Lost.{served_or_bad}
use Rattle.dsql_laws_answers.proofs.SendsOn.{BesideLent, decided_off}
use Rattle.dsql_laws_answers.proofs.Turns.{holding}
use Rattle.dsql_laws_answers.proofs.Settled.{decided_not, stands_there}
use Rattle.dsql_laws_calls.specs.history.Rules.Wishes.{wish_as}
use Rattle.dsql_laws_calls.specs.history.declared.reply.Reply.TheVariants.{Truth}
use Rattle.dsql_laws_calls.specs.history.Rules.Sent.{line_of, wish, sent_for}
use Rattle.dsql_laws_calls.proofs.EndedRows.{rows_kept, live_no_ender}
use Rattle.dsql_laws_calls.proofs.LiveRows.{dead_over}
use Rattle.dsql_laws_calls.proofs.Own.{asks_own, due_line}
use Rattle.dsql_laws_answers.proofs.OwnRows.{own_live_line}

-- A call that has settled nothing goes on: something is due for it, or others have settled what it replies.

told_from : (d o l : Option Reply) → d ≡ None → l ≡ None → is_some (or_else (or_else d o) l) ≡ true → is_some o ≡ true
told_from None o None p q h = by o h
  where
    by : (x : Option Reply) → is_some (or_else x None) ≡ true → is_some x ≡ true
    by None y = absurd cc
    by (Some r) y = refl
told_from (Some r) o l p q h = absurd cc
told_from None o (Some r) p q h = absurd cc

lent_none : (can : Caps) (w : Work) (ts : List Try) → (w ≡ Ping → ⊥) → told_as_lent can w ts ≡ None
lent_none can Ping ts other = absurd (other refl)
lent_none can w ts other = refl

-- The call replies if it has nothing to send.
from_reply : (H : List Event) (e : Entry) (t : ℕ) (own : Owner) (m : ℕ) → BesideLent H e t own m → decided H m ≡ None → (work H m ≡ Ping → ⊥) → (is_some (due_for (Heard e ∷ H) m) ≡ false → is_some (reply_due (Heard e ∷ H) m) ≡ true)
    → (is_some (due_for (Heard e ∷ H) m) ≡ true) ⊎ (is_settled_for (Heard e ∷ H) m ≡ true)
from_reply H e t own m b none other replies = by (is_some (due_for (Heard e ∷ H) m)) refl
  where
    K : List Event
    K = Heard e ∷ H

    by : (x : Bool) → is_some (due_for K m) ≡ x → (is_some (due_for K m) ≡ true) ⊎ (is_settled_for K m ≡ true)
    by true due = inl due
    by false due =
        inr (told_settles H e m b.beside none (told_from (decided K m) (told_by_others K m) (told_at_lending K m) (decided_same H e m b.beside ∙ none) (lent_none (caps H) (work H m) (tries K m) other) (replies due)))

-- A call that sends on a connection of its own still does, or its reply is settled.
own_goes : (H : List Event) (e : Entry) (t : ℕ) (own : Owner) (m : ℕ) → BesideLent H e t own m → decided H m ≡ None → asks (work H m) ≡ true → is_some (due_for H m) ≡ true
    → (is_some (due_for (Heard e ∷ H) m) ≡ true) ⊎ (is_settled_for (Heard e ∷ H) m ≡ true)
own_goes H e t own m b none asking h = by (same_or_not e.conn (site H m))
  where
    K : List Event
    K = Heard e ∷ H

    hl : HeardLent H e t own
    hl = b.heard

    lawful : Lawful (Heard e ∷ H)
    lawful = hl.lawful

    off : e.conn ≢ site H m → is_some (due_for K m) ≡ true
    off apart =
        let line = line_off H e m wishes.Nothing (not_looking (work H m) asking) apart in
        let same : due_in K m (work H m) ≡ due_in H m (work H m) = due_line K m (work H m) asking ∙ (line ∙ sym (due_line H m (work H m) asking)) in
        ap (λ d. is_some (cond (is_unfinished H m) d None)) same ∙ h

    its : e.conn ≡ site H m → number_of own ≡ m
    its same = let there = due_there H m b.beside.number h in owner_at (place H e.conn) t there.tenure own there.owner hl.lent (ap (place H) same ∙ there.lent) ∙ (there.whose ∙ asks_own H m asking)

    way : (u : UnderWay H e) × (u.owner ≡ own)
    way = let s = sound H lawful.0 in let u = s.coming e (comes_there H e t own hl) in (u, lent_same u.owner (sym u.lent ∙ hl.lent))
      where
        lent_same : {u v : ℕ} (o : Owner) → Some (Lent u o) ≡ Some (Lent v own) → o ≡ own
        lent_same o x = cc

    made : number_of own ≡ m → is_some (rows_by H (number_of own)) ≡ true → (is_some (due_for K m) ≡ true) ⊎ (is_settled_for K m ≡ true)
    made number some =
        let hands : hands_out (work H m) ≡ true = ap (λ k. hands_out (work H k)) (sym number) ∙ rows_hand_out H (number_of own) some in
        from_reply H e t own m b none (λ pings. clash (sym hands ∙ ap hands_out pings)) (λ due. served_replies K m lawful b.beside.unfinished (ap was_served (tried_same H e m b.beside) ∙ served hands) due)
      where
        call_of : (w : Work) (n : ℕ) → hands_out w ≡ true → is_call (owner_as w n) ≡ true
        call_of (Statement s (HandOut label)) n x = refl
        call_of w n x = absurd cc

        served : hands_out (work H m) ≡ true → was_served (tries H m) ≡ true
        served hands =
            let whose = owner_is_of H e.conn t own lawful.0 hl.lent in
            let call : is_call own ≡ true = ap is_call whose.1 ∙ call_of (work H (number_of own)) (number_of own) (ap (λ k. hands_out (work H k)) number ∙ hands) in
            let tenure = heard_tenure H e t own lawful.1 hl.lent in
            let good = none_bad H e own lawful.0 (comes_there H e t own hl) (hl.lent ∙ ap (λ v. Some (Lent v own)) (sym tenure)) call in
            elim (served_or_bad H e.conn t own lawful.0 hl.lent) [
              | inl is ↦ ap (λ k. was_served (tries H k)) (sym number) ∙ is
              | inr bad ↦ clash (sym bad ∙ good)
            ]

    here : number_of own ≡ m → (is_some (due_for K m) ≡ true) ⊎ (is_settled_for K m ≡ true)
    here number = let u = way.0 in from (subst (λ o. Why H e.conn e.tenure o e.call_no) way.1 u.why)
      where
        from : Why H e.conn e.tenure own e.call_no → (is_some (due_for K m) ≡ true) ⊎ (is_settled_for K m ≡ true)
        from (inl x) = absurd (b.beside.other (sym x.itself ∙ number))
        from (inr (inl x)) = made number x.some
        from (inr (inr x)) =
            let bg = beginnings H lawful.0 in
            decided_not (decided H m) (bg.told m (ap (is_begun H) (sym number) ∙ x.begun) b.beside.unfinished) none

    by : (e.conn ≡ site H m) ⊎ (e.conn ≢ site H m) → (is_some (due_for K m) ≡ true) ⊎ (is_settled_for K m ≡ true)
    by (inl same) = here (its same)
    by (inr apart) = inl (off apart)

-- A fetch from rows of a call on the database goes on. It fetches from live rows, and otherwise replies.
fetch_goes : (H : List Event) (e : Entry) (t : ℕ) (own : Owner) (m k : ℕ) → BesideLent H e t own m → decided H m ≡ None → work H m ≡ Fetch k → asks (work H k) ≡ true → is_some (due_for H m) ≡ true
    → (is_some (due_for (Heard e ∷ H) m) ≡ true) ⊎ (is_settled_for (Heard e ∷ H) m ≡ true)
fetch_goes H e t own m k b none is asking h = by (are_live K k) refl
  where
    K : List Event
    K = Heard e ∷ H

    due : is_some (sent_for H k (wish H m k)) ≡ true
    due = sym (ap (λ x. is_some (cond x (due_in H m (work H m)) None)) b.beside.unfinished ∙ ap (λ w. is_some (due_in H m w)) is) ∙ h

    wanted : are_live K k ≡ true → wish K m k ≡ wishes.Fetch
    wanted lives =
        let rest = not (is_late K (scope (work H k))) || has_begun_to_send K m in
        ap (λ n. wish_as ((n == m) && rest) (is_fetch (work H m) && (are_live K k && is_none (decided K m)))) (live_no_ender K k lives)
        ∙ (ap (λ x. wish_as (x && rest) (is_fetch (work H m) && (are_live K k && is_none (decided K m)))) (other_number 0 m (λ same. b.beside.number (sym same)))
        ∙ (ap (λ w. wish_as false (is_fetch w && (are_live K k && is_none (decided K m)))) is
        ∙ (ap (λ x. wish_as false (x && is_none (decided K m))) lives ∙ ap (λ o. wish_as false (is_none o)) (decided_same H e m b.beside ∙ none))))

    sends : are_live K k ≡ true → is_some (line_of K k wishes.Fetch) ≡ true
    sends lives = let hl = b.heard in own_live_line K k wishes.Fetch hl.lawful lives asking (λ x. cc)

    by : (x : Bool) → are_live K k ≡ x → (is_some (due_for K m) ≡ true) ⊎ (is_settled_for K m ≡ true)
    by true lives =
        inl (ap (λ x. is_some (cond x (due_in K m (work H m)) None)) b.beside.unfinished
        ∙ (ap (λ w. is_some (due_in K m w)) is ∙ (ap (λ w. is_some (sent_for K k w)) (wanted lives) ∙ sends lives)))
    by false dead =
        let kept = rows_kept H (Heard e) k in
        let made = kept.some (sent_made H m k (other_number m 0 b.beside.number) due) in
        inr (told_settles H e m b.beside none (ap (λ w. is_some (told_of_work K m w)) is ∙ ap (λ x. is_some (cond {A = Option Reply} x (Some (Truth false)) None)) (dead_over (rows_by K k) made dead)))

-- Holds if call m has its reply settled whenever it fetches from rows of a transaction and has nothing to send.
abbrev FetchReplies : List Event → ℕ → Type 0
FetchReplies H m = (k : ℕ) → work H m ≡ Fetch k → asks (work H k) ≡ false → is_some (due_for H m) ≡ false → is_some (reply_due H m) ≡ true

undecided_goes : (H : List Event) (e : Entry) (t : ℕ) (own : Owner) (m : ℕ) → BesideLent H e t own m → decided H m ≡ None → is_some (due_for H m) ≡ true → FetchReplies (Heard e ∷ H) m
    → (is_some (due_for (Heard e ∷ H) m) ≡ true) ⊎ (is_settled_for (Heard e ∷ H) m ≡ true)
undecided_goes H e t own m b none h replies = by (work H m) refl
  where
    K : List Event
    K = Heard e ∷ H

    lawful : Lawful (Heard e ∷ H)
    lawful = let hl = b.heard in hl.lawful

    inner : (w : Work) (k : ℕ) → work H m ≡ w → scope w ≡ Held k → (w ≡ Ping → ⊥) → (is_some (due_for K m) ≡ true) ⊎ (is_settled_for K m ≡ true)
    inner w k is s other = from_reply H e t own m b none (λ pings. other (sym is ∙ pings)) (λ due. inside_replies K m k lawful b.beside.unfinished (ap scope is ∙ s) due)

    own_one : (w : Work) → work H m ≡ w → asks w ≡ true → (is_some (due_for K m) ≡ true) ⊎ (is_settled_for K m ≡ true)
    own_one w is asking = own_goes H e t own m b none (ap asks is ∙ asking) h

    by : (w : Work) → work H m ≡ w → (is_some (due_for K m) ≡ true) ⊎ (is_settled_for K m ≡ true)
    by (Fetch k) is = fetches (asks (work H k)) refl
      where
        fetches_not : Fetch k ≡ Ping → ⊥
        fetches_not x = cc

        fetches : (x : Bool) → asks (work H k) ≡ x → (is_some (due_for K m) ≡ true) ⊎ (is_settled_for K m ≡ true)
        fetches true asking = fetch_goes H e t own m k b none is asking h
        fetches false inside = from_reply H e t own m b none (λ pings. fetches_not (sym is ∙ pings)) (replies k is inside)
    by (Close k) is = inr (told_settles H e m b.beside none (ap (λ w. is_some (told_of_work K m w)) is))
    by (End k) is = from_reply H e t own m b none (λ pings. ends_not (sym is ∙ pings)) (λ due. end_replies K m k lawful b.beside.unfinished is due)
      where
        ends_not : End k ≡ Ping → ⊥
        ends_not x = cc
    by Look is = absurd (due_busy H m h is)
    by (Statement Db task) is = own_one (Statement Db task) is refl
    by (Begin label level read_only) is = own_one (Begin label level read_only) is refl
    by Ping is = own_one Ping is refl
    by (Statement (Held k) task) is = inner (Statement (Held k) task) k is refl (λ x. cc)

-- A call that has settled its reply and has more to send isn't under way there, or rests.

rests_there : (H : List Event) (m : ℕ) → DueThere H m → rests H m ≡ true → is_some (rests_with H m) ≡ true
rests_there H m d is = ap (λ r. is_some (cond r (smallest (is_home m) (pool H)) None)) is ∙ (some_number (find (λ (x : Conn). is_home m x.place) (pool H).conns) ∙ found (conn_of (site H m) (pool H).conns) refl d.lent)
  where
    some_number : (o : Option Conn) → is_some (option_map (λ (x : Conn). x.number) o) ≡ is_some o
    some_number None = refl
    some_number (Some x) = refl

    ping_own : (w : Work) (ts : List Try) → asks_nothing (caps H) w ts ≡ true → asks w ≡ true
    ping_own Ping ts x = refl
    ping_own w ts x = absurd cc

    itself : borrower H m ≡ m
    itself = let r = both (is_unfinished H m) (asks_nothing (caps H) (work H m) (tries H m)) is in asks_own H m (ping_own (work H m) (tries H m) r.1)

    found : (o : Option Conn) → conn_of (site H m) (pool H).conns ≡ o → option_map (λ (x : Conn). x.place) o ≡ Some (Lent d.tenure d.owner) → is_some (find (λ (x : Conn). is_home m x.place) (pool H).conns) ≡ true
    found None at is_lent = absurd cc
    found (Some x) at is_lent =
        let its : x.place ≡ Lent d.tenure d.owner = cc in
        found_some (λ y. is_home m y.place) (site H m) (pool H).conns x at (ap (is_home m) its ∙ (ap (λ n. n == m) (d.whose ∙ itself) ∙ same_itself m))

decided_goes : (H : List Event) (e : Entry) (t : ℕ) (own : Owner) (m : ℕ) → BesideLent H e t own m → Calm H → is_some (decided H m) ≡ true → asks_again (tries H m) ≡ false → is_some (due_for H m) ≡ true
    → (is_some (due_for (Heard e ∷ H) m) ≡ true) ⊎ (is_settled_for (Heard e ∷ H) m ≡ true)
decided_goes H e t own m b calm settled tried h = by (rests H m) refl (same_or_not e.conn (site H m))
  where
    K : List Event
    K = Heard e ∷ H

    hl : HeardLent H e t own
    hl = b.heard

    there : DueThere H m
    there = due_there H m b.beside.number h

    by : (r : Bool) → rests H m ≡ r → (e.conn ≡ site H m) ⊎ (e.conn ≢ site H m) → (is_some (due_for K m) ≡ true) ⊎ (is_settled_for K m ≡ true)
    by true is at = inr (settled_still H e m b.beside (or_first (is_some (rests_with H m)) (is_none (decided H m) && is_some (told_by_others H m)) (rests_there H m there is)))
    by false is (inr apart) = inl (decided_off H e t own m b settled apart h)
    by false is (inl same) =
        let l = hl.lawful in
        let its : number_of own ≡ borrower H m = owner_at (place H e.conn) t there.tenure own there.owner hl.lent (ap (place H) same ∙ there.lent) ∙ there.whose in
        let hold = holding H l.0 calm in
        absurd (b.beside.other (hold.sender e m t own (comes_there H e t own hl) (record {
          settling = record { number = b.beside.number; unfinished = b.beside.unfinished; decided = settled; tried = tried; unresting = is };
          sends = h;
          uses = sym its;
          lent = hl.lent;
        })))

-- So each call stands somewhere.

carry : (w o d r a x y : Bool) → (a ≡ false → d ≡ true → (x || y) ≡ true) → (r ≡ true → y ≡ true) → (w || (o || ((d || r) || a))) ≡ true → (w || (o || ((x || y) || a))) ≡ true
carry true o d r a x y f g h = refl
carry false true d r a x y f g h = refl
carry false false d r true x y f g h = last (x || y)
  where
    last : (b : Bool) → (b || true) ≡ true
    last true = refl
    last false = refl
carry false false true r false x y f g h = ap (λ b. b || false) (f refl refl)
carry false false false true false x y f g h = ap (λ b. (x || b) || false) (g refl) ∙ last x
  where
    last : (b : Bool) → ((b || true) || false) ≡ true
    last true = refl
    last false = refl
carry false false false false false x y f g h = absurd cc

stands_heard : (H : List Event) (e : Entry) (t : ℕ) (own : Owner) (m : ℕ) → BesideLent H e t own m → Calm H → FetchReplies (Heard e ∷ H) m → is_some (stand H m) ≡ true → is_some (stand (Heard e ∷ H) m) ≡ true
stands_heard H e t own m b calm fetching h =
    somewhere w o (is_some (due_for K m)) (has_to_reply K m) (asks_again (tries K m)) (site H m)
    ∙ (ap (λ ts. w || (is_some o || ((is_some (due_for K m) || has_to_reply K m) || asks_again ts))) (tried_same H e m b.beside)
    ∙ carry w (is_some o) (is_some (due_for H m)) (has_to_reply H m) (asks_again (tries H m)) (is_some (due_for K m)) (has_to_reply K m) goes replies_still
    (sym (somewhere w o (is_some (due_for H m)) (has_to_reply H m) (asks_again (tries H m)) (site H m)) ∙ h))
  where
    K : List Event
    K = Heard e ∷ H

    w : Bool
    w = waits m (pool H).waiting

    o : Option ℕ
    o = smallest (is_for m) (pool H)

    replies : is_settled_for K m ≡ true → has_to_reply K m ≡ true
    replies x = ap (λ y. not y && is_settled_for K m) (other_number e.call_no m b.beside.other) ∙ x

    replies_still : has_to_reply H m ≡ true → has_to_reply K m ≡ true
    replies_still x = let a = both (not (is_own_step H m)) (is_settled_for H m) x in replies (settled_still H e m b.beside a.1)

    either_way : (is_some (due_for K m) ≡ true) ⊎ (is_settled_for K m ≡ true) → (is_some (due_for K m) || has_to_reply K m) ≡ true
    either_way (inl due) = or_first (is_some (due_for K m)) (has_to_reply K m) due
    either_way (inr settled) = or_second (is_some (due_for K m)) (has_to_reply K m) (replies settled)

    goes : asks_again (tries H m) ≡ false → is_some (due_for H m) ≡ true → (is_some (due_for K m) || has_to_reply K m) ≡ true
    goes tried due = by (decided H m) refl
      where
        by : (d : Option Reply) → decided H m ≡ d → (is_some (due_for K m) || has_to_reply K m) ≡ true
        by (Some r) is = either_way (decided_goes H e t own m b calm (ap (λ x. is_some x) is) tried due)
        by None is = either_way (undecided_goes H e t own m b is due fetching)

-- Each call except that of the answer stands somewhere.
pub stands_still : (H : List Event) (e : Entry) (t : ℕ) (own : Owner) (m : ℕ) → HeardLent H e t own → Calm H → calls_stand H ≡ true → is_unfinished H m ≡ true → m ≢ e.call_no → is_some (stand (Heard e ∷ H) m) ≡ true
stands_still H e t own m hl calm h u apart =
    let l = hl.lawful in
    let number = unfinished_from_one H m l.0 u in
    let fetching : FetchReplies (Heard e ∷ H) m = λ k is inside silent. fetch_replies (Heard e ∷ H) m k l u is silent in
    stands_heard H e t own m (record { heard = hl; beside = record { other = λ same. apart (sym same); number = number; unfinished = u } }) calm fetching (stands_there H m number u h)

pub goes_on_heard : (H : List Event) (e : Entry) (t : ℕ) (own : Owner) → HeardLent H e t own → Calm H → calls_stand H ≡ true → calls_stand_but e.call_no (Heard e ∷ H) ≡ true
goes_on_heard H e t own hl calm h = each_stands 0 e.call_no (unfinished H) H (Heard e ∷ H) (λ m u apart was. stands_still H e t own m hl calm h u apart) h
