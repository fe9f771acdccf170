-- An answer to the layer, on a connection that isn't lent, leaves what is due for each call and which
-- connections are in use. Each call that stood somewhere still does.
use Rattle.std.proofs.Common.{◌≡◌, ◌≢◌, ℕ, ◌==◌, ◌⊎◌, inl, inr, Bool, true, false, ◌&&◌, ◌||◌, cond, List, [], ◌∷◌, ◌++◌, Option, Some, None, is_some, refl, sym, ap, ◌∙◌, arith}
use Rattle.dsql_laws_calls.specs.driver.declared.call.DriverCall.{DriverCall}
use Rattle.dsql_laws_calls.specs.driver.declared.call.DriverCall.TheVariants.{Connect, Shut}
use Rattle.dsql_laws_calls.specs.driver.Kinds.{is_begin, is_connect, is_shut}
use Rattle.dsql_laws_calls.specs.driver.Fits.{is_done}
use Rattle.dsql_laws_calls.specs.course.declared.course.Wish.{Wish}
use Rattle.dsql_laws_calls.specs.journal.declared.entry.Entry.{Entry}
use Rattle.dsql_laws_calls.specs.journal.Kinds.{is_house}
use Rattle.dsql_laws_calls.specs.numbered.Numbered.{thing_of}
use Rattle.dsql_laws_calls.specs.rows.OpenRows.{rows_of}
use Rattle.dsql_laws_calls.specs.tx.Transactions.{begun_on}
use Rattle.dsql_laws_calls.specs.pool.declared.conn.Place.{Place}
use Rattle.dsql_laws_calls.specs.pool.declared.conn.Place.TheVariants.{Opening, Closing}
use Rattle.dsql_laws_calls.specs.pool.Places.{is_lent}
use Rattle.dsql_laws_calls.specs.pool.Pooled.{Pooled, next_tenure}
use Rattle.dsql_laws_calls.specs.works.Line.{Asked}
use Rattle.dsql_laws_calls.specs.history.Readers.HandedOut.{live, handed_out, rows_heard, are_live}
use Rattle.dsql_laws_calls.specs.history.Readers.Pool.{pool, place, home}
use Rattle.dsql_laws_calls.specs.history.Readers.Tries.{lost, try_number, tries, loses}
use Rattle.dsql_laws_calls.proofs.laws.Tests.{both, same_number, other_number}
use Rattle.dsql_laws_calls.proofs.laws_work.Rows.{row_at, same_or_not}
use Rattle.dsql_laws_calls.specs.history.declared.event.Event.{Event}
use Rattle.dsql_laws_calls.specs.history.declared.event.Event.TheVariants.{Heard}
use Rattle.dsql_laws_calls.specs.history.declared.record.CallRecord.{CallRecord}
use Rattle.dsql_laws_calls.specs.history.declared.work.Work.{Work}
use Rattle.dsql_laws_calls.specs.history.declared.work.Work.TheVariants.{Look}
use Rattle.dsql_laws_calls.specs.history.Readers.Calls.{calls, call_record, nobody, decided_by, site, decided, asks_nothing, rests}
use Rattle.dsql_laws_calls.specs.history.Readers.Course.{caps}
use Rattle.dsql_laws_calls.specs.history.Readers.Transactions.{transactions, tx_by, tx_end}
use Rattle.dsql_laws_calls.specs.history.Readers.Decisions.{decision}
use Rattle.dsql_laws_calls.specs.history.Readers.Unfinished.{unfinished, is_unfinished}
use Rattle.dsql_laws_calls.specs.history.Readers.Works.{work, aim_of, scope}
use Rattle.dsql_laws_calls.specs.history.Rules.Ending.{ending}
use Rattle.dsql_laws_calls.specs.history.Rules.Line.{due_for, is_used}
use Rattle.dsql_laws_calls.specs.history.Rules.Moves.{is_house_entry, hears_in}
use Rattle.dsql_laws_calls.specs.history.Rules.Sent.{line_of}
use Rattle.dsql_laws_calls.specs.history.Rules.Settled.{is_kept, uses_what_is_lent, calls_stand_but}
use Rattle.dsql_laws_calls.specs.history.Rules.Stands.{is_own_step, stand}
use Rattle.dsql_laws_calls.specs.history.Legal.{Lawful}
use Rattle.dsql_laws_calls.proofs.laws.Numbered.{some_calls, unfinished_from_one}
use Rattle.dsql_laws_calls.proofs.BeginningsAt.{heard_other}
use Rattle.dsql_laws_calls.proofs.Enders.{same_ender}
use Rattle.dsql_laws_calls.proofs.Ends.{zero_work}
use Rattle.dsql_laws_calls.proofs.Looks.{heard_there}
use Rattle.dsql_laws_calls.proofs.TxEnders.{same_going}
use Rattle.dsql_laws_calls.proofs.Works.{other_heard}
use Rattle.dsql_laws_calls.proofs.UnderWay.{clash}
use Rattle.dsql_laws_replies.proofs.Records.{trying_of}
use Rattle.dsql_laws_others.proofs.Alike.{due_alike, used_alike, lent_alike, line_asked, ends_alike, closings_alike, same_tx_ender}
use Rattle.dsql_laws_others.proofs.Homes.{no_line, no_ending}
use Rattle.dsql_laws_others.proofs.LentBeside.{LentAt, lent_or_not}
use Rattle.dsql_laws_others.proofs.Untouched.{still_stands}
use Rattle.dsql_laws_others.proofs.Settling.{each_stands}
use Rattle.dsql_laws_answers.proofs.Beside.{Beside, late_same, sent_same, tried_same, settled_still}

-- Two histories of which the second keeps what is settled in the first. Lent connections stay in use, and each
-- call that stood somewhere still does.
pub record Carried (H K : List Event) : Type 0 where
  pub used : uses_what_is_lent H ≡ true → uses_what_is_lent K ≡ true
  pub somewhere : (k : ℕ) → calls_stand_but k H ≡ true → calls_stand_but k K ≡ true

-- An answer to the layer, on a connection that isn't lent.
pub record OfLayer (H : List Event) (e : Entry) : Type 0 where
  pub lawful : Lawful (Heard e ∷ H)
  pub unlent : is_lent (place H e.conn) ≡ false
  pub layer : e.call_no ≡ 0
  pub begins : is_begin e.call ≡ false

no_begin : (q : DriverCall) → (is_connect q ≡ true) ⊎ (is_shut q ≡ true) → is_begin q ≡ false
no_begin Connect h = refl
no_begin Shut h = refl
no_begin q (inl h) = absurd cc
no_begin q (inr h) = absurd cc

house_calls : (e : Entry) (a : Bool) → (a && is_house_entry e) ≡ true → e.call_no ≡ 0
house_calls e a h = let b = both a (is_house e.owner && (e.call_no == 0)) h in let c = both (is_house e.owner) (e.call_no == 0) b.1 in same_number e.call_no 0 c.1

layer_hears : (p : Pooled) (at : Option Place) (e : Entry) → hears_in p at e ≡ true → is_lent at ≡ false → (e.call_no ≡ 0) × (is_begin e.call ≡ false)
layer_hears p (Some (Opening wanted)) e sets out =
    let a = both (is_connect e.call) ((e.tenure == 1) && is_house_entry e) sets in (house_calls e (e.tenure == 1) a.1, no_begin e.call (inl a.0))
layer_hears p (Some Closing) e sets out =
    let a = both (is_shut e.call) ((e.tenure == next_tenure p e.conn) && is_house_entry e) sets in (house_calls e (e.tenure == next_tenure p e.conn) a.1, no_begin e.call (inr a.0))
layer_hears p _ e sets out = absurd cc

pub of_layer : (H : List Event) (e : Entry) → Lawful (Heard e ∷ H) → is_lent (place H e.conn) ≡ false → OfLayer H e
of_layer H e l out =
    let there = heard_there H e l.1 in
    let it = layer_hears (pool H) (place H e.conn) e there.sets out in
    record { lawful = l; unlent = out; layer = it.0; begins = it.1 }

-- Records, rows and transactions stay as they are.

record_same : (H : List Event) (e : Entry) (n : ℕ) → OfLayer H e → call_record (Heard e ∷ H) n ≡ call_record H n
record_same H e n o = by (same_or_not n e.call_no)
  where
    new : CallRecord
    new = decided_by (try_number (tries H e.call_no)) (work H e.call_no) e (call_record H e.call_no)

    none : new ≡ call_record H e.call_no
    none =
        let m = e.call_no in
        ap
        (λ b.
        cond b (call_record H m) (record (call_record H m) { decided = decision (trying_of H m) e.call e.answer (decided H m) }))
        (ap (λ k. k == 0) o.layer)

    by : (n ≡ e.call_no) ⊎ (n ≢ e.call_no) → call_record (Heard e ∷ H) n ≡ call_record H n
    by (inl same) =
        let some = some_calls H in
        let zero_one = o.layer in
        ap (call_record (Heard e ∷ H)) same ∙ (row_at (calls H) e.call_no new nobody (omega (arith, some, zero_one)) ∙ (none ∙ ap (call_record H) (sym same)))
    by (inr apart) = other_heard H e n apart

rows_same : (H : List Event) (e : Entry) → OfLayer H e → handed_out (Heard e ∷ H) ≡ handed_out H
rows_same H e o = ap (λ w. rows_heard H w e.call_no e.call e.answer (handed_out H)) (ap (work H) o.layer ∙ zero_work H)

tx_same : (H : List Event) (e : Entry) → OfLayer H e → transactions (Heard e ∷ H) ≡ transactions H
tx_same H e o = by (is_begin e.call) o.begins
  where
    by : (b : Bool) → b ≡ false → cond (b && is_done e.answer) (transactions H ++ (e.call_no, begun_on e.conn e.tenure None) ∷ []) (transactions H) ≡ transactions H
    by true h = absurd cc
    by false h = refl

abbrev stated : CallRecord → Work → Asked
stated r w = record { text = r.text; params = r.params; aim = aim_of w }

-- So do lines, and what ends transactions.

off : (H : List Event) (e : Entry) (c : ℕ) → OfLayer H e → LentAt (place H c) → e.conn ≢ c
off H e c o a same = clash (sym (ap is_lent (ap (place H) same ∙ a.is)) ∙ o.unlent)

line_same : (H : List Event) (e : Entry) (n : ℕ) (w : Wish) → OfLayer H e → line_of (Heard e ∷ H) n w ≡ line_of H n w
line_same H e n w o = by (lent_or_not (place H (site H n)))
  where
    K : List Event
    K = Heard e ∷ H

    by : LentAt (place H (site H n)) ⊎ (is_lent (place H (site H n)) ≡ false) → line_of K n w ≡ line_of H n w
    by (inl a) =
        line_asked H K n w (site H n) (place H (site H n))
        (record { asked = ap (λ r. stated r (work H n)) (record_same H e n o); resets = refl; can = refl; its_work = refl; uses = refl; heard = heard_other H e (site H n) (off H e (site H n) o a) })
    by (inr out) = no_line K n w (site H n) (place H (site H n)) out ∙ sym (no_line H n w (site H n) (place H (site H n)) out)

ending_same : (H : List Event) (e : Entry) (k : ℕ) → OfLayer H e → ending (Heard e ∷ H) k ≡ ending H k
ending_same H e k o = by (lent_or_not (place H (home H k)))
  where
    K : List Event
    K = Heard e ∷ H

    by : LentAt (place H (home H k)) ⊎ (is_lent (place H (home H k)) ≡ false) → ending K k ≡ ending H k
    by (inl a) =
        ends_alike H K k (ap (thing_of k) (tx_same H e o)) refl refl
        (record { first = closings_alike H K k refl (λ j. ap (rows_of j) (rows_same H e o)) (λ n w. line_same H e n w o); can = refl; heard = heard_other H e (home H k) (off H e (home H k) o a) })
    by (inr out) = no_ending K k (home H k) (tx_end K k) refl out ∙ sym (no_ending H k (home H k) (tx_end H k) refl out)

live_same : (H : List Event) (e : Entry) (k : ℕ) → OfLayer H e → are_live (Heard e ∷ H) k ≡ are_live H k
live_same H e k o = ap (λ R. live (rows_of k R)) (rows_same H e o)

other_than : (H : List Event) (e : Entry) (m : ℕ) → OfLayer H e → m ≢ 0 → e.call_no ≢ m
other_than H e m o number same = number (sym same ∙ o.layer)

due_same : (H : List Event) (e : Entry) (m : ℕ) → OfLayer H e → m ≢ 0 → due_for (Heard e ∷ H) m ≡ due_for H m
due_same H e m o number = due_alike H (Heard e ∷ H) m (record {
  unfinished = refl;
  its_work = refl;
  live = λ k. live_same H e k o;
  enders = λ k. same_ender H (Heard e) k (live_same H e k o);
  late = λ k its. late_same H e (scope (work H k));
  going = λ k. same_going (tx_by H k) (tx_by (Heard e ∷ H) k) (ap (thing_of k) (tx_same H e o));
  tx_enders = λ k. same_tx_ender H (Heard e) k (same_going (tx_by H k) (tx_by (Heard e ∷ H) k) (ap (thing_of k) (tx_same H e o)));
  endings = λ k. ending_same H e k o;
  lines = λ n w its. line_same H e n w o;
  sent = inl (sent_same H e m (site H m) (other_than H e m o number));
  decided = ap (λ r. r.decided) (record_same H e m o);
})

-- So all that is settled stays settled.

rests_same : (H : List Event) (e : Entry) (n : ℕ) → OfLayer H e → rests (Heard e ∷ H) n ≡ rests H n
rests_same H e n o = by (same_or_not n 0)
  where
    looks : (b : Bool) → (n ≡ 0) → (b && asks_nothing (caps H) (work H n) (tries (Heard e ∷ H) n)) ≡ (b && asks_nothing (caps H) (work H n) (tries H n))
    looks b none =
        let is : work H n ≡ Look = ap (work H) none ∙ zero_work H in
        ap (λ w. b && asks_nothing (caps H) w (tries (Heard e ∷ H) n)) is ∙ sym (ap (λ w. b && asks_nothing (caps H) w (tries H n)) is)

    by : (n ≡ 0) ⊎ (n ≢ 0) → rests (Heard e ∷ H) n ≡ rests H n
    by (inl none) = looks (is_unfinished H n) none
    by (inr some) =
        ap (λ b. is_unfinished H n && asks_nothing (caps H) (work H n) (cond (b && loses (work H n) e) (lost (tries H n)) (tries H n))) (other_number e.call_no n (other_than H e n o some))

stands_same : (H : List Event) (e : Entry) (m : ℕ) → OfLayer H e → m ≢ 0 → is_unfinished H m ≡ true → is_some (stand H m) ≡ true → is_some (stand (Heard e ∷ H) m) ≡ true
stands_same H e m o number u h =
    still_stands H K m (tried_same H e m b) (λ x. x) (λ x. x) (λ x. ap (λ d. is_some d) (due_same H e m o number) ∙ x) own_step (settled_still H e m b) h
  where
    K : List Event
    K = Heard e ∷ H

    b : Beside H e m
    b = record { other = other_than H e m o number; number = number; unfinished = u }

    own_step : is_own_step K m ≡ true → is_own_step H m ≡ true
    own_step x = clash (sym x ∙ other_number e.call_no m (other_than H e m o number))

pub heard_carried : (H : List Event) (e : Entry) → OfLayer H e → Carried H (Heard e ∷ H)
heard_carried H e o = record {
  used = λ h. lent_alike H K refl (λ n. kept n) ∙ h;
  somewhere = λ k h. each_stands k k (unfinished H) H K (λ j u apart was. let l = o.lawful in stands_same H e j o (unfinished_from_one H j l.0 u) u (was apart)) h;
}
  where
    K : List Event
    K = Heard e ∷ H

    kept : (n : ℕ) → is_kept K n ≡ is_kept H n
    kept n =
        ap (λ b. b || rests K n) (used_alike H K n (ap (thing_of n) (tx_same H e o)) (ap (rows_of n) (rows_same H e o)) (ending_same H e n o) (λ w. line_same H e n w o)) ∙ ap (λ b. is_used H n || b) (rests_same H e n o)
