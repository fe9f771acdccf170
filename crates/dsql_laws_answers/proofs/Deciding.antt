-- The history is settled at each event from outside. Then a call that has settled its reply and has more to
-- send was so before each event, except an answer to it. The argument takes the kinds of event apart.
use Rattle.std.proofs.Common.{◌≡◌, ◌≢◌, ℕ, ◌==◌, ◌⊎◌, inl, inr, Bool, true, false, ◌&&◌, cond, List, [], ◌∷◌, Some, None, is_some, refl, sym, ap, ◌∙◌}
use Rattle.dsql_laws_calls.specs.driver.declared.caps.Caps.{Caps}
use Rattle.dsql_laws_calls.specs.journal.declared.entry.Entry.{Entry}
use Rattle.dsql_laws_calls.specs.journal.declared.entry.Owner.{Owner}
use Rattle.dsql_laws_calls.specs.journal.Kinds.{number_of}
use Rattle.dsql_laws_calls.specs.pool.declared.conn.Place.{Place}
use Rattle.dsql_laws_calls.specs.pool.declared.conn.Place.TheVariants.{Lent}
use Rattle.dsql_laws_calls.specs.pool.declared.moves.Move.{Move}
use Rattle.dsql_laws_calls.specs.pool.declared.moves.Move.TheVariants.{OpenStart, Lend, Back, CloseStart, Gone, Fell}
use Rattle.dsql_laws_calls.specs.history.Readers.Tries.{with_try, lost, asks_again, newest_answer, tries, loses}
use Rattle.dsql_laws_calls.specs.history.declared.record.Try.TheVariants.{Served, Refused}
use Rattle.dsql_laws_calls.proofs.laws.Tests.{both, other_number}
use Rattle.dsql_laws_calls.proofs.laws_work.Rows.{same_or_not}
use Rattle.dsql_laws_calls.specs.history.declared.event.Event.{Event}
use Rattle.dsql_laws_calls.specs.history.declared.event.Event.TheVariants.{Run, Entered, Heard, Pool, Waits, Replied, Ended}
use Rattle.dsql_laws_calls.specs.history.declared.event.Op.{Op}
use Rattle.dsql_laws_calls.specs.history.declared.reply.Reply.{Reply}
use Rattle.dsql_laws_calls.specs.history.declared.work.Work.TheVariants.{Look}
use Rattle.dsql_laws_calls.specs.history.Readers.Calls.{site, decided, asks_nothing}
use Rattle.dsql_laws_calls.specs.history.Readers.Course.{caps}
use Rattle.dsql_laws_calls.specs.history.Readers.Pool.{place, home}
use Rattle.dsql_laws_calls.specs.history.Readers.Unfinished.{is_unfinished}
use Rattle.dsql_laws_calls.specs.history.Readers.Works.{work, borrower}
use Rattle.dsql_laws_calls.specs.history.Rules.Course.{begins_with_run, goes_forward, ends_once}
use Rattle.dsql_laws_calls.specs.history.Rules.Line.{due_in, due_for}
use Rattle.dsql_laws_calls.specs.history.Rules.Settled.{Settled}
use Rattle.dsql_laws_calls.specs.history.Legal.{Allowed, Lawful, Calm}
use Rattle.dsql_laws_callers.proofs.Works as of_callers
use Rattle.dsql_laws_calls.proofs.Ends.{none_due_once_ended}
use Rattle.dsql_laws_calls.proofs.Idle.{lends_from}
use Rattle.dsql_laws_calls.proofs.Lines.{course_of}
use Rattle.dsql_laws_calls.proofs.Owners.{at_home}
use Rattle.dsql_laws_calls.proofs.Stays.{has_entered}
use Rattle.dsql_laws_calls.proofs.Told.{asks_undecided, wanting_undecided, wants_undecided}
use Rattle.dsql_laws_calls.proofs.Untried.{fallen_wanted}
use Rattle.dsql_laws_calls.proofs.UnderWay.{clash}
use Rattle.dsql_laws_calls.proofs.Works.{enters_next, old_record, old_work, other_heard, other_replied, old_unfinished, still_unfinished}
use Rattle.dsql_laws_others.proofs.Untouched.{due_replied, due_waits}
use Rattle.dsql_laws_answers.proofs.Due.{due_before}
use Rattle.dsql_laws_answers.proofs.Entering.{told_sends_nothing}
use Rattle.dsql_laws_answers.proofs.Settled.{Settling, settling_sends, stands_there, decided_not}

-- A call that has settled its reply and has more to send on this connection, which is lent to the call's
-- borrower.
pub record Deciding (H : List Event) (m c t : ℕ) (own : Owner) : Type 0 where
  pub settling : Settling H m
  pub sends : is_some (due_for H m) ≡ true
  pub uses : borrower H m ≡ number_of own
  pub lent : place H c ≡ Some (Lent t own)

pub its_site : (H : List Event) (m c t : ℕ) (own : Owner) → Lawful H → borrower H m ≡ number_of own → place H c ≡ Some (Lent t own) → site H m ≡ c
its_site H m c t own l uses is = ap (home H) uses ∙ at_home H c t own l is

pub due_busy : (H : List Event) (m : ℕ) → is_some (due_for H m) ≡ true → work H m ≡ Look → ⊥
due_busy H m h looks = by (is_unfinished H m) h
  where
    by : (b : Bool) → is_some (cond b (due_in H m (work H m)) None) ≡ true → ⊥
    by true x = clash (sym x ∙ ap (λ w. is_some (due_in H m w)) looks)
    by false x = absurd cc

-- If all is settled, the call has more to send.
from_settled : (H : List Event) (m c t : ℕ) (own : Owner) → Lawful H → Settled H → Settling H m → borrower H m ≡ number_of own → place H c ≡ Some (Lent t own) → Deciding H m c t own
from_settled H m c t own l all s uses is = record { settling = s; sends = settling_sends H m l s (stands_there H m s.number s.unfinished all.somewhere); uses = uses; lent = is }

-- It was so before an event, unless the event is an answer to the call.

was_heard : (H : List Event) (e : Entry) (m c t : ℕ) (own : Owner) → Lawful (Heard e ∷ H) → Calm (Heard e ∷ H) → place H c ≡ Some (Lent t own) → e.call_no ≢ m → Deciding (Heard e ∷ H) m c t own → Deciding H m c t own
was_heard H e m c t own l calm is apart d =
    let s = d.settling in
    let other : (e.call_no == m) ≡ false = other_number e.call_no m apart in
    from_settled H m c t own l.0 (calm.1 refl)
    (record {
      number = s.number;
      unfinished = s.unfinished;
      decided = ap (λ r. is_some r.decided) (sym (other_heard H e m (λ same. apart (sym same)))) ∙ s.decided;
      tried = ap (λ b. asks_again (cond (b && loses (work H m) e) (lost (tries H m)) (tries H m))) (sym other) ∙ s.tried;
      unresting = ap (λ b. is_unfinished H m && asks_nothing (caps H) (work H m) (cond (b && loses (work H m) e) (lost (tries H m)) (tries H m))) (sym other) ∙ s.unresting;
    }) d.uses is

was_entered : (H : List Event) (client n : ℕ) (op : Op) (m c t : ℕ) (own : Owner) → Lawful (Entered client n op ∷ H) → Calm (Entered client n op ∷ H) → place H c ≡ Some (Lent t own) → Deciding (Entered client n op ∷ H) m c t own → Deciding H m c t own
was_entered H client n op m c t own l calm is d = by (same_or_not m n)
  where
    K : List Event
    K = Entered client n op ∷ H

    s : Settling K m
    s = d.settling

    by : (m ≡ n) ⊎ (m ≢ n) → Deciding H m c t own
    by (inl same) =
        absurd (told_sends_nothing H client n op l (λ none. s.number (same ∙ none)) (ap (λ k. is_some (decided K k)) (sym same) ∙ s.decided) (ap (λ k. is_some (due_for K k)) (sym same) ∙ d.sends))
    by (inr apart) =
        let new = enters_next H client n op l.1 in
        let works_as = old_work H client n op m new apart in
        let busy : work H m ≡ Look → ⊥ = λ looks. due_busy K m d.sends (works_as ∙ looks) in
        let left = old_unfinished H client n op m apart in
        from_settled H m c t own l.0 (calm.1 refl)
        (record {
          number = s.number;
          unfinished = sym left ∙ s.unfinished;
          decided = ap (λ r. is_some r.decided) (sym (old_record H client n op m new apart)) ∙ s.decided;
          tried = s.tried;
          unresting = sym (ap (λ b. b && asks_nothing (caps H) (work K m) (tries H m)) left ∙ ap (λ w. is_unfinished H m && asks_nothing (caps H) w (tries H m)) works_as) ∙ s.unresting;
        }) (sym (of_callers.borrower_stays H (Entered client n op) m (has_entered H m busy)) ∙ d.uses) is

-- Moves.

was_tried : (H : List Event) (move : Move) (m c t : ℕ) (own : Owner) → Lawful (Pool move ∷ H) → place H c ≡ Some (Lent t own) → tries (Pool move ∷ H) m ≡ tries H m → Deciding (Pool move ∷ H) m c t own → Deciding H m c t own
was_tried H move m c t own l is tried d =
    let s = d.settling in
    record {
      settling = record {
        number = s.number;
        unfinished = s.unfinished;
        decided = s.decided;
        tried = ap asks_again (sym tried) ∙ s.tried;
        unresting = ap (λ ts. is_unfinished H m && asks_nothing (caps H) (work H m) ts) (sym tried) ∙ s.unresting;
      };
      sends = due_before H move c t own m l is d.lent s.number d.uses d.sends;
      uses = d.uses;
      lent = is;
    }

was_moved : (H : List Event) (move : Move) (m c t : ℕ) (own : Owner) → Lawful (Pool move ∷ H) → place H c ≡ Some (Lent t own) → Deciding (Pool move ∷ H) m c t own → Deciding H m c t own
was_moved H (Lend c2 t2 o n) m c t own l is d = by (same_or_not n m)
  where
    s : Settling (Pool (Lend c2 t2 o n) ∷ H) m
    s = d.settling

    by : (n ≡ m) ⊎ (n ≢ m) → Deciding H m c t own
    by (inl same) =
        decided_not (decided H m) s.decided
        (elim (lends_from H c2 t2 o n l.0 l.1) [
          | inl may ↦ ap (decided H) (sym same) ∙ asks_undecided H n may
          | inr wanting ↦ ap (decided H) (sym same) ∙ wants_undecided H n l.0 (λ none. s.number (sym same ∙ none)) wanting
        ])
    by (inr apart) = was_tried H (Lend c2 t2 o n) m c t own l is (ap (λ b. with_try b Served (tries H m)) (other_number n m apart)) d
was_moved H (Fell c2 n) m c t own l is d = by (same_or_not n m)
  where
    s : Settling (Pool (Fell c2 n) ∷ H) m
    s = d.settling

    by : (n ≡ m) ⊎ (n ≢ m) → Deciding H m c t own
    by (inl same) =
        let some : n ≢ 0 = λ none. s.number (sym same ∙ none) in
        decided_not (decided H m) s.decided (ap (decided H) (sym same) ∙ wanting_undecided H n l.0 some (fallen_wanted H c2 n l.1 some))
    by (inr apart) = was_tried H (Fell c2 n) m c t own l is (ap (λ b. with_try b (Refused (newest_answer H)) (tries H m)) (other_number n m apart)) d
was_moved H (OpenStart c2 n) m c t own l is d = was_tried H (OpenStart c2 n) m c t own l is refl d
was_moved H (Back c2) m c t own l is d = was_tried H (Back c2) m c t own l is refl d
was_moved H (CloseStart c2 why) m c t own l is d = was_tried H (CloseStart c2 why) m c t own l is refl d
was_moved H (Gone c2) m c t own l is d = was_tried H (Gone c2) m c t own l is refl d

was_waiting : (H : List Event) (n m c t : ℕ) (own : Owner) → place H c ≡ Some (Lent t own) → Deciding (Waits n ∷ H) m c t own → Deciding H m c t own
was_waiting H n m c t own is d =
    let s = d.settling in
    record {
      settling = record { number = s.number; unfinished = s.unfinished; decided = s.decided; tried = s.tried; unresting = s.unresting };
      sends = ap (λ q. is_some q) (sym (due_waits H n m)) ∙ d.sends;
      uses = d.uses;
      lent = is;
    }

was_replying : (H : List Event) (n : ℕ) (reply : Reply) (m c t : ℕ) (own : Owner) → place H c ≡ Some (Lent t own) → Deciding (Replied n reply ∷ H) m c t own → Deciding H m c t own
was_replying H n reply m c t own is d =
    let s = d.settling in
    let left = still_unfinished H n reply m s.unfinished in
    record {
      settling = record {
        number = s.number;
        unfinished = left.1;
        decided = ap (λ r. is_some r.decided) (sym (other_replied H n reply m left.0)) ∙ s.decided;
        tried = s.tried;
        unresting = ap (λ b. b && asks_nothing (caps H) (work H m) (tries H m)) (left.1 ∙ sym s.unfinished) ∙ s.unresting;
      };
      sends = ap (λ q. is_some q) (sym (due_replied H n reply m left.0)) ∙ d.sends;
      uses = d.uses;
      lent = is;
    }

-- The run's first event precedes all lendings.

run_first : (H : List Event) (version : ℕ) (can : Caps) (c : ℕ) (p : Place) → Allowed H (Run version can) → place H c ≡ Some p → ⊥
run_first [] version can c p a is = cc
run_first (x ∷ H) version can c p a is =
    let k = both (begins_with_run (x ∷ H) (Run version can)) (goes_forward (x ∷ H) (Run version can) && ends_once (x ∷ H) (Run version can)) (course_of (x ∷ H) (Run version can) a) in
    let wrong : false ≡ true = k.0 in cc

pub was_deciding : (H : List Event) (last : Event) (m c t : ℕ) (own : Owner) → Lawful (last ∷ H) → Calm (last ∷ H) → place H c ≡ Some (Lent t own) → ((e : Entry) → last ≡ Heard e → e.call_no ≢ m) → Deciding (last ∷ H) m c t own → Deciding H m c t own
was_deciding H (Heard e) m c t own l calm is other d = was_heard H e m c t own l calm is (other e refl) d
was_deciding H (Entered client n op) m c t own l calm is other d = was_entered H client n op m c t own l calm is d
was_deciding H (Pool move) m c t own l calm is other d = was_moved H move m c t own l is d
was_deciding H (Waits n) m c t own l calm is other d = was_waiting H n m c t own is d
was_deciding H (Replied n reply) m c t own l calm is other d = was_replying H n reply m c t own is d
was_deciding H Ended m c t own l calm is other d = clash (sym d.sends ∙ none_due_once_ended (Ended ∷ H) m l refl)
was_deciding H (Run version can) m c t own l calm is other d = absurd (run_first H version can c (Lent t own) l.1 is)
was_deciding H _ m c t own l calm is other d =
    let s = d.settling in
    from_settled H m c t own l.0 (calm.1 refl) (record { number = s.number; unfinished = s.unfinished; decided = s.decided; tried = s.tried; unresting = s.unresting }) d.uses is
