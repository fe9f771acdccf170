-- What is under way stays so as long as nothing is heard on its connection.
use Rattle.std.proofs.Common.{◌≡◌, ◌≢◌, ℕ, ◌==◌, ◌⊎◌, inl, inr, Bool, true, false, List, ◌∷◌, Some, is_some, refl, sym, ap, ◌∙◌, arith, length, ◌<◌}
use Rattle.dsql_laws.specs.course.declared.course.Wish.{Wish}
use Rattle.dsql_laws.specs.course.declared.course.Wish.TheVariants as wishes
use Rattle.dsql_laws.specs.journal.declared.entry.Entry.{Entry}
use Rattle.dsql_laws.specs.journal.Kinds.{is_call, number_of}
use Rattle.dsql_laws.specs.journal.Readers.{of_tenure}
use Rattle.dsql_laws.specs.pool.declared.conn.Place.TheVariants.{Lent}
use Rattle.dsql_laws.specs.works.Exchanges.{exchanges}
use Rattle.dsql_laws.specs.works.Line.{handed}
use Rattle.dsql_laws.specs.history.Rules.Wishes.{newest_sender}
use Rattle.dsql_laws.proofs.Tests.{same_number}
use Rattle.dsql_laws.specs.history.declared.event.Event.{Event}
use Rattle.dsql_laws.specs.history.declared.work.Scope.TheVariants.{Held}
use Rattle.dsql_laws.specs.history.declared.work.Work.{Work}
use Rattle.dsql_laws.specs.history.declared.work.Task.TheVariants.{HandOut}
use Rattle.dsql_laws.specs.history.declared.work.Work.TheVariants.{Statement, Begin, Ping, Fetch, Close, End, Look}
use Rattle.dsql_laws.specs.history.Readers.Unfinished.{is_unfinished}
use Rattle.dsql_laws.specs.history.Readers.Works.{work, scope, borrower, aim_of}
use Rattle.dsql_laws.specs.history.Readers.Journals.{journal, heard_in}
use Rattle.dsql_laws.specs.history.Readers.Lines.{line_among, has_sent}
use Rattle.dsql_laws.specs.history.Readers.Pool.{place}
use Rattle.dsql_laws.specs.history.Readers.HandedOut.{rows_by}
use Rattle.dsql_laws.specs.history.Rules.Line.{is_due, parts, may_come}
use Rattle.dsql_laws.specs.history.Legal.{Lawful, Allowed}
use Rattle.dsql_laws_calls.proofs.Owners.{lent_asks}
use Rattle.dsql_laws_calls.proofs.Makers.{hands_out, rows_hand_out}
use Rattle.dsql_laws_calls.proofs.Lines.{line_there, line_stays, unheard}
use Rattle.dsql_laws_calls.proofs.Inside.{inside_busy, number_not}
use Rattle.dsql_laws_calls.proofs.CallTenures.{call_line, line_of_call}
use Rattle.dsql_laws_calls.proofs.Why.{ended_there, why_used, why_stays}
use Rattle.dsql_laws.specs.history.declared.event.Event.TheVariants.{Entered}
use Rattle.dsql_laws.specs.history.Readers.Calls.{calls}
use Rattle.dsql_laws_calls.proofs.Lent.{stays_lent}
use Rattle.dsql_laws_calls.proofs.Stays.{not_looking, unfinished_stays}
use Rattle.dsql_laws_calls.proofs.EndedRows.{rows_kept}
use Rattle.dsql_laws_calls.proofs.Works as of_works
use Rattle.dsql_laws_calls.proofs.Ends.{zero_work}
use Rattle.dsql_laws_calls.proofs.Works.{enters_next, old_work}
use Rattle.dsql_laws_calls.proofs.Looks.{sent_no_look}
use Rattle.dsql_laws_calls.proofs.Begun.{stays_over}
use Rattle.dsql_laws_calls.proofs.BeginningsAt.{was_unfinished}
use Rattle.dsql_laws_calls.proofs.TxEnders.{sent_entered}
use Rattle.dsql_laws_calls.proofs.UnderWay.{handed_there, InsideWay, UnderWay, newest_sent}

-- A call that has entered keeps its work.
pub entered_work : (H : List Event) (e : Event) (m : ℕ) → Allowed H e → m < length (calls H) → work (e ∷ H) m ≡ work H m
entered_work H (Entered client n op) m a less = let new = enters_next H client n op a in old_work H client n op m new (λ same. absurd (omega (arith, less, new, same)))
entered_work H e m a less = refl

-- A call in a transaction that has sent something keeps its work.
pub sender_work : (H : List Event) (last : Event) (m c k : ℕ) → Lawful (last ∷ H) → has_sent m (journal H c) ≡ true → scope (work (last ∷ H) m) ≡ Held k → work (last ∷ H) m ≡ work H m
sender_work H last m c k l sent is = entered_work H last m l.1 (sent_entered H c m l.0 (λ none. never (m == 0) (ap (λ j. j == 0) none) (number_not (last ∷ H) m k is)) sent)
  where
    never : (b : Bool) → b ≡ true → b ≡ false → ⊥
    never b x y = cc

-- A call that keeps its work, and whose rows keep theirs, keeps its borrower.
borrower_stays : (H : List Event) (last : Event) (m : ℕ) → work (last ∷ H) m ≡ work H m → ((j : ℕ) → (work H m ≡ Fetch j) ⊎ (work H m ≡ Close j) → work (last ∷ H) j ≡ work H j) → borrower (last ∷ H) m ≡ borrower H m
borrower_stays H last m same rows = by (work H m) refl
  where
    by : (w : Work) → work H m ≡ w → borrower (last ∷ H) m ≡ borrower H m
    by (Fetch j) is = let now : work (last ∷ H) m ≡ Fetch j = same ∙ is in let other = rows j (inl is) in rw (now, is, other) refl
    by (Close j) is = let now : work (last ∷ H) m ≡ Close j = same ∙ is in let other = rows j (inr is) in rw (now, is, other) refl
    by (End j) is = let now : work (last ∷ H) m ≡ End j = same ∙ is in rw (now, is) refl
    by (Statement s task) is = let now : work (last ∷ H) m ≡ Statement s task = same ∙ is in rw (now, is) refl
    by (Begin label level read_only) is = let now : work (last ∷ H) m ≡ Begin label level read_only = same ∙ is in rw (now, is) refl
    by Ping is = let now : work (last ∷ H) m ≡ Ping = same ∙ is in rw (now, is) refl
    by Look is = let now : work (last ∷ H) m ≡ Look = same ∙ is in rw (now, is) refl

rows_work : (H : List Event) (last : Event) (j : ℕ) → is_some (rows_by H j) ≡ true → work (last ∷ H) j ≡ work H j
rows_work H last j some = of_works.work_stays H last j (busy (work H j) (rows_hand_out H j some))
  where
    busy : (w : Work) → hands_out w ≡ true → of_works.is_look w ≡ false
    busy (Statement s (HandOut label)) h = refl
    busy w h = absurd cc

-- The call of an entry that may come keeps its work.
pub coming_work : (H : List Event) (last : Event) (e : Entry) → may_come H e ≡ true → work (last ∷ H) e.call_no ≡ work H e.call_no
coming_work H last e may = by (e.call_no == 0) refl
  where
    by : (b : Bool) → (e.call_no == 0) ≡ b → work (last ∷ H) e.call_no ≡ work H e.call_no
    by true is = let none = same_number e.call_no 0 is in ap (work (last ∷ H)) none ∙ (zero_work (last ∷ H) ∙ sym (ap (work H) none ∙ zero_work H))
    by false is = of_works.work_stays H last e.call_no (sent_no_look H e may is)

pub stays_under_way : (H : List Event) (last : Event) (e : Entry) → Lawful (last ∷ H) → parts last e ≡ false → may_come H e ≡ true → UnderWay H e → UnderWay (last ∷ H) e
stays_under_way H last e l on may u = record {
  owner = u.owner;
  lent = lent;
  borrowed = λ some. borrower_stays H last e.call_no same (λ j which. rows_work H last j (u.rowed j which)) ∙ u.borrowed some;
  unfinished = λ some. unfinished_stays H last e on (u.unfinished some);
  rowed = λ j which. rowed j which;
  why = why_stays H last e u.owner l u.lent on u.why;
  ending = λ h. stays_over H last (number_of u.owner) (u.ending h);
  within = λ s. within (sym (ap scope same) ∙ s);
  line = λ call. line call;
  turn = turn;
}
  where
    lent : place (last ∷ H) e.conn ≡ Some (Lent e.tenure u.owner)
    lent = stays_lent H last e.conn e.tenure u.owner l.0 l.1 u.lent (why_used H e.conn e.tenure u.owner e.call_no l.0 u.lent u.why)

    same : work (last ∷ H) e.call_no ≡ work H e.call_no
    same = coming_work H last e may

    rowed : (j : ℕ) → (work (last ∷ H) e.call_no ≡ Fetch j) ⊎ (work (last ∷ H) e.call_no ≡ Close j) → is_some (rows_by (last ∷ H) j) ≡ true
    rowed j (inl is) = let k = rows_kept H last j in k.some (u.rowed j (inl (sym (coming_work H last e may) ∙ is)))
    rowed j (inr is) = let k = rows_kept H last j in k.some (u.rowed j (inr (sym (coming_work H last e may) ∙ is)))

    within : scope (work H e.call_no) ≡ Held (number_of u.owner) → InsideWay (last ∷ H) e.conn e.tenure u.owner e.call_no e.call
    within s =
        let i = u.within s in
        record {
          due = ap (λ o. is_due o e.call) (line_stays H last e.conn e.tenure u.owner e.call_no wishes.Nothing l.0 l.1 u.lent (why_used H e.conn e.tenure u.owner e.call_no l.0 u.lent u.why) (unheard H last e on) (inside_busy (work H e.call_no) (number_of u.owner) s)) ∙ i.due;
          left = left i.left;
        }
      where
        left : (ended_there (heard_in H e.conn e.tenure) ≡ false) ⊎ (handed_there H e.conn e.tenure e.call_no ≡ true) → (ended_there (heard_in (last ∷ H) e.conn e.tenure) ≡ false) ⊎ (handed_there (last ∷ H) e.conn e.tenure e.call_no ≡ true)
        left (inl none) = inl (ap (λ J. ended_there (of_tenure e.tenure J)) (unheard H last e on) ∙ none)
        left (inr h) = inr (handed_as (work H e.call_no) (work (last ∷ H) e.call_no) (journal H e.conn) (journal (last ∷ H) e.conn) (coming_work H last e may) (unheard H last e on) ∙ h)
          where
            handed_as : (v w : Work) (J M : List Entry) → w ≡ v → M ≡ J → is_some (handed (aim_of w) (exchanges (line_among e.call_no (of_tenure e.tenure M)))) ≡ is_some (handed (aim_of v) (exchanges (line_among e.call_no (of_tenure e.tenure J))))
            handed_as v w J M a b = rw (a, b) refl

    line : is_call u.owner ≡ true → (w : Wish) × (is_due (call_line (last ∷ H) e.conn e.tenure u.owner w) e.call ≡ true)
    line call =
        let x = u.line call in
        let busy = not_looking (work H (number_of u.owner)) (lent_asks H e.conn e.tenure u.owner l.0 u.lent) in (
          x.0,
          ap (λ o. is_due o e.call) (sym (line_of_call (last ∷ H) e.conn e.tenure u.owner x.0 l (stays_lent H last e.conn e.tenure u.owner l.0 l.1 u.lent (why_used H e.conn e.tenure u.owner e.call_no l.0 u.lent u.why)) call)
              ∙ (line_stays H last e.conn e.tenure u.owner (number_of u.owner) x.0 l.0 l.1 u.lent (why_used H e.conn e.tenure u.owner e.call_no l.0 u.lent u.why) (unheard H last e on) busy ∙ line_of_call H e.conn e.tenure u.owner x.0 l.0 u.lent call)) ∙ x.1,
        )

    turn : (m : ℕ) → m ≢ e.call_no → newest_sender (heard_in (last ∷ H) e.conn e.tenure) ≡ m → scope (work (last ∷ H) m) ≡ Held (number_of u.owner) → is_unfinished (last ∷ H) m ≡ true → is_some (line_there (last ∷ H) e.conn e.tenure u.owner m wishes.Nothing) ≡ false
    turn m apart newest s unf =
        let some : m ≢ 0 = λ none. never (m == 0) (ap (λ j. j == 0) none) (number_not (last ∷ H) m (number_of u.owner) s) in
        let before : newest_sender (heard_in H e.conn e.tenure) ≡ m = sym (ap (λ J. newest_sender (of_tenure e.tenure J)) (unheard H last e on)) ∙ newest in
        let sent = newest_sent m e.tenure (journal H e.conn) before some in
        let was = sender_work H last m e.conn (number_of u.owner) l sent s in
        let scoped_so : scope (work H m) ≡ Held (number_of u.owner) = sym (ap scope was) ∙ s in
        let busy = inside_busy (work H m) (number_of u.owner) scoped_so in
        ap (λ o. is_some o) (line_stays H last e.conn e.tenure u.owner m wishes.Nothing l.0 l.1 u.lent (why_used H e.conn e.tenure u.owner e.call_no l.0 u.lent u.why) (unheard H last e on) busy)
        ∙ u.turn m apart before scoped_so (was_unfinished H last m l.1 busy unf)
      where
        never : (b : Bool) → b ≡ true → b ≡ false → ⊥
        never b x y = cc
