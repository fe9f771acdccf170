-- Leave for a driver call: how long it stays, and what it allows.
use Rattle.std.proofs.Common.{◌≡◌, ◌≢◌, ℕ, ◌==◌, ◌⊎◌, inl, inr, Bool, true, false, not, ◌&&◌, cond, List, [], ◌∷◌, ◌++◌, Some, refl, sym, ap, subst, ◌∙◌}
use Rattle.std.proofs.lemmas.Bool.{or_cases}
use Rattle.std.specs.List.{list_all}
use Rattle.dsql_engine_hearing.specs.driver.Kinds.{is_connect, is_shut}
use Rattle.dsql_engine_hearing.specs.driver.declared.answer.DriverAnswer.{DriverAnswer}
use Rattle.dsql_engine_hearing.specs.driver.declared.answer.DriverAnswer.TheVariants.{Done}
use Rattle.dsql_engine_hearing.specs.journal.declared.entry.Entry.{Entry}
use Rattle.dsql_engine_hearing.specs.journal.declared.entry.Owner.{Owner}
use Rattle.dsql_engine_hearing.specs.journal.declared.entry.Owner.TheVariants.{Call, Tx, Pin, House}
use Rattle.dsql_engine_hearing.specs.journal.declared.entry.Permit.{Permit}
use Rattle.dsql_engine_hearing.specs.journal.HandlesAndCursors.{fits_at_its_place}
use Rattle.dsql_engine_hearing.specs.journal.Journal.{may_follow}
use Rattle.dsql_engine_hearing.specs.journal.Kinds.{number_of, same_owner}
use Rattle.dsql_engine_hearing.specs.journal.Permits.{entry_of}
use Rattle.dsql_tenure.specs.Beginnings.{is_beginning_of}
use Rattle.dsql_tenure.specs.Judged.{answered}
use Rattle.dsql_tenure.proofs.Standing.{beginning-more}
use Rattle.dsql_wire.specs.Journaled.{MayBeSent}
use Rattle.dsql_engine_hearing.specs.pool.declared.conn.Place.TheVariants.{Lent}
use Rattle.dsql_engine_hearing.proofs.laws.Tests.{both, other_number, same_itself, same_number, together}
use Rattle.dsql_engine_hearing.specs.exchanged.Filled.{Carries}
use Rattle.dsql_engine_hearing.specs.history.declared.event.Event.{Event}
use Rattle.dsql_engine_hearing.specs.history.declared.event.Event.TheVariants.{Run, Heard, Pool, Waits, Replied}
use Rattle.dsql_engine_hearing.specs.history.declared.work.Work.TheVariants.{Look}
use Rattle.dsql_engine_hearing.specs.history.Readers.Journals.{journal}
use Rattle.dsql_engine_hearing.specs.history.Readers.Pool.{place, pool}
use Rattle.dsql_engine_hearing.specs.history.Readers.Works.{work}
use Rattle.dsql_engine_hearing.specs.history.Rules.Sent.{asked_by}
use Rattle.dsql_engine_hearing.specs.history.Rules.Line.{due_from, is_due_at, may_come, parts, sends_from}
use Rattle.dsql_engine_hearing.specs.history.Rules.Moves.{hears_in}
use Rattle.dsql_engine_hearing.specs.history.Legal.{Lawful}
use Rattle.dsql_engine_hearing.proofs.laws.Journals.{keeps_journals_of}
use Rattle.dsql_engine_hearing.proofs.laws.Welcome.{stays_welcome}
use Rattle.dsql_engine_hearing.proofs.laws_callers.Senders.{due_there}
use Rattle.dsql_engine_hearing.specs.laws_steps.Groups.{is_later_of}
use Rattle.dsql_engine_hearing.proofs.laws_calls.Coming.{sound}
use Rattle.dsql_engine_hearing.proofs.laws_calls.Lent.{stays_lent}
use Rattle.dsql_engine_hearing.proofs.laws_calls.Looks.{sent_no_look}
use Rattle.dsql_engine_hearing.proofs.laws_calls.Stays.{asked_stays}
use Rattle.dsql_engine_hearing.proofs.laws_calls.Why.{why_used}
use Rattle.dsql_engine_hearing.proofs.laws_calls.Works.{is_look}
use Rattle.dsql_engine_hearing.proofs.laws_due.Following.{follows_due}
use Rattle.dsql_engine_hearing.specs.Hearing.{IsWelcome}
use Rattle.dsql_engine_laws.specs.Leaves.{IsLeave}
use Rattle.dsql_engine_laws.proofs.Answered.{answered_in, comes_with, standing_in}
use Rattle.dsql_engine_laws.proofs.Due.{due_of_call}

-- How long leave stays.

parts_alike : (x : Event) (p : Permit) (a b : DriverAnswer) → parts x (entry_of p a) ≡ parts x (entry_of p b)
parts_alike (Run version can) p a b = refl
parts_alike _ p a b = refl

-- The connection of the leave stays lent.
still_lent : (H : List Event) (x : Event) (p : Permit) → Lawful (x ∷ H) → IsLeave H p → place (x ∷ H) p.conn ≡ Some (Lent p.tenure p.owner)
still_lent H x p l leave =
    let s = sound H l.0 in
    let u = s.coming (entry_of p Done) (leave.comes Done) in
    let used = why_used H p.conn p.tenure u.owner p.call_no l.0 u.lent u.why in
    stays_lent H x p.conn p.tenure u.owner l.0 l.1 u.lent used ∙ (sym u.lent ∙ leave.lent)

-- What the call of the leave asks stays the same.
still_asked : (H : List Event) (x : Event) (p : Permit) → IsLeave H p → asked_by (x ∷ H) p.call_no ≡ asked_by H p.call_no
still_asked H x p leave = asked_stays H x p.call_no busy
  where
    busy : work H p.call_no ≡ Look → ⊥
    busy look = let clash : true ≡ false = sym (ap is_look look) ∙ sent_no_look H (entry_of p Done) (leave.comes Done) (other_number p.call_no 0 leave.of_a_call) in cc

-- Leave stays through an event that is no answer on its connection and no reply of its call.
leave_over : (H : List Event) (x : Event) (p : Permit) → Lawful (x ∷ H) → IsLeave H p → parts x (entry_of p Done) ≡ false → IsLeave (x ∷ H) p
leave_over H x p l leave apart = record {
  of_a_call = leave.of_a_call;
  tx = leave.tx;
  lent = still_lent H x p l leave;
  carries = subst (λ it. Carries it p.call) (sym (still_asked H x p leave)) leave.carries;
  comes = λ answer. stays_welcome H x (entry_of p answer) (parts_alike x p answer Done ∙ apart) (leave.comes answer);
}

later_apart : (n : ℕ) (x : Event) (p : Permit) → n ≢ p.call_no → is_later_of n x ≡ true → parts x (entry_of p Done) ≡ false
later_apart n (Pool move) p apart h = refl
later_apart n (Waits m) p apart h = refl
later_apart n (Replied m reply) p apart h = let same : m ≡ n = same_number m n h in other_number m p.call_no (λ is. apart (sym same ∙ is))
later_apart n _ p apart h = absurd cc

leave_over_group : (H more : List Event) (first : Event) (n : ℕ) (p : Permit) → Lawful ((more ++ first ∷ []) ++ H) → IsLeave H p → list_all (is_later_of n) more ≡ true → n ≢ p.call_no
    → parts first (entry_of p Done) ≡ false → IsLeave ((more ++ first ∷ []) ++ H) p
leave_over_group H [] first n p l leave later apart off = leave_over H first p l leave off
leave_over_group H (x ∷ more) first n p l leave later apart off =
    let a = both (is_later_of n x) (list_all (is_later_of n) more) later in
    leave_over ((more ++ first ∷ []) ++ H) x p l (leave_over_group H more first n p l.0 leave a.1 apart off) (later_apart n x p apart a.0)

-- Leave stays through a step of another call.
pub leave_kept : (past events more : List Event) (first : Event) (n : ℕ) (permit : Permit) → Lawful (events ++ past) → IsLeave past permit → events ≡ more ++ first ∷ []
    → list_all (is_later_of n) more ≡ true → n ≢ permit.call_no → parts first (entry_of permit Done) ≡ false → IsLeave (events ++ past) permit
leave_kept past events more first n permit l leave group later apart off =
    subst (λ (es : List Event). IsLeave (es ++ past) permit) (sym group)
    (leave_over_group past more first n permit (subst (λ (es : List Event). Lawful (es ++ past)) group l) leave later apart off)

-- What leave allows.

-- Each entry of a connection's journal is of that connection.
of_one_connection : (H : List Event) (c : ℕ) → list_all (λ x. x.conn == c) (journal H c) ≡ true
of_one_connection [] c = refl
of_one_connection (Heard e ∷ H) c = by (e.conn == c) refl (of_one_connection H c)
  where
    by : (b : Bool) → (e.conn == c) ≡ b → list_all (λ x. x.conn == c) (journal H c) ≡ true → list_all (λ x. x.conn == c) (cond b (e ∷ journal H c) (journal H c)) ≡ true
    by true is h = rw is h
    by false is h = h
of_one_connection (_ ∷ H) c = of_one_connection H c

-- The driver call of an answer that may come was due on a lent connection, so it neither connects nor shuts.
coming_call : (H : List Event) (e : Entry) → may_come H e ≡ true → (is_connect e.call ≡ false) × (is_shut e.call ≡ false)
coming_call [] e h = absurd cc
coming_call (x ∷ H) e h = by (or_cases (is_due_at (x ∷ H) (place (x ∷ H) e.conn) e) (not (parts x e) && may_come H e) h) (coming_call H e)
  where
    by : (is_due_at (x ∷ H) (place (x ∷ H) e.conn) e ≡ true) ⊎ ((not (parts x e) && may_come H e) ≡ true) → (may_come H e ≡ true → (is_connect e.call ≡ false) × (is_shut e.call ≡ false))
        → (is_connect e.call ≡ false) × (is_shut e.call ≡ false)
    by (inl now) earlier = let d = due_there (x ∷ H) e now in due_of_call (due_from (x ∷ H) e.call_no (number_of d.owner)) e.call d.due
    by (inr before) earlier = let b = both (not (parts x e)) (may_come H e) before in earlier b.1

call_of_leave : (H : List Event) (p : Permit) → IsLeave H p → (is_connect p.call ≡ false) × (is_shut p.call ≡ false)
call_of_leave H p leave = coming_call H (entry_of p Done) (leave.comes Done)

-- Leave neither opens nor shuts a connection.
pub leave_opens_none : (past : List Event) (permit : Permit) → Lawful past → IsLeave past permit → is_connect permit.call ≡ false
leave_opens_none past permit l leave = let k = call_of_leave past permit leave in k.0

pub leave_shuts_none : (past : List Event) (permit : Permit) → Lawful past → IsLeave past permit → is_shut permit.call ≡ false
leave_shuts_none past permit l leave = let k = call_of_leave past permit leave in k.1

-- Each answer may come, in the transaction in which it stands.
comes_standing : (H : List Event) (p : Permit) (a : DriverAnswer) → IsLeave H p → may_come H (standing_in p a) ≡ true
comes_standing H p a leave = comes_with H (entry_of p a) (standing_in p a).tx ∙ leave.comes a

-- The driver call of the leave may be sent.
pub leave_sends : (past : List Event) (permit : Permit) → Lawful past → IsLeave past permit → MayBeSent permit.conn (journal past permit.conn) permit
leave_sends past permit l leave = λ a fits.
    let J = journal past permit.conn in
    let e : Entry = standing_in permit a in
    let same : answered permit a ≡ e = answered_in permit a leave.tx in
    let there : fits_at_its_place J e ≡ true = ap (fits_at_its_place J) (sym same) ∙ fits in
    let follows : may_follow J e ≡ true = follows_due past e l (comes_standing past permit a leave) leave.lent refl there in
    let keeps = keeps_journals_of past l in
    ap (λ (x : Entry). is_beginning_of permit.conn (x ∷ J)) same
    ∙ beginning-more permit.conn J e (keeps.beginnings permit.conn) (of_one_connection past permit.conn)
    ∙ rw (same_itself permit.conn, follows) refl

owner_itself : (o : Owner) → same_owner o o ≡ true
owner_itself (Call n) = same_itself n
owner_itself (Tx n) = same_itself n
owner_itself (Pin n) = same_itself n
owner_itself House = refl

heard_there : (H : List Event) (p : Permit) (a : DriverAnswer) → IsLeave H p → hears_in (pool H) (Some (Lent p.tenure p.owner)) (standing_in p a) ≡ true
heard_there H p a leave =
    let k = call_of_leave H p leave in
    rw (k.0, k.1) (together (p.tenure == p.tenure) (same_owner p.owner p.owner) (same_itself p.tenure) (owner_itself p.owner))

-- Each answer that fits is welcome.
pub leave_welcomes : (past : List Event) (permit : Permit) (answer : DriverAnswer) → Lawful past → IsLeave past permit
    → fits_at_its_place (journal past permit.conn) (answered permit answer) ≡ true → IsWelcome past (answered permit answer)
leave_welcomes past permit answer l leave fits =
    let e : Entry = standing_in permit answer in
    let same : answered permit answer ≡ e = answered_in permit answer leave.tx in
    subst (λ (x : Entry). IsWelcome past x) (sym same)
    (record {
      sets = ap (λ at. hears_in (pool past) at e) leave.lent ∙ heard_there past permit answer leave;
      line = ap (λ at. sends_from past at e) leave.lent ∙ comes_standing past permit answer leave;
      carries = refl;
      fits = ap (fits_at_its_place (journal past permit.conn)) (sym same) ∙ fits;
    })
