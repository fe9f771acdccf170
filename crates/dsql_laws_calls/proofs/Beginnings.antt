-- A call that has begun a transaction sends nothing more in its own line, and the pool lends it no other
-- connection.
use Rattle.std.proofs.Common.{◌≡◌, ℕ, ◌==◌, Bool, true, false, ◌&&◌, ◌||◌, cond, List, [], ◌∷◌, Option, Some, None, is_some, is_none, refl, sym, ap, ◌∙◌}
use Rattle.dsql_laws.specs.driver.declared.caps.Caps.{Caps}
use Rattle.dsql_laws.specs.driver.declared.call.DriverCall.{DriverCall}
use Rattle.dsql_laws.specs.driver.declared.call.DriverCall.TheVariants as calls
use Rattle.dsql_laws.specs.driver.declared.call.Input.TheVariants.{Text, Handle}
use Rattle.dsql_laws.specs.driver.declared.call.Level.{Level}
use Rattle.dsql_laws.specs.driver.Kinds.{is_bad, is_valid, is_begin}
use Rattle.dsql_laws.specs.driver.Fits.{is_done}
use Rattle.dsql_laws.specs.course.declared.course.Wish.TheVariants as wishes
use Rattle.dsql_laws.specs.course.Made.{or_else}
use Rattle.dsql_laws.specs.journal.declared.entry.Entry.{Entry}
use Rattle.dsql_laws.specs.journal.declared.entry.Owner.{Owner}
use Rattle.dsql_laws.specs.journal.Kinds.{is_call, number_of}
use Rattle.dsql_laws.specs.pool.declared.conn.Place.TheVariants.{Lent}
use Rattle.dsql_laws.specs.pool.declared.moves.Move.TheVariants.{Lend}
use Rattle.dsql_laws.specs.works.Exchanges.{step_of, exchanges}
use Rattle.dsql_laws.specs.works.Line.{test_of}
use Rattle.dsql_laws.proofs.Tests.{both, same_number}
use Rattle.dsql_laws.proofs.Wanted.{wanted}
use Rattle.dsql_laws.specs.history.declared.event.Event.{Event}
use Rattle.dsql_laws.specs.history.declared.event.Event.TheVariants.{Heard, Pool}
use Rattle.dsql_laws.specs.history.declared.reply.Reply.{Reply}
use Rattle.dsql_laws.specs.history.declared.work.Work.{Work}
use Rattle.dsql_laws.specs.history.declared.work.Work.TheVariants as works_of
use Rattle.dsql_laws.specs.history.declared.work.Work.TheVariants.{Look}
use Rattle.dsql_laws.specs.history.Readers.Course.{caps}
use Rattle.dsql_laws.specs.history.Readers.Unfinished.{is_unfinished}
use Rattle.dsql_laws.specs.history.Readers.Works.{work, asks, owner_as}
use Rattle.dsql_laws.specs.history.Readers.Journals.{heard_in}
use Rattle.dsql_laws.specs.history.Readers.Lines.{line_among}
use Rattle.dsql_laws.specs.history.Readers.Pool.{pool, place}
use Rattle.dsql_laws.specs.history.Readers.Transactions.{is_begun}
use Rattle.dsql_laws.specs.history.Readers.Calls.{decided, told_by_others, told_at_lending}
use Rattle.dsql_laws.specs.history.Rules.Asking.{may_ask}
use Rattle.dsql_laws.specs.history.Rules.Sent.{is_reset_due, begin_after, begin_line}
use Rattle.dsql_laws.specs.history.Rules.Line.{is_due}
use Rattle.dsql_laws.specs.history.Legal.{Allowed, Lawful}
use Rattle.dsql_laws.proofs.Asker.{asker}
use Rattle.dsql_laws_calls.proofs.Owners.{owner_is_of}
use Rattle.dsql_laws_calls.proofs.Wanted.{lent_nothing}
use Rattle.dsql_laws_calls.proofs.Looks.{heard_there, comes}
use Rattle.dsql_laws_calls.proofs.Plain.{begins}
use Rattle.dsql_laws_calls.proofs.Begun.{begun_begins}
use Rattle.dsql_laws_calls.proofs.Ends.{zero_work}
use Rattle.dsql_laws.proofs.Tried.{lends_to}
use Rattle.dsql_laws_calls.proofs.Lines.{line_there}
use Rattle.dsql_laws_calls.proofs.Own.{own_way, own_sends}

wrong : true ≡ false → ⊥
wrong h = cc

pub begins_busy : (w : Work) → begins w ≡ true → w ≡ Look → ⊥
begins_busy w h look = let clash : false ≡ true = sym (ap begins look) ∙ h in cc

pub asking : (w : Work) → begins w ≡ true → asks w ≡ true
asking (works_of.Begin label level read_only) h = refl
asking w h = absurd cc

pub numbered : (H : List Event) (n : ℕ) → begins (work H n) ≡ true → (n == 0) ≡ false
numbered H n h = by (n == 0) refl
  where
    by : (b : Bool) → (n == 0) ≡ b → b ≡ false
    by true is = absurd (begins_busy (work H n) h (ap (work H) (same_number n 0 is) ∙ zero_work H))
    by false is = refl

-- The owner of a begin's tenures is its transaction.
begins_owner : (w : Work) (n : ℕ) → begins w ≡ true → is_call (owner_as w n) ≡ false
begins_owner (works_of.Begin label level read_only) n h = refl
begins_owner w n h = absurd cc

pub begin_owner : (H : List Event) (c t : ℕ) (own : Owner) → Lawful H → place H c ≡ Some (Lent t own) → begins (work H (number_of own)) ≡ true → is_call own ≡ false
begin_owner H c t own l is h = let o = owner_is_of H c t own l is in ap is_call o.1 ∙ begins_owner (work H (number_of own)) (number_of own) h

-- The line of a begin is `begin_line`, with the options of that begin.
pub begin_there : (H : List Event) (c t : ℕ) (own : Owner) → begins (work H (number_of own)) ≡ true → is_call own ≡ false
    → (level : Level) × (read_only : Bool) × (line_there H c t own (number_of own) wishes.Nothing ≡ begin_line (caps H) (is_reset_due H c) (calls.Begin level read_only) (line_among (number_of own) (heard_in H c t)))
begin_there H c t own h not_call = by (work H (number_of own)) refl h
  where
    by : (w : Work) → work H (number_of own) ≡ w → begins w ≡ true
        → (level : Level) × (read_only : Bool) × (line_there H c t own (number_of own) wishes.Nothing ≡ begin_line (caps H) (is_reset_due H c) (calls.Begin level read_only) (line_among (number_of own) (heard_in H c t)))
    by (works_of.Begin label level read_only) is x = (level, read_only, rw (is, not_call) refl)
    by w is x = absurd cc

-- What a begin sends in its line is no exchange of a course.

abbrev pub stepless : Option DriverCall → Bool
stepless None = true
stepless (Some q) = is_none (step_of q)

pub due_steps : (d : Option DriverCall) (q : DriverCall) → stepless d ≡ true → is_due d q ≡ true → step_of q ≡ None
due_steps (Some (calls.Exec (Text text) params)) q k h = absurd cc
due_steps (Some (calls.Exec (Handle handle) params)) q k h = absurd cc
due_steps (Some (calls.Query (Text text) params)) q k h = absurd cc
due_steps (Some (calls.Query (Handle handle) params)) q k h = absurd cc
due_steps (Some (calls.Prepare text)) q k h = absurd cc
due_steps (Some (calls.Next rows)) q k h = absurd cc
due_steps (Some (calls.CloseRows rows)) q k h = absurd cc
due_steps (Some (calls.CloseStmt handle)) q k h = absurd cc
due_steps (Some calls.Ping) q k h = absurd cc
due_steps (Some calls.Reset) calls.Reset k h = refl
due_steps (Some calls.Valid) calls.Valid k h = refl
due_steps (Some (calls.Begin level read_only)) (calls.Begin other only) k h = refl
due_steps (Some calls.Commit) calls.Commit k h = refl
due_steps (Some calls.Rollback) calls.Rollback k h = refl
due_steps d q k h = absurd cc

either_stepless : (b : Bool) (c d : Option DriverCall) → stepless c ≡ true → stepless d ≡ true → stepless (cond b c d) ≡ true
either_stepless true c d h k = h
either_stepless false c d h k = k

pub begin_stepless : (can : Caps) (reset : Bool) (level : Level) (read_only : Bool) (L : List Entry) → stepless (begin_line can reset (calls.Begin level read_only) L) ≡ true
begin_stepless can reset level read_only [] = either_stepless reset (Some calls.Reset) (Some (calls.Begin level read_only)) refl refl
begin_stepless can reset level read_only (e ∷ earlier) =
    either_stepless (is_bad e.answer || is_valid e.call) None (begin_after can (calls.Begin level read_only) e) refl
    (either_stepless (is_begin e.call) (cond (is_done e.answer) None (test_of can)) (Some (calls.Begin level read_only))
    (either_stepless (is_done e.answer) None (test_of can) refl (either_stepless can.validator (Some calls.Valid) None refl refl)) refl)

-- Is true if the newest entry of a line is a Begin that was answered Done. The line of a begin holds no
-- exchange of a course. Once the begin has begun its transaction, its Begin is the newest entry of its line.
abbrev pub last_began : List Entry → Bool
last_began [] = false
last_began (e ∷ earlier) = is_begin e.call && is_done e.answer

pub began_sends_none : (can : Caps) (reset : Bool) (begin : DriverCall) (L : List Entry) → last_began L ≡ true → is_some (begin_line can reset begin L) ≡ false
began_sends_none can reset begin [] h = absurd cc
began_sends_none can reset begin (e ∷ earlier) h = let a = both (is_begin e.call) (is_done e.answer) h in by (is_bad e.answer || is_valid e.call) a.0 a.1
  where
    by : (b : Bool) → is_begin e.call ≡ true → is_done e.answer ≡ true → is_some (cond b None (begin_after can begin e)) ≡ false
    by true x y = refl
    by false x y = ap (λ b. is_some (cond b (cond (is_done e.answer) None (test_of can)) (Some begin))) x ∙ ap (λ b. is_some (cond b None (test_of can))) y

-- What holds of the calls that begin transactions.
pub record Beginnings (H : List Event) : Type 0 where
  pub steps : (c t : ℕ) (own : Owner) → place H c ≡ Some (Lent t own) → begins (work H (number_of own)) ≡ true → exchanges (line_among (number_of own) (heard_in H c t)) ≡ []
  pub began : (c t : ℕ) (own : Owner) → place H c ≡ Some (Lent t own) → is_begun H (number_of own) ≡ true → last_began (line_among (number_of own) (heard_in H c t)) ≡ true
  pub wants : (n : ℕ) → is_begun H n ≡ true → wanted n (pool H) ≡ 0
  pub told : (n : ℕ) → is_begun H n ≡ true → is_unfinished H n ≡ true → is_some (decided H n) ≡ true

pub silent : (H : List Event) → Beginnings H → (n : ℕ) → is_begun H n ≡ true → may_ask H n ≡ true → ⊥
silent H b n begun may =
    let a = asker H n may in
    let some = b.told n begun a.unfinished in
    settled (decided H n) some a.unsettled
  where
    settled : (o : Option Reply) → is_some o ≡ true → or_else (or_else o (told_by_others H n)) (told_at_lending H n) ≡ None → ⊥
    settled None h k = cc
    settled (Some reply) h k = cc

-- A call that has begun a transaction is lent no other connection.
pub lent_once_begun : (H : List Event) (c t : ℕ) (own : Owner) (k : ℕ) → Lawful H → Allowed H (Pool (Lend c t own k)) → Beginnings H → is_begun H (number_of own) ≡ true → ⊥
lent_once_begun H c t own k l a b begun =
    let same : k ≡ number_of own = lends_to H c t own k a in
    let its : is_begun H k ≡ true = ap (is_begun H) same ∙ begun in
    lent_nothing H c t own k l a (silent H b k its) (b.wants k its)

-- No driver call of a call that has begun a transaction is under way.
pub still : (H : List Event) (e : Entry) → Lawful H → Allowed H (Heard e) → Beginnings H → is_begun H e.call_no ≡ true → ⊥
still H e l a b begun =
    let begins_it = begun_begins H e.call_no l begun in
    let there = heard_there H e a in
    let some = numbered H e.call_no begins_it in
    let u = own_way H e l (comes H e (place H e.conn) there.sets there.line some) some (asking (work H e.call_no) begins_it) in
    let its : is_begun H (number_of u.owner) ≡ true = ap (is_begun H) u.own ∙ begun in
    let at = begin_there H e.conn e.tenure u.owner (begun_begins H (number_of u.owner) l its) (begin_owner H e.conn e.tenure u.owner l u.lent (begun_begins H (number_of u.owner) l its)) in
    let none = began_sends_none (caps H) (is_reset_due H e.conn) (calls.Begin at.0 at.1) (line_among (number_of u.owner) (heard_in H e.conn e.tenure)) (b.began e.conn e.tenure u.owner u.lent its) in
    wrong (sym (own_sends H e u) ∙ (ap (λ d. is_some d) at.2 ∙ none))
