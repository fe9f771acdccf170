-- An answer on a lent connection, and the connection that is let go after it.
use Rattle.std.proofs.Common.{◌≡◌, ℕ, ◌+◌, ◌≤◌, Bool, true, false, not, ◌||◌, cond, List, [], ◌∷◌, length, Option, Some, None, refl, sym, ap, ◌∙◌, arith}
use Rattle.dsql_engine_going.specs.journal.declared.entry.Entry.{Entry}
use Rattle.dsql_engine_going.specs.journal.declared.entry.Owner.{Owner}
use Rattle.dsql_engine_going.specs.journal.Kinds.{is_house, number_of}
use Rattle.dsql_engine_going.specs.pool.declared.conn.Place.{Place}
use Rattle.dsql_engine_going.specs.pool.declared.conn.Place.TheVariants.{Lent}
use Rattle.dsql_engine_going.specs.pool.declared.moves.Move.{Move}
use Rattle.dsql_engine_going.specs.history.Readers.Owed.{answered, given_back, owed}
use Rattle.dsql_engine_going.proofs.laws.Truths.{or_second}
use Rattle.dsql_engine_going.specs.laws_calls.Bounds.{most_given_back}
use Rattle.dsql_engine_going.specs.history.declared.event.Event.{Event}
use Rattle.dsql_engine_going.specs.history.declared.event.Event.TheVariants.{Heard, Pool}
use Rattle.dsql_engine_going.specs.history.declared.work.Work.{Work}
use Rattle.dsql_engine_going.specs.history.declared.work.Work.TheVariants.{Fetch, Close, End}
use Rattle.dsql_engine_going.specs.history.Readers.Calls.{rests}
use Rattle.dsql_engine_going.specs.history.Readers.Pool.{place, pool}
use Rattle.dsql_engine_going.specs.history.Readers.Unfinished.{is_unfinished}
use Rattle.dsql_engine_going.specs.history.Readers.Works.{asks, work}
use Rattle.dsql_engine_going.specs.history.Rules.Causes.{goes_in_turn}
use Rattle.dsql_engine_going.specs.history.Rules.Line.{is_used, may_come, sends_from}
use Rattle.dsql_engine_going.specs.history.Rules.Settled.{Settled, calls_stand_but, is_kept, is_settled_but}
use Rattle.dsql_engine_going.specs.history.Legal.{Allowed, Calm, Lawful}
use Rattle.dsql_engine_going.specs.laws.Leaving.{MayLeave}
use Rattle.dsql_engine_going.specs.laws.OwedMade.{with_moves}
use Rattle.dsql_engine_going.proofs.laws.GivenBack.{back_made}
use Rattle.dsql_engine_going.proofs.laws_calls.Owed.{few_given_back}
use Rattle.dsql_engine_going.proofs.laws_calls.Owners.{lent_asks}
use Rattle.dsql_engine_going.proofs.laws_due.Following as of_due
use Rattle.dsql_laws_answers.proofs.Elsewhere.{HeardLent}
use Rattle.dsql_laws_answers.proofs.Heard.{beside_heard, used_heard}
use Rattle.dsql_laws_answers.proofs.Others.{goes_on_heard}
use Rattle.dsql_engine_going.proofs.laws_others.GivenUp.{moves_add, settled_from}
use Rattle.dsql_engine_going.proofs.laws_others.Leaves.{given_settles}
use Rattle.dsql_engine_going.proofs.laws_ends.Resting.{rests_alone}
use Rattle.dsql_engine_going.specs.laws_steps.Groups.{let_go}
use Rattle.dsql_engine_going.specs.desk.Next.{has_line}
use Rattle.dsql_engine_hearing.specs.Hearing.{lent_to}

-- Holds if a connection in this place is lent to call n or to its transaction.
pub record LentTo (at : Option Place) (n : ℕ) : Type 0 where
  pub tenure : ℕ
  pub owner : Owner
  pub number : number_of owner ≡ n
  pub there : at ≡ Some (Lent tenure owner)

pub lent_place : (at : Option Place) (n : ℕ) → lent_to at ≡ Some n → LentTo at n
lent_place (Some (Lent t o)) n h = by (is_house o) h
  where
    by : (b : Bool) → cond b None (Some (number_of o)) ≡ Some n → LentTo (Some (Lent t o)) n
    by true k = absurd cc
    by false k = record { tenure = t; owner = o; number = cc; there = refl }
lent_place _ n h = absurd cc

allowed_line : (H : List Event) (e : Entry) → Allowed H (Heard e) → sends_from H (place H e.conn) e ≡ true
unfolding Allowed
allowed_line H e a = a.line

-- A call to which a connection is lent has a line of its own.

asking_line : (w : Work) → asks w ≡ true → has_line w ≡ true
asking_line (Fetch k) h = absurd cc
asking_line (Close k) h = absurd cc
asking_line (End k) h = absurd cc
asking_line w h = refl

pub lent_line : (H : List Event) (c n : ℕ) → Lawful H → LentTo (place H c) n → has_line (work H n) ≡ true
lent_line H c n l at = ap (λ i. has_line (work H i)) (sym at.number) ∙ asking_line (work H (number_of at.owner)) (lent_asks H c at.tenure at.owner l at.there)

-- The driver call of an answer on a lent connection was under way.
pub comes_there : (H : List Event) (e : Entry) (n : ℕ) → Allowed H (Heard e) → LentTo (place H e.conn) n → may_come H e ≡ true
comes_there H e n a at = ap (λ p. sends_from H p e) (sym at.there) ∙ allowed_line H e a

-- The answer makes no move due.
pub none_owed : (H : List Event) (e : Entry) (n : ℕ) → LentTo (place H e.conn) n → owed (Heard e ∷ H) ≡ []
none_owed H e n at = ap (λ p. answered e.answer e.conn (pool H) p) at.there

heard_lent : (H : List Event) (e : Entry) (n : ℕ) → Lawful (Heard e ∷ H) → (at : LentTo (place H e.conn) n) → HeardLent H e at.tenure at.owner
heard_lent H e n l at = record { lawful = l; lent = at.there }

-- After the answer, each other call stands somewhere.
others : (H : List Event) (e : Entry) (n : ℕ) → Lawful (Heard e ∷ H) → Calm H → Settled H → LentTo (place H e.conn) n → calls_stand_but e.call_no (Heard e ∷ H) ≡ true
others H e n l calm s at = goes_on_heard H e at.tenure at.owner (heard_lent H e n l at) calm s.somewhere

-- All except the answer's call is settled if its connection stays in use.
settled_in_use : (H : List Event) (e : Entry) (n : ℕ) → Lawful (Heard e ∷ H) → Calm H → Settled H → LentTo (place H e.conn) n → is_kept (Heard e ∷ H) n ≡ true → is_settled_but e.call_no (Heard e ∷ H) ≡ true
settled_in_use H e n l calm s at kept =
    settled_from (Heard e ∷ H) e.call_no (none_owed H e n at) (used_heard H e at.tenure at.owner (heard_lent H e n l at) s.used (ap (is_kept (Heard e ∷ H)) at.number ∙ kept))
    (others H e n l calm s at)

-- After an answer, a connection that isn't in use any more may leave its owner. A call that rests with it is
-- the answer's call.
pub may_leave : (H : List Event) (e : Entry) (n : ℕ) → Lawful (Heard e ∷ H) → Calm H → Settled H → LentTo (place H e.conn) n → is_used (Heard e ∷ H) n ≡ false → MayLeave (Heard e ∷ H) e.conn
may_leave H e n l calm s at unused =
    of_due.may_leave (Heard e ∷ H) e.conn at.tenure at.owner l (none_owed H e n at) at.there (ap (goes_in_turn (Heard e ∷ H)) at.there ∙ turn (rests (Heard e ∷ H) (number_of at.owner)) refl)
    (ap (is_used (Heard e ∷ H)) at.number ∙ unused)
  where
    turn : (b : Bool) → rests (Heard e ∷ H) (number_of at.owner) ≡ b → (not b || is_settled_but (number_of at.owner) (Heard e ∷ H)) ≡ true
    turn true rested =
        let its : number_of at.owner ≡ e.call_no = rests_alone H e l at.tenure at.owner at.there rested in
        let kept : is_kept (Heard e ∷ H) n ≡ true = or_second (is_used (Heard e ∷ H) n) (rests (Heard e ∷ H) n) (ap (rests (Heard e ∷ H)) (sym at.number) ∙ rested) in
        ap (λ i. is_settled_but i (Heard e ∷ H)) its ∙ settled_in_use H e n l calm s at kept
    turn false rested = refl

-- After the connection was let go, all except the answer's call is settled.

pub settled_let_go : (H : List Event) (e : Entry) (n : ℕ) → Lawful (Heard e ∷ H) → Calm H → Settled H → LentTo (place H e.conn) n → is_settled_but e.call_no (let_go e.conn n (Heard e ∷ H)) ≡ true
settled_let_go H e n l calm s at = by (is_used (Heard e ∷ H) n) refl
  where
    K : List Event
    K = Heard e ∷ H

    by : (b : Bool) → is_used K n ≡ b → is_settled_but e.call_no (cond b K (with_moves (given_back K e.conn) K)) ≡ true
    by true used = settled_in_use H e n l calm s at (ap (λ b. b || rests K n) used)
    by false unused =
        let may = may_leave H e n l calm s at unused in
        let left = given_settles K e.conn l may in
        settled_from (with_moves (given_back K e.conn) K) e.call_no (back_made K e.conn may)
        (left.used (λ d u owner lent apart. beside_heard H e at.tenure d u at.owner owner (heard_lent H e n l at) s.used lent apart))
        (left.somewhere e.call_no (λ rested. sym (rests_alone H e l may.tenure may.owner may.lent rested)) (others H e n l calm s at))

-- Letting go adds few events.

pub few_let_go : (K : List Event) (c n : ℕ) → length (let_go c n K) ≤ length K + most_given_back
few_let_go K c n = by (is_used K n)
  where
    by : (b : Bool) → length (cond b K (with_moves (given_back K c) K)) ≤ length K + most_given_back
    by true = omega (arith)
    by false = let longer = moves_add (given_back K c) K in let few = few_given_back K c in omega (arith, longer, few)

-- Letting go changes for no call whether it has a reply.

moves_same : (ms : List Move) (K : List Event) (n : ℕ) → is_unfinished (with_moves ms K) n ≡ is_unfinished K n
moves_same [] K n = refl
moves_same (m ∷ ms) K n = moves_same ms (Pool m ∷ K) n

pub same_let_go : (K : List Event) (c k n : ℕ) → is_unfinished (let_go c k K) n ≡ is_unfinished K n
same_let_go K c k n = by (is_used K k)
  where
    by : (b : Bool) → is_unfinished (cond b K (with_moves (given_back K c) K)) n ≡ is_unfinished K n
    by true = refl
    by false = moves_same (given_back K c) K n
