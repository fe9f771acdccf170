-- Proves that the pool of a lawful history is at rest after it has made the moves that it owes. The argument is
-- by induction over the history.
use Rattle.std.proofs.Common.{◌&&◌, ◌≡◌, ◌≢◌, ℕ, ◌==◌, Bool, true, false, not, cond, List, [], ◌∷◌, refl, sym, ap, subst, ◌∙◌, Option, Some}
use Rattle.std.specs.Prelude.{drop, Result, Ok}
use Rattle.dsql_history.specs.driver.declared.answer.DriverAnswer.{DriverAnswer}
use Rattle.dsql_history.specs.driver.Fits.{is_done}
use Rattle.dsql_history.specs.journal.declared.entry.Owner.{Owner}
use Rattle.dsql_history.specs.journal.Readers.{is_empty}
use Rattle.dsql_history.specs.wait.declared.request.Request.{Request}
use Rattle.dsql_history.specs.pool.declared.conn.Place.{Place}
use Rattle.dsql_history.specs.pool.declared.conn.Place.TheVariants.{Opening, Closing}
use Rattle.dsql_history.specs.pool.declared.moves.Move.{Move}
use Rattle.dsql_history.specs.pool.declared.moves.Move.TheVariants.{OpenStart, Lend, Back, CloseStart}
use Rattle.dsql_history.specs.pool.declared.request.Asked.{Asked}
use Rattle.dsql_history.specs.pool.declared.request.Asked.TheVariants as asked
use Rattle.dsql_history.specs.pool.declared.request.AskFault.{AskFault}
use Rattle.dsql_history.specs.pool.Places.{is_lent}
use Rattle.dsql_history.specs.pool.Pooled.{Pooled, place_at}
use Rattle.dsql_history.specs.pool.Moved.{made, moved, begun, joined}
use Rattle.dsql_history.specs.pool.Calls.{moves_asked, after_asked, moves_opened, moves_failed}
use Rattle.dsql_history.specs.pool.Rest.{AtRest}
use Rattle.dsql_history.specs.pool.Runs as call
use Rattle.dsql_history.proofs.pool.AfterCalls.{rests_after_each_call}
use Rattle.dsql_history.proofs.pool.Resting.{asked_rests}
use Rattle.dsql_history.specs.declared.event.Control.{Control}
use Rattle.dsql_history.specs.declared.event.Setting.TheVariants.{MaxOpen, MaxIdle, MaxLife, MaxIdleTime}
use Rattle.dsql_history.specs.declared.event.Control.TheVariants.{Tick, Set}
use Rattle.dsql_history.specs.Same.{is_first}
use Rattle.dsql_history.specs.Readers.Pool.{with_control, pool, place, request, with_move, wanted_by}
use Rattle.dsql_history.specs.Readers.Owed.{answered, controlled, fate, given_back, leaving, left_of, owed}
use Rattle.dsql_history.specs.declared.event.Event.{Event}
use Rattle.dsql_history.specs.declared.event.Event.TheVariants.{Entered, Heard, Pool, Waits, Ticked, SetLimit, Ended}
use Rattle.dsql_history.specs.declared.event.Op.TheVariants.{DbClose}
use Rattle.dsql_history.specs.Readers.Works.{owner_of}
use Rattle.dsql_history.specs.Rules.Order.{follows}
use Rattle.dsql_history.specs.Rules.Asking.{may_ask, ask_outcome, asks_by_itself, is_asked_for, unless_owed, is_queued, keeps_asking}
use Rattle.dsql_history.specs.Rules.Settled.{is_settled_but}
use Rattle.dsql_history.specs.Rules.Causes.{goes_in_turn, is_owed, is_given_back, keeps_causes}
use Rattle.dsql_history.specs.Legal.{Allowed, Lawful}
use Rattle.dsql_laws.proofs.Tests.{both, second, other_number, move_is}
use Rattle.dsql_laws.proofs.OwedMoves.{is_own, are_own, own_moved, owed_own}
use Rattle.dsql_laws.proofs.Asker.{asker}
use Rattle.dsql_laws.proofs.Numbered.{unfinished_from_one}

-- Holds if the pool is at rest after it has made the moves that it owes.
abbrev pub Rested : List Event → Type 0
Rested H = AtRest (made (owed H) (pool H))

-- What is known of an event that may come.
pub record Keeps (H : List Event) (e : Event) : Type 0 where
  pub order : follows (owed H) e ≡ true
  pub asking : keeps_asking H e ≡ true
  pub causes : keeps_causes H e ≡ true

pub keeps_of : (H : List Event) (e : Event) → Allowed H e → Keeps H e
unfolding Allowed
keeps_of H e a = record { order = a.order; asking = a.asking; causes = a.causes }

rests_when : (p : Pooled) (ms : List Move) → ms ≡ [] → AtRest (made ms p) → AtRest p
rests_when p ms none h = subst (λ ns. AtRest (made ns p)) none h

abbrev is_move : Event → Bool
is_move (Pool m) = true
is_move _ = false

-- An event that isn't a move comes only if nothing is owed.
nothing_owed : (ms : List Move) (e : Event) → is_move e ≡ false → follows ms e ≡ true → ms ≡ []
nothing_owed [] e not_move h = refl
nothing_owed (m ∷ ms) (Pool k) not_move h = absurd cc
nothing_owed (m ∷ ms) _ not_move h = absurd cc

-- Before an event that isn't a move, the pool is at rest.
pub before_event : (H : List Event) (e : Event) → is_move e ≡ false → Allowed H e → Rested H → AtRest (pool H)
before_event H e not_move a h = let k = keeps_of H e a in rests_when (pool H) (owed H) (nothing_owed (owed H) e not_move k.order) h

answered_rests : (answer : DriverAnswer) (c : ℕ) (p : Pooled) (at : Option Place) → place_at p c ≡ at → AtRest p → AtRest (made (answered answer c p at) p)
answered_rests answer c p (Some (Opening wanted)) is h =
    let opened : AtRest (made (moves_opened c p) p) = rests_after_each_call.after_a_call (call.Opened c) p h (rw is refl) in
    let failed : AtRest (made (moves_failed c p) p) = rests_after_each_call.after_a_call (call.OpenFailed c) p h (rw is refl) in
    elim (is_done answer) as (λ b. AtRest (made (cond b (moves_opened c p) (moves_failed c p)) p)) [ true ↦ opened | false ↦ failed ]
answered_rests answer c p (Some Closing) is h = rests_after_each_call.after_a_call (call.GoneFrom c) p h (rw is refl)
answered_rests answer c p _ is h = h

control_rests : (control : Control) (p : Pooled) → AtRest p → AtRest (made (controlled control p) (with_control control p))
control_rests (Tick n) p h = rests_after_each_call.after_a_call (call.Tick n) p h tt
control_rests (Set MaxOpen n) p h = rests_after_each_call.after_a_call (call.SetOpen n) p h tt
control_rests (Set MaxIdle n) p h = rests_after_each_call.after_a_call (call.SetIdle n) p h tt
control_rests (Set MaxLife n) p h = rests_after_each_call.after_a_call (call.SetLifetime n) p h tt
control_rests (Set MaxIdleTime n) p h = rests_after_each_call.after_a_call (call.SetIdleTime n) p h tt

queued_rests : (r : Request) (p : Pooled) (a : Result Asked AskFault) → is_queued a ≡ true → AtRest (after_asked r a p) → AtRest (joined r p)
queued_rests r p (Ok asked.Queued) is h = h
queued_rests r p _ is h = absurd cc

-- A lending that follows from asking is the one that the pool decides.
lent_rests : (r : Request) (p : Pooled) (a : Result Asked AskFault) (c t : ℕ) (o : Owner) (n : ℕ) → is_first (moves_asked r a) (Lend c t o n) ≡ true → AtRest (after_asked r a p) → AtRest (moved (Lend c t o n) p)
lent_rests r p (Ok (asked.Lent d u)) c t o n is h = subst (λ m. AtRest (moved m p)) (move_is (Lend d u r.owner r.call) (Lend c t o n) is) h
lent_rests r p _ c t o n is h = absurd cc

-- An opening that follows from asking is for its request.
opening_rests : (r : Request) (p : Pooled) (a : Result Asked AskFault) (c n : ℕ) → is_first (moves_asked r a) (OpenStart c n) ≡ true → AtRest (after_asked r a p) → AtRest (begun (Some r.owner) p)
opening_rests r p (Ok (asked.Opening d)) c n is h = h
opening_rests r p _ c n is h = absurd cc

wanted_is : (H : List Event) (n : ℕ) → n ≢ 0 → wanted_by H n ≡ Some (owner_of H n)
wanted_is H n some = let other : (n == 0) ≡ false = other_number n 0 some in rw other refl

-- The first move and then the rest leave the same pool as all moves.
first_made : (ms : List Move) (m : Move) (p : Pooled) → is_first ms m ≡ true → made (drop 1 ms) (moved m p) ≡ made ms p
first_made [] m p is = absurd cc
first_made (k ∷ ms) m p is = ap (λ j. made ms (moved j p)) (sym (move_is k m is))

-- A connection that is given back is lent, and its move is the first one that the pool decides.
pub given_so : (H : List Event) (c : ℕ) (m : Move) → is_given_back H c m ≡ true → (is_lent (place H c) ≡ true) × (is_first (given_back H c) m ≡ true)
given_so H c m is =
    let b = both (is_lent (place H c)) (goes_in_turn H (place H c) && is_first (given_back H c) m) is in
    (b.0, (both (goes_in_turn H (place H c)) (is_first (given_back H c) m) b.1).1)

leaves_rests : (H : List Event) (c : ℕ) (m : Move) → is_given_back H c m ≡ true → AtRest (pool H) → AtRest (made (drop 1 (given_back H c)) (moved m (pool H)))
leaves_rests H c m is h =
    let a = given_so H c m is in
    let rest : AtRest (made (given_back H c) (pool H)) = rests_after_each_call.after_a_call (call.GiveBack (fate H c) c) (pool H) h a.0 in
    subst AtRest (sym (first_made (given_back H c) m (pool H) a.1)) rest

-- If nothing is owed, a lending or an opening follows from a call that asks.
pub asks_now : (H : List Event) (n : ℕ) (m : Move) → owed H ≡ [] → unless_owed H n m ≡ true → is_asked_for H n m ≡ true
asks_now H n m none h = second (not (is_empty (owed H))) (is_asked_for H n m) (ap (λ ms. not (is_empty ms)) none) h

-- A call that asks may ask, and the move that follows is the first one that the pool decides.
pub asked_so : (H : List Event) (n : ℕ) (m : Move) → is_asked_for H n m ≡ true → (may_ask H n ≡ true) × (is_first (moves_asked (request H n) (ask_outcome H n)) m ≡ true)
asked_so H n m is =
    let b = both (asks_by_itself H n) (is_first (moves_asked (request H n) (ask_outcome H n)) m) is in
    ((both (may_ask H n) (is_settled_but n H) b.0).0, b.1)

pub queued_so : (H : List Event) (n : ℕ) → keeps_asking H (Waits n) ≡ true → (may_ask H n ≡ true) × (is_queued (ask_outcome H n) ≡ true)
queued_so H n is =
    let b = both (asks_by_itself H n) (is_queued (ask_outcome H n)) is in
    ((both (may_ask H n) (is_settled_but n H) b.0).0, b.1)

pub owes : (H : List Event) → owed H ≡ [] → is_owed H ≡ false
owes H none = ap (λ ms. not (is_empty ms)) none

-- A move that isn't owed leaves a pool that is at rest after it has made what it owes then.
unowed_rests : (H : List Event) (m : Move) → Lawful H → Keeps H (Pool m) → owed H ≡ [] → AtRest (pool H) → AtRest (made (drop 1 (leaving H m)) (with_move H m (pool H)))
unowed_rests H (OpenStart c n) l k none h =
    let is = asks_now H n (OpenStart c n) none k.asking in
    let a = asked_so H n (OpenStart c n) is in
    let some : n ≢ 0 = unfinished_from_one H n l (asker H n a.0).unfinished in
    let begins : AtRest (begun (Some (owner_of H n)) (pool H)) = opening_rests (request H n) (pool H) (ask_outcome H n) c n a.1 (asked_rests (request H n) (pool H) h) in
    subst (λ w. AtRest (begun w (pool H))) (sym (wanted_is H n some)) begins
unowed_rests H (Lend c t o n) l k none h =
    let is = asks_now H n (Lend c t o n) none k.asking in
    let a = asked_so H n (Lend c t o n) is in
    lent_rests (request H n) (pool H) (ask_outcome H n) c t o n a.1 (asked_rests (request H n) (pool H) h)
unowed_rests H (Back c) l k none h = leaves_rests H c (Back c) (second (is_owed H) (is_given_back H c (Back c)) (owes H none) k.causes) h
unowed_rests H (CloseStart c why) l k none h = leaves_rests H c (CloseStart c why) (second (is_owed H) (is_given_back H c (CloseStart c why)) (owes H none) k.causes) h
unowed_rests H _ l k none h = let clash : true ≡ false = sym k.causes ∙ owes H none in absurd cc

move_rests : (H : List Event) (m : Move) (ms : List Move) → Lawful H → Keeps H (Pool m) → owed H ≡ ms → are_own ms ≡ true → AtRest (made ms (pool H)) → AtRest (made (left_of H m ms) (with_move H m (pool H)))
move_rests H m [] l k is own h = unowed_rests H m l k is h
move_rests H m (due ∷ later) l k is own h =
    let made_it : follows (due ∷ later) (Pool m) ≡ true = subst (λ ns. follows ns (Pool m) ≡ true) is k.order in
    let same : due ≡ m = move_is due m made_it in
    let a = both (is_own due) (are_own later) own in
    let begun_so : with_move H due (pool H) ≡ moved due (pool H) = own_moved H due (pool H) a.0 in
    subst (λ j. AtRest (made later (with_move H j (pool H)))) same (subst (λ q. AtRest (made later q)) (sym begun_so) h)

pub rested : (H : List Event) → Lawful H → Rested H
rested [] l = rests_after_each_call.at_first
rested (Entered client n DbClose ∷ H) l = rests_after_each_call.after_a_call call.Close (pool H) (before_event H (Entered client n DbClose) refl l.1 (rested H l.0)) tt
rested (Heard e ∷ H) l = answered_rests e.answer e.conn (pool H) (place H e.conn) refl (before_event H (Heard e) refl l.1 (rested H l.0))
rested (Pool m ∷ H) l = move_rests H m (owed H) l.0 (keeps_of H (Pool m) l.1) refl (owed_own H) (rested H l.0)
rested (Waits n ∷ H) l =
    let k = keeps_of H (Waits n) l.1 in
    let a = queued_so H n k.asking in
    queued_rests (request H n) (pool H) (ask_outcome H n) a.1 (asked_rests (request H n) (pool H) (before_event H (Waits n) refl l.1 (rested H l.0)))
rested (Ticked now ∷ H) l = control_rests (Tick now) (pool H) (before_event H (Ticked now) refl l.1 (rested H l.0))
rested (SetLimit s n ∷ H) l = control_rests (Set s n) (pool H) (before_event H (SetLimit s n) refl l.1 (rested H l.0))
rested (Ended ∷ H) l = rests_after_each_call.after_a_call call.Close (pool H) (before_event H Ended refl l.1 (rested H l.0)) tt
rested (e ∷ H) l = before_event H e refl l.1 (rested H l.0)

-- The pool is at rest whenever it owes nothing.
pub rests_owing_nothing : (H : List Event) → Lawful H → is_empty (owed H) ≡ true → AtRest (pool H)
rests_owing_nothing H l none = rests_when (pool H) (owed H) (empty (owed H) none) (rested H l)
  where
    empty : (ms : List Move) → is_empty ms ≡ true → ms ≡ []
    empty [] is = refl
    empty (m ∷ ms) is = absurd cc
