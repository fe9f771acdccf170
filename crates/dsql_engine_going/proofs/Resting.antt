-- When a call rests with its connection, and what follows if it does or doesn't.
use Rattle.std.proofs.Common.{◌≡◌, ℕ, Bool, true, false, ◌&&◌, cond, List, ◌∷◌, None, is_some, is_none, refl, sym, ap, ◌∙◌}
use Rattle.std.specs.Prelude.{Ok}
use Rattle.dsql_laws_calls.specs.journal.declared.entry.Owner.{Owner}
use Rattle.dsql_laws_calls.specs.pool.declared.moves.Move.TheVariants.{Lend}
use Rattle.dsql_laws_calls.specs.pool.declared.request.Asked.TheVariants as asked
use Rattle.dsql_laws_calls.specs.history.declared.event.Event.{Event}
use Rattle.dsql_laws_calls.specs.history.declared.event.Event.TheVariants.{Pool}
use Rattle.dsql_laws_calls.specs.history.Readers.Calls.{asks_nothing, reply_due, rests}
use Rattle.dsql_laws_calls.specs.history.Readers.Course.{caps}
use Rattle.dsql_laws_calls.specs.history.Readers.Pool.{is_home, smallest, pool}
use Rattle.dsql_laws_calls.specs.history.Readers.Tries.{tries}
use Rattle.dsql_laws_calls.specs.history.Readers.Unfinished.{is_unfinished}
use Rattle.dsql_laws_calls.specs.history.Readers.Works.{work}
use Rattle.dsql_laws_calls.specs.history.Rules.Asking.{may_ask}
use Rattle.dsql_laws_calls.specs.history.Rules.Line.{due_for}
use Rattle.dsql_laws_calls.specs.history.Rules.Replies.{gave_back}
use Rattle.dsql_laws_calls.specs.history.Legal.{Lawful}
use Rattle.dsql_laws_calls.specs.laws.Asked.{with_asked}
use Rattle.dsql_laws_calls.proofs.laws.Asker.{asker}
use Rattle.dsql_laws_calls.proofs.laws.Tests.{both}
use Rattle.dsql_laws_others.proofs.Lends.{due_lent, unfinished_lent}
use Rattle.dsql_laws_others.proofs.GivenUp.{served_tries}
use Rattle.dsql_laws_steps.specs.Groups.{after_reply, asked_so, sends_nothing, unless_resting}
use Rattle.dsql_engine_going.proofs.Groups.{silent_or_not}

-- A call that may ask doesn't rest.
pub asking_restless : (H : List Event) (n : ℕ) → may_ask H n ≡ true → rests H n ≡ false
asking_restless H n may = by (rests H n) refl
  where
    by : (b : Bool) → rests H n ≡ b → rests H n ≡ false
    by false is = is
    by true is =
        let a = asker H n may in
        let b = both (is_unfinished H n) (asks_nothing (caps H) (work H n) (tries H n)) is in
        let clash : true ≡ false = sym a.try_left ∙ served_tries (caps H) (work H n) (tries H n) b.1 in
        absurd cc

pub asking_gave : (H : List Event) (n : ℕ) → may_ask H n ≡ true → gave_back H n ≡ true
asking_gave H n may = ap (λ (b : Bool). is_none (cond b (smallest (is_home n) (pool H)) None)) (asking_restless H n may)

-- A call that was lent a connection and has nothing to send there rests with it.
pub rests_unless_due : (H : List Event) (c t : ℕ) (own : Owner) (n : ℕ) → Lawful (Pool (Lend c t own n) ∷ H) → is_some (due_for (Pool (Lend c t own n) ∷ H) n) ≡ false → rests (Pool (Lend c t own n) ∷ H) n ≡ true
rests_unless_due H c t own n l silent = by (rests K n) refl
  where
    K : List Event
    K = Pool (Lend c t own n) ∷ H

    by : (b : Bool) → rests K n ≡ b → rests K n ≡ true
    by true is = is
    by false is = let clash : true ≡ false = sym (due_lent H c t own n l (unfinished_lent H c t own n l) is) ∙ silent in absurd cc

restless_group : (n : ℕ) (K : List Event) → rests K n ≡ false → unless_resting n K ≡ K
restless_group n K none = ap (λ (b : Bool). cond (sends_nothing K n && b) (after_reply n (reply_due K n) K) K) none ∙ by (sends_nothing K n)
  where
    by : (b : Bool) → cond (b && false) (after_reply n (reply_due K n) K) K ≡ K
    by true = refl
    by false = refl

-- If the call is lent no connection and not too many are open, only the pool's outcome follows its asking.
pub opening_group : (n c : ℕ) (H : List Event) → may_ask H n ≡ true → asked_so n (Ok (asked.Opening c)) H ≡ with_asked n (Ok (asked.Opening c)) H
opening_group n c H may = restless_group n (with_asked n (Ok (asked.Opening c)) H) (asking_restless H n may)

pub queued_group : (n : ℕ) (H : List Event) → may_ask H n ≡ true → asked_so n (Ok asked.Queued) H ≡ with_asked n (Ok asked.Queued) H
queued_group n H may = restless_group n (with_asked n (Ok asked.Queued) H) (asking_restless H n may)

-- If a driver call is due on the connection that the call is lent, nothing more comes.
pub due_lent_group : (n : ℕ) (K : List Event) → is_some (due_for K n) ≡ true → unless_resting n K ≡ K
due_lent_group n K due = ap (λ (b : Bool). cond (b && rests K n) (after_reply n (reply_due K n) K) K) (silent_or_not (is_unfinished K n) (is_some (due_for K n)) due)
