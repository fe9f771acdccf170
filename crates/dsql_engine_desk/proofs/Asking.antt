-- What follows when a call asks, and what its asking leaves unchanged.
use Rattle.std.proofs.Common.{◌≡◌, ◌≢◌, ℕ, Bool, true, List, ◌∷◌, Option, Some, None, refl, sym, ap, ◌∙◌, arith}
use Rattle.std.specs.Prelude.{Result, Ok, Err}
use Rattle.dsql_laws_calls.specs.journal.declared.entry.Owner.{Owner}
use Rattle.dsql_laws_calls.specs.journal.Kinds.{is_house, number_of}
use Rattle.dsql_laws_calls.specs.wait.declared.request.Request.{Request}
use Rattle.dsql_laws_calls.specs.pool.declared.request.Asked.{Asked}
use Rattle.dsql_laws_calls.specs.pool.declared.request.Asked.TheVariants as asked
use Rattle.dsql_laws_calls.specs.pool.declared.request.AskFault.{AskFault}
use Rattle.dsql_laws_calls.specs.pool.Moved.{begun}
use Rattle.dsql_laws_calls.specs.pool.Calls.{MayAsk, after_asked, asks, wants}
use Rattle.dsql_laws_calls.specs.pool.Decisions as pools
use Rattle.dsql_laws_calls.specs.pool.Pooled.{Pooled}
use Rattle.dsql_laws_calls.specs.history.Readers.Tries.{asks_last, tries}
use Rattle.dsql_laws_calls.specs.history.declared.event.Event.{Event}
use Rattle.dsql_laws_calls.specs.history.Readers.Pool.{pool, request, request_at, wanted_by}
use Rattle.dsql_laws_calls.specs.history.Readers.Works.{owner_of}
use Rattle.dsql_laws_calls.specs.history.Rules.Asking.{may_ask, ask_outcome}
use Rattle.dsql_laws_calls.specs.history.Legal.{Lawful, Calm}
use Rattle.dsql_laws_calls.specs.laws.Asked.{with_asked}
use Rattle.dsql_laws_calls.proofs.laws.Asker.{asker}
use Rattle.dsql_laws_calls.proofs.laws.Numbered.{unfinished_from_one}
use Rattle.dsql_laws_calls.proofs.laws.Owners.{owner_not_house, owner_number}
use Rattle.dsql_laws_calls.proofs.laws.Tests.{other_number}
use Rattle.dsql_engine_desk.specs.Appending.{event_asked}
use Rattle.dsql_engine_desk.proofs.Moves.{Leaves}

pub numbered : (H : List Event) (n : ℕ) → Lawful H → may_ask H n ≡ true → n ≢ 0
numbered H n l may = unfinished_from_one H n l (asker H n may).unfinished

-- The request of call n is the one with its owner, and with whether its next try is the last.
request_as : (H : List Event) (n : ℕ) (last : Bool) (owner : Owner) (moment : ℕ) → last ≡ asks_last (tries H n) → owner ≡ owner_of H n → request_at last owner n moment ≡ request_at (asks_last (tries H n)) (owner_of H n) n moment
request_as H n last owner moment is_last is_owner = ap (λ (b : Bool). request_at b owner n moment) is_last ∙ ap (λ (o : Owner). request_at (asks_last (tries H n)) o n moment) is_owner

-- The call may make this request of this pool.
pub may_request : (H : List Event) (n : ℕ) (last : Bool) (owner : Owner) (p : Pooled) → Lawful H → may_ask H n ≡ true → owner ≡ owner_of H n → p ≡ pool H → MayAsk (request_at last owner n p.moment) p
may_request H n last owner p l may is_owner is_pool =
    let some = numbered H n l may in
    record {
      owner = ap is_house is_owner ∙ owner_not_house H n;
      call = ap number_of is_owner ∙ owner_number H n;
      numbered = omega (arith, some);
      new = ap (wants n) is_pool ∙ (asker H n may).unwanting;
      asked = refl;
    }

-- The pool's outcome for this request, and what the pool makes of it, are those of the history.
pub answered_as : (H : List Event) (n : ℕ) (last : Bool) (owner : Owner) (p : Pooled) → last ≡ asks_last (tries H n) → owner ≡ owner_of H n → p ≡ pool H → pools.ask_outcome (request_at last owner n p.moment) p ≡ ask_outcome H n
answered_as H n last owner p is_last is_owner is_pool =
    ap (λ (r : Request). pools.ask_outcome r p) (request_as H n last owner p.moment is_last is_owner)
    ∙ ap (λ (q : Pooled). pools.ask_outcome (request_at (asks_last (tries H n)) (owner_of H n) n q.moment) q) is_pool

pub asks_as : (H : List Event) (n : ℕ) (last : Bool) (owner : Owner) (p : Pooled) → last ≡ asks_last (tries H n) → owner ≡ owner_of H n → p ≡ pool H → asks (request_at last owner n p.moment) p ≡ asks (request H n) (pool H)
asks_as H n last owner p is_last is_owner is_pool =
    ap (λ (r : Request). asks r p) (request_as H n last owner p.moment is_last is_owner)
    ∙ ap (λ (q : Pooled). asks (request_at (asks_last (tries H n)) (owner_of H n) n q.moment) q) is_pool

pub asked_leaves : (n : ℕ) (a : Result Asked AskFault) (H : List Event) → Leaves H (with_asked n a H)
asked_leaves n (Ok (asked.Lent c t)) H = record { caps = refl; db_end = refl; has_ended = refl; unfinished = refl; works = refl; handed_out = refl; transactions = refl; sent = refl; lines = refl }
asked_leaves n _ H = record { caps = refl; db_end = refl; has_ended = refl; unfinished = refl; works = refl; handed_out = refl; transactions = refl; sent = refl; lines = refl }

pub asked_calm : (n : ℕ) (a : Result Asked AskFault) (H : List Event) → Calm H → Calm (with_asked n a H)
asked_calm n (Ok asked.Closed) H calm = calm
asked_calm n (Err why) H calm = calm
asked_calm n (Ok _) H calm = (calm, λ outside. absurd cc)

wanted_is : (H : List Event) (n : ℕ) → n ≢ 0 → wanted_by H n ≡ Some (owner_of H n)
wanted_is H n some = let other = other_number n 0 some in rw other refl

pub asked_pool : (n : ℕ) (a : Result Asked AskFault) (H : List Event) → n ≢ 0 → pool (with_asked n a H) ≡ after_asked (request H n) a (pool H)
asked_pool n (Ok (asked.Lent c t)) H some = refl
asked_pool n (Ok (asked.Opening c)) H some = ap (λ w. begun w (pool H)) (wanted_is H n some)
asked_pool n _ H some = refl

abbrev event_or : Event → Option Event → Event
event_or d None = d
event_or d (Some e) = e

pub one_came : (n : ℕ) (a : Result Asked AskFault) (e : Event) (H : List Event) → event_asked n (owner_of H n) a ≡ Some e → e ∷ H ≡ with_asked n a H
one_came n (Ok asked.Closed) e H is = absurd cc
one_came n (Err why) e H is = absurd cc
one_came n (Ok _) e H is = ap (λ f. f ∷ H) (sym (ap (event_or e) is))
