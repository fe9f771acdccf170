use Rattle.std.proofs.Common.{◌≡◌, ◌∷◌, Some, sym, ap, subst, ◌∙◌, arith}
use Rattle.dsql_laws_calls.specs.history.declared.event.Event.TheVariants.{Pool}
use Rattle.dsql_laws_calls.specs.history.Readers.Works.{owner_of}
use Rattle.dsql_laws_calls.specs.history.Rules.Asking.{ask_outcome}
use Rattle.dsql_laws_calls.specs.history.Legal.{Lawful, Calm}
use Rattle.dsql_laws_calls.specs.laws.Asked.{with_asked}
use Rattle.dsql_laws_calls.proofs.laws.Asker.{asker}
use Rattle.dsql_laws_calls.proofs.laws.AskedAllowed.{asked_lawful}
use Rattle.dsql_engine_desk.specs.Appending.{event_asked}
use Rattle.dsql_engine_desk.specs.Desk.{past, Stands}
use Rattle.dsql_engine_desk.proofs.Present.{beside_pool, few_openings}
use Rattle.dsql_engine_desk.proofs.Asking.{may_request, answered_as, asks_as, numbered, asked_leaves, asked_calm, asked_pool, one_came}
use Rattle.dsql_engine_desk.proofs.desk.Desk.ask.Goals as goal

pub asks_last-last-requires-clause-unfinished : goal.asks_last-last-requires-clause-unfinished
asks_last-last-requires-clause-unfinished c = (asker (past c.args.self.now) c.args.call c.requires.asks).unfinished

pub ask-outcome-requires-clause-request : goal.ask-outcome-requires-clause-request
unfolding Stands
ask-outcome-requires-clause-request c =
    may_request (past c.args.self.now) c.args.call c.asks_last-last.result c.owner-owner.result c.args.self.now.pool.pooled c.requires.stands.tables.lawful c.requires.asks c.owner-owner.ensures c.requires.stands.pool

pub ask-outcome-requires-clause-drawn : goal.ask-outcome-requires-clause-drawn
ask-outcome-requires-clause-drawn c = few_openings c.args.self.now c.requires.stands c.requires.few

pub add_move-requires-clause-may : goal.add_move-requires-clause-may
unfolding Stands
add_move-requires-clause-may c =
    let H = past c.args.self.now in
    let n = c.args.call in
    let t = c.requires.stands.tables in
    let a = ask_outcome H n in
    let out : c.ask-outcome.result ≡ a = c.ask-outcome.ensures.outcome ∙ answered_as H n c.asks_last-last.result c.owner-owner.result c.args.self.now.pool.pooled c.asks_last-last.ensures c.owner-owner.ensures c.requires.stands.pool in
    let came : event_asked n (owner_of H n) a ≡ Some (Pool c.in-Some-Pool.it)
    = ap (λ o. event_asked n o a) (sym c.owner-owner.ensures) ∙ ap (event_asked n c.owner-owner.result) (sym out) ∙ (sym c.event_asked.ensures ∙ (c.in-Some-Pool.is ∙ ap (λ e. Some e) c.in-Some-Pool.field-0-is)) in
    let p : Pool c.in-Some-Pool.it ∷ H ≡ with_asked n a H = one_came n a (Pool c.in-Some-Pool.it) H came in
    record {
      tables = beside_pool c.args.self.now c.ask-outcome.new.pool t;
      lawful = subst (λ K. Lawful K) (sym p) (asked_lawful H n t.lawful c.requires.owing c.requires.asks c.requires.settled);
      calm = subst (λ K. Calm K) (sym p) (asked_calm n a H t.calm);
      paid = c.requires.paid;
    }

pub returns-in-Some-Pool-clause-asks : goal.returns-in-Some-Pool-clause-asks
unfolding Stands
returns-in-Some-Pool-clause-asks c =
    let H = past c.args.self.now in
    let n = c.args.call in
    let s = c.requires.stands in
    let a = ask_outcome H n in
    let added = c.add_move.ensures in
    let out : c.ask-outcome.result ≡ a = c.ask-outcome.ensures.outcome ∙ answered_as H n c.asks_last-last.result c.owner-owner.result c.args.self.now.pool.pooled c.asks_last-last.ensures c.owner-owner.ensures s.pool in
    let came : event_asked n (owner_of H n) a ≡ Some (Pool c.in-Some-Pool.it)
    = ap (λ o. event_asked n o a) (sym c.owner-owner.ensures) ∙ ap (event_asked n c.owner-owner.result) (sym out) ∙ (sym c.event_asked.ensures ∙ (c.in-Some-Pool.is ∙ ap (λ e. Some e) c.in-Some-Pool.field-0-is)) in
    let p : past c.add_move.new.self ≡ with_asked n a H = added.event ∙ one_came n a (Pool c.in-Some-Pool.it) H came in
    let rest = asked_leaves n a H in
    record {
      stands = record {
        tables = added.tables;
        closed_by = rw p (added.closed_by ∙ (s.closed_by ∙ sym rest.db_end));
        pool =
            rw p
            (ap (λ q. q.pooled) added.pool
            ∙ (c.ask-outcome.ensures.pooled ∙ (asks_as H n c.asks_last-last.result c.owner-owner.result c.args.self.now.pool.pooled c.asks_last-last.ensures c.owner-owner.ensures s.pool ∙ sym (asked_pool n a H (numbered H n s.tables.lawful c.requires.asks)))));
        room = let same = ap (λ q. q.spare) added.pool in omega (arith, same, s.room, c.ask-outcome.ensures.spare, c.requires.paid, added.paid);
      };
      paid = added.paid;
      event = p;
      trimmed = added.trimmed;
    }

pub add_beside-requires-clause-may : goal.add_beside-requires-clause-may
unfolding Stands
add_beside-requires-clause-may c =
    let H = past c.args.self.now in
    let n = c.args.call in
    let t = c.requires.stands.tables in
    let a = ask_outcome H n in
    let out : c.ask-outcome.result ≡ a = c.ask-outcome.ensures.outcome ∙ answered_as H n c.asks_last-last.result c.owner-owner.result c.args.self.now.pool.pooled c.asks_last-last.ensures c.owner-owner.ensures c.requires.stands.pool in
    let came : event_asked n (owner_of H n) a ≡ Some c.in-Some.event = ap (λ o. event_asked n o a) (sym c.owner-owner.ensures) ∙ ap (event_asked n c.owner-owner.result) (sym out) ∙ (sym c.event_asked.ensures ∙ c.in-Some.is) in
    let p : c.in-Some.event ∷ H ≡ with_asked n a H = one_came n a c.in-Some.event H came in
    record {
      tables = beside_pool c.args.self.now c.ask-outcome.new.pool t;
      lawful = subst (λ K. Lawful K) (sym p) (asked_lawful H n t.lawful c.requires.owing c.requires.asks c.requires.settled);
      calm = subst (λ K. Calm K) (sym p) (asked_calm n a H t.calm);
      paid = c.requires.paid;
    }
