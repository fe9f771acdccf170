-- Proves that an answer on a connection, in a tenure of a call or a transaction, was due there.
use Rattle.std.proofs.Common.{◌≡◌, ◌==◌, true, false, not, ◌&&◌, ◌||◌, List, Option, Some, None, refl, sym, ap, ◌∙◌}
use Rattle.dsql_laws_calls.specs.driver.Kinds.{is_connect, is_shut}
use Rattle.dsql_laws_calls.specs.journal.declared.entry.Entry.{Entry}
use Rattle.dsql_laws_calls.specs.journal.Kinds.{same_owner}
use Rattle.dsql_laws_calls.specs.journal.Journal.{may_follow}
use Rattle.dsql_laws_calls.specs.pool.declared.conn.Place.{Place}
use Rattle.dsql_laws_calls.specs.pool.declared.conn.Place.TheVariants.{Idle, Lent, Opening, Closing}
use Rattle.dsql_laws_calls.specs.pool.Pooled.{next_tenure}
use Rattle.dsql_laws_calls.proofs.laws.Tests.{both, same_number}
use Rattle.dsql_laws_calls.proofs.Owners.{same_owner_is}
use Rattle.dsql_laws_calls.specs.history.declared.event.Event.{Event}
use Rattle.dsql_laws_calls.specs.history.declared.event.Event.TheVariants.{Heard}
use Rattle.dsql_laws_calls.specs.history.Readers.Journals.{journal}
use Rattle.dsql_laws_calls.specs.history.Readers.Pool.{pool, place}
use Rattle.dsql_laws_calls.specs.history.Rules.Moves.{is_house_entry, hears_in}
use Rattle.dsql_laws_calls.specs.history.Rules.Line.{may_come, sends_from}
use Rattle.dsql_laws_calls.specs.history.Legal.{Allowed}

-- What the rules ask of an answer.
record HeardFacts (H : List Event) (e : Entry) : Type 0 where
  sets : hears_in (pool H) (place H e.conn) e ≡ true
  line : sends_from H (place H e.conn) e ≡ true
  follows : may_follow (journal H e.conn) e ≡ true

heard_facts : (H : List Event) (e : Entry) → Allowed H (Heard e) → HeardFacts H e
unfolding Allowed
heard_facts H e a = record { sets = a.sets; line = a.line; follows = a.journals }

-- Holds if the entry's connection is lent to its owner in its tenure, and the entry may come.
pub record HeardLent (H : List Event) (e : Entry) : Type 0 where
  pub lent : place H e.conn ≡ Some (Lent e.tenure e.owner)
  pub comes : may_come H e ≡ true

pub heard_lent : (H : List Event) (e : Entry) → Allowed H (Heard e) → is_house_entry e ≡ false → HeardLent H e
heard_lent H e a own = let f = heard_facts H e a in by (place H e.conn) refl f.sets f.line
  where
    by : (at : Option Place) → place H e.conn ≡ at → hears_in (pool H) at e ≡ true → sends_from H at e ≡ true → HeardLent H e
    by (Some (Lent t o)) is h line =
        let a = both (not (is_connect e.call || is_shut e.call)) ((e.tenure == t) && same_owner e.owner o) h in
        let b = both (e.tenure == t) (same_owner e.owner o) a.1 in
        let tenure : e.tenure ≡ t = same_number e.tenure t b.0 in
        let owner : e.owner ≡ o = same_owner_is e.owner o b.1 in
        record { lent = is ∙ (ap (λ u. Some (Lent u o)) (sym tenure) ∙ ap (λ p. Some (Lent e.tenure p)) (sym owner)); comes = line }
    by (Some (Opening w)) is h line =
        let a = both (is_connect e.call) ((e.tenure == 1) && is_house_entry e) h in
        let b = both (e.tenure == 1) (is_house_entry e) a.1 in
        let clash = b.1 in
        absurd cc
    by (Some Closing) is h line =
        let a = both (is_shut e.call) ((e.tenure == next_tenure (pool H) e.conn) && is_house_entry e) h in
        let b = both (e.tenure == next_tenure (pool H) e.conn) (is_house_entry e) a.1 in
        let clash = b.1 in
        absurd cc
    by (Some Idle) is h line = absurd cc
    by None is h line = absurd cc
