-- A call's permitted driver call carries what the call asks, and the layer's own carry no statement.
use Rattle.std.proofs.Common.{◌≡◌, ℕ, false, List, Option, None, Some, refl, ap, subst}
use Rattle.std.specs.Option.{option_map}
use Rattle.dsql_laws_calls.specs.driver.declared.call.DriverCall.{DriverCall}
use Rattle.dsql_laws_calls.specs.driver.declared.call.DriverCall.TheVariants.{Connect, Exec, Prepare, Query, Shut}
use Rattle.dsql_laws_calls.specs.journal.Kinds.{number_of}
use Rattle.dsql_laws_calls.specs.journal.declared.entry.Owner.{Owner}
use Rattle.dsql_laws_calls.specs.journal.declared.entry.Permit.{Permit}
use Rattle.dsql_laws_calls.specs.pool.declared.conn.Place.{Place}
use Rattle.dsql_laws_calls.specs.pool.declared.conn.Place.TheVariants.{Lent, Opening, Closing}
use Rattle.dsql_laws_calls.specs.pool.Pooled.{next_tenure}
use Rattle.dsql_laws_calls.specs.works.Line.{Asked}
use Rattle.dsql_engine_exchanged.specs.Filled.{Carries, carries_statement}
use Rattle.dsql_laws_calls.specs.history.declared.event.Event.{Event}
use Rattle.dsql_laws_calls.specs.history.Readers.Calls.{site}
use Rattle.dsql_laws_calls.specs.history.Readers.Pool.{place, pool}
use Rattle.dsql_laws_calls.specs.history.Rules.Line.{due_for, tidying}
use Rattle.dsql_laws_calls.specs.history.Rules.Sent.{asked_by}
use Rattle.dsql_laws_calls.specs.history.Legal.{Lawful}
use Rattle.dsql_engine_lines.proofs.Carries.{due_carries}
use Rattle.dsql_engine_lines.proofs.OverRows.{to_tidy}
use Rattle.dsql_engine_going.specs.Permits.{call_permit, chore_at, chore_permit, house_permit, permit_for, sent_at}

-- A call's driver call.

pub permit_carried : (H : List Event) (m : ℕ) (permit : Permit) → Lawful H → permit_for H m ≡ Some permit → Carries (asked_by H m) permit.call
permit_carried H m permit l given = by (site H m) (place H (site H m)) (due_for H m) refl given
  where
    by : (c : ℕ) (at : Option Place) (sent : Option DriverCall) → due_for H m ≡ sent → sent_at m c at sent ≡ Some permit → Carries (asked_by H m) permit.call
    by c (Some (Lent t owner)) (Some call) due is =
        let same : call_permit c t owner m call ≡ permit = cc in
        subst (Carries (asked_by H m)) (ap (λ p. p.call) same) (due_carries H m call l due)
    by c (Some (Lent t owner)) None due is = absurd cc
    by c at sent due is = absurd cc

-- The layer's own driver call.

unstated : (asked : Asked) (call : DriverCall) → carries_statement call ≡ false → Carries asked call
unstated asked (Exec input params) none = absurd cc
unstated asked (Query input params) none = absurd cc
unstated asked (Prepare text) none = absurd cc
unstated asked call none = refl

pub chore_carried : (H : List Event) (c : ℕ) (permit : Permit) → Lawful H → chore_permit H c ≡ Some permit → (asked : Asked) → Carries asked permit.call
chore_carried H c permit l given asked = by (place H c) given
  where
    made : (p : Permit) → carries_statement p.call ≡ false → Some p ≡ Some permit → Carries asked permit.call
    made p none is = let same : p ≡ permit = cc in subst (Carries asked) (ap (λ q. q.call) same) (unstated asked p.call none)

    lent : (t : ℕ) (owner : Owner) (sent : Option DriverCall) → tidying H (number_of owner) ≡ sent → option_map (call_permit c t owner 0) sent ≡ Some permit → Carries asked permit.call
    lent t owner None tidies is = absurd cc
    lent t owner (Some call) tidies is = made (call_permit c t owner 0 call) (to_tidy H (number_of owner) call l tidies) is

    by : (at : Option Place) → chore_at H c at ≡ Some permit → Carries asked permit.call
    by (Some (Lent t owner)) is = lent t owner (tidying H (number_of owner)) refl is
    by (Some (Opening wanted)) is = made (house_permit c 1 Connect) refl is
    by (Some Closing) is = made (house_permit c (next_tenure (pool H) c) Shut) refl is
    by at is = absurd cc
