-- The places in which the layer's own driver calls are made. No answer to a client's call may come there.
use Rattle.std.proofs.Common.{◌≡◌, ◌≢◌, ℕ, true, false, List, Option, Some, None, is_some, refl, sym, ap, ◌∙◌}
use Rattle.std.specs.Prelude.{option_map}
use Rattle.dsql_engine_hearing.specs.driver.declared.call.DriverCall.{DriverCall}
use Rattle.dsql_engine_hearing.specs.driver.declared.call.DriverCall.TheVariants.{Connect, Shut}
use Rattle.dsql_engine_hearing.specs.driver.Kinds.{is_connect, is_shut}
use Rattle.dsql_engine_hearing.specs.journal.declared.entry.Entry.{Entry}
use Rattle.dsql_engine_hearing.specs.journal.declared.entry.Owner.{Owner}
use Rattle.dsql_engine_hearing.specs.journal.Kinds.{number_of}
use Rattle.dsql_engine_hearing.specs.journal.declared.entry.Permit.{Permit}
use Rattle.dsql_engine_hearing.specs.pool.declared.conn.Place.{Place}
use Rattle.dsql_engine_hearing.specs.pool.declared.conn.Place.TheVariants.{Lent, Opening, Closing}
use Rattle.dsql_engine_hearing.specs.pool.Places.{is_closing, is_lent, is_opening}
use Rattle.dsql_engine_hearing.specs.pool.Pooled.{next_tenure}
use Rattle.dsql_engine_hearing.proofs.laws.Tests.{same_number}
use Rattle.dsql_engine_hearing.specs.history.declared.event.Event.{Event}
use Rattle.dsql_engine_hearing.specs.history.Readers.Pool.{place, pool}
use Rattle.dsql_engine_hearing.specs.history.Rules.Line.{may_come, tidying}
use Rattle.dsql_engine_hearing.specs.history.Legal.{Lawful}
use Rattle.dsql_engine_hearing.proofs.laws_calls.Coming.{stays_with_its_call}
use Rattle.dsql_engine_hearing.proofs.laws_calls.Ends.{over_once_ended}
use Rattle.dsql_engine_hearing.specs.going.Permits.{call_permit, chore_at, chore_permit, house_permit}
use Rattle.dsql_engine_laws.proofs.Itself.{neither}
use Rattle.dsql_engine_laws.proofs.Tidied.{tidied_after_end}

-- Holds if a connection in this place is one on which the layer makes such a driver call.
pub record IsToldBy (call : DriverCall) (at : Option Place) : Type 0 where
  pub connect : is_connect call ≡ true → is_opening at ≡ true
  pub shut : is_shut call ≡ true → is_closing at ≡ true
  pub tidy : is_connect call ≡ false → is_shut call ≡ false → is_lent at ≡ true

never : true ≡ false → ⊥
never h = cc

told_lent : (H : List Event) (c t : ℕ) (own : Owner) (p : Permit) (d : Option DriverCall) → tidying H (number_of own) ≡ d → option_map (call_permit c t own 0) d ≡ Some p → IsToldBy p.call (Some (Lent t own))
told_lent H c t own p None is k = absurd cc
told_lent H c t own p (Some q) is k =
    let made : call_permit c t own 0 q ≡ p = cc in
    let same : p.call ≡ q = ap (λ (x : Permit). x.call) (sym made) in
    let kind = neither H (number_of own) q is in
    record {
      connect = λ h. absurd (never (sym h ∙ (ap is_connect same ∙ kind.0)));
      shut = λ h. absurd (never (sym h ∙ (ap is_shut same ∙ kind.1)));
      tidy = λ h j. refl;
    }

told_connect : (p : Permit) (at : Option Place) → p.call ≡ Connect → is_opening at ≡ true → IsToldBy p.call at
told_connect p at call opens = record {
  connect = λ h. opens;
  shut = λ h. absurd (never (sym h ∙ ap is_shut call));
  tidy = λ h k. absurd (never (sym (ap is_connect call) ∙ h));
}

told_shut : (p : Permit) (at : Option Place) → p.call ≡ Shut → is_closing at ≡ true → IsToldBy p.call at
told_shut p at call closes = record {
  connect = λ h. absurd (never (sym h ∙ ap is_connect call));
  shut = λ h. closes;
  tidy = λ h k. absurd (never (sym (ap is_shut call) ∙ k));
}

told_at : (H : List Event) (c : ℕ) (p : Permit) (at : Option Place) → chore_at H c at ≡ Some p → IsToldBy p.call at
told_at H c p (Some (Opening wanted)) k = told_connect p (Some (Opening wanted)) (let same : p ≡ house_permit c 1 Connect = cc in ap (λ (x : Permit). x.call) same) refl
told_at H c p (Some Closing) k = told_shut p (Some Closing) (let same : p ≡ house_permit c (next_tenure (pool H) c) Shut = cc in ap (λ (x : Permit). x.call) same) refl
told_at H c p (Some (Lent t own)) k = told_lent H c t own p (tidying H (number_of own)) refl k
told_at H c p _ k = absurd cc

pub told_by_kind : (H : List Event) (c : ℕ) (p : Permit) → chore_permit H c ≡ Some p → IsToldBy p.call (place H c)
told_by_kind H c p k = told_at H c p (place H c) k

some_tidied : (f : DriverCall → Permit) (d : Option DriverCall) (p : Permit) → option_map f d ≡ Some p → is_some d ≡ true
some_tidied f None p h = absurd cc
some_tidied f (Some q) p h = refl

-- An answer may come only on a lent connection. If the layer has a driver call to make there, the run has
-- ended, and what may come is the layer's.
pub meets_no_other : (H : List Event) (c : ℕ) (p : Permit) (e : Entry) → Lawful H → chore_permit H c ≡ Some p → e.call_no ≢ 0 → may_come H e ≡ true → e.conn ≢ c
meets_no_other H c p e l k some may same =
    let stays = stays_with_its_call H e l may in
    let lent : place H c ≡ Some (Lent e.tenure stays.owner) = ap (place H) (sym same) ∙ stays.lent in
    let tidies : option_map (call_permit c e.tenure stays.owner 0) (tidying H (number_of stays.owner)) ≡ Some p = sym (ap (chore_at H c) lent) ∙ k in
    let any = some_tidied (call_permit c e.tenure stays.owner 0) (tidying H (number_of stays.owner)) p tidies in
    let over = over_once_ended H l (tidied_after_end H c e.tenure stays.owner l lent any) in
    some (same_number e.call_no 0 (over.layer e may))
