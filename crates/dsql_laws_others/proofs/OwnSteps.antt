-- A refused connection falls to a call that is in no step of its own, because the answer that refused it was to
-- the layer.
use Rattle.std.proofs.Common.{◌≡◌, ◌≢◌, ℕ, ◌==◌, Bool, true, false, not, ◌&&◌, List, ◌∷◌, Option, Some, refl, sym, ap, ◌∙◌}
use Rattle.dsql_laws_calls.specs.driver.Kinds.{is_connect, is_shut}
use Rattle.dsql_laws_calls.specs.journal.declared.entry.Entry.{Entry}
use Rattle.dsql_laws_calls.specs.journal.Kinds.{is_house}
use Rattle.dsql_laws_calls.specs.journal.Readers.{is_empty}
use Rattle.dsql_laws_calls.specs.pool.declared.conn.Place.{Place}
use Rattle.dsql_laws_calls.specs.pool.declared.conn.Place.TheVariants.{Opening, Closing}
use Rattle.dsql_laws_calls.specs.pool.declared.moves.CloseCause.TheVariants.{DbClosed}
use Rattle.dsql_laws_calls.specs.pool.declared.moves.Move.TheVariants.{Fell}
use Rattle.dsql_laws_calls.specs.pool.Moved.{shut}
use Rattle.dsql_laws_calls.specs.pool.Pooled.{Pooled, next_tenure}
use Rattle.dsql_laws_calls.specs.history.Readers.Owed.{answered, left_of, owed}
use Rattle.dsql_laws_calls.proofs.laws.Tests.{both, same_number, other_number}
use Rattle.dsql_laws_calls.specs.history.declared.event.Event.{Event}
use Rattle.dsql_laws_calls.specs.history.declared.event.Event.TheVariants.{Entered, Heard, Pool}
use Rattle.dsql_laws_calls.specs.history.declared.event.Op.TheVariants.{DbClose}
use Rattle.dsql_laws_calls.specs.history.Readers.Pool.{pool, place}
use Rattle.dsql_laws_calls.specs.history.Rules.Moves.{is_house_entry, hears_in}
use Rattle.dsql_laws_calls.specs.history.Rules.Order.{follows}
use Rattle.dsql_laws_calls.specs.history.Rules.Stands.{is_own_step}
use Rattle.dsql_laws_calls.specs.history.Legal.{Lawful}
use Rattle.dsql_laws_calls.proofs.laws.AtRest.{keeps_of}
use Rattle.dsql_laws_calls.proofs.Looks.{heard_there}
use Rattle.dsql_laws_calls.proofs.Falls.{closings_fall_none, left_falls_none, later_falls_none, first_falls}

-- Outside of a step of its own, a call replies what is settled.
pub replies_apart : (own settled : Bool) → own ≡ false → settled ≡ true → (not own && settled) ≡ true
replies_apart true settled apart h = absurd cc
replies_apart false settled apart h = h

house_calls : (e : Entry) → is_house_entry e ≡ true → (e.call_no == 0) ≡ true
house_calls e h = let a = both (is_house e.owner) (e.call_no == 0) h in a.1

-- An answer that makes moves due is to the layer.
layer_answers : (p : Pooled) (at : Option Place) (e : Entry) → hears_in p at e ≡ true → not (is_empty (answered e.answer e.conn p at)) ≡ true → (e.call_no == 0) ≡ true
layer_answers p (Some (Opening wanted)) e sets some =
    let a = both (is_connect e.call) ((e.tenure == 1) && is_house_entry e) sets in
    let b = both (e.tenure == 1) (is_house_entry e) a.1 in
    house_calls e b.1
layer_answers p (Some Closing) e sets some =
    let a = both (is_shut e.call) ((e.tenure == next_tenure p e.conn) && is_house_entry e) sets in
    let b = both (e.tenure == next_tenure p e.conn) (is_house_entry e) a.1 in
    house_calls e b.1
layer_answers p _ e sets some = absurd cc

pub fallen_own : (H : List Event) (c n : ℕ) → Lawful (Pool (Fell c n) ∷ H) → n ≢ 0 → is_own_step H n ≡ false
fallen_own H c n l some = let k = keeps_of H (Pool (Fell c n)) l.1 in by H l.0 k.order k.causes
  where
    by : (K : List Event) → Lawful K → follows (owed K) (Pool (Fell c n)) ≡ true → not (is_empty (owed K)) ≡ true → is_own_step K n ≡ false
    by (Heard e ∷ K) m h due =
        let there = heard_there K e m.1 in
        let none : e.call_no ≡ 0 = same_number e.call_no 0 (layer_answers (pool K) (place K e.conn) e there.sets due) in
        ap (λ j. j == n) none ∙ other_number 0 n (λ same. some (sym same))
    by (Entered client i DbClose ∷ K) m h due = absurd (first_falls (owed (Entered client i DbClose ∷ K)) c n (closings_fall_none DbClosed (shut (pool K)).idle) h due)
    by (Entered client i op ∷ K) m h due = absurd cc
    by (Pool move ∷ K) m h due = absurd (first_falls (left_of K move (owed K)) c n (left_falls_none K move (owed K) (later_falls_none K)) h due)
    by _ m h due = refl
