-- The entry that an answer makes carries the transaction in which it stands, and may come whenever any answer
-- may.
use Rattle.std.proofs.Common.{◌≡◌, ℕ, Bool, true, false, not, ◌&&◌, ◌||◌, cond, List, [], ◌∷◌, Option, Some, refl, ap, ◌∙◌}
use Rattle.dsql_engine_hearing.specs.driver.Fits.{is_done}
use Rattle.dsql_engine_hearing.specs.driver.Kinds.{is_begin}
use Rattle.dsql_engine_hearing.specs.driver.declared.answer.DriverAnswer.{DriverAnswer}
use Rattle.dsql_engine_hearing.specs.driver.declared.call.DriverCall.{DriverCall}
use Rattle.dsql_engine_hearing.specs.driver.declared.call.DriverCall.TheVariants.{Begin}
use Rattle.dsql_engine_hearing.specs.journal.declared.entry.Entry.{Entry}
use Rattle.dsql_engine_hearing.specs.journal.declared.entry.Owner.{Owner}
use Rattle.dsql_engine_hearing.specs.journal.declared.entry.Owner.TheVariants.{Tx}
use Rattle.dsql_engine_hearing.specs.journal.declared.entry.Permit.{Permit}
use Rattle.dsql_engine_hearing.specs.journal.Permits.{entry_of}
use Rattle.dsql_tenure.specs.Judged.{answered}
use Rattle.dsql_engine_hearing.specs.pool.declared.conn.Place.{Place}
use Rattle.dsql_engine_hearing.specs.pool.declared.conn.Place.TheVariants.{Lent}
use Rattle.dsql_engine_hearing.specs.history.declared.event.Event.{Event}
use Rattle.dsql_engine_hearing.specs.history.declared.event.Event.TheVariants.{Run}
use Rattle.dsql_engine_hearing.specs.history.Readers.Pool.{place}
use Rattle.dsql_engine_hearing.specs.history.Rules.Line.{is_due_at, may_come, parts}
use Rattle.dsql_engine_hearing.specs.laws_due.Carried.{carried}
use Rattle.dsql_engine_hearing.specs.going.Permits.{tx_carried}

-- Returns the entry, with the transaction in which it stands.
abbrev pub standing_in : Permit → DriverAnswer → Entry
standing_in p a = record (entry_of p a) { tx = carried p.owner p.call a }

-- A Begin that isn't done begins no transaction.
unless_refused : (o : Owner) (q : DriverCall) (a : DriverAnswer) → cond (is_begin q) (cond (is_done a) (tx_carried o q) 0) (tx_carried o q) ≡ carried o q a
unless_refused (Tx k) (Begin level read_only) a = by (is_done a)
  where
    by : (d : Bool) → cond d k 0 ≡ cond (not d) 0 k
    by true = refl
    by false = refl
unless_refused (Tx k) q a = refl
unless_refused o (Begin level read_only) a = by (is_done a)
  where
    by : (d : Bool) → cond {A = ℕ} d 0 0 ≡ 0
    by true = refl
    by false = refl
unless_refused o q a = refl

with_number : (p : Permit) (a : DriverAnswer) → answered p a ≡ record (entry_of p a) { tx = cond (is_begin p.call) (cond (is_done a) p.tx 0) p.tx }
with_number p a = by (is_begin p.call) (is_done a)
  where
    by : (b d : Bool) → cond b (cond d (entry_of p a) (record (entry_of p a) { tx = 0 })) (entry_of p a) ≡ record (entry_of p a) { tx = cond b (cond d p.tx 0) p.tx }
    by true true = refl
    by true false = refl
    by false d = refl

pub answered_in : (p : Permit) (a : DriverAnswer) → p.tx ≡ tx_carried p.owner p.call → answered p a ≡ standing_in p a
answered_in p a tx =
    with_number p a
    ∙ ap (λ (k : ℕ). record (entry_of p a) { tx = k }) (ap (λ (k : ℕ). cond (is_begin p.call) (cond (is_done a) k 0) k) tx ∙ unless_refused p.owner p.call a)

-- When an entry may come doesn't depend on the number of the transaction that it carries.

same_due : (H : List Event) (at : Option Place) (e : Entry) (k : ℕ) → is_due_at H at (record e { tx = k }) ≡ is_due_at H at e
same_due H (Some (Lent t own)) e k = refl
same_due H _ e k = refl

same_parts : (x : Event) (e : Entry) (k : ℕ) → parts x (record e { tx = k }) ≡ parts x e
same_parts (Run version can) e k = refl
same_parts _ e k = refl

pub comes_with : (H : List Event) (e : Entry) (k : ℕ) → may_come H (record e { tx = k }) ≡ may_come H e
comes_with [] e k = refl
comes_with (x ∷ H) e k =
    ap (λ b. b || (not (parts x (record e { tx = k })) && may_come H (record e { tx = k }))) (same_due (x ∷ H) (place (x ∷ H) e.conn) e k)
    ∙ (ap (λ b. is_due_at (x ∷ H) (place (x ∷ H) e.conn) e || (not b && may_come H (record e { tx = k }))) (same_parts x e k)
    ∙ ap (λ b. is_due_at (x ∷ H) (place (x ∷ H) e.conn) e || (not (parts x e) && b)) (comes_with H e k))
