-- Proves that the answer to a driver call that is under way stays welcome.
use Rattle.std.proofs.Common.{◌≡◌, Bool, true, false, not, ◌&&◌, ◌||◌, List, [], ◌∷◌, refl}
use Rattle.dsql_history.specs.journal.declared.entry.Entry.{Entry}
use Rattle.dsql_history.specs.declared.event.Event.{Event}
use Rattle.dsql_history.specs.Readers.Pool.{place}
use Rattle.dsql_history.specs.Rules.Line.{is_due_at, parts, may_come}

either_left : (a b : Bool) → a ≡ true → (a || b) ≡ true
either_left true b h = refl
either_left false b h = absurd cc

either_right : (a b : Bool) → b ≡ true → (a || b) ≡ true
either_right true b h = refl
either_right false b h = h

both_hold : (a b : Bool) → a ≡ false → b ≡ true → (not a && b) ≡ true
both_hold true b h k = absurd cc
both_hold false b h k = k

pub due_may_come : (H : List Event) (e : Entry) → is_due_at H (place H e.conn) e ≡ true → may_come H e ≡ true
due_may_come [] e h = h
due_may_come (last ∷ H) e h = either_left (is_due_at (last ∷ H) (place (last ∷ H) e.conn) e) (not (parts last e) && may_come H e) h

pub stays_welcome : (H : List Event) (last : Event) (e : Entry) → parts last e ≡ false → may_come H e ≡ true → may_come (last ∷ H) e ≡ true
stays_welcome H last e on h = either_right (is_due_at (last ∷ H) (place (last ∷ H) e.conn) e) (not (parts last e) && may_come H e) (both_hold (parts last e) (may_come H e) on h)
