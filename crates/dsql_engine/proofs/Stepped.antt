-- What stays unchanged in the history and in the flights as a call enters and as an answer is taken in.
use Rattle.std.proofs.Common.{◌≡◌, ◌≢◌, ℕ, ◌==◌, Bool, true, false, not, ◌||◌, cond, List, [], ◌∷◌, Option, Some, refl, sym, ap, subst, ◌∙◌, arith}
use Rattle.dsql_engine_hearing.specs.journal.declared.entry.Entry.{Entry}
use Rattle.dsql_engine_hearing.specs.journal.Kinds.{is_house, number_of}
use Rattle.dsql_engine_hearing.specs.journal.Readers.{has, is_empty}
use Rattle.dsql_engine_hearing.specs.pool.declared.conn.Place.{Place}
use Rattle.dsql_engine_hearing.specs.pool.declared.conn.Place.TheVariants.{Lent}
use Rattle.dsql_engine_hearing.specs.pool.declared.moves.Move.{Move}
use Rattle.dsql_engine_hearing.specs.history.declared.event.Event.{Event}
use Rattle.dsql_engine_hearing.specs.history.declared.event.Event.TheVariants.{Entered, Heard}
use Rattle.dsql_engine_hearing.specs.history.declared.event.Op.{Op}
use Rattle.dsql_engine_hearing.specs.history.declared.record.Flight.{Flight}
use Rattle.dsql_engine_hearing.specs.history.Readers.Calls.{next_call}
use Rattle.dsql_engine_hearing.specs.history.Readers.Owed.{given_back, owed}
use Rattle.dsql_engine_hearing.specs.history.Readers.Pool.{place}
use Rattle.dsql_engine_hearing.specs.history.Readers.Unfinished.{unfinished, is_unfinished}
use Rattle.dsql_engine_hearing.specs.history.Rules.Flights.{without_flight}
use Rattle.dsql_engine_hearing.specs.history.Rules.Line.{is_used}
use Rattle.dsql_engine_hearing.specs.history.Legal.{Lawful}
use Rattle.dsql_engine_hearing.specs.laws.OwedMade.{with_moves}
use Rattle.dsql_engine_hearing.proofs.laws.Tests.{both, together}
use Rattle.dsql_engine_hearing.proofs.laws_work.Rows.{has_push}
use Rattle.dsql_engine_hearing.proofs.laws_calls.Stays.{as_many}
use Rattle.dsql_engine_hearing.proofs.desk.Known.{unfinished_known}
use Rattle.dsql_engine_hearing.proofs.desk.Moves.{leaves}
use Rattle.dsql_engine_hearing.specs.going.declared.next.Next.{Next}
use Rattle.dsql_engine_hearing.specs.going.Reaching.{HasGoneOn}
use Rattle.dsql_engine_hearing.specs.going.Stepping.{are_of_unfinished, GoesOnOrRests, Rests}
use Rattle.dsql_engine_hearing.proofs.Letting.{same_let_go}
use Rattle.dsql_engine_hearing.proofs.Steps.{landed_apart}
use Rattle.dsql_engine_hearing.specs.laws_steps.Groups.{after_enter, after_heard, gone_on, heard_at, let_go, with_owed}
use Rattle.dsql_engine.proofs.Flying.{begun_gone, begun_moved, either_begun, gone_flies, gone_others, others_fly}

moved_same : (ms : List Move) (H : List Event) (m : ℕ) → is_unfinished (with_moves ms H) m ≡ is_unfinished H m
moved_same ms H m = let left = leaves ms H in ap (λ (us : List ℕ). has m us) left.unfinished

-- A call enters.

pub begun_entered : (H : List Event) (client : ℕ) (op : Op) → is_empty (after_enter H client op) ≡ false
begun_entered H client op = let K = Entered client (next_call H) op ∷ H in begun_gone (next_call H) (with_owed K) (begun_moved (owed K) K refl)

entered_others : (H : List Event) (client : ℕ) (op : Op) → Lawful H → (m : ℕ) → is_unfinished H m ≡ true → is_unfinished (after_enter H client op) m ≡ true
entered_others H client op l m u =
    let n = next_call H in
    let K = Entered client n op ∷ H in
    let apart : m ≢ n = λ same. (let old = unfinished_known H m l u in let many = as_many H in absurd (omega (arith, old, many, same))) in
    gone_others n (with_owed K) m apart ∙ (moved_same (owed K) K m ∙ (has_push m n (unfinished H) ∙ ap (λ (b : Bool). b || (n == m)) u))

fly_still : (H K : List Event) (flights : List Flight) → ((m : ℕ) → is_unfinished H m ≡ true → is_unfinished K m ≡ true) → are_of_unfinished H flights ≡ true → are_of_unfinished K flights ≡ true
fly_still H K [] each h = refl
fly_still H K (x ∷ xs) each h =
    let a = both (is_unfinished H x.call) (are_of_unfinished H xs) h in
    together (is_unfinished K x.call) (are_of_unfinished K xs) (each x.call a.0) (fly_still H K xs each a.1)

pub entered_flies : (H : List Event) (client : ℕ) (op : Op) (K : List Event) (before after : List Flight) (next : Next) → Lawful H → K ≡ after_enter H client op → are_of_unfinished H before ≡ true
    → HasGoneOn K before after (next_call H) next → are_of_unfinished K after ≡ true
entered_flies H client op K before after next l is flying went =
    gone_flies K (next_call H) before after next went (subst (λ (P : List Event). are_of_unfinished P before ≡ true) (sym is) (fly_still H (after_enter H client op) before (entered_others H client op l) flying))

-- An answer is taken in.

begun_heard_at : (H : List Event) (e : Entry) (at : Option Place) → is_empty (heard_at at e H) ≡ false
begun_heard_at H e (Some (Lent t owner)) =
    let K = Heard e ∷ H in
    let n = number_of owner in
    let left = either_begun (is_used K n) K (with_moves (given_back K e.conn) K) refl (begun_moved (given_back K e.conn) K refl) in
    either_begun (is_house owner) (with_owed K) (gone_on e.call_no (let_go e.conn n K)) (begun_moved (owed K) K refl) (begun_gone e.call_no (let_go e.conn n K) left)
begun_heard_at H e _ = begun_moved (owed (Heard e ∷ H)) (Heard e ∷ H) refl

pub begun_heard : (H : List Event) (e : Entry) → is_empty (after_heard H e) ≡ false
begun_heard H e = begun_heard_at H e (place H e.conn)

heard_others : (H : List Event) (e : Entry) (at : Option Place) (m : ℕ) → m ≢ e.call_no → is_unfinished (heard_at at e H) m ≡ is_unfinished H m
heard_others H e (Some (Lent t owner)) m apart = by (is_house owner)
  where
    K : List Event
    K = Heard e ∷ H

    by : (b : Bool) → is_unfinished (cond b (with_owed K) (gone_on e.call_no (let_go e.conn (number_of owner) K))) m ≡ is_unfinished H m
    by true = moved_same (owed K) K m
    by false = gone_others e.call_no (let_go e.conn (number_of owner) K) m apart ∙ same_let_go K e.conn (number_of owner) m
heard_others H e _ m apart = moved_same (owed (Heard e ∷ H)) (Heard e ∷ H) m

landed_flies : (H : List Event) (n : ℕ) (flights : List Flight) → are_of_unfinished H flights ≡ true → are_of_unfinished H (without_flight n flights) ≡ true
landed_flies H n [] h = refl
landed_flies H n (x ∷ xs) h =
    let a = both (is_unfinished H x.call) (are_of_unfinished H xs) h in by (x.call == n) a.0 (landed_flies H n xs a.1)
  where
    by : (b : Bool) → is_unfinished H x.call ≡ true → are_of_unfinished H (without_flight n xs) ≡ true → are_of_unfinished H (cond (not b) (x ∷ without_flight n xs) (without_flight n xs)) ≡ true
    by true u rest = rest
    by false u rest = together (is_unfinished H x.call) (are_of_unfinished H (without_flight n xs)) u rest

goes_flies : (K : List Event) (before after : List Flight) (n : ℕ) (next : Next) → are_of_unfinished K before ≡ true → GoesOnOrRests K before after n next → are_of_unfinished K after ≡ true
goes_flies K before after n next h goes = by (n == 0) goes
  where
    by : (b : Bool) → cond {A = Type 0} b (Rests before after next) (HasGoneOn K before after n next) → are_of_unfinished K after ≡ true
    by true rests = ap (are_of_unfinished K) rests.same ∙ h
    by false went = gone_flies K n before after next went h

pub heard_flies : (H : List Event) (e : Entry) (K : List Event) (before after : List Flight) (next : Next) → K ≡ after_heard H e → are_of_unfinished H before ≡ true
    → GoesOnOrRests K (without_flight e.call_no before) after e.call_no next → are_of_unfinished K after ≡ true
heard_flies H e K before after next is flying goes =
    let left = without_flight e.call_no before in
    let still : are_of_unfinished (after_heard H e) left ≡ true = others_fly H (after_heard H e) e.call_no left (heard_others H e (place H e.conn)) (landed_apart e.call_no before) (landed_flies H e.call_no before flying) in
    goes_flies K left after e.call_no next (subst (λ (P : List Event). are_of_unfinished P left ≡ true) (sym is) still) goes
