-- If no call may move and there is no chore, each unfinished call waits. Every other place of a call would let it move
-- or make a chore due.
use Rattle.std.proofs.Common.{◌≡◌, ℕ, ◌==◌, Bool, true, false, not, ◌&&◌, ◌||◌, cond, List, [], ◌∷◌, Option, Some, None, is_some, is_none, refl, sym, ap, subst, ◌∙◌}
use Rattle.std.specs.Prelude.{find}
use Rattle.std.specs.List.{list_all}
use Rattle.std.specs.Option.{option_map}
use Rattle.dsql_laws_calls.specs.course.Made.{or_else}
use Rattle.dsql_laws_calls.specs.wait.Requests.{waits}
use Rattle.dsql_laws_calls.specs.pool.declared.conn.Conn.{Conn}
use Rattle.dsql_laws_calls.specs.pool.declared.conn.Place.{Place}
use Rattle.dsql_laws_calls.specs.pool.declared.conn.Place.TheVariants.{Opening}
use Rattle.dsql_laws_calls.specs.pool.Places.{is_for, is_opening}
use Rattle.dsql_laws_calls.specs.history.declared.event.Event.{Event}
use Rattle.dsql_laws_calls.specs.history.declared.record.Flight.{Flight}
use Rattle.dsql_laws_calls.specs.history.declared.record.Stand.TheVariants as stands_at
use Rattle.dsql_laws_calls.specs.history.Readers.Calls.{site}
use Rattle.dsql_laws_calls.specs.history.Readers.Pool.{pool, smallest}
use Rattle.dsql_laws_calls.specs.history.Readers.Tries.{tries, asks_again}
use Rattle.dsql_laws_calls.specs.history.Readers.Unfinished.{is_unfinished, unfinished}
use Rattle.dsql_laws_calls.specs.history.Rules.Flights.{is_blocked, is_in_flight}
use Rattle.dsql_laws_calls.specs.history.Rules.House.{chore_due, connect_due, has_no_chore, is_quiet, shut_due, tidy_due}
use Rattle.dsql_laws_calls.specs.history.Rules.Line.{due_for}
use Rattle.dsql_laws_calls.specs.history.Rules.Settled.{Settled}
use Rattle.dsql_laws_calls.specs.history.Rules.Stands.{has_to_reply, stand, is_waiting, opens, stands}
use Rattle.dsql_laws_calls.specs.history.Legal.{Lawful}
use Rattle.dsql_laws_calls.proofs.laws.Numbered.{unfinished_from_one}
use Rattle.dsql_laws_calls.proofs.laws.Tests.{both, other_number, same_itself, second, together}
use Rattle.dsql_laws_calls.proofs.Wanters.{unnumbered}
use Rattle.dsql_laws_others.proofs.Settling.{all_within}
use Rattle.dsql_laws_ends.specs.Over.{HasRunOut, may_move}

-- Holds if there is no chore of any kind.
pub record NoChore (H : List Event) : Type 0 where
  pub tidy : tidy_due H ≡ None
  pub shut : shut_due H ≡ None
  pub connect : connect_due H ≡ None

pub no_chore : (H : List Event) → chore_due H ≡ None → NoChore H
no_chore H none = by (tidy_due H) (shut_due H) (connect_due H) refl refl refl none
  where
    by : (a b c : Option ℕ) → tidy_due H ≡ a → shut_due H ≡ b → connect_due H ≡ c → or_else a (or_else b c) ≡ None → NoChore H
    by None None None t s o k = record { tidy = t; shut = s; connect = o }
    by None None (Some x) t s o k = absurd cc
    by None (Some x) c t s o k = absurd cc
    by (Some x) b c t s o k = absurd cc

-- A call whose driver call is in flight may move, so no driver call is in flight.

none_flies : (H : List Event) (flights : List Flight) → HasRunOut H flights → flights ≡ []
none_flies H [] out = refl
none_flies H (flight ∷ flights) out =
    let known = both (is_unfinished H flight.call) (list_all (λ other. is_unfinished H other.call) flights) out.known in
    let flies : is_in_flight flight.call (flight ∷ flights) ≡ true = ap (λ b. b || is_in_flight flight.call flights) (same_itself flight.call) in
    let moves : may_move H (flight ∷ flights) flight.call ≡ true =
    together (is_unfinished H flight.call) (is_in_flight flight.call (flight ∷ flights) || not (is_blocked (flight ∷ flights) flight.call (stand H flight.call))) known.0
    (ap (λ b. b || not (is_blocked (flight ∷ flights) flight.call (stand H flight.call))) flies)
    in
    let clash : true ≡ false = sym moves ∙ out.still flight.call in
    absurd cc

blocked_alone : (H : List Event) (flights : List Flight) (n : ℕ) → HasRunOut H flights → is_unfinished H n ≡ true → is_blocked [] n (stand H n) ≡ true
blocked_alone H flights n out u =
    let none : may_move H [] n ≡ false = subst (λ fs. may_move H fs n ≡ false) (none_flies H flights out) (out.still n) in
    by (is_unfinished H n) (is_blocked [] n (stand H n)) u none
  where
    by : (a b : Bool) → a ≡ true → (a && (false || not b)) ≡ false → b ≡ true
    by true true h k = refl
    by true false h k = absurd cc
    by false b h k = absurd cc

-- If a connection is being opened for a call, there is the chore of opening it.

found_wider : (q r : Conn → Bool) (conns : List Conn) → ((x : Conn) → q x ≡ true → r x ≡ true) → find r conns ≡ None → find q conns ≡ None
found_wider q r [] so none = refl
found_wider q r (x ∷ xs) so none = by (found_wider q r xs so) (q x) (r x) refl refl none
  where
    by : (find r xs ≡ None → find q xs ≡ None) → (a b : Bool) → q x ≡ a → r x ≡ b → cond b (Some x) (find r xs) ≡ None → cond a (Some x) (find q xs) ≡ None
    by rest true true p s k = absurd cc
    by rest true false p s k = let clash : true ≡ false = sym (so x p) ∙ s in absurd cc
    by rest false true p s k = absurd cc
    by rest false false p s k = rest k

opened_opens : (n : ℕ) (x : Conn) → is_for n x.place ≡ true → is_opening (Some x.place) ≡ true
opened_opens n x = by x.place
  where
    by : (at : Place) → is_for n at ≡ true → is_opening (Some at) ≡ true
    by (Opening wanted) h = refl
    by _ h = absurd cc

opens_none : (H : List Event) (n : ℕ) → connect_due H ≡ None → smallest (is_for n) (pool H) ≡ None
opens_none H n none =
    let opening : Conn → Bool = λ (x : Conn). is_opening (Some x.place) in
    ap (option_map (λ (x : Conn). x.number)) (found_wider (λ (x : Conn). is_for n x.place) opening (pool H).conns (opened_opens n) (unnumbered (find opening (pool H).conns) none))

-- A call that stands somewhere, isn't blocked by another call and isn't waiting for a connection to be opened
-- waits for a connection.
blocked_waits : (n : ℕ) (w d r a : Bool) (o : Option ℕ) (c : ℕ) → o ≡ None
    → is_some (or_else (stands w stands_at.Waits) (or_else (opens o) (or_else (stands d (stands_at.Sends c)) (or_else (stands r stands_at.Replies) (stands a stands_at.Asks))))) ≡ true
    → is_blocked [] n (or_else (stands w stands_at.Waits) (or_else (opens o) (or_else (stands d (stands_at.Sends c)) (or_else (stands r stands_at.Replies) (stands a stands_at.Asks))))) ≡ true
    → is_waiting (or_else (stands w stands_at.Waits) (or_else (opens o) (or_else (stands d (stands_at.Sends c)) (or_else (stands r stands_at.Replies) (stands a stands_at.Asks))))) ≡ true
blocked_waits n true d r a o c none some h = refl
blocked_waits n false d r a (Some k) c none some h = absurd cc
blocked_waits n false true r a None c none some h = absurd cc
blocked_waits n false false true a None c none some h = absurd cc
blocked_waits n false false false true None c none some h = absurd cc
blocked_waits n false false false false None c none some h = absurd cc

pub quiet_where_run_out : (H : List Event) (flights : List Flight) → Lawful H → Settled H → HasRunOut H flights → is_quiet H ≡ true
quiet_where_run_out H flights l settled out =
    together (list_all (λ n. is_waiting (stand H n)) (unfinished H)) (has_no_chore H)
    (all_within (λ n. (n == 0) || is_some (stand H n)) (λ n. is_waiting (stand H n)) (unfinished H) each settled.somewhere) (ap (λ o. is_none o) out.idle)
  where
    each : (n : ℕ) → is_unfinished H n ≡ true → ((n == 0) || is_some (stand H n)) ≡ true → is_waiting (stand H n) ≡ true
    each n u so =
        let chores = no_chore H out.idle in
        blocked_waits n (waits n (pool H).waiting) (is_some (due_for H n)) (has_to_reply H n) (asks_again (tries H n)) (smallest (is_for n) (pool H)) (site H n) (opens_none H n chores.connect)
        (second (n == 0) (is_some (stand H n)) (other_number n 0 (unfinished_from_one H n l u)) so) (blocked_alone H flights n out u)
