-- A call that rests with its connection has no reply. Among the calls that use the connection of an answer, only the
-- answered call may rest. A call that rests is a ping, and only the ping itself uses its connection.
use Rattle.std.proofs.Common.{◌≡◌, Bool, true, false, ◌||◌, refl, ℕ, inl, inr, not, ◌&&◌, cond, List, [], ◌∷◌, Option, Some, None, is_none, is_some, sym, ap, subst, ◌∙◌}
use Rattle.std.specs.Prelude.{find}
use Rattle.std.specs.List.{list_all}
use Rattle.std.specs.Option.{option_map}
use Rattle.dsql_laws_calls.specs.driver.declared.caps.Caps.{Caps}
use Rattle.dsql_laws_calls.specs.journal.declared.entry.Entry.{Entry}
use Rattle.dsql_laws_calls.specs.journal.declared.entry.Owner.{Owner}
use Rattle.dsql_laws_calls.specs.journal.Kinds.{number_of}
use Rattle.dsql_laws_calls.specs.pool.declared.conn.Conn.{Conn}
use Rattle.dsql_laws_calls.specs.pool.declared.conn.Place.{Place}
use Rattle.dsql_laws_calls.specs.pool.declared.conn.Place.TheVariants.{Lent}
use Rattle.dsql_laws_calls.specs.pool.Places.{conn_of}
use Rattle.dsql_laws_calls.proofs.pool.Rows.{found_passes}
use Rattle.dsql_laws_calls.specs.history.declared.record.Try.{Try}
use Rattle.dsql_laws_calls.specs.history.Readers.Pool.{is_home, smallest, place, pool}
use Rattle.dsql_laws_calls.proofs.laws.Tests.{both, same_itself}
use Rattle.dsql_laws_calls.specs.history.declared.event.Event.{Event}
use Rattle.dsql_laws_calls.specs.history.declared.event.Event.TheVariants.{Heard}
use Rattle.dsql_laws_calls.specs.history.declared.work.Work.{Work}
use Rattle.dsql_laws_calls.specs.history.declared.work.Work.TheVariants.{Ping}
use Rattle.dsql_laws_calls.specs.history.Readers.Calls.{asks_nothing, rests}
use Rattle.dsql_laws_calls.specs.history.Readers.Course.{caps}
use Rattle.dsql_laws_calls.specs.history.Readers.HandedOut.{rows_by}
use Rattle.dsql_laws_calls.specs.history.Readers.Transactions.{is_begun}
use Rattle.dsql_laws_calls.specs.history.Readers.Tries.{tries}
use Rattle.dsql_laws_calls.specs.history.Readers.Unfinished.{is_unfinished}
use Rattle.dsql_laws_calls.specs.history.Readers.Works.{work}
use Rattle.dsql_laws_calls.specs.history.Rules.Replies.{gave_back}
use Rattle.dsql_laws_calls.specs.history.Legal.{Lawful}
use Rattle.dsql_laws_calls.proofs.Begun.{begun_begins}
use Rattle.dsql_laws_calls.proofs.Coming.{sound}
use Rattle.dsql_laws_calls.proofs.Makers.{hands_out, rows_hand_out}
use Rattle.dsql_laws_calls.proofs.Plain.{begins}
use Rattle.dsql_laws_calls.proofs.Sound.{was_under_way}
use Rattle.dsql_laws_calls.proofs.Wanters.{unnumbered}
use Rattle.dsql_laws_calls.proofs.Why.{Why}
use Rattle.dsql_laws_steps.specs.Steps.{RestsAlone}

-- A connection that is in use or that its call rests with is in use, if the call doesn't rest with it.
pub kept_so : (used resting : Bool) → (used || resting) ≡ true → (resting ≡ true → ⊥) → used ≡ true
kept_so true resting h busy = refl
kept_so false resting h busy = absurd (busy h)

-- If a connection stands in a place that passes a test, the search finds such a connection.

none_passes : (q : Conn → Bool) (conns : List Conn) → find q conns ≡ None → list_all (λ x. not (q x)) conns ≡ true
none_passes q [] h = refl
none_passes q (x ∷ xs) h = by (none_passes q xs) (q x) h
  where
    by : (find q xs ≡ None → list_all (λ y. not (q y)) xs ≡ true) → (b : Bool) → cond b (Some x) (find q xs) ≡ None → (not b && list_all (λ y. not (q y)) xs) ≡ true
    by rest true k = absurd cc
    by rest false k = rest k

pub found_there : (H : List Event) (test : Place → Bool) (c : ℕ) (p : Place) → place H c ≡ Some p → test p ≡ true → smallest test (pool H) ≡ None → ⊥
found_there H test c p is passes none = by (conn_of c (pool H).conns) refl is
  where
    by : (o : Option Conn) → conn_of c (pool H).conns ≡ o → option_map (λ (x : Conn). x.place) o ≡ Some p → ⊥
    by None found at = cc
    by (Some x) found at =
        let there : x.place ≡ p = cc in
        let all = none_passes (λ (y : Conn). test y.place) (pool H).conns (unnumbered (find (λ (y : Conn). test y.place) (pool H).conns) none) in
        let fails : not (test x.place) ≡ true = found_passes (λ (y : Conn). not (test y.place)) c x (pool H).conns all found in
        let clash : false ≡ true = sym (ap not (ap test there ∙ passes)) ∙ fails in
        cc

pub resting_unfinished : (H : List Event) (n : ℕ) → rests H n ≡ true → is_unfinished H n ≡ true
resting_unfinished H n h = let b = both (is_unfinished H n) (asks_nothing (caps H) (work H n) (tries H n)) h in b.0

-- A call that replies has given back the connection that it rested with.
pub rests_not : (H : List Event) (c t : ℕ) (owner : Owner) → place H c ≡ Some (Lent t owner) → gave_back H (number_of owner) ≡ true → rests H (number_of owner) ≡ true → ⊥
rests_not H c t owner is gave it =
    found_there H (is_home (number_of owner)) c (Lent t owner) is (same_itself (number_of owner))
    (by (smallest (is_home (number_of owner)) (pool H)) (sym (ap (λ (b : Bool). is_none (cond b (smallest (is_home (number_of owner)) (pool H)) None)) it) ∙ gave))
  where
    by : (o : Option ℕ) → is_none o ≡ true → o ≡ None
    by None h = refl
    by (Some x) h = absurd cc

-- A call that rests is a ping, so it made no rows and began no transaction.

pings : (can : Caps) (it : Work) (tried : List Try) → asks_nothing can it tried ≡ true → it ≡ Ping
pings can Ping tried h = refl
pings can it tried h = absurd cc

rests_as_ping : (H : List Event) (n : ℕ) → rests H n ≡ true → work H n ≡ Ping
rests_as_ping H n h = let b = both (is_unfinished H n) (asks_nothing (caps H) (work H n) (tries H n)) h in pings (caps H) (work H n) (tries H n) b.1

pub rests_no_maker : (H : List Event) (n : ℕ) → rests H n ≡ true → is_some (rows_by H n) ≡ true → ⊥
rests_no_maker H n it made = let clash : false ≡ true = sym (ap hands_out (rests_as_ping H n it)) ∙ rows_hand_out H n made in cc

pub rests_no_begin : (H : List Event) (n : ℕ) → Lawful H → rests H n ≡ true → is_begun H n ≡ true → ⊥
rests_no_begin H n l it begun = let clash : false ≡ true = sym (ap begins (rests_as_ping H n it)) ∙ begun_begins H n l begun in cc

-- An answer on the connection of a ping is to that ping.
its_own : (H : List Event) (c t : ℕ) (owner : Owner) (m : ℕ) → Lawful H → work H (number_of owner) ≡ Ping → Why H c t owner m → number_of owner ≡ m
its_own H c t owner m l ping (inl own) = own.itself
its_own H c t owner m l ping (inr (inl rows)) = let clash : false ≡ true = sym (ap hands_out ping) ∙ rows_hand_out H (number_of owner) rows.some in absurd cc
its_own H c t owner m l ping (inr (inr tx)) = let clash : false ≡ true = sym (ap begins ping) ∙ begun_begins H (number_of owner) l tx.begun in absurd cc

-- A call that rests with the connection of an answer is the answered call.
pub rests_alone : (H : List Event) (e : Entry) → Lawful (Heard e ∷ H) → RestsAlone H e
rests_alone H e l t owner is it =
    let w = was_under_way H e t owner l.1 (sound H l.0) is in
    let u = w.way in
    its_own H e.conn e.tenure owner e.call_no l.0 (rests_as_ping (Heard e ∷ H) (number_of owner) it) (subst (λ own. Why H e.conn e.tenure own e.call_no) w.owner u.why)
