-- Once the database is closed, no call waits, no connection is opened for a call, and the pool lends none.
use Rattle.std.proofs.Common.{◌≡◌, ℕ, ◌==◌, inl, inr, Bool, true, false, not, ◌||◌, cond, List, [], ◌∷◌, ◌++◌, map, Option, Some, None, refl, sym, ap, subst, ◌∙◌}
use Rattle.std.specs.Prelude.{Result, Ok, find}
use Rattle.std.specs.List.{list_all}
use Rattle.std.specs.Option.{option_map}
use Rattle.std.proofs.lemmas.List.Folds.{list_all-append, list_all-map}
use Rattle.dsql_laws.specs.journal.declared.entry.Owner.{Owner}
use Rattle.dsql_laws.specs.wait.declared.request.Request.{Request}
use Rattle.dsql_laws.specs.wait.Requests.{waits, without_call}
use Rattle.dsql_laws.specs.pool.declared.conn.Conn.{Conn}
use Rattle.dsql_laws.specs.pool.declared.conn.Place.{Place}
use Rattle.dsql_laws.specs.pool.declared.conn.Place.TheVariants.{Idle, Lent, Opening, Closing}
use Rattle.dsql_laws.specs.pool.declared.moves.Move.{Move}
use Rattle.dsql_laws.specs.pool.declared.moves.Move.TheVariants.{OpenStart, Lend, Back, CloseStart, Gone, Fell}
use Rattle.dsql_laws.specs.pool.declared.request.Asked.{Asked}
use Rattle.dsql_laws.specs.pool.declared.request.Asked.TheVariants as asked
use Rattle.dsql_laws.specs.pool.declared.request.AskFault.{AskFault}
use Rattle.dsql_laws.specs.pool.Calls.{moves_asked}
use Rattle.dsql_laws.specs.pool.Changes.{opening, lent, back, closing, conn_changed, unwanted}
use Rattle.dsql_laws.specs.pool.Decisions as pools
use Rattle.dsql_laws.specs.pool.Places.{conn_of, is_for, is_idle, is_opening}
use Rattle.dsql_laws.specs.pool.Pooled.{Pooled, next_number}
use Rattle.dsql_laws.proofs.pool.Frees.{passing}
use Rattle.dsql_laws.proofs.pool.Rows.{all_filter}
use Rattle.dsql_laws.specs.history.declared.event.Control.{Control}
use Rattle.dsql_laws.specs.history.declared.event.Setting.TheVariants.{MaxOpen}
use Rattle.dsql_laws.specs.history.declared.event.Control.TheVariants.{Tick, Set}
use Rattle.dsql_laws.specs.history.Same.{is_first}
use Rattle.dsql_laws.specs.history.Readers.Pool.{with_control, is_home, smallest, pool, request, wanted_by}
use Rattle.dsql_laws.proofs.Tests.{both, together, move_is}
use Rattle.dsql_laws.proofs.Deserved.{is_home_of, Deserves, AllDeserved, deserved}
use Rattle.dsql_laws.proofs.ByCall.{by_call}
use Rattle.dsql_laws.specs.history.declared.event.Event.{Event}
use Rattle.dsql_laws.specs.history.declared.event.Event.TheVariants.{Entered, Pool, Waits, Ticked, SetLimit, Ended}
use Rattle.dsql_laws.specs.history.declared.event.Op.TheVariants.{DbClose}
use Rattle.dsql_laws.specs.history.Readers.Course.{has_ended}
use Rattle.dsql_laws.specs.history.Readers.Owed.{owed}
use Rattle.dsql_laws.specs.history.Rules.Asking.{ask_outcome, is_queued}
use Rattle.dsql_laws.specs.history.Rules.Order.{follows}
use Rattle.dsql_laws.specs.history.Legal.{Allowed, Lawful}
use Rattle.dsql_laws.proofs.OwedMoves.{owed_own}
use Rattle.dsql_laws.proofs.AtRest.{Keeps, keeps_of, asks_now, asked_so, queued_so}
use Rattle.dsql_laws.proofs.Holdings.{opening_asked}
use Rattle.dsql_laws_calls.proofs.Untried.{moves_of}

-- Is true if the connection in this place isn't being opened for a call.
abbrev pub is_free : Place → Bool
is_free (Opening (Some owner)) = false
is_free _ = true

abbrev are_free : List Conn → Bool
are_free conns = list_all (λ conn. is_free conn.place) conns

all_so : {X : Type 0} (q : X → Bool) (xs : List X) → ((x : X) → q x ≡ true) → list_all q xs ≡ true
all_so q [] so = refl
all_so q (x ∷ xs) so = together (q x) (list_all q xs) (so x) (all_so q xs so)

unwanted_free : (x : Conn) → is_free (unwanted x).place ≡ true
unwanted_free x = at x.place refl
  where
    at : (place : Place) → x.place ≡ place → is_free (unwanted x).place ≡ true
    at Idle is = rw is refl
    at _ is = rw is refl

shut_free : (conns : List Conn) → are_free (map unwanted conns) ≡ true
shut_free conns = list_all-map (λ (x : Conn). is_free x.place) unwanted conns ∙ all_so (λ y. is_free (unwanted y).place) conns unwanted_free

changed_free : (c : ℕ) (f : Conn → Conn) (conns : List Conn) → ((x : Conn) → is_free (f x).place ≡ true) → are_free conns ≡ true → are_free (conn_changed c f conns) ≡ true
changed_free c f [] so h = refl
changed_free c f (x ∷ xs) so h =
    let a = both (is_free x.place) (are_free xs) h in
    elim (x.number == c) as (λ b. are_free (cond b (f x ∷ xs) (x ∷ conn_changed c f xs)) ≡ true) [
      | true ↦ together (is_free (f x).place) (are_free xs) (so x) a.1
      | false ↦ together (is_free x.place) (are_free (conn_changed c f xs)) a.0 (changed_free c f xs so a.1)
    ]

more_free : (conns : List Conn) (x : Conn) → are_free conns ≡ true → is_free x.place ≡ true → are_free (conns ++ x ∷ []) ≡ true
more_free conns x h k = list_all-append (λ (y : Conn). is_free y.place) conns (x ∷ []) ∙ together (are_free conns) (are_free (x ∷ [])) h (together (is_free x.place) true k refl)

found_free : (c : ℕ) (conns : List Conn) (x : Conn) → are_free conns ≡ true → conn_of c conns ≡ Some x → is_free x.place ≡ true
found_free c [] x h is = absurd cc
found_free c (y ∷ ys) x h is =
    let a = both (is_free y.place) (are_free ys) h in
    by (found_free c ys x a.1) (y.number == c) is a.0
  where
    by : (conn_of c ys ≡ Some x → is_free x.place ≡ true) → (b : Bool) → cond b (Some y) (conn_of c ys) ≡ Some x → is_free y.place ≡ true → is_free x.place ≡ true
    by rest true k here = let same : y ≡ x = cc in subst (λ z. is_free z.place ≡ true) same here
    by rest false k here = rest k

-- A closed database answers each request that it is closed.
closed_outcome : (r : Request) (p : Pooled) → p.closed ≡ true → pools.ask_outcome r p ≡ Ok asked.Closed
closed_outcome r p h = rw h refl

none_asked : (r : Request) (a : Result Asked AskFault) (m : Move) → a ≡ Ok asked.Closed → is_first (moves_asked r a) m ≡ true → ⊥
none_asked r a m is h = let none : is_first (moves_asked r (Ok asked.Closed)) m ≡ true = subst (λ x. is_first (moves_asked r x) m ≡ true) is h in absurd cc

none_queued : (a : Result Asked AskFault) → a ≡ Ok asked.Closed → is_queued a ≡ true → ⊥
none_queued a is h = let none : is_queued (Ok asked.Closed) ≡ true = subst (λ x. is_queued x ≡ true) is h in absurd cc

-- Holds if no call waits and no connection is being opened for a call.
pub record Shut (p : Pooled) : Type 0 where
  pub waiting : p.waiting ≡ []
  pub free : list_all (λ conn. is_free conn.place) p.conns ≡ true

shut_control : (control : Control) (p : Pooled) → (with_control control p).closed ≡ true → (p.closed ≡ true → Shut p) → Shut (with_control control p)
shut_control (Set MaxOpen k) p h so = let x = so h in record { waiting = x.waiting; free = x.free }
shut_control _ p h so = let x = so h in record { waiting = x.waiting; free = x.free }

opens_free : (H : List Event) (c k : ℕ) → Allowed H (Pool (OpenStart c k)) → (pool H).closed ≡ true → is_free (Opening (wanted_by H k)) ≡ true
opens_free H c k a closed =
    by_call k 0 (is_free (Opening (wanted_by H k)) ≡ true)
    (λ is. ap (λ j. is_free (Opening (wanted_by H j))) is)
    (λ not.
    let asked = opening_asked H c k (owed H) (keeps_of H (Pool (OpenStart c k)) a) refl (owed_own H) (λ none. numbered k not none) in
    let b = asked_so H k (OpenStart c k) asked in
    absurd (none_asked (request H k) (ask_outcome H k) (OpenStart c k) (closed_outcome (request H k) (pool H) closed) b.1))
  where
    numbered : (j : ℕ) → (j == 0) ≡ false → j ≡ 0 → ⊥
    numbered j other none = let clash : false ≡ true = sym other ∙ ap (λ i. i == 0) none in absurd cc

pub closed_shut : (H : List Event) → Lawful H → (pool H).closed ≡ true → Shut (pool H)
closed_shut [] l h = absurd cc
closed_shut (Entered client m DbClose ∷ H) l h = record { waiting = refl; free = shut_free (pool H).conns }
closed_shut (Pool (OpenStart c k) ∷ H) l h =
    let x = closed_shut H l.0 h in
    record { waiting = x.waiting; free = more_free (pool H).conns (opening (next_number (pool H)) (wanted_by H k)) x.free (opens_free H c k l.1 h) }
closed_shut (Pool (Lend c t o k) ∷ H) l h =
    let x = closed_shut H l.0 h in
    record { waiting = ap (without_call k) x.waiting; free = changed_free c (lent t o (pool H).moment) (pool H).conns (λ y. refl) x.free }
closed_shut (Pool (Back c) ∷ H) l h =
    let x = closed_shut H l.0 h in
    record { waiting = x.waiting; free = changed_free c (back (pool H).moment) (pool H).conns (λ y. refl) x.free }
closed_shut (Pool (CloseStart c why) ∷ H) l h =
    let x = closed_shut H l.0 h in
    record { waiting = x.waiting; free = changed_free c closing (pool H).conns (λ y. refl) x.free }
closed_shut (Pool (Gone c) ∷ H) l h =
    let x = closed_shut H l.0 h in
    record { waiting = x.waiting; free = all_filter (λ conn. is_free conn.place) (λ conn. not (conn.number == c)) (pool H).conns x.free }
closed_shut (Pool (Fell c k) ∷ H) l h =
    let x = closed_shut H l.0 h in
    record { waiting = ap (without_call k) x.waiting; free = all_filter (λ conn. is_free conn.place) (λ conn. not (conn.number == c)) (pool H).conns x.free }
closed_shut (Waits k ∷ H) l h =
    let keeps = keeps_of H (Waits k) l.1 in
    let a = queued_so H k keeps.asking in
    absurd (none_queued (ask_outcome H k) (closed_outcome (request H k) (pool H) h) a.1)
closed_shut (Ticked now ∷ H) l h = shut_control (Tick now) (pool H) h (λ closed. closed_shut H l.0 closed)
closed_shut (SetLimit s k ∷ H) l h = shut_control (Set s k) (pool H) h (λ closed. closed_shut H l.0 closed)
closed_shut (Ended ∷ H) l h = record { waiting = refl; free = shut_free (pool H).conns }
closed_shut (_ ∷ H) l h = closed_shut H l.0 h

-- A closed database stays closed.

control_closed : (control : Control) (p : Pooled) → p.closed ≡ true → (with_control control p).closed ≡ true
control_closed (Set MaxOpen k) p h = h
control_closed _ p h = h

pub stays_closed : (H : List Event) (e : Event) → (pool H).closed ≡ true → (pool (e ∷ H)).closed ≡ true
stays_closed H (Entered client m DbClose) h = refl
stays_closed H (Pool (OpenStart c k)) h = h
stays_closed H (Ticked now) h = control_closed (Tick now) (pool H) h
stays_closed H (SetLimit s k) h = control_closed (Set s k) (pool H) h
stays_closed H Ended h = refl
stays_closed H _ h = h

pub ended_closed : (H : List Event) → has_ended H ≡ true → (pool H).closed ≡ true
ended_closed [] h = absurd cc
ended_closed (Ended ∷ H) h = refl
ended_closed (e1 ∷ H) h = stays_closed H e1 (ended_closed H h)

-- A closed database lends no connection.

undeserved : (c n : ℕ) (conns : List Conn) (found : Option Conn) → conn_of c conns ≡ found → list_all (λ conn. is_free conn.place) conns ≡ true
    → (is_idle (option_map (λ x. x.place) found) || is_opening (option_map (λ x. x.place) found)) ≡ true → passing (is_home_of n) found ≡ 1 → ⊥
undeserved c n conns None is free from one = absurd cc
undeserved c n conns (Some x) is free from one = at x.place refl
  where
    at : (place : Place) → x.place ≡ place → ⊥
    at Idle there = let none : passing (is_home_of n) (Some x) ≡ 0 = ap (λ (pl : Place). cond {A = ℕ} (is_home n pl) 1 0) there in let clash : 1 ≡ 0 = sym one ∙ none in absurd cc
    at (Opening None) there = let none : passing (is_home_of n) (Some x) ≡ 0 = ap (λ (pl : Place). cond {A = ℕ} (is_home n pl) 1 0) there in let clash : 1 ≡ 0 = sym one ∙ none in absurd cc
    at (Opening (Some owner)) there = let clash : true ≡ false = sym (found_free c conns x free is) ∙ ap is_free there in absurd cc
    at (Lent t o) there = let clash : true ≡ false = sym from ∙ ap (λ (pl : Place). is_idle (Some pl) || is_opening (Some pl)) there in absurd cc
    at Closing there = let clash : true ≡ false = sym from ∙ ap (λ (pl : Place). is_idle (Some pl) || is_opening (Some pl)) there in absurd cc

pub lends_none : (H : List Event) (c t : ℕ) (o : Owner) (n : ℕ) → Lawful H → Allowed H (Pool (Lend c t o n)) → (pool H).closed ≡ true → ⊥
lends_none H c t o n l a closed = by (owed H) refl (deserved H l)
  where
    keeps : Keeps H (Pool (Lend c t o n))
    keeps = keeps_of H (Pool (Lend c t o n)) a

    from : Deserves c n (pool H) → ⊥
    from (inl waited) =
        let x = closed_shut H l closed in
        let none : waits n [] ≡ true = subst (λ rs. waits n rs ≡ true) x.waiting waited in
        absurd cc
    from (inr opened) = let x = closed_shut H l closed in undeserved c n (pool H).conns (conn_of c (pool H).conns) refl x.free (moves_of H c t o n a) opened

    by : (ms : List Move) → owed H ≡ ms → AllDeserved ms (pool H) → ⊥
    by [] is all =
        let lending = asks_now H n (Lend c t o n) is keeps.asking in
        let b = asked_so H n (Lend c t o n) lending in
        none_asked (request H n) (ask_outcome H n) (Lend c t o n) (closed_outcome (request H n) (pool H) closed) b.1
    by (due ∷ later) is all =
        let made_it : follows (due ∷ later) (Pool (Lend c t o n)) ≡ true = subst (λ ns. follows ns (Pool (Lend c t o n)) ≡ true) is keeps.order in
        let same : due ≡ Lend c t o n = move_is due (Lend c t o n) made_it in
        let due_so : AllDeserved (Lend c t o n ∷ later) (pool H) = subst (λ m. AllDeserved (m ∷ later) (pool H)) same all in
        from due_so.0

-- So no connection is being opened for a call.

free_is_for_none : (n : ℕ) (place : Place) → is_free place ≡ true → is_for n place ≡ false
free_is_for_none n (Opening (Some owner)) h = absurd cc
free_is_for_none n (Opening None) h = refl
free_is_for_none n _ h = refl

none_for : (n : ℕ) (conns : List Conn) → are_free conns ≡ true → find (λ conn. is_for n conn.place) conns ≡ None
none_for n [] h = refl
none_for n (x ∷ xs) h =
    let a = both (is_free x.place) (are_free xs) h in
    ap (λ b. cond b (Some x) (find (λ conn. is_for n conn.place) xs)) (free_is_for_none n x.place a.0) ∙ none_for n xs a.1

pub opens_for_none : (H : List Event) (n : ℕ) → Lawful H → (pool H).closed ≡ true → smallest (is_for n) (pool H) ≡ None
opens_for_none H n l h = let x = closed_shut H l h in ap (option_map (λ conn. conn.number)) (none_for n (pool H).conns x.free)

pub lends_while_open : (H : List Event) (c t n : ℕ) (o : Owner) → Lawful H → Allowed H (Pool (Lend c t o n)) → (pool H).closed ≡ false
lends_while_open H c t n o l a = by (pool H).closed refl
  where
    by : (b : Bool) → (pool H).closed ≡ b → (pool H).closed ≡ false
    by true is = absurd (lends_none H c t o n l a is)
    by false is = is
