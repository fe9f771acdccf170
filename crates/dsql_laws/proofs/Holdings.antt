-- Proves that a call has at most one thing in the pool: a request that waits, an opening, or a connection.
use Rattle.std.proofs.Common.{◌≡◌, ◌≢◌, ℕ, ◌+◌, ◌≤◌, ◌==◌, Bool, true, false, not, cond, List, [], ◌∷◌, Option, Some, None, refl, sym, ap, subst, ◌∙◌, ◌⊎◌, inl, inr, arith}
use Rattle.std.specs.Prelude.{find}
use Rattle.std.specs.List.{list_any}
use Rattle.dsql_history.specs.journal.declared.entry.Owner.{Owner}
use Rattle.dsql_history.specs.wait.Requests.{waits}
use Rattle.dsql_history.specs.pool.declared.conn.Conn.{Conn}
use Rattle.dsql_history.specs.pool.declared.conn.Place.{Place}
use Rattle.dsql_history.specs.pool.declared.conn.Place.TheVariants.{Idle, Opening}
use Rattle.dsql_history.specs.pool.declared.moves.Move.{Move}
use Rattle.dsql_history.specs.pool.declared.moves.Move.TheVariants.{OpenStart, Lend, Back, CloseStart, Gone, Fell}
use Rattle.dsql_history.specs.pool.Changes.{opening, lent, back, closing, unwanted}
use Rattle.dsql_history.specs.pool.Places.{is_for}
use Rattle.dsql_history.specs.journal.Kinds.{number_of}
use Rattle.dsql_history.specs.pool.Pooled.{Pooled, next_number}
use Rattle.dsql_history.specs.pool.Moved.{moved, begun, joined, shut}
use Rattle.dsql_history.proofs.pool.Frees.{count-more}
use Rattle.dsql_history.specs.declared.event.Control.{Control}
use Rattle.dsql_history.specs.declared.event.Setting.TheVariants.{MaxOpen}
use Rattle.dsql_history.specs.declared.event.Control.TheVariants.{Tick, Set}
use Rattle.dsql_history.specs.Readers.Pool.{with_control, is_home, pool, request, wanted_by}
use Rattle.dsql_history.specs.declared.event.Event.{Event}
use Rattle.dsql_history.specs.declared.event.Event.TheVariants.{Entered, Pool, Waits, Ticked, SetLimit, Ended}
use Rattle.dsql_history.specs.declared.event.Op.TheVariants.{DbClose}
use Rattle.dsql_history.specs.Readers.Owed.{owed}
use Rattle.dsql_history.specs.Readers.Works.{owner_of}
use Rattle.dsql_history.specs.Rules.Order.{follows}
use Rattle.dsql_history.specs.Rules.Asking.{may_ask, is_asked_for}
use Rattle.dsql_history.specs.Legal.{Lawful}
use Rattle.dsql_laws.specs.Holdings.{waits_of, homes_of, holdings}
use Rattle.dsql_laws.proofs.ByCall.{by_call}
use Rattle.dsql_laws.proofs.Places.{neither}
use Rattle.dsql_laws.proofs.Tests.{both, same_number, move_is}
use Rattle.dsql_laws.proofs.OwedMoves.{is_own, are_own, owed_own}
use Rattle.dsql_laws.proofs.Counts.{request-more, left_none, left_fewer, uncounted, unmapped, waits_none, waits_some, changed_fewer, changed_one_more, changed_same, gone_fewer, mapped_fewer}
use Rattle.dsql_laws.proofs.Deserved.{is_home_of, Deserves, AllDeserved, deserved}
use Rattle.dsql_laws.proofs.Owners.{owner_number}
use Rattle.dsql_laws.proofs.Asker.{asker}
use Rattle.dsql_laws.proofs.AtRest.{Keeps, keeps_of, asks_now, asked_so, queued_so}
use Rattle.dsql_laws.proofs.Tried.{lends_to}

-- A call that may ask has nothing in the pool.
pub nothing_held : (H : List Event) (n : ℕ) → Lawful H → may_ask H n ≡ true → holdings n (pool H) ≡ 0
nothing_held H n l may =
    let p = pool H in
    let asks = asker H n may in
    let unwanting = neither (waits n p.waiting) (list_any (λ conn. is_for n conn.place) p.conns) asks.unwanting in
    let waiting : waits_of n p ≡ 0 = waits_none n p.waiting unwanting.0 in
    let homeless : homes_of n p ≡ 0 = uncounted (is_home_of n) p.conns (unmapped (λ conn. conn.number) (find (is_home_of n) p.conns) asks.homeless) in
    omega (arith, waiting, homeless)

-- An opening for a call follows because the call asks.
pub opening_asked : (H : List Event) (c n : ℕ) (ms : List Move) → Keeps H (Pool (OpenStart c n)) → owed H ≡ ms → are_own ms ≡ true → n ≢ 0 → is_asked_for H n (OpenStart c n) ≡ true
opening_asked H c n [] k is own some = asks_now H n (OpenStart c n) is k.asking
opening_asked H c n (due ∷ later) k is own some =
    let made_it : follows (due ∷ later) (Pool (OpenStart c n)) ≡ true = subst (λ ns. follows ns (Pool (OpenStart c n)) ≡ true) is k.order in
    let same : due ≡ OpenStart c n = move_is due (OpenStart c n) made_it in
    let a = both (is_own due) (are_own later) own in
    let none : (n == 0) ≡ true = subst (λ m. is_own m ≡ true) same a.0 in
    absurd (some (same_number n 0 none))

-- A lending is deserved, or follows because the call asks.
pub lending_from : (H : List Event) (c t : ℕ) (o : Owner) (n : ℕ) (ms : List Move) → Keeps H (Pool (Lend c t o n)) → owed H ≡ ms → AllDeserved ms (pool H) → (may_ask H n ≡ true) ⊎ Deserves c n (pool H)
lending_from H c t o n [] k is h =
    let asked = asks_now H n (Lend c t o n) is k.asking in
    let a = asked_so H n (Lend c t o n) asked in
    inl a.0
lending_from H c t o n (due ∷ later) k is h =
    let made_it : follows (due ∷ later) (Pool (Lend c t o n)) ≡ true = subst (λ ns. follows ns (Pool (Lend c t o n)) ≡ true) is k.order in
    let same : due ≡ Lend c t o n = move_is due (Lend c t o n) made_it in
    let all : AllDeserved (Lend c t o n ∷ later) (pool H) = subst (λ m. AllDeserved (m ∷ later) (pool H)) same h in
    inr all.0

unlent_home : (n : ℕ) (x : Conn) → cond {A = ℕ} (is_home_of n (unwanted x)) 1 0 ≤ cond {A = ℕ} (is_home_of n x) 1 0
unlent_home n x = at x.place refl
  where
    at : (place : Place) → x.place ≡ place → cond {A = ℕ} (is_home_of n (unwanted x)) 1 0 ≤ cond {A = ℕ} (is_home_of n x) 1 0
    at Idle is = rw is (omega arith)
    at _ is = rw is (omega arith)

shut_holds : (n : ℕ) (p : Pooled) → holdings n (shut p) ≤ holdings n p
shut_holds n p = let few = mapped_fewer (is_home_of n) unwanted p.conns (unlent_home n) in omega (arith, few)

begun_holds : (n : ℕ) (w : Option Owner) (p : Pooled) → holdings n (begun w p) ≡ holdings n p + cond {A = ℕ} (is_home n (Opening w)) 1 0
begun_holds n w p = let more = count-more (is_home_of n) (opening (next_number p) w) p.conns in omega (arith, more)

wanted_home : (H : List Event) (k n : ℕ) → n ≢ 0 → cond {A = ℕ} (is_home n (Opening (wanted_by H k))) 1 0 ≤ cond {A = ℕ} (k == n) 1 0
wanted_home H k n some =
    let number = owner_number H k in
    elim (k == 0) as (λ b. cond {A = ℕ} (is_home n (Opening (cond b None (Some (owner_of H k))))) 1 0 ≤ cond {A = ℕ} (k == n) 1 0) [ true ↦ omega arith | false ↦ rw number (omega arith) ]

same_control : (control : Control) (n : ℕ) (p : Pooled) → holdings n (with_control control p) ≡ holdings n p
same_control (Set MaxOpen k) n p = refl
same_control _ n p = refl

opens_one : (H : List Event) (c k n : ℕ) → Lawful H → Keeps H (Pool (OpenStart c k)) → n ≢ 0 → holdings n (pool H) ≤ 1 → holdings n (begun (wanted_by H k) (pool H)) ≤ 1
opens_one H c k n l keeps some had =
    let more = begun_holds n (wanted_by H k) (pool H) in
    let home = wanted_home H k n some in
    by_call k n (holdings n (begun (wanted_by H k) (pool H)) ≤ 1)
    (λ is.
    let asked = opening_asked H c k (owed H) keeps refl (owed_own H) (λ none. some (sym is ∙ none)) in
    let a = asked_so H k (OpenStart c k) asked in
    let none : holdings n (pool H) ≡ 0 = subst (λ m. holdings m (pool H) ≡ 0) is (nothing_held H k l a.0) in
    let most : cond {A = ℕ} (k == n) 1 0 ≤ 1 = one_most (k == n) in
    omega (arith, more, home, none, most))
    (λ not.
    let none : cond {A = ℕ} (k == n) 1 0 ≡ 0 = ap (λ (b : Bool). cond {A = ℕ} b 1 0) not in
    omega (arith, more, home, none, had))
  where
    one_most : (b : Bool) → cond {A = ℕ} b 1 0 ≤ 1
    one_most true = omega arith
    one_most false = omega arith

lends_other : (H : List Event) (c t : ℕ) (o : Owner) (k n : ℕ) → k ≡ number_of o → (k == n) ≡ false → holdings n (moved (Lend c t o k) (pool H)) ≤ holdings n (pool H)
lends_other H c t o k n whose not =
    let p = pool H in
    let waits = left_fewer n k p.waiting in
    let homes = changed_fewer (is_home_of n) c (lent t o p.moment) p.conns (λ x. ap (λ m. m == n) (sym whose) ∙ not) in
    omega (arith, waits, homes)

lends_one : (H : List Event) (c t : ℕ) (o : Owner) (n : ℕ) → Lawful H → (may_ask H n ≡ true) ⊎ Deserves c n (pool H) → holdings n (pool H) ≤ 1 → holdings n (moved (Lend c t o n) (pool H)) ≤ 1
lends_one H c t o n l (inl may) had =
    let p = pool H in
    let none = nothing_held H n l may in
    let waits = left_none n p.waiting in
    let homes = changed_one_more (is_home_of n) c (lent t o p.moment) p.conns in
    omega (arith, none, waits, homes)
lends_one H c t o n l (inr (inl waited)) had =
    let p = pool H in
    let some = waits_some n p.waiting waited in
    let waits = left_none n p.waiting in
    let homes = changed_one_more (is_home_of n) c (lent t o p.moment) p.conns in
    omega (arith, some, waits, homes, had)
lends_one H c t o n l (inr (inr opened)) had =
    let p = pool H in
    let waits = left_none n p.waiting in
    let homes = changed_same (is_home_of n) c (lent t o p.moment) p.conns opened in
    omega (arith, waits, homes, had)

joins_one : (H : List Event) (k n : ℕ) → Lawful H → may_ask H k ≡ true → holdings n (pool H) ≤ 1 → holdings n (joined (request H k) (pool H)) ≤ 1
joins_one H k n l may had =
    let p = pool H in
    let more = request-more n (request H k) p.waiting in
    by_call k n (holdings n (joined (request H k) p) ≤ 1)
    (λ is.
    let none : holdings n p ≡ 0 = subst (λ m. holdings m p ≡ 0) is (nothing_held H k l may) in
    let one : cond {A = ℕ} (k == n) 1 0 ≤ 1 = most (k == n) in
    omega (arith, more, none, one))
    (λ not.
    let none : cond {A = ℕ} (k == n) 1 0 ≡ 0 = ap (λ (b : Bool). cond {A = ℕ} b 1 0) not in
    omega (arith, more, none, had))
  where
    most : (b : Bool) → cond {A = ℕ} b 1 0 ≤ 1
    most true = omega arith
    most false = omega arith

pub one_at_most : (H : List Event) (n : ℕ) → Lawful H → n ≢ 0 → holdings n (pool H) ≤ 1
one_at_most [] n l some = omega arith
one_at_most (Entered client m DbClose ∷ H) n l some = let had = one_at_most H n l.0 some in let few = shut_holds n (pool H) in omega (arith, had, few)
one_at_most (Pool (OpenStart c k) ∷ H) n l some = opens_one H c k n l.0 (keeps_of H (Pool (OpenStart c k)) l.1) some (one_at_most H n l.0 some)
one_at_most (Pool (Lend c t o k) ∷ H) n l some =
    let had = one_at_most H n l.0 some in
    by_call k n (holdings n (moved (Lend c t o k) (pool H)) ≤ 1)
    (λ is.
    let from = lending_from H c t o k (owed H) (keeps_of H (Pool (Lend c t o k)) l.1) refl (deserved H l.0) in
    let own : holdings k (pool H) ≤ 1 = subst (λ m. holdings m (pool H) ≤ 1) (sym is) had in
    subst (λ m. holdings m (moved (Lend c t o k) (pool H)) ≤ 1) is (lends_one H c t o k l.0 from own))
    (λ not. let few = lends_other H c t o k n (lends_to H c t o k l.1) not in omega (arith, had, few))
one_at_most (Pool (Back c) ∷ H) n l some =
    let had = one_at_most H n l.0 some in
    let few = changed_fewer (is_home_of n) c (back (pool H).moment) (pool H).conns (λ x. refl) in
    omega (arith, had, few)
one_at_most (Pool (CloseStart c why) ∷ H) n l some =
    let had = one_at_most H n l.0 some in
    let few = changed_fewer (is_home_of n) c closing (pool H).conns (λ x. refl) in
    omega (arith, had, few)
one_at_most (Pool (Gone c) ∷ H) n l some = let had = one_at_most H n l.0 some in let few = gone_fewer (is_home_of n) c (pool H).conns in omega (arith, had, few)
one_at_most (Pool (Fell c k) ∷ H) n l some =
    let had = one_at_most H n l.0 some in
    let few = gone_fewer (is_home_of n) c (pool H).conns in
    let waits = left_fewer n k (pool H).waiting in
    omega (arith, had, few, waits)
one_at_most (Waits k ∷ H) n l some =
    let keeps = keeps_of H (Waits k) l.1 in
    let a = queued_so H k keeps.asking in
    joins_one H k n l.0 a.0 (one_at_most H n l.0 some)
one_at_most (Ticked now ∷ H) n l some = let had = one_at_most H n l.0 some in let same = same_control (Tick now) n (pool H) in omega (arith, had, same)
one_at_most (SetLimit s k ∷ H) n l some = let had = one_at_most H n l.0 some in let same = same_control (Set s k) n (pool H) in omega (arith, had, same)
one_at_most (Ended ∷ H) n l some = let had = one_at_most H n l.0 some in let few = shut_holds n (pool H) in omega (arith, had, few)
one_at_most (_ ∷ H) n l some = one_at_most H n l.0 some
