-- A call that wants a connection has a try left.
use Rattle.std.proofs.Common.{◌≡◌, ◌≢◌, ℕ, ◌+◌, ◌≤◌, ◌==◌, Bool, true, false, not, ◌&&◌, ◌||◌, cond, List, [], ◌∷◌, Option, Some, None, refl, sym, ap, subst, ◌∙◌, arith}
use Rattle.std.specs.Prelude.{count_by}
use Rattle.std.specs.Option.{option_map}
use Rattle.std.proofs.lemmas.Bool.Decides.{nat_tests}
use Rattle.dsql_laws.specs.journal.declared.entry.Owner.{Owner}
use Rattle.dsql_laws.specs.journal.Kinds.{number_of}
use Rattle.dsql_laws.specs.wait.declared.request.Request.{Request}
use Rattle.dsql_laws.specs.pool.declared.conn.Conn.{Conn}
use Rattle.dsql_laws.specs.pool.declared.conn.Place.{Place}
use Rattle.dsql_laws.specs.pool.declared.conn.Place.TheVariants.{Opening}
use Rattle.dsql_laws.specs.pool.declared.moves.Move.TheVariants.{OpenStart, Lend, Back, CloseStart, Gone, Fell}
use Rattle.dsql_laws.specs.pool.Calls.{wants}
use Rattle.dsql_laws.specs.pool.Changes.{lent, back, closing, gone, conn_changed}
use Rattle.dsql_laws.specs.pool.Decisions.{falls_to, oldest_call}
use Rattle.dsql_laws.specs.pool.Moved.{begun, joined, moved}
use Rattle.dsql_laws.specs.pool.Places.{conn_of, is_for, is_idle, is_opening}
use Rattle.dsql_laws.proofs.pool.Found.{found_changed}
use Rattle.dsql_laws.proofs.pool.Frees.{passing, count-cons}
use Rattle.dsql_laws.specs.history.declared.event.Control.TheVariants.{Tick, Set}
use Rattle.dsql_laws.specs.history.declared.record.Try.{Try}
use Rattle.dsql_laws.specs.history.declared.record.Try.TheVariants.{Served, Refused}
use Rattle.dsql_laws.specs.history.Readers.Pool.{pool, place, request, wanted_by}
use Rattle.dsql_laws.specs.history.Readers.Tries.{with_try, lost, has_a_try, tries, newest_answer, loses}
use Rattle.dsql_laws.specs.Holdings.{waits_of}
use Rattle.dsql_laws.proofs.Tests.{both, same_itself}
use Rattle.dsql_laws.proofs.Counts.{request-more, left_none, left_fewer, changed_fewer, gone_fewer, request-cons}
use Rattle.dsql_laws.proofs.Tried.{is_lent_out, lent_count, lends_to}
use Rattle.dsql_laws.proofs.ByCall.{by_call}
use Rattle.dsql_laws.proofs.Wanted.{is_opening_for, wanted, wants_counts, homes_apart, found_counts, shut_wants, begun_wants, same_control}
use Rattle.dsql_laws.specs.history.declared.event.Event.{Event}
use Rattle.dsql_laws.specs.history.declared.event.Event.TheVariants.{Entered, Heard, Pool, Waits, Ticked, SetLimit, Ended}
use Rattle.dsql_laws.specs.history.declared.event.Op.TheVariants.{DbClose}
use Rattle.dsql_laws.specs.history.Readers.Owed.{owed}
use Rattle.dsql_laws.specs.history.Readers.Works.{work}
use Rattle.dsql_laws.specs.history.Rules.Asking.{may_ask}
use Rattle.dsql_laws.specs.history.Rules.Moves.{moves_from, numbers_lending}
use Rattle.dsql_laws.specs.history.Legal.{Allowed, Lawful}
use Rattle.dsql_laws.proofs.Asker.{asker}
use Rattle.dsql_laws.proofs.OwedMoves.{owed_own}
use Rattle.dsql_laws.proofs.AtRest.{keeps_of, asked_so, queued_so}
use Rattle.dsql_laws.proofs.Holdings.{opening_asked, one_at_most}
use Rattle.dsql_laws.proofs.Wanting.{wanted_opening}
use Rattle.dsql_laws_calls.proofs.Falls.{falls}

pub moves_of : (H : List Event) (c t : ℕ) (o : Owner) (n : ℕ) → Allowed H (Pool (Lend c t o n)) → (is_idle (place H c) || is_opening (place H c)) ≡ true
unfolding Allowed
moves_of H c t o n a = let s = both (moves_from (pool H) (Lend c t o n)) (numbers_lending (pool H) (Lend c t o n)) a.sets in s.0

-- A connection that the pool finds and lends counts as its call's.

lent_passes : (n t moment : ℕ) (o : Owner) (found : Option Conn) → number_of o ≡ n → (is_idle (option_map (λ x. x.place) found) || is_opening (option_map (λ x. x.place) found)) ≡ true
    → passing (is_lent_out n) (option_map (lent t o moment) found) ≡ 1
lent_passes n t moment o None whose h = absurd cc
lent_passes n t moment o (Some x) whose h = ap (λ (b : Bool). cond {A = ℕ} b 1 0) (ap (λ k. k == n) whose ∙ same_itself n)

lends_one : (H : List Event) (c t : ℕ) (o : Owner) (n : ℕ) → Allowed H (Pool (Lend c t o n)) → 1 ≤ lent_count n (moved (Lend c t o n) (pool H))
lends_one H c t o n a =
    let p = pool H in
    let f = lent t o p.moment in
    let one = lent_passes n t p.moment o (conn_of c p.conns) (sym (lends_to H c t o n a)) (moves_of H c t o n a) in
    let counted = found_counts (is_lent_out n) c (conn_changed c f p.conns) in
    let here : passing (is_lent_out n) (conn_of c (conn_changed c f p.conns)) ≡ 1 = ap (passing (is_lent_out n)) (found_changed c f (λ _. refl) p.conns) ∙ one in
    omega (arith, counted, here)

-- A call that is lent a connection wants none after that.
pub lends_unwanting : (H : List Event) (c t : ℕ) (o : Owner) (n : ℕ) → Lawful (Pool (Lend c t o n) ∷ H) → n ≢ 0 → wanted n (moved (Lend c t o n) (pool H)) ≡ 0
lends_unwanting H c t o n l some =
    let q = moved (Lend c t o n) (pool H) in
    let lent_one = lends_one H c t o n l.1 in
    let one = one_at_most (Pool (Lend c t o n) ∷ H) n l some in
    let apart = homes_apart n q.conns in
    omega (arith, lent_one, one, apart)

gone_one : (q : Conn → Bool) (c : ℕ) (conns : List Conn) → passing q (conn_of c conns) + count_by q (gone c conns) ≤ count_by q conns
gone_one q c [] = omega arith
gone_one q c (x ∷ xs) =
    let rest = gone_one q c xs in
    let few = gone_fewer q c xs in
    let split = count-cons q x xs in
    let more = count-cons q x (gone c xs) in
    elim (x.number == c) as (λ b. passing q (cond b (Some x) (conn_of c xs)) + count_by q (cond (not b) (x ∷ gone c xs) (gone c xs)) ≤ count_by q (x ∷ xs)) [
      | true ↦ omega (arith, split, few)
      | false ↦ omega (arith, split, rest, more)
    ]

opening_passes : (owner : Owner) (k : ℕ) (o : Option Conn) → k ≡ number_of owner → option_map (λ x. x.place) o ≡ Some (Opening (Some owner)) → passing (is_opening_for k) o ≡ 1
opening_passes owner k None whose at = absurd cc
opening_passes owner k (Some x) whose at =
    let there : x.place ≡ Opening (Some owner) = cc in
    ap (λ (pl : Place). cond {A = ℕ} (is_for k pl) 1 0) there ∙ ap (λ (b : Bool). cond {A = ℕ} b 1 0) (ap (λ j. number_of owner == j) whose ∙ same_itself (number_of owner))

-- A call to which a refusal falls wanted a connection.
pub fallen_wanted : (H : List Event) (c n : ℕ) → Allowed H (Pool (Fell c n)) → n ≢ 0 → 1 ≤ wanted n (pool H)
fallen_wanted H c n a some = let f = falls H c n a in by f.wanted f.opening f.to
  where
    by : (w : Option Owner) → place H c ≡ Some (Opening w) → n ≡ falls_to (Some (Opening w)) (pool H) → 1 ≤ wanted n (pool H)
    by (Some owner) is to =
        let found = opening_passes owner n (conn_of c (pool H).conns) to is in
        let counted = found_counts (is_opening_for n) c (pool H).conns in
        omega (arith, found, counted)
    by None is to = waited (pool H).waiting refl
      where
        waited : (rs : List Request) → (pool H).waiting ≡ rs → 1 ≤ wanted n (pool H)
        waited [] w = absurd (some (to ∙ ap (λ rs. oldest_call rs) w))
        waited (r ∷ rs) w =
            let its : n ≡ r.call = to ∙ ap (λ qs. oldest_call qs) w in
            let here : (r.call == n) ≡ true = grind (arith, nat_tests, its) in
            let counted = request-cons n r rs in
            let first : cond {A = ℕ} (r.call == n) 1 0 ≡ 1 = ap (λ (b : Bool). cond {A = ℕ} b 1 0) here in
            let all : waits_of n (pool H) ≡ count_by (λ (q : Request). q.call == n) (r ∷ rs) = ap (λ qs. count_by (λ (q : Request). q.call == n) qs) w in
            omega (arith, counted, first, all)

-- A call to which a refusal falls wants no connection after that.
pub fallen_unwanting : (H : List Event) (c n : ℕ) → Lawful (Pool (Fell c n) ∷ H) → n ≢ 0 → wanted n (moved (Fell c n) (pool H)) ≡ 0
fallen_unwanting H c n l some = let f = falls H c n l.1 in by f.wanted f.opening f.to
  where
    by : (w : Option Owner) → place H c ≡ Some (Opening w) → n ≡ falls_to (Some (Opening w)) (pool H) → wanted n (moved (Fell c n) (pool H)) ≡ 0
    by (Some owner) is to =
        let p = pool H in
        let none = left_none n p.waiting in
        let less = gone_one (is_opening_for n) c p.conns in
        let found = opening_passes owner n (conn_of c p.conns) to is in
        let one = one_at_most H n l.0 some in
        let apart = homes_apart n p.conns in
        omega (arith, none, less, found, one, apart)
    by None is to = waited (pool H).waiting refl
      where
        waited : (rs : List Request) → (pool H).waiting ≡ rs → wanted n (moved (Fell c n) (pool H)) ≡ 0
        waited [] w = absurd (some (to ∙ ap (λ rs. oldest_call rs) w))
        waited (r ∷ rs) w =
            let p = pool H in
            let its : n ≡ r.call = to ∙ ap (λ qs. oldest_call qs) w in
            let here : (r.call == n) ≡ true = grind (arith, nat_tests, its) in
            let counted = request-cons n r rs in
            let first : cond {A = ℕ} (r.call == n) 1 0 ≡ 1 = ap (λ (b : Bool). cond {A = ℕ} b 1 0) here in
            let all : waits_of n p ≡ count_by (λ (q : Request). q.call == n) (r ∷ rs) = ap (λ qs. count_by (λ (q : Request). q.call == n) qs) w in
            let none = left_none n p.waiting in
            let one = one_at_most H n l.0 some in
            let apart = homes_apart n p.conns in
            let few = gone_fewer (is_opening_for n) c p.conns in
            omega (arith, counted, first, all, none, one, apart, few)

asked_with_try : (H : List Event) (k n : ℕ) → (k ≡ n) → may_ask H k ≡ true → has_a_try (tries H n) ≡ true
asked_with_try H k n same may = subst (λ m. has_a_try (tries H m) ≡ true) same (asker H k may).try_left

opens_with_try : (H : List Event) (c k n : ℕ) → Allowed H (Pool (OpenStart c k)) → n ≢ 0 → (1 ≤ wanted n (pool H) → has_a_try (tries H n) ≡ true) → 1 ≤ wanted n (begun (wanted_by H k) (pool H)) → has_a_try (tries H n) ≡ true
opens_with_try H c k n a some had now =
    let more = begun_wants n (wanted_by H k) (pool H) in
    let opens = wanted_opening H k n some in
    by_call k n (has_a_try (tries H n) ≡ true)
    (λ is.
    let asked = opening_asked H c k (owed H) (keeps_of H (Pool (OpenStart c k)) a) refl (owed_own H) (λ none. some (sym is ∙ none)) in
    let b = asked_so H k (OpenStart c k) asked in
    asked_with_try H k n is b.0)
    (λ not.
    let none : cond {A = ℕ} (k == n) 1 0 ≡ 0 = ap (λ (b : Bool). cond {A = ℕ} b 1 0) not in
    had (omega (arith, more, opens, none, now)))

joins_with_try : (H : List Event) (k n : ℕ) → may_ask H k ≡ true → (1 ≤ wanted n (pool H) → has_a_try (tries H n) ≡ true) → 1 ≤ wanted n (joined (request H k) (pool H)) → has_a_try (tries H n) ≡ true
joins_with_try H k n may had now =
    let more = request-more n (request H k) (pool H).waiting in
    by_call k n (has_a_try (tries H n) ≡ true)
    (λ is. asked_with_try H k n is may)
    (λ not.
    let none : cond {A = ℕ} (k == n) 1 0 ≡ 0 = ap (λ (b : Bool). cond {A = ℕ} b 1 0) not in
    had (omega (arith, more, none, now)))

-- A try of another call changes nothing.
pub other_try : (k n : ℕ) (x : Try) (ts : List Try) → (k == n) ≡ false → has_a_try (with_try (k == n) x ts) ≡ has_a_try ts
other_try k n x ts not = ap (λ b. has_a_try (with_try b x ts)) not

-- A call with a try left wasn't served, so no answer takes that try from it.
heard_with_try : (b : Bool) (ts : List Try) → has_a_try ts ≡ true → has_a_try (cond b (lost ts) ts) ≡ true
heard_with_try true (Served ∷ ts) h = absurd cc
heard_with_try _ _ h = h

pub wanting_has_try : (H : List Event) (n : ℕ) → Lawful H → n ≢ 0 → 1 ≤ wanted n (pool H) → has_a_try (tries H n) ≡ true
wanting_has_try [] n l some now = refl
wanting_has_try (Entered client m DbClose ∷ H) n l some now = let few = shut_wants n (pool H) in wanting_has_try H n l.0 some (omega (arith, few, now))
wanting_has_try (Heard e ∷ H) n l some now = heard_with_try ((e.call_no == n) && loses (work H n) e) (tries H n) (wanting_has_try H n l.0 some now)
wanting_has_try (Pool (OpenStart c k) ∷ H) n l some now = opens_with_try H c k n l.1 some (wanting_has_try H n l.0 some) now
wanting_has_try (Pool (Lend c t o k) ∷ H) n l some now =
    by_call k n (has_a_try (tries (Pool (Lend c t o k) ∷ H) n) ≡ true)
    (λ is.
    let own : k ≢ 0 = λ none. some (sym is ∙ none) in
    let none : wanted n (moved (Lend c t o k) (pool H)) ≡ 0 = subst (λ m. wanted m (moved (Lend c t o k) (pool H)) ≡ 0) is (lends_unwanting H c t o k l own) in
    absurd (omega (arith, none, now)))
    (λ not.
    let waits = left_fewer n k (pool H).waiting in
    let few = changed_fewer (is_opening_for n) c (lent t o (pool H).moment) (pool H).conns (λ x. refl) in
    other_try k n Served (tries H n) not ∙ wanting_has_try H n l.0 some (omega (arith, waits, few, now)))
wanting_has_try (Pool (Back c) ∷ H) n l some now =
    let few = changed_fewer (is_opening_for n) c (back (pool H).moment) (pool H).conns (λ x. refl) in
    wanting_has_try H n l.0 some (omega (arith, few, now))
wanting_has_try (Pool (CloseStart c why) ∷ H) n l some now =
    let few = changed_fewer (is_opening_for n) c closing (pool H).conns (λ x. refl) in
    wanting_has_try H n l.0 some (omega (arith, few, now))
wanting_has_try (Pool (Gone c) ∷ H) n l some now = let few = gone_fewer (is_opening_for n) c (pool H).conns in wanting_has_try H n l.0 some (omega (arith, few, now))
wanting_has_try (Pool (Fell c k) ∷ H) n l some now =
    by_call k n (has_a_try (tries (Pool (Fell c k) ∷ H) n) ≡ true)
    (λ is.
    let own : k ≢ 0 = λ none. some (sym is ∙ none) in
    let none : wanted n (moved (Fell c k) (pool H)) ≡ 0 = subst (λ m. wanted m (moved (Fell c k) (pool H)) ≡ 0) is (fallen_unwanting H c k l own) in
    absurd (omega (arith, none, now)))
    (λ not.
    let waits = left_fewer n k (pool H).waiting in
    let few = gone_fewer (is_opening_for n) c (pool H).conns in
    other_try k n (Refused (newest_answer H)) (tries H n) not ∙ wanting_has_try H n l.0 some (omega (arith, waits, few, now)))
wanting_has_try (Waits k ∷ H) n l some now =
    let keeps = keeps_of H (Waits k) l.1 in
    let a = queued_so H k keeps.asking in
    joins_with_try H k n a.0 (wanting_has_try H n l.0 some) now
wanting_has_try (Ticked moment ∷ H) n l some now = let same = same_control (Tick moment) n (pool H) in wanting_has_try H n l.0 some (omega (arith, same, now))
wanting_has_try (SetLimit s k ∷ H) n l some now = let same = same_control (Set s k) n (pool H) in wanting_has_try H n l.0 some (omega (arith, same, now))
wanting_has_try (Ended ∷ H) n l some now = let few = shut_wants n (pool H) in wanting_has_try H n l.0 some (omega (arith, few, now))
wanting_has_try (_ ∷ H) n l some now = wanting_has_try H n l.0 some now

pub wants_has_try : (H : List Event) (n : ℕ) → Lawful H → n ≢ 0 → wants n (pool H) ≡ true → has_a_try (tries H n) ≡ true
wants_has_try H n l some h = wanting_has_try H n l some (wants_counts n (pool H) h)
