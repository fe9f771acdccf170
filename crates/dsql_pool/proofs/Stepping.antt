-- The pool at rest under each thing that happens to it.
use Rattle.std.proofs.Common.{◌≡◌, ℕ, ◌+◌, ◌≤◌, Bool, true, false, not, ◌&&◌, ◌||◌, eqb, cond, List, [], ◌∷◌, length, Option, Some, None, refl, ap, ◌∙◌, arith}
use Rattle.std.specs.Prelude.{nat_le}
use Rattle.std.specs.List.{list_all}
use Rattle.std.specs.Option.{option_map}
use Rattle.std.proofs.lemmas.Bool.{eq-eqb}
use Rattle.std.proofs.lemmas.Bool.Decides.{nat_tests}
use Rattle.dsql_tenure_journal.specs.declared.entry.Owner.{Owner}
use Rattle.dsql_tenure_journal.specs.Readers.{is_empty}
use Rattle.dsql_time.specs.declared.Limits.{Limits}
use Rattle.dsql_time.specs.Limits.{has_expired}
use Rattle.dsql_wait.specs.declared.request.Request.{Request}
use Rattle.dsql_wait.specs.Requests.{without_call}
use Rattle.dsql_pool.specs.declared.conn.Conn.{Conn}
use Rattle.dsql_pool.specs.declared.moves.CloseCause.{CloseCause}
use Rattle.dsql_pool.specs.declared.moves.Move.TheVariants.{Lend, CloseStart}
use Rattle.dsql_pool.specs.Places.{conn_of}
use Rattle.dsql_pool.specs.Changes.{conn_changed, lent, back, closing, opened_at}
use Rattle.dsql_pool.specs.Pooled.{Pooled, open_count, free_openings, most_allowed, most_open, without}
use Rattle.dsql_pool.specs.Moved.{moved}
use Rattle.dsql_pool.specs.Rest.{AtRest, opens_enough}
use Rattle.dsql_pool.proofs.Rows.{all_filter}
use Rattle.dsql_pool.proofs.Members.{length-without, empty-without}
use Rattle.dsql_pool.proofs.Placed.{placed_away}
use Rattle.dsql_pool.proofs.Young.{IsYoung, young_away}
use Rattle.dsql_pool.proofs.Frees.{passing, count-changed, length-changed, enough_kept}
use Rattle.dsql_pool.proofs.Leaving.{free, closed_is_none}
use Rattle.dsql_pool.proofs.Nearly.{wholly, young_at, le_true, true_le, or_kept, and_kept, empty_filter, fewer_requests}

-- Is true of the requests of other calls.
abbrev others : ℕ → Request → Bool
others call r = not (eqb r.call call)

pub kept_many : (p : Pooled) (n : ℕ) → n ≤ open_count p → nat_le (open_count p) most_open ≡ true → nat_le n most_open ≡ true
kept_many p n le h = let most = true_le (open_count p) most_open h in le_true n most_open (omega (arith, le, most))

-- The pool stays at rest when a connection is lent to an owner for call n.
pub lend_rests : (c tenure n : ℕ) (owner : Owner) (p : Pooled) → AtRest p → opens_enough (moved (Lend c tenure owner n) p) ≡ true → AtRest (moved (Lend c tenure owner n) p)
lend_rests c tenure n owner p h enough =
    wholly (moved (Lend c tenure owner n) p)
    (record {
      placed = placed_away c (lent tenure owner p.moment) (λ _. refl) (λ _. refl) p.idle p.conns h.placed;
      most = kept_many p (length (conn_changed c (lent tenure owner p.moment) p.conns)) (let same = length-changed c (lent tenure owner p.moment) p.conns in omega (arith, same)) h.most;
      served = or_kept (is_empty p.idle) (list_all (λ r. r.last) p.waiting) (is_empty (without c p.idle)) (list_all (λ r. r.last) (without_call n p.waiting)) h.served (empty-without c p.idle) (all_filter (λ (r : Request). r.last) (others n) p.waiting);
      few = let less = length-without c p.idle in let few = true_le (length p.idle) p.limits.max_idle h.few in le_true (length (without c p.idle)) p.limits.max_idle (omega (arith, less, few));
      young = young_away p.limits p.moment c (lent tenure owner p.moment) p.conns (λ _. refl) (λ _. refl) (young_at p h);
      none = or_kept (not p.closed) (is_empty p.idle && is_empty p.waiting) (not p.closed) (is_empty (without c p.idle) && is_empty (without_call n p.waiting)) h.none (λ k. k) (λ k. and_kept (is_empty p.idle) (is_empty p.waiting) (is_empty (without c p.idle)) (is_empty (without_call n p.waiting)) k (empty-without c p.idle) (empty_filter (others n) p.waiting));
    })
    enough

pub lent_is_none : (tenure moment : ℕ) (owner : Owner) (o : Option Conn) → passing free (option_map (lent tenure owner moment) o) ≡ 0
lent_is_none tenure moment owner None = refl
lent_is_none tenure moment owner (Some x) = refl

pub back_is_none : (moment : ℕ) (o : Option Conn) → passing free (option_map (back moment) o) ≡ 0
back_is_none moment None = refl
back_is_none moment (Some x) = refl

-- Lending a connection that isn't a free opening leaves enough openings.
pub lend_enough : (c tenure n : ℕ) (owner : Owner) (p : Pooled) → AtRest p → passing free (conn_of c p.conns) ≡ 0 → opens_enough (moved (Lend c tenure owner n) p) ≡ true
lend_enough c tenure n owner p h busy =
    let q = moved (Lend c tenure owner n) p in
    let change = count-changed free c (lent tenure owner p.moment) p.conns in
    let none = lent_is_none tenure p.moment owner (conn_of c p.conns) in
    let fewer = fewer_requests (others n) p.waiting in
    let same = length-changed c (lent tenure owner p.moment) p.conns in
    enough_kept (length p.waiting) (free_openings p) (most_allowed p) (open_count p) (length q.waiting) (free_openings q) (most_allowed q) (open_count q) h.enough (omega (arith, change, none, busy, fewer)) (omega (arith, same))

-- Lending a connection to the oldest request leaves enough openings.
pub serve_enough : (c tenure : ℕ) (owner : Owner) (p : Pooled) (r : Request) (rs : List Request) → p.waiting ≡ r ∷ rs → AtRest p → opens_enough (moved (Lend c tenure owner r.call) p) ≡ true
serve_enough c tenure owner p r rs e h =
    let q = moved (Lend c tenure owner r.call) p in
    let change = count-changed free c (lent tenure owner p.moment) p.conns in
    let none = lent_is_none tenure p.moment owner (conn_of c p.conns) in
    let at_most = passing_one (conn_of c p.conns) in
    let fewer = served_fewer p.waiting r rs e in
    let same = length-changed c (lent tenure owner p.moment) p.conns in
    enough_kept (length p.waiting) (free_openings p) (most_allowed p) (open_count p) (length q.waiting) (free_openings q) (most_allowed q) (open_count q) h.enough (omega (arith, change, none, at_most, fewer)) (omega (arith, same))
  where
    passing_one : (o : Option Conn) → passing free o ≤ 1
    passing_one None = omega arith
    passing_one (Some x) = elim (free x) as (λ b. cond {A = ℕ} b 1 0 ≤ 1) [ true ↦ omega arith | false ↦ omega arith ]

    served_fewer : (ws : List Request) (r : Request) (rs : List Request) → ws ≡ r ∷ rs → length (without_call r.call ws) + 1 ≤ length ws
    served_fewer ws r rs e =
        let first : without_call r.call (r ∷ rs) ≡ without_call r.call rs = ap (λ (b : Bool). cond (not b) (r ∷ without_call r.call rs) (without_call r.call rs)) (eq-eqb r.call r.call refl) in
        let fewer = fewer_requests (others r.call) rs in
        let one = ap (λ (ms : List Request). length (without_call r.call ms)) e ∙ ap length first in
        let all = ap length e in
        omega (arith, one, fewer, all)

-- The pool stays at rest when a connection begins to be closed.
pub close_rests : (c : ℕ) (cause : CloseCause) (p : Pooled) → AtRest p → opens_enough (moved (CloseStart c cause) p) ≡ true → AtRest (moved (CloseStart c cause) p)
close_rests c cause p h enough =
    wholly (moved (CloseStart c cause) p)
    (record {
      placed = placed_away c closing (λ _. refl) (λ _. refl) p.idle p.conns h.placed;
      most = kept_many p (length (conn_changed c closing p.conns)) (let same = length-changed c closing p.conns in omega (arith, same)) h.most;
      served = or_kept (is_empty p.idle) (list_all (λ r. r.last) p.waiting) (is_empty (without c p.idle)) (list_all (λ r. r.last) p.waiting) h.served (empty-without c p.idle) (λ k. k);
      few = let less = length-without c p.idle in let few = true_le (length p.idle) p.limits.max_idle h.few in le_true (length (without c p.idle)) p.limits.max_idle (omega (arith, less, few));
      young = young_away p.limits p.moment c closing p.conns (λ _. refl) (λ _. refl) (young_at p h);
      none = or_kept (not p.closed) (is_empty p.idle && is_empty p.waiting) (not p.closed) (is_empty (without c p.idle) && is_empty p.waiting) h.none (λ k. k) (λ k. and_kept (is_empty p.idle) (is_empty p.waiting) (is_empty (without c p.idle)) (is_empty p.waiting) k (empty-without c p.idle) (λ m. m));
    })
    enough

-- Closing a connection that isn't a free opening leaves enough openings.
pub close_enough : (c : ℕ) (cause : CloseCause) (p : Pooled) → AtRest p → passing free (conn_of c p.conns) ≡ 0 → opens_enough (moved (CloseStart c cause) p) ≡ true
close_enough c cause p h busy =
    let q = moved (CloseStart c cause) p in
    let change = count-changed free c closing p.conns in
    let none = closed_is_none (conn_of c p.conns) in
    let same = length-changed c closing p.conns in
    enough_kept (length p.waiting) (free_openings p) (most_allowed p) (open_count p) (length q.waiting) (free_openings q) (most_allowed q) (open_count q) h.enough (omega (arith, change, none, busy)) (omega (arith, same))

-- Closing a connection leaves enough openings if no request waits or as many are open as may be.
pub close_enough_still : (c : ℕ) (cause : CloseCause) (p : Pooled) → (is_empty p.waiting || nat_le (most_allowed p) (open_count p)) ≡ true → opens_enough (moved (CloseStart c cause) p) ≡ true
close_enough_still c cause p h =
    let q = moved (CloseStart c cause) p in
    or_kept (is_empty p.waiting) (nat_le (most_allowed p) (open_count p)) (nat_le (length p.waiting) (free_openings q)) (nat_le (most_allowed q) (open_count q)) h
    (λ none. le_true (length p.waiting) (free_openings q) (let zero = empty_length p.waiting none in omega (arith, zero)))
    (λ full. ap (λ (n : ℕ). nat_le (most_allowed p) n) (length-changed c closing p.conns) ∙ full)
  where
    empty_length : (rs : List Request) → is_empty rs ≡ true → length rs ≡ 0
    empty_length [] h = refl
    empty_length (r ∷ rs) h = cc

pub empty_length : {X : Type 0} (xs : List X) → is_empty xs ≡ true → length xs ≡ 0
empty_length [] h = refl
empty_length (x ∷ xs) h = cc

-- A connection that comes back now isn't past its time if its life isn't over.
pub back_is_young : (limits : Limits) (moment : ℕ) (x : Conn) → has_expired (opened_at moment x) limits.lifetime moment ≡ false → IsYoung limits moment (Some (back moment x))
back_is_young limits moment x young = grind (arith, nat_tests)
