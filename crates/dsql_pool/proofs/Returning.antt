-- The pool at rest after a connection has come back, or was opened for nobody.
use Rattle.std.proofs.Common.{◌≡◌, ℕ, ◌<◌, ◌≤◌, Bool, true, false, not, ◌&&◌, ◌||◌, eqb, cond, List, [], ◌∷◌, ◌++◌, length, Some, refl, sym, ap, ◌∙◌, subst, arith, length-append}
use Rattle.std.specs.Prelude.{nat_le, nat_lt}
use Rattle.std.specs.List.{list_all}
use Rattle.std.proofs.lemmas.Bool.{eq-eqb}
use Rattle.std.proofs.lemmas.Bool.Decides.{nat_tests}
use Rattle.dsql_tenure_journal.specs.declared.entry.Owner.{Owner}
use Rattle.dsql_tenure_journal.specs.Readers.{is_empty}
use Rattle.dsql_time.specs.Limits.{has_expired}
use Rattle.dsql_wait.specs.declared.request.Request.{Request}
use Rattle.dsql_pool.specs.declared.conn.Conn.{Conn}
use Rattle.dsql_pool.specs.declared.moves.CloseCause.{CloseCause}
use Rattle.dsql_pool.specs.declared.moves.CloseCause.TheVariants as for
use Rattle.dsql_pool.specs.declared.moves.Move.TheVariants.{Lend, Back}
use Rattle.dsql_pool.specs.declared.moves.Outcome.TheVariants.{Closes, Serves, Rests}
use Rattle.dsql_pool.specs.Places.{conn_of, is_idle}
use Rattle.dsql_pool.specs.Changes.{conn_changed, lent, back, opened_at}
use Rattle.dsql_pool.specs.Pooled.{Pooled, open_count, free_openings, most_allowed, without}
use Rattle.dsql_pool.specs.Moved.{moved, made}
use Rattle.dsql_pool.specs.Decisions.{is_over_limit, when_kept, when_good}
use Rattle.dsql_pool.specs.Rest.{AtRest}
use Rattle.dsql_pool.proofs.Rows.{all_filter}
use Rattle.dsql_pool.proofs.Found.{found_changed, found_beside}
use Rattle.dsql_pool.proofs.Placed.{placed_away, placed_back}
use Rattle.dsql_pool.proofs.Young.{IsYoung, young_off, young_back, mapped}
use Rattle.dsql_pool.proofs.Frees.{passing, count-changed, length-changed, enough_kept}
use Rattle.dsql_pool.proofs.Leaving.{free}
use Rattle.dsql_pool.proofs.Nearly.{wholly, young_at, le_true, true_le, or_kept, or_left, or_right, fewer_requests}
use Rattle.dsql_pool.proofs.Stepping.{kept_many, lent_is_none, back_is_none, back_is_young, empty_length}

-- Holds if nothing closes a connection and no request waits.
pub record Keeps (p : Pooled) : Type 0 where
  pub nobody : is_empty p.waiting ≡ true
  pub below : nat_lt (length p.idle) p.limits.max_idle ≡ true
  pub open_still : p.closed ≡ false

none_of : {X : Type 0} (xs : List X) → not (is_empty xs) ≡ false → is_empty xs ≡ true
none_of [] h = refl
none_of (x ∷ xs) h = cc

keeps_of : (p : Pooled) (waits below : Bool) → not (is_empty p.waiting) ≡ waits → nat_lt (length p.idle) p.limits.max_idle ≡ below → p.closed ≡ false → cond waits Serves (cond below Rests (Closes for.IdleFull)) ≡ Rests → Keeps p
keeps_of p true below e f g h = cc
keeps_of p false true e f g h = record { nobody = none_of p.waiting e; below = f; open_still = g }
keeps_of p false false e f g h = cc

pub when_rests : (expired : Bool) (p : Pooled) → when_good expired p ≡ Rests → (expired ≡ false) × Keeps p
when_rests true p h = cc
when_rests false p h = (
  refl,
  elim p.closed as (λ b. p.closed ≡ b → cond b (Closes for.DbClosed) (cond (is_over_limit p) (Closes for.OverLimit) (when_kept p)) ≡ Rests → Keeps p) [
    | true ↦ λ e k. cc
    | false ↦ λ e k.
        elim (is_over_limit p) as (λ b. cond b (Closes for.OverLimit) (when_kept p) ≡ Rests → Keeps p) [
          | true ↦ λ m. cc
          | false ↦ λ m. keeps_of p (not (is_empty p.waiting)) (nat_lt (length p.idle) p.limits.max_idle) refl refl e m
        ] k
  ] refl h,
)

over_is_full : (p : Pooled) → is_over_limit p ≡ true → nat_le (most_allowed p) (open_count p) ≡ true
over_is_full p h = grind (arith, nat_tests)

-- If an unwanted connection closes, no request waits or as many connections are open as may be.
pub when_closes : (cause : CloseCause) (p : Pooled) → AtRest p → when_good false p ≡ Closes cause → (is_empty p.waiting || nat_le (most_allowed p) (open_count p)) ≡ true
when_closes cause p rest h =
    elim p.closed as (λ b. (not b || (is_empty p.idle && is_empty p.waiting)) ≡ true → cond b (Closes for.DbClosed) (cond (is_over_limit p) (Closes for.OverLimit) (when_kept p)) ≡ Closes cause → (is_empty p.waiting || nat_le (most_allowed p) (open_count p)) ≡ true) [
      | true ↦ λ both k. or_left (is_empty p.waiting) (nat_le (most_allowed p) (open_count p)) (second (is_empty p.idle) (is_empty p.waiting) both)
      | false ↦ λ any k.
          elim (is_over_limit p) as (λ b. is_over_limit p ≡ b → cond b (Closes for.OverLimit) (when_kept p) ≡ Closes cause → (is_empty p.waiting || nat_le (most_allowed p) (open_count p)) ≡ true) [
            | true ↦ λ over m. or_right (is_empty p.waiting) (nat_le (most_allowed p) (open_count p)) (over_is_full p over)
            | false ↦ λ under m.
                elim (is_empty p.waiting) as (λ b. cond (not b) Serves (cond (nat_lt (length p.idle) p.limits.max_idle) Rests (Closes for.IdleFull)) ≡ Closes cause → (b || nat_le (most_allowed p) (open_count p)) ≡ true) [ true ↦ λ n. refl | false ↦ λ n. cc ] m
          ] refl k
    ] rest.none h
  where
    second : (a b : Bool) → (a && b) ≡ true → b ≡ true
    second true b h = h
    second false b h = cc

-- The pool stays at rest when a connection becomes idle, since no request waits.
pub back_rests : (c : ℕ) (x : Conn) (p : Pooled) → AtRest p → conn_of c p.conns ≡ Some x → is_idle (Some x.place) ≡ false → Keeps p → has_expired (opened_at p.moment x) p.limits.lifetime p.moment ≡ false → AtRest (moved (Back c) p)
back_rests c x p h found busy keeps young =
    let q = moved (Back c) p in
    let many = length-append p.idle (c ∷ []) in
    let zero = empty_length p.waiting keeps.nobody in
    let same = length-changed c (back p.moment) p.conns in
    wholly q
    (record {
      placed = placed_back c (back p.moment) (λ _. refl) x p.idle p.conns found busy refl h.placed;
      most = kept_many p (length (conn_changed c (back p.moment) p.conns)) (omega (arith, same)) h.most;
      served = or_right (is_empty q.idle) (list_all (λ r. r.last) p.waiting) (all_none p.waiting keeps.nobody);
      few = le_true (length (p.idle ++ c ∷ [])) p.limits.max_idle (let below = lt_of (length p.idle) p.limits.max_idle keeps.below in omega (arith, below, many));
      young =
          young_back p.limits p.moment c (back p.moment) p.conns (λ _. refl)
          (λ y there.
          let is : x ≡ y = one_found x y (sym found ∙ there) in
          subst (λ (z : Conn). IsYoung p.limits p.moment (Some (back p.moment z))) is (back_is_young p.limits p.moment x young))
          (young_at p h);
      none = or_left (not p.closed) (is_empty q.idle && is_empty p.waiting) (ap not keeps.open_still);
    })
    (or_left (nat_le (length p.waiting) (free_openings q)) (nat_le (most_allowed q) (open_count q)) (le_true (length p.waiting) (free_openings q) (omega (arith, zero))))
  where
    all_none : (rs : List Request) → is_empty rs ≡ true → list_all (λ r. r.last) rs ≡ true
    all_none [] h = refl
    all_none (r ∷ rs) h = cc

    lt_of : (m n : ℕ) → nat_lt m n ≡ true → m < n
    lt_of m n h = grind (arith, nat_tests)

    one_found : (x y : Conn) → Some x ≡ Some y → x ≡ y
    one_found x y e = cc

came_and_went : (c : ℕ) (ns : List ℕ) → (length (without c (ns ++ c ∷ [])) ≤ length ns) × (is_empty ns ≡ true → is_empty (without c (ns ++ c ∷ [])) ≡ true)
came_and_went c [] =
    let alone : without c (c ∷ []) ≡ [] = ap (λ (b : Bool). cond (not b) (c ∷ []) []) (eq-eqb c c refl) in
    (let none = ap length alone in omega (arith, none), λ _. ap is_empty alone)
came_and_went c (n ∷ ns) =
    let rest = came_and_went c ns in
    (elim (eqb n c) as (λ b. length (cond (not b) (n ∷ without c (ns ++ c ∷ [])) (without c (ns ++ c ∷ []))) ≤ length (n ∷ ns)) [ true ↦ let less = rest.0 in omega (arith, less) | false ↦ let less = rest.0 in omega (arith, less) ], λ h. cc)

-- The pool stays at rest when a connection goes to the oldest request.
pub served_rests : (c tenure : ℕ) (owner : Owner) (x : Conn) (r : Request) (rs : List Request) (p : Pooled) → p.waiting ≡ r ∷ rs → AtRest p → conn_of c p.conns ≡ Some x → is_idle (Some x.place) ≡ false → free x ≡ false → p.closed ≡ false → AtRest (made (Back c ∷ Lend c tenure owner r.call ∷ []) p)
served_rests c tenure owner x r rs p waits h found busy not_free open_still =
    let b = moved (Back c) p in
    let q = made (Back c ∷ Lend c tenure owner r.call ∷ []) p in
    let give = lent tenure owner p.moment in
    let bring = back p.moment in
    let turned = came_and_went c p.idle in
    let same = length-changed c bring p.conns in
    let again = length-changed c give (conn_changed c bring p.conns) in
    let one = count-changed free c bring p.conns in
    let two = count-changed free c give (conn_changed c bring p.conns) in
    let none = lent_is_none tenure p.moment owner (conn_of c (conn_changed c bring p.conns)) in
    let came = back_is_none p.moment (conn_of c p.conns) in
    let idle_then : passing free (conn_of c (conn_changed c bring p.conns)) ≡ 0 = ap (passing free) (found_changed c bring (λ _. refl) p.conns) ∙ came in
    let was : passing free (conn_of c p.conns) ≡ 0 = ap (passing free) found ∙ ap (λ (t : Bool). cond {A = ℕ} t 1 0) not_free in
    let fewer = fewer_requests (λ (s : Request). not (eqb s.call r.call)) p.waiting in
    wholly q
    (record {
      placed = placed_away c give (λ _. refl) (λ _. refl) (p.idle ++ c ∷ []) (conn_changed c bring p.conns) (placed_back c bring (λ _. refl) x p.idle p.conns found busy refl h.placed);
      most = kept_many p (length (conn_changed c give (conn_changed c bring p.conns))) (omega (arith, same, again)) h.most;
      served = or_kept (is_empty p.idle) (list_all (λ s. s.last) p.waiting) (is_empty q.idle) (list_all (λ s. s.last) q.waiting) h.served turned.1 (all_filter (λ (s : Request). s.last) (λ (s : Request). not (eqb s.call r.call)) p.waiting);
      few = let few = true_le (length p.idle) p.limits.max_idle h.few in let less = turned.0 in le_true (length q.idle) p.limits.max_idle (omega (arith, few, less));
      young =
          young_off p.limits p.moment c p.conns (conn_changed c give (conn_changed c bring p.conns))
          (λ d apart. found_beside c d give (λ _. refl) (conn_changed c bring p.conns) apart ∙ found_beside c d bring (λ _. refl) p.conns apart)
          (λ y there is.
          let z = mapped give (conn_of c (conn_changed c bring p.conns)) y (sym (found_changed c give (λ _. refl) (conn_changed c bring p.conns)) ∙ there) in
          let no : true ≡ false = sym is ∙ ap (λ (w : Conn). is_idle (Some w.place)) z.2 in
          cc)
          (young_at p h);
      none = or_left (not p.closed) (is_empty q.idle && is_empty q.waiting) (ap not open_still);
    })
    (enough_kept (length p.waiting) (free_openings p) (most_allowed p) (open_count p) (length q.waiting) (free_openings q) (most_allowed q) (open_count q) h.enough (omega (arith, one, two, none, came, idle_then, was, fewer)) (omega (arith, same, again)))

-- If the oldest request gets a connection, a request waits and the pool is open.
pub when_serves : (expired : Bool) (p : Pooled) → when_good expired p ≡ Serves → (p.closed ≡ false) × (is_empty p.waiting ≡ false)
when_serves true p h = cc
when_serves false p h =
    elim p.closed as (λ b. p.closed ≡ b → cond b (Closes for.DbClosed) (cond (is_over_limit p) (Closes for.OverLimit) (when_kept p)) ≡ Serves → (p.closed ≡ false) × (is_empty p.waiting ≡ false)) [
      | true ↦ λ e k. cc
      | false ↦ λ e k. (
        e,
        elim (is_over_limit p) as (λ b. cond b (Closes for.OverLimit) (when_kept p) ≡ Serves → is_empty p.waiting ≡ false) [
          | true ↦ λ m. cc
          | false ↦ λ m.
              elim (is_empty p.waiting) as (λ b. cond (not b) Serves (cond (nat_lt (length p.idle) p.limits.max_idle) Rests (Closes for.IdleFull)) ≡ Serves → b ≡ false) [
                | true ↦ λ n. elim (nat_lt (length p.idle) p.limits.max_idle) as (λ b. cond b Rests (Closes for.IdleFull) ≡ Serves → true ≡ false) [ true ↦ λ o. cc | false ↦ λ o. cc ] n
                | false ↦ λ n. refl
              ] m
        ] k,
      )
    ] refl h
