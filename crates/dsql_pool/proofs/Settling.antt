-- The pool at rest after idle connections have closed, at a setting, a tick or the close.
use Rattle.std.proofs.Common.{◌≡◌, ℕ, zero, suc, ◌-◌, ◌≤◌, Bool, true, false, not, ◌&&◌, eqb, cond, List, [], ◌∷◌, length, take, drop, Option, Some, None, refl, sym, ap, ◌∙◌, subst, arith, length-drop}
use Rattle.std.specs.Prelude.{nat_le}
use Rattle.std.specs.List.{list_all, filter_map, cons_option}
use Rattle.std.proofs.lemmas.List.{take-append-drop}
use Rattle.dsql_tenure_journal.specs.Readers.{is_empty}
use Rattle.dsql_time.specs.declared.Limits.{Limits}
use Rattle.dsql_wait.specs.declared.request.Request.{Request}
use Rattle.dsql_pool.specs.declared.conn.Place.{Place}
use Rattle.dsql_pool.specs.declared.conn.Place.TheVariants.{Opening}
use Rattle.dsql_pool.specs.declared.conn.Conn.{Conn}
use Rattle.dsql_pool.specs.declared.moves.CloseCause.{CloseCause}
use Rattle.dsql_pool.specs.declared.moves.CloseCause.TheVariants.{IdleFull, DbClosed}
use Rattle.dsql_pool.specs.declared.moves.Move.{Move}
use Rattle.dsql_pool.specs.Places.{conn_of, is_idle, is_free}
use Rattle.dsql_pool.specs.Pooled.{Pooled, open_count, free_openings, most_allowed, most_open, without}
use Rattle.dsql_pool.specs.Moved.{made}
use Rattle.dsql_pool.specs.Decisions.{starts_closing, closing_for, closing_at, cause_at, closings_of_setting, closings_of_tick, closings_of_close}
use Rattle.dsql_pool.specs.Rest.{AtRest, IsPlaced, times, keeps_most, opens_enough, serves_those_that_wait, keeps_idle_limit, is_empty_when_closed}
use Rattle.dsql_pool.proofs.Closed.{closings_close, outdated_close}
use Rattle.dsql_pool.proofs.Members.{without_all, first_ones_leave, length-without, none_left}
use Rattle.dsql_pool.proofs.Placed.{idle_in}
use Rattle.dsql_pool.proofs.Young.{Young, IsYoung, member_is_idle, idle_is_member}
use Rattle.dsql_pool.proofs.Frees.{passing, enough_kept}
use Rattle.dsql_pool.proofs.Leaving.{out, out-map, free, leaves, idle_out, closings_placed, still_idle, as_many_free, not_outdated}
use Rattle.dsql_pool.proofs.Nearly.{wholly, le_true, true_le, or_kept, and_kept}

fewer_left : (cs ns : List ℕ) → length (without_all cs ns) ≤ length ns
fewer_left [] ns = omega arith
fewer_left (c ∷ cs) ns = let rest = fewer_left cs (without c ns) in let less = length-without c ns in omega (arith, rest, less)

none_left_of : (cs ns : List ℕ) → is_empty ns ≡ true → is_empty (without_all cs ns) ≡ true
none_left_of [] ns h = h
none_left_of (c ∷ cs) [] h = none_left_of cs [] refl
none_left_of (c ∷ cs) (n ∷ ns) h = cc

idle_place_not_free : (place : Place) → is_idle (Some place) ≡ true → is_free place ≡ false
idle_place_not_free (Opening wanted) h = cc
idle_place_not_free _ h = refl

pub idle_not_free : (o : Option Conn) → idle_in o ≡ true → passing free o ≡ 0
idle_not_free None h = refl
idle_not_free (Some x) h = ap (λ (b : Bool). cond {A = ℕ} b 1 0) (idle_place_not_free x.place h)

-- Holds of what closings of idle connections keep, whatever the limits and the time.
pub record Settles (p q : Pooled) : Type 0 where
  pub placed : IsPlaced q
  pub most : keeps_most q ≡ true
  pub served : serves_those_that_wait q ≡ true
  pub free : free_openings q ≡ free_openings p

-- Closings keep it if all connections that close are among the idle ones.
pub settles : (moves : List Move) (p : Pooled) → list_all starts_closing moves ≡ true → ((d : ℕ) → (times d (out moves) ≡ 0 → ⊥) → times d p.idle ≡ 0 → ⊥) → IsPlaced p → keeps_most p ≡ true → serves_those_that_wait p ≡ true → Settles p (made moves p)
settles moves p closes among placed most served =
    let q = made moves p in
    let left = leaves moves p closes in
    let idle = idle_out moves p closes in
    record {
      placed = closings_placed moves p closes placed;
      most = ap (λ n. nat_le n most_open) left.as_many ∙ most;
      served =
          or_kept (is_empty p.idle) (list_all (λ r. r.last) p.waiting) (is_empty q.idle) (list_all (λ r. r.last) q.waiting) served
          (λ none. ap is_empty idle ∙ none_left_of (out moves) p.idle none)
          (λ all. ap (λ (rs : List Request). list_all (λ r. r.last) rs) left.waiting ∙ all);
      free = as_many_free moves p closes (λ d some. idle_not_free (conn_of d p.conns) (member_is_idle p.idle p.conns d placed (among d some)));
    }

-- If closings leave as many free openings as before, enough openings are still enough.
pub settled_enough : (moves : List Move) (p : Pooled) → list_all starts_closing moves ≡ true → free_openings (made moves p) ≡ free_openings p → opens_enough p ≡ true → opens_enough (made moves p) ≡ true
settled_enough moves p closes free enough =
    let q = made moves p in
    let left = leaves moves p closes in
    let waiting = ap length left.waiting in
    let same : most_allowed q ≡ most_allowed p = ap (λ (l : Limits). cond (nat_le 1 l.max_open && nat_le l.max_open most_open) l.max_open most_open) left.limits in
    let many = left.as_many in
    enough_kept (length p.waiting) (free_openings p) (most_allowed p) (open_count p) (length q.waiting) (free_openings q) (most_allowed q) (open_count q) enough (omega (arith, waiting, free)) (omega (arith, same, many))

pub settled_few : (moves : List Move) (p : Pooled) → list_all starts_closing moves ≡ true → keeps_idle_limit p ≡ true → keeps_idle_limit (made moves p) ≡ true
settled_few moves p closes few =
    let q = made moves p in
    let left = leaves moves p closes in
    let limit = ap (λ (l : Limits). l.max_idle) left.limits in
    let fewer = fewer_left (out moves) p.idle in
    let idle = ap length (idle_out moves p closes) in
    let most = true_le (length p.idle) p.limits.max_idle few in
    le_true (length q.idle) q.limits.max_idle (omega (arith, limit, fewer, idle, most))

pub settled_none : (moves : List Move) (p : Pooled) → list_all starts_closing moves ≡ true → is_empty_when_closed p ≡ true → is_empty_when_closed (made moves p) ≡ true
settled_none moves p closes none =
    let q = made moves p in
    let left = leaves moves p closes in
    or_kept (not p.closed) (is_empty p.idle && is_empty p.waiting) (not q.closed) (is_empty q.idle && is_empty q.waiting) none
    (λ still. ap not left.closed ∙ still)
    (λ both. and_kept (is_empty p.idle) (is_empty p.waiting) (is_empty q.idle) (is_empty q.waiting) both (λ k. ap is_empty (idle_out moves p closes) ∙ none_left_of (out moves) p.idle k) (λ k. ap (λ (rs : List Request). is_empty rs) left.waiting ∙ k))

pub settled_young : (moves : List Move) (p : Pooled) → list_all starts_closing moves ≡ true → Young p.limits p.moment (made moves p).conns → Young (made moves p).limits (made moves p).moment (made moves p).conns
settled_young moves p closes young =
    let left = leaves moves p closes in
    subst (λ (l : Limits). Young l (made moves p).moment (made moves p).conns) (sym left.limits)
    (subst (λ (m : ℕ). Young p.limits m (made moves p).conns) (sym left.moment) young)

-- The first numbers of a list stand in it.
among_first : (k : ℕ) (ns : List ℕ) (d : ℕ) → (times d (take k ns) ≡ 0 → ⊥) → times d ns ≡ 0 → ⊥
among_first zero ns d some none = some refl
among_first (suc k) [] d some none = some refl
among_first (suc k) (n ∷ ns) d some none =
    elim (eqb n d) as (λ b. (cond b (suc (times d (take k ns))) (times d (take k ns)) ≡ 0 → ⊥) → cond b (suc (times d ns)) (times d ns) ≡ 0 → ⊥) [
      | true ↦ λ s z. omega (arith, z)
      | false ↦ λ s z. among_first k ns d s z
    ] some none

-- The connections past their time stand among the idle ones.
among_outdated : (limits : Limits) (moment : ℕ) (conns : List Conn) (ns : List ℕ) (d : ℕ) → (times d (out (filter_map (closing_at limits moment conns) ns)) ≡ 0 → ⊥) → times d ns ≡ 0 → ⊥
among_outdated limits moment conns [] d some none = some refl
among_outdated limits moment conns (n ∷ ns) d some none =
    let rest = out (filter_map (closing_at limits moment conns) ns) in
    elim (cause_at limits moment (conn_of n conns)) as (λ (o : Option CloseCause). (times d (out (cons_option (closing_for n o) (filter_map (closing_at limits moment conns) ns))) ≡ 0 → ⊥) → ⊥) [
      | None ↦ λ s. among_outdated limits moment conns ns d s (elim (eqb n d) as (λ b. cond b (suc (times d ns)) (times d ns) ≡ 0 → times d ns ≡ 0) [ true ↦ λ z. absurd (omega (arith, z)) | false ↦ λ z. z ] none)
      | Some cause ↦ λ s.
          elim (eqb n d) as (λ b. (cond b (suc (times d rest)) (times d rest) ≡ 0 → ⊥) → cond b (suc (times d ns)) (times d ns) ≡ 0 → ⊥) [
            | true ↦ λ t z. omega (arith, z)
            | false ↦ λ t z. among_outdated limits moment conns ns d t z
          ] s none
    ] some

abbrev surplus : Pooled → List ℕ
surplus p = take (length p.idle - p.limits.max_idle) p.idle

pub surplus_closes : (p : Pooled) → list_all starts_closing (closings_of_setting p) ≡ true
surplus_closes p = closings_close IdleFull (surplus p)

pub surplus_settles : (p : Pooled) → IsPlaced p → keeps_most p ≡ true → serves_those_that_wait p ≡ true → Settles p (made (closings_of_setting p) p)
surplus_settles p =
    settles (closings_of_setting p) p (surplus_closes p)
    (λ d some. among_first (length p.idle - p.limits.max_idle) p.idle d (λ none. some (ap (times d) (out-map IdleFull (surplus p)) ∙ none)))

-- After the surplus has closed, the idle limit is kept.
pub surplus_few : (p : Pooled) → keeps_idle_limit (made (closings_of_setting p) p) ≡ true
surplus_few p =
    let k = length p.idle - p.limits.max_idle in
    let q = made (closings_of_setting p) p in
    let left = leaves (closings_of_setting p) p (surplus_closes p) in
    let limit = ap (λ (l : Limits). l.max_idle) left.limits in
    let idle = ap length (idle_out (closings_of_setting p) p (surplus_closes p) ∙ ap (λ (cs : List ℕ). without_all cs p.idle) (out-map IdleFull (surplus p))) in
    let parts = ap (λ (ns : List ℕ). length (without_all (surplus p) ns)) (sym (take-append-drop k p.idle)) in
    let first = first_ones_leave (surplus p) (drop k p.idle) in
    let behind = length-drop k p.idle in
    le_true (length q.idle) q.limits.max_idle (omega (arith, limit, idle, parts, first, behind))

pub outdated_closes : (p : Pooled) → list_all starts_closing (closings_of_tick p) ≡ true
outdated_closes p = outdated_close p.limits p.moment p.conns p.idle

pub outdated_settles : (p : Pooled) → IsPlaced p → keeps_most p ≡ true → serves_those_that_wait p ≡ true → Settles p (made (closings_of_tick p) p)
outdated_settles p = settles (closings_of_tick p) p (outdated_closes p) (λ d some. among_outdated p.limits p.moment p.conns p.idle d some)

-- After those past their time have closed, no connection is past its time.
pub outdated_young : (p : Pooled) → IsPlaced p → Young p.limits p.moment (made (closings_of_tick p) p).conns
outdated_young p placed =
    λ d x found is.
    let still = still_idle (closings_of_tick p) p (outdated_closes p) d x found is in
    subst (IsYoung p.limits p.moment) still.0 (not_outdated p.limits p.moment p.conns p.idle d (idle_is_member p.idle p.conns d x placed still.0 is) still.1)

-- A pool that is at rest except for connections past their time is at rest after these have closed.
pub outdated_rests : (p : Pooled) → IsPlaced p → keeps_most p ≡ true → opens_enough p ≡ true → serves_those_that_wait p ≡ true → keeps_idle_limit p ≡ true → is_empty_when_closed p ≡ true → AtRest (made (closings_of_tick p) p)
outdated_rests p placed most enough served few none =
    let settled = outdated_settles p placed most served in
    wholly (made (closings_of_tick p) p)
    (record {
      placed = settled.placed;
      most = settled.most;
      served = settled.served;
      few = settled_few (closings_of_tick p) p (outdated_closes p) few;
      young = settled_young (closings_of_tick p) p (outdated_closes p) (outdated_young p placed);
      none = settled_none (closings_of_tick p) p (outdated_closes p) none;
    })
    (settled_enough (closings_of_tick p) p (outdated_closes p) settled.free enough)

pub all_close : (p : Pooled) → list_all starts_closing (closings_of_close p) ≡ true
all_close p = closings_close DbClosed p.idle

pub all_settle : (p : Pooled) → IsPlaced p → keeps_most p ≡ true → serves_those_that_wait p ≡ true → Settles p (made (closings_of_close p) p)
all_settle p = settles (closings_of_close p) p (all_close p) (λ d some none. some (ap (times d) (out-map DbClosed p.idle) ∙ none))

nothing_found : (b : Bool) → (b ≡ true → ⊥) → cond {A = ℕ} b 1 0 ≡ 0
nothing_found true h = absurd (h refl)
nothing_found false h = refl

found_idle : (o : Option Conn) → idle_in o ≡ true → (x : Conn) × (o ≡ Some x) × (is_idle (Some x.place) ≡ true)
found_idle None h = cc
found_idle (Some x) h = (x, refl, h)

-- After all idle connections have closed, none is idle.
pub all_gone : (p : Pooled) → IsPlaced p → is_empty (made (closings_of_close p) p).idle ≡ true
all_gone p placed =
    let q = made (closings_of_close p) p in
    let then = closings_placed (closings_of_close p) p (all_close p) placed in
    none_left q.idle
    (λ d.
    then d
    ∙ nothing_found (idle_in (conn_of d q.conns))
    (λ is.
    let x = found_idle (conn_of d q.conns) is in
    let still = still_idle (closings_of_close p) p (all_close p) d x.0 x.1 x.2 in
    idle_is_member p.idle p.conns d x.0 placed still.0 x.2 (sym (ap (times d) (out-map DbClosed p.idle)) ∙ still.1)))
