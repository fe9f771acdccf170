-- The pool that is at rest except for openings that are due, and at rest after they have begun.
use Rattle.std.proofs.Common.{◌≡◌, ℕ, zero, suc, ◌+◌, ◌-◌, ◌≤◌, Bool, true, false, not, ◌&&◌, ◌||◌, cond, List, [], ◌∷◌, length, None, refl, sym, ap, ◌∙◌, subst, arith, min}
use Rattle.std.specs.Prelude.{nat_le, filter}
use Rattle.std.specs.List.{list_all}
use Rattle.std.proofs.lemmas.Bool.Decides.{nat_tests}
use Rattle.dsql_tenure_journal.specs.Readers.{is_empty}
use Rattle.dsql_time.specs.declared.Limits.{Limits}
use Rattle.dsql_wait.specs.declared.request.Request.{Request}
use Rattle.dsql_pool.specs.Changes.{opening}
use Rattle.dsql_pool.specs.Pooled.{Pooled, open_count, free_openings, next_number, most_allowed, most_open}
use Rattle.dsql_pool.specs.Moved.{made, begun}
use Rattle.dsql_pool.specs.Decisions.{openings, openings_for_waiting, due_openings}
use Rattle.dsql_pool.specs.Rest.{AtRest, IsPlaced, keeps_most, opens_enough, serves_those_that_wait, keeps_idle_limit, is_empty_when_closed}
use Rattle.dsql_pool.proofs.Due.{open_so_far, allowed_most}
use Rattle.dsql_pool.proofs.Placed.{Placed, placed_more}
use Rattle.dsql_pool.proofs.Young.{Young, young_list, list_young, young_more}
use Rattle.dsql_pool.proofs.Frees.{count-more}
use Rattle.dsql_pool.proofs.Leaving.{free}

-- Holds if all holds that holds at rest, except that openings may be due.
pub record Nearly (p : Pooled) : Type 0 where
  pub placed : IsPlaced p
  pub most : keeps_most p ≡ true
  pub served : serves_those_that_wait p ≡ true
  pub few : keeps_idle_limit p ≡ true
  pub young : Young p.limits p.moment p.conns
  pub none : is_empty_when_closed p ≡ true

pub young_at : (p : Pooled) → AtRest p → Young p.limits p.moment p.conns
young_at p h = list_young p.limits p.moment p.idle p.conns h.placed h.young

pub wholly : (p : Pooled) → Nearly p → opens_enough p ≡ true → AtRest p
wholly p h enough = record { placed = h.placed; most = h.most; enough = enough; served = h.served; few = h.few; young = young_list p.limits p.moment p.idle p.conns h.placed h.young; none = h.none }

pub le_true : (m n : ℕ) → m ≤ n → nat_le m n ≡ true
le_true m n h = grind (arith, nat_tests)

pub true_le : (m n : ℕ) → nat_le m n ≡ true → m ≤ n
true_le m n h = grind (arith, nat_tests)

pub or_left : (a b : Bool) → a ≡ true → (a || b) ≡ true
or_left true b h = refl
or_left false b h = cc

pub or_right : (a b : Bool) → b ≡ true → (a || b) ≡ true
or_right true b h = refl
or_right false b h = h

pub or_kept : (a b a' b' : Bool) → (a || b) ≡ true → (a ≡ true → a' ≡ true) → (b ≡ true → b' ≡ true) → (a' || b') ≡ true
or_kept true b a' b' h f g = or_left a' b' (f refl)
or_kept false b a' b' h f g = or_right a' b' (g h)

pub and_kept : (a b a' b' : Bool) → (a && b) ≡ true → (a ≡ true → a' ≡ true) → (b ≡ true → b' ≡ true) → (a' && b') ≡ true
and_kept true b true b' h f g = g h
and_kept true b false b' h f g = let bad : false ≡ true = f refl in cc
and_kept false b a' b' h f g = cc

pub empty_filter : (q : Request → Bool) (rs : List Request) → is_empty rs ≡ true → is_empty (filter q rs) ≡ true
empty_filter q [] h = refl
empty_filter q (r ∷ rs) h = cc

pub fewer_requests : (q : Request → Bool) (rs : List Request) → length (filter q rs) ≤ length rs
fewer_requests q [] = omega arith
fewer_requests q (r ∷ rs) =
    let rest = fewer_requests q rs in
    elim (q r) as (λ b. length (cond b (r ∷ filter q rs) (filter q rs)) ≤ length (r ∷ rs)) [ true ↦ omega (arith, rest) | false ↦ omega (arith, rest) ]

-- Holds of what openings for no request of their own leave as it was and what they make.
pub record Opens (k : ℕ) (p q : Pooled) : Type 0 where
  pub idle : q.idle ≡ p.idle
  pub waiting : q.waiting ≡ p.waiting
  pub limits : q.limits ≡ p.limits
  pub moment : q.moment ≡ p.moment
  pub closed : q.closed ≡ p.closed
  pub free : free_openings q ≡ free_openings p + k

pub opens : (k c : ℕ) (p : Pooled) → Opens k p (made (openings k c) p)
opens zero c p = record { idle = refl; waiting = refl; limits = refl; moment = refl; closed = refl; free = omega arith }
opens (suc k) c p =
    let rest = opens k (c + 1) (begun None p) in
    let more = count-more free (opening (next_number p) None) p.conns in
    record { idle = rest.idle; waiting = rest.waiting; limits = rest.limits; moment = rest.moment; closed = rest.closed; free = let so_far = rest.free in omega (arith, so_far, more) }

placed_openings : (k c : ℕ) (p : Pooled) → Placed p.idle p.conns → Placed (made (openings k c) p).idle (made (openings k c) p).conns
placed_openings zero c p h = h
placed_openings (suc k) c p h = placed_openings k (c + 1) (begun None p) (placed_more (next_number p) None p.idle p.conns h)

young_openings : (k c : ℕ) (p : Pooled) → Young p.limits p.moment p.conns → Young p.limits p.moment (made (openings k c) p).conns
young_openings zero c p h = h
young_openings (suc k) c p h = young_openings k (c + 1) (begun None p) (young_more p.limits p.moment (next_number p) None p.conns h)

pub enough_due : (w f r o w' f' r' o' : ℕ) → w' ≡ w → f' ≡ f + min (w - f) (r - o) → r' ≡ r → o' ≡ o + min (w - f) (r - o) → (nat_le w' f' || nat_le r' o') ≡ true
enough_due w f r o w' f' r' o' same more allowed opened = grind (arith, nat_tests, same, more, allowed, opened)

-- After the openings that are due have begun, the pool is at rest.
pub opened_rests : (p : Pooled) → Nearly p → AtRest (made (openings_for_waiting p) p)
opened_rests p h =
    let k = due_openings p in
    let c = next_number p in
    let q = made (openings k c) p in
    let o = opens k c p in
    let allowed_same : most_allowed q ≡ most_allowed p = ap (λ (l : Limits). cond (nat_le 1 l.max_open && nat_le l.max_open most_open) l.max_open most_open) o.limits in
    let so_many = open_so_far k c p in
    wholly q
    (record {
      placed = placed_openings k c p h.placed;
      most =
          let allowed = allowed_most p in
          let few = true_le (open_count p) most_open h.most in
          le_true (open_count q) most_open (omega (arith, so_many, allowed, few));
      served = ap (λ (ns : List ℕ). is_empty ns || list_all (λ r. r.last) q.waiting) o.idle ∙ (ap (λ (rs : List Request). is_empty p.idle || list_all (λ r. r.last) rs) o.waiting ∙ h.served);
      few = ap (λ (ns : List ℕ). nat_le (length ns) q.limits.max_idle) o.idle ∙ (ap (λ (l : Limits). nat_le (length p.idle) l.max_idle) o.limits ∙ h.few);
      young = subst (λ (l : Limits). Young l q.moment q.conns) (sym o.limits) (subst (λ (m : ℕ). Young p.limits m q.conns) (sym o.moment) (young_openings k c p h.young));
      none = ap (λ (b : Bool). not b || (is_empty q.idle && is_empty q.waiting)) o.closed ∙ (ap (λ (ns : List ℕ). not p.closed || (is_empty ns && is_empty q.waiting)) o.idle ∙ (ap (λ (rs : List Request). not p.closed || (is_empty p.idle && is_empty rs)) o.waiting ∙ h.none));
    })
    (enough_due (length p.waiting) (free_openings p) (most_allowed p) (open_count p) (length q.waiting) (free_openings q) (most_allowed q) (open_count q) (ap length o.waiting) o.free allowed_same so_many)
