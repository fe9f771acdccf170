-- Proves that at most a thousand connections are open, and that no more are idle than open.
use Rattle.std.proofs.Common.{◌≡◌, ℕ, suc, ◌+◌, ◌≤◌, ◌==◌, Bool, true, false, not, ◌&&◌, eqb, cond, List, [], ◌∷◌, length, Option, Some, None, refl, sym, ap, ◌∙◌, nat_le, arith, ◌++◌, nat_lt, length-append, ◌<◌}
use Rattle.std.specs.Option.{option_map}
use Rattle.std.proofs.lemmas.Bool.{eqb-true, ne_eqb, eqb-false}
use Rattle.std.proofs.lemmas.Bool.Decides.{nat_tests}
use Rattle.dsql_laws.specs.pool.declared.conn.Conn.{Conn}
use Rattle.dsql_laws.specs.pool.Changes.{back, opening, lent, closing, unwanted}
use Rattle.dsql_laws.specs.pool.Places.{conn_of, is_idle}
use Rattle.dsql_laws.specs.pool.Pooled.{Pooled, open_count, most_allowed, most_open, without, next_number}
use Rattle.dsql_laws.specs.pool.Rest.{times, AtRest}
use Rattle.dsql_laws.proofs.pool.Members.{times-without_other, times-without_same}
use Rattle.std.proofs.lemmas.List.{length-map}
use Rattle.dsql_laws.specs.pool.declared.moves.Move.TheVariants.{OpenStart, Lend, Back, CloseStart, Gone, Fell}
use Rattle.dsql_laws.proofs.pool.Frees.{length-changed, length-gone}
use Rattle.dsql_laws.specs.history.declared.event.Control.{Control}
use Rattle.dsql_laws.specs.history.declared.event.Setting.TheVariants.{MaxOpen}
use Rattle.dsql_laws.specs.history.declared.event.Control.TheVariants.{Tick, Set}
use Rattle.dsql_laws.specs.history.Readers.Pool.{with_control, pool, wanted_by}
use Rattle.dsql_laws.specs.history.declared.event.Event.{Event}
use Rattle.dsql_laws.specs.history.declared.event.Event.TheVariants.{Entered, Pool, Ticked, SetLimit, Ended}
use Rattle.dsql_laws.specs.history.declared.event.Op.TheVariants.{DbClose}
use Rattle.dsql_laws.specs.history.Rules.Limit.{keeps_limit}
use Rattle.dsql_laws.specs.history.Legal.{Allowed, Lawful}

-- At most a thousand connections may be open.
pub room_most : (p : Pooled) → most_allowed p ≤ most_open
room_most p = by (nat_le 1 p.limits.max_open) (nat_le p.limits.max_open most_open) refl
  where
    by : (a b : Bool) → nat_le p.limits.max_open most_open ≡ b → cond (a && b) p.limits.max_open most_open ≤ most_open
    by true true h = grind (arith, nat_tests)
    by true false h = omega arith
    by false b h = omega arith

-- Different numbers of open connections are no more than the open connections.

abbrev found : Option Conn → ℕ
found None = 0
found (Some x) = 1

length_without : (c : ℕ) (ns : List ℕ) → length ns ≡ length (without c ns) + times c ns
length_without c [] = refl
length_without c (e ∷ es) =
    let rest = length_without c es in
    elim (e == c) as (λ b. suc (length es) ≡ length (cond (not b) (e ∷ without c es) (without c es)) + cond b (suc (times c es)) (times c es)) [
      | true ↦ omega (arith, rest)
      | false ↦ omega (arith, rest)
    ]

none_found : (ns : List ℕ) → ((c : ℕ) → times c ns ≤ 0) → length ns ≤ 0
none_found [] h = omega arith
none_found (e ∷ es) h =
    let here = h e in
    let itself : (e == e) ≡ true = grind (arith, nat_tests) in
    let some : times e (e ∷ es) ≡ suc (times e es) = ap (λ (b : Bool). cond b (suc (times e es)) (times e es)) itself in
    absurd (omega (arith, here, some))

one_at_most : (o : Option Conn) → found o ≤ 1
one_at_most None = omega arith
one_at_most (Some x) = omega arith

no_more : (ns : List ℕ) (conns : List Conn) → ((c : ℕ) → times c ns ≤ found (conn_of c conns)) → length ns ≤ length conns
no_more ns [] h = none_found ns h
no_more ns (x ∷ xs) h =
    let d = x.number in
    let rest = no_more (without d ns) xs others in
    let split = length_without d ns in
    let one = one_at_most (conn_of d (x ∷ xs)) in
    let here = h d in
    omega (arith, rest, split, one, here)
  where
    others : (c : ℕ) → times c (without x.number ns) ≤ found (conn_of c xs)
    others c = by (x.number == c) refl
      where
        by : (b : Bool) → (x.number == c) ≡ b → times c (without x.number ns) ≤ found (conn_of c xs)
        by true is =
            let none : times c (without x.number ns) ≡ 0 = ap (λ k. times c (without k ns)) (eqb-true x.number c is) ∙ times-without_same c ns in
            omega (arith, none)
        by false is =
            let back : eqb c x.number ≡ false = ne_eqb c x.number (λ same. eqb-false x.number c is (sym same)) in
            let same = times-without_other x.number c ns back in
            let behind : conn_of c (x ∷ xs) ≡ conn_of c xs = ap (λ (b : Bool). cond b (Some x) (conn_of c xs)) is in
            let had = h c in
            let counted : found (conn_of c (x ∷ xs)) ≡ found (conn_of c xs) = ap found behind in
            omega (arith, same, had, counted)

idle_found : (o : Option Conn) → cond {A = ℕ} (is_idle (option_map (λ x. x.place) o)) 1 0 ≤ found o
idle_found None = omega arith
idle_found (Some x) = elim (is_idle (Some x.place)) as (λ b. cond {A = ℕ} b 1 0 ≤ 1) [ true ↦ omega arith | false ↦ omega arith ]

pub few_idle : (p : Pooled) → AtRest p → length p.idle ≤ open_count p
few_idle p h = no_more p.idle p.conns (λ c. let once = h.placed c in let some = idle_found (conn_of c p.conns) in omega (arith, once, some))

limit_of : (H : List Event) (e : Event) → Allowed H e → keeps_limit H e ≡ true
unfolding Allowed
limit_of H e a = a.limit

one_more : (p : Pooled) (c : ℕ) (conns : List Conn) (x : Conn) → nat_lt (open_count p) (most_allowed p) ≡ true → length (p.conns ++ x ∷ []) ≤ most_open
one_more p c conns x h =
    let most = room_most p in
    let more = length-append p.conns (x ∷ []) in
    let below : open_count p < most_allowed p = grind (arith, nat_tests) in
    omega (arith, most, more, below)

same_control : (control : Control) (p : Pooled) → open_count (with_control control p) ≡ open_count p
same_control (Set MaxOpen k) p = refl
same_control _ p = refl

pub few_open : (H : List Event) → Lawful H → open_count (pool H) ≤ most_open
few_open [] l = omega arith
few_open (Entered client m DbClose ∷ H) l = let rest = few_open H l.0 in let same = length-map (pool H).conns unwanted in omega (arith, rest, same)
few_open (Pool (OpenStart c m) ∷ H) l = one_more (pool H) c (pool H).conns (opening (next_number (pool H)) (wanted_by H m)) (limit_of H (Pool (OpenStart c m)) l.1)
few_open (Pool (Lend c t o m) ∷ H) l = let rest = few_open H l.0 in let same = length-changed c (lent t o (pool H).moment) (pool H).conns in omega (arith, rest, same)
few_open (Pool (Back c) ∷ H) l = let rest = few_open H l.0 in let same = length-changed c (back (pool H).moment) (pool H).conns in omega (arith, rest, same)
few_open (Pool (CloseStart c why) ∷ H) l = let rest = few_open H l.0 in let same = length-changed c closing (pool H).conns in omega (arith, rest, same)
few_open (Pool (Gone c) ∷ H) l = let rest = few_open H l.0 in let few = length-gone c (pool H).conns in omega (arith, rest, few)
few_open (Pool (Fell c m) ∷ H) l = let rest = few_open H l.0 in let few = length-gone c (pool H).conns in omega (arith, rest, few)
few_open (Ticked now ∷ H) l = let rest = few_open H l.0 in let same = same_control (Tick now) (pool H) in omega (arith, rest, same)
few_open (SetLimit s k ∷ H) l = let rest = few_open H l.0 in let same = same_control (Set s k) (pool H) in omega (arith, rest, same)
few_open (Ended ∷ H) l = let rest = few_open H l.0 in let same = length-map (pool H).conns unwanted in omega (arith, rest, same)
few_open (_ ∷ H) l = few_open H l.0
