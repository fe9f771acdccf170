-- Proves that each move which the pool decides on can be made when its turn comes. The argument takes each way
-- to decide on moves in turn.
use Rattle.std.proofs.Common.{◌≡◌, ℕ, zero, suc, ◌+◌, ◌-◌, ◌≤◌, ◌==◌, nat_lt, Bool, true, false, not, ◌&&◌, ◌||◌, cond, List, [], ◌∷◌, ◌++◌, length, map, append-nil, Option, Some, None, refl, sym, ap, subst, ◌∙◌, arith}
use Rattle.std.specs.Prelude.{ℤ, drop, take}
use Rattle.std.specs.List.{list_all}
use Rattle.std.specs.Option.{option_map}
use Rattle.std.proofs.lemmas.Bool.Decides.{nat_tests}
use Rattle.std.proofs.lemmas.List.{take-append-drop, length-append}
use Rattle.dsql_history.specs.journal.declared.entry.Entry.{Entry}
use Rattle.dsql_history.specs.journal.Journal.{is_whole}
use Rattle.dsql_history.specs.wait.declared.request.Request.{Request}
use Rattle.dsql_history.specs.pool.declared.conn.Conn.{Conn}
use Rattle.dsql_history.specs.pool.declared.conn.Place.{Place}
use Rattle.dsql_history.specs.pool.declared.conn.Place.TheVariants.{Idle, Opening}
use Rattle.dsql_history.specs.pool.declared.moves.CloseCause.{CloseCause}
use Rattle.dsql_history.specs.pool.declared.moves.CloseCause.TheVariants.{IdleFull, DbClosed}
use Rattle.dsql_history.specs.pool.declared.moves.Move.{Move}
use Rattle.dsql_history.specs.pool.declared.moves.Move.TheVariants.{OpenStart, Lend, Back, CloseStart, Gone, Fell}
use Rattle.dsql_history.specs.pool.declared.moves.Outcome.{Outcome}
use Rattle.dsql_history.specs.pool.declared.moves.Outcome.TheVariants.{Closes, Serves, Rests}
use Rattle.dsql_history.specs.pool.Changes.{opening, back, closing, unwanted}
use Rattle.dsql_history.specs.pool.Places.{conn_of, is_lent, is_idle, is_opening, is_closing}
use Rattle.dsql_history.specs.journal.Kinds.{number_of}
use Rattle.dsql_history.specs.pool.Pooled.{Pooled, place_at, next_tenure, next_number, open_count, most_allowed, without}
use Rattle.dsql_history.specs.pool.Rest.{times}
use Rattle.dsql_history.specs.pool.Moved.{made, moved, begun, shut}
use Rattle.dsql_history.specs.pool.Decisions.{closings_of_setting, closings_of_tick, falls_to, openings, openings_for_waiting, due_openings, lends_to_oldest, moves_back, moves_unwanted, when_unwanted, when_opened}
use Rattle.dsql_history.specs.pool.Calls.{then_openings, moves_failed, moves_gone, moves_closed, open_set, idle_set}
use Rattle.dsql_history.proofs.pool.Found.{found_changed, lends_stay}
use Rattle.dsql_history.proofs.pool.Placed.{Placed, placed_away, placed_map}
use Rattle.dsql_laws.proofs.Tests.{both, together, same_itself}
use Rattle.dsql_laws.proofs.Outdated.{close_idle, outdated_close}

-- Is true if the move can be made at present and doesn't take a connection away from an owner. A move by which
-- a connection leaves the four sets also needs a whole journal.
abbrev pub is_able : (ℕ → List Entry) → Pooled → Move → Bool
is_able J p (OpenStart c n) = (c == next_number p) && nat_lt (open_count p) (most_allowed p)
is_able J p (Lend c t o n) = (is_idle (place_at p c) || is_opening (place_at p c)) && ((t == next_tenure p c) && (n == number_of o))
is_able J p (Back c) = is_opening (place_at p c)
is_able J p (CloseStart c why) = is_idle (place_at p c) || is_opening (place_at p c)
is_able J p (Gone c) = is_closing (place_at p c) && is_whole (J c)
is_able J p (Fell c n) = is_opening (place_at p c) && is_whole (J c)

-- Is true if each of these moves can be made when its turn comes.
abbrev pub are_able : (ℕ → List Entry) → List Move → Pooled → Bool
are_able J [] p = true
are_able J (m ∷ ms) p = is_able J p m && are_able J ms (moved m p)

-- Is true if the request's call number is its owner's.
abbrev pub is_own_request : Request → Bool
is_own_request r = r.call == number_of r.owner

able_alone : (J : ℕ → List Entry) (m : Move) (p : Pooled) → is_able J p m ≡ true → are_able J (m ∷ []) p ≡ true
able_alone J m p h = together (is_able J p m) true h refl

able-append : (J : ℕ → List Entry) (ms ns : List Move) (p : Pooled) → are_able J ms p ≡ true → are_able J ns (made ms p) ≡ true → are_able J (ms ++ ns) p ≡ true
able-append J [] ns p h k = k
able-append J (m ∷ ms) ns p h k =
    let a = both (is_able J p m) (are_able J ms (moved m p)) h in
    together (is_able J p m) (are_able J (ms ++ ns) (moved m p)) a.0 (able-append J ms ns (moved m p) a.1 k)

openings_able : (J : ℕ → List Entry) (k c : ℕ) (p : Pooled) → c ≡ next_number p → k ≤ most_allowed p - open_count p → are_able J (openings k c) p ≡ true
openings_able J zero c p is h = refl
openings_able J (suc k) c p is h =
    let number : (c == next_number p) ≡ true = grind (arith, nat_tests, is) in
    let below : nat_lt (open_count p) (most_allowed p) ≡ true = grind (arith, nat_tests, h) in
    let more : length (p.conns ++ opening (next_number p) None ∷ []) ≡ length p.conns + 1 = length-append p.conns (opening (next_number p) None ∷ []) in
    let rest = openings_able J k (c + 1) (begun None p) (ap (λ n. n + 1) is) (omega (arith, more, h)) in
    together (is_able J p (OpenStart c 0)) (are_able J (openings k (c + 1)) (begun None p)) (together (c == next_number p) (nat_lt (open_count p) (most_allowed p)) number below) rest

then_able : (J : ℕ → List Entry) (ms : List Move) (p : Pooled) → are_able J ms p ≡ true → are_able J (then_openings ms p) p ≡ true
then_able J ms p h =
    let q = made ms p in
    able-append J ms (openings_for_waiting q) p h (openings_able J (due_openings q) (next_number q) q refl (omega arith))

-- Idle connections begin to be closed, the longest idle first.

pub placed_once : (b : Bool) (n : ℕ) → suc n ≡ cond {A = ℕ} b 1 0 → (b ≡ true) × (n ≡ 0)
placed_once true n h = (refl, omega (arith, h))
placed_once false n h = absurd (omega (arith, h))

without_none : (c : ℕ) (ns : List ℕ) → times c ns ≡ 0 → without c ns ≡ ns
without_none c [] h = refl
without_none c (e ∷ es) h =
    elim (e == c) as (λ b. cond b (suc (times c es)) (times c es) ≡ 0 → cond (not b) (e ∷ without c es) (without c es) ≡ e ∷ es) [
      | true ↦ λ k. absurd (omega (arith, k))
      | false ↦ λ k. ap (λ xs. e ∷ xs) (without_none c es k)
    ] h

pub without_first : (c : ℕ) (ns : List ℕ) → times c ns ≡ 0 → without c (c ∷ ns) ≡ ns
without_first c ns none = ap (λ (b : Bool). cond (not b) (c ∷ without c ns) (without c ns)) (same_itself c) ∙ without_none c ns none

closings_able : (J : ℕ → List Entry) (why : CloseCause) (cs more : List ℕ) (p : Pooled) → p.idle ≡ cs ++ more → Placed p.idle p.conns → are_able J (map (λ c. CloseStart c why) cs) p ≡ true
closings_able J why [] more p is h = refl
closings_able J why (c ∷ cs) more p is h =
    let first : times c (c ∷ (cs ++ more)) ≡ suc (times c (cs ++ more)) = ap (λ (b : Bool). cond b (suc (times c (cs ++ more))) (times c (cs ++ more))) (same_itself c) in
    let once = placed_once (is_idle (place_at p c)) (times c (cs ++ more)) (sym first ∙ (ap (times c) (sym is) ∙ h c)) in
    let left : without c p.idle ≡ cs ++ more = ap (without c) is ∙ without_first c (cs ++ more) once.1 in
    let rest = closings_able J why cs more (moved (CloseStart c why) p) left (placed_away c closing (λ _. refl) (λ _. refl) p.idle p.conns h) in
    together (is_able J p (CloseStart c why)) (are_able J (map (λ d. CloseStart d why) cs) (moved (CloseStart c why) p)) (ap (λ b. b || is_opening (place_at p c)) once.0) rest

surplus_able : (J : ℕ → List Entry) (p : Pooled) → Placed p.idle p.conns → are_able J (closings_of_setting p) p ≡ true
surplus_able J p h =
    let k = length p.idle - p.limits.max_idle in closings_able J IdleFull (take k p.idle) (drop k p.idle) p (sym (take-append-drop k p.idle)) h

pub open_set_able : (J : ℕ → List Entry) (n : ℤ) (p : Pooled) → Placed p.idle p.conns → are_able J (then_openings (closings_of_setting (open_set n p)) (open_set n p)) (open_set n p) ≡ true
open_set_able J n p h = then_able J (closings_of_setting (open_set n p)) (open_set n p) (surplus_able J (open_set n p) h)

pub idle_set_able : (J : ℕ → List Entry) (n : ℤ) (p : Pooled) → Placed p.idle p.conns → are_able J (closings_of_setting (idle_set n p)) (idle_set n p) ≡ true
idle_set_able J n p h = surplus_able J (idle_set n p) h

closing_idle_able : (J : ℕ → List Entry) (ms : List Move) (p : Pooled) → close_idle ms p ≡ true → are_able J ms p ≡ true
closing_idle_able J [] p h = refl
closing_idle_able J (CloseStart c why ∷ ms) p h =
    let a = both (is_idle (place_at p c)) (close_idle ms (moved (CloseStart c why) p)) h in
    together (is_able J p (CloseStart c why)) (are_able J ms (moved (CloseStart c why) p)) (ap (λ b. b || is_opening (place_at p c)) a.0) (closing_idle_able J ms (moved (CloseStart c why) p) a.1)
closing_idle_able J (_ ∷ ms) p h = absurd cc

pub outdated_able : (J : ℕ → List Entry) (p : Pooled) → Placed p.idle p.conns → are_able J (closings_of_tick p) p ≡ true
outdated_able J p h = closing_idle_able J (closings_of_tick p) p (outdated_close p h)

pub keeps_number : (x : Conn) → (unwanted x).number ≡ x.number
keeps_number x = elim (is_opening (Some x.place)) as (λ b. (cond b (record x { place = Opening None }) x).number ≡ x.number) [ true ↦ refl | false ↦ refl ]

pub stays_idle : (x : Conn) → is_idle (Some (unwanted x).place) ≡ is_idle (Some x.place)
stays_idle x = at x.place refl
  where
    at : (place : Place) → x.place ≡ place → is_idle (Some (unwanted x).place) ≡ is_idle (Some x.place)
    at Idle is = rw is refl
    at _ is = rw is refl

pub closed_able : (J : ℕ → List Entry) (p : Pooled) → Placed p.idle p.conns → are_able J (moves_closed p) (shut p) ≡ true
closed_able J p h = closings_able J DbClosed p.idle [] (shut p) (sym (append-nil p.idle)) (placed_map unwanted keeps_number stays_idle p.idle p.conns h)

-- Connections are opened, refused, shut or given back.

oldest_able : (J : ℕ → List Entry) (c t : ℕ) (p : Pooled) (rs : List Request) → list_all is_own_request rs ≡ true → (is_idle (place_at p c) || is_opening (place_at p c)) ≡ true → t ≡ next_tenure p c → are_able J (lends_to_oldest c t rs) p ≡ true
oldest_able J c t p [] own from tenure = refl
oldest_able J c t p (r ∷ rs) own from tenure =
    let a = both (is_own_request r) (list_all is_own_request rs) own in
    let numbered : (t == next_tenure p c) ≡ true = grind (arith, nat_tests, tenure) in
    able_alone J (Lend c t r.owner r.call) p
    (together (is_idle (place_at p c) || is_opening (place_at p c)) ((t == next_tenure p c) && is_own_request r) from (together (t == next_tenure p c) (is_own_request r) numbered a.0))

or_second : (a : Bool) → (a || true) ≡ true
or_second true = refl
or_second false = refl

from_opening : (o : Option Place) → is_opening o ≡ true → (is_idle o || is_opening o) ≡ true
from_opening o h = ap (λ b. is_idle o || b) h ∙ or_second (is_idle o)

unwanted_able : (J : ℕ → List Entry) (c : ℕ) (p : Pooled) (o : Outcome) → list_all is_own_request p.waiting ≡ true → is_opening (place_at p c) ≡ true → are_able J (moves_unwanted c p o) p ≡ true
unwanted_able J c p (Closes why) own h = able_alone J (CloseStart c why) p (from_opening (place_at p c) h)
unwanted_able J c p Serves own h = oldest_able J c (next_tenure p c) p p.waiting own (from_opening (place_at p c) h) refl
unwanted_able J c p Rests own h = able_alone J (Back c) p h

pub opened_able : (J : ℕ → List Entry) (c : ℕ) (p : Pooled) (at : Option Place) → place_at p c ≡ at → list_all is_own_request p.waiting ≡ true → are_able J (when_opened at c p) p ≡ true
opened_able J c p (Some (Opening (Some owner))) is own =
    let t = next_tenure p c in
    able_alone J (Lend c t owner (number_of owner)) p
    (together (is_idle (place_at p c) || is_opening (place_at p c)) ((t == t) && (number_of owner == number_of owner)) (from_opening (place_at p c) (ap is_opening is))
    (together (t == t) (number_of owner == number_of owner) (same_itself t) (same_itself (number_of owner))))
opened_able J c p (Some (Opening None)) is own = unwanted_able J c p (when_unwanted p) own (ap is_opening is)
opened_able J c p _ is own = refl

pub failed_able : (J : ℕ → List Entry) (c : ℕ) (p : Pooled) → is_opening (place_at p c) ≡ true → is_whole (J c) ≡ true → are_able J (moves_failed c p) p ≡ true
failed_able J c p h whole =
    let n = falls_to (place_at p c) p in
    then_able J (Fell c n ∷ []) p (able_alone J (Fell c n) p (together (is_opening (place_at p c)) (is_whole (J c)) h whole))

pub gone_able : (J : ℕ → List Entry) (c : ℕ) (p : Pooled) → is_closing (place_at p c) ≡ true → is_whole (J c) ≡ true → are_able J (moves_gone c p) p ≡ true
gone_able J c p h whole = then_able J (Gone c ∷ []) p (able_alone J (Gone c) p (together (is_closing (place_at p c)) (is_whole (J c)) h whole))

came_back : (moment : ℕ) (o : Option Conn) → is_lent (option_map (λ x. x.place) o) ≡ true → is_idle (option_map (λ x. x.place) (option_map (back moment) o)) ≡ true
came_back moment None h = absurd cc
came_back moment (Some x) h = refl

back_idle : (c : ℕ) (p : Pooled) → is_lent (place_at p c) ≡ true → is_idle (place_at (moved (Back c) p) c) ≡ true
back_idle c p h = ap (λ (o : Option Conn). is_idle (option_map (λ x. x.place) o)) (found_changed c (back p.moment) (λ _. refl) p.conns) ∙ came_back p.moment (conn_of c p.conns) h

abbrev head_or : Move → List Move → Move
head_or d [] = d
head_or d (x ∷ xs) = x

-- As a connection is given back, the moves after the first can be made when their turn comes.
pub back_able : (J : ℕ → List Entry) (c : ℕ) (p : Pooled) (o : Outcome) (m : Move) (ms : List Move) → moves_back c p o ≡ m ∷ ms → list_all is_own_request p.waiting ≡ true → is_lent (place_at p c) ≡ true → are_able J ms (moved m p) ≡ true
back_able J c p Serves m ms is own h =
    let q = moved (Back c) p in
    let t = next_tenure p c in
    let idle : (is_idle (place_at q c) || is_opening (place_at q c)) ≡ true = ap (λ b. b || is_opening (place_at q c)) (back_idle c p h) in
    let tenure : t ≡ next_tenure q c = ap (λ n. n + 2) (sym (lends_stay c p.moment p.conns)) in
    let rest : are_able J (lends_to_oldest c t p.waiting) q ≡ true = oldest_able J c t q p.waiting own idle tenure in
    let first : Back c ≡ m = ap (λ ns. head_or m ns) is in
    subst (λ k. are_able J ms (moved k p) ≡ true) first (subst (λ ns. are_able J ns q ≡ true) (ap (drop 1) is) rest)
back_able J c p _ m ms is own h = subst (λ ns. are_able J ns (moved m p) ≡ true) (ap (drop 1) is) refl
