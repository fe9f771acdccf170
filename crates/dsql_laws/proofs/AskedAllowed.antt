-- Proves that what follows from a call that asks for a connection is allowed: a lending, an opening, or a wait.
use Rattle.std.proofs.Common.{◌≡◌, ℕ, zero, suc, ◌-◌, ◌<◌, ◌==◌, Bool, true, false, not, ◌&&◌, cond, List, [], ◌∷◌, length, get_or, refl, sym, ap, subst, ◌∙◌, arith, nat_lt, ◌||◌}
use Rattle.std.specs.Prelude.{Result, Ok, Err}
use Rattle.dsql_history.specs.journal.Readers.{is_empty}
use Rattle.dsql_history.specs.wait.declared.request.Request.{Request}
use Rattle.dsql_history.specs.pool.declared.request.Asked.{Asked}
use Rattle.dsql_history.specs.pool.declared.request.Asked.TheVariants as asked
use Rattle.dsql_history.specs.pool.declared.request.AskFault.{AskFault}
use Rattle.dsql_history.specs.pool.declared.request.AskFault.TheVariants.{TooMany}
use Rattle.dsql_history.specs.pool.Places.{is_idle, is_opening}
use Rattle.dsql_history.specs.pool.Pooled.{Pooled, place_at, next_number, next_tenure, open_count, most_allowed}
use Rattle.dsql_history.specs.pool.Rest.{times, AtRest}
use Rattle.dsql_history.specs.pool.Decisions.{last, takes_idle, are_too_many, may_open, when_none_idle}
use Rattle.dsql_history.proofs.pool.Young.{member_is_idle}
use Rattle.dsql_laws.proofs.Tests.{same_itself, together, move_itself}
use Rattle.std.proofs.lemmas.Bool.Decides.{nat_tests}
use Rattle.dsql_history.specs.journal.Kinds.{number_of}
use Rattle.dsql_history.specs.pool.declared.moves.Move.{Move}
use Rattle.dsql_history.specs.pool.declared.moves.Move.TheVariants.{OpenStart, Lend}
use Rattle.dsql_history.specs.pool.Calls.{moves_asked}
use Rattle.dsql_history.proofs.pool.Lawful.{asks_within}
use Rattle.dsql_history.specs.Same.{is_first}
use Rattle.dsql_history.specs.declared.event.Event.{Event}
use Rattle.dsql_history.specs.declared.event.Event.TheVariants.{Pool, Waits}
use Rattle.dsql_history.specs.Readers.Pool.{pool, request}
use Rattle.dsql_history.specs.Readers.Owed.{owed}
use Rattle.dsql_history.specs.Rules.Asking.{may_ask, ask_outcome, asks_by_itself, is_asked_for, is_queued, unless_owed}
use Rattle.dsql_history.specs.Rules.Settled.{is_settled_but}
use Rattle.dsql_history.specs.Rules.Course.{keeps_course}
use Rattle.dsql_history.specs.Readers.Works.{owner_of}
use Rattle.dsql_history.specs.Rules.Order.{follows, keeps_order}
use Rattle.dsql_history.specs.Legal.{Allowed, Lawful}
use Rattle.dsql_laws.proofs.Truths.{or_second}
use Rattle.dsql_laws.specs.Asked.{with_asked}
use Rattle.dsql_laws.proofs.Owners.{owner_number}
use Rattle.dsql_laws.proofs.AtRest.{rests_owing_nothing}

-- An element of a list occurs in it.
stands : (ns : List ℕ) (i : ℕ) → i < length ns → times (get_or ns i 0) ns ≡ 0 → ⊥
stands [] i within none = omega (arith, within)
stands (n ∷ ns) zero within none = let first : times n (n ∷ ns) ≡ suc (times n ns) = ap (λ (b : Bool). cond b (suc (times n ns)) (times n ns)) (same_itself n) in omega (arith, first, none)
stands (n ∷ ns) (suc i) within none =
    let d = get_or ns i 0 in
    stands ns i (omega (arith, within)) (elim (n == d) as (λ b. cond b (suc (times d ns)) (times d ns) ≡ 0 → times d ns ≡ 0) [ true ↦ λ z. absurd (omega (arith, z)) | false ↦ λ z. z ] none)

last_stands : (ns : List ℕ) → is_empty ns ≡ false → times (last ns) ns ≡ 0 → ⊥
last_stands [] h none = cc
last_stands (n ∷ ns) h none = stands (n ∷ ns) (length (n ∷ ns) - 1) (omega arith) none

not_empty : (a b : Bool) → (a && not b) ≡ true → b ≡ false
not_empty true true h = absurd cc
not_empty true false h = refl
not_empty false b h = absurd cc

-- Holds if the connection that a request takes is idle, and the request gets its next tenure.
pub record Takes (p : Pooled) (c t : ℕ) : Type 0 where
  pub idle : is_idle (place_at p c) ≡ true
  pub tenure : t ≡ next_tenure p c

lent_of : Asked → ℕ × ℕ
lent_of (asked.Lent c t) = (c, t)
lent_of _ = (0, 0)

lent_in : Result Asked AskFault → ℕ × ℕ
unfolding lent_of
lent_in (Ok it) = lent_of it
lent_in (Err why) = (0, 0)

abbrev taken : Asked → Result Asked AskFault
taken it = Ok it

no_lending : (p : Pooled) (c t : ℕ) (many may : Bool) → cond many (Err TooMany) (cond may (Ok (asked.Opening (next_number p))) (Ok asked.Queued)) ≡ Ok (asked.Lent c t) → ⊥
no_lending p c t true may h = cc
no_lending p c t false true h = cc
no_lending p c t false false h = cc

takes_last : (r : Request) (p : Pooled) (c t : ℕ) → AtRest p → takes_idle r p ≡ true → taken (asked.Lent (last p.idle) (next_tenure p (last p.idle))) ≡ taken (asked.Lent c t) → Takes p c t
unfolding lent_in lent_of
takes_last r p c t h takes is =
    let conn : last p.idle ≡ c = ap (λ a. (lent_in a).0) is in
    let tenure : next_tenure p (last p.idle) ≡ t = ap (λ a. (lent_in a).1) is in
    let idle : is_idle (place_at p (last p.idle)) ≡ true = member_is_idle p.idle p.conns (last p.idle) h.placed (last_stands p.idle (not_empty (not r.last) (is_empty p.idle) takes)) in
    record { idle = subst (λ d. is_idle (place_at p d) ≡ true) conn idle; tenure = sym tenure ∙ ap (next_tenure p) conn }

-- A connection that is lent to a request as it asks is idle, and the request gets its next tenure.
pub lends_idle : (r : Request) (p : Pooled) (c t : ℕ) (closed takes : Bool) → AtRest p → takes_idle r p ≡ takes → cond closed (Ok asked.Closed) (cond takes (Ok (asked.Lent (last p.idle) (next_tenure p (last p.idle)))) (when_none_idle p)) ≡ Ok (asked.Lent c t) → Takes p c t
lends_idle r p c t true takes h e is = absurd cc
lends_idle r p c t false true h e is = takes_last r p c t h e is
lends_idle r p c t false false h e is = absurd (no_lending p c t (are_too_many p) (may_open p) is)

opening_number : (p : Pooled) (c : ℕ) (many may : Bool) → cond many (Err TooMany) (cond may (Ok (asked.Opening (next_number p))) (Ok asked.Queued)) ≡ Ok (asked.Opening c) → c ≡ next_number p
opening_number p c true may is = absurd cc
opening_number p c false true is = cc
opening_number p c false false is = absurd cc

opens_next : (p : Pooled) (c m t : ℕ) (closed takes : Bool) → cond closed (Ok asked.Closed) (cond takes (Ok (asked.Lent m t)) (when_none_idle p)) ≡ Ok (asked.Opening c) → c ≡ next_number p
opens_next p c m t true takes is = absurd cc
opens_next p c m t false true is = absurd cc
opens_next p c m t false false is = opening_number p c (are_too_many p) (may_open p) is

-- No call asks before the run began.
begun_asking : (H : List Event) (n : ℕ) (e : Event) → may_ask H n ≡ true → ((last : Event) (older : List Event) → H ≡ last ∷ older → keeps_course H e ≡ true) → keeps_course H e ≡ true
begun_asking [] n e may h = absurd cc
begun_asking (last ∷ older) n e may h = h last older refl

none_owed : (H : List Event) (e : Event) → owed H ≡ [] → keeps_order H e ≡ true
none_owed H e none = ap (λ ms. follows ms e) none

comes_of_asking : (H : List Event) (n : ℕ) (m : Move) (a : Result Asked AskFault) → ask_outcome H n ≡ a → asks_by_itself H n ≡ true → moves_asked (request H n) a ≡ m ∷ [] → unless_owed H n m ≡ true
comes_of_asking H n m a outcome may moves =
    or_second (not (is_empty (owed H))) (is_asked_for H n m)
    (together (asks_by_itself H n) (is_first (moves_asked (request H n) (ask_outcome H n)) m) may
    (ap (λ b. is_first (moves_asked (request H n) b) m) outcome ∙ (ap (λ ms. is_first ms m) moves ∙ move_itself m)))

course_of_move : (H : List Event) (n : ℕ) (m : Move) → may_ask H n ≡ true → keeps_course H (Pool m) ≡ true
course_of_move H n m may = begun_asking H n (Pool m) may (λ last older is. rw is refl)

lend_allowed : (H : List Event) (n c t : ℕ) → Lawful H → owed H ≡ [] → may_ask H n ≡ true → is_settled_but n H ≡ true → ask_outcome H n ≡ Ok (asked.Lent c t) → Allowed H (Pool (Lend c t (owner_of H n) n))
unfolding Allowed
lend_allowed H n c t l none may settled outcome =
    let p = pool H in
    let rest = rests_owing_nothing H l (ap is_empty none) in
    let takes = lends_idle (request H n) p c t p.closed (takes_idle (request H n) p) rest refl outcome in
    let own : (n == number_of (owner_of H n)) ≡ true = subst (λ m. (n == m) ≡ true) (sym (owner_number H n)) (same_itself n) in
    let tenure : (t == next_tenure p c) ≡ true = subst (λ u. (t == u) ≡ true) takes.tenure (same_itself t) in
    record {
      course = course_of_move H n (Lend c t (owner_of H n) n) may;
      numbers = refl;
      sets =
          together (is_idle (place_at p c) || is_opening (place_at p c)) ((t == next_tenure p c) && (n == number_of (owner_of H n))) (ap (λ b. b || is_opening (place_at p c)) takes.idle)
          (together (t == next_tenure p c) (n == number_of (owner_of H n)) tenure own);
      limit = refl;
      asking = comes_of_asking H n (Lend c t (owner_of H n) n) (Ok (asked.Lent c t)) outcome (together (may_ask H n) (is_settled_but n H) may settled) refl;
      order = none_owed H (Pool (Lend c t (owner_of H n) n)) none;
      causes = refl;
      line = refl;
      journals = refl;
      replies = refl;
    }

open_allowed : (H : List Event) (n c : ℕ) → owed H ≡ [] → may_ask H n ≡ true → is_settled_but n H ≡ true → ask_outcome H n ≡ Ok (asked.Opening c) → Allowed H (Pool (OpenStart c n))
unfolding Allowed
open_allowed H n c none may settled outcome =
    let p = pool H in
    let number = opens_next p c (last p.idle) (next_tenure p (last p.idle)) p.closed (takes_idle (request H n) p) outcome in
    let within = asks_within (request H n) p c p.closed (takes_idle (request H n) p) outcome in
    let below : nat_lt (open_count p) (most_allowed p) ≡ true = grind (arith, nat_tests, within) in
    record {
      course = course_of_move H n (OpenStart c n) may;
      numbers = refl;
      sets = together (c == next_number p) true (subst (λ d. (c == d) ≡ true) number (same_itself c)) refl;
      limit = below;
      asking = comes_of_asking H n (OpenStart c n) (Ok (asked.Opening c)) outcome (together (may_ask H n) (is_settled_but n H) may settled) refl;
      order = none_owed H (Pool (OpenStart c n)) none;
      causes = refl;
      line = refl;
      journals = refl;
      replies = refl;
    }

wait_allowed : (H : List Event) (n : ℕ) → owed H ≡ [] → may_ask H n ≡ true → is_settled_but n H ≡ true → ask_outcome H n ≡ Ok asked.Queued → Allowed H (Waits n)
unfolding Allowed
wait_allowed H n none may settled outcome =
    record {
      course = begun_asking H n (Waits n) may (λ last older is. rw is refl);
      numbers = refl;
      sets = refl;
      limit = refl;
      asking = together (asks_by_itself H n) (is_queued (ask_outcome H n)) (together (may_ask H n) (is_settled_but n H) may settled) (ap is_queued outcome);
      order = none_owed H (Waits n) none;
      causes = refl;
      line = refl;
      journals = refl;
      replies = refl;
    }

pub asked_lawful : (H : List Event) (n : ℕ) → Lawful H → owed H ≡ [] → may_ask H n ≡ true → is_settled_but n H ≡ true → Lawful (with_asked n (ask_outcome H n) H)
asked_lawful H n l none may settled = by (ask_outcome H n) refl
  where
    by : (a : Result Asked AskFault) → ask_outcome H n ≡ a → Lawful (with_asked n a H)
    by (Ok (asked.Lent c t)) is = (l, lend_allowed H n c t l none may settled is)
    by (Ok (asked.Opening c)) is = (l, open_allowed H n c none may settled is)
    by (Ok asked.Queued) is = (l, wait_allowed H n none may settled is)
    by _ is = l
