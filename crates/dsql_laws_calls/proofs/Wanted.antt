-- A call to which a connection is lent wants no other.
use Rattle.std.proofs.Common.{◌≡◌, ◌≢◌, ℕ, ◌≤◌, ◌==◌, inl, inr, Bool, true, false, ◌||◌, cond, List, ◌∷◌, Option, Some, None, is_some, refl, sym, ap, subst, ◌∙◌, arith}
use Rattle.dsql_laws.specs.journal.declared.entry.Owner.{Owner}
use Rattle.dsql_laws.specs.pool.declared.conn.Conn.{Conn}
use Rattle.dsql_laws.specs.pool.declared.conn.Place.{Place}
use Rattle.dsql_laws.specs.pool.declared.conn.Place.TheVariants.{Idle, Lent, Opening, Closing}
use Rattle.dsql_laws.specs.pool.declared.moves.Move.TheVariants.{OpenStart, Lend, Back, CloseStart, Gone, Fell}
use Rattle.dsql_laws.specs.pool.Changes.{lent, back, closing}
use Rattle.dsql_laws.specs.pool.Places.{conn_of, is_idle, is_opening}
use Rattle.dsql_laws.proofs.pool.Frees.{passing}
use Rattle.dsql_laws.specs.history.declared.event.Control.TheVariants.{Tick, Set}
use Rattle.dsql_laws.proofs.Counts.{request-more, left_fewer, waits_some, changed_fewer, gone_fewer}
use Rattle.dsql_laws.proofs.Deserved.{is_home_of, Deserves, deserved}
use Rattle.dsql_laws.proofs.Tried.{is_lent_out, lent_count}
use Rattle.dsql_laws.proofs.ByCall.{by_call}
use Rattle.dsql_laws.proofs.Wanted.{wanted, is_opening_for, shut_wants, begun_wants, same_control, homes_apart, found_counts}
use Rattle.dsql_laws_calls.proofs.Found.{place_in}
use Rattle.dsql_laws.specs.history.declared.event.Event.{Event}
use Rattle.dsql_laws.specs.history.declared.event.Event.TheVariants.{Entered, Pool, Waits, Ticked, SetLimit, Ended}
use Rattle.dsql_laws.specs.history.declared.event.Op.TheVariants.{DbClose}
use Rattle.dsql_laws.specs.history.Readers.HandedOut.{rows_by}
use Rattle.dsql_laws.specs.history.Readers.Owed.{owed}
use Rattle.dsql_laws.specs.history.Readers.Pool.{pool, place, request, wanted_by}
use Rattle.dsql_laws.specs.history.Rules.Asking.{may_ask}
use Rattle.dsql_laws.specs.history.Legal.{Allowed, Lawful}
use Rattle.dsql_laws.proofs.Asker.{asker}
use Rattle.dsql_laws.proofs.AtRest.{keeps_of, asked_so, queued_so}
use Rattle.dsql_laws.proofs.OwedMoves.{owed_own}
use Rattle.dsql_laws.proofs.Holdings.{nothing_held, opening_asked, one_at_most, lending_from}
use Rattle.dsql_laws.proofs.Wanting.{wanted_opening, lent_found}
use Rattle.dsql_laws_calls.proofs.Owners.{lent_number}
use Rattle.dsql_laws_calls.proofs.Lent.{move_facts}
use Rattle.dsql_laws.specs.journal.Kinds.{number_of}
use Rattle.dsql_laws.proofs.Tests.{same_itself}

pub lent_once : (H : List Event) (c t : ℕ) (own : Owner) → place H c ≡ Some (Lent t own) → 1 ≤ lent_count (number_of own) (pool H)
lent_once H c t own is =
    let n = number_of own in
    let one = lent_found n t own (conn_of c (pool H).conns) (same_itself n) is in
    let counted = found_counts (is_lent_out n) c (pool H).conns in
    omega (arith, one, counted)

-- A call that has a connection waits for no other.
pub lent_wants_none : (H : List Event) (c t : ℕ) (own : Owner) → Lawful H → place H c ≡ Some (Lent t own) → wanted (number_of own) (pool H) ≡ 0
lent_wants_none H c t own l is =
    let n = number_of own in
    let once = lent_once H c t own is in
    let one = one_at_most H n l (lent_number H c t own l is) in
    let apart = homes_apart n (pool H).conns in
    omega (arith, once, one, apart)

-- A call that has a connection, or has made rows, may not ask.
pub lent_may_not_ask : (H : List Event) (c t : ℕ) (own : Owner) → Lawful H → place H c ≡ Some (Lent t own) → may_ask H (number_of own) ≡ true → ⊥
lent_may_not_ask H c t own l is may =
    let n = number_of own in
    let once = lent_once H c t own is in
    let none = nothing_held H n l may in
    let apart = homes_apart n (pool H).conns in
    absurd (omega (arith, once, none, apart))

pub rows_may_not_ask : (H : List Event) (n : ℕ) → is_some (rows_by H n) ≡ true → may_ask H n ≡ true → ⊥
rows_may_not_ask H n some may = let k : is_some (rows_by H n) ≡ false = ap (λ o. is_some o) (asker H n may).rowless in cc

-- A call that may not ask and wants no connection wants none after the event either.

opens_no_more : (H : List Event) (c k n : ℕ) → Allowed H (Pool (OpenStart c k)) → n ≢ 0 → (may_ask H n ≡ true → ⊥) → wanted n (pool H) ≡ 0 → wanted n (pool (Pool (OpenStart c k) ∷ H)) ≡ 0
opens_no_more H c k n a some silent none =
    let begins = begun_wants n (wanted_by H k) (pool H) in
    let opens = wanted_opening H k n some in
    by_call k n (wanted n (pool (Pool (OpenStart c k) ∷ H)) ≡ 0)
    (λ is.
    let asked = opening_asked H c k (owed H) (keeps_of H (Pool (OpenStart c k)) a) refl (owed_own H) (λ zero_k. some (sym is ∙ zero_k)) in
    let b = asked_so H k (OpenStart c k) asked in
    absurd (silent (subst (λ m. may_ask H m ≡ true) is b.0)))
    (λ not_its.
    let other : cond {A = ℕ} (k == n) 1 0 ≡ 0 = ap (λ (b : Bool). cond {A = ℕ} b 1 0) not_its in
    omega (arith, begins, opens, none, other))

waits_no_more : (H : List Event) (k n : ℕ) → Allowed H (Waits k) → (may_ask H n ≡ true → ⊥) → wanted n (pool H) ≡ 0 → wanted n (pool (Waits k ∷ H)) ≡ 0
waits_no_more H k n a silent none =
    let keeps = keeps_of H (Waits k) a in
    let asked = queued_so H k keeps.asking in
    let joins = request-more n (request H k) (pool H).waiting in
    by_call k n (wanted n (pool (Waits k ∷ H)) ≡ 0)
    (λ is. absurd (silent (subst (λ m. may_ask H m ≡ true) is asked.0)))
    (λ not_its.
    let other : cond {A = ℕ} (k == n) 1 0 ≡ 0 = ap (λ (b : Bool). cond {A = ℕ} b 1 0) not_its in
    omega (arith, joins, none, other))

pub wants_no_more : (H : List Event) (e : Event) (n : ℕ) → Allowed H e → n ≢ 0 → (may_ask H n ≡ true → ⊥) → wanted n (pool H) ≡ 0 → wanted n (pool (e ∷ H)) ≡ 0
wants_no_more H (Pool (OpenStart c k)) n a some silent none = opens_no_more H c k n a some silent none
wants_no_more H (Pool (Lend c t o k)) n a some silent none =
    let few_wait = left_fewer n k (pool H).waiting in
    let few = changed_fewer (is_opening_for n) c (lent t o (pool H).moment) (pool H).conns (λ x. refl) in
    omega (arith, few_wait, few, none)
wants_no_more H (Pool (Back c)) n a some silent none =
    let few = changed_fewer (is_opening_for n) c (back (pool H).moment) (pool H).conns (λ x. refl) in omega (arith, few, none)
wants_no_more H (Pool (CloseStart c why)) n a some silent none = let few = changed_fewer (is_opening_for n) c closing (pool H).conns (λ x. refl) in omega (arith, few, none)
wants_no_more H (Pool (Gone c)) n a some silent none = let few = gone_fewer (is_opening_for n) c (pool H).conns in omega (arith, few, none)
wants_no_more H (Pool (Fell c k)) n a some silent none =
    let few_wait = left_fewer n k (pool H).waiting in
    let few = gone_fewer (is_opening_for n) c (pool H).conns in
    omega (arith, few_wait, few, none)
wants_no_more H (Waits k) n a some silent none = waits_no_more H k n a silent none
wants_no_more H (Ticked now) n a some silent none = same_control (Tick now) n (pool H) ∙ none
wants_no_more H (SetLimit s k) n a some silent none = same_control (Set s k) n (pool H) ∙ none
wants_no_more H (Entered client m DbClose) n a some silent none = let few = shut_wants n (pool H) in omega (arith, few, none)
wants_no_more H Ended n a some silent none = let few = shut_wants n (pool H) in omega (arith, few, none)
wants_no_more H _ n a some silent none = none

-- Such a call is lent no connection.

opening_home : (n : ℕ) (found : Option Conn) → (is_idle (place_in found) || is_opening (place_in found)) ≡ true → passing (is_home_of n) found ≡ passing (is_opening_for n) found
opening_home n None from = refl
opening_home n (Some x) from = by x.place refl from
  where
    by : (p : Place) → x.place ≡ p → (is_idle (Some p) || is_opening (Some p)) ≡ true → passing (is_home_of n) (Some x) ≡ passing (is_opening_for n) (Some x)
    by Idle is k = rw is refl
    by (Opening w) is k = rw is refl
    by (Lent t o) is k = absurd cc
    by Closing is k = absurd cc

pub lent_nothing : (H : List Event) (c t : ℕ) (o : Owner) (n : ℕ) → Lawful H → Allowed H (Pool (Lend c t o n)) → (may_ask H n ≡ true → ⊥) → wanted n (pool H) ≡ 0 → ⊥
lent_nothing H c t o n l a silent none =
    elim (lending_from H c t o n (owed H) (keeps_of H (Pool (Lend c t o n)) a) refl (deserved H l)) [
      | inl may ↦ silent may
      | inr deserves ↦ by deserves
    ]
  where
    by : Deserves c n (pool H) → ⊥
    by (inl waiting) = let some = waits_some n (pool H).waiting waiting in absurd (omega (arith, some, none))
    by (inr opened) =
        let f = move_facts H (Lend c t o n) a in
        let same = opening_home n (conn_of c (pool H).conns) f.moves in
        let counted = found_counts (is_opening_for n) c (pool H).conns in
        absurd (omega (arith, opened, same, counted, none))
