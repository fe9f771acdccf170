-- An idle connection that begins to close touches no call, because no call has it.
use Rattle.std.proofs.Common.{◌≡◌, ℕ, ◌==◌, Bool, true, false, ◌&&◌, ◌||◌, cond, List, [], ◌∷◌, Option, Some, None, is_some, is_none, nat_le, refl, sym, ap, ◌∙◌, ◌⊎◌, inl, inr}
use Rattle.std.specs.Prelude.{find}
use Rattle.std.specs.List.{list_all}
use Rattle.std.specs.Option.{option_map, option_map_or}
use Rattle.dsql_laws_calls.specs.pool.declared.conn.Conn.{Conn}
use Rattle.dsql_laws_calls.specs.pool.declared.conn.Place.TheVariants.{Idle, Closing}
use Rattle.dsql_laws_calls.specs.pool.declared.moves.CloseCause.{CloseCause}
use Rattle.dsql_laws_calls.specs.pool.declared.moves.Move.TheVariants.{CloseStart}
use Rattle.dsql_laws_calls.specs.pool.Changes.{conn_changed, closing}
use Rattle.dsql_laws_calls.specs.pool.Places.{conn_of, is_for, is_lent}
use Rattle.dsql_laws_calls.proofs.pool.Found.{found_changed, found_beside}
use Rattle.dsql_laws_calls.specs.history.Readers.Pool.{is_home, smallest, pool, place, home}
use Rattle.dsql_laws_calls.proofs.laws.Tests.{same_number}
use Rattle.dsql_laws_calls.specs.history.declared.event.Event.{Event}
use Rattle.dsql_laws_calls.specs.history.declared.event.Event.TheVariants.{Pool}
use Rattle.dsql_laws_calls.specs.history.Readers.Course.{caps}
use Rattle.dsql_laws_calls.specs.history.Readers.Calls.{decided, told_by_others, rests, rests_with}
use Rattle.dsql_laws_calls.specs.history.Readers.Journals.{journal}
use Rattle.dsql_laws_calls.specs.history.Readers.Lines.{has_sent}
use Rattle.dsql_laws_calls.specs.history.Readers.Unfinished.{unfinished}
use Rattle.dsql_laws_calls.specs.history.Readers.Works.{borrower}
use Rattle.dsql_laws_calls.specs.history.Rules.Line.{due_for}
use Rattle.dsql_laws_calls.specs.history.Rules.Settled.{is_in_use, uses_what_is_lent, calls_stand_but}
use Rattle.dsql_laws_calls.specs.history.Rules.Stands.{is_settled_for, stand}
use Rattle.dsql_laws_others.proofs.Alike.{in_use_alike, all_alike}
use Rattle.dsql_laws_others.proofs.Untouched.{each_still, still_stands}
use Rattle.dsql_laws_others.proofs.Homes.{HomeStays, HomeUnlent, due_moved, used_moved, told_still}
use Rattle.dsql_laws_others.proofs.Openings.{number_or}

abbrev closes_at : List Event → ℕ → CloseCause → List Event
closes_at H c why = Pool (CloseStart c why) ∷ H

-- A connection that is found, and is idle.
record FoundIdle (c : ℕ) (conns : List Conn) : Type 0 where
  it : Conn
  is : conn_of c conns ≡ Some it
  idle : it.place ≡ Idle

found_idle : (c : ℕ) (conns : List Conn) (o : Option Conn) → conn_of c conns ≡ o → option_map (λ x. x.place) o ≡ Some Idle → FoundIdle c conns
found_idle c conns None is at = absurd cc
found_idle c conns (Some x) is at = record { it = x; is = is; idle = cc }

-- A search that passes over idle and closing connections finds what it found before.
same_find : (q : Conn → Bool) (c : ℕ) (conns : List Conn) (x : Conn) → ((y : Conn) → q (closing y) ≡ false) → ((y : Conn) → y.place ≡ Idle → q y ≡ false) → conn_of c conns ≡ Some x → x.place ≡ Idle
    → find q (conn_changed c closing conns) ≡ find q conns
same_find q c [] x shut idle is at = refl
same_find q c (y ∷ ys) x shut idle is at = by (λ k. same_find q c ys x shut idle k at) (y.number == c) is
  where
    here : y ≡ x → cond (q (closing y)) (Some (closing y)) (find q ys) ≡ cond (q y) (Some y) (find q ys)
    here same = ap (λ b. cond b (Some (closing y)) (find q ys)) (shut y) ∙ sym (ap (λ b. cond b (Some y) (find q ys)) (idle y (ap (λ (z : Conn). z.place) same ∙ at)))

    by : (conn_of c ys ≡ Some x → find q (conn_changed c closing ys) ≡ find q ys) → (b : Bool) → cond b (Some y) (conn_of c ys) ≡ Some x → find q (cond b (closing y ∷ ys) (y ∷ conn_changed c closing ys)) ≡ find q (y ∷ ys)
    by rest true k = let same : y ≡ x = cc in here same
    by rest false k = ap (λ o. cond (q y) (Some y) o) (rest k)

no_home : (n : ℕ) (y : Conn) → y.place ≡ Idle → is_home n y.place ≡ false
no_home n y at = ap (is_home n) at

no_opening : (n : ℕ) (y : Conn) → y.place ≡ Idle → is_for n y.place ≡ false
no_opening n y at = ap (is_for n) at

same_home : (H : List Event) (c : ℕ) (why : CloseCause) (n : ℕ) → place H c ≡ Some Idle → home (closes_at H c why) n ≡ home H n
same_home H c why n at =
    let f = found_idle c (pool H).conns (conn_of c (pool H).conns) refl at in
    ap number_or (same_find (λ conn. is_home n conn.place) c (pool H).conns f.it (λ y. refl) (no_home n) f.is f.idle)

home_closes : (H : List Event) (c : ℕ) (why : CloseCause) → place H c ≡ Some Idle → (n : ℕ) → HomeStays H (closes_at H c why) n ⊎ HomeUnlent H (closes_at H c why) n
home_closes H c why at n = by (home H n == c) refl
  where
    K : List Event
    K = closes_at H c why

    conns : List Conn
    conns = (pool H).conns

    closes_there : place K c ≡ Some Closing
    closes_there =
        let f = found_idle c conns (conn_of c conns) refl at in
        ap (option_map (λ y. y.place)) (found_changed c closing (λ _. refl) conns ∙ ap (option_map closing) f.is)

    by : (b : Bool) → (home H n == c) ≡ b → HomeStays H K n ⊎ HomeUnlent H K n
    by true is =
        let same : home H n ≡ c = same_number (home H n) c is in
        inr (record {
          before = ap (λ j. is_lent (place H j)) same ∙ ap is_lent at;
          after = ap (λ j. is_lent (place K j)) (same_home H c why n at ∙ same) ∙ ap is_lent closes_there;
        })
    by false is =
        let beside = found_beside c (home H n) closing (λ _. refl) conns is in
        inl (record {
          homes = same_home H c why n at;
          places = ap (option_map (λ y. y.place)) beside;
          resets = ap (λ o. (caps H).resetter && nat_le 2 (option_map_or (λ conn. conn.uses) o 0)) beside;
        })

pub due_closes : (H : List Event) (c : ℕ) (why : CloseCause) (m : ℕ) → place H c ≡ Some Idle → due_for (closes_at H c why) m ≡ due_for H m
due_closes H c why m at = due_moved H (CloseStart c why) m (home_closes H c why at)

-- Lent connections are in use as before.

same_all : (q r : Conn → Bool) (c : ℕ) (conns : List Conn) (x : Conn) → ((y : Conn) → q y ≡ r y) → ((y : Conn) → q (closing y) ≡ true) → ((y : Conn) → y.place ≡ Idle → r y ≡ true) → conn_of c conns ≡ Some x
    → x.place ≡ Idle → list_all q (conn_changed c closing conns) ≡ list_all r conns
same_all q r c [] x same shut idle is at = refl
same_all q r c (y ∷ ys) x same shut idle is at = by (λ k. same_all q r c ys x same shut idle k at) (y.number == c) is
  where
    here : y ≡ x → (q (closing y) && list_all q ys) ≡ (r y && list_all r ys)
    here one =
        ap (λ b. b && list_all q ys) (shut y)
        ∙ (all_alike q r ys same ∙ sym (ap (λ b. b && list_all r ys) (idle y (ap (λ (z : Conn). z.place) one ∙ at))))

    by : (conn_of c ys ≡ Some x → list_all q (conn_changed c closing ys) ≡ list_all r ys) → (b : Bool) → cond b (Some y) (conn_of c ys) ≡ Some x
        → list_all q (cond b (closing y ∷ ys) (y ∷ conn_changed c closing ys)) ≡ list_all r (y ∷ ys)
    by rest true k = let one : y ≡ x = cc in here one
    by rest false k = ap (λ b. b && list_all q (conn_changed c closing ys)) (same y) ∙ ap (λ b. r y && b) (rest k)

pub used_closes : (H : List Event) (c : ℕ) (why : CloseCause) → place H c ≡ Some Idle → uses_what_is_lent (closes_at H c why) ≡ uses_what_is_lent H
used_closes H c why at =
    let K = closes_at H c why in
    let f = found_idle c (pool H).conns (conn_of c (pool H).conns) refl at in
    same_all (λ conn. is_in_use K conn.place) (λ conn. is_in_use H conn.place) c (pool H).conns f.it (λ y. in_use_alike H K y.place (λ n. ap (λ b. b || rests H n) (used_moved H (CloseStart c why) n (home_closes H c why at))))
    (λ y. refl) (λ y idle. ap (is_in_use H) idle) f.is f.idle

-- Where each call stands.

settled_closes : (H : List Event) (c : ℕ) (why : CloseCause) (m : ℕ) → place H c ≡ Some Idle → is_settled_for H m ≡ true → is_settled_for (closes_at H c why) m ≡ true
settled_closes H c why m at h =
    let K = closes_at H c why in
    let f = found_idle c (pool H).conns (conn_of c (pool H).conns) refl at in
    let homes : smallest (is_home m) (pool K) ≡ smallest (is_home m) (pool H) = ap (option_map (λ conn. conn.number)) (same_find (λ conn. is_home m conn.place) c (pool H).conns f.it (λ y. refl) (no_home m) f.is f.idle) in
    let told : is_some (told_by_others H m) ≡ true → is_some (told_by_others K m) ≡ true = told_still H (CloseStart c why) m refl (λ x. sym (ap (λ d. has_sent m (journal H d)) (same_home H c why (borrower H m) at)) ∙ x) in
    ap (λ o. is_some (cond (rests H m) o None) || (is_none (decided H m) && is_some (told_by_others K m))) homes
    ∙ either (is_some (rests_with H m)) (is_none (decided H m)) (is_some (told_by_others H m)) (is_some (told_by_others K m)) told h
  where
    either : (r d a b : Bool) → (a ≡ true → b ≡ true) → (r || (d && a)) ≡ true → (r || (d && b)) ≡ true
    either true d a b so x = refl
    either false true a b so x = so x
    either false false a b so x = x

stand_closes : (H : List Event) (c : ℕ) (why : CloseCause) (m : ℕ) → place H c ≡ Some Idle → is_some (stand H m) ≡ true → is_some (stand (closes_at H c why) m) ≡ true
stand_closes H c why m at h =
    let p = pool H in
    let K = closes_at H c why in
    let f = found_idle c p.conns (conn_of c p.conns) refl at in
    let opening : smallest (is_for m) (pool K) ≡ smallest (is_for m) p =
    ap (option_map (λ conn. conn.number)) (same_find (λ conn. is_for m conn.place) c p.conns f.it (λ y. refl) (no_opening m) f.is f.idle)
    in
    still_stands H K m refl (λ x. x) (λ x. ap (λ o. is_some o) opening ∙ x) (λ x. ap (λ d. is_some d) (due_closes H c why m at) ∙ x) (λ x. x) (settled_closes H c why m at) h

pub goes_on_closes : (H : List Event) (c : ℕ) (why : CloseCause) (n : ℕ) → place H c ≡ Some Idle → calls_stand_but n H ≡ true → calls_stand_but n (closes_at H c why) ≡ true
goes_on_closes H c why n at h = each_still n (unfinished H) H (closes_at H c why) (λ m. stand_closes H c why m at) h
