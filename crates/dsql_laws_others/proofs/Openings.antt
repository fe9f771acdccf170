-- An opening that begins touches no call except the one that it is for. It adds a connection and leaves those
-- that were there.
use Rattle.std.proofs.Common.{◌≡◌, ◌≢◌, ℕ, ◌==◌, Bool, true, false, ◌&&◌, ◌||◌, cond, List, [], ◌∷◌, ◌++◌, Option, Some, None, is_some, nat_le, ◌<◌, refl, sym, ap, subst, ◌∙◌, is_none, ◌⊎◌, inl, inr, arith}
use Rattle.std.specs.Prelude.{find}
use Rattle.std.specs.List.{list_all}
use Rattle.std.specs.Option.{option_map, option_map_or, option_or}
use Rattle.std.proofs.lemmas.Bool.Decides.{nat_tests}
use Rattle.std.proofs.lemmas.List.Folds.{find-append, list_all-append}
use Rattle.dsql_laws_calls.specs.course.Made.{or_else}
use Rattle.dsql_laws_calls.specs.wait.Requests.{waits}
use Rattle.dsql_laws_calls.specs.pool.declared.conn.Conn.{Conn}
use Rattle.dsql_laws_calls.specs.pool.declared.conn.Place.TheVariants.{Opening}
use Rattle.dsql_laws_calls.specs.pool.declared.moves.Move.TheVariants.{OpenStart}
use Rattle.dsql_laws_calls.specs.pool.Changes.{opening}
use Rattle.dsql_laws_calls.specs.pool.Places.{conn_of, is_for, is_lent}
use Rattle.dsql_laws_calls.specs.pool.Pooled.{Pooled, next_number}
use Rattle.dsql_laws_calls.specs.history.Readers.Tries.{asks_again, tries}
use Rattle.dsql_laws_calls.specs.history.declared.record.Stand.TheVariants as stands_at
use Rattle.dsql_laws_calls.specs.history.Readers.Pool.{is_home, or_none, smallest, pool, place, home, wanted_by}
use Rattle.dsql_laws_calls.specs.history.Rules.Stands.{stands, opens, is_settled_for, has_to_reply, stand}
use Rattle.dsql_laws_calls.proofs.laws.Tests.{other_number, same_itself}
use Rattle.dsql_laws_calls.specs.history.declared.event.Event.{Event}
use Rattle.dsql_laws_calls.specs.history.declared.event.Event.TheVariants.{Pool}
use Rattle.dsql_laws_calls.specs.history.Readers.Unfinished.{unfinished}
use Rattle.dsql_laws_calls.specs.history.Rules.Settled.{is_in_use, uses_what_is_lent, calls_stand_but, calls_stand}
use Rattle.dsql_laws_others.proofs.Numbers.{none_zero, none_next}
use Rattle.dsql_laws_calls.specs.history.declared.record.Stand.{Stand}
use Rattle.dsql_laws_others.proofs.Untouched.{each_still, still_stands}
use Rattle.dsql_laws_calls.specs.history.declared.work.Work.{Work}
use Rattle.dsql_laws_calls.specs.history.declared.work.Work.TheVariants.{Begin}
use Rattle.dsql_laws_calls.specs.history.Readers.Course.{caps}
use Rattle.dsql_laws_calls.specs.history.Readers.Calls.{site, decided, told_by_others, has_begun_to_send, rests}
use Rattle.dsql_laws_calls.specs.history.Readers.Journals.{journal}
use Rattle.dsql_laws_calls.specs.history.Readers.Lines.{has_sent}
use Rattle.dsql_laws_calls.specs.history.Readers.Works.{work, borrower, owner_as, owner_of}
use Rattle.dsql_laws_calls.specs.history.Rules.Line.{due_for}
use Rattle.dsql_laws_calls.specs.history.Rules.Sent.{is_reset_due}
use Rattle.dsql_laws_calls.specs.history.Legal.{Lawful}
use Rattle.dsql_laws_calls.proofs.Born.{born}
use Rattle.dsql_laws_calls.proofs.laws_work.Rows.{same_or_not}
use Rattle.dsql_laws_others.proofs.Alike.{in_use_alike, all_alike}
use Rattle.dsql_laws_others.proofs.Homes.{HomeStays, HomeUnlent, due_moved, used_moved, told_still}
use Rattle.dsql_laws_others.proofs.Settling.{each_stands}

abbrev opens_for : List Event → ℕ → ℕ → List Event
opens_for H c k = Pool (OpenStart c k) ∷ H

-- What was found before is found in the same place.

first_or : {A : Type 0} (o p : Option A) (x : A) → o ≡ Some x → option_or o p ≡ Some x
first_or None p x is = absurd cc
first_or (Some y) p x is = is

second_or : {A : Type 0} (o p : Option A) → o ≡ None → option_or o p ≡ p
second_or None p is = refl
second_or (Some y) p is = absurd cc

number_of_found : (q : Conn → Bool) (conns : List Conn) (x : Conn) → find q conns ≡ Some x → is_some (conn_of x.number conns) ≡ true
number_of_found q [] x is = absurd cc
number_of_found q (y ∷ ys) x is = by (number_of_found q ys x) (q y) is
  where
    here : (b : Bool) → (y.number == x.number) ≡ b → b ≡ true → is_some (cond b (Some y) (conn_of x.number ys)) ≡ true
    here true is k = refl
    here false is k = absurd cc

    later : (b : Bool) → is_some (conn_of x.number ys) ≡ true → is_some (cond b (Some y) (conn_of x.number ys)) ≡ true
    later true k = refl
    later false k = k

    by : (find q ys ≡ Some x → is_some (conn_of x.number ys) ≡ true) → (b : Bool) → cond b (Some y) (find q ys) ≡ Some x → is_some (cond (y.number == x.number) (Some y) (conn_of x.number ys)) ≡ true
    by rest true k =
        let same : y ≡ x = cc in
        here (y.number == x.number) refl (ap (λ (z : Conn). y.number == z.number) (sym same) ∙ same_itself y.number)
    by rest false k = later (y.number == x.number) (rest k)

some_or : (o p : Option Conn) → is_some o ≡ true → option_or o p ≡ o
some_or None p h = absurd cc
some_or (Some x) p h = refl

place_stays : (o p : Option Conn) → is_some o ≡ true → option_map (λ x. x.place) (option_or o p) ≡ option_map (λ x. x.place) o
place_stays None p h = absurd cc
place_stays (Some x) p h = refl

abbrev found_home : ℕ → List Conn → Option Conn
found_home n conns = find (λ conn. is_home n conn.place) conns

abbrev pub number_or : Option Conn → ℕ
number_or o = or_none (option_map (λ conn. conn.number) o)

home_opens : (H : List Event) (c k n : ℕ) → HomeStays H (opens_for H c k) n ⊎ HomeUnlent H (opens_for H c k) n
home_opens H c k n = by (found_home n conns) refl
  where
    p : Pooled
    p = pool H

    conns : List Conn
    conns = p.conns

    x : Conn
    x = opening (next_number p) (wanted_by H k)

    K : List Event
    K = opens_for H c k

    more : (d : ℕ) → conn_of d (conns ++ x ∷ []) ≡ option_or (conn_of d conns) (conn_of d (x ∷ []))
    more d = find-append (λ (conn : Conn). conn.number == d) conns (x ∷ [])

    resets : (d : ℕ) → is_some (conn_of d conns) ≡ true → is_reset_due K d ≡ is_reset_due H d
    resets d some = ap (λ o. (caps H).resetter && nat_le 2 (option_map_or (λ conn. conn.uses) o 0)) (more d ∙ some_or (conn_of d conns) (conn_of d (x ∷ [])) some)

    homes : found_home n (conns ++ x ∷ []) ≡ option_or (found_home n conns) (found_home n (x ∷ []))
    homes = find-append (λ (conn : Conn). is_home n conn.place) conns (x ∷ [])

    next_some : (next_number p == 0) ≡ false
    next_some = grind (arith, nat_tests)

    none_before : found_home n conns ≡ None → is_lent (place H (home H n)) ≡ false
    none_before none = ap (λ j. is_lent (place H j)) (ap number_or none) ∙ ap (λ o. is_lent (option_map (λ y. y.place) o)) (none_zero H)

    new_home : (b : Bool) → is_home n x.place ≡ b → found_home n conns ≡ None → is_lent (place K (home K n)) ≡ false
    new_home true is none =
        let there : home K n ≡ next_number p = ap number_or (homes ∙ (second_or (found_home n conns) (found_home n (x ∷ [])) none ∙ ap (λ b. cond b (Some x) None) is)) in
        let itself : (next_number p == next_number p) ≡ true = same_itself (next_number p) in
        let at : place K (next_number p) ≡ Some (Opening (wanted_by H k)) =
        ap (option_map (λ y. y.place)) (more (next_number p) ∙ (second_or (conn_of (next_number p) conns) (conn_of (next_number p) (x ∷ [])) (none_next H) ∙ ap (λ b. cond b (Some x) None) itself))
        in
        ap (λ j. is_lent (place K j)) there ∙ ap is_lent at
    new_home false is none =
        let there : home K n ≡ 0 = ap number_or (homes ∙ (second_or (found_home n conns) (found_home n (x ∷ [])) none ∙ ap (λ b. cond b (Some x) None) is)) in
        let at : place K 0 ≡ None = ap (option_map (λ y. y.place)) (more 0 ∙ (second_or (conn_of 0 conns) (conn_of 0 (x ∷ [])) (none_zero H) ∙ ap (λ b. cond b (Some x) None) next_some)) in
        ap (λ j. is_lent (place K j)) there ∙ ap is_lent at

    by : (o : Option Conn) → found_home n conns ≡ o → HomeStays H K n ⊎ HomeUnlent H K n
    by (Some y) is =
        let before : home H n ≡ y.number = ap number_or is in
        let after : home K n ≡ y.number = ap number_or (homes ∙ first_or (found_home n conns) (found_home n (x ∷ [])) y is) in
        let some = number_of_found (λ conn. is_home n conn.place) conns y is in
        let there : place K y.number ≡ place H y.number = ap (option_map (λ z. z.place)) (more y.number) ∙ place_stays (conn_of y.number conns) (conn_of y.number (x ∷ [])) some in
        inl (record {
          homes = after ∙ sym before;
          places = ap (place K) before ∙ (there ∙ sym (ap (place H) before));
          resets = ap (is_reset_due K) before ∙ (resets y.number some ∙ sym (ap (is_reset_due H) before));
        })
    by None is = inr (record { before = none_before is; after = new_home (is_home n x.place) refl is })

-- The connection of a call stays the same, or is the new one.
home_moves : (H : List Event) (c k n : ℕ) → (home (opens_for H c k) n ≡ home H n) ⊎ (home (opens_for H c k) n ≡ next_number (pool H))
home_moves H c k n = by (found_home n conns) refl
  where
    conns : List Conn
    conns = (pool H).conns

    x : Conn
    x = opening (next_number (pool H)) (wanted_by H k)

    homes : found_home n (conns ++ x ∷ []) ≡ option_or (found_home n conns) (found_home n (x ∷ []))
    homes = find-append (λ (conn : Conn). is_home n conn.place) conns (x ∷ [])

    by : (o : Option Conn) → found_home n conns ≡ o → (home (opens_for H c k) n ≡ home H n) ⊎ (home (opens_for H c k) n ≡ next_number (pool H))
    by (Some y) is = inl (ap number_or (homes ∙ first_or (found_home n conns) (found_home n (x ∷ [])) y is) ∙ sym (ap number_or is))
    by None is = new (is_home n x.place) refl
      where
        new : (b : Bool) → is_home n x.place ≡ b → (home (opens_for H c k) n ≡ home H n) ⊎ (home (opens_for H c k) n ≡ next_number (pool H))
        new true its = inr (ap number_or (homes ∙ (second_or (found_home n conns) (found_home n (x ∷ [])) is ∙ ap (λ b. cond b (Some x) None) its)))
        new false its = inl (ap number_or (homes ∙ (second_or (found_home n conns) (found_home n (x ∷ [])) is ∙ ap (λ b. cond b (Some x) None) its)) ∙ sym (ap number_or is))

-- Holds if nothing was heard on connections that haven't been opened yet.
abbrev pub Silent : List Event → Type 0
Silent H = (c : ℕ) → (pool H).opened < c → journal H c ≡ []

pub silent : (H : List Event) → Lawful H → Silent H
silent H l = let b = born H l in b.silent

pub silent_opens : (H : List Event) (c k : ℕ) → Silent H → Silent (opens_for H c k)
silent_opens H c k l d above = l d (omega (arith, above))

fewer_sent : (H : List Event) (c k m : ℕ) → Silent H → has_begun_to_send (opens_for H c k) m ≡ true → has_begun_to_send H m ≡ true
fewer_sent H c k m l h = by (home_moves H c k (borrower H m))
  where
    by : (home (opens_for H c k) (borrower H m) ≡ home H (borrower H m)) ⊎ (home (opens_for H c k) (borrower H m) ≡ next_number (pool H)) → has_begun_to_send H m ≡ true
    by (inl same) = sym (ap (λ d. has_sent m (journal H d)) same) ∙ h
    by (inr new) =
        let none : journal H (next_number (pool H)) ≡ [] = l (next_number (pool H)) (omega arith) in
        let clash : false ≡ true = sym (ap (λ d. has_sent m (journal H d)) new ∙ ap (has_sent m) none) ∙ h in
        absurd cc

pub due_opens : (H : List Event) (c k m : ℕ) → due_for (opens_for H c k) m ≡ due_for H m
due_opens H c k m = due_moved H (OpenStart c k) m (home_opens H c k)

and_true : (b : Bool) → (b && true) ≡ b
and_true true = refl
and_true false = refl

pub used_opens : (H : List Event) (c k : ℕ) → uses_what_is_lent (opens_for H c k) ≡ uses_what_is_lent H
used_opens H c k =
    let K = opens_for H c k in
    let conns = (pool H).conns in
    list_all-append (λ (conn : Conn). is_in_use K conn.place) conns (opening (next_number (pool H)) (wanted_by H k) ∷ [])
    ∙ (and_true (list_all (λ conn. is_in_use K conn.place) conns)
    ∙ all_alike (λ conn. is_in_use K conn.place) (λ conn. is_in_use H conn.place) conns (λ x. in_use_alike H K x.place (λ n. ap (λ b. b || rests H n) (used_moved H (OpenStart c k) n (home_opens H c k)))))

-- Where each call stands.

found_more : (q : Conn → Bool) (conns : List Conn) (x : Conn) → is_some (find q conns) ≡ true → is_some (find q (conns ++ x ∷ [])) ≡ true
found_more q conns x h = ap (λ o. is_some o) (find-append q conns (x ∷ []) ∙ some_or (find q conns) (find q (x ∷ [])) h) ∙ h

found_last : (q : Conn → Bool) (conns : List Conn) (x : Conn) → q x ≡ true → is_some (find q (conns ++ x ∷ [])) ≡ true
found_last q [] x is = ap (λ b. is_some (cond b (Some x) None)) is
found_last q (y ∷ ys) x is = by (found_last q ys x is) (q y)
  where
    by : is_some (find q (ys ++ x ∷ [])) ≡ true → (b : Bool) → is_some (cond b (Some y) (find q (ys ++ x ∷ []))) ≡ true
    by rest true = refl
    by rest false = rest

some_number : (o : Option Conn) → is_some (option_map (λ conn. conn.number) o) ≡ is_some o
some_number None = refl
some_number (Some x) = refl

somewhere_opening : (w : Bool) (o : Option ℕ) (rest : Option Stand) → is_some o ≡ true → is_some (or_else (stands w stands_at.Waits) (or_else (opens o) rest)) ≡ true
somewhere_opening true o rest h = refl
somewhere_opening false None rest h = absurd cc
somewhere_opening false (Some c) rest h = refl

settled_opens : (H : List Event) (c k m : ℕ) → Silent H → is_settled_for H m ≡ true → is_settled_for (opens_for H c k) m ≡ true
settled_opens H c k m l h = by (rests H m) h
  where
    p : Pooled
    p = pool H

    K : List Event
    K = opens_for H c k

    told : is_some (told_by_others H m) ≡ true → is_some (told_by_others K m) ≡ true
    told = told_still H (OpenStart c k) m refl (fewer_sent H c k m l)

    decides : (a b : Bool) → (a ≡ true → b ≡ true) → (d : Bool) → (d && a) ≡ true → (d && b) ≡ true
    decides a b so true x = so x
    decides a b so false x = x

    home_more : is_some (smallest (is_home m) p) ≡ true → is_some (smallest (is_home m) (pool K)) ≡ true
    home_more some =
        some_number (find (λ conn. is_home m conn.place) (p.conns ++ opening (next_number p) (wanted_by H k) ∷ []))
        ∙ found_more (λ conn. is_home m conn.place) p.conns (opening (next_number p) (wanted_by H k)) (sym (some_number (find (λ conn. is_home m conn.place) p.conns)) ∙ some)

    either_way : (a b c d : Bool) → (a ≡ true → b ≡ true) → (c ≡ true → d ≡ true) → (a || c) ≡ true → (b || d) ≡ true
    either_way a true c d f g x = refl
    either_way true false c d f g x = let clash : false ≡ true = f refl in absurd cc
    either_way false false c d f g x = g x

    by : (b : Bool) → (is_some (cond b (smallest (is_home m) p) None) || (is_none (decided H m) && is_some (told_by_others H m))) ≡ true
        → (is_some (cond b (smallest (is_home m) (pool K)) None) || (is_none (decided H m) && is_some (told_by_others K m))) ≡ true
    by true x =
        either_way (is_some (smallest (is_home m) p)) (is_some (smallest (is_home m) (pool K))) (is_none (decided H m) && is_some (told_by_others H m)) (is_none (decided H m) && is_some (told_by_others K m)) home_more
        (decides (is_some (told_by_others H m)) (is_some (told_by_others K m)) told (is_none (decided H m))) x
    by false x = decides (is_some (told_by_others H m)) (is_some (told_by_others K m)) told (is_none (decided H m)) x

stand_opens : (H : List Event) (c k m : ℕ) → Silent H → is_some (stand H m) ≡ true → is_some (stand (opens_for H c k) m) ≡ true
stand_opens H c k m l h =
    let p = pool H in
    let K = opens_for H c k in
    let more : is_some (smallest (is_for m) p) ≡ true → is_some (smallest (is_for m) (pool K)) ≡ true =
    λ some. some_number (find (λ conn. is_for m conn.place) (p.conns ++ opening (next_number p) (wanted_by H k) ∷ []))
    ∙ found_more (λ conn. is_for m conn.place) p.conns (opening (next_number p) (wanted_by H k)) (sym (some_number (find (λ conn. is_for m conn.place) p.conns)) ∙ some)
    in
    still_stands H K m refl (λ x. x) more (λ x. ap (λ d. is_some d) (due_opens H c k m) ∙ x) (λ x. x) (settled_opens H c k m l) h

own_for : (w : Work) (n : ℕ) → is_for n (Opening (Some (owner_as w n))) ≡ true
own_for (Begin label level read_only) n = same_itself n
own_for _ n = same_itself n

itself_opens : (H : List Event) (c n : ℕ) → (n == 0) ≡ false → is_some (stand (opens_for H c n) n) ≡ true
itself_opens H c n some =
    let p = pool H in
    let K = opens_for H c n in
    let its : is_for n (Opening (wanted_by H n)) ≡ true = ap (λ b. is_for n (Opening (cond b None (Some (owner_of H n))))) some ∙ own_for (work H n) n in
    let found = found_last (λ conn. is_for n conn.place) p.conns (opening (next_number p) (wanted_by H n)) its in
    somewhere_opening (waits n p.waiting) (smallest (is_for n) (pool K)) (or_else (stands (is_some (due_for K n)) (stands_at.Sends (site K n))) (or_else (stands (has_to_reply K n) stands_at.Replies) (stands (asks_again (tries H n)) stands_at.Asks)))
    (some_number (find (λ conn. is_for n conn.place) (p.conns ++ opening (next_number p) (wanted_by H n) ∷ [])) ∙ found)

pub goes_on_opens : (H : List Event) (c n : ℕ) → Silent H → calls_stand_but n H ≡ true → calls_stand (opens_for H c n) ≡ true
goes_on_opens H c n l h = each_stands n 0 (unfinished H) H (opens_for H c n) (λ m u some was. by m some (same_or_not m n) was) h
  where
    by : (m : ℕ) → m ≢ 0 → (m ≡ n) ⊎ (m ≢ n) → (m ≢ n → is_some (stand H m) ≡ true) → is_some (stand (opens_for H c n) m) ≡ true
    by m some (inl same) was = subst (λ j. is_some (stand (opens_for H c n) j) ≡ true) (sym same) (itself_opens H c n (other_number n 0 (λ none. some (same ∙ none))))
    by m some (inr apart) was = stand_opens H c n m l (was apart)

pub goes_on_opens_but : (H : List Event) (c k n : ℕ) → Silent H → calls_stand_but n H ≡ true → calls_stand_but n (opens_for H c k) ≡ true
goes_on_opens_but H c k n l h = each_still n (unfinished H) H (opens_for H c k) (λ m. stand_opens H c k m l) h
