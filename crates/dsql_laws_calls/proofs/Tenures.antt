-- The tenure of a lent connection is one more than the number of its lendings, and nothing was heard in a later
-- one.
use Rattle.std.proofs.Common.{◌≡◌, ◌≢◌, ℕ, ◌+◌, ◌≤◌, ◌==◌, ◌⊎◌, inl, inr, Bool, true, false, not, ◌&&◌, ◌||◌, cond, List, [], ◌∷◌, Option, Some, None, is_some, refl, sym, ap, subst, ◌∙◌, nat_le, arith}
use Rattle.std.proofs.lemmas.Bool.Decides.{nat_tests}
use Rattle.std.specs.List.{list_all}
use Rattle.std.specs.Option.{option_map}
use Rattle.dsql_laws.specs.driver.Kinds.{is_connect, is_shut}
use Rattle.dsql_laws.specs.journal.declared.entry.Entry.{Entry}
use Rattle.dsql_laws.specs.journal.declared.entry.Owner.{Owner}
use Rattle.dsql_laws.specs.journal.Kinds.{number_of, same_owner}
use Rattle.dsql_laws.specs.journal.Readers.{of_tenure}
use Rattle.dsql_laws.specs.pool.declared.conn.Conn.{Conn}
use Rattle.dsql_laws.specs.pool.declared.conn.Place.{Place}
use Rattle.dsql_laws.specs.pool.declared.conn.Place.TheVariants.{Idle, Lent, Opening, Closing}
use Rattle.dsql_laws.specs.pool.declared.moves.Move.{Move}
use Rattle.dsql_laws.specs.pool.declared.moves.Move.TheVariants.{OpenStart, Lend, Back, CloseStart, Gone, Fell}
use Rattle.dsql_laws.specs.pool.Changes.{lent, back, closing, conn_changed}
use Rattle.dsql_laws.specs.pool.Places.{conn_of, lends_of, is_idle, is_lent, is_opening, is_closing}
use Rattle.dsql_laws.specs.pool.Pooled.{next_tenure, next_number}
use Rattle.dsql_laws.specs.pool.Moved.{shut}
use Rattle.dsql_laws.proofs.pool.Found.{KeepsNumber}
use Rattle.dsql_laws_work.proofs.Rows.{same_or_not}
use Rattle.dsql_laws.specs.history.declared.event.Control.TheVariants.{Tick, Set}
use Rattle.dsql_laws.proofs.Tests.{both, same_number}
use Rattle.dsql_laws_calls.proofs.Found.{place_in, lends_in, unwanted_lent, unwanted_in, unwanted_place, changed_place, changed_lends, lends_more, changed_off, gone_at, gone_off, begun_off, shut_found}
use Rattle.dsql_laws_calls.proofs.Cases.{control_conns}
use Rattle.dsql_laws.specs.history.declared.event.Event.{Event}
use Rattle.dsql_laws.specs.history.declared.event.Event.TheVariants.{Entered, Heard, Pool, Ticked, SetLimit, Ended}
use Rattle.dsql_laws.specs.history.declared.event.Op.TheVariants.{DbClose}
use Rattle.dsql_laws.specs.history.Readers.Journals.{journal, heard_in}
use Rattle.dsql_laws.specs.history.Readers.Pool.{pool, place, wanted_by}
use Rattle.dsql_laws.specs.history.Rules.Moves.{hears_in, is_house_entry}
use Rattle.dsql_laws.specs.history.Legal.{Allowed, Lawful}
use Rattle.dsql_laws_calls.proofs.Born.{born, heard_at, open_is_old}
use Rattle.dsql_laws_calls.proofs.Lent.{move_facts, elsewhere, lent_before}

-- Returns how often connection c was lent.
abbrev pub lends : List Event → ℕ → ℕ
lends H c = lends_of c (pool H).conns

changed_any : (d c : ℕ) (f : Conn → Conn) (conns : List Conn) → KeepsNumber f → ((x : Conn) → (f x).lends ≡ x.lends) → lends_of c (conn_changed d f conns) ≡ lends_of c conns
changed_any d c f conns keeps at = by (same_or_not c d)
  where
    by : (c ≡ d) ⊎ (c ≢ d) → lends_of c (conn_changed d f conns) ≡ lends_of c conns
    by (inl same) = ap (λ e. lends_of c (conn_changed e f conns)) (sym same) ∙ changed_lends c f conns keeps at
    by (inr apart) = ap lends_in (changed_off d c f conns keeps apart)

move_lends : (H : List Event) (m : Move) (c t : ℕ) (own : Owner) → Lawful H → Allowed H (Pool m) → place H c ≡ Some (Lent t own) → lends (Pool m ∷ H) c ≡ lends H c
move_lends H (OpenStart d k) c t own l a is = ap lends_in (begun_off c (wanted_by H k) (pool H) (open_is_old H c (Lent t own) l is))
move_lends H (Lend d u o k) c t own l a is =
    let f = move_facts H (Lend d u o k) a in
    ap lends_in (changed_off d c (lent u o (pool H).moment) (pool H).conns (λ x. refl) (elsewhere H d c t own (λ at. is_idle at || is_opening at) is refl f.moves))
move_lends H (Back d) c t own l a is = changed_any d c (back (pool H).moment) (pool H).conns (λ x. refl) (λ x. refl)
move_lends H (CloseStart d why) c t own l a is = changed_any d c closing (pool H).conns (λ x. refl) (λ x. refl)
move_lends H (Gone d) c t own l a is = let f = move_facts H (Gone d) a in ap lends_in (gone_off d c (pool H).conns (elsewhere H d c t own is_closing is refl f.moves))
move_lends H (Fell d k) c t own l a is = let f = move_facts H (Fell d k) a in ap lends_in (gone_off d c (pool H).conns (elsewhere H d c t own is_opening is refl f.moves))

shut_lends : (H : List Event) (c : ℕ) → lends_of c (shut (pool H)).conns ≡ lends H c
shut_lends H c = let counts = unwanted_lent (conn_of c (pool H).conns) in ap lends_in (shut_found c (pool H)) ∙ counts.0

lends_stay : (H : List Event) (e : Event) (c t : ℕ) (own : Owner) → Lawful H → Allowed H e → place H c ≡ Some (Lent t own) → lends (e ∷ H) c ≡ lends H c
lends_stay H (Pool m) c t own l a is = move_lends H m c t own l a is
lends_stay H (Entered client k DbClose) c t own l a is = shut_lends H c
lends_stay H (Entered client k op) c t own l a is = refl
lends_stay H Ended c t own l a is = shut_lends H c
lends_stay H (Ticked now) c t own l a is = ap (lends_of c) (control_conns (Tick now) (pool H))
lends_stay H (SetLimit s k) c t own l a is = ap (lends_of c) (control_conns (Set s k) (pool H))
lends_stay H _ c t own l a is = refl

pub there_from : (at : Option Place) → (is_idle at || is_opening at) ≡ true → is_some at ≡ true
there_from None h = absurd cc
there_from (Some p) h = refl

lends_now : (H : List Event) (c t : ℕ) (own : Owner) (k : ℕ) → Allowed H (Pool (Lend c t own k)) → t ≡ lends (Pool (Lend c t own k) ∷ H) c + 1
lends_now H c t own k a =
    let f = move_facts H (Lend c t own k) a in
    let numbers = both (t == next_tenure (pool H) c) (k == number_of own) f.numbers in
    let tenure : t ≡ lends H c + 2 = same_number t (next_tenure (pool H) c) numbers.0 in
    let more = lends_more c t own (pool H).moment (pool H).conns (there_from (place H c) f.moves) in
    omega (arith, tenure, more)

pub lent_tenure : (H : List Event) (c t : ℕ) (own : Owner) → Lawful H → place H c ≡ Some (Lent t own) → t ≡ lends H c + 1
lent_tenure [] c t own l is = absurd cc
lent_tenure (e ∷ H) c t own l is = by (lent_tenure H c t own l.0) (lent_before H e c t own l.0 is)
  where
    by : (place H c ≡ Some (Lent t own) → t ≡ lends H c + 1) → (place H c ≡ Some (Lent t own)) ⊎ ((k : ℕ) × (e ≡ Pool (Lend c t own k))) → t ≡ lends (e ∷ H) c + 1
    by rest (inl before) = let had = rest before in let same = lends_stay H e c t own l.0 l.1 before in omega (arith, had, same)
    by rest (inr w) = subst (λ x. t ≡ lends (x ∷ H) c + 1) (sym w.1) (lends_now H c t own w.0 (subst (λ x. Allowed H x) w.1 l.1))

-- When a lending comes, nothing was heard in its tenure yet.

-- Is true if the connection is open and isn't being closed.
abbrev pub is_there : Option Place → Bool
is_there None = false
is_there (Some Closing) = false
is_there (Some p) = true

abbrev pub are_below : ℕ → List Entry → Bool
are_below n J = list_all (λ e. nat_le e.tenure n) J

more_below : (n m : ℕ) (J : List Entry) → n ≤ m → are_below n J ≡ true → are_below m J ≡ true
more_below n m [] less h = refl
more_below n m (e ∷ J) less h =
    let a = both (nat_le e.tenure n) (are_below n J) h in
    let first : nat_le e.tenure m ≡ true = grind (arith, nat_tests, less, a.0) in
    let rest = more_below n m J less a.1 in
    ap (λ b. b && are_below m J) first ∙ rest

-- Holds if, for a connection that is open and isn't being closed, nothing was heard in a later tenure.
abbrev pub Below : List Event → ℕ → Type 0
Below H c = is_there (place H c) ≡ true → are_below (lends H c + 1) (journal H c) ≡ true

-- If the event leaves connection c as it was, this stays true.
below_found : (H : List Event) (c : ℕ) (found : Option Conn) → found ≡ conn_of c (pool H).conns → Below H c → is_there (place_in found) ≡ true → are_below (lends_in found + 1) (journal H c) ≡ true
below_found H c found same had h = subst (λ f. is_there (place_in f) ≡ true → are_below (lends_in f + 1) (journal H c) ≡ true) (sym same) had h

there_first : (at : Option Place) → (is_idle at || is_opening at) ≡ true → is_there at ≡ true
there_first (Some Idle) h = refl
there_first (Some (Opening w)) h = refl
there_first at h = absurd cc

there_back : (at : Option Place) → (is_lent at || is_opening at) ≡ true → is_there at ≡ true
there_back (Some (Lent t o)) h = refl
there_back (Some (Opening w)) h = refl
there_back at h = absurd cc

pub there_any : (at : Option Place) → (is_idle at || (is_lent at || is_opening at)) ≡ true → is_some at ≡ true
there_any None h = absurd cc
there_any (Some p) h = refl

below_move : (H : List Event) (m : Move) (c : ℕ) → Lawful H → Allowed H (Pool m) → Below H c → Below (Pool m ∷ H) c
below_move H (OpenStart d k) c l a had h = by (same_or_not c (next_number (pool H)))
  where
    by : (c ≡ next_number (pool H)) ⊎ (c ≢ next_number (pool H)) → are_below (lends (Pool (OpenStart d k) ∷ H) c + 1) (journal H c) ≡ true
    by (inl new) = let b = born H l in ap (are_below (lends (Pool (OpenStart d k) ∷ H) c + 1)) (b.silent c (omega (arith, new)))
    by (inr apart) = below_found H c (conn_of c (pool (Pool (OpenStart d k) ∷ H)).conns) (begun_off c (wanted_by H k) (pool H) apart) had h
below_move H (Lend d u o k) c l a had h = by (same_or_not c d)
  where
    by : (c ≡ d) ⊎ (c ≢ d) → are_below (lends (Pool (Lend d u o k) ∷ H) c + 1) (journal H c) ≡ true
    by (inl same) =
        let f = move_facts H (Lend d u o k) a in
        let from : (is_idle (place H c) || is_opening (place H c)) ≡ true = subst (λ e. (is_idle (place H e) || is_opening (place H e)) ≡ true) (sym same) f.moves in
        let more : lends (Pool (Lend c u o k) ∷ H) c ≡ lends H c + 1 = lends_more c u o (pool H).moment (pool H).conns (there_from (place H c) from) in
        let now : lends (Pool (Lend d u o k) ∷ H) c ≡ lends H c + 1 = ap (λ e. lends (Pool (Lend e u o k) ∷ H) c) (sym same) ∙ more in
        more_below (lends H c + 1) (lends (Pool (Lend d u o k) ∷ H) c + 1) (journal H c) (omega (arith, now)) (had (there_first (place H c) from))
    by (inr apart) = below_found H c (conn_of c (pool (Pool (Lend d u o k) ∷ H)).conns) (changed_off d c (lent u o (pool H).moment) (pool H).conns (λ x. refl) apart) had h
below_move H (Back d) c l a had h = by (same_or_not c d)
  where
    by : (c ≡ d) ⊎ (c ≢ d) → are_below (lends (Pool (Back d) ∷ H) c + 1) (journal H c) ≡ true
    by (inl same) =
        let f = move_facts H (Back d) a in
        let from : (is_lent (place H c) || is_opening (place H c)) ≡ true = subst (λ e. (is_lent (place H e) || is_opening (place H e)) ≡ true) (sym same) f.moves in
        let now = changed_any d c (back (pool H).moment) (pool H).conns (λ x. refl) (λ x. refl) in
        more_below (lends H c + 1) (lends (Pool (Back d) ∷ H) c + 1) (journal H c) (omega (arith, now)) (had (there_back (place H c) from))
    by (inr apart) = below_found H c (conn_of c (pool (Pool (Back d) ∷ H)).conns) (changed_off d c (back (pool H).moment) (pool H).conns (λ x. refl) apart) had h
below_move H (CloseStart d why) c l a had h = by (same_or_not c d)
  where
    by : (c ≡ d) ⊎ (c ≢ d) → are_below (lends (Pool (CloseStart d why) ∷ H) c + 1) (journal H c) ≡ true
    by (inl same) =
        let f = move_facts H (CloseStart d why) a in
        let now = changed_place d closing Closing (pool H).conns (λ x. refl) (λ x. refl) (there_any (place H d) f.moves) in
        let clash : false ≡ true = sym (ap is_there (ap (place (Pool (CloseStart d why) ∷ H)) same ∙ now)) ∙ h in
        absurd cc
    by (inr apart) = below_found H c (conn_of c (pool (Pool (CloseStart d why) ∷ H)).conns) (changed_off d c closing (pool H).conns (λ x. refl) apart) had h
below_move H (Gone d) c l a had h = by (same_or_not c d)
  where
    by : (c ≡ d) ⊎ (c ≢ d) → are_below (lends (Pool (Gone d) ∷ H) c + 1) (journal H c) ≡ true
    by (inl same) = let clash : false ≡ true = sym (ap is_there (ap (place (Pool (Gone d) ∷ H)) same ∙ ap place_in (gone_at d (pool H).conns))) ∙ h in absurd cc
    by (inr apart) = below_found H c (conn_of c (pool (Pool (Gone d) ∷ H)).conns) (gone_off d c (pool H).conns apart) had h
below_move H (Fell d k) c l a had h = by (same_or_not c d)
  where
    by : (c ≡ d) ⊎ (c ≢ d) → are_below (lends (Pool (Fell d k) ∷ H) c + 1) (journal H c) ≡ true
    by (inl same) = let clash : false ≡ true = sym (ap is_there (ap (place (Pool (Fell d k) ∷ H)) same ∙ ap place_in (gone_at d (pool H).conns))) ∙ h in absurd cc
    by (inr apart) = below_found H c (conn_of c (pool (Pool (Fell d k) ∷ H)).conns) (gone_off d c (pool H).conns apart) had h

shut_there : (at : Option Place) → is_there (option_map unwanted_place at) ≡ true → is_there at ≡ true
shut_there (Some (Opening w)) h = refl
shut_there _ h = h

below_shut : (H : List Event) (c : ℕ) → Below H c → is_there (place_in (conn_of c (shut (pool H)).conns)) ≡ true → are_below (lends_of c (shut (pool H)).conns + 1) (journal H c) ≡ true
below_shut H c had h =
    let same = shut_lends H c in
    let there = shut_there (place H c) (sym (ap is_there (ap place_in (shut_found c (pool H)) ∙ unwanted_in (conn_of c (pool H).conns))) ∙ h) in
    more_below (lends H c + 1) (lends_of c (shut (pool H)).conns + 1) (journal H c) (omega (arith, same)) (had there)

heard_below : (H : List Event) (e : Entry) → Lawful H → Allowed H (Heard e) → is_there (place H e.conn) ≡ true → nat_le e.tenure (lends H e.conn + 1) ≡ true
heard_below H e l a h = by (place H e.conn) refl (heard_at H e a) h
  where
    by : (at : Option Place) → place H e.conn ≡ at → hears_in (pool H) at e ≡ true → is_there at ≡ true → nat_le e.tenure (lends H e.conn + 1) ≡ true
    by (Some (Opening w)) is hears there =
        let x = both (is_connect e.call) ((e.tenure == 1) && is_house_entry e) hears in
        let y = both (e.tenure == 1) (is_house_entry e) x.1 in
        let first = same_number e.tenure 1 y.0 in
        grind (arith, nat_tests, first)
    by (Some (Lent t o)) is hears there =
        let x = both (not (is_connect e.call || is_shut e.call)) ((e.tenure == t) && same_owner e.owner o) hears in
        let y = both (e.tenure == t) (same_owner e.owner o) x.1 in
        let same = same_number e.tenure t y.0 in
        let tenure = lent_tenure H e.conn t o l is in
        grind (arith, nat_tests, same, tenure)
    by _ is hears there = absurd cc

below : (H : List Event) (c : ℕ) → Lawful H → Below H c
below [] c l h = refl
below (Pool m ∷ H) c l h = below_move H m c l.0 l.1 (below H c l.0) h
below (Entered client k DbClose ∷ H) c l h = below_shut H c (below H c l.0) h
below (Ended ∷ H) c l h = below_shut H c (below H c l.0) h
below (Heard e ∷ H) c l h = by (below H c l.0 h) (e.conn == c) refl
  where
    by : are_below (lends H c + 1) (journal H c) ≡ true → (b : Bool) → (e.conn == c) ≡ b → are_below (lends H c + 1) (cond b (e ∷ journal H c) (journal H c)) ≡ true
    by rest true is =
        let same = same_number e.conn c is in
        let first : nat_le e.tenure (lends H c + 1) ≡ true =
        subst (λ d. nat_le e.tenure (lends H d + 1) ≡ true) same (heard_below H e l.0 l.1 (subst (λ d. is_there (place H d) ≡ true) (sym same) h))
        in
        ap (λ b. b && are_below (lends H c + 1) (journal H c)) first ∙ rest
    by rest false is = rest
below (Ticked now ∷ H) c l h = below_found H c (conn_of c (pool (Ticked now ∷ H)).conns) (ap (conn_of c) (control_conns (Tick now) (pool H))) (below H c l.0) h
below (SetLimit s k ∷ H) c l h = below_found H c (conn_of c (pool (SetLimit s k ∷ H)).conns) (ap (conn_of c) (control_conns (Set s k) (pool H))) (below H c l.0) h
below (_ ∷ H) c l h = below H c l.0 h

none_above : (n t : ℕ) (J : List Entry) → n + 1 ≤ t → are_below n J ≡ true → of_tenure t J ≡ []
none_above n t [] less h = refl
none_above n t (e ∷ J) less h =
    let a = both (nat_le e.tenure n) (are_below n J) h in
    let other : (e.tenure == t) ≡ false = grind (arith, nat_tests, less, a.0) in
    ap (λ b. cond b (e ∷ of_tenure t J) (of_tenure t J)) other ∙ none_above n t J less a.1

pub fresh_lending : (H : List Event) (c t : ℕ) (own : Owner) (k : ℕ) → Lawful H → Allowed H (Pool (Lend c t own k)) → heard_in H c t ≡ []
fresh_lending H c t own k l a =
    let f = move_facts H (Lend c t own k) a in
    let numbers = both (t == next_tenure (pool H) c) (k == number_of own) f.numbers in
    let tenure : t ≡ lends H c + 2 = same_number t (next_tenure (pool H) c) numbers.0 in
    none_above (lends H c + 1) t (journal H c) (omega (arith, tenure)) (below H c l (there_first (place H c) f.moves))
