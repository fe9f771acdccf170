-- Proves that connections are numbered from 1, in the order in which the pool began to open them.
use Rattle.std.proofs.Common.{◌≡◌, ℕ, ◌+◌, ◌<◌, ◌≤◌, ◌==◌, Bool, true, false, not, ◌&&◌, cond, List, [], ◌∷◌, ◌++◌, map, Option, Some, None, refl, sym, ap, subst, ◌∙◌, ◌⊎◌, inl, inr, arith}
use Rattle.std.specs.Prelude.{nat_lt, nat_le, filter, find}
use Rattle.std.proofs.lemmas.Bool.Decides.{nat_tests}
use Rattle.dsql_laws_calls.specs.journal.declared.entry.Owner.{Owner}
use Rattle.dsql_laws_calls.specs.pool.declared.conn.Conn.{Conn}
use Rattle.dsql_laws_calls.specs.pool.declared.conn.Place.TheVariants.{Opening}
use Rattle.dsql_laws_calls.specs.pool.declared.moves.Move.{Move}
use Rattle.dsql_laws_calls.specs.pool.declared.moves.Move.TheVariants.{OpenStart, Lend, Back, CloseStart, Gone, Fell}
use Rattle.dsql_laws_calls.specs.pool.Places.{conn_of, is_opening}
use Rattle.dsql_laws_calls.specs.pool.Changes.{lent, back, closing, conn_changed, opening, unwanted}
use Rattle.dsql_laws_calls.specs.pool.Pooled.{Pooled}
use Rattle.dsql_laws_calls.proofs.pool.Found.{KeepsNumber}
use Rattle.dsql_laws_calls.proofs.pool.Rows.{left_of, right_of, both}
use Rattle.dsql_laws_calls.proofs.Cases.{control_conns, control_opened}
use Rattle.dsql_laws_calls.specs.history.declared.event.Control.TheVariants.{Tick, Set}
use Rattle.dsql_laws_calls.specs.history.declared.event.Event.{Event}
use Rattle.dsql_laws_calls.specs.history.declared.event.Event.TheVariants.{Entered, Pool, Ticked, SetLimit, Ended}
use Rattle.dsql_laws_calls.specs.history.declared.event.Op.TheVariants.{DbClose}
use Rattle.dsql_laws_calls.specs.history.Readers.Pool.{pool, wanted_by, with_move}

-- Is true if the connections' numbers rise, from above n up to m.
abbrev pub are_rising : ℕ → ℕ → List Conn → Bool
are_rising n m [] = true
are_rising n m (x ∷ xs) = (nat_lt n x.number && nat_le x.number m) && are_rising x.number m xs

lower : (k n m : ℕ) (xs : List Conn) → k ≤ n → are_rising n m xs ≡ true → are_rising k m xs ≡ true
lower k n m [] le h = refl
lower k n m (x ∷ xs) le h =
    let here = left_of (nat_lt n x.number && nat_le x.number m) (are_rising x.number m xs) h in
    let below : nat_lt k x.number ≡ true = grind (arith, nat_tests, left_of (nat_lt n x.number) (nat_le x.number m) here, le) in
    both (nat_lt k x.number && nat_le x.number m) (are_rising x.number m xs) (both (nat_lt k x.number) (nat_le x.number m) below (right_of (nat_lt n x.number) (nat_le x.number m) here))
    (right_of (nat_lt n x.number && nat_le x.number m) (are_rising x.number m xs) h)

rising_more : (n m : ℕ) (w : Option Owner) (xs : List Conn) → n ≤ m → are_rising n m xs ≡ true → are_rising n (m + 1) (xs ++ opening (m + 1) w ∷ []) ≡ true
rising_more n m w [] le h = grind (arith, nat_tests, le)
rising_more n m w (x ∷ xs) le h =
    let here = left_of (nat_lt n x.number && nat_le x.number m) (are_rising x.number m xs) h in
    let up : x.number ≤ m = grind (arith, nat_tests, right_of (nat_lt n x.number) (nat_le x.number m) here) in
    let upper : nat_le x.number (m + 1) ≡ true = grind (arith, nat_tests, up) in
    both (nat_lt n x.number && nat_le x.number (m + 1)) (are_rising x.number (m + 1) (xs ++ opening (m + 1) w ∷ []))
    (both (nat_lt n x.number) (nat_le x.number (m + 1)) (left_of (nat_lt n x.number) (nat_le x.number m) here) upper)
    (rising_more x.number m w xs up (right_of (nat_lt n x.number && nat_le x.number m) (are_rising x.number m xs) h))

rising_map : (f : Conn → Conn) (n m : ℕ) (xs : List Conn) → KeepsNumber f → are_rising n m xs ≡ true → are_rising n m (map f xs) ≡ true
rising_map f n m [] keeps h = refl
rising_map f n m (x ∷ xs) keeps h =
    let here = left_of (nat_lt n x.number && nat_le x.number m) (are_rising x.number m xs) h in
    let rest = right_of (nat_lt n x.number && nat_le x.number m) (are_rising x.number m xs) h in
    subst (λ k. (nat_lt n k && nat_le k m) && are_rising k m (map f xs) ≡ true) (sym (keeps x))
    (both (nat_lt n x.number && nat_le x.number m) (are_rising x.number m (map f xs)) here (rising_map f x.number m xs keeps rest))

rising_changed : (c : ℕ) (f : Conn → Conn) (n m : ℕ) (xs : List Conn) → KeepsNumber f → are_rising n m xs ≡ true → are_rising n m (conn_changed c f xs) ≡ true
rising_changed c f n m [] keeps h = refl
rising_changed c f n m (x ∷ xs) keeps h =
    let here = left_of (nat_lt n x.number && nat_le x.number m) (are_rising x.number m xs) h in
    let rest = right_of (nat_lt n x.number && nat_le x.number m) (are_rising x.number m xs) h in
    elim (x.number == c) as (λ b. are_rising n m (cond b (f x ∷ xs) (x ∷ conn_changed c f xs)) ≡ true) [
      | true ↦ subst (λ k. (nat_lt n k && nat_le k m) && are_rising k m xs ≡ true) (sym (keeps x)) h
      | false ↦ both (nat_lt n x.number && nat_le x.number m) (are_rising x.number m (conn_changed c f xs)) here (rising_changed c f x.number m xs keeps rest)
    ]

below_of : (n m k : ℕ) → (nat_lt n k && nat_le k m) ≡ true → n ≤ k
below_of n m k h = grind (arith, nat_tests, left_of (nat_lt n k) (nat_le k m) h)

rising_filter : (q : Conn → Bool) (n m : ℕ) (xs : List Conn) → are_rising n m xs ≡ true → are_rising n m (filter q xs) ≡ true
rising_filter q n m [] h = refl
rising_filter q n m (x ∷ xs) h =
    let here = left_of (nat_lt n x.number && nat_le x.number m) (are_rising x.number m xs) h in
    let rest = rising_filter q x.number m xs (right_of (nat_lt n x.number && nat_le x.number m) (are_rising x.number m xs) h) in
    elim (q x) as (λ b. are_rising n m (cond b (x ∷ filter q xs) (filter q xs)) ≡ true) [
      | true ↦ both (nat_lt n x.number && nat_le x.number m) (are_rising x.number m (filter q xs)) here rest
      | false ↦ lower n x.number m (filter q xs) (below_of n m x.number here) rest
    ]

-- What is known of a connection that a search finds among them.
pub record FoundThere (n m : ℕ) (xs : List Conn) (x : Conn) : Type 0 where
  pub above : n < x.number
  pub within : x.number ≤ m
  pub there : conn_of x.number xs ≡ Some x

first_there : (n m : ℕ) (xs : List Conn) (y x : Conn) → (nat_lt n x.number && nat_le x.number m) ≡ true → Some x ≡ Some y → FoundThere n m (x ∷ xs) y
first_there n m xs y x here is =
    let same : x ≡ y = cc in
    let at_first : FoundThere n m (x ∷ xs) x =
    record {
      above = grind (arith, nat_tests, left_of (nat_lt n x.number) (nat_le x.number m) here);
      within = grind (arith, nat_tests, right_of (nat_lt n x.number) (nat_le x.number m) here);
      there = let itself : (x.number == x.number) ≡ true = grind (arith, nat_tests) in ap (λ b. cond b (Some x) (conn_of x.number xs)) itself;
    }
    in
    subst (λ z. FoundThere n m (x ∷ xs) z) same at_first

pub found_there : (p : Conn → Bool) (n m : ℕ) (xs : List Conn) (y : Conn) → are_rising n m xs ≡ true → find p xs ≡ Some y → FoundThere n m xs y
found_there p n m [] y h is = absurd cc
found_there p n m (x ∷ xs) y h is =
    let here = left_of (nat_lt n x.number && nat_le x.number m) (are_rising x.number m xs) h in
    let rest = right_of (nat_lt n x.number && nat_le x.number m) (are_rising x.number m xs) h in
    elim (p x) as (λ b. cond b (Some x) (find p xs) ≡ Some y → FoundThere n m (x ∷ xs) y) [
      | true ↦ λ same. first_there n m xs y x here same
      | false ↦ λ same.
          let f = found_there p x.number m xs y rest same in
          let above = f.above in
          let beside : (x.number == y.number) ≡ false = grind (arith, nat_tests, above) in
          let below = below_of n m x.number here in
          record { above = omega (arith, above, below); within = f.within; there = ap (λ b. cond b (Some x) (conn_of y.number xs)) beside ∙ f.there }
    ] is

-- The connections after an event that is no move.

abbrev pub is_move : Event → Bool
is_move (Pool m) = true
is_move _ = false

pub record Stays (p q : Pooled) : Type 0 where
  pub conns : q.conns ≡ p.conns
  pub opened : q.opened ≡ p.opened

pub record Shuts (p q : Pooled) : Type 0 where
  pub conns : q.conns ≡ map unwanted p.conns
  pub opened : q.opened ≡ p.opened

pub stays_or_shuts : (H : List Event) (e : Event) → is_move e ≡ false → Stays (pool H) (pool (e ∷ H)) ⊎ Shuts (pool H) (pool (e ∷ H))
stays_or_shuts H (Pool m) no_move = absurd cc
stays_or_shuts H (Entered client n DbClose) no_move = inr (record { conns = refl; opened = refl })
stays_or_shuts H Ended no_move = inr (record { conns = refl; opened = refl })
stays_or_shuts H (Ticked now) no_move = inl (record { conns = control_conns (Tick now) (pool H); opened = control_opened (Tick now) (pool H) })
stays_or_shuts H (SetLimit s n) no_move = inl (record { conns = control_conns (Set s n) (pool H); opened = control_opened (Set s n) (pool H) })
stays_or_shuts H _ no_move = inl (record { conns = refl; opened = refl })

-- The numbers rise, from 1 up to the number of connections that were opened.

abbrev pub are_numbered : Pooled → Bool
are_numbered p = are_rising 0 p.opened p.conns

pub unwanted_number : (x : Conn) → (unwanted x).number ≡ x.number
unwanted_number x = elim (is_opening (Some x.place)) as (λ b. (cond b (record x { place = Opening None }) x).number ≡ x.number) [ true ↦ refl | false ↦ refl ]

moved_numbered : (H : List Event) (m : Move) → are_numbered (pool H) ≡ true → are_numbered (with_move H m (pool H)) ≡ true
moved_numbered H (OpenStart c n) h = rising_more 0 (pool H).opened (wanted_by H n) (pool H).conns (omega arith) h
moved_numbered H (Lend c t o n) h = rising_changed c (lent t o (pool H).moment) 0 (pool H).opened (pool H).conns (λ x. refl) h
moved_numbered H (Back c) h = rising_changed c (back (pool H).moment) 0 (pool H).opened (pool H).conns (λ x. refl) h
moved_numbered H (CloseStart c why) h = rising_changed c closing 0 (pool H).opened (pool H).conns (λ x. refl) h
moved_numbered H (Gone c) h = rising_filter (λ x. not (x.number == c)) 0 (pool H).opened (pool H).conns h
moved_numbered H (Fell c n) h = rising_filter (λ x. not (x.number == c)) 0 (pool H).opened (pool H).conns h

turned_numbered : (p q : Pooled) → Stays p q ⊎ Shuts p q → are_numbered p ≡ true → are_numbered q ≡ true
turned_numbered p q (inl s) h = ap (λ xs. are_rising 0 q.opened xs) s.conns ∙ (ap (λ n. are_rising 0 n p.conns) s.opened ∙ h)
turned_numbered p q (inr s) h = ap (λ xs. are_rising 0 q.opened xs) s.conns ∙ (ap (λ n. are_rising 0 n (map unwanted p.conns)) s.opened ∙ rising_map unwanted 0 p.opened p.conns unwanted_number h)

pub numbered : (H : List Event) → are_numbered (pool H) ≡ true
numbered [] = refl
numbered (Pool m ∷ H) = moved_numbered H m (numbered H)
numbered (e ∷ H) = turned_numbered (pool H) (pool (e ∷ H)) (stays_or_shuts H e refl) (numbered H)
