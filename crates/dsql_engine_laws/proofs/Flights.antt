-- The flights, as one driver call lands or another begins.
use Rattle.std.proofs.Common.{◌≡◌, ◌≢◌, ℕ, ◌==◌, Bool, true, false, not, ◌&&◌, ◌||◌, cond, List, [], ◌∷◌, ◌++◌, Option, Some, refl, sym, ap, ◌∙◌, arith}
use Rattle.std.specs.List.{list_any}
use Rattle.std.proofs.lemmas.Bool.Decides.{nat_tests}
use Rattle.std.proofs.lemmas.List.Folds.{list_any-append}
use Rattle.dsql_engine_hearing.specs.history.declared.record.Flight.{Flight}
use Rattle.dsql_engine_hearing.specs.history.declared.record.Stand.{Stand}
use Rattle.dsql_engine_hearing.specs.history.declared.record.Stand.TheVariants.{Sends}
use Rattle.dsql_engine_hearing.specs.history.Rules.Flights.{has_flight, is_in_flight, is_taken, permitted, without_flight}
use Rattle.dsql_engine_hearing.proofs.laws.Places.{neither}
use Rattle.dsql_engine_hearing.proofs.laws.Tests.{both, same_number}
use Rattle.dsql_engine_laws.specs.Turns.{flies, is_apart}

-- If a driver call is under way, its call and its connection have one.
pub flies_call : (n c : ℕ) (flights : List Flight) → flies n c flights ≡ true → is_in_flight n flights ≡ true
flies_call n c [] h = absurd cc
flies_call n c (x ∷ xs) h = grind (arith, nat_tests, flies_call n c xs, h)

flies_conn : (n c : ℕ) (flights : List Flight) → flies n c flights ≡ true → has_flight c flights ≡ true
flies_conn n c [] h = absurd cc
flies_conn n c (x ∷ xs) h = grind (arith, nat_tests, flies_conn n c xs, h)

-- A connection with another call's driver call under way is taken.
pub flies_taken : (m n c : ℕ) (flights : List Flight) → m ≢ n → flies m c flights ≡ true → is_taken n c flights ≡ true
flies_taken m n c [] apart h = absurd cc
flies_taken m n c (x ∷ xs) apart h = grind (arith, nat_tests, flies_taken m n c xs apart, h, apart)

-- A connection with a driver call under way that isn't this call's is taken.
pub had_taken : (n c : ℕ) (flights : List Flight) → is_in_flight n flights ≡ false → has_flight c flights ≡ true → is_taken n c flights ≡ true
had_taken n c [] parked h = absurd cc
had_taken n c (x ∷ xs) parked h = grind (arith, nat_tests, had_taken n c xs, parked, h)

-- One call has a driver call under way in one place only.

record Apart (x : Flight) (xs : List Flight) : Type 0 where
  call : is_in_flight x.call xs ≡ false
  conn : has_flight x.conn xs ≡ false
  rest : is_apart xs ≡ true

not_so : (b : Bool) → not b ≡ true → b ≡ false
not_so true h = absurd cc
not_so false h = refl

apart_of : (x : Flight) (xs : List Flight) → is_apart (x ∷ xs) ≡ true → Apart x xs
apart_of x xs h =
    let a = both (not (is_in_flight x.call xs || has_flight x.conn xs)) (is_apart xs) h in
    let b = neither (is_in_flight x.call xs) (has_flight x.conn xs) (not_so (is_in_flight x.call xs || has_flight x.conn xs) a.0) in
    record { call = b.0; conn = b.1; rest = a.1 }

apart_with : (x : Flight) (xs : List Flight) → Apart x xs → is_apart (x ∷ xs) ≡ true
apart_with x xs a = rw (a.call, a.conn) a.rest

pub one_place : (n c d : ℕ) (flights : List Flight) → is_apart flights ≡ true → flies n c flights ≡ true → flies n d flights ≡ true → c ≡ d
one_place n c d [] apart at there = absurd cc
one_place n c d (x ∷ xs) apart at there = let a = apart_of x xs apart in by (one_place n c d xs a.rest) (x.call == n) refl a at there
  where
    alone : (e : ℕ) → x.call ≡ n → is_in_flight x.call xs ≡ false → ((x.conn == e) || flies n e xs) ≡ true → x.conn ≡ e
    alone e same none h = on (x.conn == e) refl h
      where
        on : (b : Bool) → (x.conn == e) ≡ b → (b || flies n e xs) ≡ true → x.conn ≡ e
        on true is k = same_number x.conn e is
        on false is k = let clash : true ≡ false = sym (flies_call n e xs k) ∙ (ap (λ m. is_in_flight m xs) (sym same) ∙ none) in absurd cc

    by : (flies n c xs ≡ true → flies n d xs ≡ true → c ≡ d) → (b : Bool) → (x.call == n) ≡ b → Apart x xs → ((b && (x.conn == c)) || flies n c xs) ≡ true → ((b && (x.conn == d)) || flies n d xs) ≡ true → c ≡ d
    by rest true is a k j = let same : x.call ≡ n = same_number x.call n is in sym (alone c same a.call k) ∙ alone d same a.call j
    by rest false is a k j = rest k j

-- A driver call lands.

any_fewer : (q : Flight → Bool) (n : ℕ) (flights : List Flight) → list_any q flights ≡ false → list_any q (without_flight n flights) ≡ false
any_fewer q n [] h = refl
any_fewer q n (x ∷ xs) h = let a = neither (q x) (list_any q xs) h in by (x.call == n) (any_fewer q n xs a.1) a.0
  where
    by : (b : Bool) → list_any q (without_flight n xs) ≡ false → q x ≡ false → list_any q (cond (not b) (x ∷ without_flight n xs) (without_flight n xs)) ≡ false
    by true rest fails = rest
    by false rest fails = rw fails rest

pub apart_landed : (n : ℕ) (flights : List Flight) → is_apart flights ≡ true → is_apart (without_flight n flights) ≡ true
apart_landed n [] h = refl
apart_landed n (x ∷ xs) h = let a = apart_of x xs h in by (x.call == n) a (apart_landed n xs a.rest)
  where
    by : (b : Bool) → Apart x xs → is_apart (without_flight n xs) ≡ true → is_apart (cond (not b) (x ∷ without_flight n xs) (without_flight n xs)) ≡ true
    by true a rest = rest
    by false a rest =
        apart_with x (without_flight n xs)
        (record { call = any_fewer (λ y. y.call == x.call) n xs a.call; conn = any_fewer (λ y. y.conn == x.conn) n xs a.conn; rest = rest })

-- Another call's driver call stays under way.
pub flies_landed : (m n c : ℕ) (flights : List Flight) → m ≢ n → flies m c flights ≡ true → flies m c (without_flight n flights) ≡ true
flies_landed m n c [] apart h = absurd cc
flies_landed m n c (x ∷ xs) apart h = grind (arith, nat_tests, flies_landed m n c xs apart, h, apart)

-- The connection has none under way any more.
pub free_landed : (n c : ℕ) (flights : List Flight) → is_apart flights ≡ true → flies n c flights ≡ true → has_flight c (without_flight n flights) ≡ false
free_landed n c [] apart h = refl
free_landed n c (x ∷ xs) apart h = let a = apart_of x xs apart in by (free_landed n c xs a.rest) (x.call == n) refl (x.conn == c) refl a h
  where
    by : (flies n c xs ≡ true → has_flight c (without_flight n xs) ≡ false) → (a : Bool) → (x.call == n) ≡ a → (b : Bool) → (x.conn == c) ≡ b → Apart x xs → ((a && b) || flies n c xs) ≡ true
        → has_flight c (cond (not a) (x ∷ without_flight n xs) (without_flight n xs)) ≡ false
    by rest true call true conn a k =
        let same : x.conn ≡ c = same_number x.conn c conn in
        any_fewer (λ y. y.conn == c) n xs (ap (λ d. has_flight d xs) (sym same) ∙ a.conn)
    by rest true call false conn a k =
        let same : x.call ≡ n = same_number x.call n call in
        let clash : true ≡ false = sym (flies_call n c xs k) ∙ (ap (λ m. is_in_flight m xs) (sym same) ∙ a.call) in
        absurd cc
    by rest false call true conn a k =
        let same : x.conn ≡ c = same_number x.conn c conn in
        let clash : true ≡ false = sym (flies_conn n c xs k) ∙ (ap (λ d. has_flight d xs) (sym same) ∙ a.conn) in
        absurd cc
    by rest false call false conn a k = ap (λ b. b || has_flight c (without_flight n xs)) conn ∙ rest k

-- A driver call begins.

apart_more : (n c : ℕ) (flights : List Flight) → is_apart flights ≡ true → is_in_flight n flights ≡ false → has_flight c flights ≡ false → is_apart (flights ++ record { call = n; conn = c } ∷ []) ≡ true
apart_more n c [] apart parked free = refl
apart_more n c (x ∷ xs) apart parked free =
    let one : List Flight = record { call = n; conn = c } ∷ [] in
    let a = apart_of x xs apart in
    let p = neither (x.call == n) (is_in_flight n xs) parked in
    let f = neither (x.conn == c) (has_flight c xs) free in
    let call : (n == x.call) ≡ false = grind (arith, nat_tests, p.0) in
    let conn : (c == x.conn) ≡ false = grind (arith, nat_tests, f.0) in
    apart_with x (xs ++ one)
    (record {
      call = list_any-append (λ (y : Flight). y.call == x.call) xs one ∙ rw (a.call, call) refl;
      conn = list_any-append (λ (y : Flight). y.conn == x.conn) xs one ∙ rw (a.conn, conn) refl;
      rest = apart_more n c xs a.rest p.1 f.1;
    })

pub apart_permitted : (n : ℕ) (at : Option Stand) (flights : List Flight) → is_apart flights ≡ true → is_apart (permitted n at flights) ≡ true
apart_permitted n (Some (Sends c)) flights apart = by (is_in_flight n flights || has_flight c flights) refl
  where
    by : (b : Bool) → (is_in_flight n flights || has_flight c flights) ≡ b → is_apart (cond b flights (flights ++ record { call = n; conn = c } ∷ [])) ≡ true
    by true is = apart
    by false is = let none = neither (is_in_flight n flights) (has_flight c flights) is in apart_more n c flights apart none.0 none.1
apart_permitted n _ flights apart = apart

-- A driver call that is under way stays under way as another begins.
pub flies_on : (m d n : ℕ) (at : Option Stand) (flights : List Flight) → flies m d flights ≡ true → flies m d (permitted n at flights) ≡ true
flies_on m d n (Some (Sends c)) flights h = by (is_in_flight n flights || has_flight c flights)
  where
    by : (b : Bool) → flies m d (cond b flights (flights ++ record { call = n; conn = c } ∷ [])) ≡ true
    by true = h
    by false = list_any-append (λ (y : Flight). (y.call == m) && (y.conn == d)) flights (record { call = n; conn = c } ∷ []) ∙ rw h refl
flies_on m d n _ flights h = h

-- Only this call's driver call is new.
pub flew_before : (m d n : ℕ) (at : Option Stand) (flights : List Flight) → m ≢ n → flies m d (permitted n at flights) ≡ true → flies m d flights ≡ true
flew_before m d n (Some (Sends c)) flights apart h = by (is_in_flight n flights || has_flight c flights) h
  where
    by : (b : Bool) → flies m d (cond b flights (flights ++ record { call = n; conn = c } ∷ [])) ≡ true → flies m d flights ≡ true
    by true k = k
    by false k =
        let split = list_any-append (λ (y : Flight). (y.call == m) && (y.conn == d)) flights (record { call = n; conn = c } ∷ []) in
        grind (arith, nat_tests, split, k, apart)
flew_before m d n _ flights apart h = h

-- If neither the call nor the connection has a driver call under way, one begins, after all others.

pub one_more : (n c : ℕ) (flights : List Flight) → is_in_flight n flights ≡ false → has_flight c flights ≡ false → permitted n (Some (Sends c)) flights ≡ flights ++ record { call = n; conn = c } ∷ []
one_more n c flights parked free = rw (parked, free) refl

pub begins : (n c : ℕ) (flights : List Flight) → is_in_flight n flights ≡ false → has_flight c flights ≡ false → flies n c (permitted n (Some (Sends c)) flights) ≡ true
begins n c flights parked free = ap (flies n c) (one_more n c flights parked free) ∙ new
  where
    new : flies n c (flights ++ record { call = n; conn = c } ∷ []) ≡ true
    new =
        let split = list_any-append (λ (y : Flight). (y.call == n) && (y.conn == c)) flights (record { call = n; conn = c } ∷ []) in
        grind (arith, nat_tests, split)
