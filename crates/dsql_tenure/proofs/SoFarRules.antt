-- The argument that what is kept of a tenure decides the rules of its entries.
use Rattle.std.proofs.Common.{◌≡◌, ℕ, Bool, true, false, cond, not, ◌&&◌, ◌||◌, ◌==◌, nat_lt, max, Option, None, Some, List, [], ◌∷◌, refl, sym, ◌∙◌, ap, eqb→eq, is_none}
use Rattle.std.specs.List.{filter, list_all, list_any}
use native.Mathlib.Omega.{arith}
use Rattle.std.proofs.lemmas.Bool.Decides.{nat_tests}
use Rattle.dsql_driver.specs.declared.call.DriverCall.{DriverCall}
use Rattle.dsql_driver.specs.declared.call.DriverCall.TheVariants.{Reset, Valid, Ping, Exec, Query}
use Rattle.dsql_driver.specs.declared.call.Input.TheVariants.{Text, Handle}
use Rattle.dsql_driver.specs.Fits.{is_skip}
use Rattle.dsql_tenure_journal.specs.declared.entry.Entry.{Entry}
use Rattle.dsql_tenure_journal.specs.declared.entry.Owner.{Owner}
use Rattle.dsql_tenure_journal.specs.declared.entry.Owner.TheVariants.{Call, Tx, Pin, House}
use Rattle.dsql_tenure_journal.specs.Kinds.{◌⇒◌, is_number, same_owner}
use Rattle.dsql_driver.specs.Kinds.{is_reset, is_valid, is_ping, is_prepare, runs_text, is_next, given_handle}
use Rattle.dsql_tenure_journal.specs.Readers.{is_empty, last_owner}
use Rattle.dsql_tenure_journal.specs.Tenure.{place, is_body}
use Rattle.dsql_tenure.specs.declared.so_far.Prepared.{Prepared}
use Rattle.dsql_tenure.specs.declared.so_far.Prepared.TheVariants.{Nothing, Otherwise}
use Rattle.dsql_tenure.specs.declared.so_far.Prepared.TheVariants as was
use Rattle.dsql_tenure.specs.SoFar.{last_place, prepared, prepared_with}
use Rattle.dsql_tenure.specs.TenureParts.{has_owner, allows}
use Rattle.dsql_tenure.proofs.Lists.{list_all-none, list_all-same}

pub same_owner-is : (a b : Owner) → same_owner a b ≡ true → a ≡ b
same_owner-is (Call n) (Call m) h = ap (λ k. Call k) (eqb→eq n m (grind (arith, nat_tests, h)))
same_owner-is (Tx n) (Tx m) h = ap (λ k. Tx k) (eqb→eq n m (grind (arith, nat_tests, h)))
same_owner-is (Pin n) (Pin m) h = ap (λ k. Pin k) (eqb→eq n m (grind (arith, nat_tests, h)))
same_owner-is House House h = refl
same_owner-is _ _ h = grind (arith, h)

-- Holds if all entries have the owner of the last one.
pub record OneOwner (earlier : List Entry) : Type 0 where
  pub all : (w : Owner) → last_owner earlier ≡ Some w → list_all (λ x. same_owner x.owner w) earlier ≡ true

pub is_none-owner : (earlier : List Entry) → is_none (last_owner earlier) ≡ is_empty earlier
is_none-owner [] = refl
is_none-owner (x ∷ xs) = refl

-- The owner of the last entry is the owner of all.
pub one_owner : (earlier : List Entry) (o : Owner) → OneOwner earlier → has_owner (last_owner earlier) o ≡ list_all (λ x. same_owner x.owner o) earlier
one_owner [] o one = refl
one_owner (e ∷ earlier) o one =
    go (same_owner e.owner o) refl (one.all e.owner refl)
  where
    pick : (a b : Bool) → (a && b) ≡ true → b ≡ true
    pick true b h = h
    pick false b h = grind (arith, h)

    go : (b : Bool) → same_owner e.owner o ≡ b → (same_owner e.owner e.owner && list_all (λ x. same_owner x.owner e.owner) earlier) ≡ true
        → b ≡ (b && list_all (λ x. same_owner x.owner o) earlier)
    go true is h =
        let same : e.owner ≡ o = same_owner-is e.owner o is in
        let rest : list_all (λ x. same_owner x.owner e.owner) earlier ≡ true = pick (same_owner e.owner e.owner) _ h in
        sym (ap (λ w. list_all (λ x. same_owner x.owner w) earlier) (sym same) ∙ rest)
    go false is h = refl

-- A Next is exactly the call with the fourth place.
pub next-place : (q : DriverCall) → is_next q ≡ (place q == 4)
next-place (Exec (Text text) params) = refl
next-place (Exec (Handle h) params) = refl
next-place (Query (Text text) params) = refl
next-place (Query (Handle h) params) = refl
next-place _ = refl

pub tests-place : (q : DriverCall) → not (is_reset q || is_valid q) ≡ false → place q ≡ 0
tests-place Reset h = refl
tests-place Valid h = refl
tests-place _ h = grind (arith, h)

pub ping-place : (q : DriverCall) → is_ping q ≡ true → (place q ≡ 0) × (not (is_reset q || is_valid q) ≡ true)
ping-place Ping h = (refl, refl)
ping-place _ h = grind (arith, h)

-- Is true if the next place may come after the last one.
abbrev after_place : ℕ → ℕ → Bool
after_place last next = nat_lt last next || ((last == 4) && (next == 4))

after_max : (a b p : ℕ) → (after_place a p && after_place b p) ≡ after_place (max a b) p
after_max a b p = go (nat_lt a b) refl
  where
    go : (c : Bool) → nat_lt a b ≡ c → (after_place a p && after_place b p) ≡ after_place (max a b) p
    go true is =
        let top : max a b ≡ b = grind (arith, nat_tests, is) in
        rw top (less (nat_lt a p) (a == 4) (nat_lt b p) (b == 4) (p == 4) (grind (arith, nat_tests, is)) (grind (arith, nat_tests, is)))
      where
        less : (w x y z v : Bool) → ((y || (z && v)) ≡ true → (w || (x && v)) ≡ true) → ((y || (z && v)) ≡ true → (w || (x && v)) ≡ true)
            → ((w || (x && v)) && (y || (z && v))) ≡ (y || (z && v))
        less w x y z v h k = bools (w || (x && v)) (y || (z && v)) h
          where
            bools : (m n : Bool) → (n ≡ true → m ≡ true) → (m && n) ≡ n
            bools m true h = both m (h refl)
              where
                both : (m : Bool) → m ≡ true → (m && true) ≡ true
                both true h = refl
                both false h = h
            bools true false h = refl
            bools false false h = refl
    go false is =
        let top : max a b ≡ a = grind (arith, nat_tests, is) in
        rw top (more (after_place a p) (after_place b p) (λ h. grind (arith, nat_tests, is, h)))
      where
        more : (m n : Bool) → (m ≡ true → n ≡ true) → (m && n) ≡ m
        more true n h = h refl
        more false n h = refl

-- A call keeps the order against each entry exactly if it keeps it against the last place.
pub in_order : (q : DriverCall) (earlier : List Entry) → nat_lt 0 (place q) ≡ true
    → list_all (λ x. nat_lt (place x.call) (place q) || is_next x.call && is_next q) (filter is_body earlier) ≡ (nat_lt (last_place earlier) (place q) || is_next q && (last_place earlier == 4))
in_order q [] some = grind (arith, some, nat_tests)
in_order q (e ∷ earlier) some =
    step (is_body e) refl (in_order q earlier some)
  where
    swap : (a b c : Bool) → (a || (b && c)) ≡ (a || (c && b))
    swap true b c = refl
    swap false true true = refl
    swap false true false = refl
    swap false false true = refl
    swap false false false = refl

    as_places : (x : DriverCall) → (nat_lt (place x) (place q) || is_next x && is_next q) ≡ after_place (place x) (place q)
    as_places x = rw (next-place x, next-place q) refl

    as_place : (n : ℕ) → (nat_lt n (place q) || is_next q && (n == 4)) ≡ after_place n (place q)
    as_place n = rw (next-place q) (swap (nat_lt n (place q)) (place q == 4) (n == 4))

    step : (b : Bool) → is_body e ≡ b
        → list_all (λ x. nat_lt (place x.call) (place q) || is_next x.call && is_next q) (filter is_body earlier) ≡ (nat_lt (last_place earlier) (place q) || is_next q && (last_place earlier == 4))
        → list_all (λ x. nat_lt (place x.call) (place q) || is_next x.call && is_next q) (cond b (e ∷ filter is_body earlier) (filter is_body earlier))
        ≡ (nat_lt (max (place e.call) (last_place earlier)) (place q) || is_next q && (max (place e.call) (last_place earlier) == 4))
    step true is h =
        let more = h ∙ as_place (last_place earlier) in
        rw (as_place (max (place e.call) (last_place earlier)), as_places e.call, more) (after_max (place e.call) (last_place earlier) (place q))
    step false is h =
        let none : place e.call ≡ 0 = tests-place e.call is in
        let top : max (place e.call) (last_place earlier) ≡ last_place earlier = grind (arith, none) in
        rw top h

-- The Prepares of a tenure allow a handle exactly if each gave it.
pub prepared-allows : (n : ℕ) (earlier : List Entry) → list_all (λ x. is_prepare x.call ⇒ is_number (given_handle x.answer) n) earlier ≡ allows (prepared earlier) n
prepared-allows n [] = refl
prepared-allows n (e ∷ earlier) = go (is_prepare e.call) (given_handle e.answer) (prepared earlier) (prepared-allows n earlier)
  where
    go : (b : Bool) (o : Option ℕ) (p : Prepared) → list_all (λ x. is_prepare x.call ⇒ is_number (given_handle x.answer) n) earlier ≡ allows p n
        → ((b ⇒ is_number o n) && list_all (λ x. is_prepare x.call ⇒ is_number (given_handle x.answer) n) earlier) ≡ allows (cond b (prepared_with o p) p) n
    go false o p h = h
    go true None Nothing h = refl
    go true None (was.Handle k) h = refl
    go true None Otherwise h = refl
    go true (Some m) Nothing h = last (m == n) h
      where
        last : (a : Bool) → list_all (λ x. is_prepare x.call ⇒ is_number (given_handle x.answer) n) earlier ≡ true → (a && list_all (λ x. is_prepare x.call ⇒ is_number (given_handle x.answer) n) earlier) ≡ a
        last true h = h
        last false h = refl
    go true (Some m) (was.Handle k) h = twice (m == k) refl h
      where
        twice : (a : Bool) → (m == k) ≡ a → list_all (λ x. is_prepare x.call ⇒ is_number (given_handle x.answer) n) earlier ≡ (k == n)
            → ((m == n) && list_all (λ x. is_prepare x.call ⇒ is_number (given_handle x.answer) n) earlier) ≡ allows (cond a (was.Handle k) Otherwise) n
        twice true is h = let same : m ≡ k = eqb→eq m k (grind (arith, nat_tests, is)) in rw (h, same) (both (k == n))
          where
            both : (a : Bool) → (a && a) ≡ a
            both true = refl
            both false = refl
        twice false is h = rw h (apart (m == n) (k == n) (λ a b. grind (arith, nat_tests, is, a, b)))
          where
            apart : (a b : Bool) → (a ≡ true → b ≡ true → ⊥) → (a && b) ≡ false
            apart true true h = absurd (h refl refl)
            apart true false h = refl
            apart false b h = refl
    go true (Some m) Otherwise h = rw h (never (m == n))
      where
        never : (a : Bool) → (a && false) ≡ false
        never true = refl
        never false = refl

-- The tenure skipped each text exactly if it ran none that wasn't skipped.
pub ran-none : (earlier : List Entry) → list_all (λ x. runs_text x.call ⇒ is_skip x.answer) earlier ≡ not (list_any (λ x. runs_text x.call && not (is_skip x.answer)) earlier)
ran-none earlier =
    list_all-same (λ x. runs_text x.call ⇒ is_skip x.answer) (λ x. not (runs_text x.call && not (is_skip x.answer))) (λ x. go (runs_text x.call) (is_skip x.answer)) earlier
    ∙ list_all-none (λ x. runs_text x.call && not (is_skip x.answer)) earlier
  where
    go : (a b : Bool) → (a ⇒ b) ≡ not (a && not b)
    go true true = refl
    go true false = refl
    go false b = refl

-- A tenure that has a ping has an entry of its body.
pub pinged-worked : (earlier : List Entry) → list_any (λ x. is_ping x.call) earlier ≡ true → list_any is_body earlier ≡ true
pinged-worked [] h = h
pinged-worked (e ∷ earlier) h = go (is_ping e.call) refl h (pinged-worked earlier)
  where
    either : (a b : Bool) → b ≡ true → (a || b) ≡ true
    either true b h = refl
    either false b h = h

    first : (a b : Bool) → a ≡ true → (a || b) ≡ true
    first true b h = refl
    first false b h = grind (arith, h)

    go : (a : Bool) → is_ping e.call ≡ a → (a || list_any (λ x. is_ping x.call) earlier) ≡ true → (list_any (λ x. is_ping x.call) earlier ≡ true → list_any is_body earlier ≡ true)
        → (is_body e || list_any is_body earlier) ≡ true
    go true is h more = first (is_body e) (list_any is_body earlier) (ping-place e.call is).1
    go false is h more = either (is_body e) (list_any is_body earlier) (more h)
