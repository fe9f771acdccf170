-- Each open connection stands once among the open ones, so a search by its number finds it. The argument is
-- that the numbers rise.
use Rattle.std.proofs.Common.{◌≡◌, ℕ, ◌≤◌, ◌<◌, ◌==◌, Bool, true, false, ◌&&◌, nat_lt, nat_le, cond, List, [], ◌∷◌, Some, is_none, refl, ap, ◌∙◌, arith}
use Rattle.std.proofs.lemmas.Bool.Decides.{nat_tests}
use Rattle.dsql_laws_calls.specs.pool.declared.conn.Conn.{Conn}
use Rattle.dsql_laws_calls.specs.pool.Places.{conn_of}
use Rattle.dsql_laws_calls.proofs.laws.Tests.{both, together}
use Rattle.dsql_laws_others.proofs.Once.{is_once}
use Rattle.dsql_laws_calls.specs.history.declared.event.Event.{Event}
use Rattle.dsql_laws_calls.specs.history.Readers.Pool.{pool}
use Rattle.dsql_laws_callers.proofs.Numbered.{are_rising, numbered}

-- A number up to the first of rising numbers isn't above them, so it isn't found.
none_above : (c n m : ℕ) (conns : List Conn) → c ≤ n → are_rising n m conns ≡ true → is_none (conn_of c conns) ≡ true
none_above c n m [] le h = refl
none_above c n m (x ∷ xs) le h =
    let a = both (nat_lt n x.number && nat_le x.number m) (are_rising x.number m xs) h in
    let b = both (nat_lt n x.number) (nat_le x.number m) a.0 in
    let above : n < x.number = grind (arith, nat_tests, b.0) in
    let other : (x.number == c) ≡ false = grind (arith, nat_tests, above, le) in
    ap (λ (b : Bool). is_none (cond b (Some x) (conn_of c xs))) other ∙ none_above c x.number m xs (omega arith) a.1

rising_once : (n m : ℕ) (conns : List Conn) → are_rising n m conns ≡ true → is_once conns ≡ true
rising_once n m [] h = refl
rising_once n m (x ∷ xs) h =
    let a = both (nat_lt n x.number && nat_le x.number m) (are_rising x.number m xs) h in
    together (is_none (conn_of x.number xs)) (is_once xs) (none_above x.number x.number m xs (omega arith) a.1) (rising_once x.number m xs a.1)

pub once : (H : List Event) → is_once (pool H).conns ≡ true
once H = rising_once 0 (pool H).opened (pool H).conns (numbered H)
