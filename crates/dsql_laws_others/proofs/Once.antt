-- Each open connection stands once among the open ones. So what holds of the connection found by each number
-- holds of all.
use Rattle.std.proofs.Common.{◌≡◌, ℕ, ◌==◌, Bool, true, false, ◌&&◌, cond, List, [], ◌∷◌, Option, Some, None, is_some, is_none, refl, sym, ap, ◌∙◌}
use Rattle.std.specs.Prelude.{find}
use Rattle.std.specs.List.{list_all}
use Rattle.dsql_laws_calls.specs.pool.declared.conn.Conn.{Conn}
use Rattle.dsql_laws_calls.specs.pool.Places.{conn_of}
use Rattle.dsql_laws_calls.proofs.laws.Tests.{both, together, same_itself, other_number}

abbrev pub is_once : List Conn → Bool
is_once [] = true
is_once (x ∷ xs) = is_none (conn_of x.number xs) && is_once xs

-- A connection after the first has another number than the first.
behind : (x y : Conn) (ys : List Conn) → is_none (conn_of y.number ys) ≡ true → conn_of x.number ys ≡ Some x → (y.number == x.number) ≡ false
behind x y ys none is =
    other_number y.number x.number (λ same. clash (conn_of x.number ys) is (ap (λ k. is_none (conn_of k ys)) (sym same) ∙ none))
  where
    clash : (o : Option Conn) → o ≡ Some x → is_none o ≡ true → ⊥
    clash None i k = cc
    clash (Some z) i k = cc

found_behind : (x y : Conn) (ys : List Conn) → is_none (conn_of y.number ys) ≡ true → conn_of x.number ys ≡ Some x → conn_of x.number (y ∷ ys) ≡ Some x
found_behind x y ys none is = ap (λ (b : Bool). cond b (Some y) (conn_of x.number ys)) (behind x y ys none is) ∙ is

-- What holds of each connection that is found by its number holds of all connections.
pub all_found : (q : Conn → Bool) (conns : List Conn) → is_once conns ≡ true → ((x : Conn) → conn_of x.number conns ≡ Some x → q x ≡ true) → list_all q conns ≡ true
all_found q [] h each = refl
all_found q (y ∷ ys) h each =
    let a = both (is_none (conn_of y.number ys)) (is_once ys) h in
    together (q y) (list_all q ys) (each y (ap (λ (b : Bool). cond b (Some y) (conn_of y.number ys)) (same_itself y.number)))
    (all_found q ys a.1 (λ x is. each x (found_behind x y ys a.0 is)))

-- A connection that a test finds passes it and is found by its number.
pub found_number : (q : Conn → Bool) (conns : List Conn) (x : Conn) → is_once conns ≡ true → find q conns ≡ Some x → (conn_of x.number conns ≡ Some x) × (q x ≡ true)
found_number q [] x h is = absurd cc
found_number q (y ∷ ys) x h is = let a = both (is_none (conn_of y.number ys)) (is_once ys) h in by a.0 (found_number q ys x a.1) (q y) refl is
  where
    by : is_none (conn_of y.number ys) ≡ true → (find q ys ≡ Some x → (conn_of x.number ys ≡ Some x) × (q x ≡ true)) → (b : Bool) → q y ≡ b → cond b (Some y) (find q ys) ≡ Some x
        → (conn_of x.number (y ∷ ys) ≡ Some x) × (q x ≡ true)
    by none rest true passes k =
        let same : y ≡ x = cc in
        (ap (λ (z : Conn). conn_of z.number (y ∷ ys)) (sym same) ∙ (ap (λ (b : Bool). cond b (Some y) (conn_of y.number ys)) (same_itself y.number) ∙ ap Some same), ap q (sym same) ∙ passes)
    by none rest false passes k = let r = rest k in (found_behind x y ys none r.0, r.1)

-- If a connection found by its number passes a test, the test finds a connection.
pub found_some : (q : Conn → Bool) (d : ℕ) (conns : List Conn) (x : Conn) → conn_of d conns ≡ Some x → q x ≡ true → is_some (find q conns) ≡ true
found_some q d [] x is passes = absurd cc
found_some q d (y ∷ ys) x is passes = by (found_some q d ys x) (y.number == d) is
  where
    later : (b : Bool) → is_some (find q ys) ≡ true → is_some (cond b (Some y) (find q ys)) ≡ true
    later true h = refl
    later false h = h

    by : (conn_of d ys ≡ Some x → q x ≡ true → is_some (find q ys) ≡ true) → (b : Bool) → cond b (Some y) (conn_of d ys) ≡ Some x → is_some (cond (q y) (Some y) (find q ys)) ≡ true
    by rest true k = let same : y ≡ x = cc in ap (λ (b : Bool). is_some (cond b (Some y) (find q ys))) (ap q same ∙ passes)
    by rest false k = later (q y) (rest k passes)
