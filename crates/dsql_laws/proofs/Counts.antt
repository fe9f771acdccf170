-- Counts the connections and the requests that pass a test, before and after each change.
use Rattle.std.proofs.Common.{◌≡◌, ℕ, ◌+◌, ◌≤◌, ◌==◌, Bool, true, false, not, ◌||◌, cond, List, [], ◌∷◌, ◌++◌, map, Option, Some, None, refl, ap, ◌∙◌, arith}
use Rattle.std.specs.Prelude.{count_by, find}
use Rattle.std.specs.Option.{option_map}
use Rattle.std.proofs.lemmas.List.Sums.{sum_by-cons, sum_by-append}
use Rattle.dsql_history.specs.wait.declared.request.Request.{Request}
use Rattle.dsql_history.specs.wait.Requests.{waits, without_call}
use Rattle.dsql_history.specs.pool.declared.conn.Conn.{Conn}
use Rattle.dsql_history.specs.pool.Places.{conn_of}
use Rattle.dsql_history.specs.pool.Changes.{conn_changed, gone}
use Rattle.dsql_history.proofs.pool.Frees.{passing, count-cons, count-changed}

abbrev one_if : Bool → ℕ
one_if b = cond b 1 0

-- The requests.

abbrev pub is_of_call : ℕ → Request → Bool
is_of_call n r = r.call == n

pub request-cons : (n : ℕ) (r : Request) (rs : List Request) → count_by (is_of_call n) (r ∷ rs) ≡ one_if (is_of_call n r) + count_by (is_of_call n) rs
request-cons n r rs = sum_by-cons (λ (x : Request). one_if (is_of_call n x)) r rs

pub request-more : (n : ℕ) (r : Request) (rs : List Request) → count_by (is_of_call n) (rs ++ r ∷ []) ≡ count_by (is_of_call n) rs + one_if (is_of_call n r)
request-more n r rs =
    let split = sum_by-append (λ (x : Request). one_if (is_of_call n x)) rs (r ∷ []) in
    let last = request-cons n r [] in
    omega (arith, split, last)

-- Without a call's requests, none of that call is left.
pub left_none : (n : ℕ) (rs : List Request) → count_by (is_of_call n) (without_call n rs) ≡ 0
left_none n [] = refl
left_none n (r ∷ rs) =
    let rest = left_none n rs in
    elim (is_of_call n r) as (λ b. is_of_call n r ≡ b → count_by (is_of_call n) (cond (not b) (r ∷ without_call n rs) (without_call n rs)) ≡ 0) [
      | true ↦ λ is. rest
      | false ↦ λ is. request-cons n r (without_call n rs) ∙ rw (is, rest) refl
    ] refl

pub left_fewer : (n m : ℕ) (rs : List Request) → count_by (is_of_call n) (without_call m rs) ≤ count_by (is_of_call n) rs
left_fewer n m [] = omega arith
left_fewer n m (r ∷ rs) =
    let rest = left_fewer n m rs in
    let before = request-cons n r rs in
    let after = request-cons n r (without_call m rs) in
    elim (is_of_call m r) as (λ b. count_by (is_of_call n) (cond (not b) (r ∷ without_call m rs) (without_call m rs)) ≤ count_by (is_of_call n) (r ∷ rs)) [
      | true ↦ omega (arith, rest, before)
      | false ↦ omega (arith, rest, before, after)
    ]

pub waits_none : (n : ℕ) (rs : List Request) → waits n rs ≡ false → count_by (is_of_call n) rs ≡ 0
waits_none n [] h = refl
waits_none n (r ∷ rs) h =
    elim (is_of_call n r) as (λ b. is_of_call n r ≡ b → (b || waits n rs) ≡ false → count_by (is_of_call n) (r ∷ rs) ≡ 0) [
      | true ↦ λ is k. absurd cc
      | false ↦ λ is k. request-cons n r rs ∙ rw (is, waits_none n rs k) refl
    ] refl h

pub waits_some : (n : ℕ) (rs : List Request) → waits n rs ≡ true → 1 ≤ count_by (is_of_call n) rs
waits_some n [] h = absurd cc
waits_some n (r ∷ rs) h =
    let split = request-cons n r rs in
    elim (is_of_call n r) as (λ b. is_of_call n r ≡ b → (b || waits n rs) ≡ true → 1 ≤ count_by (is_of_call n) (r ∷ rs)) [
      | true ↦ λ is k. let here : one_if (is_of_call n r) ≡ 1 = ap one_if is in omega (arith, split, here)
      | false ↦ λ is k. let rest = waits_some n rs k in omega (arith, split, rest)
    ] refl h

-- The connections.

pub passing_one : (q : Conn → Bool) (o : Option Conn) → passing q o ≤ 1
passing_one q None = omega arith
passing_one q (Some x) = elim (q x) as (λ b. one_if b ≤ 1) [ true ↦ omega arith | false ↦ omega arith ]

mapped_none : (q : Conn → Bool) (f : Conn → Conn) (o : Option Conn) → ((x : Conn) → q (f x) ≡ false) → passing q (option_map f o) ≡ 0
mapped_none q f None h = refl
mapped_none q f (Some x) h = ap one_if (h x)

-- If no changed connection passes the test, a change doesn't raise the count.
pub changed_fewer : (q : Conn → Bool) (c : ℕ) (f : Conn → Conn) (conns : List Conn) → ((x : Conn) → q (f x) ≡ false) → count_by q (conn_changed c f conns) ≤ count_by q conns
changed_fewer q c f conns h =
    let change = count-changed q c f conns in
    let none = mapped_none q f (conn_of c conns) h in
    omega (arith, change, none)

pub changed_one_more : (q : Conn → Bool) (c : ℕ) (f : Conn → Conn) (conns : List Conn) → count_by q (conn_changed c f conns) ≤ count_by q conns + 1
changed_one_more q c f conns =
    let change = count-changed q c f conns in
    let most = passing_one q (option_map f (conn_of c conns)) in
    omega (arith, change, most)

-- If the connection passed the test before, its change doesn't raise the count.
pub changed_same : (q : Conn → Bool) (c : ℕ) (f : Conn → Conn) (conns : List Conn) → passing q (conn_of c conns) ≡ 1 → count_by q (conn_changed c f conns) ≤ count_by q conns
changed_same q c f conns here =
    let change = count-changed q c f conns in
    let most = passing_one q (option_map f (conn_of c conns)) in
    omega (arith, change, most, here)

pub gone_fewer : (q : Conn → Bool) (c : ℕ) (conns : List Conn) → count_by q (gone c conns) ≤ count_by q conns
gone_fewer q c [] = omega arith
gone_fewer q c (x ∷ xs) =
    let rest = gone_fewer q c xs in
    let before = count-cons q x xs in
    let after = count-cons q x (gone c xs) in
    elim (x.number == c) as (λ b. count_by q (cond (not b) (x ∷ gone c xs) (gone c xs)) ≤ count_by q (x ∷ xs)) [ true ↦ omega (arith, rest, before) | false ↦ omega (arith, rest, before, after) ]

pub mapped_fewer : (q : Conn → Bool) (f : Conn → Conn) (conns : List Conn) → ((x : Conn) → one_if (q (f x)) ≤ one_if (q x)) → count_by q (map f conns) ≤ count_by q conns
mapped_fewer q f [] h = omega arith
mapped_fewer q f (x ∷ xs) h =
    let rest = mapped_fewer q f xs h in
    let here = h x in
    let before = count-cons q x xs in
    let after = count-cons q (f x) (map f xs) in
    omega (arith, rest, here, before, after)

-- What isn't found isn't counted.

pub unmapped : {A B : Type 0} (f : A → B) (o : Option A) → option_map f o ≡ None → o ≡ None
unmapped f None h = refl
unmapped f (Some a) h = absurd cc

pub uncounted : (q : Conn → Bool) (conns : List Conn) → find q conns ≡ None → count_by q conns ≡ 0
uncounted q [] h = refl
uncounted q (x ∷ xs) h = by (uncounted q xs) (q x) refl h
  where
    by : (find q xs ≡ None → count_by q xs ≡ 0) → (b : Bool) → q x ≡ b → cond b (Some x) (find q xs) ≡ None → count_by q (x ∷ xs) ≡ 0
    by rest true is k = absurd cc
    by rest false is k =
        let none = rest k in
        let split = count-cons q x xs in
        let here : cond {A = ℕ} (q x) 1 0 ≡ 0 = ap (λ (b : Bool). cond {A = ℕ} b 1 0) is in
        omega (arith, none, split, here)
