-- How many connections pass a test, under each change.
use Rattle.std.proofs.Common.{◌≡◌, ℕ, suc, ◌+◌, ◌≤◌, Bool, true, false, not, ◌||◌, eqb, cond, List, [], ◌∷◌, ◌++◌, length, map, Option, Some, None, refl, ap, arith}
use Rattle.std.specs.Prelude.{count_by, nat_le}
use Rattle.std.specs.Option.{option_map}
use Rattle.std.proofs.lemmas.Bool.Decides.{nat_tests}
use Rattle.std.proofs.lemmas.List.Sums.{sum_by-append}
use Rattle.dsql_pool.specs.declared.conn.Conn.{Conn}
use Rattle.dsql_pool.specs.Places.{conn_of}
use Rattle.dsql_pool.specs.Changes.{conn_changed, gone}

-- Returns 1 if a connection was found and passes, and otherwise 0.
abbrev pub passing : (Conn → Bool) → Option Conn → ℕ
passing q None = 0
passing q (Some x) = cond (q x) 1 0

pub count-cons : (q : Conn → Bool) (x : Conn) (xs : List Conn) → count_by q (x ∷ xs) ≡ cond (q x) 1 0 + count_by q xs
count-cons q x xs = let split = sum_by-append (λ (y : Conn). cond (q y) 1 0) (x ∷ []) xs in omega (arith, split)

pub count-more : (q : Conn → Bool) (x : Conn) (xs : List Conn) → count_by q (xs ++ x ∷ []) ≡ count_by q xs + cond (q x) 1 0
count-more q x xs = let split = sum_by-append (λ (y : Conn). cond (q y) 1 0) xs (x ∷ []) in omega (arith, split)

pub count-changed : (q : Conn → Bool) (c : ℕ) (f : Conn → Conn) (conns : List Conn) → count_by q (conn_changed c f conns) + passing q (conn_of c conns) ≡ count_by q conns + passing q (option_map f (conn_of c conns))
count-changed q c f [] = refl
count-changed q c f (x ∷ xs) =
    elim (eqb x.number c) as (λ b. count_by q (cond b (f x ∷ xs) (x ∷ conn_changed c f xs)) + passing q (cond b (Some x) (conn_of c xs)) ≡ count_by q (x ∷ xs) + passing q (option_map f (cond b (Some x) (conn_of c xs)))) [
      | true ↦ let before = count-cons q x xs in let after = count-cons q (f x) xs in omega (arith, before, after)
      | false ↦ let before = count-cons q x xs in let after = count-cons q x (conn_changed c f xs) in let rest = count-changed q c f xs in omega (arith, before, after, rest)
    ]

pub count-map : (q : Conn → Bool) (f : Conn → Conn) (conns : List Conn) → ((x : Conn) → q x ≡ true → q (f x) ≡ true) → count_by q conns ≤ count_by q (map f conns)
count-map q f [] keeps = omega arith
count-map q f (x ∷ xs) keeps =
    let rest = count-map q f xs keeps in
    let before = count-cons q x xs in
    let after = count-cons q (f x) (map f xs) in
    let grows : cond {A = ℕ} (q x) 1 0 ≤ cond (q (f x)) 1 0 =
    elim (q x) as (λ b. (b ≡ true → q (f x) ≡ true) → cond {A = ℕ} b 1 0 ≤ cond (q (f x)) 1 0) [
      | true ↦ λ k. let is : cond {A = ℕ} (q (f x)) 1 0 ≡ 1 = ap (λ (b : Bool). cond {A = ℕ} b 1 0) (k refl) in omega (arith, is)
      | false ↦ λ k. omega arith
    ] (keeps x)
    in
    omega (arith, rest, before, after, grows)

pub length-changed : (c : ℕ) (f : Conn → Conn) (conns : List Conn) → length (conn_changed c f conns) ≡ length conns
length-changed c f [] = refl
length-changed c f (x ∷ xs) = elim (eqb x.number c) as (λ b. length (cond b (f x ∷ xs) (x ∷ conn_changed c f xs)) ≡ length (x ∷ xs)) [ true ↦ refl | false ↦ ap suc (length-changed c f xs) ]

pub length-gone : (c : ℕ) (conns : List Conn) → length (gone c conns) ≤ length conns
length-gone c [] = omega arith
length-gone c (x ∷ xs) =
    let rest = length-gone c xs in
    elim (eqb x.number c) as (λ b. length (cond (not b) (x ∷ gone c xs) (gone c xs)) ≤ length (x ∷ xs)) [ true ↦ omega (arith, rest) | false ↦ omega (arith, rest) ]

-- If enough were opened and neither excess grows, enough are opened still. One excess is of the requests over the
-- openings, the other of the allowed connections over the open ones.
pub enough_kept : (w f r o w' f' r' o' : ℕ) → (nat_le w f || nat_le r o) ≡ true → w' + f ≤ w + f' → r' + o ≤ r + o' → (nat_le w' f' || nat_le r' o') ≡ true
enough_kept w f r o w' f' r' o' h fewer less = grind (arith, nat_tests)
