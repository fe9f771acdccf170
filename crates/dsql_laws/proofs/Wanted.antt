-- Counts what a call wants: its requests that wait, and the connections that are being opened for it.
use Rattle.std.proofs.Common.{◌≡◌, ℕ, ◌+◌, ◌≤◌, ◌==◌, Bool, true, false, ◌||◌, cond, List, [], ◌∷◌, Option, Some, refl, ap, arith}
use Rattle.std.specs.Prelude.{count_by}
use Rattle.std.specs.List.{list_any}
use Rattle.dsql_history.specs.journal.declared.entry.Owner.{Owner}
use Rattle.dsql_history.specs.wait.Requests.{waits}
use Rattle.dsql_history.specs.pool.declared.conn.Conn.{Conn}
use Rattle.dsql_history.specs.pool.declared.conn.Place.{Place}
use Rattle.dsql_history.specs.pool.declared.conn.Place.TheVariants.{Idle, Opening}
use Rattle.dsql_history.specs.pool.Changes.{opening, unwanted}
use Rattle.dsql_history.specs.pool.Places.{conn_of, is_for}
use Rattle.dsql_history.specs.pool.Pooled.{Pooled, next_number}
use Rattle.dsql_history.specs.pool.Moved.{begun, shut}
use Rattle.dsql_history.specs.pool.Calls.{wants}
use Rattle.dsql_history.proofs.pool.Frees.{passing, count-more, count-cons}
use Rattle.dsql_history.specs.declared.event.Control.{Control}
use Rattle.dsql_history.specs.declared.event.Setting.TheVariants.{MaxOpen}
use Rattle.dsql_history.specs.declared.event.Control.TheVariants.{Set}
use Rattle.dsql_history.specs.Readers.Pool.{place, with_control, is_home}
use Rattle.dsql_laws.specs.Holdings.{waits_of}
use Rattle.dsql_laws.proofs.Counts.{waits_some, mapped_fewer}
use Rattle.dsql_laws.proofs.Tried.{is_lent_out}

-- Is true if the connection is being opened for call n.
abbrev pub is_opening_for : ℕ → Conn → Bool
is_opening_for n x = is_for n x.place

abbrev pub openings_for : ℕ → Pooled → ℕ
openings_for n p = count_by (is_opening_for n) p.conns

-- Returns the number of requests and openings of call n.
abbrev pub wanted : ℕ → Pooled → ℕ
wanted n p = waits_of n p + openings_for n p

pub any_counts : (n : ℕ) (conns : List Conn) → list_any (λ conn. is_for n conn.place) conns ≡ true → 1 ≤ count_by (is_opening_for n) conns
any_counts n [] h = absurd cc
any_counts n (x ∷ xs) h =
    let split = count-cons (is_opening_for n) x xs in
    elim (is_opening_for n x) as (λ b. is_opening_for n x ≡ b → (b || list_any (λ conn. is_for n conn.place) xs) ≡ true → 1 ≤ count_by (is_opening_for n) (x ∷ xs)) [
      | true ↦ λ is k. let here : cond {A = ℕ} (is_opening_for n x) 1 0 ≡ 1 = ap (λ (b : Bool). cond {A = ℕ} b 1 0) is in omega (arith, split, here)
      | false ↦ λ is k. let rest = any_counts n xs k in omega (arith, split, rest)
    ] refl h

pub wants_counts : (n : ℕ) (p : Pooled) → wants n p ≡ true → 1 ≤ wanted n p
wants_counts n p h = by_waiting (waits n p.waiting) refl h
  where
    by_waiting : (b : Bool) → waits n p.waiting ≡ b → (b || list_any (λ conn. is_for n conn.place) p.conns) ≡ true → 1 ≤ wanted n p
    by_waiting true is k = let some = waits_some n p.waiting is in omega (arith, some)
    by_waiting false is k = let some = any_counts n p.conns k in omega (arith, some)

unwanted_opening : (n : ℕ) (x : Conn) → cond {A = ℕ} (is_opening_for n (unwanted x)) 1 0 ≤ cond {A = ℕ} (is_opening_for n x) 1 0
unwanted_opening n x = at x.place refl
  where
    at : (place : Place) → x.place ≡ place → cond {A = ℕ} (is_opening_for n (unwanted x)) 1 0 ≤ cond {A = ℕ} (is_opening_for n x) 1 0
    at Idle is = rw is (omega arith)
    at _ is = rw is (omega arith)

pub shut_wants : (n : ℕ) (p : Pooled) → wanted n (shut p) ≤ wanted n p
shut_wants n p = let few = mapped_fewer (is_opening_for n) unwanted p.conns (unwanted_opening n) in omega (arith, few)

pub begun_wants : (n : ℕ) (w : Option Owner) (p : Pooled) → wanted n (begun w p) ≡ wanted n p + cond {A = ℕ} (is_for n (Opening w)) 1 0
begun_wants n w p = let more = count-more (is_opening_for n) (opening (next_number p) w) p.conns in omega (arith, more)

pub same_control : (control : Control) (n : ℕ) (p : Pooled) → wanted n (with_control control p) ≡ wanted n p
same_control (Set MaxOpen k) n p = refl
same_control _ n p = refl

-- The connections that are being opened for a call and those that are lent to it are counted apart among its
-- own.
pub homes_apart : (n : ℕ) (conns : List Conn) → count_by (is_opening_for n) conns + count_by (is_lent_out n) conns ≤ count_by (λ conn. is_home n conn.place) conns
homes_apart n [] = omega arith
homes_apart n (x ∷ xs) =
    let rest = homes_apart n xs in
    let a = count-cons (is_opening_for n) x xs in
    let b = count-cons (is_lent_out n) x xs in
    let c = count-cons (λ conn. is_home n conn.place) x xs in
    let here = at x.place refl in
    omega (arith, rest, a, b, c, here)
  where
    at : (place : Place) → x.place ≡ place → cond {A = ℕ} (is_opening_for n x) 1 0 + cond {A = ℕ} (is_lent_out n x) 1 0 ≤ cond {A = ℕ} (is_home n x.place) 1 0
    at Idle is = rw is (omega arith)
    at _ is = rw is (omega arith)

pub found_counts : (q : Conn → Bool) (c : ℕ) (conns : List Conn) → passing q (conn_of c conns) ≤ count_by q conns
found_counts q c [] = omega arith
found_counts q c (x ∷ xs) =
    let rest = found_counts q c xs in
    let split = count-cons q x xs in
    elim (x.number == c) as (λ b. passing q (cond b (Some x) (conn_of c xs)) ≤ count_by q (x ∷ xs)) [ true ↦ omega (arith, split) | false ↦ omega (arith, rest, split) ]

pub none_wanted : (n : ℕ) (p : Pooled) → wanted n p ≡ 0 → wants n p ≡ false
none_wanted n p none = by (wants n p) refl
  where
    by : (b : Bool) → wants n p ≡ b → wants n p ≡ false
    by false is = is
    by true is = let some = wants_counts n p is in absurd (omega (arith, some, none))
