-- What a queue keeps when requests leave it, and how long room lasts.
use Rattle.std.proofs.Common.{◌≡◌, ◌≢◌, ℕ, zero, suc, ◌+◌, ◌<◌, ◌≤◌, Bool, true, false, not, ◌&&◌, ◌||◌, eqb, cond, List, [], ◌∷◌, ◌++◌, length, get_or, Some, None, refl, sym, ap, ◌∙◌, subst, arith, add-one}
use Rattle.std.specs.Prelude.{filter, remove, ltb, slice_get}
use Rattle.std.specs.List.{position, position_or_len}
use Rattle.std.proofs.lemmas.Bool.{eqb-true, ltb-true}
use Rattle.std.proofs.lemmas.Option.{slice_get_read}
use Rattle.std.proofs.lemmas.List.Folds.{find_at}
use Rattle.std.proofs.lemmas.Bool.Decides.{nat_tests}
use Rattle.std.proofs.lemmas.List.Elements.{filter-append}
use Rattle.std.proofs.lemmas.Map.Views.{any-filter_same}
use Rattle.dsql_wait.specs.declared.request.Request.{Request}
use Rattle.dsql_wait.specs.Requests.{waits, request_of, are_distinct, without_call}
use Rattle.dsql_wait.specs.Laws.{LeavesTheOrder, RoomLasts}

apart : (x call other : ℕ) → other ≢ call → eqb x other ≡ true → not (eqb x call) ≡ true
apart x call other differs same = grind (arith, nat_tests)

stays_whole : (call : ℕ) (rs : List Request) → waits call rs ≡ false → without_call call rs ≡ rs
stays_whole call [] h = refl
stays_whole call (r ∷ rs) h =
    elim (eqb r.call call) as (λ b. (b || waits call rs) ≡ false → cond (not b) (r ∷ without_call call rs) (without_call call rs) ≡ r ∷ rs) [
      | true ↦ λ k. cc
      | false ↦ λ k. ap (λ (xs : List Request). r ∷ xs) (stays_whole call rs k)
    ] h

both_false : (a b : Bool) → a ≡ false → b ≡ false → (a || b) ≡ false
both_false true b h k = cc
both_false false b h k = k

left_of : (a b : Bool) → (a && b) ≡ true → a ≡ true
left_of true b h = refl
left_of false b h = cc

right_of : (a b : Bool) → (a && b) ≡ true → b ≡ true
right_of true b h = h
right_of false b h = cc

not_true : (b : Bool) → not b ≡ true → b ≡ false
not_true true h = cc
not_true false h = refl

-- A call that doesn't wait among all requests doesn't wait among some of them.
fewer_wait : (call : ℕ) (p : Request → Bool) (rs : List Request) → waits call rs ≡ false → waits call (filter p rs) ≡ false
fewer_wait call p [] h = refl
fewer_wait call p (r ∷ rs) h =
    let head = elim (eqb r.call call) as (λ b. (b || waits call rs) ≡ false → b ≡ false) [ true ↦ λ k. cc | false ↦ λ k. refl ] in
    let tail = elim (eqb r.call call) as (λ b. (b || waits call rs) ≡ false → waits call rs ≡ false) [ true ↦ λ k. cc | false ↦ λ k. k ] in
    elim (p r) as (λ b. waits call (cond b (r ∷ filter p rs) (filter p rs)) ≡ false) [
      | true ↦ both_false (eqb r.call call) (waits call (filter p rs)) (head h) (fewer_wait call p rs (tail h))
      | false ↦ fewer_wait call p rs (tail h)
    ]

and_true : (a b : Bool) → a ≡ true → b ≡ true → (a && b) ≡ true
and_true true b h k = k
and_true false b h k = cc

-- If each call waits once, each call waits once among some of the requests.
pub some_distinct : (p : Request → Bool) (rs : List Request) → are_distinct rs ≡ true → are_distinct (filter p rs) ≡ true
some_distinct p [] h = refl
some_distinct p (r ∷ rs) h =
    let alone = not_true (waits r.call rs) (left_of (not (waits r.call rs)) (are_distinct rs) h) in
    let rest = some_distinct p rs (right_of (not (waits r.call rs)) (are_distinct rs) h) in
    elim (p r) as (λ b. are_distinct (cond b (r ∷ filter p rs) (filter p rs)) ≡ true) [
      | true ↦ and_true (not (waits r.call (filter p rs))) (are_distinct (filter p rs)) (ap not (fewer_wait r.call p rs alone)) rest
      | false ↦ rest
    ]

others_wait : (call : ℕ) (rs : List Request) (later : Request) → eqb later.call call ≡ false → waits call rs ≡ false → waits call (rs ++ later ∷ []) ≡ false
others_wait call [] later apart h = both_false (eqb later.call call) false apart refl
others_wait call (r ∷ rs) later apart h =
    elim (eqb r.call call) as (λ b. (b || waits call rs) ≡ false → (b || waits call (rs ++ later ∷ [])) ≡ false) [
      | true ↦ λ k. cc
      | false ↦ λ k. others_wait call rs later apart k
    ] h

turned : (m n : ℕ) → eqb m n ≡ false → eqb n m ≡ false
turned m n h = grind (arith, nat_tests)

-- If each call waits once and the one that joins doesn't wait yet, each call waits once.
pub joined_distinct : (rs : List Request) (later : Request) → waits later.call rs ≡ false → are_distinct rs ≡ true → are_distinct (rs ++ later ∷ []) ≡ true
joined_distinct [] later h d = refl
joined_distinct (r ∷ rs) later h d =
    let apart = elim (eqb r.call later.call) as (λ b. (b || waits later.call rs) ≡ false → b ≡ false) [ true ↦ λ k. cc | false ↦ λ k. refl ] in
    let rest = elim (eqb r.call later.call) as (λ b. (b || waits later.call rs) ≡ false → waits later.call rs ≡ false) [ true ↦ λ k. cc | false ↦ λ k. k ] in
    and_true (not (waits r.call (rs ++ later ∷ []))) (are_distinct (rs ++ later ∷ []))
    (ap not (others_wait r.call rs later (turned r.call later.call (apart h)) (not_true (waits r.call rs) (left_of (not (waits r.call rs)) (are_distinct rs) d))))
    (joined_distinct rs later (rest h) (right_of (not (waits r.call rs)) (are_distinct rs) d))

-- Returns the place of a call's request.
abbrev pub place_of : ℕ → List Request → ℕ
place_of call rs = position_or_len (λ (r : Request). eqb r.call call) rs

one_add : (n : ℕ) → 1 + n ≡ suc n
one_add n = omega arith

taken_out : (call : ℕ) (rs : List Request) → are_distinct rs ≡ true → place_of call rs < length rs → remove rs (place_of call rs) ≡ without_call call rs
taken_out call [] d within = absurd (omega arith)
taken_out call (r ∷ rs) d within =
    elim (eqb r.call call) as (λ b. eqb r.call call ≡ b → cond (not b) (1 + place_of call rs) 0 < suc (length rs) → remove (r ∷ rs) (cond (not b) (1 + place_of call rs) 0) ≡ cond (not b) (r ∷ without_call call rs) (without_call call rs)) [
      | true ↦ λ here lt.
          let alone = not_true (waits r.call rs) (left_of (not (waits r.call rs)) (are_distinct rs) d) in
          sym (stays_whole call rs (ap (λ n. waits n rs) (sym (eqb-true r.call call here)) ∙ alone))
      | false ↦ λ behind lt.
          rw (one_add (place_of call rs)) (ap (λ (xs : List Request). r ∷ xs) (taken_out call rs (right_of (not (waits r.call rs)) (are_distinct rs) d) (omega arith)))
    ] refl within

none_there : (call : ℕ) (rs : List Request) → (place_of call rs < length rs → ⊥) → (request_of call rs ≡ None) × (without_call call rs ≡ rs)
none_there call [] past = (refl, refl)
none_there call (r ∷ rs) past =
    elim (eqb r.call call) as (λ b. (cond (not b) (1 + place_of call rs) 0 < suc (length rs) → ⊥) → (cond b (Some r) (request_of call rs) ≡ None) × (cond (not b) (r ∷ without_call call rs) (without_call call rs) ≡ r ∷ rs)) [
      | true ↦ λ no. absurd (no (omega arith))
      | false ↦ λ no. let rest = none_there call rs (λ within. no (omega arith)) in (rest.0, ap (λ (xs : List Request). r ∷ xs) rest.1)
    ] past

pub at_place : (call : ℕ) (rs : List Request) (at : ℕ) → position (λ (r : Request). eqb r.call call) rs ≡ Some at → (place_of call rs < length rs) × (place_of call rs ≡ at)
at_place call rs at e =
    elim (ltb (place_of call rs) (length rs)) as (λ b. ltb (place_of call rs) (length rs) ≡ b → cond b (Some (place_of call rs)) None ≡ Some at → (place_of call rs < length rs) × (place_of call rs ≡ at)) [
      | true ↦ λ within same. (ltb-true (place_of call rs) (length rs) within, cc)
      | false ↦ λ past same. cc
    ] refl e

-- Taking out the request at its place leaves the requests without that call, since it is the only one of its
-- call.
pub taken : (call : ℕ) (rs : List Request) (at : ℕ) → are_distinct rs ≡ true → position (λ (r : Request). eqb r.call call) rs ≡ Some at → remove rs at ≡ without_call call rs
taken call rs at d e = let found = at_place call rs at e in ap (remove rs) (sym found.1) ∙ taken_out call rs d found.0

pub found : (call : ℕ) (rs : List Request) (at : ℕ) (r : Request) → position (λ (r : Request). eqb r.call call) rs ≡ Some at → r ≡ get_or rs at r → request_of call rs ≡ Some r
found call rs at r e same =
    let found = at_place call rs at e in
    find_at (λ (r : Request). eqb r.call call) rs ∙ (ap (slice_get rs) found.1 ∙ slice_get_read rs (length rs) at r refl (subst (λ (n : ℕ). n < length rs) found.1 found.0) same)

pub not_found : (call : ℕ) (rs : List Request) → position (λ (r : Request). eqb r.call call) rs ≡ None → (request_of call rs ≡ None) × (without_call call rs ≡ rs)
not_found call rs e =
    elim (ltb (place_of call rs) (length rs)) as (λ b. ltb (place_of call rs) (length rs) ≡ b → cond b (Some (place_of call rs)) None ≡ None → (request_of call rs ≡ None) × (without_call call rs ≡ rs)) [
      | true ↦ λ within same. cc
      | false ↦ λ past same. none_there call rs (λ within. let lt : ltb (place_of call rs) (length rs) ≡ true = grind (arith, nat_tests) in cc)
    ] refl e

pub leaves_the_order : LeavesTheOrder
leaves_the_order = record {
  gone = λ call rs. any-filter_same (λ (r : Request). eqb r.call call) (λ r. not (eqb r.call call)) false (λ r e. ap not e) rs;
  others_wait = λ call other rs differs. any-filter_same (λ (r : Request). eqb r.call other) (λ r. not (eqb r.call call)) true (λ r e. apart r.call call other differs e) rs;
  in_order = λ call rs later. filter-append (λ (r : Request). not (eqb r.call call)) rs later;
  absent = stays_whole;
}

left_after : (spare : ℕ → ℕ) (n : ℕ) → n ≤ spare 0 → ((k : ℕ) → spare k ≤ spare (k + 1) + 1) → (k : ℕ) → n ≤ spare k + k
left_after spare n enough step zero = omega arith
left_after spare n enough step (suc k) =
    let before = left_after spare n enough step k in
    let P : ℕ → Type 0 = λ j. spare k ≤ spare j + 1 in
    let taken : spare k ≤ spare (suc k) + 1 = subst P (add-one k) (step k) in
    omega (arith, before, taken)

pub room_lasts : RoomLasts
room_lasts spare n enough step k lt none = omega (arith, left_after spare n enough step k)
