-- Rows of connections when one of them changes, or all do.
use Rattle.std.proofs.Common.{◌≡◌, ℕ, suc, ◌+◌, ◌<◌, ◌≤◌, Bool, true, false, not, ◌&&◌, eqb, cond, get_or, List, [], ◌∷◌, ◌++◌, length, map, Option, Some, None, refl, sym, ap, ◌∙◌, subst, arith}
use Rattle.std.specs.Prelude.{ltb, slice_set, slice_get, filter, IfSome}
use Rattle.std.specs.List.{list_all, position, position_or_len}
use Rattle.std.proofs.lemmas.Bool.{eqb-true, ltb-true}
use Rattle.std.proofs.lemmas.Bool.Decides.{nat_tests}
use Rattle.std.proofs.lemmas.Option.{slice_get_read}
use Rattle.std.proofs.lemmas.List.Folds.{find_at, list_all-append}
use Rattle.dsql_pool.specs.declared.conn.Place.TheVariants.{Opening}
use Rattle.dsql_pool.specs.declared.conn.Conn.{Conn}
use Rattle.dsql_pool.specs.Places.{conn_of, is_opening, is_for, is_drawn, AreDrawn}
use Rattle.dsql_pool.specs.Changes.{conn_changed, gone, unwanted, unwanted_by}

-- Returns the place of the first connection with this number, or the length if there is none.
abbrev pub first : ℕ → List Conn → ℕ
first c conns = position_or_len (λ (conn : Conn). eqb conn.number c) conns

one_add : (n : ℕ) → 1 + n ≡ suc n
one_add n = omega arith

put_there : (c : ℕ) (y : Conn) (conns : List Conn) → first c conns < length conns → slice_set conns (first c conns) y ≡ conn_changed c (λ _. y) conns
put_there c y [] within = absurd (omega arith)
put_there c y (x ∷ xs) within =
    elim (eqb x.number c) as (λ b. cond (not b) (1 + first c xs) 0 < suc (length xs) → slice_set (x ∷ xs) (cond (not b) (1 + first c xs) 0) y ≡ cond b (y ∷ xs) (x ∷ conn_changed c (λ _. y) xs)) [
      | true ↦ λ lt. refl
      | false ↦ λ lt. rw (one_add (first c xs)) (ap (λ (ys : List Conn). x ∷ ys) (put_there c y xs (omega arith)))
    ] within

left_alone : (c : ℕ) (f : Conn → Conn) (conns : List Conn) → (first c conns < length conns → ⊥) → conn_changed c f conns ≡ conns
left_alone c f [] past = refl
left_alone c f (x ∷ xs) past =
    elim (eqb x.number c) as (λ b. (cond (not b) (1 + first c xs) 0 < suc (length xs) → ⊥) → cond b (f x ∷ xs) (x ∷ conn_changed c f xs) ≡ x ∷ xs) [
      | true ↦ λ no. absurd (no (omega arith))
      | false ↦ λ no. ap (λ (ys : List Conn). x ∷ ys) (left_alone c f xs (λ within. no (omega arith)))
    ] past

-- Putting a connection at the place of its number changes the one that has this number.
pub put_some : (c at : ℕ) (y : Conn) (conns : List Conn) → Some at ≡ position (λ (conn : Conn). eqb conn.number c) conns → slice_set conns at y ≡ conn_changed c (λ _. y) conns
put_some c at y conns e =
    elim (ltb (first c conns) (length conns)) as (λ b. ltb (first c conns) (length conns) ≡ b → Some at ≡ cond b (Some (first c conns)) None → slice_set conns at y ≡ conn_changed c (λ _. y) conns) [
      | true ↦ λ within same.
          let here : at ≡ first c conns = cc in
          ap (λ (n : ℕ). slice_set conns n y) here ∙ put_there c y conns (ltb-true (first c conns) (length conns) within)
      | false ↦ λ past same. cc
    ] refl e

pub put_none : (c : ℕ) (f : Conn → Conn) (conns : List Conn) → None ≡ position (λ (conn : Conn). eqb conn.number c) conns → conn_changed c f conns ≡ conns
put_none c f conns e =
    elim (ltb (first c conns) (length conns)) as (λ b. ltb (first c conns) (length conns) ≡ b → None ≡ cond b (Some (first c conns)) None → conn_changed c f conns ≡ conns) [
      | true ↦ λ within same. cc
      | false ↦ λ past same. left_alone c f conns (λ within. let lt : ltb (first c conns) (length conns) ≡ true = grind (arith, nat_tests) in cc)
    ] refl e

-- What is found under a number has this number.
pub has_number : (c : ℕ) (x : Conn) (conns : List Conn) → conn_of c conns ≡ Some x → x.number ≡ c
has_number c x [] e = cc
has_number c x (y ∷ ys) e =
    elim (eqb y.number c) as (λ b. eqb y.number c ≡ b → cond b (Some y) (conn_of c ys) ≡ Some x → x.number ≡ c) [
      | true ↦ λ here same. let is : y ≡ x = cc in ap (λ (z : Conn). z.number) (sym is) ∙ eqb-true y.number c here
      | false ↦ λ behind same. has_number c x ys same
    ] refl e

put_is_change : (c : ℕ) (f : Conn → Conn) (x : Conn) (conns : List Conn) → conn_of c conns ≡ Some x → conn_changed c (λ _. f x) conns ≡ conn_changed c f conns
put_is_change c f x [] e = refl
put_is_change c f x (y ∷ ys) e =
    elim (eqb y.number c) as (λ b. cond b (Some y) (conn_of c ys) ≡ Some x → cond b (f x ∷ ys) (y ∷ conn_changed c (λ _. f x) ys) ≡ cond b (f y ∷ ys) (y ∷ conn_changed c f ys)) [
      | true ↦ λ same. let is : y ≡ x = cc in ap (λ (z : Conn). f z ∷ ys) (sym is)
      | false ↦ λ same. ap (λ (zs : List Conn). y ∷ zs) (put_is_change c f x ys same)
    ] e

-- Putting back a changed connection is changing the connection that was found.
pub changed_found : (c : ℕ) (f : Conn → Conn) (x : Conn) (conns : List Conn) → Some x ≡ conn_of c conns → (f x).number ≡ x.number → conn_changed (f x).number (λ _. f x) conns ≡ conn_changed c f conns
changed_found c f x conns e keeps =
    let number = keeps ∙ has_number c x conns (sym e) in
    ap (λ (n : ℕ). conn_changed n (λ _. f x) conns) number ∙ put_is_change c f x conns (sym e)

pub changed_missing : (c : ℕ) (f : Conn → Conn) (conns : List Conn) → None ≡ conn_of c conns → conn_changed c f conns ≡ conns
changed_missing c f [] e = refl
changed_missing c f (y ∷ ys) e =
    elim (eqb y.number c) as (λ b. None ≡ cond b (Some y) (conn_of c ys) → cond b (f y ∷ ys) (y ∷ conn_changed c f ys) ≡ y ∷ ys) [
      | true ↦ λ same. cc
      | false ↦ λ same. ap (λ (zs : List Conn). y ∷ zs) (changed_missing c f ys same)
    ] e

pub left_of : (a b : Bool) → (a && b) ≡ true → a ≡ true
left_of true b h = refl
left_of false b h = cc

pub right_of : (a b : Bool) → (a && b) ≡ true → b ≡ true
right_of true b h = h
right_of false b h = cc

pub both : (a b : Bool) → a ≡ true → b ≡ true → (a && b) ≡ true
both true b h k = k
both false b h k = cc

pub all_pass : {X : Type 0} (p q : X → Bool) (xs : List X) → ((x : X) → p x ≡ true → q x ≡ true) → list_all p xs ≡ true → list_all q xs ≡ true
all_pass p q [] step h = refl
all_pass p q (x ∷ xs) step h = both (q x) (list_all q xs) (step x (left_of (p x) (list_all p xs) h)) (all_pass p q xs step (right_of (p x) (list_all p xs) h))

pub all_filter : {X : Type 0} (p q : X → Bool) (xs : List X) → list_all p xs ≡ true → list_all p (filter q xs) ≡ true
all_filter p q [] h = refl
all_filter p q (x ∷ xs) h =
    let rest = all_filter p q xs (right_of (p x) (list_all p xs) h) in
    elim (q x) as (λ b. list_all p (cond b (x ∷ filter q xs) (filter q xs)) ≡ true) [
      | true ↦ both (p x) (list_all p (filter q xs)) (left_of (p x) (list_all p xs) h) rest
      | false ↦ rest
    ]

pub all_map : (p : Conn → Bool) (f : Conn → Conn) (conns : List Conn) → ((x : Conn) → p x ≡ true → p (f x) ≡ true) → list_all p conns ≡ true → list_all p (map f conns) ≡ true
all_map p f [] step h = refl
all_map p f (x ∷ xs) step h = both (p (f x)) (list_all p (map f xs)) (step x (left_of (p x) (list_all p xs) h)) (all_map p f xs step (right_of (p x) (list_all p xs) h))

pub all_changed : (p : Conn → Bool) (c : ℕ) (f : Conn → Conn) (conns : List Conn) → ((x : Conn) → p x ≡ true → p (f x) ≡ true) → list_all p conns ≡ true → list_all p (conn_changed c f conns) ≡ true
all_changed p c f [] step h = refl
all_changed p c f (x ∷ xs) step h =
    let here = left_of (p x) (list_all p xs) h in
    let rest = right_of (p x) (list_all p xs) h in
    elim (eqb x.number c) as (λ b. list_all p (cond b (f x ∷ xs) (x ∷ conn_changed c f xs)) ≡ true) [
      | true ↦ both (p (f x)) (list_all p xs) (step x here) rest
      | false ↦ both (p x) (list_all p (conn_changed c f xs)) here (all_changed p c f xs step rest)
    ]

-- A bound on lendings and uses still holds after more openings and lendings have begun.
pub drawn_more : (d e : ℕ) (x : Conn) → d ≤ e → is_drawn d x ≡ true → is_drawn e x ≡ true
drawn_more d e x le h = grind (arith, nat_tests)

pub is_drawn_of : (d : ℕ) (x : Conn) → x.lends ≤ d → x.uses ≤ d → is_drawn d x ≡ true
is_drawn_of d x lends uses = grind (arith, nat_tests)

pub lends_within : (d : ℕ) (x : Conn) → is_drawn d x ≡ true → x.lends ≤ d
lends_within d x h = grind (arith, nat_tests)

pub uses_within : (d : ℕ) (x : Conn) → is_drawn d x ≡ true → x.uses ≤ d
uses_within d x h = grind (arith, nat_tests)

-- What holds of all connections holds of the one that is found.
pub found_passes : (p : Conn → Bool) (c : ℕ) (x : Conn) (conns : List Conn) → list_all p conns ≡ true → conn_of c conns ≡ Some x → p x ≡ true
found_passes p c x [] h e = cc
found_passes p c x (y ∷ ys) h e =
    elim (eqb y.number c) as (λ b. cond b (Some y) (conn_of c ys) ≡ Some x → p x ≡ true) [
      | true ↦ λ same. let is : y ≡ x = cc in ap p (sym is) ∙ left_of (p y) (list_all p ys) h
      | false ↦ λ behind. found_passes p c x ys (right_of (p y) (list_all p ys) h) behind
    ] e

-- The rows stay within the counts after one of them was put in its place.
pub drawn_put : (d e c : ℕ) (y : Conn) (opened : ℕ) (old new : List Conn) → d ≤ e → new ≡ conn_changed c (λ _. y) old → y.lends ≤ e → y.uses ≤ e → AreDrawn old opened d → AreDrawn new opened e
drawn_put d e c y opened old new le is lends uses h = record {
  counted = let before = h.counted in omega (arith, before, le);
  lent =
      ap (list_all (is_drawn e)) is
      ∙ all_changed (is_drawn e) c (λ _. y) old (λ _ _. is_drawn_of e y lends uses) (all_pass (is_drawn d) (is_drawn e) old (λ x here. drawn_more d e x le here) h.lent);
}

pub drawn_on : (d e opened : ℕ) (conns : List Conn) → d ≤ e → AreDrawn conns opened d → AreDrawn conns opened e
drawn_on d e opened conns le h = record {
  counted = let before = h.counted in omega (arith, before, le);
  lent = all_pass (is_drawn d) (is_drawn e) conns (λ x here. drawn_more d e x le here) h.lent;
}

-- The connection at the place of a number is the one that is found under it.
pub row_at : (c at : ℕ) (y : Conn) (conns : List Conn) → Some at ≡ position (λ (conn : Conn). eqb conn.number c) conns → y ≡ get_or conns at y → Some y ≡ conn_of c conns
row_at c at y conns e is =
    elim (ltb (first c conns) (length conns)) as (λ b. ltb (first c conns) (length conns) ≡ b → Some at ≡ cond b (Some (first c conns)) None → Some y ≡ conn_of c conns) [
      | true ↦ λ within same.
          let here : first c conns ≡ at = cc in
          let lt : at < length conns = subst (λ (n : ℕ). n < length conns) here (ltb-true (first c conns) (length conns) within) in
          sym (find_at (λ (conn : Conn). eqb conn.number c) conns ∙ (ap (slice_get conns) here ∙ slice_get_read conns (length conns) at y refl lt is))
      | false ↦ λ past same. cc
    ] refl e

none_at : (c : ℕ) (conns : List Conn) → (first c conns < length conns → ⊥) → None ≡ conn_of c conns
none_at c [] past = refl
none_at c (x ∷ xs) past =
    elim (eqb x.number c) as (λ b. (cond (not b) (1 + first c xs) 0 < suc (length xs) → ⊥) → None ≡ cond b (Some x) (conn_of c xs)) [
      | true ↦ λ no. absurd (no (omega arith))
      | false ↦ λ no. none_at c xs (λ within. no (omega arith))
    ] past

pub row_nowhere : (c : ℕ) (conns : List Conn) → None ≡ position (λ (conn : Conn). eqb conn.number c) conns → None ≡ conn_of c conns
row_nowhere c conns e =
    elim (ltb (first c conns) (length conns)) as (λ b. ltb (first c conns) (length conns) ≡ b → None ≡ cond b (Some (first c conns)) None → None ≡ conn_of c conns) [
      | true ↦ λ within same. cc
      | false ↦ λ past same. none_at c conns (λ within. let lt : ltb (first c conns) (length conns) ≡ true = grind (arith, nat_tests) in cc)
    ] refl e

pub found_drawn : (d c : ℕ) (conns : List Conn) (o : Option Conn) → o ≡ conn_of c conns → list_all (is_drawn d) conns ≡ true → IfSome o (λ x. x.lends ≤ d) × IfSome o (λ x. x.uses ≤ d)
found_drawn d c conns None e h = (tt, tt)
found_drawn d c conns (Some x) e h = let passes = found_passes (is_drawn d) c x conns h (sym e) in (lends_within d x passes, uses_within d x passes)

pub drawn_begun : (d opened n : ℕ) (x : Conn) (conns new : List Conn) → n ≡ opened + 1 → x.lends ≡ 0 → x.uses ≡ 0 → new ≡ conns ++ x ∷ [] → AreDrawn conns opened d → AreDrawn new n (d + 1)
drawn_begun d opened n x conns new e lends uses is h = record {
  counted = let before = h.counted in omega (arith, before, e);
  lent =
      ap (list_all (is_drawn (d + 1))) is
      ∙ (list_all-append (is_drawn (d + 1)) conns (x ∷ [])
      ∙ both (list_all (is_drawn (d + 1)) conns) (is_drawn (d + 1) x && true) (all_pass (is_drawn d) (is_drawn (d + 1)) conns (λ y here. drawn_more d (d + 1) y (omega arith) here) h.lent) (both (is_drawn (d + 1) x) true (is_drawn_of (d + 1) x (omega arith) (omega arith)) refl));
}

pub drawn_gone : (d c opened : ℕ) (conns new : List Conn) → new ≡ gone c conns → AreDrawn conns opened d → AreDrawn new opened d
drawn_gone d c opened conns new is h = record { counted = h.counted; lent = ap (list_all (is_drawn d)) is ∙ all_filter (is_drawn d) (λ x. not (eqb x.number c)) conns h.lent }

pub drawn_map : (d opened : ℕ) (f : Conn → Conn) (conns new : List Conn) → ((x : Conn) → is_drawn d x ≡ true → is_drawn d (f x) ≡ true) → new ≡ map f conns → AreDrawn conns opened d → AreDrawn new opened d
drawn_map d opened f conns new keeps is h = record { counted = h.counted; lent = ap (list_all (is_drawn d)) is ∙ all_map (is_drawn d) f conns keeps h.lent }

pub withdrawn_drawn : (d call : ℕ) (x : Conn) → is_drawn d x ≡ true → is_drawn d (unwanted_by call x) ≡ true
withdrawn_drawn d call x h = elim (is_for call x.place) as (λ b. is_drawn d (cond b (record x { place = Opening None }) x) ≡ true) [ true ↦ h | false ↦ h ]

pub unwanted_drawn : (d : ℕ) (x : Conn) → is_drawn d x ≡ true → is_drawn d (unwanted x) ≡ true
unwanted_drawn d x h = elim (is_opening (Some x.place)) as (λ b. is_drawn d (cond b (record x { place = Opening None }) x) ≡ true) [ true ↦ h | false ↦ h ]
