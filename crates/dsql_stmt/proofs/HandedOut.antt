-- What a close hands out: each live handle of an open statement, and nothing else. The proofs go by induction
-- on the live handles.
use Rattle.std.proofs.Common.{◌≡◌, ℕ, ℤ, zero, suc, ◌≤◌, ◌<◌, Bool, true, false, cond, eqb, filter, map, length, List, [], ◌∷◌, Some, None, Contains, refl, sym, ap, ◌∙◌, subst, arith}
use Rattle.std.specs.Prelude.{count_by, is_none, slice_index_or}
use Rattle.std.specs.Option.{option_map}
use Rattle.std.proofs.lemmas.Bool.{eq-eqb, cond-false}
use Rattle.std.proofs.lemmas.Option.{none-some}
use Rattle.dsql_stmt.specs.declared.stmt.Prepared.{Prepared}
use Rattle.dsql_stmt.specs.declared.stmt.Stmt.{Stmt}
use Rattle.dsql_stmt.specs.Statements.{Live, inputs_of, is_of, is_place, is_open, closed_by, handle_on, prepared_on, handles_of, handed_out, IsOneEach}
use Rattle.dsql_stmt.specs.Laws.{HandsOutTheLive}
use Rattle.dsql_stmt.proofs.Counts.{found_counted, counted_one, counted_more}
use Rattle.dsql_stmt.proofs.Places.{all_of, neither, place_is, place_of, prepared_is}

-- Returns the connection and the number of a live handle.
abbrev pub pair_of : Live → ℕ × ℕ
pair_of l = (l.0.1, l.1.handle)

pub contains_first : {X : Type 0} (x y : X) (xs : List X) → x ≡ y → Contains (x ∷ xs) y
contains_first x y xs same = (zero, omega arith, same)

pub contains_later : {X : Type 0} (x y : X) (xs : List X) → Contains xs y → Contains (x ∷ xs) y
contains_later x y xs c = (suc c.0, omega (arith, c.1), c.2)

each : (n conn : ℕ) (p : Prepared) (live : List Live) → prepared_on n conn live ≡ Some p → Contains (handles_of n live) (conn, p.handle)
each n conn p [] h = absurd (none-some p h)
each n conn p (l ∷ live) h =
    let others = filter (is_of n) live in
    elim (is_place n conn l.0) as (λ b. is_place n conn l.0 ≡ b → cond b (Some l.1) (prepared_on n conn live) ≡ Some p → Contains (handles_of n (l ∷ live)) (conn, p.handle)) [
      | true ↦ λ here found.
          let is : l.1 ≡ p = cc in
          let same : pair_of l ≡ (conn, p.handle) = ap (λ (c : ℕ). (c, l.1.handle)) (sym (place_is n conn l here).1) ∙ ap (λ (q : Prepared). (conn, q.handle)) is in
          subst (λ (b : Bool). Contains (map pair_of (cond b (l ∷ others) others)) (conn, p.handle)) (sym (place_of n conn l here)) (contains_first (pair_of l) (conn, p.handle) (map pair_of others) same)
      | false ↦ λ apart behind.
          let later = each n conn p live behind in
          elim (is_of n l) as (λ b. Contains (map pair_of (cond b (l ∷ others) others)) (conn, p.handle)) [
            | true ↦ contains_later (pair_of l) (conn, p.handle) (map pair_of others) later
            | false ↦ later
          ]
    ] refl h

-- Holds if the statement's live handle on the connection has this number.
abbrev pub IsOn : ℕ → ℕ → ℕ → List Live → Type 0
IsOn n conn handle live = (inputs : ℤ) × (handle_on n conn live ≡ Some (handle, inputs))

-- A handle stays live if one at another place comes in front.
behind_another : (n conn handle : ℕ) (l : Live) (live : List Live) → is_place n conn l.0 ≡ false → IsOn n conn handle live → IsOn n conn handle (l ∷ live)
behind_another n conn handle l live apart on =
    (on.0, ap (λ (b : Bool). option_map inputs_of (cond b (Some l.1) (prepared_on n conn live))) apart ∙ on.1)

at_front : (n conn handle : ℕ) (l : Live) (live : List Live) → is_of n l ≡ true → pair_of l ≡ (conn, handle) → IsOn n conn handle (l ∷ live)
at_front n conn handle l live own same =
    let on : is_place n conn l.0 ≡ true = all_of (eqb n l.0.0) (eqb conn l.0.1) own (eq-eqb conn l.0.1 (sym (ap (λ (q : ℕ × ℕ). q.0) same))) in (
      l.1.inputs,
      ap (λ (b : Bool). option_map inputs_of (cond b (Some l.1) (prepared_on n conn live))) on ∙ ap (λ (q : ℕ × ℕ). Some (q.1, l.1.inputs)) same,
    )

-- An item of a statement's handles is live if the statement's front handle stands before them.
in_front : (n conn handle : ℕ) (l : Live) (live : List Live) → count_by (λ (m : Live). is_place n conn m.0) (l ∷ live) ≤ 1 → is_of n l ≡ true → (Contains (handles_of n live) (conn, handle) → IsOn n conn handle live) → (k : ℕ) → k < length (pair_of l ∷ handles_of n live) → slice_index_or (pair_of l ∷ handles_of n live) k (conn, handle) ≡ (conn, handle) → IsOn n conn handle (l ∷ live)
in_front n conn handle l live one own rest zero lt at = at_front n conn handle l live own at
in_front n conn handle l live one own rest (suc k) lt at =
    let on = rest (k, omega (arith, lt), at) in
    let counted = found_counted (is_place n conn) live (record { handle = handle; inputs = on.0 }) (prepared_is n conn handle on.0 live on.1) in
    elim (is_place n conn l.0) as (λ b. is_place n conn l.0 ≡ b → IsOn n conn handle (l ∷ live)) [
      | true ↦ λ here. absurd (omega (arith, one, counted, counted_one (λ (m : Live). is_place n conn m.0) l live here))
      | false ↦ λ apart. behind_another n conn handle l live apart on
    ] refl

pub only : (n conn handle : ℕ) (live : List Live) → count_by (λ (l : Live). is_place n conn l.0) live ≤ 1 → Contains (handles_of n live) (conn, handle) → IsOn n conn handle live
only n conn handle [] one c = absurd (omega (arith, c.1))
only n conn handle (l ∷ live) one c =
    let others = filter (is_of n) live in
    let rest = only n conn handle live (omega (arith, one, counted_more (λ (m : Live). is_place n conn m.0) l live)) in
    elim (is_of n l) as (λ b. is_of n l ≡ b → Contains (map pair_of (cond b (l ∷ others) others)) (conn, handle) → IsOn n conn handle (l ∷ live)) [
      | true ↦ λ own has. in_front n conn handle l live one own rest has.0 has.1 has.2
      | false ↦ λ other has. behind_another n conn handle l live (neither (eqb n l.0.0) (eqb conn l.0.1) other) (rest has)
    ] refl c

-- Each handle that a close hands out is live for the statement on its connection.
from_open : (n conn handle : ℕ) (live : List Live) (stmt : Stmt) → IsOneEach live → Contains (handed_out n live stmt) (conn, handle) → IsOn n conn handle live
from_open n conn handle live stmt one =
    elim (is_open stmt) as (λ b. Contains (cond b (handles_of n live) []) (conn, handle) → IsOn n conn handle live) [
      | true ↦ λ has. only n conn handle live (one.of_statement n conn) has
      | false ↦ λ has. absurd (omega (arith, has.1))
    ]

is_shut : (call : ℕ) (stmt : Stmt) → is_open (closed_by call stmt) ≡ false
is_shut call stmt =
    elim stmt.closed as (λ o. is_open (cond (is_none o) (record stmt { closed = Some call }) (record stmt { closed = o })) ≡ false) [
      | None ↦ refl
      | Some by ↦ refl
    ]

pub hands_out_the_live : HandsOutTheLive
hands_out_the_live = record {
  each = λ n conn handle inputs live stmt opened found.
      subst (λ (b : Bool). Contains (cond b (handles_of n live) []) (conn, handle)) (sym opened)
      (each n conn (record { handle = handle; inputs = inputs }) live (prepared_is n conn handle inputs live found));
  only = λ n conn handle live stmt one has. from_open n conn handle live stmt one has;
  then_none = λ n call live stmt. cond-false (is_open (closed_by call stmt)) (handles_of n live) [] (is_shut call stmt);
}
