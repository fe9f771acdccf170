-- A statement has at most one live handle on a connection, and a number there belongs to one statement. A new
-- handle's place and number are both unused.
use Rattle.std.proofs.Common.{◌≡◌, ℕ, ℤ, ◌+◌, ◌≤◌, Bool, true, false, cond, eqb, filter, List, [], ◌∷◌, ◌++◌, Some, None, refl, sym, ap, ◌∙◌, arith}
use Rattle.std.specs.Prelude.{count_by, not}
use Rattle.std.proofs.lemmas.Bool.{eqb-true, eq-eqb}
use Rattle.std.proofs.lemmas.Option.{none-some}
use Rattle.dsql_stmt.specs.declared.stmt.Prepared.{Prepared}
use Rattle.dsql_stmt.specs.Statements.{Live, is_on, is_handle, is_place, handle_on, is_live, live_handle, prepared_on, IsOneEach}
use Rattle.dsql_stmt.specs.Laws.{OneHandleEach}
use Rattle.dsql_stmt.proofs.Counts.{counted_one, counted_more, count_by-filter, count_by-push, none_counted, unfound}
use Rattle.dsql_stmt.proofs.Places.{both, all_of, place_is, place_on, prepared_is, none_prepared}

pub one_in_none : IsOneEach []
one_in_none = record { of_statement = λ n conn. omega arith; of_number = λ conn handle. omega arith }

pub one_in_part : (keep : Live → Bool) (live : List Live) → IsOneEach live → IsOneEach (filter keep live)
one_in_part keep live one = record {
  of_statement = λ n conn. omega (arith, count_by-filter (λ (l : Live). is_place n conn l.0) keep live, one.of_statement n conn);
  of_number = λ conn handle. omega (arith, count_by-filter (is_handle conn handle) keep live, one.of_number conn handle);
}

-- After a handle is added at a free place, each place still has at most one.
one_at_place : (n conn handle : ℕ) (inputs : ℤ) (live : List Live) → handle_on n conn live ≡ None → IsOneEach live → (other there : ℕ) → count_by (λ (l : Live). is_place other there l.0) (live ++ live_handle n conn handle inputs ∷ []) ≤ 1
one_at_place n conn handle inputs live none one other there =
    let more = count_by-push (λ (l : Live). is_place other there l.0) live (live_handle n conn handle inputs) in
    elim (is_place other there (n, conn)) as (λ b. is_place other there (n, conn) ≡ b → count_by (λ (l : Live). is_place other there l.0) (live ++ live_handle n conn handle inputs ∷ []) ≡ count_by (λ (l : Live). is_place other there l.0) live + cond b 1 0 → count_by (λ (l : Live). is_place other there l.0) (live ++ live_handle n conn handle inputs ∷ []) ≤ 1) [
      | true ↦ λ here one_more.
          let at = place_is other there (live_handle n conn handle inputs) here in
          let free : prepared_on other there live ≡ None = ap (λ (m : ℕ). prepared_on m there live) at.0 ∙ (ap (λ (m : ℕ). prepared_on n m live) at.1 ∙ none_prepared n conn live none) in
          omega (arith, one_more, unfound (is_place other there) live free)
      | false ↦ λ apart same. omega (arith, same, one.of_statement other there)
    ] refl more

-- After a handle is added with an unused number, each number still has at most one handle.
one_of_number : (n conn handle : ℕ) (inputs : ℤ) (live : List Live) → is_live conn handle live ≡ false → IsOneEach live → (there number : ℕ) → count_by (is_handle there number) (live ++ live_handle n conn handle inputs ∷ []) ≤ 1
one_of_number n conn handle inputs live unused one there number =
    let new = live_handle n conn handle inputs in
    let more = count_by-push (is_handle there number) live new in
    elim (is_handle there number new) as (λ b. is_handle there number new ≡ b → count_by (is_handle there number) (live ++ new ∷ []) ≡ count_by (is_handle there number) live + cond b 1 0 → count_by (is_handle there number) (live ++ new ∷ []) ≤ 1) [
      | true ↦ λ here one_more.
          let parts = both (eqb there conn) (eqb number handle) here in
          let free : is_live there number live ≡ false = ap (λ (m : ℕ). is_live m number live) (eqb-true there conn parts.0) ∙ (ap (λ (m : ℕ). is_live conn m live) (eqb-true number handle parts.1) ∙ unused) in
          omega (arith, one_more, none_counted (is_handle there number) live free)
      | false ↦ λ apart same. omega (arith, same, one.of_number there number)
    ] refl more

pub one_with_new : (n conn handle : ℕ) (inputs : ℤ) (live : List Live) → handle_on n conn live ≡ None → is_live conn handle live ≡ false → IsOneEach live → IsOneEach (live ++ live_handle n conn handle inputs ∷ [])
one_with_new n conn handle inputs live none unused one = record {
  of_statement = one_at_place n conn handle inputs live none one;
  of_number = one_of_number n conn handle inputs live unused one;
}

-- What is prepared at a place has its number there.
pub has_number : (n conn : ℕ) (l : Live) (handle : ℕ) → is_place n conn l.0 ≡ true → l.1.handle ≡ handle → is_handle conn handle l ≡ true
has_number n conn l handle here same = all_of (is_on conn l) (eqb handle l.1.handle) (place_on n conn l here) (eq-eqb handle l.1.handle (sym same))

pub number_counted : (n conn : ℕ) (live : List Live) (p : Prepared) → prepared_on n conn live ≡ Some p → 1 ≤ count_by (is_handle conn p.handle) live
number_counted n conn [] p h = absurd (none-some p h)
number_counted n conn (l ∷ live) p h =
    elim (is_place n conn l.0) as (λ b. is_place n conn l.0 ≡ b → cond b (Some l.1) (prepared_on n conn live) ≡ Some p → 1 ≤ count_by (is_handle conn p.handle) (l ∷ live)) [
      | true ↦ λ here found.
          let same : l.1 ≡ p = cc in
          let one = has_number n conn l p.handle here (ap (λ (q : Prepared). q.handle) same) in
          omega (arith, counted_one (is_handle conn p.handle) l live one)
      | false ↦ λ apart behind. omega (arith, number_counted n conn live p behind, counted_more (is_handle conn p.handle) l live)
    ] refl h

owner : (n other conn : ℕ) (p q : Prepared) (live : List Live) → p.handle ≡ q.handle → count_by (is_handle conn p.handle) live ≤ 1 → prepared_on n conn live ≡ Some p → prepared_on other conn live ≡ Some q → n ≡ other
owner n other conn p q [] same one found others = absurd (none-some p found)
owner n other conn p q (l ∷ live) same one found others =
    elim (is_place n conn l.0) as (λ b. is_place n conn l.0 ≡ b → cond b (Some l.1) (prepared_on n conn live) ≡ Some p → n ≡ other) [
      | true ↦ λ here at. elim (is_place other conn l.0) as (λ b. is_place other conn l.0 ≡ b → cond b (Some l.1) (prepared_on other conn live) ≡ Some q → n ≡ other) [
        | true ↦ λ there _. (place_is n conn l here).0 ∙ sym (place_is other conn l there).0
        | false ↦ λ apart behind.
            let is : l.1 ≡ p = cc in
            let first = has_number n conn l p.handle here (ap (λ (x : Prepared). x.handle) is) in
            let second = number_counted other conn live q behind in
            absurd (omega (arith, one, counted_one (is_handle conn p.handle) l live first, second, ap (λ (h : ℕ). count_by (is_handle conn h) live) same))
      ] refl others
      | false ↦ λ apart behind. elim (is_place other conn l.0) as (λ b. is_place other conn l.0 ≡ b → cond b (Some l.1) (prepared_on other conn live) ≡ Some q → n ≡ other) [
        | true ↦ λ there at.
            let is : l.1 ≡ q = cc in
            let first = has_number other conn l p.handle there (ap (λ (x : Prepared). x.handle) is ∙ sym same) in
            let second = number_counted n conn live p behind in
            absurd (omega (arith, one, counted_one (is_handle conn p.handle) l live first, second))
        | false ↦ λ apart-2 behind-2. owner n other conn p q live same (omega (arith, one, counted_more (is_handle conn p.handle) l live)) behind behind-2
      ] refl others
    ] refl found

pub one_handle_each : OneHandleEach
one_handle_each = record {
  none = one_in_none;
  prepared = one_with_new;
  dropped = λ conn handle live one. one_in_part (λ l. not (is_handle conn handle l)) live one;
  lost = λ conn live one. one_in_part (λ l. not (is_on conn l)) live one;
  owner = λ n other conn handle inputs others live one found also.
      owner n other conn (record { handle = handle; inputs = inputs }) (record { handle = handle; inputs = others }) live refl (one.of_number conn handle) (prepared_is n conn handle inputs live found) (prepared_is other conn handle others live also);
}
