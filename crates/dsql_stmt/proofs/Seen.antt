-- What is live after a handle was prepared, dropped or lost. Each change is a look-up in a list with one entry
-- more or some left out.
use Rattle.std.proofs.Common.{◌≡◌, ℕ, ◌≤◌, Bool, true, false, cond, eqb, List, [], ◌∷◌, Option, Some, None, refl, sym, ap, ◌∙◌, arith}
use Rattle.std.specs.Prelude.{count_by, not}
use Rattle.std.specs.Option.{option_map}
use Rattle.std.proofs.lemmas.Bool.{ne_eqb}
use Rattle.std.proofs.lemmas.Option.{none-some}
use Rattle.dsql_stmt.specs.declared.stmt.Prepared.{Prepared}
use Rattle.dsql_stmt.specs.Statements.{Live, inputs_of, is_on, is_handle, is_place, prepared_on, live_handle, without_handle}
use Rattle.dsql_stmt.specs.Laws.{PreparedIsLive, DropsOneHandle, LosesOneConnection}
use Rattle.dsql_stmt.proofs.Counts.{counted_one, counted_more, count_by-filter, none_left, uncounted, lookup-new, lookup-beside, lookup-kept, lookup-gone, lookup-first}
use Rattle.dsql_stmt.proofs.Places.{neither, nor_second, is_placed, place_on, elsewhere, prepared_is, none_prepared}
use Rattle.dsql_stmt.proofs.OneEach.{has_number}

-- Equal prepared entries have equal handles.
pub seen : {o r : Option Prepared} → o ≡ r → option_map inputs_of o ≡ option_map inputs_of r
seen same = ap (λ (o : Option Prepared). option_map inputs_of o) same

pub prepared_is_live : PreparedIsLive
prepared_is_live = record {
  noted = λ n conn handle inputs live none. seen (lookup-new (is_place n conn) live (live_handle n conn handle inputs) (is_placed n conn) (none_prepared n conn live none));
  other_statements = λ n conn handle inputs other there live apart. seen (lookup-beside (is_place other there) live (live_handle n conn handle inputs) (neither (eqb other n) (eqb there conn) (ne_eqb other n apart)));
  other_connections = λ n conn handle inputs other there live apart. seen (lookup-beside (is_place other there) live (live_handle n conn handle inputs) (nor_second (eqb other n) (eqb there conn) (ne_eqb there conn apart)));
}

-- If a statement's one handle on a connection is taken out, the statement has none there.
without_its_own : (n conn : ℕ) (p : Prepared) (live : List Live) → count_by (λ (l : Live). is_place n conn l.0) live ≤ 1 → prepared_on n conn live ≡ Some p → prepared_on n conn (without_handle conn p.handle live) ≡ None
without_its_own n conn p [] one h = absurd (none-some p h)
without_its_own n conn p (l ∷ live) one h =
    let left = without_handle conn p.handle live in
    elim (is_place n conn l.0) as (λ b. is_place n conn l.0 ≡ b → cond b (Some l.1) (prepared_on n conn live) ≡ Some p → prepared_on n conn (without_handle conn p.handle (l ∷ live)) ≡ None) [
      | true ↦ λ here found.
          let is : l.1 ≡ p = cc in
          let taken = has_number n conn l p.handle here (ap (λ (q : Prepared). q.handle) is) in
          let fewer = count_by-filter (λ (l : Live). is_place n conn l.0) (λ l. not (is_handle conn p.handle l)) live in
          ap (λ (b : Bool). prepared_on n conn (cond (not b) (l ∷ left) left)) taken
          ∙ uncounted (is_place n conn) left (omega (arith, one, fewer, counted_one (λ (m : Live). is_place n conn m.0) l live here))
      | false ↦ λ apart behind.
          let rest = without_its_own n conn p live (omega (arith, one, counted_more (λ (m : Live). is_place n conn m.0) l live)) behind in
          elim (is_handle conn p.handle l) as (λ b. prepared_on n conn (cond (not b) (l ∷ left) left) ≡ None) [
            | true ↦ rest
            | false ↦ ap (λ (b : Bool). cond b (Some l.1) (prepared_on n conn left)) apart ∙ rest
          ]
    ] refl h

pub drops_one_handle : DropsOneHandle
drops_one_handle = record {
  gone = λ conn handle live. none_left (is_handle conn handle) live;
  not_on = λ n conn handle inputs live one found.
      seen (without_its_own n conn (record { handle = handle; inputs = inputs }) live (one.of_statement n conn) (prepared_is n conn handle inputs live found));
  other_numbers = λ n conn handle other inputs live apart found.
      let p : Prepared = record { handle = other; inputs = inputs } in
      seen (lookup-first (is_place n conn) (λ l. not (is_handle conn handle l)) p
      (λ l here is. ap not (nor_second (is_on conn l) (eqb handle l.1.handle) (ne_eqb handle l.1.handle (λ same. apart (sym (ap (λ (q : Prepared). q.handle) is) ∙ sym same)))))
      live (prepared_is n conn other inputs live found));
  other_connections = λ n conn there handle live apart.
      seen (lookup-kept (is_place n there) (λ l. not (is_handle conn handle l))
      (λ l here. ap not (neither (is_on conn l) (eqb handle l.1.handle) (elsewhere n conn there l apart here))) live);
}

pub loses_one_connection : LosesOneConnection
loses_one_connection = record {
  gone = λ n conn live. seen (lookup-gone (is_place n conn) (λ l. not (is_on conn l)) (λ l here. ap not (place_on n conn l here)) live);
  others = λ n conn there live apart. seen (lookup-kept (is_place n there) (λ l. not (is_on conn l)) (λ l here. ap not (elsewhere n conn there l apart here)) live);
}
