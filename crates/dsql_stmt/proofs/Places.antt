-- The place of a live handle, and what is found there.
use Rattle.std.proofs.Common.{◌≡◌, ◌≢◌, ℕ, ℤ, Bool, true, false, ◌&&◌, eqb, List, Some, None, refl, sym, ap, ◌∙◌, true≢false}
use Rattle.std.specs.Option.{option_map}
use Rattle.std.proofs.lemmas.Bool.{eqb-true, eq-eqb, ne_eqb}
use Rattle.std.proofs.lemmas.Option.{none-some}
use Rattle.dsql_stmt.specs.declared.stmt.Prepared.{Prepared}
use Rattle.dsql_stmt.specs.Statements.{Live, HandleInputs, inputs_of, is_of, is_on, is_place, handle_on, prepared_on}

pub both : (a b : Bool) → (a && b) ≡ true → (a ≡ true) × (b ≡ true)
both true b h = (refl, h)
both false b h = absurd (true≢false (sym h))

pub neither : (a b : Bool) → a ≡ false → (a && b) ≡ false
neither a b h = ap (λ (c : Bool). c && b) h

pub nor_second : (a b : Bool) → b ≡ false → (a && b) ≡ false
nor_second true b h = h
nor_second false b h = refl

pub all_of : (a b : Bool) → a ≡ true → b ≡ true → (a && b) ≡ true
all_of a b first second = ap (λ (c : Bool). c && b) first ∙ second

pub place_is : (n conn : ℕ) (l : Live) → is_place n conn l.0 ≡ true → (n ≡ l.0.0) × (conn ≡ l.0.1)
place_is n conn l h = let parts = both (eqb n l.0.0) (eqb conn l.0.1) h in (eqb-true n l.0.0 parts.0, eqb-true conn l.0.1 parts.1)

pub is_placed : (n conn : ℕ) → is_place n conn (n, conn) ≡ true
is_placed n conn = all_of (eqb n n) (eqb conn conn) (eq-eqb n n refl) (eq-eqb conn conn refl)

pub place_on : (n conn : ℕ) (l : Live) → is_place n conn l.0 ≡ true → is_on conn l ≡ true
place_on n conn l h = (both (eqb n l.0.0) (eqb conn l.0.1) h).1

pub place_of : (n conn : ℕ) (l : Live) → is_place n conn l.0 ≡ true → is_of n l ≡ true
place_of n conn l h = (both (eqb n l.0.0) (eqb conn l.0.1) h).0

pub elsewhere : (n conn there : ℕ) (l : Live) → there ≢ conn → is_place n there l.0 ≡ true → is_on conn l ≡ false
elsewhere n conn there l apart h = ne_eqb conn l.0.1 (λ same. apart ((place_is n there l h).1 ∙ sym same))

-- The handle and inputs that are found determine the prepared entry that is found.
pub prepared_is : (n conn handle : ℕ) (inputs : ℤ) (live : List Live) → handle_on n conn live ≡ Some (handle, inputs) → prepared_on n conn live ≡ Some (record { handle = handle; inputs = inputs })
prepared_is n conn handle inputs live h =
    elim (prepared_on n conn live) as (λ o. option_map inputs_of o ≡ Some (handle, inputs) → o ≡ Some (record { handle = handle; inputs = inputs })) [
      | None ↦ λ none. absurd (none-some (handle, inputs) none)
      | Some p ↦ λ some.
          let same : inputs_of p ≡ (handle, inputs) = cc in
          ap (λ (q : HandleInputs). let read : Prepared = record { handle = q.0; inputs = q.1 } in Some read) same
    ] h

pub none_prepared : (n conn : ℕ) (live : List Live) → handle_on n conn live ≡ None → prepared_on n conn live ≡ None
none_prepared n conn live h = elim (prepared_on n conn live) as (λ o. option_map inputs_of o ≡ None → o ≡ None) [ None ↦ λ k. refl | Some p ↦ λ k. absurd (none-some (inputs_of p) (sym k)) ] h
