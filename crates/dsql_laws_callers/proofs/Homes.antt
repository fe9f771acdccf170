-- Proves that the connection which a call uses is lent to an owner with the number of the call's borrower.
use Rattle.std.proofs.Common.{◌≡◌, ℕ, Bool, true, false, cond, List, [], ◌∷◌, Option, Some, None, refl, sym, ap, ◌∙◌, arith}
use Rattle.std.specs.Prelude.{find}
use Rattle.std.specs.Option.{option_map}
use Rattle.dsql_laws_calls.specs.journal.declared.entry.Owner.{Owner}
use Rattle.dsql_laws_calls.specs.journal.Kinds.{number_of}
use Rattle.dsql_laws_calls.specs.pool.declared.conn.Conn.{Conn}
use Rattle.dsql_laws_calls.specs.pool.declared.conn.Place.{Place}
use Rattle.dsql_laws_calls.specs.pool.declared.conn.Place.TheVariants.{Lent}
use Rattle.dsql_laws_calls.specs.pool.Places.{conn_of}
use Rattle.dsql_laws_calls.proofs.laws.Tests.{same_number}
use Rattle.dsql_laws_calls.specs.history.Readers.Pool.{is_home, or_none, pool, place, home}
use Rattle.dsql_laws_calls.specs.history.declared.event.Event.{Event}
use Rattle.dsql_laws_callers.proofs.Numbered.{numbered, found_there}
use Rattle.dsql_laws_callers.proofs.Tenures.{found_place, open_opened}

pub found_fits : (p : Conn → Bool) (xs : List Conn) (y : Conn) → find p xs ≡ Some y → p y ≡ true
found_fits p [] y is = absurd cc
found_fits p (x ∷ xs) y is =
    elim (p x) as (λ b. p x ≡ b → cond b (Some x) (find p xs) ≡ Some y → p y ≡ true) [
      | true ↦ λ fits same. let it : x ≡ y = cc in ap p (sym it) ∙ fits
      | false ↦ λ other same. found_fits p xs y same
    ] refl is

is_place : (x y : Conn) (p : Place) → Some x ≡ Some y → x.place ≡ p → y.place ≡ p
is_place x y p same is = let it : x ≡ y = cc in ap (λ (z : Conn). z.place) (sym it) ∙ is

pub home_owner : (H : List Event) (b c t : ℕ) (o : Owner) → home H b ≡ c → place H c ≡ Some (Lent t o) → number_of o ≡ b
home_owner H b c t o at is = by (find (λ (x : Conn). is_home b x.place) (pool H).conns) refl at
  where
    by : (f : Option Conn) → find (λ (x : Conn). is_home b x.place) (pool H).conns ≡ f → or_none (option_map (λ (x : Conn). x.number) f) ≡ c → number_of o ≡ b
    by None none zero =
        let x = found_place (conn_of c (pool H).conns) (Lent t o) is in
        let numbers = open_opened H c x.0 x.1 in
        let some = numbers.0 in
        absurd (omega (arith, some, zero))
    by (Some y) found number =
        let x = found_place (conn_of c (pool H).conns) (Lent t o) is in
        let f = found_there (λ (z : Conn). is_home b z.place) 0 (pool H).opened (pool H).conns y (numbered H) found in
        let same : Some x.0 ≡ Some y = sym x.1 ∙ (ap (λ n. conn_of n (pool H).conns) (sym number) ∙ f.there) in
        let lent_there : y.place ≡ Lent t o = is_place x.0 y (Lent t o) same x.2 in
        same_number (number_of o) b (ap (is_home b) (sym lent_there) ∙ found_fits (λ (z : Conn). is_home b z.place) (pool H).conns y found)
