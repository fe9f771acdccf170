-- What is found under a number after one of the connections has changed.
use Rattle.std.proofs.Common.{◌≡◌, ℕ, Bool, true, false, eqb, cond, List, [], ◌∷◌, Option, Some, None, refl, sym, ap, ◌∙◌}
use Rattle.std.specs.Option.{option_map, option_map_or}
use Rattle.std.proofs.lemmas.Bool.{eqb-true, eqb-false, ne_eqb, cond-true}
use Rattle.dsql_pool.specs.declared.conn.Conn.{Conn}
use Rattle.dsql_pool.specs.Places.{conn_of, lends_of}
use Rattle.dsql_pool.specs.Changes.{conn_changed, back}

-- Holds if a change leaves each connection its number.
abbrev pub KeepsNumber : (Conn → Conn) → Type 0
KeepsNumber f = (x : Conn) → (f x).number ≡ x.number

pub found_changed : (c : ℕ) (f : Conn → Conn) → KeepsNumber f → (conns : List Conn) → conn_of c (conn_changed c f conns) ≡ option_map f (conn_of c conns)
found_changed c f keeps [] = refl
found_changed c f keeps (x ∷ xs) =
    elim (eqb x.number c) as (λ b. eqb x.number c ≡ b → conn_of c (cond b (f x ∷ xs) (x ∷ conn_changed c f xs)) ≡ option_map f (cond b (Some x) (conn_of c xs))) [
      | true ↦ λ here. cond-true (eqb (f x).number c) (Some (f x)) (conn_of c xs) (ap (λ n. eqb n c) (keeps x) ∙ here)
      | false ↦ λ behind. ap (λ (b : Bool). cond b (Some x) (conn_of c (conn_changed c f xs))) behind ∙ found_changed c f keeps xs
    ] refl

pub found_beside : (c d : ℕ) (f : Conn → Conn) → KeepsNumber f → (conns : List Conn) → eqb d c ≡ false → conn_of d (conn_changed c f conns) ≡ conn_of d conns
found_beside c d f keeps [] apart = refl
found_beside c d f keeps (x ∷ xs) apart =
    elim (eqb x.number c) as (λ b. eqb x.number c ≡ b → conn_of d (cond b (f x ∷ xs) (x ∷ conn_changed c f xs)) ≡ cond (eqb x.number d) (Some x) (conn_of d xs)) [
      | true ↦ λ here.
          let not : eqb x.number d ≡ false = ne_eqb x.number d (λ same. eqb-false d c apart (sym same ∙ eqb-true x.number c here)) in
          ap (λ (b : Bool). cond b (Some (f x)) (conn_of d xs)) (ap (λ n. eqb n d) (keeps x) ∙ not) ∙ sym (ap (λ (b : Bool). cond b (Some x) (conn_of d xs)) not)
      | false ↦ λ behind. ap (λ (o : Option Conn). cond (eqb x.number d) (Some x) o) (found_beside c d f keeps xs apart)
    ] refl

lends_back : (moment : ℕ) (o : Option Conn) → option_map_or (λ x. x.lends) (option_map (back moment) o) 0 ≡ option_map_or (λ x. x.lends) o 0
lends_back moment None = refl
lends_back moment (Some x) = refl

-- A connection that comes back was lent as often as before.
pub lends_stay : (c moment : ℕ) (conns : List Conn) → lends_of c (conn_changed c (back moment) conns) ≡ lends_of c conns
lends_stay c moment conns =
    ap (λ (o : Option Conn). option_map_or (λ x. x.lends) o 0) (found_changed c (back moment) (λ _. refl) conns) ∙ lends_back moment (conn_of c conns)
