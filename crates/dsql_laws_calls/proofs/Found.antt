-- Proves where a connection stands after an event, and how often it was lent. The argument looks the connection
-- up by its number after each change.
use Rattle.std.proofs.Common.{◌≡◌, ◌≢◌, ℕ, ◌+◌, ◌==◌, Bool, true, false, cond, List, [], ◌∷◌, Option, Some, None, is_some, refl, sym, ap, ◌∙◌}
use Rattle.std.specs.Option.{option_map, option_map_or, option_or}
use Rattle.dsql_laws.specs.journal.declared.entry.Owner.{Owner}
use Rattle.dsql_laws.specs.pool.declared.conn.Conn.{Conn}
use Rattle.dsql_laws.specs.pool.declared.conn.Place.{Place}
use Rattle.dsql_laws.specs.pool.declared.conn.Place.TheVariants.{Idle, Opening}
use Rattle.dsql_laws.specs.pool.Places.{conn_of, place_of, lends_of, is_opening}
use Rattle.dsql_laws.specs.pool.Changes.{conn_changed, gone, opening, lent, unwanted}
use Rattle.dsql_laws.specs.pool.Pooled.{Pooled, next_number}
use Rattle.dsql_laws.specs.pool.Moved.{begun, shut}
use Rattle.dsql_laws.proofs.pool.Found.{KeepsNumber, found_changed, found_beside}
use Rattle.dsql_laws.proofs.pool.Placed.{found_gone, found_without, found_more, found_map}
use Rattle.dsql_laws.proofs.Tests.{other_number, same_itself}

abbrev pub place_in : Option Conn → Option Place
place_in o = option_map (λ (x : Conn). x.place) o

abbrev pub lends_in : Option Conn → ℕ
lends_in o = option_map_or (λ (x : Conn). x.lends) o 0

abbrev pub uses_in : Option Conn → ℕ
uses_in o = option_map_or (λ (x : Conn). x.uses) o 0

-- A connection that is changed, if it is open.

placed_as : (f : Conn → Conn) (p : Place) → ((x : Conn) → (f x).place ≡ p) → (o : Option Conn) → is_some (place_in o) ≡ true → place_in (option_map f o) ≡ Some p
placed_as f p at None h = absurd cc
placed_as f p at (Some x) h = ap Some (at x)

pub changed_place : (c : ℕ) (f : Conn → Conn) (p : Place) (conns : List Conn) → KeepsNumber f → ((x : Conn) → (f x).place ≡ p) → is_some (place_of c conns) ≡ true → place_of c (conn_changed c f conns) ≡ Some p
changed_place c f p conns keeps at there = ap place_in (found_changed c f keeps conns) ∙ placed_as f p at (conn_of c conns) there

lent_as : (f : Conn → Conn) (o : Option Conn) → ((x : Conn) → (f x).lends ≡ x.lends) → lends_in (option_map f o) ≡ lends_in o
lent_as f None at = refl
lent_as f (Some x) at = at x

pub changed_lends : (c : ℕ) (f : Conn → Conn) (conns : List Conn) → KeepsNumber f → ((x : Conn) → (f x).lends ≡ x.lends) → lends_of c (conn_changed c f conns) ≡ lends_of c conns
changed_lends c f conns keeps at = ap lends_in (found_changed c f keeps conns) ∙ lent_as f (conn_of c conns) at

lent_more : (t : ℕ) (o : Owner) (moment : ℕ) (found : Option Conn) → is_some (place_in found) ≡ true → lends_in (option_map (lent t o moment) found) ≡ lends_in found + 1
lent_more t o moment None h = absurd cc
lent_more t o moment (Some x) h = refl

pub lends_more : (c t : ℕ) (o : Owner) (moment : ℕ) (conns : List Conn) → is_some (place_of c conns) ≡ true → lends_of c (conn_changed c (lent t o moment) conns) ≡ lends_of c conns + 1
lends_more c t o moment conns there = ap lends_in (found_changed c (lent t o moment) (λ _. refl) conns) ∙ lent_more t o moment (conn_of c conns) there

-- The other connections stay as they are.

pub changed_off : (c d : ℕ) (f : Conn → Conn) (conns : List Conn) → KeepsNumber f → d ≢ c → conn_of d (conn_changed c f conns) ≡ conn_of d conns
changed_off c d f conns keeps apart = found_beside c d f keeps conns (other_number d c apart)

pub gone_at : (c : ℕ) (conns : List Conn) → conn_of c (gone c conns) ≡ None
gone_at c conns = found_gone c conns

pub gone_off : (c d : ℕ) (conns : List Conn) → d ≢ c → conn_of d (gone c conns) ≡ conn_of d conns
gone_off c d conns apart = found_without c d conns (other_number d c apart)

-- A connection that begins to be opened.

pub begun_at : (w : Option Owner) (p : Pooled) → conn_of (next_number p) p.conns ≡ None → conn_of (next_number p) (begun w p).conns ≡ Some (opening (next_number p) w)
begun_at w p none =
    found_more (next_number p) (next_number p) w p.conns
    ∙ ap (λ (o : Option Conn). option_or o (conn_of (next_number p) (opening (next_number p) w ∷ []))) none
    ∙ ap (λ (b : Bool). cond b (Some (opening (next_number p) w)) None) (same_itself (next_number p))

or_none : (o : Option Conn) → option_or o None ≡ o
or_none None = refl
or_none (Some x) = refl

pub begun_off : (d : ℕ) (w : Option Owner) (p : Pooled) → d ≢ next_number p → conn_of d (begun w p).conns ≡ conn_of d p.conns
begun_off d w p apart =
    let other : (next_number p == d) ≡ false = other_number (next_number p) d (λ is. apart (sym is)) in
    found_more d (next_number p) w p.conns
    ∙ ap (λ (b : Bool). option_or (conn_of d p.conns) (cond b (Some (opening (next_number p) w)) None)) other
    ∙ or_none (conn_of d p.conns)

-- After the close of the database no call wants a connection that is being opened.

keeps_number : (x : Conn) → (unwanted x).number ≡ x.number
keeps_number x = elim (is_opening (Some x.place)) as (λ b. (cond b (record x { place = Opening None }) x).number ≡ x.number) [ true ↦ refl | false ↦ refl ]

pub shut_found : (d : ℕ) (p : Pooled) → conn_of d (shut p).conns ≡ option_map unwanted (conn_of d p.conns)
shut_found d p = found_map d unwanted keeps_number p.conns

-- Returns the place of a connection after no owner wants it.
abbrev pub unwanted_place : Place → Place
unwanted_place (Opening wanted) = Opening None
unwanted_place p = p

unwanted_conn : (x : Conn) → (unwanted x).place ≡ unwanted_place x.place
unwanted_conn x = at x.place refl
  where
    at : (place : Place) → x.place ≡ place → (unwanted x).place ≡ unwanted_place x.place
    at Idle is = rw is refl
    at _ is = rw is refl

unwanted_lends : (x : Conn) → ((unwanted x).lends ≡ x.lends) × ((unwanted x).uses ≡ x.uses)
unwanted_lends x =
    elim (is_opening (Some x.place)) as (λ b. ((cond b (record x { place = Opening None }) x).lends ≡ x.lends) × ((cond b (record x { place = Opening None }) x).uses ≡ x.uses)) [
      | true ↦ (refl, refl)
      | false ↦ (refl, refl)
    ]

pub unwanted_in : (o : Option Conn) → place_in (option_map unwanted o) ≡ option_map unwanted_place (place_in o)
unwanted_in None = refl
unwanted_in (Some x) = ap Some (unwanted_conn x)

pub unwanted_lent : (o : Option Conn) → (lends_in (option_map unwanted o) ≡ lends_in o) × (uses_in (option_map unwanted o) ≡ uses_in o)
unwanted_lent None = (refl, refl)
unwanted_lent (Some x) = unwanted_lends x
