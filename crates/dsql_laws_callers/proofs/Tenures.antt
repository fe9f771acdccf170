-- Proves that a tenure which has begun stays begun. The argument is that no event lowers how many connections were
-- opened, or how often one was lent.
use Rattle.std.proofs.Common.{◌≡◌, ◌≢◌, ℕ, ◌+◌, ◌<◌, ◌≤◌, ◌==◌, true, false, cond, List, ◌∷◌, Option, Some, None, refl, sym, ap, subst, ◌∙◌, ◌⊎◌, inl, inr, arith}
use Rattle.std.specs.Option.{option_map}
use Rattle.dsql_laws_calls.specs.pool.declared.conn.Conn.{Conn}
use Rattle.dsql_laws_calls.specs.pool.declared.conn.Place.{Place}
use Rattle.dsql_laws_calls.specs.pool.declared.conn.Place.TheVariants.{Opening}
use Rattle.dsql_laws_calls.specs.pool.declared.moves.Move.TheVariants.{OpenStart, Lend, Back, CloseStart, Gone, Fell}
use Rattle.dsql_laws_calls.specs.pool.Changes.{lent, back, closing, conn_changed, gone, unwanted}
use Rattle.dsql_laws_calls.specs.pool.Places.{conn_of, is_opening}
use Rattle.dsql_laws_calls.specs.pool.Pooled.{Pooled}
use Rattle.dsql_laws_calls.specs.pool.Moved.{begun}
use Rattle.dsql_laws_calls.proofs.pool.Found.{KeepsNumber, found_changed}
use Rattle.dsql_laws_calls.proofs.pool.Placed.{found_map}
use Rattle.dsql_laws_calls.proofs.pool.Rows.{has_number}
use Rattle.dsql_laws_calls.proofs.Found.{place_in, changed_off, gone_at, gone_off, begun_off}
use Rattle.dsql_laws_calls.proofs.laws_work.Rows.{same_or_not}
use Rattle.dsql_laws_calls.specs.history.declared.event.Event.{Event}
use Rattle.dsql_laws_calls.specs.history.declared.event.Event.TheVariants.{Pool}
use Rattle.dsql_laws_calls.specs.history.Readers.Pool.{pool, place, wanted_by}
use Rattle.dsql_laws_callers.proofs.Numbered.{Stays, Shuts, stays_or_shuts, numbered, found_there, unwanted_number}

-- An open connection has a number that was given.
pub open_opened : (H : List Event) (c : ℕ) (x : Conn) → conn_of c (pool H).conns ≡ Some x → (0 < c) × (c ≤ (pool H).opened)
open_opened H c x is =
    let f = found_there (λ y. y.number == c) 0 (pool H).opened (pool H).conns x (numbered H) is in
    let number = has_number c x (pool H).conns is in
    let above = f.above in
    let within = f.within in
    (omega (arith, above, number), omega (arith, within, number))

pub found_place : (o : Option Conn) (p : Place) → place_in o ≡ Some p → (x : Conn) × (o ≡ Some x) × (x.place ≡ p)
found_place None p h = absurd cc
found_place (Some x) p h = (x, refl, cc)

-- Tenure t of connection c has begun: the connection was opened, and if it is still open, it was lent that
-- often.

pub record HasBegun (H : List Event) (c t : ℕ) : Type 0 where
  pub opened : c ≤ (pool H).opened
  pub lent : (x : Conn) → conn_of c (pool H).conns ≡ Some x → t ≤ x.lends + 1

-- Holds if the connection after an event was one of that number before it, which had been lent no more often.
abbrev Comes : Option Conn → Conn → Type 0
Comes before x = (y : Conn) × (before ≡ Some y) × (y.lends ≤ x.lends)

comes_mapped : (f : Conn → Conn) (o : Option Conn) (x : Conn) → ((y : Conn) → y.lends ≤ (f y).lends) → option_map f o ≡ Some x → Comes o x
comes_mapped f None x more is = absurd cc
comes_mapped f (Some y) x more is = let same : f y ≡ x = cc in (y, refl, subst (λ (z : Conn). y.lends ≤ z.lends) same (more y))

comes_changed : (d c : ℕ) (f : Conn → Conn) (conns : List Conn) (x : Conn) → KeepsNumber f → ((y : Conn) → y.lends ≤ (f y).lends) → conn_of c (conn_changed d f conns) ≡ Some x → Comes (conn_of c conns) x
comes_changed d c f conns x keeps more is = by (same_or_not c d)
  where
    by : (c ≡ d) ⊎ (c ≢ d) → Comes (conn_of c conns) x
    by (inl same) = comes_mapped f (conn_of c conns) x more (sym (ap (λ e. conn_of c (conn_changed e f conns)) (sym same) ∙ found_changed c f keeps conns) ∙ is)
    by (inr apart) = (x, sym (changed_off d c f conns keeps apart) ∙ is, omega arith)

comes_gone : (d c : ℕ) (conns : List Conn) (x : Conn) → conn_of c (gone d conns) ≡ Some x → Comes (conn_of c conns) x
comes_gone d c conns x is = by (same_or_not c d)
  where
    by : (c ≡ d) ⊎ (c ≢ d) → Comes (conn_of c conns) x
    by (inl same) = let none : None ≡ Some x = sym (ap (λ e. conn_of c (gone e conns)) (sym same) ∙ gone_at c conns) ∙ is in absurd cc
    by (inr apart) = (x, sym (gone_off d c conns apart) ∙ is, omega arith)

unwanted_lends : (y : Conn) → y.lends ≤ (unwanted y).lends
unwanted_lends y = elim (is_opening (Some y.place)) as (λ b. y.lends ≤ (cond b (record y { place = Opening None }) y).lends) [ true ↦ omega arith | false ↦ omega arith ]

comes_turned : (p q : Pooled) (c : ℕ) (x : Conn) → Stays p q ⊎ Shuts p q → conn_of c q.conns ≡ Some x → Comes (conn_of c p.conns) x
comes_turned p q c x (inl s) is = (x, sym (ap (conn_of c) s.conns) ∙ is, omega arith)
comes_turned p q c x (inr s) is = comes_mapped unwanted (conn_of c p.conns) x unwanted_lends (sym (ap (conn_of c) s.conns ∙ found_map c unwanted unwanted_number p.conns) ∙ is)

turned_opened : (p q : Pooled) → Stays p q ⊎ Shuts p q → q.opened ≡ p.opened
turned_opened p q (inl s) = s.opened
turned_opened p q (inr s) = s.opened

begun_after : (H : List Event) (e : Event) (c t : ℕ) → HasBegun H c t → (pool H).opened ≤ (pool (e ∷ H)).opened
    → ((x : Conn) → conn_of c (pool (e ∷ H)).conns ≡ Some x → Comes (conn_of c (pool H).conns) x) → HasBegun (e ∷ H) c t
begun_after H e c t b more comes = record {
  opened = let within = b.opened in omega (arith, within, more);
  lent = λ x is.
      let y = comes x is in
      let so_often = b.lent y.0 y.1 in
      let oftener = y.2 in
      omega (arith, so_often, oftener);
}

comes_new : (H : List Event) (k c t : ℕ) (x : Conn) → HasBegun H c t → conn_of c (begun (wanted_by H k) (pool H)).conns ≡ Some x → Comes (conn_of c (pool H).conns) x
comes_new H k c t x b is =
    let within = b.opened in
    (x, sym (begun_off c (wanted_by H k) (pool H) (λ new. absurd (omega (arith, within, new)))) ∙ is, omega arith)

-- A tenure that has begun has begun after every later event.
pub begun_still : (H : List Event) (e : Event) (c t : ℕ) → HasBegun H c t → HasBegun (e ∷ H) c t
begun_still H (Pool (OpenStart d k)) c t b = begun_after H (Pool (OpenStart d k)) c t b (omega arith) (λ x is. comes_new H k c t x b is)
begun_still H (Pool (Lend d u p k)) c t b = begun_after H (Pool (Lend d u p k)) c t b (omega arith) (λ x is. comes_changed d c (lent u p (pool H).moment) (pool H).conns x (λ y. refl) (λ y. omega arith) is)
begun_still H (Pool (Back d)) c t b = begun_after H (Pool (Back d)) c t b (omega arith) (λ x is. comes_changed d c (back (pool H).moment) (pool H).conns x (λ y. refl) (λ y. omega arith) is)
begun_still H (Pool (CloseStart d why)) c t b = begun_after H (Pool (CloseStart d why)) c t b (omega arith) (λ x is. comes_changed d c closing (pool H).conns x (λ y. refl) (λ y. omega arith) is)
begun_still H (Pool (Gone d)) c t b = begun_after H (Pool (Gone d)) c t b (omega arith) (λ x is. comes_gone d c (pool H).conns x is)
begun_still H (Pool (Fell d k)) c t b = begun_after H (Pool (Fell d k)) c t b (omega arith) (λ x is. comes_gone d c (pool H).conns x is)
begun_still H e c t b =
    let turn = stays_or_shuts H e refl in
    let so_many = turned_opened (pool H) (pool (e ∷ H)) turn in
    begun_after H e c t b (omega (arith, so_many)) (λ x is. comes_turned (pool H) (pool (e ∷ H)) c x turn is)
