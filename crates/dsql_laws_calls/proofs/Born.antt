-- Connections are numbered as their opening begins. No connection has a later number, and nothing was heard of
-- one.
use Rattle.std.proofs.Common.{◌≡◌, ◌≢◌, ℕ, ◌+◌, ◌<◌, ◌==◌, ◌⊎◌, inl, inr, true, false, cond, List, [], ◌∷◌, Some, None, refl, sym, ap, subst, ◌∙◌, arith}
use Rattle.std.specs.Option.{option_map}
use Rattle.dsql_laws.specs.journal.declared.entry.Entry.{Entry}
use Rattle.dsql_laws.specs.pool.declared.conn.Conn.{Conn}
use Rattle.dsql_laws.specs.pool.declared.conn.Place.{Place}
use Rattle.dsql_laws.specs.pool.declared.moves.Move.TheVariants.{OpenStart, Lend, Back, CloseStart, Gone, Fell}
use Rattle.dsql_laws.specs.pool.Changes.{lent, back, closing, conn_changed, gone, unwanted}
use Rattle.dsql_laws.specs.pool.Places.{conn_of}
use Rattle.dsql_laws.specs.pool.Pooled.{Pooled, next_number}
use Rattle.dsql_laws.specs.pool.Moved.{begun, shut}
use Rattle.dsql_laws.proofs.pool.Found.{KeepsNumber, found_changed}
use Rattle.dsql_laws_work.proofs.Rows.{same_or_not}
use Rattle.dsql_laws.specs.history.declared.event.Control.TheVariants.{Tick, Set}
use Rattle.dsql_laws.proofs.Tests.{same_number}
use Rattle.dsql_laws_calls.proofs.Found.{place_in, changed_off, gone_at, gone_off, begun_off, shut_found}
use Rattle.dsql_laws_calls.proofs.Cases.{control_conns, control_opened}
use Rattle.dsql_laws.specs.history.declared.event.Event.{Event}
use Rattle.dsql_laws.specs.history.declared.event.Event.TheVariants.{Entered, Heard, Pool, Ticked, SetLimit, Ended}
use Rattle.dsql_laws.specs.history.declared.event.Op.TheVariants.{DbClose}
use Rattle.dsql_laws.specs.history.Readers.Journals.{journal}
use Rattle.dsql_laws.specs.history.Readers.Pool.{pool, place, wanted_by}
use Rattle.dsql_laws.specs.history.Rules.Moves.{hears_in}
use Rattle.dsql_laws.specs.history.Legal.{Allowed, Lawful}

pub record Born (H : List Event) : Type 0 where
  pub none : (c : ℕ) → (pool H).opened < c → conn_of c (pool H).conns ≡ None
  pub silent : (c : ℕ) → (pool H).opened < c → journal H c ≡ []

none_changed : (c d : ℕ) (f : Conn → Conn) (conns : List Conn) → KeepsNumber f → conn_of d conns ≡ None → conn_of d (conn_changed c f conns) ≡ None
none_changed c d f conns keeps none = by (same_or_not d c)
  where
    by : (d ≡ c) ⊎ (d ≢ c) → conn_of d (conn_changed c f conns) ≡ None
    by (inl same) = ap (λ e. conn_of d (conn_changed e f conns)) (sym same) ∙ found_changed d f keeps conns ∙ ap (option_map f) none
    by (inr apart) = changed_off c d f conns keeps apart ∙ none

none_gone : (c d : ℕ) (conns : List Conn) → conn_of d conns ≡ None → conn_of d (gone c conns) ≡ None
none_gone c d conns none = by (same_or_not d c)
  where
    by : (d ≡ c) ⊎ (d ≢ c) → conn_of d (gone c conns) ≡ None
    by (inl same) = ap (λ e. conn_of d (gone e conns)) (sym same) ∙ gone_at d conns
    by (inr apart) = gone_off c d conns apart ∙ none

none_shut : (d : ℕ) (p : Pooled) → conn_of d p.conns ≡ None → conn_of d (shut p).conns ≡ None
none_shut d p none = shut_found d p ∙ ap (option_map unwanted) none

begun_none : (H : List Event) (n : ℕ) → Born H → (d : ℕ) → (pool H).opened + 1 < d → conn_of d (begun (wanted_by H n) (pool H)).conns ≡ None
begun_none H n b d above = begun_off d (wanted_by H n) (pool H) (λ is. absurd (omega (arith, above, is))) ∙ b.none d (omega (arith, above))

-- An answer is heard on an open connection.
pub heard_at : (H : List Event) (e : Entry) → Allowed H (Heard e) → hears_in (pool H) (place H e.conn) e ≡ true
unfolding Allowed
heard_at H e a = a.sets

pub heard_open : (H : List Event) (e : Entry) → Allowed H (Heard e) → place H e.conn ≡ None → ⊥
heard_open H e a none = let h : hears_in (pool H) None e ≡ true = subst (λ at. hears_in (pool H) at e ≡ true) none (heard_at H e a) in absurd cc

born_heard : (H : List Event) (e : Entry) → Allowed H (Heard e) → Born H → (c : ℕ) → (pool H).opened < c → journal (Heard e ∷ H) c ≡ []
born_heard H e a b c above =
    elim (e.conn == c) as (λ here. (e.conn == c) ≡ here → cond here (e ∷ journal H c) (journal H c) ≡ []) [
      | true ↦ λ here.
          let same : e.conn ≡ c = same_number e.conn c here in
          let none : conn_of e.conn (pool H).conns ≡ None = b.none e.conn (omega (arith, above, same)) in
          absurd (heard_open H e a (ap place_in none))
      | false ↦ λ other. b.silent c above
    ] refl

born_with : (H : List Event) (e : Event) → Born H → (pool (e ∷ H)).opened ≡ (pool H).opened → ((c : ℕ) → conn_of c (pool H).conns ≡ None → conn_of c (pool (e ∷ H)).conns ≡ None)
    → ((c : ℕ) → journal (e ∷ H) c ≡ journal H c) → Born (e ∷ H)
born_with H e b so_many none same = record {
  none = λ c above. none c (b.none c (omega (arith, above, so_many)));
  silent = λ c above. same c ∙ b.silent c (omega (arith, above, so_many));
}

pub born : (H : List Event) → Lawful H → Born H
born [] l = record { none = λ c above. refl; silent = λ c above. refl }
born (Entered client n DbClose ∷ H) l = born_with H (Entered client n DbClose) (born H l.0) refl (λ c none. none_shut c (pool H) none) (λ c. refl)
born (Heard e ∷ H) l = let b = born H l.0 in record { none = b.none; silent = born_heard H e l.1 b }
born (Pool (OpenStart c n) ∷ H) l = let b = born H l.0 in record { none = begun_none H n b; silent = λ d above. b.silent d (omega (arith, above)) }
born (Pool (Lend c t o n) ∷ H) l = born_with H (Pool (Lend c t o n)) (born H l.0) refl (λ d none. none_changed c d (lent t o (pool H).moment) (pool H).conns (λ x. refl) none) (λ d. refl)
born (Pool (Back c) ∷ H) l = born_with H (Pool (Back c)) (born H l.0) refl (λ d none. none_changed c d (back (pool H).moment) (pool H).conns (λ x. refl) none) (λ d. refl)
born (Pool (CloseStart c why) ∷ H) l = born_with H (Pool (CloseStart c why)) (born H l.0) refl (λ d none. none_changed c d closing (pool H).conns (λ x. refl) none) (λ d. refl)
born (Pool (Gone c) ∷ H) l = born_with H (Pool (Gone c)) (born H l.0) refl (λ d none. none_gone c d (pool H).conns none) (λ d. refl)
born (Pool (Fell c n) ∷ H) l = born_with H (Pool (Fell c n)) (born H l.0) refl (λ d none. none_gone c d (pool H).conns none) (λ d. refl)
born (Ticked now ∷ H) l =
    let b = born H l.0 in
    let so_many = control_opened (Tick now) (pool H) in
    record {
      none = λ c above. ap (conn_of c) (control_conns (Tick now) (pool H)) ∙ (b.none c (omega (arith, above, so_many)));
      silent = λ c above. b.silent c (omega (arith, above, so_many));
    }
born (SetLimit s k ∷ H) l =
    let b = born H l.0 in
    let so_many = control_opened (Set s k) (pool H) in
    record {
      none = λ c above. ap (conn_of c) (control_conns (Set s k) (pool H)) ∙ (b.none c (omega (arith, above, so_many)));
      silent = λ c above. b.silent c (omega (arith, above, so_many));
    }
born (Ended ∷ H) l = born_with H Ended (born H l.0) refl (λ c none. none_shut c (pool H) none) (λ c. refl)
born (e ∷ H) l = born_with H e (born H l.0) refl (λ c none. none) (λ c. refl)

-- An open connection doesn't have the next new number.
pub open_is_old : (H : List Event) (c : ℕ) (p : Place) → Lawful H → place H c ≡ Some p → c ≢ next_number (pool H)
open_is_old H c p l is = λ new.
    let b = born H l in
    let none : conn_of c (pool H).conns ≡ None = b.none c (omega (arith, new)) in
    let clash : None ≡ Some p = sym (ap place_in none) ∙ is in
    absurd cc
