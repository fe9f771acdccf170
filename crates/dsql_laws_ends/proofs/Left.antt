-- A connection with entries in its journal is open or has left: the proof is by induction on the history.
use Rattle.std.proofs.Common.{◌≡◌, ◌≢◌, ℕ, ◌==◌, ◌⊎◌, inl, inr, Bool, true, false, ◌||◌, cond, List, [], ◌∷◌, Option, Some, None, is_some, refl, sym, ap, ◌∙◌}
use Rattle.std.specs.Option.{option_map, option_or}
use Rattle.dsql_laws_calls.specs.pool.declared.conn.Conn.{Conn}
use Rattle.dsql_laws_calls.specs.pool.declared.conn.Place.{Place}
use Rattle.dsql_laws_calls.specs.pool.declared.moves.Move.TheVariants.{OpenStart, Lend, Back, CloseStart, Gone, Fell}
use Rattle.dsql_laws_calls.specs.pool.Changes.{back, conn_changed, closing, gone, lent, opening, unwanted}
use Rattle.dsql_laws_calls.specs.pool.Places.{conn_of, place_of}
use Rattle.dsql_laws_calls.specs.pool.Pooled.{Pooled, next_number, place_at}
use Rattle.dsql_laws_calls.specs.pool.Moved.{shut}
use Rattle.dsql_laws_calls.proofs.pool.Found.{found_changed, KeepsNumber}
use Rattle.dsql_laws_calls.proofs.pool.Placed.{found_more}
use Rattle.dsql_laws_calls.specs.history.declared.event.Event.{Event}
use Rattle.dsql_laws_calls.specs.history.declared.event.Event.TheVariants.{Entered, Heard, Pool, Ticked, SetLimit, Ended}
use Rattle.dsql_laws_calls.specs.history.declared.event.Op.TheVariants.{DbClose}
use Rattle.dsql_laws_calls.specs.history.declared.event.Control.TheVariants.{Tick, Set}
use Rattle.dsql_laws_calls.specs.history.Readers.Journals.{journal}
use Rattle.dsql_laws_calls.specs.history.Readers.Pool.{place, pool, wanted_by}
use Rattle.dsql_laws_calls.specs.history.Legal.{has_left, Lawful}
use Rattle.dsql_laws_calls.proofs.laws.Truths.{or_first, or_second}
use Rattle.dsql_laws_calls.proofs.laws.Tests.{same_itself, same_number}
use Rattle.dsql_laws_calls.proofs.laws_work.Rows.{same_or_not}
use Rattle.dsql_laws_calls.proofs.Born.{heard_open}
use Rattle.dsql_laws_calls.proofs.Cases.{control_conns}
use Rattle.dsql_laws_calls.proofs.Found.{changed_off, gone_off, place_in, shut_found}

-- An open connection stays open until it leaves.

still_placed : (f : Conn → Conn) (o : Option Conn) → is_some (place_in o) ≡ true → is_some (place_in (option_map f o)) ≡ true
still_placed f None h = absurd cc
still_placed f (Some x) h = refl

placed_or : (o p : Option Conn) → is_some (place_in o) ≡ true → is_some (place_in (option_or o p)) ≡ true
placed_or None p h = absurd cc
placed_or (Some x) p h = refl

changed_placed : (c d : ℕ) (f : Conn → Conn) (conns : List Conn) → KeepsNumber f → is_some (place_of c conns) ≡ true → is_some (place_of c (conn_changed d f conns)) ≡ true
changed_placed c d f conns keeps h = by (same_or_not c d)
  where
    by : (c ≡ d) ⊎ (c ≢ d) → is_some (place_of c (conn_changed d f conns)) ≡ true
    by (inl same) = ap (λ k. is_some (place_of c (conn_changed k f conns))) (sym same) ∙ (ap (λ o. is_some (place_in o)) (found_changed c f keeps conns) ∙ still_placed f (conn_of c conns) h)
    by (inr apart) = ap (λ o. is_some (place_in o)) (changed_off d c f conns keeps apart) ∙ h

shut_placed : (c : ℕ) (p : Pooled) → is_some (place_at p c) ≡ true → is_some (place_at (shut p) c) ≡ true
shut_placed c p h = ap (λ o. is_some (place_in o)) (shut_found c p) ∙ still_placed unwanted (conn_of c p.conns) h

gone_or_placed : (c d : ℕ) (conns : List Conn) → is_some (place_of c conns) ≡ true → (is_some (place_of c (gone d conns)) ≡ true) ⊎ ((d == c) ≡ true)
gone_or_placed c d conns h = by (same_or_not c d)
  where
    by : (c ≡ d) ⊎ (c ≢ d) → (is_some (place_of c (gone d conns)) ≡ true) ⊎ ((d == c) ≡ true)
    by (inl same) = inr (ap (λ k. k == c) (sym same) ∙ same_itself c)
    by (inr apart) = inl (ap (λ o. is_some (place_in o)) (gone_off d c conns apart) ∙ h)

leaves_now : (H : List Event) (c d : ℕ) (there : Bool) → (there ≡ true) ⊎ ((d == c) ≡ true) → (there ≡ true) ⊎ (((d == c) || has_left H c) ≡ true)
leaves_now H c d there (inl h) = inl h
leaves_now H c d there (inr h) = inr (or_first (d == c) (has_left H c) h)

stays_or_leaves : (H : List Event) (e : Event) (c : ℕ) → is_some (place H c) ≡ true → (is_some (place (e ∷ H) c) ≡ true) ⊎ (has_left (e ∷ H) c ≡ true)
stays_or_leaves H (Pool (OpenStart d k)) c h =
    inl (ap (λ o. is_some (place_in o)) (found_more c (next_number (pool H)) (wanted_by H k) (pool H).conns) ∙ placed_or (conn_of c (pool H).conns) (conn_of c (opening (next_number (pool H)) (wanted_by H k) ∷ [])) h)
stays_or_leaves H (Pool (Lend d t o k)) c h = inl (changed_placed c d (lent t o (pool H).moment) (pool H).conns (λ x. refl) h)
stays_or_leaves H (Pool (Back d)) c h = inl (changed_placed c d (back (pool H).moment) (pool H).conns (λ x. refl) h)
stays_or_leaves H (Pool (CloseStart d why)) c h = inl (changed_placed c d closing (pool H).conns (λ x. refl) h)
stays_or_leaves H (Pool (Gone d)) c h = leaves_now H c d (is_some (place_of c (gone d (pool H).conns))) (gone_or_placed c d (pool H).conns h)
stays_or_leaves H (Pool (Fell d k)) c h = leaves_now H c d (is_some (place_of c (gone d (pool H).conns))) (gone_or_placed c d (pool H).conns h)
stays_or_leaves H (Entered client n DbClose) c h = inl (shut_placed c (pool H) h)
stays_or_leaves H Ended c h = inl (shut_placed c (pool H) h)
stays_or_leaves H (Ticked now) c h = inl (ap (λ conns. is_some (place_of c conns)) (control_conns (Tick now) (pool H)) ∙ h)
stays_or_leaves H (SetLimit s k) c h = inl (ap (λ conns. is_some (place_of c conns)) (control_conns (Set s k) (pool H)) ∙ h)
stays_or_leaves H e c h = inl h

stays_left : (H : List Event) (e : Event) (c : ℕ) → has_left H c ≡ true → has_left (e ∷ H) c ≡ true
stays_left H (Pool (Gone d)) c h = or_second (d == c) (has_left H c) h
stays_left H (Pool (Fell d k)) c h = or_second (d == c) (has_left H c) h
stays_left H e c h = h

-- Holds if the connection has an empty journal, is open, or has left.
abbrev pub IsKnown : List Event → ℕ → Type 0
IsKnown H c = (journal H c ≡ []) ⊎ ((is_some (place H c) ≡ true) ⊎ (has_left H c ≡ true))

known_next : (H : List Event) (e : Event) (c : ℕ) → journal (e ∷ H) c ≡ journal H c → IsKnown H c → IsKnown (e ∷ H) c
known_next H e c same (inl silent) = inl (same ∙ silent)
known_next H e c same (inr (inl there)) = inr (stays_or_leaves H e c there)
known_next H e c same (inr (inr left)) = inr (inr (stays_left H e c left))

placed : (o : Option Place) → (o ≡ None → ⊥) → is_some o ≡ true
placed None h = absurd (h refl)
placed (Some p) h = refl

pub known : (H : List Event) (c : ℕ) → Lawful H → IsKnown H c
known [] c l = inl refl
known (Heard e ∷ H) c l = by (known H c l.0) (e.conn == c) refl
  where
    by : IsKnown H c → (b : Bool) → (e.conn == c) ≡ b → IsKnown (Heard e ∷ H) c
    by before true here = inr (inl (ap (λ d. is_some (place H d)) (sym (same_number e.conn c here)) ∙ placed (place H e.conn) (heard_open H e l.1)))
    by before false other = known_next H (Heard e) c (ap (λ (b : Bool). cond b (e ∷ journal H c) (journal H c)) other) before
known (e ∷ H) c l = known_next H e c refl (known H c l.0)
