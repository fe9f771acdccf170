-- What is kept for a connection that is lent to a call is what the entries of its tenure make.
use Rattle.std.proofs.Common.{List, [], ◌∷◌, ◌≡◌, ◌≢◌, ℕ, ◌+◌, ◌<◌, ◌≤◌, ◌⊎◌, inl, inr, true, false, ◌||◌, length, length-set, get_or, Some, None, refl, sym, ap, subst, ◌∙◌, arith}
use Rattle.dsql_laws.specs.journal.declared.entry.Entry.{Entry}
use Rattle.std.proofs.lemmas.List.{length-append}
use Rattle.dsql_laws.specs.journal.declared.entry.Owner.{Owner}
use Rattle.dsql_laws.specs.pool.declared.conn.Place.{Place}
use Rattle.dsql_laws.specs.pool.declared.conn.Place.TheVariants.{Lent}
use Rattle.dsql_laws.specs.pool.declared.moves.Move.TheVariants.{OpenStart, Lend}
use Rattle.dsql_laws.specs.pool.Places.{conn_of, is_idle, is_opening}
use Rattle.dsql_laws_work.proofs.Rows.{same_or_not, row_at, row_off, row_old}
use Rattle.dsql_laws.specs.history.declared.event.Control.TheVariants.{Tick, Set}
use Rattle.dsql_laws_calls.proofs.Found.{place_in}
use Rattle.dsql_laws_calls.proofs.Cases.{control_opened}
use Rattle.dsql_laws.specs.history.declared.event.Event.{Event}
use Rattle.dsql_laws.specs.history.declared.event.Event.TheVariants.{Entered, Heard, Pool, Ticked, SetLimit}
use Rattle.dsql_laws.specs.history.declared.event.Op.TheVariants.{DbClose}
use Rattle.dsql_laws.specs.history.Readers.Journals.{heard_in}
use Rattle.dsql_laws.specs.history.Readers.Pool.{pool, place}
use Rattle.dsql_laws.specs.history.Legal.{Allowed, Lawful}
use Rattle.dsql_laws_calls.proofs.Born.{born}
use Rattle.dsql_laws_calls.proofs.Lent.{Lends, move_facts, lent_before}
use Rattle.dsql_laws_calls.specs.There.{all_there, there}
use Rattle.dsql_laws.specs.journal.Readers.{of_tenure}
use Rattle.dsql_laws_calls.proofs.BeginningsAt.{heard_more, heard_other}
use Rattle.dsql_laws_calls.proofs.Tenures.{fresh_lending}

-- Returns what these entries make, which are listed newest first.
abbrev pub made_by : {A : Type 0} → A → (Entry → A → A) → List Entry → A
made_by z f [] = z
made_by z f (e ∷ earlier) = f e (made_by z f earlier)

-- The list has one row for each connection.

many_there : {A : Type 0} (z : A) (f : Entry → A → A) (H : List Event) → length (all_there z f H) ≡ (pool H).opened + 1
many_there z f [] = refl
many_there z f (Pool (OpenStart c n) ∷ H) = let more = length-append (all_there z f H) (z ∷ []) in let rows = many_there z f H in omega (arith, more, rows)
many_there z f (Pool (Lend c t o n) ∷ H) = length-set (all_there z f H) c z ∙ many_there z f H
many_there z f (Heard e ∷ H) = length-set (all_there z f H) e.conn (f e (get_or (all_there z f H) e.conn z)) ∙ many_there z f H
many_there z f (Entered client n DbClose ∷ H) = many_there z f H
many_there z f (Ticked now ∷ H) = let rows = many_there z f H in let same = control_opened (Tick now) (pool H) in omega (arith, rows, same)
many_there z f (SetLimit s k ∷ H) = let rows = many_there z f H in let same = control_opened (Set s k) (pool H) in omega (arith, rows, same)
many_there z f (_ ∷ H) = many_there z f H

within : (a b : ℕ) → (b < a → ⊥) → a ≤ b
within a b h = grind (arith, h)

-- An open connection has a row.
has_row : {A : Type 0} (z : A) (f : Entry → A → A) (H : List Event) (c : ℕ) (p : Place) → Lawful H → place H c ≡ Some p → c < length (all_there z f H)
has_row z f H c p l is =
    let rows = many_there z f H in
    let b = born H l in
    let at_most : c ≤ (pool H).opened = within c (pool H).opened (λ above.
    let none : conn_of c (pool H).conns ≡ None = b.none c above in
    let clash : None ≡ Some p = sym (ap place_in none) ∙ is in
    absurd cc)
    in
    omega (arith, rows, at_most)

abbrev IsKept : {A : Type 0} → A → (Entry → A → A) → List Event → ℕ → ℕ → Type 0
IsKept z f H c t = there z f H c ≡ made_by z f (heard_in H c t)

-- A connection that is lent isn't the one that this event lends.
lent_apart : (H : List Event) (d u : ℕ) (o : Owner) (k c t : ℕ) (own : Owner) → Allowed H (Pool (Lend d u o k)) → place H c ≡ Some (Lent t own) → c ≢ d
lent_apart H d u o k c t own a is = λ same.
    let facts = move_facts H (Lend d u o k) a in
    let clash : false ≡ true = ap (λ at. is_idle at || is_opening at) (sym is) ∙ ap (λ e. is_idle (place H e) || is_opening (place H e)) same ∙ facts.moves in
    absurd (wrong clash)
  where
    wrong : false ≡ true → ⊥
    wrong h = cc

kept_heard : {A : Type 0} (z : A) (f : Entry → A → A) (H : List Event) (e : Entry) (c t : ℕ) (own : Owner) → Lawful H → Allowed H (Heard e) → place H c ≡ Some (Lent t own) → IsKept z f H c t → IsKept z f (Heard e ∷ H) c t
kept_heard {A = A} z f H e c t own l a is kept = by (same_or_not e.conn c)
  where
    new : A
    new = f e (there z f H e.conn)

    by : (e.conn ≡ c) ⊎ (e.conn ≢ c) → IsKept z f (Heard e ∷ H) c t
    by (inl same) =
        let lent : place H e.conn ≡ Some (Lent t own) = ap (place H) same ∙ is in
        let row : there z f (Heard e ∷ H) e.conn ≡ new = row_at (all_there z f H) e.conn new z (has_row z f H e.conn (Lent t own) l lent) in
        let before : IsKept z f H e.conn t = subst (λ d. IsKept z f H d t) (sym same) kept in
        subst (λ d. IsKept z f (Heard e ∷ H) d t) same (row ∙ ap (λ (m : A). f e m) before ∙ sym (ap (λ (L : List Entry). made_by z f L) (heard_more H e e.conn t own a lent refl)))
    by (inr apart) = row_off (all_there z f H) e.conn new c z (λ k. apart (sym k)) ∙ kept ∙ sym (ap (λ (J : List Entry). made_by z f (of_tenure t J)) (heard_other H e c apart))

-- An event keeps this for a connection that was lent before it.
kept_on : {A : Type 0} (z : A) (f : Entry → A → A) (H : List Event) (e : Event) (c t : ℕ) (own : Owner) → Lawful H → Allowed H e → place H c ≡ Some (Lent t own) → IsKept z f H c t → IsKept z f (e ∷ H) c t
kept_on z f H (Heard e) c t own l a is kept = kept_heard z f H e c t own l a is kept
kept_on z f H (Pool (OpenStart d k)) c t own l a is kept = row_old (all_there z f H) z c z (λ new. absurd (beyond new)) ∙ kept
  where
    beyond : c ≡ length (all_there z f H) → ⊥
    beyond new = let row = has_row z f H c (Lent t own) l is in omega (arith, row, new)
kept_on z f H (Pool (Lend d u o k)) c t own l a is kept = row_off (all_there z f H) d z c z (lent_apart H d u o k c t own a is) ∙ kept
kept_on z f H _ c t own l a is kept = kept

-- A lending begins with nothing kept.
kept_first : {A : Type 0} (z : A) (f : Entry → A → A) (H : List Event) (c t : ℕ) (own : Owner) (k : ℕ) → Lawful (Pool (Lend c t own k) ∷ H) → place (Pool (Lend c t own k) ∷ H) c ≡ Some (Lent t own) → IsKept z f (Pool (Lend c t own k) ∷ H) c t
kept_first z f H c t own k l is =
    let none : heard_in H c t ≡ [] = fresh_lending H c t own k l.0 l.1 in
    let so_many : length (all_there z f (Pool (Lend c t own k) ∷ H)) ≡ length (all_there z f H) = length-set (all_there z f H) c z in
    let row = has_row z f (Pool (Lend c t own k) ∷ H) c (Lent t own) l is in
    row_at (all_there z f H) c z z (omega (arith, so_many, row)) ∙ sym (ap (λ (L : List Entry). made_by z f L) none)

pub kept_there : {A : Type 0} (z : A) (f : Entry → A → A) (H : List Event) (c t : ℕ) (own : Owner) → Lawful H → place H c ≡ Some (Lent t own) → there z f H c ≡ made_by z f (heard_in H c t)
kept_there z f [] c t own l is = absurd cc
kept_there z f (e ∷ H) c t own l is = by (lent_before H e c t own l.0 is) (kept_there z f H c t own l.0)
  where
    by : (place H c ≡ Some (Lent t own)) ⊎ Lends e c t own → (place H c ≡ Some (Lent t own) → IsKept z f H c t) → IsKept z f (e ∷ H) c t
    by (inl before) earlier = kept_on z f H e c t own l.0 l.1 before (earlier before)
    by (inr lends_it) earlier =
        subst (λ x. IsKept z f (x ∷ H) c t) (sym lends_it.1)
        (kept_first z f H c t own lends_it.0 (subst (λ x. Lawful (x ∷ H)) lends_it.1 l) (subst (λ x. place (x ∷ H) c ≡ Some (Lent t own)) lends_it.1 is))
